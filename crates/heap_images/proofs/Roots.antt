-- The roots of a heap's image: each has a number that represents what the reference model has there.
use Rattle.std.proofs.Common.{◌≡◌, ℕ, Bool, map, Option, Some, None, sym, ap, ◌∙◌}
use Rattle.std.specs.List.{slice_get}
use Rattle.std.specs.Option.{option_map, option_flatten}
use Rattle.std.proofs.lemmas.Option.{none-some}
use Rattle.refword.specs.Words.{IsWord, bits_of}
use Rattle.refword.proofs.Reading.{reads_back}
use Rattle.model.specs.States.{HeapState, flat}
use Rattle.model.specs.Registers.{register_of}
use Rattle.model.specs.Threads.{register_in}
use Rattle.model.specs.Plain.{PlainHeap}
use Rattle.laws.specs.AddressHeap.{names}
use Rattle.laws.specs.BirthHeap.{IsRoot, IsRootIn}
use Rattle.laws.proofs.Barriers.{opened_of}
use Rattle.refinement.specs.Worlds.{world_of, word_in_memory, as_word, as_read, as_barrier, barrier_in, global_in}
use Rattle.refinement.specs.PlainHeaps.{births_of}
use Rattle.refinement.specs.Standing.{Holds}
use Rattle.refinement.proofs.Rooted.{load_there}
use Rattle.verify.specs.declared.verdict.Root.{Root}
use Rattle.verify.specs.declared.verdict.Root.TheVariants as roots
use Rattle.verify.specs.Soundness.{root_value}
use Rattle.verify.specs.Pictures.{image_of, registers_of, load_of}
use Rattle.heap_images.proofs.Lists.{found_first, mapped_first, mapped_from}

-- a number represents a birth, or none; and the birth, if it is one, is in a root of the reference model
pub record IsRootNumber (h : HeapState) (p : PlainHeap) (v : ℕ) : Type 0 where
  pub named : Option ℕ
  pub names : names (world_of h) (word_in_memory v) ≡ Some named
  pub root : (n : ℕ) → named ≡ Some n → IsRoot (births_of p) n

-- the bits of a reference are read as that reference
read_back : (w : Option (ℕ × Bool)) (v : ℕ) → IsWord w → bits_of w ≡ v → word_in_memory v ≡ as_word w
read_back w v k e = ap word_in_memory (sym e) ∙ ap as_read (reads_back w k)

-- a nested option whose flattening has a value
flattened : (o : Option (Option ℕ)) (v : ℕ) → option_flatten o ≡ Some v → o ≡ Some (Some v)
flattened None v e = absurd (none-some v e)
flattened (Some o) v e = ap Some e

module _ {h : HeapState} {p p0 : PlainHeap} (k : Holds h p p0) where
  -- a register
  of_register : (t r v : ℕ) → root_value (image_of h) (roots.Register t r) ≡ Some v → IsRootNumber h p v
  unfolding image_of register_of
  of_register t r v e =
      let (rs, at, there) = found_first _ (slice_get (map registers_of h.threads) t) v e in
      let (x, thread, listed) = mapped_from registers_of h.threads t rs at in
      let (w, register, bits) = mapped_from bits_of x.registers r v (ap (λ ws. slice_get ws r) listed ∙ there) in
      let word : IsWord w = (k.words.threads t x thread).registers_hold r w register in
      let same : word_in_memory v ≡ (world_of h).register t r =
      read_back w v word bits
      ∙ sym (ap (λ o. as_word (register_in o r)) thread ∙ ap (λ o. as_word (flat o)) register) in
      record {
        named = (births_of p).register t r;
        names = ap (names (world_of h)) same ∙ (k.invariant.words.registers t r).names;
        root = λ n e. IsRootIn.InRegister t r e;
      }

  -- the current reference of an unfinished load
  of_load : (t v : ℕ) → root_value (image_of h) (roots.Pending t) ≡ Some v → IsRootNumber h p v
  unfolding image_of
  of_load t v e =
      let at = flattened (slice_get (map load_of h.threads) t) v e in
      let (x, thread, loaded) = mapped_from load_of h.threads t (Some v) at in
      let (b, barrier, bits) = mapped_first (λ b. bits_of b.now) x.barrier v loaded in
      let load = load_there h t x b k.words thread barrier in
      let open_load = opened_of (world_of h) (births_of p) (births_of p0) k.invariant t (as_barrier b)
      (ap barrier_in thread ∙ ap (option_map as_barrier) barrier) in
      record {
        named = open_load.pending.1;
        names = ap (names (world_of h)) (read_back b.now v load.now bits) ∙ open_load.barrier.now.names;
        root = λ n e. IsRootIn.InPending t open_load.pending.0
            (open_load.is ∙ ap (λ m. Some (open_load.pending.0, m)) e);
      }

  -- a global
  of_global : (g v : ℕ) → root_value (image_of h) (roots.Global g) ≡ Some v → IsRootNumber h p v
  unfolding image_of
  of_global g v e =
      let (x, there, bits) = mapped_from (λ g. bits_of g.word) h.globals g v e in
      let same : word_in_memory v ≡ (world_of h).global g =
      read_back x.word v (k.words.globals g x there) bits ∙ sym (ap global_in there) in
      record {
        named = (births_of p).global g;
        names = ap (names (world_of h)) same ∙ (k.invariant.words.globals g).names;
        root = λ n e. IsRootIn.InGlobal g e;
      }

  -- each root
  pub of_root : (r : Root) (v : ℕ) → root_value (image_of h) r ≡ Some v → IsRootNumber h p v
  of_root (roots.Register t r) v e = of_register t r v e
  of_root (roots.Pending t) v e = of_load t v e
  of_root (roots.Global g) v e = of_global g v e

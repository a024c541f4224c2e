-- The references in registers, barriers, globals and memory: a reference that is written is read back.
use Rattle.std.proofs.Common.{◌≡◌, ℕ, Bool, List, Option, Some, None, refl, ap, subst}
use Rattle.std.specs.List.{slice_get}
use Rattle.std.specs.Option.{IfSome}
use Rattle.std.proofs.lemmas.Option.{same_Some}
use Rattle.refword.specs.Words.{IsWord, read_word, bits_of}
use Rattle.refword.proofs.Reading.{reads_back, read_word-is_word}
use Rattle.model.specs.declared.records.Barrier.{Barrier}
use Rattle.model.specs.declared.records.Counter.{Counter}
use Rattle.model.specs.declared.records.Buffer.{Buffer}
use Rattle.model.specs.declared.records.Global.{Global}
use Rattle.model.specs.Owning.{Each}
use Rattle.model.specs.States.{HeapState, ThreadState, Reference, flat}
use Rattle.model.specs.Registers.{register_of}
use Rattle.model.specs.Threads.{register_in, set_register_of, set_buffer_of, set_barrier_of, set_loaded_of}
use Rattle.model.specs.Threads.{set_parked_of}
use Rattle.model.specs.References.{global_of, word_of_global, read_reference}
use Rattle.model.specs.Births.{hand_object}
use Rattle.model.proofs.Lists.{each_set}
use Rattle.refinement.specs.Roots.{IsLoad, HoldsWords, HasWords}

word_there : (ws : List Reference) (r : ℕ) → Each ws IsWord → IsWord (flat (slice_get ws r))
word_there ws r k = go (slice_get ws r) refl
  where
    go : (o : Option Reference) → slice_get ws r ≡ o → IsWord (flat o)
    go None e = tt
    go (Some w) e = k r w e

-- the reference in a register
pub register_word : (h : HeapState) (t r : ℕ) → HasWords h → IsWord (register_of h t r)
unfolding register_of
register_word h t r k = go (slice_get h.threads t) refl
  where
    go : (o : Option ThreadState) → slice_get h.threads t ≡ o → IsWord (register_in o r)
    go None e = tt
    go (Some x) e = word_there x.registers r (k.threads t x e).registers_hold

-- the reference in a global
pub global_word : (h : HeapState) (g : ℕ) → HasWords h → IsWord (global_of h g)
unfolding global_of
global_word h g k = go (slice_get h.globals g) refl
  where
    go : (o : Option Global) → slice_get h.globals g ≡ o → IsWord (word_of_global o)
    go None e = tt
    go (Some x) e = k.globals g x e

-- the load of a thread
pub load_there : (h : HeapState) (t : ℕ) (x : ThreadState) (b : Barrier) → HasWords h → slice_get h.threads t ≡ Some x
    → x.barrier ≡ Some b → IsLoad h.config.registers b
load_there h t x b k at e = go x.barrier e (k.threads t x at).barrier
  where
    go : (o : Option Barrier) → o ≡ Some b → IfSome o (IsLoad h.config.registers) → IsLoad h.config.registers b
    go None f l = absurd (cc)
    go (Some c) f l = subst (IsLoad h.config.registers) (same_Some _ _ f) l

-- a reference read from memory
pub stored_word : (bits : ℕ) → IsWord (read_reference bits)
stored_word bits = go (read_word bits) refl
  where
    go : (o : Option Reference) → read_word bits ≡ o → IsWord (flat o)
    go None e = tt
    go (Some w) e = read_word-is_word bits w e

-- a reference that is written is read back
pub stored_again : (w : Reference) → IsWord w → read_reference (bits_of w) ≡ w
stored_again w k = ap flat (reads_back w k)

-- what changes of a thread keep

pub register_holds_words : (n r : ℕ) (w : Reference) (y : ThreadState) → IsWord w → HoldsWords n y
    → HoldsWords n (set_register_of r w y)
register_holds_words n r w y k l =
    record { registers_hold = each_set IsWord y.registers r w l.registers_hold k; barrier = l.barrier }

pub buffer_holds_words : (n : ℕ) (b : Option Buffer) (y : ThreadState) → HoldsWords n y
    → HoldsWords n (set_buffer_of b y)
buffer_holds_words n b y l = record { registers_hold = l.registers_hold; barrier = l.barrier }

pub handed_holds_words : (n r : ℕ) (w : Reference) (b : Buffer) (y : ThreadState) → IsWord w → HoldsWords n y
    → HoldsWords n (hand_object r w b y)
handed_holds_words n r w b y k l =
    record { registers_hold = each_set IsWord y.registers r w l.registers_hold k; barrier = l.barrier }

pub barrier_holds_words : (n : ℕ) (b : Barrier) (c : Counter) (y : ThreadState) → IsLoad n b → HoldsWords n y
    → HoldsWords n (set_barrier_of b c y)
barrier_holds_words n b c y k l = record { registers_hold = l.registers_hold; barrier = k }

pub loaded_holds_words : (n r : ℕ) (w : Reference) (y : ThreadState) → IsWord w → HoldsWords n y
    → HoldsWords n (set_loaded_of r w y)
loaded_holds_words n r w y k l =
    record { registers_hold = each_set IsWord y.registers r w l.registers_hold k; barrier = tt }

pub parked_holds_words : (n : ℕ) (b : Bool) (y : ThreadState) → HoldsWords n y → HoldsWords n (set_parked_of b y)
parked_holds_words n b y l = record { registers_hold = l.registers_hold; barrier = l.barrier }

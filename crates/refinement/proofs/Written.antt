-- A word of an object that is written in memory: the object reads as another of its size, and all others stay.
use Rattle.std.proofs.Common.{◌≡◌, ◌≢◌, ◌⊎◌, inl, inr, ℕ, ◌+◌, ◌/◌, ◌%◌, ◌<◌, ◌≤◌, true, List, length, set, Some}
use Rattle.std.proofs.Common.{refl, sym, ◌∙◌, ap, ap₂, subst, arith}
use Rattle.std.proofs.Math.ListN.{length-set}
use Rattle.std.specs.List.{slice_get}
use Rattle.std.specs.Option.{option_map, option_and_then}
use Rattle.std.proofs.lemmas.Bool.{cases_eq}
use Rattle.std.proofs.lemmas.Option.{same_Some}
use mathlib.Core.Path.{fun_ext}
use Rattle.refword.specs.Words.{IsWord, bits_of}
use Rattle.model.specs.Stores.{words_at, word_at, with_words, with_word, state_at, page_at, has_memory}
use Rattle.model.specs.Owning.{IsStore}
use Rattle.model.specs.States.{HeapState, Reference}
use Rattle.model.specs.Registers.{register_of}
use Rattle.refword.proofs.Reading.{reads_back}
use Rattle.model.proofs.Lists.{get_set_other}
use Rattle.model.proofs.Memory.{words_sized, words_memory, word_on_page, frames_stay}
use Rattle.laws.specs.AddressHeap.{HeapObject, Planned, put}
use Rattle.laws.specs.Edits.{set_object}
use Rattle.laws.specs.Effects.{with_datum, with_field}
use Rattle.laws.proofs.Basics.{put_all, put_after, put_same, put_other}
use Rattle.model.specs.Bits.{bit_at}
use Rattle.refinement.specs.Worlds.{world_of, object_at, word_in_memory, as_word, as_read}
use Rattle.refinement.specs.Claims.{IsLaid, Claim, OfObject, OfBuffer, OfPlan, OfEnd, extent, object_size, size_at}
use Rattle.refinement.specs.Claims.{sized_extent, planned_extent}
use Rattle.refinement.proofs.Slices.{Agree}
use Rattle.refinement.proofs.ObjectWords.{IsRead, read_refs, read_data, read_fits, read_datum, read_field}
use Rattle.refinement.proofs.Objects.{Rewrites, IsThere, there, rewritten}
use Rattle.refinement.proofs.Claims.{within_page, objects_apart, extents_same}
use Rattle.refinement.proofs.Carrying.{Carries, becomes, alike}

-- word k of the object q becomes v, and then it reads as p
pub record IsWrite (h : HeapState) (a : ℕ) (q : HeapObject) (k v : ℕ) (p : HeapObject) : Type 0 where
  pub within : k < object_size q
  pub size : object_size p ≡ object_size q
  pub reads : (ws : List ℕ) → IsRead h.config.layouts ws (a % h.store.words) q
      → IsRead h.config.layouts (set ws (a % h.store.words + k) v) (a % h.store.words) p

module _ (h : HeapState) (s : IsStore h.store) (l : IsLaid h) (a : ℕ) (q : HeapObject) (e : object_at h a ≡ Some q)
    (k v : ℕ) where
  abbrev t : IsThere h a q
  t = there h a q e

  -- the place of the word
  abbrev place : ℕ
  place = a + k

  size : length t.words ≡ h.store.words
  size = words_sized h.store (a / h.store.words) t.words s t.page

  inside : k < object_size q → a % h.store.words + k < h.store.words
  inside m = omega (arith, m, size, read_fits h.config.layouts t.words (a % h.store.words) q t.read)

  place_page : k < object_size q → place / h.store.words ≡ a / h.store.words
  place_page m = (within_page h.store.words a k (inside m)).0

  place_offset : k < object_size q → place % h.store.words ≡ a % h.store.words + k
  place_offset m = (within_page h.store.words a k (inside m)).1

  -- the word at the place
  pub word_there : k < object_size q → word_at h.store place ≡ slice_get t.words (a % h.store.words + k)
  word_there m = word_on_page h.store place ∙ ap₂ (λ o n. option_and_then (λ ws. slice_get ws n) o)
      (ap (words_at h.store) (place_page m) ∙ t.page) (place_offset m)

  -- the heap with the word written
  abbrev after : HeapState
  after = record h { store = with_word h.store place v }

  module _ (p : HeapObject) (w : IsWrite h a q k v p) where
    abbrev change : List ℕ → List ℕ
    change ws = set ws (place % h.store.words) v

    read : IsRead h.config.layouts (change t.words) (a % h.store.words) p
    read = subst (λ i. IsRead h.config.layouts (set t.words i v) (a % h.store.words) p) (sym (place_offset w.within))
        (w.reads t.words t.read)

    apart : (x : ℕ) (o : HeapObject) → x ≢ a → x / h.store.words ≡ place / h.store.words → object_at h x ≡ Some o
        → Agree (change t.words) t.words (x % h.store.words) (x % h.store.words + object_size o)
    apart x o d g f = go (objects_apart h x a o q l.apart f e d (g ∙ place_page w.within))
      where
        go : (x % h.store.words + object_size o ≤ a % h.store.words)
            ⊎ (a % h.store.words + object_size q ≤ x % h.store.words)
            → Agree (change t.words) t.words (x % h.store.words) (x % h.store.words + object_size o)
        go (inl b) i low high = get_set_other t.words (place % h.store.words) i v
            (λ z. absurd (omega (arith, z, b, high, place_offset w.within)))
        go (inr b) i low high = get_set_other t.words (place % h.store.words) i v
            (λ z. absurd (omega (arith, z, b, low, w.within, place_offset w.within)))

    rewrites : Rewrites h h.starts (place / h.store.words) a change p
    rewrites = record {
      words = t.words;
      before = ap (words_at h.store) (place_page w.within) ∙ t.page;
      sized = length-set t.words (place % h.store.words) v;
      on_page = sym (place_page w.within);
      bit = t.bit;
      read = read;
      bits = λ x d. refl;
      known = λ x g b. l.objects x b (ap (λ n. has_memory (state_at h.store n)) (g ∙ place_page w.within)
          ∙ words_memory h.store (a / h.store.words) t.words s t.page);
      apart = apart;
    }

    objects_after : (x : ℕ) → object_at after x ≡ put (object_at h) a (Some p) x
    unfolding with_word with_words
    objects_after x = rewritten h h.starts (place / h.store.words) a change p s rewrites x

    written_world : world_of after ≡ set_object a p (world_of h)
    unfolding with_word with_words state_at page_at register_of
    written_world = λ z. record (world_of h) { object_at = fun_ext objects_after z }

    sizes : (x : ℕ) → size_at after x ≡ size_at h x
    sizes x = ap (option_map object_size) (objects_after x)
        ∙ put_all (λ y o. option_map object_size o ≡ size_at h y) (object_at h) a (Some p) here (λ y d. refl) x
      where
        here : Some (object_size p) ≡ size_at h a
        here = ap Some w.size ∙ ap (option_map object_size) (sym e)

    extents : (c : Claim) → extent after c ≡ extent h c
    unfolding with_word with_words page_at
    extents (OfObject x) = ap (option_map (sized_extent x)) (sizes x)
    extents (OfBuffer t) = refl
    extents (OfPlan x) = ap (planned_extent ((world_of h).side_entry x)) (sizes x)
    extents (OfEnd n) = refl

    stays : (x : ℕ) (o : HeapObject) → object_at h x ≡ Some o → (o : HeapObject) × (object_at after x ≡ Some o)
    stays x o is = go (cases_eq x a)
      where
        go : (x ≡ a) ⊎ (x ≢ a) → (o : HeapObject) × (object_at after x ≡ Some o)
        go (inl f) = (p, objects_after x ∙ ap (put (object_at h) a (Some p)) f ∙ put_same (object_at h) a (Some p))
        go (inr f) = (o, objects_after x ∙ put_other (object_at h) a (Some p) x f ∙ is)

    live : (x : ℕ) → bit_at h.live h.store.words x ≡ true → has_memory (state_at h.store (x / h.store.words)) ≡ true
        → (o : HeapObject) × (object_at after x ≡ Some o)
    live x b f = let (o, is) = l.live_objects x b f in stays x o is

    objects : (x : ℕ) → bit_at h.starts h.store.words x ≡ true
        → has_memory (state_at h.store (x / h.store.words)) ≡ true → (o : HeapObject) × (object_at after x ≡ Some o)
    objects x b f = let (o, is) = l.objects x b f in stays x o is

    planned : (x n : ℕ) (o : HeapObject) → (world_of h).side_entry x ≡ Planned n
        → put (object_at h) a (Some p) x ≡ Some o → n % h.store.words + object_size o ≤ h.store.words
    planned x n o g f = go (put_after (object_at h) a (Some p) x (Some o) f)
      where
        go : ((x ≡ a) × (Some p ≡ Some o)) ⊎ ((x ≢ a) × (object_at h x ≡ Some o))
            → n % h.store.words + object_size o ≤ h.store.words
        go (inl (f, z)) =
            let size : object_size p ≡ object_size o = ap object_size (same_Some _ _ z) in
            omega (arith, size, w.size, l.planned x n q g (ap (object_at h) f ∙ e))
        go (inr (f, z)) = l.planned x n o g z

    written_laid : IsLaid after
    unfolding with_word with_words state_at page_at
    written_laid = record {
      starts = l.starts;
      live = l.live;
      mark = l.mark;
      todo = l.todo;
      sides = record { pages = l.sides.pages; rising = l.sides.rising };
      registers = l.registers;
      objects = objects;
      apart = extents_same (extent h) (extent after) l.apart extents;
      planned = λ x n o g f. planned x n o g (sym (objects_after x) ∙ f);
      live_objects = λ x b f. live x b f;
      unused = l.unused;
    }

    written_carries : Carries h after (set_object a p)
    unfolding with_word with_words
    written_carries = record {
      size = alike h after refl refl (frames_stay h.store _ _) refl refl refl refl;
      laid = λ z. written_laid;
      given = λ z. z;
      words = λ z. record { threads = z.threads; globals = z.globals };
      world = written_world;
    }

-- a datum is written
datum_write : (h : HeapState) (a : ℕ) (q : HeapObject) (e : object_at h a ≡ Some q) (j v : ℕ)
    → j < length q.data_words → IsWrite h a q (1 + length q.refs + j) v (with_datum q j v)
datum_write h a q e j v m = record {
  within = omega (arith, m);
  size = omega (arith, length-set q.data_words j v);
  reads = λ ws r. subst (λ i. IsRead h.config.layouts (set ws i v) (a % h.store.words) (with_datum q j v))
      (omega (arith, read_refs h.config.layouts ws (a % h.store.words) q r))
      (read_datum h.config.layouts ws (a % h.store.words) q r j v
      (omega (arith, m, read_data h.config.layouts ws (a % h.store.words) q r)));
}

-- a reference is written
field_write : (h : HeapState) (a : ℕ) (q : HeapObject) (e : object_at h a ≡ Some q) (i v : ℕ) → i < length q.refs
    → IsWrite h a q (1 + i) v (with_field q i (word_in_memory v))
field_write h a q e i v m = record {
  within = omega (arith, m);
  size = omega (arith, length-set q.refs i (word_in_memory v));
  reads = λ ws r. subst
      (λ n. IsRead h.config.layouts (set ws n v) (a % h.store.words) (with_field q i (word_in_memory v))) (omega arith)
      (read_field h.config.layouts ws (a % h.store.words) q r i v
      (omega (arith, m, read_refs h.config.layouts ws (a % h.store.words) q r)));
}

module _ (h : HeapState) (s : IsStore h.store) (l : IsLaid h) (a : ℕ) (q : HeapObject)
    (e : object_at h a ≡ Some q) where
  -- a datum gets a number
  pub datum_carries : (j n v : ℕ) → j < length q.data_words → a + (1 + length q.refs + j) ≡ n
      → Carries h (record h { store = with_word h.store n v }) (set_object a (with_datum q j v))
  datum_carries j n v low spot =
      subst (λ m. Carries h (record h { store = with_word h.store m v }) (set_object a (with_datum q j v))) spot
      (written_carries h s l a q e (1 + length q.refs + j) v (with_datum q j v) (datum_write h a q e j v low))

  -- a reference of an object is written
  pub field_carries : (i n : ℕ) (w : Reference) → IsWord w → i < length q.refs → a + (1 + i) ≡ n
      → Carries h (record h { store = with_word h.store n (bits_of w) }) (set_object a (with_field q i (as_word w)))
  field_carries i n w word low spot =
      let v : ℕ = bits_of w in
      let read : word_in_memory v ≡ as_word w = ap as_read (reads_back w word) in
      becomes (subst (λ m. Carries h (record h { store = with_word h.store m v })
      (set_object a (with_field q i (word_in_memory v)))) spot (written_carries h s l a q e (1 + i) v
      (with_field q i (word_in_memory v)) (field_write h a q e i v low)))
      (set_object a (with_field q i (as_word w))) (ap (λ z. set_object a (with_field q i z) (world_of h)) read)

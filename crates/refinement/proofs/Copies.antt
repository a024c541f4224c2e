-- The object of a reference is copied if it isn't copied yet, as a mark does that meets it.
use Rattle.std.proofs.Common.{◌≡◌, ℕ, ◌/◌, ◌%◌, Bool, true, false, cond, Option, Some, None, refl, sym, ◌∙◌, ap}
use Rattle.std.proofs.Common.{List, [], ◌==◌, if◌then◌else◌}
use Rattle.std.specs.List.{slice_get}
use Rattle.refword.specs.Words.{IsWord}
use Rattle.model.specs.declared.records.Forwarding.{Forwarding}
use Rattle.model.specs.Phases.{is_marking}
use Rattle.model.specs.Stores.{StoreState, page_at, frame_in, with_words, changed_frame, changed_in, overlay, words_at}
use Rattle.model.specs.Owning.{IsStore}
use Rattle.model.specs.States.{HeapState, Reference}
use Rattle.model.specs.Bits.{of_page}
use Rattle.model.specs.Marks.{entry_at, with_mark, marked_word}
use Rattle.model.specs.Plans.{object_words}
use Rattle.model.specs.Moves.{words_from, with_copied_words, with_copy, copied_by, copied_first, copied_for}
use Rattle.model.proofs.Memory.{frames_stay, length_overlaid}
use Rattle.page.proofs.Keeping.{frame_keeps}
use Rattle.laws.specs.AddressHeap.{AddressHeap, HeapObject, To, Planned, Copied, names}
use Rattle.laws.specs.BirthHeap.{BirthHeap}
use Rattle.laws.specs.Invariant.{Invariant, SoundObjects}
use Rattle.laws.specs.Edits.{copy_object, copy_word, mark_word}
use Rattle.laws.specs.Edits as edits
use Rattle.laws.proofs.CopyWord.{IsSettled, copy_stays, copy_moves, copied_names}
use Rattle.refinement.specs.Worlds.{world_of, as_word, object_at}
use Rattle.refinement.specs.Worlds as worlds
use Rattle.refinement.specs.Claims.{IsLaid}
use Rattle.refinement.proofs.Carrying.{Carries, alike, and_then, becomes, same_carries}
use Rattle.refinement.proofs.Marks.{as_entry, entry_same, leads_to, marked_same, marked_is_word, mark_carries}
use Rattle.refinement.proofs.Copying.{copy_world, copy_laid}

-- an entry of the heap is one of the laws
pub planned_entry : (o : Option Forwarding) (m : ℕ) → as_entry o ≡ Planned m
    → (f : Forwarding) × (o ≡ Some f) × (f.copied ≡ false) × (f.to ≡ m)
planned_entry None m e = absurd (cc)
planned_entry (Some f) m e = by_copied f.copied refl e
  where
    by_copied : (b : Bool) → f.copied ≡ b → worlds.entry_of b f.to ≡ Planned m
        → (g : Forwarding) × (Some f ≡ Some g) × (g.copied ≡ false) × (g.to ≡ m)
    by_copied false k z = (f, refl, k, cc)
    by_copied true k z = absurd (cc)

pub copied_entry : (o : Option Forwarding) (m : ℕ) → as_entry o ≡ Copied m
    → (f : Forwarding) × (o ≡ Some f) × (f.copied ≡ true) × (f.to ≡ m)
copied_entry None m e = absurd (cc)
copied_entry (Some f) m e = by_copied f.copied refl e
  where
    by_copied : (b : Bool) → f.copied ≡ b → worlds.entry_of b f.to ≡ Copied m
        → (g : Forwarding) × (Some f ≡ Some g) × (g.copied ≡ true) × (g.to ≡ m)
    by_copied true k z = (f, refl, k, cc)
    by_copied false k z = absurd (cc)

-- an entry of the heap is that of the address-level model
pub same_entry : (h : HeapState) (a : ℕ) → (world_of h).side_entry a ≡ as_entry (entry_at h a)
unfolding entry_at
same_entry h a = entry_same (of_page h.sides (a / h.store.words)) (a % h.store.words)

-- other words of the same number in a page keep the store's invariant
words_keep : (s : StoreState) (n o : ℕ) (xs : List ℕ) → IsStore s → IsStore (with_words s n (λ ws. overlay ws o xs))
unfolding with_words
words_keep s n o xs h = by_frame (frame_in (page_at s n))
  where
    by_words : (f : ℕ) (x : Option (List ℕ)) → slice_get s.frames f ≡ x
        → IsStore (record s { frames = changed_frame s.frames f x (λ ws. overlay ws o xs) })
    by_words f None e = h
    by_words f (Some ws) e =
        frame_keeps s f ws (overlay ws o xs) h e (length_overlaid ws o xs)

    by_frame : (x : Option ℕ) → IsStore (record s { frames = changed_in s.frames x (λ ws. overlay ws o xs) })
    by_frame None = h
    by_frame (Some f) = by_words f (slice_get s.frames f) refl

-- the store's invariant holds after an object is copied
copy_store : (h : HeapState) (a n : ℕ) → IsStore h.store → IsStore (with_copy h a n).store
unfolding with_copy with_copied_words
copy_store h a n s = words_keep h.store (n / h.store.words) (n % h.store.words)
    (if a / h.store.words == n / h.store.words then []
    else words_from (a % h.store.words) (object_words h a) (words_at h.store (a / h.store.words))) s

-- the object of a reference is copied in g, if that is due
pub record IsCopied (h : HeapState) (v : Reference) (g : HeapState) : Type 0 where
  pub carries : Carries h g (copy_word (as_word v))
  pub store : IsStore g.store
  pub threads : g.threads ≡ h.threads
  pub workers : g.workers ≡ h.workers
  pub globals : g.globals ≡ h.globals

module _ {h : HeapState} (s : IsStore h.store) (l : IsLaid h) (o : SoundObjects (world_of h)) where
  -- an object is copied
  pub copy_carries : (a n : ℕ) (q : HeapObject) → (world_of h).side_entry a ≡ Planned n → object_at h a ≡ Some q
      → Carries h (with_copy h a n) (copy_object a n q)
  unfolding with_copy with_copied_words with_words
  copy_carries a n q plan here = record {
    size = alike h (with_copy h a n) refl refl (frames_stay h.store _ _) refl refl refl refl;
    laid = λ z. copy_laid h s l o a n q here plan;
    given = λ z. z;
    words = λ z. record { threads = z.threads; globals = z.globals };
    world = copy_world h s l o a n q here plan;
  }

  -- nothing is copied
  unchanged : (v : Reference) → IsSettled (world_of h) (as_word v) → IsCopied h v h
  unchanged v settled = record {
    carries = becomes (same_carries h) (copy_word (as_word v)) (sym (copy_stays (world_of h) (as_word v) settled));
    store = s;
    threads = refl;
    workers = refl;
    globals = refl;
  }

  -- the object of a reference is copied
  changed : (a n : ℕ) (bit : Bool) → (world_of h).side_entry a ≡ Planned n
      → IsCopied h (Some (a, bit)) (with_copy h a n)
  unfolding with_copy
  changed a n bit plan =
      let (q, here) = o.planned_object a n plan in
      record {
        carries = becomes (copy_carries a n q plan here) (copy_word (To a bit))
            (sym (copy_moves (world_of h) a n bit q plan here));
        store = copy_store h a n s;
        threads = refl;
        workers = refl;
        globals = refl;
      }

  pub copied_carries : (v : Reference) → IsCopied h v (copied_for h v)
  unfolding copied_for copied_first
  copied_carries None = unchanged None tt
  copied_carries (Some (a, bit)) = by_entry (entry_at h a) refl
    where
      by_entry : (f : Option Forwarding) → entry_at h a ≡ f → IsCopied h (Some (a, bit)) (copied_by h a f)
      by_entry None e = unchanged (Some (a, bit)) (λ n k. (let z = same_entry h a ∙ ap as_entry e in cc))
      by_entry (Some f) e = by_copied f.copied (same_entry h a ∙ ap as_entry e)
        where
          by_copied : (c : Bool) → (world_of h).side_entry a ≡ worlds.entry_of c f.to
              → IsCopied h (Some (a, bit)) (cond c h (with_copy h a f.to))
          by_copied true k = unchanged (Some (a, bit)) (λ n j. (let z = k in cc))
          by_copied false k = changed a f.to bit k

-- a reference is marked, its object copied first if it isn't copied yet
pub record MarksFirst (h : HeapState) (v : Reference) : Type 0 where
  pub copied : IsCopied h v (copied_for h v)
  pub carries : Carries h (with_mark (copied_for h v) v) (mark_word (as_word v))
  pub word : IsWord (marked_word (copied_for h v) v)
  pub same : as_word (marked_word (copied_for h v) v) ≡ edits.marked_word (world_of h) (as_word v)

pub marks_first : {h : HeapState} {b b0 : BirthHeap} → IsStore h.store → IsLaid h → Invariant (world_of h) b b0
    → is_marking h.phase ≡ true → (v : Reference) (x : Option ℕ) → names (world_of h) (as_word v) ≡ Some x
    → MarksFirst h v
marks_first {h} {b} {b0} s l i m v x named =
    let g = copied_for h v in
    let c = copied_carries s l i.objects v in
    let leads = leads_to g v x (ap (λ (w : AddressHeap). names w (as_word v)) c.carries.world
    ∙ copied_names (world_of h) b b0 i m (as_word v) (as_word v) x named) in
    record {
      copied = c;
      carries = and_then c.carries (mark_carries g c.store (c.carries.laid l) v leads);
      word = marked_is_word g v c.store leads;
      same = marked_same g v ∙ ap (λ (w : AddressHeap). edits.clean_word w (as_word v)) c.carries.world;
    }

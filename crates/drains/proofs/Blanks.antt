-- A reference whose bits are 0 is as its mark leaves it.
use Rattle.std.proofs.Common.{◌≡◌, ℕ, zero, suc, ◌+◌, ◌/◌, ◌%◌, List, [], ◌∷◌, Option, Some, None, refl, sym, ◌∙◌, ap}
use Rattle.std.proofs.Common.{set}
use Rattle.std.specs.List.{slice_get}
use Rattle.std.specs.Option.{option_and_then}
use Rattle.model.specs.Marks.{with_mark, marked_word}
use Rattle.model.specs.References.{field_address}
use Rattle.model.specs.Scans.{with_marked_place, reference_in}
use Rattle.model.specs.States.{HeapState}
use Rattle.model.specs.Stores.{StoreState, page_at, frame_in, at_offset, spot_of, word_in, word_at, with_word}
use Rattle.model.specs.Stores.{with_words, changed_in, changed_frame}
use Rattle.page.proofs.Copied.{same_set}
use Rattle.drains.specs.Drains.{marked_field}
use Rattle.drains.specs.Waiting.{all_noted}
use Rattle.drains.proofs.Scanned.{field_behind}

-- a word is left, where to write it leaves the words of its frame as they are
word_left : (s : StoreState) (a v : ℕ) (o : Option ℕ) → word_at s a ≡ o
    → ((ws : List ℕ) → slice_get ws (a % s.words) ≡ o → set ws (a % s.words) v ≡ ws)
    → with_word s a v ≡ s
unfolding word_at spot_of with_word with_words
word_left s a v o e same = by_frame (frame_in (page_at s (a / s.words))) e
  where
    f : List ℕ → List ℕ
    f ws = set ws (a % s.words) v

    by_words : (x : ℕ) (found : Option (List ℕ)) → slice_get s.frames x ≡ found
        → option_and_then (λ (ws : List ℕ). slice_get ws (a % s.words)) found ≡ o
        → changed_frame s.frames x found f ≡ s.frames
    by_words x None z k = refl
    by_words x (Some ws) z k = ap (set s.frames x) (same ws k) ∙ same_set s.frames x ws z

    by_frame : (frame : Option ℕ) → word_in s.frames (at_offset frame (a % s.words)) ≡ o
        → (record s { frames = changed_in s.frames frame f }) ≡ s
    by_frame None k = refl
    by_frame (Some x) k =
        ap (λ (fs : List (List ℕ)). record s { frames = fs }) (by_words x (slice_get s.frames x) refl k)

-- where there is no memory, none is written
past_end : (ws : List ℕ) (o v : ℕ) → slice_get ws o ≡ None → set ws o v ≡ ws
past_end [] o v e = refl
past_end (w ∷ ws) zero v e = absurd (cc)
past_end (w ∷ ws) (suc o) v e = ap (λ us. w ∷ us) (past_end ws o v e)

-- a field that reads as null is left, where its word is
field_left : (h : HeapState) (xs : List ℕ) (a i n : ℕ) (o : Option ℕ) → n ≡ i → word_at h.store (a + (1 + n)) ≡ o
    → reference_in o ≡ None
    → ((ws : List ℕ) → slice_get ws ((a + (1 + n)) % h.store.words) ≡ o
    → set ws ((a + (1 + n)) % h.store.words) 0 ≡ ws)
    → all_noted h xs ≡ marked_field (all_noted h xs) (field_address a i)
unfolding marked_field with_marked_place with_mark marked_word all_noted
field_left h xs a i n o at e null same =
    ap (λ (s : StoreState). record (all_noted h xs) { store = s }) (sym (word_left h.store (a + (1 + n)) 0 o e same))
    ∙ ap (with_marked_place (all_noted h xs) (a + (1 + n))) (sym (ap reference_in e ∙ null))
    ∙ ap (λ m. marked_field (all_noted h xs) (a + (1 + m))) at
    ∙ ap (marked_field (all_noted h xs)) (field_behind a i)

-- a field in no memory is left
pub field_of_nothing : (h : HeapState) (xs : List ℕ) (a i n : ℕ) → n ≡ i → word_at h.store (a + (1 + n)) ≡ None
    → all_noted h xs ≡ marked_field (all_noted h xs) (field_address a i)
field_of_nothing h xs a i n at e = field_left h xs a i n None at e refl
    (λ ws. past_end ws ((a + (1 + n)) % h.store.words) 0)

-- and so is one that is null, and written so
pub field_of_blank : (h : HeapState) (xs : List ℕ) (a i n : ℕ) → n ≡ i → word_at h.store (a + (1 + n)) ≡ Some 0
    → all_noted h xs ≡ marked_field (all_noted h xs) (field_address a i)
field_of_blank h xs a i n at e = field_left h xs a i n (Some 0) at e refl
    (λ ws. same_set ws ((a + (1 + n)) % h.store.words) 0)

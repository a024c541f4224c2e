-- Marks as references that are written and notes that are taken in.
use Rattle.std.proofs.Common.{◌≡◌, ℕ, zero, suc, ◌+◌, Bool, List, [], ◌∷◌, ◌++◌}
use Rattle.std.proofs.Common.{Option, Some, None, refl, sym, ◌∙◌, ap}
use Rattle.refword.specs.Words.{bits_of}
use Rattle.model.specs.Marks.{with_mark, marked_word}
use Rattle.model.specs.References.{field_address, read_reference}
use Rattle.model.specs.Scans.{with_marked_place, reference_in}
use Rattle.model.specs.States.{Reference, HeapState}
use Rattle.model.specs.Stores.{StoreState, word_at, with_word, with_words}
use Rattle.drains.specs.Drains.{marked_field}
use Rattle.drains.proofs.Blanks.{field_of_nothing, field_of_blank}
use Rattle.drains.proofs.Scanned.{field_behind}
use Rattle.drains.proofs.Waiting.{none_noted}
use Rattle.waves.specs.Waves.{noted_in, all_noted_in, all_written, applied}
use Rattle.waves.specs.Waves.{words_for, note_of, notes_for}

-- ---- applying one after the other

written_words : (s : StoreState) (vs : List (ℕ × Reference)) → (all_written s vs).words ≡ s.words
unfolding with_word with_words
written_words s [] = refl
written_words s (v ∷ vs) = written_words (with_word s v.0 (bits_of v.1)) vs

written_both : (s : StoreState) (vs us : List (ℕ × Reference))
    → all_written (all_written s vs) us ≡ all_written s (vs ++ us)
written_both s [] us = refl
written_both s (v ∷ vs) us = written_both (with_word s v.0 (bits_of v.1)) vs us

noted_both : (w : ℕ) (r : List (List Bool) × List (List Bool)) (ns ms : List Reference)
    → all_noted_in w (all_noted_in w r ns) ms ≡ all_noted_in w r (ns ++ ms)
noted_both w r [] ms = refl
noted_both w r (n ∷ ns) ms = noted_both w (noted_in w r n) ns ms

pub applied_both : (h : HeapState) (vs us : List (ℕ × Reference)) (ns ms : List Reference)
    → applied (applied h vs ns) us ms ≡ applied h (vs ++ us) (ns ++ ms)
unfolding applied
applied_both h vs us ns ms =
    let stores = written_both h.store vs us in
    let rows = ap (λ (w : ℕ). all_noted_in w (all_noted_in h.store.words (h.mark, h.todo) ns) ms)
    (written_words h.store vs)
    ∙ noted_both h.store.words (h.mark, h.todo) ns ms in
    λ i. record h { store = stores i; mark = (rows i).0; todo = (rows i).1 }

-- ---- one field

marked_null : (h : HeapState) (a i : ℕ) (o : Option ℕ) → word_at h.store (field_address a i) ≡ o
    → word_at h.store (a + (1 + i)) ≡ o
marked_null h a i o e = ap (word_at h.store) (field_behind a i) ∙ e

pub nothing_applied : (h : HeapState) → applied h [] [] ≡ h
unfolding applied
nothing_applied h = refl

marked_is : (h : HeapState) (place : ℕ) (v : Reference)
    → with_marked_place h place v ≡ applied h ((place, marked_word h v) ∷ []) (note_of (marked_word h v))
unfolding with_marked_place with_mark applied marked_word
marked_is h place None = refl
marked_is h place (Some w) = refl

pub field_is : (h : HeapState) (a i : ℕ) (o : Option ℕ) → word_at h.store (field_address a i) ≡ o
    → marked_field h (field_address a i) ≡ applied h (words_for h (field_address a i) o) (notes_for h o)
unfolding marked_field
field_is h a i None e =
    ap (λ g. marked_field g (field_address a i)) (sym (none_noted h))
    ∙ sym (field_of_nothing h [] a i i refl (marked_null h a i None e))
    ∙ none_noted h ∙ sym (nothing_applied h)
field_is h a i (Some zero) e =
    ap (λ g. marked_field g (field_address a i)) (sym (none_noted h))
    ∙ sym (field_of_blank h [] a i i refl (marked_null h a i (Some zero) e))
    ∙ none_noted h ∙ sym (nothing_applied h)
field_is h a i (Some (suc b)) e =
    ap (λ o. with_marked_place h (field_address a i) (reference_in o)) e
    ∙ marked_is h (field_address a i) (read_reference (suc b))

pub append_none : {X : Type 0} (xs : List X) → xs ++ [] ≡ xs
append_none [] = refl
append_none (x ∷ xs) = ap (λ ys. x ∷ ys) (append_none xs)

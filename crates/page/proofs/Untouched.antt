-- What a written word leaves as it was.
use Rattle.std.proofs.Common.{◌≡◌, ◌≢◌, ◌⊎◌, inl, inr, ℕ, ◌/◌, ◌%◌, ◌*◌, ◌+◌, List, set, Option, Some, None, refl, sym, ◌∙◌, ap}
use Rattle.std.specs.List.{slice_get}
use Rattle.std.specs.Option.{option_and_then}
use Rattle.std.proofs.lemmas.Bool.{cases_eq}
use Rattle.std.proofs.lemmas.Nat.{div-add-mod'}
use Rattle.model.specs.Owning.{IsStore}
use Rattle.model.specs.Stores.{StoreState, page_at, frame_in, at_offset, spot_of, word_in, word_at, with_word}
use Rattle.model.specs.Stores.{with_words, changed_in, changed_frame}
use Rattle.model.proofs.Lists.{get_set_same, get_set_other}
use Rattle.model.proofs.Memory.{own_frame}

-- equal pages and equal offsets make equal numbers
pub parted : (a b w : ℕ) → a / w ≡ b / w → a % w ≡ b % w → a ≡ b
parted a b w e f = sym (div-add-mod' a w) ∙ (λ i. e i * w + f i) ∙ div-add-mod' b w

-- a word at another place
pub word_stays : (s : StoreState) (a place v : ℕ) → IsStore s → a ≢ place
    → word_at (with_word s place v) a ≡ word_at s a
unfolding word_at spot_of with_word with_words page_at
word_stays s a place v h apart =
    by_frame (frame_in (page_at s (place / s.words))) refl (frame_in (page_at s (a / s.words))) refl
  where
    f : List ℕ → List ℕ
    f ws = set ws (place % s.words) v

    by_words : (x : ℕ) (o : Option (List ℕ)) → slice_get s.frames x ≡ o
        → a % s.words ≢ place % s.words
        → option_and_then (λ ws. slice_get ws (a % s.words)) (slice_get (changed_frame s.frames x o f) x)
        ≡ option_and_then (λ ws. slice_get ws (a % s.words)) (slice_get s.frames x)
    by_words x None z d = refl
    by_words x (Some ws) z d =
        ap (option_and_then (λ (us : List ℕ). slice_get us (a % s.words))) (get_set_same s.frames x ws (f ws) z)
        ∙ get_set_other ws (place % s.words) (a % s.words) v d
        ∙ sym (ap (option_and_then (λ (us : List ℕ). slice_get us (a % s.words))) z)

    beside : (x y : ℕ) (o : Option (List ℕ)) → y ≢ x
        → option_and_then (λ ws. slice_get ws (a % s.words)) (slice_get (changed_frame s.frames x o f) y)
        ≡ option_and_then (λ ws. slice_get ws (a % s.words)) (slice_get s.frames y)
    beside x y None d = refl
    beside x y (Some ws) d =
        ap (option_and_then (λ (us : List ℕ). slice_get us (a % s.words))) (get_set_other s.frames x y (f ws) d)

    by_place : (x y : ℕ) → frame_in (page_at s (place / s.words)) ≡ Some x → frame_in (page_at s (a / s.words)) ≡ Some y
        → (y ≡ x) ⊎ (y ≢ x)
        → option_and_then (λ ws. slice_get ws (a % s.words))
        (slice_get (changed_frame s.frames x (slice_get s.frames x) f) y)
        ≡ option_and_then (λ ws. slice_get ws (a % s.words)) (slice_get s.frames y)
    by_place x y p q (inr d) = beside x y (slice_get s.frames x) d
    by_place x y p q (inl e) =
        let one : a / s.words ≡ place / s.words = own_frame s (a / s.words) (place / s.words) x h (q ∙ ap Some e) p in
        ap (λ j. option_and_then (λ (us : List ℕ). slice_get us (a % s.words))
        (slice_get (changed_frame s.frames x (slice_get s.frames x) f) j)) e
        ∙ by_words x (slice_get s.frames x) refl (λ z. apart (parted a place s.words one z))
        ∙ sym (ap (λ j. option_and_then (λ (us : List ℕ). slice_get us (a % s.words)) (slice_get s.frames j)) e)

    by_frame : (o : Option ℕ) → frame_in (page_at s (place / s.words)) ≡ o
        → (q : Option ℕ) → frame_in (page_at s (a / s.words)) ≡ q
        → word_in (changed_in s.frames o f) (at_offset q (a % s.words)) ≡ word_in s.frames (at_offset q (a % s.words))
    by_frame None p q z = refl
    by_frame (Some x) p None z = refl
    by_frame (Some x) p (Some y) z = by_place x y p z (cases_eq y x)

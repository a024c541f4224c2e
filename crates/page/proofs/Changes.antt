-- Changes of the words of several frames.
use Rattle.std.proofs.lemmas.List.{set-set}
use Rattle.std.proofs.Common.{◌≡◌, ◌≢◌, ℕ, zero, suc, List, [], ◌∷◌, set, Option, Some, None, refl, sym, ◌∙◌, ap}
use Rattle.std.specs.List.{slice_get}
use Rattle.std.specs.Option.{option_and_then}
use Rattle.model.specs.Stores.{changed_frame, changed_in}
use Rattle.model.proofs.Lists.{get_set_same, get_set_other}

-- two elements of a list that are set in any order
pub set_two : {X : Type 0} (xs : List X) (i j : ℕ) (v w : X) → (i ≡ j → v ≡ w)
    → set (set xs i v) j w ≡ set (set xs j w) i v
set_two [] i j v w k = refl
set_two (x ∷ xs) zero zero v w k = ap (λ y. y ∷ xs) (sym (k refl))
set_two (x ∷ xs) zero (suc j) v w k = refl
set_two (x ∷ xs) (suc i) zero v w k = refl
set_two (x ∷ xs) (suc i) (suc j) v w k = ap (λ ys. x ∷ ys) (set_two xs i j v w (λ e. k (ap suc e)))

-- two frames, either of which may be missing, aren't one
abbrev pub Differ : Option ℕ → Option ℕ → Type 0
Differ o q = (x : ℕ) → o ≡ Some x → q ≡ Some x → ⊥

-- the words of a frame that may be missing
abbrev pub words_of : List (List ℕ) → Option ℕ → Option (List ℕ)
words_of fs o = option_and_then (slice_get fs) o

-- a change of another frame
pub words_stay : (fs : List (List ℕ)) (o q : Option ℕ) (f : List ℕ → List ℕ) → Differ o q
    → words_of (changed_in fs o f) q ≡ words_of fs q
words_stay fs None q f d = refl
words_stay fs (Some x) None f d = refl
words_stay fs (Some x) (Some y) f d = by_words (slice_get fs x)
  where
    by_words : (o : Option (List ℕ)) → slice_get (changed_frame fs x o f) y ≡ slice_get fs y
    by_words None = refl
    by_words (Some ws) = get_set_other fs x y (f ws) (λ e. d x refl (ap Some e))

-- changes of two frames in any order
pub changes_swap : (fs : List (List ℕ)) (o q : Option ℕ) (f g : List ℕ → List ℕ) → Differ o q
    → changed_in (changed_in fs o f) q g ≡ changed_in (changed_in fs q g) o f
changes_swap fs None q f g d = refl
changes_swap fs (Some x) None f g d = refl
changes_swap fs (Some x) (Some y) f g d = by_words (slice_get fs x) refl (slice_get fs y) refl
  where
    apart : y ≢ x
    apart e = d x refl (ap Some e)

    by_words : (a : Option (List ℕ)) → slice_get fs x ≡ a → (b : Option (List ℕ)) → slice_get fs y ≡ b
        → changed_frame (changed_frame fs x a f) y (slice_get (changed_frame fs x a f) y) g
        ≡ changed_frame (changed_frame fs y b g) x (slice_get (changed_frame fs y b g) x) f
    by_words None k None m = ap (λ b. changed_frame fs y b g) m ∙ sym (ap (λ a. changed_frame fs x a f) k)
    by_words None k (Some vs) m = ap (λ b. changed_frame fs y b g) m
        ∙ sym (ap (λ a. changed_frame (set fs y (g vs)) x a f)
        (get_set_other fs y x (g vs) (λ e. apart (sym e)) ∙ k))
    by_words (Some ws) k None m =
        ap (λ b. changed_frame (set fs x (f ws)) y b g) (get_set_other fs x y (f ws) apart ∙ m)
        ∙ sym (ap (λ a. changed_frame fs x a f) k)
    by_words (Some ws) k (Some vs) m =
        ap (λ b. changed_frame (set fs x (f ws)) y b g) (get_set_other fs x y (f ws) apart ∙ m)
        ∙ set_two fs x y (f ws) (g vs) (λ e. absurd (apart (sym e)))
        ∙ sym (ap (λ a. changed_frame (set fs y (g vs)) x a f)
        (get_set_other fs y x (g vs) (λ e. apart (sym e)) ∙ k))

-- two changes of one frame
pub changes_join : (fs : List (List ℕ)) (o : Option ℕ) (f g : List ℕ → List ℕ)
    → changed_in (changed_in fs o f) o g ≡ changed_in fs o (λ ws. g (f ws))
changes_join fs None f g = refl
changes_join fs (Some x) f g = by_words (slice_get fs x) refl
  where
    by_words : (o : Option (List ℕ)) → slice_get fs x ≡ o
        → changed_frame (changed_frame fs x o f) x (slice_get (changed_frame fs x o f) x) g
        ≡ changed_frame fs x o (λ ws. g (f ws))
    by_words None k = ap (λ o. changed_frame fs x o g) k
    by_words (Some ws) k = ap (λ o. changed_frame (set fs x (f ws)) x o g) (get_set_same fs x ws (f ws) k)
        ∙ set-set fs x (f ws) (g (f ws))

-- two changes with the same effect on a frame's words
pub changes_match : (fs : List (List ℕ)) (o : Option ℕ) (f g : List ℕ → List ℕ)
    → ((ws : List ℕ) → words_of fs o ≡ Some ws → f ws ≡ g ws) → changed_in fs o f ≡ changed_in fs o g
changes_match fs None f g same = refl
changes_match fs (Some x) f g same = by_words (slice_get fs x) (λ ws e. same ws e)
  where
    by_words : (o : Option (List ℕ)) → ((ws : List ℕ) → o ≡ Some ws → f ws ≡ g ws)
        → changed_frame fs x o f ≡ changed_frame fs x o g
    by_words None k = refl
    by_words (Some ws) k = ap (set fs x) (k ws refl)

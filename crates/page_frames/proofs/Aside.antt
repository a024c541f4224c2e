-- An element of a list that is set aside while another is written.
use Rattle.std.proofs.Common.{◌≡◌, ◌≢◌, ℕ, zero, suc, List, [], ◌∷◌, length, set, Some}
use Rattle.std.proofs.Common.{◌<◌, ◌≤◌, Bool, true, false, cond, nat_lt, arith, refl, subst, sym, ap, ◌∙◌}
use Rattle.std.specs.List.{slice_get}
use Rattle.std.proofs.lemmas.Bool.Decides.{nat_tests}
use Rattle.std.proofs.lemmas.List.{set_comm, set_past}
use Rattle.std.proofs.lemmas.Option.{same_Some}
use Rattle.std.specs.Prelude.{IfSome, unwrap_or}
use Rattle.model.specs.Stores.{changed_frame}
use Rattle.model.proofs.Lists.{get_set_other}
use Rattle.page_frames.specs.Aside.{left_in}

-- an element that is replaced by itself
pub same_set : {X : Type 0} (xs : List X) (i : ℕ) (x : X) → slice_get xs i ≡ Some x → set xs i x ≡ xs
same_set [] i x e = refl
same_set (y ∷ xs) zero x e = ap (λ b. b ∷ xs) (sym (same_Some _ _ e))
same_set (y ∷ xs) (suc i) x e = ap (λ ys. y ∷ ys) (same_set xs i x e)

-- an element that is taken out is put back
back : {X : Type 0} (xs : List X) (i : ℕ) (x z : X) → slice_get xs i ≡ Some z → set (set xs i x) i z ≡ xs
back [] i x z e = refl
back (a ∷ xs) zero x z e = ap (λ b. b ∷ xs) (sym (same_Some _ _ e))
back (a ∷ xs) (suc i) x z e = ap (λ ys. a ∷ ys) (back xs i x z e)

-- the same, if another was written meanwhile
pub back_beside : {X : Type 0} (xs : List X) (i j : ℕ) (x y z : X) → i ≢ j → slice_get xs i ≡ Some z
    → set (set (set xs i x) j y) i z ≡ set xs j y
back_beside [] i j x y z d e = refl
back_beside (a ∷ xs) zero zero x y z d e = absurd (d refl)
back_beside (a ∷ xs) zero (suc j) x y z d e = ap (λ b. b ∷ set xs j y) (sym (same_Some _ _ e))
back_beside (a ∷ xs) (suc i) zero x y z d e = ap (λ ys. y ∷ ys) (back xs i x z e)
back_beside (a ∷ xs) (suc i) (suc j) x y z d e =
    ap (λ ys. a ∷ ys) (back_beside xs i j x y z (λ k. d (ap suc k)) e)

-- a frame is written while another, whose place is empty, is set aside
pub written_beside : (xs : List (List ℕ)) (i a : ℕ) (x held : List ℕ) (f : List ℕ → List ℕ) → i ≢ a → slice_get xs i ≡ Some x
    → set (set xs i (f x)) a held ≡ changed_frame (set xs a held) i (slice_get (set xs a held) i) f
written_beside xs i a x held f d e = set_comm xs i a (f x) held d
    ∙ sym (ap (λ o. changed_frame (set xs a held) i o f) (get_set_other xs a i held d ∙ e))

-- a frame whose place has words isn't set aside
pub not_aside : (xs : List (List ℕ)) (i a : ℕ) (x held : List ℕ) → left_in xs a held ≡ [] → slice_get xs i ≡ Some x
    → 0 < length x → i ≢ a
not_aside xs i a x held none e some same = omega (arith, some, empty)
  where
    there : slice_get xs a ≡ Some x
    there = ap (slice_get xs) (sym same) ∙ e

    empty : length x ≡ 0
    empty = ap length (sym (ap (λ o. unwrap_or o held) there) ∙ none)

-- the same, if the offset is within the frame
pub put_beside : (xs : List (List ℕ)) (i a k v : ℕ) (x y held : List ℕ) (done : Bool) → left_in xs a held ≡ []
    → slice_get xs i ≡ Some x → done ≡ nat_lt k (length x) → y ≡ set x k v
    → set (set xs i y) a held
    ≡ cond done (changed_frame (set xs a held) i (slice_get (set xs a held) i) (λ ws. set ws k v)) (set xs a held)
put_beside xs i a k v x y held true none e d w =
    let within : k < length x = grind (arith, nat_tests, d) in
    ap (λ z. set (set xs i z) a held) w
    ∙ written_beside xs i a x held (λ ws. set ws k v) (not_aside xs i a x held none e (omega (arith, within))) e
put_beside xs i a k v x y held false none e d w =
    let past : length x ≤ k = grind (arith, nat_tests, d) in
    ap (λ z. set (set xs i z) a held) (w ∙ set_past x k v past) ∙ ap (λ zs. set zs a held) (same_set xs i x e)

-- a frame that was written has a word at the offset
pub put_within : (xs : List (List ℕ)) (i a k : ℕ) (x held : List ℕ) → left_in xs a held ≡ [] → slice_get xs i ≡ Some x
    → true ≡ nat_lt k (length x) → IfSome (slice_get (set xs a held) i) (λ ws. k < length ws)
put_within xs i a k x held none e d =
    let within : k < length x = grind (arith, nat_tests, d) in
    let apart = not_aside xs i a x held none e (omega (arith, within)) in
    subst (λ o. IfSome o (λ ws. k < length ws)) (sym (get_set_other xs a i held apart ∙ e)) within

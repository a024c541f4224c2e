-- The bitmaps of protected pages are freed, one after another.
use Rattle.std.proofs.Common.{◌≡◌, ◌≤◌, ◌<◌, ◌+◌, ℕ, zero, suc, Bool, true, false, cond, List, [], ◌∷◌, take, length, set, Some}
use Rattle.std.proofs.Common.{refl, sym, ◌∙◌, ap, arith}
use Rattle.std.specs.List.{slice_get}
use Rattle.std.proofs.lemmas.Option.{same_Some}
use Rattle.model.specs.declared.records.Page.{Page}
use Rattle.model.specs.Stores.{is_protected, state_in}
use Rattle.model.proofs.Lists.{get_within}
use Rattle.model.specs.Cycles.{rows_after_mark}

-- a protected page gave up its row
pub given_one : (ps : List Page) (rows : List (List Bool)) (i : ℕ) (p : Page) → slice_get ps i ≡ Some p
    → is_protected p.state ≡ true
    → set (rows_after_mark (take i ps) rows) i [] ≡ rows_after_mark (take (suc i) ps) rows
given_one [] rows i p e h = absurd (cc)
given_one (q ∷ ps) [] zero p e h = refl
given_one (q ∷ ps) (row ∷ rows) zero p e h =
    let here : is_protected q.state ≡ true = ap (λ (z : Page). is_protected z.state) (same_Some _ _ e) ∙ h in
    sym (ap (λ b. cond b [] row ∷ rows) here)
given_one (q ∷ ps) [] (suc i) p e h = refl
given_one (q ∷ ps) (row ∷ rows) (suc i) p e h =
    ap (λ rs. cond (is_protected q.state) [] row ∷ rs) (given_one ps rows i p e h)

-- another page keeps it
pub kept_one : (ps : List Page) (rows : List (List Bool)) (i : ℕ) (p : Page) → slice_get ps i ≡ Some p
    → is_protected p.state ≡ false
    → rows_after_mark (take i ps) rows ≡ rows_after_mark (take (suc i) ps) rows
kept_one [] rows i p e h = absurd (cc)
kept_one (q ∷ ps) [] zero p e h = refl
kept_one (q ∷ ps) (row ∷ rows) zero p e h =
    let here : is_protected q.state ≡ false = ap (λ (z : Page). is_protected z.state) (same_Some _ _ e) ∙ h in
    sym (ap (λ b. cond b [] row ∷ rows) here)
kept_one (q ∷ ps) [] (suc i) p e h = refl
kept_one (q ∷ ps) (row ∷ rows) (suc i) p e h =
    ap (λ rs. cond (is_protected q.state) [] row ∷ rs) (kept_one ps rows i p e h)

-- one more page was come to
pub given_then : (ps : List Page) (rows now new : List (List Bool)) (i : ℕ) → i < length ps
    → is_protected (state_in (slice_get ps i)) ≡ true → now ≡ rows_after_mark (take i ps) rows → new ≡ set now i []
    → new ≡ rows_after_mark (take (i + 1) ps) rows
given_then ps rows now new i low h e f =
    let (p, at) = get_within ps i low in
    let next : i + 1 ≡ suc i = omega arith in
    f ∙ ap (λ rs. set rs i []) e ∙ given_one ps rows i p at (sym (ap (λ o. is_protected (state_in o)) at) ∙ h)
    ∙ sym (ap (λ j. rows_after_mark (take j ps) rows) next)

pub given_else : (ps : List Page) (rows now new : List (List Bool)) (i : ℕ) → i < length ps
    → is_protected (state_in (slice_get ps i)) ≡ false → now ≡ rows_after_mark (take i ps) rows → new ≡ now
    → new ≡ rows_after_mark (take (i + 1) ps) rows
given_else ps rows now new i low h e f =
    let (p, at) = get_within ps i low in
    let next : i + 1 ≡ suc i = omega arith in
    f ∙ e ∙ kept_one ps rows i p at (sym (ap (λ o. is_protected (state_in o)) at) ∙ h)
    ∙ sym (ap (λ j. rows_after_mark (take j ps) rows) next)

-- behind the last page, all have
pub all_taken : (ps : List Page) (i : ℕ) → length ps ≤ i → take i ps ≡ ps
all_taken [] zero h = refl
all_taken [] (suc i) h = refl
all_taken (p ∷ ps) zero h = absurd (omega (arith, h))
all_taken (p ∷ ps) (suc i) h = ap (λ qs. p ∷ qs) (all_taken ps i (omega (arith, h)))

-- Copied entries of forwarding tables.
use Rattle.std.proofs.Common.{◌≡◌, ℕ, ◌+◌, List, [], ◌∷◌, length, count_by, Bool, true, false, not, cond, refl, arith}
use Rattle.std.proofs.lemmas.List.Sums.{sum_by-cons}
use Rattle.model.specs.declared.records.Forwarding.{Forwarding}
use Rattle.model.specs.Cycles.{is_uncopied}

abbrev as_number : Bool → ℕ
as_number b = cond b 1 0

one_of : (b : Bool) → as_number b + as_number (not b) ≡ 1
one_of true = refl
one_of false = refl

-- an entry is copied or uncopied
pub copied_rest : (side : List Forwarding) → count_by (λ f. f.copied) side + count_by is_uncopied side ≡ length side
copied_rest [] = refl
copied_rest (f ∷ fs) = omega (
  arith,
  sum_by-cons (λ (g : Forwarding). as_number g.copied) f fs,
  sum_by-cons (λ g. as_number (is_uncopied g)) f fs,
  one_of f.copied,
  copied_rest fs,
)

-- Sums over the entries of a list.
use Rattle.std.proofs.Common.{◌≡◌, ℕ, ◌+◌, ◌<◌, List, [], ◌∷◌, length, take, get_or, slice_get, IfSome}
use Rattle.std.proofs.Common.{ap, ◌∙◌, subst, arith, sum_by, not-suc-le-zero}
use Rattle.std.proofs.lemmas.List.Sums.{sum_by_more}
use Rattle.std.proofs.lemmas.Option.{slice_get-get_or}
use Rattle.model.specs.declared.steps.Answer.{Answer}
use Rattle.entries.specs.declared.entry.Entry.{Entry}

-- the sum over one entry more, of which the answer was read
pub sum_more : (f : Answer → ℕ) (i : ℕ) (es : List Entry) (a : Answer) (old n : ℕ) → i < length es
    → old ≡ sum_by (λ (e : Entry). f e.answer) (take i es) → IfSome (slice_get es i) (λ e. a ≡ e.answer) → n ≡ f a
    → old + n ≡ sum_by (λ (e : Entry). f e.answer) (take (i + 1) es)
sum_more f i [] a old n le h q s = absurd (not-suc-le-zero le)
sum_more f i (d ∷ ds) a old n le h q s =
    let read : a ≡ (get_or (d ∷ ds) i d).answer =
    subst (λ o. IfSome o (λ (e : Entry). a ≡ e.answer)) (slice_get-get_or (d ∷ ds) i d le) q in
    let same : n ≡ f (get_or (d ∷ ds) i d).answer = s ∙ ap f read in
    omega (arith, h, same, sum_by_more (λ (e : Entry). f e.answer) (d ∷ ds) i d le)

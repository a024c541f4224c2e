use Rattle.std.proofs.Common.{ℕ, ◌∙◌, ◌++◌, ◌∷◌, [], ap, arith, sym}
use Rattle.forward.proofs.Plans.{counted_more}
use Rattle.forward.proofs.planning.Planning.push.Goals as goal

pub invariant_of-self-2 : goal.invariant_of-self-2
invariant_of-self-2 c = counted_more c.place.inside.target c.place.inside.offset c.self.inside.slots.items
    c.push.new.self.items
    (omega (arith, c.next_place-place.ensures.near, ap (λ (p : ℕ × ℕ). p.0) c.place.view_is, c.self.invariant.1))
    (c.in_ok-push.ensures.items ∙ ap (λ (p : ℕ × ℕ). c.self.inside.slots.items ++ p ∷ []) (sym c.place.view_is))

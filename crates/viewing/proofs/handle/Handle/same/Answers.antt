use Rattle.std.proofs.Common.{ap, ap₂, nat_eq, sym, ◌∙◌}
use Rattle.viewing.specs.Viewing.{HandleState, birth_seen, handle_at}
use Rattle.viewing.proofs.Finding.{same_found}
use Rattle.viewing.proofs.handle.Handle.same.Goals as goal

pub returns : goal.returns
returns c e = same_found (handle_at c.self.inside.heap.now c.self.inside.address)
    (handle_at c.other.inside.heap.now c.other.inside.address) c.eq.result c.law.ensures c.self.invariant
    c.other.invariant c.eq.ensures (ap (λ (s : HandleState). s.heap) c.self.view_is ∙ e
    ∙ sym (ap (λ (s : HandleState). s.heap) c.other.view_is))
    ∙ ap₂ (λ x y. nat_eq (birth_seen x) (birth_seen y)) c.self.view_is c.other.view_is

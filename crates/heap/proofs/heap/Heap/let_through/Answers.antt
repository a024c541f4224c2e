use Rattle.std.proofs.Common.{◌∙◌, sym, subst}
use Rattle.std.specs.Prelude.{IfSome}
use Rattle.heap.specs.AtOnce.{IsOpenTo}
use Rattle.heap.proofs.Frames.{let_at_once}
use Rattle.heap.proofs.heap.Heap.let_through.Goals as goal

pub returns-then-is_some : goal.returns-then-is_some
returns-then-is_some c =
    let h = c.args.self.now in
    let free = subst (λ n. IfSome c.frame_at_once.result (λ _. IsOpenTo h n)) c.number.ensures.value
    c.frame_at_once.ensures.open in
    let_at_once h c.args.thread c.args.address c.frame_at_once.result free
    (sym c.if-is_some.true ∙ c.is_some.ensures)

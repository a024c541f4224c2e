use Rattle.std.proofs.Common.{rules, ◌≡◌, ◌+◌, ◌++◌, ◌∷◌, ◌∙◌, ℕ, List, length, arith, ap, sym}
use Rattle.std.specs.Vec.Iter.{into_iter_items}
use Rattle.tokens.specs.Rows.{TokenState}
use Rattle.known_registers.proofs.Numbers.{number_at}
use Rattle.known_registers.proofs.opening.knowing_seats.Goals as goal

pub invariant_of-push : goal.invariant_of-push
invariant_of-push g c =
    let i = c.loop-seat.invariant in
    let is : into_iter_items c.loop-seat.seat-iterator ≡ c.in-Some.seat ∷ into_iter_items c.next.new.self
    = search rules in
    let at : c.in-Some.seat ≡ 0 + length c.loop-seat.yielded = number_at c.loop-seat.yielded
    (into_iter_items c.next.new.self) c.in-Some.seat 0 c.args.count
    (ap (λ (l : List ℕ). c.loop-seat.yielded ++ l) (sym is) ∙ i.4) in
    let thread : c.deal-token.result.thread ≡ c.loop-seat.keeper.dealt
    = ap (λ (t : TokenState). t.thread) c.deal-token.ensures.token in
    omega (arith, thread, i.3, at)

use Rattle.std.proofs.Common.{◌≡◌, ◌++◌, sym, ap, ◌∙◌, arith, append-nil}
use Rattle.std.specs.List.{repeat}
use Rattle.parser.proofs.Lists.{add_none, add_turn}
use Rattle.parser.proofs.reading.add_turns.Goals as goal

pub returns-then-is_empty : goal.returns-then-is_empty
returns-then-is_empty c =
    add_none c.args.turns c.args.commands.now.items c.args.body.now (sym c.is_empty.ensures ∙ c.if-is_empty.true)

pub loop-init : goal.loop-init
loop-init c = sym (append-nil c.args.commands.now.items)

pub loop-preserved : goal.loop-preserved
loop-preserved c = add_turn c.loop.counter c.args.commands.now.items c.args.body.now c.loop.commands.items
    c.add_body.new.commands.items c.loop.invariant c.in_ok-add_body.ensures

pub returns : goal.returns
returns c =
    let same : c.loop.counter ≡ c.args.turns = omega (arith, c.loop-test.false, c.loop.auto.counter-end) in
    c.loop.invariant ∙ ap (λ k. c.args.commands.now.items ++ repeat k c.args.body.now) same

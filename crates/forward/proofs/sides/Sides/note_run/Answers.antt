use Rattle.std.proofs.Common.{◌-◌, ap, refl, length, arith}
use Rattle.model.specs.Bits.{of_page}
use Rattle.forward.proofs.Totals.{counted_set, noted_none, no_table, noted_page}
use Rattle.forward.proofs.sides.Sides.note_run.Goals as goal

pub returns-then-page-eq0-clause-sides : goal.returns-then-page-eq0-clause-sides
returns-then-page-eq0-clause-sides c =
    noted_none c.args.self.now c.args.page c.args.first c.args.count (ap (of_page c.args.self.now) c.if-page-eq0.true)

pub returns-then-at-len-clause-sides : goal.returns-then-at-len-clause-sides
returns-then-at-len-clause-sides c =
    noted_none c.args.self.now c.args.page c.args.first c.args.count (no_table c.args.self.now c.args.page
    (omega (arith, c.if-at-len.true, c.len.ensures, ap length c.self.view_is)))

pub invariant_of-self : goal.invariant_of-self
invariant_of-self c =
    counted_set c.self.inside.sides.items _ (c.args.page - 1) _ c.self.invariant
    (omega (arith, c.if-at-len.false, c.len.ensures)) c.index_mut-side.ensures.value c.note_run.new.self _ _
    c.uncopied.ensures.value c.uncopied-2.ensures.value c.uncopied-2.ensures.range

pub returns-clause-sides : goal.returns-clause-sides
returns-clause-sides c =
    noted_page c.self.inside.sides.items _ (c.args.page - 1) _ c.self.invariant
    (omega (arith, c.if-at-len.false, c.len.ensures)) c.index_mut-side.ensures.value c.args.self.now
    c.note_run.new.self c.args.page c.args.first c.args.count c.if-page-eq0.false refl c.self.view_is
    c.note_run.ensures.side

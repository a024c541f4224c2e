use Rattle.std.proofs.Common.{◌∙◌, refl, subst, sym}
use Rattle.refword.specs.Words.{IsAddress}
use Rattle.forward.proofs.Bases.{listed_next}
use Rattle.forward.proofs.places.Places.listed.Goals as goal

pub loop-number-preserved : goal.loop-number-preserved
loop-number-preserved c = listed_next c.args.places.now c.loop-number.number c.number-address.result _ _
    c.loop-number.distances.items c.push.new.self.items c.loop-number.more.items c.add_run.new.runs.items
    c.loop-number.last c.in_ok-last.last _ c.loop-number.invariant c.loop-number-test.true
    (c.number-address.ensures.value ∙ c.index-places-number.is)
    (subst IsAddress (sym c.number-address.ensures.value) c.number-address.ensures.range) refl refl
    c.in_ok-push.ensures.items
    c.in_ok-last.ensures.last c.in_ok-last.ensures.runs

pub invariant_of-result : goal.invariant_of-result
invariant_of-result c = (c.loop-number.invariant.addresses, c.last_run-last.ensures)

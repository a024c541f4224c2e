use Rattle.std.proofs.Common.{◌≡◌, map, subst, sym}
use Rattle.model.specs.Owning.{Each}
use Rattle.model.specs.Plans.{address_in}
use Rattle.refword.specs.Words.{IsAddress}
use Rattle.forward.specs.Bases.{addresses_from}
use Rattle.forward.proofs.Bases.{planned_are}
use Rattle.forward.proofs.places.Places.planned.Goals as goal

all : (c : goal.After-into_sums)
    → addresses_from c.run_base-base.result c.put_on.new.runs.items 0 c.into_sums.result.items
    ≡ map (address_in c.args.words c.args.targets.now) c.args.places
all c = planned_are c.args.words c.args.targets.now c.places.inside.sizes c.places.inside.first
    c.places.inside.more.items c.put_on.new.runs.items c.run_base-base.result c.into_sums.result.items c.args.places
    c.places.invariant.0 c.places.invariant.1 c.places.view_is c.requires.addresses c.run_base-base.ensures
    c.put_on.ensures c.into_sums.ensures

pub invariant_of-result : goal.invariant_of-result
invariant_of-result c = (subst (λ xs. Each xs IsAddress) (sym (all c)) c.requires.addresses, c.last_run-last.ensures)

pub returns : goal.returns
returns c = all c

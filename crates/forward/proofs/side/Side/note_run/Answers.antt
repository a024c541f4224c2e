use Rattle.std.proofs.Common.{◌∙◌, sym, ap, subst}
use Rattle.model.specs.declared.limits.TheConstants.{MOST_WORDS}
use Rattle.model.specs.Holding.{AreRising}
use Rattle.forward.specs.Noting.{noted_run}
use Rattle.forward.specs.Ranked.{entries_of, AreEntries}
use Rattle.forward.proofs.Noted.{noted_all, run_entries}
use Rattle.forward.proofs.Ranked.{entries_rise}
use Rattle.forward.proofs.side.Side.note_run.Goals as goal

pub returns-clause-side : goal.returns-clause-side
returns-clause-side c =
    ap (entries_of c.self.inside.live c.self.inside.places) c.set_run.ensures
    ∙ noted_all c.self.inside.live c.self.inside.places c.self.inside.copied c.args.first c.args.count
    c.self.invariant.0
    ∙ ap (noted_run c.args.first c.args.count) c.self.view_is

pub returns-clause-rising : goal.returns-clause-rising
returns-clause-rising c =
    subst (AreRising MOST_WORDS 0) c.self.view_is
    (entries_rise c.self.inside.live c.self.inside.places c.self.inside.copied c.self.invariant.0)

pub invariant_of-self : goal.invariant_of-self
invariant_of-self c = (
  subst (AreEntries c.self.inside.live c.self.inside.places) (sym c.set_run.ensures)
      (run_entries c.self.inside.live c.self.inside.places c.self.inside.copied c.args.first c.args.count
      c.self.invariant.0),
  c.self.invariant.1,
)

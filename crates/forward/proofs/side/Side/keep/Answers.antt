use Rattle.std.proofs.Common.{◌∙◌, sym, ap, arith}
use Rattle.std.specs.List.{slice_get}
use Rattle.forward.proofs.Noted.{kept_entry, entry_short}
use Rattle.forward.proofs.side.Side.keep.Goals as goal

pub overflow_cast-self : goal.overflow_cast-self
overflow_cast-self c =
    let short = entry_short c.self.inside.live c.self.inside.places c.self.inside.copied c.self.invariant.0
    c.args.index c.in-Some.entry
    (ap (λ s. slice_get s c.args.index) c.self.view_is ∙ sym c.entry.ensures ∙ c.in-Some.is) in
    omega (arith, short)

pub invariant_of-self : goal.invariant_of-self
invariant_of-self c = (
  c.self.invariant.0,
  kept_entry c.self.inside.live c.self.inside.places c.self.inside.copied c.self.invariant.0
      c.args.index c.in-Some.entry
      (ap (λ s. slice_get s c.args.index) c.self.view_is ∙ sym c.entry.ensures ∙ c.in-Some.is),
)

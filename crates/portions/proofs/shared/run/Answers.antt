use Rattle.std.proofs.Common.{refl}
use Rattle.portions.proofs.shared.run.Goals as goal

pub returns : goal.returns
returns g c = (
  c.begin.new.self,
  c.f-result.new.arg2,
  c.begin.ensures.begins,
  c.law.ensures,
  c.law-2.ensures,
  record { shown = _; shows = refl; left = _; met = c.f-result.ensures; leaves = refl },
)

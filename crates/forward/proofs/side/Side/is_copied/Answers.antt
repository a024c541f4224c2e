use Rattle.std.proofs.Common.{◌∙◌, ap, arith}
use Rattle.forward.specs.Counts.{uncopied_in}
use Rattle.forward.proofs.Copies.{none_left}
use Rattle.forward.proofs.Edited.{left_of, same_test}
use Rattle.forward.proofs.side.Side.is_copied.Goals as goal

pub returns : goal.returns
returns c = same_test c.len.result c.count.result (uncopied_in c.args.self.now) (omega (
  arith,
  left_of c.self.inside.live c.self.inside.places c.self.inside.copied c.self.invariant.0,
  ap uncopied_in c.self.view_is,
  c.len.ensures,
  c.count.ensures,
)) ∙ none_left c.args.self.now

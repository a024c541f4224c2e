use Rattle.std.proofs.Common.{inl}
use Rattle.collecting.proofs.filling.make_and_fill.Goals as goal

pub returns-in-Err : goal.returns-in-Err
returns-in-Err c = inl (c.in-Err.ensures.ends, c.in-Err.ensures.stands)

use Rattle.std.proofs.Common.{inl}
use Rattle.collecting.proofs.counted.make_and_fill_counted.Goals as goal

pub returns-in-Err-clause-makes : goal.returns-in-Err-clause-makes
returns-in-Err-clause-makes c = inl (c.in-Err.ensures.ends, c.in-Err.ensures.stands)

use Rattle.verify.specs.Searches.{GoodFieldsBefore}
use Rattle.verify.proofs.fields.bad_field_at.Given as goal

abbrev pub invariant-loop-k : goal.invariant-loop-k
invariant-loop-k l = GoodFieldsBefore l.chart l.address l.k

use Rattle.verify.proofs.Verdicts.{verdict_once}
use Rattle.verify.proofs.verifier.one_verdict.Goals as goal

pub returns : goal.returns
returns c = verdict_once

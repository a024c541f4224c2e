use Rattle.parser.proofs.Promises.{spelled_once}
use Rattle.parser.proofs.script.one_reading.Goals as goal

pub returns : goal.returns
returns c = spelled_once

use Rattle.parser.proofs.OneLine.{share_line}
use Rattle.parser.proofs.script.one_first_line.Goals as goal

pub returns : goal.returns
returns c = share_line

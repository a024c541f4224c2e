use Rattle.waves.proofs.PartScans.{part_done}
use Rattle.waves.proofs.law.Goals as goal

pub returns : goal.returns
returns c = λ f h w m first xs ps qs sent after done store heap none fits notes scans.
    (part_done f h w m first xs ps qs sent after done store heap none fits notes scans).0

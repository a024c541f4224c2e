use Rattle.std.proofs.Common.{◌+◌, ◌<◌, length, arith}
use Rattle.relocate.proofs.Planning.{count_some}
use Rattle.relocate.proofs.drafting.count_targets.Goals as goal

pub returns-else-len-eq0 : goal.returns-else-len-eq0
returns-else-len-eq0 c ps is =
    let some : 0 < length c.args.draft.now.places = omega (arith, c.if-len-eq0.false, c.len.ensures.value) in
    count_some (c.target.result + 1) ps c.args.draft.now.places some
    (omega (arith, c.requires.counted some, c.target.ensures))

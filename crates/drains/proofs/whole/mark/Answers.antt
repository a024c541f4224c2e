use Rattle.std.proofs.Common.{reverse}
use Rattle.drains.proofs.Waiting.{apart_again, apart_first, marks_again, marks_wait}
use Rattle.drains.proofs.whole.mark.Goals as goal

pub returns-then-not-raw_mark-clause-marks : goal.returns-then-not-raw_mark-clause-marks
returns-then-not-raw_mark-clause-marks c =
    (marks_again c.args.heap.now c.raw_mark.new.self c.args.address c.args.target
    (reverse c.args.waiting.now.items) c.requires.waits
    (apart_again _ _ c.args.target c.raw_mark.result c.raw_mark.ensures c.if-not-raw_mark.true)).0

pub returns-then-not-raw_mark-clause-waits : goal.returns-then-not-raw_mark-clause-waits
returns-then-not-raw_mark-clause-waits c =
    (marks_again c.args.heap.now c.raw_mark.new.self c.args.address c.args.target
    (reverse c.args.waiting.now.items) c.requires.waits
    (apart_again _ _ c.args.target c.raw_mark.result c.raw_mark.ensures c.if-not-raw_mark.true)).1

pub returns-clause-marks : goal.returns-clause-marks
returns-clause-marks c =
    (marks_wait c.args.heap.now c.raw_mark.new.self c.wait.new.heap c.args.address c.args.target
    (reverse c.args.waiting.now.items) (reverse c.wait.new.waiting.items) c.requires.waits
    (apart_first _ _ c.args.target c.raw_mark.result c.raw_mark.ensures c.if-not-raw_mark.false)
    c.wait.ensures).0

pub returns-clause-waits : goal.returns-clause-waits
returns-clause-waits c =
    (marks_wait c.args.heap.now c.raw_mark.new.self c.wait.new.heap c.args.address c.args.target
    (reverse c.args.waiting.now.items) (reverse c.wait.new.waiting.items) c.requires.waits
    (apart_first _ _ c.args.target c.raw_mark.result c.raw_mark.ensures c.if-not-raw_mark.false)
    c.wait.ensures).1

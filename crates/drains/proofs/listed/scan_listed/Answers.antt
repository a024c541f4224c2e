use Rattle.std.proofs.Common.{arith, sym, subst}
use Rattle.drains.specs.Drains.{ObjectsDone}
use Rattle.drains.specs.Scans.{IsScanned}
use Rattle.drains.proofs.Scans.{listed_more, listed_left}
use Rattle.drains.proofs.listed.scan_listed.Goals as goal
use Rattle.drains.proofs.listed.scan_listed.Goals.{then-scan_grey, else-scan_grey}

pub loop-index-preserved : goal.loop-index-preserved
loop-index-preserved c =
    let h = c.loop-index.heap in
    let k = c.scan_grey.new.heap in
    let a = c.index-list-index.result in
    let few = c.loop-index.invariant.1 in
    elim c.if-scan_grey.branch [
      | then-scan_grey w ↦ (
        subst (λ n. ObjectsDone c.args.heap.now c.args.worker n k) (sym w.done-is)
            (listed_more c.args.heap.now h k c.args.worker c.loop-index.done a c.loop-index.invariant.0
            c.law.ensures.store c.law.ensures.heap
            (subst (λ b. IsScanned h a b k) w.if-scan_grey.true c.scan_grey.ensures.scanned)),
        omega (arith, few, w.done-is),
        c.scan_grey.ensures.none,
      )
      | else-scan_grey w ↦ (
        subst (λ n. ObjectsDone c.args.heap.now c.args.worker n k) (sym w.done-is)
            (listed_left c.args.heap.now h k c.args.worker c.loop-index.done a c.loop-index.invariant.0
            (subst (λ b. IsScanned h a b k) w.if-scan_grey.false c.scan_grey.ensures.scanned)),
        omega (arith, few, w.done-is),
        c.scan_grey.ensures.none,
      )
    ]

use Rattle.std.proofs.Common.{[], arith}
use Rattle.waves.proofs.PartsDone.{parts_done, parts_few, parts_records, parts_sent}
use Rattle.waves.proofs.waving.scan_parts.Goals as goal

pub returns-clause-done : goal.returns-clause-done
returns-clause-done g c =
    parts_done c.args.heap.now c.raw_scan_by.new.self c.take_sent.new.heap c.args.worker _ c.total.result
    c.args.parts.now c.raw_scan_by.new.parts c.requires.ready c.law.ensures.store c.law.ensures.heap c.requires.alone
    c.requires.new.placed c.requires.new.unsent c.raw_scan_by.ensures c.take_sent.ensures c.total.ensures.value

pub total-requires-clause-few : goal.total-requires-clause-few
total-requires-clause-few g c =
    parts_few c.args.heap.now c.raw_scan_by.new.self _ c.args.parts.now c.raw_scan_by.new.parts c.raw_scan_by.ensures

pub take_sent-requires-clause-used : goal.take_sent-requires-clause-used
take_sent-requires-clause-used g c κs within = omega (
  arith,
  c.requires.used,
  parts_records c.args.heap.now c.raw_scan_by.new.self [] _ c.args.parts.now c.raw_scan_by.new.parts
      c.raw_scan_by.ensures,
)

pub take_sent-requires-clause-sent : goal.take_sent-requires-clause-sent
take_sent-requires-clause-sent g c κs within =
    parts_sent c.args.heap.now c.raw_scan_by.new.self c.args.worker _ c.args.parts.now c.raw_scan_by.new.parts
    c.requires.ready c.law.ensures.store c.law.ensures.heap c.requires.alone c.requires.new.placed
    c.requires.new.unsent c.raw_scan_by.ensures

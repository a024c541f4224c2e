use Rattle.verify.proofs.Tabling.{table_more}
use Rattle.verify.proofs.tables.places_of.Goals as goal

pub loop-k-preserved : goal.loop-k-preserved
loop-k-preserved c =
    let l = c.loop-k in
    table_more c.args.side.now c.args.words l.k c.index-side-side.result l.places.items c.put.new.places.items
    c.loop-k-test.true c.index-side-side.is l.invariant c.put.ensures.len c.put.ensures.each

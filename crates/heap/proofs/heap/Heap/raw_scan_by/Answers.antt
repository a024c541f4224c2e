use Rattle.std.proofs.Common.{length, subst, sym}
use Rattle.model.specs.States.{HeapState}
use Rattle.part_scans.specs.Scans.{all_sent}
use Rattle.heap.specs.Owning.{ArePlaced, ScansParts}
use Rattle.heap.specs.Views.{heap_of}
use Rattle.heap.proofs.Parted.{chained, owned, owned_heap, placed_given, rows_wordless}
use Rattle.heap.proofs.Scanning.{matched_placed, placed_short, records_small}
use Rattle.heap.proofs.heap.Heap.raw_scan_by.Goals as goal

pub swap_all_rows-requires : goal.swap_all_rows-requires
swap_all_rows-requires g c =
    let h = heap_of c.self.inside in
    placed_short (length h.store.pages) 0 c.args.parts.now (records_small h.store c.law.ensures)
    (subst (λ (x : HeapState). ArePlaced (length x.store.pages) 0 c.args.parts.now) (sym c.self.view_is)
    c.requires.placed)

pub scan_parts_by-requires-clause-wordless : goal.scan_parts_by-requires-clause-wordless
scan_parts_by-requires-clause-wordless g c κs within =
    let h = heap_of c.self.inside in
    rows_wordless h.mark h.todo c.args.parts.now c.swap_all_rows.new.mark c.swap_all_rows.new.todo
    c.swap_all_rows.new.parts c.requires.blank c.swap_all_rows.ensures

pub scan_parts_by-requires-clause-placed : goal.scan_parts_by-requires-clause-placed
scan_parts_by-requires-clause-placed g c κs within =
    let h = heap_of c.self.inside in
    placed_given h c.args.parts.now c.swap_all_rows.new.parts c.swap_all_rows.new.mark c.swap_all_rows.new.todo
    (subst (λ (x : HeapState). ArePlaced (length x.store.pages) 0 c.args.parts.now) (sym c.self.view_is)
    c.requires.placed) c.swap_all_rows.ensures

pub swap_all_rows-requires-2 : goal.swap_all_rows-requires-2
swap_all_rows-requires-2 g c =
    let h = heap_of c.self.inside in
    let placed = subst (λ (x : HeapState). ArePlaced (length x.store.pages) 0 c.args.parts.now) (sym c.self.view_is)
    c.requires.placed in
    let chain = chained h (all_sent c.args.senders.now) c.args.most c.args.parts.now c.swap_all_rows.new.parts c.swap_all_rows.new.mark
    c.swap_all_rows.new.todo c.scan_parts_by.new.store c.scan_parts_by.new.parts c.law.ensures c.requires.blank placed
    c.swap_all_rows.ensures c.scan_parts_by.ensures in
    placed_short (length h.store.pages) 0 c.scan_parts_by.new.parts (records_small h.store c.law.ensures)
    (matched_placed (length h.store.pages) 0 c.args.parts.now c.scan_parts_by.new.parts chain.back placed)

pub invariant_of-self : goal.invariant_of-self
invariant_of-self g c =
    let h = heap_of c.self.inside in
    let placed = subst (λ (x : HeapState). ArePlaced (length x.store.pages) 0 c.args.parts.now) (sym c.self.view_is)
    c.requires.placed in
    owned_heap h (all_sent c.args.senders.now) c.args.most c.args.parts.now c.scan_parts_by.new.store c.swap_all_rows-2.new.mark
    c.swap_all_rows-2.new.todo c.swap_all_rows-2.new.parts c.self.invariant
    (owned h (all_sent c.args.senders.now) c.args.most c.args.parts.now c.scan_parts_by.new.store c.swap_all_rows-2.new.mark
    c.swap_all_rows-2.new.todo c.swap_all_rows-2.new.parts c.law.ensures c.requires.blank placed (record {
      mark = c.swap_all_rows.new.mark;
      todo = c.swap_all_rows.new.todo;
      given = c.swap_all_rows.new.parts;
      back = c.scan_parts_by.new.parts;
      take = c.swap_all_rows.ensures;
      scans = c.scan_parts_by.ensures;
      give = c.swap_all_rows-2.ensures;
    }))

pub returns : goal.returns
returns g c =
    let h = heap_of c.self.inside in
    let placed = subst (λ (x : HeapState). ArePlaced (length x.store.pages) 0 c.args.parts.now) (sym c.self.view_is)
    c.requires.placed in
    let k = owned h (all_sent c.args.senders.now) c.args.most c.args.parts.now c.scan_parts_by.new.store c.swap_all_rows-2.new.mark
    c.swap_all_rows-2.new.todo c.swap_all_rows-2.new.parts c.law.ensures c.requires.blank placed (record {
      mark = c.swap_all_rows.new.mark;
      todo = c.swap_all_rows.new.todo;
      given = c.swap_all_rows.new.parts;
      back = c.scan_parts_by.new.parts;
      take = c.swap_all_rows.ensures;
      scans = c.scan_parts_by.ensures;
      give = c.swap_all_rows-2.ensures;
    }) in
    subst (λ (x : HeapState). ScansParts x (all_sent c.args.senders.now) c.args.most c.args.parts.now
    (record (heap_of c.self.inside) {
      store = c.scan_parts_by.new.store;
      mark = c.swap_all_rows-2.new.mark;
      todo = c.swap_all_rows-2.new.todo;
    }) c.swap_all_rows-2.new.parts) c.self.view_is k.scans

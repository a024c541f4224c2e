use Rattle.std.proofs.Common.{ℕ, List, ap, length, map, subst, ◌∙◌}
use Rattle.part_scans.specs.Scans.{all_sent}
use Rattle.heap.specs.Owning.{AllScanned}
use Rattle.heap.proofs.Flat.{flat_parts, frame_slot, words_in}
use Rattle.heap.proofs.Scanning.{are_worded, changed_part, each_scanned, frames_after, matched_placed, own_frames}
use Rattle.heap.proofs.Scanning.{placed_short, records_small}
use Rattle.heap.proofs.Shapes.{scanned_sized}
use Rattle.heap.proofs.Sizing.{puts_sized}
use Rattle.heap.proofs.heap.owning.scan_parts_by.Goals as goal

pub own_by-requires-clause-short : goal.own_by-requires-clause-short
own_by-requires-clause-short g c κs within =
    placed_short (length c.args.store.now.pages) 0 c.args.parts.now (records_small c.args.store.now c.law.ensures)
    c.requires.placed

pub own_by-requires-clause-keeps : goal.own_by-requires-clause-keeps
own_by-requires-clause-keeps g c κs within = λ frames back o.
    let s = c.args.store.now in
    let own = own_frames s c.law.ensures in
    let all = each_scanned c.new-scene.result (all_sent c.args.senders.now) c.args.most o.lent o.left o.long
    (λ i d l. let p = (o.changed i d l).1 in
    changed_part c.new-scene.result (all_sent c.args.senders.now) c.args.most _ p.argument.now _ p.after_call.now p.argument_is p.left
    p.call.0 p.call.1) in
    let w = are_worded s.pages s.frames (length s.pages) c.args.parts.now o.between o.lent o.left own
    c.requires.wordless c.requires.placed o.take
    (scanned_sized c.new-scene.result (all_sent c.args.senders.now) c.args.most o.lent o.left all) in
    ap (λ (fs : List (List ℕ)). map length fs)
    (frames_after s.pages s.frames (length s.pages) c.args.parts.now o.between o.lent o.left frames back own
    c.requires.placed o.take w.matched o.give)
    ∙ puts_sized (frame_slot s.pages) s.frames (flat_parts words_in o.left) w.long

pub own_by-requires-clause-still : goal.own_by-requires-clause-still
own_by-requires-clause-still g c κs within = λ between lent left take changed long.
    let s = c.args.store.now in
    let all = each_scanned c.new-scene.result (all_sent c.args.senders.now) c.args.most lent left long
    (λ i d l. let p = (changed i d l).1 in
    changed_part c.new-scene.result (all_sent c.args.senders.now) c.args.most _ p.argument.now _ p.after_call.now p.argument_is p.left
    p.call.0 p.call.1) in
    let w = are_worded s.pages s.frames (length s.pages) c.args.parts.now between lent left
    (own_frames s c.law.ensures) c.requires.wordless c.requires.placed take
    (scanned_sized c.new-scene.result (all_sent c.args.senders.now) c.args.most lent left all) in
    placed_short (length s.pages) 0 left (records_small s c.law.ensures)
    (matched_placed (length s.pages) 0 c.args.parts.now left w.matched c.requires.placed)

pub returns : goal.returns
returns g c =
    let o = c.own_by.ensures.owns in
    let scene = c.new-scene.ensures ∙ (λ j. record {
      words = (c.of-words.ensures ∙ c.page_words.ensures.value) j;
      nmt = c.args.nmt;
      sides = c.args.sides.now;
      layouts = c.args.layouts.now;
    }) in
    record {
      between = o.between;
      lent = o.lent;
      left = o.left;
      take = o.take;
      scanned = subst (λ s. AllScanned s (all_sent c.args.senders.now) c.args.most o.lent o.left) scene
          (each_scanned c.new-scene.result (all_sent c.args.senders.now) c.args.most o.lent o.left o.long
          (λ i d l. let p = (o.changed i d l).1 in
          changed_part c.new-scene.result (all_sent c.args.senders.now) c.args.most _ p.argument.now _ p.after_call.now p.argument_is p.left
          p.call.0 p.call.1));
      give = o.give;
      same = c.own_by.ensures.same;
    }

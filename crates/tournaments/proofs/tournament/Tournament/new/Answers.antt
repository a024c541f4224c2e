use Rattle.std.proofs.Common.{◌≡◌, ℕ, ◌+◌, ◌-◌, ◌*◌, ◌++◌, ◌∙◌, drop, take, replicate, length, ap, arith}
use Rattle.std.specs.Vec.{with_items}
use Rattle.std.proofs.lemmas.List.{with_items_is}
use Rattle.tournaments.proofs.Trees.{leaf_same, rest_zero}
use Rattle.tournaments.proofs.tournament.Tournament.new.Goals as goal

pub invariant_of-result : goal.invariant_of-result
invariant_of-result c =
    let width = c.size_for-depth.result.1 in
    let filled = c.resize-3.new.self in
    let len : length c.link.new.nodes ≡ length filled.items =
    c.link.ensures.len ∙ ap length c.deref_mut.ensures.value in
    let same : (with_items filled c.link.new.nodes).items ≡ c.link.new.nodes =
    with_items_is filled c.link.new.nodes (omega arith) in
    let leaves : drop width c.link.new.nodes ≡ drop width filled.items =
    c.link.ensures.leaves ∙ ap (drop width) c.deref_mut.ensures.value in
    let copies = c.in_ok-resize-2.ensures.items ∙ ap (λ n. take (width + c.args.count) c.resize.new.self.items
    ++ replicate (width + c.args.count - n) c.args.value) c.in_ok-resize.ensures.len in
    let zeros = c.in_ok-resize-3.ensures.items
    ∙ ap (λ n. take (2 * width) c.resize-2.new.self.items ++ replicate {A = ℕ} (2 * width - n) 0)
    c.in_ok-resize-2.ensures.len in
    record {
      width = c.size_for-depth.ensures.width;
      range = c.size_for-depth.ensures.range;
      sized = rw same (omega (arith, len, c.in_ok-resize-3.ensures.len));
      count = c.size_for-depth.ensures.room;
      tree = rw same c.link.ensures.tree;
      rest = rw same (λ i le. leaf_same filled.items c.link.new.nodes width i leaves (omega arith)
          ∙ rest_zero width c.args.count c.args.value i c.resize.new.self.items c.resize-2.new.self.items
          filled.items (omega (arith, c.in_ok-resize.ensures.len)) copies zeros le);
    }

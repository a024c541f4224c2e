use Rattle.std.proofs.Common.{◌≡◌, ◌<◌, ◌+◌, ◌∙◌, drop, take, length, set, ap, subst, sym, arith}
use Rattle.std.specs.Vec.{with_item, with_items}
use Rattle.std.proofs.lemmas.List.{length-set, with_items_is}
use Rattle.tournaments.proofs.Trees.{length_numbers, number_set, rest_same}
use Rattle.tournaments.proofs.tournament.Tournament.set.Goals as goal

pub invariant_of-self : goal.invariant_of-self
invariant_of-self c =
    let t = c.self.inside in
    let old = c.self.invariant in
    let changed = with_item t.nodes (t.width + c.args.index) c.args.value in
    let len : length c.settle.new.nodes ≡ length t.nodes.items = c.settle.ensures.len
    ∙ ap length c.deref_mut.ensures.value ∙ length-set t.nodes.items (t.width + c.args.index) c.args.value in
    let same : (with_items changed c.settle.new.nodes).items ≡ c.settle.new.nodes =
    with_items_is changed c.settle.new.nodes (omega arith) in
    let leaves :
    drop t.width c.settle.new.nodes ≡ drop t.width (set t.nodes.items (t.width + c.args.index) c.args.value) =
    c.settle.ensures.leaves ∙ ap (drop t.width) c.deref_mut.ensures.value in
    let there = subst (λ vs. c.args.index < length vs) (sym c.self.view_is) c.requires in
    let within : c.args.index < t.count =
    omega (arith, length_numbers t.nodes.items t.width t.count old.sized old.count) in
    record {
      width = old.width;
      range = old.range;
      sized = rw same (len ∙ old.sized);
      count = old.count;
      tree = rw same c.settle.ensures.tree;
      rest = rw same (λ i le. rest_same t.nodes.items c.settle.new.nodes t.width t.count c.args.index c.args.value
          i leaves within le (old.rest i le));
    }

pub returns : goal.returns
returns c =
    let t = c.self.inside in
    let old = c.self.invariant in
    let changed = with_item t.nodes (t.width + c.args.index) c.args.value in
    let len : length c.settle.new.nodes ≡ length t.nodes.items = c.settle.ensures.len
    ∙ ap length c.deref_mut.ensures.value ∙ length-set t.nodes.items (t.width + c.args.index) c.args.value in
    let same : (with_items changed c.settle.new.nodes).items ≡ c.settle.new.nodes =
    with_items_is changed c.settle.new.nodes (omega arith) in
    let leaves :
    drop t.width c.settle.new.nodes ≡ drop t.width (set t.nodes.items (t.width + c.args.index) c.args.value) =
    c.settle.ensures.leaves ∙ ap (drop t.width) c.deref_mut.ensures.value in
    let there = subst (λ vs. c.args.index < length vs) (sym c.self.view_is) c.requires in
    let within : c.args.index < t.count =
    omega (arith, length_numbers t.nodes.items t.width t.count old.sized old.count) in
    ap (λ ys. take t.count (drop t.width ys)) same
    ∙ number_set t.nodes.items c.settle.new.nodes t.width t.count c.args.index c.args.value leaves within
    ∙ ap (λ vs. set vs c.args.index c.args.value) c.self.view_is

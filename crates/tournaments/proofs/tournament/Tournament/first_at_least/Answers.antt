use Rattle.std.proofs.Common.{◌≡◌, ◌^◌, ◌∙◌, get_or, nat_le, position, ap, subst, sym, arith}
use Rattle.std.proofs.Math.Nat.{one-le-pow}
use Rattle.std.proofs.lemmas.List.{get_or_read}
use Rattle.tournaments.specs.Tournaments.{IsFirstFrom}
use Rattle.tournaments.proofs.Trees.{found_first, found_nowhere}
use Rattle.tournaments.proofs.tournament.Tournament.first_at_least.Goals as goal

pub returns-then-index-n : goal.returns-then-index-n
returns-then-index-n c =
    let t = c.self.inside in
    let i = c.self.invariant in
    let root : c.index.result.now ≡ get_or t.nodes.items 1 0 = get_or_read t.nodes.items 1 c.index.result.now
    (omega (arith, i.sized, i.width, one-le-pow t.depth 2 (omega arith))) c.index.ensures 0 in
    found_nowhere t.nodes.items t.depth t.width t.count c.args.n i.width i.sized i.count i.tree
    (omega (arith, root, c.if-index-n.true)) ∙ ap (position (λ v. nat_le c.args.n v)) c.self.view_is

pub returns : goal.returns
returns c =
    let t = c.self.inside in
    let i = c.self.invariant in
    let by_items =
    subst (λ xs. IsFirstFrom xs (2 ^ t.depth) c.args.n c.descend.result) c.deref.ensures.value c.descend.ensures in
    let found = subst (λ w. IsFirstFrom t.nodes.items w c.args.n c.descend.result) (sym i.width) by_items in
    found_first t.nodes.items t.width t.count c.args.n c.descend.result c.requires i.sized i.count i.rest found
    ∙ ap (position (λ v. nat_le c.args.n v)) c.self.view_is

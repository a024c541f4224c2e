use Rattle.std.proofs.Common.{◌≡◌, ◌+◌, ◌∙◌, ap, arith, length, refl, sym}
use Rattle.model.specs.Bits.{of_page}
use Rattle.relocate.proofs.Together.{adds_more, adds_none, all_added, run_to}
use Rattle.relocate.proofs.many.add_page.Goals as goal

pub loop-first-init : goal.loop-first-init
loop-first-init c = record {
  to = c.requires;
  adds = adds_none c.from-page.result c.args.targets.now.items;
  within = omega arith;
}

pub loop-first-preserved : goal.loop-first-preserved
loop-first-preserved c =
    let n = c.run_at-run.result.count in
    let first = c.loop-first.first in
    record {
      to = c.in_ok-add_run.ensures.to c.args.heap.now c.loop-first.invariant.to
          (run_to c.args.heap.now c.from-page.result first c.count_on-count.result c.run_at-run.result.target n
          c.run_at-run.ensures
          (c.count_on-count.ensures.value ∙ ap (λ sides. length (of_page sides c.args.page)) c.sides.ensures
          ∙ ap (λ p. length (of_page c.args.heap.now.sides p)) (sym c.from-page.ensures))
          c.count_on-count.ensures.range);
      adds = adds_more c.from-page.result first (first + n) c.args.targets.now.items c.loop-first.targets.items
          c.add_run.new.targets.items _ c.loop-first.invariant.adds c.in_ok-add_run.ensures.runs refl refl refl;
      within = c.run_at-run.ensures.within;
    }

pub returns-clause-adds : goal.returns-clause-adds
returns-clause-adds c =
    let all : c.loop-first.first ≡ c.count_on-count.result = omega (arith, c.loop-first.invariant.within, c.loop-first-test.false) in
    all_added c.from-page.result c.args.page c.loop-first.first _ c.args.targets.now.items c.loop-first.targets.items
    c.loop-first.invariant.adds c.from-page.ensures
    (all ∙ c.count_on-count.ensures.value ∙ ap (λ sides. length (of_page sides c.args.page)) c.sides.ensures)

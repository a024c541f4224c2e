use Rattle.std.proofs.Common.{sym, subst}
use Rattle.std.specs.List.{All}
use Rattle.std.proofs.lemmas.List.Sorted.{All-permutation}
use Rattle.choosing.specs.Choices.{ArePages}
use Rattle.choosing.proofs.Sums.{all_pages}
use Rattle.choosing.proofs.choosing.choose_found.Goals as goal

pub cut-requires : goal.cut-requires
cut-requires c =
    let h = c.args.heap.now in
    subst (All (ArePages h)) (sym c.deref.ensures.value)
    (All-permutation (ArePages h) _ _ c.in_ok-sort.ensures.permutation
    (subst (All (ArePages h)) (sym c.requires.pages) (all_pages h c.args.percent)))

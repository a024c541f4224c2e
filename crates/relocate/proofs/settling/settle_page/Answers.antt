use Rattle.std.proofs.Common.{◌∙◌, sym, ap, subst, arith}
use Rattle.model.specs.Holding.{AreRising, GoesToPage}
use Rattle.model.specs.Owning.{Each}
use Rattle.model.specs.Stores.{StoreState}
use Rattle.forward.specs.Drafts.{settled}
use Rattle.relocate.proofs.Settlement.{settled_go, settled_rises}
use Rattle.relocate.proofs.settling.settle_page.Goals as goal

pub settle-side-requires-clause-high : goal.settle-side-requires-clause-high
settle-side-requires-clause-high c i n e =
    let h = c.law.ensures.heap in omega (arith, c.requires.high i n e, h.sizes.pages, h.config.pages_high)

pub settle-side-requires-clause-within : goal.settle-side-requires-clause-within
settle-side-requires-clause-within c i p e = omega (
  arith,
  c.requires.ready.within i p e,
  c.page_words-words.ensures.value,
  ap (λ (s : StoreState). s.words) c.memory.ensures,
)

pub raw_set_side-requires-clause-rising : goal.raw_set_side-requires-clause-rising
raw_set_side-requires-clause-rising c =
    let h = c.args.heap.now in
    let words = c.page_words-words.ensures.value ∙ ap (λ (s : StoreState). s.words) c.memory.ensures in
    subst (AreRising h.config.words 0)
    (sym (c.settle-side.ensures ∙ ap (λ w. settled w c.args.targets.now c.args.draft) words))
    (settled_rises h c.args.targets.now c.args.draft c.law.ensures.heap c.requires.ready)

pub raw_set_side-requires-clause-places : goal.raw_set_side-requires-clause-places
raw_set_side-requires-clause-places c =
    let h = c.args.heap.now in
    let words = c.page_words-words.ensures.value ∙ ap (λ (s : StoreState). s.words) c.memory.ensures in
    subst (λ fs. Each fs (GoesToPage h.config))
    (sym (c.settle-side.ensures ∙ ap (λ w. settled w c.args.targets.now c.args.draft) words))
    (settled_go h c.args.targets.now c.args.draft c.law.ensures.heap c.requires.ready c.requires.high)

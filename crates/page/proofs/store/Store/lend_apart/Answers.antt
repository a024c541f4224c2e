use Rattle.std.proofs.Common.{◌∙◌, ℕ, List, Option, Some, refl, sym, ap, subst}
use Rattle.std.proofs.lemmas.Bool.{and_parts, eqb-false, not-true}
use Rattle.model.specs.Stores.{overlay, changed_frame, with_words, words_at}
use Rattle.model.specs.Owning.{IsStore}
use Rattle.model.proofs.Memory.{length_overlaid, own_frame}
use Rattle.page.specs.Views.{store_of}
use Rattle.page.proofs.Keeping.{frame_keeps, words_changed, part_there}
use Rattle.page.proofs.store.Store.lend_apart.Goals as goal

pub lend-requires-clause-apart : goal.lend-requires-clause-apart
lend-requires-clause-apart c e =
    let s = store_of c.self.inside in
    eqb-false c.args.from c.args.to (not-true _ (and_parts _ _ c.requires).0)
    (own_frame s c.args.from c.args.to c.memory-target.result c.self.invariant.store
    (c.memory-source.ensures.value ∙ ap Some e)
    c.memory-target.ensures.value)

pub invariant_of-self-lent : goal.invariant_of-self-lent
invariant_of-self-lent c = λ w.
    let s = store_of c.self.inside in
    let target = c.memory-target.result in
    let ws = c.lend.result.1.now in
    let at = c.lend.ensures.to in
    record {
      size = c.self.invariant.size;
      store = subst (λ (o : Option (List ℕ)). IsStore (record s {
        frames = changed_frame s.frames target o (λ v. overlay v 0 w);
      })) (sym at)
          (frame_keeps s target ws (overlay ws 0 w) c.self.invariant.store at (length_overlaid ws 0 w));
      free = c.self.invariant.free;
      rooms = c.self.invariant.rooms;
      unused = c.self.invariant.unused;
      spare = c.self.invariant.spare;
      usable = c.self.invariant.usable;
    }

pub returns : goal.returns
returns c =
    let s = store_of c.self.inside in
    let target = c.memory-target.result in
    let to = c.memory-target.ensures.value in
    let from = c.memory-source.ensures.value in
    let at = c.lend.ensures.to in (
      (
        refl,
        λ w. ap (λ o. record s { frames = changed_frame s.frames target o (λ v. overlay v 0 w) }) at
            ∙ sym (words_changed s c.args.to target c.lend.result.1.now (λ v. overlay v 0 w) to at)
            ∙ ap (λ t. with_words t c.args.to (λ v. overlay v 0 w)) c.self.view_is,
      ),
      record {
        from = ap (λ t. words_at t c.args.from) (sym c.self.view_is)
            ∙ part_there s c.args.from c.memory-source.result c.lend.result.0.now from c.lend.ensures.from;
        to = ap (λ t. words_at t c.args.to) (sym c.self.view_is)
            ∙ part_there s c.args.to target c.lend.result.1.now to at;
        after = tt;
      },
    )

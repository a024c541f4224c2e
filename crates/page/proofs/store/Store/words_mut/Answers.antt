use Rattle.std.proofs.Common.{◌∙◌, Some, refl, sym, ap}
use Rattle.model.specs.Stores.{overlay, with_words, words_at}
use Rattle.model.proofs.Memory.{length_overlaid}
use Rattle.page.specs.Views.{store_of}
use Rattle.page.proofs.Keeping.{frame_keeps, words_changed, part_there}
use Rattle.page.proofs.store.Store.words_mut.Goals as goal

pub invariant_of-self-lent : goal.invariant_of-self-lent
invariant_of-self-lent c = λ w.
    let s = store_of c.self.inside in
    let frame = c.memory-frame.result in
    let ws = c.frame_mut-words.result.now in
    record {
      size = c.self.invariant.size;
      store = frame_keeps s frame ws (overlay ws 0 w) c.self.invariant.store c.frame_mut-words.ensures.value
          (length_overlaid ws 0 w);
      free = c.self.invariant.free;
      rooms = c.self.invariant.rooms;
      unused = c.self.invariant.unused;
      spare = c.self.invariant.spare;
      usable = c.self.invariant.usable;
    }

pub returns : goal.returns
returns c =
    let s = store_of c.self.inside in
    let frame = c.memory-frame.result in
    let ws = c.frame_mut-words.result.now in
    let at = c.memory-frame.ensures.value in
    let there = c.frame_mut-words.ensures.value in (
      (
        refl,
        λ w. sym (words_changed s c.args.page frame ws (λ v. overlay v 0 w) at there)
            ∙ ap (λ t. with_words t c.args.page (λ v. overlay v 0 w)) c.self.view_is,
      ),
      record {
        value = ap (λ t. words_at t c.args.page) (sym c.self.view_is) ∙ part_there s c.args.page frame ws at there
            ∙ ap Some (sym c.words_mut.ensures.value);
        after = tt;
      },
    )

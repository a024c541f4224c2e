use Rattle.std.proofs.Common.{◌≤◌, ◌∙◌, length, refl, sym, ap, subst}
use Rattle.model.specs.Stores.{StoreState, overlay, with_words, words_at}
use Rattle.model.proofs.Memory.{length_overlaid, words_sized}
use Rattle.page.specs.Views.{store_of}
use Rattle.page.proofs.Keeping.{frame_keeps, words_changed, part_there, length_part}
use Rattle.page.proofs.store.Store.part_mut.Goals as goal

pub invariant_of-self-lent : goal.invariant_of-self-lent
invariant_of-self-lent c = λ w.
    let s = store_of c.self.inside in
    let words = c.frame_mut-words.ensures.value in
    record {
      size = c.self.invariant.size;
      store = frame_keeps s c.open_frame-frame.result _ _ c.self.invariant.store words
          (length_overlaid c.frame_mut-words.result.now c.args.buffer.now.next w);
      free = c.self.invariant.free;
      rooms = c.self.invariant.rooms;
      unused = c.self.invariant.unused;
      spare = c.self.invariant.spare;
      usable = c.self.invariant.usable;
    }

pub run_mut-requires-clause-within : goal.run_mut-requires-clause-within
run_mut-requires-clause-within c =
    let s = store_of c.self.inside in
    let words = c.frame_mut-words.ensures.value in
    let sized = words_sized s c.args.buffer.now.page _ c.self.invariant.store
    (part_there s c.args.buffer.now.page c.open_frame-frame.result _ c.open_frame-frame.ensures.value words) in
    rw sized (subst (λ (t : StoreState). c.args.buffer.now.end ≤ t.words) (sym c.self.view_is) c.requires.end)

pub returns : goal.returns
returns c =
    let s = store_of c.self.inside in
    let words = c.frame_mut-words.ensures.value in
    let sized = words_sized s c.args.buffer.now.page _ c.self.invariant.store
    (part_there s c.args.buffer.now.page c.open_frame-frame.result _ c.open_frame-frame.ensures.value words) in
    let end : c.args.buffer.now.end ≤ length c.frame_mut-words.result.now =
    rw sized (subst (λ (t : StoreState). c.args.buffer.now.end ≤ t.words) (sym c.self.view_is) c.requires.end) in
    let part = ap (λ t. words_at t c.args.buffer.now.page) (sym c.self.view_is)
    ∙ part_there s c.args.buffer.now.page c.open_frame-frame.result _ c.open_frame-frame.ensures.value words in (
      (
        refl,
        λ w. sym (words_changed s c.args.buffer.now.page c.open_frame-frame.result c.frame_mut-words.result.now
            (λ ws. overlay ws c.args.buffer.now.next w) c.open_frame-frame.ensures.value words)
            ∙ ap (λ t. with_words t c.args.buffer.now.page (λ ws. overlay ws c.args.buffer.now.next w)) c.self.view_is,
      ),
      record {
        value = rw part c.run_mut.ensures.value;
        len = ap length c.run_mut.ensures.value ∙ length_part c.frame_mut-words.result.now c.args.buffer.now.next
            c.args.buffer.now.end c.requires.order end;
        after = tt;
      },
    )

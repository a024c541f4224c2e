use Rattle.std.proofs.Common.{◌≡◌, ◌∙◌, ℕ, List, length, set, Some, refl, sym, ap, arith}
use Rattle.std.specs.List.{slice_get}
use Rattle.std.proofs.Math.ListN.{length-set}
use Rattle.model.specs.Stores.{overlay, changed_frame}
use Rattle.model.proofs.Lists.{get_read, get_set_other}
use Rattle.page_frames.proofs.Aside.{back_beside}
use Rattle.page_frames.proofs.frames.Frames.lend.Goals as goal

pub returns : goal.returns
returns c =
    let v = c.args.self.now in
    let whole = ◌∙◌ {A = List (List ℕ)} c.put_back.ensures.frames c.self.view_is in
    let out : c.take_out.new.frames.items ≡ set v c.args.from c.put_back.new.held = c.take_out.ensures.frames
    ∙ ap (λ xs. set xs c.args.from c.put_back.new.held) whole in
    let held : slice_get v c.args.from ≡ Some c.take_out.new.held =
    ap (λ xs. slice_get xs c.args.from) (sym whole) ∙ c.take_out.ensures.held in
    let size : length c.take_out.new.frames.items ≡ length v = ap length out ∙ length-set v c.args.from _ in
    let there = get_read c.take_out.new.frames.items c.args.to c.index_mut-frame.result.now
    (omega (arith, size, c.requires.to_there)) c.index_mut-frame.ensures.value in
    let to : slice_get v c.args.to ≡ Some c.index_mut-frame.result.now =
    sym (get_set_other v c.args.from c.args.to c.put_back.new.held (λ e. c.requires.apart (sym e)))
    ∙ ap (λ xs. slice_get xs c.args.to) (sym out) ∙ there in (
      (
        refl,
        λ w. ap (λ xs. set (set xs c.args.to (overlay c.index_mut-frame.result.now 0 w)) c.args.from
            c.take_out.new.held) out
            ∙ back_beside v c.args.from c.args.to _ _ c.take_out.new.held c.requires.apart held
            ∙ sym (ap (λ o. changed_frame v c.args.to o (λ ws. overlay ws 0 w)) to),
      ),
      record {
        from = held ∙ ap Some (sym c.words-from.ensures);
        to = to ∙ ap Some (sym c.words_mut-to.ensures.value);
        after = tt;
      },
    )

use Rattle.std.proofs.Common.{◌∙◌, ℕ, List, length, set, refl, sym, ap, arith}
use Rattle.std.specs.List.{slice_get}
use Rattle.std.proofs.Math.ListN.{length-set}
use Rattle.std.proofs.lemmas.List.{set_past}
use Rattle.model.proofs.Lists.{get_read}
use Rattle.page_frames.proofs.frames.Frames.frame_mut.Goals as goal

pub returns : goal.returns
returns c =
    let v = c.args.self.now in
    let whole = ◌∙◌ {A = List (List ℕ)} c.put_back.ensures.frames c.self.view_is in
    let size = ap length whole in
    let there = get_read c.put_back.new.frames.items c.args.number c.index_mut.result.now
    (omega (arith, size, c.requires)) c.index_mut.ensures.value in (
      (
        refl,
        λ w. set_past (set c.put_back.new.frames.items c.args.number w) c.len-self-inside.result c.put_back.new.held
            (omega (arith, c.len-self-inside.ensures, length-set c.put_back.new.frames.items c.args.number w))
            ∙ ap (λ xs. set xs c.args.number w) whole,
      ),
      record { value = ap (λ xs. slice_get xs c.args.number) (sym whole) ∙ there; after = tt },
    )

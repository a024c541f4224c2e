use Rattle.std.proofs.Common.{◌∙◌, ◌<◌, List, ℕ, cond, length, set, subst, sym, ap, arith}
use Rattle.std.specs.Prelude.{IfSome}
use Rattle.std.proofs.Math.ListN.{length-set}
use Rattle.std.specs.List.{slice_get}
use Rattle.model.specs.Stores.{changed_frame}
use Rattle.model.proofs.Lists.{get_read}
use Rattle.page_frames.proofs.Aside.{put_beside, put_within}
use Rattle.page_frames.proofs.frames.Frames.set_at_once.Goals as goal

pub returns : goal.returns
returns c =
    let xs = c.self.inside.frames.items in
    let i = c.args.number in
    let k = c.args.offset in
    let a = c.self.inside.held_at in
    let held = c.self.inside.held in
    let x = c.index_mut-frame.result.now in
    let size = ap length c.self.view_is in
    let within : i < length xs = omega (arith, size, length-set xs a held, c.requires) in
    let there = get_read xs i x within c.index_mut-frame.ensures.value in
    record {
      value = put_beside xs i a k c.args.value x c.put.new.self held c.put.result c.self.invariant there
          c.put.ensures.done c.put.ensures.value
          ∙ ap (λ v. cond c.put.result (changed_frame v i (slice_get v i) (λ ws. set ws k c.args.value)) v) c.self.view_is;
      within = λ e. subst (λ (v : List (List ℕ)). IfSome (slice_get v i) (λ ws. k < length ws)) c.self.view_is
          (put_within xs i a k x held c.self.invariant there (sym e ∙ c.put.ensures.done));
    }

use Rattle.std.proofs.Common.{length, refl, ◌∙◌, ap, sym}
use Rattle.std.specs.Prelude.{List, slice_get}
use Rattle.model.specs.declared.records.Global.{Global}
use Rattle.model.proofs.Lists.{get_read}
use Rattle.fast_paths.proofs.AtOnce.{found}
use Rattle.fast_paths.proofs.AtOnceGlobals.{global_read}
use Rattle.fast_paths.proofs.globals.global_at_once.Goals as goal

pub returns : goal.returns
returns c =
    global_read c.args.heap.now c.args.thread c.args.target c.args.global c.in_ok-_target._target
    c.in_ok-global.global.now.word c.in_ok-global.global.now c.in_ok-_target.ensures
    (ap (λ (gs : List Global). slice_get gs c.args.global) (sym c.globals.ensures) ∙ get_read c.globals.result.now
    c.args.global c.in_ok-global.global.now
    (found c.args.global (length c.globals.result.now) c.in_ok-global.ensures.lookup.0) c.in_ok-global.ensures.lookup.1)
    refl

use Rattle.std.proofs.Common.{length, ◌∙◌, ap, sym}
use Rattle.std.specs.Prelude.{List, slice_get, is_some}
use Rattle.std.proofs.lemmas.Bool.{or_parts}
use Rattle.model.specs.States.{ThreadState}
use Rattle.model.proofs.Lists.{no_some, get_read}
use Rattle.fast_paths.proofs.AtOnce.{held_at_once, found}
use Rattle.fast_paths.proofs.at_once.held_at_once.Goals as goal

pub returns : goal.returns
returns c =
    let x : ThreadState = c.in_ok-record.record.now in
    let free = or_parts x.parked (is_some x.barrier) (sym c.is_held.ensures ∙ c.if-is_held.false) in
    held_at_once c.args.heap.now c.args.thread c.args.register c.in_ok-record.record.now c.in_ok-held.held
    c.law.ensures.heap
    (ap (λ (ts : List ThreadState). slice_get ts c.args.thread) (sym c.threads.ensures) ∙ get_read c.threads.result.now
    c.args.thread c.in_ok-record.record.now
    (found c.args.thread (length c.threads.result.now) c.in_ok-record.ensures.lookup.0) c.in_ok-record.ensures.lookup.1)
    free.0 (no_some c.in_ok-record.record.now.barrier free.1)
    (sym c.find_register.ensures ∙ c.in_ok-held.was)

use Rattle.std.proofs.Common.{length, ◌∙◌, ap, sym}
use Rattle.std.specs.Prelude.{List, slice_get}
use Rattle.model.specs.States.{ThreadState}
use Rattle.model.proofs.Lists.{get_read}
use Rattle.fast_paths.proofs.AtOnce.{source_at_once, found}
use Rattle.fast_paths.proofs.at_once.source_at_once.Goals as goal

pub returns : goal.returns
returns c =
    source_at_once c.args.heap.now c.args.thread c.args.register c.in_ok-record.record.now c.in_ok-word.word
    c.law.ensures.heap
    (ap (λ (ts : List ThreadState). slice_get ts c.args.thread) (sym c.threads.ensures) ∙ get_read c.threads.result.now
    c.args.thread c.in_ok-record.record.now
    (found c.args.thread (length c.threads.result.now) c.in_ok-record.ensures.lookup.0) c.in_ok-record.ensures.lookup.1)
    (sym c.find_register.ensures ∙ c.in_ok-word.was) (c.is_free.ensures c.if-not-is_free.false)

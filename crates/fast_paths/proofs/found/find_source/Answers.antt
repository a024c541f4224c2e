use Rattle.std.proofs.Common.{◌≡◌, length, ◌∙◌, ap, subst, sym}
use Rattle.std.specs.Prelude.{List, Some, IfSome, slice_get}
use Rattle.model.specs.Registers.{register_of}
use Rattle.model.specs.States.{Reference, ThreadState, flat}
use Rattle.model.proofs.Lists.{get_read}
use Rattle.page.specs.Whole.{IsRecorded}
use Rattle.fast_paths.proofs.AtOnce.{register_where, source_at_once, found}
use Rattle.fast_paths.proofs.found.find_source.Goals as goal

pub is_usable-requires : goal.is_usable-requires
is_usable-requires c =
    let h = c.args.heap.now in
    let there : slice_get h.threads c.args.thread ≡ Some c.in_ok-record.record.now =
    ap (λ (ts : List ThreadState). slice_get ts c.args.thread) (sym c.threads.ensures) ∙ get_read c.threads.result.now
    c.args.thread c.in_ok-record.record.now
    (found c.args.thread (length c.threads.result.now) c.in_ok-record.ensures.lookup.0) c.in_ok-record.ensures.lookup.1 in
    let held : register_of h c.args.thread c.args.register ≡ c.in_ok-word.word =
    register_where h c.args.thread c.args.register c.in_ok-record.record.now there
    ∙ ap flat (sym c.find_register.ensures ∙ c.in_ok-word.was) in
    subst (λ (w : Reference). IfSome w (λ v. IsRecorded h.store v.0)) held
    (c.requires.registers c.args.thread c.args.register)

pub returns : goal.returns
returns c =
    source_at_once c.args.heap.now c.args.thread c.args.register c.in_ok-record.record.now c.in_ok-word.word
    c.law.ensures.heap
    (ap (λ (ts : List ThreadState). slice_get ts c.args.thread) (sym c.threads.ensures) ∙ get_read c.threads.result.now
    c.args.thread c.in_ok-record.record.now
    (found c.args.thread (length c.threads.result.now) c.in_ok-record.ensures.lookup.0) c.in_ok-record.ensures.lookup.1)
    (sym c.find_register.ensures ∙ c.in_ok-word.was) (c.is_usable.ensures c.if-not-is_usable.false)

use Rattle.std.proofs.Common.{arith, subst, ◌≡◌, set}
use Rattle.model.specs.declared.records.Counter.TheVariants as counters
use Rattle.model.specs.States.{ThreadState, change_at}
use Rattle.model.specs.Threads.{set_barrier_of, set_loaded_of}
use Rattle.thread_records.proofs.AtOnce.{changed_there}
use Rattle.thread_records.proofs.threads.Threads.set_read.Goals as goal

pub returns-then-thread-len : goal.returns-then-thread-len
returns-then-thread-len c = λ b.
    let f : ThreadState → ThreadState = λ x. set_loaded_of c.args.register c.args.word
    (set_barrier_of b counters.Loads x) in
    subst (λ ts. set c.self.inside.list.items c.args.thread c.set_read.new.self ≡ change_at ts c.args.thread f)
    c.self.view_is
    (changed_there c.self.inside.list.items c.args.thread c.index_mut-record.result.now c.set_read.new.self f
    (omega (arith, c.if-thread-len.true, c.len.ensures)) c.index_mut-record.ensures.value (c.set_read.ensures.value b))

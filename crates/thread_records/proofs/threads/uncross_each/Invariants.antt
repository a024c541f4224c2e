use Rattle.std.proofs.Common.{false}
use Rattle.model.specs.Threads.{set_crossed_of}
use Rattle.thread_records.proofs.Looping.{AreMapped}
use Rattle.thread_records.proofs.threads.uncross_each.Given as goal

abbrev pub invariant-loop-thread : goal.invariant-loop-thread
invariant-loop-thread l = AreMapped _ (set_crossed_of false) l.fn.threads l.threads l.thread-index

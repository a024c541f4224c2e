use Rattle.std.proofs.Common.{◌≡◌, replicate}
use Rattle.model.specs.First.{blank_thread}
use Rattle.thread_records.proofs.threads.blank_threads.Given as goal

abbrev pub invariant-loop-thread : goal.invariant-loop-thread
invariant-loop-thread l = l.threads.items ≡ replicate l._thread (blank_thread l.registers)

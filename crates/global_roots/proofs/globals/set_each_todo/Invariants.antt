use Rattle.model.specs.Cycles.{set_todo_of}
use Rattle.thread_records.proofs.Looping.{AreMapped}
use Rattle.global_roots.proofs.globals.set_each_todo.Given as goal

abbrev pub invariant-loop-global : goal.invariant-loop-global
invariant-loop-global l = AreMapped _ (set_todo_of) l.fn.globals l.globals l.global-index

-- The text that a run of a script prints.
use Rattle.std.specs.Prelude.{ℕ, ◌+◌, List, [], ◌∷◌, ◌++◌, length, Result, Ok, Err}
use Rattle.model.specs.declared.steps.Actor.{Actor}
use Rattle.model.specs.declared.steps.Actor.TheVariants.{Thread, Worker}
use Rattle.model.specs.declared.steps.Step.{Step}
use Rattle.model.specs.declared.steps.Refusal.{Refusal}
use Rattle.cycle.specs.Books.{BookState, Reply, first_book}
use Rattle.cycle.specs.Drains.{drain, verdict}
use Rattle.cycle.specs.Loads.{Told, whole_load, one_step}
use Rattle.parser.specs.declared.order.Command.{Command}
use Rattle.parser.specs.declared.order.Then.{Then}
use Rattle.parser.specs.declared.order.Then.TheVariants as thens
use Rattle.parser.specs.Orders.{step_of, then_of}
use Rattle.parser.specs.Reading.{ScriptValue}
use Rattle.parser.specs.Spelling.{with_newline}
use Rattle.reporting.specs.Reports.{report_text}
use Rattle.reporting.specs.Texts.{line_text, drained_line}

-- the commands

-- a drain of a worker; a thread drains nothing, and its step is rejected
abbrev pub drain_by : BookState → Actor → Step → Told
drain_by b (Worker w) step = drain b w
drain_by b (Thread t) step = one_step b (Thread t) step

-- the effect of a command on a recorded heap, by what follows its step
abbrev pub done_with : BookState → Command → Then → Told
done_with b c thens.Nothing = one_step b c.actor (step_of c.order)
done_with b c thens.LoadsEnd = whole_load b c.actor (step_of c.order)
done_with b c thens.Drains = drain_by b c.actor (step_of c.order)
done_with b c thens.Cycles = one_step b c.actor (step_of c.order)
done_with b c thens.Rolls = one_step b c.actor (step_of c.order)

-- the effect of a command on a recorded heap, and its steps' replies: one step, or those of a complete load or a
-- drain
unfoldable pub done : BookState → Command → Told
done b c = done_with b c (then_of c.order)

-- the line of command n, a drain that ended with this result and number of replies
abbrev pub drain_line : ℕ → Actor → ℕ → Result Unit Refusal → List ℕ
drain_line n actor count (Ok u) = drained_line n actor count
drain_line n actor count (Err e) = line_text n actor (Err e ∷ [])

-- the line of command n, by what follows its step: the replies to all its steps; but for a drain how many were done,
-- or the error that ended it
abbrev pub line_with : ℕ → Actor → Then → List Reply → List ℕ
line_with n actor thens.Nothing replies = line_text n actor replies
line_with n actor thens.LoadsEnd replies = line_text n actor replies
line_with n actor thens.Drains replies = drain_line n actor (length replies) (verdict replies)
line_with n actor thens.Cycles replies = line_text n actor replies
line_with n actor thens.Rolls replies = line_text n actor replies

-- the line of command n, with the replies to its steps
abbrev pub command_line : ℕ → Command → List Reply → List ℕ
command_line n c replies = line_with n c.actor (then_of c.order) replies

-- the lines of commands, of which the first is number n
unfoldable pub lines_text : ℕ → BookState → List Command → List ℕ
lines_text n b [] = []
lines_text n b (c ∷ cs) = command_line n c (done b c).replies ++ lines_text (n + 1) (done b c).book cs

-- the recorded heap after commands
unfoldable pub book_after : BookState → List Command → BookState
book_after b [] = b
book_after b (c ∷ cs) = book_after (done b c).book cs

-- the report of a recorded heap
abbrev pub report_of : BookState → List ℕ
report_of b = report_text b.heap b.history

-- the lines of commands on a recorded heap, then the report
abbrev pub told_text : BookState → List Command → List ℕ
told_text b commands = lines_text 1 b commands ++ report_of (book_after b commands)

-- the lines of a script's commands on a new recorded heap, then the report
unfoldable pub output_text : ScriptValue → List ℕ
output_text s = told_text (first_book s.config) s.commands

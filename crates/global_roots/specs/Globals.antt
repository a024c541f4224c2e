-- How many globals are grey: still to be marked.
use Rattle.std.specs.Prelude.{ℕ, Bool, cond, List, count_by}
use Rattle.model.specs.declared.records.Global.{Global}

-- a global is grey
abbrev pub is_todo : Global → Bool
is_todo g = g.todo

-- how much it adds to the count of grey globals
abbrev pub counted_todo : Global → ℕ
counted_todo g = cond (is_todo g) 1 0

-- how many of these globals are grey
abbrev pub todo_count : List Global → ℕ
todo_count globals = count_by is_todo globals

-- Runs of many pages, whose objects are copied at once.
use Rattle.std.specs.Prelude.{◌≡◌, ℕ, ◌+◌, ◌≤◌, List, [], ◌∷◌}
use Rattle.model.specs.Owning.{Each}
use Rattle.model.specs.States.{HeapState}
use Rattle.model.specs.declared.limits.TheConstants.{MOST_WORDS}
use Rattle.page.specs.declared.targets.PageRun.{PageRun}
use Rattle.page.specs.declared.targets.Target.{Target}
use Rattle.heap.specs.Runs.{IsRunOn, with_entries}

-- the heap after the objects of runs were copied, one run after another
abbrev pub with_runs : HeapState → List PageRun → HeapState
with_runs h [] = h
with_runs h (r ∷ rs) = with_runs (with_entries h r.page r.first r.count) rs

-- a run goes to page n
pub record IsRunTo (h : HeapState) (n : ℕ) (r : PageRun) : Type 0 where
  pub run : IsRunOn h r.page n r.first r.count
  pub small : r.first + r.count ≤ MOST_WORDS

-- all runs of targets go there
abbrev pub AreRunsTo : HeapState → List Target → Type 0
AreRunsTo h ts = Each ts (λ (t : Target). Each t.runs.items (IsRunTo h t.page))

-- a run of the same page begins after another one's end
abbrev pub IsAfter : PageRun → PageRun → Type 0
IsAfter r q = q.page ≡ r.page → r.first + r.count ≤ q.first

-- runs of one page follow each other
abbrev pub AreInOrder : List PageRun → Type 0
AreInOrder [] = Unit {0}
AreInOrder (r ∷ rs) = Each rs (IsAfter r) × AreInOrder rs

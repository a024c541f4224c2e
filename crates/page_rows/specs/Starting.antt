-- Where copies start, and that objects are copied, noted for many runs.
use Rattle.std.specs.Prelude.{◌≡◌, ℕ, zero, suc, ◌+◌, ◌-◌, ◌%◌, ◌<◌, ◌≤◌, Bool, true, false, List, [], ◌∷◌, get_or, map}
use Rattle.std.specs.Prelude.{Option, Some, None, slice_get, slice_set, if◌then◌else◌}
use Rattle.model.specs.declared.limits.TheConstants.{MOST_WORDS}
use Rattle.model.specs.declared.records.Forwarding.{Forwarding}
use Rattle.model.specs.Bits.{of_page, put_bit}
use Rattle.model.specs.Owning.{Each}
use Rattle.forward.specs.Noting.{noted_range}
use Rattle.page.specs.declared.targets.PageRun.{PageRun}
use Rattle.page.specs.declared.targets.Target.{Target}
use Rattle.page_rows.specs.Runs.{GoTo, started_from}

-- runs are no longer than a page
abbrev pub AreSmall : List PageRun → Type 0
AreSmall rs = Each rs (λ r. r.first + r.count ≤ MOST_WORDS)

-- what x is after each of some runs has changed it
abbrev pub by_runs : {X : Type 0} → (PageRun → X → X) → List PageRun → X → X
by_runs f [] x = x
by_runs f (r ∷ rs) x = by_runs f rs (f r x)

-- the bits of starts after the objects of a run are copied
abbrev pub run_started : ℕ → List (List Forwarding) → PageRun → List (List Bool) → List (List Bool)
run_started words sides r starts = started_from words (of_page sides r.page) r.first r.count starts

-- the forwarding tables after it is noted that they are
abbrev pub run_noted : PageRun → List (List Forwarding) → List (List Forwarding)
run_noted r sides = noted_range r.page r.first r.count sides

-- the bits of one page after the object of an entry is copied there, if there is one that was uncopied
abbrev pub entry_in_row : ℕ → Option Forwarding → List Bool → List Bool
entry_in_row words None row = row
entry_in_row words (Some f) row = if f.copied then row else put_bit (f.to % words) true row

-- the same of k entries of a forwarding table, from number e on
abbrev pub entries_in_row : ℕ → List Forwarding → ℕ → ℕ → List Bool → List Bool
entries_in_row words side e zero row = row
entries_in_row words side e (suc k) row =
    entries_in_row words side (e + 1) k (entry_in_row words (slice_get side e) row)

-- the same of a run
abbrev pub run_in_row : ℕ → List (List Forwarding) → PageRun → List Bool → List Bool
run_in_row words sides r row = entries_in_row words (of_page sides r.page) r.first r.count row

-- What is read while threads note starts: the number of words of a page, and forwarding tables.
pub record PlacesState : Type 0 where
  pub size : ℕ
  pub sides : List (List Forwarding)

-- a target after the starts of its copies are noted
abbrev pub with_starts : PlacesState → Target → Target
with_starts s t = record t { starts = by_runs (run_in_row s.size s.sides) t.runs.items t.starts }

-- a target without what it tells of starts
abbrev pub without_starts : Target → Target
without_starts t = record t { starts = [] }

-- the numbers of targets rise from one above n on
abbrev pub AreRisingFrom : ℕ → List Target → Type 0
AreRisingFrom n [] = Unit {0}
AreRisingFrom n (t ∷ ts) = (n < t.page) × AreRisingFrom t.page ts

-- the entries of the runs of targets go to them
abbrev pub AllGoTo : ℕ → List (List Forwarding) → List Target → Type 0
AllGoTo words sides ts = Each ts (λ (t : Target). Each t.runs.items
    (λ (r : PageRun). GoTo words t.page (of_page sides r.page) r.first r.count))

-- bitmaps of pages were swapped with those of targets, one after another
abbrev pub SwapsStarts : List (List Bool) → List Target → List (List Bool) → List Target → Type 0
SwapsStarts rows [] after [] = after ≡ rows
SwapsStarts rows [] after (u ∷ us) = true ≡ false
SwapsStarts rows (t ∷ ts) after [] = true ≡ false
SwapsStarts rows (t ∷ ts) after (u ∷ us) =
    (u ≡ record t { starts = get_or rows (t.page - 1) t.starts })
    × SwapsStarts (slice_set rows (t.page - 1) t.starts) ts after us

-- targets got their bitmaps, the starts of their copies were noted, and they gave the bitmaps back
pub record NotesStarts (s : PlacesState) (rows : List (List Bool)) (targets : List Target) (after : List (List Bool))
    (back : List Target) : Type 0 where
  pub between : List (List Bool)
  pub lent : List Target
  pub left : List Target
  pub take : SwapsStarts rows targets between lent
  pub note : left ≡ map (with_starts s) lent
  pub give : SwapsStarts between left after back

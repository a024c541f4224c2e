-- Targets that are filled at once, each with the objects of the runs that go there.
use Rattle.std.specs.Prelude.{◌≡◌, ℕ, ◌+◌, ◌-◌, ◌<◌, ◌≤◌, ◌==◌, ◌++◌, length, List, [], ◌∷◌, Option, None, Some, slice_get}
use Rattle.std.specs.Prelude.{Bool, true, false, option_and_then, if◌then◌else◌}
use Rattle.layout.specs.declared.shape.Layout.{Layout}
use Rattle.model.specs.Bits.{of_page}
use Rattle.model.specs.Owning.{Each}
use Rattle.model.specs.Stores.{StoreState, changed_in, frame_in, is_from, state_in}
use Rattle.model.specs.declared.records.Forwarding.{Forwarding}
use Rattle.model.specs.declared.records.Page.{Page}
use Rattle.pieces.specs.Pieces.{SourceState, laid_from}
use Rattle.page.specs.Owned.{words_or}
use Rattle.page.specs.Runs.{known, with_run}
use Rattle.page.specs.declared.targets.PageRun.{PageRun}
use Rattle.page.specs.declared.targets.Target.{Target}

-- the store after the objects of runs were copied to page n, one run after another
abbrev pub with_runs : StoreState → List (List Forwarding) → List Layout → ℕ → List PageRun → StoreState
with_runs s sides ls n [] = s
with_runs s sides ls n (r ∷ rs) =
    with_runs (with_run s r.page n (of_page sides r.page) ls r.first r.count) sides ls n rs

-- the same for targets, one target after another
abbrev pub all_filled : StoreState → List (List Forwarding) → List Layout → List Target → StoreState
all_filled s sides ls [] = s
all_filled s sides ls (t ∷ ts) = all_filled (with_runs s sides ls t.page t.runs.items) sides ls ts

-- the runs of targets, one target after another
abbrev pub runs_of : List Target → List PageRun
runs_of [] = []
runs_of (t ∷ ts) = t.runs.items ++ runs_of ts

-- the entries of a run exist
abbrev pub HasEntries : List (List Forwarding) → PageRun → Type 0
HasEntries sides r = r.first + r.count ≤ length (of_page sides r.page)

-- so do those of all runs of a target
abbrev pub AllHaveEntries : List (List Forwarding) → Target → Type 0
AllHaveEntries sides t = Each t.runs.items (HasEntries sides)

-- the record of page n
abbrev pub page_in : List Page → ℕ → Option Page
page_in records n = if n == 0 then None else slice_get records (n - 1)

-- page n is a From page
abbrev pub is_from_in : List Page → ℕ → Bool
is_from_in records n = is_from (state_in (page_in records n))

-- objects are copied out of From pages to a page that isn't one
pub record IsOutside (records : List Page) (t : Target) : Type 0 where
  pub target : is_from_in records t.page ≡ false
  pub sources : Each t.runs.items (λ r. is_from_in records r.page ≡ true)

-- the same for several targets, whose numbers rise from one above n on
abbrev pub AreOutside : List Page → ℕ → List Target → Type 0
AreOutside records n [] = Unit {0}
AreOutside records n (t ∷ ts) = (n < t.page) × IsOutside records t × AreOutside records t.page ts

-- What is read while targets are filled: the number of words of a page, the records of pages, frames, forwarding tables
-- and layouts.
pub record SourcesState : Type 0 where
  pub size : ℕ
  pub pages : List Page
  pub frames : List (List ℕ)
  pub sides : List (List Forwarding)
  pub layouts : List Layout

-- the words of page n; none if it has no memory
abbrev pub words_on : SourcesState → ℕ → List ℕ
words_on s n = known (option_and_then (slice_get s.frames) (frame_in (page_in s.pages n)))

-- page n as the source of copies
abbrev pub source_on : SourcesState → ℕ → SourceState
source_on s n = record { size = s.size; words = words_on s n; side = of_page s.sides n; layouts = s.layouts }

-- the words of a target after the objects of runs were copied there
abbrev pub laid_runs : SourcesState → List PageRun → List ℕ → List ℕ
laid_runs s [] ws = ws
laid_runs s (r ∷ rs) ws = laid_runs s rs (laid_from (source_on s r.page) 0 r.first r.count ws)

-- a target after its runs were copied there
abbrev pub filled : SourcesState → Target → Target
filled s t = record t { frame = laid_runs s t.runs.items t.frame }

-- frames were swapped with those of targets, one after another
abbrev pub SwapsTargets : List Page → List (List ℕ) → List Target → List (List ℕ) → List Target → Type 0
SwapsTargets records frames [] after [] = after ≡ frames
SwapsTargets records frames [] after (u ∷ us) = true ≡ false
SwapsTargets records frames (t ∷ ts) after [] = true ≡ false
SwapsTargets records frames (t ∷ ts) after (u ∷ us) =
    (u ≡ record t { frame = words_or frames (frame_in (page_in records t.page)) t.frame })
    × SwapsTargets records (changed_in frames (frame_in (page_in records t.page)) (λ old. t.frame)) ts after us

-- each target was filled
pub record AreFilled (s : SourcesState) (ts us : List Target) : Type 0 where
  pub long : length us ≡ length ts
  pub each : (i : ℕ) (t : Target) → slice_get ts i ≡ Some t → slice_get us i ≡ Some (filled s t)

-- targets got their frames, were filled, and gave the frames back
pub record FillsFrames (size : ℕ) (records : List Page) (sides : List (List Forwarding)) (ls : List Layout)
    (frames : List (List ℕ)) (targets : List Target) (after : List (List ℕ)) (back : List Target) : Type 0 where
  pub between : List (List ℕ)
  pub lent : List Target
  pub left : List Target
  pub take : SwapsTargets records frames targets between lent
  pub fill : AreFilled (record { size = size; pages = records; frames = between; sides = sides; layouts = ls }) lent left
  pub give : SwapsTargets records between left after back

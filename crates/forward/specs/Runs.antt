-- The places of a page's objects, by runs: consecutive objects that go to one target, one directly after the other.
use Rattle.std.specs.Prelude.{ℕ, ◌+◌, ◌-◌, ◌^◌, ◌<◌, ◌≤◌, ◌==◌, ◌++◌, List, [], ◌∷◌, nat_le, if◌then◌else◌}
use Rattle.forward.specs.Sizes.{words_before}
use Rattle.forward.specs.declared.runs.Run.{Run}

-- the place of n words after what ends at a place: there, or at the head of the next target if they don't fit
abbrev pub next_place : ℕ → ℕ × ℕ → ℕ → ℕ × ℕ
next_place words end n = if nat_le (end.1 + n) words then end else (end.0 + 1, 0)

-- the run of object i: the last one that doesn't begin after it
abbrev pub run_of : Run → List Run → ℕ → Run
run_of r [] i = r
run_of r (q ∷ qs) i = run_of (if nat_le q.first i then q else r) qs i

-- the place of an object in its run, if the page's objects before it have b words
abbrev pub place_in : Run → ℕ → ℕ × ℕ
place_in r b = (r.target, r.offset + (b - r.before))

-- the places of objects of these sizes, from number i on, if those before have b words
abbrev pub places_in : Run → List Run → ℕ → ℕ → List ℕ → List (ℕ × ℕ)
places_in r rs i b [] = []
places_in r rs i b (n ∷ ns) = place_in (run_of r rs i) b ∷ places_in r rs (i + 1) (b + n) ns

-- of a run and the last one before it, the one that goes on: the last one if both have one target
abbrev pub last_with : Run → Run → Run
last_with last r = if last.target == r.target then last else r

-- the runs with this one, if it has another target than the last one
abbrev pub runs_with : List Run → Run → Run → List Run
runs_with rs last r = if last.target == r.target then rs else rs ++ r ∷ []

-- each run begins with an object, of which it knows at most the words before it
abbrev pub AreBegun : List ℕ → List Run → Type 0
AreBegun sizes [] = Unit {0}
AreBegun sizes (r ∷ rs) = (r.before ≤ words_before sizes r.first) × (r.before < 2 ^ 32) × AreBegun sizes rs

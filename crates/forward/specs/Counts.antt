-- Uncopied entries of forwarding tables.
use Rattle.std.specs.Prelude.{◌≡◌, ℕ, ◌<◌, ◌≤◌, ◌^◌, List, count_by, length}
use Rattle.std.specs.List.{sum_by}
use Rattle.model.specs.declared.limits.TheConstants.{MOST_WORDS}
use Rattle.model.specs.declared.records.Forwarding.{Forwarding}
use Rattle.model.specs.Owning.{Each}
use Rattle.model.specs.Cycles.{is_uncopied}

-- how many entries of a forwarding table are uncopied
abbrev pub uncopied_in : List Forwarding → ℕ
uncopied_in side = count_by is_uncopied side

-- how many entries of all forwarding tables are uncopied
abbrev pub uncopied_count : List (List Forwarding) → ℕ
uncopied_count sides = sum_by uncopied_in sides

-- `left` entries of all forwarding tables are uncopied, and in none more than a page has words
pub record AreCounted (sides : List (List Forwarding)) (left : ℕ) : Type 0 where
  pub counted : left ≡ uncopied_count sides
  pub few : Each sides (λ side. uncopied_in side ≤ MOST_WORDS)
  pub short : length sides < 2 ^ 32

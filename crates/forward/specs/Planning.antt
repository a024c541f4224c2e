-- Places that are planned object by object.
use Rattle.std.specs.Prelude.{ℕ, List, [], ◌++◌}
use Rattle.model.specs.Plans.{places_from}

-- the places so far, the last target, from 0, and how many words of it are taken
pub record PlanningState : Type 0 where
  pub places : List (ℕ × ℕ)
  pub target : ℕ
  pub offset : ℕ

-- before all objects
abbrev pub none_planned : PlanningState
none_planned = record { places = []; target = 0; offset = 0 }

-- the places so far, followed by those of objects of these sizes
abbrev pub planned : ℕ → PlanningState → List ℕ → List (ℕ × ℕ)
planned words p ns = p.places ++ places_from words p.target p.offset ns

use Rattle.laws.proofs.Promises.{stands, usable_has_memory, reads, same, null_is_none}
use Rattle.refinement.specs.PlainHeaps.{births_of}
use Rattle.refinement.specs.Worlds.{world_of}
use Rattle.refinement.proofs.Beginning.{first_stands}
use Rattle.refinement.proofs.Steps.{step_holds, marks_find}
use Rattle.refinement.proofs.Phases.{phases_move}
use Rattle.refinement.proofs.Tallies.{steps_count}
use Rattle.refinement.proofs.law.Goals as goal

pub returns-clause-stands : goal.returns-clause-stands
returns-clause-stands c h p p0 k = (
  stands (world_of h) (births_of p) (births_of p0) k.invariant,
  usable_has_memory (world_of h) (births_of p) (births_of p0) k.invariant,
)

pub returns-clause-reads : goal.returns-clause-reads
returns-clause-reads c h p p0 k = (
  reads (world_of h) (births_of p) (births_of p0) k.invariant,
  same (world_of h) (births_of p) (births_of p0) k.invariant,
  null_is_none (world_of h) (births_of p) (births_of p0) k.invariant,
)

pub returns-clause-first : goal.returns-clause-first
returns-clause-first c = first_stands

pub returns-clause-steps : goal.returns-clause-steps
returns-clause-steps c = step_holds

pub returns-clause-marks : goal.returns-clause-marks
returns-clause-marks c = marks_find

pub returns-clause-phases : goal.returns-clause-phases
returns-clause-phases c = phases_move

pub returns-clause-tallies : goal.returns-clause-tallies
returns-clause-tallies c = steps_count

-- Heaps that represent a reference model.
use Rattle.std.specs.Prelude.{◌≡◌, List, Result, Ok, Err, Some, None}
use Rattle.model.specs.declared.config.Config.{Config}
use Rattle.model.specs.Configs.{first_fault}
use Rattle.model.specs.States.{HeapState}
use Rattle.model.specs.First.{first_heap}
use Rattle.model.specs.Plain.{plain_start}
use Rattle.heap.specs.declared.fault.NewFault.{NewFault}
use Rattle.heap.specs.declared.fault.NewFault.TheVariants as faults
use Rattle.laws.specs.Promises.{StandsForPlain, UsableHasMemory}
use Rattle.refinement.specs.Worlds.{world_of}
use Rattle.refinement.specs.PlainHeaps.{births_of}
use Rattle.refinement.specs.Standing.{Holds}
use Rattle.entries.specs.declared.entry.Entry.{Entry}
use Rattle.cycle.specs.Replays.{Replayed, AnswersAre, after_entries, before_entries}
use Rattle.managed.specs.Runs.{Leads, Runs}

-- the heap is what accepted steps have made of the first heap of a configuration, and these preserve what it
-- represents
pub record IsManaged (h : HeapState) : Type 0 where
  pub config : Config
  pub entries : List Entry
  pub runs : Runs (first_heap config) entries h

-- what a history makes of the first reference model of a heap's configuration
abbrev pub replayed_in : HeapState → List Entry → Replayed
replayed_in h es = after_entries h.config.layouts (before_entries h.config) es

-- there is a history of accepted steps that have made the heap; each answer is that of the reference model; the heap
-- represents the reference model that the history makes; and no register that may be used names a page without
-- memory
pub record Promises (h : HeapState) : Type 0 where
  pub entries : List Entry
  pub steps : Leads (first_heap h.config) entries h
  pub answers : AnswersAre h.config.layouts (before_entries h.config) entries
  pub holds : Holds h (replayed_in h entries).now (replayed_in h entries).at_mark
  pub stands : StandsForPlain (world_of h) (births_of (replayed_in h entries).now)
  pub usable : UsableHasMemory (world_of h)

-- making a heap returns its first state, which represents the reference model without births
abbrev pub MakesHeap : Config → Result HeapState NewFault → Type 0
MakesHeap c (Ok h) =
    (first_fault c ≡ None) × (h ≡ first_heap c) × Holds h (plain_start c) (plain_start c)
MakesHeap c (Err (faults.Config f)) = first_fault c ≡ Some f
MakesHeap c (Err faults.Memory) = first_fault c ≡ None

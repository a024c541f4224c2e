-- The results of making a heap.
use Rattle.std.specs.Prelude.{◌≡◌, Result, Ok, Err, Some, None, false, replicate}
use Rattle.model.specs.declared.config.Config.{Config}
use Rattle.model.specs.Configs.{first_fault}
use Rattle.model.specs.States.{HeapState}
use Rattle.model.specs.Stores.{first_store}
use Rattle.model.specs.First.{blank_rows, blank_thread, first_heap, no_sides}
use Rattle.heap.specs.declared.fault.NewFault.{NewFault}
use Rattle.heap.specs.declared.fault.NewFault.TheVariants as faults
use Rattle.heap.specs.declared.heap.making.BlankParts.{BlankParts}

-- the first state of a configuration that is in range, the first fault of one that isn't, or out of memory
abbrev pub Makes : Config → Result HeapState NewFault → Type 0
Makes c (Ok h) = (first_fault c ≡ None) × (h ≡ first_heap c)
Makes c (Err (faults.Config f)) = first_fault c ≡ Some f
Makes c (Err faults.Memory) = first_fault c ≡ None

-- the parts of the first heap of a configuration
pub record AreBlank (c : Config) (parts : BlankParts) : Type 0 where
  pub store : parts.store ≡ first_store c.words c.frames c.pages
  pub sides : parts.sides ≡ no_sides c
  pub starts : parts.rows.starts ≡ blank_rows c
  pub live : parts.rows.live ≡ blank_rows c
  pub mark : parts.rows.mark ≡ blank_rows c
  pub todo : parts.rows.todo ≡ blank_rows c
  pub threads : parts.actors.threads ≡ replicate c.threads (blank_thread c.registers)
  pub workers : parts.actors.workers.items ≡ replicate c.workers None
  pub globals : parts.actors.globals ≡ replicate c.globals (record { word = None; todo = false })

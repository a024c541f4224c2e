-- The first state of a heap.
use Rattle.std.specs.Prelude.{ℕ, Bool, true, false, List, [], replicate, None}
use Rattle.model.specs.declared.config.Config.{Config}
use Rattle.model.specs.declared.records.Forwarding.{Forwarding}
use Rattle.model.specs.declared.records.Phase.TheVariants.{Idle}
use Rattle.model.specs.Stores.{first_store, record_count}
use Rattle.model.specs.States.{ThreadState, HeapState}
use Rattle.model.specs.Tallies.{blank_tally}

-- the first state of a thread: its registers are null, it has crossed, it isn't parked, and its counters are 0
abbrev pub blank_thread : ℕ → ThreadState
blank_thread registers = record {
  registers = replicate registers None;
  buffer = None;
  crossed = true;
  parked = false;
  barrier = None;
  tally = blank_tally;
}

-- an empty bitmap for each page record
abbrev pub blank_rows : Config → List (List Bool)
blank_rows c = replicate (record_count c.frames c.pages) []

-- an empty forwarding table for each page record
abbrev pub no_sides : Config → List (List Forwarding)
no_sides c = replicate (record_count c.frames c.pages) []

-- the first state of a heap
unfoldable pub first_heap : Config → HeapState
first_heap c = record {
  config = c;
  store = first_store c.words c.frames c.pages;
  starts = blank_rows c;
  live = blank_rows c;
  mark = blank_rows c;
  todo = blank_rows c;
  sides = no_sides c;
  threads = replicate c.threads (blank_thread c.registers);
  workers = replicate c.workers None;
  globals = replicate c.globals (record { word = None; todo = false });
  phase = Idle;
  nmt = false;
  births = 0;
}

-- The state of a heap, as plain data.
use Rattle.std.specs.Prelude.{ℕ, Bool, List, Option, Some, None}
use Rattle.model.specs.declared.config.Config.{Config}
use Rattle.model.specs.declared.records.Buffer.{Buffer}
use Rattle.model.specs.declared.records.Barrier.{Barrier}
use Rattle.model.specs.declared.records.Scan.{Scan}
use Rattle.model.specs.declared.records.Forwarding.{Forwarding}
use Rattle.model.specs.declared.records.Global.{Global}
use Rattle.model.specs.declared.records.Phase.{Phase}
use Rattle.model.specs.declared.records.Tally.{Tally}
use Rattle.model.specs.Stores.{StoreState}
pub use Rattle.sequences.specs.Elements.{change_found, change_at}

-- null, or an address with its NMT bit
abbrev pub Reference : Type 0
Reference = Option (ℕ × Bool)

-- a thread: its registers, its buffer, whether it has crossed and is parked, its open barrier, and its barrier
-- counters
pub record ThreadState : Type 0 where
  pub registers : List Reference
  pub buffer : Option Buffer
  pub crossed : Bool
  pub parked : Bool
  pub barrier : Option Barrier
  pub tally : Tally

-- The state of a heap. Each bitmap of a used page has a bit for each of its words; a page's bitmap has the index of
-- the page's record in the store.
pub record HeapState : Type 0 where
  pub config : Config
  pub store : StoreState
  pub starts : List (List Bool)
  pub live : List (List Bool)
  pub mark : List (List Bool)
  pub todo : List (List Bool)
  pub sides : List (List Forwarding)
  pub threads : List ThreadState
  pub workers : List (Option Scan)
  pub globals : List Global
  pub phase : Phase
  pub nmt : Bool
  pub births : ℕ

-- the value of an option in an option
abbrev pub flat : {X : Type 0} → Option (Option X) → Option X
flat None = None
flat (Some o) = o

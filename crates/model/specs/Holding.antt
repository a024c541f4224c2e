-- The invariant of a heap.
use Rattle.std.specs.Prelude.{◌≡◌, ℕ, ◌+◌, ◌*◌, ◌<◌, ◌≤◌, Bool, List, [], ◌∷◌, length, map, IfSome}
use Rattle.model.specs.declared.config.Config.{Config}
use Rattle.model.specs.declared.records.Forwarding.{Forwarding}
use Rattle.model.specs.Configs.{IsRanged}
use Rattle.model.specs.declared.records.Phase.TheVariants.{Idle}
use Rattle.model.specs.Owning.{Each, LiesIn, NoneProtected, row_sizes}
use Rattle.model.specs.Stores.{StoreState, record_count}
use Rattle.model.specs.States.{HeapState, ThreadState}

-- the buffer of a thread lies in an open page
abbrev pub FillsIn : StoreState → ThreadState → Type 0
FillsIn s t = IfSome t.buffer (LiesIn s)

-- a thread has the configured number of registers
abbrev pub HasRegisters : Config → ThreadState → Type 0
HasRegisters c t = length t.registers ≡ c.registers

-- the heap has the configured sizes
pub record HasSizes (h : HeapState) : Type 0 where
  pub words : h.store.words ≡ h.config.words
  pub frames : length h.store.frames ≡ h.config.frames
  pub pages : h.store.count ≡ h.config.pages
  pub threads : length h.threads ≡ h.config.threads
  pub workers : length h.workers ≡ h.config.workers
  pub globals : length h.globals ≡ h.config.globals

-- each page of a store has a bitmap of the page's size
abbrev pub AreRowsOf : StoreState → List (List Bool) → Type 0
AreRowsOf s rows = map length rows ≡ row_sizes s

-- offsets rise from a lowest one, and are within a page of this number of words
abbrev pub AreRising : ℕ → ℕ → List Forwarding → Type 0
AreRising words low [] = Unit {0}
AreRising words low (f ∷ fs) = (low ≤ f.offset) × (f.offset < words) × AreRising words (f.offset + 1) fs

-- each of a number of pages has a forwarding table, whose entries rise by offset
pub record AreSides (count size : ℕ) (sides : List (List Forwarding)) : Type 0 where
  pub pages : length sides ≡ count
  pub rising : Each sides (AreRising size 0)

-- an entry's object goes to a page that has a number
abbrev pub GoesToPage : Config → Forwarding → Type 0
GoesToPage c f = f.to < (c.pages + 1) * c.words

-- each page record of a configuration has a forwarding table, whose entries rise by offset and go to pages
pub record AreSidesFor (c : Config) (sides : List (List Forwarding)) : Type 0 where
  pub pages : length sides ≡ record_count c.frames c.pages
  pub rising : Each sides (AreRising c.words 0)
  pub places : Each sides (λ side. Each side (GoesToPage c))

-- the invariant of a heap, apart from its store's
pub record IsHeap (h : HeapState) : Type 0 where
  pub config : IsRanged h.config
  pub sizes : HasSizes h
  pub starts : AreRowsOf h.store h.starts
  pub live : AreRowsOf h.store h.live
  pub mark : AreRowsOf h.store h.mark
  pub todo : AreRowsOf h.store h.todo
  pub sides : AreSidesFor h.config h.sides
  pub births : h.births ≤ h.config.births
  pub buffers : Each h.threads (FillsIn h.store)
  pub registers : Each h.threads (HasRegisters h.config)
  pub idle : h.phase ≡ Idle → NoneProtected h.store

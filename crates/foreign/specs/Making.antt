-- Heaps that are made for C.
use Rattle.std.specs.Prelude.{◌≡◌, ◌⊎◌, ℕ, ◌*◌, min, List, length, map, Option, Some, None, Result, Ok, Err}
use Rattle.std_alloc.specs.declared.boxed.Box.{Box}
use Rattle.layout.specs.declared.shape.Layout.{Layout}
use Rattle.model.specs.declared.config.Config.{Config}
use Rattle.model.specs.declared.config.ConfigFault.{ConfigFault}
use Rattle.model.specs.declared.limits.TheConstants.{MOST_PAGES, USUAL_REGISTERS, USUAL_GLOBALS, MOST_BIRTHS}
use Rattle.model.specs.declared.limits.TheConstants.{MOST_HISTORY}
use Rattle.model.specs.Configs.{first_fault}
use Rattle.managed.specs.Managing.{MakesHeap}
use Rattle.foreign.specs.declared.held.Held.{Held}
use Rattle.foreign.specs.declared.making.LayoutOfC.{LayoutOfC}
use Rattle.foreign.specs.declared.making.SizesOfC.{SizesOfC}
use Rattle.foreign.specs.Codes.{HAS_HEAP, NO_MEMORY, fault_code}

-- sizes that serve most heaps of this many frames of `words`
unfoldable pub usual_sizes : ℕ → ℕ → SizesOfC
usual_sizes words frames = record {
  words = words;
  frames = frames;
  pages = min (2 * frames) MOST_PAGES;
  threads = 1;
  workers = 1;
  registers = USUAL_REGISTERS;
  globals = USUAL_GLOBALS;
  births = MOST_BIRTHS;
}

-- a layout of C for the heap
abbrev pub layout_of : LayoutOfC → Layout
layout_of l = record { refs = l.refs; nums = l.nums }

-- the configuration of these sizes and layouts
abbrev pub config_of : SizesOfC → List Layout → Config
config_of s layouts = record {
  words = s.words;
  frames = s.frames;
  pages = s.pages;
  threads = s.threads;
  workers = s.workers;
  registers = s.registers;
  globals = s.globals;
  layouts = layouts;
  births = s.births;
  history = MOST_HISTORY;
}

-- why none was made: out of memory, or this field is the first one out of its range
abbrev pub FailsMaking : Config → ℕ → Type 0
FailsMaking c code =
    (code ≡ NO_MEMORY)
    ⊎ ((f : ConfigFault) × (first_fault c ≡ Some f) × (code ≡ fault_code (length c.layouts) f))

-- a heap in a box is the first one of its configuration; or the code is the reason why there is none
abbrev pub MadeOf : {Z : Type 0} → Config → Result (Box Held Z) ℕ → Type 0
MadeOf c (Ok b) = MakesHeap c (Ok b.value.heap)
MadeOf c (Err code) = FailsMaking c code

-- MadeOf for the contents of a handle that had none
abbrev pub MakesFirst : Config → ℕ → Option Held → Type 0
MakesFirst c code None = FailsMaking c code
MakesFirst c code (Some h) = (code ≡ 0) × MakesHeap c (Ok h.heap)

-- a handle that has a heap keeps it
abbrev pub Makes : SizesOfC → List LayoutOfC → Option Held → ℕ → Option Held → Type 0
Makes s ls None code new = MakesFirst (config_of s (map layout_of ls)) code new
Makes s ls (Some h) code new = (code ≡ HAS_HEAP) × (new ≡ Some h)

-- The births to which threads' registers refer.
use Rattle.std.specs.Prelude.{◌≡◌, ℕ, List, [], map, length, Option, Some, None, slice_get}
use Rattle.std.specs.List.{range_with_len}
use Rattle.model.specs.Plain.{PlainHeap, PlainThread}
use Rattle.model.specs.Registers.{register_of}
use Rattle.model.specs.States.{HeapState, flat}
use Rattle.laws.specs.AddressHeap.{names}
use Rattle.refinement.specs.Standing.{Holds}
use Rattle.refinement.specs.Worlds.{world_of, as_word}

-- the births in the registers of a thread that may be missing
abbrev pub births_in : Option PlainThread → List (Option ℕ)
births_in None = []
births_in (Some t) = t.registers

-- thread t has these births in its registers, in each reference model that the heap represents
pub record HasRegisters (h : HeapState) (t : ℕ) (births : List (Option ℕ)) : Type 0 where
  pub known : (p p0 : PlainHeap) → Holds h p p0 → births_in (slice_get p.threads t) ≡ births

-- the birth to which register r of thread t refers, or none
abbrev pub birth_named : HeapState → ℕ → ℕ → Option ℕ
birth_named h t r = flat (names (world_of h) (as_word (register_of h t r)))

-- the births to which the registers of thread t refer
abbrev pub births_named : HeapState → ℕ → List (Option ℕ)
births_named h t = map (birth_named h t) (range_with_len 0 h.config.registers)

-- the same for each thread of a heap
unfoldable pub births_held : HeapState → List (List (Option ℕ))
births_held h = map (births_named h) (range_with_len 0 (length h.threads))

-- Seats with the contents of their threads' registers.
use Rattle.std.specs.Prelude.{ℕ, List, Option}
use Rattle.model.specs.States.{HeapState}
use Rattle.portions.specs.Portions.{Begins, HoldsInPortion, MutatorState}
use Rattle.known_registers.specs.Held.{HasRegisters}

-- the thread of a seat, and the contents of its registers at the end of its last portion: a birth or none in each
pub record KnowingState : Type 0 where
  pub thread : ℕ
  pub registers : List (Option ℕ)

-- a portion of a seat's thread has just begun, and its registers are those in the seat
pub record FindsOwn (s : KnowingState) (m : MutatorState) : Type 0 where
  pub begins : Begins s.thread m
  pub holds : HoldsInPortion m
  pub registers : HasRegisters m.heap s.thread s.registers

-- a portion ends, and the registers in the seat are those at its end
pub record LeavesOwn (m : MutatorState) (s : KnowingState) : Type 0 where
  pub holds : HoldsInPortion m
  pub registers : HasRegisters m.heap s.thread s.registers

-- the thread of a seat
abbrev pub thread_of : KnowingState → ℕ
thread_of s = s.thread

-- the data under the lock: the heap, and how many threads have a token
pub record DeskState : Type 0 where
  pub heap : HeapState
  pub dealt : ℕ

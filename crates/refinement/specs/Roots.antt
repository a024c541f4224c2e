-- The references in registers, barriers and globals are in range.
use Rattle.std.specs.Prelude.{ℕ, ◌<◌, IfSome}
use Rattle.refword.specs.Words.{IsWord}
use Rattle.model.specs.declared.records.Barrier.{Barrier}
use Rattle.model.specs.Owning.{Each}
use Rattle.model.specs.States.{HeapState, ThreadState}

-- a load is for a register that exists, and its references are in range
pub record IsLoad (registers : ℕ) (b : Barrier) : Type 0 where
  pub target : b.target < registers
  pub raw : IsWord b.raw
  pub now : IsWord b.now

-- a thread's registers have references in range, and so has its load
pub record HoldsWords (registers : ℕ) (t : ThreadState) : Type 0 where
  pub registers_hold : Each t.registers IsWord
  pub barrier : IfSome t.barrier (IsLoad registers)

-- all threads and globals of a heap have references in range
pub record HasWords (h : HeapState) : Type 0 where
  pub threads : Each h.threads (HoldsWords h.config.registers)
  pub globals : Each h.globals (λ g. IsWord g.word)

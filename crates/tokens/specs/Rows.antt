-- The registers of threads.
use Rattle.std.specs.Prelude.{◌≡◌, ◌≢◌, ℕ, List, [], Option, get_or}

-- the contents of a thread's registers, by register number: a number or none
abbrev pub Registers : Type 0
Registers = List (Option ℕ)

-- the same for each thread, by thread number
abbrev pub Rows : Type 0
Rows = List Registers

-- the registers of thread t; none if there is no such thread
abbrev pub row_of : Rows → ℕ → Registers
row_of rows t = get_or rows t []

-- only thread t may have other registers
abbrev pub ChangesOnly : ℕ → Rows → Rows → Type 0
ChangesOnly t old new = (u : ℕ) → u ≢ t → row_of new u ≡ row_of old u

-- the value of a keeper's token: the registers of all threads, and how many threads have a token, in their order
pub record KeeperState : Type 0 where
  pub rows : Rows
  pub dealt : ℕ

-- the value of a thread's token: the thread, and its registers
pub record TokenState : Type 0 where
  pub thread : ℕ
  pub registers : Registers

-- The reference model, as functions of births: it never moves or frees an object. What is reachable in it.
use Rattle.std.specs.Prelude.{◌≡◌, ℕ, Option, Some, None, List, get_or}

-- the reference model: births, each with a layout, references to births and data; registers, pending loads, globals
pub record BirthHeap : Type 0 where
  pub births : ℕ  -- how many objects were born
  pub layout : ℕ → ℕ  -- by birth: the number of its layout
  pub refs : ℕ → List (Option ℕ)  -- by birth: its references, each a birth or none
  pub data_words : ℕ → List ℕ  -- by birth: its data
  pub register : ℕ → ℕ → Option ℕ  -- by thread and number: a birth or none
  pub pending : ℕ → Option (ℕ × Option ℕ)  -- by thread: the register that a load is for, and what it loads
  pub global : ℕ → Option ℕ  -- by number: a birth or none

-- reference i of a birth; none if there is no such reference
abbrev pub ref : BirthHeap → ℕ → ℕ → Option ℕ
ref p b i = get_or (p.refs b) i None

-- birth b is in one of these registers, pending loads or globals
pub data IsRootIn (register : ℕ → ℕ → Option ℕ) (pending : ℕ → Option (ℕ × Option ℕ)) (global : ℕ → Option ℕ) (b : ℕ)
    : Type 0 where
  InRegister : (t r : ℕ) → register t r ≡ Some b → IsRootIn register pending global b
  InPending : (t r : ℕ) → pending t ≡ Some (r, Some b) → IsRootIn register pending global b
  InGlobal : (g : ℕ) → global g ≡ Some b → IsRootIn register pending global b

-- a birth is in a register, a pending load or a global of the reference model
abbrev pub IsRoot : BirthHeap → ℕ → Type 0
IsRoot p = IsRootIn p.register p.pending p.global

-- a birth is a seed, or a reference of a birth that is reached: a path of references leads to it from a seed
pub data IsReached (refs : ℕ → List (Option ℕ)) (IsSeed : ℕ → Type 0) : ℕ → Type 0 where
  Start : (b : ℕ) → IsSeed b → IsReached refs IsSeed b
  Next : (b c i : ℕ) → IsReached refs IsSeed b → get_or (refs b) i None ≡ Some c → IsReached refs IsSeed c

-- a path of references leads to the birth from a root
abbrev pub IsReachable : BirthHeap → ℕ → Type 0
IsReachable p = IsReached p.refs (IsRoot p)

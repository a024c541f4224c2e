-- Registers: which may be used, and the steps on registers alone.
use Rattle.std.specs.Prelude.{ℕ, ◌/◌, ◌==◌, Bool, true, false, Option, Some, None, slice_get, if◌then◌else◌, is_none}
use Rattle.std.specs.Prelude.{Result, Ok, Err}
use Rattle.model.specs.declared.records.Phase.{Phase}
use Rattle.model.specs.declared.steps.Answer.TheVariants as answers
use Rattle.model.specs.declared.steps.Refusal.{Refusal}
use Rattle.model.specs.declared.steps.Refusal.TheVariants as refusals
use Rattle.model.specs.declared.records.Phase.TheVariants.{ProtectCrossing}
use Rattle.model.specs.Stores.{state_at, is_protected}
use Rattle.model.specs.Refusing.{◌>>=◌, Outcome}
use Rattle.model.specs.States.{Reference, HeapState, change_at}
use Rattle.model.specs.Threads.{register_in, set_register_of, has_crossed}

-- the reference in a register; null if there is no such register
unfoldable pub register_of : HeapState → ℕ → ℕ → Reference
register_of h t r = register_in (slice_get h.threads t) r

-- the heap with another reference in a register
unfoldable pub with_register : HeapState → ℕ → ℕ → Reference → HeapState
with_register h t r w = record h { threads = change_at h.threads t (set_register_of r w) }

-- the error of using a protected page: none for a thread that hasn't crossed the page's checkpoint
abbrev pub held_back : Phase → Bool → Result Unit Refusal
held_back ProtectCrossing false = Ok tt
held_back ProtectCrossing true = Err refusals.Stall
held_back _ _ = Err refusals.Stale

-- Ok if a thread may use an address
unfoldable pub let_through : HeapState → ℕ → ℕ → Result Unit Refusal
let_through h t address =
    if is_protected (state_at h.store (address / h.store.words))
    then held_back h.phase (has_crossed (slice_get h.threads t))
    else Ok tt

-- the address of a reference, if it isn't null and thread t may use it
abbrev pub use_word : HeapState → ℕ → Reference → Result ℕ Refusal
use_word h t None = Err refusals.Null
use_word h t (Some w) = do
  _ ← let_through h t w.0
  Ok w.0

-- the address in a register, if it isn't null and the thread may use it
unfoldable pub usable : HeapState → ℕ → ℕ → Result ℕ Refusal
usable h t r = use_word h t (register_of h t r)

-- the same, but none for null
abbrev pub use_or_null : HeapState → ℕ → Reference → Result (Option ℕ) Refusal
use_or_null h t None = Ok None
use_or_null h t (Some w) = do
  _ ← let_through h t w.0
  Ok (Some w.0)

-- the address in a register, if the thread may use it; none if it is null
unfoldable pub usable_or_null : HeapState → ℕ → ℕ → Result (Option ℕ) Refusal
usable_or_null h t r = use_or_null h t (register_of h t r)

-- both are none, or they are one address
abbrev pub same_address : Option ℕ → Option ℕ → Bool
same_address None None = true
same_address (Some a) (Some b) = a == b
same_address _ _ = false

-- the outcome of Same
unfoldable pub same_outcome : HeapState → ℕ → ℕ → ℕ → Outcome
same_outcome h t left right = do
  a ← usable_or_null h t left
  b ← usable_or_null h t right
  Ok (h, answers.Truth (same_address a b))

-- the outcome of IsNull
unfoldable pub is_null_outcome : HeapState → ℕ → ℕ → Outcome
is_null_outcome h t r = Ok (h, answers.Truth (is_none (register_of h t r)))

-- the outcome of CopyReg
unfoldable pub copy_register_outcome : HeapState → ℕ → ℕ → ℕ → Outcome
copy_register_outcome h t target source = Ok (with_register h t target (register_of h t source), answers.Done)

-- the outcome of ClearReg
unfoldable pub clear_register_outcome : HeapState → ℕ → ℕ → Outcome
clear_register_outcome h t target = Ok (with_register h t target None, answers.Done)

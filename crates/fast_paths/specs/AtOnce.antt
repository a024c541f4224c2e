-- Loads that are done at once, if no trap is due.
use Rattle.std.specs.Prelude.{◌≡◌, ◌&&◌, not, ℕ, Ok, Some, None, Bool, true, false, IfSome}
use Rattle.refword.specs.Words.{address_in, mark_in}
use Rattle.model.specs.declared.records.Counter.TheVariants as counters
use Rattle.model.specs.declared.records.Place.{Place}
use Rattle.model.specs.declared.steps.Actor.TheVariants.{Thread}
use Rattle.model.specs.declared.steps.Answer.TheVariants as answers
use Rattle.model.specs.declared.steps.Step.TheVariants as steps
use Rattle.model.specs.Holding.{IsHeap}
use Rattle.model.specs.Owning.{IsStore}
use Rattle.model.specs.Loads.{with_barrier, new_barrier, barrier_of_thread}
use Rattle.model.specs.declared.steps.Step.{Step}
use Rattle.model.specs.Outcome.{outcome, Passes, is_for_workers, has_bad_index, no_register}
use Rattle.model.specs.References.{read_reference, field_at, global_of}
use Rattle.model.specs.Registers.{register_of, usable, usable_or_null}
use Rattle.model.specs.States.{Reference, HeapState}
use Rattle.model.specs.Stores.{word_at}
use Rattle.model.specs.Phases.{is_marking, same_bit}
use Rattle.heap.specs.AtOnce.{IsOpenTo}

-- the heap after a load for a register has begun, which has read a word at a place
abbrev pub begun : HeapState → ℕ → ℕ → Place → Reference → HeapState
begun h t target place w = with_barrier h t (new_barrier target place w) counters.Loads

-- a mark runs, and the word's NMT bit isn't the clean value
abbrev pub mark_is_due : HeapState → Reference → Bool
mark_is_due h w = is_marking h.phase && not (same_bit (mark_in w) h.nmt)

-- a word is null, or needs no marking and is on no protected page
abbrev pub IsQuiet : HeapState → Reference → Type 0
IsQuiet h w = IfSome w (λ v. (mark_is_due h (Some v) ≡ false) × IsOpenTo h v.0)

-- register r of thread t holds this word; the thread runs, and its barrier is closed
pub record HoldsAtOnce (h : HeapState) (t r : ℕ) (w : Reference) : Type 0 where
  pub passes : (s : Step) → is_for_workers s ≡ false → has_bad_index h s ≡ false → Passes h t s
  pub closed : barrier_of_thread h t ≡ None
  pub there : no_register h r ≡ false
  pub word : register_of h t r ≡ w

-- thread t may load a reference of the object at an address, which register object names, for register target
pub record NamesAtOnce (h : HeapState) (t target object address : ℕ) : Type 0 where
  pub passes : (i : ℕ) → Passes h t (steps.Load target object i)
  pub usable : usable h t object ≡ Ok address
  pub closed : barrier_of_thread h t ≡ None

-- reference i of the object at an address is this word
pub record ReadsAtOnce (h : HeapState) (address i : ℕ) (w : Reference) : Type 0 where
  pub place : ℕ
  pub bits : ℕ
  pub stands : field_at h address i ≡ Some place
  pub read : word_at h.store place ≡ Some bits
  pub word : w ≡ read_reference bits

-- heap g is the result of a load's first step and its last, between which no trap is due; the heap between them has
-- the invariants of heaps
pub record LoadsAtOnce (h : HeapState) (t : ℕ) (begin : Step) (g : HeapState) : Type 0 where
  pub between : HeapState
  pub heap : IsHeap between
  pub store : IsStore between.store
  pub loads : outcome h (Thread t) begin ≡ Ok (between, answers.Loaded)
  pub ends : outcome between (Thread t) steps.Finish ≡ Ok (g, answers.Done)

-- true if the load is done at once, and false if nothing is done
abbrev pub MayLoadAtOnce : Bool → HeapState → ℕ → Step → HeapState → Type 0
MayLoadAtOnce true h t begin g = LoadsAtOnce h t begin g
MayLoadAtOnce false h t begin g = g ≡ h

-- a load of a global for a register may begin, which reads this word
pub record ReadsGlobal (h : HeapState) (t target global : ℕ) (w : Reference) : Type 0 where
  pub passes : Passes h t (steps.LoadGlobal target global)
  pub closed : barrier_of_thread h t ≡ None
  pub word : w ≡ global_of h global

-- thread t may use the object at an address, which a register names; its barrier is closed
pub record UsesAtOnce (h : HeapState) (t object address : ℕ) : Type 0 where
  pub passes : (s : Step) → is_for_workers s ≡ false → has_bad_index h s ≡ false → Passes h t s
  pub closed : barrier_of_thread h t ≡ None
  pub named : address_in (register_of h t object) ≡ Some address
  pub there : no_register h object ≡ false
  pub usable : usable h t object ≡ Ok address

-- register r of thread t names an object that it may use, and this is the object's header
pub record NamesHeader (h : HeapState) (t r header : ℕ) : Type 0 where
  pub address : ℕ
  pub usable : usable h t r ≡ Ok address
  pub stands : word_at h.store address ≡ Some header

-- what register r of thread t holds: null, or a word that the thread may use
pub record SourceAtOnce (h : HeapState) (t r : ℕ) (w : Reference) : Type 0 where
  pub there : no_register h r ≡ false
  pub named : register_of h t r ≡ w
  pub usable : usable_or_null h t r ≡ Ok (address_in w)

-- true if a step of thread t is done at once, and false if nothing is done
abbrev pub MayDoAtOnce : Bool → HeapState → ℕ → Step → HeapState → Type 0
MayDoAtOnce true h t s g = outcome h (Thread t) s ≡ Ok (g, answers.Done)
MayDoAtOnce false h t s g = g ≡ h

-- a datum is read
abbrev pub GivesDatum : HeapState → ℕ → ℕ → ℕ → ℕ → Type 0
GivesDatum h t object j value = outcome h (Thread t) (steps.Datum object j) ≡ Ok (h, answers.Datum value)

-- two registers are compared
abbrev pub GivesSame : HeapState → ℕ → ℕ → ℕ → Bool → Type 0
GivesSame h t left right truth = outcome h (Thread t) (steps.Same left right) ≡ Ok (h, answers.Truth truth)

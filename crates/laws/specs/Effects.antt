-- The effects of steps on the reference model, and of some of them on the address-level model.
use Rattle.std.specs.Prelude.{ℕ, ◌+◌, zero, suc, Bool, false, not, cond, Option, Some, None, set}
use Rattle.model.specs.Phases.{may_nmt_trap, same_bit}
use Rattle.laws.specs.AddressHeap.{AddressHeap, HeapObject, Word, Null, To, put_at, OpenBarrier, WorkerScan}
use Rattle.laws.specs.AddressHeap.{LoadPlace, field}
use Rattle.laws.specs.BirthHeap.{BirthHeap, ref}
use Rattle.laws.specs.Edits.{plain_set_object, plain_set_pending, plain_end_load, set_object, mark_word, marked_word}
use Rattle.laws.specs.Edits.{set_scan}

-- field j of a birth becomes x, if there is a birth
abbrev pub store_at : Option ℕ → ℕ → Option ℕ → BirthHeap → BirthHeap
store_at None j x p = p
store_at (Some b) j x p = plain_set_object b (set (p.refs b) j x) (p.data_words b) p

-- a store: field j of the birth in register r becomes the birth in register s
abbrev pub plain_store : ℕ → ℕ → ℕ → ℕ → BirthHeap → BirthHeap
plain_store t r j s p = store_at (p.register t r) j (p.register t s) p

-- datum j of a birth becomes v, if there is a birth
abbrev pub datum_at : Option ℕ → ℕ → ℕ → BirthHeap → BirthHeap
datum_at None j v p = p
datum_at (Some b) j v p = plain_set_object b (p.refs b) (set (p.data_words b) j v) p

-- a write: datum j of the birth in register r becomes v
abbrev pub plain_datum : ℕ → ℕ → ℕ → ℕ → BirthHeap → BirthHeap
plain_datum t r j v p = datum_at (p.register t r) j v p

-- field j of a birth becomes the pending load for register d, if there is a birth
abbrev pub load_at : ℕ → ℕ → Option ℕ → ℕ → BirthHeap → BirthHeap
load_at t d None j p = p
load_at t d (Some b) j p = plain_set_pending t (d, ref p b j) p

-- a load: field j of the birth in register r becomes the pending load for register d
abbrev pub plain_load_field : ℕ → ℕ → ℕ → ℕ → BirthHeap → BirthHeap
plain_load_field t d r j p = load_at t d (p.register t r) j p

-- a pending load goes to its register, if there is one
abbrev pub finish_at : ℕ → Option (ℕ × Option ℕ) → BirthHeap → BirthHeap
finish_at t None p = p
finish_at t (Some q) p = plain_end_load t q.0 q.1 p

-- the end of a load: the register of thread t's pending load gets the birth that it loaded
abbrev pub plain_finish : ℕ → BirthHeap → BirthHeap
plain_finish t p = finish_at t (p.pending t) p

-- register r of thread t in the reference model becomes x
abbrev pub plain_set_register : ℕ → ℕ → Option ℕ → BirthHeap → BirthHeap
plain_set_register t r x p = record p { register = put_at p.register t r x }

-- register r of thread t becomes v
abbrev pub set_register : ℕ → ℕ → Word → AddressHeap → AddressHeap
set_register t r v w = record w { register = put_at w.register t r v }

-- an object with another reference in field j
abbrev pub with_field : HeapObject → ℕ → Word → HeapObject
with_field o j v = record o { refs = set o.refs j v }

-- an object with another number as datum j
abbrev pub with_datum : HeapObject → ℕ → ℕ → HeapObject
with_datum o j v = record o { data_words = set o.data_words j v }

-- the barrier of a load for register d that has just read reference v at a place
abbrev pub new_barrier : ℕ → LoadPlace → Word → OpenBarrier
new_barrier d place v = record { target = d; place = place; raw = v; now = v; healed = false }

-- an NMT trap is due: a mark runs that thread t has crossed, and the reference's bit isn't the clean value
abbrev pub nmt_trap_due : AddressHeap → ℕ → Word → Bool
nmt_trap_due w t Null = false
nmt_trap_due w t (To a n) = cond (may_nmt_trap w.phase (w.crossed t)) (not (same_bit n w.nmt)) false

-- the mark's checkpoint marks register r of thread t
abbrev pub mark_register : ℕ → ℕ → AddressHeap → AddressHeap
mark_register t r w = set_register t r (marked_word w (w.register t r)) (mark_word (w.register t r) w)

-- the mark's checkpoint marks all registers of thread t below n
abbrev pub mark_registers : ℕ → ℕ → AddressHeap → AddressHeap
mark_registers t zero w = w
mark_registers t (suc r) w = mark_register t r (mark_registers t r w)

-- a worker marks the next field of its object o, writes it back clean, and goes on
abbrev pub scan_field : ℕ → WorkerScan → HeapObject → AddressHeap → AddressHeap
scan_field k s o w =
    set_scan k (Some (record { address = s.address; next = s.next + 1 }))
    (set_object s.address (with_field o s.next (marked_word w (field o s.next))) (mark_word (field o s.next) w))

-- A word that was loaded is written to a register.
use Rattle.std.proofs.lemmas.List.{set-set}
use Rattle.std.proofs.Common.{◌≡◌, ℕ, false, Option, Some, None, List, refl, sym}
use Rattle.std.proofs.Common.{ap, ◌∙◌, length-set}
use Rattle.std.specs.Prelude.{slice_get}
use Rattle.model.specs.declared.records.Barrier.{Barrier}
use Rattle.model.specs.declared.records.Counter.TheVariants as counters
use Rattle.model.specs.declared.records.Place.TheVariants as places
use Rattle.model.specs.Holding.{IsHeap}
use Rattle.model.specs.Loads.{with_barrier, with_loaded}
use Rattle.model.specs.States.{Reference, HeapState, ThreadState, change_at}
use Rattle.model.specs.Threads.{set_barrier_of, set_loaded_of}
use Rattle.heap.proofs.Keeping.{thread_keeps}
use Rattle.model.proofs.Lists.{get_set_same}

pub changed_twice : {X : Type 0} (xs : List X) (i : ℕ) (f g : X → X)
    → change_at (change_at xs i f) i g ≡ change_at xs i (λ x. g (f x))
changed_twice {X} xs i f g = by_element (slice_get xs i) refl
  where
    by_element : (o : Option X) → slice_get xs i ≡ o → change_at (change_at xs i f) i g ≡ change_at xs i (λ x. g (f x))
    by_element None e = rw e (rw e refl)
    by_element (Some x) e = rw e (rw (get_set_same xs i x (f x) e) (set-set xs i (f x) (g (f x))))

-- a load that begins and ends at once, as two edits of the heap
pub read_twice : (h : HeapState) (t r : ℕ) (w : Reference) (b : Barrier) (threads : List ThreadState)
    → threads ≡ change_at h.threads t (λ x. set_loaded_of r w (set_barrier_of b counters.Loads x))
    → ◌≡◌ {A = HeapState} (record h { threads = threads }) (with_loaded (with_barrier h t b counters.Loads) t r w)
unfolding with_loaded with_barrier
read_twice h t r w b threads e =
    ap (λ (ts : List ThreadState). with_threads h ts)
    (e ∙ sym (changed_twice h.threads t (set_barrier_of b counters.Loads) (set_loaded_of r w)))
  where
    with_threads : HeapState → List ThreadState → HeapState
    with_threads h ts = record h { threads = ts }

-- the heap keeps what all heaps have
pub read_keeps : (h : HeapState) (t r : ℕ) (w : Reference) (threads : List ThreadState) → IsHeap h
    → ((b : Barrier) → threads ≡ change_at h.threads t (λ x. set_loaded_of r w (set_barrier_of b counters.Loads x)))
    → IsHeap (record h { threads = threads })
read_keeps h t r w threads k is = thread_keeps h t (λ x. set_loaded_of r w (set_barrier_of some counters.Loads x))
    threads k
    (is some) (λ x f. f) (λ x. length-set x.registers r w)
  where
    some : Barrier
    some = record { target = 0; place = places.Global 0; raw = None; now = None; healed = false }

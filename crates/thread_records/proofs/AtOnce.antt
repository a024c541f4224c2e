-- A load that begins and ends at once.
use Rattle.std.proofs.Common.{◌≡◌, ◌<◌, ℕ, List, length, set, get_or, refl, None}
use Rattle.std.specs.Prelude.{slice_set}
use Rattle.model.specs.declared.records.Barrier.{Barrier}
use Rattle.model.specs.declared.records.Counter.TheVariants as counters
use Rattle.model.specs.States.{Reference, ThreadState, change_at}
use Rattle.model.specs.Tallies.{counted}
use Rattle.model.specs.Threads.{set_barrier_of, set_loaded_of}
use Rattle.model.proofs.Lists.{get_read}

-- the barrier that a load would have had leaves nothing if none was open
pub read_at_once : (x : ThreadState) (b : Barrier) (r : ℕ) (w : Reference) → x.barrier ≡ None
    → ◌≡◌ {A = ThreadState} (record x { registers = slice_set x.registers r w; tally = counted counters.Loads x.tally })
    (set_loaded_of r w (set_barrier_of b counters.Loads x))
read_at_once x b r w e = rw e refl

-- writing a changed thread to its place is changing it there
pub changed_there : (ts : List ThreadState) (i : ℕ) (x y : ThreadState) (f : ThreadState → ThreadState) → i < length ts
    → x ≡ get_or ts i x → y ≡ f x → set ts i y ≡ change_at ts i f
changed_there ts i x y f h read is = rw (get_read ts i x h read, is) refl

-- Edits of the collector's records and of mark bits: they leave memory in order.
use Rattle.std.proofs.Common.{◌≡◌, ℕ, Bool, List, length, refl, ap}
use Rattle.std.specs.List.{slice_get}
use Rattle.std.specs.Option.{option_map}
use Rattle.model.specs.declared.records.Global.{Global}
use Rattle.model.specs.declared.records.Phase.{Phase}
use Rattle.model.specs.declared.records.Scan.{Scan}
use Rattle.std.specs.Prelude.{Option}
use Rattle.model.specs.Owning.{Each}
use Rattle.model.specs.States.{HeapState, ThreadState}
use Rattle.model.specs.Threads.{buffer_in}
use Rattle.laws.specs.AddressHeap.{AddressHeap}
use Rattle.refinement.specs.Worlds.{world_of}
use Rattle.model.specs.Holding.{AreRowsOf}
use Rattle.refinement.specs.Claims.{IsLaid, Claim, OfObject, OfBuffer, OfPlan, OfEnd, extent, buffer_extent}
use Rattle.refinement.specs.Roots.{HasWords}
use Rattle.refinement.proofs.Claims.{extents_same}
use Rattle.refinement.proofs.Carrying.{Carries, alike}

-- the parts of a heap that are no memory, no forwarding table and no bit of an object
pub record Records : Type 0 where
  pub mark : List (List Bool)
  pub todo : List (List Bool)
  pub threads : List ThreadState
  pub workers : List (Option Scan)
  pub globals : List Global
  pub phase : Phase
  pub nmt : Bool

-- those of a heap
abbrev pub records_of : HeapState → Records
records_of h = record {
  mark = h.mark;
  todo = h.todo;
  threads = h.threads;
  workers = h.workers;
  globals = h.globals;
  phase = h.phase;
  nmt = h.nmt;
}

-- the heap with others
abbrev pub with_records : HeapState → Records → HeapState
with_records h r = record h {
  mark = r.mark;
  todo = r.todo;
  threads = r.threads;
  workers = r.workers;
  globals = r.globals;
  phase = r.phase;
  nmt = r.nmt;
}

-- these have the sizes of the heap's
pub record FitsIn (h : HeapState) (r : Records) : Type 0 where
  pub mark : AreRowsOf h.store h.mark → AreRowsOf h.store r.mark
  pub todo : AreRowsOf h.store h.todo → AreRowsOf h.store r.todo
  pub threads : length r.threads ≡ length h.threads
  pub registers : Each h.threads (λ t. length t.registers ≡ h.config.registers)
      → Each r.threads (λ t. length t.registers ≡ h.config.registers)
  pub buffers : (t : ℕ) → buffer_in (slice_get r.threads t) ≡ buffer_in (slice_get h.threads t)
  pub workers : length r.workers ≡ length h.workers
  pub globals : length r.globals ≡ length h.globals

records_laid : (h : HeapState) (r : Records) → FitsIn h r → IsLaid h → IsLaid (with_records h r)
records_laid h r f l = record {
  starts = l.starts;
  live = l.live;
  mark = f.mark l.mark;
  todo = f.todo l.todo;
  sides = l.sides;
  registers = f.registers l.registers;
  objects = l.objects;
  apart = extents_same (extent h) _ l.apart extents;
  planned = l.planned;
  live_objects = l.live_objects;
  unused = l.unused;
}
  where
    extents : (c : Claim) → extent (with_records h r) c ≡ extent h c
    extents (OfObject a) = refl
    extents (OfBuffer u) = ap (option_map (buffer_extent h.store.words)) (f.buffers u)
    extents (OfPlan a) = refl
    extents (OfEnd n) = refl

pub records_carry : (h : HeapState) (r : Records) (e : AddressHeap → AddressHeap) → FitsIn h r
    → (HasWords h → HasWords (with_records h r)) → world_of (with_records h r) ≡ e (world_of h)
    → Carries h (with_records h r) e
records_carry h r e f words world = record {
  size = alike h (with_records h r) refl refl refl refl f.threads f.workers f.globals;
  laid = records_laid h r f;
  given = λ z. z;
  words = words;
  world = world;
}

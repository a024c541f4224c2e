-- Edits that relocate objects.
use Rattle.std.specs.Prelude.{◌≡◌, ℕ, false, List, map, Result, Ok, Err}
use Rattle.model.specs.declared.records.Buffer.{Buffer}
use Rattle.model.specs.declared.records.Phase.TheVariants.{ProtectCrossing}
use Rattle.model.specs.declared.records.Room.{Room}
use Rattle.model.specs.Protections.{take_target, with_target, with_from_pages}
use Rattle.model.specs.States.{HeapState}
use Rattle.model.specs.Threads.{set_crossed_of}

-- a call opened the target that the store returns, or returned why there is no space
abbrev pub OpensTarget : HeapState → Result Buffer Room → HeapState → Type 0
OpensTarget old (Ok b) new = (take_target old.store ≡ Ok (new.store, b)) × (new ≡ with_target old (new.store, b))
OpensTarget old (Err e) new = (take_target old.store ≡ Err e) × (new ≡ old)

-- the heap after pages are protected: all threads have still to cross
unfoldable pub start_protection : HeapState → List ℕ → HeapState
start_protection h pages = record h {
  store = record h.store { pages = with_from_pages pages h.store.pages };
  threads = map (set_crossed_of false) h.threads;
  phase = ProtectCrossing;
}

-- Objects that a drain has marked and will scan, and that the heap hasn't made grey.
use Rattle.std.specs.Prelude.{◌≡◌, ◌≢◌, ◌⊎◌, ℕ, ◌/◌, ◌<◌, true, false, Bool, List, [], ◌∷◌, Option, None, Some}
use Rattle.std.specs.Prelude.{is_some}
use Rattle.std.specs.List.{list_any}
use Rattle.refword.specs.Words.{IsAddress}
use Rattle.heap.specs.Marking.{bit_in, noted}
use Rattle.model.specs.declared.records.Scan.{Scan}
use Rattle.model.specs.Bits.{with_bit}
use Rattle.model.specs.Scans.{is_free_todo, next_todo}
use Rattle.model.specs.States.{HeapState}
use Rattle.drains.specs.Drains.{scanned}

-- bitmaps with the bits of these addresses set too
abbrev pub noting : List (List Bool) → ℕ → List ℕ → List (List Bool)
noting rows words [] = rows
noting rows words (a ∷ xs) = with_bit (noting rows words xs) words a true

-- the heap in which the objects at these addresses are grey too
unfoldable pub all_noted : HeapState → List ℕ → HeapState
all_noted h xs = record h { todo = noting h.todo h.store.words xs }

-- an address is none of these
abbrev pub IsOther : ℕ → List ℕ → Type 0
IsOther a [] = Unit {0}
IsOther a (b ∷ ys) = (b ≢ a) × IsOther a ys

-- these objects are marked in the mark bitmaps, and each of them is listed once
abbrev pub AreWaiting : List (List Bool) → ℕ → List ℕ → Type 0
AreWaiting mark words [] = Unit {0}
AreWaiting mark words (a ∷ xs) =
    IsAddress a × (bit_in mark words a ≡ Some true) × IsOther a xs × AreWaiting mark words xs

-- while the object at an address, which is on a page, is scanned, these objects wait, and it isn't one of them
pub record WaitBeside (h : HeapState) (a : ℕ) (xs : List ℕ) : Type 0 where
  pub page : 0 < a / h.store.words
  pub other : IsOther a xs
  pub waiting : AreWaiting h.mark h.store.words xs

-- an object that wasn't marked before, while the one at address a is scanned: it waits too and is another one, or the
-- heap has made it grey
abbrev pub Waits : ℕ → ℕ → HeapState → List ℕ → HeapState → List ℕ → Type 0
Waits a t h xs g ys = ((ys ≡ t ∷ xs) × (g ≡ h) × (t ≢ a) × IsAddress t) ⊎ ((ys ≡ xs) × (g ≡ noted h t))

-- if `alone` is true, no worker has an object
abbrev pub IsAlone : Bool → List (Option Scan) → Type 0
IsAlone alone workers = alone ≡ true → list_any is_some workers ≡ false

-- the object at an address is the next one of a heap in which others wait: it may be picked, and it may be scanned in
-- heap g, in which others wait, in place of heap h
pub record IsNextObject (h : HeapState) (xs : List ℕ) (a : ℕ) (g : HeapState) (ys : List ℕ) : Type 0 where
  pub free : is_free_todo (all_noted h xs) a ≡ true
  pub same : scanned (all_noted g ys) a ≡ scanned (all_noted h xs) a
  pub waits : WaitBeside g a ys
  pub workers : g.workers ≡ h.workers

-- the next object, if there is one; else all are grey, and nothing is left
abbrev pub IsNext : HeapState → List ℕ → Option ℕ → HeapState → List ℕ → Type 0
IsNext h xs None g ys = (g ≡ all_noted h xs) × (next_todo g ≡ None)
IsNext h xs (Some a) g ys = IsNextObject h xs a g ys

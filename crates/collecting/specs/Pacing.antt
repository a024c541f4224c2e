-- Objects that are made during a collection in parts.
use Rattle.std.specs.Prelude.{◌≡◌, ◌⊎◌, ◌<◌, ◌≤◌, ◌||◌, not, ℕ, zero, suc, ◌+◌, ◌-◌, ◌*◌, ◌/◌, ◌^◌, Bool, true, false}
use Rattle.std.specs.Prelude.{◌&&◌, ◌==◌, count_by, is_none, is_some, length, max, min, slice_get, Result, Ok, Err}
use Rattle.std.specs.Prelude.{if◌then◌else◌}
use Rattle.model.specs.Outcome.{outcome}
use Rattle.model.specs.Phases.{is_marking}
use Rattle.model.specs.States.{HeapState}
use Rattle.model.specs.declared.steps.Actor.TheVariants.{Thread}
use Rattle.model.specs.declared.steps.Refusal.{Refusal}
use Rattle.model.specs.declared.steps.Refusal.TheVariants as refusals
use Rattle.model.specs.declared.steps.Step.TheVariants as steps
use Rattle.collecting.specs.declared.parts.Stage.{Stage}
use Rattle.collecting.specs.declared.parts.Stage.TheVariants as stages
use Rattle.collecting.specs.Low.{are_low}
use Rattle.collecting.specs.Parts.{EndsPart}
use Rattle.collecting.specs.Rooms.{EndsMaking}
use Rattle.collecting.specs.Stages.{PartGoesOn, PartsState, pages_in, preparings}
use Rattle.collecting.specs.Targets.{in_use}

-- a call failed because a thread's buffer has no space for it
abbrev pub lacks_buffer : {A : Type 0} → Result A Refusal → Bool
lacks_buffer (Err refusals.NoRoom) = true
lacks_buffer _ = false

-- the stage is the first one
abbrev pub is_first : Stage → Bool
is_first stages.Mark = true
is_first _ = false

-- a collection has begun: a mark runs, or its pages are chosen or emptied
abbrev pub has_begun : PartsState → HeapState → Bool
has_begun p h = not (is_first p.stage) || is_marking h.phase

-- a collection has begun, or frames are low
abbrev pub is_due : ℕ → PartsState → HeapState → Bool
is_due free p h = has_begun p h || are_low free h

-- chosen pages are being emptied
abbrev pub is_last : Stage → Bool
is_last stages.Empty = true
is_last _ = false

-- the next part empties a page, if it is done
abbrev pub is_emptying : PartsState → Bool
is_emptying p = if is_last p.stage then is_some (slice_get p.chosen p.next) else false

-- at how many free frames the rest of a collection is done at once, if a policy has `free`: a quarter, and one if
-- `free` isn't 0; but at none while a collection empties pages, each of which frees one
abbrev pub left_frames : ℕ → ℕ
left_frames free = max (free / 4) (min free 1)

abbrev pub left_by : PartsState → ℕ → ℕ
left_by p free = if is_emptying p then 0 else left_frames free

-- ---- how many parts a fresh buffer does

-- how many frames may be taken until left_by are free
abbrev pub frames_ahead : ℕ → PartsState → HeapState → ℕ
frames_ahead free p h = count_by is_none h.store.owners - left_by p free

-- more parts than a collection has
abbrev pub ALL : ℕ
ALL = 2 ^ 40

-- how many parts a stage has: scans of all words in use, if an object has eight words; measurings of all pages;
-- preparings of frames; or one for each page that was chosen
abbrev pub parts_in : Stage → ℕ → PartsState → HeapState → ℕ
parts_in stages.Mark budget p h = in_use h * h.config.words / 8 / max budget 1
parts_in stages.Choose budget p h = h.store.count / pages_in budget h.config.words
parts_in stages.Prepare budget p h = preparings budget p h
parts_in stages.Empty budget p h = min (length p.chosen) h.store.count

-- as many as end a stage in a quarter of the frames that may be taken, and two more; all if there are none
abbrev pub share_of : ℕ → ℕ → ℕ
share_of parts ahead = if ahead == 0 then ALL else 4 * parts / ahead + 2

-- how many parts a fresh buffer does, at the collection's current stage; none if none is due
abbrev pub share : ℕ → ℕ → PartsState → HeapState → ℕ
share free budget p h =
    if is_due free p h then share_of (parts_in p.stage budget p h) (frames_ahead free p h) else 0

-- share, or all of a collection that is due, if no frames are ahead when the fresh buffer is requested
abbrev pub most_parts : Bool → ℕ → ℕ → PartsState → HeapState → ℕ
most_parts all free budget p h = if all then ALL else share free budget p h

abbrev pub is_urgent : ℕ → PartsState → HeapState → Bool
is_urgent free p h = is_due free p h && (frames_ahead free p h == 0)

-- a part is the last one: the collection has ended, or it failed
abbrev pub stops : Result Bool Refusal → Bool
stops (Ok ended) = ended
stops (Err e) = true

-- k parts were done, none of which is the last one, each of them while fewer were done than most_parts then
abbrev pub PacedBy : ℕ → Bool → ℕ → ℕ → ℕ → PartsState → HeapState → PartsState → HeapState → Type 0
PacedBy zero all free percent budget p h q g = (q ≡ p) × (g ≡ h)
PacedBy (suc k) all free percent budget p h q g = (o : PartsState) × (m : HeapState)
    × PacedBy k all free percent budget p h o m × (k < most_parts all free budget o m)
    × EndsPart m (Ok false) g × PartGoesOn percent budget o m (Ok false) q g

-- as many were done as most_parts is then
abbrev pub PacesWhole : Bool → ℕ → ℕ → ℕ → PartsState → HeapState → PartsState → HeapState → Type 0
PacesWhole all free percent budget p h q g =
    (k : ℕ) × PacedBy k all free percent budget p h q g × (most_parts all free budget q g ≤ k)

-- or the next one was the last
abbrev pub PacesLast : Bool → ℕ → ℕ → ℕ → PartsState → HeapState → PartsState → HeapState → Type 0
PacesLast all free percent budget p h q g = (k : ℕ) × (o : PartsState) × (m : HeapState) × (r : Result Bool Refusal)
    × PacedBy k all free percent budget p h o m × (k < most_parts all free budget o m) × (stops r ≡ true)
    × EndsPart m r g × PartGoesOn percent budget o m r q g

-- the parts that a fresh buffer does
abbrev pub Paces : Bool → ℕ → ℕ → ℕ → PartsState → HeapState → PartsState → HeapState → Type 0
Paces all free percent budget p h q g =
    PacesWhole all free percent budget p h q g ⊎ PacesLast all free percent budget p h q g

-- Paces, and then thread t was to make an object
abbrev pub PacesAndMakes : ℕ → ℕ → ℕ → ℕ → ℕ → ℕ → ℕ → PartsState → HeapState → Result ℕ Refusal → PartsState
    → HeapState → Type 0
PacesAndMakes t words percent free budget target layout p h r q g =
    (m : HeapState) × Paces (is_urgent free p h) free percent budget p h q m
    × EndsMaking t words percent target layout m r g

-- the parts come only if the thread's buffer has no space
abbrev pub MakesPacedIf : Bool → ℕ → ℕ → ℕ → ℕ → ℕ → ℕ → ℕ → PartsState → HeapState → Result ℕ Refusal → PartsState
    → HeapState → Type 0
MakesPacedIf true t words percent free budget target layout p h r q g =
    PacesAndMakes t words percent free budget target layout p h r q g
MakesPacedIf false t words percent free budget target layout p h r q g =
    (q ≡ p) × EndsMaking t words percent target layout h r g

abbrev pub MakesPaced : ℕ → ℕ → ℕ → ℕ → ℕ → ℕ → ℕ → PartsState → HeapState → Result ℕ Refusal → PartsState
    → HeapState → Type 0
MakesPaced t words percent free budget target layout p h r q g =
    MakesPacedIf (lacks_buffer (outcome h (Thread t) (steps.New target layout))) t words percent free budget target
    layout p h r q g

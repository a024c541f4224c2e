-- How a collection in parts continues, from one part to the next.
use Rattle.std.specs.Prelude.{◌≡◌, ◌⊎◌, ◌≤◌, ℕ, zero, suc, ◌+◌, ◌-◌, ◌*◌, ◌/◌, ◌^◌, max, min, Bool, true, false}
use Rattle.std.specs.Prelude.{List, [], ◌∷◌, ◌++◌, length, map, take, get_or, nat_le, nat_lt, position, unwrap_or}
use Rattle.std.specs.Prelude.{Option, Some, None, Result, Ok, Err, IsPermutation, slice_get}
use Rattle.std.specs.List.{sum_by}
use Rattle.choosing.specs.Choices.{IsLongest, IsRising, has_room_for, measured_if, page_of, words_in_use}
use Rattle.model.specs.declared.steps.Actor.TheVariants.{Worker}
use Rattle.model.specs.declared.steps.Step.TheVariants as steps
use Rattle.model.specs.declared.steps.Answer.{Answer}
use Rattle.model.specs.declared.steps.Refusal.{Refusal}
use Rattle.model.specs.Outcome.{outcome}
use Rattle.model.specs.Protections.{free_count, no_page_in, unused_count}
use Rattle.model.specs.States.{HeapState}
use Rattle.model.specs.Tallies.{most_counted}
use Rattle.managed.specs.Collecting.{Crosses, EndsCrossing, StopsCrossing}
use Rattle.managed.specs.Emptying.{Protects}
use Rattle.managed.specs.Goings.{Goes, IsScrub}
use Rattle.managed.specs.Sequences.{Then}
use Rattle.collecting.specs.declared.words.LiveWords.{LiveWords}
use Rattle.collecting.specs.declared.parts.Stage.{Stage}
use Rattle.collecting.specs.declared.parts.Stage.TheVariants as stages
use Rattle.collecting.specs.Collections.{WORKER, Collects, EndsLeft}
use Rattle.collecting.specs.Parts.{LacksMemory, Stops, is_memory}

-- how far a collection in parts has come: its stage; the sparse pages found so far, each after its live words; the
-- pages that were chosen to be emptied; how many pages were measured, how many parts have prepared frames, or how many
-- of the chosen pages were emptied; how many frames are to be prepared; how many words live on the pages that were
-- measured, and on those that were chosen; and how many pages with live objects are emptied at most
pub record PartsState : Type 0 where
  pub stage : Stage
  pub found : List (ℕ × ℕ)
  pub chosen : List ℕ
  pub next : ℕ
  pub frames : ℕ
  pub words : LiveWords
  pub most : ℕ

-- nothing is measured
abbrev pub no_words : LiveWords
no_words = record { all = 0; copied = 0 }

-- at the beginning of a stage, with `most` pages to be emptied at most, these pages chosen, and these words measured
abbrev pub at_stage : Stage → ℕ → List ℕ → LiveWords → PartsState
at_stage s most chosen words = record {
  stage = s;
  found = [];
  chosen = chosen;
  next = 0;
  frames = 0;
  words = words;
  most = most;
}

-- before the first part of a collection: no number of pages is too many
abbrev pub first_parts : PartsState
first_parts = at_stage stages.Mark (2 ^ 32 - 1) [] no_words

-- how many pages of `words` words a part with this budget measures: as many as have 64 words for each object of the
-- budget, and one more
abbrev pub pages_in : ℕ → ℕ → ℕ
pages_in budget words = budget * 64 / max words 1 + 1

-- ---- which pages are chosen

-- an option as a list
abbrev pub as_list : Option (ℕ × ℕ) → List (ℕ × ℕ)
as_list None = []
as_list (Some x) = x ∷ []

-- with one more page that was found, before the next one
abbrev pub entered : ℕ × ℕ → ℕ → PartsState → PartsState
entered x n p = record p { found = p.found ++ x ∷ []; next = n }

-- with n more live words
abbrev pub with_live : ℕ → LiveWords → LiveWords
with_live n w = record w { all = min (w.all + n) most_counted }

-- after the measuring of one more page: its live words are added, and it is found if it is sparse
abbrev pub measured_one : HeapState → ℕ → PartsState → PartsState
measured_one h percent p = record p {
  found = p.found ++ as_list (measured_if h percent (p.next + 1));
  next = p.next + 1;
  words = with_live (words_in_use h (p.next + 1)) p.words;
}

-- after the measuring of k more pages
abbrev pub measured_by : HeapState → ℕ → ℕ → PartsState → PartsState
measured_by h percent zero p = p
measured_by h percent (suc k) p = measured_one h percent (measured_by h percent k p)

-- at most `most` pages were measured: true if all of the heap are, false if `most` were
abbrev pub Measures : HeapState → ℕ → ℕ → PartsState → Bool → PartsState → Type 0
Measures h percent most p true q =
    (k : ℕ) × (k ≤ most) × (q ≡ measured_by h percent k p) × (h.store.count ≤ q.next)
Measures h percent most p false q = q ≡ measured_by h percent most p

-- the longest prefix of pages for which there is space, or the prefix up to one that the heap doesn't have
abbrev pub IsFitting : HeapState → List ℕ → List ℕ → Type 0
IsFitting h ns xs =
    IsLongest h ns xs
    ⊎ ((k : ℕ) × (xs ≡ take k ns) × (has_room_for h xs ≡ true) × (no_page_in h.store (get_or ns k 0) ≡ true))

-- a page that was found has live objects
abbrev pub has_live : ℕ × ℕ → Bool
has_live p = nat_lt 0 p.0

-- how many of the first pages have no live object, up to the first that has one
abbrev pub dead_count : List (ℕ × ℕ) → ℕ
dead_count ps = unwrap_or (position has_live ps) (length ps)

-- the first pages: those up to the first that has live objects, and at most `most` more
abbrev pub first_of : ℕ → List (ℕ × ℕ) → List (ℕ × ℕ)
first_of most ps = take (dead_count ps + most) ps

-- how many of n pages are emptied, if the first `dead` have no live objects: all except a sixteenth of the others,
-- so that objects that are made meanwhile find frames
abbrev pub emptied_of : ℕ → ℕ → ℕ
emptied_of dead n = n - (n - dead) / 16

-- how many words the live objects of the pages that were found have, at most 2 ^ 60
abbrev pub found_words : List (ℕ × ℕ) → ℕ
found_words ps = min (sum_by (λ (p : ℕ × ℕ). p.0) ps) (2 ^ 60)

-- of the pages that were found, those with the fewest live words, at most `most` of those with live objects, and as
-- many as there is space for, except a sixteenth of those with live objects; and how many words they have
abbrev pub IsChosen : ℕ → HeapState → List (ℕ × ℕ) → List ℕ → ℕ → Type 0
IsChosen most h found xs copied = (ps : List (ℕ × ℕ)) × (ns : List ℕ) × IsPermutation found ps × IsRising ps
    × IsFitting h (map page_of (first_of most ps)) ns × (xs ≡ take (emptied_of (dead_count ps) (length ns)) ns)
    × (copied ≡ found_words (take (length xs) ps))

-- ---- how many frames are prepared

-- how many pages of `words` words n live words take, with a sixteenth for what stays free at the ends of pages
abbrev pub pages_for : ℕ → ℕ → ℕ
pages_for words n = (n + n / 16 + (max words 1 - 1)) / max words 1

-- how many frames are prepared for the objects of the pages that were found, of which at most `most` are emptied: at
-- most as many as pages can open
abbrev pub frames_for : HeapState → ℕ → List (ℕ × ℕ) → ℕ
frames_for h most found =
    min (min (pages_for h.config.words (found_words found)) most) (min (free_count h.store) (unused_count h.store))

-- all pages are measured: frames are prepared for what was found
abbrev pub preparing : HeapState → PartsState → PartsState
preparing h p = record p { stage = stages.Prepare; next = 0; frames = frames_for h p.most p.found }

-- how many pages of `words` words have 32 words for each object of a budget; a part prepares one frame more
abbrev pub frames_by : ℕ → ℕ → ℕ
frames_by budget words = budget * 32 / max words 1

-- as many parts as prepare all frames, if of each two parts one finds that a page that opened has taken a frame
abbrev pub parts_for : ℕ → ℕ → ℕ
parts_for frames by = (2 * frames + 2 * by) / (2 * by + 1)

-- the stage prepares frames
abbrev pub is_preparing : Stage → Bool
is_preparing stages.Prepare = true
is_preparing _ = false

-- how many parts prepare frames
abbrev pub preparings : ℕ → PartsState → HeapState → ℕ
preparings budget p h = parts_for p.frames (frames_by budget h.config.words)

-- ---- the operations of a part in each stage

-- a mark has ended, by EndMark as the last step
abbrev pub HasEndedMark : HeapState → HeapState → Type 0
HasEndedMark h g =
    (m : HeapState) × (a : Answer) × Collects h m × (outcome m (Worker WORKER) steps.EndMark ≡ Ok (g, a))

-- how a quantum of a mark ended: true if the mark has
abbrev pub EndsMarking : HeapState → Result Bool Refusal → HeapState → Type 0
EndsMarking h (Ok true) g = Collects h g × HasEndedMark h g
EndsMarking h (Ok false) g = Collects h g
EndsMarking h (Err e) g = Stops h e g

-- a part of the mark: the next part continues it, or chooses pages, as the mark has ended
abbrev pub MarksOn : PartsState → HeapState → Result Bool Refusal → PartsState → HeapState → Type 0
MarksOn p h (Ok b) q g =
    (b ≡ false) × Collects h g × ((q ≡ p) ⊎ ((q ≡ at_stage stages.Choose p.most p.chosen no_words) × HasEndedMark h g))
MarksOn p h (Err e) q g = (q ≡ p) × Stops h e g

-- one more of the chosen pages was emptied, or one more part has prepared frames
abbrev pub passed : PartsState → PartsState
passed p = record p { next = min (p.next + 1) (2 ^ 32 - 1) }

-- these pages were protected, and all threads have crossed: the next parts empty them
abbrev pub IsProtected : List ℕ → ℕ → LiveWords → HeapState → PartsState → HeapState → Type 0
IsProtected ns most words h q g =
    (q ≡ at_stage stages.Empty most ns words) × ((m : HeapState) × Protects WORKER h ns m × Crosses WORKER m g)

-- the protection of pages is rejected, and not for memory, as the choice is out of date: the next part begins anew
abbrev pub BeginsAnew : List ℕ → ℕ → LiveWords → HeapState → PartsState → HeapState → Type 0
BeginsAnew ns most words h q g = (q ≡ at_stage stages.Mark most ns words) × (g ≡ h)
    × ((e : Refusal) × (is_memory e ≡ false) × (outcome h (Worker WORKER) (steps.Protect ns) ≡ Err e))

-- how the crossing of all threads after the protection of pages ended
abbrev pub EndsCrossed : HeapState → Result Bool Refusal → HeapState → Type 0
EndsCrossed h (Ok b) g = (b ≡ false) × Crosses WORKER h g
EndsCrossed h (Err e) g = StopsCrossing WORKER h e g

-- the result if Protect is rejected: out of memory, or else the next part begins anew
abbrev pub TellsAnew : Refusal → PartsState → Result Bool Refusal → PartsState → Type 0
TellsAnew e p (Ok b) q = (b ≡ false) × (is_memory e ≡ false) × (q ≡ at_stage stages.Mark p.most p.chosen p.words)
TellsAnew e p (Err x) q = (x ≡ e) × (is_memory e ≡ true)

-- chosen pages were protected, or that is rejected, or not all threads have crossed
abbrev pub ProtectsSome : List ℕ → ℕ → LiveWords → HeapState → Result Bool Refusal → PartsState → HeapState → Type 0
ProtectsSome ns most words h (Ok b) q g =
    (b ≡ false) × (IsProtected ns most words h q g ⊎ BeginsAnew ns most words h q g)
ProtectsSome ns most words h (Err e) q g = LacksMemory h e g
    ⊎ ((q ≡ at_stage stages.Empty most ns words)
    × ((m : HeapState) × Protects WORKER h ns m × StopsCrossing WORKER m e g))

-- if no page is chosen nothing is done, and it is the last part
abbrev pub ChoosesNone : ℕ → LiveWords → HeapState → Result Bool Refusal → PartsState → HeapState → Type 0
ChoosesNone most words h (Ok b) q g = (q ≡ at_stage stages.Mark most [] words) × (g ≡ h)
ChoosesNone most words h (Err e) q g = ⊥

-- how the protection of the chosen pages ended
abbrev pub ProtectsOn : List ℕ → ℕ → LiveWords → HeapState → Result Bool Refusal → PartsState → HeapState → Type 0
ProtectsOn [] most words h r q g = ChoosesNone most words h r q g
ProtectsOn (n ∷ ns) most words h r q g = ProtectsSome (n ∷ ns) most words h r q g

-- words of which n are copied
abbrev pub with_copied : ℕ → LiveWords → LiveWords
with_copied n w = record w { copied = n }

-- some of the pages that were found are chosen; or there was no memory for that
abbrev pub ChoosesAll : PartsState → HeapState → Result Bool Refusal → PartsState → HeapState → Type 0
ChoosesAll p h (Ok b) q g = (ns : List ℕ) × (copied : ℕ) × IsChosen p.most h p.found ns copied
    × ProtectsOn ns p.most (with_copied copied p.words) h (Ok b) q g
ChoosesAll p h (Err e) q g = LacksMemory h e g
    ⊎ ((ns : List ℕ) × (copied : ℕ) × IsChosen p.most h p.found ns copied
    × ProtectsOn ns p.most (with_copied copied p.words) h (Err e) q g)

-- a part that measures pages; if all are measured, the next part prepares frames
abbrev pub MeasuresOn : ℕ → ℕ → PartsState → HeapState → Result Bool Refusal → PartsState → HeapState → Type 0
MeasuresOn percent budget p h (Ok b) q g = (b ≡ false) × (g ≡ h)
    × (Measures h percent (pages_in budget h.config.words) p false q
    ⊎ ((m : PartsState) × Measures h percent (pages_in budget h.config.words) p true m × (q ≡ preparing h m)))
MeasuresOn percent budget p h (Err e) q g = LacksMemory h e g

-- one more part has prepared frames; if out of memory, the next part chooses with those that there are
abbrev pub PreparesSome : PartsState → HeapState → Result Bool Refusal → PartsState → HeapState → Type 0
PreparesSome p h (Ok b) q g = (b ≡ false) × (q ≡ passed p) × (g ≡ h)
PreparesSome p h (Err e) q g = (q ≡ record p { frames = 0 }) × LacksMemory h e g

-- a part that chooses if all frames are prepared, and prepares some if not
abbrev pub PreparesIf : Bool → PartsState → HeapState → Result Bool Refusal → PartsState → HeapState → Type 0
PreparesIf true p h r q g = ChoosesAll p h r q g
PreparesIf false p h r q g = PreparesSome p h r q g

abbrev pub PreparesOn : ℕ → PartsState → HeapState → Result Bool Refusal → PartsState → HeapState → Type 0
PreparesOn budget p h r q g = PreparesIf (nat_le (preparings budget p h) p.next) p h r q g

-- how the emptying of page n ended: all threads cross, and then the page is emptied, if it is protected
abbrev pub EndsOne : ℕ → HeapState → Result Unit Refusal → HeapState → Type 0
EndsOne n h r g = Then (EndsCrossing WORKER) (λ (u : Unit {0}) (m : HeapState). EndsLeft m n) h r g

-- a part that empties the next of the chosen pages: if none is left, it is the last part
abbrev pub EmptiesOn : PartsState → HeapState → Result Bool Refusal → PartsState → HeapState → Type 0
EmptiesOn p h (Ok b) q g =
    ((slice_get p.chosen p.next ≡ None) × (q ≡ at_stage stages.Mark p.most p.chosen p.words) × (g ≡ h))
    ⊎ ((b ≡ false) × (q ≡ passed p) × ((n : ℕ) × (slice_get p.chosen p.next ≡ Some n) × EndsOne n h (Ok tt) g))
EmptiesOn p h (Err e) q g =
    (q ≡ p) × ((n : ℕ) × (slice_get p.chosen p.next ≡ Some n) × EndsOne n h (Err e) g)

-- a part, by the stage
abbrev pub GoesOnIn : Stage → ℕ → ℕ → PartsState → HeapState → Result Bool Refusal → PartsState → HeapState → Type 0
GoesOnIn stages.Mark percent budget p h r q g = MarksOn p h r q g
GoesOnIn stages.Choose percent budget p h r q g = MeasuresOn percent budget p h r q g
GoesOnIn stages.Prepare percent budget p h r q g = PreparesOn budget p h r q g
GoesOnIn stages.Empty percent budget p h r q g = EmptiesOn p h r q g

-- how a part ends; true if it is the last one
abbrev pub GoesOn : ℕ → ℕ → PartsState → HeapState → Result Bool Refusal → PartsState → HeapState → Type 0
GoesOn percent budget p h r q g = GoesOnIn p.stage percent budget p h r q g

-- GoesOn, and then registers are corrected; true only if it is the last part
abbrev pub PartGoesOn : ℕ → ℕ → PartsState → HeapState → Result Bool Refusal → PartsState → HeapState → Type 0
PartGoesOn percent budget p h (Ok b) q g =
    (m : HeapState) × (last : Bool) × GoesOn percent budget p h (Ok last) q m × Goes IsScrub m g
    × (b ≡ true → last ≡ true)
PartGoesOn percent budget p h (Err e) q g = GoesOn percent budget p h (Err e) q g

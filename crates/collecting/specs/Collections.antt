-- Complete collections.
use Rattle.std.specs.Prelude.{◌≡◌, ◌||◌, ℕ, Bool, true, false, List, [], ◌∷◌, length, Result, Ok, Err}
use Rattle.std.specs.List.{list_any}
use Rattle.choosing.specs.Choices.{IsChoice, all_words, words_on}
use Rattle.model.specs.declared.records.Page.{Page}
use Rattle.model.specs.declared.steps.Refusal.{Refusal}
use Rattle.model.specs.declared.steps.Refusal.TheVariants as refusals
use Rattle.model.specs.Phases.{is_crossing, is_marking}
use Rattle.model.specs.States.{HeapState}
use Rattle.model.specs.Stores.{state_at, is_from}
use Rattle.managed.specs.Goings.{Goes}
use Rattle.managed.specs.Sequences.{Then}
use Rattle.managed.specs.Collecting.{IsCollecting, EndsCrossing, EndsMark, EndsRest}
use Rattle.managed.specs.Emptying.{StopsPage, EndsEmptying}
use Rattle.collecting.specs.declared.collecting.Collected.{Collected}

-- the worker that collects
abbrev pub WORKER : ℕ
WORKER = 0

-- steps of a collection lead from heap h to g
abbrev pub Collects : HeapState → HeapState → Type 0
Collects h g = Goes (IsCollecting WORKER) h g

-- some page is being emptied, and has memory
abbrev pub has_from : List Page → Bool
has_from pages = list_any (λ (p : Page). is_from p.state) pages

-- the rest of an earlier collection has ended: no checkpoint is open, and no page is being emptied
pub record IsSettled (h : HeapState) : Type 0 where
  pub phase : is_crossing h.phase ≡ false
  pub pages : has_from h.store.pages ≡ false

-- steps of a collection have ended it so
abbrev pub Settles : HeapState → HeapState → Type 0
Settles h g = Collects h g × IsSettled g

-- page n isn't being emptied, nor is a page that wasn't before, and the collector is in the same phase
pub record LeftPage (h : HeapState) (n : ℕ) (g : HeapState) : Type 0 where
  pub goes : Collects h g
  pub page : is_from (state_at g.store n) ≡ false
  pub others : (m : ℕ) → is_from (state_at h.store m) ≡ false → is_from (state_at g.store m) ≡ false
  pub count : g.store.count ≡ h.store.count
  pub phase : g.phase ≡ h.phase

-- page n is being emptied, and no checkpoint is open
pub record IsLeft (h : HeapState) (n : ℕ) : Type 0 where
  pub phase : is_crossing h.phase ≡ false
  pub from : is_from (state_at h.store n) ≡ true

-- the emptying of such a page failed with e
abbrev pub StopsLeft : HeapState → ℕ → Refusal → HeapState → Type 0
StopsLeft h n e g = IsLeft h n × StopsPage WORKER h n e g

-- how the emptying of a page ended that an earlier collection may have left
abbrev pub EndsLeft : HeapState → ℕ → Result Unit Refusal → HeapState → Type 0
EndsLeft h n (Ok u) g = LeftPage h n g
EndsLeft h n (Err e) g = Collects h g × StopsLeft h n e g

-- how the emptying of all such pages ended
abbrev pub EndsLeftPages : HeapState → Result Unit Refusal → HeapState → Type 0
EndsLeftPages h (Ok u) g = Settles h g
EndsLeftPages h (Err e) g = Collects h g × ((m : HeapState) × (n : ℕ) × Collects h m × StopsLeft m n e g)

-- how the rest of an earlier collection ended: all threads cross, and then the pages that it left are emptied
abbrev pub EndsSettling : HeapState → Result Unit Refusal → HeapState → Type 0
EndsSettling h result g = Then (EndsCrossing WORKER) (λ (u : Unit {0}). EndsLeftPages) h result g

-- how the mark ended that is due: the rest of the one that runs, else a complete one
abbrev pub EndsDue : Bool → HeapState → Result ℕ Refusal → HeapState → Type 0
EndsDue true h result g = EndsRest WORKER h result g
EndsDue false h result g = EndsMark WORKER h result g

-- EndsDue by the phase of the heap
abbrev pub EndsDueMark : HeapState → Result ℕ Refusal → HeapState → Type 0
EndsDueMark h result g = EndsDue (is_marking h.phase) h result g

-- how the emptying of chosen pages ended; if none was chosen, nothing was done
abbrev pub EmptiesChosen : HeapState → List ℕ → Result Unit Refusal → HeapState → Type 0
EmptiesChosen h [] result g = (result ≡ Ok tt) × (g ≡ h)
EmptiesChosen h (n ∷ ns) result g = EndsEmptying WORKER h (n ∷ ns) result g

-- EmptiesChosen, and how many pages they were
abbrev pub EndsChosen : HeapState → List ℕ → Result ℕ Refusal → HeapState → Type 0
EndsChosen h ns (Ok k) g = (k ≡ length ns) × EmptiesChosen h ns (Ok tt) g
EndsChosen h ns (Err e) g = EmptiesChosen h ns (Err e) g

-- EndsChosen, with the number of live objects that a mark has found, and the words that were measured
abbrev pub EndsChoice : ℕ → ℕ → ℕ → HeapState → List ℕ → Result Collected Refusal → HeapState → Type 0
EndsChoice live live_words copied h ns (Ok r) g =
    (r.live ≡ live) × (r.live_words ≡ live_words) × (r.copied ≡ copied) × EndsChosen h ns (Ok r.emptied) g
EndsChoice live live_words copied h ns (Err e) g = EndsChosen h ns (Err e) g

-- how the choice of pages ended: with these pages, or there was no memory for it; in both cases nothing was done
abbrev pub EndsChoosing : ℕ → HeapState → Result (List ℕ) Refusal → HeapState → Type 0
EndsChoosing percent h (Ok ns) g = IsChoice h percent ns × (g ≡ h)
EndsChoosing percent h (Err e) g = (e ≡ refusals.Memory) × (g ≡ h)

-- how the choice of pages and then their emptying ended, after a mark that found `live` objects; it returns how many
-- words live in all pages as they are chosen, and how many of these in the chosen ones
abbrev pub ChoosesAndEmpties : ℕ → ℕ → HeapState → Result Collected Refusal → HeapState → Type 0
ChoosesAndEmpties percent live h result g =
    Then (EndsChoosing percent) (λ (ns : List ℕ) (m : HeapState). EndsChoice live (all_words m) (words_on m ns) m ns)
    h result g

-- a mark, and the choice and the emptying of pages after it
abbrev pub MarksAndEmpties : ℕ → HeapState → Result Collected Refusal → HeapState → Type 0
MarksAndEmpties percent h result g = Then EndsDueMark (ChoosesAndEmpties percent) h result g

-- how a collection ended: the rest of an earlier one was finished, and then a mark, and pages were emptied
abbrev pub EndsCollecting : ℕ → HeapState → Result Collected Refusal → HeapState → Type 0
EndsCollecting percent h result g = Then EndsSettling (λ (u : Unit {0}). MarksAndEmpties percent) h result g

-- how the rest of an earlier collection ended, and a mark after it
abbrev pub SettlesAndMarks : HeapState → Result ℕ Refusal → HeapState → Type 0
SettlesAndMarks h result g = Then EndsSettling (λ (u : Unit {0}). EndsDueMark) h result g

-- the rest of an earlier collection was finished, and then a mark has ended, which found `live` objects
abbrev pub HasMarked : HeapState → ℕ → HeapState → Type 0
HasMarked h live g = SettlesAndMarks h (Ok live) g

-- the error is that there are too few frames or pages
abbrev pub lacks_room : Refusal → Bool
lacks_room (refusals.NoFrames need free) = true
lacks_room refusals.NoPages = true
lacks_room _ = false

-- the error is that the thread has a buffer already
abbrev pub has_buffer : Refusal → Bool
has_buffer refusals.HasBuffer = true
has_buffer _ = false

-- the error is one of these
abbrev pub is_of_rooms : Refusal → Bool
is_of_rooms e = lacks_room e || has_buffer e

-- any other error, or none
abbrev pub IsNotRoom : {A : Type 0} → Result A Refusal → Type 0
IsNotRoom (Ok x) = Unit {0}
IsNotRoom (Err e) = is_of_rooms e ≡ false

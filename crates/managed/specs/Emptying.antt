-- Pages that are emptied.
use Rattle.std.specs.Prelude.{◌≡◌, ◌≢◌, ◌+◌, ℕ, List, [], ◌∷◌, ◌++◌, length, None, Result, Ok, Err}
use Rattle.std.specs.List.{AllByRecursion}
use Rattle.model.specs.declared.records.PageState.TheVariants.{Gone}
use Rattle.model.specs.declared.steps.Actor.TheVariants.{Worker}
use Rattle.model.specs.declared.steps.Step.{Step}
use Rattle.model.specs.declared.steps.Step.TheVariants as steps
use Rattle.model.specs.declared.steps.Answer.{Answer}
use Rattle.model.specs.declared.steps.Refusal.{Refusal}
use Rattle.model.specs.Outcome.{outcome}
use Rattle.model.specs.Protections.{free_count}
use Rattle.model.specs.States.{HeapState}
use Rattle.model.specs.Stores.{page_at, frame_in, state_at}
use Rattle.managed.specs.Goings.{Goes, Steps}
use Rattle.managed.specs.Sequences.{Then, EndsStep}
use Rattle.managed.specs.Collecting.{IsCollecting, EndsCrossing}

-- page n has no frame
abbrev pub IsBare : HeapState → ℕ → Type 0
IsBare h n = frame_in (page_at h.store n) ≡ None

-- page n was emptied by worker w: it has no frame, no page without a frame got one, and one frame more is free; the
-- other pages and the collector are in the same states as before
pub record PageFreed (w : ℕ) (h : HeapState) (n : ℕ) (g : HeapState) : Type 0 where
  pub goes : Goes (IsCollecting w) h g
  pub bare : IsBare g n
  pub stay : (m : ℕ) → IsBare h m → IsBare g m
  pub more : free_count g.store ≡ free_count h.store + 1
  pub gone : state_at g.store n ≡ Gone
  pub others : (m : ℕ) → m ≢ n → state_at g.store m ≡ state_at h.store m
  pub count : g.store.count ≡ h.store.count
  pub phase : g.phase ≡ h.phase

-- pages were emptied: each has no frame, no page without a frame got one, and as many frames more are free
pub record PagesFreed (w : ℕ) (h : HeapState) (ns : List ℕ) (g : HeapState) : Type 0 where
  pub goes : Goes (IsCollecting w) h g
  pub bare : AllByRecursion (IsBare g) ns
  pub stay : (m : ℕ) → IsBare h m → IsBare g m
  pub more : free_count g.store ≡ free_count h.store + length ns

-- worker w copied objects of pages ahead, if it did: no page has another state or frame, and no thread or phase changed
pub record CopiesAhead (w : ℕ) (h g : HeapState) : Type 0 where
  pub goes : Goes (IsCollecting w) h g
  pub pages : g.store.pages ≡ h.store.pages
  pub owners : g.store.owners ≡ h.store.owners
  pub count : g.store.count ≡ h.store.count
  pub phase : g.phase ≡ h.phase
  pub threads : g.threads ≡ h.threads

-- page n isn't emptied: the copying of its objects is rejected with e, or after it the release of its memory
abbrev pub StopsPage : ℕ → HeapState → ℕ → Refusal → HeapState → Type 0
StopsPage w h n e g =
    Then (EndsStep (Worker w) (steps.CopyPage n)) (λ (a : Answer). EndsStep (Worker w) (steps.Release n)) h (Err e) g

-- how the emptying of a page ended
abbrev pub EndsPage : ℕ → HeapState → ℕ → Result Unit Refusal → HeapState → Type 0
EndsPage w h n (Ok u) g = PageFreed w h n g
EndsPage w h n (Err e) g = Goes (IsCollecting w) h g × StopsPage w h n e g

-- how the release of a page's memory ended
abbrev pub EndsRelease : ℕ → HeapState → ℕ → Result Unit Refusal → HeapState → Type 0
EndsRelease w h n (Ok u) g = PageFreed w h n g
EndsRelease w h n (Err e) g = (outcome h (Worker w) (steps.Release n) ≡ Err e) × (g ≡ h)

-- pages were emptied up to one that isn't
pub record StopsPages (w : ℕ) (h : HeapState) (ns : List ℕ) (e : Refusal) (g : HeapState) : Type 0 where
  pub goes : Goes (IsCollecting w) h g
  pub before : List ℕ
  pub page : ℕ
  pub behind : List ℕ
  pub order : ns ≡ before ++ page ∷ behind
  pub there : HeapState
  pub freed : PagesFreed w h before there
  pub stops : StopsPage w there page e g

-- how the emptying of pages ended, one after another
abbrev pub EndsPages : ℕ → HeapState → List ℕ → Result Unit Refusal → HeapState → Type 0
EndsPages w h ns (Ok u) g = PagesFreed w h ns g
EndsPages w h ns (Err e) g = StopsPages w h ns e g

-- how the emptying of protected pages ended: all threads cross, and then the pages are emptied
abbrev pub EndsProtected : ℕ → HeapState → List ℕ → Result Unit Refusal → HeapState → Type 0
EndsProtected w h ns result g = Then (EndsCrossing w) (λ (u : Unit {0}) (m : HeapState). EndsPages w m ns) h result g

-- how the emptying of pages ended: their protection, and then all that follows it
abbrev pub EndsEmptying : ℕ → HeapState → List ℕ → Result Unit Refusal → HeapState → Type 0
EndsEmptying w h ns result g =
    Then (EndsStep (Worker w) (steps.Protect ns)) (λ (a : Answer) (m : HeapState). EndsProtected w m ns) h result g

-- pages are protected
abbrev pub Protects : ℕ → HeapState → List ℕ → HeapState → Type 0
Protects w h ns g = (a : Answer) × Steps (Worker w) (steps.Protect ns) a h g

-- the pages that a step protects
abbrev pub pages_in : Step → List ℕ
pages_in (steps.Protect ns) = ns
pages_in _ = []

-- whether a step was accepted
abbrev pub whether_told : Result Answer Refusal → Result Unit Refusal
whether_told (Ok a) = Ok tt
whether_told (Err e) = Err e

-- The objects of many pages, which are copied at once.
use Rattle.std.specs.Prelude.{◌≡◌, ℕ, ◌+◌, ◌++◌, ◌<◌, length, List, [], ◌∷◌, Ok, false}
use Rattle.model.specs.Bits.{of_page}
use Rattle.model.specs.Holding.{IsHeap}
use Rattle.model.specs.Outcome.{outcome}
use Rattle.model.specs.Owning.{IsStore}
use Rattle.model.specs.Protections.{no_page_in}
use Rattle.model.specs.States.{HeapState}
use Rattle.model.specs.declared.records.Forwarding.{Forwarding}
use Rattle.model.specs.declared.steps.Actor.TheVariants.{Worker}
use Rattle.model.specs.declared.steps.Answer.TheVariants as answers
use Rattle.model.specs.declared.steps.Step.TheVariants as steps
use Rattle.page.specs.declared.targets.PageRun.{PageRun}
use Rattle.page.specs.declared.targets.Target.{Target}
use Rattle.page.specs.Filling.{runs_of}
use Rattle.relocate.specs.Runs.{may_copy_page}

-- worker w copied all objects of these pages, page by page; the invariants of a heap and its store hold in between
abbrev pub CopiesPages : ℕ → HeapState → List ℕ → HeapState → Type 0
CopiesPages w h [] g = g ≡ h
CopiesPages w h (p ∷ ps) g = (m : HeapState) × (n : ℕ)
    × (outcome h (Worker w) (steps.CopyPage p) ≡ Ok (m, answers.CopiedPage n))
    × IsStore m.store × IsHeap m × CopiesPages w m ps g

-- worker w may copy all objects of page n
pub record MayCopyPage (w : ℕ) (h : HeapState) (n : ℕ) : Type 0 where
  pub worker : w < length h.workers
  pub page : no_page_in h.store n ≡ false
  pub tests : may_copy_page h n ≡ Ok tt

-- runs of a page that follow each other are k entries from number e on
abbrev pub Tiles : ℕ → ℕ → ℕ → List PageRun → Type 0
Tiles p e k [] = k ≡ 0
Tiles p e k (r ∷ rs) =
    (j : ℕ) × (r.page ≡ p) × (r.first ≡ e) × (k ≡ r.count + j) × Tiles p (e + r.count) j rs

-- runs are all entries of these pages, page by page
abbrev pub AreTiled : List (List Forwarding) → List ℕ → List PageRun → Type 0
AreTiled sides [] rs = rs ≡ []
AreTiled sides (p ∷ ps) rs = (xs : List PageRun) × (ys : List PageRun) × (rs ≡ xs ++ ys)
    × Tiles p 0 (length (of_page sides p)) xs × AreTiled sides ps ys

-- the first k entries of a page were added to targets
abbrev pub AddsTo : ℕ → ℕ → List Target → List Target → Type 0
AddsTo p k ts us = (xs : List PageRun) × (runs_of us ≡ runs_of ts ++ xs) × Tiles p 0 k xs

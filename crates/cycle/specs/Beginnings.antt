-- Beginnings: the steps that are done if a call of several steps runs out of memory after some of them.
use Rattle.std.specs.Prelude.{◌≡◌, List, [], ◌∷◌, ◌++◌, Result, Ok, Err}
use Rattle.model.specs.declared.steps.Refusal.{Refusal}
use Rattle.model.specs.declared.steps.Refusal.TheVariants as refusals
use Rattle.entries.specs.declared.entry.Entry.{Entry}
use Rattle.cycle.specs.Books.{BookState, Reply, act_outcome}

-- these steps, each accepted with its answer, lead from one recorded heap to another
abbrev pub Accepts : BookState → List Entry → BookState → Type 0
Accepts b [] c = c ≡ b
Accepts b (e ∷ es) c = (d : BookState) × (act_outcome b e.actor e.step ≡ Ok (d, e.answer)) × Accepts d es c

-- their replies
abbrev pub replies_to : List Entry → List Reply
replies_to [] = []
replies_to (e ∷ es) = Ok e.answer ∷ replies_to es

-- A beginning of steps, all of which would leave the recorded heap `whole`. The steps done were accepted one after
-- another, and lead from the old recorded heap to the new one. They are the first of all: the history of `whole`
-- continues that of the new one. Their replies are appended to those before.
pub record IsBeginning (whole old : BookState) (before : List Reply) (new : BookState) (all : List Reply) : Type 0 where
  pub steps : List Entry
  pub left : List Entry
  pub accepted : Accepts old steps new
  pub first : whole.history ≡ new.history ++ left
  pub told : all ≡ before ++ replies_to steps

-- any result except `Memory`
abbrev pub NotMemory : {A : Type 0} → Result A Refusal → Type 0
NotMemory (Err refusals.Memory) = ⊥
NotMemory result = Unit {0}

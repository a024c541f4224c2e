-- Counters of collections, alongside a heap.
use Rattle.std.proofs.Common.{◌≡◌, ◌∙◌, ℕ, true, refl, sym, subst, ap, inl, inr}
use Rattle.std.specs.Prelude.{Result, Err}
use Rattle.std.proofs.lemmas.Bool.{or_parts, true≢false}
use Rattle.model.specs.declared.records.Buffer.{Buffer}
use Rattle.model.specs.declared.steps.Step.TheVariants as steps
use Rattle.model.specs.declared.steps.Refusal.{Refusal}
use Rattle.model.specs.Saying.{done, lent}
use Rattle.model.specs.States.{HeapState}
use Rattle.cycle.specs.Mutating.{DoesThread, ThreadStands}
use Rattle.managed.proofs.Going.{goes_none, goes_thread}
use Rattle.collecting.specs.declared.collecting.Collected.{Collected}
use Rattle.collecting.specs.declared.counting.Cause.{Cause}
use Rattle.collecting.specs.declared.counting.Counters.{Counters}
use Rattle.collecting.specs.Collections.{EndsCollecting, has_buffer, lacks_room}
use Rattle.collecting.specs.Counting.{CountsRoom, HasCounted, IsTake, LacksRoom, TakesOnly, counted}
use Rattle.collecting.specs.Rooms.{IsAny, RefillsBy}
use Rattle.collecting.proofs.NotRoom.{collecting_not}

-- a buffer is given back, if there is one
pub given_only : (t : ℕ) (h g : HeapState) (r : Result Unit Refusal) → DoesThread done h t steps.GiveBack r g
    → ThreadStands done h t steps.GiveBack r g → TakesOnly t h g
given_only t h g r does keeps = goes_thread (IsTake t) done h h g t steps.GiveBack r refl does keeps
    (goes_none (IsTake t) h)

-- a buffer is given back, and one is taken
pub taken_only : (t n : ℕ) (h m g : HeapState) (q : Result Unit Refusal) (r : Result Buffer Refusal)
    → DoesThread done h t steps.GiveBack q m → ThreadStands done h t steps.GiveBack q m
    → DoesThread lent m t (steps.Take n) r g → ThreadStands lent m t (steps.Take n) r g → TakesOnly t h g
taken_only t n h m g q r back kept does keeps = goes_thread (IsTake t) lent h m g t (steps.Take n) r refl does keeps
    (given_only t h m q back kept)

-- a collection was counted
pub counted_once : (cause : Cause) (percent : ℕ) (h g : HeapState) (r : Result Collected Refusal) (old new : Counters)
    → EndsCollecting percent h r g → new ≡ counted cause r old → HasCounted cause percent h old new
counted_once cause percent h g r old new ends counts = (r, g, ends, counts)

-- a Take is rejected for lack of space only on the current heap
pub lacks_here : (t n percent : ℕ) (h g : HeapState) (q : Result Buffer Refusal) (e : Refusal) → q ≡ Err e
    → lacks_room e ≡ true → RefillsBy IsAny t n percent h q g → LacksRoom t n g
lacks_here t n percent h g q e is room k =
    by_case (subst (λ (r : Result Buffer Refusal). RefillsBy IsAny t n percent h r g) is k)
  where
    by_case : RefillsBy IsAny t n percent h (Err e) g → LacksRoom t n g
    by_case (_, inl refused) = (e, refused.0, room)
    by_case (_, inr (inl lacks)) = absurd (true≢false (sym room ∙ ap lacks_room lacks.2.0))
    by_case (_, inr (inr ends)) = absurd (true≢false (sym room ∙ (or_parts (lacks_room e) (has_buffer e)
        (collecting_not percent ends.0 (Err e) g ends.2)).0))

-- nothing but a Take was done
pub not_counted : (t n percent : ℕ) (h g : HeapState) (old : Counters) → TakesOnly t h g
    → CountsRoom t n percent h old g old
not_counted t n percent h g old only = inl (only, refl)

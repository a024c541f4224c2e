-- Objects that are copied ahead: steps of a collection, which leave pages, threads and the phase.
use Rattle.std.proofs.Common.{◌≡◌, ◌∙◌, ℕ, zero, suc, ◌+◌, ◌||◌, Bool, true, false, List, [], ◌∷◌, length, not, nat_le}
use Rattle.std.proofs.Common.{refl, sym, subst, ap}
use Rattle.std.specs.List.{list_any}
use Rattle.std.specs.Prelude.{Result, Ok, Err, if◌then◌else◌}
use Rattle.model.specs.declared.steps.Actor.TheVariants.{Worker}
use Rattle.model.specs.declared.steps.Answer.{Answer}
use Rattle.model.specs.declared.steps.Answer.TheVariants as answers
use Rattle.model.specs.declared.steps.Refusal.{Refusal}
use Rattle.model.specs.declared.steps.Refusal.TheVariants as refusals
use Rattle.model.specs.declared.steps.Step.TheVariants as steps
use Rattle.model.specs.Bits.{of_page}
use Rattle.model.specs.Checkpoints.{all_crossed, first_behind, none_behind}
use Rattle.model.specs.Emptying.{copies_from, copy_outcome, copy_page, copy_page_outcome, crossed_if_protecting}
use Rattle.model.specs.Emptying.{entry_on, heap_after}
use Rattle.model.specs.Holding.{IsHeap}
use Rattle.model.specs.Moves.{with_copy}
use Rattle.model.specs.Outcome.{outcome, worker_gate}
use Rattle.model.specs.Owning.{IsStore}
use Rattle.model.specs.Phases.{is_idle}
use Rattle.model.specs.Protections.{are_bad_pages, has_twice, no_page_in, protect_outcome}
use Rattle.model.specs.Refusing.{DoesStep, Outcome}
use Rattle.model.specs.States.{HeapState, ThreadState}
use Rattle.model.specs.Stores.{is_from, state_at}
use Rattle.refinement.specs.Standing.{StepsHold}
use Rattle.refinement.proofs.Accepted.{OnAccepted, of_accepted, on_bind, on_some, on_unless}
use Rattle.relocate.specs.Many.{CopiesPages}
use Rattle.managed.specs.Collecting.{IsCollecting}
use Rattle.managed.specs.Emptying.{CopiesAhead, EndsPages, PagesFreed}
use Rattle.managed.specs.Goings.{entry}
use Rattle.managed.proofs.Draining.{runs_held}
use Rattle.managed.proofs.Frames.{SameFrames, bare_same, copy_page_phase, copy_page_row, free_same}
use Rattle.managed.proofs.Going.{goes_none, goes_then}

-- ---- threads stay while objects are copied

abbrev Same : HeapState → Outcome → Type 0
Same h o = OnAccepted (λ (z : HeapState × Answer). z.0.threads ≡ h.threads) o

copy_threads : (h : HeapState) (page e : ℕ) → Same h (copy_outcome h page e)
unfolding copy_outcome with_copy
copy_threads h page e = on_unless (is_idle h.phase) _ _ _ (λ u. on_bind (crossed_if_protecting h) _ _ (λ v f.
    on_some (entry_on h page e) _ _ _ (λ w g. on_unless w.copied _ _ _ (λ x. refl))))

after_threads : (h : HeapState) (o : Outcome) → Same h o → (heap_after h o).threads ≡ h.threads
after_threads h (Ok x) k = k
after_threads h (Err e) k = refl

copies_threads : (h : HeapState) (page e k : ℕ) → (copies_from h page e k).threads ≡ h.threads
copies_threads h page e zero = refl
copies_threads h page e (suc k) = copies_threads (heap_after h (copy_outcome h page e)) page (e + 1) k
    ∙ after_threads h (copy_outcome h page e) (copy_threads h page e)

page_threads : (h : HeapState) (w page : ℕ) → Same h (outcome h (Worker w) (steps.CopyPage page))
unfolding outcome copy_page_outcome copy_page
page_threads h w page = on_bind (worker_gate h w (steps.CopyPage page)) _ _ (λ t f.
    on_unless (is_idle h.phase) _ _ _ (λ u. on_bind (crossed_if_protecting h) _ _ (λ v g.
    on_unless (not (is_from (state_at h.store page))) _ _ _ (λ x.
    copies_threads h page 0 (length (of_page h.sides page))))))

-- ---- pages, one after another

pub nothing_ahead : (w : ℕ) (h : HeapState) → CopiesAhead w h h
nothing_ahead w h = record {
  goes = goes_none (IsCollecting w) h;
  pages = refl;
  owners = refl;
  count = refl;
  phase = refl;
  threads = refl;
}

ahead_then : (w : ℕ) (h m g : HeapState) → CopiesAhead w h m → CopiesAhead w m g → CopiesAhead w h g
ahead_then w h m g a b = record {
  goes = goes_then (IsCollecting w) h m g a.goes b.goes;
  pages = b.pages ∙ a.pages;
  owners = b.owners ∙ a.owners;
  count = b.count ∙ a.count;
  phase = b.phase ∙ a.phase;
  threads = b.threads ∙ a.threads;
}

page_ahead : StepsHold → (w : ℕ) (h m : HeapState) (p n : ℕ) → IsStore h.store → IsHeap h
    → outcome h (Worker w) (steps.CopyPage p) ≡ Ok (m, answers.CopiedPage n) → CopiesAhead w h m
page_ahead law w h m p n s i is =
    let same : SameFrames h m = of_accepted (λ (z : HeapState × Answer). SameFrames h z.0)
    (outcome h (Worker w) (steps.CopyPage p)) (m, answers.CopiedPage n) (copy_page_row h w p) is in
    record {
      goes = record {
        entries = entry (Worker w) (steps.CopyPage p) (answers.CopiedPage n) ∷ [];
        each = (refl, tt);
        runs = runs_held law h m (Worker w) (steps.CopyPage p) (answers.CopiedPage n) s i is;
      };
      pages = same.pages;
      owners = same.owners;
      count = same.count;
      phase = of_accepted (λ (z : HeapState × Answer). z.0.phase ≡ h.phase)
          (outcome h (Worker w) (steps.CopyPage p)) (m, answers.CopiedPage n) (copy_page_phase h w p) is;
      threads = of_accepted (λ (z : HeapState × Answer). z.0.threads ≡ h.threads)
          (outcome h (Worker w) (steps.CopyPage p)) (m, answers.CopiedPage n) (page_threads h w p) is;
    }

pub pages_ahead : StepsHold → (w : ℕ) (h : HeapState) (ps : List ℕ) (g : HeapState) → IsStore h.store → IsHeap h
    → CopiesPages w h ps g → CopiesAhead w h g
pages_ahead law w h [] g s i k = subst (CopiesAhead w h) (sym k) (nothing_ahead w h)
pages_ahead law w h (p ∷ ps) g s i (m, n, is, store, heap, rest) =
    ahead_then w h m g (page_ahead law w h m p n s i is) (pages_ahead law w m ps g store heap rest)

-- copies that were made, or not
pub ahead : StepsHold → (w : ℕ) (h : HeapState) (ps : List ℕ) (done : Bool) (g : HeapState) → IsStore h.store
    → IsHeap h → (done ≡ true → CopiesPages w h ps g) → (done ≡ false → g ≡ h) → CopiesAhead w h g
ahead law w h ps true g s i copied stays = pages_ahead law w h ps g s i (copied refl)
ahead law w h ps false g s i copied stays = subst (CopiesAhead w h) (sym (stays refl)) (nothing_ahead w h)

-- ---- emptying after them

same_frames : (w : ℕ) (h g : HeapState) → CopiesAhead w h g → SameFrames h g
same_frames w h g k = record { pages = k.pages; owners = k.owners; count = k.count }

freed_after : (w : ℕ) (h m g : HeapState) (ns : List ℕ) → CopiesAhead w h m → PagesFreed w m ns g
    → PagesFreed w h ns g
freed_after w h m g ns a b =
    let same = same_frames w h m a in
    record {
      goes = goes_then (IsCollecting w) h m g a.goes b.goes;
      bare = b.bare;
      stay = λ k z. b.stay k (bare_same h m k same z);
      more = b.more ∙ ap (λ (c : ℕ). c + length ns) (free_same h m same);
    }

pub ends_after : (w : ℕ) (h m g : HeapState) (ns : List ℕ) (r : Result Unit Refusal) → CopiesAhead w h m
    → EndsPages w m ns r g → EndsPages w h ns r g
ends_after w h m g ns (Ok u) a b = freed_after w h m g ns a b
ends_after w h m g ns (Err e) a b = record {
  goes = goes_then (IsCollecting w) h m g a.goes b.goes;
  before = b.before;
  page = b.page;
  behind = b.behind;
  order = b.order;
  there = b.there;
  freed = freed_after w h m b.there b.before a b.freed;
  stops = b.stops;
}

pub crossed_after : (w : ℕ) (h m : HeapState) → CopiesAhead w h m → all_crossed h ≡ Ok tt → all_crossed m ≡ Ok tt
unfolding all_crossed
crossed_after w h m a e = ap (λ (ts : List ThreadState). none_behind (first_behind ts)) a.threads ∙ e

-- ---- pages that a step protected are named once

once : (h : HeapState) (ns : List ℕ) → are_bad_pages h ns ≡ false → has_twice ns ≡ false
once h [] e = refl
once h (n ∷ ns) e = second (list_any (no_page_in h.store) (n ∷ ns)) (has_twice (n ∷ ns)) e
  where
    second : (a b : Bool) → (a || b) ≡ false → b ≡ false
    second true b z = absurd (cc)
    second false b z = z

passed : (h : HeapState) (w : ℕ) (ns : List ℕ) (u : Unit {0}) → worker_gate h w (steps.Protect ns) ≡ Ok u
    → are_bad_pages h ns ≡ false
unfolding worker_gate
passed h w ns u e = by_tests (nat_le (length h.workers) w) (are_bad_pages h ns) refl e
  where
    by_tests : (a b : Bool) → are_bad_pages h ns ≡ b
        → (if a || false then Err refusals.NoActor else (if b then Err refusals.BadIndex else Ok tt)) ≡ Ok u
        → are_bad_pages h ns ≡ false
    by_tests true b z k = absurd (cc)
    by_tests false true z k = absurd (cc)
    by_tests false false z k = z

on_any : {A : Type 0} (P : Type 0) (r : Result A Refusal) → P → OnAccepted (λ (x : A). P) r
on_any P (Ok x) p = p
on_any P (Err e) p = tt

protect_row : (h : HeapState) (w : ℕ) (ns : List ℕ)
    → OnAccepted (λ (z : HeapState × Answer). has_twice ns ≡ false) (outcome h (Worker w) (steps.Protect ns))
unfolding outcome
protect_row h w ns = on_bind (worker_gate h w (steps.Protect ns)) _ _ (λ u e.
    on_any (has_twice ns ≡ false) (protect_outcome h ns) (once h ns (passed h w ns u e)))

pub protect_once : (h g : HeapState) (w : ℕ) (ns : List ℕ) (r : Result Answer Refusal) (a : Answer) → r ≡ Ok a
    → DoesStep h (steps.Protect ns) r g (outcome h (Worker w) (steps.Protect ns)) → has_twice ns ≡ false
protect_once h g w ns (Err e) a is does = absurd (cc)
protect_once h g w ns (Ok x) a is does = of_accepted (λ (z : HeapState × Answer). has_twice ns ≡ false)
    (outcome h (Worker w) (steps.Protect ns)) (g, x) (protect_row h w ns) does

-- What owns frames stays: crossings, scrubs and copies leave the pages' records.
use Rattle.std.proofs.Common.{◌≡◌, ◌∙◌, ℕ, zero, suc, ◌+◌, ◌-◌, ◌*◌, Bool, true, false, List, []}
use Rattle.std.proofs.Common.{◌∷◌, length}
use Rattle.std.proofs.Common.{cond, not, nat_eq, is_none, count_by, refl, sym, subst, ap}
use Rattle.std.proofs.Common.{Option, Some, None}
use Rattle.std.specs.Prelude.{Ok, Err}
use Rattle.std.specs.List.{slice_get}
use Rattle.model.specs.declared.records.Forwarding.{Forwarding}
use Rattle.model.specs.declared.records.Page.{Page}
use Rattle.model.specs.declared.steps.Actor.{Actor}
use Rattle.model.specs.declared.steps.Actor.TheVariants.{Thread, Worker}
use Rattle.model.specs.declared.steps.Step.{Step}
use Rattle.model.specs.declared.steps.Step.TheVariants as steps
use Rattle.model.specs.declared.steps.Answer.{Answer}
use Rattle.model.specs.declared.steps.Answer.TheVariants as answers
use Rattle.model.specs.declared.steps.Refusal.TheVariants as refusals
use Rattle.model.specs.Bits.{of_page}
use Rattle.model.specs.Checkpoints.{with_crossed, with_marked_word, with_marked_register}
use Rattle.model.specs.Checkpoints.{with_marked_registers, marked_at_crossing, cross_thread, may_cross, cross_outcome}
use Rattle.model.specs.Checkpoints.{cross_for_outcome}
use Rattle.model.specs.Emptying.{crossed_if_protecting, entry_on, copy_outcome, heap_after, copies_from, copy_page}
use Rattle.model.specs.Emptying.{copy_page_outcome}
use Rattle.model.specs.Marks.{with_mark, entry_at}
use Rattle.model.specs.Moves.{with_copy, with_copied_words, copied_by, copied_first, copied_for}
use Rattle.model.specs.Moves.{moved_word}
use Rattle.model.specs.Outcome.{outcome, worker_gate, thread_gate}
use Rattle.model.specs.Phases.{is_idle, is_protect_crossing}
use Rattle.model.specs.Protections.{free_count}
use Rattle.model.specs.Refusing.{Outcome}
use Rattle.model.specs.Loads.{is_refused}
use Rattle.model.specs.Registers.{register_of, with_register, let_through}
use Rattle.model.specs.States.{HeapState, Reference}
use Rattle.model.specs.Stores.{page_at, state_at, state_in, frame_in, is_from, with_words}
use Rattle.model.specs.Threads.{is_parked_in}
use Rattle.model.specs.Traps.{scrub_word, scrub_outcome}
use Rattle.refinement.proofs.MovingPhases.{Stays, copy_stays}
use Rattle.refinement.proofs.Accepted.{OnAccepted, of_accepted, on_bind, on_some, on_test, on_unless}
use Rattle.entries.specs.declared.entry.Entry.{Entry}
use Rattle.managed.specs.Runs.{Leads}
use Rattle.managed.specs.Goings.{EachIs, Goes, IsCrossing, IsScrub}
use Rattle.managed.specs.Emptying.{IsBare}

-- ---- what owns frames stays

-- the pages' records and the frames' owners are the same, and how many pages there are
pub record SameFrames (h g : HeapState) : Type 0 where
  pub pages : g.store.pages ≡ h.store.pages
  pub owners : g.store.owners ≡ h.store.owners
  pub count : g.store.count ≡ h.store.count

pub same_none : (h : HeapState) → SameFrames h h
same_none h = record { pages = refl; owners = refl; count = refl }

same_then : (h m g : HeapState) → SameFrames h m → SameFrames m g → SameFrames h g
same_then h m g a b =
    record { pages = b.pages ∙ a.pages; owners = b.owners ∙ a.owners; count = b.count ∙ a.count }

copy_same : (h : HeapState) (a to : ℕ) → SameFrames h (with_copy h a to)
unfolding with_copy with_copied_words with_words
copy_same h a to = record { pages = refl; owners = refl; count = refl }

first_same : (h : HeapState) (a : ℕ) → SameFrames h (copied_first h a)
unfolding copied_first
first_same h a = by_entry (entry_at h a)
  where
    by_test : (b : Bool) (to : ℕ) → SameFrames h (cond b h (with_copy h a to))
    by_test true to = same_none h
    by_test false to = copy_same h a to

    by_entry : (o : Option Forwarding) → SameFrames h (copied_by h a o)
    by_entry None = same_none h
    by_entry (Some f) = by_test f.copied f.to

for_same : (h : HeapState) (v : Reference) → SameFrames h (copied_for h v)
unfolding copied_for
for_same h None = same_none h
for_same h (Some w) = first_same h w.0

register_same : (h : HeapState) (t r : ℕ) → SameFrames h (with_marked_register h t r)
unfolding with_marked_register with_marked_word with_register with_mark
register_same h t r =
    let k = for_same h (register_of h t r) in record { pages = k.pages; owners = k.owners; count = k.count }

registers_same : (h : HeapState) (t n : ℕ) → SameFrames h (with_marked_registers h t n)
registers_same h t zero = same_none h
registers_same h t (suc n) = same_then h (with_marked_registers h t n) (with_marked_registers h t (suc n))
    (registers_same h t n) (register_same (with_marked_registers h t n) t n)

cross_same : (h : HeapState) (t : ℕ) → SameFrames h (cross_thread h t)
unfolding cross_thread with_crossed
cross_same h t =
    let k = registers_same h t (marked_at_crossing h) in
    record { pages = k.pages; owners = k.owners; count = k.count }

-- after an accepted outcome they are the same
abbrev IsSame : HeapState → Outcome → Type 0
IsSame h o = OnAccepted (λ (z : HeapState × Answer). SameFrames h z.0) o

crossing_row : (h : HeapState) (t : ℕ) → IsSame h (cross_outcome h t)
unfolding cross_outcome
crossing_row h t = on_bind (may_cross h t) _ _ (λ u f. cross_same h t)

crossing_for_row : (h : HeapState) (t : ℕ) → IsSame h (cross_for_outcome h t)
unfolding cross_for_outcome
crossing_for_row h t = on_test (not (is_parked_in (slice_get h.threads t))) refusals.NotParked (cross_outcome h t)
    (λ (z : HeapState × Answer). SameFrames h z.0) (λ e. crossing_row h t)

crossing_same : (w : ℕ) (h : HeapState) (actor : Actor) (step : Step) → IsCrossing w actor step
    → IsSame h (outcome h actor step)
unfolding outcome
crossing_same w h (Thread t) steps.Cross is = on_bind (thread_gate h t steps.Cross) _ _ (λ u f. crossing_row h t)
crossing_same w h (Thread t) _ is = absurd is
crossing_same w h (Worker v) (steps.CrossFor t) is =
    on_bind (worker_gate h v (steps.CrossFor t)) _ _ (λ u f. crossing_for_row h t)
crossing_same w h (Worker v) _ is = absurd is

scrub_word_row : (h : HeapState) (t r : ℕ) (w : ℕ × Bool) → IsSame h (scrub_word h t r w)
unfolding with_register
scrub_word_row h t r w = by_tests (not (is_refused (let_through h t w.0))) (is_protect_crossing h.phase)
  where
    new : Outcome
    new = Ok (with_register (copied_first h w.0) t r (Some (moved_word h w)), answers.Moved)

    clean : Outcome
    clean = Ok (h, answers.Clean)

    by_tests : (a b : Bool) → IsSame h (cond a clean (cond b (Err refusals.Stall) new))
    by_tests true b = same_none h
    by_tests false true = tt
    by_tests false false = let k = first_same h w.0 in record { pages = k.pages; owners = k.owners; count = k.count }

scrub_row : (h : HeapState) (t r : ℕ) → IsSame h (scrub_outcome h t r)
unfolding scrub_outcome
scrub_row h t r = on_some (register_of h t r) _ _ _ (λ w at. scrub_word_row h t r w)

scrub_same : (h : HeapState) (actor : Actor) (step : Step) → IsScrub actor step → IsSame h (outcome h actor step)
unfolding outcome
scrub_same h (Thread t) (steps.Scrub r) is = on_bind (thread_gate h t (steps.Scrub r)) _ _ (λ u f. scrub_row h t r)
scrub_same h (Thread t) _ is = absurd is
scrub_same h (Worker v) step is = absurd is

-- over steps
leads_same : (P : Actor → Step → Type 0)
    → ((h : HeapState) (actor : Actor) (step : Step) → P actor step → IsSame h (outcome h actor step))
    → (h g : HeapState) (es : List Entry) → EachIs P es → Leads h es g → SameFrames h g
leads_same P f h g [] each leads = subst (SameFrames h) (sym leads) (same_none h)
leads_same P f h g (e ∷ es) each leads =
    let one : SameFrames h leads.0 = of_accepted (λ (z : HeapState × Answer). SameFrames h z.0)
    (outcome h e.actor e.step) (leads.0, e.answer) (f h e.actor e.step each.0) leads.1 in
    same_then h leads.0 g one (leads_same P f leads.0 g es each.1 leads.2)

pub crossings_same_frames : (w : ℕ) (h g : HeapState) → Goes (IsCrossing w) h g → SameFrames h g
crossings_same_frames w h g k = leads_same (IsCrossing w) (crossing_same w) h g k.entries k.each k.runs.steps

pub scrubs_same_frames : (h g : HeapState) → Goes IsScrub h g → SameFrames h g
scrubs_same_frames h g k = leads_same IsScrub scrub_same h g k.entries k.each k.runs.steps

-- a page that is copied
copy_row : (h : HeapState) (page e : ℕ) → IsSame h (copy_outcome h page e)
unfolding copy_outcome
copy_row h page e = on_unless (is_idle h.phase) _ _ _ (λ u. on_bind (crossed_if_protecting h) _ _ (λ v f.
    on_some (entry_on h page e) _ _ _ (λ w g. on_unless w.copied _ _ _ (λ x.
    copy_same h (page * h.store.words + w.offset) w.to))))

after_same : (h : HeapState) (o : Outcome) → IsSame h o → SameFrames h (heap_after h o)
after_same h (Ok x) k = k
after_same h (Err e) k = same_none h

copies_same : (h : HeapState) (page e k : ℕ) → SameFrames h (copies_from h page e k)
copies_same h page e zero = same_none h
copies_same h page e (suc k) = same_then h (heap_after h (copy_outcome h page e)) (copies_from h page e (suc k))
    (after_same h (copy_outcome h page e) (copy_row h page e))
    (copies_same (heap_after h (copy_outcome h page e)) page (e + 1) k)

pub copy_page_row : (h : HeapState) (w page : ℕ) → IsSame h (outcome h (Worker w) (steps.CopyPage page))
unfolding outcome copy_page_outcome copy_page
copy_page_row h w page = on_bind (worker_gate h w (steps.CopyPage page)) _ _ (λ t f.
    on_unless (is_idle h.phase) _ _ _ (λ u. on_bind (crossed_if_protecting h) _ _ (λ v g.
    on_unless (not (is_from (state_at h.store page))) _ _ _ (λ x.
    copies_same h page 0 (length (of_page h.sides page))))))

-- the phase stays, too
after_phase : (h : HeapState) (o : Outcome) → Stays h o → (heap_after h o).phase ≡ h.phase
after_phase h (Ok x) k = k
after_phase h (Err e) k = refl

copies_phase : (h : HeapState) (page e k : ℕ) → (copies_from h page e k).phase ≡ h.phase
copies_phase h page e zero = refl
copies_phase h page e (suc k) = copies_phase (heap_after h (copy_outcome h page e)) page (e + 1) k
    ∙ after_phase h (copy_outcome h page e) (copy_stays h page e)

pub copy_page_phase : (h : HeapState) (w page : ℕ) → Stays h (outcome h (Worker w) (steps.CopyPage page))
unfolding outcome copy_page_outcome copy_page
copy_page_phase h w page = on_bind (worker_gate h w (steps.CopyPage page)) _ _ (λ t f.
    on_unless (is_idle h.phase) _ _ _ (λ u. on_bind (crossed_if_protecting h) _ _ (λ v g.
    on_unless (not (is_from (state_at h.store page))) _ _ _ (λ x.
    copies_phase h page 0 (length (of_page h.sides page))))))

-- what is read of them
pub state_same : (h g : HeapState) (n : ℕ) → SameFrames h g → state_at g.store n ≡ state_at h.store n
unfolding state_at page_at
state_same h g n k = ap (λ (ps : List Page). state_in (cond (nat_eq n 0) None (slice_get ps (n - 1)))) k.pages

pub bare_same : (h g : HeapState) (n : ℕ) → SameFrames h g → IsBare h n → IsBare g n
unfolding page_at
bare_same h g n k b = ap (λ (ps : List Page). frame_in (cond (nat_eq n 0) None (slice_get ps (n - 1)))) k.pages ∙ b

pub free_same : (h g : HeapState) → SameFrames h g → free_count g.store ≡ free_count h.store
unfolding free_count
free_same h g k = ap (count_by is_none) k.owners

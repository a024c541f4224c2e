-- Registers that are corrected, from one to the next.
use Rattle.std.proofs.Common.{◌≡◌, ◌≢◌, ◌⊎◌, ◌∙◌, inl, inr, ℕ, ◌-◌, ◌/◌, Bool, true, false, not, cond}
use Rattle.std.proofs.Common.{List, [], ◌∷◌, length, Option, Some, None, nat_eq, nat_le, set, refl, sym, subst, ap, ap₂}
use Rattle.std.specs.Prelude.{Result, Ok, Err, if◌then◌else◌, ◌&&◌, ◌||◌}
use Rattle.std.specs.List.{slice_get}
use Rattle.std.proofs.lemmas.Bool.{cases_eq, true≢false}
use Rattle.model.specs.declared.records.Forwarding.{Forwarding}
use Rattle.model.specs.declared.records.Page.{Page}
use Rattle.model.specs.declared.steps.Actor.{Actor}
use Rattle.model.specs.declared.steps.Actor.TheVariants.{Thread, Worker}
use Rattle.model.specs.declared.steps.Step.{Step}
use Rattle.model.specs.declared.steps.Step.TheVariants as steps
use Rattle.model.specs.declared.steps.Answer.{Answer}
use Rattle.model.specs.declared.steps.Answer.TheVariants as answers
use Rattle.model.specs.declared.steps.Refusal.{Refusal}
use Rattle.model.specs.declared.steps.Refusal.TheVariants as refusals
use Rattle.model.specs.Loads.{is_refused}
use Rattle.model.specs.Marks.{entry_at}
use Rattle.model.specs.Moves.{with_copy, with_copied_words, copied_by, copied_first, moved_word}
use Rattle.model.specs.Outcome.{outcome, thread_gate, is_loading_in}
use Rattle.model.specs.Phases.{is_protect_crossing}
use Rattle.model.specs.Registers.{register_of, with_register, let_through}
use Rattle.model.specs.States.{HeapState, ThreadState, Reference, flat, change_at, change_found}
use Rattle.model.specs.Stores.{page_at, state_at, state_in, is_protected, with_words}
use Rattle.model.specs.Threads.{is_parked_in, register_in, set_register_of}
use Rattle.model.specs.Traps.{scrub_outcome}
use Rattle.model.proofs.Lists.{get_set_same, get_set_other}
use Rattle.laws.proofs.Basics.{put_other}
use Rattle.refinement.proofs.Accepted.{OnAccepted, of_accepted, on_bind, on_some}
use Rattle.refinement.proofs.Changes.{get_changed, kept_of}
use Rattle.refinement.proofs.Moving.{held_protected}
use Rattle.entries.specs.declared.entry.Entry.{Entry}
use Rattle.managed.specs.Runs.{Leads}
use Rattle.managed.specs.Goings.{EachIs, Goes, IsScrub}
use Rattle.managed.specs.Scrubbing.{names_protected, IsScrubbed}

-- ---- what a scrub does

-- the register's word may be used, and nothing is done
pub record Cleans (h : HeapState) (t r : ℕ) (g : HeapState) : Type 0 where
  pub word : ℕ × Bool
  pub at : register_of h t r ≡ Some word
  pub free : is_refused (let_through h t word.0) ≡ false
  pub same : g ≡ h

-- it may not be used, and is corrected
pub record Moves (h : HeapState) (t r : ℕ) (g : HeapState) : Type 0 where
  pub word : ℕ × Bool
  pub at : register_of h t r ≡ Some word
  pub held : is_refused (let_through h t word.0) ≡ true
  pub is : g ≡ with_register (copied_first h word.0) t r (Some (moved_word h word))

-- an accepted scrub of register r of thread t, which runs and has no open barrier
pub record Scrubs (h : HeapState) (t r : ℕ) (g : HeapState) : Type 0 where
  pub running : is_parked_in (slice_get h.threads t) ≡ false
  pub closed : is_loading_in (slice_get h.threads t) ≡ false
  pub does : Cleans h t r g ⊎ Moves h t r g

abbrev passed : Result (Unit {0}) Refusal
passed = Ok tt

free_of : (h : HeapState) (t r : ℕ) → thread_gate h t (steps.Scrub r) ≡ Ok tt
    → (is_parked_in (slice_get h.threads t) ≡ false) × (is_loading_in (slice_get h.threads t) ≡ false)
unfolding thread_gate
free_of h t r e = by_tests (nat_le (length h.threads) t) _ (is_parked_in (slice_get h.threads t))
    (is_loading_in (slice_get h.threads t)) e
  where
    by_tests : (a b p l : Bool) → (if a || false then Err refusals.NoActor else (if b then Err refusals.BadIndex else
        (if p && true then Err refusals.Parked else (if l && true then Err refusals.Busy else passed)))) ≡ passed
        → (p ≡ false) × (l ≡ false)
    by_tests true b p l k = absurd cc
    by_tests false true p l k = absurd cc
    by_tests false false true l k = absurd cc
    by_tests false false false true k = absurd cc
    by_tests false false false false k = (refl, refl)

scrub_row : (h : HeapState) (t r : ℕ)
    → OnAccepted (λ (z : HeapState × Answer). Scrubs h t r z.0) (outcome h (Thread t) (steps.Scrub r))
unfolding outcome scrub_outcome
scrub_row h t r = on_bind (thread_gate h t (steps.Scrub r)) _ _ (λ u f.
    on_some (register_of h t r) _ _ _ (λ w at. by_word (free_of h t r f) w at (is_refused (let_through h t w.0)) refl
    (is_protect_crossing h.phase)))
  where
    by_word : (is_parked_in (slice_get h.threads t) ≡ false) × (is_loading_in (slice_get h.threads t) ≡ false)
        → (w : ℕ × Bool) → register_of h t r ≡ Some w → (a : Bool) → is_refused (let_through h t w.0) ≡ a → (b : Bool)
        → OnAccepted (λ (z : HeapState × Answer). Scrubs h t r z.0) (cond (not a) (Ok (h, answers.Clean))
        (cond b (Err refusals.Stall)
        (Ok (with_register (copied_first h w.0) t r (Some (moved_word h w)), answers.Moved))))
    by_word runs w at false e b = record {
      running = runs.0;
      closed = runs.1;
      does = inl (record { word = w; at = at; free = e; same = refl });
    }
    by_word runs w at true e true = tt
    by_word runs w at true e false = record {
      running = runs.0;
      closed = runs.1;
      does = inr (record { word = w; at = at; held = e; is = refl });
    }

pub scrubs : (h g : HeapState) (t r : ℕ) (a : Answer) → outcome h (Thread t) (steps.Scrub r) ≡ Ok (g, a)
    → Scrubs h t r g
scrubs h g t r a e = of_accepted (λ (z : HeapState × Answer). Scrubs h t r z.0) (outcome h (Thread t) (steps.Scrub r))
    (g, a) (scrub_row h t r) e

-- ---- what it leaves

record Leaves (h g : HeapState) : Type 0 where
  pages : g.store.pages ≡ h.store.pages
  words : g.store.words ≡ h.store.words
  phase : g.phase ≡ h.phase
  threads : g.threads ≡ h.threads

copy_leaves : (h : HeapState) (a to : ℕ) → Leaves h (with_copy h a to)
unfolding with_copy with_copied_words with_words
copy_leaves h a to = record { pages = refl; words = refl; phase = refl; threads = refl }

first_leaves : (h : HeapState) (a : ℕ) → Leaves h (copied_first h a)
unfolding copied_first
first_leaves h a = by_entry (entry_at h a)
  where
    same : Leaves h h
    same = record { pages = refl; words = refl; phase = refl; threads = refl }

    by_test : (b : Bool) (to : ℕ) → Leaves h (cond b h (with_copy h a to))
    by_test true to = same
    by_test false to = copy_leaves h a to

    by_entry : (o : Option Forwarding) → Leaves h (copied_by h a o)
    by_entry None = same
    by_entry (Some f) = by_test f.copied f.to

pub record Keeps (h g : HeapState) : Type 0 where
  pub pages : g.store.pages ≡ h.store.pages
  pub words : g.store.words ≡ h.store.words
  pub phase : g.phase ≡ h.phase
  pub parked : (u : ℕ) → is_parked_in (slice_get g.threads u) ≡ is_parked_in (slice_get h.threads u)
  pub loading : (u : ℕ) → is_loading_in (slice_get g.threads u) ≡ is_loading_in (slice_get h.threads u)

same_keeps : (h : HeapState) → Keeps h h
same_keeps h = record { pages = refl; words = refl; phase = refl; parked = λ u. refl; loading = λ u. refl }

module _ (h : HeapState) (a t r : ℕ) (v : Reference) where
  after_keeps : Keeps h (with_register (copied_first h a) t r v)
  unfolding with_register
  after_keeps =
      let k = first_leaves h a in
      let ts = (copied_first h a).threads in
      record {
        pages = k.pages;
        words = k.words;
        phase = k.phase;
        parked = λ u. kept_of is_parked_in ts t (set_register_of r v) (λ y. refl) u
            ∙ ap (λ (xs : List ThreadState). is_parked_in (slice_get xs u)) k.threads;
        loading = λ u. kept_of is_loading_in ts t (set_register_of r v) (λ y. refl) u
            ∙ ap (λ (xs : List ThreadState). is_loading_in (slice_get xs u)) k.threads;
      }

  -- every other register
  after_other : (u s : ℕ) → ((u ≡ t) × (s ≡ r))
      ⊎ (register_of (with_register (copied_first h a) t r v) u s ≡ register_of h u s)
  unfolding with_register register_of
  after_other u s = by_register (cases_eq s r)
    where
      ts : List ThreadState
      ts = (copied_first h a).threads

      before : register_in (slice_get (copied_first h a).threads u) s ≡ register_in (slice_get h.threads u) s
      before = ap (λ (xs : List ThreadState). register_in (slice_get xs u) s) (first_leaves h a).threads

      by_thread : (u ≡ t) ⊎ (u ≢ t) → s ≡ r → ((u ≡ t) × (s ≡ r))
          ⊎ (register_in (slice_get (change_at (copied_first h a).threads t (set_register_of r v)) u) s
          ≡ register_in (slice_get h.threads u) s)
      by_thread (inl e) same = inl (e, same)
      by_thread (inr d) same = inr (ap (λ (o : Option ThreadState). register_in o s)
          (get_changed (copied_first h a).threads t (set_register_of r v) u
          ∙ put_other (slice_get (copied_first h a).threads) t _ u d) ∙ before)

      by_register : (s ≡ r) ⊎ (s ≢ r) → ((u ≡ t) × (s ≡ r))
          ⊎ (register_in (slice_get (change_at (copied_first h a).threads t (set_register_of r v)) u) s
          ≡ register_in (slice_get h.threads u) s)
      by_register (inl same) = by_thread (cases_eq u t) same
      by_register (inr d) = inr (kept_of (λ (o : Option ThreadState). register_in o s) (copied_first h a).threads t
          (set_register_of r v) (λ y. ap flat (get_set_other y.registers r s v d)) u ∙ before)

  -- the register itself
  pub after_here : (w : ℕ × Bool) → register_of h t r ≡ Some w
      → register_of (with_register (copied_first h a) t r v) t r ≡ v
  unfolding with_register register_of
  after_here w at = by_thread (slice_get (copied_first h a).threads t) refl
      (ap (λ (xs : List ThreadState). register_in (slice_get xs t) r) (first_leaves h a).threads ∙ at)
    where
      by_register : (x : ThreadState) (q : Option Reference) → slice_get x.registers r ≡ q → flat q ≡ Some w
          → flat (slice_get (set x.registers r v) r) ≡ v
      by_register x None e f = absurd (cc)
      by_register x (Some y) e f = ap flat (get_set_same x.registers r y v e)

      by_thread : (o : Option ThreadState) → slice_get (copied_first h a).threads t ≡ o → register_in o r ≡ Some w
          → register_in (slice_get (change_found (copied_first h a).threads t o (set_register_of r v)) t) r ≡ v
      by_thread None e f = absurd (cc)
      by_thread (Some x) e f = ap (λ (o : Option ThreadState). register_in o r)
          (get_set_same (copied_first h a).threads t x (set_register_of r v x) e)
          ∙ by_register x (slice_get x.registers r) refl f

pub moves_keep : (h g : HeapState) (t r : ℕ) → Moves h t r g → Keeps h g
moves_keep h g t r m =
    subst (Keeps h) (sym m.is) (after_keeps h m.word.0 t r (Some (moved_word h m.word)))

scrubs_keep : (h g : HeapState) (t r : ℕ) → Scrubs h t r g → Keeps h g
scrubs_keep h g t r k = by_case k.does
  where
    by_case : Cleans h t r g ⊎ Moves h t r g → Keeps h g
    by_case (inl c) = subst (Keeps h) (sym c.same) (same_keeps h)
    by_case (inr m) = moves_keep h g t r m

pub protected_same : (h g : HeapState) → Keeps h g → (v : Reference) → names_protected g v ≡ names_protected h v
unfolding state_at page_at
protected_same h g k None = refl
protected_same h g k (Some w) = ap₂ (λ (ps : List Page) (n : ℕ).
    is_protected (state_in (cond (nat_eq (w.0 / n) 0) None (slice_get ps (w.0 / n - 1))))) k.pages k.words

-- ---- a register that is corrected stays so

one_stays : (h g : HeapState) (t r u s : ℕ) → Scrubs h t r g → IsScrubbed h u s → IsScrubbed g u s
one_stays h g t r u s k before = by_case k.does
  where
    here : Moves h t r g → IsScrubbed h t r → ⊥
    here m is = true≢false (sym (held_protected h t m.word.0 m.held)
        ∙ ap (names_protected h) (sym m.at) ∙ is k.running k.closed)

    by_place : Moves h t r g → ((u ≡ t) × (s ≡ r)) ⊎ (register_of g u s ≡ register_of h u s) → IsScrubbed g u s
    by_place m (inl e) = absurd (here m (subst (λ (x : ℕ). IsScrubbed h t x) e.1
        (subst (λ (x : ℕ). IsScrubbed h x s) e.0 before)))
    by_place m (inr same) = λ p l.
        let keeps = scrubs_keep h g t r k in
        protected_same h g keeps (register_of g u s) ∙ ap (names_protected h) same
        ∙ before (sym (keeps.parked u) ∙ p) (sym (keeps.loading u) ∙ l)

    by_case : Cleans h t r g ⊎ Moves h t r g → IsScrubbed g u s
    by_case (inl c) = subst (λ (x : HeapState). IsScrubbed x u s) (sym c.same) before
    by_case (inr m) = by_place m (subst (λ (x : HeapState). ((u ≡ t) × (s ≡ r))
        ⊎ (register_of x u s ≡ register_of h u s)) (sym m.is)
        (after_other h m.word.0 t r (Some (moved_word h m.word)) u s))

entry_stays : (h g : HeapState) (u s : ℕ) (actor : Actor) (step : Step) (a : Answer) → IsScrub actor step
    → outcome h actor step ≡ Ok (g, a) → IsScrubbed h u s → IsScrubbed g u s
entry_stays h g u s (Thread t) (steps.Scrub r) a is ok k = one_stays h g t r u s (scrubs h g t r a ok) k
entry_stays h g u s (Thread t) _ a is ok k = absurd is
entry_stays h g u s (Worker w) step a is ok k = absurd is

entries_stay : (h g : HeapState) (u s : ℕ) (es : List Entry) → EachIs IsScrub es → Leads h es g → IsScrubbed h u s
    → IsScrubbed g u s
entries_stay h g u s [] each to k = subst (λ (x : HeapState). IsScrubbed x u s) (sym to) k
entries_stay h g u s (e ∷ es) each to k = entries_stay to.0 g u s es each.1 to.2
    (entry_stays h to.0 u s e.actor e.step e.answer each.0 to.1 k)

pub scrubbed_stays : (h g : HeapState) (u s : ℕ) → Goes IsScrub h g → IsScrubbed h u s → IsScrubbed g u s
scrubbed_stays h g u s k is = entries_stay h g u s k.entries k.each k.runs.steps is

-- so does the phase
entry_phase : (h g : HeapState) (actor : Actor) (step : Step) (a : Answer) → IsScrub actor step
    → outcome h actor step ≡ Ok (g, a) → g.phase ≡ h.phase
entry_phase h g (Thread t) (steps.Scrub r) a is ok = (scrubs_keep h g t r (scrubs h g t r a ok)).phase
entry_phase h g (Thread t) _ a is ok = absurd is
entry_phase h g (Worker w) step a is ok = absurd is

entries_phase : (h g : HeapState) (es : List Entry) → EachIs IsScrub es → Leads h es g → g.phase ≡ h.phase
entries_phase h g [] each to = ap (λ (x : HeapState). x.phase) to
entries_phase h g (e ∷ es) each to = entries_phase to.0 g es each.1 to.2
    ∙ entry_phase h to.0 e.actor e.step e.answer each.0 to.1

pub scrubs_phase : (h g : HeapState) → Goes IsScrub h g → g.phase ≡ h.phase
scrubs_phase h g k = entries_phase h g k.entries k.each k.runs.steps

-- Steps that neither begin a load nor park a thread or let it run.
use Rattle.std.proofs.Common.{◌≡◌, ◌≢◌, ◌⊎◌, ◌∙◌, ℕ, zero, suc, Bool, true, false, cond, List, [], ◌∷◌, map, set}
use Rattle.std.proofs.Common.{Option, Some, None, refl, sym, subst, inl, inr}
use Rattle.std.specs.List.{slice_get}
use Rattle.std.proofs.lemmas.Bool.{cases_eq}
use Rattle.model.specs.declared.records.Forwarding.{Forwarding}
use Rattle.model.specs.Marks.{entry_at}
use Rattle.model.specs.Moves.{with_copy, copied_by, copied_first, copied_for}
use Rattle.model.specs.Outcome.{is_loading_in}
use Rattle.model.specs.States.{HeapState, ThreadState, Reference, change_at, change_found}
use Rattle.model.specs.Threads.{is_parked_in}
use Rattle.model.proofs.Lists.{get_set_same, get_set_other}
use Rattle.portions.specs.Apart.{runs_in}

-- ---- threads that stay

-- a thread, which there need not be, is inside a load only if it was, is parked if it was, and runs if it did
pub record Stays (o q : Option ThreadState) : Type 0 where
  pub loading : is_loading_in q ≡ true → is_loading_in o ≡ true
  pub parked : is_parked_in q ≡ is_parked_in o
  pub runs : runs_in q ≡ runs_in o

pub stays_same : (o : Option ThreadState) → Stays o o
stays_same o = record { loading = λ e. e; parked = refl; runs = refl }

stays_then : (o q r : Option ThreadState) → Stays o q → Stays q r → Stays o r
stays_then o q r a b = record {
  loading = λ e. a.loading (b.loading e);
  parked = b.parked ∙ a.parked;
  runs = b.runs ∙ a.runs;
}

-- each thread does, and the heap is of the same configuration
pub record AllStay (h g : HeapState) : Type 0 where
  pub each : (u : ℕ) → Stays (slice_get h.threads u) (slice_get g.threads u)
  pub config : g.config ≡ h.config

pub all_same : (h : HeapState) → AllStay h h
all_same h = record { each = λ u. stays_same (slice_get h.threads u); config = refl }

pub all_then : (h m g : HeapState) → AllStay h m → AllStay m g → AllStay h g
all_then h m g a b = record {
  each = λ u. stays_then (slice_get h.threads u) (slice_get m.threads u) (slice_get g.threads u) (a.each u) (b.each u);
  config = b.config ∙ a.config;
}

-- one thread is changed so that it stays
pub changed_stays : (ts : List ThreadState) (t : ℕ) (f : ThreadState → ThreadState)
    → ((x : ThreadState) → slice_get ts t ≡ Some x → Stays (Some x) (Some (f x))) → (u : ℕ)
    → Stays (slice_get ts u) (slice_get (change_at ts t f) u)
changed_stays ts t f k u = by_place (cases_eq u t)
  where
    here : (o : Option ThreadState) → slice_get ts t ≡ o
        → Stays (slice_get ts t) (slice_get (change_found ts t o f) t)
    here None e = stays_same (slice_get ts t)
    here (Some x) e = subst (λ (o : Option ThreadState). Stays o (slice_get (set ts t (f x)) t)) (sym e)
        (subst (λ (o : Option ThreadState). Stays (Some x) o) (sym (get_set_same ts t x (f x) e)) (k x e))

    other : (o : Option ThreadState) → u ≢ t → Stays (slice_get ts u) (slice_get (change_found ts t o f) u)
    other None d = stays_same (slice_get ts u)
    other (Some x) d = subst (λ (o : Option ThreadState). Stays (slice_get ts u) o)
        (sym (get_set_other ts t u (f x) d)) (stays_same (slice_get ts u))

    by_place : (u ≡ t) ⊎ (u ≢ t) → Stays (slice_get ts u) (slice_get (change_at ts t f) u)
    by_place (inl e) = subst (λ (i : ℕ). Stays (slice_get ts i) (slice_get (change_at ts t f) i)) (sym e)
        (here (slice_get ts t) refl)
    by_place (inr d) = other (slice_get ts t) d

-- all threads are changed so that they stay
pub mapped_stay : (ts : List ThreadState) (f : ThreadState → ThreadState)
    → ((x : ThreadState) → Stays (Some x) (Some (f x))) → (u : ℕ) → Stays (slice_get ts u) (slice_get (map f ts) u)
mapped_stay [] f k u = stays_same None
mapped_stay (t ∷ ts) f k zero = k t
mapped_stay (t ∷ ts) f k (suc u) = mapped_stay ts f k u

-- ---- edits that leave the threads and the phase

pub record SameThreads (h g : HeapState) : Type 0 where
  pub threads : g.threads ≡ h.threads
  pub config : g.config ≡ h.config
  pub phase : g.phase ≡ h.phase

pub same_none : (h : HeapState) → SameThreads h h
same_none h = record { threads = refl; config = refl; phase = refl }

pub same_then : (h m g : HeapState) → SameThreads h m → SameThreads m g → SameThreads h g
same_then h m g a b =
    record { threads = b.threads ∙ a.threads; config = b.config ∙ a.config; phase = b.phase ∙ a.phase }

pub same_stay : (h g : HeapState) → SameThreads h g → AllStay h g
same_stay h g k = record {
  each = λ u. subst (λ (ts : List ThreadState). Stays (slice_get h.threads u) (slice_get ts u)) (sym k.threads)
      (stays_same (slice_get h.threads u));
  config = k.config;
}

-- all threads stay, and the phase is the same
pub record AllKeep (h g : HeapState) : Type 0 where
  pub stay : AllStay h g
  pub phase : g.phase ≡ h.phase

pub keep_same : (h g : HeapState) → SameThreads h g → AllKeep h g
keep_same h g k = record { stay = same_stay h g k; phase = k.phase }

pub keep_none : (h : HeapState) → AllKeep h h
keep_none h = record { stay = all_same h; phase = refl }

-- a heap like this one, but for one thread
pub changed_all : (h m : HeapState) (t : ℕ) (f : ThreadState → ThreadState) → SameThreads h m
    → ((x : ThreadState) → slice_get h.threads t ≡ Some x → Stays (Some x) (Some (f x)))
    → AllStay h (record m { threads = change_at m.threads t f })
changed_all h m t f k s = record {
  each = λ u. subst (λ (ts : List ThreadState). Stays (slice_get h.threads u) (slice_get (change_at ts t f) u))
      (sym k.threads) (changed_stays h.threads t f s u);
  config = k.config;
}

pub copy_same : (h : HeapState) (a to : ℕ) → SameThreads h (with_copy h a to)
unfolding with_copy
copy_same h a to = record { threads = refl; config = refl; phase = refl }

pub first_same : (h : HeapState) (a : ℕ) → SameThreads h (copied_first h a)
unfolding copied_first
first_same h a = by_entry (entry_at h a)
  where
    by_test : (b : Bool) (to : ℕ) → SameThreads h (cond b h (with_copy h a to))
    by_test true to = same_none h
    by_test false to = copy_same h a to

    by_entry : (o : Option Forwarding) → SameThreads h (copied_by h a o)
    by_entry None = same_none h
    by_entry (Some f) = by_test f.copied f.to

pub for_same : (h : HeapState) (v : Reference) → SameThreads h (copied_for h v)
unfolding copied_for
for_same h None = same_none h
for_same h (Some w) = first_same h w.0

-- The barrier counters of threads, from one entry to the next.
use Rattle.std.proofs.Common.{◌≡◌, ℕ, ◌+◌, ◌<◌, ◌==◌, ◌&&◌, Bool, true, false, cond, List, [], ◌∷◌, ◌++◌}
use Rattle.std.proofs.Common.{length, replicate, count_by, Option, Some, None, refl, sym, ◌∙◌, ap, subst, arith}
use Rattle.std.specs.List.{slice_get}
use Rattle.std.specs.Option.{option_map}
use Rattle.std.proofs.lemmas.Bool.{eqb-true, eqb-false}
use Rattle.std.proofs.lemmas.List.Sums.{sum_by-append, sum_by-cons, count_by-le-length}
use Rattle.std.proofs.lemmas.Option.{none-some, same_Some}
use Rattle.model.specs.declared.config.Config.{Config}
use Rattle.model.specs.declared.records.Counter.{Counter}
use Rattle.model.specs.declared.records.Counter.TheVariants as counters
use Rattle.model.specs.declared.records.Tally.{Tally}
use Rattle.model.specs.declared.steps.Actor.{Actor}
use Rattle.model.specs.declared.steps.Actor.TheVariants.{Thread, Worker}
use Rattle.model.specs.declared.steps.Answer.{Answer}
use Rattle.model.specs.declared.steps.Step.{Step}
use Rattle.model.specs.States.{HeapState, ThreadState}
use Rattle.model.specs.First.{first_heap, blank_thread}
use Rattle.model.specs.Tallies.{blank_tally, counter_of, most_counted, one_more}
use Rattle.model.specs.Threads.{tally_in}
use Rattle.model.proofs.Lists.{each_replicate}
use Rattle.model.specs.Loads.{tally_of_thread}
use Rattle.refinement.specs.Tallies.{counted_if, CountsStep}
use Rattle.entries.specs.declared.entry.Entry.{Entry}
use Rattle.cycle.specs.Tallies.{is_thread, is_raised, raises, tally_of, TalliesAre}

abbrev as_number : Bool → ℕ
as_number b = cond b 1 0

-- a count with one entry more
count_more : (p : Entry → Bool) (es : List Entry) (e : Entry)
    → count_by p (es ++ e ∷ []) ≡ count_by p es + as_number (p e)
count_more p es e =
    let f : Entry → ℕ = λ x. cond (p x) 1 0 in
    omega (arith, sum_by-append f es (e ∷ []), sum_by-cons f e [])

-- below the greatest number, `one_more` adds 1
one_more_is : (n : ℕ) → n < most_counted → one_more n ≡ n + 1
one_more_is n low = grind arith

-- the counters with one entry more, which increments this counter, if any, of thread t
tally_more : (t : ℕ) (es : List Entry) (e : Entry) (c : Option Counter)
    → ((k : Counter) → raises t k e ≡ is_raised c k) → length es < most_counted
    → counted_if c (tally_of t es) ≡ tally_of t (es ++ e ∷ [])
unfolding tally_of
tally_more t es e c raised few = by_counter c raised
  where
    more : (c : Option Counter) → ((k : Counter) → raises t k e ≡ is_raised c k) → (k : Counter)
        → count_by (raises t k) es + as_number (is_raised c k) ≡ count_by (raises t k) (es ++ e ∷ [])
    more c r k =
        sym (count_more (raises t k) es e ∙ ap (λ b. count_by (raises t k) es + as_number b) (r k))

    kept : (c : Option Counter) → ((k : Counter) → raises t k e ≡ is_raised c k) → (k : Counter)
        → is_raised c k ≡ false → count_by (raises t k) es ≡ count_by (raises t k) (es ++ e ∷ [])
    kept c r k unraised = omega (arith, more c r k, ap as_number unraised)

    raised_is : (c : Option Counter) → ((k : Counter) → raises t k e ≡ is_raised c k) → (k : Counter)
        → is_raised c k ≡ true → one_more (count_by (raises t k) es) ≡ count_by (raises t k) (es ++ e ∷ [])
    raised_is c r k so = omega (
      arith,
      more c r k,
      ap as_number so,
      one_more_is (count_by (raises t k) es) (omega (arith, few, count_by-le-length (raises t k) es)),
    )

    by_counter : (c : Option Counter) → ((k : Counter) → raises t k e ≡ is_raised c k)
        → counted_if c (tally_of t es) ≡ tally_of t (es ++ e ∷ [])
    by_counter None r = λ z. record {
      loads = kept None r counters.Loads refl z;
      gc = kept None r counters.Gc refl z;
      nmt = kept None r counters.Nmt refl z;
      healed = kept None r counters.Healed refl z;
      changed = kept None r counters.Changed refl z;
    }
    by_counter (Some counters.Loads) r = λ z. record {
      loads = raised_is (Some counters.Loads) r counters.Loads refl z;
      gc = kept (Some counters.Loads) r counters.Gc refl z;
      nmt = kept (Some counters.Loads) r counters.Nmt refl z;
      healed = kept (Some counters.Loads) r counters.Healed refl z;
      changed = kept (Some counters.Loads) r counters.Changed refl z;
    }
    by_counter (Some counters.Gc) r = λ z. record {
      loads = kept (Some counters.Gc) r counters.Loads refl z;
      gc = raised_is (Some counters.Gc) r counters.Gc refl z;
      nmt = kept (Some counters.Gc) r counters.Nmt refl z;
      healed = kept (Some counters.Gc) r counters.Healed refl z;
      changed = kept (Some counters.Gc) r counters.Changed refl z;
    }
    by_counter (Some counters.Nmt) r = λ z. record {
      loads = kept (Some counters.Nmt) r counters.Loads refl z;
      gc = kept (Some counters.Nmt) r counters.Gc refl z;
      nmt = raised_is (Some counters.Nmt) r counters.Nmt refl z;
      healed = kept (Some counters.Nmt) r counters.Healed refl z;
      changed = kept (Some counters.Nmt) r counters.Changed refl z;
    }
    by_counter (Some counters.Healed) r = λ z. record {
      loads = kept (Some counters.Healed) r counters.Loads refl z;
      gc = kept (Some counters.Healed) r counters.Gc refl z;
      nmt = kept (Some counters.Healed) r counters.Nmt refl z;
      healed = raised_is (Some counters.Healed) r counters.Healed refl z;
      changed = kept (Some counters.Healed) r counters.Changed refl z;
    }
    by_counter (Some counters.Changed) r = λ z. record {
      loads = kept (Some counters.Changed) r counters.Loads refl z;
      gc = kept (Some counters.Changed) r counters.Gc refl z;
      nmt = kept (Some counters.Changed) r counters.Nmt refl z;
      healed = kept (Some counters.Changed) r counters.Healed refl z;
      changed = raised_is (Some counters.Changed) r counters.Changed refl z;
    }

-- an entry is added
pub tallies_more : (h g : HeapState) (actor : Actor) (step : Step) (answer : Answer) (es : List Entry)
    → TalliesAre h es → length es < most_counted → CountsStep h actor step answer g
    → TalliesAre g (es ++ record { actor = actor; step = step; answer = answer } ∷ [])
tallies_more h g actor step answer es are few counts t y is = by_actor actor counts
  where
    entry : Actor → Entry
    entry actor = record { actor = actor; step = step; answer = answer }

    -- the counters of another thread
    other : (actor : Actor) → is_thread t actor ≡ false → tally_of_thread h t ≡ Some y
        → y ≡ tally_of t (es ++ entry actor ∷ [])
    other actor apart there = are t y there ∙ tally_more t es (entry actor) None
        (λ k. ap (λ b. b && is_raised (counter_of step answer) k) apart) few

    -- the thread's own
    own : (actor : Actor) → is_thread t actor ≡ true
        → (o : Option Tally) → tally_of_thread h t ≡ o → option_map (counted_if (counter_of step answer)) o ≡ Some y
        → y ≡ tally_of t (es ++ entry actor ∷ [])
    own actor its None e f = absurd (none-some y f)
    own actor its (Some x) e f = sym (same_Some _ _ f) ∙ ap (counted_if (counter_of step answer)) (are t x e)
        ∙ tally_more t es (entry actor) (counter_of step answer)
        (λ k. ap (λ b. b && is_raised (counter_of step answer) k) its) few

    by_actor : (actor : Actor) → CountsStep h actor step answer g → y ≡ tally_of t (es ++ entry actor ∷ [])
    by_actor (Worker w) c = other (Worker w) refl (sym (c t) ∙ is)
    by_actor (Thread u) c = by_same (u == t) refl
      where
        by_same : (b : Bool) → (u == t) ≡ b → y ≡ tally_of t (es ++ entry (Thread u) ∷ [])
        by_same true e = own (Thread u) e (tally_of_thread h t) refl
            (subst (λ v. option_map (counted_if (counter_of step answer)) (tally_of_thread h v)
            ≡ Some y) (eqb-true u t e)
            (sym c.own ∙ subst (λ v. tally_of_thread g v ≡ Some y) (sym (eqb-true u t e)) is))
        by_same false e = other (Thread u) e (sym (c.others t (λ k. eqb-false u t e (sym k))) ∙ is)

-- a new heap, and no entries
pub first_tallies : (c : Config) → TalliesAre (first_heap c) []
unfolding tally_of first_heap
first_tallies c t y is = by_thread (slice_get threads t) refl is
  where
    threads : List ThreadState
    threads = replicate c.threads (blank_thread c.registers)

    by_thread : (o : Option ThreadState) → slice_get threads t ≡ o → tally_in o ≡ Some y → y ≡ tally_of t []
    by_thread None e f = absurd (none-some y f)
    by_thread (Some x) e f = sym (same_Some _ _ f)
        ∙ each_replicate (λ (x : ThreadState). x.tally ≡ blank_tally) c.threads (blank_thread c.registers) refl t x e

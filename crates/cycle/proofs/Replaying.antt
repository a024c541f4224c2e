-- The invariant of a recorded heap, from one entry to the next.
use Rattle.std.proofs.Common.{◌≡◌, List, [], ◌∷◌, ◌++◌, refl, sym, subst, ◌≤◌, false, length, arith, length-append}
use Rattle.std.specs.Prelude.{Result, Ok, Err, Some, IfSome}
use Rattle.std.proofs.lemmas.Bool.{leb-false}
use Rattle.layout.specs.declared.shape.Layout.{Layout}
use Rattle.model.specs.declared.config.Config.{Config}
use Rattle.model.specs.declared.steps.Actor.{Actor}
use Rattle.model.specs.declared.steps.Step.{Step}
use Rattle.model.specs.declared.steps.Answer.{Answer}
use Rattle.model.specs.declared.steps.Refusal.{Refusal}
use Rattle.model.specs.Owning.{IsStore}
use Rattle.model.specs.Holding.{IsHeap}
use Rattle.model.specs.Refusing.{Outcome, DoesStep}
use Rattle.model.specs.Outcome.{outcome}
use Rattle.model.specs.States.{HeapState}
use Rattle.model.specs.First.{first_heap}
use Rattle.model.specs.Plain.{plain_answer}
use Rattle.laws.proofs.Promises.{stands, usable_has_memory}
use Rattle.refinement.specs.Worlds.{world_of}
use Rattle.refinement.specs.PlainHeaps.{births_of}
use Rattle.refinement.specs.Standing.{Holds, StepKeeps, AnswersPlain, FirstHolds, StepsHold, MarksFind, PhasesMove}
use Rattle.refinement.specs.Standing.{Finds, KeepsStanding}
use Rattle.refinement.specs.Tallies.{StepsCount}
use Rattle.entries.specs.declared.entry.Entry.{Entry}
use Rattle.cycle.specs.Books.{BookState, first_book, is_full}
use Rattle.cycle.specs.Replays.{Replayed, after_entry, after_entries, before_entries}
use Rattle.cycle.specs.Replays.{replayed, AnswersAre, IsBook, KeepsPromises, last_entry}
use Rattle.cycle.proofs.Stepped.{step_accepted, step_refused}
use Rattle.cycle.proofs.Tallying.{tallies_more, first_tallies}

after_more : (ls : List Layout) (r : Replayed) (es : List Entry) (e : Entry)
    → after_entries ls r (es ++ e ∷ []) ≡ after_entry ls (after_entries ls r es) e
after_more ls r [] e = refl
after_more ls r (d ∷ es) e = after_more ls (after_entry ls r d) es e

answers_more : (ls : List Layout) (r : Replayed) (es : List Entry) (e : Entry) → AnswersAre ls r es
    → AnswersPlain (plain_answer (after_entries ls r es).now e.actor e.step) e.answer → AnswersAre ls r (es ++ e ∷ [])
answers_more ls r [] e a b = (b, tt)
answers_more ls r (d ∷ es) e a b = (a.0, answers_more ls (after_entry ls r d) es e a.1 b)

last_added : (es : List Entry) (e : Entry) → last_entry (es ++ e ∷ []) ≡ Some e
last_added [] e = refl
last_added (d ∷ []) e = refl
last_added (d ∷ c ∷ es) e = last_added (c ∷ es) e

-- an entry is added
pub entry_added : (b : BookState) (actor : Actor) (step : Step) (g : HeapState) (answer : Answer) → IsBook b
    → IsStore g.store → IsHeap g → is_full b ≡ false
    → StepKeeps b.heap (replayed b).now (replayed b).at_mark actor step g answer
    → IsBook (record { heap = g; history = b.history ++ record { actor = actor; step = step; answer = answer } ∷ [] })
unfolding replayed is_full
entry_added b actor step g answer k store heap more kept =
    let s = kept.stands in
    let e : Entry = record { actor = actor; step = step; answer = answer } in
    let first : Replayed = before_entries b.heap.config in
    let ls : List Layout = b.heap.config.layouts in
    let after : after_entries ls first (b.history ++ e ∷ []) ≡ after_entry ls (after_entries ls first b.history) e =
    after_more ls first b.history e in
    let holds : Holds g (after_entries ls first (b.history ++ e ∷ [])).now
    (after_entries ls first (b.history ++ e ∷ [])).at_mark =
    subst (λ (r : Replayed). Holds g r.now r.at_mark) (sym after) s.holds in
    record {
      store = store;
      heap = heap;
      holds = subst (λ (c : Config). Holds g (after_entries c.layouts (before_entries c) (b.history ++ e ∷ [])).now
          (after_entries c.layouts (before_entries c) (b.history ++ e ∷ [])).at_mark) (sym s.config) holds;
      answers = subst (λ (c : Config). AnswersAre c.layouts (before_entries c) (b.history ++ e ∷ []))
          (sym s.config) (answers_more ls first b.history e k.answers s.answers);
      limit = subst (λ (c : Config). length (b.history ++ e ∷ []) ≤ c.history) (sym s.config) (omega
          (arith, length-append b.history (e ∷ []), leb-false b.heap.config.history (length b.history) more));
      marks = subst (λ o. IfSome o (λ d. Finds g (after_entries g.config.layouts (before_entries g.config)
          (b.history ++ e ∷ [])).now (after_entries g.config.layouts (before_entries g.config)
          (b.history ++ e ∷ [])).at_mark d.step)) (sym (last_added b.history e))
          (subst (λ (c : Config). Finds g (after_entries c.layouts (before_entries c) (b.history ++ e ∷ [])).now
          (after_entries c.layouts (before_entries c) (b.history ++ e ∷ [])).at_mark step) (sym s.config)
          (subst (λ (r : Replayed). Finds g r.now r.at_mark step) (sym after) kept.finds));
      tallies = tallies_more b.heap g actor step answer b.history k.tallies (omega (
        arith,
        k.heap.config.history,
        leb-false b.heap.config.history (length b.history) more,
      )) kept.tallies;
    }

-- a new recorded heap
pub new_book : (c : Config) → Holds (first_heap c) (before_entries c).now (before_entries c).at_mark
    → IsStore (first_heap c).store → IsHeap (first_heap c) → IsBook (first_book c)
unfolding replayed first_book first_heap
new_book c k store heap =
    record {
      store = store;
      heap = heap;
      holds = k;
      answers = tt;
      limit = omega arith;
      marks = tt;
      tallies =
          first_tallies c;
    }

-- the law's promises
pub promises : (b : BookState) → IsBook b → KeepsPromises b
promises b k = record {
  stands = stands (world_of b.heap) (births_of (replayed b).now) (births_of (replayed b).at_mark) k.holds.invariant;
  usable = usable_has_memory (world_of b.heap) (births_of (replayed b).now)
      (births_of (replayed b).at_mark) k.holds.invariant;
  marks = k.marks;
  tallies = k.tallies;
}

-- an accepted step
pub accepted_stands : (old new : HeapState) (actor : Actor) (step : Step) (a : Answer)
    → outcome old actor step ≡ Ok (new, a) → IsStore old.store → IsHeap old → StepsHold → MarksFind
    → PhasesMove → StepsCount → KeepsStanding old actor step (Ok a) new
accepted_stands old new actor step a is s d holds find move count p p0 k = record {
  stands = holds old p p0 actor step new a s d k is;
  finds = (find old p p0 actor step new a s d k is).0;
  leaves = (find old p p0 actor step new a s d k is).1;
  phase = move old p p0 actor step new a s d k is;
  tallies = count old actor step new a is;
}

-- a call that did what its outcome requires
pub keeps_standing : (old new : HeapState) (actor : Actor) (step : Step) (result : Result Answer Refusal)
    → DoesStep old step result new (outcome old actor step) → IsStore old.store → IsHeap old → StepsHold → MarksFind
    → PhasesMove → StepsCount → KeepsStanding old actor step result new
keeps_standing old new actor step (Ok a) does s d holds find move count p p0 k =
    let is = step_accepted old new step a (outcome old actor step) does in
    accepted_stands old new actor step a is s d holds find move count p p0 k
keeps_standing old new actor step (Err e) does s d holds find move count p p0 k = tt

-- the parts of a new recorded heap
pub made : (c : Config) (h : HeapState) (es : List Entry) → h ≡ first_heap c → es ≡ [] → IsStore h.store → IsHeap h
    → FirstHolds → IsBook (record { heap = h; history = es })
unfolding first_book
made c h es e f store heap law = subst (λ (g : HeapState). IsBook (record { heap = g; history = es })) (sym e)
    (subst (λ (xs : List Entry). IsBook (record { heap = first_heap c; history = xs })) (sym f)
    (new_book c (law c) (subst (λ (g : HeapState). IsStore g.store) e store) (subst IsHeap e heap)))

-- the parts of a recorded heap with one more entry
pub entered_book : (b : BookState) (actor : Actor) (step : Step) (g : HeapState) (answer : Answer) (es : List Entry)
    → IsBook b → IsStore g.store → IsHeap g → is_full b ≡ false
    → (let p = (replayed b).now in let p0 = (replayed b).at_mark in Holds b.heap p p0
    → StepKeeps b.heap p p0 actor step g answer)
    → es ≡ b.history ++ record { actor = actor; step = step; answer = answer } ∷ []
    → IsBook (record { heap = g; history = es })
entered_book b actor step g answer es k store heap more s e =
    subst (λ (xs : List Entry). IsBook (record { heap = g; history = xs })) (sym e)
    (entry_added b actor step g answer k store heap more (s k.holds))

-- the parts of a recorded heap whose step was rejected
pub left_book : (b : BookState) (step : Step) (g : HeapState) (e : Refusal) (o : Outcome) (es : List Entry) → IsBook b
    → DoesStep b.heap step (Err e) g o → es ≡ b.history → IsBook (record { heap = g; history = es })
left_book b step g e o es k does same =
    subst (λ (xs : List Entry). IsBook (record { heap = g; history = xs })) (sym same)
    (subst (λ (h : HeapState). IsBook (record { heap = h; history = b.history }))
    (sym (step_refused b.heap g step e o does).1) k)

-- The effect of an edit on the invariant of a heap, and the step that it makes.
--
-- Letters, here and in the files of steps: h is a heap's state, and g the one after an edit. p is a reference model,
-- q the one after a step, and p0 the one when the last mark started; b is births in the laws' terms, and e an edit of
-- the address-level model. k is the proof that h represents p and p0, s that its store has its invariant, d that the
-- heap has its own, l that its memory is in order. In a step t is the thread, x its record, and g what the step has
-- passed before; r, o and q are registers, a is an address, i the index of a reference and j that of a datum, n the
-- place of a word or a global, v what is written.
use Rattle.std.proofs.Common.{◌≡◌, ℕ, length, refl, sym, ◌∙◌, ap, subst}
use Rattle.model.specs.declared.config.Config.{Config}
use Rattle.model.specs.declared.steps.Actor.{Actor}
use Rattle.model.specs.declared.steps.Step.{Step}
use Rattle.model.specs.declared.steps.Answer.{Answer}
use Rattle.model.specs.Owning.{Each}
use Rattle.model.specs.Holding.{HasSizes}
use Rattle.model.specs.States.{HeapState, ThreadState, change_at}
use Rattle.model.specs.Refusing.{Outcome}
use Rattle.model.specs.Plain.{PlainHeap, plain_step, plain_answer}
use Rattle.model.proofs.Lists.{each_changed}
use Rattle.laws.specs.AddressHeap.{AddressHeap}
use Rattle.laws.specs.BirthHeap.{BirthHeap}
use Rattle.laws.specs.Invariant.{Invariant}
use Rattle.laws.specs.Transitions.{Transition}
use Rattle.laws.proofs.Runs.{transition_keeps}
use Rattle.refinement.specs.Worlds.{world_of}
use Rattle.refinement.specs.PlainHeaps.{births_of, HasRootsOf}
use Rattle.refinement.specs.Claims.{IsLaid, HasGiven}
use Rattle.refinement.specs.Roots.{HoldsWords, HasWords}
use Rattle.refinement.specs.Standing.{Holds, StepHolds, AnswersPlain, kept_at_mark}
use Rattle.refinement.proofs.Accepted.{OnAccepted}
use Rattle.model.proofs.Tables.{length_changed}

-- g has the configuration and the sizes of h
pub record IsAlike (h g : HeapState) : Type 0 where
  pub config : g.config ≡ h.config
  pub words : g.store.words ≡ h.store.words
  pub frames : length g.store.frames ≡ length h.store.frames
  pub pages : g.store.count ≡ h.store.count
  pub threads : length g.threads ≡ length h.threads
  pub workers : length g.workers ≡ length h.workers
  pub globals : length g.globals ≡ length h.globals

pub alike : (h g : HeapState) → g.config ≡ h.config → g.store.words ≡ h.store.words
    → length g.store.frames ≡ length h.store.frames → g.store.count ≡ h.store.count
    → length g.threads ≡ length h.threads → length g.workers ≡ length h.workers
    → length g.globals ≡ length h.globals → IsAlike h g
alike h g c w f n t k x =
    record { config = c; words = w; frames = f; pages = n; threads = t; workers = k; globals = x }

has_sizes : {h g : HeapState} → IsAlike h g → HasSizes h → HasSizes g
has_sizes a k = record {
  words = a.words ∙ k.words ∙ sym (ap (λ (z : Config). z.words) a.config);
  frames = a.frames ∙ k.frames ∙ sym (ap (λ (z : Config). z.frames) a.config);
  pages = a.pages ∙ k.pages ∙ sym (ap (λ (z : Config). z.pages) a.config);
  threads = a.threads ∙ k.threads ∙ sym (ap (λ (z : Config). z.threads) a.config);
  workers = a.workers ∙ k.workers ∙ sym (ap (λ (z : Config). z.workers) a.config);
  globals = a.globals ∙ k.globals ∙ sym (ap (λ (z : Config). z.globals) a.config);
}

has_roots : {h g : HeapState} {p : PlainHeap} → IsAlike h g → HasRootsOf h p → HasRootsOf g p
has_roots a k = record {
  threads = k.threads ∙ sym a.threads;
  registers = λ i x e. k.registers i x e ∙ sym (ap (λ (z : Config). z.registers) a.config);
  globals = k.globals ∙ sym a.globals;
}

-- if h has its invariants, g has them, and the address-level model of g is that of h after the edit e
pub record Carries (h g : HeapState) (e : AddressHeap → AddressHeap) : Type 0 where
  pub size : IsAlike h g
  pub laid : IsLaid h → IsLaid g
  pub given : Each h.store.pages HasGiven → Each g.store.pages HasGiven
  pub words : HasWords h → HasWords g
  pub world : world_of g ≡ e (world_of h)

-- the reference model q has the roots that p has, and has the births b
pub record Follows (h : HeapState) (p q : PlainHeap) (b : BirthHeap) : Type 0 where
  pub roots : HasRootsOf h p → HasRootsOf h q
  pub births : births_of q ≡ b

-- a reference model that stays
pub stays : (h : HeapState) (p : PlainHeap) → Follows h p p (births_of p)
stays h p = record { roots = λ r. r; births = refl }

-- the same births in another form
pub agrees : {h : HeapState} {p q : PlainHeap} {b c : BirthHeap} → Follows h p q b → b ≡ c → Follows h p q c
agrees f same = record { roots = f.roots; births = f.births ∙ same }

-- nothing is changed
pub same_carries : (h : HeapState) → Carries h h (λ w. w)
same_carries h = record {
  size = alike h h refl refl refl refl refl refl refl;
  laid = λ z. z;
  given = λ z. z;
  words = λ z. z;
  world = refl;
}

-- the same edit in another form
pub becomes : {h g : HeapState} {e : AddressHeap → AddressHeap} (c : Carries h g e)
    (f : AddressHeap → AddressHeap) → e (world_of h) ≡ f (world_of h) → Carries h g f
becomes c f same =
    record { size = c.size; laid = c.laid; given = c.given; words = c.words; world = c.world ∙ same }

-- one edit, and then another
pub and_then : {h g m : HeapState} {e f : AddressHeap → AddressHeap} → Carries h g e → Carries g m f
    → Carries h m (λ w. f (e w))
and_then {f = f} c d = record {
  size = record {
    config = d.size.config ∙ c.size.config;
    words = d.size.words ∙ c.size.words;
    frames = d.size.frames ∙ c.size.frames;
    pages = d.size.pages ∙ c.size.pages;
    threads = d.size.threads ∙ c.size.threads;
    workers = d.size.workers ∙ c.size.workers;
    globals = d.size.globals ∙ c.size.globals;
  };
  laid = λ z. d.laid (c.laid z);
  given = λ z. d.given (c.given z);
  words = λ z. d.words (c.words z);
  world = d.world ∙ ap f c.world;
}

-- an edit of one thread, by an edit of its record
pub thread_carries : (h : HeapState) (t : ℕ) (f : ThreadState → ThreadState) (e : AddressHeap → AddressHeap)
    → (IsLaid h → IsLaid (record h { threads = change_at h.threads t f }))
    → ((y : ThreadState) → HoldsWords h.config.registers y → HoldsWords h.config.registers (f y))
    → world_of (record h { threads = change_at h.threads t f }) ≡ e (world_of h)
    → Carries h (record h { threads = change_at h.threads t f }) e
thread_carries h t f e laid words world = record {
  size = alike h (record h {
    threads =
        change_at h.threads t f;
  }) refl refl refl refl (length_changed h.threads t f) refl
      refl;
  laid = laid;
  given = λ z. z;
  words = λ w. record {
    threads = each_changed (HoldsWords h.config.registers) h.threads t f w.threads words;
    globals = w.globals;
  };
  world = world;
}

-- the invariant of equal models
pub moved : (w v : AddressHeap) (p q p0 : BirthHeap) → v ≡ w → q ≡ p → Invariant w p p0 → Invariant v q p0
moved w v p q p0 e f i = subst (λ x. Invariant x q p0) (sym e) (subst (λ x. Invariant w x p0) (sym f) i)

-- an edit that the address-level model doesn't see
pub unseen : {h g : HeapState} {p p0 : PlainHeap} → Carries h g (λ w. w) → Holds h p p0 → Holds g p p0
unseen {p = p} {p0 = p0} c k = record {
  sizes = has_sizes c.size k.sizes;
  laid = c.laid k.laid;
  given = c.given k.given;
  words = c.words k.words;
  roots = has_roots c.size k.roots;
  invariant = moved _ _ _ _ (births_of p0) c.world refl k.invariant;
}

-- an edit that is a transition of the laws
pub step_by : {h g : HeapState} {e : AddressHeap → AddressHeap} {p p0 q q0 : PlainHeap} {b : BirthHeap}
    → Holds h p p0 → Carries h g e → Follows h p q b
    → Transition (world_of h) (births_of p) (births_of p0) (e (world_of h)) b (births_of q0) → Holds g q q0
step_by {h = h} {e = e} {p = p} {p0 = p0} {q = q} {q0 = q0} k c f step = record {
  sizes = has_sizes c.size k.sizes;
  laid = c.laid k.laid;
  given = c.given k.given;
  words = c.words k.words;
  roots = has_roots c.size (f.roots k.roots);
  invariant = moved _ _ _ _ (births_of q0) c.world f.births (transition_keeps _ _ _ _ _ _ k.invariant step);
}

-- an outcome keeps that the heap represents a reference model
abbrev pub RowHolds : HeapState → PlainHeap → PlainHeap → Actor → Step → Outcome → Type 0
RowHolds h p p0 actor step o = OnAccepted (λ (z : HeapState × Answer). StepHolds h p p0 actor step z.0 z.1) o

-- a step that is such an edit
pub row_by : {h g : HeapState} {e : AddressHeap → AddressHeap} {p p0 : PlainHeap} {actor : Actor} {step : Step}
    {answer : Answer} {b : BirthHeap}
    → Holds h p p0 → Carries h g e → Follows h p (plain_step h.config.layouts p actor step) b
    → Transition (world_of h) (births_of p) (births_of p0) (e (world_of h)) b (births_of (kept_at_mark p p0 step))
    → AnswersPlain (plain_answer p actor step) answer → StepHolds h p p0 actor step g answer
row_by k c f step a = record { config = c.size.config; holds = step_by k c f step; answers = a }

-- a step whose edit the address-level model doesn't see, and that leaves the reference model
pub unseen_by : {h g : HeapState} {p p0 : PlainHeap} {actor : Actor} {step : Step} {answer : Answer}
    → Holds h (plain_step h.config.layouts p actor step) (kept_at_mark p p0 step) → Carries h g (λ w. w)
    → AnswersPlain (plain_answer p actor step) answer → StepHolds h p p0 actor step g answer
unseen_by k c a = record { config = c.size.config; holds = unseen c k; answers = a }

-- a step that changes nothing
pub read_by : {h : HeapState} {p p0 : PlainHeap} {actor : Actor} {step : Step} {answer : Answer}
    → Holds h (plain_step h.config.layouts p actor step) (kept_at_mark p p0 step)
    → AnswersPlain (plain_answer p actor step) answer → StepHolds h p p0 actor step h answer
read_by k a = record { config = refl; holds = k; answers = a }

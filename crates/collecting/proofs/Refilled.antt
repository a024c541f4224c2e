-- Buffers and objects, from one part to the next.
use Rattle.std.proofs.Common.{◌≡◌, ◌⊎◌, ◌∙◌, ℕ, false, length, List, [], ◌∷◌, refl, sym, subst, ap, inl, inr, Some}
use Rattle.std.specs.Prelude.{Result, Ok, Err, IfOk}
use Rattle.std.proofs.lemmas.Bool.{or_parts, true≢false}
use Rattle.layout.specs.declared.shape.Layout.{Layout}
use Rattle.model.specs.declared.records.Buffer.{Buffer}
use Rattle.model.specs.declared.steps.Actor.{Actor}
use Rattle.model.specs.declared.steps.Actor.TheVariants.{Thread, Worker}
use Rattle.model.specs.declared.steps.Step.{Step}
use Rattle.model.specs.declared.steps.Step.TheVariants as steps
use Rattle.model.specs.declared.steps.Answer.TheVariants as answers
use Rattle.model.specs.declared.steps.Refusal.{Refusal}
use Rattle.model.specs.declared.steps.Refusal.TheVariants as refusals
use Rattle.model.specs.declared.config.Config.{Config}
use Rattle.model.specs.Buffers.{buffer_of_thread}
use Rattle.model.specs.Outcome.{outcome}
use Rattle.model.specs.Plain.{PlainHeap, plain_step, plain_answer}
use Rattle.model.specs.Saying.{done, lent}
use Rattle.model.specs.States.{HeapState}
use Rattle.refinement.specs.Standing.{Holds}
use Rattle.entries.specs.declared.entry.Entry.{Entry}
use Rattle.cycle.specs.Mutating.{DoesThread, ThreadStands}
use Rattle.cycle.specs.Replays.{Replayed, after_entry, after_entries}
use Rattle.cycle.proofs.Stepped.{step_refused}
use Rattle.managed.specs.Goings.{EachIs}
use Rattle.managed.specs.Collecting.{IsCollecting, StandsUnseen}
use Rattle.managed.proofs.Going.{goes_none, goes_then, goes_thread}
use Rattle.managed.proofs.Gathering.{goes_wider}
use Rattle.managed.proofs.Running.{runs_one}
use Rattle.collecting.specs.declared.collecting.Collected.{Collected}
use Rattle.collecting.specs.Collections.{WORKER, Collects, EndsCollecting, SettlesAndMarks}
use Rattle.collecting.specs.Collections.{has_buffer, is_of_rooms, lacks_room}
use Rattle.collecting.specs.Rooms.{IsRefill, Refills, EndsRefill, RefillsBy, HasMarkedSince, HasTriedAll, IsAny}
use Rattle.collecting.specs.Rooms.{IsNotHeld, EndsMaking, EndsTaking, LacksPage, MakingStands}
use Rattle.collecting.proofs.Collections.{collecting_goes, marking_goes, marking_stops}
use Rattle.collecting.proofs.NotRoom.{collecting_not}
use Rattle.collecting.proofs.Given.{never_held}

refill_then : (t : ℕ) (h m g : HeapState) → Refills t h m → Refills t m g → Refills t h g
refill_then t h m g a b = goes_then (IsRefill t) h m g a b

wider : (t : ℕ) (actor : Actor) (step : Step) → IsCollecting WORKER actor step → IsRefill t actor step
wider t (Thread u) steps.Cross is = tt
wider t (Thread u) (steps.Scrub r) is = tt
wider t (Thread u) _ is = absurd is
wider t (Worker w) step is = is

pub collects_refill : (t : ℕ) (h g : HeapState) → Collects h g → Refills t h g
collects_refill t h g k = goes_wider (IsCollecting WORKER) (IsRefill t) (wider t) h g k

-- the steps before stay known, and count from an earlier heap on
abbrev Reaches : ℕ → (HeapState → HeapState → Type 0) → Type 0
Reaches t Q = (h m g : HeapState) → Refills t h m → Q m g → Q h g

pub any_reaches : (t : ℕ) → Reaches t IsAny
any_reaches t = λ h m g a k. tt

marked_reaches : (t : ℕ) → Reaches t (HasMarkedSince t)
marked_reaches t = λ h m g a k. record {
  before = k.before;
  marked = k.marked;
  live = k.live;
  goes = refill_then t h m k.before a k.goes;
  marks = k.marks;
  to = k.to;
}

tried_reaches : (t percent : ℕ) → Reaches t (HasTriedAll t percent)
tried_reaches t percent = λ h m g a k. record {
  before = k.before;
  behind = k.behind;
  found = k.found;
  goes = refill_then t h m k.before a k.goes;
  collects = k.collects;
  marks = k.marks;
}

lacks_after : (t : ℕ) (e : Refusal) (h m g : HeapState) → Refills t h m → LacksPage t m e g → LacksPage t h e g
lacks_after t e h m g a k = (k.0, refill_then t h m k.0 a k.1, k.2)

-- what comes before
after_by : (Q : HeapState → HeapState → Type 0) (t n percent : ℕ) → Reaches t Q → (h m g : HeapState)
    (r : Result Buffer Refusal) → Refills t h m → RefillsBy Q t n percent m r g → RefillsBy Q t n percent h r g
after_by Q t n percent reach h m g (Ok b) a k =
    (refill_then t h m g a k.0, (k.1.0, (k.1.1.0, refill_then t h m k.1.1.0 a k.1.1.1, k.1.1.2)))
after_by Q t n percent reach h m g (Err e) a (k, inl refused) =
    (refill_then t h m g a k, inl (refused.0, refused.1, λ l. reach h m g a (refused.2 l)))
after_by Q t n percent reach h m g (Err e) a (k, inr (inl lacks)) =
    (refill_then t h m g a k, inr (inl (lacks_after t e h m g a lacks)))
after_by Q t n percent reach h m g (Err e) a (k, inr (inr ends)) =
    (refill_then t h m g a k, inr (inr (ends.0, refill_then t h m ends.0 a ends.1, ends.2)))

pub ends_after : (t n percent : ℕ) (h m g : HeapState) (r : Result Buffer Refusal) → Refills t h m
    → RefillsBy (HasTriedAll t percent) t n percent m r g → RefillsBy (HasTriedAll t percent) t n percent h r g
ends_after t n percent h m g r a k =
    after_by (HasTriedAll t percent) t n percent (tried_reaches t percent) h m g r a k

-- a buffer is given back, if there is one
pub given : (t : ℕ) (h g : HeapState) (r : Result Unit Refusal) → DoesThread done h t steps.GiveBack r g
    → ThreadStands done h t steps.GiveBack r g → Refills t h g
given t h g r does keeps = goes_thread (IsRefill t) done h h g t steps.GiveBack r refl does keeps
    (goes_none (IsRefill t) h)

-- a buffer is given back, and one is taken
pub taken : (t n percent : ℕ) (h m g : HeapState) (q : Result Unit Refusal) (r : Result Buffer Refusal)
    → DoesThread done h t steps.GiveBack q m → ThreadStands done h t steps.GiveBack q m
    → DoesThread lent m t (steps.Take n) r g
    → ThreadStands lent m t (steps.Take n) r g → IfOk r (λ (b : Buffer). buffer_of_thread g t ≡ Some b)
    → RefillsBy IsAny t n percent h r g
taken t n percent h m g q (Ok b) back kept does keeps has =
    let a : Refills t h m = given t h m q back kept in (
      goes_thread (IsRefill t) lent h m g t (steps.Take n) (Ok b) refl does keeps a,
      (has, (m, a, runs_one m g (Thread t) (steps.Take n) (lent b) does keeps)),
    )
taken t n percent h m g q (Err e) back kept does keeps has =
    let k = step_refused m g (steps.Take n) e (outcome m (Thread t) (steps.Take n)) does in
    (goes_thread (IsRefill t) lent h m g t (steps.Take n) (Err e) refl does keeps goes, by_case k.0 k.1)
  where
    goes : Refills t h m
    goes = given t h m q back kept

    by_case : (e ≡ refusals.Memory) ⊎ (outcome m (Thread t) (steps.Take n) ≡ Err e) → g ≡ m
        → EndsTaking IsAny t n percent h (Err e) g
    by_case (inl memory) same = inr (inl (m, goes, (memory, same)))
    by_case (inr refused) same = inl (
      subst (λ (x : HeapState). outcome x (Thread t) (steps.Take n) ≡ Err e) (sym same) refused,
      never_held t n h m q e back refused,
      λ l. tt,
    )

-- a collection, and then a buffer
pub collected_then : (t n percent : ℕ) (h m g : HeapState) (c : Result Collected Refusal) (x : Collected)
    (r : Result Buffer Refusal) → c ≡ Ok x → EndsCollecting percent h c m
    → RefillsBy (HasMarkedSince t) t n percent m r g → RefillsBy (HasTriedAll t percent) t n percent h r g
collected_then t n percent h m g c x r is a k = by_result r k
  where
    goes : Refills t h m
    goes = collects_refill t h m (collecting_goes percent h m c a)

    by_result : (r : Result Buffer Refusal) → RefillsBy (HasMarkedSince t) t n percent m r g
        → RefillsBy (HasTriedAll t percent) t n percent h r g
    by_result (Ok b) k =
        (refill_then t h m g goes k.0, (k.1.0, (k.1.1.0, refill_then t h m k.1.1.0 goes k.1.1.1, k.1.1.2)))
    by_result (Err e) (k, inl refused) = (
      refill_then t h m g goes k,
      inl (
        refused.0,
        refused.1,
        λ l. record {
          before = h;
          behind = m;
          found = x;
          goes = goes_none (IsRefill t) h;
          collects = subst (λ (y : Result Collected Refusal). EndsCollecting percent h y m) is a;
          marks = refused.2 l;
        },
      ),
    )
    by_result (Err e) (k, inr (inl lacks)) =
        (refill_then t h m g goes k, inr (inl (lacks_after t e h m g goes lacks)))
    by_result (Err e) (k, inr (inr ends)) =
        (refill_then t h m g goes k, inr (inr (ends.0, refill_then t h m ends.0 goes ends.1, ends.2)))

-- a collection that stopped
pub collected_stops : (t n percent : ℕ) (h g : HeapState) (c : Result Collected Refusal) (e : Refusal) → c ≡ Err e
    → EndsCollecting percent h c g → RefillsBy (HasTriedAll t percent) t n percent h (Err e) g
collected_stops t n percent h g c e is a = (
  collects_refill t h g (collecting_goes percent h g c a),
  inr (inr (
    h,
    goes_none (IsRefill t) h,
    subst (λ (x : Result Collected Refusal). EndsCollecting percent h x g) is a,
  )),
)

-- a mark, and then a buffer
pub marked_then : (t n percent : ℕ) (h m g : HeapState) (c : Result ℕ Refusal) (live : ℕ) (r : Result Buffer Refusal)
    → c ≡ Ok live → SettlesAndMarks h c m → RefillsBy IsAny t n percent m r g
    → RefillsBy (HasMarkedSince t) t n percent h r g
marked_then t n percent h m g c live r is a k = by_result r k
  where
    goes : Refills t h m
    goes = collects_refill t h m (marking_goes h m c a)

    by_result : (r : Result Buffer Refusal) → RefillsBy IsAny t n percent m r g
        → RefillsBy (HasMarkedSince t) t n percent h r g
    by_result (Ok x) k =
        (refill_then t h m g goes k.0, (k.1.0, (k.1.1.0, refill_then t h m k.1.1.0 goes k.1.1.1, k.1.1.2)))
    by_result (Err e) (k, inl refused) = (
      refill_then t h m g goes k,
      inl (
        refused.0,
        refused.1,
        λ l. record {
          before = h;
          marked = m;
          live = live;
          goes = goes_none (IsRefill t) h;
          marks = subst (λ (x : Result ℕ Refusal). SettlesAndMarks h x m) is a;
          to = k;
        },
      ),
    )
    by_result (Err e) (k, inr (inl lacks)) =
        (refill_then t h m g goes k, inr (inl (lacks_after t e h m g goes lacks)))
    by_result (Err e) (k, inr (inr ends)) =
        (refill_then t h m g goes k, inr (inr (ends.0, refill_then t h m ends.0 goes ends.1, ends.2)))

-- a mark that stopped
pub marked_stops : (t n percent : ℕ) (h g : HeapState) (c : Result ℕ Refusal) (e : Refusal) → c ≡ Err e
    → SettlesAndMarks h c g → RefillsBy (HasMarkedSince t) t n percent h (Err e) g
marked_stops t n percent h g c e is a =
    let k : SettlesAndMarks h (Err e) g = subst (λ (x : Result ℕ Refusal). SettlesAndMarks h x g) is a in (
      collects_refill t h g (marking_goes h g c a),
      inr (inr (h, goes_none (IsRefill t) h, marking_stops percent h g e k)),
    )

-- the words were taken at once, or the error is another one than lack of space
pub at_once : (Q : HeapState → HeapState → Type 0) (t n percent : ℕ) (h g : HeapState) (q : Result Buffer Refusal)
    (b : Buffer) → q ≡ Ok b → RefillsBy IsAny t n percent h q g → RefillsBy Q t n percent h (Ok b) g
at_once Q t n percent h g q b is a = subst (λ (x : Result Buffer Refusal). RefillsBy IsAny t n percent h x g) is a

pub not_room : (Q : HeapState → HeapState → Type 0) (t n percent : ℕ) (h g : HeapState) (q : Result Buffer Refusal)
    (e : Refusal) → q ≡ Err e → lacks_room e ≡ false → RefillsBy IsAny t n percent h q g
    → RefillsBy Q t n percent h (Err e) g
not_room Q t n percent h g q e is other a =
    by_case (subst (λ (x : Result Buffer Refusal). RefillsBy IsAny t n percent h x g) is a)
  where
    by_case : RefillsBy IsAny t n percent h (Err e) g → RefillsBy Q t n percent h (Err e) g
    by_case (k, inl refused) = (k, inl (refused.0, refused.1, λ l. absurd (true≢false (sym l ∙ other))))
    by_case (k, inr ends) = (k, inr ends)

-- the request was rejected, and what comes then
pub refused_mark : (t n percent : ℕ) (h m g : HeapState) (q r : Result Buffer Refusal)
    → RefillsBy IsAny t n percent h q m → RefillsBy (HasMarkedSince t) t n percent m r g
    → RefillsBy (HasMarkedSince t) t n percent h r g
refused_mark t n percent h m g q r a k =
    after_by (HasMarkedSince t) t n percent (marked_reaches t) h m g r a.0 k

pub refused_then : (t n percent : ℕ) (h m g : HeapState) (q r : Result Buffer Refusal)
    → RefillsBy IsAny t n percent h q m → RefillsBy (HasTriedAll t percent) t n percent m r g
    → RefillsBy (HasTriedAll t percent) t n percent h r g
refused_then t n percent h m g q r a k = ends_after t n percent h m g r a.0 k

-- ---- errors

of_rooms : (e : Refusal) → is_of_rooms e ≡ false → has_buffer e ≡ false
of_rooms e k = (or_parts (lacks_room e) (has_buffer e) k).1

pub refill_not : (t n percent : ℕ) (h : HeapState) (r : Result Buffer Refusal) (g : HeapState)
    → EndsRefill t n percent h r g → IsNotHeld r
refill_not t n percent h (Ok b) g k = tt
refill_not t n percent h (Err e) g (inl refused) = refused.1
refill_not t n percent h (Err e) g (inr (inl lacks)) = ap has_buffer lacks.2.0
refill_not t n percent h (Err e) g (inr (inr ends)) = of_rooms e (collecting_not percent ends.0 (Err e) g ends.2)

-- ---- objects

made_here : (t n percent target layout : ℕ) (h g : HeapState) (r : Result ℕ Refusal)
    → DoesThread answers.Birth h t (steps.New target layout) r g
    → ThreadStands answers.Birth h t (steps.New target layout) r g → EndsMaking t n percent target layout h r g
made_here t n percent target layout h g (Ok b) does keeps =
    (h, goes_none (IsRefill t) h, runs_one h g (Thread t) (steps.New target layout) (answers.Birth b) does keeps)
made_here t n percent target layout h g (Err e) does keeps = (
  subst (Refills t h) (sym does.1) (goes_none (IsRefill t) h),
  inl (subst (λ (x : HeapState). outcome x (Thread t) (steps.New target layout) ≡ Err e) (sym does.1) does.0),
)

pub making_after : (t n percent target layout : ℕ) (h m g : HeapState) (r : Result ℕ Refusal) → Refills t h m
    → EndsMaking t n percent target layout m r g → EndsMaking t n percent target layout h r g
making_after t n percent target layout h m g (Ok b) a k = (k.0, refill_then t h m k.0 a k.1, k.2)
making_after t n percent target layout h m g (Err e) a (k, inl refused) = (refill_then t h m g a k, inl refused)
making_after t n percent target layout h m g (Err e) a (k, inr (inl refused)) =
    (refill_then t h m g a k, inr (inl (refused.0, refused.1, λ l. tried_reaches t percent h m g a (refused.2 l))))
making_after t n percent target layout h m g (Err e) a (k, inr (inr (inl lacks))) =
    (refill_then t h m g a k, inr (inr (inl (lacks_after t e h m g a lacks))))
making_after t n percent target layout h m g (Err e) a (k, inr (inr (inr ends))) =
    (refill_then t h m g a k, inr (inr (inr (ends.0, refill_then t h m ends.0 a ends.1, ends.2))))

-- an object is made
pub made : (t n percent target layout : ℕ) (h g : HeapState) (r : Result ℕ Refusal)
    → DoesThread answers.Birth h t (steps.New target layout) r g
    → ThreadStands answers.Birth h t (steps.New target layout) r g → EndsMaking t n percent target layout h r g
made t n percent target layout h g r does keeps = made_here t n percent target layout h g r does keeps

pub made_ok : (t n percent target layout b : ℕ) (h g : HeapState) (r : Result ℕ Refusal) → r ≡ Ok b
    → DoesThread answers.Birth h t (steps.New target layout) r g
    → ThreadStands answers.Birth h t (steps.New target layout) r g → EndsMaking t n percent target layout h (Ok b) g
made_ok t n percent target layout b h g r is does keeps =
    subst (λ (x : Result ℕ Refusal). EndsMaking t n percent target layout h x g) is
    (made_here t n percent target layout h g r does keeps)

-- a buffer, and then an object
pub refilled_then : (t n percent target layout : ℕ) (h m g : HeapState) (b : Result Buffer Refusal)
    (r : Result ℕ Refusal) → RefillsBy (HasTriedAll t percent) t n percent h b m
    → DoesThread answers.Birth m t (steps.New target layout) r g
    → ThreadStands answers.Birth m t (steps.New target layout) r g → EndsMaking t n percent target layout h r g
refilled_then t n percent target layout h m g b r a does keeps = making_after t n percent target layout h m g r a.0
    (made_here t n percent target layout m g r does keeps)

-- no buffer
pub refilled_stops : (t n percent target layout : ℕ) (h g : HeapState) (b : Result Buffer Refusal) (e : Refusal)
    → b ≡ Err e → RefillsBy (HasTriedAll t percent) t n percent h b g → EndsMaking t n percent target layout h (Err e) g
refilled_stops t n percent target layout h g b e is a =
    (a.0, inr (subst (λ (x : Result Buffer Refusal). EndsRefill t n percent h x g) is a.1))

-- no object, and what comes then
pub unmade_then : (t n percent target layout : ℕ) (h m g : HeapState) (e : Refusal) (q r : Result ℕ Refusal)
    → q ≡ Err e → DoesThread answers.Birth h t (steps.New target layout) q m
    → EndsMaking t n percent target layout m r g → EndsMaking t n percent target layout h r g
unmade_then t n percent target layout h m g e (Ok x) r is does k = absurd (cc)
unmade_then t n percent target layout h m g e (Err x) r is does k =
    subst (λ (y : HeapState). EndsMaking t n percent target layout y r g) does.1 k

-- ---- the reference model

-- it doesn't see these steps
unseen : (t : ℕ) (ls : List Layout) (p : PlainHeap) (actor : Actor) (step : Step) → IsRefill t actor step
    → plain_step ls p actor step ≡ p
unfolding plain_step
unseen t ls p (Worker v) step is = refl
unseen t ls p (Thread u) steps.Cross is = refl
unseen t ls p (Thread u) (steps.Scrub r) is = refl
unseen t ls p (Thread u) (steps.Take n) is = refl
unseen t ls p (Thread u) steps.GiveBack is = refl
unseen t ls p (Thread u) _ is = absurd is

unseen_entries : (t : ℕ) (ls : List Layout) (r : Replayed) (es : List Entry) → EachIs (IsRefill t) es
    → (after_entries ls r es).now ≡ r.now
unseen_entries t ls r [] each = refl
unseen_entries t ls r (e ∷ es) each =
    unseen_entries t ls (after_entry ls r e) es each.1 ∙ unseen t ls r.now e.actor e.step each.0

pub refills_unseen : (t : ℕ) (h g : HeapState) → Refills t h g → StandsUnseen h g
refills_unseen t h g k = record {
  same = λ p p0 holds.
      let r : Replayed = record { now = p; at_mark = p0 } in
      let after = after_entries h.config.layouts r k.entries in (
        after.at_mark,
        subst (λ (q : PlainHeap). Holds g q after.at_mark)
            (unseen_entries t h.config.layouts r k.entries k.each) (k.runs.stands r holds).holds,
      );
}

same_config : (t : ℕ) (h g : HeapState) (p p0 : PlainHeap) → Refills t h g → Holds h p p0 → g.config ≡ h.config
same_config t h g p p0 k holds = (k.runs.stands (record { now = p; at_mark = p0 }) holds).config

birth_is : (b c : ℕ) → answers.Birth b ≡ answers.Birth c → b ≡ c
birth_is b c e = cc

pub making_stands : (t n percent target layout : ℕ) (h g : HeapState) (r : Result ℕ Refusal)
    → EndsMaking t n percent target layout h r g → MakingStands t target layout h r g
unfolding plain_answer
making_stands t n percent target layout h g (Ok b) k =
    λ p p0 holds.
    let m = k.0 in
    let (q0, there) = (refills_unseen t h m k.1).same p p0 holds in
    let s = k.2.stands (record { now = p; at_mark = q0 }) there in
    let new : Holds g (plain_step m.config.layouts p (Thread t) (steps.New target layout)) q0 = s.holds in (
      q0,
      subst (λ (c : Config). Holds g (plain_step c.layouts p (Thread t) (steps.New target layout)) q0)
          (same_config t h m p p0 k.1 holds) new,
      birth_is b (length p.objects) s.answers.0,
    )
making_stands t n percent target layout h g (Err e) k = λ p p0 holds. (refills_unseen t h g k.0).same p p0 holds

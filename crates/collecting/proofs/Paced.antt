-- Objects that are allocated during a collection in parts.
use Rattle.std.proofs.Common.{◌≡◌, ℕ, zero, suc, ◌+◌, ◌<◌, Bool, true, false, refl, sym, subst, arith, inl, inr}
use Rattle.std.specs.Prelude.{Result, Ok, Err}
use Rattle.std.proofs.lemmas.Bool.{true≢false}
use Rattle.model.specs.Refusing.{Outcome}
use Rattle.model.specs.States.{HeapState}
use Rattle.model.specs.declared.steps.Answer.TheVariants as answers
use Rattle.model.specs.declared.steps.Actor.TheVariants.{Thread}
use Rattle.model.specs.declared.steps.Refusal.{Refusal}
use Rattle.model.specs.declared.steps.Step.TheVariants as steps
use Rattle.model.specs.Outcome.{outcome}
use Rattle.cycle.specs.Mutating.{DoesThread, ThreadStands}
use Rattle.collecting.specs.declared.counting.Counters.{Counters}
use Rattle.collecting.specs.Collections.{Collects}
use Rattle.collecting.specs.Counting.{CountedBy, CountsMakePaced, CountsPaced, CountsPacedIf, part_counted}
use Rattle.collecting.specs.Pacing.{MakesPaced, MakesPacedIf, PacedBy, Paces, PacesAndMakes, lacks_buffer, most_parts}
use Rattle.collecting.specs.Pacing.{stops}
use Rattle.collecting.specs.Parts.{EndsPart}
use Rattle.collecting.specs.Rooms.{EndsMaking}
use Rattle.collecting.specs.Stages.{PartGoesOn, PartsState}
use Rattle.collecting.proofs.Collections.{none, and_then}
use Rattle.collecting.proofs.Refilled.{collects_refill, made, making_after}
use Rattle.collecting.proofs.Parted.{part_goes}

-- if the buffer isn't the reason, or there is none, no part is done
pub not_paced : (t n percent free budget target layout : ℕ) (p : PartsState) (h g : HeapState) (r : Result ℕ Refusal)
    → lacks_buffer r ≡ false → DoesThread answers.Birth h t (steps.New target layout) r g
    → ThreadStands answers.Birth h t (steps.New target layout) r g
    → MakesPaced t n percent free budget target layout p h r p g
not_paced t n percent free budget target layout p h g (Ok b) other does keeps =
    subst (λ (o : Outcome). MakesPacedIf (lacks_buffer o) t n percent free budget target layout p h (Ok b) p g)
    (sym does)
    (refl, made t n percent target layout h g (Ok b) does keeps)
not_paced t n percent free budget target layout p h g (Err e) other does keeps =
    subst (λ (o : Outcome). MakesPacedIf (lacks_buffer o) t n percent free budget target layout p h (Err e) p g)
    (sym does.0)
    (subst (λ (b : Bool). MakesPacedIf b t n percent free budget target layout p h (Err e) p g) (sym other)
    (refl, made t n percent target layout h g (Err e) does keeps))

-- if it is, parts are done
pub is_paced : (t n percent free budget target layout : ℕ) (p q : PartsState) (h m g : HeapState)
    (x r : Result ℕ Refusal) → lacks_buffer x ≡ true → DoesThread answers.Birth h t (steps.New target layout) x m
    → PacesAndMakes t n percent free budget target layout p m r q g
    → MakesPaced t n percent free budget target layout p h r q g
is_paced t n percent free budget target layout p q h m g (Ok b) r lacks does k = absurd (true≢false (sym lacks))
is_paced t n percent free budget target layout p q h m g (Err e) r lacks does k =
    subst (λ (o : Outcome). MakesPacedIf (lacks_buffer o) t n percent free budget target layout p h r q g) (sym does.0)
    (subst (λ (b : Bool). MakesPacedIf b t n percent free budget target layout p h r q g) (sym lacks)
    (subst (λ (y : HeapState). PacesAndMakes t n percent free budget target layout p y r q g) does.1 k))

pub is_counted : (t n free percent budget target layout : ℕ) (p q : PartsState) (h m : HeapState) (x : Result ℕ Refusal)
    (old new : Counters) → lacks_buffer x ≡ true → DoesThread answers.Birth h t (steps.New target layout) x m
    → CountsPaced t n free percent budget target layout p m old q new
    → CountsMakePaced t n free percent budget target layout p h old q new
is_counted t n free percent budget target layout p q h m (Ok b) old new lacks does k = absurd (true≢false (sym lacks))
is_counted t n free percent budget target layout p q h m (Err e) old new lacks does k =
    subst (λ (o : Outcome). CountsPacedIf (lacks_buffer o) t n free percent budget target layout p h old q new)
    (sym does.0)
    (subst (λ (b : Bool). CountsPacedIf b t n free percent budget target layout p h old q new) (sym lacks)
    (subst (λ (y : HeapState). CountsPaced t n free percent budget target layout p y old q new) does.1 k))

-- ---- parts, one after another

pub paced_more : (k : ℕ) (all : Bool) (free percent budget : ℕ) (p o q : PartsState) (h m g : HeapState)
    (r : Result Bool Refusal) → PacedBy k all free percent budget p h o m → k < most_parts all free budget o m
    → stops r ≡ false → EndsPart m r g → PartGoesOn percent budget o m r q g
    → PacedBy (k + 1) all free percent budget p h q g
paced_more k all free percent budget p o q h m g (Ok false) before few on ends part =
    let next : suc k ≡ k + 1 = omega arith in
    subst (λ (i : ℕ). PacedBy i all free percent budget p h q g) next (o, m, before, few, ends, part)
paced_more k all free percent budget p o q h m g (Ok true) before few on ends part = absurd (true≢false on)
paced_more k all free percent budget p o q h m g (Err e) before few on ends part = absurd (true≢false on)

pub counted_more : (k : ℕ) (all : Bool) (free percent budget : ℕ) (p o q : PartsState) (h m g : HeapState)
    (old c new : Counters) (r : Result Bool Refusal) → CountedBy k all free percent budget p h old o m c
    → k < most_parts all free budget o m → stops r ≡ false → PartGoesOn percent budget o m r q g
    → new ≡ part_counted o m r q c → CountedBy (k + 1) all free percent budget p h old q g new
counted_more k all free percent budget p o q h m g old c new (Ok false) before few on part is =
    let next : suc k ≡ k + 1 = omega arith in
    subst (λ (i : ℕ). CountedBy i all free percent budget p h old q g new) next (o, m, c, before, few, part, is)
counted_more k all free percent budget p o q h m g old c new (Ok true) before few on part is = absurd (true≢false on)
counted_more k all free percent budget p o q h m g old c new (Err e) before few on part is = absurd (true≢false on)

pub is_less : (k : ℕ) (all : Bool) (free budget : ℕ) (p : PartsState) (h g : HeapState) → h ≡ g
    → k < most_parts all free budget p h → k < most_parts all free budget p g
is_less k all free budget p h g same few = subst (λ (x : HeapState). k < most_parts all free budget p x) same few

-- the last one comes, with all or without
pub paces_last : (k : ℕ) (all urgent : Bool) (free percent budget : ℕ) (p o q : PartsState) (h m g : HeapState)
    (r : Result Bool Refusal) → all ≡ urgent → PacedBy k all free percent budget p h o m
    → k < most_parts all free budget o m → stops r ≡ true → EndsPart m r g → PartGoesOn percent budget o m r q g
    → Paces urgent free percent budget p h q g
paces_last k all urgent free percent budget p o q h m g r is before few last ends part =
    subst (λ (b : Bool). Paces b free percent budget p h q g) is (inr (k, o, m, r, before, few, last, ends, part))

-- ---- their results

paced_goes : (k : ℕ) (all : Bool) (free percent budget : ℕ) (p q : PartsState) (h g : HeapState)
    → PacedBy k all free percent budget p h q g → Collects h g
paced_goes zero all free percent budget p q h g x = subst (Collects h) (sym x.1) (none h)
paced_goes (suc k) all free percent budget p q h g x =
    let (o, m, before, few, ends, part) = x in
    and_then h m g (paced_goes k all free percent budget p o h m before) ends

paces_goes : (all : Bool) (free percent budget : ℕ) (p q : PartsState) (h g : HeapState)
    → Paces all free percent budget p h q g → Collects h g
paces_goes all free percent budget p q h g (inl x) =
    let (k, before, enough) = x in paced_goes k all free percent budget p q h g before
paces_goes all free percent budget p q h g (inr x) =
    let (k, o, m, r, before, few, last, ends, part) = x in
    and_then h m g (paced_goes k all free percent budget p o h m before) (part_goes m g r ends)

-- it is made by steps that make an object, after steps of a collection
pub paced_making : (t n percent free budget target layout : ℕ) (p q : PartsState) (h g : HeapState)
    (r : Result ℕ Refusal) → MakesPaced t n percent free budget target layout p h r q g
    → EndsMaking t n percent target layout h r g
paced_making t n percent free budget target layout p q h g r =
    by_test (lacks_buffer (outcome h (Thread t) (steps.New target layout)))
  where
    by_test : (b : Bool) → MakesPacedIf b t n percent free budget target layout p h r q g
        → EndsMaking t n percent target layout h r g
    by_test true x =
        let (m, paces, making) = x in
        making_after t n percent target layout h m g r
        (collects_refill t h m (paces_goes _ free percent budget p q h m paces)) making
    by_test false x = x.1

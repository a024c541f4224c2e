-- Verdicts from the results of the parts, and that there is only one.
use Rattle.std.proofs.Common.{cond, eqb, ◌≡◌, ◌<◌, ◌≤◌, ◌⊎◌, inl, inr, ℕ, Option, Some, None, Result, Ok, Err}
use Rattle.std.proofs.Common.{List, refl, sym, ap, ◌∙◌, arith}
use Rattle.std.proofs.lemmas.Bool.{cases_order}
use Rattle.std.proofs.lemmas.Option.{none-some}
use Rattle.verify.specs.declared.spots.Spot.{Spot}
use Rattle.verify.specs.declared.verdict.Root.{Root}
use Rattle.verify.specs.declared.verdict.Root.TheVariants as roots
use Rattle.verify.specs.declared.verdict.Fault.{Fault}
use Rattle.verify.specs.declared.verdict.Fault.TheVariants as faults
use Rattle.verify.specs.declared.verdict.Verdict.{Verdict}
use Rattle.verify.specs.declared.verdict.Verdict.TheVariants as verdicts
use Rattle.verify.specs.Images.{ImageData}
use Rattle.verify.specs.Soundness.{HasFrames, IsSound}
use Rattle.verify.specs.Faults.{HasFault, NoneBefore, VerdictIs, Rank, rank, at, IsBefore}
use Rattle.verify.specs.Searches.{GoodRootsBefore, GoodBefore, FoundField, FoundReached}
use Rattle.verify.specs.Twins.{IsLeast, HasTwins}

-- a rank before another is of no later kind
kind_before : (x y : Rank) → IsBefore x y → x.kind ≤ y.kind
kind_before x y h = elim h [
  | inl a ↦ omega arith
  | inr a ↦ elim a [ inl b ↦ omega (arith, b.0) | inr b ↦ omega (arith, b.0) ]
]

-- roots come before fields
root_kind : (r : Root) → (rank (faults.Root r)).kind < 4
root_kind (roots.Register t n) = omega arith
root_kind (roots.Pending t) = omega arith
root_kind (roots.Global g) = omega arith

-- the lowest birth with twins, and nothing else wrong
pub twins_verdict : (i : ImageData) (m : ℕ) → HasFrames i → GoodRootsBefore i (at 4 0 0) → GoodBefore i (at 5 0 0)
    → IsLeast (HasTwins i) (Some m) → VerdictIs i (verdicts.Faulty (faults.Twins m))
twins_verdict i m f p q h = ((h.0.first, h.0.second, h.0.twins), none)
  where
    low : (n : ℕ) → IsBefore (at 5 n 0) (at 5 m 0) → n < m
    low n b = elim b [
      | inl x ↦ absurd (omega (arith, x))
      | inr x ↦ elim x [ inl y ↦ y.1 | inr y ↦ absurd (omega (arith, y.2)) ]
    ]

    none : NoneBefore i (rank (faults.Twins m))
    none faults.Frames b k = k f
    none (faults.Root s) b k = k.2 (p s k.0 (inl (root_kind s)) k.1)
    none (faults.Field a n) b k = k.3 (q a n k.0 (inl (omega arith)) k.1 k.2)
    none (faults.Twins n) b k =
        omega (arith, low n b, h.1 n (record { first = k.0; second = k.1; twins = k.2 }))

-- nothing wrong
pub sound_verdict : (i : ImageData) → HasFrames i → GoodRootsBefore i (at 4 0 0) → GoodBefore i (at 5 0 0)
    → IsLeast (HasTwins i) None → VerdictIs i verdicts.Sound
sound_verdict i f p q h = record {
  frames = f;
  roots = λ r value e. p r value (inl (root_kind r)) e;
  fields = λ a k value r e. q a k value (inl (omega arith)) r e;
  alone = λ a c b t. h b (record { first = a; second = c; twins = t });
}

-- if a walk found its spots, all roots are good
pub found_roots : (i : ImageData) (r : Result (List Spot) Root) (spots : List Spot) → FoundReached i r
    → r ≡ Ok spots → GoodRootsBefore i (at 4 0 0)
found_roots i (Ok x) spots h e = h.1
found_roots i (Err x) spots h e = absurd (cc e)

-- if the fields have no fault, all are good
pub found_fields : (i : ImageData) (o : Option Fault) → FoundField i o → o ≡ None → GoodBefore i (at 5 0 0)
found_fields i None h e = h
found_fields i (Some f) h e = absurd (none-some f (sym e))

-- of two ranks one is before the other, or they are equal
before_or_same : (x y : Rank)
    → IsBefore x y ⊎ (IsBefore y x ⊎ ((x.kind ≡ y.kind) × (x.major ≡ y.major) × (x.minor ≡ y.minor)))
before_or_same x y = elim (cases_order x.kind y.kind) [
  | inr a ↦ elim a [ inl l ↦ inl (inl l) | inr l ↦ inr (inl (inl l)) ]
  | inl k ↦ elim (cases_order x.major y.major) [
    | inr a ↦ elim a [ inl l ↦ inl (inr (inl (k, l))) | inr l ↦ inr (inl (inr (inl (sym k, l)))) ]
    | inl m ↦ elim (cases_order x.minor y.minor) [
      | inr a ↦ elim a [ inl l ↦ inl (inr (inr (k, m, l))) | inr l ↦ inr (inl (inr (inr (sym k, sym m, l)))) ]
      | inl n ↦ inr (inr (k, m, n))
    ]
  ]
]

-- the fault of a rank
unrank : ℕ → ℕ → ℕ → Fault
unrank k m n =
    cond (eqb k 0) faults.Frames
    (cond (eqb k 1) (faults.Root (roots.Register m n))
    (cond (eqb k 2) (faults.Root (roots.Pending m))
    (cond (eqb k 3) (faults.Root (roots.Global m))
    (cond (eqb k 4) (faults.Field m n) (faults.Twins m)))))

-- a fault is that of its rank
unranked : (f : Fault) → unrank (rank f).kind (rank f).major (rank f).minor ≡ f
unfolding unrank
unranked faults.Frames = refl
unranked (faults.Root (roots.Register m n)) = refl
unranked (faults.Root (roots.Pending m)) = refl
unranked (faults.Root (roots.Global m)) = refl
unranked (faults.Field m n) = refl
unranked (faults.Twins m) = refl

-- a sound image has no fault
pub sound_none : (i : ImageData) (f : Fault) → IsSound i → HasFault i f → ⊥
sound_none i faults.Frames s h = h s.frames
sound_none i (faults.Root r) s h = h.2 (s.roots r h.0 h.1)
sound_none i (faults.Field a k) s h = h.3 (s.fields a k h.0 h.1 h.2)
sound_none i (faults.Twins b) s h = s.alone h.0 h.1 b h.2

-- there is one verdict on an image
pub verdict_once : (i : ImageData) (v u : Verdict) → VerdictIs i v → VerdictIs i u → v ≡ u
verdict_once i verdicts.Sound verdicts.Sound a b = refl
verdict_once i verdicts.Sound (verdicts.Faulty f) a b = absurd (sound_none i f a b.0)
verdict_once i (verdicts.Faulty f) verdicts.Sound a b = absurd (sound_none i f b a.0)
verdict_once i (verdicts.Faulty f) (verdicts.Faulty g) a b = elim (before_or_same (rank f) (rank g)) [
  | inl x ↦ absurd (b.1 f x a.0)
  | inr y ↦ elim y [
    | inl x ↦ absurd (a.1 g x b.0)
    | inr x ↦ ap (λ z. verdicts.Faulty z) (sym (unranked f)
        ∙ ap (λ k. unrank k (rank f).major (rank f).minor) x.0
        ∙ ap (λ m. unrank (rank g).kind m (rank f).minor) x.1
        ∙ ap (λ n. unrank (rank g).kind (rank g).major n) x.2
        ∙ unranked g)
  ]
]

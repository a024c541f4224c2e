-- The objects that a walk has found, visited from one to the next.
use Rattle.std.proofs.Common.{◌≡◌, ◌≢◌, ◌<◌, ◌≤◌, ◌⊎◌, inl, inr, ℕ, ◌+◌, List, Option, Some, None, refl, sym, ap}
use Rattle.std.proofs.Common.{◌∙◌, cond, eqb, eq-eqb, ne_eqb, subst, arith}
use Rattle.std.specs.Option.{option_map}
use Rattle.std.proofs.lemmas.Bool.{cases_eq, cases_lt}
use Rattle.std.proofs.lemmas.Option.{none-some, same_Some}
use Rattle.verify.specs.declared.objects.Object.{Object}
use Rattle.verify.specs.declared.spots.Spot.{Spot}
use Rattle.verify.specs.declared.spots.Spot.TheVariants.{Empty, Reached}
use Rattle.verify.specs.declared.verdict.Fault.TheVariants as faults
use Rattle.verify.specs.Images.{ImageData, object_at, field}
use Rattle.verify.specs.Soundness.{IsReached, IsBirthAt}
use Rattle.verify.specs.Faults.{IsBefore, at}
use Rattle.verify.specs.Searches.{TellsReached, FoundBadOf, FoundField, GoodBefore}
use Rattle.verify.specs.Spots.{IsNextFilled}
use Rattle.verify.specs.Twins.{TellsBirths, SharesBelow, IsLeast}
use Rattle.verify.specs.Walks.{spot_at}
use Rattle.verify.proofs.Sharing.{least_same}

module _ (i : ImageData) (spots : List Spot) (t : TellsReached i spots) where
  -- an empty spot isn't reached, and has no birth
  unreached : (b : ℕ) → spot_at spots b ≡ Empty → IsReached i b → ⊥
  unreached b e r = apart (sym e ∙ t.all b r)
    where
      apart : Empty ≡ Reached → ⊥
      apart z = absurd (cc z)

  birthless : (b n : ℕ) → spot_at spots b ≡ Empty → IsBirthAt i b n → ⊥
  birthless b n e h = by_object (object_at i b) refl h
    where
      by_object : (o : Option Object) → object_at i b ≡ o → option_map (λ x. x.birth) o ≡ Some n → ⊥
      by_object None z k = none-some n k
      by_object (Some x) z k = t.objects b x z e

  -- fields

  before_this : (b k a m : ℕ) → IsBefore (at 4 b k) (at 4 a m) → (b < a) ⊎ ((b ≡ a) × (k < m))
  before_this b k a m h = elim h [
    | inl z ↦ absurd (omega (arith, z))
    | inr z ↦ elim z [ inl y ↦ inl y.1 | inr y ↦ inr (y.1, y.2) ]
  ]

  pub good_jump : (from a : ℕ) → IsNextFilled spots from (Some a) → GoodBefore i (at 4 from 0) → GoodBefore i (at 4 a 0)
  good_jump from a next good = λ b k value h r e. elim (before_this b k a 0 h) [
    | inr z ↦ absurd (omega (arith, z.1))
    | inl l ↦ elim (cases_lt b from) [
      | inl m ↦ good b k value (inr (inl (refl, m))) r e
      | inr m ↦ absurd (unreached b (next.3 b m l) r)
    ]
  ]

  pub good_next : (from a : ℕ) → IsNextFilled spots from (Some a) → GoodBefore i (at 4 from 0) → FoundBadOf i a None
      → GoodBefore i (at 4 (a + 1) 0)
  good_next from a next good found = λ b k value h r e. elim (before_this b k (a + 1) 0 h) [
    | inr z ↦ absurd (omega (arith, z.1))
    | inl l ↦ elim (cases_eq b a) [
      | inl z ↦ found (subst (IsReached i) z r) k value (ap (λ y. field i y k) (sym z) ∙ e)
      | inr d ↦ good_jump from a next good b k value (inr (inl (refl, omega (arith, l, d)))) r e
    ]
  ]

  pub good_all : (from : ℕ) → IsNextFilled spots from None → GoodBefore i (at 4 from 0) → GoodBefore i (at 5 0 0)
  good_all from none good = λ b k value h r e. elim (cases_lt b from) [
    | inl m ↦ good b k value (inr (inl (refl, m))) r e
    | inr m ↦ absurd (unreached b (none b m) r)
  ]

  pub bad_found : (from a n : ℕ) → IsNextFilled spots from (Some a) → GoodBefore i (at 4 from 0)
      → FoundBadOf i a (Some n)
      → FoundField i (Some (faults.Field a n))
  bad_found from a n next good f = (
    (f.1.0, f.0, f.1.1, f.1.2),
    a,
    n,
    refl,
    λ b k v h s e. elim (before_this b k a n h) [
      | inl l ↦ good_jump from a next good b k v (inr (inl (refl, l))) s e
      | inr z ↦ f.1.3 k v z.1 (ap (λ y. field i y k) (sym z.0) ∙ e)
    ],
  )

  -- births

  pub births_jump : (noted : ℕ → Option ℕ) (from a : ℕ) → IsNextFilled spots from (Some a) → TellsBirths i from noted
      → TellsBirths i a noted
  births_jump noted from a next h = record {
    reached = h.reached;
    births = h.births;
    all = λ c b l r e. elim (cases_lt c from) [
      | inl m ↦ h.all c b m r e
      | inr m ↦ absurd (unreached c (next.3 c m l) r)
    ];
  }

  pub births_all : (noted : ℕ → Option ℕ) (from n : ℕ) → IsNextFilled spots from None → TellsBirths i from noted
      → TellsBirths i n noted
  births_all noted from n none h = record {
    reached = h.reached;
    births = h.births;
    all = λ c b l r e. elim (cases_lt c from) [
      | inl m ↦ h.all c b m r e
      | inr m ↦ absurd (unreached c (none c m) r)
    ];
  }

  pub births_noted : (noted new : ℕ → Option ℕ) (n a b : ℕ) → n ≡ a → IsReached i a → IsBirthAt i a b
      → ((c : ℕ) → new c ≡ cond (eqb c b) (Some a) (noted c)) → TellsBirths i n noted → TellsBirths i (n + 1) new
  births_noted noted new n a b same r e is h = record {
    reached = λ c d k. elim (cases_eq c b) [
      | inl z ↦ subst (IsReached i) (this c d z k) r
      | inr z ↦ h.reached c d (sym (old c z) ∙ k)
    ];
    births = λ c d k. elim (cases_eq c b) [
      | inl z ↦ subst (λ x. IsBirthAt i x c) (this c d z k) (e ∙ ap Some (sym z))
      | inr z ↦ h.births c d (sym (old c z) ∙ k)
    ];
    all = λ x c l s k. elim (cases_eq c b) [
      | inl z ↦ (a, new_is c z)
      | inr z ↦ elim (cases_lt x n) [
        | inl m ↦ (let y = h.all x c m s k in (y.0, old c z ∙ y.1))
        | inr m ↦ absurd (z (same_Some c b (sym (here x c (omega (arith, l, m, same)) k) ∙ e)))
      ]
    ];
  }
    where
      old : (c : ℕ) → c ≢ b → new c ≡ noted c
      old c z = is c ∙ ap (λ t. cond t (Some a) (noted c)) (ne_eqb c b z)

      new_is : (c : ℕ) → c ≡ b → new c ≡ Some a
      new_is c z = is c ∙ ap (λ t. cond t (Some a) (noted c)) (eq-eqb c b z)

      this : (c d : ℕ) → c ≡ b → new c ≡ Some d → a ≡ d
      this c d z k = same_Some a d (sym (new_is c z) ∙ k)

      here : (x c : ℕ) → x ≡ a → IsBirthAt i x c → IsBirthAt i a c
      here x c z k = subst (λ y. IsBirthAt i y c) z k

  -- shared births

  pub shares_jump : (noted : ℕ → Option ℕ) (from a : ℕ) (o : Option ℕ) → IsNextFilled spots from (Some a)
      → IsLeast (SharesBelow i noted from) o → IsLeast (SharesBelow i noted a) o
  shares_jump noted from a o next = least_same (SharesBelow i noted from) (SharesBelow i noted a) o
      (λ b s. record { place = s.place; below = omega (arith, s.below, next.0); shares = s.shares })
      (λ b s. elim (cases_lt s.place from) [
        | inl m ↦ record { place = s.place; below = m; shares = s.shares }
        | inr m ↦ absurd (birthless s.place b (next.3 s.place m s.below) s.shares.birth)
      ])

  pub shares_all : (noted : ℕ → Option ℕ) (from n : ℕ) (o : Option ℕ) → from ≤ n → IsNextFilled spots from None
      → IsLeast (SharesBelow i noted from) o → IsLeast (SharesBelow i noted n) o
  shares_all noted from n o l none = least_same (SharesBelow i noted from) (SharesBelow i noted n) o
      (λ b s. record { place = s.place; below = omega (arith, s.below, l); shares = s.shares })
      (λ b s. elim (cases_lt s.place from) [
        | inl m ↦ record { place = s.place; below = m; shares = s.shares }
        | inr m ↦ absurd (birthless s.place b (none s.place m) s.shares.birth)
      ])

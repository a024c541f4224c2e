-- The lowest birth that is shared.
use Rattle.std.proofs.Common.{◌≡◌, ◌<◌, ◌⊎◌, inl, inr, ℕ, ◌+◌, Bool, true, false, cond, List, length, Option}
use Rattle.std.proofs.Common.{Some, None, leb, refl, sym, ◌∙◌, subst, arith}
use Rattle.std.specs.Option.{option_map}
use Rattle.std.proofs.lemmas.Option.{none-some}
use Rattle.std.proofs.lemmas.Bool.{cases_eq}
use Rattle.std.proofs.lemmas.Bool.Decides.{nat_tests}
use Rattle.verify.specs.declared.spots.Spot.{Spot}
use Rattle.verify.specs.declared.objects.Object.{Object}
use Rattle.verify.specs.Images.{ImageData, object_at}
use Rattle.verify.specs.Soundness.{IsBirthAt}
use Rattle.verify.specs.Walks.{space}
use Rattle.verify.specs.Searches.{TellsReached}
use Rattle.verify.specs.Twins.{TellsBirths, SharesAt, SharesBelow, IsLeast, IsOnly, HasTwins, lesser}
use Rattle.verify.proofs.Leading.{object_below}

-- the least number with one of two properties, of which at most one number has the second
least_join : (A B C : ℕ → Type 0) (o p : Option ℕ) → ((b : ℕ) → A b → C b) → ((b : ℕ) → B b → C b)
    → ((b : ℕ) → C b → A b ⊎ B b) → IsLeast A o → IsOnly B p → IsLeast C (lesser o p)
least_join A B C None None ac bc cab l h = λ b c. elim (cab b c) [ inl x ↦ l b x | inr x ↦ h b x ]
least_join A B C None (Some m) ac bc cab l h =
    (bc m h.0, λ b c. elim (cab b c) [ inl x ↦ absurd (l b x) | inr x ↦ let e = h.1 b x in omega arith ])
least_join A B C (Some m) None ac bc cab l h =
    (ac m l.0, λ b c. elim (cab b c) [ inl x ↦ l.1 b x | inr x ↦ absurd (h b x) ])
least_join A B C (Some m) (Some n) ac bc cab l h = by_order (leb m n) refl
  where
    by_order : (t : Bool) → leb m n ≡ t → IsLeast C (cond t (Some m) (Some n))
    by_order true e = (
      ac m l.0,
      λ b c. elim (cab b c) [
        | inl x ↦ l.1 b x
        | inr x ↦ let k = h.1 b x in grind (arith, nat_tests)
      ],
    )
    by_order false e = (
      bc n h.0,
      λ b c. elim (cab b c) [
        | inl x ↦ let k = l.1 b x in grind (arith, nat_tests)
        | inr x ↦ let k = h.1 b x in omega arith
      ],
    )

-- one more address
pub least_next : (i : ImageData) (noted : ℕ → Option ℕ) (n : ℕ) (o p : Option ℕ) → IsLeast (SharesBelow i noted n) o
    → IsOnly (SharesAt i noted n) p → IsLeast (SharesBelow i noted (n + 1)) (lesser o p)
least_next i noted n o p l h = least_join (SharesBelow i noted n) (SharesAt i noted n) (SharesBelow i noted (n + 1)) o p
    (λ b s. record { place = s.place; below = omega arith; shares = s.shares })
    (λ b s. record { place = n; below = omega arith; shares = s })
    (λ b s. elim (cases_eq s.place n) [
      | inl e ↦ inr (subst (λ y. SharesAt i noted y b) e s.shares)
      | inr x ↦ inl (record { place = s.place; below = omega (arith, s.below); shares = s.shares })
    ])
    l h

-- the same property in another form
pub least_same : (A B : ℕ → Type 0) (o : Option ℕ) → ((b : ℕ) → A b → B b) → ((b : ℕ) → B b → A b) → IsLeast A o
    → IsLeast B o
least_same A B None ab ba l = λ b x. l b (ba b x)
least_same A B (Some m) ab ba l = (ab m l.0, λ b x. l.1 b (ba b x))

-- an address with a birth is below the bound
birth_below : (i : ImageData) (a b : ℕ) → 0 < i.words → IsBirthAt i a b → a < space i
birth_below i a b w h = by_object (object_at i a) refl h
  where
    by_object : (o : Option Object) → object_at i a ≡ o → option_map (λ x. x.birth) o ≡ Some b → a < space i
    by_object None e h = absurd (none-some b h)
    by_object (Some x) e h = object_below i a x w e

-- shared births are those of twins
pub least_twins_from : (i : ImageData) (noted : ℕ → Option ℕ) (spots : List Spot) (o : Option ℕ) → 0 < i.words
    → TellsReached i spots → TellsBirths i (length spots) noted → IsLeast (SharesBelow i noted (length spots)) o
    → IsLeast (HasTwins i) o
least_twins_from i noted spots o w t n l = least_same (SharesBelow i noted (length spots)) (HasTwins i) o forth back l
  where
    forth : (b : ℕ) → SharesBelow i noted (length spots) b → HasTwins i b
    forth b s = record {
      first = s.shares.address;
      second = s.place;
      twins = record {
        apart = s.shares.apart;
        reached = n.reached b s.shares.address s.shares.is_noted;
        other = s.shares.other;
        first = n.births b s.shares.address s.shares.is_noted;
        second = s.shares.birth;
      };
    }

    inside : (a b : ℕ) → IsBirthAt i a b → a < length spots
    inside a b h = rw t.sized (birth_below i a b w h)

    back : (b : ℕ) → HasTwins i b → SharesBelow i noted (length spots) b
    back b h =
        let x = n.all h.first b (inside h.first b h.twins.first) h.twins.reached h.twins.first in
        elim (cases_eq x.0 h.second) [
          | inl e ↦ record {
            place = h.first;
            below = inside h.first b h.twins.first;
            shares = record {
              other = inl h.twins.reached;
              birth = h.twins.first;
              address = x.0;
              is_noted = x.1;
              apart = λ k. h.twins.apart (sym k ∙ e);
            };
          }
          | inr d ↦ record {
            place = h.second;
            below = inside h.second b h.twins.second;
            shares = record {
              other = h.twins.other;
              birth = h.twins.second;
              address = x.0;
              is_noted = x.1;
              apart = d;
            };
          }
        ]

-- The invariant of a walk, from visit to visit.
use Rattle.std.proofs.Common.{◌≡◌, ◌≢◌, ◌<◌, ◌≤◌, ◌⊎◌, inl, inr, ℕ, ◌+◌, List, [], ◌∷◌, ◌++◌, length, Option, Some}
use Rattle.std.proofs.Common.{None, sym, ap, ◌∙◌, arith}
use Rattle.std.specs.List.{Contains}
use Rattle.std.proofs.lemmas.List.{get_or_past}
use Rattle.std.proofs.lemmas.List.Elements.{Contains-push, Contains-push_cases, Contains-append_left}
use Rattle.std.proofs.lemmas.Bool.{cases_eq, cases_lt}
use Rattle.std.proofs.lemmas.Grind.{common_steps}
use Rattle.std.proofs.lemmas.Option.{same_Some, none-some}
use Rattle.verify.specs.declared.objects.Object.{Object}
use Rattle.verify.specs.declared.spots.Spot.{Spot}
use Rattle.verify.specs.declared.spots.Spot.TheVariants.{Empty, Unseen, Reached}
use Rattle.verify.specs.Images.{ImageData, object_at, field}
use Rattle.verify.specs.Soundness.{IsReached}
use Rattle.verify.specs.Walks.{WalkData, IsMet, IsWalk, IsWalkAt, spot_at, first_spot, with_visit, looks_left}
use Rattle.verify.specs.Walks.{target, space}
use Rattle.verify.proofs.Leading.{target_reached, target_below, target_object, no_target, object_below}
use Rattle.verify.proofs.Visiting.{visited_met, visited_keeps, visited_cases, visited_filled, visited_waiting}
use Rattle.verify.proofs.Visiting.{visited_waits, visited_new, visited_length}

-- a walk at a field that leads to an address, after the visit of that address
pub walk_visited : (i : ImageData) (b n c : ℕ) (w : WalkData) → 0 < i.words → IsWalkAt i b n w → target i b n ≡ Some c
    → IsWalkAt i b (n + 1) (with_visit w c)
walk_visited i b n c w p h t =
    let l : c < length w.spots = rw h.sized (target_below i b n c p t) in
    let r = target_reached i b n c h.here t in
    let x = target_object i b n c t in
    let f = h.objects c x.0 x.1 in
    record {
      sized = visited_length w c ∙ h.sized;
      objects = λ a o e. visited_filled w c a l (h.objects a o e);
      here = h.here;
      reached = λ a m. elim (visited_cases w c a m) [ inl k ↦ h.reached a k | inr e ↦ rw e r ];
      met = λ a m. elim (visited_waiting w c a m) [
        | inl k ↦ visited_keeps w c l a (h.met a k)
        | inr e ↦ rw e (visited_met w c l)
      ];
      closed = λ a k d m s. elim (visited_cases w c a m) [
        | inl x ↦ elim (h.closed a k d x s) [
          | inl y ↦ inl (elim y [ inl z ↦ inl (visited_waits w c a z) | inr z ↦ inr (visited_keeps w c l d z) ])
          | inr y ↦ by_field a k d s y.0 y.1
        ]
        | inr e ↦ elim (visited_new w c f) [
          | inl x ↦ elim (h.closed a k d (rw e x) s) [
            | inl y ↦ inl (elim y [ inl z ↦ inl (visited_waits w c a z) | inr z ↦ inr (visited_keeps w c l d z) ])
            | inr y ↦ by_field a k d s y.0 y.1
          ]
          | inr x ↦ inl (inl (rw e x))
        ]
      ];
    }
  where
    by_field : (a k d : ℕ) → target i a k ≡ Some d → a ≡ b → n ≤ k
        → (Contains (with_visit w c).waiting a ⊎ IsMet (with_visit w c) d) ⊎ ((a ≡ b) × (n + 1 ≤ k))
    by_field a k d s e q = elim (cases_eq k n) [
      | inl x ↦
          let same = same_Some d c (sym s ∙ ap (λ y. target i y k) e ∙ ap (target i b) x ∙ t) in
          inl (inr (rw same (visited_met w c (rw h.sized (target_below i b n c p t)))))
      | inr x ↦ inr (e, omega arith)
    ]

-- a walk at a field that leads nowhere
pub walk_passed : (i : ImageData) (b n : ℕ) (w : WalkData) → IsWalkAt i b n w → target i b n ≡ None
    → IsWalkAt i b (n + 1) w
walk_passed i b n w h t = record {
  sized = h.sized;
  objects = h.objects;
  here = h.here;
  reached = h.reached;
  met = h.met;
  closed = λ a k d m s. elim (h.closed a k d m s) [ inl x ↦ inl x | inr y ↦ by_field a k d s y.0 y.1 ];
}
  where
    by_field : (a k d : ℕ) → target i a k ≡ Some d → a ≡ b → n ≤ k
        → (Contains w.waiting a ⊎ IsMet w d) ⊎ ((a ≡ b) × (n + 1 ≤ k))
    by_field a k d s e q = elim (cases_eq k n) [
      | inl x ↦ absurd (none-some d (sym t ∙ ap (target i b) (sym x) ∙ ap (λ y. target i y k) (sym e) ∙ s))
      | inr x ↦ inr (e, omega arith)
    ]

-- a walk past the last field
pub walk_done : (i : ImageData) (b n : ℕ) (w : WalkData) → IsWalkAt i b n w → ((k : ℕ) → n ≤ k → target i b k ≡ None)
    → IsWalk i w
walk_done i b n w h t = record {
  sized = h.sized;
  objects = h.objects;
  reached = h.reached;
  met = h.met;
  closed = λ a k d m s. elim (h.closed a k d m s) [
    | inl x ↦ x
    | inr y ↦ absurd (none-some d (sym (t k y.1) ∙ ap (λ z. target i z k) (sym y.0) ∙ s))
  ];
}

-- the same, in terms of the fields
pub walk_past : (i j : ImageData) (b n m : ℕ) (w : WalkData) → j ≡ i → IsWalkAt i b n w → m ≤ n
    → ((k : ℕ) → m ≤ k → field j b k ≡ None) → IsWalk i w
walk_past i j b n m w e h l t =
    walk_done i b n w h (λ k g. no_target i b k (ap (λ x. field x b k) (sym e) ∙ t k (omega arith)))

-- a walk that takes the last address that waits
pub walk_begun : (i : ImageData) (b : ℕ) (v w : WalkData) → IsWalk i v → w.spots ≡ v.spots
    → v.waiting ≡ w.waiting ++ b ∷ [] → IsWalkAt i b 0 w
walk_begun i b v w h same split = record {
  sized = ap length same ∙ h.sized;
  objects = λ a o e m. h.objects a o e (ap (λ ms. spot_at ms a) (sym same) ∙ m);
  here = h.reached b (h.met b (rw split (Contains-push w.waiting b)));
  reached = λ a m. h.reached a (back a m);
  met = λ a m. forth a (h.met a (rw split (Contains-append_left w.waiting (b ∷ []) a m)));
  closed = λ a k d m s. elim (h.closed a k d (back a m) s) [
    | inl x ↦ elim (Contains-push_cases w.waiting b a (rw split at x)) [
      | inl y ↦ inl (inl y)
      | inr e ↦ inr (sym e, omega arith)
    ]
    | inr x ↦ inl (inr (forth d x))
  ];
}
  where
    back : (a : ℕ) → IsMet w a → IsMet v a
    back a m = ap (λ ms. spot_at ms a) (sym same) ∙ m

    forth : (a : ℕ) → IsMet v a → IsMet w a
    forth a m = ap (λ ms. spot_at ms a) same ∙ m

-- then one less object is left to be scanned
pub begun_left : (b : ℕ) (v w : WalkData) → w.spots ≡ v.spots → v.waiting ≡ w.waiting ++ b ∷ []
    → looks_left w + 1 ≡ looks_left v
begun_left b v w same split = rw (same, split) (grind (arith, common_steps))

-- the address to which a field leads has a start bit
pub target_bit : (i : ImageData) (b n c : ℕ) (w : WalkData) → 0 < i.words → IsWalkAt i b n w → target i b n ≡ Some c
    → c < length w.spots
target_bit i b n c w p h t = rw h.sized (target_below i b n c p t)

-- and an object starts there
pub target_filled : (i : ImageData) (b n c : ℕ) (w : WalkData) → IsWalkAt i b n w → target i b n ≡ Some c
    → spot_at w.spots c ≢ Empty
target_filled i b n c w h t = let x = target_object i b n c t in h.objects c x.0 x.1

-- a walk after the visit of a reached address
pub walk_met : (i : ImageData) (c : ℕ) (x : Object) (w : WalkData) → IsWalk i w → IsReached i c → object_at i c ≡ Some x
    → c < length w.spots → IsWalk i (with_visit w c)
walk_met i c x w h r y l = record {
  sized = visited_length w c ∙ h.sized;
  objects = λ a o e. visited_filled w c a l (h.objects a o e);
  reached = λ a m. elim (visited_cases w c a m) [ inl k ↦ h.reached a k | inr e ↦ rw e r ];
  met = λ a m. elim (visited_waiting w c a m) [
    | inl k ↦ visited_keeps w c l a (h.met a k)
    | inr e ↦ rw e (visited_met w c l)
  ];
  closed = λ a k d m s. elim (visited_cases w c a m) [
    | inl x ↦ kept a d (h.closed a k d x s)
    | inr e ↦ elim (visited_new w c (h.objects c x y)) [
      | inl z ↦ kept a d (h.closed a k d (rw e z) s)
      | inr z ↦ inl (rw e z)
    ]
  ];
}
  where
    kept : (a d : ℕ) → Contains w.waiting a ⊎ IsMet w d → Contains (with_visit w c).waiting a ⊎ IsMet (with_visit w c) d
    kept a d x = elim x [ inl z ↦ inl (visited_waits w c a z) | inr z ↦ inr (visited_keeps w c l d z) ]

-- a walk that has met nothing
pub walk_new : (i : ImageData) (spots : List Spot) → 0 < i.words → length spots ≡ space i
    → ((a : ℕ) → a < space i → spot_at spots a ≡ first_spot (object_at i a))
    → IsWalk i (record { spots = spots; waiting = [] })
walk_new i spots w l h = record {
  sized = l;
  objects = λ a o e m. apart (sym (h a (object_below i a o w e) ∙ ap first_spot e) ∙ m);
  reached = λ a m. absurd (nowhere a m);
  met = λ a m. absurd (none_waits a m);
  closed = λ a k c m t. absurd (nowhere a m);
}
  where
    apart : Unseen ≡ Empty → ⊥
    apart e = absurd (cc e)

    past : Empty ≡ Reached → ⊥
    past e = absurd (cc e)

    unmet : (o : Option Object) → first_spot o ≡ Reached → ⊥
    unmet None e = absurd (cc e)
    unmet (Some x) e = absurd (cc e)

    nowhere : (a : ℕ) → spot_at spots a ≡ Reached → ⊥
    nowhere a m = elim (cases_lt a (space i)) [
      | inl b ↦ unmet (object_at i a) (sym (h a b) ∙ m)
      | inr b ↦ past (sym (get_or_past spots a Empty (rw l b)) ∙ m)
    ]

    none_waits : (a : ℕ) → Contains [] a → ⊥
    none_waits a x = omega (arith, x.1)

-- What is noted of runs whose objects are copied.
use Rattle.std.proofs.Common.{◌≡◌, ◌≢◌, ℕ, zero, suc, ◌+◌, ◌-◌, ◌<◌, ◌≤◌, ◌||◌, Bool, true, false, cond}
use Rattle.std.proofs.Common.{List, [], ◌∷◌, map, get_or, Option, Some, None}
use Rattle.std.proofs.Common.{refl, sym, ◌∙◌, ap, arith, ne_eqb}
use Rattle.std.specs.List.{slice_get}
use Rattle.std.proofs.lemmas.Option.{same_Some}
use Rattle.model.specs.declared.records.Forwarding.{Forwarding}
use Rattle.model.specs.Holding.{AreRising}
use Rattle.model.specs.States.{change_at, change_found}
use Rattle.model.specs.Bits.{of_page, with_bit}
use Rattle.model.specs.Moves.{set_copied_of}
use Rattle.model.proofs.Plans.{rising_within}
use Rattle.forward.specs.Noting.{place_to_copy, noted_sides, noted_range}
use Rattle.page_rows.specs.Runs.{notes, noted_from, noted_starts, started_from}

-- what is noted

-- where an object starts, by where the object of its entry goes
pub started : (words : ℕ) (starts : List (List Bool)) (o : Option Forwarding) (to : ℕ) → Some to ≡ place_to_copy o
    → with_bit starts words to true ≡ noted_starts words o starts
started words starts None to e = absurd (cc)
started words starts (Some f) to e = by_copied f.copied e
  where
    by_copied : (b : Bool) → Some to ≡ cond b None (Some f.to)
        → with_bit starts words to true ≡ cond b starts (with_bit starts words f.to true)
    by_copied true z = absurd (cc)
    by_copied false z = ap (λ a. with_bit starts words a true) (same_Some _ _ z)

pub none_started : (words : ℕ) (starts : List (List Bool)) (o : Option Forwarding) → None ≡ place_to_copy o
    → starts ≡ noted_starts words o starts
none_started words starts None e = refl
none_started words starts (Some f) e = by_copied f.copied e
  where
    by_copied : (b : Bool) → None ≡ cond b None (Some f.to)
        → starts ≡ cond b starts (with_bit starts words f.to true)
    by_copied true z = refl
    by_copied false z = absurd (cc)

pub started_more : (words e d k m : ℕ) (side : List Forwarding) (starts : List (List Bool)) → k ≡ suc m → d ≡ e + 1
    → started_from words side e k starts
    ≡ started_from words side d m (noted_starts words (slice_get side e) starts)
started_more words e d k m side starts a b = ap (λ j. started_from words side e j starts) a
    ∙ ap (λ j. started_from words side j m (noted_starts words (slice_get side e) starts)) (sym b)

-- none start, where a page has no entries
pub none_start : (words e k : ℕ) (starts : List (List Bool)) → starts ≡ started_from words [] e k starts
none_start words e zero starts = refl
none_start words e (suc k) starts = none_start words (e + 1) k starts

-- the entries after the one that is noted stay

or_false : (b : Bool) → b || false ≡ b
or_false true = refl
or_false false = refl

elsewhere : (o : ℕ) (f : Forwarding) → f.offset ≢ o → set_copied_of o f ≡ f
elsewhere o f d = ap (λ b. record f { copied = b }) (ap (λ b. f.copied || b) (ne_eqb f.offset o d) ∙ or_false f.copied)

mapped_elsewhere : (o : ℕ) (fs : List Forwarding) (i : ℕ)
    → ((f : Forwarding) → slice_get fs i ≡ Some f → f.offset ≢ o)
    → slice_get (map (set_copied_of o) fs) i ≡ slice_get fs i
mapped_elsewhere o [] i d = refl
mapped_elsewhere o (f ∷ fs) zero d = ap Some (elsewhere o f (d f refl))
mapped_elsewhere o (f ∷ fs) (suc i) d = mapped_elsewhere o fs i d

rises : (w low : ℕ) (fs : List Forwarding) (e i : ℕ) (f g : Forwarding) → AreRising w low fs → slice_get fs e ≡ Some f
    → slice_get fs i ≡ Some g → e < i → f.offset < g.offset
rises w low [] e i f g r a b l = absurd (cc)
rises w low (x ∷ fs) e zero f g r a b l = absurd (omega (arith, l))
rises w low (x ∷ fs) zero (suc i) f g r a b l =
    let same : x.offset ≡ f.offset = ap (λ (y : Forwarding). y.offset) (same_Some _ _ a) in
    omega (arith, same, (rising_within w (x.offset + 1) fs i g r.2 b).0)
rises w low (x ∷ fs) (suc e) (suc i) f g r a b l = rises w (x.offset + 1) fs e i f g r.2 a b (omega (arith, l))

set_read : {X : Type 0} (xs : List (List X)) (i : ℕ) (f : List X → List X) → f [] ≡ []
    → get_or (change_at xs i f) i [] ≡ f (get_or xs i [])
set_read [] i f e = sym e
set_read (x ∷ xs) zero f e = refl
set_read {X = X} (x ∷ xs) (suc i) f e = by_found (slice_get xs i) (set_read xs i f e)
  where
    by_found : (o : Option (List X)) → get_or (change_found xs i o f) i [] ≡ f (get_or xs i [])
        → get_or (change_found (x ∷ xs) (suc i) o f) (suc i) [] ≡ f (get_or xs i [])
    by_found None k = k
    by_found (Some y) k = k

pub later_stay : (sides : List (List Forwarding)) (n : ℕ) (w : ℕ) (side : List Forwarding) (e : ℕ) (o : Option Forwarding)
    → AreRising w 0 side → slice_get side e ≡ o
    → ((i : ℕ) → e ≤ i → slice_get (of_page sides n) i ≡ slice_get side i)
    → (i : ℕ) → e + 1 ≤ i → slice_get (of_page (noted_sides n o sides) n) i ≡ slice_get side i
later_stay sides n w side e None r a agree i l = agree i (omega (arith, l))
later_stay sides zero w side e (Some f) r a agree i l = absurd (none_there (agree e (omega arith) ∙ a))
  where
    none_there : None ≡ Some f → ⊥
    none_there z = cc
later_stay sides (suc n) w side e (Some f) r a agree i l = by_copied f.copied
  where
    j : e ≤ i
    j = omega (arith, l)

    far : (g : Forwarding) → slice_get (of_page sides (suc n)) i ≡ Some g → g.offset ≢ f.offset
    far g at same = let b = rises w 0 side e i f g r a (sym (agree i j) ∙ at) (omega (arith, l)) in
        absurd (omega (arith, b, same))

    one : (suc n) - 1 ≡ n
    one = omega arith

    by_copied : (b : Bool)
        → slice_get (of_page (cond b sides (change_at sides (suc n - 1) (map (set_copied_of f.offset)))) (suc n)) i
        ≡ slice_get side i
    by_copied true = agree i j
    by_copied false = ap (λ m. slice_get (get_or (change_at sides m (map (set_copied_of f.offset))) n []) i) one
        ∙ ap (λ (fs : List Forwarding). slice_get fs i) (set_read sides n (map (set_copied_of f.offset)) refl)
        ∙ mapped_elsewhere f.offset (of_page sides (suc n)) i far ∙ agree i j

-- where the copies start is noted first, and then that the objects are copied
pub noted_each : (words w n e k : ℕ) (side : List Forwarding) (starts : List (List Bool)) (sides : List (List Forwarding))
    → AreRising w 0 side → ((i : ℕ) → e ≤ i → slice_get (of_page sides n) i ≡ slice_get side i)
    → notes (started_from words side e k starts) (noted_range n e k sides)
    ≡ noted_from words n e k (notes starts sides)
noted_each words w n e zero side starts sides r agree = refl
noted_each words w n e (suc k) side starts sides r agree =
    let here = agree e (omega arith) in
    ap (λ o. notes (started_from words side (e + 1) k (noted_starts words o starts))
    (noted_range n (e + 1) k (noted_sides n (slice_get (of_page sides n) e) sides))) (sym here)
    ∙ noted_each words w n (e + 1) k side (noted_starts words (slice_get (of_page sides n) e) starts)
    (noted_sides n (slice_get (of_page sides n) e) sides) r
    (later_stay sides n w side e (slice_get (of_page sides n) e) r (sym here) agree)

pub noted_both : (words w n e k : ℕ) (starts now : List (List Bool)) (sides after : List (List Forwarding))
    → AreRising w 0 (of_page sides n) → now ≡ started_from words (of_page sides n) e k starts
    → after ≡ noted_range n e k sides → notes now after ≡ noted_from words n e k (notes starts sides)
noted_both words w n e k starts now sides after r a b =
    (λ z. notes (a z) (b z)) ∙ noted_each words w n e k (of_page sides n) starts sides r (λ i l. refl)

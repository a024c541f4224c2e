-- Elements of a list that are put into slots, and taken out of them, by the indexes of pages.
use Rattle.std.proofs.Common.{◌≡◌, ◌≢◌, ℕ, ◌+◌, ◌≤◌, List, [], ◌∷◌, ◌++◌, length, get_or, set}
use Rattle.std.proofs.Common.{Option, None, Some, refl, sym, ◌∙◌, ap, arith, true, false}
use Rattle.std.proofs.lemmas.List.{get_or-set_other, set_comm, set-set}
use Rattle.std.proofs.Math.ListN.{length-set}

-- which slot of a list the element of an index has, if any; no two have one
abbrev pub Slots : Type 0
Slots = ℕ → Option ℕ

abbrev pub AreOwn : Slots → Type 0
AreOwn s = (i j f : ℕ) → s i ≡ Some f → s j ≡ Some f → i ≡ j

abbrev pub put_in : {X : Type 0} → List X → Option ℕ → X → List X
put_in xs None v = xs
put_in xs (Some f) v = set xs f v

abbrev pub get_in : {X : Type 0} → List X → Option ℕ → X → X
get_in xs None d = d
get_in xs (Some f) d = get_or xs f d

-- elements with their indexes are put into their slots, one after another
abbrev pub puts : {X : Type 0} → Slots → List X → List (ℕ × X) → List X
puts s xs [] = xs
puts s xs (v ∷ vs) = puts s (put_in xs (s v.0) v.1) vs

-- what is in their slots, or themselves
abbrev pub gets : {X : Type 0} → Slots → List X → List (ℕ × X) → List X
gets s xs [] = []
gets s xs (v ∷ vs) = get_in xs (s v.0) v.1 ∷ gets s xs vs

-- the elements are swapped with what is in their slots, one after another
abbrev pub SwapsIn : {X : Type 0} → Slots → List X → List (ℕ × X) → List X → List X → Type 0
SwapsIn s xs [] ys [] = ys ≡ xs
SwapsIn s xs [] ys (w ∷ ws) = true ≡ false
SwapsIn s xs (v ∷ vs) ys [] = true ≡ false
SwapsIn s xs (v ∷ vs) ys (w ∷ ws) =
    (w ≡ get_in xs (s v.0) v.1) × SwapsIn s (put_in xs (s v.0) v.1) vs ys ws

-- indexes rise from a lowest one on
abbrev pub AreRising : {X : Type 0} → ℕ → List (ℕ × X) → Type 0
AreRising low [] = Unit {0}
AreRising low (v ∷ vs) = (low ≤ v.0) × AreRising (v.0 + 1) vs

-- two lists have the same indexes
abbrev pub AreAlike : {X : Type 0} → List (ℕ × X) → List (ℕ × X) → Type 0
AreAlike [] [] = Unit {0}
AreAlike [] (w ∷ ws) = true ≡ false
AreAlike (v ∷ vs) [] = true ≡ false
AreAlike (v ∷ vs) (w ∷ ws) = (v.0 ≡ w.0) × AreAlike vs ws

-- ---- one element

put_comm : {X : Type 0} (s : Slots) (xs : List X) (i j : ℕ) (v w : X) → AreOwn s → i ≢ j
    → put_in (put_in xs (s i) v) (s j) w ≡ put_in (put_in xs (s j) w) (s i) v
put_comm {X} s xs i j v w own d = by_slots (s i) (s j) refl refl
  where
    by_slots : (o p : Option ℕ) → s i ≡ o → s j ≡ p → put_in (put_in xs o v) p w ≡ put_in (put_in xs p w) o v
    by_slots None p e q = refl
    by_slots (Some f) None e q = refl
    by_slots (Some f) (Some g) e q = set_comm xs f g v w (λ z. d (own i j f e (q ∙ ap Some (sym z))))

put_put : {X : Type 0} (xs : List X) (o : Option ℕ) (v w : X) → put_in (put_in xs o v) o w ≡ put_in xs o w
put_put xs None v w = refl
put_put xs (Some f) v w = set-set xs f v w

pub get_other : {X : Type 0} (s : Slots) (xs : List X) (i j : ℕ) (v d : X) → AreOwn s → i ≢ j
    → get_in (put_in xs (s i) v) (s j) d ≡ get_in xs (s j) d
get_other {X} s xs i j v d own n = by_slots (s i) (s j) refl refl
  where
    by_slots : (o p : Option ℕ) → s i ≡ o → s j ≡ p → get_in (put_in xs o v) p d ≡ get_in xs p d
    by_slots None p e q = refl
    by_slots (Some f) None e q = refl
    by_slots (Some f) (Some g) e q =
        get_or-set_other xs f g v d (λ z. n (own i j f e (q ∙ ap Some z)))

-- ---- several elements

pub swaps_puts : {X : Type 0} (s : Slots) (xs : List X) (vs : List (ℕ × X)) (ys ws : List X) → SwapsIn s xs vs ys ws
    → ys ≡ puts s xs vs
swaps_puts s xs [] ys [] k = k
swaps_puts s xs [] ys (w ∷ ws) k = absurd (cc)
swaps_puts s xs (v ∷ vs) ys [] k = absurd (cc)
swaps_puts s xs (v ∷ vs) ys (w ∷ ws) k = swaps_puts s (put_in xs (s v.0) v.1) vs ys ws k.1

pub rising_more : {X : Type 0} (m n : ℕ) (vs : List (ℕ × X)) → m ≤ n → AreRising n vs → AreRising m vs
rising_more m n [] l r = tt
rising_more m n (v ∷ vs) l r = (omega (arith, l, r.0), r.1)

gets_other : {X : Type 0} (s : Slots) (xs : List X) (i : ℕ) (v : X) (vs : List (ℕ × X)) → AreOwn s
    → AreRising (i + 1) vs → gets s (put_in xs (s i) v) vs ≡ gets s xs vs
gets_other s xs i v [] own r = refl
gets_other s xs i v (w ∷ ws) own r =
    let one = get_other s xs i w.0 v w.1 own (λ e. absurd (omega (arith, e, r.0))) in
    let rest = gets_other s xs i v ws own (rising_more (i + 1) (w.0 + 1) ws (omega (arith, r.0)) r.1) in
    λ k. one k ∷ rest k

pub swaps_gets : {X : Type 0} (s : Slots) (xs : List X) (low : ℕ) (vs : List (ℕ × X)) (ys ws : List X) → AreOwn s
    → AreRising low vs → SwapsIn s xs vs ys ws → ws ≡ gets s xs vs
swaps_gets s xs low [] ys [] own r k = refl
swaps_gets s xs low [] ys (w ∷ ws) own r k = absurd (cc)
swaps_gets s xs low (v ∷ vs) ys [] own r k = absurd (cc)
swaps_gets s xs low (v ∷ vs) ys (w ∷ ws) own r k =
    let rest = swaps_gets s (put_in xs (s v.0) v.1) (v.0 + 1) vs ys ws own r.1 k.1
    ∙ gets_other s xs v.0 v.1 vs own r.1 in
    λ j. k.0 j ∷ rest j

puts_comm : {X : Type 0} (s : Slots) (xs : List X) (i : ℕ) (v : X) (vs : List (ℕ × X)) → AreOwn s
    → AreRising (i + 1) vs → put_in (puts s xs vs) (s i) v ≡ puts s (put_in xs (s i) v) vs
puts_comm s xs i v [] own r = refl
puts_comm s xs i v (w ∷ ws) own r =
    puts_comm s (put_in xs (s w.0) w.1) i v ws own (rising_more (i + 1) (w.0 + 1) ws (omega (arith, r.0)) r.1)
    ∙ ap (λ us. puts s us ws) (put_comm s xs w.0 i w.1 v own (λ e. absurd (omega (arith, e, r.0))))

-- what is put in last is there
pub puts_over : {X : Type 0} (s : Slots) (xs : List X) (low : ℕ) (vs ws : List (ℕ × X)) → AreOwn s → AreRising low vs
    → AreAlike vs ws → puts s (puts s xs vs) ws ≡ puts s xs ws
puts_over s xs low [] [] own r a = refl
puts_over s xs low [] (w ∷ ws) own r a = absurd (cc)
puts_over s xs low (v ∷ vs) [] own r a = absurd (cc)
puts_over s xs low (v ∷ vs) (w ∷ ws) own r a =
    ap (λ us. puts s us ws)
    (ap (λ n. put_in (puts s (put_in xs (s v.0) v.1) vs) (s n) w.1) (sym a.0)
    ∙ puts_comm s (put_in xs (s v.0) v.1) v.0 w.1 vs own r.1
    ∙ ap (λ us. puts s us vs) (put_put xs (s v.0) v.1 w.1 ∙ ap (λ n. put_in xs (s n) w.1) a.0))
    ∙ puts_over s (put_in xs (s w.0) w.1) (v.0 + 1) vs ws own r.1 a.1

pub puts_both : {X : Type 0} (s : Slots) (xs : List X) (vs ws : List (ℕ × X)) → puts s (puts s xs vs) ws ≡ puts s xs (vs ++ ws)
puts_both s xs [] ws = refl
puts_both s xs (v ∷ vs) ws = puts_both s (put_in xs (s v.0) v.1) vs ws

-- ---- lengths

put_long : {X : Type 0} (xs : List X) (o : Option ℕ) (v : X) → length (put_in xs o v) ≡ length xs
put_long xs None v = refl
put_long xs (Some f) v = length-set xs f v

pub puts_long : {X : Type 0} (s : Slots) (xs : List X) (vs : List (ℕ × X)) → length (puts s xs vs) ≡ length xs
puts_long s xs [] = refl
puts_long s xs (v ∷ vs) = puts_long s (put_in xs (s v.0) v.1) vs ∙ put_long xs (s v.0) v.1

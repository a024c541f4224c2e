-- Numbers that were seen are noted in a bitmap.
use Rattle.std.proofs.Common.{◌≡◌, ◌≢◌, ℕ, zero, suc, ◌+◌, ◌<◌, ◌||◌, Bool, true, false, List, [], ◌∷◌, length}
use Rattle.std.proofs.Common.{drop, replicate, get_or, set, refl, sym, ◌∙◌, ap, ap₂, arith, inl, inr, ◌⊎◌}
use Rattle.std.specs.Prelude.{◌==◌}
use Rattle.std.specs.List.{list_any}
use Rattle.std.proofs.lemmas.Bool.{eq-eqb, ne_eqb}
use Rattle.std.proofs.lemmas.List.{get_or-set_same, get_or-set_other, drop_more}
use Rattle.model.specs.Bits.{put_bit}
use Rattle.model.specs.Protections.{has_twice}

-- a number was seen
abbrev pub is_seen : List Bool → ℕ → Bool
is_seen seen n = get_or seen n false

-- one of these was seen, or is there twice
abbrev pub repeats : List Bool → List ℕ → Bool
repeats seen ns = list_any (is_seen seen) ns || has_twice ns

-- none was
none_seen : (k : ℕ) (ns : List ℕ) → list_any (is_seen (replicate k false)) ns ≡ false
none_seen k [] = refl
none_seen k (n ∷ ns) = ap₂ (λ a b. a || b) (blank k n) (none_seen k ns)
  where
    blank : (k n : ℕ) → get_or (replicate k false) n false ≡ false
    blank zero n = refl
    blank (suc k) zero = refl
    blank (suc k) (suc n) = blank k n

pub seen_first : (seen : List Bool) (k : ℕ) (ns : List ℕ) → seen ≡ replicate k false → has_twice ns ≡ repeats seen ns
seen_first seen k ns blank =
    ap (λ b. b || has_twice ns) (sym (ap (λ row. list_any (is_seen row) ns) blank ∙ none_seen k ns))

-- the first of these was
pub seen_again : (seen : List Bool) (i : ℕ) (ns : List ℕ) → i < length ns → is_seen seen (get_or ns i 0) ≡ true
    → repeats seen (drop i ns) ≡ true
seen_again seen i ns within is = ap (repeats seen) (drop_more ns i 0 within)
    ∙ ap (λ b. (b || list_any (is_seen seen) (drop (i + 1) ns)) || has_twice (get_or ns i 0 ∷ drop (i + 1) ns)) is

-- one more is noted
paired : (a b c d : Bool) → ((a || b) || (c || d)) ≡ ((a || c) || (b || d))
paired true b true d = refl
paired true b false d = refl
paired false true true d = refl
paired false true false d = refl
paired false false c d = refl

noted : (seen : List Bool) (n m : ℕ) → n < length seen → is_seen (put_bit n true seen) m ≡ (is_seen seen m || (m == n))
noted seen n m within = by_case (same_or_not m n)
  where
    same_or_not : (m n : ℕ) → (m ≡ n) ⊎ (m ≢ n)
    same_or_not zero zero = inl refl
    same_or_not zero (suc n) = inr (λ e. omega (arith, e))
    same_or_not (suc m) zero = inr (λ e. omega (arith, e))
    same_or_not (suc m) (suc n) = elim (same_or_not m n) [
      | inl e ↦ inl (ap suc e)
      | inr d ↦ inr (λ e. d (omega (arith, e)))
    ]

    always : (b : Bool) → true ≡ (b || true)
    always true = refl
    always false = refl

    never : (b : Bool) → b ≡ (b || false)
    never true = refl
    never false = refl

    by_case : (m ≡ n) ⊎ (m ≢ n) → is_seen (put_bit n true seen) m ≡ (is_seen seen m || (m == n))
    by_case (inl e) = ap (λ k. get_or (set seen n true) k false) e ∙ get_or-set_same seen n true false within
        ∙ always (is_seen seen m) ∙ ap (λ b. is_seen seen m || b) (sym (eq-eqb m n e))
    by_case (inr d) = get_or-set_other seen n m true false d ∙ never (is_seen seen m)
        ∙ ap (λ b. is_seen seen m || b) (sym (ne_eqb m n d))

noted_all : (seen : List Bool) (n : ℕ) (ns : List ℕ) → n < length seen
    → list_any (is_seen (put_bit n true seen)) ns ≡ (list_any (is_seen seen) ns || list_any (λ m. m == n) ns)
noted_all seen n [] within = refl
noted_all seen n (m ∷ ms) within =
    ap₂ (λ a b. a || b) (noted seen n m within) (noted_all seen n ms within)
    ∙ paired (is_seen seen m) (m == n) (list_any (is_seen seen) ms) (list_any (λ k. k == n) ms)

pub seen_next : (seen new : List Bool) (i n : ℕ) (ns : List ℕ) → i < length ns → n ≡ get_or ns i 0 → n < length seen
    → is_seen seen n ≡ false → new ≡ put_bit n true seen → repeats seen (drop i ns) ≡ repeats new (drop (i + 1) ns)
seen_next seen new i n ns inside is within fresh put =
    ap (repeats seen) (drop_more ns i 0 inside ∙ ap (λ k. k ∷ drop (i + 1) ns) (sym is))
    ∙ ap (λ b. (b || list_any (is_seen seen) rest) || (list_any (λ m. m == n) rest || has_twice rest)) fresh
    ∙ joined (list_any (is_seen seen) rest) (list_any (λ m. m == n) rest) (has_twice rest)
    ∙ ap (λ b. b || has_twice rest) (sym (noted_all seen n rest within))
    ∙ ap (λ row. repeats row rest) (sym put)
  where
    rest : List ℕ
    rest = drop (i + 1) ns

    joined : (a b c : Bool) → (a || (b || c)) ≡ ((a || b) || c)
    joined true b c = refl
    joined false b c = refl

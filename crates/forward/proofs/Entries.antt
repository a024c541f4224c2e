-- Entries whose offsets rise: one is found by its offset, and noted as copied.
use Rattle.std.proofs.Common.{◌≡◌, ◌≢◌, ℕ, zero, suc, ◌+◌, ◌<◌, ◌≤◌, Bool, true, false, cond}
use Rattle.std.proofs.Common.{List, [], ◌∷◌, length, Some, None}
use Rattle.std.proofs.Common.{refl, sym, ◌∙◌, ap, arith, eq-eqb, ne_eqb}
use Rattle.std.specs.List.{slice_get}
use Rattle.std.specs.Prelude.{◌==◌}
use Rattle.std.proofs.lemmas.Option.{same_Some}
use Rattle.model.specs.declared.limits.TheConstants.{MOST_WORDS}
use Rattle.model.specs.declared.records.Forwarding.{Forwarding}
use Rattle.model.specs.Holding.{AreRising}
use Rattle.model.specs.Owning.{Each}
use Rattle.model.specs.Marks.{entry_of}
use Rattle.model.proofs.Plans.{rising_within}

-- order

-- each entry lies after those before it
pub ascends : (w low : ℕ) (fs : List Forwarding) (i j : ℕ) (f g : Forwarding) → AreRising w low fs → i < j
    → slice_get fs i ≡ Some f → slice_get fs j ≡ Some g → f.offset < g.offset
ascends w low [] i j f g r l e k = absurd (cc)
ascends w low (x ∷ fs) i zero f g r l e k = absurd (omega (arith, l))
ascends w low (x ∷ fs) zero (suc j) f g r l e k =
    let is : x.offset ≡ f.offset = ap (λ (z : Forwarding). z.offset) (same_Some _ _ e) in
    omega (arith, is, (rising_within w (x.offset + 1) fs j g r.2 k).0)
ascends w low (x ∷ fs) (suc i) (suc j) f g r l e k =
    ascends w (x.offset + 1) fs i j f g r.2 (omega (arith, l)) e k

-- no more of them than words
pub no_more : (w low : ℕ) (fs : List Forwarding) → low ≤ w → AreRising w low fs → low + length fs ≤ w
no_more w low [] l r = omega (arith, l)
no_more w low (x ∷ fs) l r =
    omega (arith, r.0, no_more w (x.offset + 1) fs (omega (arith, r.1)) r.2)

pub few_entries : (fs : List Forwarding) → AreRising MOST_WORDS 0 fs → length fs ≤ MOST_WORDS
few_entries fs r = omega (arith, no_more MOST_WORDS 0 fs (omega arith) r)

-- what is found

pub entry_none : (fs : List Forwarding) (o : ℕ) → Each fs (λ f. f.offset ≢ o) → entry_of fs o ≡ None
entry_none [] o h = refl
entry_none (f ∷ fs) o h = by_test (f.offset == o) (ne_eqb f.offset o (h zero f refl))
    (entry_none fs o (λ i. h (suc i)))
  where
    by_test : (b : Bool) → b ≡ false → entry_of fs o ≡ None → cond b (Some f) (entry_of fs o) ≡ None
    by_test true e k = absurd (cc)
    by_test false e k = k

pub entry_here : (w low : ℕ) (fs : List Forwarding) (o i : ℕ) (f : Forwarding) → AreRising w low fs
    → slice_get fs i ≡ Some f → f.offset ≡ o → entry_of fs o ≡ Some f
entry_here w low [] o i f r e k = absurd (cc)
entry_here w low (x ∷ fs) o zero f r e k =
    let is : (x.offset == o) ≡ true = eq-eqb x.offset o (ap (λ (z : Forwarding). z.offset) (same_Some _ _ e) ∙ k) in
    ap (λ b. cond b (Some x) (entry_of fs o)) is ∙ e
entry_here w low (x ∷ fs) o (suc i) f r e k =
    let after = (rising_within w (x.offset + 1) fs i f r.2 e).0 in
    let is : (x.offset == o) ≡ false = ne_eqb x.offset o (λ z. omega (arith, z, k, after)) in
    ap (λ b. cond b (Some x) (entry_of fs o)) is ∙ entry_here w (x.offset + 1) fs o i f r.2 e k

-- the entry of a number, whose offset is the one that is sought
pub found_here : (fs : List Forwarding) (o i : ℕ) (f : Forwarding) → AreRising MOST_WORDS 0 fs
    → Some f ≡ slice_get fs i → f.offset ≡ o → entry_of fs o ≡ slice_get fs i
found_here fs o i f r e k = entry_here MOST_WORDS 0 fs o i f r (sym e) k ∙ e

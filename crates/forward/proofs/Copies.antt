-- Entries that are noted as copied, and how many are uncopied.
use Rattle.std.proofs.Common.{◌≡◌, ◌≢◌, ℕ, zero, suc, ◌+◌, Bool, true, false, not, cond, ◌||◌}
use Rattle.std.proofs.Common.{List, [], ◌∷◌, map, set, Some, None}
use Rattle.std.proofs.Common.{refl, sym, ◌∙◌, ap, ap₂, arith, eq-eqb, ne_eqb, inl, inr}
use Rattle.std.specs.List.{slice_get, list_any}
use Rattle.std.specs.Prelude.{◌==◌}
use Rattle.std.proofs.lemmas.List.Sums.{sum_by-cons}
use Rattle.std.proofs.lemmas.Option.{same_Some}
use Rattle.std.proofs.lemmas.Bool.{cases_eq}
use Rattle.model.specs.declared.records.Forwarding.{Forwarding}
use Rattle.model.specs.Holding.{AreRising}
use Rattle.model.specs.Owning.{Each}
use Rattle.model.specs.Marks.{entry_of}
use Rattle.model.specs.Cycles.{is_uncopied}
use Rattle.model.specs.Moves.{set_copied_of}
use Rattle.model.proofs.Lists.{as_number}
use Rattle.forward.specs.Counts.{uncopied_in}
use Rattle.model.proofs.Plans.{rising_within}

abbrev copied_one : Forwarding → Forwarding
copied_one f = record { offset = f.offset; to = f.to; copied = true }

-- one entry

-- an entry of another offset stays
other_stays : (o : ℕ) (f : Forwarding) → f.offset ≢ o → set_copied_of o f ≡ f
other_stays o f d = λ i. record {
  offset = f.offset;
  to = f.to;
  copied = (ap (λ b. f.copied || b) (ne_eqb f.offset o d) ∙ same f.copied) i;
}
  where
    same : (b : Bool) → (b || false) ≡ b
    same true = refl
    same false = refl

-- that of this offset is copied
this_copied : (o : ℕ) (f : Forwarding) → f.offset ≡ o → set_copied_of o f ≡ copied_one f
this_copied o f e = λ i. record {
  offset = f.offset;
  to = f.to;
  copied = (ap (λ b. f.copied || b) (eq-eqb f.offset o e) ∙ same f.copied) i;
}
  where
    same : (b : Bool) → (b || true) ≡ true
    same true = refl
    same false = refl

copied_already : (f : Forwarding) → f.copied ≡ true → copied_one f ≡ f
copied_already f e = λ i. record { offset = f.offset; to = f.to; copied = sym e i }

-- all entries

all_stay : (o : ℕ) (fs : List Forwarding) → Each fs (λ f. f.offset ≢ o) → fs ≡ map (set_copied_of o) fs
all_stay o [] h = refl
all_stay o (f ∷ fs) h =
    ap₂ (λ x xs. x ∷ xs) (sym (other_stays o f (h zero f refl))) (all_stay o fs (λ i. h (suc i)))

-- where no entry has an offset, none does
none_has : (o : ℕ) (fs : List Forwarding) → entry_of fs o ≡ None → Each fs (λ f. f.offset ≢ o)
none_has o [] e i f k same = absurd (cc)
none_has o (x ∷ fs) e i f k same =
    by_test (x.offset == o) refl e i k (λ rest j there. none_has o fs rest j f there same)
  where
    by_test : (b : Bool) → (x.offset == o) ≡ b → cond b (Some x) (entry_of fs o) ≡ None
        → (i : ℕ) → slice_get (x ∷ fs) i ≡ Some f
        → (entry_of fs o ≡ None → (j : ℕ) → slice_get fs j ≡ Some f → ⊥) → ⊥
    by_test true is e i k others = absurd (cc)
    by_test false is e zero k others =
        let there : (x.offset == o) ≡ true =
        eq-eqb x.offset o (ap (λ (z : Forwarding). z.offset) (same_Some _ _ k) ∙ same) in absurd (cc)
    by_test false is e (suc i) k others = others e i k

pub none_noted : (o : ℕ) (fs : List Forwarding) → entry_of fs o ≡ None → fs ≡ map (set_copied_of o) fs
none_noted o fs e = all_stay o fs (none_has o fs e)

-- one entry is changed, that of the offset
pub one_noted : (w low o i : ℕ) (fs : List Forwarding) (f : Forwarding) → AreRising w low fs
    → slice_get fs i ≡ Some f → f.offset ≡ o → set fs i (copied_one f) ≡ map (set_copied_of o) fs
one_noted w low o i [] f r e k = absurd (cc)
one_noted w low o zero (x ∷ fs) f r e k =
    let is : x ≡ f = same_Some _ _ e in
    ap₂ (λ y ys. y ∷ ys) (sym (this_copied o f k) ∙ ap (set_copied_of o) (sym is)) (all_stay o fs
    (λ j g there same. omega
    (arith, k, same, ap (λ (z : Forwarding). z.offset) is, (rising_within w (x.offset + 1) fs j g r.2 there).0)))
one_noted w low o (suc i) (x ∷ fs) f r e k =
    ap₂ (λ y ys. y ∷ ys)
    (sym (other_stays o x (λ same. omega (arith, k, same, (rising_within w (x.offset + 1) fs i f r.2 e).0))))
    (one_noted w (x.offset + 1) o i fs f r.2 e k)

-- offsets stay
pub still_rising : (w low o : ℕ) (fs : List Forwarding) → AreRising w low fs
    → AreRising w low (map (set_copied_of o) fs)
still_rising w low o [] r = tt
still_rising w low o (f ∷ fs) r = (r.0, r.1, still_rising w (f.offset + 1) o fs r.2)

-- the entry of an offset has it
pub entry_has : (o : ℕ) (fs : List Forwarding) (f : Forwarding) → entry_of fs o ≡ Some f → f.offset ≡ o
entry_has o [] f e = absurd (cc)
entry_has o (x ∷ fs) f e = elim (cases_eq x.offset o) [
  | inl same ↦ (let here : Some x ≡ Some f =
      ap (λ b. cond b (Some x) (entry_of fs o)) (sym (eq-eqb x.offset o same)) ∙ e in
      ap (λ (z : Forwarding). z.offset) (sym (same_Some _ _ here)) ∙ same)
  | inr d ↦ entry_has o fs f (ap (λ b. cond b (Some x) (entry_of fs o)) (sym (ne_eqb x.offset o d)) ∙ e)
]

-- counts

-- nothing is left where each entry is copied
pub none_left : (fs : List Forwarding) → (uncopied_in fs == 0) ≡ not (list_any is_uncopied fs)
none_left [] = refl
none_left (f ∷ fs) = by_entry f.copied refl (none_left fs)
  where
    more : uncopied_in (f ∷ fs) ≡ as_number (is_uncopied f) + uncopied_in fs
    more = sum_by-cons (λ x. cond (is_uncopied x) 1 0) f fs

    by_entry : (b : Bool) → f.copied ≡ b → (uncopied_in fs == 0) ≡ not (list_any is_uncopied fs)
        → (uncopied_in (f ∷ fs) == 0) ≡ not (is_uncopied f || list_any is_uncopied fs)
    by_entry true e others =
        let none : as_number (is_uncopied f) ≡ 0 = ap (λ b. as_number (not b)) e in
        let same : uncopied_in (f ∷ fs) ≡ uncopied_in fs = omega (arith, more, none) in
        ap (λ n. n == 0) same ∙ others ∙ ap (λ b. not (not b || list_any is_uncopied fs)) (sym e)
    by_entry false e others =
        let one : as_number (is_uncopied f) ≡ 1 = ap (λ b. as_number (not b)) e in
        ne_eqb (uncopied_in (f ∷ fs)) 0 (λ z. omega (arith, more, one, z))
        ∙ ap (λ b. not (not b || list_any is_uncopied fs)) (sym e)

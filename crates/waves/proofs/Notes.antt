-- Notes that are taken in in another order.
use Rattle.std.proofs.Common.{◌≡◌, ◌≢◌, ◌⊎◌, inl, inr, ℕ, ◌/◌, ◌<◌, true, false, Bool}
use Rattle.std.proofs.Common.{List, [], ◌∷◌, ◌++◌, Some, None, refl, sym, ◌∙◌, ap, subst}
use Rattle.std.specs.Prelude.{if◌then◌else◌}
use Rattle.std.proofs.lemmas.Bool.{cases_eq, true≢false}
use Rattle.model.specs.Bits.{bit_at, with_bit}
use Rattle.model.specs.States.{Reference, HeapState}
use Rattle.waves.specs.Waves.{noted_in, all_noted_in, applied}
use Rattle.drains.proofs.Bits.{bits_two, bits_apart}
use Rattle.waves.specs.Parts.{AreSent, sent_to}
use Rattle.waves.proofs.Rows.{bit_set, bit_other}
use Rattle.waves.proofs.Rows.{on_page}

-- ---- two notes

abbrev two : ℕ → List (List Bool) × List (List Bool) → Reference → Reference → List (List Bool) × List (List Bool)
two w r m n = noted_in w (noted_in w r m) n

-- marks
pub marks_two : (w a b : ℕ) (r : List (List Bool) × List (List Bool)) → 0 < a / w → 0 < b / w
    → two w r (Some (a, false)) (Some (b, false)) ≡ two w r (Some (b, false)) (Some (a, false))
marks_two w a b r low high = by_eq (cases_eq b a)
  where
    grey : Bool → ℕ → List (List Bool) → List (List Bool)
    grey c x rows = if c then rows else with_bit rows w x true

    by_bits : (c d : Bool) → grey d b (grey c a r.1) ≡ grey c a (grey d b r.1)
    by_bits true d = refl
    by_bits false true = refl
    by_bits false false = bits_two r.1 w a b

    apart : b ≢ a → two w r (Some (a, false)) (Some (b, false)) ≡ two w r (Some (b, false)) (Some (a, false))
    apart d =
        let here : bit_at (with_bit r.0 w a true) w b ≡ bit_at r.0 w b = bit_other r.0 w a b true low high d in
        let there : bit_at (with_bit r.0 w b true) w a ≡ bit_at r.0 w a =
        bit_other r.0 w b a true high low (λ e. d (sym e)) in
        let todo = ap (λ c. grey c b (grey (bit_at r.0 w a) a r.1)) here
        ∙ by_bits (bit_at r.0 w a) (bit_at r.0 w b)
        ∙ sym (ap (λ c. grey c a (grey (bit_at r.0 w b) b r.1)) there) in
        λ i. (bits_two r.0 w a b i, todo i)

    by_eq : (b ≡ a) ⊎ (b ≢ a)
        → two w r (Some (a, false)) (Some (b, false)) ≡ two w r (Some (b, false)) (Some (a, false))
    by_eq (inr d) = apart d
    by_eq (inl e) = subst
        (λ x. two w r (Some (a, false)) (Some (x, false)) ≡ two w r (Some (x, false)) (Some (a, false))) (sym e) refl

-- a mark, and the end of the scan of a marked object
pub end_two : (w a b : ℕ) (r : List (List Bool) × List (List Bool)) → bit_at r.0 w a ≡ true → 0 < b / w
    → two w r (Some (b, false)) (Some (a, true)) ≡ two w r (Some (a, true)) (Some (b, false))
end_two w a b r is high = λ i. (with_bit r.0 w b true, by_bit (bit_at r.0 w b) refl i)
  where
    by_bit : (c : Bool) → bit_at r.0 w b ≡ c
        → with_bit (if c then r.1 else with_bit r.1 w b true) w a false
        ≡ (if c then with_bit r.1 w a false else with_bit (with_bit r.1 w a false) w b true)
    by_bit true e = refl
    by_bit false e = bits_apart r.1 w a b (on_page r.0 w a is) high
        (λ s. true≢false (sym is ∙ ap (bit_at r.0 w) (sym s) ∙ e))

-- ---- a note after others

mark_last : (w t : ℕ) (r : List (List Bool) × List (List Bool)) (ns : List Reference) → 0 < t / w → AreSent w ns
    → all_noted_in w r (ns ++ (Some (t, false) ∷ [])) ≡ all_noted_in w (noted_in w r (Some (t, false))) ns
mark_last w t r [] low k = refl
mark_last w t r (None ∷ ns) low k = absurd (true≢false k)
mark_last w t r (Some (b, true) ∷ ns) low k = absurd (true≢false k)
mark_last w t r (Some (b, false) ∷ ns) low k =
    mark_last w t (noted_in w r (Some (b, false))) ns low k.1
    ∙ ap (λ x. all_noted_in w x ns) (marks_two w b t r k.0 low)

end_last : (w a : ℕ) (r : List (List Bool) × List (List Bool)) (ns : List Reference) → bit_at r.0 w a ≡ true
    → AreSent w ns
    → all_noted_in w r (ns ++ (Some (a, true) ∷ [])) ≡ all_noted_in w (noted_in w r (Some (a, true))) ns
end_last w a r [] is k = refl
end_last w a r (None ∷ ns) is k = absurd (true≢false k)
end_last w a r (Some (b, true) ∷ ns) is k = absurd (true≢false k)
end_last w a r (Some (b, false) ∷ ns) is k =
    end_last w a (noted_in w r (Some (b, false))) ns (bit_set r.0 w a b is) k.1
    ∙ ap (λ x. all_noted_in w x ns) (end_two w a b r is k.0)

-- ---- in a heap

-- a mark after all that was sent
pub mark_first : (h : HeapState) (t : ℕ) (ns : List Reference) → 0 < t / h.store.words → AreSent h.store.words ns
    → sent_to h (ns ++ (Some (t, false) ∷ [])) ≡ sent_to (sent_to h (Some (t, false) ∷ [])) ns
unfolding applied
mark_first h t ns low k =
    let rows = mark_last h.store.words t (h.mark, h.todo) ns low k in
    λ i. record h { mark = (rows i).0; todo = (rows i).1 }

-- the end of the scan of a marked object after all that was sent
pub end_first : (h : HeapState) (a : ℕ) (ns : List Reference) → bit_at h.mark h.store.words a ≡ true
    → AreSent h.store.words ns
    → sent_to h (ns ++ (Some (a, true) ∷ [])) ≡ sent_to (sent_to h (Some (a, true) ∷ [])) ns
unfolding applied
end_first h a ns is k =
    let rows = end_last h.store.words a (h.mark, h.todo) ns is k in
    λ i. record h { mark = (rows i).0; todo = (rows i).1 }

-- what is grey stays so
todo_stays : (w a : ℕ) (r : List (List Bool) × List (List Bool)) (ns : List Reference) → AreSent w ns
    → bit_at r.1 w a ≡ true → bit_at (all_noted_in w r ns).1 w a ≡ true
todo_stays w a r [] k e = e
todo_stays w a r (None ∷ ns) k e = absurd (true≢false k)
todo_stays w a r (Some (b, true) ∷ ns) k e = absurd (true≢false k)
todo_stays w a r (Some (b, false) ∷ ns) k e =
    todo_stays w a (noted_in w r (Some (b, false))) ns k.1 (by_bit (bit_at r.0 w b))
  where
    by_bit : (c : Bool) → bit_at (if c then r.1 else with_bit r.1 w b true) w a ≡ true
    by_bit true = e
    by_bit false = bit_set r.1 w a b e

pub grey_stays : (h : HeapState) (a : ℕ) (ns : List Reference) → AreSent h.store.words ns
    → bit_at h.todo h.store.words a ≡ true → bit_at (sent_to h ns).todo h.store.words a ≡ true
unfolding applied
grey_stays h a ns k e = todo_stays h.store.words a (h.mark, h.todo) ns k e

pub sent_both : (w : ℕ) (ns ms : List Reference) → AreSent w ns → AreSent w ms → AreSent w (ns ++ ms)
sent_both w [] ms k l = l
sent_both w (None ∷ ns) ms k l = absurd (true≢false k)
sent_both w (Some (b, true) ∷ ns) ms k l = absurd (true≢false k)
sent_both w (Some (b, false) ∷ ns) ms k l = (k.0, sent_both w ns ms k.1 l)

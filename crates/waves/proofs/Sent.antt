-- Notes are taken in, one after another.
use Rattle.std.proofs.Common.{◌≡◌, ℕ, ◌+◌, ◌≤◌, ◌<◌, true, false, List, [], ◌∷◌, ◌++◌, length, drop, get_or}
use Rattle.std.proofs.Common.{Some, None, refl, sym, ◌∙◌, ap}
use Rattle.std.proofs.lemmas.List.{drop_more, drop_all}
use Rattle.refword.specs.Words.{address_in, mark_in}
use Rattle.model.specs.Bits.{with_bit}
use Rattle.model.specs.States.{Reference, HeapState}
use Rattle.page.specs.declared.owned.Part.{Part}
use Rattle.waves.specs.Waves.{applied}
use Rattle.heap.specs.Marking.{marked_at}
use Rattle.part_scans.specs.Scans.{all_sent}
use Rattle.waves.specs.Parts.{sent_to}
use Rattle.waves.proofs.Folding.{applied_both, nothing_applied}

pub taken_none : (h : HeapState) (note : Reference) → None ≡ address_in note → h ≡ sent_to h (note ∷ [])
unfolding applied
taken_none h None e = refl
taken_none h (Some n) e = absurd (cc)

pub taken_end : (h g : HeapState) (note : Reference) (a : ℕ) → Some a ≡ address_in note → true ≡ mark_in note
    → g ≡ record h { todo = with_bit h.todo h.store.words a false } → g ≡ sent_to h (note ∷ [])
unfolding applied
taken_end h g None a e m d = absurd (cc)
taken_end h g (Some (b, true)) a e m d = d ∙ ap (λ n. sent_to h (Some (n, true) ∷ [])) (same a b e)
  where
    same : (x y : ℕ) → Some x ≡ Some y → x ≡ y
    same x y z = cc
taken_end h g (Some (b, false)) a e m d = absurd (cc)

pub taken_mark : (h g : HeapState) (note : Reference) (a : ℕ) → Some a ≡ address_in note → false ≡ mark_in note
    → g ≡ marked_at h a → g ≡ sent_to h (note ∷ [])
unfolding applied marked_at
taken_mark h g None a e m d = absurd (cc)
taken_mark h g (Some (b, true)) a e m d = absurd (cc)
taken_mark h g (Some (b, false)) a e m d = d ∙ ap (λ n. sent_to h (Some (n, false) ∷ [])) (same a b e)
  where
    same : (x y : ℕ) → Some x ≡ Some y → x ≡ y
    same x y z = cc

-- ---- lists

pub sent_then : (h : HeapState) (ns ms : List Reference) → sent_to (sent_to h ns) ms ≡ sent_to h (ns ++ ms)
sent_then h ns ms = applied_both h [] [] ns ms

pub taken_next : (h g all : HeapState) (ns : List Reference) (i : ℕ) (d : Reference) → sent_to h (drop i ns) ≡ all
    → i < length ns → d ≡ get_or ns i d → g ≡ sent_to h (d ∷ []) → sent_to g (drop (i + 1) ns) ≡ all
taken_next h g all ns i d k l read e =
    ap (λ x. sent_to x (drop (i + 1) ns)) e ∙ sent_then h (d ∷ []) (drop (i + 1) ns)
    ∙ ap (λ x. sent_to h (x ∷ drop (i + 1) ns)) read ∙ ap (sent_to h) (sym (drop_more ns i d l)) ∙ k

pub taken_last : (h all : HeapState) (ns : List Reference) (i : ℕ) → sent_to h (drop i ns) ≡ all → length ns ≤ i
    → h ≡ all
taken_last h all ns i k l = sym (nothing_applied h) ∙ ap (sent_to h) (sym (drop_all i ns l)) ∙ k

pub parts_next : (h g all : HeapState) (ps : List Part) (i : ℕ) (d : Part) → sent_to h (all_sent (drop i ps)) ≡ all
    → i < length ps → d ≡ get_or ps i d → g ≡ sent_to h d.sent.items → sent_to g (all_sent (drop (i + 1) ps)) ≡ all
parts_next h g all ps i d k l read e =
    ap (λ x. sent_to x (all_sent (drop (i + 1) ps))) e ∙ sent_then h d.sent.items (all_sent (drop (i + 1) ps))
    ∙ ap (λ (x : Part). sent_to h (all_sent (x ∷ drop (i + 1) ps))) read
    ∙ ap (λ xs. sent_to h (all_sent xs)) (sym (drop_more ps i d l)) ∙ k

pub parts_last : (h all : HeapState) (ps : List Part) (i : ℕ) → sent_to h (all_sent (drop i ps)) ≡ all → length ps ≤ i
    → h ≡ all
parts_last h all ps i k l =
    sym (nothing_applied h) ∙ ap (λ xs. sent_to h (all_sent xs)) (sym (drop_all i ps l)) ∙ k

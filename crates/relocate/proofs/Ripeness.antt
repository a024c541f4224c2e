-- Pages that may be protected: they are closed, they have numbers, and each is named once.
use Rattle.std.proofs.Common.{◌≡◌, ℕ, zero, suc, ◌+◌, ◌<◌, ◌≤◌, Bool, true, false, eqb, List, [], ◌∷◌, length, take, drop}
use Rattle.std.proofs.Common.{get_or, refl, sym, ◌∙◌, ap, subst, arith}
use Rattle.std.specs.Prelude.{Result, Ok}
use Rattle.std.specs.Prelude.{◌==◌, ◌||◌}
use Rattle.std.specs.List.{AllByRecursion, IsDistinct, list_any}
use Rattle.std.proofs.lemmas.Bool.{or_parts, true≢false}
use Rattle.std.proofs.lemmas.Bool.Decides.{nat_tests}
use Rattle.std.proofs.lemmas.Map.Steps.{length-le_from_distinct_below}
use Rattle.model.specs.Outcome.{WorkerPasses}
use Rattle.model.specs.declared.steps.Step.TheVariants as steps
use Rattle.model.specs.declared.records.PageState.TheVariants.{Unused, Closed}
use Rattle.model.specs.declared.steps.Refusal.{Refusal}
use Rattle.model.specs.Stores.{StoreState, state_at}
use Rattle.model.specs.Owning.{Each, IsStore}
use Rattle.model.specs.Protections.{all_ripe, are_bad_pages, has_twice, ripe}
use Rattle.model.specs.Refusing.{◌>>=◌}
use Rattle.model.specs.States.{HeapState}
use Rattle.std.proofs.lemmas.List.{drop_more, take_more}
use Rattle.model.proofs.Passing.{worker_index}
use Rattle.relocate.proofs.Entries.{numbered}
use Rattle.relocate.proofs.Opening.{each_behind}

-- the outcome for the pages that are left is that of the next one, and then of those after it
next : (h : HeapState) (ns : List ℕ) (i : ℕ) → i < length ns
    → all_ripe h (drop i ns) ≡ (ripe h (get_or ns i 0) >>= λ _. all_ripe h (drop (i + 1) ns))
next h ns i l = ap (all_ripe h) (drop_more ns i 0 l)

-- a page may be protected: those after it decide
pub one_ripe : (h : HeapState) (ns : List ℕ) (i : ℕ) → i < length ns → Ok tt ≡ ripe h (get_or ns i 0)
    → all_ripe h (drop i ns) ≡ all_ripe h ns → all_ripe h (drop (i + 1) ns) ≡ all_ripe h ns
one_ripe h ns i l e same =
    ap (λ (r : Result Unit Refusal). r >>= λ _. all_ripe h (drop (i + 1) ns)) e ∙ sym (next h ns i l) ∙ same

-- one more page is closed
pub one_closed : (s : StoreState) (ns : List ℕ) (i : ℕ) → i < length ns → state_at s (get_or ns i 0) ≡ Closed
    → Each (take i ns) (λ n. state_at s n ≡ Closed) → Each (take (i + 1) ns) (λ n. state_at s n ≡ Closed)
one_closed s ns i l e h = subst (λ ms. Each ms (λ n. state_at s n ≡ Closed)) (sym (take_more ns i 0 l))
    (each_behind (λ n. state_at s n ≡ Closed) (take i ns) (get_or ns i 0) h e)

-- a closed page has a number
closed_numbered : (s : StoreState) (n : ℕ) → IsStore s → state_at s n ≡ Closed → (0 < n) × (n ≤ s.count)
closed_numbered s n h e = numbered s n h (λ z. absurd (let k : Unused ≡ Closed = sym z ∙ e in cc))

-- the first n elements of a list of n are all
all_taken : (ns : List ℕ) (i : ℕ) → length ns ≤ i → take i ns ≡ ns
all_taken [] zero l = refl
all_taken [] (suc i) l = refl
all_taken (n ∷ ns) zero l = absurd (omega (arith, l))
all_taken (n ∷ ns) (suc i) l = ap (λ ms. n ∷ ms) (all_taken ns i (omega (arith, l)))

-- after the last page all are closed
each_closed : (s : StoreState) (ns : List ℕ) (i : ℕ) → length ns ≤ i
    → Each (take i ns) (λ n. state_at s n ≡ Closed) → Each ns (λ n. state_at s n ≡ Closed)
each_closed s ns i l h = subst (λ ms. Each ms (λ n. state_at s n ≡ Closed)) (all_taken ns i l) h

-- after the last page all have numbers
pub each_low : (s : StoreState) (ns : List ℕ) (i : ℕ) → IsStore s → length ns ≤ i
    → Each (take i ns) (λ n. state_at s n ≡ Closed) → Each ns (λ n. 0 < n)
each_low s ns i is l h = λ j n at. (closed_numbered s n is (each_closed s ns i l h j n at)).0

pub each_high : (s : StoreState) (ns : List ℕ) (i : ℕ) → IsStore s → length ns ≤ i
    → Each (take i ns) (λ n. state_at s n ≡ Closed) → Each ns (λ n. n ≤ s.count)
each_high s ns i is l h = λ j n at. (closed_numbered s n is (each_closed s ns i l h j n at)).1

-- pages of a valid list are named once each
pub named_once : (h : HeapState) (ns : List ℕ) → are_bad_pages h ns ≡ false → has_twice ns ≡ false
named_once h [] e = absurd (cc)
named_once h (n ∷ ns) e = (or_parts _ _ e).1

-- the pages of a step that passed the tests of all steps are named once each
pub passed_once : (h : HeapState) (w : ℕ) (pages : List ℕ) → WorkerPasses h w (steps.Protect pages)
    → has_twice pages ≡ false
passed_once h w pages g = named_once h pages (worker_index h w (steps.Protect pages) g)

-- they are few: at most one for each number up to the greatest
pub few_pages : (h : HeapState) (ns : List ℕ) → has_twice ns ≡ false → Each ns (λ n. n ≤ h.store.count)
    → length ns ≤ h.store.count + 1
unfolding IsDistinct
few_pages h ns once high = length-le_from_distinct_below ns (h.store.count + 1) (distinct ns once) (λ q e. below ns high q e)
  where
    others : (n : ℕ) (ms : List ℕ) → list_any (λ m. m == n) ms ≡ false → AllByRecursion (λ m. eqb n m ≡ false) ms
    others n [] e = tt
    others n (m ∷ ms) e =
        let (this, rest) = or_parts (m == n) (list_any (λ m. m == n) ms) e in
        (grind (arith, nat_tests, this), others n ms rest)

    distinct : (ns : List ℕ) → has_twice ns ≡ false → IsDistinct eqb ns
    distinct [] e = tt
    distinct (n ∷ ns) e =
        let (this, rest) = or_parts (list_any (λ m. m == n) ns) (has_twice ns) e in
        (others n ns this, distinct ns rest)

    below : (ns : List ℕ) → Each ns (λ n. n ≤ h.store.count) → (q : ℕ) → list_any (eqb q) ns ≡ true
        → q < h.store.count + 1
    below [] high q e = absurd (true≢false (sym e))
    below (n ∷ ns) high q e = by_test (eqb q n) refl e (below ns (λ i. high (suc i)) q)
      where
        by_test : (b : Bool) → eqb q n ≡ b → (b || list_any (eqb q) ns) ≡ true
            → (list_any (eqb q) ns ≡ true → q < h.store.count + 1) → q < h.store.count + 1
        by_test true f k rest = let is : q ≡ n = grind (arith, nat_tests, f) in omega (arith, is, high 0 n refl)
        by_test false f k rest = rest k

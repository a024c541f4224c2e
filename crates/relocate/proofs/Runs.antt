-- Runs of entries that go to one target.
use Rattle.std.proofs.Common.{◌≡◌, ℕ, zero, suc, ◌+◌, ◌*◌, ◌/◌, ◌%◌, ◌<◌, ◌≤◌, Bool, true, false, cond, nat_eq, List}
use Rattle.std.proofs.Common.{[], ◌∷◌}
use Rattle.std.proofs.Common.{length, map, Option, Some, None, refl, sym, ◌∙◌, ap, subst, arith, ◌-◌}
use Rattle.std.proofs.Common.{get_or}
use Rattle.std.specs.List.{slice_get}
use Rattle.std.specs.Option.{IsSome}
use Rattle.std.proofs.lemmas.Bool.{eqb-true}
use Rattle.std.proofs.lemmas.Bool.Decides.{nat_tests}
use Rattle.std.proofs.lemmas.Option.{same_Some}
use Rattle.model.specs.declared.records.Forwarding.{Forwarding}
use Rattle.model.specs.States.{HeapState, change_at, change_found}
use Rattle.model.specs.Bits.{of_page}
use Rattle.model.specs.Emptying.{entry_on}
use Rattle.model.specs.Moves.{with_copy, set_copied_of}
use Rattle.model.specs.Stores.{is_from, state_at}
use Rattle.model.proofs.Lists.{get_within}
use Rattle.forward.specs.Noting.{place_of}
use Rattle.heap.specs.Runs.{with_entry, with_entries}
use Rattle.relocate.specs.Runs.{goes_to, IsRun}

-- an entry that exists has a target
pub entry_goes : (h : HeapState) (n e end : ℕ) (o : Option ℕ) → e < end → end ≤ length (of_page h.sides n)
    → o ≡ goes_to h.store.words (slice_get (of_page h.sides n) e) → IsSome o
entry_goes h n e end o a b is =
    let (f, at) = get_within (of_page h.sides n) e (omega (arith, a, b)) in
    subst IsSome (sym (is ∙ ap (goes_to h.store.words) at)) refl

goes_there : (words target : ℕ) (o : Option Forwarding) (f : Forwarding) → goes_to words o ≡ Some target → o ≡ Some f
    → f.to / words ≡ target
goes_there words target o f a b = same_Some _ _ (sym (ap (goes_to words) b) ∙ a)

-- the target, by the entry's place
pub none_goes : (words : ℕ) (o : Option Forwarding) → None ≡ place_of o → None ≡ goes_to words o
none_goes words None e = refl
none_goes words (Some f) e = absurd (cc)

pub placed_goes : (words to : ℕ) (o : Option Forwarding) → Some to ≡ place_of o → Some (to / words) ≡ goes_to words o
placed_goes words to None e = absurd (cc)
placed_goes words to (Some f) e = ap (λ a. Some (a / words)) (same_Some _ _ e)

pub placed_there : (words to target : ℕ) (o : Option Forwarding) → Some to ≡ place_of o → to / words ≡ target
    → goes_to words o ≡ Some target
placed_there words to target o e is = sym (placed_goes words to o e) ∙ ap Some is

-- a run begins with one entry
pub run_begins : (h : HeapState) (n e end target : ℕ) → e < end
    → goes_to h.store.words (slice_get (of_page h.sides n) e) ≡ Some target → IsRun h n e end target 1
run_begins h n e end target a here = record {
  some = omega arith;
  within = omega (arith, a);
  together = λ i f l at.
      let same : e + i ≡ e = omega (arith, l) in
      goes_there h.store.words target (slice_get (of_page h.sides n) e) f here
      (sym (ap (slice_get (of_page h.sides n)) same) ∙ at);
}

-- one more entry joins a run
pub run_more : (h : HeapState) (n e end target count : ℕ) → IsRun h n e end target count → count < end - e
    → goes_to h.store.words (slice_get (of_page h.sides n) (e + count)) ≡ Some target
    → IsRun h n e end target (count + 1)
run_more h n e end target count r l here = record {
  some = omega arith;
  within = omega (arith, l, r.within, r.some);
  together = λ i f m at. by_test i f m at (nat_eq i count) refl;
}
  where
    side : List Forwarding
    side = of_page h.sides n

    by_test : (i : ℕ) (f : Forwarding) → i < count + 1 → slice_get side (e + i) ≡ Some f → (b : Bool)
        → nat_eq i count ≡ b → f.to / h.store.words ≡ target
    by_test i f m at true z =
        goes_there h.store.words target (slice_get side (e + count)) f here
        (sym (ap (λ j. slice_get side (e + j)) (eqb-true i count z)) ∙ at)
    by_test i f m at false z = r.together i f (grind (arith, nat_tests, m, z)) at

-- an entry that wasn't copied
pub entry_copied : (h : HeapState) (n e : ℕ) (f : Forwarding) → entry_on h n e ≡ Some f → f.copied ≡ false
    → with_copy h (n * h.store.words + f.offset) f.to ≡ with_entry h n (slice_get (of_page h.sides n) e)
unfolding entry_on
entry_copied h n e f at fresh = by_from (is_from (state_at h.store n)) at
  where
    by_from : (b : Bool) → cond b (slice_get (of_page h.sides n) e) None ≡ Some f
        → with_copy h (n * h.store.words + f.offset) f.to ≡ with_entry h n (slice_get (of_page h.sides n) e)
    by_from true z =
        sym (ap (with_entry h n) z
        ∙ ap (λ b. cond b h (with_copy h (n * h.store.words + f.offset) f.to)) fresh)
    by_from false z = absurd (cc)

-- the number of a page's entries stays

length_map : (o : ℕ) (fs : List Forwarding) → length (map (set_copied_of o) fs) ≡ length fs
length_map o [] = refl
length_map o (f ∷ fs) = ap suc (length_map o fs)

length_changed : (sides : List (List Forwarding)) (i m o : ℕ)
    → length (of_page (change_at sides i (map (set_copied_of o))) m) ≡ length (of_page sides m)
length_changed sides i zero o = refl
length_changed sides i (suc m) o = at_place sides i m
  where
    at_place : (xs : List (List Forwarding)) (i m : ℕ)
        → length (get_or (change_at xs i (map (set_copied_of o))) m []) ≡ length (get_or xs m [])
    at_place [] i m = refl
    at_place (x ∷ xs) zero zero = length_map o x
    at_place (x ∷ xs) zero (suc m) = refl
    at_place (x ∷ xs) (suc i) m = by_found (slice_get xs i) m (λ j. at_place xs i j)
      where
        by_found : (q : Option (List Forwarding)) (m : ℕ)
            → ((j : ℕ) → length (get_or (change_found xs i q (map (set_copied_of o))) j []) ≡ length (get_or xs j []))
            → length (get_or (change_found (x ∷ xs) (suc i) q (map (set_copied_of o))) m [])
            ≡ length (get_or (x ∷ xs) m [])
        by_found None m k = refl
        by_found (Some y) zero k = refl
        by_found (Some y) (suc m) k = k m

length_entry : (h : HeapState) (n : ℕ) (o : Option Forwarding) (m : ℕ)
    → length (of_page (with_entry h n o).sides m) ≡ length (of_page h.sides m)
unfolding with_copy
length_entry h n None m = refl
length_entry h n (Some f) m = by_copied f.copied
  where
    a : ℕ
    a = n * h.store.words + f.offset

    by_copied : (b : Bool) → length (of_page (cond b h (with_copy h a f.to)).sides m) ≡ length (of_page h.sides m)
    by_copied true = refl
    by_copied false = length_changed h.sides (a / h.store.words - 1) m (a % h.store.words)

pub length_entries : (h : HeapState) (n e k m : ℕ)
    → length (of_page (with_entries h n e k).sides m) ≡ length (of_page h.sides m)
length_entries h n e zero m = refl
length_entries h n e (suc k) m =
    length_entries (with_entry h n (slice_get (of_page h.sides n) e)) n (e + 1) k m
    ∙ length_entry h n (slice_get (of_page h.sides n) e) m

-- k entries are copied as j of them, and then the others
pub entries_on : (h : HeapState) (n e j k : ℕ)
    → with_entries h n e (j + k) ≡ with_entries (with_entries h n e j) n (e + j) k
entries_on h n e zero k =
    let z : zero + k ≡ k = omega arith in
    let y : e ≡ e + zero = omega arith in
    ap (λ m. with_entries h n e m) z ∙ ap (λ m. with_entries h n m k) y
entries_on h n e (suc j) k =
    let z : suc j + k ≡ suc (j + k) = omega arith in
    let y : (e + 1) + j ≡ e + suc j = omega arith in
    let g : HeapState = with_entry h n (slice_get (of_page h.sides n) e) in
    ap (λ m. with_entries h n e m) z ∙ entries_on g n (e + 1) j k
    ∙ ap (λ m. with_entries (with_entries g n (e + 1) j) n m k) y

-- a loop over runs
pub record IsDone (h g : HeapState) (n first count : ℕ) : Type 0 where
  pub done : with_entries h n 0 count ≡ with_entries g n first (count - first)
  pub many : length (of_page g.sides n) ≡ count
  pub within : first ≤ count

pub run_done : (h g m : HeapState) (n first next count target more : ℕ) → IsDone h g n first count
    → IsRun g n first count target more → m ≡ with_entries g n first more → next ≡ first + more
    → IsDone h m n next count
run_done h g m n first next count target more d r is to = record {
  done =
      let parts : count - first ≡ more + (count - next) = omega (arith, d.within, r.within, to) in
      d.done ∙ ap (λ k. with_entries g n first k) parts ∙ entries_on g n first more (count - next)
      ∙ (λ i. with_entries (sym is i) n (sym to i) (count - next));
  many = ap (λ (x : HeapState). length (of_page x.sides n)) is ∙ length_entries g n first more n ∙ d.many;
  within = omega (arith, r.within, to);
}

pub all_done : (h g : HeapState) (n first count : ℕ) → IsDone h g n first count → count ≤ first
    → g ≡ with_entries h n 0 count
all_done h g n first count d l =
    let none : count - first ≡ 0 = omega (arith, l) in sym (d.done ∙ ap (λ k. with_entries g n first k) none)

pub none_done : (h : HeapState) (n count : ℕ) → count ≡ length (of_page h.sides n) → IsDone h h n 0 count
none_done h n count is =
    let all : count ≡ count - 0 = omega arith in
    record { done = ap (λ k. with_entries h n 0 k) all; many = sym is; within = omega arith }

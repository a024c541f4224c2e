-- The number of threads that haven't crossed.
use Rattle.std.proofs.Common.{◌≡◌, ℕ, zero, suc, ◌-◌, ◌*◌, ◌<◌, ◌≤◌, Bool, true, false, not, List, [], ◌∷◌, map}
use Rattle.std.proofs.Common.{replicate, set, length, get_or, position, is_none, take, drop, ◌++◌}
use Rattle.std.proofs.Common.{Option, Some, None, refl, sym, ◌∙◌, ap, subst, arith}
use Rattle.std.specs.List.{slice_get}
use Rattle.std.proofs.lemmas.List.{take_all, take-append-le}
use Rattle.thread_records.proofs.Looping.{length_mapped}
use Rattle.std.specs.Prelude.{◌==◌}
use Rattle.std.proofs.lemmas.List.Sums.{sum_by-cons}
use Rattle.std.proofs.lemmas.Bool.Decides.{nat_tests}
use Rattle.model.specs.Checkpoints.{first_behind}
use Rattle.model.specs.First.{blank_thread}
use Rattle.model.specs.States.{ThreadState}
use Rattle.model.specs.Threads.{set_crossed_of}
use Rattle.model.specs.Owning.{Each}
use Rattle.model.proofs.Lists.{count_replicate, count_set, count_positive, get_read, as_number}
use Rattle.model.proofs.Lists.{position_none, position_finds, position_passes}
use Rattle.thread_records.specs.Counting.{is_behind, counted_behind, behind_count}

-- threads of a new heap have crossed
pub none_behind : (n registers : ℕ) (ts : List ThreadState) → ts ≡ replicate n (blank_thread registers)
    → 0 ≡ behind_count ts
none_behind n registers ts e =
    sym (ap behind_count e ∙ count_replicate is_behind n (blank_thread registers) ∙ no_times n)
  where
    no_times : (n : ℕ) → n * 0 ≡ 0
    no_times n = omega arith

-- a changed thread that has crossed exactly if it had counts as before
pub still_behind : (ts : List ThreadState) (i n : ℕ) (x y : ThreadState) → n ≡ behind_count ts → i < length ts
    → x ≡ get_or ts i x → y.crossed ≡ x.crossed → n ≡ behind_count (set ts i y)
still_behind ts i n x y e h read same =
    let there : slice_get ts i ≡ Some x = get_read ts i x h read in
    let alike : counted_behind y ≡ counted_behind x = ap (λ b. as_number (not b)) same in
    omega (arith, e, alike, count_set is_behind ts i x y there)

-- a thread that hasn't crossed is counted
pub counted : (ts : List ThreadState) (i n left : ℕ) (x : ThreadState) → n ≡ behind_count ts → i < length ts
    → x ≡ get_or ts i x → left ≡ counted_behind x → left ≤ n
counted ts i n left x e h read is = by_truth (not x.crossed) refl
  where
    by_truth : (b : Bool) → not x.crossed ≡ b → left ≤ n
    by_truth false f = let none : counted_behind x ≡ 0 = ap as_number f in omega (arith, is, none)
    by_truth true f =
        let one : counted_behind x ≡ 1 = ap as_number f in
        omega (arith, is, one, e, count_positive is_behind ts i x (get_read ts i x h read) f)

-- a thread crosses: the number falls by what it counted
pub one_less : (ts : List ThreadState) (i n left : ℕ) (x y : ThreadState) → n ≡ behind_count ts → i < length ts
    → x ≡ get_or ts i x → left ≡ counted_behind x → y.crossed ≡ true → n - left ≡ behind_count (set ts i y)
one_less ts i n left x y e h read is crossed =
    let there : slice_get ts i ≡ Some x = get_read ts i x h read in
    let none : counted_behind y ≡ 0 = ap (λ b. as_number (not b)) crossed in
    omega (arith, e, is, none, count_set is_behind ts i x y there)

-- if none has crossed, all threads count
all_behind : (ts new : List ThreadState) → new ≡ map (set_crossed_of false) ts → length new ≡ behind_count new
all_behind ts new e = subst (λ us. length us ≡ behind_count us) (sym e) (each ts)
  where
    each : (ts : List ThreadState)
        → length (map (set_crossed_of false) ts) ≡ behind_count (map (set_crossed_of false) ts)
    each [] = refl
    each (t ∷ ts) =
        let rest = map (set_crossed_of false) ts in
        omega (arith, each ts, sum_by-cons counted_behind (set_crossed_of false t) rest)

-- the number is 0 exactly if there is no first thread that hasn't crossed
pub all_crossed : (ts : List ThreadState) (n : ℕ) → n ≡ behind_count ts → (n == 0) ≡ is_none (first_behind ts)
unfolding first_behind
all_crossed ts n e = by_found (position is_behind ts) refl
  where
    zero_is : (m : ℕ) → m ≡ 0 → (m == 0) ≡ true
    zero_is m e = grind (arith, nat_tests)

    positive : (m : ℕ) → 0 < m → (m == 0) ≡ false
    positive m h = grind (arith, nat_tests)

    none_counts : (us : List ThreadState) → Each us (λ x. is_behind x ≡ false) → behind_count us ≡ 0
    none_counts [] h = refl
    none_counts (u ∷ us) h =
        let here : as_number (is_behind u) ≡ 0 = ap as_number (h zero u refl) in
        omega (arith, here, none_counts us (λ i x g. h (suc i) x g), sum_by-cons counted_behind u us)

    by_found : (o : Option ℕ) → position is_behind ts ≡ o → (n == 0) ≡ is_none o
    by_found None f = zero_is n (e ∙ none_counts ts (position_none is_behind ts f))
    by_found (Some i) f =
        let at = position_finds is_behind ts i f in
        let passes = position_passes is_behind ts i at.0 f at.1 in
        positive n (omega (arith, e, count_positive is_behind ts i at.0 at.1 passes))

-- if the number is 0, there is no first such thread
pub none_found : (ts : List ThreadState) (n : ℕ) → n ≡ behind_count ts → (n == 0) ≡ true → None ≡ first_behind ts
none_found ts n e h = sym (is_missing (first_behind ts) (sym (all_crossed ts n e) ∙ h))
  where
    is_missing : (o : Option ℕ) → is_none o ≡ true → o ≡ None
    is_missing None e = refl
    is_missing (Some i) e = absurd (cc)

-- the same, after the borrow of the list ends
pub all_behind_back : (items old new : List ThreadState) (len n : ℕ) → n ≡ len → length old ≡ len
    → new ≡ map (set_crossed_of false) old → n ≡ behind_count (take len (new ++ drop (length new) items))
all_behind_back items old new len n e many is =
    let size : length new ≡ len = ap length is ∙ length_mapped (set_crossed_of false) old ∙ many in
    e ∙ sym size ∙ all_behind old new is ∙ ap behind_count (sym (taken len size))
  where
    taken : (len : ℕ) → length new ≡ len → take len (new ++ drop (length new) items) ≡ new
    taken len size = subst (λ n. take n (new ++ drop (length new) items) ≡ new) size
        (take-append-le (length new) new _ (omega arith) ∙ take_all (length new) new (omega arith))

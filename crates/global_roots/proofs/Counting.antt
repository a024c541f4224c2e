-- The count of grey globals.
use Rattle.std.proofs.Common.{◌≡◌, ℕ, ◌-◌, ◌*◌, ◌<◌, ◌≤◌, Bool, true, false, List, [], ◌∷◌, map}
use Rattle.std.proofs.Common.{replicate, set, length, get_or, position, take, drop, ◌++◌}
use Rattle.std.proofs.Common.{Option, Some, None, refl, sym, ◌∙◌, ap, subst, arith}
use Rattle.std.specs.List.{slice_get}
use Rattle.std.specs.Prelude.{◌==◌}
use Rattle.std.proofs.lemmas.List.{take_all, take-append-le}
use Rattle.std.proofs.lemmas.List.Sums.{sum_by-cons}
use Rattle.std.proofs.lemmas.Bool.Decides.{nat_tests}
use Rattle.thread_records.proofs.Looping.{length_mapped}
use Rattle.model.specs.Cycles.{set_todo_of}
use Rattle.model.specs.declared.records.Global.{Global}
use Rattle.model.proofs.Lists.{count_replicate, count_set, count_positive, get_read, as_number}
use Rattle.model.proofs.Lists.{position_finds, position_passes}
use Rattle.global_roots.specs.Globals.{is_todo, counted_todo, todo_count}

-- none is to be marked in a new heap
pub none_todo : (n : ℕ) (g : Global) (gs : List Global) → gs ≡ replicate n g → g.todo ≡ false → 0 ≡ todo_count gs
none_todo n g gs e h =
    let none : counted_todo g ≡ 0 = ap as_number h in
    sym (ap todo_count e ∙ count_replicate is_todo n g ∙ ap (λ k. n * k) none ∙ no_times n)
  where
    no_times : (n : ℕ) → n * 0 ≡ 0
    no_times n = omega arith

-- a global that is changed, and has to be marked as before, counts as before
pub still_todo : (gs : List Global) (i n : ℕ) (x y : Global) → n ≡ todo_count gs → i < length gs → x ≡ get_or gs i x
    → y.todo ≡ x.todo → n ≡ todo_count (set gs i y)
still_todo gs i n x y e h read same =
    let there : slice_get gs i ≡ Some x = get_read gs i x h read in
    let alike : counted_todo y ≡ counted_todo x = ap as_number same in
    omega (arith, e, alike, count_set is_todo gs i x y there)

-- a global that is to be marked is counted
pub counted : (gs : List Global) (i n left : ℕ) (x : Global) → n ≡ todo_count gs → i < length gs → x ≡ get_or gs i x
    → left ≡ counted_todo x → left ≤ n
counted gs i n left x e h read is = by_truth x.todo refl
  where
    by_truth : (b : Bool) → x.todo ≡ b → left ≤ n
    by_truth false f = let none : counted_todo x ≡ 0 = ap as_number f in omega (arith, is, none)
    by_truth true f =
        let one : counted_todo x ≡ 1 = ap as_number f in
        omega (arith, is, one, e, count_positive is_todo gs i x (get_read gs i x h read) f)

-- a global is marked: the count is less by as much as it counted
pub one_less : (gs : List Global) (i n left : ℕ) (x y : Global) → n ≡ todo_count gs → i < length gs
    → x ≡ get_or gs i x → left ≡ counted_todo x → y.todo ≡ false → n - left ≡ todo_count (set gs i y)
one_less gs i n left x y e h read is marked =
    let there : slice_get gs i ≡ Some x = get_read gs i x h read in
    let none : counted_todo y ≡ 0 = ap as_number marked in
    omega (arith, e, is, none, count_set is_todo gs i x y there)

-- where all are to be marked, they are as many as the globals
all_todo : (gs new : List Global) → new ≡ map set_todo_of gs → length new ≡ todo_count new
all_todo gs new e = subst (λ us. length us ≡ todo_count us) (sym e) (each gs)
  where
    each : (gs : List Global) → length (map set_todo_of gs) ≡ todo_count (map set_todo_of gs)
    each [] = refl
    each (g ∷ gs) = omega (arith, each gs, sum_by-cons counted_todo (set_todo_of g) (map set_todo_of gs))

-- the same, as they are written back over the list that they were lent of
pub all_todo_back : (items old new : List Global) (len n : ℕ) → n ≡ len → length old ≡ len
    → new ≡ map set_todo_of old → n ≡ todo_count (take len (new ++ drop (length new) items))
all_todo_back items old new len n e many is =
    let size : length new ≡ len = ap length is ∙ length_mapped set_todo_of old ∙ many in
    e ∙ sym size ∙ all_todo old new is ∙ ap todo_count (sym (taken len size))
  where
    taken : (len : ℕ) → length new ≡ len → take len (new ++ drop (length new) items) ≡ new
    taken len size = subst (λ n. take n (new ++ drop (length new) items) ≡ new) size
        (take-append-le (length new) new _ (omega arith) ∙ take_all (length new) new (omega arith))

-- where none counts, there is no first one
pub none_found : (gs : List Global) (n : ℕ) → n ≡ todo_count gs → (n == 0) ≡ true → None ≡ position is_todo gs
none_found gs n e h = by_found (position is_todo gs) refl
  where
    zero_is : (m : ℕ) → (m == 0) ≡ true → m ≡ 0
    zero_is m e = grind (arith, nat_tests)

    by_found : (o : Option ℕ) → position is_todo gs ≡ o → None ≡ o
    by_found None f = refl
    by_found (Some i) f =
        let at = position_finds is_todo gs i f in
        let passes = position_passes is_todo gs i at.0 f at.1 in
        absurd (omega (arith, e, zero_is n h, count_positive is_todo gs i at.0 at.1 passes))

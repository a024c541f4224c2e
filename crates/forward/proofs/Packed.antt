-- Objects are placed run by run.
use Rattle.std.proofs.Common.{◌≡◌, ℕ, zero, suc, ◌+◌, ◌-◌, ◌^◌, ◌<◌, ◌≤◌, Bool, true, false, cond, nat_le, List, []}
use Rattle.std.proofs.Common.{◌∷◌}
use Rattle.std.proofs.Common.{◌++◌, length, take, drop, get_or, Some, refl, sym, ◌∙◌, ap, ap₂, subst, arith}
use Rattle.std.specs.Prelude.{◌==◌}
use Rattle.std.specs.List.{slice_get, sum_by}
use Rattle.std.proofs.lemmas.Bool.{leb-true, leb-false}
use Rattle.std.proofs.lemmas.Bool.Decides.{nat_tests}
use Rattle.std.proofs.lemmas.List.{append_assoc, drop_all, take_all}
use Rattle.std.proofs.lemmas.List.Sums.{sum_by-cons}
use Rattle.std.proofs.lemmas.Option.{same_Some, slice_get-get_or}
use Rattle.model.specs.Plans.{places_from, target_count}
use Rattle.forward.specs.declared.runs.Run.{Run}
use Rattle.forward.specs.Runs.{AreBegun, last_with, next_place, place_in, places_in, run_of, runs_with}
use Rattle.forward.specs.Sizes.{words_before}
use Rattle.forward.proofs.Summed.{before_grows, before_more}

-- the last of these runs
abbrev last_of : Run → List Run → Run
last_of r [] = r
last_of r (q ∷ qs) = last_of q qs

-- each of these runs begins before object i
abbrev Begun : List Run → ℕ → Type 0
Begun [] i = Unit {0}
Begun (r ∷ rs) i = (r.first < i) × Begun rs i

begun_more : (rs : List Run) (i j : ℕ) → j ≡ i + 1 → Begun rs i → Begun rs j
begun_more [] i j e h = tt
begun_more (r ∷ rs) i j e (l, h) = (omega (arith, e, l), begun_more rs i j e h)

begun_with : (rs : List Run) (q : Run) (i j : ℕ) → j ≡ i + 1 → q.first ≡ i → Begun rs i → Begun (rs ++ q ∷ []) j
begun_with [] q i j e f h = (omega (arith, e, f), tt)
begun_with (r ∷ rs) q i j e f (l, h) = (omega (arith, e, l), begun_with rs q i j e f h)

last_is : (r : Run) (rs : List Run) (q : Run) → last_of r (rs ++ q ∷ []) ≡ q
last_is r [] q = refl
last_is r (x ∷ rs) q = last_is x rs q

-- the run of an object before which all have begun is the last one
run_last : (r : Run) (rs : List Run) (i j : ℕ) → Begun rs i → i ≤ j + 1 → run_of r rs j ≡ last_of r rs
run_last r [] i j h l = refl
run_last r (q ∷ qs) i j (low, h) l = by_test (nat_le q.first j) refl (run_last q qs i j h l)
  where
    by_test : (b : Bool) → nat_le q.first j ≡ b → run_of q qs j ≡ last_of q qs
        → run_of (cond b q r) qs j ≡ last_of q qs
    by_test true e rest = rest
    by_test false e rest = absurd (omega (arith, low, l, leb-false q.first j e))

-- a run that begins after an object isn't its run
run_before : (r : Run) (rs : List Run) (q : Run) (j : ℕ) → j < q.first → run_of r (rs ++ q ∷ []) j ≡ run_of r rs j
run_before r [] q j l = by_test (nat_le q.first j) refl
  where
    by_test : (b : Bool) → nat_le q.first j ≡ b → cond b q r ≡ r
    by_test true e = absurd (omega (arith, l, leb-true q.first j e))
    by_test false e = refl
run_before r (x ∷ rs) q j l = run_before (cond (nat_le x.first j) x r) rs q j l

places_before : (r : Run) (rs : List Run) (q : Run) (j b : ℕ) (ns : List ℕ) → j + length ns ≤ q.first
    → places_in r (rs ++ q ∷ []) j b ns ≡ places_in r rs j b ns
places_before r rs q j b [] l = refl
places_before r rs q j b (n ∷ ns) l =
    ap₂ (λ x xs. place_in x b ∷ xs) (run_before r rs q j (omega (arith, l)))
    (places_before r rs q (j + 1) (b + n) ns (omega (arith, l)))

-- the place of one object more
places_more : (r : Run) (rs : List Run) (j b k c : ℕ) (ns : List ℕ) (n : ℕ) → k ≡ j + length ns
    → c ≡ b + sum_by (λ n. n) ns
    → places_in r rs j b (ns ++ n ∷ []) ≡ places_in r rs j b ns ++ place_in (run_of r rs k) c ∷ []
places_more r rs j b k c [] n e f =
    let at : j ≡ k = omega (arith, e) in
    let words : b ≡ c = omega (arith, f) in
    ap₂ (λ x y. place_in (run_of r rs x) y ∷ []) at words
places_more r rs j b k c (m ∷ ns) n e f =
    ap (λ xs. place_in (run_of r rs j) b ∷ xs)
    (places_more r rs (j + 1) (b + m) k c ns n (omega (arith, e))
    (omega (arith, f, sum_by-cons (λ (x : ℕ). x) m ns)))

-- the plan of an object and those that follow it
placed_first : (w : ℕ) (at : ℕ × ℕ) (n : ℕ) (ns : List ℕ) → places_from w at.0 at.1 (n ∷ ns)
    ≡ next_place w at n ∷ places_from w (next_place w at n).0 ((next_place w at n).1 + n) ns
placed_first w at n ns = by_test (nat_le (at.1 + n) w)
  where
    head : n ≡ 0 + n
    head = omega arith

    by_test : (b : Bool) → cond b ((at.0, at.1) ∷ places_from w at.0 (at.1 + n) ns)
        ((at.0 + 1, 0) ∷ places_from w (at.0 + 1) n ns)
        ≡ cond b at (at.0 + 1, 0) ∷ places_from w (cond b at (at.0 + 1, 0)).0 ((cond b at (at.0 + 1, 0)).1 + n) ns
    by_test true = refl
    by_test false = ap (λ m. (at.0 + 1, 0) ∷ places_from w (at.0 + 1) m ns) head

dropped : (ns : List ℕ) (i n : ℕ) → slice_get ns i ≡ Some n → drop i ns ≡ n ∷ drop (suc i) ns
dropped [] i n e = absurd (cc)
dropped (m ∷ ns) zero n e = ap (λ x. x ∷ ns) (same_Some m n e)
dropped (m ∷ ns) (suc i) n e = dropped ns i n e

taken : (ns : List ℕ) (i n : ℕ) → slice_get ns i ≡ Some n → take (suc i) ns ≡ take i ns ++ n ∷ []
taken [] i n e = absurd (cc)
taken (m ∷ ns) zero n e = ap (λ x. x ∷ []) (same_Some m n e)
taken (m ∷ ns) (suc i) n e = ap (λ xs. m ∷ xs) (taken ns i n e)

taken_many : (ns : List ℕ) (i n : ℕ) → slice_get ns i ≡ Some n → length (take i ns) ≡ i
taken_many [] i n e = absurd (cc)
taken_many (m ∷ ns) zero n e = refl
taken_many (m ∷ ns) (suc i) n e = ap suc (taken_many ns i n e)

counted_last : (ps : List (ℕ × ℕ)) (p : ℕ × ℕ) → target_count (ps ++ p ∷ []) ≡ p.0 + 1
counted_last [] p = refl
counted_last (q ∷ []) p = refl
counted_last (q ∷ r ∷ ps) p = counted_last (r ∷ ps) p

knows_more : (ns : List ℕ) (rs : List Run) (q : Run) → AreBegun ns rs → q.before ≤ words_before ns q.first
    → q.before < 2 ^ 32 → AreBegun ns (rs ++ q ∷ [])
knows_more ns [] q h l f = (l, f, tt)
knows_more ns (r ∷ rs) q (a, b, h) l f = (a, b, knows_more ns rs q h l f)

-- the first i objects of these sizes are placed after what ends at a place: the runs so far, the last one, and where
-- they end
pub record ArePlaced (w : ℕ) (end : ℕ × ℕ) (ns : List ℕ) (i : ℕ) (first last : Run) (more : List Run) (at : ℕ × ℕ)
    : Type 0 where
  pub placed : (ms : List ℕ) → places_from w end.0 end.1 (ns ++ ms)
      ≡ places_in first more 0 0 (take i ns) ++ places_from w at.0 at.1 (drop i ns ++ ms)
  pub ends : last ≡ last_of first more
  pub begun : Begun more i
  pub here : at ≡ place_in last (words_before ns i)
  pub low : last.before ≤ words_before ns i
  pub knows : AreBegun ns more
  pub counted : 0 < i → target_count (places_in first more 0 0 (take i ns)) ≡ at.0 + 1
  pub near : at.0 ≤ end.0 + i

pub none_placed : (w : ℕ) (end : ℕ × ℕ) (ns : List ℕ) (r : Run)
    → r ≡ record { first = 0; before = 0; target = end.0; offset = end.1 }
    → ArePlaced w end ns 0 r r [] end
none_placed w end ns r e = subst (λ x. ArePlaced w end ns 0 x x [] end) (sym e) (record {
  placed = λ ms. refl;
  ends = refl;
  begun = tt;
  here = let same : end.1 ≡ end.1 + (0 - 0) = omega arith in ap (λ o. (end.0, o)) same;
  low = omega arith;
  knows = tt;
  counted = λ l. absurd (omega (arith, l));
  near = omega arith;
})

-- a place by its parts
abbrev pub with_offset : ℕ → ℕ → ℕ × ℕ
with_offset t o = (t, o)

-- one object more is placed
module _ (w : ℕ) (end : ℕ × ℕ) (ns : List ℕ) (i n : ℕ) (first last : Run) (more : List Run) (at p : ℕ × ℕ) (r : Run)
    (h : ArePlaced w end ns i first last more at) (e : slice_get ns i ≡ Some n) (next : p ≡ next_place w at n)
    (is : r ≡ record { first = i; before = words_before ns i; target = p.0; offset = p.1 }) (few : r.before < 2 ^ 32)
  where
    one : suc i ≡ i + 1
    one = omega arith

    words : words_before ns (i + 1) ≡ words_before ns i + n
    words = ap (words_before ns) (sym one) ∙ before_more ns i n e

    -- with runs in which it has its place
    places_with : (more2 : List Run) → places_in first more2 0 0 (take i ns) ≡ places_in first more 0 0 (take i ns)
        → place_in (run_of first more2 i) (words_before ns i) ≡ p
        → places_in first more 0 0 (take i ns) ++ p ∷ [] ≡ places_in first more2 0 0 (take (i + 1) ns)
    places_with more2 before this =
        ap₂ (λ xs q. xs ++ q ∷ []) (sym before) (sym this)
        ∙ sym (places_more first more2 0 0 i (words_before ns i) (take i ns) n
        (omega (arith, taken_many ns i n e)) (omega arith))
        ∙ ap (places_in first more2 0 0) (sym (taken ns i n e) ∙ ap (λ k. take k ns) one)

    counted_with : (more2 : List Run) → places_in first more2 0 0 (take i ns) ≡ places_in first more 0 0 (take i ns)
        → place_in (run_of first more2 i) (words_before ns i) ≡ p
        → target_count (places_in first more2 0 0 (take (i + 1) ns)) ≡ p.0 + 1
    counted_with more2 before this =
        ap target_count (sym (places_with more2 before this)) ∙ counted_last (places_in first more 0 0 (take i ns)) p

    placed_with : (more2 : List Run) → places_in first more2 0 0 (take i ns) ≡ places_in first more 0 0 (take i ns)
        → place_in (run_of first more2 i) (words_before ns i) ≡ p
        → (ms : List ℕ) → places_from w end.0 end.1 (ns ++ ms)
        ≡ places_in first more2 0 0 (take (i + 1) ns) ++ places_from w p.0 (p.1 + n) (drop (i + 1) ns ++ ms)
    placed_with more2 before this ms =
        h.placed ms
        ∙ ap (λ ys. places_in first more 0 0 (take i ns) ++ places_from w at.0 at.1 (ys ++ ms))
        (dropped ns i n e ∙ ap (λ k. n ∷ drop k ns) one)
        ∙ ap (λ xs. places_in first more 0 0 (take i ns) ++ xs) (placed_first w at n (drop (i + 1) ns ++ ms)
        ∙ ap (λ (q : ℕ × ℕ). q ∷ places_from w q.0 (q.1 + n) (drop (i + 1) ns ++ ms)) (sym next))
        ∙ sym (append_assoc (places_in first more 0 0 (take i ns)) (p ∷ [])
        (places_from w p.0 (p.1 + n) (drop (i + 1) ns ++ ms)))
        ∙ ap (λ xs. xs ++ places_from w p.0 (p.1 + n) (drop (i + 1) ns ++ ms)) (places_with more2 before this)

    -- the object's target is the last run's
    same_run : last.target ≡ p.0 → ArePlaced w end ns (i + 1) first last more (p.0, p.1 + n)
    same_run same = record {
      placed = placed_with more refl this;
      ends = h.ends;
      begun = begun_more more i (i + 1) refl h.begun;
      here = here;
      low = omega (arith, h.low, words);
      knows = h.knows;
      counted = λ l. counted_with more refl this;
      near = omega (arith, h.near, ap (λ (q : ℕ × ℕ). q.0) there);
    }
      where
        by_test : (b : Bool) → nat_le (at.1 + n) w ≡ b → p ≡ cond b at (at.0 + 1, 0) → p ≡ at
        by_test true f k = k
        by_test false f k = absurd (omega (
          arith,
          same,
          ap (λ (q : ℕ × ℕ). q.0) k,
          ap (λ (q : ℕ × ℕ). q.0) h.here,
        ))

        there : p ≡ at
        there = by_test (nat_le (at.1 + n) w) refl next

        this : place_in (run_of first more i) (words_before ns i) ≡ p
        this = ap (λ q. place_in q (words_before ns i)) (run_last first more i i h.begun (omega arith) ∙ sym h.ends)
            ∙ sym h.here ∙ sym there

        here : (p.0, p.1 + n) ≡ place_in last (words_before ns (i + 1))
        here =
            let offset : p.1 + n ≡ last.offset + (words_before ns (i + 1) - last.before) = omega (
              arith,
              words,
              h.low,
              ap (λ (q : ℕ × ℕ). q.1) there,
              ap (λ (q : ℕ × ℕ). q.1) h.here,
            ) in
            let run : p.0 ≡ last.target = sym same in (λ k. (run k, offset k))

    -- it is another one
    new_run : ArePlaced w end ns (i + 1) first r (more ++ r ∷ []) (p.0, p.1 + n)
    new_run = record {
      placed = placed_with (more ++ r ∷ []) before this;
      ends = sym (last_is first more r);
      begun = begun;
      here = subst (λ q. (p.0, p.1 + n) ≡ place_in q (words_before ns (i + 1))) (sym is) here;
      low = omega (arith, words, ap (λ (q : Run). q.before) is);
      knows = knows_more ns more r h.knows
          (omega (arith, ap (λ (q : Run). q.before) is, ap (λ (q : Run). words_before ns q.first) is)) few;
      counted = λ l. counted_with (more ++ r ∷ []) before this;
      near = by_test (nat_le (at.1 + n) w) next;
    }
      where
        begun : Begun (more ++ r ∷ []) (i + 1)
        begun = begun_with more r i (i + 1) refl (ap (λ (q : Run). q.first) is) h.begun

        before : places_in first (more ++ r ∷ []) 0 0 (take i ns) ≡ places_in first more 0 0 (take i ns)
        before =
            places_before first more r 0 0 (take i ns) (omega (arith, taken_many ns i n e, ap (λ (q : Run). q.first) is))

        there : with_offset p.0 (p.1 + (words_before ns i - words_before ns i)) ≡ p
        there =
            let same : p.1 + (words_before ns i - words_before ns i) ≡ p.1 = omega arith in
            ap (λ o. with_offset p.0 o) same

        this : place_in (run_of first (more ++ r ∷ []) i) (words_before ns i) ≡ p
        this = ap (λ q. place_in q (words_before ns i)) (run_last first (more ++ r ∷ []) (i + 1) i begun (omega arith)
            ∙ last_is first more r ∙ is) ∙ there

        here : with_offset p.0 (p.1 + n) ≡ with_offset p.0 (p.1 + (words_before ns (i + 1) - words_before ns i))
        here =
            let same : p.1 + n ≡ p.1 + (words_before ns (i + 1) - words_before ns i) = omega (arith, words) in
            ap (λ o. with_offset p.0 o) same

        by_test : (b : Bool) → p ≡ cond b at (at.0 + 1, 0) → p.0 ≤ end.0 + (i + 1)
        by_test true k = omega (arith, h.near, ap (λ (q : ℕ × ℕ). q.0) k)
        by_test false k = omega (arith, h.near, ap (λ (q : ℕ × ℕ). q.0) k)

    -- whichever it is
    pub placed_next : (last2 : Run) (more2 : List Run) (at2 : ℕ × ℕ) → last2 ≡ last_with last r
        → more2 ≡ runs_with more last r → at2 ≡ (p.0, p.1 + n) → ArePlaced w end ns (i + 1) first last2 more2 at2
    placed_next last2 more2 at2 f g k =
        subst (λ x. ArePlaced w end ns (i + 1) first last2 more2 x) (sym k)
        (subst (λ x. ArePlaced w end ns (i + 1) first x more2 (p.0, p.1 + n)) (sym f)
        (subst (λ x. ArePlaced w end ns (i + 1) first (last_with last r) x (p.0, p.1 + n)) (sym g)
        (by_test (last.target == r.target) refl)))
      where
        by_test : (b : Bool) → (last.target == r.target) ≡ b
            → ArePlaced w end ns (i + 1) first (cond b last r) (cond b more (more ++ r ∷ [])) (p.0, p.1 + n)
        by_test true c = same_run (grind (arith, nat_tests, c, ap (λ (q : Run). q.target) is))
        by_test false c = new_run

-- objects up to another one fit where those before them end: they go there too
pub placed_up_to : (w : ℕ) (end : ℕ × ℕ) (ns : List ℕ) (i j k : ℕ) (first last : Run) (more : List Run) (at to : ℕ × ℕ)
    → ArePlaced w end ns i first last more at → j ≡ i + k → j ≤ length ns → words_before ns j < 2 ^ 32
    → at.1 + (words_before ns j - words_before ns i) ≤ w
    → to ≡ with_offset at.0 (at.1 + (words_before ns j - words_before ns i)) → ArePlaced w end ns j first last more to
placed_up_to w end ns i j zero first last more at to h e l few fits is =
    let same : i ≡ j = omega (arith, e) in
    let none : at.1 ≡ at.1 + (words_before ns j - words_before ns i) =
    omega (arith, ap (words_before ns) same) in
    subst (λ x. ArePlaced w end ns j first last more x)
    (ap (with_offset at.0) none ∙ sym is)
    (subst (λ m. ArePlaced w end ns m first last more at) same h)
placed_up_to w end ns i j (suc k) first last more at to h e l few fits is =
    placed_up_to w end ns (i + 1) j k first last more (at.0, at.1 + n) to next (omega (arith, e)) l few
    (omega (arith, fits, step, up, below)) (is ∙ ap (with_offset at.0) (omega (arith, step, up, below)))
  where
    one : i + 1 ≡ suc i
    one = omega arith

    n : ℕ
    n = get_or ns i 0

    there : slice_get ns i ≡ Some n
    there = slice_get-get_or ns i 0 (omega (arith, e, l))

    step : words_before ns (i + 1) ≡ words_before ns i + n
    step = ap (words_before ns) one ∙ before_more ns i n there

    up : words_before ns (i + 1) ≤ words_before ns j
    up = before_grows ns (i + 1) j (omega (arith, e))

    below : words_before ns i ≤ words_before ns j
    below = before_grows ns i j (omega (arith, e))

    placed : at ≡ next_place w at n
    placed = by_test (nat_le (at.1 + n) w) refl
      where
        by_test : (b : Bool) → nat_le (at.1 + n) w ≡ b → at ≡ cond b at (at.0 + 1, 0)
        by_test true f = refl
        by_test false f = absurd (omega (arith, fits, step, up, below, leb-false (at.1 + n) w f))

    next : ArePlaced w end ns (i + 1) first last more (at.0, at.1 + n)
    next = same_run w end ns i n first last more at at
        (record { first = i; before = words_before ns i; target = at.0; offset = at.1 }) h there placed refl
        (omega (arith, few, below)) (sym (ap (λ (q : ℕ × ℕ). q.0) h.here))

-- all are placed
pub all_placed : (w : ℕ) (end : ℕ × ℕ) (ns : List ℕ) (i : ℕ) (first last : Run) (more : List Run) (at : ℕ × ℕ)
    → ArePlaced w end ns i first last more at → length ns ≤ i
    → (ms : List ℕ) → places_from w end.0 end.1 (ns ++ ms)
    ≡ places_in first more 0 0 ns ++ places_from w at.0 at.1 ms
all_placed w end ns i first last more at h l ms = h.placed ms
    ∙ ap₂ (λ xs ys. places_in first more 0 0 xs ++ places_from w at.0 at.1 (ys ++ ms)) (take_all i ns l) (drop_all i ns l)

pub all_counted : (w : ℕ) (end : ℕ × ℕ) (ns : List ℕ) (i : ℕ) (first last : Run) (more : List Run) (at : ℕ × ℕ)
    → ArePlaced w end ns i first last more at → length ns ≤ i → 0 < length ns
    → target_count (places_in first more 0 0 ns) ≡ at.0 + 1
all_counted w end ns i first last more at h l some =
    ap (λ xs. target_count (places_in first more 0 0 xs)) (sym (take_all i ns l)) ∙ h.counted (omega (arith, l, some))

-- there is a place for each object
pub places_many : (r : Run) (rs : List Run) (i b : ℕ) (ns : List ℕ) → length (places_in r rs i b ns) ≡ length ns
places_many r rs i b [] = refl
places_many r rs i b (n ∷ ns) = ap suc (places_many r rs (i + 1) (b + n) ns)

-- a run knows no more words than an object of it has before it
pub run_knows : (ns : List ℕ) (r : Run) (rs : List Run) (i : ℕ) → AreBegun ns rs → r.before ≤ words_before ns i
    → r.before < 2 ^ 32 → ((run_of r rs i).before ≤ words_before ns i) × ((run_of r rs i).before < 2 ^ 32)
run_knows ns r [] i h l f = (l, f)
run_knows ns r (q ∷ qs) i (a, b, h) l f = by_test (nat_le q.first i) refl (run_knows ns q qs i h) (run_knows ns r qs i h l f)
  where
    by_test : (t : Bool) → nat_le q.first i ≡ t
        → (q.before ≤ words_before ns i → q.before < 2 ^ 32
        → ((run_of q qs i).before ≤ words_before ns i) × ((run_of q qs i).before < 2 ^ 32))
        → ((run_of r qs i).before ≤ words_before ns i) × ((run_of r qs i).before < 2 ^ 32)
        → ((run_of (cond t q r) qs i).before ≤ words_before ns i) × ((run_of (cond t q r) qs i).before < 2 ^ 32)
    by_test true e next rest = next (omega (arith, a, before_grows ns q.first i (leb-true q.first i e))) b
    by_test false e next rest = rest

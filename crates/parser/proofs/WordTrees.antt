-- Readers of one word as trees: required words, numbers, names, addresses, and the end of a line.
use Rattle.parser.proofs.Names.{Bool, List, None, Option, Some, [], ap, append-nil, arith, cond, false, inl, inr}
use Rattle.parser.proofs.Names.{length, nat_lt, refl, subst, sym, true, ℕ, ◌++◌, ◌<◌, ◌^◌, ◌∙◌, ◌∷◌, ◌≡◌, ◌≤◌}
use Rattle.parser.proofs.Names.{cases_lt, not-false, or_parts, Decides-eqb, nat_tests, bytes_eq-Decides, decimal, Err}
use Rattle.parser.proofs.Names.{Ok, Result, nat_le, not, ◌==◌, ◌||◌, bytes_eq, IsWrongWord, flaw, in_range, named_in}
use Rattle.parser.proofs.Names.{or_flaw, ◌>>=◌, capped_from, end_at, fixed_at, is_number, named_at, number_at}
use Rattle.parser.proofs.Names.{word_at, word_or, FaultKind, Flaw}
use Rattle.std.proofs.lemmas.Bool.{leb-false}
use Rattle.parser.proofs.Numbers.{number_spelled, IsPlain, number_plain}
use Rattle.parser.proofs.WordPlaces.{past_end, fixed_again, number_again, named_again, finds_word, none_past}
use Rattle.parser.proofs.Trees.{IsReadBy, run_ok, Tree, Done, Fail, Look, Skip, word_in, place_in, behind_in, run}
use Rattle.parser.proofs.Trees.{Starts, Lives, IsSound, EndsAt, ends_chain, ends_map, IsGood, chain, good_chain}
use Rattle.parser.proofs.Trees.{run_chain, bind_same, Words, Sense, Rest, Seen}
use Rattle.parser.specs.declared.fault.FaultKind.TheVariants as kinds

-- ---- one word

-- anything may follow, or nothing
abbrev pub Any : Rest
Any ws = Unit {0}

abbrev pub IsLast : Rest
IsLast ws = ws ≡ []

abbrev pub or_missing : {A : Type 0} → FaultKind → (List ℕ → Tree A) → Option (List ℕ) → Tree A
or_missing kind f None = Fail kind
or_missing kind f (Some w) = f w

-- a word that is required
abbrev pub word_tree : {A : Type 0} → FaultKind → (List ℕ → Tree A) → Tree A
word_tree kind f = Look (or_missing kind f)

pub bind_assoc : {A B C : Type 0} (r : Result A Flaw) (f : A → Result B Flaw) (g : B → Result C Flaw)
    → ((r >>= f) >>= g) ≡ (r >>= (λ x. f x >>= g))
bind_assoc (Ok x) f g = refl
bind_assoc (Err d) f g = refl

pub bind_ok_is : {A : Type 0} (r : Result A Flaw) → (r >>= (λ x. Ok x)) ≡ r
bind_ok_is (Ok x) = refl
bind_ok_is (Err d) = refl

-- a tree that is done
abbrev pub done_lives : {A : Type 0} (May : Rest) (P : Sense A) (x : A) → P x [] → Lives May P (Done x)
done_lives May P x h =
    record { words = []; plain = tt; value = x; is = h; reads = λ line at rest may e. (at, refl, e) }

abbrev pub done_good : {A : Type 0} (May : Rest) (P : Sense A) (x : A) → P x [] → IsGood May P (Done x)
done_good May P x h = record { lives = done_lives May P x h; sound = λ c. h }

pub past_sound : {A : Type 0} (May : Rest) (P : Sense A) (first : Bool)
    (w : List ℕ) (x : A) → P x (w ∷ []) → IsSound May P first (Some (Some w)) (Skip (Done x))
past_sound {A} May P first w x h = (done_lives May (λ (x : A) ws. P x (w ∷ ws)) x h, h)

-- a choice is sound if each of its trees is, by the test
pub sound_pick : {A : Type 0} (May : Rest) (P : Sense A) (first : Bool) (c : Seen) (b : Bool) (t u : Tree A)
    → (b ≡ true → IsSound May P first c t) → (b ≡ false → IsSound May P first c u) → IsSound May P first c (cond b t u)
sound_pick May P first c true t u h k = h refl
sound_pick May P first c false t u h k = k refl

-- a good tree, with a weaker condition on its values, or after which less may follow
module _ {A : Type 0} (More May : Rest) (less : (rest : Words) → May rest → More rest) where
  changed_lives : (P Q : Sense A) (t : Tree A) → ((x : A) (ws : Words) → P x ws → Q x ws)
      → Lives More P t → Lives May Q t
  changed_lives P Q t h l = record {
    words = l.words;
    plain = l.plain;
    value = l.value;
    is = h l.value l.words l.is;
    reads = λ line at rest may e. l.reads line at rest (less rest may) e;
  }

  changed_sound : (t : Tree A) (P Q : Sense A) → ((x : A) (ws : Words) → P x ws → Q x ws)
      → (first : Bool) (c : Seen) → IsSound More P first c t → IsSound May Q first c t
  changed_sound (Done x) P Q h first c s = h x [] s
  changed_sound (Fail kind) P Q h first c s = s
  changed_sound (Look f) P Q h first c s = λ o. changed_sound (f o) P Q h first (Some o) (s o)
  changed_sound (Skip t) P Q h first None s = s
  changed_sound (Skip t) P Q h first (Some None) s = s
  changed_sound (Skip t) P Q h first (Some (Some w)) s =
      let past = λ (x : A) (ws : Words). h x (w ∷ ws) in (
        changed_lives (λ (x : A) ws. P x (w ∷ ws)) (λ (x : A) ws. Q x (w ∷ ws)) t past s.0,
        changed_sound t (λ (x : A) ws. P x (w ∷ ws)) (λ (x : A) ws. Q x (w ∷ ws)) past false None s.1,
      )

  pub changed : (P Q : Sense A) (t : Tree A) → ((x : A) (ws : Words) → P x ws → Q x ws)
      → IsGood More P t → IsGood May Q t
  changed P Q t h g =
      record { lives = changed_lives P Q t h g.lives; sound = λ c. changed_sound t P Q h false c (g.sound c) }

pub weaker : {A : Type 0} (May : Rest) (P Q : Sense A) (t : Tree A)
    → ((x : A) (ws : Words) → P x ws → Q x ws) → IsGood May P t → IsGood May Q t
weaker May P Q t h g = changed May May (λ rest may. may) P Q t h g

pub narrower : {A : Type 0} (More May : Rest) → ((rest : Words) → May rest → More rest)
    → (P : Sense A) (t : Tree A) → IsGood More P t → IsGood May P t
narrower More May less P t g = changed More May less P P t (λ x ws p. p) g

-- a good tree, whose values go into others
pub good_map : {A B : Type 0} (May : Rest) (P : Sense A) (Q : Sense B) (make : A → B) (t : Tree A)
    → ((x : A) (ws : Words) → P x ws → Q (make x) ws) → IsGood May P t → IsGood May Q (chain t (λ x. Done (make x)))
good_map {A} {B} May P Q make t h g = good_chain May May (λ (x : A). Done (make x)) P Q t g (record {
  good = λ x ws p. done_good May (λ (y : B) vs. Q y (ws ++ vs)) (make x)
      (subst (Q (make x)) (sym (append-nil ws)) (h x ws p));
  follows = λ x ws p rest may. may;
})

pub word_sound : {A : Type 0} (May : Rest) (P : Sense A) (first : Bool) (c : Seen) (kind : FaultKind)
    (f : List ℕ → Tree A) → ((front : List ℕ) → IsWrongWord kind front [])
    → ((w : List ℕ) → IsSound May P first (Some (Some w)) (f w)) → IsSound May P first c (word_tree kind f)
word_sound {A} May P first c kind f missing h = λ o. by_word o
  where
    by_word : (o : Option (List ℕ)) → IsSound May P first (Some o) (or_missing kind f o)
    by_word None = missing
    by_word (Some w) = h w

module _ {A : Type 0} (line : List ℕ) (at : ℕ) where
  pub run_pick : (b : Bool) (t u : Tree A) (r s : Result (A × ℕ) Flaw) → run t line at ≡ r → run u line at ≡ s
      → run (cond b t u) line at ≡ cond b r s
  run_pick true t u r s h k = h
  run_pick false t u r s h k = k

  pub word_run : (kind : FaultKind) (f : List ℕ → Tree A) (judge : List ℕ × ℕ → Result (A × ℕ) Flaw)
      → ((w : List ℕ × ℕ) → word_at line at ≡ Some w → run (f w.0) line at ≡ judge w)
      → run (word_tree kind f) line at ≡ (word_or line at kind >>= judge)
  unfolding word_or
  word_run kind f judge h = by_word (word_at line at) refl
    where
      by_word : (o : Option (List ℕ × ℕ)) → word_at line at ≡ o
          → run (or_missing kind f (word_in o)) line at ≡ (or_flaw o (flaw (length line) kind) >>= judge)
      by_word None e = ap (λ (o : Option (List ℕ × ℕ)). Err (flaw (place_in line at o) kind)) e
      by_word (Some w) e = h w e

  pub fail_run : (kind : FaultKind) (w : List ℕ × ℕ) → word_at line at ≡ Some w
      → run {A = A} (Fail kind) line at ≡ Err (flaw at kind)
  fail_run kind w e = ap (λ (o : Option (List ℕ × ℕ)). Err (flaw (place_in line at o) kind)) e

  -- a test that refuses the word
  pub refuse_run : {B : Type 0} (kind : FaultKind) (w : List ℕ × ℕ) → word_at line at ≡ Some w → (b : Bool)
      (t : Tree A) (r : Result B Flaw) (g : B → Result (A × ℕ) Flaw) → run t line at ≡ (r >>= g)
      → run (cond b (Fail kind) t) line at ≡ (cond b (Err (flaw at kind)) r >>= g)
  refuse_run kind w e true t r g h = fail_run kind w e
  refuse_run kind w e false t r g h = h

  pub past_run : (x : A) (w : List ℕ × ℕ) → word_at line at ≡ Some w → run (Skip (Done x)) line at ≡ Ok (x, w.1)
  past_run x w e = ap (λ (o : Option (List ℕ × ℕ)). Ok (x, behind_in at o)) e

-- ---- required words

abbrev pub fixed_tree : List ℕ → Tree (Unit {0})
fixed_tree text =
    word_tree kinds.UnknownWord (λ w. cond (bytes_eq w text) (Skip (Done tt)) (Fail kinds.UnknownWord))

pub fixed_run : (line : List ℕ) (at : ℕ) (text : List ℕ)
    → run (fixed_tree text) line at ≡ (fixed_at line at text kinds.UnknownWord >>= (λ after. Ok (tt, after)))
unfolding fixed_at
fixed_run line at text =
    word_run line at kinds.UnknownWord _ (λ w. cond (bytes_eq w.0 text) (Ok w.1) (Err (flaw at kinds.UnknownWord))
    >>= (λ after. Ok (tt, after))) (λ w e. by_test w e (bytes_eq w.0 text))
    ∙ sym (bind_assoc (word_or line at kinds.UnknownWord) _ _)
  where
    by_test : (w : List ℕ × ℕ) → word_at line at ≡ Some w → (b : Bool)
        → run {A = Unit {0}} (cond b (Skip (Done tt)) (Fail kinds.UnknownWord)) line at
        ≡ (cond b (Ok w.1) (Err (flaw at kinds.UnknownWord)) >>= (λ after. Ok (tt, after)))
    by_test w e true = past_run line at tt w e
    by_test w e false = fail_run line at kinds.UnknownWord w e

abbrev pub IsText : List ℕ → Unit {0} → Rest
IsText text u ws = ws ≡ text ∷ []

pub fixed_good : (text : List ℕ) → IsPlain text → IsGood Any (IsText text) (fixed_tree text)
fixed_good text plain = record {
  lives = record {
    words = text ∷ [];
    plain = (plain, tt);
    value = tt;
    is = refl;
    reads = λ line at rest may e. let a = fixed_again line at text kinds.UnknownWord rest e in
        (a.0, fixed_run line at text ∙ ap (λ (r : Result ℕ Flaw). r >>= (λ after. Ok (tt, after))) a.1, a.2);
  };
  sound = λ c. word_sound Any (IsText text) false c kinds.UnknownWord _ (λ front. tt) (λ w.
      sound_pick Any (IsText text) false (Some (Some w)) (bytes_eq w text) (Skip (Done tt)) (Fail kinds.UnknownWord)
      (λ e. past_sound Any (IsText text) false w tt (ap (λ (x : List ℕ). x ∷ []) ((bytes_eq-Decides w text).0 e)))
      (λ e front start. tt));
}

-- ---- numbers

-- a number from low to high, with what follows it before the next word is looked at
abbrev pub number_or : {A : Type 0} → ℕ → ℕ → (ℕ → Tree A) → Tree A
number_or low high k = word_tree kinds.NumberExpected (λ w. cond (not (is_number w)) (Fail kinds.NumberExpected)
    (cond (nat_lt (capped_from 0 w) low || nat_lt high (capped_from 0 w)) (Fail kinds.NumberOutOfRange)
    (k (capped_from 0 w))))

abbrev pub number_tree : ℕ → ℕ → Tree ℕ
number_tree low high = number_or low high (λ n. Skip (Done n))

pub number_or_run : {A : Type 0} (line : List ℕ) (at low high : ℕ) (k : ℕ → Tree A) (g : ℕ × ℕ → Result (A × ℕ) Flaw)
    → ((n : ℕ) (w : List ℕ × ℕ) → word_at line at ≡ Some w → run (k n) line at ≡ g (n, w.1))
    → run (number_or low high k) line at ≡ (number_at line at low high >>= g)
unfolding number_at
number_or_run {A} line at low high k g h =
    word_run line at kinds.NumberExpected _ (λ w. cond (not (is_number w.0)) (Err (flaw at kinds.NumberExpected))
    (in_range (capped_from 0 w.0) w.1 at low high) >>= g) (λ w e.
    let n = capped_from 0 w.0 in
    refuse_run line at kinds.NumberExpected w e (not (is_number w.0)) _ _ g
    (refuse_run line at kinds.NumberOutOfRange w e (nat_lt n low || nat_lt high n) (k n) (Ok (n, w.1)) g (h n w e)))
    ∙ sym (bind_assoc (word_or line at kinds.NumberExpected) _ g)

pub number_run : (line : List ℕ) (at low high : ℕ) → run (number_tree low high) line at ≡ number_at line at low high
number_run line at low high =
    number_or_run line at low high (λ n. Skip (Done n)) (λ x. Ok x) (λ n w e. past_run line at n w e)
    ∙ bind_ok_is (number_at line at low high)

-- a number from low to high, and its word
pub record IsNumberOf (low high n : ℕ) (ws : Words) : Type 0 where
  pub words_are : ws ≡ decimal n ∷ []
  pub above : low ≤ n
  pub below : n ≤ high

no_number : is_number [] ≡ false
unfolding is_number
no_number = refl

pub number_or_sound : {A : Type 0} (May : Rest) (P : Sense A) (first : Bool) (c : Seen) (low high : ℕ) (k : ℕ → Tree A)
    → high < 2 ^ 64 → ((n : ℕ) (w : List ℕ) → is_number w ≡ true → IsNumberOf low high n (w ∷ [])
    → IsSound May P first (Some (Some w)) (k n)) → IsSound May P first c (number_or low high k)
number_or_sound May P first c low high k fits h = word_sound May P first c kinds.NumberExpected _ (λ front. no_number)
    (λ w. let n = capped_from 0 w in
    sound_pick May P first (Some (Some w)) (not (is_number w)) (Fail kinds.NumberExpected) _
    (λ e front start. grind arith) (λ e. sound_pick May P first (Some (Some w)) (nat_lt n low || nat_lt high n)
    (Fail kinds.NumberOutOfRange) (k n) (λ d front start. inl (not-false (is_number w) e)) (λ d.
    let number = not-false (is_number w) e in
    let sides = or_parts (nat_lt n low) (nat_lt high n) d in
    let above : low ≤ n = grind (arith, nat_tests) in
    let below : n ≤ high = grind (arith, nat_tests) in
    h n w number (record {
      words_are = ap (λ (x : List ℕ). x ∷ []) (sym (number_spelled w number (omega arith)));
      above = above;
      below = below;
    }))))

pub number_ok : (line : List ℕ) (at low high : ℕ) (v : ℕ × ℕ) → high < 2 ^ 64 → number_at line at low high ≡ Ok v
    → IsReadBy (IsNumberOf low high) line at v.1 v.0
number_ok line at low high v fits h = run_ok Any (IsNumberOf low high) line v (number_tree low high) false None at
    (number_or_sound Any (IsNumberOf low high) false None low high (λ n. Skip (Done n)) fits (λ n w number is.
    past_sound Any (IsNumberOf low high) false w n is)) tt (number_run line at low high ∙ h)

pub number_lives : (low high n : ℕ) → low ≤ n → n ≤ high → high < 2 ^ 64 → Lives Any (IsNumberOf low high)
    (number_tree low high)
number_lives low high n above below fits = record {
  words = decimal n ∷ [];
  plain = (number_plain n (omega arith), tt);
  value = n;
  is = record { words_are = refl; above = above; below = below };
  reads = λ line at rest may e. let a = number_again line at low high n rest (omega arith) above below e in
      (a.0, number_run line at low high ∙ a.1, a.2);
}

pub number_good : (low high : ℕ) → low ≤ high → high < 2 ^ 64 → IsGood Any (IsNumberOf low high) (number_tree low high)
number_good low high some fits = record {
  lives = number_lives low high low (omega arith) some fits;
  sound = λ c. number_or_sound Any (IsNumberOf low high) false c low high (λ n. Skip (Done n)) fits
      (λ n w number is. past_sound Any (IsNumberOf low high) false w n is);
}

-- ---- names

abbrev pub name_in : {A : Type 0} → ℕ → ℕ → FaultKind → (ℕ → Tree A) → List ℕ → Tree A
name_in letter count missing k [] = Fail kinds.UnknownWord
name_in letter count missing k (b ∷ bs) = cond (not (b == letter) || not (is_number bs)) (Fail kinds.UnknownWord)
    (cond (nat_le count (capped_from 0 bs)) (Fail missing) (k (capped_from 0 bs)))

-- a letter and a number below count, with what follows it before the next word is looked at
abbrev pub named_or : {A : Type 0} → ℕ → ℕ → FaultKind → (ℕ → Tree A) → Tree A
named_or letter count missing k = word_tree kinds.UnknownWord (name_in letter count missing k)

abbrev pub named_tree : ℕ → ℕ → FaultKind → Tree ℕ
named_tree letter count missing = named_or letter count missing (λ n. Skip (Done n))

pub named_or_run : {A : Type 0} (line : List ℕ) (at letter count : ℕ) (missing : FaultKind) (k : ℕ → Tree A)
    (g : ℕ × ℕ → Result (A × ℕ) Flaw)
    → ((n : ℕ) (w : List ℕ × ℕ) → word_at line at ≡ Some w → run (k n) line at ≡ g (n, w.1))
    → run (named_or letter count missing k) line at ≡ (named_at line at letter count missing >>= g)
unfolding named_at
named_or_run {A} line at letter count missing k g h =
    word_run line at kinds.UnknownWord _ _ (λ w e. by_word w.0 w.1 e)
    ∙ sym (bind_assoc (word_or line at kinds.UnknownWord) _ g)
  where
    by_word : (word : List ℕ) (after : ℕ) → word_at line at ≡ Some (word, after)
        → run (name_in letter count missing k word) line at ≡ (named_in word after at letter count missing >>= g)
    by_word [] after e = fail_run {A = A} line at kinds.UnknownWord ([], after) e
    by_word (b ∷ bs) after e =
        let n = capped_from 0 bs in
        refuse_run line at kinds.UnknownWord (b ∷ bs, after) e (not (b == letter) || not (is_number bs)) _ _ g
        (refuse_run line at missing (b ∷ bs, after) e (nat_le count n) (k n) (Ok (n, after)) g (h n (b ∷ bs, after) e))

pub named_run : (line : List ℕ) (at letter count : ℕ) (missing : FaultKind)
    → run (named_tree letter count missing) line at ≡ named_at line at letter count missing
named_run line at letter count missing =
    named_or_run line at letter count missing (λ n. Skip (Done n)) (λ x. Ok x) (λ n w e. past_run line at n w e)
    ∙ bind_ok_is (named_at line at letter count missing)

-- a letter and a number below count, as a word
pub record IsNameIn (letter count n : ℕ) (ws : Words) : Type 0 where
  pub words_are : ws ≡ (letter ∷ decimal n) ∷ []
  pub below : n < count

-- the fault if a name's number is too large
abbrev pub IsAbsent : Bool → ℕ → FaultKind → Type 0
IsAbsent first letter missing = (front digits : List ℕ) → Starts first front → is_number digits ≡ true
    → IsWrongWord missing front (letter ∷ digits)

pub name_sound : {A : Type 0} (May : Rest) (P : Sense A) (first : Bool)
    (letter count : ℕ) (missing : FaultKind) (k : ℕ → Tree A) → count < 2 ^ 64 → IsAbsent first letter missing
    → (w : List ℕ) → ((n : ℕ) → IsNameIn letter count n (w ∷ []) → IsSound May P first (Some (Some w)) (k n))
    → IsSound May P first (Some (Some w)) (name_in letter count missing k w)
name_sound May P first letter count missing k fits absent [] h = λ front start. tt
name_sound May P first letter count missing k fits absent (b ∷ bs) h =
    let n = capped_from 0 bs in
    let own = λ (e : (not (b == letter) || not (is_number bs)) ≡ false). or_parts (not (b == letter)) (not
    (is_number bs)) e in
    let same = λ (e : (not (b == letter) || not (is_number bs)) ≡ false).
    (Decides-eqb b letter).0 (not-false (b == letter) (own e).0) in
    let number = λ (e : (not (b == letter) || not (is_number bs)) ≡ false). not-false (is_number bs) (own e).1 in
    sound_pick May P first (Some (Some (b ∷ bs))) (not (b == letter) || not (is_number bs)) (Fail kinds.UnknownWord) _
    (λ e front start. tt) (λ e. sound_pick May P first (Some (Some (b ∷ bs))) (nat_le count n) (Fail missing) (k n)
    (λ l front start. subst (λ (x : ℕ). IsWrongWord missing front (x ∷ bs)) (sym (same e))
    (absent front bs start (number e))) (λ l.
    let below = leb-false count n l in
    h n (record {
      words_are = ap (λ (x : ℕ). (x ∷ bs) ∷ []) (same e)
          ∙ ap (λ (x : List ℕ). (letter ∷ x) ∷ []) (sym (number_spelled bs (number e) (omega arith)));
      below = below;
    })))

pub named_good : (letter count : ℕ) (missing : FaultKind) → 1 ≤ count → count < 2 ^ 64 → 32 < letter
    → IsAbsent false letter missing → IsGood Any (IsNameIn letter count) (named_tree letter count missing)
named_good letter count missing some fits plain absent = record {
  lives = record {
    words = (letter ∷ decimal 0) ∷ [];
    plain = (
      (let high : nat_lt 32 letter ≡ true = grind (arith, nat_tests) in rw high (number_plain 0 (omega arith))),
      tt,
    );
    value = 0;
    is = record { words_are = refl; below = some };
    reads = λ line at rest may e. let a = named_again line at letter count missing 0 rest (omega arith) some e in
        (a.0, named_run line at letter count missing ∙ a.1, a.2);
  };
  sound = λ c. word_sound Any (IsNameIn letter count) false c kinds.UnknownWord _ (λ front. tt) (λ w.
      name_sound Any (IsNameIn letter count) false letter count missing (λ n. Skip (Done n)) fits absent w
      (λ n is. past_sound Any (IsNameIn letter count) false w n is));
}

-- ---- the end

abbrev pub end_in : Option (List ℕ) → Tree (Unit {0})
end_in None = Done tt
end_in (Some w) = Fail kinds.EndOfLineExpected

abbrev pub end_tree : Tree (Unit {0})
end_tree = Look end_in

pub end_run : (line : List ℕ) (at : ℕ) → run end_tree line at ≡ (end_at line at >>= (λ u. Ok (u, at)))
unfolding end_at
end_run line at = elim (cases_lt (length line) at) [
  | inl past ↦
      let test : nat_le at (length line) ≡ false = grind (arith, nat_tests) in
      ap (λ (o : Option (List ℕ × ℕ)). run (end_in (word_in o)) line at) (none_past line at past) ∙ rw test refl
  | inr within ↦
      let test : nat_le at (length line) ≡ true = grind (arith, nat_tests) in
      let found = finds_word line at within in
      ap (λ (o : Option (List ℕ × ℕ)). run (end_in (word_in o)) line at) found.found
      ∙ fail_run {A = Unit {0}} line at kinds.EndOfLineExpected found.w found.found ∙ rw test refl
]

pub end_good : IsGood IsLast (λ (u : Unit {0}) (ws : Words). ws ≡ []) end_tree
end_good = record {
  lives = record {
    words = [];
    plain = tt;
    value = tt;
    is = refl;
    reads = λ line at rest may e. (
      at,
      ap (λ (o : Option (List ℕ × ℕ)). run (end_in (word_in o)) line at)
          (none_past line at (past_end line at (e ∙ may))),
      e,
    );
  };
  sound = λ c o. by_word o;
}
  where
    by_word : (o : Option (List ℕ)) → IsSound IsLast (λ (u : Unit {0}) (ws : Words). ws ≡ []) false (Some o) (end_in o)
    by_word None = refl
    by_word (Some w) = λ front start. start

-- ---- complete lines

-- what is read, without the place after it
abbrev pub values : {A : Type 0} → Result (A × ℕ) Flaw → Result A Flaw
values r = r >>= (λ x. Ok x.0)

pub values_chain : {A B : Type 0} (t : Tree A) (f : A → Tree B) (line : List ℕ) (at : ℕ) (r : Result (A × ℕ) Flaw)
    (g : A × ℕ → Result B Flaw) → run t line at ≡ r → ((x : A × ℕ) → values (run (f x.0) line x.1) ≡ g x)
    → values (run (chain t f) line at) ≡ (r >>= g)
values_chain {A} {B} t f line at r g e h =
    ap (λ (s : Result (B × ℕ) Flaw). values s) (run_chain t f line at ∙ ap (λ (s : Result (A × ℕ) Flaw).
    s >>= (λ (x : A × ℕ). run (f x.0) line x.1)) e)
    ∙ bind_assoc r _ _ ∙ bind_same r _ g h

-- a tree to the end of the line
abbrev pub whole_tree : {A : Type 0} → Tree A → Tree A
whole_tree t = chain t (λ x. chain end_tree (λ u. Done x))

pub whole_run : {A : Type 0} (t : Tree A) (line : List ℕ) (at : ℕ) (r : Result (A × ℕ) Flaw) → run t line at ≡ r
    → values (run (whole_tree t) line at) ≡ (r >>= (λ x. end_at line x.1 >>= (λ u. Ok x.0)))
whole_run {A} t line at r e = values_chain t (λ (x : A). chain end_tree (λ u. Done x)) line at r _ e (λ x.
    values_chain end_tree (λ u. Done x.0) line x.1 (end_at line x.1 >>= (λ u. Ok (u, x.1))) (λ u. Ok x.0)
    (end_run line x.1) (λ u. refl) ∙ bind_assoc (end_at line x.1) _ _)

pub whole_good : {A : Type 0} (P : Sense A) (t : Tree A) → IsGood IsLast P t → IsGood IsLast P (whole_tree t)
whole_good {A} P t h = good_chain IsLast IsLast (λ (x : A). chain end_tree (λ u. Done x)) P P t h (record {
  good = λ x ws p.
      let is : P x (ws ++ []) = subst (P x) (sym (append-nil ws)) p in
      record {
        lives = record {
          words = [];
          plain = tt;
          value = x;
          is = is;
          reads = λ line at rest may e. (
            at,
            ap (λ (o : Option (List ℕ × ℕ)). run (chain (end_in (word_in o)) (λ u. Done x)) line at)
                (none_past line at (past_end line at (e ∙ may))),
            e,
          );
        };
        sound = (good_map IsLast (λ (u : Unit {0}) (vs : Words). vs ≡ []) (λ (y : A) vs. P y (ws ++ vs))
            (λ u. x) end_tree (λ u vs e. subst (λ (vs : Words). P x (ws ++ vs)) (sym e) is) end_good).sound;
      };
  follows = λ x ws p rest may. may;
})

pub end_ends_at : EndsAt None end_tree
end_ends_at = λ o. by_word o
  where
    by_word : (o : Option (List ℕ)) → EndsAt (Some o) (end_in o)
    by_word None = tt
    by_word (Some w) = tt

pub whole_ends : {A : Type 0} (t : Tree A) (c : Seen) → EndsAt c (whole_tree t)
whole_ends {A} t c = ends_chain t (λ (x : A). chain end_tree (λ u. Done x)) c (λ x d. ends_map end_tree (λ u. x) d
    end_ends_at)

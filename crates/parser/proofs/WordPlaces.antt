-- Words of a line from places on, the places before and after them, and lines that agree up to a place.
use Rattle.parser.proofs.Names.{List, Some, [], ap, append-nil, append_assoc, arith, drop, inl, inr, length}
use Rattle.parser.proofs.Names.{length-append, refl, sym, take, ℕ, ◌++◌, ◌+◌, ◌<◌, ◌∙◌, ◌∷◌, ◌≡◌, ◌≢◌, ◌≤◌}
use Rattle.parser.proofs.Names.{take-append_seam, nat_tests, length-take, take-append-drop, All, AllByRecursion}
use Rattle.parser.proofs.Names.{IsWordEnd, IsWrongWord, is_idle, flaw, word_at, FaultKind, Flaw, Bool, None, Option}
use Rattle.parser.proofs.Names.{cond, false, nat_lt, position, subst, true, ◌^◌, ◌⊎◌, cases_lt, le-ltb, lt-ltb}
use Rattle.parser.proofs.Names.{ltb-false, Decides-eqb, position-Some, same_Some, bytes_eq-Decides, decimal}
use Rattle.parser.proofs.Names.{slice_split, Err, Ok, Result, nat_le, ◌==◌, ◌||◌, bytes_eq, not_refused, same_result}
use Rattle.parser.proofs.Names.{cut_at, or_flaw, ◌>>=◌, end_at, fixed_at, named_at, number_at, small_at, word_or}
use Rattle.parser.proofs.Names.{position_or_len, not}
use Rattle.parser.specs.Faults.{IsWordStart, IsWordOf}
use Rattle.parser.proofs.Lists.{all_from, split_some, split_none, split_cons}
use Rattle.std.proofs.lemmas.List.{drop-drop, length-drop}
use Rattle.parser.proofs.Numbers.{number_read}
use Rattle.std.proofs.Math.Seq.{drop-append_seam}
use Rattle.parser.specs.declared.fault.FaultKind.TheVariants as kinds

-- the byte between words
abbrev pub space : ℕ → Bool
space b = b == 32

-- the words from a place on
unfoldable pub words_from : List ℕ → ℕ → List (List ℕ)
words_from line at = cond (nat_lt (length line) at) [] (slice_split space (drop at line))

regroup : (at i : ℕ) → at + (i + 1) ≡ at + i + 1
regroup at i = omega arith

cut_words : (line : List ℕ) (at : ℕ) (o : Option ℕ) → at ≤ length line
    → position space (drop at line) ≡ o → slice_split space (drop at line)
    ≡ (cut_at line at (drop at line) o).0 ∷ words_from line (cut_at line at (drop at line) o).1
unfolding words_from
cut_words line at None within h =
    let past : nat_lt (length line) (length line + 1) ≡ true = grind (arith, nat_tests) in
    rw (split_none space (drop at line) h, past) refl
cut_words line at (Some i) within h =
    let facts = position-Some space (drop at line) i 0 h in
    let bound : at + i + 1 ≤ length line = omega (arith, facts.0, length-drop at line) in
    let inside : nat_lt (length line) (at + i + 1) ≡ false = grind (arith, nat_tests) in
    let same : drop (i + 1) (drop at line) ≡ drop (at + i + 1) line =
    drop-drop (i + 1) at line ∙ ap (λ k. drop k line) (regroup at i) in
    rw (split_some space (drop at line) i h, inside, same) refl

pub words_inside : (line : List ℕ) (at : ℕ) → nat_lt (length line) at ≡ false
    → words_from line at ≡ slice_split space (drop at line)
unfolding words_from
words_inside line at h = rw h refl

words_past : (line : List ℕ) (at : ℕ) → nat_lt (length line) at ≡ true → words_from line at ≡ []
unfolding words_from
words_past line at h = rw h refl

some_or : {A : Type 0} (b : Bool) (x y : A) → cond b None (Some x) ≡ Some y → (b ≡ false) × (x ≡ y)
some_or true x y e = absurd cc
some_or false x y e = (refl, same_Some x y e)

none_or : {A : Type 0} (b : Bool) (x : A) → cond b None (Some x) ≡ None → b ≡ true
none_or true x e = refl
none_or false x e = absurd cc

-- a word that exists is the first of the words from there on
pub word_is : (line : List ℕ) (at : ℕ) (w : List ℕ × ℕ) → word_at line at ≡ Some w
    → words_from line at ≡ w.0 ∷ words_from line w.1
unfolding word_at
word_is line at w h =
    let cut = cut_at line at (drop at line) (position space (drop at line)) in
    let p = some_or (nat_lt (length line) at) cut w h in
    let first = cut_words line at (position space (drop at line)) (ltb-false (length line) at p.0) refl in
    subst (λ (x : List ℕ × ℕ). words_from line at ≡ x.0 ∷ words_from line x.1) p.1 (words_inside line at p.0 ∙ first)

-- if there is no word, none are left
pub no_word_is : (line : List ℕ) (at : ℕ) → word_at line at ≡ None → words_from line at ≡ []
unfolding word_at
no_word_is line at h = words_past line at
    (none_or (nat_lt (length line) at) (cut_at line at (drop at line) (position space (drop at line))) h)

-- what is read at a place, and the words that are left after it
abbrev pub Reads : {A : Type 0} → List ℕ → Result (A × ℕ) Flaw → A → List (List ℕ) → Type 0
Reads line r x ws = (after : ℕ) × (r ≡ Ok (x, after)) × (words_from line after ≡ ws)

abbrev Finds : List ℕ → Option (List ℕ × ℕ) → List ℕ → List (List ℕ) → Type 0
Finds line o w ws = (after : ℕ) × (o ≡ Some (w, after)) × (words_from line after ≡ ws)

pub cons_is : (x y : List ℕ) (xs ys : List (List ℕ)) → x ∷ xs ≡ y ∷ ys → (x ≡ y) × (xs ≡ ys)
cons_is x y xs ys e = (cc, cc)

found_in : (line : List ℕ) (at : ℕ) (w : List ℕ) (ws : List (List ℕ)) → words_from line at ≡ w ∷ ws
    → (o : Option (List ℕ × ℕ)) → word_at line at ≡ o → Finds line o w ws
found_in line at w ws h None e = let none = no_word_is line at e in absurd cc
found_in line at w ws h (Some v) e =
    let first = word_is line at v e in
    let parts = cons_is v.0 w (words_from line v.1) ws (sym first ∙ h) in
    (v.1, ap (λ (x : List ℕ). Some (x, v.1)) parts.0, parts.1)

-- the first of the words from a place on exists
pub found_word : (line : List ℕ) (at : ℕ) (w : List ℕ) (ws : List (List ℕ)) → words_from line at ≡ w ∷ ws
    → (after : ℕ) × (word_at line at ≡ Some (w, after)) × (words_from line after ≡ ws)
found_word line at w ws h = found_in line at w ws h (word_at line at) refl

-- the words of a complete line
pub words_whole : (line : List ℕ) → words_from line 0 ≡ slice_split space line
words_whole line = words_inside line 0 (grind (arith, nat_tests))

-- no words are left only past the end
pub past_end : (line : List ℕ) (at : ℕ) → words_from line at ≡ [] → length line < at
past_end line at h =
    elim (cases_lt (length line) at) [
      | inl past ↦ past
      | inr within ↦ let some = split_cons space (drop at line) in
          let inside = words_inside line at (le-ltb (length line) at within) in let first = some.is in absurd cc
    ]

-- past the end no words are left
pub end_past : (line : List ℕ) (at : ℕ) → length line < at → words_from line at ≡ []
end_past line at h = words_past line at (lt-ltb (length line) at h)

-- the value of a step that found no fault
pub bind_ok : {A B : Type 0} (r : Result A Flaw) (f : A → Result B Flaw) (y : B) → (r >>= f) ≡ Ok y
    → (x : A) × (r ≡ Ok x) × (f x ≡ Ok y)
bind_ok (Ok x) f y e = (x, refl, e)
bind_ok (Err d) f y e = absurd cc

-- a test that would otherwise have been a fault has passed
pub test_ok : {A : Type 0} (b : Bool) (d : Flaw) (r : Result A Flaw) (y : A) → cond b r (Err d) ≡ Ok y
    → (b ≡ true) × (r ≡ Ok y)
test_ok true d r y e = (refl, e)
test_ok false d r y e = absurd cc

-- the result of a choice is one of the two
pub one_of : {A : Type 0} (b : Bool) (x y z : A) → cond b x y ≡ z → ((b ≡ true) × (x ≡ z)) ⊎ ((b ≡ false) × (y ≡ z))
one_of true x y z h = inl (refl, h)
one_of false x y z h = inr (refl, h)

pub or_flaw_ok : {A : Type 0} (o : Option A) (d : Flaw) (x : A) → or_flaw o d ≡ Ok x → o ≡ Some x
or_flaw_ok None d x e = absurd cc
or_flaw_ok (Some y) d x e = ap Some (same_result y x e)

-- ---- words

pub word_again : (line : List ℕ) (at : ℕ) (kind : FaultKind) (w : List ℕ) (ws : List (List ℕ))
    → words_from line at ≡ w ∷ ws → Reads line (word_or line at kind) w ws
unfolding word_or
word_again line at kind w ws h = let found = found_word line at w ws h in (found.0, rw found.1 refl, found.2)

-- if a required word is there, the place after it is read
pub fixed_again : (line : List ℕ) (at : ℕ) (text : List ℕ) (kind : FaultKind) (ws : List (List ℕ))
    → words_from line at ≡ text ∷ ws
    → (after : ℕ) × (fixed_at line at text kind ≡ Ok after) × (words_from line after ≡ ws)
unfolding fixed_at
fixed_again line at text kind ws h =
    let w = word_again line at kind text ws h in
    let same : bytes_eq text text ≡ true = (bytes_eq-Decides text text).1 refl in
    (w.0, rw (w.1, same) refl, w.2)

-- ---- numbers

outside_not : (n low high : ℕ) → low ≤ n → n ≤ high → (nat_lt n low || nat_lt high n) ≡ false
outside_not n low high a b = grind (arith, nat_tests)

pub number_again : (line : List ℕ) (at low high n : ℕ) (ws : List (List ℕ)) → n < 2 ^ 64 → low ≤ n → n ≤ high
    → words_from line at ≡ decimal n ∷ ws → Reads line (number_at line at low high) n ws
unfolding number_at
number_again line at low high n ws fits above below h =
    let w = word_again line at kinds.NumberExpected (decimal n) ws h in
    let read = number_read n fits in
    let range = outside_not n low high above below in
    (w.0, rw (w.1, read.0, read.1, range) refl, w.2)

pub small_again : (line : List ℕ) (at n : ℕ) (ws : List (List ℕ)) → n < 2 ^ 32 → words_from line at ≡ decimal n ∷ ws
    → Reads line (small_at line at) n ws
unfolding small_at
small_again line at n ws small h = number_again line at 0 4294967295 n ws (omega arith) (omega arith) (omega arith) h

-- ---- names

pub named_again : (line : List ℕ) (at letter count : ℕ) (missing : FaultKind) (n : ℕ) (ws : List (List ℕ))
    → n < 2 ^ 64 → n < count → words_from line at ≡ (letter ∷ decimal n) ∷ ws
    → Reads line (named_at line at letter count missing) n ws
unfolding named_at
named_again line at letter count missing n ws fits below h =
    let w = word_again line at kinds.UnknownWord (letter ∷ decimal n) ws h in
    let read = number_read n fits in
    let same : (letter == letter) ≡ true = (Decides-eqb letter letter).1 refl in
    let there : nat_le count n ≡ false = grind (arith, nat_tests) in
    (w.0, rw (w.1, same, read.0, read.1, there) refl, w.2)

-- ---- the end

pub end_ok : (line : List ℕ) (at : ℕ) (u : Unit {0}) → end_at line at ≡ Ok u → words_from line at ≡ []
unfolding end_at
end_ok line at u h =
    let past = not_refused (nat_le at (length line)) (flaw at kinds.EndOfLineExpected) (Ok tt) u h in
    let fails = past.0 in
    end_past line at (grind (arith, nat_tests))

pub end_again : (line : List ℕ) (at : ℕ) → words_from line at ≡ [] → end_at line at ≡ Ok tt
unfolding end_at
end_again line at h =
    let past = past_end line at h in
    let test : nat_le at (length line) ≡ false = grind (arith, nat_tests) in
    rw test refl

-- ---- a word between two parts of a line

-- no byte is a space
abbrev pub HasNoSpace : List ℕ → Type 0
HasNoSpace word = AllByRecursion (λ b. space b ≡ false) word

-- bytes up to the first space, and what follows from it on
pub record IsCutBySpace (bytes : List ℕ) : Type 0 where
  pub word : List ℕ
  pub back : List ℕ
  pub bytes_are : bytes ≡ word ++ back
  pub plain : HasNoSpace word
  pub ends : IsWordEnd back

cut_more : (b : ℕ) (bs : List ℕ) (s : Bool) → space b ≡ s → IsCutBySpace bs → IsCutBySpace (b ∷ bs)
cut_more b bs true e cut =
    let is : b ≡ 32 = grind (arith, nat_tests) in
    record { word = []; back = b ∷ bs; bytes_are = refl; plain = tt; ends = inr (bs, ap (λ (x : ℕ). x ∷ bs) is) }
cut_more b bs false e cut = record {
  word = b ∷ cut.word;
  back = cut.back;
  bytes_are = ap (λ (x : List ℕ). b ∷ x) cut.bytes_are;
  plain = (e, cut.plain);
  ends = cut.ends;
}

pub cut_by_space : (bytes : List ℕ) → IsCutBySpace bytes
cut_by_space [] = record { word = []; back = []; bytes_are = refl; plain = tt; ends = inl refl }
cut_by_space (b ∷ bs) = cut_more b bs (space b) refl (cut_by_space bs)

first_space : (word after : List ℕ) → HasNoSpace word → position_or_len space (word ++ 32 ∷ after) ≡ length word
first_space [] after h = refl
first_space (b ∷ bs) after h =
    let rest = first_space bs after h.1 in
    ap (λ (t : Bool). cond (not t) (1 + position_or_len space (bs ++ 32 ∷ after)) 0) h.0 ∙ omega arith

no_space : (word : List ℕ) → HasNoSpace word → position_or_len space word ≡ length word
no_space [] h = refl
no_space (b ∷ bs) h =
    let rest = no_space bs h.1 in
    ap (λ (t : Bool). cond (not t) (1 + position_or_len space bs) 0) h.0 ∙ omega arith

at_space : (word after : List ℕ) → HasNoSpace word → position space (word ++ 32 ∷ after) ≡ Some (length word)
at_space word after h =
    let at = first_space word after h in
    let longer = length-append word (32 ∷ after) in
    let inside : nat_lt (length word) (length (word ++ 32 ∷ after)) ≡ true =
    lt-ltb (length word) (length (word ++ 32 ∷ after)) (omega arith) in
    ap (λ (k : ℕ). cond (nat_lt k (length (word ++ 32 ∷ after))) (Some k) None) at ∙ rw inside refl

at_none : (word : List ℕ) → HasNoSpace word → position space word ≡ None
at_none word h =
    let at = no_space word h in
    let past : nat_lt (length word) (length word) ≡ false = le-ltb (length word) (length word) (omega arith) in
    ap (λ (k : ℕ). cond (nat_lt k (length word)) (Some k) None) at ∙ rw past refl

cut_place : (line : List ℕ) (at : ℕ) (rest word back : List ℕ) → rest ≡ word ++ back → HasNoSpace word → IsWordEnd back
    → length line ≡ at + length rest → cut_at line at rest (position space rest) ≡ (word, at + length word + 1)
cut_place line at rest word back e plain (inl none) long =
    let same : rest ≡ word = e ∙ ap (λ (x : List ℕ). word ++ x) none ∙ append-nil word in
    let size = ap length same in
    let place : length line + 1 ≡ at + length word + 1 = omega arith in
    subst (λ (x : List ℕ). cut_at line at x (position space x) ≡ (word, at + length word + 1)) (sym same)
    (rw (at_none word plain) (ap (λ (k : ℕ). (word, k)) place))
cut_place line at rest word back e plain (inr more) long =
    let same : rest ≡ word ++ 32 ∷ more.0 = e ∙ ap (λ (x : List ℕ). word ++ x) more.1 in
    subst (λ (x : List ℕ). cut_at line at x (position space x) ≡ (word, at + length word + 1)) (sym same)
    (rw (at_space word more.0 plain) (ap (λ (x : List ℕ). (x, at + length word + 1))
    (take-append_seam word (32 ∷ more.0))))

-- a word of a line is found there
pub word_place : (line : List ℕ) (at : ℕ) (front word back : List ℕ) → line ≡ front ++ (word ++ back)
    → length front ≡ at → HasNoSpace word → IsWordEnd back → word_at line at ≡ Some (word, at + length word + 1)
unfolding word_at
word_place line at front word back is e plain ends =
    let rest : drop at line ≡ word ++ back =
    ap (λ (x : List ℕ). drop at x) is ∙ ap (λ (k : ℕ). drop k (front ++ (word ++ back))) (sym e)
    ∙ drop-append_seam front (word ++ back) in
    let long = ap length is in
    let parts = length-append front (word ++ back) in
    let size = ap length rest in
    let inside : nat_lt (length line) at ≡ false = le-ltb (length line) at (omega arith) in
    let cut = cut_place line at (drop at line) word back rest plain ends (omega arith) in
    rw inside (ap Some cut)

-- after a word: past the line's end, or after a space
pub record IsBehindSpace (line : List ℕ) (at : ℕ) : Type 0 where
  pub front : List ℕ
  pub back : List ℕ
  pub line_is : line ≡ front ++ 32 ∷ back
  pub at_is : at ≡ length front + 1

abbrev pub IsBehindWord : List ℕ → ℕ → Type 0
IsBehindWord line at = (at ≡ length line + 1) ⊎ IsBehindSpace line at

-- a place where a word may begin
abbrev pub IsPlace : List ℕ → ℕ → Type 0
IsPlace line at = (at ≡ 0) ⊎ IsBehindWord line at

-- a word of a line, from a place to the one after it
pub record IsWordAt (line : List ℕ) (at : ℕ) (w : List ℕ × ℕ) : Type 0 where
  pub front : List ℕ
  pub back : List ℕ
  pub line_is : line ≡ front ++ (w.0 ++ back)
  pub length_is : length front ≡ at
  pub plain : HasNoSpace w.0
  pub ends : IsWordEnd back
  pub after_is : w.1 ≡ at + length w.0 + 1

-- there is a word at each place up to the line's end
pub record FindsWord (line : List ℕ) (at : ℕ) : Type 0 where
  pub w : List ℕ × ℕ
  pub found : word_at line at ≡ Some w
  pub is : IsWordAt line at w

pub finds_word : (line : List ℕ) (at : ℕ) → at ≤ length line → FindsWord line at
finds_word line at within =
    let cut = cut_by_space (drop at line) in
    let is : line ≡ take at line ++ (cut.word ++ cut.back) = sym (take-append-drop at line)
    ∙ ap (λ (x : List ℕ). take at line ++ x) cut.bytes_are in
    let size : length (take at line) ≡ at = omega (arith, length-take at line) in
    record {
      w = (cut.word, at + length cut.word + 1);
      found = word_place line at (take at line) cut.word cut.back is size cut.plain cut.ends;
      is = record {
        front = take at line;
        back = cut.back;
        line_is = is;
        length_is = size;
        plain = cut.plain;
        ends = cut.ends;
        after_is = refl;
      };
    }

-- there is no word past the end
pub none_past : (line : List ℕ) (at : ℕ) → length line < at → word_at line at ≡ None
unfolding word_at
none_past line at past = let test = lt-ltb (length line) at past in rw test refl

behind_end : (line : List ℕ) (at : ℕ) (w : List ℕ × ℕ) (is : IsWordAt line at w) → IsWordEnd is.back
    → IsBehindWord line w.1
behind_end line at w is (inl none) =
    let size = ap length (is.line_is ∙ ap (λ (x : List ℕ). is.front ++ (w.0 ++ x)) none
    ∙ ap (λ (x : List ℕ). is.front ++ x) (append-nil w.0)) in
    let parts = length-append is.front w.0 in
    let at_is = is.length_is in
    let after = is.after_is in
    inl (omega arith)
behind_end line at w is (inr more) =
    let parts = length-append is.front w.0 in
    let at_is = is.length_is in
    let after = is.after_is in
    inr (record {
      front = is.front ++ w.0;
      back = more.0;
      line_is = is.line_is ∙ ap (λ (x : List ℕ). is.front ++ (w.0 ++ x)) more.1
          ∙ sym (append_assoc is.front w.0 (32 ∷ more.0));
      at_is = omega arith;
    })

-- the place after a word
pub behind_word : (line : List ℕ) (at : ℕ) (w : List ℕ × ℕ) → IsWordAt line at w → IsBehindWord line w.1
behind_word line at w is = behind_end line at w is is.ends

-- ---- two lines that agree

-- Two lines agree up to a place: the words that begin before it are the same in both.
pub record AreAlike (n : ℕ) (line other : List ℕ) : Type 0 where
  pub words : (at : ℕ) → at < n → word_at line at ≡ word_at other at
  pub within : (at : ℕ) → at < n → at ≤ length line
  pub long : n ≤ length line
  pub idle : is_idle line ≡ is_idle other

end_before : (rest more : List ℕ) → IsWordEnd rest → IsWordEnd (rest ++ 32 ∷ more)
end_before rest more (inl none) = inr (more, ap (λ (x : List ℕ). x ++ 32 ∷ more) none)
end_before rest more (inr after) = inr (after.0 ++ 32 ∷ more, ap (λ (x : List ℕ). x ++ 32 ∷ more) after.1)

-- the word at a place before a space doesn't depend on what follows
spaced_words : (front : List ℕ) (at : ℕ) → at ≤ length front
    → (w : List ℕ × ℕ) × ((more : List ℕ) → word_at (front ++ 32 ∷ more) at ≡ Some w)
spaced_words front at within =
    let cut = cut_by_space (drop at front) in
    let size : length (take at front) ≡ at = omega (arith, length-take at front) in
    let all : front ≡ take at front ++ (cut.word ++ cut.back) = sym (take-append-drop at front)
    ∙ ap (λ (x : List ℕ). take at front ++ x) cut.bytes_are in
    let found = λ (more : List ℕ). word_place (front ++ 32 ∷ more) at (take at front) cut.word (cut.back ++ 32 ∷ more)
    (ap (λ (x : List ℕ). x ++ 32 ∷ more) all ∙ append_assoc (take at front) (cut.word ++ cut.back) (32 ∷ more)
    ∙ ap (λ (x : List ℕ). take at front ++ x) (append_assoc cut.word cut.back (32 ∷ more))) size cut.plain
    (end_before cut.back more cut.ends) in
    ((cut.word, at + length cut.word + 1), found)

same_idle : (front a b : List ℕ) → is_idle (front ++ 32 ∷ a) ≡ is_idle (front ++ 32 ∷ b)
same_idle [] a b = refl
same_idle (x ∷ xs) a b = refl

-- lines that begin with the same bytes and a space agree up to there
pub alike_spaced : (front a b : List ℕ) → AreAlike (length front + 1) (front ++ 32 ∷ a) (front ++ 32 ∷ b)
alike_spaced front a b =
    let long = length-append front (32 ∷ a) in
    let same = λ (at : ℕ) (h : at < length front + 1). let w = spaced_words front at (omega arith) in
    w.1 a ∙ sym (w.1 b) in
    record {
      words = same;
      within = λ at h. omega arith;
      long = omega arith;
      idle = same_idle front a b;
    }

-- ---- what is read at a place

-- a fault at a word of the line
pub record IsFaultAt (line : List ℕ) (fault : Flaw) : Type 0 where
  pub front : List ℕ
  pub word : List ℕ
  pub back : List ℕ
  pub is : IsWordOf line front word back
  pub column : fault.column ≡ length front + 1
  pub wrong : IsWrongWord fault.kind front word

plain_word : (word : List ℕ) → HasNoSpace word → All (λ b. b ≢ 32) word
plain_word word h = all_from (λ b. b ≢ 32) word (by_bytes word h)
  where
    by_bytes : (bytes : List ℕ) → HasNoSpace bytes → AllByRecursion (λ b. b ≢ 32) bytes
    by_bytes [] h = tt
    by_bytes (b ∷ bs) h =
        let no = h.0 in let ne : b ≢ 32 = grind (arith, nat_tests) in (ne, by_bytes bs h.1)

pub no_bytes : (bytes : List ℕ) → length bytes ≡ 0 → bytes ≡ []
no_bytes [] h = refl
no_bytes (b ∷ bs) h = absurd (omega arith)

pub word_inside : (line : List ℕ) (at : ℕ) (w : List ℕ × ℕ) → IsWordAt line at w → at ≤ length line
word_inside line at w is =
    let size = ap length is.line_is in
    let parts = length-append is.front (w.0 ++ is.back) in
    let at_is = is.length_is in
    omega arith

-- the bytes before a place where a word may begin are empty, or end in a space
word_start : (line : List ℕ) (at : ℕ) (w : List ℕ × ℕ) (is : IsWordAt line at w) → IsPlace line at
    → IsWordStart is.front
word_start line at w is (inl front) = inl (no_bytes is.front (is.length_is ∙ front))
word_start line at w is (inr (inl past)) = let inside = word_inside line at w is in absurd (omega arith)
word_start line at w is (inr (inr spot)) =
    let spaced = spot.front ++ 32 ∷ [] in
    let long = length-append spot.front (32 ∷ []) in
    let size : length is.front ≡ length spaced = is.length_is ∙ spot.at_is ∙ sym long in
    let line_is : line ≡ spaced ++ spot.back = spot.line_is ∙ sym (append_assoc spot.front (32 ∷ []) spot.back) in
    inr (
      spot.front,
      sym (take-append_seam is.front (w.0 ++ is.back))
          ∙ ap (λ (x : List ℕ). take (length is.front) x) (sym is.line_is ∙ line_is)
          ∙ ap (λ (k : ℕ). take k (spaced ++ spot.back)) size ∙ take-append_seam spaced spot.back,
    )

-- a fault at a word
pub fault_at_word : (line : List ℕ) (at : ℕ) (w : List ℕ × ℕ) (f : Flaw) → IsPlace line at → IsWordAt line at w
    → f.column ≡ at + 1 → ((front : List ℕ) → length front ≡ at → IsWrongWord f.kind front w.0) → IsFaultAt line f
fault_at_word line at w f p is column wrong = record {
  front = is.front;
  word = w.0;
  back = is.back;
  is = record {
    line_is = is.line_is;
    no_space = plain_word w.0 is.plain;
    starts = inl (word_start line at w is p);
    ends = is.ends;
  };
  column = column ∙ ap (λ k. k + 1) (sym is.length_is);
  wrong = wrong is.front is.length_is;
}

-- a fault where a word is missing
pub fault_at_end : (line : List ℕ) (kind : FaultKind) → IsWrongWord kind line [] → IsFaultAt line
    (flaw (length line) kind)
fault_at_end line kind wrong = record {
  front = line;
  word = [];
  back = [];
  is = record {
    line_is = sym (append-nil line);
    no_space = plain_word [] tt;
    starts = inr (refl, refl);
    ends = inl refl;
  };
  column = refl;
  wrong = wrong;
}

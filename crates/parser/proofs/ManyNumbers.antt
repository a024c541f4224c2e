-- Addresses, and numbers to the end of a line: what is spelled so is read.
use Rattle.parser.proofs.Names.{Bool, List, None, Option, Some, [], ap, arith, cond, drop, false, length}
use Rattle.parser.proofs.Names.{length-append, nat_lt, position, refl, subst, sym, take, true, ℕ, ◌++◌, ◌+◌, ◌<◌, ◌^◌}
use Rattle.parser.proofs.Names.{◌∙◌, ◌∷◌, ◌≡◌, take-append_seam, and_parts, lt-ltb, nat_tests, list_all-append}
use Rattle.parser.proofs.Names.{join_with_byte-slice_split, same_Some, decimal, AllByRecursion, join_with_byte}
use Rattle.parser.proofs.Names.{list_all, position_or_len, slice_split, Ok, nat_le, not, ◌==◌, address_word}
use Rattle.parser.proofs.Names.{address_in, address_number, is_digit, offset_in, page_in, address_at, point_parts}
use Rattle.parser.proofs.Names.{append-nil, append_assoc, inl, inr, suc, zero, ◌≤◌, cases_lt, le-ltb, Err, Result}
use Rattle.parser.proofs.Names.{map, ◌||◌, not_refused, same_result, numbers_at, numbers_by, flaw, in_range, ◌>>=◌}
use Rattle.parser.proofs.Names.{capped_from, is_number, number_at, small_at, word_at, word_or, FaultKind, Flaw}
use Rattle.std.proofs.Math.Seq.{drop-append-add}
use Rattle.parser.specs.Words.{parts_at}
use Rattle.parser.proofs.Lists.{split_cons, split_some}
use Rattle.parser.proofs.Numbers.{IsPlain, number_plain, number_read, decimal_digits}
use Rattle.parser.proofs.WordPlaces.{words_from, Reads, word_again, bind_ok, or_flaw_ok, past_end, end_past}
use Rattle.parser.proofs.WordPlaces.{small_again, finds_word, none_past}
use Rattle.parser.specs.declared.fault.FaultKind.TheVariants as kinds

-- ---- the parts of a word

-- the byte between a page and an offset
abbrev point : ℕ → Bool
point b = b == 46

-- a word with a period at this place is its parts with the period between them
parts_joined : (word : List ℕ) (i : ℕ) → position point word ≡ Some i → word ≡ take i word ++ (46 ∷ drop (i + 1) word)
parts_joined word i h =
    let rest = split_cons point (drop (i + 1) word) in
    let cut : slice_split point word ≡ take i word ∷ (rest.first ∷ rest.others) =
    split_some point word i h ∙ ap (λ (x : List (List ℕ)). take i word ∷ x) rest.is in
    let joined : join_with_byte 46 (rest.first ∷ rest.others) ≡ drop (i + 1) word =
    ap (join_with_byte 46) (sym rest.is) ∙ join_with_byte-slice_split 46 (drop (i + 1) word) in
    sym (join_with_byte-slice_split 46 word) ∙ ap (join_with_byte 46) cut
    ∙ ap (λ (x : List ℕ). take i word ++ (46 ∷ x)) joined

-- the two parts with a period between them are the word
pub parts_are : (word : List ℕ) (parts : List ℕ × List ℕ) → point_parts word ≡ Some parts
    → word ≡ parts.0 ++ (46 ∷ parts.1)
unfolding point_parts
parts_are word parts h = by_place (position point word) refl h
  where
    by_place : (o : Option ℕ) → position point word ≡ o → parts_at word o ≡ Some parts
        → word ≡ parts.0 ++ (46 ∷ parts.1)
    by_place None e k = absurd cc
    by_place (Some i) e k =
        subst (λ (x : List ℕ × List ℕ). word ≡ x.0 ++ (46 ∷ x.1))
        (same_Some (take i word, drop (i + 1) word) parts k) (parts_joined word i e)

-- no byte is a period
abbrev HasNoPoint : List ℕ → Type 0
HasNoPoint bytes = AllByRecursion (λ b. point b ≡ false) bytes

digits_no_point : (ds : List ℕ) → list_all is_digit ds ≡ true → HasNoPoint ds
digits_no_point [] h = tt
digits_no_point (b ∷ bs) h =
    let p = and_parts (is_digit b) (list_all is_digit bs) h in
    let digit = p.0 in
    let no : point b ≡ false = grind (arith, nat_tests) in
    (no, digits_no_point bs p.1)

first_point : (front back : List ℕ) → HasNoPoint front → position_or_len point (front ++ (46 ∷ back)) ≡ length front
first_point [] back h = refl
first_point (b ∷ bs) back h =
    let rest = first_point bs back h.1 in
    ap (λ (t : Bool). cond (not t) (1 + position_or_len point (bs ++ (46 ∷ back))) 0) h.0 ∙ omega arith

at_point : (front back : List ℕ) → HasNoPoint front → position point (front ++ (46 ∷ back)) ≡ Some (length front)
at_point front back h =
    let at = first_point front back h in
    let longer = length-append front (46 ∷ back) in
    let inside : nat_lt (length front) (length (front ++ (46 ∷ back))) ≡ true =
    lt-ltb (length front) (length (front ++ (46 ∷ back))) (omega arith) in
    ap (λ (k : ℕ). cond (nat_lt k (length (front ++ (46 ∷ back)))) (Some k) None) at ∙ rw inside refl

-- parts with a period between them, of which the first has none, are a word's parts
parts_again : (front back : List ℕ) → HasNoPoint front → point_parts (front ++ (46 ∷ back)) ≡ Some (front, back)
unfolding point_parts
parts_again front back h =
    rw (at_point front back h, take-append_seam front (46 ∷ back), drop-append-add front (46 ∷ back) 1) refl

-- ---- pages and offsets

-- a page and an offset are those of their number
pub page_again : (page offset : ℕ) → offset < 2 ^ 32 → page_in (address_number page offset) ≡ page
page_again page offset h = omega arith

pub offset_again : (page offset : ℕ) → offset < 2 ^ 32 → offset_in (address_number page offset) ≡ offset
offset_again page offset h = omega arith

number_again : (n : ℕ) → address_number (page_in n) (offset_in n) ≡ n
number_again n = omega arith

-- ---- an address

pub address_again : (line : List ℕ) (at words n : ℕ) (ws : List (List ℕ)) → n < 2 ^ 64 → offset_in n < words
    → words_from line at ≡ address_word (page_in n) (offset_in n) ∷ ws → Reads line (address_at line at words) n ws
unfolding address_at
address_again line at words n ws fits within h =
    let page = decimal (page_in n) in
    let offset = decimal (offset_in n) in
    let w = word_again line at kinds.UnknownWord (address_word (page_in n) (offset_in n)) ws h in
    let parts = parts_again page offset (digits_no_point page (decimal_digits (page_in n) (omega arith))) in
    let page_read = number_read (page_in n) (omega arith) in
    let offset_read = number_read (offset_in n) (omega arith) in
    let page_fits : nat_le (2 ^ 32) (page_in n) ≡ false = grind (arith, nat_tests) in
    let offset_fits : nat_le words (offset_in n) ≡ false = grind (arith, nat_tests) in
    let read : address_in (page, offset) w.0 at words ≡ Ok (n, w.0) =
    rw (page_read.0, page_read.1, offset_read.0, offset_read.1, page_fits, offset_fits)
    (ap (λ (x : ℕ). Ok (x, w.0)) (number_again n)) in
    (w.0, rw (w.1, parts) read, w.2)

-- an address has no spaces
pub address_plain : (n : ℕ) → n < 2 ^ 64 → IsPlain (address_word (page_in n) (offset_in n))
address_plain n h =
    let page = number_plain (page_in n) (omega arith) in
    let offset = number_plain (offset_in n) (omega arith) in
    list_all-append (λ b. nat_lt 32 b) (decimal (page_in n)) (46 ∷ decimal (offset_in n)) ∙ (rw (page, offset) refl)

-- ---- places

word_moves : (line : List ℕ) (at : ℕ) (kind : FaultKind) (w : List ℕ × ℕ) → word_or line at kind ≡ Ok w → at < w.1
unfolding word_or
word_moves line at kind w h =
    let some = or_flaw_ok (word_at line at) (flaw (length line) kind) w h in
    elim (cases_lt (length line) at) [
      | inl past ↦ let none = none_past line at past in absurd cc
      | inr within ↦
          let found = finds_word line at within in
          let same : found.w ≡ w = same_Some found.w w (sym found.found ∙ some) in
          let after = found.is.after_is in
          subst (λ (x : List ℕ × ℕ). at < x.1) same (omega arith)
    ]

-- the place after a number is greater than that of the number
pub small_moves : (line : List ℕ) (at : ℕ) (v : ℕ × ℕ) → small_at line at ≡ Ok v → at < v.1
unfolding small_at number_at
small_moves line at v h =
    let b = bind_ok (word_or line at kinds.NumberExpected) (λ w. cond (not (is_number w.0))
    (Err (flaw at kinds.NumberExpected)) (in_range (capped_from 0 w.0) w.1 at 0 4294967295)) v h in
    let w = b.0 in
    let n = capped_from 0 w.0 in
    let form = not_refused (not (is_number w.0)) (flaw at kinds.NumberExpected)
    (in_range n w.1 at 0 4294967295) v b.2 in
    let range = not_refused (nat_lt n 0 || nat_lt 4294967295 n) (flaw at kinds.NumberOutOfRange)
    (Ok (n, w.1)) v form.1 in
    subst (λ (x : ℕ × ℕ). at < x.1) (same_result (n, w.1) v range.1)
    (word_moves line at kinds.NumberExpected w b.1)

-- ---- the first of the numbers

-- a number and those after it
abbrev pub with_first : ℕ × ℕ → Result (List ℕ × ℕ) Flaw → Result (List ℕ × ℕ) Flaw
with_first v r = r >>= (λ others. Ok (v.0 ∷ others.0, others.1))

pub by_past : (n : ℕ) (line : List ℕ) (at : ℕ) → length line < at → numbers_by n line at ≡ Ok ([], at)
unfolding numbers_by
by_past zero line at h = refl
by_past (suc n) line at h = rw (lt-ltb (length line) at h) refl

pub by_first : (n : ℕ) (line : List ℕ) (at : ℕ) → at ≤ length line
    → numbers_by (suc n) line at ≡ (small_at line at >>= (λ v. with_first v (numbers_by n line v.1)))
unfolding numbers_by
by_first n line at h = rw (le-ltb (length line) at h) refl

-- steps that continue in the same way if there is no fault
same_behind : {A B : Type 0} (r : Result A Flaw) (f g : A → Result B Flaw)
    → ((x : A) → r ≡ Ok x → f x ≡ g x) → (r >>= f) ≡ (r >>= g)
same_behind (Ok x) f g h = h x refl
same_behind (Err e) f g h = refl

-- any limit on how many numbers are read is the same if it is enough for the line
enough : (n m : ℕ) (line : List ℕ) (at : ℕ) → length line < at + n → length line < at + m
    → numbers_by n line at ≡ numbers_by m line at
enough zero m line at h k = by_past zero line at (omega arith) ∙ sym (by_past m line at (omega arith))
enough (suc n) zero line at h k = by_past (suc n) line at (omega arith) ∙ sym (by_past zero line at (omega arith))
enough (suc n) (suc m) line at h k = elim (cases_lt (length line) at) [
  | inl past ↦ by_past (suc n) line at past ∙ sym (by_past (suc m) line at past)
  | inr within ↦
      by_first n line at within
      ∙ same_behind (small_at line at) _ _ (λ v e.
      let moved = small_moves line at v e in
      ap (with_first v) (enough n m line v.1 (omega arith) (omega arith)))
      ∙ sym (by_first m line at within)
]

-- the numbers of a line are those read up to a limit, if that is enough
pub numbers_enough : (n : ℕ) (line : List ℕ) (at : ℕ) → length line < at + n → numbers_at line at ≡ numbers_by n line at
unfolding numbers_at
numbers_enough n line at h = enough (length line + 1) n line at (omega arith) h

-- past the end there are no numbers
pub numbers_past : (line : List ℕ) (at : ℕ) → length line < at → numbers_at line at ≡ Ok ([], at)
unfolding numbers_at
numbers_past line at h = by_past (length line + 1) line at h

-- up to the end there is one, and then others
pub numbers_first : (line : List ℕ) (at : ℕ) → at ≤ length line
    → numbers_at line at ≡ (small_at line at >>= (λ v. with_first v (numbers_at line v.1)))
numbers_first line at h =
    numbers_enough (suc (length line)) line at (omega arith)
    ∙ by_first (length line) line at h
    ∙ same_behind (small_at line at) _ _ (λ v e.
    let moved = small_moves line at v e in
    ap (with_first v) (sym (numbers_enough (length line) line v.1 (omega arith))))

-- ---- a loop over numbers

-- numbers, and those that are read after them
abbrev pub with_firsts : List ℕ → Result (List ℕ × ℕ) Flaw → Result (List ℕ × ℕ) Flaw
with_firsts ns r = r >>= (λ others. Ok (ns ++ others.0, others.1))

pub begun : (line : List ℕ) (at : ℕ) → numbers_at line at ≡ with_firsts [] (numbers_at line at)
begun line at = by_result (numbers_at line at)
  where
    by_result : (r : Result (List ℕ × ℕ) Flaw) → r ≡ with_firsts [] r
    by_result (Ok x) = refl
    by_result (Err e) = refl

joined : (ns : List ℕ) (v : ℕ × ℕ) (r : Result (List ℕ × ℕ) Flaw)
    → with_firsts ns (with_first v r) ≡ with_firsts (ns ++ v.0 ∷ []) r
joined ns v (Ok x) = ap (λ (xs : List ℕ). Ok (xs, x.1)) (sym (append_assoc ns (v.0 ∷ []) x.0))
joined ns v (Err e) = refl

pub one_more : (line : List ℕ) (at place n after : ℕ) (ns all : List ℕ)
    → numbers_at line at ≡ with_firsts ns (numbers_at line place) → place ≤ length line
    → small_at line place ≡ Ok (n, after) → all ≡ ns ++ n ∷ []
    → numbers_at line at ≡ with_firsts all (numbers_at line after)
one_more line at place n after ns all h within read is =
    h ∙ ap (with_firsts ns) (numbers_first line place within
    ∙ ap (λ (r : Result (ℕ × ℕ) Flaw). r >>= (λ v. with_first v (numbers_at line v.1))) read)
    ∙ joined ns (n, after) (numbers_at line after)
    ∙ ap (λ (xs : List ℕ). with_firsts xs (numbers_at line after)) (sym is)

pub broken : (line : List ℕ) (at place : ℕ) (ns : List ℕ) (f : Flaw)
    → numbers_at line at ≡ with_firsts ns (numbers_at line place) → place ≤ length line → small_at line place ≡ Err f
    → numbers_at line at ≡ Err f
broken line at place ns f h within read =
    h ∙ ap (with_firsts ns) (numbers_first line place within
    ∙ ap (λ (r : Result (ℕ × ℕ) Flaw). r >>= (λ v. with_first v (numbers_at line v.1))) read)

pub ended : (line : List ℕ) (at place : ℕ) (ns : List ℕ) → numbers_at line at ≡ with_firsts ns (numbers_at line place)
    → length line < place → numbers_at line at ≡ Ok (ns, place)
ended line at place ns h past =
    h ∙ ap (with_firsts ns) (numbers_past line place past) ∙ ap (λ (xs : List ℕ). Ok (xs, place)) (append-nil ns)

-- ---- the words of numbers

-- each number fits 32 bits
abbrev pub AreSmall : List ℕ → Type 0
AreSmall ns = AllByRecursion (λ n. n < 2 ^ 32) ns

pub numbers_again : (line : List ℕ) (at : ℕ) (ns : List ℕ) → AreSmall ns → words_from line at ≡ map decimal ns
    → Reads line (numbers_at line at) ns []
numbers_again line at [] small h =
    (at, numbers_past line at (past_end line at h), h)
numbers_again line at (n ∷ ns) small h =
    let a = small_again line at n (map decimal ns) small.0 h in
    let b = numbers_again line a.0 ns small.1 a.2 in
    let within : at ≤ length line = elim (cases_lt (length line) at) [
      | inl past ↦ let none = end_past line at past in absurd cc
      | inr inside ↦ inside
    ] in
    (b.0, numbers_first line at within ∙ (rw (a.1, b.1) refl), b.2)

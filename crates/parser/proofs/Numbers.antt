-- Numbers in words are read as they are spelled.
use Rattle.parser.proofs.Names.{Bool, List, [], ap, arith, false, get_or, inl, inr, length, nat_lt, refl, true, ℕ}
use Rattle.parser.proofs.Names.{◌*◌, ◌+◌, ◌<◌, ◌^◌, ◌∙◌, ◌∷◌, ◌≡◌, and_parts, cases_lt, nat_tests, decimal_digit}
use Rattle.parser.proofs.Names.{first_decimal, decimal, list_all, not, ◌&&◌, ◌==◌, ◌||◌, is_digit, capped_from}
use Rattle.parser.proofs.Names.{is_number}
use Rattle.std.proofs.Common.{◌-◌, rules}
use Rattle.std.specs.Prelude.{min}
use Rattle.std.proofs.lemmas.Fmt.{decimal-digits_value, digits_decimal, digits_value-decimal, decimal_nonempty}
use Rattle.std.proofs.lemmas.Bool.{or_cases, or_right}
use Rattle.std.proofs.lemmas.Str.Parse.{IsNumeralModel, IsDigitsTest, FoldsDigits, numerals_by_fold}
use Rattle.parser.specs.Words.{starts_with_zero}

-- the number that digits represent after earlier ones
abbrev value_from : ℕ → List ℕ → ℕ
value_from v [] = v
value_from v (b ∷ bs) = value_from (v * 10 + (b - 48)) bs

abbrev AreDigits : List ℕ → Type 0
AreDigits ds = list_all is_digit ds ≡ true

tells : IsDigitsTest AreDigits
tells = search rules

folds : FoldsDigits value_from
folds = search rules

own : IsNumeralModel AreDigits (value_from 0)
own = numerals_by_fold AreDigits tells value_from folds

min_again : (v d : ℕ) → min (min v (2 ^ 64) * 10 + d) (2 ^ 64) ≡ min (v * 10 + d) (2 ^ 64)
min_again v d = omega arith

-- taking all large numbers as 2^64 changes no other
capped_is : (v : ℕ) (bs : List ℕ) → capped_from (min v (2 ^ 64)) bs ≡ min (value_from v bs) (2 ^ 64)
unfolding capped_from
capped_is v [] = refl
capped_is v (b ∷ bs) = ap (λ n. capped_from n bs) (min_again v (b - 48)) ∙ capped_is (v * 10 + (b - 48)) bs

capped_whole : (bs : List ℕ) → capped_from 0 bs ≡ min (value_from 0 bs) (2 ^ 64)
capped_whole bs = capped_is 0 bs

-- what the test of a number shows
record IsNumber (word : List ℕ) : Type 0 where
  digits : AreDigits word
  nonempty : 0 < length word
  canonical : get_or word 0 0 ≡ 48 → length word ≡ 1

canonical_in : (word : List ℕ) → ((length word == 1) || not (starts_with_zero word)) ≡ true → get_or word 0 0 ≡ 48
    → length word ≡ 1
canonical_in [] h zero_first = absurd (omega arith)
canonical_in (b ∷ bs) h zero_first = elim (or_cases (length (b ∷ bs) == 1) (not (b == 48)) h) [
  | inl one ↦ grind (arith, nat_tests)
  | inr other ↦ grind (arith, nat_tests)
]

number_tells : (word : List ℕ) → is_number word ≡ true → IsNumber word
unfolding is_number
number_tells word h =
    let p = and_parts (not (length word == 0) && list_all is_digit word)
    ((length word == 1) || not (starts_with_zero word)) h in
    let q = and_parts (not (length word == 0)) (list_all is_digit word) p.0 in
    record { digits = q.1; nonempty = grind (arith, nat_tests); canonical = canonical_in word p.1 }

-- a number below 2^64 that is read is spelled so
pub number_spelled : (word : List ℕ) → is_number word ≡ true → capped_from 0 word < 2 ^ 64
    → decimal (capped_from 0 word) ≡ word
number_spelled word h small =
    let facts = number_tells word h in
    let e = capped_whole word in
    let below : value_from 0 word < 2 ^ 64 = omega arith in
    let same : capped_from 0 word ≡ value_from 0 word = omega arith in
    ap decimal same ∙ decimal-digits_value own word facts.digits facts.nonempty facts.canonical below

no_zero : (word : List ℕ) → 48 < get_or word 0 0 → starts_with_zero word ≡ false
no_zero [] h = refl
no_zero (b ∷ bs) h = grind (arith, nat_tests)

and_all : (a b c : Bool) → a ≡ true → b ≡ true → c ≡ true → (a && b && c) ≡ true
and_all a b c p q r = rw (p, q, r) refl

canonical_decimal : (n : ℕ) → n < 2 ^ 64 → ((length (decimal n) == 1) || not (starts_with_zero (decimal n))) ≡ true
canonical_decimal n h = elim (cases_lt 0 n) [
  | inl above ↦ or_right (length (decimal n) == 1) (not (starts_with_zero (decimal n)))
      (ap not (no_zero (decimal n) (first_decimal n above h)))
  | inr none ↦ let e : n ≡ 0 = omega arith in let d : decimal 0 ≡ 48 ∷ [] = decimal_digit 0 (omega arith) in
      rw (e, d) refl
]

-- a number is spelled in digits
pub decimal_digits : (n : ℕ) → n < 2 ^ 64 → list_all is_digit (decimal n) ≡ true
decimal_digits n h = digits_decimal own n h

-- a number that is spelled is read again
pub number_read : (n : ℕ) → n < 2 ^ 64 → (is_number (decimal n) ≡ true) × (capped_from 0 (decimal n) ≡ n)
unfolding is_number
number_read n h =
    let some = decimal_nonempty n h in
    let nonempty : not (length (decimal n) == 0) ≡ true = grind (arith, nat_tests) in
    let value : value_from 0 (decimal n) ≡ n = digits_value-decimal own n h in (
      and_all (not (length (decimal n) == 0)) (list_all is_digit (decimal n)) ((length (decimal n) == 1)
          || not (starts_with_zero (decimal n))) nonempty (digits_decimal own n h) (canonical_decimal n h),
      omega (arith, capped_whole (decimal n), value),
    )

-- ---- plain words

-- each byte of a word is above the space: none is a space or a newline
abbrev pub IsPlain : List ℕ → Type 0
IsPlain w = list_all (λ b. nat_lt 32 b) w ≡ true

digits_plain : (ds : List ℕ) → list_all is_digit ds ≡ true → IsPlain ds
digits_plain [] h = refl
digits_plain (b ∷ bs) h =
    let p = and_parts (is_digit b) (list_all is_digit bs) h in
    let digit = p.0 in
    let high : nat_lt 32 b ≡ true = grind (arith, nat_tests) in
    rw high (digits_plain bs p.1)

pub number_plain : (n : ℕ) → n < 2 ^ 64 → IsPlain (decimal n)
number_plain n h = digits_plain (decimal n) (decimal_digits n h)

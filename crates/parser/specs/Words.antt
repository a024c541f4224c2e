-- The words of a line, from left to right.
use Rattle.std.specs.Prelude.{ℕ, ◌+◌, ◌-◌, ◌*◌, ◌/◌, ◌%◌, ◌^◌, ◌==◌, ◌||◌, ◌&&◌, not, Bool, false, List, [], ◌∷◌}
use Rattle.std.specs.Prelude.{length, take, drop, Option, Some, None, Result, Ok, Err, nat_lt, nat_le, if◌then◌else◌}
use Rattle.std.specs.Prelude.{position, min}
use Rattle.std.specs.List.{list_all}
use Rattle.std.specs.Str.{bytes_eq}
use Rattle.parser.specs.declared.fault.FaultKind.{FaultKind}
use Rattle.parser.specs.declared.fault.FaultKind.TheVariants as kinds
use Rattle.parser.specs.declared.fault.Flaw.{Flaw}

-- a word, and the place after it: the rest up to the first space, or all of it
abbrev pub cut_at : List ℕ → ℕ → List ℕ → Option ℕ → List ℕ × ℕ
cut_at line at rest None = (rest, length line + 1)
cut_at line at rest (Some i) = (take i rest, at + i + 1)

-- the word at a place, and the place after it
unfoldable pub word_at : List ℕ → ℕ → Option (List ℕ × ℕ)
word_at line at =
    if nat_lt (length line) at then None
    else Some (cut_at line at (drop at line) (position (λ b. b == 32) (drop at line)))

-- continues if the step before found no fault
infixl 10 ◌>>=◌
abbrev pub ◌>>=◌ : {A B : Type 0} → Result A Flaw → (A → Result B Flaw) → Result B Flaw
(Ok x) >>= f = f x
(Err e) >>= f = Err e

-- a result whose value is seen by a view
abbrev pub seen : {X Y : Type 0} → (X → Y) → Result X Flaw → Result Y Flaw
seen view (Ok x) = Ok (view x)
seen view (Err e) = Err e

-- a fault at a place: columns count from 1
abbrev pub flaw : ℕ → FaultKind → Flaw
flaw at kind = record { column = at + 1; kind = kind }

-- an option's value, or this fault
abbrev pub or_flaw : {A : Type 0} → Option A → Flaw → Result A Flaw
or_flaw None e = Err e
or_flaw (Some x) e = Ok x

-- the word at a place, or a fault if it is missing
unfoldable pub word_or : List ℕ → ℕ → FaultKind → Result (List ℕ × ℕ) Flaw
word_or line at kind = or_flaw (word_at line at) (flaw (length line) kind)

-- a word that is required at a place
unfoldable pub fixed_at : List ℕ → ℕ → List ℕ → FaultKind → Result ℕ Flaw
fixed_at line at text kind = do
  w ← word_or line at kind
  if bytes_eq w.0 text then Ok w.1 else Err (flaw at kind)

-- a byte from `0` to `9`
abbrev pub is_digit : ℕ → Bool
is_digit b = nat_le 48 b && nat_le b 57

-- the first byte is `0`
abbrev pub starts_with_zero : List ℕ → Bool
starts_with_zero [] = false
starts_with_zero (b ∷ bs) = b == 48

-- digits, without leading zeros
unfoldable pub is_number : List ℕ → Bool
is_number word = not (length word == 0) && list_all is_digit word && ((length word == 1) || not (starts_with_zero word))

-- the number that digits represent after earlier ones; all numbers from 2^64 on are 2^64
unfoldable pub capped_from : ℕ → List ℕ → ℕ
capped_from v [] = v
capped_from v (b ∷ bs) = capped_from (min (v * 10 + (b - 48)) (2 ^ 64)) bs

-- the number of a word; all numbers from 2^64 on are 2^64
abbrev pub number_in : List ℕ → Option ℕ
number_in word = if is_number word then Some (capped_from 0 word) else None

-- a number in a range, or the fault
abbrev pub in_range : ℕ → ℕ → ℕ → ℕ → ℕ → Result (ℕ × ℕ) Flaw
in_range value after at low high =
    if nat_lt value low || nat_lt high value then Err (flaw at kinds.NumberOutOfRange) else Ok (value, after)

-- a number from low to high at a place
unfoldable pub number_at : List ℕ → ℕ → ℕ → ℕ → Result (ℕ × ℕ) Flaw
number_at line at low high = do
  w ← word_or line at kinds.NumberExpected
  if not (is_number w.0) then Err (flaw at kinds.NumberExpected) else in_range (capped_from 0 w.0) w.1 at low high

-- a number of 32 bits at a place
unfoldable pub small_at : List ℕ → ℕ → Result (ℕ × ℕ) Flaw
small_at line at = number_at line at 0 4294967295

-- a word that is a letter and a number below count
abbrev pub named_in : List ℕ → ℕ → ℕ → ℕ → ℕ → FaultKind → Result (ℕ × ℕ) Flaw
named_in [] after at letter count missing = Err (flaw at kinds.UnknownWord)
named_in (b ∷ bs) after at letter count missing =
    if not (b == letter) || not (is_number bs) then Err (flaw at kinds.UnknownWord) else
    (if nat_le count (capped_from 0 bs) then Err (flaw at missing) else Ok (capped_from 0 bs, after))

-- such a word at a place
unfoldable pub named_at : List ℕ → ℕ → ℕ → ℕ → FaultKind → Result (ℕ × ℕ) Flaw
named_at line at letter count missing = do
  w ← word_or line at kinds.UnknownWord
  named_in w.0 w.1 at letter count missing

-- the two parts of a word, before and after a byte
abbrev pub parts_at : List ℕ → Option ℕ → Option (List ℕ × List ℕ)
parts_at word None = None
parts_at word (Some i) = Some (take i word, drop (i + 1) word)

-- the parts of a word before and after its first period
unfoldable pub point_parts : List ℕ → Option (List ℕ × List ℕ)
point_parts word = parts_at word (position (λ b. b == 46) word)

-- an address as one number of 64 bits: its page, then 32 bits of its offset
abbrev pub address_number : ℕ → ℕ → ℕ
address_number page offset = page * 2 ^ 32 + offset

-- the page of such a number
abbrev pub page_in : ℕ → ℕ
page_in n = n / 2 ^ 32

-- its offset
abbrev pub offset_in : ℕ → ℕ
offset_in n = n % 2 ^ 32

-- a page of 32 bits, and an offset of 32 bits within a page of a number of words, or the fault
abbrev pub address_or : ℕ → ℕ → ℕ → ℕ → ℕ → Result (ℕ × ℕ) Flaw
address_or page offset after at words =
    if nat_le (2 ^ 32) page || nat_le words offset then Err (flaw at kinds.NumberOutOfRange)
    else Ok (address_number page offset, after)

-- an address by its two parts, which have to be numbers
abbrev pub address_in : List ℕ × List ℕ → ℕ → ℕ → ℕ → Result (ℕ × ℕ) Flaw
address_in parts after at words =
    if not (is_number parts.0) || not (is_number parts.1) then Err (flaw at kinds.UnknownWord)
    else address_or (capped_from 0 parts.0) (capped_from 0 parts.1) after at words

-- an address at a place, with an offset below a number of words
unfoldable pub address_at : List ℕ → ℕ → ℕ → Result (ℕ × ℕ) Flaw
address_at line at words = do
  w ← word_or line at kinds.UnknownWord
  parts ← or_flaw (point_parts w.0) (flaw at kinds.UnknownWord)
  address_in parts w.1 at words

-- the end of the line is at a place; else a fault
unfoldable pub end_at : List ℕ → ℕ → Result Unit Flaw
end_at line at = if nat_le at (length line) then Err (flaw at kinds.EndOfLineExpected) else Ok tt

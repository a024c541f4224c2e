-- The first line that is searched for is found line by line.
use Rattle.parser.proofs.Names.{Bool, List, None, Option, Some, [], ap, arith, cond, drop, false, get_or, length}
use Rattle.parser.proofs.Names.{nat_lt, position, refl, suc, sym, true, ℕ, ◌+◌, ◌∙◌, ◌∷◌, ◌≡◌, ◌≤◌, nat_tests}
use Rattle.parser.proofs.Names.{position-Some, position_or_len, slice_split, CutsLine, first_word_in, newline}
use Rattle.parser.proofs.Names.{first_word, fault_at, fault_of, is_sought, first_spot, cut_at, word_at, LineFault}
use Rattle.parser.proofs.Names.{Sought}
use Rattle.std.specs.Option.{option_map}
use Rattle.parser.proofs.Lists.{split_some, split_none}
use Rattle.parser.proofs.WordPlaces.{space}

-- ---- the place of a line's second word

cut_ends : (line : List ℕ) (o : Option ℕ) → position space (drop 0 line) ≡ o
    → (cut_at line 0 (drop 0 line) o).1 ≤ length line + 1
cut_ends line None h = omega arith
cut_ends line (Some i) h =
    let facts = position-Some space (drop 0 line) i 0 h in
    let within = facts.0 in
    omega arith

-- it is at most the line's length plus one
pub second_place : (line : List ℕ) → (first_word line).1 ≤ length line + 1
unfolding first_word word_at
second_place line = by_test (nat_lt (length line) 0)
  where
    by_test : (b : Bool) → (first_word_in (cond b None
        (Some (cut_at line 0 (drop 0 line) (position space (drop 0 line)))))).1 ≤ length line + 1
    by_test true = omega arith
    by_test false = cut_ends line (position space (drop 0 line)) refl

-- ---- the first line of lines

-- the first of the lines that is searched for, as a fault, if they count from n
unfoldable pub first_from : Sought → ℕ → List (List ℕ) → Option LineFault
first_from s n lines =
    option_map (λ i. fault_at (fault_of s) (i + n) (get_or lines i [])) (position (is_sought s) lines)

-- a line as a fault, if it is searched for
abbrev pub line_or : Sought → ℕ → List ℕ → Option LineFault
line_or s n line = cond (is_sought s line) (Some (fault_at (fault_of s) n line)) None

later_place : (k n j m : ℕ) → j ≡ suc k → m ≡ suc n
    → cond (nat_lt j m) (Some j) None ≡ option_map (λ i. suc i) (cond (nat_lt k n) (Some k) None)
later_place k n j m e f = by_test (nat_lt k n) refl
  where
    by_test : (b : Bool) → nat_lt k n ≡ b
        → cond (nat_lt j m) (Some j) None ≡ option_map (λ i. suc i) (cond b (Some k) None)
    by_test true h = let t : nat_lt j m ≡ true = grind (arith, nat_tests) in rw (t, e) refl
    by_test false h = let t : nat_lt j m ≡ false = grind (arith, nat_tests) in rw t refl

-- if the first element doesn't pass, the place counts from the second one
position_later : (p : List ℕ → Bool) (x : List ℕ) (xs : List (List ℕ)) → p x ≡ false
    → position p (x ∷ xs) ≡ option_map (λ i. suc i) (position p xs)
position_later p x xs h =
    let e : position_or_len p (x ∷ xs) ≡ suc (position_or_len p xs) = rw h (omega arith) in
    let f : length (x ∷ xs) ≡ suc (length xs) = omega arith in
    later_place (position_or_len p xs) (length xs) (position_or_len p (x ∷ xs)) (length (x ∷ xs)) e f

position_met : (p : List ℕ → Bool) (x : List ℕ) (xs : List (List ℕ)) → p x ≡ true → position p (x ∷ xs) ≡ Some 0
position_met p x xs h =
    let e : position_or_len p (x ∷ xs) ≡ 0 = rw h refl in
    let t : nat_lt 0 (length (x ∷ xs)) ≡ true = grind (arith, nat_tests) in
    rw (e, t) refl

counted : (s : Sought) (n : ℕ) (line : List ℕ) (lines : List (List ℕ)) (o : Option ℕ)
    → option_map (λ i. fault_at (fault_of s) (i + n) (get_or (line ∷ lines) i [])) (option_map (λ i. suc i) o)
    ≡ option_map (λ i. fault_at (fault_of s) (i + (n + 1)) (get_or lines i [])) o
counted s n line lines None = refl
counted s n line lines (Some i) =
    let e : suc i + n ≡ i + (n + 1) = omega arith in
    ap (λ k. Some (fault_at (fault_of s) k (get_or lines i []))) e

-- a first line that isn't searched for is skipped
pub passed : (s : Sought) (n : ℕ) (line : List ℕ) (lines : List (List ℕ)) → is_sought s line ≡ false
    → first_from s n (line ∷ lines) ≡ first_from s (n + 1) lines
unfolding first_from
passed s n line lines h =
    ap (option_map (λ i. fault_at (fault_of s) (i + n) (get_or (line ∷ lines) i [])))
    (position_later (is_sought s) line lines h) ∙ counted s n line lines (position (is_sought s) lines)

-- a first line that is searched for is the first of all
pub met : (s : Sought) (n : ℕ) (line : List ℕ) (lines : List (List ℕ)) → is_sought s line ≡ true
    → first_from s n (line ∷ lines) ≡ Some (fault_at (fault_of s) n line)
unfolding first_from
met s n line lines h =
    let e : 0 + n ≡ n = omega arith in
    ap (option_map (λ i. fault_at (fault_of s) (i + n) (get_or (line ∷ lines) i [])))
    (position_met (is_sought s) line lines h) ∙ ap (λ k. Some (fault_at (fault_of s) k line)) e

pub no_line : (s : Sought) (n : ℕ) → first_from s n [] ≡ None
unfolding first_from
no_line s n = refl

-- one line alone
pub one_line : (s : Sought) (n : ℕ) (line : List ℕ) → first_from s n (line ∷ []) ≡ line_or s n line
one_line s n line = by_test (is_sought s line) refl
  where
    by_test : (b : Bool) → is_sought s line ≡ b
        → first_from s n (line ∷ []) ≡ cond b (Some (fault_at (fault_of s) n line)) None
    by_test true h = met s n line [] h
    by_test false h = passed s n line [] h ∙ no_line s (n + 1)

-- ---- the first line of a text

-- the first line of all is counted from 1
pub spot_is : (s : Sought) (lines : List (List ℕ)) → first_from s 1 lines ≡ first_spot s lines
unfolding first_from first_spot
spot_is s lines = refl

cut_is : (bytes line after : List ℕ) → CutsLine bytes line after
    → slice_split newline bytes ≡ line ∷ slice_split newline after
cut_is bytes line after cut =
    split_some newline bytes (length line) cut.newline_at
    ∙ ap (λ (x : List ℕ). x ∷ slice_split newline (drop (length line + 1) bytes)) (sym cut.line_is)
    ∙ ap (λ (x : List ℕ). line ∷ slice_split newline x) (sym cut.after_is)

-- a line that is searched for is the first of the lines from there on
pub spot_here : (s : Sought) (n : ℕ) (fault : LineFault) (bytes line after : List ℕ) → CutsLine bytes line after
    → line_or s n line ≡ Some fault → first_from s n (slice_split newline bytes) ≡ Some fault
spot_here s n fault bytes line after cut h =
    ap (first_from s n) (cut_is bytes line after cut) ∙ by_test (is_sought s line) refl h
  where
    by_test : (b : Bool) → is_sought s line ≡ b → cond b (Some (fault_at (fault_of s) n line)) None ≡ Some fault
        → first_from s n (line ∷ slice_split newline after) ≡ Some fault
    by_test true e k = met s n line (slice_split newline after) e ∙ k
    by_test false e k = absurd cc

-- if the first line isn't searched for, the search continues with the rest
pub spot_later : (s : Sought) (n : ℕ) (bytes line after : List ℕ) → CutsLine bytes line after → line_or s n line ≡ None
    → first_from s (n + 1) (slice_split newline after) ≡ first_from s n (slice_split newline bytes)
spot_later s n bytes line after cut h =
    sym (ap (first_from s n) (cut_is bytes line after cut) ∙ by_test (is_sought s line) refl h)
  where
    by_test : (b : Bool) → is_sought s line ≡ b → cond b (Some (fault_at (fault_of s) n line)) None ≡ None
        → first_from s n (line ∷ slice_split newline after) ≡ first_from s (n + 1) (slice_split newline after)
    by_test true e k = absurd cc
    by_test false e k = passed s n line (slice_split newline after) e

-- the bytes after the last newline are a line too
pub spot_last : (s : Sought) (n : ℕ) (bytes : List ℕ) → position newline bytes ≡ None
    → first_from s n (slice_split newline bytes) ≡ line_or s n bytes
spot_last s n bytes h = ap (first_from s n) (split_none newline bytes h) ∙ one_line s n bytes

-- Lists, lines and the commands of parts.
use Rattle.parser.proofs.Names.{List, None, Option, Some, [], ap, append-nil, append_assoc, arith, length}
use Rattle.parser.proofs.Names.{length-append, refl, suc, sym, true, zero, ℕ, ◌*◌, ◌++◌, ◌+◌, ◌∙◌, ◌∷◌, ◌≡◌, ◌≤◌}
use Rattle.parser.proofs.Names.{nat_tests, flat_map-append, map-append, AllByRecursion, flat_map, repeat, codes, map}
use Rattle.parser.proofs.Names.{◌==◌, One, Part, Times, command_line_of, part_commands, part_lines, times_line_of}
use Rattle.parser.proofs.Names.{Command, MOST_TURNS, Bool, cond, drop, false, position, take, ◌<◌, ◌≢◌, position-Some}
use Rattle.parser.proofs.Names.{slice_split_none, All, join_with_byte, onto_first, position_or_len, slice_split}
use Rattle.parser.proofs.Names.{filter, newline, with_newline}
use Rattle.parser.specs.Spelling.{IsLine}
use Rattle.std.proofs.lemmas.List.Splits.{slice_split_first}
use Rattle.std.proofs.lemmas.List.Sums.{position_or_len_is, fails_before_first}
use Rattle.model.proofs.Lists.{none_far}

-- what holds for all by recursion holds at each index
pub all_from : {A : Type 0} (P : A → Type 0) (xs : List A) → AllByRecursion P xs → All P xs
all_from P [] h k d lt = absurd (omega arith)
all_from P (x ∷ xs) h zero d lt = h.0
all_from P (x ∷ xs) h (suc k) d lt = all_from P xs h.1 k d (omega arith)

-- what holds at each index holds for all by recursion
pub all_to : {A : Type 0} (P : A → Type 0) (xs : List A) → All P xs → AllByRecursion P xs
all_to P [] h = tt
all_to P (x ∷ xs) h = (h 0 x (omega arith), all_to P xs (λ k d lt. h (suc k) d (omega arith)))

pub all_weaker : {A : Type 0} (P Q : A → Type 0) → ((x : A) → P x → Q x) → (xs : List A) → AllByRecursion P xs
    → AllByRecursion Q xs
all_weaker P Q f [] h = tt
all_weaker P Q f (x ∷ xs) h = (f x h.0, all_weaker P Q f xs h.1)

-- a line has no newline, by recursion
abbrev pub HasNoNewlines : List ℕ → Type 0
HasNoNewlines line = AllByRecursion (λ b. b ≢ 10) line

pub lines_from : (lines : List (List ℕ)) → AllByRecursion HasNoNewlines lines → All IsLine lines
lines_from lines h =
    all_from IsLine lines (all_weaker HasNoNewlines IsLine (λ line. all_from (λ b. b ≢ 10) line) lines h)

pub lines_to : (lines : List (List ℕ)) → All IsLine lines → AllByRecursion HasNoNewlines lines
lines_to lines h = all_weaker IsLine HasNoNewlines (λ line. all_to (λ b. b ≢ 10) line) lines (all_to IsLine lines h)

pub all_push : {A : Type 0} (P : A → Type 0) (xs : List A) (x : A) → AllByRecursion P xs → P x
    → AllByRecursion P (xs ++ x ∷ [])
all_push P [] x h p = (p, tt)
all_push P (y ∷ ys) x h p = (h.0, all_push P ys x h.1 p)

pub all_both : {A : Type 0} (P : A → Type 0) (xs ys : List A) → AllByRecursion P xs → AllByRecursion P ys
    → AllByRecursion P (xs ++ ys)
all_both P [] ys h k = k
all_both P (x ∷ xs) ys h k = (h.0, all_both P xs ys h.1 k)

pub all_front : {A : Type 0} (P : A → Type 0) (xs ys : List A) → AllByRecursion P (xs ++ ys) → AllByRecursion P xs
all_front P [] ys h = tt
all_front P (x ∷ xs) ys h = (h.0, all_front P xs ys h.1)

pub all_back : {A : Type 0} (P : A → Type 0) (xs ys : List A) → AllByRecursion P (xs ++ ys) → AllByRecursion P ys
all_back P [] ys h = h
all_back P (x ∷ xs) ys h = all_back P xs ys h.1

-- the lines that pass, with a first line
abbrev pub told : (List ℕ → Bool) → List ℕ → List (List ℕ)
told p line = cond (p line) (line ∷ []) []

pub filter_told : (p : List ℕ → Bool) (line : List ℕ) (lines : List (List ℕ))
    → filter p (line ∷ lines) ≡ told p line ++ filter p lines
filter_told p line lines =
    elim (p line) as (λ b. cond b (line ∷ filter p lines) (filter p lines) ≡ cond b (line ∷ []) [] ++ filter p lines)
    [ true ↦ refl | false ↦ refl ]

-- lines with an empty part after them, joined by newlines, are the lines that each end in one
pub joined_lines : (lines : List (List ℕ)) → join_with_byte 10 (lines ++ [] ∷ []) ≡ flat_map with_newline lines
joined_lines [] = refl
joined_lines (line ∷ []) = sym (append-nil (line ++ 10 ∷ []))
joined_lines (line ∷ next ∷ lines) = ap (λ (t : List ℕ). line ++ (10 ∷ t)) (joined_lines (next ∷ lines))
    ∙ sym (append_assoc line (10 ∷ []) (flat_map with_newline (next ∷ lines)))

first_line : (x : ℕ) (parts : List (List ℕ)) → x ≢ 10 → AllByRecursion HasNoNewlines parts
    → AllByRecursion HasNoNewlines (onto_first x parts)
first_line x [] ne h = ((ne, tt), tt)
first_line x (part ∷ parts) ne h = ((ne, h.0), h.1)

split_more : (x : ℕ) (xs : List ℕ) (b : Bool) → newline x ≡ b → AllByRecursion HasNoNewlines (slice_split newline xs)
    → AllByRecursion HasNoNewlines (slice_split newline (x ∷ xs))
split_more x xs true e h = rw e (tt, h)
split_more x xs false e h =
    let ne : x ≢ 10 = grind (arith, nat_tests) in rw e (first_line x (slice_split newline xs) ne h)

-- a part has no newline
pub split_lines : (bytes : List ℕ) → AllByRecursion HasNoNewlines (slice_split newline bytes)
split_lines [] = (tt, tt)
split_lines (x ∷ xs) = split_more x xs (newline x) refl (split_lines xs)

-- what is cut has a first part
pub record IsCons (xs : List (List ℕ)) : Type 0 where
  pub first : List ℕ
  pub others : List (List ℕ)
  pub is : xs ≡ first ∷ others

onto_cons : (x : ℕ) (parts : List (List ℕ)) → IsCons (onto_first x parts)
onto_cons x [] = record { first = x ∷ []; others = []; is = refl }
onto_cons x (part ∷ parts) = record { first = x ∷ part; others = parts; is = refl }

pub split_cons : (p : ℕ → Bool) (xs : List ℕ) → IsCons (slice_split p xs)
split_cons p [] = record { first = []; others = []; is = refl }
split_cons p (x ∷ xs) = elim (p x) as (λ b. IsCons (cond b ([] ∷ slice_split p xs) (onto_first x (slice_split p xs))))
    [ true ↦ record { first = []; others = slice_split p xs; is = refl } | false ↦ onto_cons x (slice_split p xs) ]

-- the first part ends where the first element passes
pub split_some : (p : ℕ → Bool) (xs : List ℕ) (end : ℕ) → position p xs ≡ Some end
    → slice_split p xs ≡ take end xs ∷ slice_split p (drop (end + 1) xs)
split_some p xs end h =
    let facts = position-Some p xs end 0 h in
    let at : position_or_len p xs ≡ end =
    position_or_len_is p xs end 0 (omega (arith, facts.0)) facts.2 (λ _. facts.1) in
    let within : position_or_len p xs < length xs = rw at facts.0 in
    rw at at (slice_split_first p xs 0 within)

-- if none passes, there is one part
pub split_none : (p : ℕ → Bool) (xs : List ℕ) → position p xs ≡ None → slice_split p xs ≡ xs ∷ []
split_none p xs h =
    let far : length xs ≤ position_or_len p xs = none_far (position_or_len p xs) (length xs) h in
    let none : All (λ x. p x ≡ false) xs = λ k d le. fails_before_first p xs k d (omega (arith, far, le)) in
    slice_split_none p xs none

-- the lines of the open block so far
abbrev pub open_lines : Option ℕ → List Command → List (List ℕ)
open_lines None body = []
open_lines (Some turns) body = times_line_of turns ∷ map command_line_of body

-- the open block has a valid number of turns
abbrev pub HasTurns : Option ℕ → Type 0
HasTurns None = Unit {0}
HasTurns (Some turns) = (1 ≤ turns) × (turns ≤ MOST_TURNS)

-- ---- one line more

-- a command outside a block
pub say_one : (front : List (List ℕ))
    (parts : List Part) (c : Command) (said : List (List ℕ)) (line : List ℕ) (o : Option ℕ) (body : List Command)
    → o ≡ None → line ≡ command_line_of c → said ≡ front ++ (flat_map part_lines parts ++ open_lines o body)
    → said ++ line ∷ [] ≡ front ++ (flat_map part_lines (parts ++ One c ∷ []) ++ open_lines o body)
say_one front parts c said line o body none is h =
    rw (h, none, is) (simp (append_assoc, append-nil, flat_map-append))

-- a command in a block
pub say_inside : (front : List (List ℕ)) (parts : List Part) (turns : ℕ) (c : Command)
    (said : List (List ℕ)) (line : List ℕ) (o : Option ℕ) (body : List Command)
    → o ≡ Some turns → line ≡ command_line_of c → said ≡ front ++ (flat_map part_lines parts ++ open_lines o body)
    → said ++ line ∷ [] ≡ front ++ (flat_map part_lines parts ++ open_lines o (body ++ c ∷ []))
say_inside front parts turns c said line o body some is h =
    rw (h, some, is) (simp (append_assoc, map-append))

-- a block begins
pub say_times : (front : List (List ℕ))
    (parts : List Part) (turns : ℕ) (said : List (List ℕ)) (line : List ℕ) (o : Option ℕ) (body : List Command)
    → o ≡ None → line ≡ times_line_of turns → said ≡ front ++ (flat_map part_lines parts ++ open_lines o body)
    → said ++ line ∷ [] ≡ front ++ (flat_map part_lines parts ++ open_lines (Some turns) [])
say_times front parts turns said line o body none is h = rw (h, none, is) (simp (append_assoc, append-nil))

-- a block ends
pub say_end : (front : List (List ℕ))
    (parts : List Part) (turns : ℕ) (said : List (List ℕ)) (line : List ℕ) (o : Option ℕ) (body : List Command)
    → o ≡ Some turns → line ≡ codes "end" → said ≡ front ++ (flat_map part_lines parts ++ open_lines o body)
    → said ++ line ∷ [] ≡ front ++ (flat_map part_lines (parts ++ Times turns body ∷ []) ++ open_lines None [])
say_end front parts turns said line o body some is h =
    rw (h, some, is) (simp (append_assoc, append-nil, flat_map-append))

-- ---- commands

-- one more part adds its commands
pub more_commands : (parts : List Part) (p : Part) (cs : List Command) → cs ≡ flat_map part_commands parts →
    cs ++ part_commands p ≡ flat_map part_commands (parts ++ p ∷ [])
more_commands parts p cs h = rw (h, flat_map-append part_commands parts (p ∷ []), append-nil (part_commands p)) refl

pub all_repeated : (P : Command → Type 0) (n : ℕ) (cs : List Command) → AllByRecursion P cs
    → AllByRecursion P (repeat n cs)
all_repeated P zero cs h = tt
all_repeated P (suc n) cs h = all_both P cs (repeat n cs) h (all_repeated P n cs h)

one_turn : (n k : ℕ) → suc n * k ≡ k + n * k
one_turn n k = grind arith

no_turn : (k : ℕ) → 0 ≡ 0 * k
no_turn k = omega arith

pub repeated_length : (n : ℕ) (cs : List Command) → length (repeat n cs) ≡ n * length cs
repeated_length zero cs = no_turn (length cs)
repeated_length (suc n) cs = length-append cs (repeat n cs) ∙ ap (λ k. length cs + k) (repeated_length n cs)
    ∙ sym (one_turn n (length cs))

-- what holds for repeated commands holds for them
pub all_of_repeated : (P : Command → Type 0) (n : ℕ) (cs : List Command) → 1 ≤ n → AllByRecursion P (repeat n cs)
    → AllByRecursion P cs
all_of_repeated P zero cs some h = absurd (omega arith)
all_of_repeated P (suc n) cs some h = all_front P cs (repeat n cs) h

-- repeating no commands gives none
none_repeated : (n : ℕ) → repeat {A = Command} n [] ≡ []
none_repeated zero = refl
none_repeated (suc n) = none_repeated n

pub add_none : (n : ℕ) (cs body : List Command) → (length body == 0) ≡ true → cs ≡ cs ++ repeat n body
add_none n cs [] h = sym (append-nil cs) ∙ ap (λ (xs : List Command). cs ++ xs) (sym (none_repeated n))
add_none n cs (c ∷ body) h = absurd (grind (arith, nat_tests))

turned : (n : ℕ) (cs : List Command) → repeat n cs ++ cs ≡ cs ++ repeat n cs
turned zero cs = sym (append-nil cs)
turned (suc n) cs = append_assoc cs (repeat n cs) cs ∙ ap (λ (xs : List Command). cs ++ xs) (turned n cs)

once_more : (n : ℕ) (cs : List Command) → repeat n cs ++ cs ≡ repeat (n + 1) cs
once_more n cs = let e : suc n ≡ n + 1 = omega arith in turned n cs ∙ ap (λ k. repeat k cs) e

-- one more turn after the turns so far
pub add_turn : (n : ℕ) (before cs so_far new : List Command) → so_far ≡ before ++ repeat n cs → new ≡ so_far ++ cs
    → new ≡ before ++ repeat (n + 1) cs
add_turn n before cs so_far new h k = k ∙ ap (λ (xs : List Command). xs ++ cs) h ∙ append_assoc before (repeat n cs) cs
    ∙ ap (λ (xs : List Command). before ++ xs) (once_more n cs)

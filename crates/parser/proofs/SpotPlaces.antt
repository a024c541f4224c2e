-- The lines that are searched for, by a text, its lines and a command.
use Rattle.parser.proofs.Names.{List, [], ap, arith, false, get_or, inl, inr, refl, subst, sym, true, ℕ, ◌<◌, ◌^◌}
use Rattle.parser.proofs.Names.{◌∙◌, ◌∷◌, ◌≡◌, cases_lt, decimal_digit, first_decimal, decimal, codes, not, ◌==◌}
use Rattle.parser.proofs.Names.{bytes_eq, Actor, Thread, Worker, config_of, does, first_byte, first_word_in}
use Rattle.parser.proofs.Names.{first_word, IsActor, IsCommand, actor_word, command_line_of, operand_words}
use Rattle.parser.proofs.Names.{order_words, is_sought, is_sought_command, second_word, row_of, Sizes, Command}
use Rattle.parser.proofs.Names.{Sought, Verb, Bool, suc, zero, ◌++◌, ◌+◌, ◌≤◌, nat_tests, AllByRecursion, flat_map}
use Rattle.parser.proofs.Names.{repeat, slice_split, is_some, filter, map, ◌||◌, Layout, Config, ScriptValue, newline}
use Rattle.parser.proofs.Names.{IsPart, IsScript, One, Part, Spells, SpellsHeap, Times, layout_line_of, part_commands}
use Rattle.parser.proofs.Names.{part_lines, says_something, times_line_of, first_spot, Some, append_assoc, cond}
use Rattle.parser.proofs.Names.{length, flat_map-append, same_Some, IsScriptConfig, line_of, with_newline}
use Rattle.parser.proofs.Names.{IsFirstSpot, fault_at, fault_of, LineFault}
use Rattle.std.proofs.lemmas.Bool.{ne_eqb}
use Rattle.parser.specs.Verbs.{is_for_worker}
use Rattle.parser.specs.Orders.{then_of, then_with, is_cycles, is_raced}
use Rattle.parser.specs.Spots.{is_cycle_word, SpellsNone}
use Rattle.parser.proofs.WordPlaces.{found_word, word_place}
use Rattle.parser.proofs.ActorsAndOrders.{AreFew, first_is}
use Rattle.parser.proofs.Plain.{actor_plain, order_plain, lines_split, no_spaces, sizes_in, config_tells}
use Rattle.parser.proofs.OtherLines.{HasWords, words_are, not_equal, tail_is, few_actors}
use Rattle.std.specs.List.{list_any}
use Rattle.std.proofs.lemmas.List.Folds.{list_any-append}
use Rattle.std.proofs.lemmas.Map.Views.{any-filter_same}
use Rattle.parser.proofs.FirstSpots.{first_from, spot_is, passed, met, no_line, one_line}
use Rattle.parser.proofs.Lists.{all_back, all_to, all_front, lines_to, HasNoNewlines, all_from, all_weaker, all_both}
use Rattle.parser.proofs.Lists.{lines_from, all_of_repeated}
use Rattle.parser.proofs.SpelledIsRead.{commands_of}
use Rattle.parser.specs.declared.spots.Sought.TheVariants as sought

-- the word of a verb is a cycle's exactly if a cycle follows the verb's step
cycle_word : (verb : Verb) → is_cycle_word (row_of verb).text ≡ is_cycles (then_with verb)
cycle_word verb = grind arith

-- no thread does a cycle
no_cycle : (verb : Verb) → not (is_for_worker verb) ≡ true → is_cycles (then_with verb) ≡ false
no_cycle verb h = grind arith

worker_zero : (w : ℕ) → w < 2 ^ 64 → bytes_eq (actor_word (Worker w)) (codes "w0") ≡ (w == 0)
worker_zero w h = elim (cases_lt 0 w) [
  | inl above ↦
      let first = first_decimal w above h in
      let other : decimal w ≡ codes "0" → ⊥ = λ e. let at = ap (λ (x : List ℕ). get_or x 0 0) e in omega (arith, at) in
      let no : bytes_eq (actor_word (Worker w)) (codes "w0") ≡ false =
      not_equal (actor_word (Worker w)) (codes "w0") (λ e. other (tail_is 119 (decimal w) (codes "0") e)) in
      let test : (w == 0) ≡ false = ne_eqb w 0 (λ e. omega arith) in
      no ∙ sym test
  | inr none ↦
      let e : w ≡ 0 = omega arith in
      let d : decimal 0 ≡ codes "0" = decimal_digit 0 (omega arith) in
      rw (e, d) refl
]

-- ---- the words of a command's line

record HasTwoWords (line actor verb : List ℕ) : Type 0 where
  first : (first_word line).0 ≡ actor
  second : second_word line ≡ verb

two_words : (line actor verb : List ℕ) (ws : List (List ℕ)) → HasWords line actor (verb ∷ ws)
    → HasTwoWords line actor verb
unfolding second_word
two_words line actor verb ws h =
    let found = found_word line (first_word line).1 verb ws h.rest in
    record { first = h.first; second = ap (λ x. (first_word_in x).0) found.1 }

-- a line that begins with another letter than a worker's isn't searched for
pub other_start : (s : Sought) (line : List ℕ) → (first_byte line == 119) ≡ false → is_sought s line ≡ false
other_start sought.Cycle line h = rw h refl
other_start sought.Other line h = rw h refl

thread_line : (s : Sought) (t : ℕ) (c : Command) (line : List ℕ) → c.actor ≡ Thread t
    → does (Thread t) c.order.verb ≡ true → first_byte line ≡ 116 → is_sought s line ≡ is_sought_command s c
thread_line sought.Cycle t c line a own first =
    other_start sought.Cycle line (rw first refl) ∙ sym (no_cycle c.order.verb own)
thread_line sought.Other t c line a own first =
    other_start sought.Other line (rw first refl) ∙ sym (ap (λ x. not (is_raced x (then_of c.order))) a)

worker_line : (s : Sought) (w : ℕ) (c : Command) (line : List ℕ) → c.actor ≡ Worker w → w < 2 ^ 64
    → HasTwoWords line (actor_word (Worker w)) (row_of c.order.verb).text
    → first_byte line ≡ 119 → is_sought s line ≡ is_sought_command s c
worker_line sought.Cycle w c line a small words first =
    let cycle = ap is_cycle_word words.second ∙ cycle_word c.order.verb in rw (first, cycle) refl
worker_line sought.Other w c line a small words first =
    let cycle = ap is_cycle_word words.second ∙ cycle_word c.order.verb in
    let zero = ap (λ (x : List ℕ). bytes_eq x (codes "w0")) words.first ∙ worker_zero w small in
    rw (first, cycle, zero) (sym (ap (λ x. not (is_raced x (then_of c.order))) a))

-- the line of a command
pub command_sought : (s : Sought) (z : Sizes) (c : Command) → AreFew z → IsCommand (config_of z []) c
    → is_sought s (command_line_of c) ≡ is_sought_command s c
command_sought s z c few is =
    let words = words_are (command_line_of c) (actor_word c.actor) (order_words c.order) refl
    (actor_plain z c.actor few is.actor) (order_plain z c.order few is.order) in
    by_actor c.actor refl words
  where
    by_actor : (a : Actor) → c.actor ≡ a → HasWords (command_line_of c) (actor_word c.actor) (order_words c.order)
        → is_sought s (command_line_of c) ≡ is_sought_command s c
    by_actor (Thread t) e h =
        let all = h.all ∙ ap (λ (x : Actor). actor_word x ∷ order_words c.order) e in
        let own : does (Thread t) c.order.verb ≡ true = subst (λ (x : Actor). does x c.order.verb ≡ true) e is.own in
        thread_line s t c (command_line_of c) e own
        (first_is (command_line_of c) 116 (decimal t) (order_words c.order) all)
    by_actor (Worker w) e h =
        let there : IsActor (config_of z []) (Worker w) = subst (IsActor (config_of z [])) e is.actor in
        let words : HasWords (command_line_of c) (actor_word (Worker w)) (order_words c.order) =
        subst (λ (x : Actor). HasWords (command_line_of c) (actor_word x) (order_words c.order)) e h in
        worker_line s w c (command_line_of c) e (omega (arith, few.workers.1, there))
        (two_words (command_line_of c) (actor_word (Worker w)) (row_of c.order.verb).text
        (operand_words (row_of c.order.verb).kinds c.order) words)
        (first_is (command_line_of c) 119 (decimal w) (order_words c.order) words.all)

-- ---- lines

-- there is a first one exactly if there is one
pub spot_there : (s : Sought) (n : ℕ) (lines : List (List ℕ))
    → is_some (first_from s n lines) ≡ list_any (is_sought s) lines
spot_there s n [] = ap is_some (no_line s n)
spot_there s n (line ∷ lines) = by_test (is_sought s line) refl (spot_there s (n + 1) lines)
  where
    by_test : (b : Bool) → is_sought s line ≡ b → is_some (first_from s (n + 1) lines) ≡ list_any (is_sought s) lines
        → is_some (first_from s n (line ∷ lines)) ≡ (b || list_any (is_sought s) lines)
    by_test true h later = ap is_some (met s n line lines h)
    by_test false h later = ap is_some (passed s n line lines h) ∙ later

or_none : (b : Bool) → (b || false) ≡ b
or_none true = refl
or_none false = refl

or_same : (b : Bool) → (b || b) ≡ b
or_same true = refl
or_same false = refl

pub empty_line : (s : Sought) → is_sought s [] ≡ false
empty_line s = other_start s [] refl

-- a line that is searched for isn't empty or a comment
pub sought_says : (s : Sought) (line : List ℕ) → is_sought s line ≡ true → says_something line ≡ true
sought_says s [] h = absurd (both (empty_line s) h)
  where
    both : {b : Bool} → b ≡ false → b ≡ true → ⊥
    both e f = absurd cc
sought_says s (b ∷ bs) h = by_test (b == 119) refl
  where
    by_test : (t : Bool) → (b == 119) ≡ t → not (b == 35) ≡ true
    by_test true e = grind (arith, nat_tests)
    by_test false e = let no = other_start s (b ∷ bs) e in absurd cc

-- the lines of a text
any_line : (s : Sought) (lines : List (List ℕ))
    → list_any (is_sought s) (lines ++ [] ∷ []) ≡ list_any (is_sought s) (filter says_something lines)
any_line s lines =
    list_any-append (is_sought s) lines ([] ∷ [])
    ∙ ap (λ b. list_any (is_sought s) lines || (b || false)) (empty_line s)
    ∙ or_none (list_any (is_sought s) lines)
    ∙ sym (any-filter_same (is_sought s) says_something true (sought_says s) lines)

-- ---- parts

commands_any : (s : Sought) (z : Sizes) (cs : List Command) → AreFew z → AllByRecursion (IsCommand (config_of z [])) cs
    → list_any (is_sought s) (map command_line_of cs) ≡ list_any (is_sought_command s) cs
commands_any s z [] few h = refl
commands_any s z (c ∷ cs) few h = rw (command_sought s z c few h.0, commands_any s z cs few h.1) refl

repeated_any : (p : Command → Bool) (n : ℕ) (cs : List Command) → list_any p (repeat (suc n) cs) ≡ list_any p cs
repeated_any p zero cs = list_any-append p cs [] ∙ or_none (list_any p cs)
repeated_any p (suc n) cs =
    list_any-append p cs (repeat (suc n) cs) ∙ ap (λ b. list_any p cs || b) (repeated_any p n cs)
    ∙ or_same (list_any p cs)

turns_any : (p : Command → Bool) (n : ℕ) (cs : List Command) → 1 ≤ n → list_any p (repeat n cs) ≡ list_any p cs
turns_any p zero cs some = absurd (omega arith)
turns_any p (suc n) cs some = repeated_any p n cs

block_any : (s : Sought) (n : ℕ) (cs : List Command) → list_any (is_sought s)
    (times_line_of n ∷ map command_line_of cs ++ codes "end" ∷ []) ≡ list_any (is_sought s) (map command_line_of cs)
block_any s n cs =
    let first : is_sought s (times_line_of n) ≡ false = other_start s (times_line_of n) refl in
    let last : is_sought s (codes "end") ≡ false = other_start s (codes "end") refl in
    ap (λ b. b || list_any (is_sought s) (map command_line_of cs ++ codes "end" ∷ [])) first
    ∙ list_any-append (is_sought s) (map command_line_of cs) (codes "end" ∷ [])
    ∙ ap (λ b. list_any (is_sought s) (map command_line_of cs) || (b || false)) last
    ∙ or_none (list_any (is_sought s) (map command_line_of cs))

part_any : (s : Sought) (z : Sizes) (p : Part) → AreFew z → IsPart p
    → AllByRecursion (IsCommand (config_of z [])) (part_commands p)
    → list_any (is_sought s) (part_lines p) ≡ list_any (is_sought_command s) (part_commands p)
part_any s z (One c) few is h = commands_any s z (c ∷ []) few h
part_any s z (Times n cs) few is h =
    block_any s n cs
    ∙ commands_any s z cs few (all_of_repeated (IsCommand (config_of z [])) n cs is.0 h)
    ∙ sym (turns_any (is_sought_command s) n cs is.0)

parts_any : (s : Sought) (z : Sizes) (parts : List Part) → AreFew z → AllByRecursion IsPart parts
    → AllByRecursion (IsCommand (config_of z [])) (flat_map part_commands parts)
    → list_any (is_sought s) (flat_map part_lines parts) ≡ list_any (is_sought_command s) (flat_map part_commands parts)
parts_any s z [] few is h = refl
parts_any s z (p ∷ parts) few is h =
    let own = all_front (IsCommand (config_of z [])) (part_commands p) (flat_map part_commands parts) h in
    let others = all_back (IsCommand (config_of z [])) (part_commands p) (flat_map part_commands parts) h in
    list_any-append (is_sought s) (part_lines p) (flat_map part_lines parts)
    ∙ ap (λ b. b || list_any (is_sought s) (flat_map part_lines parts)) (part_any s z p few is.0 own)
    ∙ ap (λ b. list_any (is_sought_command s) (part_commands p) || b) (parts_any s z parts few is.1 others)
    ∙ sym (list_any-append (is_sought_command s) (part_commands p) (flat_map part_commands parts))

-- ---- the heading

layouts_none : (s : Sought) (ls : List Layout) → list_any (is_sought s) (map layout_line_of ls) ≡ false
layouts_none s [] = refl
layouts_none s (l ∷ ls) =
    let first : is_sought s (layout_line_of l) ≡ false = other_start s (layout_line_of l) refl in
    rw (first, layouts_none s ls) refl

pub heap_none : (s : Sought) (heap : List ℕ) (c : Config) → SpellsHeap heap c → is_sought s heap ≡ false
heap_none s heap c h = other_start s heap (ap (λ (x : List ℕ). first_byte x == 119) h.line_is)

-- ---- a complete text

-- a line is searched for exactly if a command is
pub text_sought : (s : Sought) (bytes : List ℕ) (t : ScriptValue) → IsScript t → Spells bytes t
    → is_some (first_spot s (slice_split newline bytes)) ≡ list_any (is_sought_command s) t.commands
text_sought s bytes t is h =
    let z = sizes_in t.config in
    let few = few_actors z (config_tells t.config is.config).sizes in
    let each = subst (λ (x : List Command). AllByRecursion (IsCommand (config_of z [])) x) h.commands_are
    (commands_of t.config t.commands (all_to (IsCommand t.config) t.commands is.commands)) in
    let cut : slice_split newline bytes ≡ h.lines ++ [] ∷ [] =
    ap (slice_split newline) h.bytes_are ∙ lines_split h.lines (lines_to h.lines h.each) in
    let heading = heap_none s h.heap t.config h.heap_spelled in
    let layouts = layouts_none s t.config.layouts in
    let said = list_any-append (is_sought s) (h.heap ∷ map layout_line_of t.config.layouts)
    (flat_map part_lines h.parts) in
    let front : list_any (is_sought s) (h.heap ∷ map layout_line_of t.config.layouts) ≡ false =
    rw (heading, layouts) refl in
    ap is_some (sym (spot_is s (slice_split newline bytes))) ∙ spot_there s 1 (slice_split newline bytes)
    ∙ ap (list_any (is_sought s)) cut ∙ any_line s h.lines ∙ ap (list_any (is_sought s)) h.said ∙ said
    ∙ ap (λ b. b || list_any (is_sought s) (flat_map part_lines h.parts)) front
    ∙ parts_any s z h.parts few (all_to IsPart h.parts h.turns) each
    ∙ ap (list_any (is_sought_command s)) (sym h.commands_are)

-- ---- the line that is found

-- lines up to the first one that is searched for, and those after it
record IsFound (s : Sought) (n : ℕ) (lines : List (List ℕ)) (fault : LineFault) : Type 0 where
  before : List (List ℕ)
  line : List ℕ
  after : List (List ℕ)
  lines_are : lines ≡ before ++ line ∷ after
  is : is_sought s line ≡ true
  none : AllByRecursion (λ x. is_sought s x ≡ false) before
  fault_is : fault_at (fault_of s) (n + length before) line ≡ fault

found_next : (s : Sought) (n : ℕ) (line : List ℕ) (lines : List (List ℕ)) (fault : LineFault)
    → is_sought s line ≡ false → IsFound s (n + 1) lines fault → IsFound s n (line ∷ lines) fault
found_next s n line lines fault h f =
    let e : n + length (line ∷ f.before) ≡ n + 1 + length f.before = omega arith in
    record {
      before = line ∷ f.before;
      line = f.line;
      after = f.after;
      lines_are = ap (λ (x : List (List ℕ)). line ∷ x) f.lines_are;
      is = f.is;
      none = (h, f.none);
      fault_is = ap (λ k. fault_at (fault_of s) k f.line) e ∙ f.fault_is;
    }

found_here : (s : Sought) (n : ℕ) (line : List ℕ) (lines : List (List ℕ)) (fault : LineFault)
    → is_sought s line ≡ true → fault_at (fault_of s) n line ≡ fault → IsFound s n (line ∷ lines) fault
found_here s n line lines fault h e =
    let k : n + 0 ≡ n = omega arith in
    record {
      before = [];
      line = line;
      after = lines;
      lines_are = refl;
      is = h;
      none = tt;
      fault_is = ap (λ i. fault_at (fault_of s) i line) k ∙ e;
    }

found : (s : Sought) (n : ℕ) (lines : List (List ℕ)) (fault : LineFault) → first_from s n lines ≡ Some fault
    → IsFound s n lines fault
found s n [] fault h = let none = no_line s n in absurd cc
found s n (line ∷ lines) fault h = by_test (is_sought s line) refl (found s (n + 1) lines fault)
  where
    by_test : (b : Bool) → is_sought s line ≡ b
        → (first_from s (n + 1) lines ≡ Some fault → IsFound s (n + 1) lines fault) → IsFound s n (line ∷ lines) fault
    by_test true e later =
        found_here s n line lines fault e (same_Some _ fault (sym (met s n line lines e) ∙ h))
    by_test false e later = found_next s n line lines fault e (later (sym (passed s n line lines e) ∙ h))

-- the empty part after the last newline isn't searched for
without_last : (s : Sought) (n : ℕ) (lines : List (List ℕ)) → first_from s n (lines ++ [] ∷ []) ≡ first_from s n lines
without_last s n [] =
    let none = empty_line s in one_line s n [] ∙ (rw none (sym (no_line s n)))
without_last s n (line ∷ lines) = by_test (is_sought s line) refl (without_last s (n + 1) lines)
  where
    by_test : (b : Bool) → is_sought s line ≡ b → first_from s (n + 1) (lines ++ [] ∷ []) ≡ first_from s (n + 1) lines
        → first_from s n (line ∷ (lines ++ [] ∷ [])) ≡ first_from s n (line ∷ lines)
    by_test true e later = met s n line (lines ++ [] ∷ []) e ∙ sym (met s n line lines e)
    by_test false e later = passed s n line (lines ++ [] ∷ []) e ∙ later ∙ sym (passed s n line lines e)

-- ---- a line that is searched for is a command's

record IsCommandLine (s : Sought) (config : Config) (line : List ℕ) : Type 0 where
  command : Command
  own : IsCommand config command
  line_is : line ≡ command_line_of command
  is : is_sought_command s command ≡ true

-- a line that is searched for spells a command
abbrev Tells : Sought → Config → List ℕ → Type 0
Tells s config line = is_sought s line ≡ true → IsCommandLine s config line

other_tells : (s : Sought) (config : Config) (line : List ℕ) → is_sought s line ≡ false → Tells s config line
other_tells s config line h = λ e. absurd cc

few_of : (config : Config) → IsScriptConfig config → AreFew (sizes_in config)
few_of config h = few_actors (sizes_in config) (config_tells config h).sizes

sized : (s : Sought) (config : Config) (c : Command) → IsScriptConfig config → IsCommand config c
    → is_sought s (command_line_of c) ≡ is_sought_command s c
sized s config c valid h =
    command_sought s (sizes_in config) c (few_of config valid) (commands_of config (c ∷ []) (h, tt)).0

commands_tell : (s : Sought) (config : Config) (cs : List Command) → IsScriptConfig config
    → AllByRecursion (IsCommand config) cs → AllByRecursion (Tells s config) (map command_line_of cs)
commands_tell s config [] valid h = tt
commands_tell s config (c ∷ cs) valid h = (
  λ e. record { command = c; own = h.0; line_is = refl; is = sym (sized s config c valid h.0) ∙ e },
  commands_tell s config cs valid h.1,
)

part_tells : (s : Sought) (config : Config) (p : Part) → IsScriptConfig config → IsPart p
    → AllByRecursion (IsCommand config) (part_commands p) → AllByRecursion (Tells s config) (part_lines p)
part_tells s config (One c) valid is h = commands_tell s config (c ∷ []) valid h
part_tells s config (Times n cs) valid is h =
    let own = all_of_repeated (IsCommand config) n cs is.0 h in
    let first = other_tells s config (times_line_of n) (other_start s (times_line_of n) refl) in
    let last = other_tells s config (codes "end") (other_start s (codes "end") refl) in (
      first,
      all_both (Tells s config) (map command_line_of cs) (codes "end" ∷ [])
          (commands_tell s config cs valid own) (last, tt),
    )

parts_tell : (s : Sought) (config : Config) (parts : List Part) → IsScriptConfig config → AllByRecursion IsPart parts
    → AllByRecursion (IsCommand config) (flat_map part_commands parts)
    → AllByRecursion (Tells s config) (flat_map part_lines parts)
parts_tell s config [] valid is h = tt
parts_tell s config (p ∷ parts) valid is h =
    all_both (Tells s config) (part_lines p) (flat_map part_lines parts)
    (part_tells s config p valid is.0 (all_front (IsCommand config) (part_commands p) (flat_map part_commands parts) h))
    (parts_tell s config parts valid is.1
    (all_back (IsCommand config) (part_commands p) (flat_map part_commands parts) h))

layouts_tell : (s : Sought) (config : Config) (ls : List Layout)
    → AllByRecursion (Tells s config) (map layout_line_of ls)
layouts_tell s config [] = tt
layouts_tell s config (l ∷ ls) =
    (other_tells s config (layout_line_of l) (other_start s (layout_line_of l) refl), layouts_tell s config ls)

-- what holds for the lines that aren't empty or comments holds for all, if it holds for each that is
all_of_said : (P : List ℕ → Type 0) → ((line : List ℕ) → says_something line ≡ false → P line)
    → (lines : List (List ℕ)) → AllByRecursion P (filter says_something lines) → AllByRecursion P lines
all_of_said P idle [] h = tt
all_of_said P idle (line ∷ lines) h = by_test (says_something line) refl (all_of_said P idle lines) h
  where
    by_test : (b : Bool) → says_something line ≡ b
        → (AllByRecursion P (filter says_something lines) → AllByRecursion P lines)
        → AllByRecursion P (cond b (line ∷ filter says_something lines) (filter says_something lines))
        → P line × AllByRecursion P lines
    by_test true e later k = (k.0, later k.1)
    by_test false e later k = (idle line e, later k)

-- each line of a text that is searched for spells a command
lines_tell : (s : Sought) (bytes : List ℕ) (t : ScriptValue) → IsScript t → (h : Spells bytes t)
    → AllByRecursion (Tells s t.config) h.lines
lines_tell s bytes t is h =
    let own = subst (λ (x : List Command). AllByRecursion (IsCommand t.config) x) h.commands_are
    (all_to (IsCommand t.config) t.commands is.commands) in
    let heading = other_tells s t.config h.heap (heap_none s h.heap t.config h.heap_spelled) in
    let said = all_both (Tells s t.config) (h.heap ∷ map layout_line_of t.config.layouts) (flat_map part_lines h.parts)
    (heading, layouts_tell s t.config t.config.layouts)
    (parts_tell s t.config h.parts is.config (all_to IsPart h.parts h.turns) own) in
    all_of_said (Tells s t.config) idle h.lines
    (subst (λ (x : List (List ℕ)). AllByRecursion (Tells s t.config) x) (sym h.said) said)
  where
    idle : (line : List ℕ) → says_something line ≡ false → Tells s t.config line
    idle line e k = let some = sought_says s line k in absurd cc

-- ---- the place

-- the verb's word follows the actor's
second_at : (config : Config) (c : Command) → IsScriptConfig config → IsCommand config c
    → (first_word (command_line_of c)).1 ≡ length (actor_word c.actor) + 1
unfolding first_word
second_at config c valid h =
    let z = sizes_in config in
    let plain = actor_plain z c.actor (few_of config valid) (commands_of config (c ∷ []) (h, tt)).0.actor in
    let rest = line_of (order_words c.order) in
    let place = word_place (command_line_of c) 0 [] (actor_word c.actor) (32 ∷ rest) refl refl
    (no_spaces (actor_word c.actor) plain) (inr (rest, refl)) in
    let e : 0 + length (actor_word c.actor) + 1 ≡ length (actor_word c.actor) + 1 = omega arith in
    ap (λ x. (first_word_in x).1) place ∙ e

none_spelled : (s : Sought) (config : Config) → IsScriptConfig config → (lines : List (List ℕ))
    → AllByRecursion (λ x. is_sought s x ≡ false) lines → AllByRecursion (SpellsNone s config) lines
none_spelled s config valid lines h = all_weaker (λ x. is_sought s x ≡ false) (SpellsNone s config) one lines h
  where
    one : (line : List ℕ) → is_sought s line ≡ false → SpellsNone s config line
    one line other c own e = sym (sized s config c valid own) ∙ ap (is_sought s) (sym e) ∙ other

text_at : (before after : List (List ℕ)) (line other : List ℕ) → line ≡ other
    → flat_map with_newline (before ++ line ∷ after)
    ≡ flat_map with_newline before ++ (other ++ 10 ∷ flat_map with_newline after)
text_at before after line other e = rw e (simp (flat_map-append, append_assoc))

-- the first line that is searched for, of a text that spells a script
pub spot_stands : (s : Sought) (bytes : List ℕ) (t : ScriptValue) (fault : LineFault) → IsScript t → Spells bytes t
    → first_spot s (slice_split newline bytes) ≡ Some fault → IsFirstSpot s t.config bytes fault
spot_stands s bytes t fault is h e =
    let cut : slice_split newline bytes ≡ h.lines ++ [] ∷ [] =
    ap (slice_split newline) h.bytes_are ∙ lines_split h.lines (lines_to h.lines h.each) in
    let first : first_from s 1 h.lines ≡ Some fault =
    sym (without_last s 1 h.lines) ∙ ap (first_from s 1) (sym cut) ∙ spot_is s (slice_split newline bytes) ∙ e in
    let f = found s 1 h.lines fault first in
    let told = subst (λ (x : List (List ℕ)). AllByRecursion (Tells s t.config) x) f.lines_are
    (lines_tell s bytes t is h) in
    let c = (all_back (Tells s t.config) f.before (f.line ∷ f.after) told).0 f.is in
    let each = subst (λ (x : List (List ℕ)). AllByRecursion HasNoNewlines x) f.lines_are (lines_to h.lines h.each) in
    let place = second_at t.config c.command is.config c.own in
    let column : (first_word f.line).1 + 1 ≡ length (actor_word c.command.actor) + 2 =
    ap (λ (x : List ℕ). (first_word x).1 + 1) c.line_is ∙ omega (arith, place) in
    let number : 1 + length f.before ≡ length f.before + 1 = omega arith in
    record {
      before = f.before;
      command = c.command;
      behind = flat_map with_newline f.after;
      each = lines_from f.before (all_front HasNoNewlines f.before (f.line ∷ f.after) each);
      bytes_are = h.bytes_are ∙ ap (flat_map with_newline) f.lines_are
          ∙ text_at f.before f.after f.line (command_line_of c.command) c.line_is;
      own = c.own;
      is = c.is;
      number = ap (λ (x : LineFault). x.line) (sym f.fault_is) ∙ number;
      column = ap (λ (x : LineFault). x.column) (sym f.fault_is) ∙ column;
      kind = ap (λ (x : LineFault). x.kind) (sym f.fault_is);
      first = all_from (SpellsNone s t.config) f.before (none_spelled s t.config is.config f.before f.none);
    }

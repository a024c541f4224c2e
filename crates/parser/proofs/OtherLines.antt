-- What was read so far, and lines that are spelled correctly, within all limits: they are accepted.
use Rattle.parser.proofs.Names.{List, None, Option, Some, [], ap, arith, false, length, refl, true, ℕ, ◌++◌, ◌∙◌, ◌∷◌}
use Rattle.parser.proofs.Names.{◌≡◌, ◌≤◌, ◌⊎◌, nat_tests, AllByRecursion, flat_map, list_all, map, ◌==◌, Layout}
use Rattle.parser.proofs.Names.{page_size_range, fits_page, config_of, ReadSoFar, first_word_in, nothing, first_word}
use Rattle.parser.proofs.Names.{IsCommand, IsLayout, IsPart, Part, SpellsHeap, layout_line_of, line_of, part_commands}
use Rattle.parser.proofs.Names.{part_lines, word_at, Sizes, MOST_COMMANDS, Bool, nat_lt, subst, sym, ◌*◌, ◌+◌, ◌<◌}
use Rattle.parser.proofs.Names.{◌^◌, le-ltb, lt-ltb, bytes_eq-Decides, decimal, repeat, slice_split, Ok, codes}
use Rattle.parser.proofs.Names.{bytes_eq, Actor, Thread, Worker, end_in, is_full, is_idle, line_after, times_in}
use Rattle.parser.proofs.Names.{with_command, command_line, end_line, heap_line, later_line, layout_line, line_in}
use Rattle.parser.proofs.Names.{part_line, times_line, IsActor, actor_word, command_line_of, order_words, size_words}
use Rattle.parser.proofs.Names.{times_line_of, is_digit, MOST_LAYOUTS, Command, MOST_TURNS, inl, inr, not, ◌&&◌}
use Rattle.parser.proofs.Lists.{split_cons, open_lines, HasTurns}
use Rattle.parser.proofs.WordPlaces.{words_from, word_is, no_word_is, words_whole, space, cons_is, number_again}
use Rattle.parser.proofs.WordPlaces.{end_again}
use Rattle.parser.proofs.ActorsAndOrders.{AreFew, line_is, order_again, actor_again}
use Rattle.parser.proofs.HeapLines.{IsSizes, SpellsSizes, heap_again}
use Rattle.parser.proofs.Numbers.{decimal_digits, IsPlain, number_plain}
use Rattle.parser.proofs.LayoutLines.{layout_again}
use Rattle.parser.proofs.Plain.{words_split, actor_plain, order_plain, sizes_plain}

-- ---- the first word

first_found : (line : List ℕ) (o : Option (List ℕ × ℕ)) → word_at line 0 ≡ o
    → words_from line 0 ≡ (first_word_in o).0 ∷ words_from line (first_word_in o).1
first_found line None e = let none = no_word_is line 0 e in let whole_line = words_whole line in
    let some = split_cons (λ b. b == 32) line in let first = some.is in absurd cc
first_found line (Some w) e = word_is line 0 w e

-- the words of a line are the first one and those after it
pub first_words : (line : List ℕ) → words_from line 0 ≡ (first_word line).0 ∷ words_from line (first_word line).1
unfolding first_word
first_words line = first_found line (word_at line 0) refl

-- a line by its first word and what follows it
pub line_by_words : (line w : List ℕ) (ws : List (List ℕ)) → (first_word line).0 ≡ w
    → words_from line (first_word line).1 ≡ ws → line ≡ line_of (w ∷ ws)
line_by_words line w ws first rest =
    line_is line (w ∷ ws) (first_words line ∙ ap (λ (t : List ℕ). t ∷ words_from line (first_word line).1) first
    ∙ ap (λ (t : List (List ℕ)). w ∷ t) rest)

-- ---- what was read so far

-- before a command or a block has begun there are no parts
pub record IsFresh (r : ReadSoFar) (parts : List Part) : Type 0 where
  pub no_parts : parts ≡ []
  pub no_block : r.turns ≡ None

-- after the heap line: the lines that aren't empty or comments spell what was read, and it is in range
pub record IsBehind (said : List (List ℕ)) (r : ReadSoFar) : Type 0 where
  pub sizes : Sizes
  pub sizes_is : r.sizes ≡ Some sizes
  pub heap : List ℕ
  pub heap_spelled : SpellsHeap heap (config_of sizes [])
  pub parts : List Part
  pub said_is : said ≡ (heap ∷ map layout_line_of r.layouts) ++ (flat_map part_lines parts ++ open_lines r.turns r.body)
  pub commands_are : r.commands ≡ flat_map part_commands parts
  pub turns : AllByRecursion IsPart parts
  pub block_turns : HasTurns r.turns
  pub fresh : r.begun ≡ false → IsFresh r parts
  pub started : r.begun ≡ true → 1 ≤ length r.layouts
  pub range : IsSizes sizes
  pub layouts : AllByRecursion IsLayout r.layouts
  pub room : list_all (fits_page sizes.words) r.layouts ≡ true
  pub few : length r.layouts ≤ 64
  pub commands : AllByRecursion (IsCommand (config_of sizes [])) r.commands
  pub body : AllByRecursion (IsCommand (config_of sizes [])) r.body
  pub count : length r.commands ≤ MOST_COMMANDS

-- before the heap line all lines are empty or comments
pub record IsBefore (said : List (List ℕ)) (r : ReadSoFar) : Type 0 where
  pub said_is : said ≡ []
  pub is : r ≡ nothing

-- what was read, after the lines that aren't empty or comments
abbrev pub Said : List (List ℕ) → ReadSoFar → Type 0
Said said r = IsBefore said r ⊎ IsBehind said r

pub few_actors : (s : Sizes) → IsSizes s → AreFew s
few_actors s r =
    let words = page_size_range s.words r.words in
    record {
      words = (omega (arith, words.0), omega (arith, words.1));
      threads = (r.threads.0, omega (arith, r.threads.1));
      workers = (r.workers.0, omega (arith, r.workers.1));
      registers = (r.registers.0, omega (arith, r.registers.1));
    }

pub some_layouts : (ls : List Layout) → (length ls == 0) ≡ false → 1 ≤ length ls
some_layouts ls h = grind (arith, nat_tests)

-- a line of plain words has this first word and these after it
pub record HasWords (line w : List ℕ) (ws : List (List ℕ)) : Type 0 where
  pub all : words_from line 0 ≡ w ∷ ws
  pub first : (first_word line).0 ≡ w
  pub rest : words_from line (first_word line).1 ≡ ws

pub words_are : (line w : List ℕ) (ws : List (List ℕ)) → line ≡ line_of (w ∷ ws) → IsPlain w → AllByRecursion IsPlain ws
    → HasWords line w ws
words_are line w ws is first rest =
    let all : words_from line 0 ≡ w ∷ ws = words_whole line ∙ ap (slice_split space) is ∙ words_split w ws first rest in
    let parts = cons_is (first_word line).0 w (words_from line (first_word line).1) ws (sym (first_words line) ∙ all) in
    record { all = all; first = parts.0; rest = parts.1 }

-- after the heap line
pub record IsReady (z : Sizes) (r : ReadSoFar) : Type 0 where
  pub sizes_is : r.sizes ≡ Some z
  pub range : IsSizes z

-- an actor's word isn't a keyword
record IsNoLineWord (w : List ℕ) : Type 0 where
  layout : bytes_eq w (codes "layout") ≡ false
  times : bytes_eq w (codes "times") ≡ false
  end : bytes_eq w (codes "end") ≡ false

pub not_equal : (v w : List ℕ) → (v ≡ w → ⊥) → bytes_eq v w ≡ false
not_equal v w h = by_test (bytes_eq v w) refl
  where
    by_test : (b : Bool) → bytes_eq v w ≡ b → bytes_eq v w ≡ false
    by_test true e = absurd (h ((bytes_eq-Decides v w).0 e))
    by_test false e = e

pub tail_is : (b : ℕ) (v w : List ℕ) → b ∷ v ≡ b ∷ w → v ≡ w
tail_is b v w e = cc

-- digits follow an actor's letter
no_digits : (n : ℕ) → n < 2 ^ 64 → decimal n ≡ codes "imes" → ⊥
no_digits n h e = let digits : list_all is_digit (codes "imes") ≡ true =
    ap (list_all is_digit) (sym e) ∙ decimal_digits n h in absurd cc

no_line_word : (z : Sizes) (a : Actor) → AreFew z → IsActor (config_of z []) a → IsNoLineWord (actor_word a)
no_line_word z (Thread t) few there = record {
  layout = refl;
  times = not_equal (actor_word (Thread t)) (codes "times")
      (λ e. no_digits t (omega (arith, few.threads.1, there)) (tail_is 116 (decimal t) (codes "imes") e));
  end = refl;
}
no_line_word z (Worker w) few there = record { layout = refl; times = refl; end = refl }

said_line : (r : ReadSoFar) (z : Sizes) (line : List ℕ) → is_idle line ≡ false → r.sizes ≡ Some z
    → line_in r line ≡ later_line r z line
unfolding line_in
said_line r z line idle sizes_is = rw idle (ap (λ (o : Option Sizes). line_after r o line) sizes_is)

-- after the layout lines, if the line's first word is no layout line's
part_taken : (z : Sizes) (r : ReadSoFar) (line w : List ℕ) → IsReady z r → 1 ≤ length r.layouts → is_idle line ≡ false
    → (first_word line).0 ≡ w → bytes_eq w (codes "layout") ≡ false → line_in r line ≡ part_line r z line
unfolding later_line
part_taken z r line w ready some idle first no_layout =
    let layout : bytes_eq (first_word line).0 (codes "layout") ≡ false =
    ap (λ (x : List ℕ). bytes_eq x (codes "layout")) first ∙ no_layout in
    let layouts : (length r.layouts == 0) ≡ false = grind (arith, nat_tests) in
    said_line r z line idle ready.sizes_is ∙ rw (layout, layouts) refl

command_line_taken : (z : Sizes) (r : ReadSoFar) (line : List ℕ) (w : List ℕ) → (first_word line).0 ≡ w
    → IsNoLineWord w → part_line r z line ≡ command_line r z line
unfolding part_line
command_line_taken z r line w first other =
    let times : bytes_eq (first_word line).0 (codes "times") ≡ false =
    ap (λ (x : List ℕ). bytes_eq x (codes "times")) first ∙ other.times in
    let end : bytes_eq (first_word line).0 (codes "end") ≡ false = ap (λ (x : List ℕ). bytes_eq x (codes "end")) first
    ∙ other.end in
    rw (times, end) refl

pub command_taken : (z : Sizes) (r : ReadSoFar) (c : Command) (line : List ℕ) (o : Option ℕ)
    → IsReady z r → 1 ≤ length r.layouts → r.turns ≡ o → is_full o r.commands ≡ false → IsCommand (config_of z []) c
    → is_idle line ≡ false → line ≡ command_line_of c → line_in r line ≡ Ok (with_command r o c)
unfolding command_line
command_taken z r c line o ready some turns room h idle is =
    let few = few_actors z ready.range in
    let words = words_are line (actor_word c.actor) (order_words c.order) is (actor_plain z c.actor few h.actor)
    (order_plain z c.order few h.order) in
    let other = no_line_word z c.actor few h.actor in
    let free : is_full r.turns r.commands ≡ false = ap (λ (x : Option ℕ). is_full x r.commands) turns ∙ room in
    let actor = actor_again z line c.actor (order_words c.order) few h.actor words.all in
    let order = order_again z line c.actor actor.0 c.order few h.own h.order actor.2 in
    let added : command_line r z line ≡ Ok (with_command r r.turns c) = rw (actor.1, free, order) refl in
    part_taken z r line (actor_word c.actor) ready some idle words.first other.layout
    ∙ command_line_taken z r line (actor_word c.actor) words.first other
    ∙ added
    ∙ ap (λ (x : Option ℕ). Ok (with_command r x c)) turns

pub times_taken : (z : Sizes) (r : ReadSoFar) (n : ℕ) (line : List ℕ) → IsReady z r
    → 1 ≤ length r.layouts → r.turns ≡ None → 1 ≤ n → n ≤ MOST_TURNS → is_idle line ≡ false → line ≡ times_line_of n
    → line_in r line ≡ Ok (record r { begun = true; turns = Some n; body = [] })
unfolding part_line times_line
times_taken z r n line ready some none low high idle is =
    let words = words_are line (codes "times") (decimal n ∷ []) is refl (number_plain n (omega (arith, high)), tt) in
    let times : bytes_eq (first_word line).0 (codes "times") ≡ true =
    ap (λ (w : List ℕ). bytes_eq w (codes "times")) words.first in
    let number = number_again line (first_word line).1 1 MOST_TURNS n [] (omega (arith, high)) low high words.rest in
    let e = end_again line number.0 number.2 in
    let here : part_line r z line ≡ times_in r r.turns line = rw times refl in
    let read : times_in r None line ≡ Ok (record r { begun = true; turns = Some n; body = [] }) =
    rw (number.1, e) refl in
    part_taken z r line (codes "times") ready some idle words.first refl ∙ here
    ∙ ap (λ (x : Option ℕ). times_in r x line) none ∙ read

pub end_taken : (z : Sizes) (r : ReadSoFar) (n : ℕ) (line : List ℕ) → IsReady z r → 1 ≤ length r.layouts
    → r.turns ≡ Some n → length r.commands + n * length r.body ≤ MOST_COMMANDS → is_idle line ≡ false
    → line ≡ codes "end" → line_in r line ≡ Ok
    (record r { commands = r.commands ++ repeat n r.body; turns = None; body = [] })
unfolding part_line end_line
end_taken z r n line ready some block room idle is =
    let words = words_are line (codes "end") [] is refl tt in
    let times : bytes_eq (first_word line).0 (codes "times") ≡ false =
    ap (λ (w : List ℕ). bytes_eq w (codes "times")) words.first in
    let end : bytes_eq (first_word line).0 (codes "end") ≡ true =
    ap (λ (w : List ℕ). bytes_eq w (codes "end")) words.first in
    let fits : nat_lt MOST_COMMANDS (length r.commands + n * length r.body) ≡ false =
    le-ltb MOST_COMMANDS (length r.commands + n * length r.body) room in
    let e = end_again line (first_word line).1 words.rest in
    let here : part_line r z line ≡ end_in r r.turns line = rw (times, end) refl in
    let read :
    end_in r (Some n) line ≡ Ok (record r { commands = r.commands ++ repeat n r.body; turns = None; body = [] }) =
    rw (fits, e) refl in
    part_taken z r line (codes "end") ready some idle words.first refl ∙ here
    ∙ ap (λ (x : Option ℕ). end_in r x line) block ∙ read

pub layout_taken : (z : Sizes) (r : ReadSoFar) (l : Layout) (line : List ℕ) → IsReady z r → r.begun ≡ false
    → length r.layouts < MOST_LAYOUTS → IsLayout l → fits_page z.words l ≡ true → is_idle line ≡ false
    → line ≡ layout_line_of l → line_in r line ≡ Ok (record r { layouts = r.layouts ++ l ∷ [] })
unfolding later_line layout_line
layout_taken z r l line ready not_begun few h room idle is =
    let refs = h.refs in
    let nums = h.nums in
    let words = words_are line (codes "layout") (decimal l.refs ∷ decimal l.nums ∷ []) is refl
    (number_plain l.refs (omega arith), (number_plain l.nums (omega arith), tt)) in
    let layout : bytes_eq (first_word line).0 (codes "layout") ≡ true =
    ap (λ (w : List ℕ). bytes_eq w (codes "layout")) words.first in
    let below : nat_lt (length r.layouts) MOST_LAYOUTS ≡ true = lt-ltb (length r.layouts) MOST_LAYOUTS few in
    let size : 1 + l.refs + l.nums ≤ z.words = grind (arith, nat_tests) in
    let read = layout_again z line (first_word line).1 l (record { spelled = words.rest; is = h; room = size }) in
    said_line r z line idle ready.sizes_is ∙ rw (layout, not_begun, below, read) refl

pub heap_taken : (z : Sizes) (line : List ℕ) → IsSizes z → SpellsHeap line (config_of z []) → is_idle line ≡ false →
    line_in nothing line ≡ Ok (record nothing { sizes = Some z })
unfolding line_in heap_line
heap_taken z line range h idle =
    let sizes : SpellsSizes z (size_words (config_of z []) ++ h.births ++ h.history) = record {
      births = h.births;
      history = h.history;
      births_spelled = h.births_spelled;
      history_spelled = h.history_spelled;
      words_are = refl;
      range = range;
    } in
    let words = words_are line (codes "heap") (size_words (config_of z []) ++ h.births ++ h.history) h.line_is refl
    (sizes_plain z _ sizes) in
    let first : bytes_eq (first_word line).0 (codes "heap") ≡ true =
    ap (λ (w : List ℕ). bytes_eq w (codes "heap")) words.first in
    let read = heap_again line (first_word line).1 z (subst (SpellsSizes z) (sym words.rest) sizes) in
    rw (idle, first, read) refl

-- a heap line gives the sizes
pub record IsHeapLine (r u : ReadSoFar) (line : List ℕ) : Type 0 where
  pub sizes : Sizes
  pub first : r ≡ nothing
  pub spelled : SpellsHeap line (config_of sizes [])
  pub range : IsSizes sizes
  pub then : u ≡ record r { sizes = Some sizes }

-- a command's line adds the command
pub record IsCommandLine (z : Sizes) (r u : ReadSoFar) (line : List ℕ) : Type 0 where
  pub command : Command
  pub line_is : line ≡ command_line_of command
  pub own : IsCommand (config_of z []) command
  pub room : is_full r.turns r.commands ≡ false
  pub then : u ≡ with_command r r.turns command

-- a line begins a block
pub record IsTimesLine (r u : ReadSoFar) (line : List ℕ) : Type 0 where
  pub turns : ℕ
  pub line_is : line ≡ times_line_of turns
  pub closed : r.turns ≡ None
  pub some : 1 ≤ turns
  pub few : turns ≤ MOST_TURNS
  pub then : u ≡ record r { begun = true; turns = Some turns; body = [] }

-- a line ends a block
pub record IsEndLine (r u : ReadSoFar) (line : List ℕ) : Type 0 where
  pub turns : ℕ
  pub line_is : line ≡ codes "end"
  pub opened : r.turns ≡ Some turns
  pub room : length r.commands + turns * length r.body ≤ MOST_COMMANDS
  pub then : u ≡ record r { commands = r.commands ++ repeat turns r.body; turns = None; body = [] }

-- a line that is accepted after some sizes, other than a layout line
abbrev pub IsOtherLine : Option Sizes → ReadSoFar → ReadSoFar → List ℕ → Type 0
IsOtherLine None r u line = IsHeapLine r u line
IsOtherLine (Some z) r u line =
    (1 ≤ length r.layouts) × ((IsCommandLine z r u line ⊎ IsTimesLine r u line) ⊎ IsEndLine r u line)

-- a line with this first word is a layout line
abbrev pub is_layout_next : ReadSoFar → List ℕ → Bool
is_layout_next r word = bytes_eq word (codes "layout") && not r.begun && nat_lt (length r.layouts) MOST_LAYOUTS

joined_idle : (b : ℕ) (w : List ℕ) (ws : List (List ℕ)) → (b == 35) ≡ false → is_idle (line_of ((b ∷ w) ∷ ws)) ≡ false
joined_idle b w [] h = h
joined_idle b w (v ∷ ws) h = h

pub actor_idle : (actor : Actor) (ws : List (List ℕ)) → is_idle (line_of (actor_word actor ∷ ws)) ≡ false
actor_idle (Thread t) ws = joined_idle 116 (decimal t) ws refl
actor_idle (Worker w) ws = joined_idle 119 (decimal w) ws refl

accepted : (r u v : ReadSoFar) (line other : List ℕ) → line ≡ other → u ≡ v → line_in r other ≡ Ok v
    → line_in r line ≡ Ok u
accepted r u v line other e d h =
    ap (λ (x : List ℕ). line_in r x) e ∙ h ∙ ap (λ (x : ReadSoFar). Ok x) (sym d)

heap_accepted : (r u : ReadSoFar) (line : List ℕ) → IsHeapLine r u line → line_in r line ≡ Ok u
heap_accepted r u line h =
    let idle : is_idle line ≡ false = ap is_idle h.spelled.line_is in
    subst (λ (x : ReadSoFar). line_in x line ≡ Ok u) (sym h.first) (heap_taken h.sizes line h.range h.spelled idle
    ∙ ap (λ (x : ReadSoFar). Ok x) (ap (λ (x : ReadSoFar). record x { sizes = Some h.sizes }) (sym h.first) ∙ sym
    h.then))

part_accepted : (z : Sizes) (r u : ReadSoFar) (line : List ℕ) → r.sizes ≡ Some z → IsSizes z → 1 ≤ length r.layouts
    → (IsCommandLine z r u line ⊎ IsTimesLine r u line) ⊎ IsEndLine r u line → line_in r line ≡ Ok u
part_accepted z r u line is range some (inl (inl h)) =
    accepted r u _ line (command_line_of h.command) h.line_is h.then (command_taken z r h.command
    (command_line_of h.command) r.turns (record { sizes_is = is; range = range }) some refl h.room h.own
    (actor_idle h.command.actor (order_words h.command.order)) refl)
part_accepted z r u line is range some (inl (inr h)) =
    accepted r u _ line (times_line_of h.turns) h.line_is h.then (times_taken z r h.turns (times_line_of h.turns)
    (record { sizes_is = is; range = range }) some h.closed h.some h.few refl refl)
part_accepted z r u line is range some (inr h) =
    accepted r u _ line (codes "end") h.line_is h.then (end_taken z r h.turns (codes "end")
    (record { sizes_is = is; range = range }) some h.opened h.room refl refl)

pub other_accepted : (said : List (List ℕ)) (r u : ReadSoFar) (line : List ℕ) → Said said r
    → IsOtherLine r.sizes r u line → line_in r line ≡ Ok u
other_accepted said r u line (inl before) h = heap_accepted r u line
    (subst (λ (o : Option Sizes). IsOtherLine o r u line) (ap (λ (x : ReadSoFar). x.sizes) before.is) h)
other_accepted said r u line (inr b) h =
    let part = subst (λ (o : Option Sizes). IsOtherLine o r u line) b.sizes_is h in
    part_accepted b.sizes r u line b.sizes_is b.range part.0 part.1

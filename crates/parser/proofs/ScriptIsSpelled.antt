-- What is read to the end is a script within all limits that the bytes spell.
use Rattle.parser.proofs.Names.{Bool, List, None, Option, Some, [], ap, append-nil, arith, false, inl, inr, length}
use Rattle.parser.proofs.Names.{length-append, nat_lt, refl, subst, sym, true, ℕ, ◌++◌, ◌+◌, ◌<◌, ◌∙◌, ◌∷◌, ◌≡◌, ◌≤◌}
use Rattle.parser.proofs.Names.{and_parts, nat_tests, map-append, list_all-append, bytes_eq-Decides, flat_map}
use Rattle.parser.proofs.Names.{list_all, repeat, Ok, codes, map, not, ◌&&◌, bytes_eq, Layout, same_result, fits_page}
use Rattle.parser.proofs.Names.{config_of, layout_in, ReadSoFar, is_full, is_idle, line_after, nothing, with_command}
use Rattle.parser.proofs.Names.{first_word, heap_line, later_line, layout_line, line_in, IsCommand, IsLayout, IsPart}
use Rattle.parser.proofs.Names.{One, Part, Times, command_line_of, layout_line_of, part_lines, says_something, Sizes}
use Rattle.parser.proofs.Names.{MOST_LAYOUTS, Command, MOST_COMMANDS, append_assoc, cond, join_with_byte-slice_split}
use Rattle.parser.proofs.Names.{AllByRecursion, join_with_byte, slice_split, Err, Result, filter, ◌==◌, ScriptValue}
use Rattle.parser.proofs.Names.{closed, fault_at_start, goes_on, in_line, newline, script_of, whole, finished}
use Rattle.parser.proofs.Names.{last_line, lines_in, script_in, IsScript, Spells, SpellsHeap, part_commands, Flaw}
use Rattle.parser.proofs.Names.{LineFault}
use Rattle.std.proofs.lemmas.Bool.{ltb-true, not-true}
use Rattle.parser.proofs.OtherLines.{IsHeapLine, IsTimesLine, IsEndLine, IsOtherLine, is_layout_next, line_by_words}
use Rattle.parser.proofs.OtherLines.{IsBehind, Said, some_layouts}
use Rattle.parser.proofs.LineFaults.{line_says}
use Rattle.parser.proofs.WordPlaces.{bind_ok, test_ok, one_of}
use Rattle.parser.proofs.LayoutLines.{layout_ok}
use Rattle.parser.proofs.Lists.{open_lines, HasTurns, say_one, say_inside, say_times, say_end, more_commands}
use Rattle.parser.proofs.Lists.{all_repeated, repeated_length, all_push, told, all_both, split_cons, all_front}
use Rattle.parser.proofs.Lists.{filter_told, joined_lines, split_lines, all_from, lines_from, HasNoNewlines}
use Rattle.parser.proofs.Plain.{AreLayouts, config_in_range}
use Rattle.parser.specs.declared.fault.FaultKind.TheVariants as kinds

heap_step : (r t : ReadSoFar) (line : List ℕ) → IsHeapLine r t line → IsBehind (line ∷ []) t
heap_step r t line h =
    subst (λ (x : ReadSoFar). IsBehind (line ∷ []) x)
    (sym (h.then ∙ ap (λ (x : ReadSoFar). record x { sizes = Some h.sizes }) h.first)) (record {
      sizes = h.sizes;
      sizes_is = refl;
      heap = line;
      heap_spelled = h.spelled;
      parts = [];
      said_is = refl;
      commands_are = refl;
      turns = tt;
      block_turns = tt;
      fresh = λ _. record { no_parts = refl; no_block = refl };
      started = λ e. absurd cc;
      range = h.range;
      layouts = tt;
      room = refl;
      few = omega arith;
      commands = tt;
      body = tt;
      count = omega arith;
    })

add_layout : (heap : List ℕ) (ls : List Layout) (l : Layout) (said : List (List ℕ)) (line : List ℕ)
    (parts : List Part) (o : Option ℕ) (body : List Command) → parts ≡ [] → o ≡ None → line ≡ layout_line_of l
    → said ≡ (heap ∷ map layout_line_of ls) ++ (flat_map part_lines parts ++ open_lines o body) → said ++ line ∷ []
    ≡ (heap ∷ map layout_line_of (ls ++ l ∷ [])) ++ (flat_map part_lines parts ++ open_lines o body)
add_layout heap ls l said line parts o body none no_block is h =
    rw (
      h,
      none,
      no_block,
      is,
      append-nil (map layout_line_of ls),
      append-nil (map layout_line_of (ls ++ l ∷ [])),
      map-append layout_line_of ls (l ∷ []),
    ) refl

room_more : (words : ℕ) (ls : List Layout) (l : Layout) → list_all (fits_page words) ls ≡ true → IsLayout l
    → 1 + l.refs + l.nums ≤ words → list_all (fits_page words) (ls ++ l ∷ []) ≡ true
room_more words ls l h is room =
    let fits : fits_page words l ≡ true = grind (arith, nat_tests, is.refs, is.nums) in
    list_all-append (fits_page words) ls (l ∷ []) ∙ (rw (h, fits) refl)

-- ---- a line after the heap line

module _ (said : List (List ℕ)) (r : ReadSoFar) (b : IsBehind said r) (line : List ℕ) where
  layout_step : (t : ReadSoFar) → (first_word line).0 ≡ codes "layout" → r.begun ≡ false
      → length r.layouts < MOST_LAYOUTS → layout_line r b.sizes line ≡ Ok t → IsBehind (said ++ line ∷ []) t
  unfolding layout_line
  layout_step t first not_begun few h =
      let fresh = b.fresh not_begun in
      let l = bind_ok (layout_in b.sizes line (first_word line).1) _ t h in
      let layout = layout_ok b.sizes line (first_word line).1 l.0 l.1 in
      let line_is_layout : line ≡ layout_line_of l.0 = line_by_words line (codes "layout") _ first layout.spelled in
      subst (λ (x : ReadSoFar). IsBehind (said ++ line ∷ []) x)
      (same_result (record r { layouts = r.layouts ++ l.0 ∷ [] }) t l.2) (record {
        sizes = b.sizes;
        sizes_is = b.sizes_is;
        heap = b.heap;
        heap_spelled = b.heap_spelled;
        parts = b.parts;
        said_is = add_layout b.heap r.layouts l.0 said line b.parts r.turns r.body fresh.no_parts fresh.no_block
            line_is_layout b.said_is;
        commands_are = b.commands_are;
        turns = b.turns;
        block_turns = b.block_turns;
        fresh = λ _. record { no_parts = fresh.no_parts; no_block = fresh.no_block };
        started = λ _. omega (arith, length-append r.layouts (l.0 ∷ []));
        range = b.range;
        layouts = all_push IsLayout r.layouts l.0 b.layouts layout.is;
        room = room_more b.sizes.words r.layouts l.0 b.room layout.is layout.room;
        few = omega (arith, length-append r.layouts (l.0 ∷ []));
        commands = b.commands;
        body = b.body;
        count = b.count;
      })

  command_behind : (c : Command) → 1 ≤ length r.layouts → line ≡ command_line_of c → IsCommand (config_of b.sizes []) c
      → (o : Option ℕ) → r.turns ≡ o → is_full o r.commands ≡ false → IsBehind (said ++ line ∷ []) (with_command r o c)
  command_behind c some_layout is own None none room =
      let fits : length r.commands < MOST_COMMANDS = grind (arith, nat_tests) in
      record {
        sizes = b.sizes;
        sizes_is = b.sizes_is;
        heap = b.heap;
        heap_spelled = b.heap_spelled;
        parts = b.parts ++ One c ∷ [];
        said_is = say_one (b.heap ∷ map layout_line_of r.layouts) b.parts c said line r.turns r.body none is b.said_is;
        commands_are = more_commands b.parts (One c) r.commands b.commands_are;
        turns = all_push IsPart b.parts (One c) b.turns tt;
        block_turns = b.block_turns;
        fresh = λ e. absurd cc;
        started = λ _. some_layout;
        range = b.range;
        layouts = b.layouts;
        room = b.room;
        few = b.few;
        commands = all_push (IsCommand (config_of b.sizes [])) r.commands c b.commands own;
        body = b.body;
        count = omega (arith, length-append r.commands (c ∷ []));
      }
  command_behind c some_layout is own (Some turns) some room = record {
    sizes = b.sizes;
    sizes_is = b.sizes_is;
    heap = b.heap;
    heap_spelled = b.heap_spelled;
    parts = b.parts;
    said_is = say_inside (b.heap ∷ map layout_line_of r.layouts) b.parts turns c said line r.turns r.body some is
        b.said_is;
    commands_are = b.commands_are;
    turns = b.turns;
    block_turns = b.block_turns;
    fresh = λ e. let none = (b.fresh e).no_block in absurd cc;
    started = λ _. some_layout;
    range = b.range;
    layouts = b.layouts;
    room = b.room;
    few = b.few;
    commands = b.commands;
    body = all_push (IsCommand (config_of b.sizes [])) r.body c b.body own;
    count = b.count;
  }

  times_behind : (t : ReadSoFar) → 1 ≤ length r.layouts → IsTimesLine r t line → IsBehind (said ++ line ∷ []) t
  times_behind t some_layout h = subst (λ (x : ReadSoFar). IsBehind (said ++ line ∷ []) x) (sym h.then) (record {
    sizes = b.sizes;
    sizes_is = b.sizes_is;
    heap = b.heap;
    heap_spelled = b.heap_spelled;
    parts = b.parts;
    said_is = say_times (b.heap ∷ map layout_line_of r.layouts) b.parts h.turns said line r.turns r.body h.closed
        h.line_is b.said_is;
    commands_are = b.commands_are;
    turns = b.turns;
    block_turns = (h.some, h.few);
    fresh = λ f. absurd cc;
    started = λ _. some_layout;
    range = b.range;
    layouts = b.layouts;
    room = b.room;
    few = b.few;
    commands = b.commands;
    body = tt;
    count = b.count;
  })

  end_behind : (t : ReadSoFar) → 1 ≤ length r.layouts → IsEndLine r t line → IsBehind (said ++ line ∷ []) t
  end_behind t some_layout h =
      let has : HasTurns (Some h.turns) = subst HasTurns h.opened b.block_turns in
      let fits = h.room in
      subst (λ (x : ReadSoFar). IsBehind (said ++ line ∷ []) x) (sym h.then) (record {
        sizes = b.sizes;
        sizes_is = b.sizes_is;
        heap = b.heap;
        heap_spelled = b.heap_spelled;
        parts = b.parts ++ Times h.turns r.body ∷ [];
        said_is = say_end (b.heap ∷ map layout_line_of r.layouts) b.parts h.turns said line r.turns r.body h.opened
            h.line_is b.said_is;
        commands_are = more_commands b.parts (Times h.turns r.body) r.commands b.commands_are;
        turns = all_push IsPart b.parts (Times h.turns r.body) b.turns has;
        block_turns = tt;
        fresh = λ f. let none = (b.fresh f).no_block in let some = h.opened in absurd cc;
        started = λ _. some_layout;
        range = b.range;
        layouts = b.layouts;
        room = b.room;
        few = b.few;
        commands = all_both (IsCommand (config_of b.sizes [])) r.commands (repeat h.turns r.body) b.commands
            (all_repeated (IsCommand (config_of b.sizes [])) h.turns r.body b.body);
        body = tt;
        count = omega (arith, length-append r.commands (repeat h.turns r.body), repeated_length h.turns r.body, fits);
      })

  part_behind : (t : ReadSoFar) → IsOtherLine (Some b.sizes) r t line → IsBehind (said ++ line ∷ []) t
  part_behind t (some, inl (inl h)) = subst (λ (x : ReadSoFar). IsBehind (said ++ line ∷ []) x) (sym h.then)
      (command_behind h.command some h.line_is h.own r.turns refl h.room)
  part_behind t (some, inl (inr h)) = times_behind t some h
  part_behind t (some, inr h) = end_behind t some h

-- ---- a line

-- no layout line is first
not_layout : (line : List ℕ) (t : ReadSoFar) → (first_word line).0 ≡ codes "layout" → heap_line nothing line ≡ Ok t → ⊥
unfolding heap_line
not_layout line t first h =
    let g = test_ok (bytes_eq (first_word line).0 (codes "heap")) _ _ t h in
    let heap : codes "layout" ≡ codes "heap" =
    sym first ∙ (bytes_eq-Decides (first_word line).0 (codes "heap")).0 g.0 in
    absurd cc

-- the first word of a layout line
first_layout : (r : ReadSoFar) (line : List ℕ) → is_layout_next r (first_word line).0 ≡ true
    → ((first_word line).0 ≡ codes "layout") × (r.begun ≡ false) × (length r.layouts < MOST_LAYOUTS)
first_layout r line e =
    let most = and_parts (bytes_eq (first_word line).0 (codes "layout") && not r.begun)
    (nat_lt (length r.layouts) MOST_LAYOUTS) e in
    let first = and_parts (bytes_eq (first_word line).0 (codes "layout")) (not r.begun) most.0 in (
      (bytes_eq-Decides (first_word line).0 (codes "layout")).0 first.0,
      not-true r.begun first.1,
      ltb-true (length r.layouts) MOST_LAYOUTS most.1,
    )

line_step : (said : List (List ℕ)) (r t : ReadSoFar) (line : List ℕ) → Said said r → line_after r r.sizes line ≡ Ok t
    → (b : Bool) → is_layout_next r (first_word line).0 ≡ b → Said (said ++ line ∷ []) t
unfolding later_line
line_step said r t line (inl before) h true e = absurd (not_layout line t (first_layout r line e).0
    (subst (λ (x : ReadSoFar). line_after x x.sizes line ≡ Ok t) before.is h))
line_step said r t line (inr behind) h true e =
    let later : later_line r behind.sizes line ≡ Ok t =
    subst (λ (o : Option Sizes). line_after r o line ≡ Ok t) behind.sizes_is h in
    let first = first_layout r line e in
    inr (layout_step said r behind line t first.0 first.1 first.2 (rw e at later))
line_step said r t line so_far h false e = by_said so_far (line_says said r t line so_far e h)
  where
    by_said : Said said r → IsOtherLine r.sizes r t line → Said (said ++ line ∷ []) t
    by_said (inl before) other =
        let heap = subst (λ (o : Option Sizes). IsOtherLine o r t line)
        (ap (λ (x : ReadSoFar). x.sizes) before.is) other in
        inr (rw before.said_is (heap_step r t line heap))
    by_said (inr b) other =
        inr (part_behind said r b line t (subst (λ (o : Option Sizes). IsOtherLine o r t line) b.sizes_is other))

pub line_ok : (said : List (List ℕ)) (r t : ReadSoFar) (line : List ℕ) → Said said r → line_in r line ≡ Ok t
    → Said (said ++ told says_something line) t
unfolding line_in
line_ok said r t line so_far h =
    elim (one_of (is_idle line) _ _ (Ok t) h) [
      | inl p ↦ rw (p.0, append-nil said, ← same_result r t p.1) so_far
      | inr p ↦ rw p.0 (line_step said r t line so_far p.1 (is_layout_next r (first_word line).0) refl)
    ]

-- ---- the end

-- a script and the lines that spell it
pub record IsTold (said : List (List ℕ)) (s : ScriptValue) : Type 0 where
  pub script : IsScript s
  pub heap : List ℕ
  pub heap_spelled : SpellsHeap heap s.config
  pub parts : List Part
  pub turns : AllByRecursion IsPart parts
  pub commands_are : s.commands ≡ flat_map part_commands parts
  pub said_is : said ≡ heap ∷ map layout_line_of s.config.layouts ++ flat_map part_lines parts

pub commands_with : (s : Sizes) (ls : List Layout) (cs : List Command) → AllByRecursion (IsCommand (config_of s [])) cs
    → AllByRecursion (IsCommand (config_of s ls)) cs
commands_with s ls [] h = tt
commands_with s ls (c ∷ cs) h =
    (record { actor = h.0.actor; own = h.0.own; order = h.0.order }, commands_with s ls cs h.1)

pub guard_line : {A : Type 0} (b : Bool) (d : LineFault) (x : Result A LineFault) (y : A) → cond b (Err d) x ≡ Ok y
    → (b ≡ false) × (x ≡ Ok y)
guard_line true d x y e = absurd cc
guard_line false d x y e = (refl, e)

closed_ok : (n : ℕ) (r : ReadSoFar) (z : Sizes) (o : Option ℕ) (s : ScriptValue) → closed n r z o ≡ Ok s →
    (o ≡ None) × (script_of (config_of z r.layouts) r.commands ≡ s)
closed_ok n r z None s h = (refl, cc)
closed_ok n r z (Some turns) s h = absurd cc

pub all_said : (front lines said : List (List ℕ)) (o : Option ℕ) (body : List Command) → o ≡ None
    → said ≡ front ++ (lines ++ open_lines o body) → said ≡ front ++ lines
all_said front lines said o body none h = h ∙ ap (λ (x : List (List ℕ)). front ++ x) (rw none (append-nil lines))

pub finished_ok : (n : ℕ) (said : List (List ℕ)) (r : ReadSoFar) (s : ScriptValue) → Said said r → finished n r ≡ Ok s
    → IsTold said s
unfolding finished
finished_ok n said r s (inl before) h =
    let e : whole n nothing None ≡ Ok s = subst (λ (x : ReadSoFar). whole n x x.sizes ≡ Ok s) before.is h in absurd cc
finished_ok n said r s (inr b) h =
    let e : whole n r (Some b.sizes) ≡ Ok s = subst (λ (o : Option Sizes). whole n r o ≡ Ok s) b.sizes_is h in
    let g = guard_line (length r.layouts == 0) (fault_at_start n kinds.LayoutLineExpected)
    (closed n r b.sizes r.turns) s e in
    let c = closed_ok n r b.sizes r.turns s g.1 in
    let layouts : AreLayouts b.sizes.words r.layouts =
    record { some = some_layouts r.layouts g.0; few = b.few; room = b.room } in
    subst (λ (x : ScriptValue). IsTold said x) c.1 (record {
      script = record {
        config = config_in_range b.sizes r.layouts b.range layouts;
        layouts = all_from IsLayout r.layouts b.layouts;
        commands = all_from (IsCommand (config_of b.sizes r.layouts)) r.commands
            (commands_with b.sizes r.layouts r.commands b.commands);
        count = b.count;
      };
      heap = b.heap;
      heap_spelled = record {
        births = b.heap_spelled.births;
        history = b.heap_spelled.history;
        births_spelled = b.heap_spelled.births_spelled;
        history_spelled = b.heap_spelled.history_spelled;
        line_is = b.heap_spelled.line_is;
      };
      parts = b.parts;
      turns = b.turns;
      commands_are = b.commands_are;
      said_is = all_said (b.heap ∷ map layout_line_of r.layouts)
          (flat_map part_lines b.parts) said r.turns r.body c.0 b.said_is;
    })

-- ---- all lines

-- the remaining lines, and what they spell after the lines before
record IsReadFrom (said : List (List ℕ)) (parts : List (List ℕ)) (s : ScriptValue) : Type 0 where
  lines : List (List ℕ)
  parts_are : parts ≡ lines ++ [] ∷ []
  all_told : IsTold (said ++ filter says_something lines) s

pub never : {A B : Type 0} (x : Result A LineFault) (f : A → LineFault) (y : B) → goes_on x (λ t. Err (f t)) ≡ Ok y → ⊥
never (Ok x) f y e = absurd cc
never (Err d) f y e = absurd cc

pub pick_false : {A : Type 0} (c : Bool) (x y z : A) → c ≡ false → cond c x y ≡ z → y ≡ z
pick_false true x y z e h = absurd cc
pick_false false x y z e h = h

last_ok : (n : ℕ) (said : List (List ℕ)) (r : ReadSoFar) (rest : List ℕ) (s : ScriptValue) → Said said r
    → last_line n r rest ≡ Ok s → IsReadFrom said (rest ∷ []) s
unfolding last_line
last_ok n said r [] s so_far h =
    record { lines = []; parts_are = refl; all_told = rw (append-nil said) (finished_ok n said r s so_far h) }
last_ok n said r (b ∷ bs) s so_far h =
    let some : (length (b ∷ bs) == 0) ≡ false = grind (arith, nat_tests) in
    absurd (never (in_line n (line_in r (b ∷ bs))) _ s (pick_false (length (b ∷ bs) == 0) _ _ (Ok s) some h))

pub on_ok : {A B : Type 0} (n : ℕ) (x : Result A Flaw) (f : A → Result B LineFault) (y : B)
    → goes_on (in_line n x) f ≡ Ok y → (t : A) × (x ≡ Ok t) × (f t ≡ Ok y)
on_ok n (Ok t) f y e = (t, refl, e)
on_ok n (Err d) f y e = absurd cc

lines_ok : (n : ℕ) (said : List (List ℕ)) (r : ReadSoFar) (line : List ℕ) (more : List (List ℕ)) (s : ScriptValue)
    → Said said r → lines_in n r (line ∷ more) ≡ Ok s → IsReadFrom said (line ∷ more) s
unfolding lines_in
lines_ok n said r line [] s so_far h = last_ok n said r line s so_far h
lines_ok n said r line (next ∷ more) s so_far h =
    let t = on_ok n (line_in r line) _ s h in
    let rest =
    lines_ok (n + 1) (said ++ told says_something line) t.0 next more s (line_ok said r t.0 line so_far t.1) t.2 in
    record {
      lines = line ∷ rest.lines;
      parts_are = ap (λ (x : List (List ℕ)). line ∷ x) rest.parts_are;
      all_told = subst (λ (x : List (List ℕ)). IsTold x s)
          (append_assoc said (told says_something line) (filter says_something rest.lines) ∙ ap
          (λ (x : List (List ℕ)). said ++ x) (sym (filter_told says_something line rest.lines))) rest.all_told;
    }

-- what is read from bytes is a script within all limits, and the bytes spell it
pub record IsSpelled (bytes : List ℕ) (s : ScriptValue) : Type 0 where
  pub script : IsScript s
  pub spelled : Spells bytes s

parts_ok : (bytes : List ℕ) (parts : List (List ℕ)) (s : ScriptValue) → slice_split newline bytes ≡ parts
    → IsReadFrom [] parts s → IsSpelled bytes s
parts_ok bytes parts s e h =
    let whole_split : slice_split newline bytes ≡ h.lines ++ [] ∷ [] = e ∙ h.parts_are in
    record {
      script = h.all_told.script;
      spelled = record {
        lines = h.lines;
        each = lines_from h.lines (all_front HasNoNewlines h.lines ([] ∷ [])
            (subst (λ (x : List (List ℕ)). AllByRecursion HasNoNewlines x) whole_split (split_lines bytes)));
        bytes_are = sym (join_with_byte-slice_split 10 bytes) ∙ ap (join_with_byte 10) whole_split
            ∙ joined_lines h.lines;
        heap = h.all_told.heap;
        heap_spelled = h.all_told.heap_spelled;
        parts = h.all_told.parts;
        turns = all_from IsPart h.all_told.parts h.all_told.turns;
        commands_are = h.all_told.commands_are;
        said = h.all_told.said_is;
      };
    }

pub read_is_spelled : (bytes : List ℕ) (s : ScriptValue) → script_in bytes ≡ Ok s → IsSpelled bytes s
unfolding script_in
read_is_spelled bytes s h =
    let cut = split_cons newline bytes in
    let start : Said [] nothing = inl (record { said_is = refl; is = refl }) in
    let all : lines_in 1 nothing (cut.first ∷ cut.others) ≡ Ok s = rw cut.is at h in
    parts_ok bytes (cut.first ∷ cut.others) s cut.is (lines_ok 1 [] nothing cut.first cut.others s start all)

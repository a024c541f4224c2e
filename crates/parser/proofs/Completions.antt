-- Lines that are accepted begin a script, as some lines after them complete it.
use Rattle.parser.proofs.Names.{Bool, List, None, Option, Some, [], ap, append-nil, append_assoc, arith, false, inl}
use Rattle.parser.proofs.Names.{inr, length, length-append, refl, subst, sym, true, ℕ, ◌++◌, ◌^◌, ◌∙◌, ◌∷◌, ◌≡◌, ◌≤◌}
use Rattle.parser.proofs.Names.{cases_lt, nat_tests, flat_map-append, filter-append, decimal, AllByRecursion}
use Rattle.parser.proofs.Names.{flat_map, repeat, Ok, codes, filter, map, ◌==◌, Layout, page_size_range, fits_page}
use Rattle.parser.proofs.Names.{BeginsScript, HaveNoFault, text_of, config_of, ReadSoFar, ScriptValue, nothing}
use Rattle.parser.proofs.Names.{script_of, line_in, IsCommand, IsLayout, IsPart, IsScript, Part, Spells, SpellsHeap}
use Rattle.parser.proofs.Names.{Times, layout_line_of, line_of, part_commands, part_lines, says_something, size_words}
use Rattle.parser.proofs.Names.{with_newline, Sizes, MOST_COMMANDS}
use Rattle.parser.specs.Faults.{EndInBlock}
use Rattle.parser.proofs.HeapLines.{IsSizes}
use Rattle.parser.proofs.Numbers.{number_plain}
use Rattle.parser.proofs.Plain.{no_newlines, words_no_newlines, sizes_plain, lines_split, AreLayouts, config_in_range}
use Rattle.parser.proofs.Lists.{HasNoNewlines, all_both, all_push, all_from, lines_from, told, filter_told, HasTurns}
use Rattle.parser.proofs.Lists.{say_end, more_commands, all_repeated}
use Rattle.parser.proofs.ScriptIsSpelled.{line_ok, read_is_spelled, all_said, commands_with}
use Rattle.parser.proofs.OtherLines.{IsBehind, Said, some_layouts, IsReady, layout_taken, heap_taken}
use Rattle.parser.specs.Reading.{script_in, lines_in}
use Rattle.parser.proofs.SpelledIsRead.{Leads, leads_both, leads_read, end_read}

-- ---- lines that spell a script

-- lines that spell a script, without a limit on its numbers
record SaysScript (said : List (List ℕ)) (s : ScriptValue) : Type 0 where
  heap : List ℕ
  heap_spelled : SpellsHeap heap s.config
  parts : List Part
  turns : AllByRecursion IsPart parts
  commands_are : s.commands ≡ flat_map part_commands parts
  said_is : said ≡ heap ∷ map layout_line_of s.config.layouts ++ flat_map part_lines parts

lines_spell : (lines : List (List ℕ)) (s : ScriptValue) → AllByRecursion HasNoNewlines lines
    → SaysScript (filter says_something lines) s → Spells (text_of lines) s
lines_spell lines s each h = record {
  lines = lines;
  each = lines_from lines each;
  bytes_are = refl;
  heap = h.heap;
  heap_spelled = h.heap_spelled;
  parts = h.parts;
  turns = all_from IsPart h.parts h.turns;
  commands_are = h.commands_are;
  said = h.said_is;
}

-- the text of lines begins what they spell with more lines after them
begins_by : (lines more : List (List ℕ)) (s : ScriptValue) → IsScript s → Spells (text_of (lines ++ more)) s
    → BeginsScript (text_of lines)
begins_by lines more s valid h = record {
  more = text_of more;
  script = s;
  valid = valid;
  spelled = subst (λ (x : List ℕ). Spells x s) (flat_map-append with_newline lines more) h;
}

pub begins_front : (front back : List ℕ) → BeginsScript (front ++ back) → BeginsScript front
begins_front front back h = record {
  more = back ++ h.more;
  script = h.script;
  valid = h.valid;
  spelled = subst (λ (x : List ℕ). Spells x h.script) (append_assoc front back h.more) h.spelled;
}

-- ---- no block is open

pub leads_said : (lines said : List (List ℕ)) (r t : ReadSoFar) → Said said r → Leads lines r t
    → Said (said ++ filter says_something lines) t
leads_said [] said r t so_far h =
    subst (λ (x : ReadSoFar). Said (said ++ []) x) h (rw (append-nil said) so_far)
leads_said (line ∷ lines) said r t so_far h =
    let after = line_ok said r h.0 line so_far h.1.0 in
    let rest = leads_said lines (said ++ told says_something line) h.0 t after h.1.1 in
    subst (λ (x : List (List ℕ)). Said x t) (append_assoc said (told says_something line) (filter says_something lines)
    ∙ ap (λ (x : List (List ℕ)). said ++ x) (sym (filter_told says_something line lines))) rest

-- lines that are accepted, up to a script without an open block, begin a script
leads_begin : (lines more : List (List ℕ)) (z : Sizes) (t : ReadSoFar) → AllByRecursion HasNoNewlines (lines ++ more)
    → Leads (lines ++ more) nothing t → IsReady z t → 1 ≤ length t.layouts → t.turns ≡ None
    → BeginsScript (text_of lines)
unfolding script_in
leads_begin lines more z t each leads ready some none =
    let s = script_of (config_of z t.layouts) t.commands in
    let read = leads_read (lines ++ more) 1 nothing t leads in
    let told : script_in (text_of (lines ++ more)) ≡ Ok s =
    ap (lines_in 1 nothing) (lines_split (lines ++ more) each) ∙ read.1 ∙ end_read read.0 z t ready some none in
    let all = read_is_spelled (text_of (lines ++ more)) s told in
    begins_by lines more s all.script all.spelled

-- ---- a block is open

said_more : (lines : List (List ℕ)) (line : List ℕ) → says_something line ≡ true
    → filter says_something (lines ++ line ∷ []) ≡ filter says_something lines ++ line ∷ []
said_more lines line h =
    filter-append says_something lines (line ∷ []) ∙ ap (λ (x : List (List ℕ)). filter says_something lines ++ x)
    (rw h refl)

open_says : (said : List (List ℕ)) (r : ReadSoFar) (b : IsBehind said r) (turns : ℕ) → r.turns ≡ Some turns
    → SaysScript (said ++ codes "end" ∷ []) (script_of (config_of b.sizes r.layouts)
    (r.commands ++ repeat turns r.body))
open_says said r b turns some = record {
  heap = b.heap;
  heap_spelled = record {
    births = b.heap_spelled.births;
    history = b.heap_spelled.history;
    births_spelled = b.heap_spelled.births_spelled;
    history_spelled = b.heap_spelled.history_spelled;
    line_is = b.heap_spelled.line_is;
  };
  parts = b.parts ++ Times turns r.body ∷ [];
  turns = all_push IsPart b.parts (Times turns r.body) b.turns (subst HasTurns some b.block_turns);
  commands_are = more_commands b.parts (Times turns r.body) r.commands b.commands_are;
  said_is = all_said (b.heap ∷ map layout_line_of r.layouts) (flat_map part_lines (b.parts ++ Times turns r.body ∷ []))
      (said ++ codes "end" ∷ []) None [] refl (say_end (b.heap ∷ map layout_line_of r.layouts) b.parts turns said
      (codes "end") r.turns r.body some refl b.said_is);
}

pub open_ends : (lines : List (List ℕ)) (r : ReadSoFar) (turns : ℕ) → AllByRecursion HasNoNewlines lines
    → IsBehind (filter says_something lines) r → 1 ≤ length r.layouts → r.turns ≡ Some turns → EndInBlock lines
open_ends lines r turns each b some_layout some =
    let commands = r.commands ++ repeat turns r.body in
    let config = config_of b.sizes r.layouts in
    let layouts : AreLayouts b.sizes.words r.layouts =
    record { some = some_layout; few = b.few; room = b.room } in
    let own = all_from (IsCommand config) commands (commands_with b.sizes r.layouts commands
    (all_both (IsCommand (config_of b.sizes [])) r.commands (repeat turns r.body) b.commands
    (all_repeated (IsCommand (config_of b.sizes [])) turns r.body b.body))) in
    let says : SaysScript (filter says_something (lines ++ codes "end" ∷ [])) (script_of config commands) =
    subst (λ (x : List (List ℕ)). SaysScript x (script_of config commands)) (sym (said_more lines (codes "end") refl))
    (open_says (filter says_something lines) r b turns some) in
    record {
      script = script_of config commands;
      config = config_in_range b.sizes r.layouts b.range layouts;
      layouts = all_from IsLayout r.layouts b.layouts;
      commands = own;
      spelled = lines_spell (lines ++ codes "end" ∷ []) (script_of config commands)
          (all_push HasNoNewlines lines (codes "end") each (no_newlines (codes "end") refl)) says;
    }

-- an open block is too large, or its `end` completes a script
block_has_none : (lines : List (List ℕ)) → EndInBlock lines → HaveNoFault lines
block_has_none lines block =
    elim (cases_lt MOST_COMMANDS (length block.script.commands)) [
      | inl many ↦ inr (block, many)
      | inr few ↦
          inl (begins_by lines (codes "end" ∷ []) block.script (record {
            config = block.config;
            layouts = block.layouts;
            commands = block.commands;
            count = few;
          }) block.spelled)
    ]

-- ---- a layout line is missing

-- the smallest layout
abbrev small_layout : Layout
small_layout = record { refs = 0; nums = 0 }

layout_no_newlines : HasNoNewlines (layout_line_of small_layout)
layout_no_newlines = words_no_newlines (codes "layout" ∷ decimal 0 ∷ decimal 0 ∷ [])
    (refl, (number_plain 0 (omega arith), (number_plain 0 (omega arith), tt)))

-- a small layout is accepted after sizes
small_taken : (r : ReadSoFar) (z : Sizes) → IsReady z r → r.begun ≡ false → length r.layouts ≡ 0
    → line_in r (layout_line_of small_layout) ≡ Ok (record r { layouts = r.layouts ++ small_layout ∷ [] })
small_taken r z ready not_begun empty =
    let enough = (page_size_range z.words ready.range.words).0 in
    let fits : fits_page z.words small_layout ≡ true = grind (arith, nat_tests) in
    layout_taken z r small_layout (layout_line_of small_layout) ready not_begun (omega arith)
    (record { refs = omega arith; nums = omega arith }) fits refl refl

bare_begins : (lines : List (List ℕ)) (r : ReadSoFar) → AllByRecursion HasNoNewlines lines → Leads lines nothing r
    → IsBehind (filter says_something lines) r → (length r.layouts == 0) ≡ true → r.begun ≡ false
    → BeginsScript (text_of lines)
bare_begins lines r each leads b none not_begun =
    let empty : length r.layouts ≡ 0 = grind (arith, nat_tests) in
    let ready : IsReady b.sizes r = record { sizes_is = b.sizes_is; range = b.range } in
    let line = layout_line_of small_layout in
    let t : ReadSoFar = record r { layouts = r.layouts ++ small_layout ∷ [] } in
    let longer = length-append r.layouts (small_layout ∷ []) in
    leads_begin lines (line ∷ []) b.sizes t (all_push HasNoNewlines lines line each layout_no_newlines)
    (leads_both lines (line ∷ []) nothing r t leads (t, (small_taken r b.sizes ready not_begun empty, refl)))
    (record { sizes_is = b.sizes_is; range = b.range }) (omega arith) (b.fresh not_begun).no_block

-- ---- the heap line is missing

-- the sizes of a small heap
abbrev small_sizes : Sizes
small_sizes = record {
  words = 16;
  frames = 1;
  pages = 1;
  threads = 1;
  workers = 1;
  registers = 1;
  globals = 0;
  births = 2 ^ 32;
  history = 1000000;
}

small_in_range : IsSizes small_sizes
small_in_range = record {
  words = refl;
  frames = (omega arith, omega arith);
  pages = (omega arith, omega arith);
  threads = (omega arith, omega arith);
  workers = (omega arith, omega arith);
  registers = (omega arith, omega arith);
  globals = (omega arith, omega arith);
  births = (omega arith, omega arith);
  history = (omega arith, omega arith);
}

-- its heap line
abbrev small_heap : List ℕ
small_heap = line_of (codes "heap" ∷ size_words (config_of small_sizes []))

small_spelled : SpellsHeap small_heap (config_of small_sizes [])
small_spelled = record {
  births = [];
  history = [];
  births_spelled = inr (refl, refl);
  history_spelled = inr (refl, refl);
  line_is = refl;
}

small_no_newlines : HasNoNewlines small_heap
small_no_newlines = words_no_newlines (codes "heap" ∷ size_words (config_of small_sizes [])) (
  refl,
  sizes_plain small_sizes (size_words (config_of small_sizes [])) (record {
    births = [];
    history = [];
    births_spelled = inr (refl, refl);
    history_spelled = inr (refl, refl);
    words_are = refl;
    range = small_in_range;
  }),
)

empty_begins : (lines : List (List ℕ)) (r : ReadSoFar) → AllByRecursion HasNoNewlines lines → Leads lines nothing r
    → r ≡ nothing → BeginsScript (text_of lines)
empty_begins lines r each leads is =
    let line = layout_line_of small_layout in
    let first : ReadSoFar = record nothing { sizes = Some small_sizes } in
    let t : ReadSoFar = record first { layouts = small_layout ∷ [] } in
    let ready : IsReady small_sizes first = record { sizes_is = refl; range = small_in_range } in
    let heap = heap_taken small_sizes small_heap small_in_range small_spelled refl in
    let taken : Leads (small_heap ∷ line ∷ []) r t = subst (λ (x : ReadSoFar). Leads (small_heap ∷ line ∷ []) x t)
    (sym is) (first, (heap, (t, (small_taken first small_sizes ready refl refl, refl)))) in
    leads_begin lines (small_heap ∷ line ∷ []) small_sizes t (all_both HasNoNewlines lines (small_heap ∷ line ∷ []) each
    (small_no_newlines, (layout_no_newlines, tt))) (leads_both lines (small_heap ∷ line ∷ []) nothing r t leads taken)
    (record { sizes_is = refl; range = small_in_range }) (omega arith) refl

-- ---- all cases

pub not_started : (r : ReadSoFar) (b : Bool) → r.begun ≡ b → (r.begun ≡ true → 1 ≤ length r.layouts)
    → (length r.layouts == 0) ≡ true → r.begun ≡ false
not_started r true e h none = let some = h e in let empty : length r.layouts ≡ 0 = grind (arith, nat_tests) in
    absurd (omega arith)
not_started r false e h none = e

behind_has_none : (lines : List (List ℕ)) (r : ReadSoFar) (b : IsBehind (filter says_something lines) r) (none : Bool)
    (o : Option ℕ) → (length r.layouts == 0) ≡ none → r.turns ≡ o → AllByRecursion HasNoNewlines lines
    → Leads lines nothing r → HaveNoFault lines
behind_has_none lines r b true o empty turns each leads =
    inl (bare_begins lines r each leads b empty (not_started r r.begun refl b.started empty))
behind_has_none lines r b false None some turns each leads =
    let all = append-nil lines in
    inl (leads_begin lines [] b.sizes r (rw all each) (rw all leads)
    (record { sizes_is = b.sizes_is; range = b.range }) (some_layouts r.layouts some) turns)
behind_has_none lines r b false (Some n) some turns each leads =
    block_has_none lines (open_ends lines r n each b (some_layouts r.layouts some) turns)

-- what was read of lines that are accepted
pub all_leads_said : (lines : List (List ℕ)) (r : ReadSoFar) → Leads lines nothing r
    → Said (filter says_something lines) r
all_leads_said lines r leads = leads_said lines [] nothing r (inl (record { said_is = refl; is = refl })) leads

-- lines that are accepted have no fault
pub taken_have_none : (lines : List (List ℕ)) (r : ReadSoFar) → AllByRecursion HasNoNewlines lines
    → Leads lines nothing r → HaveNoFault lines
taken_have_none lines r each leads = by_said (all_leads_said lines r leads)
  where
    by_said : Said (filter says_something lines) r → HaveNoFault lines
    by_said (inl before) = inl (empty_begins lines r each leads before.is)
    by_said (inr behind) =
        behind_has_none lines r behind (length r.layouts == 0) r.turns refl refl each leads

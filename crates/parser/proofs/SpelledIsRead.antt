-- What the bytes spell within all limits is read.
use Rattle.parser.proofs.Names.{Bool, List, None, Option, Some, [], ap, append-nil, append_assoc, arith, cond, false}
use Rattle.parser.proofs.Names.{length, length-append, refl, subst, sym, true, ℕ, ◌*◌, ◌++◌, ◌+◌, ◌∙◌, ◌∷◌, ◌≡◌, ◌≤◌}
use Rattle.parser.proofs.Names.{and_parts, nat_tests, AllByRecursion, flat_map, list_all, repeat, slice_split, Ok}
use Rattle.parser.proofs.Names.{codes, filter, map, nat_le, not, ◌==◌, Layout, fits_page, Config, Actor, Thread}
use Rattle.parser.proofs.Names.{Worker, config_of, ReadSoFar, ScriptValue, closed, is_idle, newline, nothing}
use Rattle.parser.proofs.Names.{script_of, whole, with_command, finished, last_line, line_in, lines_in, script_in}
use Rattle.parser.proofs.Names.{IsActor, IsCommand, IsLayout, IsPart, IsScript, One, Part, Spells, SpellsHeap, Times}
use Rattle.parser.proofs.Names.{command_line_of, layout_line_of, order_words, part_commands, part_lines}
use Rattle.parser.proofs.Names.{says_something, times_line_of, Sizes, MOST_LAYOUTS, Command, MOST_COMMANDS}
use Rattle.parser.proofs.Names.{MOST_TURNS}
use Rattle.parser.proofs.Lists.{all_back, IsCons, filter_told, all_to, all_front, lines_to, repeated_length}
use Rattle.parser.proofs.Lists.{all_of_repeated}
use Rattle.parser.proofs.HeapLines.{IsSizes}
use Rattle.parser.proofs.Plain.{sizes_in, config_tells, lines_split}
use Rattle.parser.proofs.Lines.{lines_cons}
use Rattle.parser.proofs.OtherLines.{actor_idle, IsReady, command_taken, times_taken, end_taken, layout_taken}
use Rattle.parser.proofs.OtherLines.{heap_taken}

-- ---- all lines

-- the lines are accepted one after another, and lead from what was read to what is read then
abbrev pub Leads : List (List ℕ) → ReadSoFar → ReadSoFar → Type 0
Leads [] r t = r ≡ t
Leads (line ∷ lines) r t = (u : ReadSoFar) × ((line_in r line ≡ Ok u) × Leads lines u t)

tail_is_cons : (lines : List (List ℕ)) → IsCons (lines ++ [] ∷ [])
tail_is_cons [] = record { first = []; others = []; is = refl }
tail_is_cons (line ∷ lines) = record { first = line; others = lines ++ [] ∷ []; is = refl }

-- a line that is accepted is followed by the others
goes : (n : ℕ) (r t : ReadSoFar) (line : List ℕ) (lines : List (List ℕ)) → line_in r line ≡ Ok t →
    lines_in n r (line ∷ (lines ++ [] ∷ [])) ≡ lines_in (n + 1) t (lines ++ [] ∷ [])
goes n r t line lines h = lines_cons n r line (lines ++ [] ∷ []) (tail_is_cons lines) ∙ rw h refl

idle_taken : (r : ReadSoFar) (line : List ℕ) → is_idle line ≡ true → line_in r line ≡ Ok r
unfolding line_in
idle_taken r line h = rw h refl

pub end_read : (n : ℕ) (z : Sizes) (r : ReadSoFar) → IsReady z r → 1 ≤ length r.layouts → r.turns ≡ None →
    lines_in n r ([] ∷ []) ≡ Ok (script_of (config_of z r.layouts) r.commands)
unfolding lines_in last_line finished
end_read n z r ready some none =
    let layouts : (length r.layouts == 0) ≡ false = grind (arith, nat_tests) in
    let whole_is : whole n r (Some z) ≡ closed n r z r.turns = rw layouts refl in
    ap (λ (o : Option Sizes). whole n r o) ready.sizes_is ∙ whole_is ∙ ap (λ (o : Option ℕ). closed n r z o) none

-- lines after others
pub leads_both : (xs ys : List (List ℕ)) (r t u : ReadSoFar) → Leads xs r t → Leads ys t u → Leads (xs ++ ys) r u
leads_both [] ys r t u h k = subst (λ (x : ReadSoFar). Leads ys x u) (sym h) k
leads_both (x ∷ xs) ys r t u h k = (h.0, (h.1.0, leads_both xs ys h.0 t u h.1.1 k))

with_idle : (line : List ℕ) (said lines : List (List ℕ)) (r t : ReadSoFar) (b : Bool) → is_idle line ≡ b
    → Leads (cond (not b) (line ∷ []) [] ++ said) r t → ((u : ReadSoFar) → Leads said u t → Leads lines u t)
    → Leads (line ∷ lines) r t
with_idle line said lines r t true e h k = (r, (idle_taken r line e, k r h))
with_idle line said lines r t false e h k = (h.0, (h.1.0, k h.0 h.1.1))

-- empty lines and comments change nothing
leads_all : (lines : List (List ℕ)) (r t : ReadSoFar) → Leads (filter says_something lines) r t → Leads lines r t
leads_all [] r t h = h
leads_all (line ∷ lines) r t h = with_idle line (filter says_something lines) lines r t (is_idle line) refl
    (subst (λ (x : List (List ℕ)). Leads x r t) (filter_told says_something line lines) h) (λ u. leads_all lines u t)

-- after lines that are accepted the end is read
pub leads_read : (lines : List (List ℕ)) (n : ℕ) (r t : ReadSoFar) → Leads lines r t
    → (m : ℕ) × (lines_in n r (lines ++ [] ∷ []) ≡ lines_in m t ([] ∷ []))
leads_read [] n r t h = (n, ap (λ (x : ReadSoFar). lines_in n x ([] ∷ [])) h)
leads_read (line ∷ lines) n r t h =
    let rest = leads_read lines (n + 1) h.0 t h.1.1 in (rest.0, goes n r h.0 line lines h.1.0 ∙ rest.1)

-- ---- parts

-- a part's commands exist, and a block has a valid number of turns
abbrev IsPartOf : Sizes → Part → Type 0
IsPartOf z (One c) = IsCommand (config_of z []) c
IsPartOf z (Times n cs) = AllByRecursion (IsCommand (config_of z [])) cs × ((1 ≤ n) × (n ≤ MOST_TURNS))

module _ (z : Sizes) (range : IsSizes z) where
  ready : (r : ReadSoFar) → r.sizes ≡ Some z → IsReady z r
  ready r is = record { sizes_is = is; range = range }

  -- the commands of a block
  block_leads : (cs : List Command) (r : ReadSoFar) (n : ℕ) → r.sizes ≡ Some z → 1 ≤ length r.layouts
      → r.turns ≡ Some n → AllByRecursion (IsCommand (config_of z [])) cs
      → Leads (map command_line_of cs) r (record r { body = r.body ++ cs })
  block_leads [] r n is some turns own = ap (λ (x : List Command). record r { body = x }) (sym (append-nil r.body))
  block_leads (c ∷ cs) r n is some turns own =
      let t : ReadSoFar = record r { body = r.body ++ c ∷ [] } in (
        t,
        (
          command_taken z r c (command_line_of c) (Some n) (ready r is) some turns refl own.0
              (actor_idle c.actor (order_words c.order)) refl,
          subst (λ (x : List Command). Leads (map command_line_of cs) t (record r { body = x }))
              (append_assoc r.body (c ∷ []) cs) (block_leads cs t n is some turns own.1),
        ),
      )

  -- what was read once all parts are, after other commands
  record Led (parts : List Part) (r : ReadSoFar) : Type 0 where
    state : ReadSoFar
    leads : Leads (flat_map part_lines parts) r state
    sizes_is : state.sizes ≡ Some z
    layouts : state.layouts ≡ r.layouts
    turns : state.turns ≡ None
    commands : state.commands ≡ r.commands ++ flat_map part_commands parts

  fits : (cs ds es all : List Command) → all ≡ cs ++ (ds ++ es) → length all ≤ MOST_COMMANDS
      → length cs + length ds ≤ MOST_COMMANDS
  fits cs ds es all e h = omega (arith, ap length e, length-append cs (ds ++ es), length-append ds es, h)

  -- a part, and those after it
  led : (p : Part) (parts : List Part) (r t : ReadSoFar) → Leads (part_lines p) r t → t.layouts ≡ r.layouts
      → t.commands ≡ r.commands ++ part_commands p → Led parts t → Led (p ∷ parts) r
  led p parts r t lines layouts commands rest = record {
    state = rest.state;
    leads = leads_both (part_lines p) (flat_map part_lines parts) r t rest.state lines rest.leads;
    sizes_is = rest.sizes_is;
    layouts = rest.layouts ∙ layouts;
    turns = rest.turns;
    commands = rest.commands ∙ ap (λ (x : List Command). x ++ flat_map part_commands parts) commands
        ∙ append_assoc r.commands (part_commands p) (flat_map part_commands parts);
  }

  parts_lead : (parts : List Part) (r : ReadSoFar) (all : List Command) → r.sizes ≡ Some z → 1 ≤ length r.layouts
      → r.turns ≡ None → AllByRecursion (IsPartOf z) parts → all ≡ r.commands ++ flat_map part_commands parts
      → length all ≤ MOST_COMMANDS → Led parts r
  parts_lead [] r all is some turns own e count = record {
    state = r;
    leads = refl;
    sizes_is = is;
    layouts = refl;
    turns = turns;
    commands = sym (append-nil r.commands);
  }
  parts_lead (One c ∷ parts) r all is some turns own e count =
      let room = fits r.commands (c ∷ []) (flat_map part_commands parts) all e count in
      let free : nat_le MOST_COMMANDS (length r.commands) ≡ false = grind (arith, nat_tests) in
      let t = with_command r None c in
      led (One c) parts r t (
        t,
        (
          command_taken z r c (command_line_of c) None (ready r is) some turns free own.0
              (actor_idle c.actor (order_words c.order)) refl,
          refl,
        ),
      ) refl refl
      (parts_lead parts t all is some turns own.1
      (e ∙ sym (append_assoc r.commands (c ∷ []) (flat_map part_commands parts))) count)
  parts_lead (Times m cs ∷ parts) r all is some turns own e count =
      let room : length r.commands + m * length cs ≤ MOST_COMMANDS =
      rw repeated_length at (fits r.commands (repeat m cs) (flat_map part_commands parts) all e count) in
      let begun : ReadSoFar = record r { begun = true; turns = Some m; body = [] } in
      let full : ReadSoFar = record begun { body = cs } in
      let t : ReadSoFar = record begun { commands = r.commands ++ repeat m cs; turns = None } in
      let block = own.0 in
      led (Times m cs) parts r t (
        begun,
        (
          times_taken z r m (times_line_of m) (ready r is) some turns block.1.0 block.1.1 refl refl,
          leads_both (map command_line_of cs) (codes "end" ∷ []) begun full t
              (block_leads cs begun m is some refl block.0)
              (t, (end_taken z full m (codes "end") (ready full is) some refl room refl refl, refl)),
        ),
      ) refl refl (parts_lead parts t all is some refl own.1
      (e ∙ sym (append_assoc r.commands (repeat m cs) (flat_map part_commands parts))) count)

  -- ---- the layout lines

  layouts_lead : (ls : List Layout) (r : ReadSoFar) → r.sizes ≡ Some z → r.begun ≡ false
      → length r.layouts + length ls ≤ MOST_LAYOUTS → AllByRecursion IsLayout ls
      → list_all (fits_page z.words) ls ≡ true
      → Leads (map layout_line_of ls) r (record r { layouts = r.layouts ++ ls })
  layouts_lead [] r is fresh few each room =
      ap (λ (x : List Layout). record r { layouts = x }) (sym (append-nil r.layouts))
  layouts_lead (l ∷ ls) r is fresh few each room =
      let t : ReadSoFar = record r { layouts = r.layouts ++ l ∷ [] } in
      let longer = length-append r.layouts (l ∷ []) in
      let both = and_parts (fits_page z.words l) (list_all (fits_page z.words) ls) room in (
        t,
        (
          layout_taken z r l (layout_line_of l) (ready r is) fresh (omega arith) each.0 both.0 refl refl,
          subst (λ (x : List Layout). Leads (map layout_line_of ls) t (record r { layouts = x }))
              (append_assoc r.layouts (l ∷ []) ls) (layouts_lead ls t is fresh (omega arith) each.1 both.1),
        ),
      )

-- ---- complete scripts

pub commands_of : (c : Config) (cs : List Command) → AllByRecursion (IsCommand c) cs
    → AllByRecursion (IsCommand (config_of (sizes_in c) [])) cs
commands_of c [] h = tt
commands_of c (x ∷ xs) h =
    (record { actor = actor_of c x.actor h.0.actor; own = h.0.own; order = h.0.order }, commands_of c xs h.1)
  where
    actor_of : (c : Config) (a : Actor) → IsActor c a → IsActor (config_of (sizes_in c) []) a
    actor_of c (Thread t) h = h
    actor_of c (Worker w) h = h

-- the parts of commands that exist
parts_of : (z : Sizes) (parts : List Part) → AllByRecursion IsPart parts
    → AllByRecursion (IsCommand (config_of z [])) (flat_map part_commands parts) → AllByRecursion (IsPartOf z) parts
parts_of z [] h each = tt
parts_of z (One c ∷ parts) h each = (each.0, parts_of z parts h.1 each.1)
parts_of z (Times n cs ∷ parts) h each =
    let own = all_front (IsCommand (config_of z [])) (repeat n cs) (flat_map part_commands parts) each in
    let others = all_back (IsCommand (config_of z [])) (repeat n cs) (flat_map part_commands parts) each in
    ((all_of_repeated (IsCommand (config_of z [])) n cs h.0.0 own, h.0), parts_of z parts h.1 others)

pub spelled_is_read : (bytes : List ℕ) (s : ScriptValue) → IsScript s → Spells bytes s → script_in bytes ≡ Ok s
unfolding script_in
spelled_is_read bytes s h spells =
    let c = s.config in
    let z = sizes_in c in
    let told = config_tells c h.config in
    let some = told.layouts.some in
    let few = told.layouts.few in
    let spelled : SpellsHeap spells.heap (config_of z []) = record {
      births = spells.heap_spelled.births;
      history = spells.heap_spelled.history;
      births_spelled = spells.heap_spelled.births_spelled;
      history_spelled = spells.heap_spelled.history_spelled;
      line_is = spells.heap_spelled.line_is;
    } in
    let first : ReadSoFar = record nothing { sizes = Some z } in
    let second : ReadSoFar = record first { layouts = c.layouts } in
    let heap = heap_taken z spells.heap told.sizes spelled (ap is_idle spelled.line_is) in
    let layouts = layouts_lead z told.sizes c.layouts first refl refl (omega arith)
    (all_to IsLayout c.layouts h.layouts)
    told.layouts.room in
    let each = subst (λ (x : List Command). AllByRecursion (IsCommand (config_of z [])) x) spells.commands_are
    (commands_of c s.commands (all_to (IsCommand c) s.commands h.commands)) in
    let parts = parts_lead z told.sizes spells.parts second s.commands refl some refl
    (parts_of z spells.parts (all_to IsPart spells.parts spells.turns) each) spells.commands_are h.count in
    let all : Leads (filter says_something spells.lines) nothing parts.state =
    subst (λ (x : List (List ℕ)). Leads x nothing parts.state) (sym spells.said) (
      first,
      (
        heap,
        leads_both (map layout_line_of c.layouts) (flat_map part_lines spells.parts) first second parts.state layouts
            parts.leads,
      ),
    ) in
    let cut : slice_split newline bytes ≡ spells.lines ++ [] ∷ [] =
    ap (slice_split newline) spells.bytes_are ∙ lines_split spells.lines (lines_to spells.lines spells.each) in
    let read = leads_read spells.lines 1 nothing parts.state (leads_all spells.lines nothing parts.state all) in
    ap (lines_in 1 nothing) cut ∙ read.1
    ∙ end_read read.0 z parts.state (record { sizes_is = parts.sizes_is; range = told.sizes })
    (subst (λ (x : List Layout). 1 ≤ length x) (sym parts.layouts) some) parts.turns
    ∙ ap (λ (x : List Layout). Ok (script_of (config_of z x) parts.state.commands)) parts.layouts
    ∙ ap (λ (x : List Command). Ok (script_of c x)) (parts.commands ∙ sym spells.commands_are)

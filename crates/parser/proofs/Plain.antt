-- Words without spaces, and sizes and layouts within their ranges.
use Rattle.parser.proofs.Names.{List, arith, false, length, refl, true, ℕ, ◌^◌, ◌≡◌, ◌≤◌, not-false, or_parts}
use Rattle.parser.proofs.Names.{nat_tests, list_all, not, ◌||◌, Layout, fits_page, is_page_size, Config, config_of}
use Rattle.parser.proofs.Names.{IsScriptConfig, Sizes, Bool, [], ap, append_assoc, inl, inr, nat_lt, subst, sym, ◌++◌}
use Rattle.parser.proofs.Names.{◌<◌, ◌∙◌, ◌∷◌, ◌≢◌, and_parts, slice_split_at, slice_split_none, decimal, All}
use Rattle.parser.proofs.Names.{AllByRecursion, flat_map, join_with_byte, slice_split, codes, map, page_size_range}
use Rattle.parser.proofs.Names.{Actor, Thread, Worker, newline, AreMore, IsActor, IsOperand, IsOrder, SpellsLimit}
use Rattle.parser.proofs.Names.{actor_word, line_of, operand_word, order_words, with_newline, row_of, Order, Kind}
use Rattle.parser.proofs.Names.{Address, Long, Nothing, Number, Percent, Register, ThreadName}
use Rattle.model.specs.Configs.{is_outside, first_fault, IsConfig}
use Rattle.model.proofs.Ranges.{no_fault, within}
use Rattle.parser.proofs.HeapLines.{IsWithin, IsSizes, SpellsSizes}
use Rattle.parser.proofs.Lists.{HasNoNewlines, all_weaker, all_both, all_from, all_to}
use Rattle.parser.proofs.ManyNumbers.{AreSmall, address_plain}
use Rattle.parser.proofs.Numbers.{IsPlain, number_plain}
use Rattle.parser.proofs.WordPlaces.{space, HasNoSpace}
use Rattle.parser.proofs.ActorsAndOrders.{AreFew, bounds_in, text_plain}

-- the sizes in a configuration
abbrev pub sizes_in : Config → Sizes
sizes_in c = record {
  words = c.words;
  frames = c.frames;
  pages = c.pages;
  threads = c.threads;
  workers = c.workers;
  registers = c.registers;
  globals = c.globals;
  births = c.births;
  history = c.history;
}

-- some layouts, not too many, each of which fits in a page
pub record AreLayouts (words : ℕ) (ls : List Layout) : Type 0 where
  pub some : 1 ≤ length ls
  pub few : length ls ≤ 64
  pub room : list_all (fits_page words) ls ≡ true

inside : (n low high : ℕ) → IsWithin low high n → is_outside n low high ≡ false
inside n low high h = let low_side = h.0 in let high_side = h.1 in grind (arith, nat_tests)

valid : (s : Sizes) (ls : List Layout) → IsSizes s → AreLayouts s.words ls → IsConfig (config_of s ls)
unfolding first_fault
valid s ls r l =
    let frames = inside s.frames 1 1048575 (r.frames.0, omega (arith, r.frames.1)) in
    let pages = inside s.pages s.frames 1048575 r.pages in
    let threads = inside s.threads 1 1024 (r.threads.0, omega (arith, r.threads.1)) in
    let workers = inside s.workers 1 16 r.workers in
    let registers = inside s.registers 1 65535 (r.registers.0, omega (arith, r.registers.1)) in
    let globals = inside s.globals 0 65535 (r.globals.0, omega (arith, r.globals.1)) in
    let count = inside (length ls) 1 256 (l.some, omega (arith, l.few)) in
    let births = inside s.births 1 (2 ^ 56) (r.births.0, omega (arith, r.births.1)) in
    let history = inside s.history 1 1000000 r.history in
    rw (r.words, frames, pages, threads, workers, registers, globals, count, l.room, births, history) refl

pub config_in_range : (s : Sizes) (ls : List Layout) → IsSizes s → AreLayouts s.words ls
    → IsScriptConfig (config_of s ls)
config_in_range s ls r l = record {
  config = valid s ls r l;
  frames = r.frames.1;
  threads = r.threads.1;
  registers = r.registers.1;
  globals = r.globals.1;
  layouts = l.few;
  births = r.births.1;
}

-- the first three fields and those after them
pub record IsInRange (c : Config) : Type 0 where
  pub sizes : IsSizes (sizes_in c)
  pub layouts : AreLayouts c.words c.layouts

pub config_tells : (c : Config) → IsScriptConfig c → IsInRange c
unfolding first_fault
config_tells c h =
    let w = no_fault (not (is_page_size c.words)) _ _ h.config in
    let f = no_fault (is_outside c.frames 1 1048575) _ _ w.1 in
    let p = no_fault (is_outside c.pages c.frames 1048575) _ _ f.1 in
    let t = no_fault (is_outside c.threads 1 1024) _ _ p.1 in
    let k = no_fault (is_outside c.workers 1 16) _ _ t.1 in
    let r = no_fault (is_outside c.registers 1 65535) _ _ k.1 in
    let g = no_fault (is_outside c.globals 0 65535) _ _ r.1 in
    let l = no_fault (is_outside (length c.layouts) 1 256 || not (list_all (fits_page c.words) c.layouts)) _ _ g.1 in
    let b = no_fault (is_outside c.births 1 (2 ^ 56)) _ _ l.1 in
    let y = no_fault (is_outside c.history 1 1000000) _ _ b.1 in
    let both = or_parts (is_outside (length c.layouts) 1 256) (not (list_all (fits_page c.words) c.layouts)) l.0 in
    let count = within (length c.layouts) 1 256 both.0 in
    record {
      sizes = record {
        words = not-false (is_page_size c.words) w.0;
        frames = ((within c.frames 1 1048575 f.0).0, h.frames);
        pages = within c.pages c.frames 1048575 p.0;
        threads = ((within c.threads 1 1024 t.0).0, h.threads);
        workers = within c.workers 1 16 k.0;
        registers = ((within c.registers 1 65535 r.0).0, h.registers);
        globals = (omega arith, h.globals);
        births = ((within c.births 1 (2 ^ 56) b.0).0, h.births);
        history = within c.history 1 1000000 y.0;
      };
      layouts = record {
        some = count.0;
        few = h.layouts;
        room = not-false (list_all (fits_page c.words) c.layouts) both.1;
      };
    }

pub no_spaces : (w : List ℕ) → IsPlain w → AllByRecursion (λ b. space b ≡ false) w
no_spaces [] h = tt
no_spaces (b ∷ bs) h =
    let p = and_parts (nat_lt 32 b) (list_all (λ c. nat_lt 32 c) bs) h in
    let high = p.0 in
    let no : space b ≡ false = grind (arith, nat_tests) in
    (no, no_spaces bs p.1)

-- words without spaces are the parts of their line
pub spaced_split : (w : List ℕ) (ws : List (List ℕ)) → AllByRecursion HasNoSpace (w ∷ ws)
    → slice_split space (join_with_byte 32 (w ∷ ws)) ≡ w ∷ ws
spaced_split w [] h = slice_split_none space w (all_from (λ b. space b ≡ false) w h.0)
spaced_split w (v ∷ vs) h =
    slice_split_at space w 32 (join_with_byte 32 (v ∷ vs)) (all_from (λ b. space b ≡ false) w h.0) refl
    ∙ ap (λ (t : List (List ℕ)). w ∷ t) (spaced_split v vs h.1)

pub words_split : (w : List ℕ) (ws : List (List ℕ)) → IsPlain w → AllByRecursion IsPlain ws
    → slice_split space (join_with_byte 32 (w ∷ ws)) ≡ w ∷ ws
words_split w ws first h = spaced_split w ws (no_spaces w first, all_weaker IsPlain HasNoSpace no_spaces ws h)

-- ---- newlines

pub no_newlines : (w : List ℕ) → IsPlain w → HasNoNewlines w
no_newlines [] h = tt
no_newlines (b ∷ bs) h =
    let p = and_parts (nat_lt 32 b) (list_all (λ c. nat_lt 32 c) bs) h in
    let high = p.0 in
    let ne : b ≢ 10 = grind (arith, nat_tests) in
    (ne, no_newlines bs p.1)

pub line_no_newlines : (words : List (List ℕ)) → AllByRecursion HasNoNewlines words → HasNoNewlines (line_of words)
line_no_newlines [] h = tt
line_no_newlines (w ∷ []) h = h.0
line_no_newlines (w ∷ v ∷ words) h =
    all_both (λ b. b ≢ 10) w (32 ∷ line_of (v ∷ words)) h.0
    (λ e. absurd (omega arith), line_no_newlines (v ∷ words) h.1)

pub words_no_newlines : (words : List (List ℕ)) → AllByRecursion IsPlain words → HasNoNewlines (line_of words)
words_no_newlines words h = line_no_newlines words (all_weaker IsPlain HasNoNewlines no_newlines words h)

none_end : (line : List ℕ) → HasNoNewlines line → AllByRecursion (λ b. newline b ≡ false) line
none_end [] h = tt
none_end (b ∷ bs) h =
    let ne = h.0 in let first : newline b ≡ false = grind (arith, nat_tests) in (first, none_end bs h.1)

-- no byte of a line ends it
pub none_ends : (line : List ℕ) → HasNoNewlines line → All (λ b. newline b ≡ false) line
none_ends line h = all_from (λ b. newline b ≡ false) line (none_end line h)

-- lines that each end in a newline are the parts of their bytes, with an empty one after them
pub lines_split : (lines : List (List ℕ)) → AllByRecursion HasNoNewlines lines
    → slice_split newline (flat_map with_newline lines) ≡ lines ++ [] ∷ []
lines_split [] h = refl
lines_split (line ∷ lines) h =
    ap (slice_split newline) (append_assoc line (10 ∷ []) (flat_map with_newline lines))
    ∙ slice_split_at newline line 10 (flat_map with_newline lines) (none_ends line h.0) refl
    ∙ ap (λ (t : List (List ℕ)). line ∷ t) (lines_split lines h.1)

-- ---- words of lines

pub actor_plain : (sizes : Sizes) (a : Actor) → AreFew sizes → IsActor (config_of sizes []) a → IsPlain (actor_word a)
actor_plain sizes (Thread t) few h = number_plain t (omega (arith, few.threads.1, h))
actor_plain sizes (Worker w) few h = number_plain w (omega (arith, few.workers.1, h))

operand_plain : (sizes : Sizes) (kind : Kind) (n : ℕ) → AreFew sizes → IsOperand (bounds_in sizes) kind n
    → AllByRecursion IsPlain (operand_word kind n)
operand_plain sizes Nothing n few is = tt
operand_plain sizes Register n few is = (number_plain n (omega (arith, few.registers.1, is)), tt)
operand_plain sizes Number n few is = (number_plain n (omega (arith, is)), tt)
operand_plain sizes ThreadName n few is = (number_plain n (omega (arith, few.threads.1, is)), tt)
operand_plain sizes Long n few is = (number_plain n is, tt)
operand_plain sizes Address n few is = (address_plain n is.0, tt)
operand_plain sizes Percent n few is = (number_plain n (omega (arith, is)), tt)

numbers_plain : (ns : List ℕ) → AreSmall ns → AllByRecursion IsPlain (map decimal ns)
numbers_plain [] h = tt
numbers_plain (n ∷ ns) h = (number_plain n (omega (arith, h.0)), numbers_plain ns h.1)

more_plain : (some : Bool) (ns : List ℕ) → AreMore some ns → AllByRecursion IsPlain (map decimal ns)
more_plain false ns is = subst (λ (x : List ℕ). AllByRecursion IsPlain (map decimal x)) (sym is) tt
more_plain true ns is = numbers_plain ns (all_to (λ n. n < 2 ^ 32) ns is)

pub order_plain : (sizes : Sizes) (o : Order) → AreFew sizes → IsOrder (bounds_in sizes) o
    → AllByRecursion IsPlain (order_words o)
order_plain sizes o few is =
    let k = (row_of o.verb).kinds in
    let each = λ (kind : Kind) (n : ℕ) (own : IsOperand (bounds_in sizes) kind n). operand_plain sizes kind n few own in
    let more = all_both IsPlain (operand_word k.wide o.wide) (map decimal o.more) (each k.wide o.wide is.wide)
    (more_plain k.more o.more is.more) in
    let last = all_both IsPlain (operand_word k.third o.third) _ (each k.third o.third is.third) more in
    let operands = all_both IsPlain (operand_word k.first o.first) _ (each k.first o.first is.first)
    (all_both IsPlain (operand_word k.second o.second) _ (each k.second o.second is.second) last) in
    (text_plain o.verb, operands)

record ArePlain (ws : List (List ℕ)) : Type 0 where
  each : AllByRecursion IsPlain ws

-- a number after its name
named : (name : List ℕ) (n : ℕ) {rest : List (List ℕ)} → IsPlain name → n < 2 ^ 64 → ArePlain rest
    → ArePlain (name ∷ decimal n ∷ rest)
named name n plain small h = record { each = (plain, (number_plain n small, h.each)) }

limit_plain : (name : List ℕ) (most n : ℕ) (words : List (List ℕ)) → IsPlain name → n < 2 ^ 64
    → SpellsLimit name most n words → AllByRecursion IsPlain words
limit_plain name most n words plain small (inl e) = rw e (plain, (number_plain n small, tt))
limit_plain name most n words plain small (inr e) = rw e.0 tt

pub sizes_plain : (s : Sizes) (ws : List (List ℕ)) → SpellsSizes s ws → AllByRecursion IsPlain ws
sizes_plain s ws h =
    let r = h.range in
    let most = (page_size_range s.words r.words).1 in
    let limits : ArePlain (h.births ++ h.history) = record {
      each = all_both IsPlain h.births h.history
          (limit_plain (codes "births") (2 ^ 32) s.births h.births refl (omega (arith, r.births.1)) h.births_spelled)
          (limit_plain (codes "history") 1000000 s.history h.history refl (omega
          (arith, r.history.1)) h.history_spelled);
    } in
    rw h.words_are ((named (codes "words") s.words refl (omega arith)
    (named (codes "frames") s.frames refl (omega (arith, r.frames.1))
    (named (codes "pages") s.pages refl (omega (arith, r.pages.1))
    (named (codes "threads") s.threads refl (omega (arith, r.threads.1))
    (named (codes "workers") s.workers refl (omega (arith, r.workers.1))
    (named (codes "registers") s.registers refl (omega (arith, r.registers.1))
    (named (codes "globals") s.globals refl (omega (arith, r.globals.1)) limits))))))).each)

-- The fault that reading finds is the first one, and its line is right up to its word.
use Rattle.parser.proofs.Names.{List, Some, [], ap, append-nil, append_assoc, arith, drop, false, inl, inr, length}
use Rattle.parser.proofs.Names.{length-append, refl, subst, sym, take, true, ℕ, ◌++◌, ◌+◌, ◌∙◌, ◌∷◌, ◌≡◌, ◌≢◌, ◌⊎◌}
use Rattle.parser.proofs.Names.{take-append_seam, le-ltb, join_with_byte-slice_split, AllByRecursion, join_with_byte}
use Rattle.parser.proofs.Names.{slice_split, Err, Ok, codes, filter, bytes_eq, ReadSoFar, nothing, line_in, line_of}
use Rattle.parser.proofs.Names.{says_something, word_at, Flaw, Bool, None, Option, cond, nat_tests, Result, ◌==◌}
use Rattle.parser.proofs.Names.{Layout, IsFirstFault, IsLineEnd, IsWrongWord, LacksNewline, StandsAtEnd, StandsInLine}
use Rattle.parser.proofs.Names.{text_of, closed, fault_at_start, newline, whole, finished, lines_in, script_in}
use Rattle.parser.proofs.Names.{IsReadOf, ParsedScript, FaultKind, LineFault, ParseFault, Sizes}
use Rattle.std.proofs.Common.{length-drop}
use Rattle.parser.specs.Faults.{HasOtherStart, IsRightUpTo, IsMissingBehind, TellsFirst}
use Rattle.parser.proofs.Lists.{split_cons, all_from, all_both, all_weaker, HasNoNewlines, all_push, all_back}
use Rattle.parser.proofs.Lists.{all_front, split_lines, lines_from}
use Rattle.parser.proofs.Numbers.{IsPlain}
use Rattle.parser.proofs.WordPlaces.{space, words_from, words_inside, words_whole, word_is, found_word, cons_is}
use Rattle.parser.proofs.WordPlaces.{past_end, HasNoSpace, IsFaultAt, no_bytes}
use Rattle.parser.proofs.ActorsAndOrders.{line_is, first_is}
use Rattle.parser.proofs.OtherLines.{not_equal, is_layout_next, other_accepted, IsBehind, Said, some_layouts}
use Rattle.parser.proofs.Trees.{IsTail, IsClean, Mends, word_in, run_mends, run_ok, Words}
use Rattle.parser.proofs.LineTrees.{line_step, fault_of}
use Rattle.parser.proofs.LineFaults.{Ends, Says, line_sound, fault_placed}
use Rattle.parser.proofs.Completions.{taken_have_none, all_leads_said, open_ends, not_started}
use Rattle.parser.proofs.SpelledIsRead.{Leads, leads_both, spelled_is_read}
use Rattle.parser.proofs.Plain.{no_spaces, no_newlines, line_no_newlines, spaced_split}
use Rattle.parser.proofs.Stops.{IsWrong, IsMissing, IsUnended, StopsAt, stops, never_begins}
use Rattle.parser.specs.declared.fault.FaultKind.TheVariants as kinds
use Rattle.parser.specs.declared.fault.ParseFault.TheVariants as faults

join_more : (w : List ℕ) (ws : Words) (v : List ℕ) (vs : Words)
    → join_with_byte 32 ((w ∷ ws) ++ v ∷ vs) ≡ join_with_byte 32 (w ∷ ws) ++ 32 ∷ join_with_byte 32 (v ∷ vs)
join_more w [] v vs = refl
join_more w (u ∷ us) v vs = ap (λ (x : List ℕ). w ++ (32 ∷ x)) (join_more u us v vs)
    ∙ sym (append_assoc w (32 ∷ join_with_byte 32 (u ∷ us)) (32 ∷ join_with_byte 32 (v ∷ vs)))

all_of : (line front rest : List ℕ) → line ≡ front ++ rest → length front ≡ length line → line ≡ front
all_of line front rest is same =
    let size = ap length is in
    let parts = length-append front rest in
    let none = no_bytes rest (omega arith) in
    is ∙ ap (λ (x : List ℕ). front ++ x) none ∙ append-nil front

same_front : (line front rest spaced more : List ℕ) → line ≡ front ++ rest → line ≡ spaced ++ more
    → length front ≡ length spaced → front ≡ spaced
same_front line front rest spaced more is other size =
    sym (take-append_seam front rest) ∙ ap (λ (x : List ℕ). take (length front) x) (sym is ∙ other)
    ∙ ap (λ (k : ℕ). take k (spaced ++ more)) size ∙ take-append_seam spaced more

-- the bytes before a fault are the words before it, followed by a space, unless a word is missing
front_of : (line : List ℕ) (f : Flaw) (p : IsFaultAt line f) (w : List ℕ) (ws tail : Words)
    → words_from line 0 ≡ (w ∷ ws) ++ tail → IsTail line f tail
    → (p.front ≡ line_of (w ∷ ws) ++ 32 ∷ []) ⊎ (p.front ≡ line_of (w ∷ ws))
front_of line f p w ws tail e (inr end) =
    let column = p.column in
    let missing = end.1 in
    let line_words : line ≡ line_of (w ∷ ws) = line_is line ((w ∷ ws) ++ tail) e
    ∙ ap (λ (x : Words). line_of ((w ∷ ws) ++ x)) end.0 ∙ ap line_of (append-nil (w ∷ ws)) in
    inr (sym (all_of line p.front (p.word ++ p.back) p.is.line_is (omega arith)) ∙ line_words)
front_of line f p w ws tail e (inl there) =
    let place = there.0 in
    let within = there.1.1.0 in
    let told_at = there.1.1.1 in
    let column = p.column in
    let inside : words_from line place ≡ slice_split space (drop place line) =
    words_inside line place (le-ltb (length line) place within) in
    let cut = split_cons space (drop place line) in
    let tail_is : tail ≡ cut.first ∷ cut.others = there.1.0 ∙ inside ∙ cut.is in
    let rest : join_with_byte 32 (cut.first ∷ cut.others) ≡ drop place line =
    ap (join_with_byte 32) (sym cut.is) ∙ join_with_byte-slice_split 32 (drop place line) in
    let words = line_of (w ∷ ws) in
    let line_words : line ≡ words ++ 32 ∷ drop place line = line_is line ((w ∷ ws) ++ tail) e
    ∙ ap (λ (x : Words). line_of ((w ∷ ws) ++ x)) tail_is ∙ join_more w ws cut.first cut.others
    ∙ ap (λ (x : List ℕ). words ++ 32 ∷ x) rest in
    let spaced : line ≡ (words ++ 32 ∷ []) ++ drop place line =
    line_words ∙ sym (append_assoc words (32 ∷ []) (drop place line)) in
    let size = ap length line_words in
    let parts = length-append words (32 ∷ drop place line) in
    let left = length-drop place line in
    let longer = length-append words (32 ∷ []) in
    inl (same_front line p.front (p.word ++ p.back) (words ++ 32 ∷ []) (drop place line) p.is.line_is spaced
    (omega arith))

-- words without spaces and newlines before others
mended_words : (firsts lasts : Words) → AllByRecursion IsClean firsts → AllByRecursion IsPlain lasts
    → AllByRecursion HasNoSpace (firsts ++ lasts) × AllByRecursion HasNoNewlines (firsts ++ lasts)
mended_words firsts lasts clean plain = (
  all_both HasNoSpace firsts lasts (all_weaker IsClean HasNoSpace (λ w (h : IsClean w). h.plain) firsts clean)
      (all_weaker IsPlain HasNoSpace no_spaces lasts plain),
  all_both HasNoNewlines firsts lasts (all_weaker IsClean HasNoNewlines (λ w (h : IsClean w). h.line) firsts clean)
      (all_weaker IsPlain HasNoNewlines no_newlines lasts plain),
)

-- a line that begins with a layout line's word begins with `l`
no_layout_line : (r : ReadSoFar) (line : List ℕ) (w : List ℕ × ℕ) → word_at line 0 ≡ Some w → HasOtherStart line
    → is_layout_next r w.0 ≡ false
no_layout_line r line w found start = let no : bytes_eq w.0 (codes "layout") ≡ false = not_equal w.0 (codes "layout")
    (λ e.
    start (first_is line 108 (codes "ayout") (words_from line w.1)
    (word_is line 0 w found ∙ ap (λ (x : List ℕ). x ∷ words_from line w.1) e))) in rw no refl

-- not every word of a line is missing
not_missing : (line : List ℕ) → words_from line 0 ≡ [] → ⊥
not_missing line h = let past = past_end line 0 h in absurd (omega arith)

module _
    (before : Words) (line : List ℕ) (r : ReadSoFar) (f : Flaw) (each : AllByRecursion HasNoNewlines before)
    (leads : Leads before nothing r) (at : IsFaultAt line f) (most : ℕ) (w : List ℕ × ℕ)
    (found : word_at line 0 ≡ Some w) (other_start : is_layout_next r w.0 ≡ false)
    (m : Mends {A = ReadSoFar} (Ends r w.0) line f (line_step most r r.sizes w.0) 0)
  where
    abbrev mended : Words
    mended = m.word ∷ (m.firsts ++ m.lasts)

    abbrev other : List ℕ
    other = line_of mended

    words_are : words_from other 0 ≡ mended
    words_are = words_whole other
        ∙ spaced_split m.word (m.firsts ++ m.lasts) (mended_words (m.word ∷ m.firsts) m.lasts m.clean m.plain).0

    taken : (u : ReadSoFar) × (line_in r other ≡ Ok u)
    taken =
        let a = m.reads other 0 [] (other_start, refl) (words_are ∙ ap (λ (x : Words). m.word ∷ (m.firsts ++ x))
        (sym (append-nil m.lasts))) in
        let first = found_word other 0 m.word (m.firsts ++ m.lasts) words_are in
        let same = (cons_is w.0 m.word _ _ (sym (word_is line 0 w found) ∙ m.words)).0 in
        let b = run_ok (Ends r w.0) (Says r r.sizes w.0) other (m.value, a.0) (line_step most r r.sizes w.0) true
        (Some (Some w.0)) 0 (line_sound r w.0 most (filter says_something before) (all_leads_said before r leads))
        (ap (λ (x : List ℕ). Some x) same ∙ sym (ap word_in first.1)) a.1 in
        let words : mended ≡ b.words = sym words_are ∙ b.spelled ∙ ap (λ (x : Words). b.words ++ x) a.2
        ∙ append-nil b.words in (
          m.value,
          subst (λ (x : Words). line_in r (line_of x) ≡ Ok m.value) (sym words)
              (other_accepted (filter says_something before) r m.value (line_of b.words) (all_leads_said before r leads)
              (b.is other_start)),
        )

    right : IsRightUpTo before at.front
    right =
        let own = line_no_newlines mended (mended_words (m.word ∷ m.firsts) m.lasts m.clean m.plain).1 in
        record {
          words = m.word ∷ m.firsts;
          more = m.lasts;
          front_is = front_of line f at m.word m.firsts m.tail m.words m.place;
          is_line = all_from (λ b. b ≢ 10) other own;
          faultless = taken_have_none (before ++ other ∷ []) taken.0 (all_push HasNoNewlines before other each own)
              (leads_both before (other ∷ []) nothing r taken.0 leads (taken.0, (taken.1, refl)));
        }

-- a line of an actor, or of a block, is right up to its fault's word
pub right_up_to : (before : Words) (line : List ℕ) (r : ReadSoFar) (f : Flaw) → AllByRecursion HasNoNewlines before
    → HasNoNewlines line → Leads before nothing r → line_in r line ≡ Err f → (at : IsFaultAt line f)
    → at.front ≢ [] → HasOtherStart line → IsRightUpTo before at.front
right_up_to before line r f each own leads h at some start =
    let most = length line + 1 in
    let b = fault_of line most (omega arith) r f h in
    elim (run_mends (Ends r b.w.0) line f own (Says r r.sizes b.w.0) (line_step most r r.sizes b.w.0) true
    (Some (Some b.w.0)) 0
    (line_sound r b.w.0 most (filter says_something before) (all_leads_said before r leads)) (sym (ap word_in b.found))
    b.fails) [
      | inl here ↦ elim here [
        | inl first ↦ let column = first.1 in let place = at.column in
            absurd (some (no_bytes at.front (omega arith)))
        | inr missing ↦ absurd (not_missing line missing.0)
      ]
      | inr m ↦ right before line r f each leads at most b.w b.found (no_layout_line r line b.w b.found start) m
    ]

-- ---- the bytes after a line

-- the bytes after a line, from its newline on
abbrev behind_of : List (List ℕ) → List ℕ
behind_of [] = []
behind_of (next ∷ others) = 10 ∷ join_with_byte 10 (next ∷ others)

line_end : (others : List (List ℕ)) → IsLineEnd (behind_of others)
line_end [] = inl refl
line_end (next ∷ others) = inr (join_with_byte 10 (next ∷ others), refl)

joined_one : (line : List ℕ) (others : List (List ℕ)) → join_with_byte 10 (line ∷ others) ≡ line ++ behind_of others
joined_one line [] = sym (append-nil line)
joined_one line (next ∷ others) = refl

joined : (before : List (List ℕ)) (line : List ℕ) (others : List (List ℕ))
    → join_with_byte 10 (before ++ line ∷ others) ≡ text_of before ++ (line ++ behind_of others)
joined [] line others = joined_one line others
joined (first ∷ []) line others =
    ap (λ (x : List ℕ). first ++ (10 ∷ x)) (joined_one line others)
    ∙ sym (append_assoc first (10 ∷ []) (line ++ behind_of others))
    ∙ ap (λ (x : List ℕ). x ++ (line ++ behind_of others)) (sym (append-nil (first ++ 10 ∷ [])))
joined (first ∷ second ∷ before) line others =
    ap (λ (x : List ℕ). first ++ (10 ∷ x)) (joined (second ∷ before) line others)
    ∙ sym (append_assoc first (10 ∷ []) (text_of (second ∷ before) ++ (line ++ behind_of others)))
    ∙ sym (append_assoc (first ++ 10 ∷ []) (text_of (second ∷ before)) (line ++ behind_of others))

-- ---- the three places

-- the lines of a text where reading stops
record HasLines (bytes : List ℕ) (before : List (List ℕ)) (line : List ℕ) (others : List (List ℕ)) : Type 0 where
  each : AllByRecursion HasNoNewlines before
  own : HasNoNewlines line
  bytes_are : bytes ≡ text_of before ++ (line ++ behind_of others)

has_lines : (bytes : List ℕ) (before : List (List ℕ)) (line : List ℕ) (others : List (List ℕ))
    → slice_split newline bytes ≡ before ++ line ∷ others → HasLines bytes before line others
has_lines bytes before line others h =
    let each = subst (λ (x : List (List ℕ)). AllByRecursion HasNoNewlines x) h (split_lines bytes) in
    let behind = all_back HasNoNewlines before (line ∷ others) each in
    record {
      each = all_front HasNoNewlines before (line ∷ others) each;
      own = behind.0;
      bytes_are = sym (join_with_byte-slice_split 10 bytes) ∙ ap (join_with_byte 10) h ∙ joined before line others;
    }

one_more : (k : ℕ) → 1 + k ≡ k + 1
one_more k = omega arith

in_line : (bytes : List ℕ) (before : List (List ℕ)) (line : List ℕ) (others : List (List ℕ)) (n : ℕ) (t : ReadSoFar)
    (fault : LineFault) → HasLines bytes before line others → n ≡ 1 + length before → Leads before nothing t
    → IsWrong n t line fault → StandsInLine bytes fault
in_line bytes before line others n t fault has number leads why =
    let so_far = all_leads_said before t leads in
    let at = fault_placed line t why.flaw (filter says_something before) so_far why.wrong in
    record {
      before = before;
      line = line;
      behind = behind_of others;
      each = lines_from before has.each;
      is_line = all_from (λ b. b ≢ 10) line has.own;
      bytes_are = has.bytes_are;
      ends = line_end others;
      front = at.front;
      word = at.word;
      back = at.back;
      is_word = at.is;
      number = ap (λ (x : LineFault). x.line) (sym why.fault_is) ∙ number ∙ one_more (length before);
      column = ap (λ (x : LineFault). x.column) (sym why.fault_is) ∙ at.column;
      wrong = subst (λ (x : FaultKind). IsWrongWord x at.front at.word)
          (ap (λ (x : LineFault). x.kind) why.fault_is) at.wrong;
      faultless = taken_have_none before t has.each leads;
      right = right_up_to before line t why.flaw has.each has.own leads why.wrong at;
      never = never_begins before line at.front at.word at.back t why.flaw has.each has.own leads why.wrong
          at.is.line_is at.is.ends at.column;
    }

-- what is missing after lines, with the fault that reports it
record IsToldMissing (lines : List (List ℕ)) (n : ℕ) (fault : LineFault) : Type 0 where
  kind : FaultKind
  missing : IsMissingBehind lines kind
  fault_is : fault_at_start n kind ≡ fault

same_fault : {A : Type 0} (x y : LineFault) → ◌≡◌ {A = Result A LineFault} (Err x) (Err y) → x ≡ y
same_fault x y h = cc

no_layouts : (ls : List Layout) → (length ls == 0) ≡ true → ls ≡ []
no_layouts [] h = refl
no_layouts (l ∷ ls) h = absurd (grind (arith, nat_tests))

-- after the heap line, if only that line isn't empty or a comment
heap_alone : (said : List (List ℕ)) (r : ReadSoFar) (b : IsBehind said r) → (length r.layouts == 0) ≡ true
    → said ≡ b.heap ∷ []
heap_alone said r b none =
    let fresh = b.fresh (not_started r r.begun refl b.started none) in
    let empty = no_layouts r.layouts none in
    b.said_is ∙ rw (empty, fresh.no_parts, fresh.no_block) refl

behind_missing : (lines : List (List ℕ)) (n : ℕ) (r : ReadSoFar) (b : IsBehind (filter says_something lines) r)
    (fault : LineFault) (none : Bool) (o : Option ℕ) → AllByRecursion HasNoNewlines lines
    → (length r.layouts == 0) ≡ none → r.turns ≡ o → cond none (Err (fault_at_start n kinds.LayoutLineExpected))
    (closed n r b.sizes o) ≡ Err fault → IsToldMissing lines n fault
behind_missing lines n r b fault true o each none turns h = record {
  kind = kinds.LayoutLineExpected;
  missing = (b.heap, heap_alone (filter says_something lines) r b none);
  fault_is = same_fault (fault_at_start n kinds.LayoutLineExpected) fault h;
}
behind_missing lines n r b fault false None each some turns h = absurd cc
behind_missing lines n r b fault false (Some k) each some turns h = record {
  kind = kinds.TimesWithoutEnd;
  missing = open_ends lines r k each b (some_layouts r.layouts some) turns;
  fault_is = same_fault (fault_at_start n kinds.TimesWithoutEnd) fault h;
}

told_missing : (lines : List (List ℕ)) (n : ℕ) (r : ReadSoFar) (fault : LineFault) → AllByRecursion HasNoNewlines lines
    → Said (filter says_something lines) r → finished n r ≡ Err fault → IsToldMissing lines n fault
unfolding finished
told_missing lines n r fault each (inl before) h =
    let e : whole n nothing None ≡ Err fault = subst (λ (x : ReadSoFar). whole n x x.sizes ≡ Err fault) before.is h in
    record {
      kind = kinds.HeapLineExpected;
      missing = before.said_is;
      fault_is = same_fault (fault_at_start n kinds.HeapLineExpected) fault e;
    }
told_missing lines n r fault each (inr b) h =
    let e : whole n r (Some b.sizes) ≡ Err fault =
    subst (λ (o : Option Sizes). whole n r o ≡ Err fault) b.sizes_is h in
    behind_missing lines n r b fault (length r.layouts == 0) r.turns each refl refl e

at_end : (bytes : List ℕ) (before : List (List ℕ)) (line : List ℕ) (others : List (List ℕ)) (n : ℕ) (t : ReadSoFar)
    (fault : LineFault) → HasLines bytes before line others → n ≡ 1 + length before
    → Leads before nothing t → IsMissing n t line others fault → StandsAtEnd bytes fault
at_end bytes before line others n t fault has number leads why =
    let told = told_missing before n t fault has.each (all_leads_said before t leads) why.missing in
    record {
      lines = before;
      each = lines_from before has.each;
      bytes_are = has.bytes_are ∙ rw (why.no_line, why.last) (append-nil (text_of before));
      number = ap (λ (x : LineFault). x.line) (sym told.fault_is) ∙ number ∙ one_more (length before);
      column = ap (λ (x : LineFault). x.column) (sym told.fault_is);
      missing = subst (λ (x : FaultKind). IsMissingBehind before x) (ap (λ (x : LineFault). x.kind) told.fault_is)
          told.missing;
      faultless = taken_have_none before t has.each leads;
    }

no_newline : (bytes : List ℕ) (before : List (List ℕ)) (line : List ℕ) (others : List (List ℕ)) (n : ℕ) (t : ReadSoFar)
    (fault : LineFault) → HasLines bytes before line others → n ≡ 1 + length before
    → Leads before nothing t → IsUnended n t line others fault → LacksNewline bytes fault
no_newline bytes before line others n t fault has number leads why =
    let each = all_push HasNoNewlines before line has.each has.own in
    record {
      before = before;
      line = line;
      each = lines_from before has.each;
      is_line = all_from (λ b. b ≢ 10) line has.own;
      some = why.some;
      bytes_are = has.bytes_are ∙ rw why.last (ap (λ (x : List ℕ). text_of before ++ x) (append-nil line));
      number = ap (λ (x : LineFault). x.line) (sym why.fault_is) ∙ number ∙ one_more (length before);
      column = ap (λ (x : LineFault). x.column) (sym why.fault_is);
      kind = ap (λ (x : LineFault). x.kind) (sym why.fault_is);
      faultless = taken_have_none (before ++ line ∷ []) why.state each
          (leads_both before (line ∷ []) nothing t why.state leads (why.state, (why.taken, refl)));
    }

-- ---- all cases

places : (bytes : List ℕ) (fault : LineFault) (lines : List (List ℕ)) (stop : StopsAt 1 nothing lines fault)
    → slice_split newline bytes ≡ lines
    → (StandsInLine bytes fault ⊎ StandsAtEnd bytes fault) ⊎ LacksNewline bytes fault
places bytes fault lines stop cut =
    let has = has_lines bytes stop.before stop.line stop.others (cut ∙ stop.lines_are) in
    elim stop.why [
      | inl w ↦
          elim w [
            | inl why ↦ inl (inl (in_line bytes stop.before stop.line stop.others stop.number stop.state fault has
                stop.number_is stop.leads why))
            | inr why ↦ inl (inr (at_end bytes stop.before stop.line stop.others stop.number stop.state fault has
                stop.number_is stop.leads why))
          ]
      | inr why ↦
          inr (no_newline bytes stop.before stop.line stop.others stop.number stop.state fault has stop.number_is
          stop.leads why)
    ]

no_ok : {A : Type 0} (f : LineFault) (s : A) → ◌≡◌ {A = Result A LineFault} (Err f) (Ok s) → ⊥
no_ok f s h = absurd cc

is_first : (bytes : List ℕ) (fault : LineFault) → script_in bytes ≡ Err fault → IsFirstFault bytes fault
unfolding script_in
is_first bytes fault h =
    let cut = split_cons newline bytes in
    let read : lines_in 1 nothing (cut.first ∷ cut.others) ≡ Err fault = rw cut.is at h in
    record {
      stands = places bytes fault (cut.first ∷ cut.others) (stops 1 nothing cut.first cut.others fault read) cut.is;
      no_script = λ s valid spelled. no_ok fault s (sym h ∙ spelled_is_read bytes s valid spelled);
    }

-- a fault that is reported is the first one
pub first_told : (bytes : List ℕ) (r : Result ParsedScript ParseFault) → IsReadOf r (script_in bytes)
    → TellsFirst bytes r
first_told bytes (Ok s) h = tt
first_told bytes (Err faults.TooLong) h = tt
first_told bytes (Err faults.Memory) h = tt
first_told bytes (Err (faults.Line fault)) h = is_first bytes fault h

-- Where reading stops, and that a text of accepted lines and a line with a fault isn't a script.
use Rattle.parser.proofs.Names.{List, [], ap, append-nil, append_assoc, arith, false, inl, inr, length, length-append}
use Rattle.parser.proofs.Names.{refl, subst, sym, ℕ, ◌++◌, ◌+◌, ◌∙◌, ◌∷◌, ◌≡◌, ◌≢◌, ◌≤◌, ◌⊎◌, nat_tests}
use Rattle.parser.proofs.Names.{slice_split-cons_yes, slice_split_at, AllByRecursion, onto_first, slice_split, Err}
use Rattle.parser.proofs.Names.{Ok, Result, ◌==◌, BeginsScript, IsWordEnd, byte_behind, text_of, ReadSoFar}
use Rattle.parser.proofs.Names.{ScriptValue, goes_on, in_line, newline, nothing, finished, last_line, line_in}
use Rattle.parser.proofs.Names.{lines_in, script_in, IsScript, Spells, Flaw, LineFault}
use Rattle.parser.proofs.Lists.{IsCons, split_cons, HasNoNewlines, all_front, all_push}
use Rattle.parser.proofs.Lines.{lines_cons}
use Rattle.parser.proofs.ScriptIsSpelled.{pick_false, never}
use Rattle.std.proofs.lemmas.List.Splits.{slice_split-cons_no}
use Rattle.parser.proofs.Plain.{none_ends}
use Rattle.parser.proofs.WordPlaces.{alike_spaced}
use Rattle.parser.proofs.LineTrees.{line_same}
use Rattle.parser.proofs.SpelledIsRead.{Leads, spelled_is_read}
use Rattle.parser.specs.declared.fault.FaultKind.TheVariants as kinds

cons_behind : (lines more : List (List ℕ)) → IsCons more → IsCons (lines ++ more)
cons_behind [] more h = h
cons_behind (line ∷ lines) more h = record { first = line; others = lines ++ more; is = refl }

-- a script that is read from lines is read from those after the lines that are accepted
pub read_behind : (lines more : List (List ℕ)) (n : ℕ) (r t : ReadSoFar) (s : ScriptValue) → IsCons more
    → Leads lines r t → lines_in n r (lines ++ more) ≡ Ok s → (m : ℕ) × (lines_in m t more ≡ Ok s)
read_behind [] more n r t s some h e = (n, subst (λ (x : ReadSoFar). lines_in n x more ≡ Ok s) h e)
read_behind (line ∷ lines) more n r t s some h e =
    let here : goes_on (in_line n (line_in r line)) (λ u. lines_in (n + 1) u (lines ++ more)) ≡ Ok s =
    sym (lines_cons n r line (lines ++ more) (cons_behind lines more some)) ∙ e in
    let taken : goes_on (in_line n (Ok h.0)) (λ u. lines_in (n + 1) u (lines ++ more)) ≡ Ok s =
    subst (λ (x : Result ReadSoFar Flaw). goes_on (in_line n x) (λ u. lines_in (n + 1) u (lines ++ more)) ≡ Ok s)
    h.1.0 here in
    read_behind lines more (n + 1) h.0 t s some h.1.1 taken

-- a line's fault, with the line's number
abbrev pub fault_in : ℕ → Flaw → LineFault
fault_in n flaw = record { line = n; column = flaw.column; kind = flaw.kind }

-- a line, of number n, is rejected
pub record IsWrong (n : ℕ) (r : ReadSoFar) (line : List ℕ) (fault : LineFault) : Type 0 where
  pub flaw : Flaw
  pub wrong : line_in r line ≡ Err flaw
  pub fault_is : fault_in n flaw ≡ fault

-- nothing follows the lines, of which n would be the next, and something is missing
pub record IsMissing (n : ℕ) (r : ReadSoFar) (line : List ℕ) (others : List (List ℕ)) (fault : LineFault) : Type 0 where
  pub no_line : line ≡ []
  pub last : others ≡ []
  pub missing : finished n r ≡ Err fault

-- the last line is accepted, but has no newline
pub record IsUnended (n : ℕ) (r : ReadSoFar) (line : List ℕ) (others : List (List ℕ)) (fault : LineFault) : Type 0 where
  pub state : ReadSoFar
  pub some : line ≢ []
  pub last : others ≡ []
  pub taken : line_in r line ≡ Ok state
  pub fault_is : record { line = n; column = length line + 1; kind = kinds.NewlineExpected } ≡ fault

-- why reading stops at a line
abbrev pub Why : ℕ → ReadSoFar → List ℕ → List (List ℕ) → LineFault → Type 0
Why n r line others fault =
    (IsWrong n r line fault ⊎ IsMissing n r line others fault) ⊎ IsUnended n r line others fault

-- reading stops after lines that are accepted
pub record StopsAt (n : ℕ) (r : ReadSoFar) (lines : List (List ℕ)) (fault : LineFault) : Type 0 where
  pub before : List (List ℕ)
  pub line : List ℕ
  pub others : List (List ℕ)
  pub number : ℕ
  pub state : ReadSoFar
  pub number_is : number ≡ n + length before
  pub lines_are : lines ≡ before ++ line ∷ others
  pub leads : Leads before r state
  pub why : Why number state line others fault

same_fault : {A : Type 0} (x y : LineFault) → ◌≡◌ {A = Result A LineFault} (Err x) (Err y) → x ≡ y
same_fault x y h = cc

on_err : {A B : Type 0} (n : ℕ) (x : Result A Flaw) (f : A → Result B LineFault) (e : LineFault)
    → goes_on (in_line n x) f ≡ Err e
    → ((flaw : Flaw) × ((x ≡ Err flaw) × (fault_in n flaw ≡ e))) ⊎ ((t : A) × ((x ≡ Ok t) × (f t ≡ Err e)))
on_err n (Ok t) f e h = inr (t, (refl, h))
on_err n (Err d) f e h = inl (d, (refl, same_fault (fault_in n d) e h))

last_err : (n : ℕ) (r : ReadSoFar) (rest : List ℕ) (fault : LineFault) → last_line n r rest ≡ Err fault
    → Why n r rest [] fault
unfolding last_line
last_err n r [] fault h = inl (inr (record { no_line = refl; last = refl; missing = h }))
last_err n r (b ∷ bs) fault h =
    let some : (length (b ∷ bs) == 0) ≡ false = grind (arith, nat_tests) in
    elim (on_err n (line_in r (b ∷ bs)) _ fault (pick_false (length (b ∷ bs) == 0) _ _ (Err fault) some h)) [
      | inl p ↦ inl (inl (record { flaw = p.0; wrong = p.1.0; fault_is = p.1.1 }))
      | inr p ↦
          inr (record {
            state = p.0;
            some = λ e. absurd cc;
            last = refl;
            taken = p.1.0;
            fault_is = same_fault (record { line = n; column = length (b ∷ bs) + 1; kind = kinds.NewlineExpected })
                fault p.1.1;
          })
    ]

pub stops : (n : ℕ) (r : ReadSoFar) (line : List ℕ) (more : List (List ℕ)) (fault : LineFault)
    → lines_in n r (line ∷ more) ≡ Err fault → StopsAt n r (line ∷ more) fault
unfolding lines_in
stops n r line [] fault h = record {
  before = [];
  line = line;
  others = [];
  number = n;
  state = r;
  number_is = omega arith;
  lines_are = refl;
  leads = refl;
  why = last_err n r line fault h;
}
stops n r line (next ∷ more) fault h =
    elim (on_err n (line_in r line) _ fault h) [
      | inl p ↦
          record {
            before = [];
            line = line;
            others = next ∷ more;
            number = n;
            state = r;
            number_is = omega arith;
            lines_are = refl;
            leads = refl;
            why = inl (inl (record { flaw = p.0; wrong = p.1.0; fault_is = p.1.1 }));
          }
      | inr p ↦ let rest = stops (n + 1) p.0 next more fault p.1.1 in
          let number = rest.number_is in
          record {
            before = line ∷ rest.before;
            line = rest.line;
            others = rest.others;
            number = rest.number;
            state = rest.state;
            number_is = omega arith;
            lines_are = ap (λ (x : List (List ℕ)). line ∷ x) rest.lines_are;
            leads = (p.0, (p.1.0, rest.leads));
            why = rest.why;
          }
    ]

-- the text of lines, with bytes after it, has these lines and then the lines of those bytes
pub text_split : (lines : List (List ℕ)) (more : List ℕ) → AllByRecursion HasNoNewlines lines
    → slice_split newline (text_of lines ++ more) ≡ lines ++ slice_split newline more
text_split [] more h = refl
text_split (line ∷ lines) more h =
    ap (slice_split newline) (append_assoc (line ++ 10 ∷ []) (text_of lines) more
    ∙ append_assoc line (10 ∷ []) (text_of lines ++ more))
    ∙ slice_split_at newline line 10 (text_of lines ++ more) (none_ends line h.0) refl
    ∙ ap (λ (x : List (List ℕ)). line ∷ x) (text_split lines more h.1)

-- bytes without a newline are before the first line of what follows them
pub line_more : (front more first : List ℕ) (others : List (List ℕ)) → HasNoNewlines front
    → slice_split newline more ≡ first ∷ others → slice_split newline (front ++ more) ≡ (front ++ first) ∷ others
line_more [] more first others h e = e
line_more (b ∷ bs) more first others h e =
    let ne = h.0 in
    let no : newline b ≡ false = grind (arith, nat_tests) in
    slice_split-cons_no newline b (bs ++ more) no ∙ ap (onto_first b) (line_more bs more first others h.1 e)

not_taken : (n : ℕ) (r : ReadSoFar) (line : List ℕ) (others : List (List ℕ)) (flaw : Flaw) (s : ScriptValue)
    → (length line == 0) ≡ false → line_in r line ≡ Err flaw → lines_in n r (line ∷ others) ≡ Ok s → ⊥
unfolding lines_in last_line
not_taken n r line [] flaw s some wrong h =
    never (in_line n (line_in r line)) _ s (pick_false (length line == 0) _ _ (Ok s) some h)
not_taken n r line (next ∷ others) flaw s some wrong h =
    let wrong_line : Result ReadSoFar Flaw = Err flaw in
    let fails : goes_on (in_line n wrong_line) (λ t. lines_in (n + 1) t (next ∷ others)) ≡ Ok s =
    subst (λ (x : Result ReadSoFar Flaw). goes_on (in_line n x) (λ t. lines_in (n + 1) t (next ∷ others)) ≡ Ok s)
    wrong h in
    absurd cc

-- a text that begins with lines that are accepted, and continues with a line that is rejected, is no script
not_read : (before : List (List ℕ)) (front more first : List ℕ) (others : List (List ℕ)) (t : ReadSoFar) (flaw : Flaw)
    (s : ScriptValue) → AllByRecursion HasNoNewlines before → HasNoNewlines front → Leads before nothing t
    → slice_split newline more ≡ first ∷ others → line_in t (front ++ first) ≡ Err flaw
    → (length (front ++ first) == 0) ≡ false → IsScript s → Spells (text_of before ++ (front ++ more)) s → ⊥
unfolding script_in
not_read before front more first others t flaw s each own leads cut wrong some valid spelled =
    let line = front ++ first in
    let all : lines_in 1 nothing (slice_split newline (text_of before ++ (front ++ more))) ≡ Ok s =
    spelled_is_read (text_of before ++ (front ++ more)) s valid spelled in
    let lines_are : slice_split newline (text_of before ++ (front ++ more)) ≡ before ++ line ∷ others =
    text_split before (front ++ more) each
    ∙ ap (λ (x : List (List ℕ)). before ++ x) (line_more front more first others own cut) in
    let read : lines_in 1 nothing (before ++ line ∷ others) ≡ Ok s = ap (lines_in 1 nothing) (sym lines_are) ∙ all in
    let rest = read_behind before (line ∷ others) 1 nothing t s
    (record { first = line; others = others; is = refl }) leads read in
    not_taken rest.0 t line others flaw s some wrong rest.1

some_line : (front back : List ℕ) (b : ℕ) → (length (front ++ b ∷ back) == 0) ≡ false
some_line front back b = let long = length-append front (b ∷ back) in grind (arith, nat_tests)

-- an idle line is accepted
some_wrong : (t : ReadSoFar) (line : List ℕ) (flaw : Flaw) → line_in t line ≡ Err flaw → (length line == 0) ≡ false
unfolding line_in
some_wrong t [] flaw h = absurd cc
some_wrong t (b ∷ bs) flaw h = grind (arith, nat_tests)

-- a line whose last word has a fault
never_behind_line : (before : List (List ℕ)) (line : List ℕ) (t : ReadSoFar) (flaw : Flaw)
    → AllByRecursion HasNoNewlines before → HasNoNewlines line → Leads before nothing t → line_in t line ≡ Err flaw
    → BeginsScript (text_of before ++ (line ++ 10 ∷ [])) → ⊥
never_behind_line before line t flaw each own leads wrong begins =
    let same : line ++ [] ≡ line = append-nil line in
    let bytes : (text_of before ++ (line ++ 10 ∷ [])) ++ begins.more ≡ text_of before ++ (line ++ 10 ∷ begins.more) =
    simp append_assoc in
    not_read before line (10 ∷ begins.more) [] (slice_split newline begins.more) t flaw begins.script each own leads
    (slice_split-cons_yes newline 10 begins.more refl)
    (subst (λ (x : List ℕ). line_in t x ≡ Err flaw) (sym same) wrong)
    (subst (λ (x : List ℕ). (length x == 0) ≡ false) (sym same) (some_wrong t line flaw wrong))
    begins.valid (subst (λ (x : List ℕ). Spells x begins.script) bytes begins.spelled)

-- a line whose word before a space has a fault
never_behind_word : (before : List (List ℕ)) (front back : List ℕ) (t : ReadSoFar) (flaw : Flaw)
    → AllByRecursion HasNoNewlines before → HasNoNewlines front → Leads before nothing t
    → line_in t (front ++ 32 ∷ back) ≡ Err flaw → flaw.column ≤ length front + 1 → BeginsScript
    (text_of before ++ (front ++ 32 ∷ [])) → ⊥
never_behind_word before front back t flaw each own leads wrong early begins =
    let spaced = front ++ 32 ∷ [] in
    let cut = split_cons newline begins.more in
    let same = line_same (length front + 1) (front ++ 32 ∷ back) (front ++ 32 ∷ cut.first)
    (alike_spaced front back cut.first) t flaw (omega arith) early wrong in
    let line_is : spaced ++ cut.first ≡ front ++ 32 ∷ cut.first = append_assoc front (32 ∷ []) cut.first in
    let spaced_own : HasNoNewlines spaced = all_push (λ b. b ≢ 10) front 32 own (λ e. absurd (omega arith)) in
    not_read before spaced begins.more cut.first cut.others t flaw begins.script each spaced_own leads cut.is
    (subst (λ (x : List ℕ). line_in t x ≡ Err flaw) (sym line_is) same)
    (subst (λ (x : List ℕ). (length x == 0) ≡ false) (sym line_is) (some_line front cut.first 32))
    begins.valid (subst (λ (x : List ℕ). Spells x begins.script) (append_assoc (text_of before) spaced begins.more)
    begins.spelled)

-- up to the end of a word with a fault, and the byte after it, bytes begin no script
pub never_begins : (before : List (List ℕ)) (line front word back : List ℕ) (t : ReadSoFar) (flaw : Flaw)
    → AllByRecursion HasNoNewlines before → HasNoNewlines line → Leads before nothing t → line_in t line ≡ Err flaw
    → line ≡ front ++ (word ++ back) → IsWordEnd back → flaw.column ≡ length front + 1
    → BeginsScript (text_of before ++ (front ++ (word ++ byte_behind back ∷ []))) → ⊥
never_begins before line front word back t flaw each own leads wrong is (inl none) column begins =
    let same : line ≡ front ++ word = rw (is, none) (simp append-nil) in
    let bytes : text_of before ++ (front ++ (word ++ byte_behind back ∷ [])) ≡ text_of before ++ (line ++ 10 ∷ []) =
    rw (none, same) (simp append_assoc) in
    never_behind_line before line t flaw each own leads wrong (subst BeginsScript bytes begins)
never_begins before line front word back t flaw each own leads wrong is (inr more) column begins =
    let same : line ≡ (front ++ word) ++ 32 ∷ more.0 = rw (is, more.1) (simp append_assoc) in
    let bytes : text_of before ++ (front ++ (word ++ byte_behind back ∷ []))
    ≡ text_of before ++ ((front ++ word) ++ 32 ∷ []) = rw more.1 (simp append_assoc) in
    let long = length-append front word in
    let front_own : HasNoNewlines (front ++ word) =
    all_front (λ b. b ≢ 10) (front ++ word) (32 ∷ more.0) (subst HasNoNewlines same own) in
    never_behind_word before (front ++ word) more.0 t flaw each front_own leads
    (subst (λ (x : List ℕ). line_in t x ≡ Err flaw) same wrong) (omega arith) (subst BeginsScript bytes begins)

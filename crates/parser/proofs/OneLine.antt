-- All first faults of a text are in one line.
use Rattle.parser.proofs.Names.{List, [], ap, append-nil, append_assoc, arith, inl, inr, length, refl, subst, sym, ℕ}
use Rattle.parser.proofs.Names.{◌++◌, ◌+◌, ◌<◌, ◌∙◌, ◌∷◌, ◌≡◌, cases_lt, flat_map-append, slice_split-cons_yes}
use Rattle.parser.proofs.Names.{slice_split, BeginsScript, HaveNoFault, IsFirstFault, IsLineEnd, IsWordEnd}
use Rattle.parser.proofs.Names.{LacksNewline, StandsAtEnd, StandsInLine, byte_behind, text_of, newline}
use Rattle.parser.proofs.Names.{with_newline, LineFault}
use Rattle.parser.specs.Faults.{HasNoLargeBlock, FaultsShareLine}
use Rattle.parser.proofs.Lists.{HasNoNewlines, all_to, lines_to}
use Rattle.parser.proofs.Completions.{begins_front}
use Rattle.parser.proofs.Stops.{text_split, line_more}

-- the lines of a text around a fault
record HasPlace (bytes : List ℕ) (fault : LineFault) : Type 0 where
  before : List (List ℕ)
  line : List ℕ
  others : List (List ℕ)
  cut : slice_split newline bytes ≡ before ++ line ∷ others
  number : fault.line ≡ length before + 1
  begins : BeginsScript (text_of before)
  never : (next : List ℕ) (rest : List (List ℕ)) → others ≡ next ∷ rest
      → BeginsScript (text_of (before ++ line ∷ [])) → ⊥

-- lines without a fault begin a script, if no block is too large
no_large : (bytes : List ℕ) (lines : List (List ℕ)) (more : List ℕ) → HasNoLargeBlock bytes
    → bytes ++ 10 ∷ [] ≡ text_of lines ++ more → HaveNoFault lines → BeginsScript (text_of lines)
no_large bytes lines more small is (inl begins) = begins
no_large bytes lines more small is (inr large) = absurd (small lines more is large)

text_more : (lines : List (List ℕ)) (line : List ℕ) → text_of (lines ++ line ∷ []) ≡ text_of lines ++ (line ++ 10 ∷ [])
text_more lines line = simp (flat_map-append, append-nil)

-- the parts of a line and what follows it
behind_cut : (line behind : List ℕ) → HasNoNewlines line → IsLineEnd behind
    → (others : List (List ℕ)) × (slice_split newline (line ++ behind) ≡ line ∷ others)
behind_cut line behind own (inl none) = (
  [],
  ap (λ (x : List ℕ). slice_split newline (line ++ x)) none ∙ line_more line [] [] [] own refl
      ∙ ap (λ (x : List ℕ). x ∷ []) (append-nil line),
)
behind_cut line behind own (inr more) = (
  slice_split newline more.0,
  ap (λ (x : List ℕ). slice_split newline (line ++ x)) more.1
      ∙ line_more line (10 ∷ more.0) [] (slice_split newline more.0) own (slice_split-cons_yes newline 10 more.0 refl)
      ∙ ap (λ (x : List ℕ). x ∷ slice_split newline more.0) (append-nil line),
)

-- the end of a word is in its line or the newline after it
word_in_line : (front word back : List ℕ) → IsWordEnd back → (rest : List ℕ) ×
    ((front ++ (word ++ back)) ++ 10 ∷ [] ≡ (front ++ (word ++ byte_behind back ∷ [])) ++ rest)
word_in_line front word back (inl none) = ([], rw none (simp (append_assoc, append-nil)))
word_in_line front word back (inr more) = (more.0 ++ 10 ∷ [], rw more.1 (simp append_assoc))

in_line : (bytes : List ℕ) (fault : LineFault) → HasNoLargeBlock bytes → StandsInLine bytes fault → HasPlace bytes fault
in_line bytes fault small h =
    let own = all_to _ h.line h.is_line in
    let cut = behind_cut h.line h.behind own h.ends in
    let last = word_in_line h.front h.word h.back h.is_word.ends in
    let whole : text_of (h.before ++ h.line ∷ [])
    ≡ (text_of h.before ++ (h.front ++ (h.word ++ byte_behind h.back ∷ []))) ++ last.0 =
    text_more h.before h.line ∙ ap (λ (x : List ℕ). text_of h.before ++ (x ++ 10 ∷ [])) h.is_word.line_is
    ∙ rw last.1 (simp append_assoc) in
    record {
      before = h.before;
      line = h.line;
      others = cut.0;
      cut = ap (slice_split newline) h.bytes_are
          ∙ text_split h.before (h.line ++ h.behind) (lines_to h.before h.each)
          ∙ ap (λ (x : List (List ℕ)). h.before ++ x) cut.1;
      number = h.number;
      begins = no_large bytes h.before ((h.line ++ h.behind) ++ 10 ∷ []) small
          (ap (λ (x : List ℕ). x ++ 10 ∷ []) h.bytes_are
          ∙ append_assoc (text_of h.before) (h.line ++ h.behind) (10 ∷ [])) h.faultless;
      never = λ next rest is begins. h.never (begins_front (text_of h.before
          ++ (h.front ++ (h.word ++ byte_behind h.back ∷ []))) last.0 (subst BeginsScript whole begins));
    }

nothing_behind : (next : List ℕ) (rest : List (List ℕ)) → [] ≡ next ∷ rest → ⊥
nothing_behind next rest e = absurd cc

at_end : (bytes : List ℕ) (fault : LineFault) → HasNoLargeBlock bytes → StandsAtEnd bytes fault → HasPlace bytes fault
at_end bytes fault small h = record {
  before = h.lines;
  line = [];
  others = [];
  cut = ap (slice_split newline) (h.bytes_are ∙ sym (append-nil (text_of h.lines)))
      ∙ text_split h.lines [] (lines_to h.lines h.each);
  number = h.number;
  begins = no_large bytes h.lines (10 ∷ []) small (ap (λ (x : List ℕ). x ++ 10 ∷ []) h.bytes_are) h.faultless;
  never = λ next rest is begins. nothing_behind next rest is;
}

lacks_newline : (bytes : List ℕ) (fault : LineFault) → HasNoLargeBlock bytes → LacksNewline bytes fault
    → HasPlace bytes fault
lacks_newline bytes fault small h =
    let own = all_to _ h.line h.is_line in
    let cut = ap (slice_split newline) (sym (append-nil h.line)) ∙ line_more h.line [] [] [] own refl
    ∙ ap (λ (x : List ℕ). x ∷ []) (append-nil h.line) in
    let whole : bytes ++ 10 ∷ [] ≡ text_of (h.before ++ h.line ∷ []) ++ [] =
    rw (h.bytes_are, text_more h.before h.line) (simp (append_assoc, append-nil)) in
    let begins = no_large bytes (h.before ++ h.line ∷ []) [] small whole h.faultless in
    record {
      before = h.before;
      line = h.line;
      others = [];
      cut = ap (slice_split newline) h.bytes_are ∙ text_split h.before h.line (lines_to h.before h.each)
          ∙ ap (λ (x : List (List ℕ)). h.before ++ x) cut;
      number = h.number;
      begins = begins_front (text_of h.before) (h.line ++ 10 ∷ [])
          (subst BeginsScript (text_more h.before h.line) begins);
      never = λ next rest is begins. nothing_behind next rest is;
    }

has_place : (bytes : List ℕ) (fault : LineFault) → HasNoLargeBlock bytes → IsFirstFault bytes fault
    → HasPlace bytes fault
has_place bytes fault small h = elim h.stands [
  | inl stands ↦ elim stands [
    | inl there ↦ in_line bytes fault small there
    | inr there ↦ at_end bytes fault small there
  ]
  | inr there ↦ lacks_newline bytes fault small there
]

-- of two places in a list of lines, the later one has the other's line before it
record IsBeforeOf (xs ys : List (List ℕ)) (x y : List ℕ) (others more : List (List ℕ)) : Type 0 where
  rest : List (List ℕ)
  later_is : ys ≡ xs ++ x ∷ rest
  others_are : others ≡ rest ++ y ∷ more

heads : (x y : List ℕ) (xs ys : List (List ℕ)) → x ∷ xs ≡ y ∷ ys → (x ≡ y) × (xs ≡ ys)
heads x y xs ys e = (cc, cc)

is_before : (xs ys : List (List ℕ)) (x y : List ℕ) (others more : List (List ℕ))
    → xs ++ x ∷ others ≡ ys ++ y ∷ more → length xs < length ys → IsBeforeOf xs ys x y others more
is_before [] [] x y others more e h = absurd (omega arith)
is_before [] (z ∷ ys) x y others more e h =
    let p = heads x z others (ys ++ y ∷ more) e in
    record { rest = ys; later_is = ap (λ (v : List ℕ). v ∷ ys) (sym p.0); others_are = p.1 }
is_before (z ∷ xs) [] x y others more e h = absurd (omega arith)
is_before (z ∷ xs) (w ∷ ys) x y others more e h =
    let p = heads z w (xs ++ x ∷ others) (ys ++ y ∷ more) e in
    let tail = is_before xs ys x y others more p.1 (omega arith) in
    record {
      rest = tail.rest;
      later_is = ap (λ (v : List ℕ). v ∷ ys) (sym p.0) ∙ ap (λ (v : List (List ℕ)). z ∷ v) tail.later_is;
      others_are = tail.others_are;
    }

some_behind : (rest more : List (List ℕ)) (y : List ℕ)
    → (next : List ℕ) × ((others : List (List ℕ)) × (rest ++ y ∷ more ≡ next ∷ others))
some_behind [] more y = (y, (more, refl))
some_behind (x ∷ rest) more y = (x, (rest ++ y ∷ more, refl))

-- if a fault is in an earlier line, the lines before the later one don't begin a script
not_earlier : (bytes : List ℕ) (f g : LineFault) (p : HasPlace bytes f) (q : HasPlace bytes g)
    → length p.before < length q.before → ⊥
not_earlier bytes f g p q h =
    let order = is_before p.before q.before p.line q.line p.others q.others (sym p.cut ∙ q.cut) h in
    let some = some_behind order.rest q.others q.line in
    let lines_are : q.before ≡ (p.before ++ p.line ∷ []) ++ order.rest =
    order.later_is ∙ sym (append_assoc p.before (p.line ∷ []) order.rest) in
    let text_is : text_of q.before ≡ text_of (p.before ++ p.line ∷ []) ++ text_of order.rest =
    ap text_of lines_are ∙ flat_map-append with_newline (p.before ++ p.line ∷ []) order.rest in
    p.never some.0 some.1.0 (order.others_are ∙ some.1.1)
    (begins_front (text_of (p.before ++ p.line ∷ [])) (text_of order.rest) (subst BeginsScript text_is q.begins))

pub share_line : (bytes : List ℕ) (f g : LineFault) → FaultsShareLine bytes f g
share_line bytes f g small one other =
    let p = has_place bytes f small one in
    let q = has_place bytes g small other in
    let first = p.number in
    let second = q.number in
    elim (cases_lt (length p.before) (length q.before)) [
      | inl early ↦ absurd (not_earlier bytes f g p q early)
      | inr late ↦ elim (cases_lt (length q.before) (length p.before)) [
        | inl early ↦ absurd (not_earlier bytes g f q p early)
        | inr same ↦ omega arith
      ]
    ]

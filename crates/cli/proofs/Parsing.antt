-- How clap parses words that don't begin with '-', for the program's command: none or one are too few, three are too
-- many, and two are its values.
use Rattle.std.proofs.Common.{◌≡◌, ◌∙◌, ◌==◌, ◌∷◌, ℕ, Bool, true, false, List, []}
use Rattle.std.proofs.Common.{Some, None, refl, sym, ap, ap₂, codes, is_some, fold}
use Rattle.std.specs.Prelude.{if◌then◌else◌, option_and_then, option_map, unwrap_or}
use Rattle.std.proofs.lemmas.Bool.{not-true}
use Rattle.clap.specs.Faults.{check_fault, defaults_fault, entered_fault, fault_of}
use Rattle.clap.specs.Faults.{settle_fault, step_fault, turn_fault, walk_fault, word_fault}
use Rattle.clap.specs.Kinds.{Kinds, or_else}
use Rattle.clap.specs.Lexer.{short_of, short_of_rest}
use Rattle.clap.specs.Matches.{first_value}
use Rattle.clap.specs.Simple.{Shape, built, entered, matches_of}
use Rattle.clap.specs.Walk.{Held, Rule, Step, Text, Walk, after_step, arg_by_index, finished, first_of, idle}
use Rattle.clap.specs.Walk.{nothing_held, rows_of, settled, to_positional, value, walk, walked, word_met}
use Rattle.clap.specs.declared.error.kind.ErrorKind.{ErrorKind}
use Rattle.clap.specs.declared.error.kind.ErrorKind.TheVariants as kind
use Rattle.clap.specs.declared.parser.matches.Found.{Found}
use Rattle.clap.proofs.OnLiterals.{clap_on_literals}
use Rattle.clap.proofs.WalkLemmas.{both, first_value-rows}
use Rattle.cli.specs.Asking.{are_plain, asked_by, is_plain_word, mode_named}
use Rattle.cli.specs.Program.{program}
use Rattle.cli.specs.declared.asking.Mode.{Mode}

-- ---- the command

-- its arguments, once it is built
abbrev top : Shape
top = (built program).top

abbrev rules : List Rule
rules = top.rules

-- ---- one word

no_bundle : (x : ℕ) (xs : Text) → (x == 45) ≡ false → short_of (x ∷ xs) ≡ None
no_bundle x xs e = ap (λ (b : Bool). option_and_then short_of_rest (if b then Some xs else None)) e

pub plain_word_met : (c : List Rule) (place : ℕ) (word : Text) (h : Held) → is_plain_word word ≡ true
    → word_met c [] false idle place word h ≡ (h, value)
plain_word_met c place [] h e = refl
plain_word_met c place (x ∷ xs) h e =
    let other = not-true (x == 45) e in
    rw (other, no_bundle x xs other) refl

pub plain_word_fault : (s : Shape) (word : Text) (h : Held) → is_plain_word word ≡ true
    → word_fault s [] false idle word h ≡ []
plain_word_fault s [] h e = refl
plain_word_fault s (x ∷ xs) h e =
    let other = not-true (x == 45) e in
    rw (other, no_bundle x xs other) refl

-- the walk at a place, with no pending word
abbrev at_place : ℕ → Held → Walk
at_place place h = record { held = h; waiting = idle; position = place; is_trailing = false; stopped = None }

-- the walk after a word that goes to the positional of the place
abbrev after_word : ℕ → Held → Text → Walk
after_word place h word = to_positional rules (arg_by_index rules place) word (at_place place h) h

word_walked : (place : ℕ) (h : Held) (word : Text) → is_plain_word word ≡ true
    → walked rules [] (at_place place h) word ≡ after_word place h word
unfolding walked
word_walked place h word e = ap (λ (met : Held × Step). after_step rules word (at_place place h) met.0 met.1)
    (plain_word_met rules place word h e)

word_turn : (place : ℕ) (h : Held) (word : Text) → is_plain_word word ≡ true
    → turn_fault top [] (at_place place h) word ≡ step_fault top place h value
word_turn place h word e = ap₂ (λ (f : Kinds) (met : Held × Step). or_else f (step_fault top place met.0 met.1))
    (plain_word_fault top word h e) (plain_word_met rules place word h e)

word_fault_first : (place : ℕ) (h : Held) (word : Text) (rest : List Text) → is_plain_word word ≡ true
    → walk_fault top [] (at_place place h) (word ∷ rest)
    ≡ or_else (step_fault top place h value) (walk_fault top [] (after_word place h word) rest)
unfolding walk_fault
word_fault_first place h word rest e = ap₂ (λ (f : Kinds) (w : Walk). or_else f (walk_fault top [] w rest))
    (word_turn place h word e) (word_walked place h word e)

word_fold : (place : ℕ) (h : Held) (word : Text) (rest : List Text) → is_plain_word word ≡ true
    → fold (walked rules []) (at_place place h) (word ∷ rest) ≡ fold (walked rules []) (after_word place h word) rest
word_fold place h word rest e = ap (λ (w : Walk). fold (walked rules []) w rest) (word_walked place h word e)

-- ---- after the words

-- the faults in all, by the faults in the words and where the walk ends
abbrev in_all : Kinds → Walk → Kinds
in_all words end = or_else words
    (or_else (entered_fault (built program) end.stopped) (or_else (settle_fault rules top.args_override_self end.held)
    (or_else (defaults_fault (settled rules end.held).rows rules)
    (check_fault top (finished rules end.held) (is_some (entered (built program) end.stopped))))))

fault_in_all : (name : Text) (words : List Text) → fault_of program (name ∷ words)
    ≡ in_all (walk_fault top [] (at_place 1 nothing_held) words) (walk rules [] nothing_held words)
fault_in_all name words = refl

no_words : (name : Text) → fault_of program (name ∷ []) ≡ kind.MissingRequiredArgument ∷ []
unfolding clap_on_literals
no_words name = refl

fault_after : (name : Text) (words : List Text) (wrong : Kinds) (end : Walk)
    → walk_fault top [] (at_place 1 nothing_held) words ≡ wrong → walk rules [] nothing_held words ≡ end
    → fault_of program (name ∷ words) ≡ in_all wrong end
fault_after name words wrong end f w = ap₂ in_all f w

-- the values after one word, and after two
abbrev held_one : Text → Held
held_one a = (after_word 1 nothing_held a).held

abbrev held_two : Text → Text → Held
held_two a b = (after_word 2 (held_one a) b).held

one_fault : (a : Text) → is_plain_word a ≡ true → walk_fault top [] (at_place 1 nothing_held) (a ∷ []) ≡ []
unfolding clap_on_literals
one_fault a e = word_fault_first 1 nothing_held a [] e

one_walk : (a : Text) → is_plain_word a ≡ true → walk rules [] nothing_held (a ∷ []) ≡ at_place 2 (held_one a)
one_walk a e = word_fold 1 nothing_held a [] e

one_word : (name a : Text) → is_plain_word a ≡ true
    → fault_of program (name ∷ a ∷ []) ≡ kind.MissingRequiredArgument ∷ []
unfolding clap_on_literals
one_word name a e = fault_after name (a ∷ []) [] (at_place 2 (held_one a)) (one_fault a e) (one_walk a e)

two_fault : (a b : Text) (rest : List Text) → is_plain_word a ≡ true → is_plain_word b ≡ true
    → walk_fault top [] (at_place 1 nothing_held) (a ∷ b ∷ rest) ≡ walk_fault top [] (at_place 3 (held_two a b)) rest
unfolding clap_on_literals
two_fault a b rest e f = word_fault_first 1 nothing_held a (b ∷ rest) e ∙ word_fault_first 2 (held_one a) b rest f

two_walk : (a b : Text) → is_plain_word a ≡ true → is_plain_word b ≡ true
    → walk rules [] nothing_held (a ∷ b ∷ []) ≡ at_place 3 (held_two a b)
two_walk a b e f = word_fold 1 nothing_held a (b ∷ []) e ∙ word_fold 2 (held_one a) b [] f

two_words : (name a b : Text) → is_plain_word a ≡ true → is_plain_word b ≡ true
    → fault_of program (name ∷ a ∷ b ∷ []) ≡ []
unfolding clap_on_literals
two_words name a b e f =
    fault_after name (a ∷ b ∷ []) [] (at_place 3 (held_two a b)) (two_fault a b [] e f) (two_walk a b e f)

more_fault : (a b c : Text) (rest : List Text) → is_plain_word a ≡ true → is_plain_word b ≡ true
    → is_plain_word c ≡ true
    → walk_fault top [] (at_place 1 nothing_held) (a ∷ b ∷ c ∷ rest) ≡ kind.UnknownArgument ∷ []
more_fault a b c rest e f g = two_fault a b (c ∷ rest) e f ∙ word_fault_first 3 (held_two a b) c rest g

more_words : (name a b c : Text) (rest : List Text) → is_plain_word a ≡ true → is_plain_word b ≡ true
    → is_plain_word c ≡ true
    → fault_of program (name ∷ a ∷ b ∷ c ∷ rest) ≡ kind.UnknownArgument ∷ []
more_words name a b c rest e f g =
    ap (λ (k : Kinds). in_all k (walk rules [] nothing_held (a ∷ b ∷ c ∷ rest))) (more_fault a b c rest e f g)

two_matches : (name a b : Text) → is_plain_word a ≡ true → is_plain_word b ≡ true
    → matches_of program (name ∷ a ∷ b ∷ []) ≡ finished rules (held_two a b)
two_matches name a b e f = ap (λ (w : Walk). finished rules w.held) (two_walk a b e f)

pub mode_value : (name a b : Text) → is_plain_word a ≡ true → is_plain_word b ≡ true
    → first_of (codes "mode") (matches_of program (name ∷ a ∷ b ∷ [])) ≡ Some a
mode_value name a b e f = ap (first_of (codes "mode")) (two_matches name a b e f)

pub file_value : (name a b : Text) → is_plain_word a ≡ true → is_plain_word b ≡ true
    → first_of (codes "file") (matches_of program (name ∷ a ∷ b ∷ [])) ≡ Some b
file_value name a b e f = ap (first_of (codes "file")) (two_matches name a b e f)

-- ---- the program's result

-- words that don't begin with '-' are rejected unless there are two
pub refused_asks : (words : List Text) → are_plain words ≡ true
    → (fault_of program (codes "pauseless" ∷ words) ≡ [] → ⊥) → asked_by words ≡ None
refused_asks [] e bad = refl
refused_asks (a ∷ []) e bad = refl
refused_asks (a ∷ b ∷ []) e bad =
    let p = both _ _ e in
    let q = both _ _ p.1 in
    absurd (bad (two_words (codes "pauseless") a b p.0 q.0))
refused_asks (a ∷ b ∷ c ∷ rest) e bad = refl

some_fault : (words : Kinds) (x : ErrorKind) (xs : Kinds) → words ≡ x ∷ xs → words ≡ [] → ⊥
some_fault words x xs e none =
    let same : x ∷ xs ≡ [] = sym e ∙ none in
    cc

-- and accepted if there are two, with the mode first
pub taken_are : (words : List Text) (f : Found) → are_plain words ≡ true
    → fault_of program (codes "pauseless" ∷ words) ≡ []
    → rows_of f ≡ matches_of program (codes "pauseless" ∷ words)
    → (mode : Text) × (file : Text) × (words ≡ mode ∷ file ∷ []) × (first_value f (codes "mode") ≡ Some mode)
    × (first_value f (codes "file") ≡ Some file)
taken_are [] f e none rows = absurd (some_fault _ _ _ (no_words (codes "pauseless")) none)
taken_are (a ∷ []) f e none rows = absurd (some_fault _ _ _ (one_word (codes "pauseless") a (both _ _ e).0) none)
taken_are (a ∷ b ∷ []) f e none rows =
    let p = both _ _ e in
    let q = both _ _ p.1 in (
      a,
      b,
      refl,
      first_value-rows f (codes "mode")
          ∙ (ap (first_of (codes "mode")) rows ∙ mode_value (codes "pauseless") a b p.0 q.0),
      first_value-rows f (codes "file")
          ∙ (ap (first_of (codes "file")) rows ∙ file_value (codes "pauseless") a b p.0 q.0),
    )
taken_are (a ∷ b ∷ c ∷ rest) f e none rows =
    let p = both _ _ e in
    let q = both _ _ p.1 in
    let r = both _ _ q.1 in
    absurd (some_fault _ _ _ (more_words (codes "pauseless") a b c rest p.0 q.0 r.0) none)

-- the result, by how the program's name and the words were parsed
module _ (texts words : List Text) (named : texts ≡ codes "pauseless" ∷ words) (plain : are_plain words ≡ true) where
  pub refused_answer : (fault_of program texts ≡ [] → ⊥) → asked_by words ≡ None
  refused_answer bad = refused_asks words plain (λ none. bad (ap (fault_of program) named ∙ none))

  module _ (f : Found) (rows : rows_of f ≡ matches_of program texts) (none : fault_of program texts ≡ []) where
    values : (mode : Text) × (file : Text) × (words ≡ mode ∷ file ∷ []) × (first_value f (codes "mode") ≡ Some mode)
        × (first_value f (codes "file") ≡ Some file)
    values = taken_are words f plain (ap (fault_of program) (sym named) ∙ none) (rows ∙ ap (matches_of program) named)

    -- both have values, and the words request what these do
    pub both_asked : (name file : Text) → first_value f (codes "mode") ≡ Some name
        → first_value f (codes "file") ≡ Some file → asked_by words ≡ option_map (λ m. (m, file)) (mode_named name)
    both_asked name file mode at =
        let v = values in
        let same_mode : v.0 ≡ name = ap (λ o. unwrap_or o []) (sym v.3 ∙ mode) in
        let same_file : v.1 ≡ file = ap (λ o. unwrap_or o []) (sym v.4 ∙ at) in
        ap asked_by v.2 ∙ ap₂ (λ (m : Text) (t : Text). asked_by (m ∷ t ∷ [])) same_mode same_file

    pub mode_asked : (name file : Text) (mode : Mode) → first_value f (codes "mode") ≡ Some name
        → first_value f (codes "file") ≡ Some file → Some mode ≡ mode_named name → asked_by words ≡ Some (mode, file)
    mode_asked name file mode there at is =
        both_asked name file there at ∙ ap (option_map (λ m. (m, file))) (sym is)

    pub no_mode_asked : (name file : Text) → first_value f (codes "mode") ≡ Some name
        → first_value f (codes "file") ≡ Some file → None ≡ mode_named name → asked_by words ≡ None
    no_mode_asked name file there at is =
        both_asked name file there at ∙ ap (option_map (λ m. (m, file))) (sym is)

    pub both_there :
        (is_some (first_value f (codes "mode")) ≡ true → is_some (first_value f (codes "file")) ≡ true → ⊥)
        → asked_by words ≡ None
    both_there other =
        let v = values in
        absurd (other (ap is_some v.3) (ap is_some v.4))

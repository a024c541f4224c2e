-- Readers as trees of words: what all of them have in common.
use Rattle.parser.proofs.Names.{Bool, List, None, Option, Some, [], ap, append_assoc, arith, false, inl, inr, length}
use Rattle.parser.proofs.Names.{refl, subst, sym, true, ℕ, ◌++◌, ◌+◌, ◌<◌, ◌∙◌, ◌∷◌, ◌≡◌, ◌≢◌, ◌≤◌, ◌⊎◌, cases_lt}
use Rattle.parser.proofs.Names.{same_Some, AllByRecursion, Err, Ok, Result, same_result, IsWrongWord, flaw, ◌>>=◌}
use Rattle.parser.proofs.Names.{word_at, FaultKind, Flaw}
use Rattle.parser.proofs.Lists.{all_front, all_back, all_both, HasNoNewlines}
use Rattle.parser.proofs.Numbers.{IsPlain}
use Rattle.parser.proofs.WordPlaces.{words_from, word_is, found_word, no_word_is, Reads, HasNoSpace, IsBehindWord}
use Rattle.parser.proofs.WordPlaces.{IsPlace, IsWordAt, finds_word, none_past, behind_word, AreAlike, IsFaultAt}
use Rattle.parser.proofs.WordPlaces.{word_inside, fault_at_word, fault_at_end, no_bytes}

-- words of a line
abbrev pub Words : Type 0
Words = List (List ℕ)

-- what words say of a value
abbrev pub Sense : Type 0 → Type 1
Sense A = A → Words → Type 0

-- which words may follow
abbrev pub Rest : Type 1
Rest = Words → Type 0

-- the word that was looked at, if one was, and if there is one
abbrev pub Seen : Type 0
Seen = Option (Option (List ℕ))

-- A reader of words. It is done, or has a fault at the word where it is, or looks at that word, if there is one, or
-- goes past it.
pub data Tree (A : Type 0) : Type 0 where
  Done : A → Tree A
  Fail : FaultKind → Tree A
  Look : (Option (List ℕ) → Tree A) → Tree A
  Skip : Tree A → Tree A

-- ---- what a tree reads

-- the word that was found at a place
abbrev pub word_in : Option (List ℕ × ℕ) → Option (List ℕ)
word_in None = None
word_in (Some w) = Some w.0

-- where a fault is: at the word, or at the line's end if it is missing
abbrev pub place_in : List ℕ → ℕ → Option (List ℕ × ℕ) → ℕ
place_in line at None = length line
place_in line at (Some w) = at

-- the place after the word
abbrev pub behind_in : ℕ → Option (List ℕ × ℕ) → ℕ
behind_in at None = at
behind_in at (Some w) = w.1

abbrev pub run : {A : Type 0} → Tree A → List ℕ → ℕ → Result (A × ℕ) Flaw
run (Done x) line at = Ok (x, at)
run (Fail kind) line at = Err (flaw (place_in line at (word_at line at)) kind)
run (Look f) line at = run (f (word_in (word_at line at))) line at
run (Skip t) line at = run t line (behind_in at (word_at line at))

-- one reader after another
abbrev pub chain : {A B : Type 0} → Tree A → (A → Tree B) → Tree B
chain (Done x) f = f x
chain (Fail kind) f = Fail kind
chain (Look g) f = Look (λ o. chain (g o) f)
chain (Skip t) f = Skip (chain t f)

pub run_chain : {A B : Type 0} (t : Tree A) (f : A → Tree B) (line : List ℕ) (at : ℕ)
    → run (chain t f) line at ≡ (run t line at >>= (λ (x : A × ℕ). run (f x.0) line x.1))
run_chain (Done x) f line at = refl
run_chain (Fail kind) f line at = refl
run_chain (Look g) f line at = run_chain (g (word_in (word_at line at))) f line at
run_chain (Skip t) f line at = run_chain t f line (behind_in at (word_at line at))

pub bind_same : {A B : Type 0} (r : Result A Flaw) (f g : A → Result B Flaw) → ((x : A) → f x ≡ g x)
    → (r >>= f) ≡ (r >>= g)
bind_same (Ok x) f g h = h x
bind_same (Err e) f g h = refl

-- if each of two readers reads what is defined, so do both together
pub chained : {A B : Type 0} (t : Tree A) (f : A → Tree B) (line : List ℕ) (at : ℕ) (r : Result (A × ℕ) Flaw)
    (g : A × ℕ → Result (B × ℕ) Flaw) → run t line at ≡ r → ((x : A × ℕ) → run (f x.0) line x.1 ≡ g x)
    → run (chain t f) line at ≡ (r >>= g)
chained {A} {B} t f line at r g e h =
    run_chain t f line at ∙ bind_same (run t line at) (λ (x : A × ℕ). run (f x.0) line x.1) g h
    ∙ ap (λ (s : Result (A × ℕ) Flaw). s >>= g) e

-- ---- two lines that agree

-- a value ends after a place, and a fault is there or later
abbrev pub IsLate : {A : Type 0} → ℕ → Result (A × ℕ) Flaw → Type 0
IsLate n (Ok x) = n ≤ x.1
IsLate n (Err f) = n < f.column

moves : (line : List ℕ) (at : ℕ) → at ≤ behind_in at (word_at line at)
moves line at = elim (cases_lt (length line) at) [
  | inl past ↦ rw (none_past line at past) (omega arith)
  | inr within ↦
      let found = finds_word line at within in let after = found.is.after_is in rw found.found (omega arith)
]

module _ (n : ℕ) (line other : List ℕ) (k : AreAlike n line other) where
  place_late : (at : ℕ) (o : Option (List ℕ × ℕ)) → n ≤ at → n < place_in line at o + 1
  place_late at None h = let long = k.long in omega arith
  place_late at (Some w) h = omega arith

  run_late : {A : Type 0} (t : Tree A) (at : ℕ) → n ≤ at → IsLate n (run t line at)
  run_late (Done x) at h = h
  run_late (Fail kind) at h = place_late at (word_at line at) h
  run_late (Look f) at h = run_late (f (word_in (word_at line at))) at h
  run_late (Skip t) at h = let moved = moves line at in run_late t (behind_in at (word_at line at)) (omega arith)

  fail_same : (kind : FaultKind) (at : ℕ) → at < n → flaw (place_in line at (word_at line at)) kind
      ≡ flaw (place_in other at (word_at other at)) kind
  fail_same kind at before =
      let found = finds_word line at (k.within at before) in
      rw (← k.words at before, found.found) refl

  -- up to n the same is read
  pub run_same : {A : Type 0} (t : Tree A) (at : ℕ) → (run t line at ≡ run t other at) ⊎ IsLate n (run t line at)
  run_same (Done x) at = inl refl
  run_same (Fail kind) at = elim (cases_lt at n) [
    | inl before ↦ inl (ap (λ (f : Flaw). Err f) (fail_same kind at before))
    | inr behind ↦ inr (place_late at (word_at line at) behind)
  ]
  run_same (Look f) at = elim (cases_lt at n) [
    | inl before ↦
        let o = word_in (word_at line at) in
        subst (λ (v : Option (List ℕ × ℕ)). (run (f o) line at ≡ run (f (word_in v)) other at)
        ⊎ IsLate n (run (f o) line at)) (k.words at before) (run_same (f o) at)
    | inr behind ↦ inr (run_late (Look f) at behind)
  ]
  run_same (Skip t) at = elim (cases_lt at n) [
    | inl before ↦
        let place = behind_in at (word_at line at) in
        subst (λ (v : Option (List ℕ × ℕ)). (run t line place ≡ run t other (behind_in at v))
        ⊎ IsLate n (run t line place)) (k.words at before) (run_same t place)
    | inr behind ↦ inr (run_late (Skip t) at behind)
  ]

-- ---- words before a fault, and what is wrong at its word

-- the bytes before a line's first word are empty, those before a later one aren't
abbrev pub Starts : Bool → List ℕ → Type 0
Starts true front = front ≡ []
Starts false front = front ≢ []

-- the condition of a fault at the word that was looked at, which may be missing
abbrev pub IsWrong : Bool → Seen → FaultKind → Type 0
IsWrong first None kind = ⊥
IsWrong first (Some None) kind = (front : List ℕ) → IsWrongWord kind front []
IsWrong first (Some (Some w)) kind = (front : List ℕ) → Starts first front → IsWrongWord kind front w

-- what holds of the word that was looked at, if there was one
abbrev pub OfWord : Seen → (List ℕ → Type 0) → Type 0
OfWord None F = ⊥
OfWord (Some None) F = ⊥
OfWord (Some (Some w)) F = F w

-- some words are read, if those after them are allowed there
pub record Lives {A : Type 0} (May : Rest) (P : Sense A) (t : Tree A) : Type 0
  where
    pub words : Words
    pub plain : AllByRecursion IsPlain words
    pub value : A
    pub is : P value words
    pub reads : (line : List ℕ) (at : ℕ) (rest : Words) → May rest → words_from line at ≡ words ++ rest
        → Reads line (run t line at) value rest

-- A value is one of the words that were passed; each fault is one at the word that was looked at; and past each word
-- some words are read.
abbrev pub IsSound : {A : Type 0} → (Rest) → (Sense A) → Bool → Seen → Tree A → Type 0
IsSound May P first c (Done x) = P x []
IsSound May P first c (Fail kind) = IsWrong first c kind
IsSound May P first c (Look f) = (o : Option (List ℕ)) → IsSound May P first (Some o) (f o)
IsSound {A} May P first c (Skip t) = OfWord c (λ w.
    Lives May (λ (x : A) ws. P x (w ∷ ws)) t × IsSound May (λ (x : A) ws. P x (w ∷ ws)) false None t)

-- the same for a tree wherever it is, other than at the line's first word
pub record IsGood {A : Type 0} (May : Rest) (P : Sense A) (t : Tree A) : Type 0
  where
    pub lives : Lives May P t
    pub sound : (c : Seen) → IsSound May P false c t

module _
    {A B : Type 0} (MayFirst May : Rest) (f : A → Tree B)
  where
    -- what follows is good, and begins as it may
    pub record Follows (P : Sense A) (Q : Sense B) : Type 0 where
      pub good : (x : A) (ws : Words) → P x ws → IsGood May (λ (y : B) vs. Q y (ws ++ vs)) (f x)
      pub follows : (x : A) (ws : Words) (p : P x ws) (rest : Words) → May rest
          → MayFirst ((good x ws p).lives.words ++ rest)

    past : (P : Sense A) (Q : Sense B) (w : List ℕ) → Follows P Q
        → Follows (λ (x : A) ws. P x (w ∷ ws)) (λ (y : B) ws. Q y (w ∷ ws))
    past P Q w h =
        record { good = λ x ws p. h.good x (w ∷ ws) p; follows = λ x ws p. h.follows x (w ∷ ws) p }

    lives_chain : (P : Sense A) (Q : Sense B) (t : Tree A) → Follows P Q → Lives MayFirst P t → Lives May Q (chain t f)
    lives_chain P Q t k h =
        let next = (k.good h.value h.words h.is).lives in
        record {
          words = h.words ++ next.words;
          plain = all_both IsPlain h.words next.words h.plain next.plain;
          value = next.value;
          is = next.is;
          reads = λ line at rest may e.
              let a = h.reads line at (next.words ++ rest) (k.follows h.value h.words h.is rest may)
              (e ∙ append_assoc h.words next.words rest) in
              let b = next.reads line a.0 rest may a.2 in (
                b.0,
                run_chain t f line at
                    ∙ ap (λ (r : Result (A × ℕ) Flaw). r >>= (λ (x : A × ℕ). run (f x.0) line x.1)) a.1 ∙ b.1,
                b.2,
              );
        }

    sound_chain : (t : Tree A) (P : Sense A) (Q : Sense B)
        (c : Seen) → Follows P Q → IsSound MayFirst P false c t → IsSound May Q false c (chain t f)
    sound_chain (Done x) P Q c k h = (k.good x [] h).sound c
    sound_chain (Fail kind) P Q c k h = h
    sound_chain (Look u) P Q c k h = λ o. sound_chain (u o) P Q (Some o) k (h o)
    sound_chain (Skip t) P Q None k h = h
    sound_chain (Skip t) P Q (Some None) k h = h
    sound_chain (Skip t) P Q (Some (Some w)) k h =
        let next = past P Q w k in (
          lives_chain (λ (x : A) ws. P x (w ∷ ws)) (λ (y : B) ws. Q y (w ∷ ws)) t next h.0,
          sound_chain t (λ (x : A) ws. P x (w ∷ ws)) (λ (y : B) ws. Q y (w ∷ ws)) None next h.1,
        )

    pub good_chain : (P : Sense A) (Q : Sense B) (t : Tree A) → IsGood MayFirst P t
        → Follows P Q → IsGood May Q (chain t f)
    good_chain P Q t h k =
        record { lives = lives_chain P Q t k h.lives; sound = λ c. sound_chain t P Q c k (h.sound c) }

-- the word that was looked at is the one at a place
abbrev pub Matches : Seen → Option (List ℕ × ℕ) → Type 0
Matches None o = Unit {0}
Matches (Some v) o = v ≡ word_in o

-- the place of a line's first word, or one after a word
abbrev pub IsAt : Bool → List ℕ → ℕ → Type 0
IsAt true line at = at ≡ 0
IsAt false line at = IsBehindWord line at

pub found_is : (line : List ℕ) (at : ℕ) (w : List ℕ × ℕ) → word_at line at ≡ Some w → IsWordAt line at w
found_is line at w h = elim (cases_lt (length line) at) [
  | inl past ↦ let none = none_past line at past in absurd cc
  | inr within ↦
      let found = finds_word line at within in
      subst (IsWordAt line at) (same_Some found.w w (sym found.found ∙ h)) found.is
]

starts : (first : Bool) (line front : List ℕ) (at : ℕ) → IsAt first line at → length front ≡ at → Starts first front
starts true line front at h size = no_bytes front (size ∙ h)
starts false line front at (inl past) size = λ none. let e = ap length none in absurd (omega arith)
starts false line front at (inr spot) size = λ none.
    let e = ap length none in let is = spot.at_is in absurd (omega arith)

is_place : (first : Bool) (line : List ℕ) (at : ℕ) → IsAt first line at → IsPlace line at
is_place true line at h = inl h
is_place false line at h = inr h

fault_seen : (line : List ℕ) (at : ℕ) (kind : FaultKind) (first : Bool) (c : Seen)
    (o : Option (List ℕ × ℕ)) → word_at line at ≡ o → IsWrong first c kind → Matches c o → IsAt first line at
    → IsFaultAt line (flaw (place_in line at o) kind)
fault_seen line at kind first None o e wrong same spot = absurd wrong
fault_seen line at kind first (Some None) None e wrong same spot = fault_at_end line kind (wrong line)
fault_seen line at kind first (Some None) (Some w) e wrong same spot = absurd cc
fault_seen line at kind first (Some (Some v)) None e wrong same spot = absurd cc
fault_seen line at kind first (Some (Some v)) (Some w) e wrong same spot =
    fault_at_word line at w (flaw at kind) (is_place first line at spot) (found_is line at w e) refl
    (λ front size. subst (IsWrongWord kind front) (same_Some v w.0 same) (wrong front (starts first line front at spot
    size)))

-- the words from a fault on: those from its place on, or none if a word is missing
abbrev pub IsTail : List ℕ → Flaw → Rest
IsTail line f tail = ((place : ℕ) × ((tail ≡ words_from line place) × ((place ≤ length line) × (f.column ≡ place + 1))))
    ⊎ ((tail ≡ []) × (f.column ≡ length line + 1))

-- no byte of a word ends it or its line
pub record IsClean (word : List ℕ) : Type 0 where
  pub line : HasNoNewlines word
  pub plain : HasNoSpace word

-- the word that was looked at, in the line
seen : (F : List ℕ → Type 0) (c : Seen) (o : Option (List ℕ × ℕ)) → OfWord c F → Matches c o
    → (w : List ℕ × ℕ) × (o ≡ Some w) × F w.0
seen F None o h same = absurd h
seen F (Some None) o h same = absurd h
seen F (Some (Some v)) None h same = absurd cc
seen F (Some (Some v)) (Some w) h same = (w, refl, subst F (same_Some v w.0 same) h)

-- what is read is a value of the words that were passed
pub record IsReadBy {A : Type 0} (P : Sense A) (line : List ℕ) (at after : ℕ) (x : A) : Type 0 where
  pub words : Words
  pub is : P x words
  pub spelled : words_from line at ≡ words ++ words_from line after

not_ok : {A : Type 0} (f : Flaw) (x : A × ℕ) → ◌≡◌ {A = Result (A × ℕ) Flaw} (Err f) (Ok x) → ⊥
not_ok f x h = absurd cc

pub run_ok : {A : Type 0} (May : Rest) (P : Sense A) (line : List ℕ) (v : A × ℕ) (t : Tree A) (first : Bool) (c : Seen)
    (at : ℕ) → IsSound May P first c t → Matches c (word_at line at) → run t line at ≡ Ok v → IsReadBy P line at v.1 v.0
run_ok {A} May P line v (Done x) first c at sound same h =
    subst (λ (u : A × ℕ). IsReadBy P line at u.1 u.0) (same_result (x, at) v h)
    (record { words = []; is = sound; spelled = refl })
run_ok May P line v (Fail kind) first c at sound same h =
    absurd (not_ok (flaw (place_in line at (word_at line at)) kind) v h)
run_ok May P line v (Look u) first c at sound same h =
    let o = word_in (word_at line at) in run_ok May P line v (u o) first (Some o) at (sound o) refl h
run_ok {A} May P line v (Skip t) first c at sound same h =
    let w = seen _ c (word_at line at) sound same in
    let told : run t line w.0.1 ≡ Ok v = rw w.1 at h in
    let b = run_ok May (λ (x : A) ws. P x (w.0.0 ∷ ws)) line v t false None w.0.1 w.2.1 tt told in
    record {
      words = w.0.0 ∷ b.words;
      is = b.is;
      spelled = word_is line at w.0 w.1 ∙ ap (λ (x : Words). w.0.0 ∷ x) b.spelled;
    }

-- a fault is at the word at a place
abbrev pub IsHere : List ℕ → Flaw → ℕ → Type 0
IsHere line f at = ((at ≤ length line) × (f.column ≡ at + 1)) ⊎ ((words_from line at ≡ []) ×
    (f.column ≡ length line + 1))

tail_here : (line : List ℕ) (f : Flaw) (at : ℕ) → IsHere line f at → IsTail line f (words_from line at)
tail_here line f at (inl h) = inl (at, (refl, h))
tail_here line f at (inr h) = inr h

here : (line : List ℕ) (f : Flaw) (kind : FaultKind) (at : ℕ) (o : Option (List ℕ × ℕ)) → word_at line at ≡ o
    → flaw (place_in line at o) kind ≡ f → IsHere line f at
here line f kind at None e is = inr (no_word_is line at e, ap (λ (x : Flaw). x.column) (sym is))
here line f kind at (Some w) e is =
    inl (word_inside line at w (found_is line at w e), ap (λ (x : Flaw). x.column) (sym is))

module _ {A : Type 0} (May : Rest) (line : List ℕ) (f : Flaw) where
  no_fault : (x : A × ℕ) → ◌≡◌ {A = Result (A × ℕ) Flaw} (Ok x) (Err f) → ⊥
  no_fault x h = absurd cc

  same_fault : (g : Flaw) → ◌≡◌ {A = Result (A × ℕ) Flaw} (Err g) (Err f) → g ≡ f
  same_fault g h = cc

  -- a fault is at a word, with that kind's condition
  pub run_wrong : (P : Sense A) (t : Tree A) (first : Bool) (c : Seen) (at : ℕ) → IsSound May P first c t
      → Matches c (word_at line at) → IsAt first line at → run t line at ≡ Err f → IsFaultAt line f
  run_wrong P (Done x) first c at sound same spot h = absurd (no_fault (x, at) h)
  run_wrong P (Fail kind) first c at sound same spot h =
      subst (IsFaultAt line) (same_fault (flaw (place_in line at (word_at line at)) kind) h)
      (fault_seen line at kind first c (word_at line at) refl sound same spot)
  run_wrong P (Look u) first c at sound same spot h =
      let o = word_in (word_at line at) in run_wrong P (u o) first (Some o) at (sound o) refl spot h
  run_wrong P (Skip t) first c at sound same spot h =
      let w = seen _ c (word_at line at) sound same in
      run_wrong (λ (x : A) ws. P x (w.0.0 ∷ ws)) t false None (behind_in at (word_at line at)) w.2.1 tt
      (rw w.1 (behind_word line at w.0 (found_is line at w.0 w.1))) h

  -- the words before a fault, of which there are some, and words that are read in place of those from there on
  pub record Mends (t : Tree A) (at : ℕ) : Type 0 where
    pub word : List ℕ
    pub firsts : Words
    pub tail : Words
    pub lasts : Words
    pub clean : AllByRecursion IsClean (word ∷ firsts)
    pub plain : AllByRecursion IsPlain lasts
    pub words : words_from line at ≡ word ∷ (firsts ++ tail)
    pub place : IsTail line f tail
    pub value : A
    pub reads : (other : List ℕ) (at : ℕ) (rest : Words) → May rest
        → words_from other at ≡ word ∷ (firsts ++ (lasts ++ rest)) → Reads other (run t other at) value rest

  look_mends : (u : Option (List ℕ) → Tree A) (at : ℕ) → Mends (u (word_in (word_at line at))) at → Mends (Look u) at
  look_mends u at m = record {
    word = m.word;
    firsts = m.firsts;
    tail = m.tail;
    lasts = m.lasts;
    clean = m.clean;
    plain = m.plain;
    words = m.words;
    place = m.place;
    value = m.value;
    reads = λ other place rest may e.
        let here = found_word line at m.word (m.firsts ++ m.tail) m.words in
        let there = found_word other place m.word (m.firsts ++ (m.lasts ++ rest)) e in
        let same : word_in (word_at line at) ≡ word_in (word_at other place) = rw (here.1, there.1) refl in
        subst (λ (o : Option (List ℕ)). Reads other (run (u o) other place) m.value rest) same
        (m.reads other place rest may e);
  }

  module _ (own : HasNoNewlines line) (t : Tree A) (at : ℕ) (w : List ℕ × ℕ) (found : word_at line at ≡ Some w) where
    clean_word : IsClean w.0
    clean_word =
        let is = found_is line at w found in
        let back = all_back (λ b. b ≢ 10) is.front (w.0 ++ is.back) (subst HasNoNewlines is.line_is own) in
        record { line = all_front (λ b. b ≢ 10) w.0 is.back back; plain = is.plain }

    -- a tree that is read from the place after a word
    behind : (value : A) (ws rest : Words) (other : List ℕ) (place : ℕ)
        → ((after : ℕ) → words_from other after ≡ ws → Reads other (run t other after) value rest)
        → words_from other place ≡ w.0 ∷ ws → Reads other (run (Skip t) other place) value rest
    behind value ws rest other place h e =
        let there = found_word other place w.0 ws e in
        rw there.1 (h there.0 there.2)

    skip_here : (P : Sense A) → Lives May P t → IsHere line f w.1 → Mends (Skip t) at
    skip_here P lives h = record {
      word = w.0;
      firsts = [];
      tail = words_from line w.1;
      lasts = lives.words;
      clean = (clean_word, tt);
      plain = lives.plain;
      words = word_is line at w found;
      place = tail_here line f w.1 h;
      value = lives.value;
      reads = λ other place rest may e. behind lives.value (lives.words ++ rest) rest other place
          (λ after. lives.reads other after rest may) e;
    }

    skip_later : Mends t w.1 → Mends (Skip t) at
    skip_later m = record {
      word = w.0;
      firsts = m.word ∷ m.firsts;
      tail = m.tail;
      lasts = m.lasts;
      clean = (clean_word, m.clean);
      plain = m.plain;
      words = word_is line at w found ∙ ap (λ (x : Words). w.0 ∷ x) m.words;
      place = m.place;
      value = m.value;
      reads = λ other place rest may e. behind m.value (m.word ∷ (m.firsts ++ (m.lasts ++ rest))) rest other place
          (λ after. m.reads other after rest may) e;
    }

  pub run_mends : HasNoNewlines line → (P : Sense A) (t : Tree A) (first : Bool) (c : Seen) (at : ℕ)
      → IsSound May P first c t → Matches c (word_at line at) → run t line at ≡ Err f → IsHere line f at ⊎ Mends t at
  run_mends own P (Done x) first c at sound same h = absurd (no_fault (x, at) h)
  run_mends own P (Fail kind) first c at sound same h =
      inl (here line f kind at (word_at line at) refl (same_fault (flaw (place_in line at (word_at line at)) kind) h))
  run_mends own P (Look u) first c at sound same h =
      let o = word_in (word_at line at) in
      elim (run_mends own P (u o) first (Some o) at (sound o) refl h) [
        | inl e ↦ inl e
        | inr m ↦ inr (look_mends u at m)
      ]
  run_mends own P (Skip t) first c at sound same h =
      let w = seen _ c (word_at line at) sound same in
      let told : run t line w.0.1 ≡ Err f = rw w.1 at h in
      elim (run_mends own (λ (x : A) ws. P x (w.0.0 ∷ ws)) t false None w.0.1 w.2.1 tt told) [
        | inl e ↦ inr (skip_here own t at w.0 w.1 _ w.2.0 e)
        | inr m ↦ inr (skip_later own t at w.0 w.1 m)
      ]

-- ---- to the end of the line

-- no word is left
abbrev pub IsEnd : Seen → Type 0
IsEnd None = ⊥
IsEnd (Some None) = Unit {0}
IsEnd (Some (Some w)) = ⊥

-- a tree is done only where it saw that no word is left
abbrev pub EndsAt : {A : Type 0} → Seen → Tree A → Type 0
EndsAt c (Done x) = IsEnd c
EndsAt c (Fail kind) = Unit {0}
EndsAt c (Look f) = (o : Option (List ℕ)) → EndsAt (Some o) (f o)
EndsAt c (Skip t) = EndsAt None t

pub ends_chain : {A B : Type 0} (t : Tree A) (f : A → Tree B) (c : Seen)
    → ((x : A) (c : Seen) → EndsAt c (f x)) → EndsAt c (chain t f)
ends_chain (Done x) f c h = h x c
ends_chain (Fail kind) f c h = tt
ends_chain (Look u) f c h = λ o. ends_chain (u o) f (Some o) h
ends_chain (Skip t) f c h = ends_chain t f None h

pub ends_map : {A B : Type 0} (t : Tree A) (make : A → B) (c : Seen) → EndsAt c t
    → EndsAt c (chain t (λ x. Done (make x)))
ends_map (Done x) make c h = h
ends_map (Fail kind) make c h = tt
ends_map (Look u) make c h = λ o. ends_map (u o) make (Some o) (h o)
ends_map (Skip t) make c h = ends_map t make None h

none_left : {A : Type 0} (line : List ℕ) (x : A) (v : A × ℕ) (at : ℕ) (c : Seen)
    (o : Option (List ℕ × ℕ)) → word_at line at ≡ o → IsEnd c → Matches c o
    → ◌≡◌ {A = Result (A × ℕ) Flaw} (Ok (x, at)) (Ok v) → words_from line v.1 ≡ []
none_left line x v at None o e end same h = absurd end
none_left line x v at (Some (Some w)) o e end same h = absurd end
none_left line x v at (Some None) (Some w) e end same h = absurd cc
none_left {A} line x v at (Some None) None e end same h =
    subst (λ (u : A × ℕ). words_from line u.1 ≡ []) (same_result (x, at) v h) (no_word_is line at e)

pub run_end : {A : Type 0} (line : List ℕ) (v : A × ℕ) (t : Tree A) (c : Seen) (at : ℕ)
    → EndsAt c t → Matches c (word_at line at) → run t line at ≡ Ok v → words_from line v.1 ≡ []
run_end line v (Done x) c at end same h = none_left line x v at c (word_at line at) refl end same h
run_end line v (Fail kind) c at end same h = absurd (not_ok (flaw (place_in line at (word_at line at)) kind) v h)
run_end line v (Look u) c at end same h =
    let o = word_in (word_at line at) in run_end line v (u o) (Some o) at (end o) refl h
run_end line v (Skip t) c at end same h = run_end line v t None (behind_in at (word_at line at)) end tt h

-- The heap line and the layout lines: what is read is spelled so, and what is spelled so is read.
use Rattle.parser.proofs.Names.{List, None, Option, Some, [], ap, append-nil, arith, cond, false, inl, inr, lit<}
use Rattle.parser.proofs.Names.{refl, subst, sym, true, ℕ, ◌++◌, ◌<◌, ◌^◌, ◌∙◌, ◌∷◌, ◌≡◌, ◌≤◌, not-false}
use Rattle.parser.proofs.Names.{bytes_eq-Decides, decimal, Err, Ok, Result, codes, not, bytes_eq, page_size_range}
use Rattle.parser.proofs.Names.{is_page_size, config_of, heap_in, memory_at, page_size_at, sizes_at, SpellsLimit}
use Rattle.parser.proofs.Names.{size_words, flaw, ◌>>=◌, fixed_at, number_at, word_at, Flaw, Sizes}
use Rattle.std.proofs.Common.{lit≤}
use Rattle.model.specs.declared.limits.TheConstants.{MOST_PAGES}
use Rattle.parser.specs.declared.limits.TheConstants.{MOST_FRAMES, MOST_THREADS}
use Rattle.parser.specs.Headings.{field_at, limit_in, limit_at, sizes_of, actors_at, limits_at}
use Rattle.parser.proofs.Numbers.{IsPlain, number_plain}
use Rattle.parser.proofs.WordPlaces.{words_from, found_word, past_end, Reads, fixed_again, number_again, end_again}
use Rattle.parser.proofs.WordPlaces.{none_past}
use Rattle.parser.proofs.Trees.{EndsAt, Tree, Done, Fail, Look, Skip, word_in, behind_in, run, chain, chained}
use Rattle.parser.proofs.Trees.{IsSound, IsGood, good_chain, Words, Sense, Rest}
use Rattle.parser.proofs.WordTrees.{run_pick, sound_pick, Any, IsLast, bind_assoc, fail_run, past_run, past_sound}
use Rattle.parser.proofs.WordTrees.{weaker, good_map, fixed_tree, fixed_run, fixed_good, IsText, number_or}
use Rattle.parser.proofs.WordTrees.{number_tree, number_or_run, number_run, number_or_sound, number_good, IsNumberOf}
use Rattle.parser.proofs.WordTrees.{values, whole_tree, whole_run, whole_good, whole_ends, narrower}
use Rattle.parser.specs.declared.fault.FaultKind.TheVariants as kinds

-- ---- a number after its name

-- a number from low to high
abbrev pub IsWithin : ℕ → ℕ → ℕ → Type 0
IsWithin low high n = (low ≤ n) × (n ≤ high)

-- a number from low to high is spelled after its name
pub record IsField (name : List ℕ) (low high n : ℕ) (ws : Words) : Type 0 where
  pub words_are : ws ≡ name ∷ decimal n ∷ []
  pub within : IsWithin low high n

abbrev pub field_tree : List ℕ → ℕ → ℕ → Tree ℕ
field_tree name low high = chain (fixed_tree name) (λ u. number_tree low high)

fixed_then : {A : Type 0} (t : Tree A) (line : List ℕ) (at : ℕ) (name : List ℕ) (g : ℕ → Result (A × ℕ) Flaw)
    → ((after : ℕ) → run t line after ≡ g after)
    → run (chain (fixed_tree name) (λ u. t)) line at ≡ (fixed_at line at name kinds.UnknownWord >>= g)
fixed_then {A} t line at name g h =
    chained (fixed_tree name) (λ u. t) line at _ (λ (x : Unit {0} × ℕ). g x.1) (fixed_run line at name) (λ x. h x.1)
    ∙ bind_assoc (fixed_at line at name kinds.UnknownWord) _ _

field_run : (line : List ℕ) (name : List ℕ) (low high : ℕ) (at : ℕ)
    → run (field_tree name low high) line at ≡ field_at line at name low high
unfolding field_at
field_run line name low high at = fixed_then (number_tree low high) line at name _
    (λ after. number_run line after low high)

field_again : (line : List ℕ) (at : ℕ) (name : List ℕ) (low high n : ℕ) (rest : Words) → high < 2 ^ 64
    → IsWithin low high n → words_from line at ≡ name ∷ decimal n ∷ rest
    → Reads line (field_at line at name low high) n rest
unfolding field_at
field_again line at name low high n rest fits within h =
    let below = within.1 in
    let a = fixed_again line at name kinds.UnknownWord (decimal n ∷ rest) h in
    let b = number_again line a.0 low high n rest (omega arith) within.0 below a.2 in
    (b.0, rw (a.1, b.1) refl, b.2)

-- what is good after a name
after_good : {A : Type 0} (name : List ℕ) (t : Tree A) (P Q : Sense A) → IsPlain name
    → ((x : A) (ws : Words) → P x ws → Q x (name ∷ ws)) → IsGood Any P t
    → IsGood Any Q (chain (fixed_tree name) (λ u. t))
after_good {A} name t P Q plain h g =
    good_chain Any Any (λ (u : Unit {0}). t) (IsText name) Q (fixed_tree name) (fixed_good name plain) (record {
      good = λ u ws is. weaker Any P (λ (x : A) vs. Q x (ws ++ vs)) t
          (λ x vs p. subst (λ (us : Words). Q x (us ++ vs)) (sym is) (h x vs p)) g;
      follows = λ u ws is rest may. tt;
    })

field_good : (name : List ℕ) (low high : ℕ) → IsPlain name → low ≤ high → high < 2 ^ 64
    → IsGood Any (IsField name low high) (field_tree name low high)
field_good name low high plain some fits =
    after_good name (number_tree low high) (IsNumberOf low high) (IsField name low high) plain (λ n ws is.
    record { words_are = ap (λ (x : Words). name ∷ x) is.words_are; within = (is.above, is.below) })
    (number_good low high some fits)

-- ---- the words of a page

-- a page size is spelled
pub record IsSize (n : ℕ) (ws : Words) : Type 0 where
  pub words_are : ws ≡ decimal n ∷ []
  pub size : is_page_size n ≡ true

-- a page size is spelled after its name
pub record IsPageSize (n : ℕ) (ws : Words) : Type 0 where
  pub words_are : ws ≡ codes "words" ∷ decimal n ∷ []
  pub size : is_page_size n ≡ true

abbrev sized : ℕ → Tree ℕ
sized n = cond (not (is_page_size n)) (Fail kinds.NumberOutOfRange) (Skip (Done n))

abbrev size_tree : Tree ℕ
size_tree = number_or 16 32768 sized

sized_run : (line : List ℕ) (at n : ℕ) (w : List ℕ × ℕ) → word_at line at ≡ Some w → run (sized n) line at
    ≡ cond (not (is_page_size n)) (Err (flaw at kinds.NumberOutOfRange)) (Ok (n, w.1))
sized_run line at n w e = run_pick line at (not (is_page_size n)) (Fail kinds.NumberOutOfRange) (Skip (Done n)) _ _
    (fail_run {A = ℕ} line at kinds.NumberOutOfRange w e) (past_run line at n w e)

abbrev page_size_tree : Tree ℕ
page_size_tree = chain (fixed_tree (codes "words")) (λ u. size_tree)

page_size_run : (line : List ℕ) (at : ℕ) → run page_size_tree line at ≡ page_size_at line at
unfolding page_size_at
page_size_run line at = fixed_then size_tree line at (codes "words") _
    (λ after. number_or_run line after 16 32768 sized _ (sized_run line after))

page_size_again : (line : List ℕ) (at n : ℕ) (rest : Words) → is_page_size n ≡ true
    → words_from line at ≡ codes "words" ∷ decimal n ∷ rest → Reads line (page_size_at line at) n rest
unfolding page_size_at
page_size_again line at n rest size h =
    let range = page_size_range n size in
    let a = fixed_again line at (codes "words") kinds.UnknownWord (decimal n ∷ rest) h in
    let b = number_again line a.0 16 32768 n rest (omega (arith, range.1)) range.0 range.1 a.2 in
    (b.0, rw (a.1, b.1, size) refl, b.2)

size_good : IsGood Any IsSize size_tree
size_good = record {
  lives = record {
    words = decimal 16 ∷ [];
    plain = (number_plain 16 (lit< tt), tt);
    value = 16;
    is = record { words_are = refl; size = refl };
    reads = λ line at rest may e.
        let a = number_again line at 16 32768 16 rest (lit< tt) (lit≤ tt) (lit≤ tt) e in (
          a.0,
          number_or_run line at 16 32768 sized (λ (x : ℕ × ℕ). cond (not (is_page_size x.0))
              (Err (flaw at kinds.NumberOutOfRange)) (Ok x)) (sized_run line at) ∙ rw a.1 refl,
          a.2,
        );
  };
  sound = λ c. number_or_sound Any IsSize false c 16 32768 sized (lit< tt) (λ n w number is.
      sound_pick Any IsSize false (Some (Some w)) (not (is_page_size n)) (Fail kinds.NumberOutOfRange) (Skip (Done n))
      (λ e front start. inl number) (λ e. past_sound Any IsSize false w n
      (record { words_are = is.words_are; size = not-false (is_page_size n) e })));
}

page_size_good : IsGood Any IsPageSize page_size_tree
page_size_good = after_good (codes "words") size_tree IsSize IsPageSize refl (λ n ws is.
    record { words_are = ap (λ (x : Words). codes "words" ∷ x) is.words_are; size = is.size }) size_good

-- ---- limits

-- a limit is spelled after its name, or omitted
pub record IsLimit (name : List ℕ) (most n : ℕ) (ws : Words) : Type 0 where
  pub is : SpellsLimit name most n ws
  pub within : IsWithin 1 most n

abbrev limit_or : List ℕ → ℕ → Option (List ℕ) → Tree ℕ
limit_or name most None = Done most
limit_or name most (Some w) = cond (bytes_eq w name) (Skip (number_tree 1 most)) (Done most)

abbrev pub limit_tree : List ℕ → ℕ → Tree ℕ
limit_tree name most = Look (limit_or name most)

limit_run : (line : List ℕ) (name : List ℕ) (most at : ℕ)
    → run (limit_tree name most) line at ≡ limit_at line at name most
unfolding limit_at
limit_run line name most at = by_word (word_at line at) refl
  where
    by_word : (o : Option (List ℕ × ℕ)) → word_at line at ≡ o
        → run (limit_or name most (word_in o)) line at ≡ limit_in line at name most o
    by_word None e = refl
    by_word (Some w) e = run_pick line at (bytes_eq w.0 name) (Skip (number_tree 1 most)) (Done most) _ _
        (ap (λ (o : Option (List ℕ × ℕ)). run (number_tree 1 most) line (behind_in at o)) e
        ∙ number_run line w.1 1 most) refl

-- the words don't begin with this name
abbrev IsNotHeaded : List ℕ → Rest
IsNotHeaded name [] = Unit {0}
IsNotHeaded name (w ∷ ws) = bytes_eq w name ≡ false

limit_absent : (line : List ℕ) (at : ℕ) (name : List ℕ) (most : ℕ) (rest : Words) → IsNotHeaded name rest
    → words_from line at ≡ rest → limit_at line at name most ≡ Ok (most, at)
unfolding limit_at
limit_absent line at name most [] other h = rw (none_past line at (past_end line at h)) refl
limit_absent line at name most (w ∷ ws) other h = let found = found_word line at w ws h in rw (found.1, other) refl

limit_named : (line : List ℕ) (at : ℕ) (name : List ℕ) (most after : ℕ) → word_at line at ≡ Some (name, after)
    → limit_at line at name most ≡ number_at line after 1 most
unfolding limit_at
limit_named line at name most after found =
    let same : bytes_eq name name ≡ true = (bytes_eq-Decides name name).1 refl in rw (found, same) refl

limit_again : (line : List ℕ) (at : ℕ) (name : List ℕ) (most n : ℕ) (ws rest : Words) → most < 2 ^ 64
    → SpellsLimit name most n ws → IsWithin 1 most n → IsNotHeaded name rest → words_from line at ≡ ws ++ rest
    → Reads line (limit_at line at name most) n rest
limit_again line at name most n ws rest fits (inl e) within other h =
    let below = within.1 in
    let found = found_word line at name (decimal n ∷ rest) (h ∙ ap (λ (t : Words). t ++ rest) e) in
    let read = number_again line found.0 1 most n rest (omega arith) within.0 below found.2 in
    (read.0, limit_named line at name most found.0 found.1 ∙ read.1, read.2)
limit_again line at name most n ws rest fits (inr e) within other h =
    let same : words_from line at ≡ rest = h ∙ ap (λ (t : Words). t ++ rest) e.0 in
    (at, limit_absent line at name most rest other same ∙ ap (λ (t : ℕ). Ok (t, at)) (sym e.1), same)

limit_good : (name : List ℕ) (most : ℕ) → IsPlain name → 1 ≤ most → most < 2 ^ 64
    → IsGood Any (IsLimit name most) (limit_tree name most)
limit_good name most plain low fits = record {
  lives = record {
    words = name ∷ decimal 1 ∷ [];
    plain = (plain, (number_plain 1 (lit< tt), tt));
    value = 1;
    is = record { is = inl refl; within = (omega arith, low) };
    reads = λ line at rest may e.
        let found = found_word line at name (decimal 1 ∷ rest) e in
        let read = number_again line found.0 1 most 1 rest (lit< tt) (omega arith) low found.2 in (
          read.0,
          limit_run line name most at ∙ limit_named line at name most found.0 found.1 ∙ read.1,
          read.2,
        );
  };
  sound = λ c o. by_word o;
}
  where
    omitted : IsLimit name most most []
    omitted = record { is = inr (refl, refl); within = (low, omega arith) }

    named : (w : List ℕ) → bytes_eq w name ≡ true
        → IsGood Any (λ (n : ℕ) ws. IsLimit name most n (w ∷ ws)) (number_tree 1 most)
    named w e = weaker Any (IsNumberOf 1 most) (λ (n : ℕ) ws. IsLimit name most n (w ∷ ws)) (number_tree 1 most)
        (λ n ws is. record {
          is = inl (rw ((bytes_eq-Decides w name).0 e, is.words_are) refl);
          within = (
            is.above,
            is.below,
          );
        }) (number_good 1 most low fits)

    by_word : (o : Option (List ℕ)) → IsSound Any (IsLimit name most) false (Some o) (limit_or name most o)
    by_word None = omitted
    by_word (Some w) = sound_pick Any (IsLimit name most) false (Some (Some w)) (bytes_eq w name)
        (Skip (number_tree 1 most)) (Done most) (λ e. let g = named w e in (g.lives, g.sound None)) (λ e. omitted)

-- ---- the heap line

-- the numbers of a heap line are in their ranges
pub record IsSizes (s : Sizes) : Type 0 where
  pub words : is_page_size s.words ≡ true
  pub frames : IsWithin 1 MOST_FRAMES s.frames
  pub pages : IsWithin s.frames MOST_PAGES s.pages
  pub threads : IsWithin 1 MOST_THREADS s.threads
  pub workers : IsWithin 1 16 s.workers
  pub registers : IsWithin 1 16 s.registers
  pub globals : IsWithin 0 64 s.globals
  pub births : IsWithin 1 (2 ^ 32) s.births
  pub history : IsWithin 1 1000000 s.history

-- words spell sizes
pub record SpellsSizes (s : Sizes) (ws : Words) : Type 0 where
  pub births : Words
  pub history : Words
  pub births_spelled : SpellsLimit (codes "births") (2 ^ 32) s.births births
  pub history_spelled : SpellsLimit (codes "history") 1000000 s.history history
  pub words_are : ws ≡ size_words (config_of s []) ++ births ++ history
  pub range : IsSizes s

abbrev Numbers : Type 0
Numbers = ℕ × ℕ × ℕ

-- three readers one after another, of which the third depends on the second
abbrev three : {A B C D : Type 0} → Tree A → Tree B → (B → Tree C) → (A → B → C → D) → Tree D
three r s t make = chain r (λ a. chain s (λ b. chain (t b) (λ c. Done (make a b c))))

three_run : {A B C D : Type 0} (r : Tree A) (s : Tree B) (t : B → Tree C) (make : A → B → C → D) (line : List ℕ)
    (at : ℕ) (x : Result (A × ℕ) Flaw) (y : ℕ → Result (B × ℕ) Flaw) (z : B → ℕ → Result (C × ℕ) Flaw)
    → run r line at ≡ x → ((at : ℕ) → run s line at ≡ y at) → ((b : B) (at : ℕ) → run (t b) line at ≡ z b at)
    → run (three r s t make) line at ≡ (x >>= (λ a. y a.1 >>= (λ b. z b.0 b.1 >>= (λ c. Ok (make a.0 b.0 c.0, c.1)))))
three_run r s t make line at x y z p q o =
    chained r _ line at x _ p (λ a. chained s _ line a.1 (y a.1) _ (q a.1) (λ b.
    chained (t b.0) _ line b.1 (z b.0 b.1) _ (o b.0 b.1) (λ c. refl)))

three_good : {A B C D : Type 0} (r : Tree A) (s : Tree B) (t : B → Tree C) (make : A → B → C → D) (R : Sense A)
    (S : Sense B) (T : B → Sense C) (Q : Sense D) → IsGood Any R r → IsGood Any S s
    → ((b : B) (ws : Words) → S b ws → IsGood Any (T b) (t b))
    → ((a : A) (b : B) (c : C) (u v w : Words) → R a u → S b v → T b c w → Q (make a b c) (u ++ (v ++ w)))
    → IsGood Any Q (three r s t make)
three_good {A} {B} {C} {D} r s t make R S T Q p q o h = good_chain Any Any _ R Q r p (record {
  good = λ a u is. good_chain Any Any (λ (b : B). chain (t b) (λ c. Done (make a b c))) S
      (λ (d : D) vs. Q d (u ++ vs)) s q (record {
        good = λ b v it. good_map Any (T b) (λ (d : D) ws. Q d (u ++ (v ++ ws))) (make a b) (t b)
            (λ c w so. h a b c u v w is it so) (o b v it);
        follows = λ b v it rest may. tt;
      });
  follows = λ a u is rest may. tt;
})

abbrev memory_tree : Tree Numbers
memory_tree = three page_size_tree (field_tree (codes "frames") 1 MOST_FRAMES)
    (λ (frames : ℕ). field_tree (codes "pages") frames MOST_PAGES) (λ (a : ℕ) (b : ℕ) (c : ℕ). (a, b, c))

abbrev actors_tree : Tree Numbers
actors_tree = three (field_tree (codes "threads") 1 MOST_THREADS) (field_tree (codes "workers") 1 16)
    (λ (workers : ℕ). field_tree (codes "registers") 1 16) (λ (a : ℕ) (b : ℕ) (c : ℕ). (a, b, c))

abbrev limits_tree : Tree Numbers
limits_tree = three (field_tree (codes "globals") 0 64) (limit_tree (codes "births") 4294967296)
    (λ (births : ℕ). limit_tree (codes "history") 1000000) (λ (a : ℕ) (b : ℕ) (c : ℕ). (a, b, c))

abbrev sizes_tree : Tree Sizes
sizes_tree = three memory_tree actors_tree (λ (actors : Numbers). limits_tree) sizes_of

abbrev pub heap_tree : Tree Sizes
heap_tree = whole_tree sizes_tree

memory_run : (line : List ℕ) (at : ℕ) → run memory_tree line at ≡ memory_at line at
unfolding memory_at
memory_run line at = three_run page_size_tree (field_tree (codes "frames") 1 MOST_FRAMES)
    (λ (frames : ℕ). field_tree (codes "pages") frames MOST_PAGES) (λ a b c. (a, b, c)) line at _ _ _
    (page_size_run line at)
    (field_run line (codes "frames") 1 MOST_FRAMES) (λ frames. field_run line (codes "pages") frames MOST_PAGES)

actors_run : (line : List ℕ) (at : ℕ) → run actors_tree line at ≡ actors_at line at
unfolding actors_at
actors_run line at = three_run (field_tree (codes "threads") 1 MOST_THREADS) (field_tree (codes "workers") 1 16)
    (λ (workers : ℕ). field_tree (codes "registers") 1 16) (λ a b c. (a, b, c)) line at _ _ _
    (field_run line (codes "threads") 1 MOST_THREADS at)
    (field_run line (codes "workers") 1 16) (λ workers. field_run line (codes "registers") 1 16)

limits_run : (line : List ℕ) (at : ℕ) → run limits_tree line at ≡ limits_at line at
unfolding limits_at
limits_run line at = three_run (field_tree (codes "globals") 0 64) (limit_tree (codes "births") 4294967296)
    (λ (births : ℕ). limit_tree (codes "history") 1000000) (λ a b c. (a, b, c)) line at _ _ _
    (field_run line (codes "globals") 0 64 at)
    (limit_run line (codes "births") 4294967296) (λ births. limit_run line (codes "history") 1000000)

pub heap_run : (line : List ℕ) (at : ℕ) → values (run heap_tree line at) ≡ heap_in line at
unfolding heap_in sizes_at
heap_run line at = whole_run sizes_tree line at _ (three_run memory_tree actors_tree
    (λ (actors : Numbers). limits_tree) sizes_of line at _ _ _ (memory_run line at)
    (actors_run line) (λ actors. limits_run line))

record IsMemory (v : Numbers) (ws : Words) : Type 0 where
  words_are : ws ≡ codes "words" ∷ decimal v.0 ∷ codes "frames" ∷ decimal v.1 ∷ codes "pages" ∷ decimal v.2 ∷ []
  size : is_page_size v.0 ≡ true
  frames : IsWithin 1 MOST_FRAMES v.1
  pages : IsWithin v.1 MOST_PAGES v.2

record AreActors (v : Numbers) (ws : Words) : Type 0 where
  words_are : ws ≡ codes "threads" ∷ decimal v.0 ∷ codes "workers" ∷ decimal v.1 ∷ codes "registers" ∷ decimal v.2 ∷ []
  threads : IsWithin 1 MOST_THREADS v.0
  workers : IsWithin 1 16 v.1
  registers : IsWithin 1 16 v.2

record AreLimits (v : Numbers) (ws : Words) : Type 0 where
  births : Words
  history : Words
  words_are : ws ≡ codes "globals" ∷ decimal v.0 ∷ (births ++ history)
  globals : IsWithin 0 64 v.0
  births_is : IsLimit (codes "births") 4294967296 v.1 births
  history_is : IsLimit (codes "history") 1000000 v.2 history

memory_good : IsGood Any IsMemory memory_tree
memory_good = three_good _ _ _ _ IsPageSize (IsField (codes "frames") 1 MOST_FRAMES)
    (λ (frames : ℕ). IsField (codes "pages") frames MOST_PAGES) IsMemory page_size_good
    (field_good (codes "frames") 1 MOST_FRAMES refl (omega arith) (lit< tt))
    (λ frames ws is. let most = is.within.1 in
    field_good (codes "pages") frames MOST_PAGES refl (omega arith) (lit< tt))
    (λ a b c u v w p q o. record {
      words_are = rw (p.words_are, q.words_are, o.words_are) refl;
      size = p.size;
      frames = q.within;
      pages = o.within;
    })

actors_good : IsGood Any AreActors actors_tree
actors_good = three_good _ _ _ _ (IsField (codes "threads") 1 MOST_THREADS) (IsField (codes "workers") 1 16)
    (λ (workers : ℕ). IsField (codes "registers") 1 16) AreActors
    (field_good (codes "threads") 1 MOST_THREADS refl (omega arith) (lit< tt))
    (field_good (codes "workers") 1 16 refl (omega arith) (lit< tt))
    (λ workers ws is. field_good (codes "registers") 1 16 refl (omega arith) (lit< tt))
    (λ a b c u v w p q o. record {
      words_are = rw (p.words_are, q.words_are, o.words_are) refl;
      threads = p.within;
      workers = q.within;
      registers = o.within;
    })

limits_good : IsGood Any AreLimits limits_tree
limits_good = three_good _ _ _ _ (IsField (codes "globals") 0 64) (IsLimit (codes "births") 4294967296)
    (λ (births : ℕ). IsLimit (codes "history") 1000000) AreLimits
    (field_good (codes "globals") 0 64 refl (omega arith) (lit< tt))
    (limit_good (codes "births") 4294967296 refl (lit≤ tt) (lit< tt))
    (λ births ws is. limit_good (codes "history") 1000000 refl (lit≤ tt) (lit< tt))
    (λ a b c u v w p q o. record {
      births = v;
      history = w;
      words_are = rw p.words_are refl;
      globals = p.within;
      births_is = q;
      history_is = o;
    })

sizes_good : IsGood Any SpellsSizes sizes_tree
sizes_good = three_good _ _ _ _ IsMemory AreActors (λ (actors : Numbers). AreLimits) SpellsSizes memory_good actors_good
    (λ actors ws is. limits_good) (λ m a l u v w p q o. record {
      births = o.births;
      history = o.history;
      births_spelled = o.births_is.is;
      history_spelled = o.history_is.is;
      words_are = rw (p.words_are, q.words_are, o.words_are) refl;
      range = record {
        words = p.size;
        frames = p.frames;
        pages = p.pages;
        threads = q.threads;
        workers = q.workers;
        registers = q.registers;
        globals = o.globals;
        births = o.births_is.within;
        history = o.history_is.within;
      };
    })

pub heap_good : IsGood IsLast SpellsSizes heap_tree
heap_good = whole_good SpellsSizes sizes_tree (narrower Any IsLast (λ rest may. tt) SpellsSizes sizes_tree sizes_good)

pub heap_ends : EndsAt None heap_tree
heap_ends = whole_ends sizes_tree None

-- the words of a history don't begin with births
not_births : (n : ℕ) (words : Words) → SpellsLimit (codes "history") 1000000 n words
    → IsNotHeaded (codes "births") words
not_births n words (inl e) = subst (IsNotHeaded (codes "births")) (sym e) refl
not_births n words (inr e) = subst (IsNotHeaded (codes "births")) (sym e.0) tt

pub heap_again : (line : List ℕ) (at : ℕ) (s : Sizes) → SpellsSizes s (words_from line at) → heap_in line at ≡ Ok s
unfolding heap_in sizes_at memory_at actors_at limits_at
heap_again line at s h =
    let r = h.range in
    let a = page_size_again line at s.words _ r.words h.words_are in
    let b = field_again line a.0 (codes "frames") 1 MOST_FRAMES s.frames _ (lit< tt) r.frames a.2 in
    let c = field_again line b.0 (codes "pages") s.frames MOST_PAGES s.pages _ (lit< tt) r.pages b.2 in
    let d = field_again line c.0 (codes "threads") 1 MOST_THREADS s.threads _ (lit< tt) r.threads c.2 in
    let e = field_again line d.0 (codes "workers") 1 16 s.workers _ (lit< tt) r.workers d.2 in
    let f = field_again line e.0 (codes "registers") 1 16 s.registers _ (lit< tt) r.registers e.2 in
    let g = field_again line f.0 (codes "globals") 0 64 s.globals _ (lit< tt) r.globals f.2 in
    let i = limit_again line g.0 (codes "births") (2 ^ 32) s.births h.births h.history (lit< tt) h.births_spelled
    r.births (not_births s.history h.history h.history_spelled) g.2 in
    let j = limit_again line i.0 (codes "history") 1000000 s.history h.history [] (lit< tt) h.history_spelled r.history
    tt (i.2 ∙ sym (append-nil h.history)) in
    let last = end_again line j.0 j.2 in
    rw (a.1, b.1, c.1, d.1, e.1, f.1, g.1, i.1, j.1, last) refl

-- Readers of operands, orders and lists of numbers as trees.
use Rattle.parser.proofs.Names.{is_number, offset_in, address_in, capped_from, not, page_in, address_at, address_word}
use Rattle.parser.proofs.Names.{cond, point_parts, ◌≤◌, Bool, List, None, Option, Some, [], ap, arith, false, inl}
use Rattle.parser.proofs.Names.{inr, length, lit<, refl, subst, suc, sym, true, zero, ℕ, ◌++◌, ◌<◌, ◌^◌, ◌∙◌, ◌∷◌}
use Rattle.parser.proofs.Names.{◌≡◌, cases_lt, decimal, Ok, Result, map, Actor, Thread, Worker, does, more_at}
use Rattle.parser.proofs.Names.{order_of, verb_in, numbers_by, operand_at, operands_at, order_at, register_at}
use Rattle.parser.proofs.Names.{AreMore, IsFor, IsOperand, IsOrder, operand_word, operand_words, order_words, row_of}
use Rattle.parser.proofs.Names.{flaw, or_flaw, ◌>>=◌, small_at, word_at, word_or, Flaw, Sizes, Order, Kind, Address}
use Rattle.parser.proofs.Names.{Long, Nothing, Number, Percent, Register, ThreadName, Verb, not-false, or_parts}
use Rattle.parser.proofs.Names.{nat_le, ◌||◌, address_number}
use Rattle.parser.proofs.WordTrees.{run_pick, word_sound, Any, IsLast, word_tree, word_run, fail_run, past_run}
use Rattle.parser.proofs.WordTrees.{done_good, past_sound, good_map, number_tree, number_run, number_good, IsNumberOf}
use Rattle.parser.proofs.WordTrees.{named_tree, named_run, named_good, bind_assoc, weaker, values, values_chain}
use Rattle.parser.proofs.WordTrees.{whole_tree, whole_run, whole_good, sound_pick}
use Rattle.parser.proofs.Lists.{all_from}
use Rattle.parser.proofs.WordPlaces.{past_end, word_again, finds_word, none_past}
use Rattle.parser.proofs.ManyNumbers.{by_past, by_first, numbers_enough, AreSmall, parts_are, page_again}
use Rattle.parser.proofs.ManyNumbers.{offset_again, address_again, address_plain}
use Rattle.parser.proofs.ActorsAndOrders.{AreFew, bounds_in, actor_verb, own_verb, text_plain}
use Rattle.parser.proofs.Trees.{Done, Tree, Fail, Look, Skip, word_in, run, chain, chained, IsSound, IsGood}
use Rattle.parser.proofs.Trees.{good_chain, bind_same, Words, Rest}
use Rattle.std.proofs.lemmas.Bool.{leb-false}
use Rattle.parser.proofs.Numbers.{number_spelled}
use Rattle.parser.specs.declared.fault.FaultKind.TheVariants as kinds
use Rattle.parser.specs.declared.verbs.Verb.TheVariants as verbs

-- ---- addresses

abbrev pub parts_in : ℕ → Option (List ℕ × List ℕ) → Tree ℕ
parts_in words None = Fail kinds.UnknownWord
parts_in words (Some parts) = cond (not (is_number parts.0) || not (is_number parts.1)) (Fail kinds.UnknownWord)
    (cond (nat_le (2 ^ 32) (capped_from 0 parts.0) || nat_le words (capped_from 0 parts.1))
    (Fail kinds.NumberOutOfRange)
    (Skip (Done (address_number (capped_from 0 parts.0) (capped_from 0 parts.1)))))

abbrev pub address_tree : ℕ → Tree ℕ
address_tree words = word_tree kinds.UnknownWord (λ w. parts_in words (point_parts w))

pub address_run : (line : List ℕ) (at words : ℕ) → run (address_tree words) line at ≡ address_at line at words
unfolding address_at
address_run line at words =
    word_run line at kinds.UnknownWord _ _ (λ w e. by_parts w e (point_parts w.0))
  where
    by_parts : (w : List ℕ × ℕ) → word_at line at ≡ Some w → (o : Option (List ℕ × List ℕ))
        → run (parts_in words o) line at
        ≡ (or_flaw o (flaw at kinds.UnknownWord) >>= (λ parts. address_in parts w.1 at words))
    by_parts w e None = fail_run {A = ℕ} line at kinds.UnknownWord w e
    by_parts w e (Some parts) =
        run_pick line at (not (is_number parts.0) || not (is_number parts.1)) (Fail kinds.UnknownWord) _ _ _
        (fail_run {A = ℕ} line at kinds.UnknownWord w e)
        (run_pick line at (nat_le (2 ^ 32) (capped_from 0 parts.0) || nat_le words (capped_from 0 parts.1))
        (Fail kinds.NumberOutOfRange) _ _ _ (fail_run {A = ℕ} line at kinds.NumberOutOfRange w e)
        (past_run line at (address_number (capped_from 0 parts.0) (capped_from 0 parts.1)) w e))

-- an address with an offset below a number of words, and its word
pub record IsAddressIn (words n : ℕ) (ws : Words) : Type 0 where
  pub words_are : ws ≡ address_word (page_in n) (offset_in n) ∷ []
  pub fits : n < 2 ^ 64
  pub within : offset_in n < words

parts_sound : (words : ℕ) (w : List ℕ) → words ≤ 2 ^ 32 → (o : Option (List ℕ × List ℕ)) → point_parts w ≡ o
    → IsSound Any (IsAddressIn words) false (Some (Some w)) (parts_in words o)
parts_sound words w few None e = λ front start. tt
parts_sound words w few (Some parts) e =
    let a = capped_from 0 parts.0 in
    let b = capped_from 0 parts.1 in
    let p = not (is_number parts.0) in
    let q = not (is_number parts.1) in
    let pick = sound_pick Any (IsAddressIn words) false (Some (Some w)) in
    pick (p || q) (Fail kinds.UnknownWord) _ (λ d front start. tt) (λ d.
    let sides = or_parts p q d in
    let page = not-false (is_number parts.0) sides.0 in
    let offset = not-false (is_number parts.1) sides.1 in
    pick (nat_le (2 ^ 32) a || nat_le words b) (Fail kinds.NumberOutOfRange) (Skip (Done (address_number a b)))
    (λ l front start. inr (parts.0, (parts.1, (parts_are w parts e, (page, offset))))) (λ l.
    let bounds = or_parts (nat_le (2 ^ 32) a) (nat_le words b) l in
    let page_below : a < 2 ^ 32 = leb-false (2 ^ 32) a bounds.0 in
    let offset_below : b < words = leb-false words b bounds.1 in
    let offset_is = offset_again a b (omega arith) in
    past_sound Any (IsAddressIn words) false w (address_number a b) (record {
      words_are = rw (
        page_again a b (omega arith),
        offset_is,
        number_spelled parts.0 page (omega arith),
        number_spelled parts.1 offset (omega arith),
      ) (ap (λ (x : List ℕ). x ∷ []) (parts_are w parts e));
      fits = omega arith;
      within = rw offset_is offset_below;
    })))

pub address_good : (words : ℕ) → 1 ≤ words → words ≤ 2 ^ 32 → IsGood Any (IsAddressIn words) (address_tree words)
address_good words some few = record {
  lives = record {
    words = address_word (page_in 0) (offset_in 0) ∷ [];
    plain = (address_plain 0 (omega arith), tt);
    value = 0;
    is = record { words_are = refl; fits = omega arith; within = some };
    reads = λ line at rest may e. let a = address_again line at words 0 rest (omega arith) some e in
        (a.0, address_run line at words ∙ a.1, a.2);
  };
  sound = λ c. word_sound Any (IsAddressIn words) false c kinds.UnknownWord _ (λ front. tt)
      (λ w. parts_sound words w few (point_parts w) refl);
}

-- ---- an operand

abbrev pub operand_tree : Sizes → Kind → Tree ℕ
operand_tree sizes Nothing = Done 0
operand_tree sizes Register = named_tree 114 sizes.registers kinds.NoSuchRegister
operand_tree sizes Number = number_tree 0 4294967295
operand_tree sizes ThreadName = named_tree 116 sizes.threads kinds.NoSuchActor
operand_tree sizes Long = number_tree 0 18446744073709551615
operand_tree sizes Address = address_tree sizes.words
operand_tree sizes Percent = number_tree 0 100

operand_run : (sizes : Sizes) (line : List ℕ) (kind : Kind) (at : ℕ)
    → run (operand_tree sizes kind) line at ≡ operand_at sizes line at kind
unfolding operand_at register_at small_at
operand_run sizes line Nothing at = refl
operand_run sizes line Register at = named_run line at 114 sizes.registers kinds.NoSuchRegister
operand_run sizes line Number at = number_run line at 0 4294967295
operand_run sizes line ThreadName at = named_run line at 116 sizes.threads kinds.NoSuchActor
operand_run sizes line Long at = number_run line at 0 18446744073709551615
operand_run sizes line Address at = address_run line at sizes.words
operand_run sizes line Percent at = number_run line at 0 100

-- an operand of a kind, and its words
pub record IsOperandOf (sizes : Sizes) (kind : Kind) (n : ℕ) (ws : Words) : Type 0 where
  pub words_are : ws ≡ operand_word kind n
  pub fits : IsOperand (bounds_in sizes) kind n

operand_good : (sizes : Sizes) → AreFew sizes → (kind : Kind)
    → IsGood Any (IsOperandOf sizes kind) (operand_tree sizes kind)
operand_good sizes few Nothing = done_good Any _ 0 (record { words_are = refl; fits = refl })
operand_good sizes few Register = weaker Any _ _ _ (λ n ws h. record { words_are = h.words_are; fits = h.below })
    (named_good 114 sizes.registers kinds.NoSuchRegister few.registers.0 (omega (arith, few.registers.1)) (lit< tt)
    (λ front digits start number. (digits, (refl, number))))
operand_good sizes few Number = weaker Any _ _ _ (λ n ws h. let below = h.below in
    record { words_are = h.words_are; fits = omega arith }) (number_good 0 4294967295 (omega arith) (lit< tt))
operand_good sizes few ThreadName = weaker Any _ _ _ (λ n ws h. record { words_are = h.words_are; fits = h.below })
    (named_good 116 sizes.threads kinds.NoSuchActor few.threads.0 (omega (arith, few.threads.1)) (lit< tt)
    (λ front digits start number. inl (digits, (refl, number))))
operand_good sizes few Long = weaker Any _ _ _ (λ n ws h. let below = h.below in
    record { words_are = h.words_are; fits = omega arith })
    (number_good 0 18446744073709551615 (omega arith) (lit< tt))
operand_good sizes few Address = weaker Any _ _ _ (λ n ws h.
    record { words_are = h.words_are; fits = (h.fits, h.within) })
    (address_good sizes.words few.words.0 (omega (arith, few.words.1)))
operand_good sizes few Percent = weaker Any _ _ _ (λ n ws h. let below = h.below in
    record { words_are = h.words_are; fits = omega arith }) (number_good 0 100 (omega arith) (lit< tt))

-- ---- numbers to the end of the line

abbrev pub some_in : Tree (List ℕ) → Option (List ℕ) → Tree (List ℕ)
some_in t None = Done []
some_in t (Some w) = t

abbrev pub numbers_tree : ℕ → Tree (List ℕ)
numbers_tree zero = Done []
numbers_tree (suc n) = Look (some_in (chain (number_tree 0 4294967295) (λ v. chain (numbers_tree n) (λ vs.
    Done (v ∷ vs)))))

small_run : (line : List ℕ) (at : ℕ) → run (number_tree 0 4294967295) line at ≡ small_at line at
unfolding small_at
small_run line at = number_run line at 0 4294967295

numbers_run : (n : ℕ) (line : List ℕ) (at : ℕ) → run (numbers_tree n) line at ≡ numbers_by n line at
unfolding numbers_by
numbers_run zero line at = refl
numbers_run (suc n) line at = elim (cases_lt (length line) at) [
  | inl past ↦
      ap (λ (o : Option (List ℕ × ℕ)). run (some_in rest (word_in o)) line at) (none_past line at past)
      ∙ sym (by_past (suc n) line at past)
  | inr within ↦
      ap (λ (o : Option (List ℕ × ℕ)). run (some_in rest (word_in o)) line at) (finds_word line at within).found
      ∙ chained (number_tree 0 4294967295) _ line at (small_at line at) _ (small_run line at)
      (λ v. chained (numbers_tree n) _ line v.1 (numbers_by n line v.1) _ (numbers_run n line v.1) (λ vs. refl))
      ∙ sym (by_first n line at within)
]
  where
    rest : Tree (List ℕ)
    rest = chain (number_tree 0 4294967295) (λ v. chain (numbers_tree n) (λ vs. Done (v ∷ vs)))

-- numbers of 32 bits, and their words
pub record AreNumbersIn (ns : List ℕ) (ws : Words) : Type 0 where
  pub words_are : ws ≡ map decimal ns
  pub small : AreSmall ns

-- a number and those after it
abbrev pub first_tree : ℕ → Tree (List ℕ)
first_tree n = chain (number_tree 0 4294967295) (λ v. chain (numbers_tree n) (λ vs. Done (v ∷ vs)))

first_good : (n : ℕ) → IsGood IsLast AreNumbersIn (numbers_tree n) → IsGood IsLast AreNumbersIn (first_tree n)
first_good n h = good_chain Any IsLast (λ v. chain (numbers_tree n) (λ vs. Done (v ∷ vs))) (IsNumberOf 0 4294967295)
    AreNumbersIn (number_tree 0 4294967295) (number_good 0 4294967295 (omega arith) (lit< tt)) (record {
      good = λ v u first. good_map IsLast AreNumbersIn (λ (ns : List ℕ) ws. AreNumbersIn ns (u ++ ws))
          (λ vs. v ∷ vs) (numbers_tree n) (λ vs ws k. let below = first.below in
          record { words_are = rw (first.words_are, k.words_are) refl; small = (omega arith, k.small) }) h;
      follows = λ v u first rest may. tt;
    })

more_numbers : (n : ℕ) → IsGood IsLast AreNumbersIn (first_tree n) → IsGood IsLast AreNumbersIn (numbers_tree (suc n))
more_numbers n h = record {
  lives = record {
    words = [];
    plain = tt;
    value = [];
    is = record { words_are = refl; small = tt };
    reads = λ line at rest may e. (
      at,
      ap (λ (o : Option (List ℕ × ℕ)). run (some_in (first_tree n) (word_in o)) line at)
          (none_past line at (past_end line at (e ∙ may))),
      e,
    );
  };
  sound = λ c o. by_word o;
}
  where
    by_word : (o : Option (List ℕ)) → IsSound IsLast AreNumbersIn false (Some o) (some_in (first_tree n) o)
    by_word None = record { words_are = refl; small = tt }
    by_word (Some w) = h.sound (Some (Some w))

numbers_good : (n : ℕ) → IsGood IsLast AreNumbersIn (numbers_tree n)
numbers_good zero = done_good IsLast AreNumbersIn [] (record { words_are = refl; small = tt })
numbers_good (suc n) = more_numbers n (first_good n (numbers_good n))

-- more numbers, if they are allowed
abbrev pub more_tree : ℕ → Bool → Tree (List ℕ)
more_tree most false = Done []
more_tree most true = numbers_tree most

more_run : (most : ℕ) (line : List ℕ) → length line < most → (some : Bool) (at : ℕ)
    → run (more_tree most some) line at ≡ more_at some line at
more_run most line enough false at = refl
more_run most line enough true at = numbers_run most line at ∙ sym (numbers_enough most line at (omega arith))

pub record AreMoreOf (some : Bool) (ns : List ℕ) (ws : Words) : Type 0 where
  pub words_are : ws ≡ map decimal ns
  pub fits : AreMore some ns

more_good : (most : ℕ) (some : Bool) → IsGood IsLast (AreMoreOf some) (more_tree most some)
more_good most false = done_good IsLast (AreMoreOf false) [] (record { words_are = refl; fits = refl })
more_good most true = weaker IsLast _ _ _
    (λ ns ws h. record { words_are = h.words_are; fits = all_from (λ n. n < 2 ^ 32) ns h.small }) (numbers_good most)

-- ---- an order

abbrev pub verb_or : Option Verb → Tree Verb
verb_or None = Fail kinds.UnknownWord
verb_or (Some verb) = Skip (Done verb)

abbrev pub verb_tree : Actor → Tree Verb
verb_tree actor = word_tree kinds.UnknownWord (λ w. verb_or (verb_in actor w))

-- a verb of the actor, and its word
pub record IsVerbOf (actor : Actor) (verb : Verb) (ws : Words) : Type 0 where
  pub words_are : ws ≡ (row_of verb).text ∷ []
  pub own : does actor verb ≡ true

verb_run : (actor : Actor) (line : List ℕ) (at : ℕ) → run (verb_tree actor) line at ≡ (word_or line at kinds.UnknownWord
    >>= (λ w. or_flaw (verb_in actor w.0) (flaw at kinds.UnknownWord) >>= (λ verb. Ok (verb, w.1))))
verb_run actor line at = word_run line at kinds.UnknownWord _ _ (λ w e. by_verb w e (verb_in actor w.0))
  where
    by_verb : (w : List ℕ × ℕ) → word_at line at ≡ Some w → (o : Option Verb)
        → run (verb_or o) line at ≡ (or_flaw o (flaw at kinds.UnknownWord) >>= (λ verb. Ok (verb, w.1)))
    by_verb w e None = fail_run {A = Verb} line at kinds.UnknownWord w e
    by_verb w e (Some verb) = past_run line at verb w e

-- a verb that the actor does
some_verb : Actor → Verb
some_verb (Thread t) = verbs.Give
some_verb (Worker w) = verbs.Mark

some_own : (actor : Actor) → does actor (some_verb actor) ≡ true
unfolding some_verb
some_own (Thread t) = refl
some_own (Worker w) = refl

verb_good : (actor : Actor) → IsGood Any (IsVerbOf actor) (verb_tree actor)
verb_good actor = record {
  lives = record {
    words = (row_of (some_verb actor)).text ∷ [];
    plain = (text_plain (some_verb actor), tt);
    value = some_verb actor;
    is = record { words_are = refl; own = some_own actor };
    reads = λ line at rest may e.
        let w = word_again line at kinds.UnknownWord (row_of (some_verb actor)).text rest e in (
          w.0,
          verb_run actor line at ∙ rw (w.1, own_verb actor (some_verb actor) (some_own actor)) refl,
          w.2,
        );
  };
  sound = λ c. word_sound Any (IsVerbOf actor) false c kinds.UnknownWord _ (λ front. tt)
      (λ w. by_verb w (verb_in actor w) refl);
}
  where
    by_verb : (w : List ℕ) (o : Option Verb) → verb_in actor w ≡ o
        → IsSound Any (IsVerbOf actor) false (Some (Some w)) (verb_or o)
    by_verb w None e = λ front start. tt
    by_verb w (Some verb) e =
        let own = actor_verb actor w verb e in
        past_sound Any (IsVerbOf actor) false w verb
        (record { words_are = ap (λ (x : List ℕ). x ∷ []) own.1; own = own.0 })

-- the operands of a verb, and their words
pub record AreOperandsOf (sizes : Sizes) (verb : Verb) (o : Order) (ws : Words) : Type 0 where
  pub verb_is : o.verb ≡ verb
  pub words_are : ws ≡ operand_words (row_of verb).kinds o
  pub fits : IsOrder (bounds_in sizes) o

-- an order of the actor, and its words
pub record IsOrderOf (sizes : Sizes) (actor : Actor) (o : Order) (ws : Words) : Type 0 where
  pub words_are : ws ≡ order_words o
  pub own : IsFor actor o
  pub fits : IsOrder (bounds_in sizes) o

module _ (sizes : Sizes) (most : ℕ) where
  abbrev pub operands_tree : Verb → Tree Order
  operands_tree verb =
      let k = (row_of verb).kinds in
      chain (operand_tree sizes k.first) (λ a. chain (operand_tree sizes k.second) (λ b.
      chain (operand_tree sizes k.third) (λ c. chain (operand_tree sizes k.wide) (λ d.
      chain (more_tree most k.more) (λ more. Done (order_of verb a b c d more))))))

  abbrev pub order_tree : Actor → Tree Order
  order_tree actor = chain (verb_tree actor) (λ verb. whole_tree (operands_tree verb))

  operands_run : (verb : Verb) (line : List ℕ) (at : ℕ) → length line < most
      → run (operands_tree verb) line at ≡ operands_at sizes line at verb
  unfolding operands_at
  operands_run verb line at enough =
      let k = (row_of verb).kinds in
      next k.first _ _ at (λ a. next k.second _ _ a.1 (λ b. next k.third _ _ b.1 (λ c. next k.wide _ _ c.1
      (λ d. chained (more_tree most k.more) _ line d.1 _ _ (more_run most line enough k.more d.1) (λ e. refl)))))
    where
      next : (kind : Kind) (f : ℕ → Tree Order) (g : ℕ × ℕ → Result (Order × ℕ) Flaw) (at : ℕ)
          → ((x : ℕ × ℕ) → run (f x.0) line x.1 ≡ g x)
          → run (chain (operand_tree sizes kind) f) line at ≡ (operand_at sizes line at kind >>= g)
      next kind f g at h = chained (operand_tree sizes kind) f line at _ g (operand_run sizes line kind at) h

  pub order_run : (actor : Actor) (line : List ℕ) (at : ℕ) → length line < most
      → values (run (order_tree actor) line at) ≡ order_at sizes line actor at
  unfolding order_at
  order_run actor line at enough =
      values_chain (verb_tree actor) (λ verb. whole_tree (operands_tree verb)) line at _ _ (verb_run actor line at)
      (λ v. whole_run (operands_tree v.0) line v.1 _ (operands_run v.0 line v.1 enough))
      ∙ bind_assoc (word_or line at kinds.UnknownWord) _ _
      ∙ bind_same (word_or line at kinds.UnknownWord) _ _ (λ w. bind_assoc (or_flaw (verb_in actor w.0) _) _ _)

  operands_good : AreFew sizes → (verb : Verb) → IsGood IsLast (AreOperandsOf sizes verb) (operands_tree verb)
  operands_good few verb =
      let k = (row_of verb).kinds in
      next k.first _ (AreOperandsOf sizes verb) (λ a u p. next k.second _ _ (λ b v q. next k.third _ _ (λ c w r.
      next k.wide _ _ (λ d x s. good_map IsLast (AreMoreOf k.more)
      (λ (o : Order) vs. AreOperandsOf sizes verb o (u ++ (v ++ (w ++ (x ++ vs)))))
      (λ more. order_of verb a b c d more) (more_tree most k.more) (λ more y m. record {
        verb_is = refl;
        words_are = rw (p.words_are, q.words_are, r.words_are, s.words_are, m.words_are) refl;
        fits = record { first = p.fits; second = q.fits; third = r.fits; wide = s.fits; more = m.fits };
      }) (more_good most k.more)))))
    where
      next : (kind : Kind) (f : ℕ → Tree Order) (Q : Order → Rest) → ((n : ℕ) (ws : Words)
          → IsOperandOf sizes kind n ws → IsGood IsLast (λ (o : Order) vs. Q o (ws ++ vs)) (f n))
          → IsGood IsLast Q (chain (operand_tree sizes kind) f)
      next kind f Q h = good_chain Any IsLast f (IsOperandOf sizes kind) Q (operand_tree sizes kind)
          (operand_good sizes few kind) (record { good = h; follows = λ n ws p rest may. tt })

  pub order_good : AreFew sizes → (actor : Actor) → IsGood IsLast (IsOrderOf sizes actor) (order_tree actor)
  order_good few actor = good_chain Any IsLast (λ verb. whole_tree (operands_tree verb)) (IsVerbOf actor)
      (IsOrderOf sizes actor) (verb_tree actor) (verb_good actor) (record {
        good = λ verb ws v. weaker IsLast _ (λ (o : Order) vs. IsOrderOf sizes actor o (ws ++ vs)) _ (λ o vs h. record {
          words_are = rw (v.words_are, h.words_are) (ap (λ (x : Verb). (row_of x).text ∷ operand_words (row_of x).kinds
              o)
              (sym h.verb_is));
          own = subst (λ (x : Verb). does actor x ≡ true) (sym h.verb_is) v.own;
          fits = h.fits;
        }) (whole_good _ (operands_tree verb) (operands_good few verb));
        follows = λ verb ws v rest may. tt;
      })

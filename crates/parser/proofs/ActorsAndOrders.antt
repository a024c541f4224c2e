-- Operands, actors and orders: what is spelled so is read.
use Rattle.parser.proofs.Names.{Bool, List, [], ap, append_assoc, arith, false, refl, sym, true, ℕ, ◌++◌, ◌<◌, ◌^◌}
use Rattle.parser.proofs.Names.{◌∙◌, ◌≡◌, ◌≤◌, decimal, Ok, map, config_of, more_at, operand_at, operands_at}
use Rattle.parser.proofs.Names.{register_at, AreMore, IsOperand, IsOrder, operand_word, operand_words, row_of, Sizes}
use Rattle.parser.proofs.Names.{Order, Kind, Address, Long, Nothing, Number, Percent, Register, ThreadName, None}
use Rattle.parser.proofs.Names.{Option, Some, cond, subst, ◌∷◌, join_with_byte-slice_split, same_Some}
use Rattle.parser.proofs.Names.{bytes_eq-Decides, join_with_byte, ◌==◌, bytes_eq, Actor, Thread, Worker, does}
use Rattle.parser.proofs.Names.{first_byte, verb_in, actor_at, order_at, IsActor, IsFor, actor_word, order_words}
use Rattle.parser.proofs.Names.{verb_of, Verb}
use Rattle.parser.specs.Spelling.{Bounds, bounds_of}
use Rattle.parser.proofs.WordPlaces.{words_from, Reads, number_again, small_again, named_again, words_whole}
use Rattle.parser.proofs.WordPlaces.{word_again, end_again}
use Rattle.parser.proofs.ManyNumbers.{address_again, numbers_again}
use Rattle.parser.proofs.Lists.{all_to}
use Rattle.std.specs.Prelude.{find}
use Rattle.parser.specs.declared.verbs.TheConstants.{VERBS}
use Rattle.parser.specs.Orders.{done_by}
use Rattle.parser.proofs.Numbers.{IsPlain}
use Rattle.parser.specs.declared.fault.FaultKind.TheVariants as kinds

-- ---- bounds

-- a number of at least one, of 32 bits
abbrev pub IsCount : ℕ → Type 0
IsCount n = (1 ≤ n) × (n < 2 ^ 32)

-- few enough words, threads, workers and registers for their numbers
pub record AreFew (sizes : Sizes) : Type 0 where
  pub words : IsCount sizes.words
  pub threads : IsCount sizes.threads
  pub workers : IsCount sizes.workers
  pub registers : IsCount sizes.registers

-- the bounds of sizes
abbrev pub bounds_in : Sizes → Bounds
bounds_in sizes = bounds_of (config_of sizes [])

-- ---- one operand

pub operand_again : (sizes : Sizes) (line : List ℕ) (at : ℕ) (kind : Kind) (n : ℕ) (ws : List (List ℕ))
    → AreFew sizes → IsOperand (bounds_in sizes) kind n → words_from line at ≡ operand_word kind n ++ ws
    → Reads line (operand_at sizes line at kind) n ws
unfolding operand_at register_at
operand_again sizes line at Nothing n ws few is h = (at, ap (λ (x : ℕ). Ok (x, at)) (sym is), h)
operand_again sizes line at Register n ws few is h =
    named_again line at 114 sizes.registers kinds.NoSuchRegister n ws (omega (arith, few.registers.1, is)) is h
operand_again sizes line at Number n ws few is h = small_again line at n ws is h
operand_again sizes line at Long n ws few is h =
    number_again line at 0 18446744073709551615 n ws is (omega arith) (omega (arith, is)) h
operand_again sizes line at ThreadName n ws few is h =
    named_again line at 116 sizes.threads kinds.NoSuchActor n ws (omega (arith, few.threads.1, is)) is h
operand_again sizes line at Address n ws few is h = address_again line at sizes.words n ws is.0 is.1 h
operand_again sizes line at Percent n ws few is h =
    number_again line at 0 100 n ws (omega (arith, is)) (omega arith) (omega (arith, is)) h

-- ---- numbers after operands

more_again : (line : List ℕ) (at : ℕ) (some : Bool) (ns : List ℕ) → AreMore some ns
    → words_from line at ≡ map decimal ns → Reads line (more_at some line at) ns []
more_again line at false ns is h =
    (at, ap (λ (x : List ℕ). Ok (x, at)) (sym is), h ∙ ap (map decimal) is)
more_again line at true ns is h = numbers_again line at ns (all_to (λ n. n < 2 ^ 32) ns is) h

-- ---- the operands of an order

-- words after words
pub behind : (a x b y c : List (List ℕ)) → a ≡ x ++ b → b ≡ y ++ c → a ≡ (x ++ y) ++ c
behind a x b y c e f = e ∙ ap (λ (t : List (List ℕ)). x ++ t) f ∙ sym (append_assoc x y c)

pub operands_again : (sizes : Sizes) (line : List ℕ) (at : ℕ) (o : Order) → AreFew sizes → IsOrder (bounds_in sizes) o
    → words_from line at ≡ operand_words (row_of o.verb).kinds o → Reads line (operands_at sizes line at o.verb) o []
unfolding operands_at
operands_again sizes line at o fits is h =
    let k = (row_of o.verb).kinds in
    let m = map decimal o.more in
    let w = operand_word k.wide o.wide in
    let z = operand_word k.third o.third in
    let y = operand_word k.second o.second in
    let a = operand_again sizes line at k.first o.first (y ++ (z ++ (w ++ m))) fits is.first h in
    let b = operand_again sizes line a.0 k.second o.second (z ++ (w ++ m)) fits is.second a.2 in
    let c = operand_again sizes line b.0 k.third o.third (w ++ m) fits is.third b.2 in
    let d = operand_again sizes line c.0 k.wide o.wide m fits is.wide c.2 in
    let e = more_again line d.0 k.more o.more is.more d.2 in
    (e.0, rw (a.1, b.1, c.1, d.1, e.1) refl, e.2)

-- ---- verbs

-- the first verb of a list that has this word
found_in : (w : List ℕ) (v : Verb) (vs : List Verb) → find (λ x. bytes_eq w (row_of x).text) vs ≡ Some v
    → w ≡ (row_of v).text
found_in w v [] h = absurd cc
found_in w v (x ∷ vs) h = by_test (bytes_eq w (row_of x).text) (bytes_eq-Decides w (row_of x).text).0
    (found_in w v vs) h
  where
    by_test : (b : Bool) → (b ≡ true → w ≡ (row_of x).text)
        → (find (λ x. bytes_eq w (row_of x).text) vs ≡ Some v → w ≡ (row_of v).text)
        → cond b (Some x) (find (λ x. bytes_eq w (row_of x).text) vs) ≡ Some v → w ≡ (row_of v).text
    by_test true first later e = subst (λ (y : Verb). w ≡ (row_of y).text) (same_Some x v e) (first refl)
    by_test false first later e = later e

-- a word that is read as a verb is the verb's
pub verb_ok : (w : List ℕ) (v : Verb) → verb_of w ≡ Some v → w ≡ (row_of v).text
unfolding verb_of
verb_ok w v h = found_in w v VERBS h

-- a verb's word is read as that verb: no two have one word
verb_again : (v : Verb) → verb_of (row_of v).text ≡ Some v
unfolding verb_of
verb_again v = grind arith

-- a word that equals a verb's word is read as that verb
pub verb_met : (w : List ℕ) (v : Verb) → bytes_eq w (row_of v).text ≡ true → Some v ≡ verb_of w
verb_met w v same = sym (ap verb_of ((bytes_eq-Decides w (row_of v).text).0 same) ∙ verb_again v)

-- the verb of a word, for an actor, is one that the actor does
pub actor_verb : (actor : Actor) (w : List ℕ) (v : Verb) → verb_in actor w ≡ Some v
    → (does actor v ≡ true) × (w ≡ (row_of v).text)
actor_verb actor w v h = by_verb (verb_of w) refl h
  where
    by_test : (x : Verb) (b : Bool) → does actor x ≡ b → cond b (Some x) None ≡ Some v → (does actor v ≡ true) × (x ≡ v)
    by_test x true own e =
        let same : x ≡ v = same_Some x v e in (subst (λ (y : Verb). does actor y ≡ true) same own, same)
    by_test x false own e = absurd cc

    by_verb : (o : Option Verb) → verb_of w ≡ o → done_by actor o ≡ Some v
        → (does actor v ≡ true) × (w ≡ (row_of v).text)
    by_verb None found e = absurd cc
    by_verb (Some x) found e =
        let own = by_test x (does actor x) refl e in
        (own.0, verb_ok w v (found ∙ ap Some own.1))

-- a verb's word has no spaces
pub text_plain : (verb : Verb) → IsPlain (row_of verb).text
text_plain verb = grind arith

-- ---- orders

pub own_verb : (actor : Actor) (verb : Verb) → does actor verb ≡ true → verb_in actor (row_of verb).text ≡ Some verb
own_verb actor verb own = ap (done_by actor) (verb_again verb) ∙ (rw own refl)

pub order_again : (sizes : Sizes) (line : List ℕ) (actor : Actor) (at : ℕ) (o : Order) → AreFew sizes → IsFor actor o
    → IsOrder (bounds_in sizes) o → words_from line at ≡ order_words o → order_at sizes line actor at ≡ Ok o
unfolding order_at
order_again sizes line actor at o few own is h =
    let operands = operand_words (row_of o.verb).kinds o in
    let w = word_again line at kinds.UnknownWord (row_of o.verb).text operands h in
    let v = operands_again sizes line w.0 o few is w.2 in
    let e = end_again line v.0 v.2 in
    rw (w.1, own_verb actor o.verb own, v.1, e) refl

-- ---- actors

first_joined : (b : ℕ) (w : List ℕ) (ws : List (List ℕ)) → first_byte (join_with_byte 32 ((b ∷ w) ∷ ws)) ≡ b
first_joined b w [] = refl
first_joined b w (v ∷ ws) = refl

-- the line is its words, joined
pub line_is : (line : List ℕ) (ws : List (List ℕ)) → words_from line 0 ≡ ws → line ≡ join_with_byte 32 ws
line_is line ws h = sym (join_with_byte-slice_split 32 line) ∙ ap (join_with_byte 32) (sym (words_whole line) ∙ h)

pub first_is : (line : List ℕ) (b : ℕ) (w : List ℕ) (ws : List (List ℕ)) → words_from line 0 ≡ (b ∷ w) ∷ ws
    → first_byte line ≡ b
first_is line b w ws h = ap first_byte (line_is line ((b ∷ w) ∷ ws) h) ∙ first_joined b w ws

pub actor_again : (sizes : Sizes) (line : List ℕ) (a : Actor) (ws : List (List ℕ)) → AreFew sizes
    → IsActor (config_of sizes []) a → words_from line 0 ≡ actor_word a ∷ ws → Reads line (actor_at sizes line) a ws
unfolding actor_at
actor_again sizes line (Thread t) ws few there h =
    let test : (first_byte line == 119) ≡ false = rw (first_is line 116 (decimal t) ws h) refl in
    let n = named_again line 0 116 sizes.threads kinds.NoSuchActor t ws (omega (arith, few.threads.1, there)) there h in
    (n.0, rw (test, n.1) refl, n.2)
actor_again sizes line (Worker w) ws few there h =
    let test : (first_byte line == 119) ≡ true = rw (first_is line 119 (decimal w) ws h) refl in
    let n = named_again line 0 119 sizes.workers kinds.NoSuchActor w ws (omega (arith, few.workers.1, there)) there h in
    (n.0, rw (test, n.1) refl, n.2)

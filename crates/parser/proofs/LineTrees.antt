-- A line as a tree: a line's fault is at a word, and lines that agree up to there have the same fault.
use Rattle.parser.proofs.Names.{Bool, List, None, Option, Some, [], ap, arith, cond, false, inl, inr, length, nat_lt}
use Rattle.parser.proofs.Names.{refl, subst, sym, true, ℕ, ◌*◌, ◌++◌, ◌+◌, ◌<◌, ◌∙◌, ◌∷◌, ◌≡◌, ◌≤◌, repeat, Err, Ok}
use Rattle.parser.proofs.Names.{Result, codes, not, ◌&&◌, ◌==◌, bytes_eq, Actor, Thread, Worker, IsWordEnd}
use Rattle.parser.proofs.Names.{first_byte, actor_at, order_at, ReadSoFar, end_in, first_word_in, is_full, is_idle}
use Rattle.parser.proofs.Names.{line_after, times_in, with_command, command_line, end_line, first_word, heap_line}
use Rattle.parser.proofs.Names.{later_line, layout_line, line_in, part_line, times_line, flaw, ◌>>=◌, end_at}
use Rattle.parser.proofs.Names.{named_at, number_at, word_at, FaultKind, Flaw, Sizes, MOST_LAYOUTS, Order}
use Rattle.parser.proofs.Names.{MOST_COMMANDS, MOST_TURNS}
use Rattle.parser.proofs.WordPlaces.{AreAlike, no_bytes, IsWordAt, finds_word}
use Rattle.parser.proofs.HeapLines.{heap_tree, heap_run}
use Rattle.parser.proofs.LayoutLines.{layout_tree, layout_run}
use Rattle.parser.proofs.OrderTrees.{order_tree, order_run}
use Rattle.parser.proofs.Trees.{Tree, Done, Fail, Skip, word_in, behind_in, run, chain, IsLate, bind_same, run_same}
use Rattle.parser.proofs.Trees.{found_is}
use Rattle.parser.proofs.WordTrees.{bind_assoc, bind_ok_is, fail_run, or_missing, name_in, named_or_run, number_tree}
use Rattle.parser.proofs.WordTrees.{number_run, end_tree, end_run, values, values_chain, whole_tree, whole_run}
use Rattle.parser.specs.declared.fault.FaultKind.TheVariants as kinds

-- ---- the tree of a line, from its first word on

abbrev pub heap_step : ReadSoFar → List ℕ → Tree ReadSoFar
heap_step r w = cond (bytes_eq w (codes "heap")) (Skip (chain heap_tree (λ sizes. Done
    (record r { sizes = Some sizes })))) (Fail kinds.HeapLineExpected)

abbrev pub layout_step : ReadSoFar → Sizes → Tree ReadSoFar
layout_step r z = Skip (chain (layout_tree z.words) (λ l. Done (record r { layouts = r.layouts ++ l ∷ [] })))

abbrev pub times_step : ReadSoFar → Option ℕ → Tree ReadSoFar
times_step r (Some turns) = Fail kinds.UnknownWord
times_step r None = Skip (chain (whole_tree (number_tree 1 MOST_TURNS)) (λ n. Done
    (record r { begun = true; turns = Some n; body = [] })))

abbrev pub end_step : ReadSoFar → Option ℕ → Tree ReadSoFar
end_step r None = Fail kinds.EndWithoutTimes
end_step r (Some turns) = cond (nat_lt MOST_COMMANDS (length r.commands + turns * length r.body))
    (Fail kinds.TooManyCommands) (Skip (chain end_tree (λ u. Done
    (record r { commands = r.commands ++ repeat turns r.body; turns = None; body = [] }))))

-- the limit on the commands of a line with numbers after its operands
module _ (most : ℕ) where
  abbrev pub order_from : ReadSoFar → Sizes → Actor → Tree ReadSoFar
  order_from r z actor = chain (order_tree z most actor) (λ order. Done
      (with_command r r.turns (record { actor = actor; order = order })))

  abbrev pub order_step : ReadSoFar → Sizes → Actor → Tree ReadSoFar
  order_step r z actor =
      cond (is_full r.turns r.commands) (Fail kinds.TooManyCommands) (Skip (order_from r z actor))

  abbrev pub command_step : ReadSoFar → Sizes → List ℕ → Tree ReadSoFar
  command_step r z w = cond (first_byte w == 119)
      (name_in 119 z.workers kinds.NoSuchActor (λ n. order_step r z (Worker n)) w)
      (name_in 116 z.threads kinds.NoSuchActor (λ n. order_step r z (Thread n)) w)

  abbrev pub later_step : ReadSoFar → Sizes → List ℕ → Tree ReadSoFar
  later_step r z w = cond (bytes_eq w (codes "layout") && not r.begun && nat_lt (length r.layouts) MOST_LAYOUTS)
      (layout_step r z) (cond (length r.layouts == 0) (Fail kinds.LayoutLineExpected)
      (cond (bytes_eq w (codes "times")) (times_step r r.turns)
      (cond (bytes_eq w (codes "end")) (end_step r r.turns) (command_step r z w))))

  abbrev pub line_step : ReadSoFar → Option Sizes → List ℕ → Tree ReadSoFar
  line_step r None w = heap_step r w
  line_step r (Some z) w = later_step r z w

-- ---- it reads what is defined

-- whether a line begins with `w` is seen at its first word
first_byte_of : (line : List ℕ) (w : List ℕ × ℕ) → IsWordAt line 0 w → (first_byte line == 119) ≡
    (first_byte w.0 == 119)
first_byte_of line w is = subst (λ (x : List ℕ). (first_byte x == 119) ≡ (first_byte w.0 == 119))
    (sym (is.line_is ∙ ap (λ (x : List ℕ). x ++ (w.0 ++ is.back)) (no_bytes is.front is.length_is)))
    (by_word w.0 is.back is.ends)
  where
    by_word : (word back : List ℕ) → IsWordEnd back → (first_byte (word ++ back) == 119) ≡ (first_byte word == 119)
    by_word (b ∷ bs) back ends = refl
    by_word [] back (inl none) = ap (λ (x : List ℕ). first_byte x == 119) none
    by_word [] back (inr more) = ap (λ (x : List ℕ). first_byte x == 119) more.1

module _ (line : List ℕ) (most : ℕ) (enough : length line < most) (w : List ℕ × ℕ) (found : word_at line 0 ≡ Some w)
  where
    first : first_word line ≡ w
    unfolding first_word
    first = ap first_word_in found

    pick : (b : Bool) (t u : Tree ReadSoFar) (r s : Result ReadSoFar Flaw) → values (run t line 0) ≡ r
        → values (run u line 0) ≡ s → values (run (cond b t u) line 0) ≡ cond b r s
    pick true t u r s h k = h
    pick false t u r s h k = k

    fail : (kind : FaultKind) → values (run {A = ReadSoFar} (Fail kind) line 0) ≡ Err (flaw 0 kind)
    fail kind = ap (λ (r : Result (ReadSoFar × ℕ) Flaw). values r) (fail_run line 0 kind w found)

    skip : {A : Type 0} (t : Tree A) (f : A → ReadSoFar) (r : Result A Flaw) → values (run t line w.1) ≡ r
        → values (run (Skip (chain t (λ x. Done (f x)))) line 0) ≡ (r >>= (λ x. Ok (f x)))
    skip {A} t f r h =
        ap (λ (o : Option (List ℕ × ℕ)). values (run (chain t (λ (x : A). Done (f x))) line (behind_in 0 o))) found
        ∙ values_chain t (λ (x : A). Done (f x)) line w.1 (run t line w.1) (λ (x : A × ℕ). Ok (f x.0)) refl (λ x. refl)
        ∙ sym (bind_assoc (run t line w.1) (λ (x : A × ℕ). Ok x.0) (λ (x : A). Ok (f x)))
        ∙ ap (λ (s : Result A Flaw). s >>= (λ x. Ok (f x))) h

    heap_step_run : (r : ReadSoFar) → values (run (heap_step r w.0) line 0) ≡ heap_line r line
    unfolding heap_line
    heap_step_run r = rw first (pick (bytes_eq w.0 (codes "heap")) _ _ _ _
        (skip heap_tree (λ sizes. record r { sizes = Some sizes }) _ (heap_run line w.1)) (fail kinds.HeapLineExpected))

    layout_step_run : (r : ReadSoFar) (z : Sizes) → values (run (layout_step r z) line 0) ≡ layout_line r z line
    unfolding layout_line
    layout_step_run r z = rw first (skip (layout_tree z.words) (λ l. record r { layouts = r.layouts ++ l ∷ [] }) _
        (layout_run z line w.1))

    times_step_run : (r : ReadSoFar) (o : Option ℕ) → values (run (times_step r o) line 0) ≡ times_in r o line
    times_step_run r (Some turns) = fail kinds.UnknownWord
    times_step_run r None = rw first (skip (whole_tree (number_tree 1 MOST_TURNS))
        (λ n. record r { begun = true; turns = Some n; body = [] }) _
        (whole_run (number_tree 1 MOST_TURNS) line w.1 _ (number_run line w.1 1 MOST_TURNS))
        ∙ bind_assoc (number_at line w.1 1 MOST_TURNS) _ _
        ∙ bind_same (number_at line w.1 1 MOST_TURNS) _ _ (λ n. bind_assoc (end_at line n.1) _ _))

    end_step_run : (r : ReadSoFar) (o : Option ℕ) → values (run (end_step r o) line 0) ≡ end_in r o line
    end_step_run r None = fail kinds.EndWithoutTimes
    end_step_run r (Some turns) = rw first (pick (nat_lt MOST_COMMANDS (length r.commands + turns * length r.body)) _ _
        _ _
        (fail kinds.TooManyCommands) (skip end_tree
        (λ u. record r { commands = r.commands ++ repeat turns r.body; turns = None; body = [] }) _
        (ap (λ (s : Result (Unit {0} × ℕ) Flaw). values s) (end_run line w.1) ∙ bind_assoc (end_at line w.1) _ _
        ∙ bind_ok_is (end_at line w.1))))

    -- what follows an actor
    abbrev after : ReadSoFar → Sizes → Actor × ℕ → Result ReadSoFar Flaw
    after r z actor = cond (is_full r.turns r.commands) (Err (flaw 0 kinds.TooManyCommands))
        (order_at z line actor.0 actor.1
        >>= (λ order. Ok (with_command r r.turns (record { actor = actor.0; order = order }))))

    abbrev after_run : ReadSoFar → Sizes → Bool → Actor × ℕ → Result (ReadSoFar × ℕ) Flaw
    after_run r z b actor =
        cond b (Err (flaw 0 kinds.TooManyCommands)) (run (order_from most r z actor.0) line actor.1)

    order_step_run : (r : ReadSoFar) (z : Sizes) (actor : Actor) (v : List ℕ × ℕ) → word_at line 0 ≡ Some v → (b : Bool)
        → run (cond b (Fail kinds.TooManyCommands) (Skip (order_from most r z actor))) line 0
        ≡ after_run r z b (actor, v.1)
    order_step_run r z actor v e true = fail_run {A = ReadSoFar} line 0 kinds.TooManyCommands v e
    order_step_run r z actor v e false =
        ap (λ (o : Option (List ℕ × ℕ)). run (order_from most r z actor) line (behind_in 0 o)) e

    after_values : (r : ReadSoFar) (z : Sizes) (actor : Actor × ℕ) (b : Bool) → values (after_run r z b actor)
        ≡ cond b (Err (flaw 0 kinds.TooManyCommands)) (order_at z line actor.0 actor.1
        >>= (λ order. Ok (with_command r r.turns (record { actor = actor.0; order = order }))))
    after_values r z actor true = refl
    after_values r z actor false =
        let made = λ (order : Order). with_command r r.turns (record { actor = actor.0; order = order }) in
        values_chain (order_tree z most actor.0) (λ order. Done (made order)) line actor.1 _
        (λ (x : Order × ℕ). Ok (made x.0)) refl (λ x. refl)
        ∙ sym (bind_assoc (run (order_tree z most actor.0) line actor.1) (λ (x : Order × ℕ). Ok x.0)
        (λ (x : Order). Ok (made x)))
        ∙ ap (λ (s : Result Order Flaw). s >>= (λ x. Ok (made x))) (order_run z most actor.0 line actor.1 enough)

    -- an actor's name, and its order
    named_step : (r : ReadSoFar) (z : Sizes) (letter count : ℕ) (made : ℕ → Actor)
        → values (run (name_in letter count kinds.NoSuchActor (λ n. order_step most r z (made n)) w.0) line 0)
        ≡ ((named_at line 0 letter count kinds.NoSuchActor >>= (λ n. Ok (made n.0, n.1))) >>= after r z)
    named_step r z letter count made =
        let full = is_full r.turns r.commands in
        sym (ap (λ (o : Option (List ℕ × ℕ)). values (run (or_missing kinds.UnknownWord
        (name_in letter count kinds.NoSuchActor (λ n. order_step most r z (made n))) (word_in o)) line 0)) found)
        ∙ ap (λ (s : Result (ReadSoFar × ℕ) Flaw). values s) (named_or_run line 0 letter count kinds.NoSuchActor
        (λ n. order_step most r z (made n)) (λ n. after_run r z full (made n.0, n.1))
        (λ n v e. order_step_run r z (made n) v e full))
        ∙ bind_assoc (named_at line 0 letter count kinds.NoSuchActor) _ _
        ∙ bind_same (named_at line 0 letter count kinds.NoSuchActor) _ _ (λ n. after_values r z (made n.0, n.1) full)
        ∙ sym (bind_assoc (named_at line 0 letter count kinds.NoSuchActor) _ (after r z))

    command_step_run : (r : ReadSoFar) (z : Sizes) → values (run (command_step most r z w.0) line 0)
        ≡ command_line r z line
    unfolding command_line actor_at
    command_step_run r z = rw (first_byte_of line w (found_is line 0 w found)) (by_letter (first_byte w.0 == 119))
      where
        by_letter : (b : Bool) → values (run (cond b (name_in 119 z.workers kinds.NoSuchActor (λ n. order_step most r z
            (Worker n)) w.0) (name_in 116 z.threads kinds.NoSuchActor (λ n. order_step most r z (Thread n)) w.0)) line
            0) ≡ (cond b (named_at line 0 119 z.workers kinds.NoSuchActor >>= (λ n. Ok (Worker n.0, n.1))) (named_at
            line 0 116 z.threads kinds.NoSuchActor >>= (λ n. Ok (Thread n.0, n.1))) >>= after r z)
        by_letter true = named_step r z 119 z.workers (λ n. Worker n)
        by_letter false = named_step r z 116 z.threads (λ n. Thread n)

    later_step_run : (r : ReadSoFar) (z : Sizes) → values (run (later_step most r z w.0) line 0) ≡ later_line r z line
    unfolding later_line part_line times_line end_line
    later_step_run r z = rw first (pick (bytes_eq w.0 (codes "layout") && not r.begun
        && nat_lt (length r.layouts) MOST_LAYOUTS) _ _ _ _ (layout_step_run r z)
        (pick (length r.layouts == 0) _ _ _ _ (fail kinds.LayoutLineExpected)
        (pick (bytes_eq w.0 (codes "times")) _ _ _ _ (times_step_run r r.turns)
        (pick (bytes_eq w.0 (codes "end")) _ _ _ _ (end_step_run r r.turns) (command_step_run r z)))))

    pub line_run : (r : ReadSoFar) (o : Option Sizes)
        → values (run (line_step most r o w.0) line 0) ≡ line_after r o line
    line_run r None = heap_step_run r
    line_run r (Some z) = later_step_run r z

-- ---- what lines have in common

value_err : {A : Type 0} (r : Result (A × ℕ) Flaw) (f : Flaw) → values r ≡ Err f → r ≡ Err f
value_err (Ok x) f h = absurd cc
value_err (Err e) f h = cc

-- the fault of a line is one of its tree, from the first word on
pub record IsFaultOf (line : List ℕ) (most : ℕ) (r : ReadSoFar) (f : Flaw) : Type 0 where
  pub w : List ℕ × ℕ
  pub found : word_at line 0 ≡ Some w
  pub idle : is_idle line ≡ false
  pub fails : run (line_step most r r.sizes w.0) line 0 ≡ Err f

pub fault_of : (line : List ℕ) (most : ℕ) → length line < most → (r : ReadSoFar) (f : Flaw) → line_in r line ≡ Err f
    → IsFaultOf line most r f
unfolding line_in
fault_of line most enough r f h = by_idle (is_idle line) refl h
  where
    by_idle : (b : Bool) → is_idle line ≡ b
        → ◌≡◌ {A = Result ReadSoFar Flaw} (cond b (Ok r) (line_after r r.sizes line)) (Err f) → IsFaultOf line most r f
    by_idle true e told = absurd cc
    by_idle false e told = let found = finds_word line 0 (omega arith) in
        record {
          w = found.w;
          found = found.found;
          idle = e;
          fails = value_err _ f (line_run line most enough found.w found.found r r.sizes ∙ told);
        }

-- lines that agree up to the end of a fault's word have the same fault
pub line_same : (n : ℕ) (line other : List ℕ) → AreAlike n line other → (r : ReadSoFar) (f : Flaw) → 0 < n
    → f.column ≤ n → line_in r line ≡ Err f → line_in r other ≡ Err f
unfolding line_in
line_same n line other k r f some early h =
    let most = length line + length other + 1 in
    let b = fault_of line most (omega arith) r f h in
    let step = line_step most r r.sizes b.w.0 in
    let found = sym (k.words 0 some) ∙ b.found in
    let told : run step other 0 ≡ Err f = elim (run_same n line other k step 0) [
      | inl same ↦ sym same ∙ b.fails
      | inr late ↦
          let behind : n < f.column = subst (λ (s : Result (ReadSoFar × ℕ) Flaw). IsLate n s) b.fails late in
          absurd (omega arith)
    ] in
    rw (sym k.idle ∙ b.idle) (sym (line_run other most (omega arith) b.w found r r.sizes)
    ∙ ap (λ (s : Result (ReadSoFar × ℕ) Flaw). values s) told)

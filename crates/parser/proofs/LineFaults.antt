-- A line's fault is at a word, with that fault's condition; and each word before it can be followed by correct words.
use Rattle.parser.proofs.Names.{Bool, List, None, Option, Some, [], ap, append-nil, arith, cond, false, inl, inr}
use Rattle.parser.proofs.Names.{length, lit<, nat_lt, refl, subst, sym, true, ℕ, ◌*◌, ◌++◌, ◌+◌, ◌∙◌, ◌∷◌, ◌≡◌, ◌≢◌}
use Rattle.parser.proofs.Names.{◌≤◌, lt-ltb, ltb-false, nat_tests, bytes_eq-Decides, decimal, repeat, Err, Ok, Result}
use Rattle.parser.proofs.Names.{codes, nat_le, not, ◌&&◌, ◌==◌, ◌||◌, bytes_eq, Layout, same_result, Actor, Thread}
use Rattle.parser.proofs.Names.{Worker, config_of, first_byte, ReadSoFar, first_word_in, is_full, line_after, nothing}
use Rattle.parser.proofs.Names.{with_command, first_word, line_in, IsActor, actor_word, line_of, order_words}
use Rattle.parser.proofs.Names.{capped_from, is_number, Flaw, Sizes, MOST_LAYOUTS, MOST_COMMANDS, MOST_TURNS}
use Rattle.parser.proofs.WordPlaces.{words_from, finds_word, IsFaultAt}
use Rattle.parser.proofs.ActorsAndOrders.{line_is}
use Rattle.parser.proofs.HeapLines.{heap_ends, IsSizes, SpellsSizes, heap_tree, heap_good}
use Rattle.parser.proofs.LayoutLines.{layout_tree, layout_good}
use Rattle.parser.proofs.LineTrees.{line_run, heap_step, layout_step, times_step, end_step, order_step, command_step}
use Rattle.parser.proofs.LineTrees.{line_step, fault_of, later_step}
use Rattle.parser.proofs.OrderTrees.{verb_tree, operands_tree, IsOrderOf, order_tree, order_good}
use Rattle.parser.proofs.OtherLines.{Said, few_actors, some_layouts, IsOtherLine, is_layout_next}
use Rattle.parser.proofs.Trees.{EndsAt, ends_chain, ends_map, run, run_ok, run_end, Tree, Done, Fail, Skip, word_in}
use Rattle.parser.proofs.Trees.{chain, IsSound, IsGood, run_wrong, Words, Sense, Rest, Seen}
use Rattle.parser.proofs.WordTrees.{sound_pick, Any, IsLast, good_map, narrower, name_in, name_sound, number_tree}
use Rattle.parser.proofs.WordTrees.{number_good, IsNumberOf, end_ends_at, whole_ends, values, end_tree, end_good}
use Rattle.parser.proofs.WordTrees.{whole_tree, whole_good}
use Rattle.parser.specs.declared.fault.FaultKind.TheVariants as kinds

other_word : (v w : List ℕ) → bytes_eq v w ≡ false → v ≢ w
other_word v w h e = let same = (bytes_eq-Decides v w).1 e in absurd cc

-- before layout lines, when nothing has begun, only a layout line is accepted
no_layout : (r : ReadSoFar) (word : List ℕ) → (r.begun ≡ true → 1 ≤ length r.layouts) → (length r.layouts == 0) ≡ true
    → (bytes_eq word (codes "layout") && not r.begun && nat_lt (length r.layouts) MOST_LAYOUTS) ≡ false
    → word ≢ codes "layout"
no_layout r word started none h is = by_begun r.begun refl
  where
    by_begun : (b : Bool) → r.begun ≡ b → ⊥
    by_begun true e =
        let some = started e in let empty : length r.layouts ≡ 0 = grind (arith, nat_tests) in absurd (omega arith)
    by_begun false e =
        let same : bytes_eq word (codes "layout") ≡ true = (bytes_eq-Decides word (codes "layout")).1 is in
        let empty : length r.layouts ≡ 0 = grind (arith, nat_tests) in
        let below : nat_lt (length r.layouts) MOST_LAYOUTS ≡ true =
        lt-ltb (length r.layouts) MOST_LAYOUTS (omega arith) in
        let test : (bytes_eq word (codes "layout") && not r.begun && nat_lt (length r.layouts) MOST_LAYOUTS) ≡ true =
        rw (same, e, below) refl in
        absurd cc

-- nothing follows the last word of a line that is no layout line
abbrev pub Ends : ReadSoFar → List ℕ → Rest
Ends r w rest = (is_layout_next r w ≡ false) × (rest ≡ [])

-- what the words of a line say, if it is no layout line
abbrev pub Says : ReadSoFar → Option Sizes → List ℕ → ReadSoFar → Rest
Says r o w u ws = is_layout_next r w ≡ false → IsOtherLine o r u (line_of ws)

head_is : {v w : List ℕ} → v ∷ [] ≡ w ∷ [] → v ≡ w
head_is e = cc

same_line : (v w : List ℕ) (vs ws : Words) → w ≡ v → ws ≡ vs → line_of (w ∷ ws) ≡ line_of (v ∷ vs)
same_line v w vs ws e d = ap (λ (x : List ℕ). line_of (x ∷ ws)) e ∙ ap (λ (xs : Words). line_of (v ∷ xs)) d

module _ (r : ReadSoFar) (w : List ℕ) where
  -- a tree of a line from its first word on
  abbrev IsStep : Option Sizes → Tree ReadSoFar → Type 0
  IsStep o t = IsSound (Ends r w) (Says r o w) true (Some (Some w)) t

  pick : (o : Option Sizes) (b : Bool) (t u : Tree ReadSoFar) → (b ≡ true → IsStep o t) → (b ≡ false → IsStep o u)
      → IsStep o (cond b t u)
  pick o b t u = sound_pick (Ends r w) (Says r o w) true (Some (Some w)) b t u

  -- a line's first word is followed by what is read after it
  past : {A : Type 0} (o : Option Sizes) (P : Sense A) (t : Tree A) (f : A → ReadSoFar)
      → IsGood IsLast P t → ((x : A) (ws : Words) → P x ws → IsOtherLine o r (f x) (line_of (w ∷ ws)))
      → IsStep o (Skip (chain t (λ x. Done (f x))))
  past o P t f g h =
      let all = good_map (Ends r w) P (λ (u : ReadSoFar) ws. Says r o w u (w ∷ ws)) f t (λ x ws p other. h x ws p)
      (narrower IsLast (Ends r w) (λ rest may. may.1) P t g) in
      (all.lives, all.sound None)

  heap_sound : r ≡ nothing → IsStep None (heap_step r w)
  heap_sound is = pick None (bytes_eq w (codes "heap")) _ _ (λ e.
      past None SpellsSizes heap_tree (λ sizes. record r { sizes = Some sizes }) heap_good (λ z ws spelled. record {
        sizes = z;
        first = is;
        spelled = record {
          births = spelled.births;
          history = spelled.history;
          births_spelled = spelled.births_spelled;
          history_spelled = spelled.history_spelled;
          line_is = same_line (codes "heap") w _ ws ((bytes_eq-Decides w (codes "heap")).0 e) spelled.words_are;
        };
        range = spelled.range;
        then = refl;
      })) (λ e front start. (start, other_word w (codes "heap") e))

  layout_sound : (z : Sizes) → is_layout_next r w ≡ true → IsStep (Some z) (layout_step r z)
  layout_sound z e =
      let never = λ (rest : Words) (may : Ends r w rest). let no = may.0 in absurd cc in
      let all = good_map (Ends r w) (λ (l : Layout) (ws : Words). Unit {0})
      (λ (u : ReadSoFar) ws. Says r (Some z) w u (w ∷ ws)) (λ l. record r { layouts = r.layouts ++ l ∷ [] })
      (layout_tree z.words) (λ l ws u other. absurd cc) (layout_good (Ends r w) never z.words) in
      (all.lives, all.sound None)

  module _ (z : Sizes) (range : IsSizes z) (some : 1 ≤ length r.layouts) where
    times_sound : w ≡ codes "times" → (o : Option ℕ) → r.turns ≡ o → IsStep (Some z) (times_step r o)
    times_sound first (Some turns) is = λ front start. tt
    times_sound first None is = past (Some z) (IsNumberOf 1 MOST_TURNS) (whole_tree (number_tree 1 MOST_TURNS))
        (λ n. record r { begun = true; turns = Some n; body = [] })
        (whole_good (IsNumberOf 1 MOST_TURNS) (number_tree 1 MOST_TURNS) (narrower Any IsLast (λ rest may. tt)
        (IsNumberOf 1 MOST_TURNS) (number_tree 1 MOST_TURNS) (number_good 1 MOST_TURNS (omega arith) (lit< tt))))
        (λ n ws number. (
          some,
          inl (inr (record {
            turns = n;
            line_is = same_line (codes "times") w (decimal n ∷ []) ws first number.words_are;
            closed = is;
            some = number.above;
            few = number.below;
            then = refl;
          })),
        ))

    end_sound : w ≡ codes "end" → (o : Option ℕ) → r.turns ≡ o → IsStep (Some z) (end_step r o)
    end_sound first None is = λ front start. (start, first)
    end_sound first (Some turns) is =
        let count = length r.commands + turns * length r.body in
        let done : ReadSoFar = record r { commands = r.commands ++ repeat turns r.body; turns = None; body = [] } in
        pick (Some z) (nat_lt MOST_COMMANDS count) (Fail kinds.TooManyCommands) (Skip (chain end_tree (λ u. Done done)))
        (λ e front start. start) (λ e. past (Some z) _ end_tree (λ u. done) end_good (λ u ws none. (
          some,
          inr (record {
            turns = turns;
            line_is = same_line (codes "end") w [] ws first none;
            opened = is;
            room = ltb-false MOST_COMMANDS count e;
            then = refl;
          }),
        )))

    order_sound : (most : ℕ) (actor : Actor) → w ≡ actor_word actor → IsActor (config_of z []) actor
        → IsStep (Some z) (order_step most r z actor)
    order_sound most actor first there = pick (Some z) (is_full r.turns r.commands) _ _ (λ full front start. start)
        (λ room. past (Some z) (IsOrderOf z actor) (order_tree z most actor) (λ o. with_command r r.turns
        (record { actor = actor; order = o })) (order_good z most (few_actors z range) actor)
        (λ o ws order. (
          some,
          inl (inl (record {
            command = record { actor = actor; order = o };
            line_is = same_line (actor_word actor) w (order_words o) ws first order.words_are;
            own = record { actor = there; own = order.own; order = order.fits };
            room = room;
            then = refl;
          })),
        )))

    command_sound : (most : ℕ) → IsStep (Some z) (command_step most r z w)
    command_sound most = pick (Some z) (first_byte w == 119) _ _
        (λ e. name_sound (Ends r w) (Says r (Some z) w) true 119 z.workers kinds.NoSuchActor
        (λ n. order_step most r z (Worker n)) (omega (arith, (few_actors z range).workers.1))
        (λ front digits start number. inr (start, (digits, (refl, number)))) w
        (λ n is. order_sound most (Worker n) (head_is is.words_are) is.below))
        (λ e. name_sound (Ends r w) (Says r (Some z) w) true 116 z.threads kinds.NoSuchActor
        (λ n. order_step most r z (Thread n)) (omega (arith, (few_actors z range).threads.1))
        (λ front digits start number. inl (digits, (refl, number))) w
        (λ n is. order_sound most (Thread n) (head_is is.words_are) is.below))

  later_sound : (most : ℕ) (z : Sizes) → IsSizes z → (r.begun ≡ true → 1 ≤ length r.layouts)
      → IsStep (Some z) (later_step most r z w)
  later_sound most z range started = pick (Some z) (is_layout_next r w) _ _ (layout_sound z) (λ e.
      pick (Some z) (length r.layouts == 0) _ _ (λ none front start. (start, no_layout r w started none e)) (λ none.
      let some = some_layouts r.layouts none in
      pick (Some z) (bytes_eq w (codes "times")) _ _
      (λ is. times_sound z range some ((bytes_eq-Decides w (codes "times")).0 is) r.turns refl)
      (λ not_times. pick (Some z) (bytes_eq w (codes "end")) _ _
      (λ is. end_sound z range some ((bytes_eq-Decides w (codes "end")).0 is) r.turns refl)
      (λ not_end. command_sound z range some most))))

  -- a line after lines that are accepted
  pub line_sound : (most : ℕ) (said : Words) → Said said r → IsStep r.sizes (line_step most r r.sizes w)
  line_sound most said (inl before) = subst (λ (o : Option Sizes). IsStep o (line_step most r o w))
      (sym (ap (λ (x : ReadSoFar). x.sizes) before.is)) (heap_sound before.is)
  line_sound most said (inr behind) = subst (λ (o : Option Sizes). IsStep o (line_step most r o w))
      (sym behind.sizes_is) (later_sound most behind.sizes behind.range behind.started)

-- ---- a line is read to its end

ends_pick : {A : Type 0} (c : Seen) (b : Bool) (t u : Tree A) → EndsAt c t → EndsAt c u → EndsAt c (cond b t u)
ends_pick c true t u h k = h
ends_pick c false t u h k = k

name_ends : {A : Type 0} (letter count : ℕ) (k : ℕ → Tree A) (w : List ℕ) → ((n : ℕ) → EndsAt (Some (Some w)) (k n))
    → EndsAt (Some (Some w)) (name_in letter count kinds.NoSuchActor k w)
name_ends letter count k [] h = tt
name_ends {A} letter count k (b ∷ bs) h = by_test (not (b == letter) || not (is_number bs))
    (nat_le count (capped_from 0 bs))
  where
    by_test : (c d : Bool) → EndsAt (Some (Some (b ∷ bs))) (cond {A = Tree A} c (Fail kinds.UnknownWord)
        (cond d (Fail kinds.NoSuchActor) (k (capped_from 0 bs))))
    by_test true d = tt
    by_test false true = tt
    by_test false false = h (capped_from 0 bs)

order_ends : (most : ℕ) (r : ReadSoFar) (z : Sizes) (w : List ℕ) (actor : Actor)
    → EndsAt (Some (Some w)) (order_step most r z actor)
order_ends most r z w actor = ends_pick _ (is_full r.turns r.commands) (Fail kinds.TooManyCommands) _ tt
    (ends_map (order_tree z most actor) _ None (ends_chain (verb_tree actor) _ None
    (λ verb c. whole_ends (operands_tree z most verb) c)))

times_ends : (r : ReadSoFar) (w : List ℕ) (o : Option ℕ) → EndsAt (Some (Some w)) (times_step r o)
times_ends r w (Some turns) = tt
times_ends r w None =
    ends_map (whole_tree (number_tree 1 MOST_TURNS)) _ None (whole_ends (number_tree 1 MOST_TURNS) None)

end_ends : (r : ReadSoFar) (w : List ℕ) (o : Option ℕ) → EndsAt (Some (Some w)) (end_step r o)
end_ends r w None = tt
end_ends r w (Some turns) = ends_pick _ (nat_lt MOST_COMMANDS (length r.commands + turns * length r.body)) _ _ tt
    (ends_map end_tree _ None end_ends_at)

line_ends : (most : ℕ) (r : ReadSoFar) (w : List ℕ) (o : Option Sizes) → is_layout_next r w ≡ false
    → EndsAt (Some (Some w)) (line_step most r o w)
line_ends most r w None other = ends_pick _ (bytes_eq w (codes "heap")) _ _ (ends_map heap_tree _ None heap_ends) tt
line_ends most r w (Some z) other =
    let rest = ends_pick _ (length r.layouts == 0) _ _ tt
    (ends_pick _ (bytes_eq w (codes "times")) _ _ (times_ends r w r.turns)
    (ends_pick _ (bytes_eq w (codes "end")) _ _ (end_ends r w r.turns)
    (ends_pick _ (first_byte w == 119) _ _
    (name_ends 119 z.workers (λ n. order_step most r z (Worker n)) w (λ n. order_ends most r z w (Worker n)))
    (name_ends 116 z.threads (λ n. order_step most r z (Thread n)) w (λ n. order_ends most r z w (Thread n)))))) in
    subst (λ (b : Bool). EndsAt (Some (Some w)) (cond b (layout_step r z)
    (cond (length r.layouts == 0) (Fail kinds.LayoutLineExpected)
    (cond (bytes_eq w (codes "times")) (times_step r r.turns)
    (cond (bytes_eq w (codes "end")) (end_step r r.turns) (command_step most r z w)))))) (sym other) rest

value_ok : {A : Type 0} (r : Result (A × ℕ) Flaw) (x : A) → values r ≡ Ok x → (after : ℕ) × (r ≡ Ok (x, after))
value_ok (Ok v) x h = (v.1, ap (λ (y : _). Ok (y, v.1)) (same_result v.0 x h))
value_ok (Err e) x h = absurd cc

-- a line that is accepted says what it adds, if it is no layout line
pub line_says : (said : Words) (r t : ReadSoFar) (line : List ℕ) → Said said r
    → is_layout_next r (first_word line).0 ≡ false → line_after r r.sizes line ≡ Ok t → IsOtherLine r.sizes r t line
unfolding first_word
line_says said r t line so_far other h =
    let most = length line + 1 in
    let found = finds_word line 0 (omega arith) in
    let w = found.w.0 in
    let step = line_step most r r.sizes w in
    let v = value_ok (run step line 0) t (line_run line most (omega arith) found.w found.found r r.sizes ∙ h) in
    let same = sym (ap word_in found.found) in
    let b = run_ok (Ends r w) (Says r r.sizes w) line (t, v.0) step true (Some (Some w)) 0
    (line_sound r w most said so_far) same v.1 in
    let own : is_layout_next r w ≡ false =
    subst (λ (o : Option (List ℕ × ℕ)). is_layout_next r (first_word_in o).0 ≡ false) found.found other in
    let none = run_end line (t, v.0) step (Some (Some w)) 0 (line_ends most r w r.sizes own) same v.1 in
    let words : words_from line 0 ≡ b.words =
    b.spelled ∙ ap (λ (x : Words). b.words ++ x) none ∙ append-nil b.words in
    subst (λ (x : List ℕ). IsOtherLine r.sizes r t x) (sym (line_is line b.words words)) (b.is own)

-- a line's fault is at a word of it
pub fault_placed : (line : List ℕ) (r : ReadSoFar) (f : Flaw) (said : Words) → Said said r → line_in r line ≡ Err f
    → IsFaultAt line f
fault_placed line r f said so_far h =
    let most = length line + 1 in
    let b = fault_of line most (omega arith) r f h in
    run_wrong (Ends r b.w.0) line f (Says r r.sizes b.w.0) (line_step most r r.sizes b.w.0) true (Some (Some b.w.0)) 0
    (line_sound r b.w.0 most said so_far) (sym (ap word_in b.found)) refl b.fails

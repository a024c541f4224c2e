-- The layout lines: what is read is spelled so, and what is spelled so is read.
use Rattle.parser.proofs.Names.{Bool, List, None, Option, Some, [], ap, arith, cond, false, lit<, nat_lt, refl, subst}
use Rattle.parser.proofs.Names.{true, ℕ, ◌+◌, ◌∙◌, ◌∷◌, ◌≡◌, ◌≤◌, le-ltb, ltb-false, decimal, Err, Ok, Result, Layout}
use Rattle.parser.proofs.Names.{not_refused, same_result, layout_in, IsLayout, flaw, ◌>>=◌, end_at, number_at}
use Rattle.parser.proofs.Names.{word_at, Flaw, Sizes}
use Rattle.parser.proofs.WordPlaces.{words_from, bind_ok, number_again, end_ok, end_again}
use Rattle.parser.proofs.Trees.{Tree, Done, Fail, Skip, behind_in, run, chain, chained, Lives, IsSound, IsGood}
use Rattle.parser.proofs.Trees.{good_chain, bind_same, Words, Rest}
use Rattle.parser.proofs.WordTrees.{number_ok, run_pick, sound_pick, Any, bind_assoc, fail_run, number_or}
use Rattle.parser.proofs.WordTrees.{number_tree, number_or_run, number_run, number_or_sound, number_good, IsNumberOf}
use Rattle.parser.proofs.WordTrees.{end_tree, end_in, end_run, values, values_chain}
use Rattle.parser.specs.declared.fault.FaultKind.TheVariants as kinds

-- a layout is spelled from a place to the end, and its objects fit
pub record IsLayoutAt (words : ℕ) (line : List ℕ) (at : ℕ) (l : Layout) : Type 0 where
  pub spelled : words_from line at ≡ decimal l.refs ∷ decimal l.nums ∷ []
  pub is : IsLayout l
  pub room : 1 + l.refs + l.nums ≤ words

pub layout_ok : (sizes : Sizes) (line : List ℕ) (at : ℕ) (l : Layout) → layout_in sizes line at ≡ Ok l
    → IsLayoutAt sizes.words line at l
unfolding layout_in
layout_ok sizes line at l h =
    let r = bind_ok (number_at line at 0 1023) _ l h in
    let n = bind_ok (number_at line r.0.1 0 1023) _ l r.2 in
    let g = not_refused (nat_lt sizes.words (1 + r.0.0 + n.0.0)) _ _ l n.2 in
    let e = bind_ok (end_at line n.0.1) _ l g.1 in
    let refs = number_ok line at 0 1023 r.0 (lit< tt) r.1 in
    let nums = number_ok line r.0.1 0 1023 n.0 (lit< tt) n.1 in
    subst (λ (x : Layout). IsLayoutAt sizes.words line at x) (same_result _ l e.2) (record {
      spelled = refs.spelled ∙ rw (refs.is.words_are, nums.spelled, nums.is.words_are, end_ok line n.0.1 e.0 e.1) refl;
      is = record { refs = refs.is.below; nums = nums.is.below };
      room = ltb-false sizes.words (1 + r.0.0 + n.0.0) g.0;
    })

pub layout_again : (sizes : Sizes) (line : List ℕ) (at : ℕ) (l : Layout) → IsLayoutAt sizes.words line at l
    → layout_in sizes line at ≡ Ok l
unfolding layout_in
layout_again sizes line at l h =
    let refs = h.is.refs in
    let nums = h.is.nums in
    let r =
    number_again line at 0 1023 l.refs (decimal l.nums ∷ []) (omega arith) (omega arith) (omega arith) h.spelled in
    let n = number_again line r.0 0 1023 l.nums [] (omega arith) (omega arith) (omega arith) r.2 in
    let room : nat_lt sizes.words (1 + l.refs + l.nums) ≡ false = le-ltb sizes.words (1 + l.refs + l.nums) h.room in
    let e = end_again line n.0 n.2 in
    rw (r.1, n.1, room, e) refl

abbrev layout_of : ℕ → ℕ → Layout
layout_of refs nums = record { refs = refs; nums = nums }

abbrev layout_end : ℕ → ℕ → Tree Layout
layout_end refs nums = chain end_tree (λ u. Done (layout_of refs nums))

abbrev nums_tree : ℕ → ℕ → ℕ → Tree Layout
nums_tree words refs nums =
    cond (nat_lt words (1 + refs + nums)) (Fail kinds.LayoutTooLarge) (Skip (layout_end refs nums))

abbrev pub layout_tree : ℕ → Tree Layout
layout_tree words = chain (number_tree 0 1023) (λ refs. number_or 0 1023 (nums_tree words refs))

-- what follows the second number at a place, if it is read with the place after it
abbrev nums_at : ℕ → List ℕ → ℕ → ℕ → ℕ × ℕ → Result (Layout × ℕ) Flaw
nums_at words line refs at nums = cond (nat_lt words (1 + refs + nums.0)) (Err (flaw at kinds.LayoutTooLarge))
    (end_at line nums.1 >>= (λ u. Ok (layout_of refs nums.0, nums.1)))

nums_run : (words refs : ℕ) (line : List ℕ) (at n : ℕ) (w : List ℕ × ℕ) → word_at line at ≡ Some w
    → run (nums_tree words refs n) line at ≡ nums_at words line refs at (n, w.1)
nums_run words refs line at n w e = run_pick line at (nat_lt words (1 + refs + n)) (Fail kinds.LayoutTooLarge)
    (Skip (layout_end refs n)) _ _ (fail_run {A = Layout} line at kinds.LayoutTooLarge w e)
    (ap (λ (o : Option (List ℕ × ℕ)). run (layout_end refs n) line (behind_in at o)) e
    ∙ chained end_tree (λ u. Done (layout_of refs n)) line w.1 _ (λ u. Ok (layout_of refs n, u.1)) (end_run line w.1)
    (λ u. refl) ∙ bind_assoc (end_at line w.1) _ _)

pub layout_run : (sizes : Sizes) (line : List ℕ) (at : ℕ)
    → values (run (layout_tree sizes.words) line at) ≡ layout_in sizes line at
unfolding layout_in
layout_run sizes line at =
    values_chain (number_tree 0 1023) (λ refs. number_or 0 1023 (nums_tree sizes.words refs)) line at _ _
    (number_run line at 0 1023) (λ refs. ap (λ (r : Result (Layout × ℕ) Flaw). values r)
    (number_or_run line refs.1 0 1023 (nums_tree sizes.words refs.0) (nums_at sizes.words line refs.0 refs.1)
    (nums_run sizes.words refs.0 line refs.1))
    ∙ bind_assoc (number_at line refs.1 0 1023) _ _
    ∙ bind_same (number_at line refs.1 0 1023) _ _ (λ nums. by_test (layout_of refs.0 nums.0) nums.1
    (flaw refs.1 kinds.LayoutTooLarge) (end_at line nums.1) (nat_lt sizes.words (1 + refs.0 + nums.0))))
  where
    by_test : (l : Layout) (after : ℕ) (f : Flaw) (r : Result (Unit {0}) Flaw) (b : Bool)
        → values (cond b (Err f) (r >>= (λ u. Ok (l, after)))) ≡ cond b (Err f) (r >>= (λ u. Ok l))
    by_test l after f r true = refl
    by_test l after f r false = bind_assoc r _ _

-- A layout's faults. Not every first number of a layout can be followed by a second one, so nothing may follow it.
pub layout_good : (May : Rest) → ((rest : Words) → May rest → ⊥) → (words : ℕ)
    → IsGood May (λ (l : Layout) (ws : Words). Unit {0}) (layout_tree words)
layout_good May never words = good_chain Any May (λ refs. number_or 0 1023 (nums_tree words refs))
    (IsNumberOf 0 1023) (λ (l : Layout) (ws : Words). Unit {0}) (number_tree 0 1023)
    (number_good 0 1023 (omega arith) (lit< tt)) (record {
      good = λ refs ws is. record {
        lives = dead (number_or 0 1023 (nums_tree words refs));
        sound = λ c. number_or_sound May (λ (l : Layout) (ws : Words). Unit {0}) false c 0 1023
            (nums_tree words refs) (lit< tt) (λ n w number is. sound_pick May _ false (Some (Some w))
            (nat_lt words (1 + refs + n)) (Fail kinds.LayoutTooLarge) (Skip (layout_end refs n))
            (λ e front start. number) (λ e. (dead (layout_end refs n), by_layout refs n)));
      };
      follows = λ refs ws is rest may. tt;
    })
  where
    dead : (t : Tree Layout) → Lives May (λ (l : Layout) (ws : Words). Unit {0}) t
    dead t = record {
      words = [];
      plain = tt;
      value = layout_of 0 0;
      is = tt;
      reads = λ line at rest may e. absurd (never rest may);
    }

    by_layout : (refs n : ℕ) (o : Option (List ℕ)) → IsSound May (λ (l : Layout) (ws : Words). Unit {0}) false
        (Some o) (chain (end_in o) (λ u. Done (layout_of refs n)))
    by_layout refs n None = tt
    by_layout refs n (Some w) = λ front start. start

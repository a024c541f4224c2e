-- Each step keeps the invariant of the cell.
use Rattle.std.proofs.Common.{◌≡◌, ◌≢◌, ◌<◌, ◌+◌, ◌++◌, ℕ, zero, suc, List, [], ◌∷◌, length, set, true, false, arith}
use Rattle.std.proofs.Common.{refl, sym, ap, ◌∙◌, subst, ◌⊎◌, inl, inr, ⊎_elim, true≢false}
use Rattle.std.specs.Prelude.{◌==◌, if◌then◌else◌}
use Rattle.std.proofs.lemmas.Bool.{eq-eqb, ne_eqb}
use mathlib.Core.Option.{some, some-injective, some-ne-none}
use lib.ListN.{get_elem?}
use Rattle.crossbeam_utils.specs.Register.{Turns, Forks, Merges}
use Rattle.atomic_table.proofs.Lists.{at_set}
use Rattle.tokens.specs.declared.cells.View.{View}
use Rattle.tokens.specs.Rows.{Registers, Rows, row_of, ChangesOnly}
use Rattle.tokens.specs.Tokens.{keeper_of, holder_of, token_of, nobody, Fits, Kept, Found, Told, Begun}

off : false ≡ true → ⊥
off e = true≢false (sym e)

-- ---- one view is changed

-- if the other views fit, and the changed one does, all do
set_fits : (seat : ℕ) (rows : Rows) (n : ℕ) (owner : ℕ → ℕ) (views : List View) (by : ℕ) (w : View)
    → ((j : ℕ) (u : View) → j ≢ by → get_elem? views j ≡ some u → Fits seat rows n owner j u)
    → Fits seat rows n owner by w
    → (j : ℕ) (u : View) → get_elem? (set views by w) j ≡ some u → Fits seat rows n owner j u
set_fits seat rows n owner views by w others mine j u e = ⊎_elim
    (λ (k : (j ≡ by) × (w ≡ u)). subst (λ (y : ℕ × View). Fits seat rows n owner y.0 y.1) (λ i. (sym k.0 i, k.1 i)) mine)
    (λ (k : (j ≢ by) × (get_elem? views j ≡ some u)). others j u k.0 k.1)
    (at_set views by j w u e)

at_end : (l : List View) (a b : View) (j : ℕ) → get_elem? (l ++ a ∷ []) j ≡ some b
    → ((j ≢ length l) × (get_elem? l j ≡ some b)) ⊎ ((j ≡ length l) × (a ≡ b))
at_end [] a b zero e = inr (refl, some-injective a b e)
at_end [] a b (suc j) e = absurd (some-ne-none b (sym e))
at_end (x ∷ xs) a b zero e = inl ((λ h. omega arith), e)
at_end (x ∷ xs) a b (suc j) e =
    ⊎_elim (λ t. let n = t.0 in inl ((λ h. n (omega arith)), t.1)) (λ t. inr (ap suc t.0, t.1)) (at_end xs a b j e)

-- the same, if a view is added
end_fits : (seat : ℕ) (rows : Rows) (n : ℕ) (owner : ℕ → ℕ) (views : List View) (w : View)
    → ((j : ℕ) (u : View) → j ≢ length views → get_elem? views j ≡ some u → Fits seat rows n owner j u)
    → Fits seat rows n owner (length views) w
    → (j : ℕ) (u : View) → get_elem? (views ++ w ∷ []) j ≡ some u → Fits seat rows n owner j u
end_fits seat rows n owner views w others mine j u e = ⊎_elim
    (λ (k : (j ≢ length views) × (get_elem? views j ≡ some u)). others j u k.0 k.1)
    (λ (k : (j ≡ length views) × (w ≡ u)).
    subst (λ (y : ℕ × View). Fits seat rows n owner y.0 y.1) (λ i. (sym k.0 i, k.1 i)) mine)
    (at_end views w u j e)

-- the owners with that of one thread moved to another pass
abbrev owned : (ℕ → ℕ) → ℕ → ℕ → ℕ → ℕ
owned owner t by u = if u == t then by else owner u

owned_there : (owner : ℕ → ℕ) (t by : ℕ) → owned owner t by t ≡ by
owned_there owner t by = rw (eq-eqb t t refl) refl

owned_else : (owner : ℕ → ℕ) (t by u : ℕ) → u ≢ t → owned owner t by u ≡ owner u
owned_else owner t by u n = rw (ne_eqb u t n) refl

-- ---- the first view, and the first registers

pub begins : (words : List ℕ) → Kept words (keeper_of [] 0 ∷ [])
begins words = (0, [], 0, (λ t. 0), one)
  where
    one : (by : ℕ) (v : View) → get_elem? (keeper_of [] 0 ∷ []) by ≡ some v → Fits 0 [] 0 (λ t. 0) by v
    one zero v e =
        subst (Fits 0 [] 0 (λ t. 0) 0) (some-injective _ _ e) ((λ _. (refl, refl, refl)), (λ c. absurd (off c)))
    one (suc by) v e = absurd (some-ne-none v (sym e))

begun_at : (by : ℕ) (old after : Rows) (new : List ℕ) → Turns Kept by (keeper_of old 0) (λ _. new) (Begun after)
begun_at by old after new words views h there =
    let keep = (h.4 by (keeper_of old 0) there).0 refl in
    let w = keeper_of after 0 in (
      w,
      (
        h.0,
        after,
        0,
        h.3,
        set_fits h.0 after 0 h.3 views by w
            (λ j u apart e. let theirs = h.4 j u e in (
              (λ c. absurd (apart ((theirs.0 c).0 ∙ sym keep.0))),
              (λ c. let low = subst (λ n. u.thread < n) (sym keep.2) (theirs.1 c).2 in absurd (omega (arith, low))),
            ))
            ((λ _. (keep.0, refl, refl)), (λ c. absurd (off c))),
      ),
      refl,
    )

-- ---- a keeper with a token

tells_at : (by : ℕ) (rows : Rows) (n t : ℕ) (mine : Registers) (after : Rows) (new : List ℕ) → ChangesOnly t rows after
    → Turns Kept by (holder_of rows n t mine) (λ _. new) (Told after)
tells_at by rows n t mine after new change words views h there =
    let own = h.4 by (holder_of rows n t mine) there in
    let keep = own.0 refl in
    let claim = own.1 refl in
    let w = holder_of after n t (row_of after t) in (
      w,
      (
        h.0,
        after,
        h.2,
        h.3,
        set_fits h.0 after h.2 h.3 views by w
            (λ j u apart e. let theirs = h.4 j u e in (
              (λ c. absurd (apart ((theirs.0 c).0 ∙ sym keep.0))),
              (λ c. let f = theirs.1 c in
                  let far : u.thread ≢ t = λ q. apart (sym f.0 ∙ ap h.3 q ∙ claim.0) in
                  (f.0, change u.thread far ∙ ap (λ (l : Rows). row_of l u.thread) keep.1 ∙ f.1, f.2)),
            ))
            ((λ _. (keep.0, refl, keep.2)), (λ _. (claim.0, refl, claim.2))),
      ),
      refl,
    )

finds_at : (by : ℕ) (rows : Rows) (n t : ℕ) (mine : Registers)
    → Turns Kept by (holder_of rows n t mine) (λ w. w) Found
finds_at by rows n t mine words views h there =
    let own = h.4 by (holder_of rows n t mine) there in
    let w = holder_of rows n t mine in (
      w,
      (h.0, h.1, h.2, h.3, set_fits h.0 h.1 h.2 h.3 views by w (λ j u _ e. h.4 j u e) own),
      (refl, ap (λ (l : Rows). row_of l t) ((own.0 refl).1) ∙ (own.1 refl).1),
    )

-- ---- tokens come and go

deals_at : (by : ℕ) (rows : Rows) (n : ℕ)
    → Forks Kept by (keeper_of rows n) (keeper_of rows (n + 1)) (token_of n (row_of rows n))
deals_at by rows n words views h there =
    let keep = (h.4 by (keeper_of rows n) there).0 refl in
    let k = keeper_of rows (n + 1) in
    let all = set views by k in
    let last = length all in (
      h.0,
      h.1,
      n + 1,
      owned h.3 n last,
      end_fits h.0 h.1 (n + 1) (owned h.3 n last) all (token_of n (row_of rows n))
          (λ i v _ i_at. set_fits h.0 h.1 (n + 1) (owned h.3 n last) views by k
          (λ j u apart e. let theirs = h.4 j u e in (
            (λ c. absurd (apart ((theirs.0 c).0 ∙ sym keep.0))),
            (λ c. let f = theirs.1 c in
                let low = subst (λ m. u.thread < m) (sym keep.2) f.2 in
                (owned_else h.3 n last u.thread (λ q. omega (arith, low, q)) ∙ f.0, f.1, omega (arith, low))),
          ))
          ((λ _. (keep.0, keep.1, refl)), (λ c. absurd (off c))) i v i_at)
          ((λ c. absurd (off c)), (λ _. (owned_there h.3 n last, ap (λ (l : Rows). row_of l n) (sym keep.1), omega arith))),
    )

takes_at : (by : ℕ) (rows : Rows) (n t : ℕ) (mine : Registers)
    → Forks Kept by (holder_of rows n t mine) (keeper_of rows n) (token_of t mine)
takes_at by rows n t mine words views h there =
    let own = h.4 by (holder_of rows n t mine) there in
    let claim = own.1 refl in
    let k = keeper_of rows n in
    let all = set views by k in
    let last = length all in (
      h.0,
      h.1,
      h.2,
      owned h.3 t last,
      end_fits h.0 h.1 h.2 (owned h.3 t last) all (token_of t mine)
          (λ i v _ i_at. set_fits h.0 h.1 h.2 (owned h.3 t last) views by k
          (λ j u apart e. let theirs = h.4 j u e in (
            theirs.0,
            (λ c. let f = theirs.1 c in
                let far : u.thread ≢ t = λ q. apart (sym f.0 ∙ ap h.3 q ∙ claim.0) in
                (owned_else h.3 t last u.thread far ∙ f.0, f.1, f.2)),
          ))
          (own.0, (λ c. absurd (off c))) i v i_at)
          ((λ c. absurd (off c)), (λ _. (owned_there h.3 t last, claim.1, claim.2))),
    )

lays_at : (by : ℕ) (rows : Rows) (n other t : ℕ) (mine : Registers)
    → Merges Kept by (keeper_of rows n) other (token_of t mine) (holder_of rows n t mine) nobody
lays_at by rows n other t mine words views h here apart there =
    let own = h.4 by (keeper_of rows n) here in
    let w = holder_of rows n t mine in
    let theirs = ⊎_elim (λ (k : (other ≡ by) × (w ≡ token_of t mine)). absurd (apart k.0))
    (λ (k : (other ≢ by) × (get_elem? views other ≡ some (token_of t mine))). h.4 other (token_of t mine) k.1)
    (at_set views by other w (token_of t mine) there) in
    let claim = theirs.1 refl in
    let moved = owned h.3 t by in
    let from : (j : ℕ) (u : View) → j ≢ other → get_elem? views j ≡ some u → Fits h.0 h.1 h.2 moved j u =
    λ j u far e. let f = h.4 j u e in (
      f.0,
      (λ c. let g = f.1 c in
          let off_it : u.thread ≢ t = λ q. far (sym g.0 ∙ ap h.3 q ∙ claim.0) in
          (owned_else h.3 t by u.thread off_it ∙ g.0, g.1, g.2)),
    ) in (
      h.0,
      h.1,
      h.2,
      moved,
      λ j u e. ⊎_elim
          (λ (k : (j ≡ other) × (nobody ≡ u)). subst (λ (y : ℕ × View). Fits h.0 h.1 h.2 moved y.0 y.1)
          (λ i. (sym k.0 i, k.1 i)) ((λ c. absurd (off c)), (λ c. absurd (off c))))
          (λ (k : (j ≢ other) × (get_elem? (set views by w) j ≡ some u)). ⊎_elim
          (λ (m : (j ≡ by) × (w ≡ u)). subst (λ (y : ℕ × View). Fits h.0 h.1 h.2 moved y.0 y.1)
          (λ i. (sym m.0 i, m.1 i)) (own.0, (λ _. (owned_there h.3 t by, claim.1, claim.2))))
          (λ (m : (j ≢ by) × (get_elem? views j ≡ some u)). from j u k.0 m.1)
          (at_set views by j w u k.1))
          (at_set (set views by w) other j nobody u e),
    )

-- ---- the same, at views that are known by equations

pub begun_as : (by : ℕ) (v : View) (old after : Rows) (new : List ℕ) → v ≡ keeper_of old 0
    → Turns Kept by v (λ _. new) (Begun after)
begun_as by v old after new is =
    subst (λ (u : View). Turns Kept by u (λ _. new) (Begun after)) (sym is) (begun_at by old after new)

pub tells_as : (by : ℕ) (v : View) (rows : Rows) (n t : ℕ) (mine : Registers) (after : Rows) (new : List ℕ)
    → v ≡ holder_of rows n t mine → ChangesOnly t rows after → Turns Kept by v (λ _. new) (Told after)
tells_as by v rows n t mine after new is change =
    subst (λ (u : View). Turns Kept by u (λ _. new) (Told after)) (sym is) (tells_at by rows n t mine after new change)

pub finds_as : (by : ℕ) (v : View) (rows : Rows) (n t : ℕ) (mine : Registers) → v ≡ holder_of rows n t mine
    → Turns Kept by v (λ w. w) Found
finds_as by v rows n t mine is =
    subst (λ (u : View). Turns Kept by u (λ w. w) Found) (sym is) (finds_at by rows n t mine)

pub deals_as : (by : ℕ) (v : View) (rows : Rows) (n : ℕ) → v ≡ keeper_of rows n
    → Forks Kept by v (keeper_of v.rows (v.dealt + 1)) (token_of v.dealt (row_of v.rows v.dealt))
deals_as by v rows n is = subst
    (λ (u : View). Forks Kept by u (keeper_of u.rows (u.dealt + 1)) (token_of u.dealt (row_of u.rows u.dealt)))
    (sym is) (deals_at by rows n)

pub takes_as : (by : ℕ) (v : View) (rows : Rows) (n t : ℕ) (mine : Registers) → v ≡ holder_of rows n t mine
    → Forks Kept by v (keeper_of v.rows v.dealt) (token_of v.thread v.registers)
takes_as by v rows n t mine is = subst
    (λ (u : View). Forks Kept by u (keeper_of u.rows u.dealt) (token_of u.thread u.registers))
    (sym is) (takes_at by rows n t mine)

pub lays_as : (by : ℕ) (v : View) (rows : Rows) (n other : ℕ) (w : View) (t : ℕ) (mine : Registers)
    → v ≡ keeper_of rows n → w ≡ token_of t mine
    → Merges Kept by v other w (holder_of v.rows v.dealt w.thread w.registers) nobody
lays_as by v rows n other w t mine is that =
    subst (λ (a : View). Merges Kept by a other w (holder_of a.rows a.dealt w.thread w.registers) nobody) (sym is)
    (subst (λ (b : View). Merges Kept by (keeper_of rows n) other b (holder_of rows n b.thread b.registers) nobody)
    (sym that) (lays_at by rows n other t mine))

-- Targets are opened one after another.
use Rattle.std.proofs.Common.{◌≡◌, ℕ, zero, suc, ◌+◌, ◌-◌, ◌<◌, ◌≤◌, List, [], ◌∷◌, ◌++◌, length, sym, ◌∙◌, ap}
use Rattle.std.proofs.Common.{subst, arith, refl}
use Rattle.std.proofs.lemmas.List.{append_assoc, length-append}
use Rattle.std.proofs.lemmas.Option.{same_Some}
use Rattle.model.specs.declared.records.Buffer.{Buffer}
use Rattle.model.specs.Owning.{Each}
use Rattle.model.specs.States.{HeapState}
use Rattle.model.specs.Protections.{with_target, with_targets, free_count, unused_count}
use Rattle.page.proofs.NextTargets.{OpensNext}
use Rattle.page_rows.specs.Opening.{IsBlank}
use Rattle.page_rows.specs.declared.opening.PageMemory.{PageMemory}
use Rattle.relocate.specs.Targets.{AreBlank, KeepsClosed}

-- opening a target keeps all else
pub target_keeps : (h g : HeapState) (b : Buffer) → OpensNext h.store g.store b.page → g ≡ with_target h (g.store, b)
    → KeepsClosed h g
unfolding with_target
target_keeps h g b next is = record {
  phase = ap (λ (z : HeapState). z.phase) is;
  config = ap (λ (z : HeapState). z.config) is;
  words = next.words;
  count = next.count;
  closed = next.closed;
}

-- a property of each element and of one more at the end
pub each_behind : {X : Type 0} (P : X → Type 0) (ns : List X) (n : X) → Each ns P → P n → Each (ns ++ n ∷ []) P
each_behind P [] n h p zero x e = subst P (same_Some _ _ e) p
each_behind P [] n h p (suc i) x e = absurd (cc)
each_behind P (m ∷ ns) n h p zero x e = h zero x e
each_behind P (m ∷ ns) n h p (suc i) x e = each_behind P ns n (λ j. h (suc j)) p i x e

-- what is left of the memory of k targets after i were opened
abbrev pub IsLeft : ℕ → ℕ → ℕ → List PageMemory → Type 0
IsLeft words k i memory = AreBlank words (k - i) memory

each_last : {X : Type 0} (P : X → Type 0) (xs : List X) (x : X) → Each (xs ++ x ∷ []) P → P x × Each xs P
each_last P [] x h = (h zero x refl, λ i y e. absurd (cc))
each_last P (y ∷ ys) x h =
    let (last, rest) = each_last P ys x (λ i. h (suc i)) in (last, first rest)
  where
    first : Each ys P → Each (y ∷ ys) P
    first rest zero z e = h zero z e
    first rest (suc i) z e = rest i z e

-- the memory of one of them is taken
pub one_taken : (words k i : ℕ) (old new : List PageMemory) (x : PageMemory) → IsLeft words k i old → i < k
    → old ≡ new ++ x ∷ [] → IsBlank words x × IsLeft words k (i + 1) new
one_taken words k i old new x left low is =
    let (last, rest) = each_last (IsBlank words) new x (subst (λ xs. Each xs (IsBlank words)) is left.1) in
    (last, (omega (arith, left.0, ap length is, length-append new (x ∷ []), low), rest))

pub some_left : (words k i : ℕ) (memory : List PageMemory) → IsLeft words k i memory → i < k → 0 < length memory
some_left words k i memory left low = omega (arith, left.0, low)

-- the memory of one more is prepared
pub one_more : (words i : ℕ) (old new : List PageMemory) (x : PageMemory) → AreBlank words i old → IsBlank words x
    → new ≡ old ++ x ∷ [] → AreBlank words (i + 1) new
one_more words i old new x left blank is = (
  omega (arith, left.0, ap length is, length-append old (x ∷ [])),
  subst (λ xs. Each xs (IsBlank words)) (sym is) (each_behind (IsBlank words) old x left.1 blank),
)

-- i of k targets have been opened, on these pages: opening the others has the result of opening all
pub record HasOpened (h g : HeapState) (k i : ℕ) (ns : List ℕ) : Type 0 where
  pub heap : (with_targets (k - i) g).0 ≡ (with_targets k h).0
  pub pages : ns ++ (with_targets (k - i) g).1 ≡ (with_targets k h).1
  pub many : length ns ≡ i
  pub free : k - i ≤ free_count g.store
  pub unused : k - i ≤ unused_count g.store
  pub low : Each ns (λ n. 0 < n)
  pub high : Each ns (λ n. n ≤ h.store.count)
  pub stays : KeepsClosed h g

module _ (h g m : HeapState) (k i n : ℕ) (ns : List ℕ) (o : HasOpened h g k i ns) (low : i < k)
    (first : (j : ℕ) → with_targets (suc j) g ≡ ((with_targets j m).0, n ∷ (with_targets j m).1))
    (free : free_count m.store + 1 ≡ free_count g.store) (unused : unused_count m.store + 1 ≡ unused_count g.store)
    (above : 0 < n) (below : n ≤ g.store.count) (stays : KeepsClosed g m) where
  left : k - i ≡ suc (k - (i + 1))
  left = omega (arith, low)

  next : with_targets (k - i) g ≡ ((with_targets (k - (i + 1)) m).0, n ∷ (with_targets (k - (i + 1)) m).1)
  next = ap (λ j. with_targets j g) left ∙ first (k - (i + 1))

  keeps : KeepsClosed h m
  keeps = record {
    phase = stays.phase ∙ o.stays.phase;
    config = stays.config ∙ o.stays.config;
    words = stays.words ∙ o.stays.words;
    count = stays.count ∙ o.stays.count;
    closed = λ p e. stays.closed p (o.stays.closed p e);
  }

  pub one_opened : HasOpened h m k (i + 1) (ns ++ n ∷ [])
  one_opened = record {
    heap = sym (ap (λ (z : HeapState × List ℕ). z.0) next) ∙ o.heap;
    pages = append_assoc ns (n ∷ []) (with_targets (k - (i + 1)) m).1
        ∙ sym (ap (λ (z : HeapState × List ℕ). ns ++ z.1) next) ∙ o.pages;
    many = length-append ns (n ∷ []) ∙ ap (λ j. j + 1) o.many;
    free = omega (arith, low, o.free, free);
    unused = omega (arith, low, o.unused, unused);
    low = each_behind (λ x. 0 < x) ns n o.low above;
    high = each_behind (λ x. x ≤ h.store.count) ns n o.high (omega (arith, below, o.stays.count));
    stays = keeps;
  }

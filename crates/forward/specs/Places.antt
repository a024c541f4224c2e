-- Places of objects in targets, which are empty pages, and how those of a plan are related. A place is a target, from
-- 0, and an offset.
use Rattle.std.specs.Prelude.{◌≡◌, ◌⊎◌, ℕ, ◌+◌, ◌<◌, ◌≤◌, List, Some, length, slice_get, take, drop}
use Rattle.std.specs.List.{sum_by}
use Rattle.model.specs.Plans.{target_count}

-- n words at q follow m words at p: directly, if they end in the target there, and else at the head of the next one
abbrev pub Follows : (words m n : ℕ) (p q : ℕ × ℕ) → Type 0
Follows words m n p q =
    ((p.1 + m + n ≤ words) × (q ≡ (p.0, p.1 + m))) ⊎ ((words < p.1 + m + n) × (q ≡ (p.0 + 1, 0)))

-- m words at p end before q: in its target, or in an earlier one
abbrev pub EndsBefore : (m : ℕ) (p q : ℕ × ℕ) → Type 0
EndsBefore m p q = ((p.0 ≡ q.0) × (p.1 + m ≤ q.1)) ⊎ (p.0 < q.0)

-- object i has n words and this place
abbrev pub HasPlace : (sizes : List ℕ) (places : List (ℕ × ℕ)) (i n : ℕ) (p : ℕ × ℕ) → Type 0
HasPlace sizes places i n p = (slice_get sizes i ≡ Some n) × (slice_get places i ≡ Some p)

-- the places of objects of these sizes, in targets of `words` words
pub record ArePlanned (words : ℕ) (sizes : List ℕ) (places : List (ℕ × ℕ)) : Type 0 where
  pub many : length places ≡ length sizes
  -- the first is at the head of the first target, and each other follows the previous one
  pub first : (n : ℕ) (p : ℕ × ℕ) → HasPlace sizes places 0 n p → p ≡ (0, 0)
  pub next : (i m n : ℕ) (p q : ℕ × ℕ) → HasPlace sizes places i m p → HasPlace sizes places (i + 1) n q
      → Follows words m n p q
  -- so each lies in its target, which is one of those that are counted, and no two overlap
  pub inside : (i n : ℕ) (p : ℕ × ℕ) → HasPlace sizes places i n p → p.1 + n ≤ words
  pub counted : (i n : ℕ) (p : ℕ × ℕ) → HasPlace sizes places i n p → p.0 < target_count places
  pub apart : (i j m n : ℕ) (p q : ℕ × ℕ) → i < j → HasPlace sizes places i m p → HasPlace sizes places j n q
      → EndsBefore m p q
  -- if consecutive objects have together no more words than a target has, as those of a page do, they lie in two
  -- targets at most: in that of the first of them, and the next one
  pub near : (i k m n : ℕ) (p q : ℕ × ℕ) → HasPlace sizes places i m p → HasPlace sizes places (i + k) n q
      → sum_by (λ size. size) (take (k + 1) (drop i sizes)) ≤ words → (q.0 ≡ p.0) ⊎ (q.0 ≡ p.0 + 1)

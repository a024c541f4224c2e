-- Live words are added up, object by object, and sparse pages listed, page by page.
use Rattle.std.proofs.Common.{◌≡◌, ℕ, zero, suc, ◌+◌, ◌-◌, ◌<◌, ◌≤◌, Bool, true, false, List, [], ◌∷◌, ◌++◌}
use Rattle.std.proofs.Common.{◌*◌, Option, length, get_or, min, refl, sym, ap, ◌∙◌, subst, arith, Some, None}
use Rattle.std.proofs.Common.{if◌then◌else◌}
use Rattle.std.specs.List.{All, slice_get, sum_by}
use Rattle.std.proofs.lemmas.List.{append-nil, append_assoc}
use Rattle.std.proofs.lemmas.Bool.{true≢false}
use Rattle.std.proofs.lemmas.Option.{same_Some}
use Rattle.std.proofs.lemmas.List.Sums.{sum_by-cons, sum_by_push}
use Rattle.std.proofs.lemmas.List.Elements.{All-append, All-cons, All-nil}
use Rattle.std.specs.Prelude.{Result, Ok, Err, OnOk}
use Rattle.model.specs.States.{HeapState}
use Rattle.model.specs.Plans.{offsets_from, live_offsets}
use Rattle.model.specs.Tallies.{most_counted}
use Rattle.model.proofs.OfPages.{of_page_none, of_page_some}
use Rattle.choosing.specs.Choices.{AreOf, ArePages, is_sparse, live_words, measured, measured_if, size_on, sparse_to}
use Rattle.choosing.specs.Choices.{sparse_pages, with_sparse, words_in_use, words_on, words_to}

-- one more object is added to the total
pub total_next : (f : ℕ → ℕ) (left rest : List ℕ) (k total new whole : ℕ) → left ≡ k ∷ rest → total + sum_by f left
    ≡ whole
    → new ≡ total + f k → new + sum_by f rest ≡ whole
total_next f left rest k total new whole is so more =
    omega (arith, ap (sum_by f) is, sum_by-cons f k rest, so, more)

pub total_all : (f : ℕ → ℕ) (left : List ℕ) (total whole : ℕ) → left ≡ [] → total + sum_by f left ≡ whole → total
    ≡ whole
total_all f left total whole none so = omega (arith, ap (sum_by f) none, so)

-- a bit that is set is within its bitmap
pub within : (row : List Bool) (k : ℕ) → get_or row k false ≡ true → k < length row
within [] k here = absurd (true≢false (sym here))
within (b ∷ row) zero here = omega arith
within (b ∷ row) (suc k) here = let less = within row k here in omega (arith, less)

module _ (h : HeapState) (n : ℕ) (low : 0 < n) where
  pub none_live : slice_get h.live (n - 1) ≡ None → 0 ≡ live_words h n
  unfolding live_offsets
  none_live e = ap (λ row. sum_by (size_on h n) (offsets_from 0 row)) (sym (of_page_none h.live n low e))

  pub row_live : (r : List Bool) → slice_get h.live (n - 1) ≡ Some r → sum_by (size_on h n) (offsets_from 0 r)
      ≡ live_words h n
  unfolding live_offsets
  row_live r e = ap (λ row. sum_by (size_on h n) (offsets_from 0 row)) (sym (of_page_some h.live n r low e))

next_is : (h : HeapState) (percent i : ℕ) → sparse_to h percent (i + 1)
    ≡ (if is_sparse h percent (i + 1) then sparse_to h percent i ++ measured h (i + 1) ∷ [] else sparse_to h percent i)
next_is h percent i = let at : suc i ≡ i + 1 = omega arith in
    subst (λ (k : ℕ). sparse_to h percent k ≡ (if is_sparse h percent k then sparse_to h percent i ++ measured h k
    ∷ [] else sparse_to h percent i)) at refl

-- one more page was measured, which is sparse, or not
pub sparse_more : (h : HeapState) (percent i : ℕ) (m : ℕ × ℕ) (found new : List (ℕ × ℕ)) → Some m
    ≡ measured_if h percent (i + 1)
    → found ≡ sparse_to h percent i → new ≡ found ++ m ∷ [] → new ≡ sparse_to h percent (i + 1)
sparse_more h percent i m found new is so more = by (is_sparse h percent (i + 1)) refl is
  where
    by : (b : Bool) → is_sparse h percent (i + 1) ≡ b → Some m ≡ (if b then Some (measured h (i + 1)) else None)
        → new ≡ sparse_to h percent (i + 1)
    by true e at = more ∙ ap (λ l. l ++ m ∷ []) so ∙ ap (λ (z : ℕ × ℕ). sparse_to h percent i ++ z
        ∷ []) (same_Some _ _ at)
        ∙ sym (next_is h percent i ∙ ap (λ (c : Bool). if c then sparse_to h percent i ++ measured h (i + 1)
        ∷ [] else sparse_to h percent i) e)
    by false e at = absurd (cc)

pub sparse_same : (h : HeapState) (percent i : ℕ) (found : List (ℕ × ℕ)) → None ≡ measured_if h percent (i + 1)
    → found ≡ sparse_to h percent i → found ≡ sparse_to h percent (i + 1)
sparse_same h percent i found is so = by (is_sparse h percent (i + 1)) refl is
  where
    by : (b : Bool) → is_sparse h percent (i + 1) ≡ b → None ≡ (if b then Some (measured h (i + 1)) else None)
        → found ≡ sparse_to h percent (i + 1)
    by true e at = absurd (cc)
    by false e at = so ∙ sym (next_is h percent i ∙ ap (λ (c : Bool). if c then sparse_to h percent i ++ measured h
        (i + 1) ∷ [] else sparse_to h percent i) e)

-- one more page was measured
pub words_more : (h : HeapState) (i total live new : ℕ) → live ≡ words_in_use h (i + 1) → total ≡ words_to h i
    → new ≡ total + live → new ≡ words_to h (i + 1)
words_more h i total live new is so more =
    let at : suc i ≡ i + 1 = omega arith in
    more ∙ ap (λ (n : ℕ). n + live) so ∙ ap (λ (n : ℕ). words_to h i + n) is
    ∙ subst (λ (k : ℕ). words_to h i + words_in_use h k ≡ words_to h k) at refl

-- the pages after page `first`, up to page i
module _ (h : HeapState) (percent first i : ℕ) (found : List (ℕ × ℕ)) (total : ℕ)
    (so : AreOf h percent first i found total) where
  added : (m : Option (ℕ × ℕ)) → m ≡ measured_if h percent (i + 1)
      → sparse_to h percent first ++ with_sparse found m ≡ sparse_to h percent (i + 1)
  added None is = sparse_same h percent i (sparse_to h percent first ++ found) is so.pages
  added (Some m) is = sparse_more h percent i m (sparse_to h percent first ++ found)
      (sparse_to h percent first ++ (found ++ m ∷ [])) is so.pages
      (sym (append_assoc (sparse_to h percent first) found (m ∷ [])))

  -- one more page was measured
  pub one_more : (new : List (ℕ × ℕ)) (m : Option (ℕ × ℕ)) (live words : ℕ) → m ≡ measured_if h percent (i + 1)
      → new ≡ with_sparse found m → live ≡ words_in_use h (i + 1) → live ≤ 131071 * 32768 → words ≡ total + live
      → AreOf h percent first (i + 1) new words
  one_more new m live words is more at few sum = record {
    pages = ap (λ l. sparse_to h percent first ++ l) more ∙ added m is;
    words = words_more h i (words_to h first + total) live (words_to h first + words) at so.words
        (omega (arith, sum));
    few = omega (arith, few, sum, so.few);
  }

-- none was measured yet
pub none_yet : (h : HeapState) (percent first : ℕ) → AreOf h percent first first [] 0
none_yet h percent first = record {
  pages = append-nil (sparse_to h percent first);
  words = omega arith;
  few = omega arith;
}

-- two stretches of pages, one after the other
pub both : (h : HeapState) (percent a b c : ℕ) (ps qs : List (ℕ × ℕ)) (m n : ℕ) → AreOf h percent a b ps m
    → AreOf h percent b c qs n → AreOf h percent a c (ps ++ qs) (m + n)
both h percent a b c ps qs m n one other = record {
  pages = sym (append_assoc (sparse_to h percent a) ps qs) ∙ ap (λ l. l ++ qs) one.pages ∙ other.pages;
  words = omega (arith, one.words, other.words);
  few = omega (arith, one.few, other.few);
}

-- if nothing failed
pub joined : {X E : Type 0} (h : HeapState) (percent b c : ℕ) (ps qs new : List (ℕ × ℕ)) (m n words : ℕ)
    (done : Result X E) → AreOf h percent 0 b ps m → AreOf h percent b c qs n → OnOk done (new ≡ ps ++ qs)
    → OnOk done (words ≡ m + n) → OnOk done (AreOf h percent 0 c new words)
joined h percent b c ps qs new m n words (Err e) one other put sum = tt
joined h percent b c ps qs new m n words (Ok x) one other put sum =
    subst (λ (k : ℕ). AreOf h percent 0 c new k) (sym sum)
    (subst (λ (l : List (ℕ × ℕ)). AreOf h percent 0 c l (m + n)) (sym put)
    (both h percent 0 b c ps qs m n one other))

-- one more page was chosen
pub words_next : (h : HeapState) (n live words new : ℕ) (ns ms : List ℕ) → live ≡ live_words h n
    → words ≡ words_on h ns → new ≡ min (words + live) most_counted → ms ≡ ns ++ n ∷ [] → new ≡ words_on h ms
words_next h n live words new ns ms is so more next =
    omega (arith, is, so, more, sum_by_push (live_words h) ns n, ap (sum_by (live_words h)) next)

-- each of them is a page
pages_to : (h : HeapState) (percent n : ℕ) → n ≤ h.store.count → All (ArePages h) (sparse_to h percent n)
pages_to h percent zero few = All-nil (ArePages h)
pages_to h percent (suc n) few = by (is_sparse h percent (suc n)) (pages_to h percent n (omega (arith, few)))
  where
    by : (b : Bool) → All (ArePages h) (sparse_to h percent n)
        → All (ArePages h) (if b then sparse_to h percent n ++ measured h (suc n) ∷ [] else sparse_to h percent n)
    by true rest = All-append (ArePages h) (sparse_to h percent n) (measured h (suc n) ∷ []) rest
        (All-cons (ArePages h) (measured h (suc n)) [] (omega arith, few, refl) (All-nil (ArePages h)))
    by false rest = rest

pub all_pages : (h : HeapState) (percent : ℕ) → All (ArePages h) (sparse_pages h percent)
all_pages h percent = pages_to h percent h.store.count (omega arith)

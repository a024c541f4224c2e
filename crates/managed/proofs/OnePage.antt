-- Words that are read or written on one page.
use Rattle.std.proofs.Common.{◌≡◌, ◌∙◌, ◌+◌, ◌-◌, ◌<◌, ◌≤◌, ◌/◌, ◌%◌, ℕ, zero, suc, true, List, [], ◌∷◌, length}
use Rattle.std.proofs.Common.{Some, None, Option, refl, sym, ap, subst, arith, drop, get_or, set}
use Rattle.std.specs.Prelude.{slice_get, slice_range, nat_le}
use Rattle.std.specs.Prelude.{◌&&◌}
use Rattle.std.specs.List.{list_all}
use Rattle.std.proofs.lemmas.Bool.{and_parts, leb-true}
use Rattle.std.proofs.lemmas.List.{get_or-drop, get_or-take}
use Rattle.std.proofs.lemmas.Option.{same_Some, slice_get_within, slice_get-get_or}
use Rattle.layout.specs.declared.shape.Layout.{Layout}
use Rattle.layout.specs.Objects.{size_of}
use Rattle.model.specs.Configs.{fits_page}
use Rattle.model.specs.Data.{layout_at, layout_in, header_layout}
use Rattle.model.specs.declared.limits.TheConstants.{MOST_FIELDS}
use Rattle.model.specs.Holding.{IsHeap}
use Rattle.model.specs.Owning.{IsStore}
use Rattle.model.specs.States.{HeapState}
use Rattle.model.specs.Stores.{StoreState, overlay, with_word, with_words, word_at, words_at}
use Rattle.model.proofs.Memory.{words_sized}
use Rattle.page.proofs.Behind.{further_on, same_page}
use Rattle.page.proofs.Copied.{nothing_over}
use Rattle.page.proofs.Runs.{unchanged, words_alike, words_twice}
use Rattle.fast_paths.proofs.FoundObjects.{read_within}
use Rattle.heap.specs.Writing.{with_words_after}
use Rattle.managed.specs.Data.{ReadsRun, with_data}

-- ---- how many data words an object has

few_each : (w : ℕ) (ls : List Layout) (i : ℕ) (l : Layout) → list_all (fits_page w) ls ≡ true → slice_get ls i ≡ Some l
    → l.nums ≤ MOST_FIELDS
few_each w [] i l all at = absurd (cc)
few_each w (x ∷ xs) zero l all at =
    let first = (and_parts (fits_page w x) (list_all (fits_page w) xs) all).0 in
    let both = (and_parts (nat_le x.refs MOST_FIELDS && nat_le x.nums MOST_FIELDS) (nat_le (size_of x) w) first).0 in
    let few = (and_parts (nat_le x.refs MOST_FIELDS) (nat_le x.nums MOST_FIELDS) both).1 in
    subst (λ (y : Layout). y.nums ≤ MOST_FIELDS) (same_Some _ _ at) (leb-true x.nums MOST_FIELDS few)
few_each w (x ∷ xs) (suc i) l all at =
    few_each w xs i l (and_parts (fits_page w x) (list_all (fits_page w) xs) all).1 at

pub layout_few : (h : HeapState) (a : ℕ) (l : Layout) → IsHeap h → layout_at h a ≡ Some l → l.nums ≤ MOST_FIELDS
unfolding layout_at
layout_few h a l is at = by_header (header_layout (word_at h.store a)) at
  where
    by_header : (o : Option ℕ) → layout_in h.config.layouts o ≡ Some l → l.nums ≤ MOST_FIELDS
    by_header None e = absurd (cc)
    by_header (Some i) e = few_each h.config.words h.config.layouts i l is.config.fitting e

-- ---- what is read

-- an element of a part
part_at : (ws values : List ℕ) (start i v : ℕ) → start + length values ≤ length ws
    → values ≡ slice_range ws start (start + length values) → slice_get values i ≡ Some v → v ≡ get_or ws (start + i) 0
part_at ws values start i v room is at =
    let low : i < length values = slice_get_within values i v at in
    let size : start + length values - start ≡ length values = omega arith in
    let here : get_or values i 0 ≡ get_or ws (start + i) 0 =
    ap (λ (xs : List ℕ). get_or xs i 0) is
    ∙ get_or-take (start + length values - start) (drop start ws) i 0 (omega (arith, size, low))
    ∙ get_or-drop start ws i 0 in
    same_Some _ _ (sym at ∙ slice_get-get_or values i 0 low) ∙ here

-- words that are copied of a page are those after an address on it
pub page_read : (s : StoreState) (a k start : ℕ) (words values : List ℕ) → IsStore s
    → words_at s (a / s.words) ≡ Some words → start ≡ a % s.words + k → length values ≤ length words - start
    → values ≡ slice_range words start (start + length values) → ReadsRun s (a + k) values true
page_read s a k start words values st page e room is i v at =
    let low : i < length values = slice_get_within values i v at in
    let size = words_sized s (a / s.words) words st page in
    let near : a % s.words + (k + i) < s.words = omega (arith, low, room, e, size) in
    let there : start + i ≡ a % s.words + (k + i) = omega (arith, e) in
    ap (word_at s) (omega arith) ∙ read_within s a (k + i) (a % s.words) words st page refl near
    ∙ ap (λ n. Some (get_or words n 0)) (sym there)
    ∙ ap Some (sym (part_at words values start i v (omega (arith, low, room)) is at))

-- ---- what is written

-- a word, and others after it, are written over words
laid_more : (ws : List ℕ) (o p v : ℕ) (vs : List ℕ) → p ≡ o + 1 → overlay (set ws o v) p vs ≡ overlay ws o (v ∷ vs)
laid_more [] o p v vs e = refl
laid_more (w ∷ ws) zero zero v vs e = absurd (omega (arith, e))
laid_more (w ∷ ws) zero (suc zero) v vs e = refl
laid_more (w ∷ ws) zero (suc (suc p)) v vs e = absurd (omega (arith, e))
laid_more (w ∷ ws) (suc o) zero v vs e = absurd (omega (arith, e))
laid_more (w ∷ ws) (suc o) (suc p) v vs e = ap (λ xs. w ∷ xs) (laid_more ws o p v vs (omega (arith, e)))

-- a word on the page of an address
word_on : (s : StoreState) (a k v : ℕ) → a % s.words + k < s.words
    → with_word s (a + k) v ≡ with_words s (a / s.words) (λ ws. set ws (a % s.words + k) v)
unfolding with_word
word_on s a k v near = rw (same_page a k s.words near, further_on a k s.words near) refl

first_written : (s : StoreState) (a k v : ℕ) (vs : List ℕ) → a % s.words + k < s.words
    → with_words s (a / s.words) (λ ws. overlay ws (a % s.words + k) (v ∷ vs))
    ≡ with_words (with_word s (a + k) v) (a / s.words) (λ ws. overlay ws (a % s.words + (k + 1)) vs)
first_written s a k v vs near =
    words_alike s (a / s.words) _ _ (λ ws. sym (laid_more ws (a % s.words + k) (a % s.words + (k + 1)) v vs (omega arith)))
    ∙ sym (words_twice s (a / s.words) (λ ws. set ws (a % s.words + k) v) (λ ws. overlay ws (a % s.words + (k + 1)) vs))
    ∙ ap (λ (t : StoreState). with_words t (a / s.words) (λ ws. overlay ws (a % s.words + (k + 1)) vs))
    (sym (word_on s a k v near))

-- words on a page are written, one after another
pub page_written : (h : HeapState) (a k : ℕ) (values : List ℕ) → a % h.store.words + k + length values ≤ h.store.words
    → with_words_after h a k values ≡ with_data h (a + k) values
unfolding with_word with_words
page_written h a k [] room =
    ap (λ (s : StoreState). record h { store = s })
    (sym (unchanged h.store (a / h.store.words) _ (λ ws. nothing_over ws (a % h.store.words + k))))
page_written h a k (v ∷ vs) room =
    let g : HeapState = record h { store = with_word h.store (a + k) v } in
    ap (λ (s : StoreState). record h { store = s }) (first_written h.store a k v vs (omega (arith, room)))
    ∙ page_written g a (k + 1) vs (omega (arith, room))
    ∙ ap (λ p. with_data g p vs) (omega arith)

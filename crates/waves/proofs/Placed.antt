-- The heap with the pages of a part.
use Rattle.std.proofs.Common.{◌≡◌, ℕ, zero, suc, ◌+◌, ◌-◌, ◌/◌, ◌%◌, ◌<◌, true, false, Bool}
use Rattle.std.proofs.Common.{List, [], ◌∷◌, get_or, set, map, length, Option, Some, None, refl, sym, ◌∙◌, ap, arith}
use Rattle.std.proofs.Common.{subst, subst₂}
use Rattle.std.specs.List.{slice_get}
use Rattle.std.specs.Option.{option_and_then}
use Rattle.std.specs.Prelude.{if◌then◌else◌}
use Rattle.std.proofs.lemmas.Option.{same_Some, get_or_from_slice_get, slice_get_within}
use Rattle.model.specs.declared.records.Page.{Page}
use Rattle.model.specs.Bits.{of_page, bit_at, put_bit, with_bit}
use Rattle.model.specs.Holding.{IsHeap}
use Rattle.model.specs.Owning.{IsStore}
use Rattle.model.specs.States.{HeapState, change_at}
use Rattle.model.specs.Stores.{StoreState, page_at, frame_in, at_offset, spot_of, word_in, word_at}
use Rattle.model.specs.Stores.{with_word, with_words, changed_in, changed_frame}
use Rattle.model.proofs.Lists.{get_within, changed_there}
use Rattle.model.proofs.Tables.{get_map, rows_many}
use Rattle.waves.specs.Waves.{applied}
use Rattle.page.specs.Owned.{put_frame, words_or}
use Rattle.page.specs.declared.owned.OwnedPage.{OwnedPage}
use Rattle.page.proofs.Copied.{same_set}
use Rattle.page.proofs.Keeping.{page_at_record}
use Rattle.part_scans.specs.Scans.{mark_on, end_on, write_on, word_of}
use Rattle.heap.specs.Owning.{put_page, put_pages}
use Rattle.waves.specs.Parts.{sent_to, FitsPage, FitsPages}
use Rattle.waves.proofs.Placing.{set_in, put_all, AreDistinct, set_all, put_first, put_read}

-- ---- the heap in one edit

abbrev pub frames_of : List OwnedPage → List (List ℕ)
frames_of ps = map (λ (p : OwnedPage). p.frame) ps

abbrev pub marks_of : List OwnedPage → List (List Bool)
marks_of ps = map (λ (p : OwnedPage). p.marked) ps

abbrev pub greys_of : List OwnedPage → List (List Bool)
greys_of ps = map (λ (p : OwnedPage). p.grey) ps

-- the frame of the page of a record's index
abbrev pub frame_of : List Page → ℕ → Option ℕ
frame_of records i = frame_in (slice_get records i)

-- the bitmap of it
abbrev pub row_of : ℕ → Option ℕ
row_of i = Some i

abbrev pub placed : HeapState → ℕ → List OwnedPage → HeapState
placed h i ps = record h {
  store = record h.store { frames = put_all (frame_of h.store.pages) h.store.frames i (frames_of ps) };
  mark = put_all row_of h.mark i (marks_of ps);
  todo = put_all row_of h.todo i (greys_of ps);
}

-- a page that has a frame
record_of : (o : Option Page) (f : ℕ) → frame_in o ≡ Some f → (p : Page) × (o ≡ Some p) × (p.frame ≡ Some f)
record_of None f e = absurd (cc)
record_of (Some p) f e = (p, refl, e)

pub frames_distinct : (s : StoreState) → IsStore s → AreDistinct (frame_of s.pages)
frames_distinct s h i j f a b =
    let (p, x, y) = record_of (slice_get s.pages i) f a in
    let (q, u, v) = record_of (slice_get s.pages j) f b in
    omega (arith, same_Some _ _ (same_Some _ _ (sym (h.owning.owned i f p x y) ∙ h.owning.owned j f q u v)))

pub rows_distinct : AreDistinct row_of
rows_distinct i j f a b = same_Some _ _ (a ∙ sym b)

pub frame_low : (s : StoreState) (i f : ℕ) → IsStore s → frame_of s.pages i ≡ Some f → f < length s.frames
frame_low s i f h e =
    let (p, x, y) = record_of (slice_get s.pages i) f e in
    omega (arith, h.sized.owners, slice_get_within s.owners f _ (h.owning.owned i f p x y))

-- a page's frame has a page's words
pub frame_size : (s : StoreState) (i f : ℕ) → IsStore s → frame_of s.pages i ≡ Some f
    → length (get_or s.frames f []) ≡ s.words
frame_size s i f h e =
    let (p, x, y) = record_of (slice_get s.pages i) f e in
    let (ws, is) = get_within s.frames f (frame_low s i f h e) in
    ap (λ (us : List ℕ). length us) (get_or_from_slice_get s.frames f ws [] is)
    ∙ h.sized.frames f (Some (i + 1)) ws (h.owning.owned i f p x y) is

set_past : {X : Type 0} (xs : List X) (i : ℕ) (v : X) → slice_get xs i ≡ None → set xs i v ≡ xs
set_past [] i v e = refl
set_past (x ∷ xs) zero v e = absurd (cc)
set_past (x ∷ xs) (suc i) v e = ap (λ ys. x ∷ ys) (set_past xs i v e)

put_frame_is : (records : List Page) (i : ℕ) (frames : List (List ℕ)) (ws : List ℕ)
    → put_frame records i frames ws ≡ set_in frames (frame_of records i) ws
put_frame_is records i frames ws = by_frame (frame_of records i)
  where
    by_words : (f : ℕ) (o : Option (List ℕ)) → slice_get frames f ≡ o
        → changed_frame frames f o (λ old. ws) ≡ set frames f ws
    by_words f None e = sym (set_past frames f ws e)
    by_words f (Some us) e = refl

    by_frame : (o : Option ℕ) → changed_in frames o (λ old. ws) ≡ set_in frames o ws
    by_frame None = refl
    by_frame (Some f) = by_words f (slice_get frames f) refl

pub pages_placed : (h : HeapState) (i : ℕ) (ps : List OwnedPage) → AreDistinct (frame_of h.store.pages)
    → put_pages h i ps ≡ placed h i ps
pages_placed h i [] d = refl
pages_placed h i (p ∷ ps) d =
    let frames = ap (λ fs. put_all (frame_of h.store.pages) fs (i + 1) (frames_of ps))
    (put_frame_is h.store.pages i h.store.frames p.frame)
    ∙ put_first (frame_of h.store.pages) h.store.frames (frames_of ps) i (i + 1) p.frame d (omega arith) in
    let marks = put_first row_of h.mark (marks_of ps) i (i + 1) p.marked rows_distinct (omega arith) in
    let greys = put_first row_of h.todo (greys_of ps) i (i + 1) p.grey rows_distinct (omega arith) in
    pages_placed (put_page h i p) (i + 1) ps d
    ∙ (λ z. record h { store = record h.store { frames = frames z }; mark = marks z; todo = greys z })

-- ---- one page

-- an address is on page k of a part whose first page has a record of this index
pub record IsOn (w first k a : ℕ) : Type 0 where
  pub low : 0 < a / w
  pub page : a / w - 1 ≡ first + k

pub fits_one : (h : HeapState) (i k : ℕ) (ps : List OwnedPage) (p : OwnedPage) → FitsPages h i ps
    → slice_get ps k ≡ Some p → FitsPage h (i + k) p
fits_one h i k [] p fits e = absurd (cc)
fits_one h i zero (q ∷ ps) p fits e =
    let same : i ≡ i + 0 = omega arith in
    subst₂ (λ (n : ℕ) (x : OwnedPage). FitsPage h n x) same (same_Some _ _ e) fits.0
fits_one h i (suc k) (q ∷ ps) p fits e =
    let same : (i + 1) + k ≡ i + suc k = omega arith in
    subst (λ (n : ℕ). FitsPage h n p) same (fits_one h (i + 1) k ps p fits.1 e)

map_set : {X Y : Type 0} (f : X → Y) (xs : List X) (i : ℕ) (v : X) → map f (set xs i v) ≡ set (map f xs) i (f v)
map_set f [] i v = refl
map_set f (x ∷ xs) zero v = refl
map_set f (x ∷ xs) (suc i) v = ap (λ ys. f x ∷ ys) (map_set f xs i v)

-- a change that one field doesn't see
map_kept : {X Y : Type 0} (f : X → Y) (xs : List X) (i : ℕ) (x v : X) → slice_get xs i ≡ Some x → f v ≡ f x
    → map f (set xs i v) ≡ map f xs
map_kept f xs i x v e same =
    map_set f xs i v ∙ ap (set (map f xs) i) same ∙ same_set (map f xs) i (f x) (get_map f xs i x e)

-- the row of page n
row_on : (rows : List (List Bool)) (n : ℕ) → 0 < n → of_page rows n ≡ get_or rows (n - 1) []
row_on rows zero l = absurd (omega (arith, l))
row_on rows (suc n) l = let same : n ≡ suc n - 1 = omega arith in ap (λ m. get_or rows m []) same

-- ---- bitmaps

-- a row that was put is read
row_read : (rows : List (List Bool)) (i k n : ℕ) (rs : List (List Bool)) (r : List Bool) → i + k < length rows
    → slice_get rs k ≡ Some r → n ≡ i + k → slice_get (put_all row_of rows i rs) n ≡ Some r
row_read rows i k n rs r l e same =
    put_read row_of rows rs i n k n r rows_distinct refl same (omega (arith, same, l)) e

bit_read : (rows : List (List Bool)) (w i k a : ℕ) (rs : List (List Bool)) (r : List Bool) → i + k < length rows
    → slice_get rs k ≡ Some r → IsOn w i k a → bit_at (put_all row_of rows i rs) w a ≡ get_or r (a % w) false
bit_read rows w i k a rs r l e on =
    ap (λ x. get_or x (a % w) false) (row_on (put_all row_of rows i rs) (a / w) on.low
    ∙ get_or_from_slice_get (put_all row_of rows i rs) (a / w - 1) r []
    (row_read rows i k (a / w - 1) rs r l e on.page))

-- a bit that is put
bit_put : (rows : List (List Bool)) (w i k a : ℕ) (rs : List (List Bool)) (r : List Bool) (b : Bool)
    → i + k < length rows → slice_get rs k ≡ Some r → IsOn w i k a
    → with_bit (put_all row_of rows i rs) w a b ≡ put_all row_of rows i (set rs k (put_bit (a % w) b r))
bit_put rows w i k a rs r b l e on =
    changed_there (put_all row_of rows i rs) (a / w - 1) r (put_bit (a % w) b)
    (row_read rows i k (a / w - 1) rs r l e on.page)
    ∙ set_all row_of rows rs i (a / w - 1) k (a / w - 1) (put_bit (a % w) b r) rows_distinct refl on.page
    (slice_get_within rs k r e)

rows_low : (h : HeapState) (i k : ℕ) (ps : List OwnedPage) (p : OwnedPage) (rows : List (List Bool)) → FitsPages h i ps
    → slice_get ps k ≡ Some p → length rows ≡ length h.store.pages → i + k < length rows
rows_low h i k ps p rows fits e many = omega (arith, (fits_one h i k ps p fits e).there, many)

mark_low : (h : HeapState) (i k : ℕ) (ps : List OwnedPage) (p : OwnedPage) → IsHeap h → FitsPages h i ps
    → slice_get ps k ≡ Some p → i + k < length h.mark
mark_low h i k ps p heap fits e = rows_low h i k ps p h.mark fits e (rows_many h.store h.mark heap.mark)

todo_low : (h : HeapState) (i k : ℕ) (ps : List OwnedPage) (p : OwnedPage) → IsHeap h → FitsPages h i ps
    → slice_get ps k ≡ Some p → i + k < length h.todo
todo_low h i k ps p heap fits e = rows_low h i k ps p h.todo fits e (rows_many h.store h.todo heap.todo)

pub mark_read : (h : HeapState) (i k a : ℕ) (ps : List OwnedPage) (p : OwnedPage) → IsHeap h → FitsPages h i ps
    → slice_get ps k ≡ Some p → IsOn h.store.words i k a
    → bit_at (placed h i ps).mark h.store.words a ≡ get_or p.marked (a % h.store.words) false
mark_read h i k a ps p heap fits e on = bit_read h.mark h.store.words i k a (marks_of ps) p.marked
    (mark_low h i k ps p heap fits e) (get_map (λ (q : OwnedPage). q.marked) ps k p e) on

pub grey_read : (h : HeapState) (i k a : ℕ) (ps : List OwnedPage) (p : OwnedPage) → IsHeap h → FitsPages h i ps
    → slice_get ps k ≡ Some p → IsOn h.store.words i k a
    → bit_at (placed h i ps).todo h.store.words a ≡ get_or p.grey (a % h.store.words) false
grey_read h i k a ps p heap fits e on = bit_read h.todo h.store.words i k a (greys_of ps) p.grey
    (todo_low h i k ps p heap fits e) (get_map (λ (q : OwnedPage). q.grey) ps k p e) on

-- a page that is replaced
page_set : (h : HeapState) (i k : ℕ) (ps : List OwnedPage) (p q : OwnedPage) (frames : List (List ℕ))
    (mark todo : List (List Bool)) → slice_get ps k ≡ Some p
    → frames ≡ put_all (frame_of h.store.pages) h.store.frames i (set (frames_of ps) k q.frame)
    → mark ≡ put_all row_of h.mark i (set (marks_of ps) k q.marked)
    → todo ≡ put_all row_of h.todo i (set (greys_of ps) k q.grey)
    → (record h { store = record h.store { frames = frames }; mark = mark; todo = todo }) ≡ placed h i (set ps k q)
page_set h i k ps p q frames mark todo e f m t =
    let frames_are = f ∙ ap (put_all (frame_of h.store.pages) h.store.frames i)
    (sym (map_set (λ (x : OwnedPage). x.frame) ps k q)) in
    let mark_is = m ∙ ap (put_all row_of h.mark i) (sym (map_set (λ (x : OwnedPage). x.marked) ps k q)) in
    let todo_is = t ∙ ap (put_all row_of h.todo i) (sym (map_set (λ (x : OwnedPage). x.grey) ps k q)) in
    λ z. record h { store = record h.store { frames = frames_are z }; mark = mark_is z; todo = todo_is z }

-- the same element again
again : {X Y : Type 0} (f : X → Y) (place : ℕ → Option ℕ) (xs : List Y) (i k : ℕ) (ps : List X) (p : X)
    → slice_get ps k ≡ Some p → put_all place xs i (map f ps) ≡ put_all place xs i (set (map f ps) k (f p))
again f place xs i k ps p e =
    ap (put_all place xs i) (sym (same_set (map f ps) k (f p) (get_map f ps k p e)))

pub mark_placed : (h : HeapState) (i k t : ℕ) (ps : List OwnedPage) (p : OwnedPage) → IsHeap h → FitsPages h i ps
    → slice_get ps k ≡ Some p → IsOn h.store.words i k t
    → sent_to (placed h i ps) (Some (t, false) ∷ []) ≡ placed h i (change_at ps k (mark_on (t % h.store.words)))
unfolding applied mark_on
mark_placed h i k t ps p heap fits e on =
    page_set h i k ps p (mark_on o p) (placed h i ps).store.frames (with_bit mark w t true)
    (if bit_at mark w t then todo else with_bit todo w t true) e
    (again (λ (q : OwnedPage). q.frame) (frame_of h.store.pages) h.store.frames i k ps p e)
    (bit_put h.mark w i k t (marks_of ps) p.marked true (mark_low h i k ps p heap fits e)
    (get_map (λ (q : OwnedPage). q.marked) ps k p e) on)
    (ap (λ b. if b then todo else with_bit todo w t true) (mark_read h i k t ps p heap fits e on)
    ∙ by_bit (get_or p.marked o false))
    ∙ ap (placed h i) (sym (changed_there ps k p (mark_on o) e))
  where
    w : ℕ
    w = h.store.words

    o : ℕ
    o = t % w

    mark : List (List Bool)
    mark = (placed h i ps).mark

    todo : List (List Bool)
    todo = (placed h i ps).todo

    by_bit : (b : Bool) → (if b then todo else with_bit todo w t true)
        ≡ put_all row_of h.todo i (set (greys_of ps) k (if b then p.grey else put_bit o true p.grey))
    by_bit true = again (λ (q : OwnedPage). q.grey) row_of h.todo i k ps p e
    by_bit false = bit_put h.todo w i k t (greys_of ps) p.grey true (todo_low h i k ps p heap fits e)
        (get_map (λ (q : OwnedPage). q.grey) ps k p e) on

pub end_placed : (h : HeapState) (i k a : ℕ) (ps : List OwnedPage) (p : OwnedPage) → IsHeap h → FitsPages h i ps
    → slice_get ps k ≡ Some p → IsOn h.store.words i k a
    → sent_to (placed h i ps) (Some (a, true) ∷ []) ≡ placed h i (change_at ps k (end_on (a % h.store.words)))
unfolding applied end_on
end_placed h i k a ps p heap fits e on =
    page_set h i k ps p (end_on o p) (placed h i ps).store.frames (placed h i ps).mark
    (with_bit (placed h i ps).todo w a false) e
    (again (λ (q : OwnedPage). q.frame) (frame_of h.store.pages) h.store.frames i k ps p e)
    (again (λ (q : OwnedPage). q.marked) row_of h.mark i k ps p e)
    (bit_put h.todo w i k a (greys_of ps) p.grey false (todo_low h i k ps p heap fits e)
    (get_map (λ (q : OwnedPage). q.grey) ps k p e) on)
    ∙ ap (placed h i) (sym (changed_there ps k p (end_on o) e))
  where
    w : ℕ
    w = h.store.words

    o : ℕ
    o = a % w

-- ---- words

-- the frame of an address
frame_on : (s : StoreState) (i k a : ℕ) → IsOn s.words i k a
    → frame_in (page_at s (a / s.words)) ≡ frame_of s.pages (i + k)
frame_on s i k a on = ap frame_in (page_at_record s (a / s.words) (λ z. absurd (omega (arith, z, on.low))))
    ∙ ap (frame_of s.pages) on.page

frame_read : (h : HeapState) (i k f : ℕ) (ps : List OwnedPage) (p : OwnedPage) → IsStore h.store
    → slice_get ps k ≡ Some p → frame_of h.store.pages (i + k) ≡ Some f
    → slice_get (placed h i ps).store.frames f ≡ Some p.frame
frame_read h i k f ps p s e there =
    put_read (frame_of h.store.pages) h.store.frames (frames_of ps) i (i + k) k f p.frame (frames_distinct h.store s)
    there refl (frame_low h.store (i + k) f s there) (get_map (λ (q : OwnedPage). q.frame) ps k p e)

-- a page without a frame has no words
pub none_in : (h : HeapState) (i : ℕ) (p : OwnedPage) (o : ℕ) → FitsPage h i p → frame_of h.store.pages i ≡ None
    → slice_get p.frame o ≡ None
none_in h i p o fits e = empty p.frame (fits.frame ∙ ap (λ q. length (words_or h.store.frames q [])) e)
  where
    empty : (ws : List ℕ) → length ws ≡ 0 → slice_get ws o ≡ None
    empty [] z = refl
    empty (w ∷ ws) z = absurd (omega (arith, z))

pub word_read : (h : HeapState) (i k a : ℕ) (ps : List OwnedPage) (p : OwnedPage) → IsStore h.store → FitsPages h i ps
    → slice_get ps k ≡ Some p → IsOn h.store.words i k a
    → word_at (placed h i ps).store a ≡ word_of ps k (a % h.store.words)
unfolding word_at spot_of page_at
word_read h i k a ps p s fits e on =
    ap (λ q. word_in (placed h i ps).store.frames (at_offset q o)) (frame_on h.store i k a on)
    ∙ by_frame (frame_of h.store.pages (i + k)) refl
    ∙ sym (ap (option_and_then (λ (x : OwnedPage). slice_get x.frame o)) e)
  where
    o : ℕ
    o = a % h.store.words

    by_frame : (q : Option ℕ) → frame_of h.store.pages (i + k) ≡ q
        → word_in (placed h i ps).store.frames (at_offset q o) ≡ slice_get p.frame o
    by_frame None z = sym (none_in h (i + k) p o (fits_one h i k ps p fits e) z)
    by_frame (Some f) z = ap (option_and_then (λ (ws : List ℕ). slice_get ws o)) (frame_read h i k f ps p s e z)

pub word_placed : (h : HeapState) (i k a v : ℕ) (ps : List OwnedPage) (p : OwnedPage) → IsStore h.store
    → FitsPages h i ps → slice_get ps k ≡ Some p → IsOn h.store.words i k a
    → (record (placed h i ps) { store = with_word (placed h i ps).store a v })
    ≡ placed h i (change_at ps k (write_on (a % h.store.words) v))
unfolding with_word with_words write_on page_at
word_placed h i k a v ps p s fits e on =
    page_set h i k ps p (write_on o v p)
    (changed_in frames (frame_in (page_at h.store (a / h.store.words))) (λ ws. set ws o v))
    (placed h i ps).mark (placed h i ps).todo e
    (ap (λ q. changed_in frames q (λ ws. set ws o v)) (frame_on h.store i k a on)
    ∙ by_frame (frame_of h.store.pages (i + k)) refl)
    (again (λ (q : OwnedPage). q.marked) row_of h.mark i k ps p e)
    (again (λ (q : OwnedPage). q.grey) row_of h.todo i k ps p e)
    ∙ ap (placed h i) (sym (changed_there ps k p (write_on o v) e))
  where
    o : ℕ
    o = a % h.store.words

    frames : List (List ℕ)
    frames = (placed h i ps).store.frames

    none_set : (ws : List ℕ) → slice_get ws o ≡ None → set ws o v ≡ ws
    none_set ws z = set_past ws o v z

    by_frame : (q : Option ℕ) → frame_of h.store.pages (i + k) ≡ q
        → changed_in frames q (λ ws. set ws o v)
        ≡ put_all (frame_of h.store.pages) h.store.frames i (set (frames_of ps) k (set p.frame o v))
    by_frame None z = again (λ (q : OwnedPage). q.frame) (frame_of h.store.pages) h.store.frames i k ps p e
        ∙ ap (λ ws. put_all (frame_of h.store.pages) h.store.frames i (set (frames_of ps) k ws))
        (sym (none_set p.frame (none_in h (i + k) p o (fits_one h i k ps p fits e) z)))
    by_frame (Some f) z = ap (λ x. changed_frame frames f x (λ ws. set ws o v)) (frame_read h i k f ps p s e z)
        ∙ set_all (frame_of h.store.pages) h.store.frames (frames_of ps) i (i + k) k f (set p.frame o v)
        (frames_distinct h.store s) z refl
        (slice_get_within (frames_of ps) k p.frame (get_map (λ (q : OwnedPage). q.frame) ps k p e))

-- Pages of several parts, one part after the other.
use Rattle.std.proofs.Common.{◌≡◌, ◌⊎◌, inl, inr, ℕ, zero, suc, ◌+◌, ◌<◌, ◌≤◌}
use Rattle.std.proofs.Common.{List, [], ◌∷◌, ◌++◌, get_or, map, length, Option, Some, None, refl, sym, ◌∙◌, ap, arith}
use Rattle.std.proofs.Common.{subst}
use Rattle.std.specs.List.{slice_get}
use Rattle.std.specs.Option.{unwrap_or}
use Rattle.std.proofs.lemmas.List.{length-map}
use Rattle.std.proofs.lemmas.Option.{unwrap_or-slice_get, same_Some}
use Rattle.model.specs.Holding.{IsHeap}
use Rattle.model.specs.Owning.{IsStore}
use Rattle.model.specs.States.{HeapState}
use Rattle.page.specs.Owned.{words_or}
use Rattle.page.specs.declared.owned.OwnedPage.{OwnedPage}
use Rattle.part_scans.specs.Scenes.{scene_of}
use Rattle.heap.specs.Owning.{put_page, put_pages, page_of, ArePagesOf}
use Rattle.waves.specs.Parts.{FitsPages}
use Rattle.waves.proofs.Placing.{AreThere, put_same, put_other, put_lengths}
use Rattle.waves.proofs.Placed.{frames_of, marks_of, greys_of, frame_of, row_of, placed, pages_placed}
use Rattle.waves.proofs.Placed.{frames_distinct, rows_distinct}
use Rattle.waves.proofs.Fitting.{frames_sized, marks_sized, greys_sized, placed_store, placed_heap}

-- ---- pages that a heap has already

frames_there : (h : HeapState) (i : ℕ) (ps : List OwnedPage) → ArePagesOf h i ps
    → AreThere [] (frame_of h.store.pages) h.store.frames i (frames_of ps)
frames_there h i [] k = tt
frames_there h i (p ∷ ps) k = (
  λ f e. ap (λ (q : OwnedPage). q.frame) k.0 ∙ ap (λ o. words_or h.store.frames o []) e,
  frames_there h (i + 1) ps k.1,
)

marks_there : (h : HeapState) (i : ℕ) (ps : List OwnedPage) → ArePagesOf h i ps
    → AreThere [] row_of h.mark i (marks_of ps)
marks_there h i [] k = tt
marks_there h i (p ∷ ps) k = (
  λ f e. ap (λ (q : OwnedPage). q.marked) k.0 ∙ ap (λ n. get_or h.mark n []) (same_Some _ _ e),
  marks_there h (i + 1) ps k.1,
)

greys_there : (h : HeapState) (i : ℕ) (ps : List OwnedPage) → ArePagesOf h i ps
    → AreThere [] row_of h.todo i (greys_of ps)
greys_there h i [] k = tt
greys_there h i (p ∷ ps) k = (
  λ f e. ap (λ (q : OwnedPage). q.grey) k.0 ∙ ap (λ n. get_or h.todo n []) (same_Some _ _ e),
  greys_there h (i + 1) ps k.1,
)

-- putting them changes nothing
pub pages_same : (h : HeapState) (i : ℕ) (ps : List OwnedPage) → IsStore h.store → ArePagesOf h i ps
    → put_pages h i ps ≡ h
pages_same h i ps s k =
    let frames = put_same [] (frame_of h.store.pages) h.store.frames (frames_of ps) i (frames_there h i ps k) in
    let marks = put_same [] row_of h.mark (marks_of ps) i (marks_there h i ps k) in
    let greys = put_same [] row_of h.todo (greys_of ps) i (greys_there h i ps k) in
    pages_placed h i ps (frames_distinct h.store s)
    ∙ (λ z. record h { store = record h.store { frames = frames z }; mark = marks z; todo = greys z })

-- they fit
pub pages_fit : (h : HeapState) (i : ℕ) (ps : List OwnedPage) → i + length ps ≤ length h.store.pages
    → ArePagesOf h i ps → FitsPages h i ps
pages_fit h i [] l k = tt
pages_fit h i (p ∷ ps) l k = (
  record {
    there = omega (arith, l);
    frame = ap (λ (q : OwnedPage). length q.frame) k.0;
    marked = ap (λ (q : OwnedPage). length q.marked) k.0;
    grey = ap (λ (q : OwnedPage). length q.grey) k.0;
  },
  pages_fit h (i + 1) ps (omega (arith, l)) k.1,
)

-- ---- pages of another part

same_read : {X : Type 0} (xs ys : List X) (i : ℕ) (d : X) → slice_get ys i ≡ slice_get xs i
    → get_or ys i d ≡ get_or xs i d
same_read xs ys i d e =
    sym (unwrap_or-slice_get ys i d) ∙ ap (λ o. unwrap_or o d) e ∙ unwrap_or-slice_get xs i d

pub page_stays : (h : HeapState) (i j : ℕ) (ps : List OwnedPage) → IsStore h.store → (j < i) ⊎ (i + length ps ≤ j)
    → page_of (placed h i ps) j ≡ page_of h j
page_stays h i j ps s apart = λ z. record {
  frame = by_frame (frame_of h.store.pages j) refl z;
  marked = same_read h.mark (placed h i ps).mark j []
      (put_other row_of h.mark (marks_of ps) i j j rows_distinct refl
      (longer (length-map ps (λ (p : OwnedPage). p.marked)) apart)) z;
  grey = same_read h.todo (placed h i ps).todo j []
      (put_other row_of h.todo (greys_of ps) i j j rows_distinct refl
      (longer (length-map ps (λ (p : OwnedPage). p.grey)) apart)) z;
}
  where
    longer : {m n : ℕ} → m ≡ n → (j < i) ⊎ (i + n ≤ j) → (j < i) ⊎ (i + m ≤ j)
    longer e (inl l) = inl l
    longer e (inr l) = inr (omega (arith, e, l))

    by_frame : (o : Option ℕ) → frame_of h.store.pages j ≡ o
        → words_or (placed h i ps).store.frames o [] ≡ words_or h.store.frames o []
    by_frame None e = refl
    by_frame (Some f) e = same_read h.store.frames (placed h i ps).store.frames f []
        (put_other (frame_of h.store.pages) h.store.frames (frames_of ps) i j f (frames_distinct h.store s) e
        (longer (length-map ps (λ (p : OwnedPage). p.frame)) apart))

pages_stay : (h : HeapState) (i j : ℕ) (ps qs : List OwnedPage) → IsStore h.store
    → (j + length qs ≤ i) ⊎ (i + length ps ≤ j) → ArePagesOf h j qs → ArePagesOf (placed h i ps) j qs
pages_stay h i j ps [] s apart k = tt
pages_stay h i j ps (q ∷ qs) s apart k = (
  k.0 ∙ sym (page_stays h i j ps s (first apart)),
  pages_stay h i (j + 1) ps qs s (rest apart) k.1,
)
  where
    first : (j + suc (length qs) ≤ i) ⊎ (i + length ps ≤ j) → (j < i) ⊎ (i + length ps ≤ j)
    first (inl l) = inl (omega (arith, l))
    first (inr l) = inr l

    rest : (j + suc (length qs) ≤ i) ⊎ (i + length ps ≤ j) → (j + 1 + length qs ≤ i) ⊎ (i + length ps ≤ j + 1)
    rest (inl l) = inl (omega (arith, l))
    rest (inr l) = inr (omega (arith, l))

-- the pages of a heap that are others than those that are put stay its pages
pub pages_apart : (h : HeapState) (i j : ℕ) (ps qs : List OwnedPage) → IsStore h.store
    → (j + length qs ≤ i) ⊎ (i + length ps ≤ j) → ArePagesOf h j qs → ArePagesOf (put_pages h i ps) j qs
pages_apart h i j ps qs s apart k = subst (λ (g : HeapState). ArePagesOf g j qs)
    (sym (pages_placed h i ps (frames_distinct h.store s))) (pages_stay h i j ps qs s apart k)

-- what fits still fits
length_read : {X : Type 0} (xs : List (List X)) (i : ℕ) → get_or (map length xs) i 0 ≡ length (get_or xs i [])
length_read [] i = refl
length_read (x ∷ xs) zero = refl
length_read (x ∷ xs) (suc i) = length_read xs i

same_length : {X : Type 0} (xs ys : List (List X)) (i : ℕ) → map length ys ≡ map length xs
    → length (get_or ys i []) ≡ length (get_or xs i [])
same_length xs ys i e = sym (length_read ys i) ∙ ap (λ ns. get_or ns i 0) e ∙ length_read xs i

fits_stay : (h : HeapState) (i j : ℕ) (ps qs : List OwnedPage) → FitsPages h i ps → FitsPages h j qs
    → FitsPages (placed h i ps) j qs
fits_stay h i j ps [] fits k = tt
fits_stay h i j ps (q ∷ qs) fits k = (
  record {
    there = k.0.there;
    frame = k.0.frame ∙ sym (by_frame (frame_of h.store.pages j));
    marked = k.0.marked ∙ sym (same_length h.mark (placed h i ps).mark j
        (put_lengths row_of h.mark (marks_of ps) i (marks_sized h i ps fits)));
    grey = k.0.grey ∙ sym (same_length h.todo (placed h i ps).todo j
        (put_lengths row_of h.todo (greys_of ps) i (greys_sized h i ps fits)));
  },
  fits_stay h i (j + 1) ps qs fits k.1,
)
  where
    by_frame : (o : Option ℕ)
        → length (words_or (placed h i ps).store.frames o []) ≡ length (words_or h.store.frames o [])
    by_frame None = refl
    by_frame (Some f) = same_length h.store.frames (placed h i ps).store.frames f
        (put_lengths (frame_of h.store.pages) h.store.frames (frames_of ps) i (frames_sized h i ps fits))

pub fits_apart : (h : HeapState) (i j : ℕ) (ps qs : List OwnedPage) → IsStore h.store → FitsPages h i ps
    → FitsPages h j qs → FitsPages (put_pages h i ps) j qs
fits_apart h i j ps qs s fits k = subst (λ (g : HeapState). FitsPages g j qs)
    (sym (pages_placed h i ps (frames_distinct h.store s))) (fits_stay h i j ps qs fits k)

-- ---- what the heap with other pages keeps

pub put_store : (h : HeapState) (i : ℕ) (ps : List OwnedPage) → IsStore h.store → FitsPages h i ps
    → IsStore (put_pages h i ps).store
put_store h i ps s fits = subst (λ (g : HeapState). IsStore g.store)
    (sym (pages_placed h i ps (frames_distinct h.store s))) (placed_store h i ps s fits)

pub put_heap : (h : HeapState) (i : ℕ) (ps : List OwnedPage) → IsStore h.store → IsHeap h → FitsPages h i ps
    → IsHeap (put_pages h i ps)
put_heap h i ps s k fits = subst (λ (g : HeapState). IsHeap g)
    (sym (pages_placed h i ps (frames_distinct h.store s))) (placed_heap h i ps k fits)

pub put_scene : (h : HeapState) (i : ℕ) (ps : List OwnedPage) → scene_of (put_pages h i ps) ≡ scene_of h
put_scene h i [] = refl
put_scene h i (p ∷ ps) = put_scene (put_page h i p) (i + 1) ps

pub put_workers : (h : HeapState) (i : ℕ) (ps : List OwnedPage) → (put_pages h i ps).workers ≡ h.workers
put_workers h i [] = refl
put_workers h i (p ∷ ps) = put_workers (put_page h i p) (i + 1) ps

pub put_words : (h : HeapState) (i : ℕ) (ps : List OwnedPage) → (put_pages h i ps).store.words ≡ h.store.words
put_words h i [] = refl
put_words h i (p ∷ ps) = put_words (put_page h i p) (i + 1) ps

pub put_records : (h : HeapState) (i : ℕ) (ps : List OwnedPage) → (put_pages h i ps).store.pages ≡ h.store.pages
put_records h i [] = refl
put_records h i (p ∷ ps) = put_records (put_page h i p) (i + 1) ps

-- pages that are put one part after the other are put together
pub put_both : (h : HeapState) (i : ℕ) (ps qs : List OwnedPage)
    → put_pages (put_pages h i ps) (i + length ps) qs ≡ put_pages h i (ps ++ qs)
put_both h i [] qs = let same : i + 0 ≡ i = omega arith in ap (λ n. put_pages h n qs) same
put_both h i (p ∷ ps) qs =
    let same : i + suc (length ps) ≡ (i + 1) + length ps = omega arith in
    ap (λ n. put_pages (put_pages (put_page h i p) (i + 1) ps) n qs) same ∙ put_both (put_page h i p) (i + 1) ps qs

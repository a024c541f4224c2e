-- What the pages of a part keep of a heap.
use Rattle.std.proofs.Common.{◌≡◌, ℕ, zero, suc, ◌+◌, true, false, Bool}
use Rattle.std.proofs.Common.{List, [], ◌∷◌, get_or, map, length, Option, Some, None, refl, sym, ◌∙◌, ap, arith}
use Rattle.std.proofs.Common.{subst}
use Rattle.std.specs.List.{slice_get}
use Rattle.std.proofs.lemmas.List.{length-map}
use Rattle.std.proofs.lemmas.Bool.{true≢false}
use Rattle.std.proofs.lemmas.Option.{same_Some, slice_get_within}
use Rattle.model.specs.Bits.{bit_at}
use Rattle.model.specs.Holding.{IsHeap, AreRowsOf}
use Rattle.model.specs.Owning.{IsStore, owned_size}
use Rattle.model.specs.States.{Reference, HeapState, change_at, change_found}
use Rattle.model.specs.Stores.{StoreState, record_count}
use Rattle.model.proofs.Lists.{get_within}
use Rattle.model.proofs.Tables.{get_map}
use Rattle.waves.specs.Waves.{noted_in, all_noted_in, applied}
use Rattle.heap.proofs.Keeping.{store_keeps}
use Rattle.heap.proofs.Marking.{marks_keep, bit_keeps, bit_kept}
use Rattle.page.specs.Owned.{words_or}
use Rattle.page.specs.declared.owned.OwnedPage.{OwnedPage}
use Rattle.page.proofs.Lying.{lies_same}
use Rattle.waves.specs.Parts.{sent_to, FitsPage, FitsPages, AreSent}
use Rattle.waves.proofs.Placing.{AreSized, put_lengths, put_length}
use Rattle.waves.proofs.Placed.{frames_of, marks_of, greys_of, frame_of, row_of, placed}

-- ---- lists that are as long

pub frames_sized : (h : HeapState) (i : ℕ) (ps : List OwnedPage) → FitsPages h i ps
    → AreSized (frame_of h.store.pages) h.store.frames i (frames_of ps)
frames_sized h i [] fits = tt
frames_sized h i (p ∷ ps) fits = (
  λ f e. fits.0.frame ∙ ap (λ q. length (words_or h.store.frames q [])) e,
  frames_sized h (i + 1) ps fits.1,
)

pub marks_sized : (h : HeapState) (i : ℕ) (ps : List OwnedPage) → FitsPages h i ps
    → AreSized row_of h.mark i (marks_of ps)
marks_sized h i [] fits = tt
marks_sized h i (p ∷ ps) fits = (
  λ f e. fits.0.marked ∙ ap (λ n. length (get_or h.mark n [])) (same_Some _ _ e),
  marks_sized h (i + 1) ps fits.1,
)

pub greys_sized : (h : HeapState) (i : ℕ) (ps : List OwnedPage) → FitsPages h i ps
    → AreSized row_of h.todo i (greys_of ps)
greys_sized h i [] fits = tt
greys_sized h i (p ∷ ps) fits = (
  λ f e. fits.0.grey ∙ ap (λ n. length (get_or h.todo n [])) (same_Some _ _ e),
  greys_sized h (i + 1) ps fits.1,
)

-- lists of lists that are as long
alike : {X : Type 0} (xs ys : List (List X)) (f : ℕ) (y : List X) → map length ys ≡ map length xs
    → slice_get ys f ≡ Some y → (x : List X) × (slice_get xs f ≡ Some x) × (length y ≡ length x)
alike xs ys f y e is =
    let many : length ys ≡ length xs =
    sym (length-map ys (λ z. length z)) ∙ ap length e ∙ length-map xs (λ z. length z) in
    let (x, there) = get_within xs f (omega (arith, slice_get_within ys f y is, many)) in (
      x,
      there,
      same_Some _ _ (sym (get_map (λ z. length z) ys f y is) ∙ ap (λ ns. slice_get ns f) e
          ∙ get_map (λ z. length z) xs f x there),
    )

many_alike : {X : Type 0} (xs ys : List (List X)) → map length ys ≡ map length xs → length ys ≡ length xs
many_alike xs ys e = sym (length-map ys (λ z. length z)) ∙ ap length e ∙ length-map xs (λ z. length z)

-- frames that are as long as others are in their place
frames_keep : (s : StoreState) (frames : List (List ℕ)) → IsStore s → map length frames ≡ map length s.frames
    → IsStore (record s { frames = frames })
frames_keep s frames h e =
    let same : length frames ≡ length s.frames = many_alike s.frames frames e in
    record {
      sized = record {
        words_low = h.sized.words_low;
        words = h.sized.words;
        frame_count = omega (arith, same, h.sized.frame_count);
        count = h.sized.count;
        owners = h.sized.owners ∙ sym same;
        pages = h.sized.pages ∙ ap (λ n. record_count n s.count) (sym same);
        frames = λ f o ws a b. by_frame f o ws a (alike s.frames frames f ws e b);
      };
      pages = h.pages;
      owning = record { owned = h.owning.owned; owner = h.owning.owner };
      balanced = record {
        frames = h.balanced.frames ∙ sym same;
        leaving = omega (arith, same, h.balanced.leaving);
      };
    }
  where
    by_frame : (f : ℕ) (o : Option ℕ) (ws : List ℕ) → slice_get s.owners f ≡ Some o
        → (x : List ℕ) × (slice_get s.frames f ≡ Some x) × (length ws ≡ length x) → length ws ≡ owned_size s.words o
    by_frame f o ws a x = x.2 ∙ h.sized.frames f o x.0 a x.1

pub placed_store : (h : HeapState) (i : ℕ) (ps : List OwnedPage) → IsStore h.store → FitsPages h i ps
    → IsStore (placed h i ps).store
placed_store h i ps s fits = frames_keep h.store (placed h i ps).store.frames s
    (put_lengths (frame_of h.store.pages) h.store.frames (frames_of ps) i (frames_sized h i ps fits))

pub placed_heap : (h : HeapState) (i : ℕ) (ps : List OwnedPage) → IsHeap h → FitsPages h i ps → IsHeap (placed h i ps)
placed_heap h i ps k fits =
    let t : StoreState = (placed h i ps).store in
    let frames : length t.frames ≡ length h.store.frames =
    put_length (frame_of h.store.pages) h.store.frames (frames_of ps) i in
    let g : HeapState = record h { store = t } in
    let there : IsHeap g = store_keeps h t k (record { words = refl; count = refl; frames = frames }) refl
    (λ b. lies_same h.store t b refl refl) (λ n. n) in
    marks_keep g g.live (placed h i ps).mark (placed h i ps).todo there there.live
    (put_lengths row_of h.mark (marks_of ps) i (marks_sized h i ps fits) ∙ k.mark)
    (put_lengths row_of h.todo (greys_of ps) i (greys_sized h i ps fits) ∙ k.todo)

-- ---- notes

rows_kept : (s : StoreState) (w : ℕ) (r : List (List Bool) × List (List Bool)) (ns : List Reference) → AreSent w ns
    → AreRowsOf s r.0 → AreRowsOf s r.1
    → AreRowsOf s (all_noted_in w r ns).0 × AreRowsOf s (all_noted_in w r ns).1
rows_kept s w r [] k m t = (m, t)
rows_kept s w r (None ∷ ns) k m t = absurd (true≢false k)
rows_kept s w r (Some (b, true) ∷ ns) k m t = absurd (true≢false k)
rows_kept s w r (Some (b, false) ∷ ns) k m t =
    rows_kept s w (noted_in w r (Some (b, false))) ns k.1 (bit_keeps s r.0 _ w b true m refl)
    (bit_kept s r.1 _ w b true (bit_at r.0 w b) t refl)

pub sent_heap : (h : HeapState) (ns : List Reference) → AreSent h.store.words ns → IsHeap h → IsHeap (sent_to h ns)
unfolding applied
sent_heap h ns k i =
    let both = rows_kept h.store h.store.words (h.mark, h.todo) ns k i.mark i.todo in
    marks_keep h h.live _ _ i i.live both.0 both.1

pub sent_store : (h : HeapState) (ns : List Reference) → IsStore h.store → IsStore (sent_to h ns).store
unfolding applied
sent_store h ns s = s

-- ---- pages that are changed

-- a page with as many words and bits
pub record IsAlike (p q : OwnedPage) : Type 0 where
  pub frame : length q.frame ≡ length p.frame
  pub marked : length q.marked ≡ length p.marked
  pub grey : length q.grey ≡ length p.grey

fits_alike : (h : HeapState) (i : ℕ) (p q : OwnedPage) → IsAlike p q → FitsPage h i p → FitsPage h i q
fits_alike h i p q a f = record {
  there = f.there;
  frame = a.frame ∙ f.frame;
  marked = a.marked ∙ f.marked;
  grey = a.grey ∙ f.grey;
}

pub fits_changed : (h : HeapState) (i k : ℕ) (ps : List OwnedPage) (f : OwnedPage → OwnedPage)
    → ((p : OwnedPage) → IsAlike p (f p)) → FitsPages h i ps → FitsPages h i (change_at ps k f)
fits_changed h i k ps f a fits = by_page i k ps (slice_get ps k) refl fits
  where
    by_page : (i k : ℕ) (ps : List OwnedPage) (o : Option OwnedPage) → slice_get ps k ≡ o → FitsPages h i ps
        → FitsPages h i (change_found ps k o f)
    by_page i k ps None e g = g
    by_page i k [] (Some p) e g = g
    by_page i zero (q ∷ ps) (Some p) e g =
        let same : q ≡ p = same_Some _ _ e in
        (fits_alike h i p (f p) (a p) (subst (λ x. FitsPage h i x) same g.0), g.1)
    by_page i (suc k) (q ∷ ps) (Some p) e g = (g.0, by_page (i + 1) k ps (Some p) e g.1)

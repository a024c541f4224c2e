-- A heap whose pages threads have owned.
use Rattle.std.proofs.Common.{◌≡◌, ℕ, suc, ◌+◌, Bool, List, [], ◌∷◌, ◌++◌, length, map, set}
use Rattle.std.proofs.Common.{refl, sym, ◌∙◌, ap, subst}
use Rattle.std.proofs.lemmas.Option.{same_Some}
use Rattle.model.specs.declared.records.Page.{Page}
use Rattle.model.specs.Holding.{IsHeap}
use Rattle.model.specs.Owning.{IsStore}
use Rattle.model.specs.States.{Reference, HeapState}
use Rattle.model.specs.Stores.{StoreState, page_at}
use Rattle.page.specs.declared.owned.OwnedPage.{OwnedPage}
use Rattle.page.specs.declared.owned.Part.{Part}
use Rattle.page.specs.Owned.{Swapped, SwappedParts, put_frame}
use Rattle.part_scans.specs.Scenes.{scene_of}
use Rattle.heap.specs.Owning.{AreBlank, AreBlankPages, ArePlaced, AreWordless, AreWordlessPages, ScansParts, ScansStore}
use Rattle.page_rows.specs.Owning.{SwappedRows, SwappedRowsOf}
use Rattle.heap.specs.Owning.{put_pages, put_parts}
use Rattle.heap.proofs.Flat.{flat, flat_parts, frame_slot, greys_in, marks_in, parts_greys, parts_marks, placed_rising}
use Rattle.heap.proofs.Flat.{put_frame_is, row_slot, words_in}
use Rattle.heap.proofs.Keeping.{store_keeps}
use Rattle.heap.proofs.Lent.{back_then, parts_lent, rows_back, words_back}
use Rattle.heap.proofs.Marking.{marks_keep}
use Rattle.heap.proofs.Scanning.{are_worded, frames_after, matched_placed, own_frames}
use Rattle.heap.proofs.Shapes.{scanned_sized}
use Rattle.heap.proofs.Sizing.{AreMatched, matched_alike, parts_long, puts_sized}
use Rattle.heap.proofs.Slots.{AreOwn, puts, puts_both, puts_long, puts_over, swaps_puts}

-- a heap with these frames and bitmaps
abbrev pub with_all : HeapState → List (List ℕ) → List (List Bool) → List (List Bool) → HeapState
with_all h fs mark todo = record h { store = record h.store { frames = fs }; mark = mark; todo = todo }

pages_put : (h : HeapState) (fs : List (List ℕ)) (m g : List (List Bool)) (i : ℕ) (ps : List OwnedPage)
    → put_pages (with_all h fs m g) i ps
    ≡ with_all h (puts (frame_slot h.store.pages) fs (flat words_in i ps)) (puts row_slot m (flat marks_in i ps))
    (puts row_slot g (flat greys_in i ps))
pages_put h fs m g i [] = refl
pages_put h fs m g i (p ∷ ps) =
    pages_put h (put_frame h.store.pages i fs p.frame) (set m i p.marked) (set g i p.grey) (i + 1) ps
    ∙ ap (λ us. with_all h (puts (frame_slot h.store.pages) us (flat words_in (i + 1) ps))
    (puts row_slot (set m i p.marked) (flat marks_in (i + 1) ps)) (puts row_slot (set g i p.grey) (flat greys_in (i + 1) ps)))
    (put_frame_is h.store.pages i fs p.frame)

parts_put : (h : HeapState) (fs : List (List ℕ)) (m g : List (List Bool)) (ps : List Part)
    → put_parts (with_all h fs m g) ps
    ≡ with_all h (puts (frame_slot h.store.pages) fs (flat_parts words_in ps)) (puts row_slot m (flat_parts marks_in ps))
    (puts row_slot g (flat_parts greys_in ps))
parts_put h fs m g [] = refl
parts_put h fs m g (p ∷ ps) =
    let slot = frame_slot h.store.pages in
    ap (λ x. put_parts x ps) (pages_put h fs m g p.first p.pages.items)
    ∙ parts_put h (puts slot fs (flat words_in p.first p.pages.items)) (puts row_slot m (flat marks_in p.first p.pages.items))
    (puts row_slot g (flat greys_in p.first p.pages.items)) ps
    ∙ (λ j. with_all h
    (puts_both slot fs (flat words_in p.first p.pages.items) (flat_parts words_in ps) j)
    (puts_both row_slot m (flat marks_in p.first p.pages.items) (flat_parts marks_in ps) j)
    (puts_both row_slot g (flat greys_in p.first p.pages.items) (flat_parts greys_in ps) j))

own_rows : AreOwn row_slot
own_rows i j f a b = same_Some _ _ (a ∙ sym b)

-- ---- parts whose bitmaps were swapped

rows_long : (i : ℕ) (mark todo : List (List Bool)) (ps : List OwnedPage) (m g : List (List Bool)) (qs : List OwnedPage)
    → SwappedRows i mark todo ps m g qs → length ps ≡ length qs
rows_long i mark todo [] m g [] k = refl
rows_long i mark todo [] m g (q ∷ qs) k = absurd (cc)
rows_long i mark todo (p ∷ ps) m g [] k = absurd (cc)
rows_long i mark todo (p ∷ ps) m g (q ∷ qs) k =
    ap suc (rows_long (i + 1) (set mark i p.marked) (set todo i p.grey) ps m g qs k.1)

pub rows_matched : (mark todo : List (List Bool)) (ps : List Part) (m g : List (List Bool)) (qs : List Part)
    → SwappedRowsOf mark todo ps m g qs → AreMatched ps qs
rows_matched mark todo [] m g [] k = tt
rows_matched mark todo [] m g (q ∷ qs) k = absurd (cc)
rows_matched mark todo (p ∷ ps) m g [] k = absurd (cc)
rows_matched mark todo (p ∷ ps) m g (q ∷ qs) k = (
  sym (ap (λ (x : Part). x.first) k.3),
  rows_long p.first mark todo p.pages.items k.0 k.1 q.pages.items k.2,
  rows_matched k.0 k.1 ps m g qs k.4,
)

rows_words : (i : ℕ) (mark todo : List (List Bool)) (ps : List OwnedPage) (m g : List (List Bool)) (qs : List OwnedPage)
    → AreBlankPages ps → SwappedRows i mark todo ps m g qs → AreWordlessPages qs
rows_words i mark todo [] m g [] b k = tt
rows_words i mark todo [] m g (q ∷ qs) b k = absurd (cc)
rows_words i mark todo (p ∷ ps) m g [] b k = absurd (cc)
rows_words i mark todo (p ∷ ps) m g (q ∷ qs) b k = (
  ap (λ (x : OwnedPage). x.frame) k.0 ∙ ap (λ (x : OwnedPage). x.frame) b.0,
  rows_words (i + 1) (set mark i p.marked) (set todo i p.grey) ps m g qs b.1 k.1,
)

pub rows_wordless : (mark todo : List (List Bool)) (ps : List Part) (m g : List (List Bool)) (qs : List Part)
    → AreBlank ps → SwappedRowsOf mark todo ps m g qs → AreWordless qs
rows_wordless mark todo [] m g [] b k = tt
rows_wordless mark todo [] m g (q ∷ qs) b k = absurd (cc)
rows_wordless mark todo (p ∷ ps) m g [] b k = absurd (cc)
rows_wordless mark todo (p ∷ ps) m g (q ∷ qs) b k = (
  rows_words p.first mark todo p.pages.items k.0 k.1 q.pages.items b.0 k.2,
  rows_wordless k.0 k.1 ps m g qs b.1 k.4,
)

-- ---- parts whose words were swapped

words_kept : (records : List Page) (i : ℕ) (fs : List (List ℕ)) (ps : List OwnedPage) (gs : List (List ℕ))
    (qs : List OwnedPage) → Swapped records i fs ps gs qs → (length ps ≡ length qs)
    × (flat marks_in i qs ≡ flat marks_in i ps) × (flat greys_in i qs ≡ flat greys_in i ps)
words_kept records i fs [] gs [] k = (refl, refl, refl)
words_kept records i fs [] gs (q ∷ qs) k = absurd (cc)
words_kept records i fs (p ∷ ps) gs [] k = absurd (cc)
words_kept records i fs (p ∷ ps) gs (q ∷ qs) k =
    let rest = words_kept records (i + 1) (put_frame records i fs p.frame) ps gs qs k.1 in (
      ap suc rest.0,
      (λ j. (i, (k.0 j).marked) ∷ rest.1 j),
      (λ j. (i, (k.0 j).grey) ∷ rest.2 j),
    )

-- what words that are swapped leave
pub record WordsKept (ps qs : List Part) : Type 0 where
  pub matched : AreMatched ps qs
  pub marks : flat_parts marks_in qs ≡ flat_parts marks_in ps
  pub greys : flat_parts greys_in qs ≡ flat_parts greys_in ps

pub parts_kept : (records : List Page) (fs : List (List ℕ)) (ps : List Part) (gs : List (List ℕ)) (qs : List Part)
    → SwappedParts records fs ps gs qs → WordsKept ps qs
parts_kept records fs [] gs [] k = record { matched = tt; marks = refl; greys = refl }
parts_kept records fs [] gs (q ∷ qs) k = absurd (cc)
parts_kept records fs (p ∷ ps) gs [] k = absurd (cc)
parts_kept records fs (p ∷ ps) gs (q ∷ qs) k =
    let one = words_kept records p.first fs p.pages.items k.0 q.pages.items k.1 in
    let rest = parts_kept records k.0 ps gs qs k.3 in
    let first : q.first ≡ p.first = ap (λ (x : Part). x.first) k.2 in
    record {
      matched = (sym first, one.0, rest.matched);
      marks = (λ j. flat marks_in (first j) q.pages.items ++ rest.marks j)
          ∙ ap (λ us. us ++ flat_parts marks_in ps) one.1;
      greys = (λ j. flat greys_in (first j) q.pages.items ++ rest.greys j)
          ∙ ap (λ us. us ++ flat_parts greys_in ps) one.2;
    }

matched_then : (ps qs rs : List Part) → AreMatched ps qs → AreMatched qs rs → AreMatched ps rs
matched_then [] [] [] a b = tt
matched_then [] [] (r ∷ rs) a b = absurd (cc)
matched_then [] (q ∷ qs) rs a b = absurd (cc)
matched_then (p ∷ ps) [] rs a b = absurd (cc)
matched_then (p ∷ ps) (q ∷ qs) [] a b = absurd (cc)
matched_then (p ∷ ps) (q ∷ qs) (r ∷ rs) a b = (a.0 ∙ b.0, a.1 ∙ b.1, matched_then ps qs rs a.2 b.2)

-- ---- the heap in the end

-- what was done to a heap: bitmaps were swapped, parts scanned, and bitmaps swapped again
pub record HasOwned (h : HeapState) (notes : List Reference) (most : ℕ) (parts : List Part) (t : StoreState)
    (m g : List (List Bool)) (after : List Part) : Type 0 where
  pub mark : List (List Bool)
  pub todo : List (List Bool)
  pub given : List Part
  pub back : List Part
  pub take : SwappedRowsOf h.mark h.todo parts mark todo given
  pub scans : ScansStore (scene_of h) notes most h.store given t back
  pub give : SwappedRowsOf mark todo back m g after

pub placed_given : (h : HeapState) (parts given : List Part) (m g : List (List Bool))
    → ArePlaced (length h.store.pages) 0 parts → SwappedRowsOf h.mark h.todo parts m g given
    → ArePlaced (length h.store.pages) 0 given
placed_given h parts given m g p k =
    matched_placed (length h.store.pages) 0 parts given (rows_matched h.mark h.todo parts m g given k) p

-- how parts go on from one to the next
pub record AreChained (parts given after returned : List Part) : Type 0 where
  pub left : AreMatched given after
  pub whole : AreMatched parts after
  pub back : AreMatched parts returned

pub chained : (h : HeapState) (notes : List Reference) (most : ℕ) (parts given : List Part) (m g : List (List Bool))
    (t : StoreState) (back : List Part) → IsStore h.store → AreBlank parts → ArePlaced (length h.store.pages) 0 parts
    → SwappedRowsOf h.mark h.todo parts m g given → (k : ScansStore (scene_of h) notes most h.store given t back)
    → AreChained parts given k.left back
chained h notes most parts given m g t back s b p rows k =
    let first = rows_matched h.mark h.todo parts m g given rows in
    let worded = are_worded h.store.pages h.store.frames (length h.store.pages) given k.between k.lent k.left
    (own_frames h.store s) (rows_wordless h.mark h.todo parts m g given b rows)
    (placed_given h parts given m g p rows) k.take
    (scanned_sized (scene_of h) notes most k.lent k.left k.scanned) in
    let kept = parts_kept h.store.pages k.between k.left t.frames back k.give in
    let whole = matched_then parts given k.left first worded.matched in
    record {
      left = worded.matched;
      whole = whole;
      back = matched_then parts k.left back whole kept.matched;
    }

pub record IsOwned (h : HeapState) (notes : List Reference) (most : ℕ) (parts : List Part) (t : StoreState)
    (m g : List (List Bool)) (after : List Part) : Type 0 where
  pub scans : ScansParts h notes most parts (record h { store = t; mark = m; todo = g }) after
  pub frames : length t.frames ≡ length h.store.frames
  pub same : t ≡ record h.store { frames = t.frames }
  pub marks : map length m ≡ map length h.mark
  pub greys : map length g ≡ map length h.todo

pub owned : (h : HeapState) (notes : List Reference) (most : ℕ) (parts : List Part) (t : StoreState)
    (m g : List (List Bool)) (after : List Part) → IsStore h.store → AreBlank parts → ArePlaced (length h.store.pages) 0 parts
    → HasOwned h notes most parts t m g after → IsOwned h notes most parts t m g after
owned h notes most parts t m g after s b p k =
    let own = own_frames h.store s in
    let slot = frame_slot h.store.pages in
    let left : List Part = k.scans.left in
    let chain = chained h notes most parts k.given k.mark k.todo t k.back s b p k.take k.scans in
    let kept = parts_kept h.store.pages k.scans.between left t.frames k.back k.scans.give in
    let lent = parts_lent h (length h.store.pages) parts k.mark k.todo k.given k.scans.between k.scans.lent own b p
    k.take k.scans.take in
    let long = parts_long h parts k.scans.lent left lent
    (scanned_sized (scene_of h) notes most k.scans.lent left k.scans.scanned) in
    let frames : t.frames ≡ puts slot h.store.frames (flat_parts words_in left) =
    frames_after h.store.pages h.store.frames (length h.store.pages) k.given k.scans.between k.scans.lent left
    t.frames k.back own (placed_given h parts k.given k.mark k.todo p k.take) k.scans.take chain.left k.scans.give in
    let marks : m ≡ puts row_slot h.mark (flat_parts marks_in left) =
    swaps_puts row_slot k.mark (flat_parts marks_in k.back) m _ (parts_marks k.mark k.todo k.back m g after k.give)
    ∙ ap (puts row_slot k.mark) kept.marks
    ∙ ap (λ us. puts row_slot us (flat_parts marks_in left)) (swaps_puts row_slot h.mark (flat_parts marks_in parts)
    k.mark _ (parts_marks h.mark h.todo parts k.mark k.todo k.given k.take))
    ∙ puts_over row_slot h.mark 0 (flat_parts marks_in parts) (flat_parts marks_in left) own_rows
    (placed_rising marks_in (length h.store.pages) 0 parts p) (matched_alike marks_in parts left chain.whole) in
    let greys : g ≡ puts row_slot h.todo (flat_parts greys_in left) =
    swaps_puts row_slot k.todo (flat_parts greys_in k.back) g _ (parts_greys k.mark k.todo k.back m g after k.give)
    ∙ ap (puts row_slot k.todo) kept.greys
    ∙ ap (λ us. puts row_slot us (flat_parts greys_in left)) (swaps_puts row_slot h.todo (flat_parts greys_in parts)
    k.todo _ (parts_greys h.mark h.todo parts k.mark k.todo k.given k.take))
    ∙ puts_over row_slot h.todo 0 (flat_parts greys_in parts) (flat_parts greys_in left) own_rows
    (placed_rising greys_in (length h.store.pages) 0 parts p) (matched_alike greys_in parts left chain.whole) in
    record {
      scans = record {
        lent = k.scans.lent;
        left = left;
        pages = lent;
        scanned = k.scans.scanned;
        heap = (λ j. record h { store = k.scans.same j; mark = m; todo = g })
            ∙ (λ j. with_all h (frames j) (marks j) (greys j))
            ∙ sym (parts_put h h.store.frames h.mark h.todo left);
        back = back_then left k.back after
            (words_back h.store.pages k.scans.between left t.frames k.back k.scans.give)
            (rows_back k.mark k.todo k.back m g after k.give);
      };
      frames = ap length frames ∙ puts_long slot h.store.frames (flat_parts words_in left);
      same = k.scans.same;
      marks = ap (map length) marks ∙ puts_sized row_slot h.mark (flat_parts marks_in left) long.1;
      greys = ap (map length) greys ∙ puts_sized row_slot h.todo (flat_parts greys_in left) long.2;
    }

pub owned_heap : (h : HeapState) (notes : List Reference) (most : ℕ) (parts : List Part) (t : StoreState)
    (m g : List (List Bool)) (after : List Part) → IsHeap h → IsOwned h notes most parts t m g after
    → IsHeap (record h { store = t; mark = m; todo = g })
unfolding page_at
owned_heap h notes most parts t m g after i k =
    let u : StoreState = record h.store { frames = t.frames } in
    let one = store_keeps h u i (record { words = refl; count = refl; frames = k.frames }) refl
    (λ b lies. record { page = lies.page; order = lies.order; end = lies.end }) (λ none. none) in
    subst (λ (s : StoreState). IsHeap (record h { store = s; mark = m; todo = g })) (sym k.same)
    (marks_keep (record h { store = u }) h.live m g one i.live (k.marks ∙ i.mark) (k.greys ∙ i.todo))

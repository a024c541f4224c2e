-- Parts get the pages of a heap.
use Rattle.std.proofs.Common.{◌≡◌, ℕ, suc, ◌+◌, ◌≤◌, Bool, List, [], ◌∷◌, length, get_or, set}
use Rattle.std.proofs.Common.{refl, sym, ◌∙◌, ap, arith, subst, true, false}
use Rattle.std.proofs.lemmas.List.{get_or-set_other}
use Rattle.model.specs.declared.records.Page.{Page}
use Rattle.model.specs.States.{HeapState}
use Rattle.page.specs.declared.owned.OwnedPage.{OwnedPage}
use Rattle.page.specs.declared.owned.Part.{Part}
use Rattle.page.specs.Owned.{Swapped, SwappedParts, lent_frame, put_frame}
use Rattle.page_rows.specs.Owning.{SwappedRows, SwappedRowsOf}
use Rattle.heap.specs.Owning.{AreBack, AreBlank, AreBlankPages, AreLent, ArePagesOf, ArePlaced}
use Rattle.heap.proofs.Flat.{frame_slot, lent_is, put_frame_is}
use Rattle.heap.proofs.Slots.{AreOwn, get_other, put_in}

-- ---- bitmaps

-- from an index on, bitmaps are as they were at first
abbrev pub AreAsRows : ℕ → List (List Bool) → List (List Bool) → Type 0
AreAsRows i first now = (j : ℕ) (d : List Bool) → i ≤ j → get_or now j d ≡ get_or first j d

as_next : (i : ℕ) (first now : List (List Bool)) (v : List Bool) → AreAsRows i first now
    → AreAsRows (i + 1) first (set now i v)
as_next i first now v k j d l =
    get_or-set_other now i j v d (λ e. absurd (omega (arith, e, l))) ∙ k j d (omega (arith, l))

as_later : (m n : ℕ) (first now : List (List Bool)) → m ≤ n → AreAsRows m first now → AreAsRows n first now
as_later m n first now l k j d le = k j d (omega (arith, l, le))

-- pages got the bitmaps from an index on
abbrev pub RowsLent : List (List Bool) → List (List Bool) → ℕ → List OwnedPage → List OwnedPage → Type 0
RowsLent mark todo i [] [] = Unit {0}
RowsLent mark todo i [] (q ∷ qs) = true ≡ false
RowsLent mark todo i (p ∷ ps) [] = true ≡ false
RowsLent mark todo i (p ∷ ps) (q ∷ qs) =
    (q ≡ record p { marked = get_or mark i p.marked; grey = get_or todo i p.grey })
    × RowsLent mark todo (i + 1) ps qs

-- the same of one part, and what is left for the next
pub record RowsTaken (mark todo : List (List Bool)) (i : ℕ) (ps : List OwnedPage) (m g : List (List Bool))
    (qs : List OwnedPage) : Type 0 where
  pub lent : RowsLent mark todo i ps qs
  pub marks : AreAsRows (i + length ps) mark m
  pub greys : AreAsRows (i + length ps) todo g

pub rows_taken : (mark todo : List (List Bool)) (i : ℕ) (m g : List (List Bool)) (ps : List OwnedPage)
    (m2 g2 : List (List Bool)) (qs : List OwnedPage) → AreAsRows i mark m → AreAsRows i todo g
    → SwappedRows i m g ps m2 g2 qs → RowsTaken mark todo i ps m2 g2 qs
rows_taken mark todo i m g [] m2 g2 [] a b k = record {
  lent = tt;
  marks = subst (AreAsRows (i + 0) mark) (sym k.0) (as_later i (i + 0) mark m (omega arith) a);
  greys = subst (AreAsRows (i + 0) todo) (sym k.1) (as_later i (i + 0) todo g (omega arith) b);
}
rows_taken mark todo i m g [] m2 g2 (q ∷ qs) a b k = absurd (cc)
rows_taken mark todo i m g (p ∷ ps) m2 g2 [] a b k = absurd (cc)
rows_taken mark todo i m g (p ∷ ps) m2 g2 (q ∷ qs) a b k =
    let rest = rows_taken mark todo (i + 1) (set m i p.marked) (set g i p.grey) ps m2 g2 qs
    (as_next i mark m p.marked a) (as_next i todo g p.grey b) k.1 in
    let same : i + 1 + length ps ≤ i + suc (length ps) = omega arith in
    record {
      lent = (
        k.0 ∙ (λ j. record p {
          marked = a i p.marked (omega arith) j;
          grey = b i p.grey (omega arith) j;
        }),
        rest.lent,
      );
      marks = as_later (i + 1 + length ps) (i + suc (length ps)) mark m2 same rest.marks;
      greys = as_later (i + 1 + length ps) (i + suc (length ps)) todo g2 same rest.greys;
    }

-- ---- words

-- from an index on, pages have the words that they had at first
abbrev pub AreAsWords : List Page → ℕ → List (List ℕ) → List (List ℕ) → Type 0
AreAsWords records i first now =
    (j : ℕ) (d : List ℕ) → i ≤ j → lent_frame records j now d ≡ lent_frame records j first d

words_next : (records : List Page) (i : ℕ) (first now : List (List ℕ)) (v : List ℕ) → AreOwn (frame_slot records)
    → AreAsWords records i first now → AreAsWords records (i + 1) first (put_frame records i now v)
words_next records i first now v own k j d l =
    ap (λ fs. lent_frame records j fs d) (put_frame_is records i now v)
    ∙ lent_is records j (put_in now (frame_slot records i) v) d
    ∙ get_other (frame_slot records) now i j v d own (λ e. absurd (omega (arith, e, l)))
    ∙ sym (lent_is records j now d) ∙ k j d (omega (arith, l))

pub words_later : (records : List Page) (m n : ℕ) (first now : List (List ℕ)) → m ≤ n → AreAsWords records m first now
    → AreAsWords records n first now
words_later records m n first now l k j d le = k j d (omega (arith, l, le))

abbrev pub WordsLent : List Page → List (List ℕ) → ℕ → List OwnedPage → List OwnedPage → Type 0
WordsLent records fs i [] [] = Unit {0}
WordsLent records fs i [] (q ∷ qs) = true ≡ false
WordsLent records fs i (p ∷ ps) [] = true ≡ false
WordsLent records fs i (p ∷ ps) (q ∷ qs) =
    (q ≡ record p { frame = lent_frame records i fs p.frame }) × WordsLent records fs (i + 1) ps qs

pub record WordsTaken (records : List Page) (fs : List (List ℕ)) (i : ℕ) (ps : List OwnedPage) (gs : List (List ℕ))
    (qs : List OwnedPage) : Type 0 where
  pub lent : WordsLent records fs i ps qs
  pub words : AreAsWords records (i + length ps) fs gs

pub words_taken : (records : List Page) (fs : List (List ℕ)) (i : ℕ) (now : List (List ℕ)) (ps : List OwnedPage)
    (gs : List (List ℕ)) (qs : List OwnedPage) → AreOwn (frame_slot records) → AreAsWords records i fs now
    → Swapped records i now ps gs qs → WordsTaken records fs i ps gs qs
words_taken records fs i now [] gs [] own a k = record {
  lent = tt;
  words = subst (AreAsWords records (i + 0) fs) (sym k) (words_later records i (i + 0) fs now (omega arith) a);
}
words_taken records fs i now [] gs (q ∷ qs) own a k = absurd (cc)
words_taken records fs i now (p ∷ ps) gs [] own a k = absurd (cc)
words_taken records fs i now (p ∷ ps) gs (q ∷ qs) own a k =
    let rest = words_taken records fs (i + 1) (put_frame records i now p.frame) ps gs qs own
    (words_next records i fs now p.frame own a) k.1 in
    let same : i + 1 + length ps ≤ i + suc (length ps) = omega arith in
    record {
      lent = (k.0 ∙ (λ j. record p { frame = a i p.frame (omega arith) j }), rest.lent);
      words = words_later records (i + 1 + length ps) (i + suc (length ps)) fs gs same rest.words;
    }

-- ---- pages

pub pages_lent : (h : HeapState) (i : ℕ) (ps qs rs : List OwnedPage) → AreBlankPages ps
    → RowsLent h.mark h.todo i ps qs → WordsLent h.store.pages h.store.frames i qs rs → ArePagesOf h i rs
pages_lent h i [] [] [] b k l = tt
pages_lent h i [] [] (r ∷ rs) b k l = absurd (cc)
pages_lent h i [] (q ∷ qs) rs b k l = absurd (cc)
pages_lent h i (p ∷ ps) [] rs b k l = absurd (cc)
pages_lent h i (p ∷ ps) (q ∷ qs) [] b k l = absurd (cc)
pages_lent h i (p ∷ ps) (q ∷ qs) (r ∷ rs) b k l = (
  l.0 ∙ (λ j. record (k.0 j) { frame = lent_frame h.store.pages i h.store.frames (k.0 j).frame })
      ∙ (λ j. record {
        frame = lent_frame h.store.pages i h.store.frames (b.0 j).frame;
        marked = get_or h.mark i (b.0 j).marked;
        grey = get_or h.todo i (b.0 j).grey;
      }),
  pages_lent h (i + 1) ps qs rs b.1 k.1 l.1,
)

pub long_lent : (mark todo : List (List Bool)) (i : ℕ) (ps qs : List OwnedPage) → RowsLent mark todo i ps qs
    → length qs ≡ length ps
long_lent mark todo i [] [] k = refl
long_lent mark todo i [] (q ∷ qs) k = absurd (cc)
long_lent mark todo i (p ∷ ps) [] k = absurd (cc)
long_lent mark todo i (p ∷ ps) (q ∷ qs) k = ap suc (long_lent mark todo (i + 1) ps qs k.1)

pub long_words : (records : List Page) (fs : List (List ℕ)) (i : ℕ) (ps qs : List OwnedPage)
    → WordsLent records fs i ps qs → length qs ≡ length ps
long_words records fs i [] [] k = refl
long_words records fs i [] (q ∷ qs) k = absurd (cc)
long_words records fs i (p ∷ ps) [] k = absurd (cc)
long_words records fs i (p ∷ ps) (q ∷ qs) k = ap suc (long_words records fs (i + 1) ps qs k.1)

-- ---- parts

parts_lent_from : (h : HeapState) (n low : ℕ) (ps : List Part) (m g m2 g2 : List (List Bool)) (qs : List Part)
    (fs gs : List (List ℕ)) (rs : List Part) → AreOwn (frame_slot h.store.pages) → AreBlank ps → ArePlaced n low ps
    → AreAsRows low h.mark m → AreAsRows low h.todo g → AreAsWords h.store.pages low h.store.frames fs
    → SwappedRowsOf m g ps m2 g2 qs → SwappedParts h.store.pages fs qs gs rs → AreLent h ps rs
parts_lent_from h n low [] m g m2 g2 [] fs gs [] own b p a c w k l = tt
parts_lent_from h n low [] m g m2 g2 [] fs gs (r ∷ rs) own b p a c w k l = absurd (cc)
parts_lent_from h n low [] m g m2 g2 (q ∷ qs) fs gs rs own b p a c w k l = absurd (cc)
parts_lent_from h n low (x ∷ xs) m g m2 g2 [] fs gs rs own b p a c w k l = absurd (cc)
parts_lent_from h n low (x ∷ xs) m g m2 g2 (q ∷ qs) fs gs [] own b p a c w k l = absurd (cc)
parts_lent_from h n low (x ∷ xs) m g m2 g2 (q ∷ qs) fs gs (r ∷ rs) own b p a c w k l =
    let first : q.first ≡ x.first = ap (λ (y : Part). y.first) k.3 in
    let rows = rows_taken h.mark h.todo x.first m g x.pages.items k.0 k.1 q.pages.items
    (as_later low x.first h.mark m p.0 a) (as_later low x.first h.todo g p.0 c) k.2 in
    let words = words_taken h.store.pages h.store.frames x.first fs q.pages.items l.0 r.pages.items own
    (words_later h.store.pages low x.first h.store.frames fs p.0 w)
    (subst (λ i. Swapped h.store.pages i fs q.pages.items l.0 r.pages.items) first l.1) in
    let long = long_lent h.mark h.todo x.first x.pages.items q.pages.items rows.lent in
    let end : x.first + length q.pages.items ≡ x.first + length x.pages.items = ap (λ i. x.first + i) long in (
      l.2 ∙ (λ j. record (k.3 j) { pages = r.pages }),
      long_words h.store.pages h.store.frames x.first q.pages.items r.pages.items words.lent ∙ long,
      pages_lent h x.first x.pages.items q.pages.items r.pages.items b.0 rows.lent words.lent,
      parts_lent_from h n (x.first + length x.pages.items) xs k.0 k.1 m2 g2 qs l.0 gs rs own b.1 p.1 rows.marks
          rows.greys (subst (λ i. AreAsWords h.store.pages i h.store.frames l.0) end words.words) k.4 l.3,
    )

pub parts_lent : (h : HeapState) (n : ℕ) (ps : List Part) (m2 g2 : List (List Bool)) (qs : List Part)
    (gs : List (List ℕ)) (rs : List Part) → AreOwn (frame_slot h.store.pages) → AreBlank ps → ArePlaced n 0 ps
    → SwappedRowsOf h.mark h.todo ps m2 g2 qs → SwappedParts h.store.pages h.store.frames qs gs rs → AreLent h ps rs
parts_lent h n ps m2 g2 qs gs rs own b p k l =
    parts_lent_from h n 0 ps h.mark h.todo m2 g2 qs h.store.frames gs rs own b p (λ j d e. refl) (λ j d e. refl)
    (λ j d e. refl) k l

-- ---- what parts have besides

pub words_back : (records : List Page) (fs : List (List ℕ)) (ps : List Part) (gs : List (List ℕ)) (qs : List Part)
    → SwappedParts records fs ps gs qs → AreBack ps qs
words_back records fs [] gs [] k = tt
words_back records fs [] gs (q ∷ qs) k = absurd (cc)
words_back records fs (p ∷ ps) gs [] k = absurd (cc)
words_back records fs (p ∷ ps) gs (q ∷ qs) k = (k.2, words_back records k.0 ps gs qs k.3)

pub rows_back : (mark todo : List (List Bool)) (ps : List Part) (m g : List (List Bool)) (qs : List Part)
    → SwappedRowsOf mark todo ps m g qs → AreBack ps qs
rows_back mark todo [] m g [] k = tt
rows_back mark todo [] m g (q ∷ qs) k = absurd (cc)
rows_back mark todo (p ∷ ps) m g [] k = absurd (cc)
rows_back mark todo (p ∷ ps) m g (q ∷ qs) k = (k.3, rows_back k.0 k.1 ps m g qs k.4)

pub back_then : (ps qs rs : List Part) → AreBack ps qs → AreBack qs rs → AreBack ps rs
back_then [] [] [] a b = tt
back_then [] [] (r ∷ rs) a b = absurd (cc)
back_then [] (q ∷ qs) rs a b = absurd (cc)
back_then (p ∷ ps) [] rs a b = absurd (cc)
back_then (p ∷ ps) (q ∷ qs) [] a b = absurd (cc)
back_then (p ∷ ps) (q ∷ qs) (r ∷ rs) a b =
    (b.0 ∙ (λ j. record (a.0 j) { pages = r.pages }), back_then ps qs rs a.1 b.1)

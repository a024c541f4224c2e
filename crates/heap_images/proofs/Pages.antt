-- The pages and the words of a heap's image.
use Rattle.std.proofs.Common.{◌≡◌, ℕ, zero, suc, ◌-◌, ◌/◌, ◌%◌, cond, eqb, false, List}
use Rattle.std.proofs.Common.{Option, Some, None, refl, sym, ap, ◌∙◌, arith}
use Rattle.std.specs.List.{slice_get}
use Rattle.std.specs.Option.{option_map, option_and_then}
use Rattle.std.proofs.lemmas.Option.{none-some}
use Rattle.std.proofs.lemmas.Bool.{ne_eqb}
use Rattle.model.specs.declared.records.Page.{Page}
use Rattle.model.specs.Stores.{StoreState, page_at as store_page, words_at, frame_in}
use Rattle.model.specs.Stores.{word_at as store_word, word_in, at_offset, spot_of}
use Rattle.model.specs.States.{HeapState}
use Rattle.verify.specs.Images.{◌>>=◌, PageData, page_at, word_at}
use Rattle.verify.specs.Pictures.{image_of, page_data, pages_of}
use Rattle.heap_images.proofs.Lists.{numbered}

-- the image of page n, if the page exists
abbrev pub pictured : HeapState → ℕ → Option Page → Option PageData
pictured h n o = option_map (λ p. page_data h n) o

-- a page of the image is that of the page with a record of its number
at_number : (h : HeapState) (n : ℕ) → cond (eqb n 0) None (slice_get (pages_of h) (n - 1))
    ≡ pictured h n (cond (eqb n 0) None (slice_get h.store.pages (n - 1)))
at_number h zero = refl
at_number h (suc i) = rw (above, less) (numbered (page_data h) h.store.pages 1 i (suc i) (omega arith))
  where
    less : suc i - 1 ≡ i
    less = omega arith

    above : eqb (suc i) 0 ≡ false
    above = ne_eqb (suc i) 0 (λ e. omega arith)

-- the page of an address
pub page_is : (h : HeapState) (a : ℕ)
    → page_at (image_of h) a ≡ pictured h (a / h.store.words) (store_page h.store (a / h.store.words))
unfolding page_at image_of store_page
page_is h a = at_number h (a / h.store.words)

-- a page with words exists
pub page_of_words : (s : StoreState) (n : ℕ) (ws : List ℕ) → words_at s n ≡ Some ws
    → (p : Page) × (store_page s n ≡ Some p)
unfolding words_at
page_of_words s n ws e = by_page (store_page s n) refl e
  where
    by_page : (o : Option Page) → store_page s n ≡ o → option_and_then (slice_get s.frames) (frame_in o) ≡ Some ws
        → (p : Page) × (store_page s n ≡ Some p)
    by_page None f k = absurd (none-some ws k)
    by_page (Some p) f k = (p, f)

-- the word at an offset of a frame that may be missing
abbrev word_on : List (List ℕ) → ℕ → Option ℕ → Option ℕ
word_on frames offset o = do
  frame ← o
  words ← slice_get frames frame
  slice_get words offset

-- the word at an offset of a page that may not exist
abbrev word_behind : List (List ℕ) → ℕ → Option PageData → Option ℕ
word_behind frames offset o = do
  page ← o
  word_on frames offset page.frame

-- the word at an address is that of the heap
pub word_is : (h : HeapState) (a : ℕ) → word_at (image_of h) a ≡ store_word h.store a
unfolding word_at store_word spot_of image_of
word_is h a =
    ap (word_behind h.store.frames (a % h.store.words)) (page_is h a)
    ∙ by_page (store_page h.store (a / h.store.words)) refl
  where
    by_frame : (f : Option ℕ) → word_on h.store.frames (a % h.store.words) f
        ≡ word_in h.store.frames (at_offset f (a % h.store.words))
    by_frame None = refl
    by_frame (Some f) = refl

    by_page : (o : Option Page) → store_page h.store (a / h.store.words) ≡ o
        → word_behind h.store.frames (a % h.store.words) (pictured h (a / h.store.words) o)
        ≡ word_in h.store.frames (at_offset (frame_in (store_page h.store (a / h.store.words))) (a % h.store.words))
    by_page None e = ap (λ o. word_in h.store.frames (at_offset (frame_in o) (a % h.store.words))) (sym e)
    by_page (Some p) e = by_frame (frame_in (store_page h.store (a / h.store.words)))

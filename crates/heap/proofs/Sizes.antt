-- The sizes of objects, by the words of their page.
use Rattle.std.proofs.Common.{◌≡◌, ℕ, ◌+◌, ◌*◌, ◌%◌, ◌<◌, ◌≤◌, ◌-◌, zero, suc, Bool, true, false, List, [], ◌∷◌}
use Rattle.std.proofs.Common.{Option, Some, None, length, map, refl, sym, ◌∙◌, ap, ap₂, arith}
use Rattle.std.specs.Prelude.{IfSome}
use Rattle.std.specs.List.{slice_get}
use Rattle.std.specs.Option.{option_and_then}
use Rattle.std.proofs.lemmas.Nat.{div-mul-add, mod-mul-add}
use Rattle.forward.specs.Objects.{ObjectsState}
use Rattle.model.specs.Data.{layout_at, layout_in, header_layout}
use Rattle.model.specs.Bits.{of_page}
use Rattle.model.specs.Plans.{live_offsets, object_words, offsets_from, words_of}
use Rattle.model.specs.States.{HeapState}
use Rattle.model.specs.Stores.{words_at}
use Rattle.model.specs.Holding.{AreRowsOf}
use Rattle.model.proofs.Memory.{word_on_page}
use Rattle.model.proofs.OfPages.{of_page_none, of_page_some}
use Rattle.model.proofs.Tables.{row_short}
use Rattle.page_frames.specs.Kept as kept_specs
use Rattle.page_frames.specs.Kept.{objects_in, sizes_in}

-- it is that of the header at the object's offset
pub size_in : (h : HeapState) (n o : ℕ) (ws : List ℕ) → o < h.store.words → words_at h.store n ≡ Some ws
    → object_words h (n * h.store.words + o)
    ≡ words_of (layout_in h.config.layouts (header_layout (slice_get ws o)))
unfolding object_words layout_at
size_in h n o ws low there =
    ap (λ (v : Option ℕ). words_of (layout_in h.config.layouts (header_layout v)))
    (word_on_page h.store (n * h.store.words + o)
    ∙ ap (λ m. option_and_then (λ (xs : List ℕ). slice_get xs ((n * h.store.words + o) % h.store.words))
    (words_at h.store m)) (div-mul-add n h.store.words o low)
    ∙ ap (option_and_then (λ (xs : List ℕ). slice_get xs ((n * h.store.words + o) % h.store.words))) there
    ∙ ap (slice_get ws) (mod-mul-add n h.store.words o low))

-- sizes at offsets within a page
same_sizes : (w : ℕ) (f g : ℕ → ℕ) → ((o : ℕ) → o < w → f o ≡ g o) → (b : ℕ) (row : List Bool) → b + length row ≤ w
    → map f (offsets_from b row) ≡ map g (offsets_from b row)
same_sizes w f g same b [] l = refl
same_sizes w f g same b (true ∷ row) l =
    ap₂ (λ n ns. n ∷ ns) (same b (omega (arith, l))) (same_sizes w f g same (b + 1) row (omega (arith, l)))
same_sizes w f g same b (false ∷ row) l = same_sizes w f g same (b + 1) row (omega (arith, l))

-- sizes that are kept are those of the page's live objects
kept_sized : (h : HeapState) (n : ℕ) (row : List Bool) (ws s : List ℕ) → words_at h.store n ≡ Some ws
    → row ≡ of_page h.live n → length row ≤ h.store.words → s ≡ sizes_in h.config.layouts ws row
    → s ≡ map (λ o. object_words h (n * h.store.words + o)) (live_offsets h n)
unfolding live_offsets
kept_sized h n row ws s there is short kept =
    kept
    ∙ same_sizes h.store.words (kept_specs.size_in h.config.layouts ws) (λ o. object_words h (n * h.store.words + o))
    (λ o l. sym (size_in h n o ws l there)) 0 row (omega (arith, short))
    ∙ ap (λ r. map (λ o. object_words h (n * h.store.words + o)) (offsets_from 0 r)) is

-- no page has more live bits than words
live_short : (h : HeapState) (n : ℕ) → AreRowsOf h.store h.live → length (of_page h.live n) ≤ h.store.words
live_short h zero are = omega arith
live_short h (suc i) are = by_row (slice_get h.live (suc i - 1)) refl
  where
    by_row : (o : Option (List Bool)) → slice_get h.live (suc i - 1) ≡ o
        → length (of_page h.live (suc i)) ≤ h.store.words
    by_row None e = omega (arith, ap length (of_page_none h.live (suc i) (omega arith) e))
    by_row (Some row) e = omega (
      arith,
      ap length (of_page_some h.live (suc i) row (omega arith) e),
      row_short h.store h.live (suc i - 1) row are e,
    )

-- live objects of a page, with their sizes, are those in its words
pub objects_there : (h : HeapState) (n : ℕ) (o : ObjectsState) → AreRowsOf h.store h.live
    → o.live ≡ of_page h.live n
    → o.sizes ≡ map (λ k. object_words h (n * h.store.words + k)) (live_offsets h n)
    → (ws : List ℕ) → words_at h.store n ≡ Some ws → o ≡ objects_in h.config.layouts ws o.live
unfolding live_offsets
objects_there h n o are is sized ws there =
    ap (λ ns. record { live = o.live; sizes = ns })
    (sized
    ∙ sym (same_sizes h.store.words (kept_specs.size_in h.config.layouts ws)
    (λ k. object_words h (n * h.store.words + k)) (λ k l. sym (size_in h n k ws l there)) 0 (of_page h.live n)
    (omega (arith, live_short h n are)))
    ∙ ap (λ r. sizes_in h.config.layouts ws r) (sym is))

-- whatever was kept
pub if_kept : {X : Type 0} (h : HeapState) (n : ℕ) (row : List Bool) (o : Option X) (sizes : X → List ℕ)
    → row ≡ of_page h.live n → length row ≤ h.store.words
    → IfSome o (λ x. (ws : List ℕ) × (words_at h.store n ≡ Some ws) × (sizes x ≡ sizes_in h.config.layouts ws row))
    → IfSome o (λ x. sizes x ≡ map (λ o. object_words h (n * h.store.words + o)) (live_offsets h n))
if_kept h n row None sizes is short kept = tt
if_kept h n row (Some x) sizes is short (ws, there, same) = kept_sized h n row ws (sizes x) there is short same

-- objects that were kept are the page's live ones
module _ (h : HeapState) (n : ℕ) (row : List Bool) (is : row ≡ of_page h.live n) where
  -- they are those in the page's words
  abbrev pub WereKept : ObjectsState → Type 0
  WereKept o = (ws : List ℕ) × (words_at h.store n ≡ Some ws) × (o ≡ objects_in h.config.layouts ws row)

  pub sizes_taken : (taken : Option ObjectsState) → length row ≤ h.store.words → IfSome taken WereKept
      → IfSome taken (λ o. o.sizes ≡ map (λ o. object_words h (n * h.store.words + o)) (live_offsets h n))
  sizes_taken None short were = tt
  sizes_taken (Some o) short (ws, there, same) =
      kept_sized h n row ws o.sizes there is short (ap (λ (x : ObjectsState). x.sizes) same)

-- The live objects of pages, and their sizes.
use Rattle.std.proofs.Common.{◌≡◌, ℕ, ◌-◌, ◌<◌, ◌≤◌, Bool, List, [], length, map, sym, ◌∙◌, ap, Some, None}
use Rattle.std.specs.List.{slice_get}
use Rattle.std.specs.Prelude.{count_by}
use Rattle.forward.specs.Objects.{ObjectsState}
use Rattle.forward.proofs.Offsets.{sized_many}
use Rattle.model.specs.Bits.{of_page}
use Rattle.model.specs.Holding.{IsHeap}
use Rattle.model.specs.Plans.{live_offsets, offsets_from}
use Rattle.model.specs.States.{HeapState}
use Rattle.model.proofs.OfPages.{of_page_none, of_page_some}
use Rattle.model.proofs.Tables.{row_short}
use Rattle.relocate.specs.Drafts.{AreLiveOn, draft_size, draft_sizes}

module _ (h : HeapState) (n : ℕ) (low : 0 < n) where
  -- a page without a record has no live objects
  pub none_live : slice_get h.live (n - 1) ≡ None → [] ≡ of_page h.live n
  none_live e = sym (of_page_none h.live n low e)

  pub none_sized : slice_get h.live (n - 1) ≡ None → [] ≡ draft_sizes h n
  unfolding live_offsets
  none_sized e = ap (λ row. map (draft_size h n) (offsets_from 0 row)) (none_live e)

  -- one with a record has those of its live bitmap
  pub row_live : (r : List Bool) → slice_get h.live (n - 1) ≡ Some r → r ≡ of_page h.live n
  row_live r e = sym (of_page_some h.live n r low e)

  -- the live bitmap of a page has no more bits than the page has words
  pub row_sized : (r : List Bool) → IsHeap h → slice_get h.live (n - 1) ≡ Some r → length r ≤ h.store.words
  row_sized r i e = row_short h.store h.live (n - 1) r i.live e

-- there is a size for each live object
pub sizes_many : (h : HeapState) (n : ℕ) (row : List Bool) → row ≡ of_page h.live n
    → length (draft_sizes h n) ≡ count_by (λ b. b) row
unfolding live_offsets
sizes_many h n row e = sized_many (draft_size h n) (of_page h.live n) ∙ ap (count_by (λ b. b)) (sym e)

pub sizes_live : (h : HeapState) (n : ℕ) (row : List Bool) → row ≡ of_page h.live n
    → map (draft_size h n) (offsets_from 0 row) ≡ draft_sizes h n
unfolding live_offsets
sizes_live h n row e = ap (λ r. map (draft_size h n) (offsets_from 0 r)) e

-- objects with a page's live bitmap and sizes are the page's live ones
pub live_on : (h : HeapState) (n : ℕ) (o : ObjectsState) (live : List Bool) (sizes : List ℕ)
    → o ≡ record { live = live; sizes = sizes } → live ≡ of_page h.live n → sizes ≡ draft_sizes h n → AreLiveOn h n o
live_on h n o live sizes e is sized = record {
  live = ap (λ (x : ObjectsState). x.live) e ∙ is;
  sizes = ap (λ (x : ObjectsState). x.sizes) e ∙ sized;
}

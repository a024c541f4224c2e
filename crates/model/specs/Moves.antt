-- Copying objects to their planned places, and releasing pages.
use Rattle.std.specs.Prelude.{ℕ, ◌-◌, ◌/◌, ◌%◌, ◌==◌, ◌||◌, Bool, true, List, [], map, take, drop}
use Rattle.std.specs.Prelude.{Option, Some, None, slice_set, if◌then◌else◌}
use Rattle.model.specs.declared.records.Forwarding.{Forwarding}
use Rattle.model.specs.declared.records.Page.{Page}
use Rattle.model.specs.declared.records.PageState.TheVariants.{Gone}
use Rattle.model.specs.Stores.{StoreState, page_at, frame_in, words_at, with_words, with_empty, overlay}
use Rattle.model.specs.States.{Reference, HeapState, change_at}
use Rattle.model.specs.Bits.{with_bit}
use Rattle.model.specs.Marks.{entry_at}
use Rattle.model.specs.Plans.{object_words}

-- copies

-- n words of a page from an offset on, up to the page's end; none if it has no memory
abbrev pub words_from : ℕ → ℕ → Option (List ℕ) → List ℕ
words_from offset n None = []
words_from offset n (Some ws) = take n (drop offset ws)

-- the store after n words are copied from an address to one on another page
unfoldable pub with_copied_words : StoreState → ℕ → ℕ → ℕ → StoreState
with_copied_words s address to n = with_words s (to / s.words) (λ ws. overlay ws (to % s.words)
    (if address / s.words == to / s.words then []
    else words_from (address % s.words) n (words_at s (address / s.words))))

-- an entry that is copied if it has this offset
abbrev pub set_copied_of : ℕ → Forwarding → Forwarding
set_copied_of offset f = record f { copied = f.copied || (f.offset == offset) }

-- the heap after the object at an address is copied to another
unfoldable pub with_copy : HeapState → ℕ → ℕ → HeapState
with_copy h address to = record h {
  store = with_copied_words h.store address to (object_words h address);
  starts = with_bit h.starts h.store.words to true;
  sides = change_at h.sides (address / h.store.words - 1) (map (set_copied_of (address % h.store.words)));
}

-- the heap after the object of an entry was copied, if there is an entry and its object wasn't
abbrev pub copied_by : HeapState → ℕ → Option Forwarding → HeapState
copied_by h address None = h
copied_by h address (Some f) = if f.copied then h else with_copy h address f.to

-- the heap after the object at an address was copied, if it is planned to move and wasn't
unfoldable pub copied_first : HeapState → ℕ → HeapState
copied_first h address = copied_by h address (entry_at h address)

-- the address of the object at an address, once it is copied
abbrev pub place_by : Option Forwarding → ℕ → ℕ
place_by None address = address
place_by (Some f) address = f.to

-- a reference to the copy; its NMT bit stays
unfoldable pub moved_word : HeapState → ℕ × Bool → ℕ × Bool
moved_word h w = (place_by (entry_at h w.0) w.0, w.1)

-- the heap after the object of a reference was copied, if it is planned to move and wasn't
unfoldable pub copied_for : HeapState → Reference → HeapState
copied_for h None = h
copied_for h (Some w) = copied_first h w.0

-- releasing pages

-- a page that was released
abbrev pub set_gone_of : Page → Page
set_gone_of p = record p { state = Gone; frame = None }

-- owners of frames after one frame, if there is one, became free
abbrev pub with_free : List (Option ℕ) → Option ℕ → List (Option ℕ)
with_free owners None = owners
with_free owners (Some f) = slice_set owners f None

-- the store after page n was released: its frame is free at once
unfoldable pub with_released : StoreState → ℕ → StoreState
with_released s n = record s {
  pages = change_at s.pages (n - 1) set_gone_of;
  frames = with_empty s.frames (frame_in (page_at s n));
  owners = with_free s.owners (frame_in (page_at s n));
}

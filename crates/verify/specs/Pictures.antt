-- The image of a heap's state.
use Rattle.std.specs.Prelude.{ℕ, Bool, true, false, List, length, map, filter, slice_get, Option, Some, None}
use Rattle.std.specs.Prelude.{option_map}
use Rattle.std.specs.List.{range_with_len}
use Rattle.refword.specs.Words.{bits_of}
use Rattle.model.specs.Stores.{StoreState, page_at, state_at, frame_in}
use Rattle.model.specs.Bits.{of_page}
use Rattle.model.specs.States.{HeapState, ThreadState}
use Rattle.verify.specs.Images.{ImageData, PageData}

-- page n: its record, its start bitmap and its forwarding table
abbrev pub page_data : HeapState → ℕ → PageData
page_data h n = record {
  state = state_at h.store n;
  frame = frame_in (page_at h.store n);
  starts = of_page h.starts n;
  side = of_page h.sides n;
}

-- all pages with records: these have the numbers from 1 on
abbrev pub pages_of : HeapState → List PageData
pages_of h = map (page_data h) (range_with_len 1 (length h.store.pages))

-- a frame exists, and has no owner
abbrev pub is_free : Option (Option ℕ) → Bool
is_free (Some None) = true
is_free _ = false

-- the free frames, in the order of their numbers
abbrev pub free_of : StoreState → List ℕ
free_of s = filter (λ f. is_free (slice_get s.owners f)) (range_with_len 0 (length s.owners))

-- the bits of a thread's registers
abbrev pub registers_of : ThreadState → List ℕ
registers_of t = map bits_of t.registers

-- the bits of the reference in a thread's open barrier, if it has one
abbrev pub load_of : ThreadState → Option ℕ
load_of t = option_map (λ b. bits_of b.now) t.barrier

-- the image of a heap
unfoldable pub image_of : HeapState → ImageData
image_of h = record {
  words = h.store.words;
  frame_count = h.config.frames;
  free = free_of h.store;
  pages = pages_of h;
  frames = h.store.frames;
  registers = map registers_of h.threads;
  loads = map load_of h.threads;
  globals = map (λ g. bits_of g.word) h.globals;
  layouts = h.config.layouts;
}

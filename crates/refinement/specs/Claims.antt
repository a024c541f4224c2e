-- The layout of memory: the extents of objects, buffers, planned places and the free ends of open pages, of which no
-- two overlap.
use Rattle.std.specs.Prelude.{◌≡◌, ◌⊎◌, ◌<◌, ◌≤◌, ◌+◌, ◌*◌, ◌%◌, ℕ, true, false, List, length, Option, Some}
use Rattle.std.specs.Prelude.{None, option_map, if◌then◌else◌}
use Rattle.model.specs.declared.records.Forwarding.{Forwarding}
use Rattle.model.specs.declared.records.Page.{Page}
use Rattle.model.specs.declared.records.PageState.TheVariants.{Unused}
use Rattle.model.specs.declared.records.Buffer.{Buffer}
use Rattle.model.specs.Stores.{StoreState, page_at, is_open, has_memory}
use Rattle.model.specs.Owning.{Each}
use Rattle.model.specs.Holding.{AreRowsOf, AreSides}
use Rattle.model.specs.States.{HeapState}
use Rattle.model.specs.Buffers.{buffer_of_thread}
use Rattle.laws.specs.AddressHeap.{HeapObject, SideEntry, Planned}
use Rattle.model.specs.Bits.{bit_at}
use Rattle.refinement.specs.Worlds.{world_of, object_at}

-- an owner of words of memory
pub data Claim : Type 0 where
  OfObject : (address : ℕ) → Claim
  OfBuffer : (thread : ℕ) → Claim
  OfPlan : (address : ℕ) → Claim  -- the planned place of the object at an address
  OfEnd : (page : ℕ) → Claim  -- the words of an open page that were not given out

-- the addresses from one up to another, exclusive
pub record Extent : Type 0 where
  pub from : ℕ
  pub upto : ℕ

-- the number of words of an object: its header, its references and its data
abbrev pub object_size : HeapObject → ℕ
object_size o = 1 + length o.refs + length o.data_words

-- the number of words of the object at an address
abbrev pub size_at : HeapState → ℕ → Option ℕ
size_at h a = option_map object_size (object_at h a)

-- n addresses from a on
abbrev pub sized_extent : ℕ → ℕ → Extent
sized_extent a n = record { from = a; upto = a + n }

-- the planned place of an object of this size, if it is planned
abbrev pub planned_extent : SideEntry → Option ℕ → Option Extent
planned_extent (Planned to) size = option_map (sized_extent to) size
planned_extent _ size = None

-- the rest of a buffer, by the number of words of a page
abbrev pub buffer_extent : ℕ → Buffer → Extent
buffer_extent words b = record { from = b.page * words + b.next; upto = b.page * words + b.end }

-- the words of page n that were not given out, if it is open
abbrev pub end_extent : ℕ → ℕ → Option Page → Option Extent
end_extent words n None = None
end_extent words n (Some p) =
    if is_open p.state then Some (record { from = n * words + p.top; upto = n * words + words }) else None

-- the addresses of a claim
abbrev pub extent : HeapState → Claim → Option Extent
extent h (OfObject a) = option_map (sized_extent a) (size_at h a)
extent h (OfBuffer t) = option_map (buffer_extent h.store.words) (buffer_of_thread h t)
extent h (OfPlan a) = planned_extent ((world_of h).side_entry a) (size_at h a)
extent h (OfEnd n) = end_extent h.store.words n (page_at h.store n)

-- one ends before the other begins
abbrev pub AreApart : Extent → Extent → Type 0
AreApart x y = (x.upto ≤ y.from) ⊎ (y.upto ≤ x.from)

-- no two claims overlap
abbrev pub Apart : (Claim → Option Extent) → Type 0
Apart e = (c d : Claim) (x y : Extent) → e c ≡ Some x → e d ≡ Some y → (c ≡ d) ⊎ AreApart x y

-- each page of a store has a forwarding table
abbrev pub AreSidesOf : StoreState → List (List Forwarding) → Type 0
AreSidesOf s sides = AreSides (length s.pages) s.words sides

-- the memory of a heap is in order
pub record IsLaid (h : HeapState) : Type 0 where
  pub starts : AreRowsOf h.store h.starts
  pub live : AreRowsOf h.store h.live
  pub mark : AreRowsOf h.store h.mark
  pub todo : AreRowsOf h.store h.todo
  pub sides : AreSidesOf h.store h.sides
  pub registers : Each h.threads (λ t. length t.registers ≡ h.config.registers)
  -- there is an object at each start bit on a page with memory
  pub objects : (a : ℕ) → bit_at h.starts h.store.words a ≡ true → has_memory ((world_of h).page_state a) ≡ true
      → (o : HeapObject) × (object_at h a ≡ Some o)
  pub apart : Apart (extent h)
  -- a planned place lies in one page
  pub planned : (a n : ℕ) (o : HeapObject) → (world_of h).side_entry a ≡ Planned n → object_at h a ≡ Some o
      → n % h.store.words + object_size o ≤ h.store.words
  -- there is an object at each live bit on a page with memory
  pub live_objects : (a : ℕ) → bit_at h.live h.store.words a ≡ true → has_memory ((world_of h).page_state a) ≡ true
      → (o : HeapObject) × (object_at h a ≡ Some o)
  -- nothing is live on an unused page
  pub unused : (a : ℕ) → (world_of h).page_state a ≡ Unused → bit_at h.live h.store.words a ≡ false

-- an open page has given out some of its words
abbrev pub HasGiven : Page → Type 0
HasGiven p = is_open p.state ≡ true → 0 < p.top

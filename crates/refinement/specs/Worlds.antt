-- The address-level model that a heap's state represents: its objects are read from the words of its pages, and all
-- else from its records.
use Rattle.std.specs.Prelude.{ℕ, ◌+◌, ◌/◌, ◌%◌, ◌==◌, Bool, true, false, List, [], ◌∷◌, length, take, drop, map}
use Rattle.std.specs.Prelude.{Option, Some, None, option_map, nat_le, nat_lt, slice_get, if◌then◌else◌}
use Rattle.refword.specs.Words.{read_word}
use Rattle.layout.specs.declared.shape.Layout.{Layout}
use Rattle.layout.specs.Objects.{size_of, birth_of, layout_of}
use Rattle.model.specs.declared.records.Forwarding.{Forwarding}
use Rattle.model.specs.declared.records.Barrier.{Barrier}
use Rattle.model.specs.declared.records.Scan.{Scan}
use Rattle.model.specs.declared.records.Global.{Global}
use Rattle.model.specs.declared.records.Place.{Place}
use Rattle.model.specs.declared.records.Place.TheVariants as places
use Rattle.model.specs.Stores.{state_at, words_at}
use Rattle.model.specs.Bits.{of_page, bit_at}
use Rattle.model.specs.States.{HeapState, ThreadState, Reference}
use Rattle.model.specs.Registers.{register_of}
use Rattle.model.specs.Threads.{has_crossed, is_parked_in}
use Rattle.laws.specs.AddressHeap.{AddressHeap, HeapObject, Word, Null, To, SideEntry, NoEntry, Planned, Copied}
use Rattle.laws.specs.AddressHeap.{LoadPlace, AtField, AtGlobal, OpenBarrier, WorkerScan}

-- words

-- a reference, in the laws' terms
abbrev pub as_word : Reference → Word
as_word None = Null
as_word (Some w) = To w.0 w.1

-- what was read from memory; a number that is no reference is like a reference to address 0, at which no object is
abbrev pub as_read : Option Reference → Word
as_read None = To 0 false
as_read (Some w) = as_word w

-- the reference that a number in memory represents
abbrev pub word_in_memory : ℕ → Word
word_in_memory bits = as_read (read_word bits)

-- objects

-- n of a page's words, from an offset on
abbrev pub run : List ℕ → ℕ → ℕ → List ℕ
run words offset n = take n (drop offset words)

-- the object of a layout at an offset: its header, then its references, then its data
abbrev pub object_of : List ℕ → ℕ → ℕ → Layout → HeapObject
object_of words offset header l = record {
  birth = birth_of header;
  layout = layout_of header;
  refs = map word_in_memory (run words (offset + 1) l.refs);
  data_words = run words (offset + 1 + l.refs) l.nums;
}

-- the object of a layout at an offset, if it ends within the page
abbrev pub object_laid : List ℕ → ℕ → ℕ → Option Layout → Option HeapObject
object_laid words offset header None = None
object_laid words offset header (Some l) =
    if nat_le (offset + size_of l) (length words) then Some (object_of words offset header l) else None

-- the object that begins with a header
abbrev pub object_headed : List Layout → List ℕ → ℕ → Option ℕ → Option HeapObject
object_headed ls words offset None = None
object_headed ls words offset (Some header) = object_laid words offset header (slice_get ls (layout_of header))

-- the object at an offset of a page that has memory, if its start bit is set
abbrev pub object_in : List Layout → Bool → Option (List ℕ) → ℕ → Option HeapObject
object_in ls true (Some words) offset = object_headed ls words offset (slice_get words offset)
object_in ls _ _ offset = None

-- forwarding tables

-- the entry of an object with a new address: copied, or planned
abbrev pub entry_of : Bool → ℕ → SideEntry
entry_of true to = Copied to
entry_of false to = Planned to

-- the entry of an offset in a forwarding table
abbrev pub entry_at : List Forwarding → ℕ → SideEntry
entry_at [] offset = NoEntry
entry_at (f ∷ fs) offset = if f.offset == offset then entry_of f.copied f.to else entry_at fs offset

-- threads, workers and globals

-- the place of a load, in the laws' terms
abbrev pub as_place : Place → LoadPlace
as_place (places.Field object index) = AtField object index
as_place (places.Global index) = AtGlobal index

-- an open barrier, in the laws' terms
abbrev pub as_barrier : Barrier → OpenBarrier
as_barrier b = record {
  target = b.target;
  place = as_place b.place;
  raw = as_word b.raw;
  now = as_word b.now;
  healed = b.healed;
}

-- a worker's scan, in the laws' terms
abbrev pub as_scan : Scan → WorkerScan
as_scan s = record { address = s.object; next = s.next }

-- the load of a thread that may be missing
abbrev pub barrier_in : Option ThreadState → Option OpenBarrier
barrier_in None = None
barrier_in (Some t) = option_map as_barrier t.barrier

-- a worker's scan, if it has one
abbrev pub scan_in : Option (Option Scan) → Option WorkerScan
scan_in None = None
scan_in (Some s) = option_map as_scan s

-- the reference in a global that may be missing
abbrev pub global_in : Option Global → Word
global_in None = Null
global_in (Some g) = as_word g.word

-- a global that may be missing is grey
abbrev pub todo_in : Option Global → Bool
todo_in None = false
todo_in (Some g) = g.todo

-- all parts

-- the object at an address
abbrev pub object_at : HeapState → ℕ → Option HeapObject
object_at h a =
    object_in h.config.layouts (bit_at h.starts h.store.words a)
    (words_at h.store (a / h.store.words)) (a % h.store.words)

-- the address-level model of a state
abbrev pub world_of : HeapState → AddressHeap
world_of h = record {
  page_state = λ a. state_at h.store (a / h.store.words);
  object_at = object_at h;
  side_entry = λ a. entry_at (of_page h.sides (a / h.store.words)) (a % h.store.words);
  live = bit_at h.live h.store.words;
  marked = bit_at h.mark h.store.words;
  todo = bit_at h.todo h.store.words;
  births = h.births;
  register = λ t r. as_word (register_of h t r);
  crossed = λ t. has_crossed (slice_get h.threads t);
  parked = λ t. is_parked_in (slice_get h.threads t);
  barrier = λ t. barrier_in (slice_get h.threads t);
  scan = λ k. scan_in (slice_get h.workers k);
  is_global = λ g. nat_lt g (length h.globals);
  global = λ g. global_in (slice_get h.globals g);
  global_todo = λ g. todo_in (slice_get h.globals g);
  phase = h.phase;
  nmt = h.nmt;
}

-- The edits of the address-level model from which transitions are made, each followed by its edit of the reference
-- model.
use Rattle.std.specs.Prelude.{ℕ, suc, not, Bool, true, false, cond, Option, Some, None, List}
use Rattle.model.specs.declared.records.Phase.{Phase}
use Rattle.model.specs.declared.records.Phase.TheVariants.{Idle, MarkCrossing, ProtectCrossing}
use Rattle.model.specs.declared.records.PageState.{PageState}
use Rattle.model.specs.declared.records.PageState.TheVariants.{Unused, Open, Closed, Gone}
use Rattle.model.specs.Stores.{is_protected}
use Rattle.model.specs.Phases.{is_marking, is_mark_crossing}
use Rattle.laws.specs.AddressHeap.{AddressHeap, HeapObject, Word, Null, To, SideEntry, NoEntry, Planned, Copied}
use Rattle.laws.specs.AddressHeap.{OpenBarrier, WorkerScan, put, put_at, resolve}
use Rattle.laws.specs.BirthHeap.{BirthHeap}

-- a page's state after a mark: an open page without a lent buffer closes, and a protected page is unused again
abbrev pub state_after_mark : Bool → PageState → PageState
state_after_mark lent Open = cond lent Open Closed
state_after_mark lent Closed = Closed
state_after_mark lent _ = Unused

-- a mark ends: marked objects are live, and the objects of protected pages and all forwarding tables are removed
abbrev pub end_mark : (ℕ → Bool) → AddressHeap → AddressHeap
end_mark lent w = record w {
  page_state = λ a. state_after_mark (lent a) (w.page_state a);
  object_at = λ a. cond (is_protected (w.page_state a)) None (w.object_at a);
  side_entry = λ a. NoEntry;
  live = w.marked;
  marked = λ a. false;
  todo = λ a. false;
  phase = Idle;
}

-- object o, which is at a, is copied to n, and its entry has this place
abbrev pub copy_object : ℕ → ℕ → HeapObject → AddressHeap → AddressHeap
copy_object a n o w = record w { object_at = put w.object_at n (Some o); side_entry = put w.side_entry a (Copied n) }

-- the objects after one was copied to the place that its entry plans, if it does
abbrev pub objects_by : SideEntry → Option HeapObject → (ℕ → Option HeapObject) → ℕ → Option HeapObject
objects_by (Planned n) o f = put f n o
objects_by _ o f = f

-- the entries after the object at a was copied to the place that its entry plans, if it does
abbrev pub entries_by : SideEntry → ℕ → (ℕ → SideEntry) → ℕ → SideEntry
entries_by (Planned n) a f = put f a (Copied n)
entries_by _ a f = f

-- the objects after that of a reference was copied
abbrev pub objects_after : Word → AddressHeap → ℕ → Option HeapObject
objects_after Null w = w.object_at
objects_after (To a n) w = objects_by (w.side_entry a) (w.object_at a) w.object_at

-- the entries after the object of a reference was copied
abbrev pub entries_after : Word → AddressHeap → ℕ → SideEntry
entries_after Null w = w.side_entry
entries_after (To a n) w = entries_by (w.side_entry a) a w.side_entry

-- the object of a reference is copied if it is planned and uncopied
abbrev pub copy_word : Word → AddressHeap → AddressHeap
copy_word v w = record w { object_at = objects_after v w; side_entry = entries_after v w }

-- the mark bits after the object of a reference was marked
abbrev pub marked_after : Word → AddressHeap → ℕ → Bool
marked_after Null w = w.marked
marked_after (To a n) w = put w.marked (resolve w a) true

-- the grey bits after the object of a reference was marked
abbrev pub todo_after : Word → AddressHeap → ℕ → Bool
todo_after Null w = w.todo
todo_after (To a n) w = put w.todo (resolve w a) (cond (w.marked (resolve w a)) (w.todo (resolve w a)) true)

-- the object of a reference is marked at its current address
abbrev pub set_mark : Word → AddressHeap → AddressHeap
set_mark v w = record w { marked = marked_after v w; todo = todo_after v w }

-- a clean reference to the object's current address
abbrev pub clean_word : AddressHeap → Word → Word
clean_word w Null = Null
clean_word w (To a n) = To (resolve w a) w.nmt

-- the object of a reference is marked: its copy, which is made first if it isn't there
abbrev pub mark_word : Word → AddressHeap → AddressHeap
mark_word v w = set_mark v (copy_word v w)

-- the corrected reference: clean, and with the object's current address
abbrev pub marked_word : AddressHeap → Word → Word
marked_word w v = clean_word (copy_word v w) v

-- thread t's load ends: register r becomes v, and its barrier closes
abbrev pub end_load : ℕ → ℕ → Word → AddressHeap → AddressHeap
end_load t r v w = record w { register = put_at w.register t r v; barrier = put w.barrier t None }

-- thread t's pending load ends: register r becomes x
abbrev pub plain_end_load : ℕ → ℕ → Option ℕ → BirthHeap → BirthHeap
plain_end_load t r x p = record p { register = put_at p.register t r x; pending = put p.pending t None }

-- thread t's barrier becomes k
abbrev pub set_barrier : ℕ → OpenBarrier → AddressHeap → AddressHeap
set_barrier t k w = record w { barrier = put w.barrier t (Some k) }

-- thread t's pending load becomes q
abbrev pub plain_set_pending : ℕ → ℕ × Option ℕ → BirthHeap → BirthHeap
plain_set_pending t q p = record p { pending = put p.pending t (Some q) }

-- the object at a becomes o
abbrev pub set_object : ℕ → HeapObject → AddressHeap → AddressHeap
set_object a o w = record w { object_at = put w.object_at a (Some o) }

-- the references and data of birth b become xs and ds
abbrev pub plain_set_object : ℕ → List (Option ℕ) → List ℕ → BirthHeap → BirthHeap
plain_set_object b xs ds p = record p { refs = put p.refs b xs; data_words = put p.data_words b ds }

-- global g becomes v
abbrev pub set_global : ℕ → Word → AddressHeap → AddressHeap
set_global g v w = record w { global = put w.global g v }

-- global g of the reference model becomes x
abbrev pub plain_set_global : ℕ → Option ℕ → BirthHeap → BirthHeap
plain_set_global g x p = record p { global = put p.global g x }

-- global g isn't grey any more
abbrev pub end_global_scan : ℕ → AddressHeap → AddressHeap
end_global_scan g w = record w { global_todo = put w.global_todo g false }

-- worker k has the object and field s, or none
abbrev pub set_scan : ℕ → Option WorkerScan → AddressHeap → AddressHeap
set_scan k s w = record w { scan = put w.scan k s }

-- worker k has scanned the object at a, and has none any more
abbrev pub end_scan : ℕ → ℕ → AddressHeap → AddressHeap
end_scan k a w = record w { scan = put w.scan k None; todo = put w.todo a false }

-- a mark starts: the clean value flips, all threads count as not crossed, and all globals are grey; c is true for
-- numbers that no thread has
abbrev pub start_mark : (ℕ → Bool) → AddressHeap → AddressHeap
start_mark c w = record w { nmt = not w.nmt; crossed = c; global_todo = w.is_global; phase = MarkCrossing }

-- thread t crosses the checkpoint, and the phase becomes f
abbrev pub cross_checkpoint : ℕ → Phase → AddressHeap → AddressHeap
cross_checkpoint t f w = record w { crossed = put w.crossed t true; phase = f }

-- the page of these addresses is released, and its forwarding table stays
abbrev pub release_page : (ℕ → Bool) → AddressHeap → AddressHeap
release_page inside w = record w {
  page_state = λ a. cond (inside a) Gone (w.page_state a);
  object_at = λ a. cond (inside a) None (w.object_at a);
}

-- pages get these states and forwarding tables, and all threads count as not crossed
abbrev pub protect_pages : (ℕ → PageState) → (ℕ → SideEntry) → (ℕ → Bool) → AddressHeap → AddressHeap
protect_pages states entries c w =
    record w { page_state = states; side_entry = entries; crossed = c; phase = ProtectCrossing }

-- a page is opened
abbrev pub open_page : (ℕ → Bool) → AddressHeap → AddressHeap
open_page inside w = record w { page_state = λ a. cond (inside a) Open (w.page_state a) }

-- thread t is parked, or runs again
abbrev pub set_parked : ℕ → Bool → AddressHeap → AddressHeap
set_parked t b w = record w { parked = put w.parked t b }

-- object o is born at a, and register r of thread t refers to it; while a mark runs it is born marked
abbrev pub add_object : ℕ → HeapObject → ℕ → ℕ → AddressHeap → AddressHeap
add_object a o t r w = record w {
  object_at = put w.object_at a (Some o);
  births = suc w.births;
  register = put_at w.register t r (To a w.nmt);
  marked = put w.marked a (is_marking w.phase);
  todo = put w.todo a (is_mark_crossing w.phase);
}

-- one more birth, of layout l, references xs and data ds, to which register r of thread t refers
abbrev pub plain_born : ℕ → List (Option ℕ) → List ℕ → ℕ → ℕ → BirthHeap → BirthHeap
plain_born l xs ds t r p = record p {
  births = suc p.births;
  layout = put p.layout p.births l;
  refs = put p.refs p.births xs;
  data_words = put p.data_words p.births ds;
  register = put_at p.register t r (Some p.births);
}

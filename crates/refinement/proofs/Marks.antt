-- Marking references: the bitmaps, and the corrected reference.
use Rattle.std.proofs.Common.{◌≡◌, ℕ, suc, ◌-◌, ◌*◌, ◌/◌, ◌%◌, ◌<◌, ◌≤◌, Bool, true, false, cond, nat_eq, List, []}
use Rattle.std.proofs.Common.{◌∷◌, length, Option, Some, None, refl, sym, ◌∙◌, ap, arith, div-add-mod'}
use mathlib.Core.Path.{fun_ext}
use Rattle.std.proofs.Math.Nat.{mul-le-mul_left}
use Rattle.std.proofs.lemmas.Nat.{mul-add-lt}
use Rattle.std.proofs.lemmas.Option.{slice_get_within}
use Rattle.refword.specs.Words.{IsAddress, IsWord}
use Rattle.model.specs.declared.records.Forwarding.{Forwarding}
use Rattle.model.specs.declared.records.Page.{Page}
use Rattle.model.specs.Stores.{StoreState, words_at, page_at, frame_in}
use Rattle.model.specs.Owning.{IsStore}
use Rattle.model.specs.States.{HeapState, Reference}
use Rattle.model.specs.Registers.{register_of}
use Rattle.model.specs.Bits.{of_page, bit_at, with_bit}
use Rattle.model.specs.Marks.{entry_of, entry_at, forward_by, resolve, with_mark, mark_after, todo_after, marked_word}
use Rattle.model.proofs.Lists.{get_within}
use Rattle.model.proofs.Memory.{page_there, page_used, words_in, words_sized}
use Rattle.model.proofs.Tables.{rows_many, rows_put, row_used}
use Rattle.page.proofs.Lying.{records_few}
use Rattle.laws.specs.AddressHeap.{HeapObject, SideEntry, NoEntry, put, resolve_by, names}
use Rattle.laws.specs.AddressHeap as laws
use Rattle.laws.specs.Edits.{set_mark}
use Rattle.laws.specs.Edits as edits
use Rattle.laws.proofs.Basics.{put_id, current_there}
use Rattle.laws.proofs.Reading.{named}
use Rattle.refinement.specs.Worlds.{world_of, object_at, as_word}
use Rattle.refinement.specs.Worlds as worlds
use Rattle.model.specs.Holding.{AreRowsOf}
use Rattle.refinement.specs.Claims.{IsLaid}
use Rattle.refinement.proofs.ObjectWords.{read_fits}
use Rattle.refinement.proofs.Objects.{there}
use Rattle.refinement.proofs.Changes.{bit_put}
use Rattle.refinement.proofs.Carrying.{Carries}
use Rattle.refinement.proofs.Records.{records_of, records_carry}

-- a page with words has a record
pub record_there : (s : StoreState) (n : ℕ) (ws : List ℕ) → words_at s n ≡ Some ws
    → (n ≡ suc (n - 1)) × (n - 1 < length s.pages)
unfolding words_at
record_there s n ws e = by_page (page_at s n) refl e
  where
    by_page : (o : Option Page) → page_at s n ≡ o → words_in s.frames (frame_in o) ≡ Some ws
        → (n ≡ suc (n - 1)) × (n - 1 < length s.pages)
    by_page None a k = absurd (cc)
    by_page (Some p) a k =
        let (one, at) = page_there s n p a in (omega (arith, one), slice_get_within s.pages (n - 1) p at)

-- the place of an object is an address
pub object_address : (h : HeapState) (a : ℕ) (q : HeapObject) → IsStore h.store → object_at h a ≡ Some q → IsAddress a
object_address h a q s e =
    let w = h.store.words in
    let c = there h a q e in
    let (page, low) = record_there h.store (a / w) c.words c.page in
    let fits = read_fits h.config.layouts c.words (a % w) q c.read in
    let size = words_sized h.store (a / w) c.words s c.page in
    let offset : a % w < w = omega (arith, fits, size) in
    let few = records_few h.store s in
    let whole = div-add-mod' a w in
    let above : a / w * 1 ≤ a / w * w = mul-le-mul_left (a / w) s.sized.words_low in
    let high = mul-add-lt (a / w) w (a % w) 1048576 (omega (arith, page, low, few)) offset in
    record { above = omega (arith, above, page, whole); below = omega (arith, high, whole, s.sized.words) }

-- an entry, in the laws' terms
abbrev pub as_entry : Option Forwarding → SideEntry
as_entry None = NoEntry
as_entry (Some f) = worlds.entry_of f.copied f.to

pub entry_same : (fs : List Forwarding) (o : ℕ) → worlds.entry_at fs o ≡ as_entry (entry_of fs o)
entry_same [] o = refl
entry_same (f ∷ fs) o = by_test (nat_eq f.offset o) (entry_same fs o)
  where
    by_test : (b : Bool) → worlds.entry_at fs o ≡ as_entry (entry_of fs o)
        → cond b (worlds.entry_of f.copied f.to) (worlds.entry_at fs o) ≡ as_entry (cond b (Some f) (entry_of fs o))
    by_test true e = refl
    by_test false e = e

resolved_same : (o : Option Forwarding) (a : ℕ) → resolve_by (as_entry o) a ≡ forward_by o a
resolved_same None a = refl
resolved_same (Some f) a = by_copied f.copied
  where
    by_copied : (b : Bool) → resolve_by (worlds.entry_of b f.to) a ≡ cond b f.to a
    by_copied true = refl
    by_copied false = refl

-- an address is resolved in the laws as in the heap
pub resolve_same : (h : HeapState) (a : ℕ) → laws.resolve (world_of h) a ≡ resolve h a
unfolding resolve entry_at
resolve_same h a =
    ap (λ e. resolve_by e a) (entry_same (of_page h.sides (a / h.store.words)) (a % h.store.words))
    ∙ resolved_same (entry_of (of_page h.sides (a / h.store.words)) (a % h.store.words)) a

-- a reference is null, or an object is at its address after forwarding
abbrev pub LeadsTo : HeapState → Reference → Type 0
LeadsTo h None = Unit {0}
LeadsTo h (Some w) = (q : HeapObject) × (object_at h (resolve h w.0) ≡ Some q)

-- so is a reference that represents something
pub leads_to : (h : HeapState) (v : Reference) (x : Option ℕ) → names (world_of h) (as_word v) ≡ Some x → LeadsTo h v
leads_to h None x e = tt
leads_to h (Some w) x e =
    let n = named (world_of h) w.0 w.1 x e in (
      n.object,
      ap (object_at h) (sym (resolve_same h w.0))
          ∙ current_there (world_of h) (laws.resolve (world_of h) w.0) n.object n.here,
    )

-- the corrected reference
pub marked_same : (h : HeapState) (v : Reference)
    → as_word (marked_word h v) ≡ edits.clean_word (world_of h) (as_word v)
unfolding marked_word
marked_same h None = refl
marked_same h (Some w) = ap (λ a. laws.To a h.nmt) (sym (resolve_same h w.0))

pub marked_is_word : (h : HeapState) (v : Reference) → IsStore h.store → LeadsTo h v → IsWord (marked_word h v)
unfolding marked_word
marked_is_word h None s n = tt
marked_is_word h (Some x) s n = object_address h (resolve h x.0) n.0 s n.1

-- bitmaps with a bit changed keep their sizes
pub rows_with : (h : HeapState) (rows : List (List Bool)) (a : ℕ) (b : Bool) → AreRowsOf h.store rows
    → AreRowsOf h.store (with_bit rows h.store.words a b)
rows_with h rows a b r = rows_put h.store rows (a / h.store.words - 1) (a % h.store.words) b r

module _ (h : HeapState) (s : IsStore h.store) (l : IsLaid h) where
  -- the bit of an object's address
  pub bit_with : (rows : List (List Bool)) → AreRowsOf h.store rows → (a : ℕ) (q : HeapObject) → object_at h a ≡ Some q
      → (b : Bool) (x : ℕ)
      → bit_at (with_bit rows h.store.words a b) h.store.words x ≡ put (bit_at rows h.store.words) a b x
  bit_with rows r a q e b x =
      let c = there h a q e in
      let (page, low) = record_there h.store (a / h.store.words) c.words c.page in
      let (row, at) = get_within rows (a / h.store.words - 1) (omega (arith, low, rows_many h.store rows r)) in
      let (p, found, used) = page_used h.store (a / h.store.words) c.words s c.page in
      let fits = read_fits h.config.layouts c.words (a % h.store.words) q c.read in
      let size = words_sized h.store (a / h.store.words) c.words s c.page in
      bit_put h.store.words rows (a / h.store.words - 1) a b row page at
      (omega (arith, fits, size, row_used h.store rows (a / h.store.words - 1) p row r found used at)) x

  marks : (v : Reference) → LeadsTo h v → (x : ℕ)
      → bit_at (mark_after h v) h.store.words x ≡ edits.marked_after (as_word v) (world_of h) x
  marks None n x = refl
  marks (Some w) n x = bit_with h.mark l.mark (resolve h w.0) n.0 n.1 true x
      ∙ ap (λ a. put (bit_at h.mark h.store.words) a true x) (sym (resolve_same h w.0))

  todos : (v : Reference) → LeadsTo h v → (x : ℕ)
      → bit_at (todo_after h v) h.store.words x ≡ edits.todo_after (as_word v) (world_of h) x
  todos None n x = refl
  todos (Some w) n x = by_mark (bit_at h.mark h.store.words (resolve h w.0)) refl
      ∙ ap (λ a. put (bit_at h.todo h.store.words) a (cond (bit_at h.mark h.store.words a)
      (bit_at h.todo h.store.words a) true) x) (sym (resolve_same h w.0))
    where
      by_mark : (b : Bool) → bit_at h.mark h.store.words (resolve h w.0) ≡ b
          → bit_at (cond b h.todo (with_bit h.todo h.store.words (resolve h w.0) true)) h.store.words x
          ≡ put (bit_at h.todo h.store.words) (resolve h w.0)
          (cond b (bit_at h.todo h.store.words (resolve h w.0)) true) x
      by_mark true e = sym (ap (λ f. f x) (put_id (bit_at h.todo h.store.words) (resolve h w.0)
          (bit_at h.todo h.store.words (resolve h w.0)) refl))
      by_mark false e = bit_with h.todo l.todo (resolve h w.0) n.0 n.1 true x

  mark_world : (v : Reference) → LeadsTo h v → world_of (with_mark h v) ≡ set_mark (as_word v) (world_of h)
  unfolding with_mark register_of
  mark_world v n = λ z. record (world_of h) { marked = fun_ext (marks v n) z; todo = fun_ext (todos v n) z }

  mark_rows : (v : Reference) → AreRowsOf h.store (mark_after h v)
  mark_rows None = l.mark
  mark_rows (Some w) = rows_with h h.mark (resolve h w.0) true l.mark

  todo_rows : (v : Reference) → AreRowsOf h.store (todo_after h v)
  todo_rows None = l.todo
  todo_rows (Some w) = by_mark (bit_at h.mark h.store.words (resolve h w.0))
    where
      by_mark : (b : Bool) → AreRowsOf h.store (cond b h.todo (with_bit h.todo h.store.words (resolve h w.0) true))
      by_mark true = l.todo
      by_mark false = rows_with h h.todo (resolve h w.0) true l.todo

  -- the object of a reference is marked
  pub mark_carries : (v : Reference) → LeadsTo h v → Carries h (with_mark h v) (set_mark (as_word v))
  unfolding with_mark
  mark_carries v n = records_carry h (record (records_of h) { mark = mark_after h v; todo = todo_after h v })
      (set_mark (as_word v))
      (record {
        mark = λ z. mark_rows v;
        todo = λ z. todo_rows v;
        threads = refl;
        registers = λ z. z;
        buffers = λ t. refl;
        workers = refl;
        globals = refl;
      })
      (λ z. record { threads = z.threads; globals = z.globals }) (mark_world v n)

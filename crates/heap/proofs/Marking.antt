-- Marks keep the invariant of a heap.
use Rattle.std.proofs.Common.{◌≡◌, ℕ, ◌-◌, ◌/◌, ◌%◌, Bool, true, false, List, Option, None, Some}
use Rattle.std.proofs.Common.{refl}
use Rattle.std.proofs.Common.{◌∙◌, sym, ap, subst}
use Rattle.std.specs.Option.{unwrap_or}
use Rattle.std.specs.Prelude.{if◌then◌else◌}
use Rattle.std.proofs.lemmas.Option.{unwrap_or-slice_get}
use Rattle.model.specs.Stores.{StoreState}
use Rattle.model.specs.declared.records.Phase.{Phase}
use Rattle.model.specs.declared.records.Phase.TheVariants.{Idle, MarkCrossing, Scanning, ProtectCrossing, Relocating}
use Rattle.model.specs.Checkpoints.{phase_behind}
use Rattle.model.specs.States.{HeapState}
use Rattle.model.specs.Holding.{IsHeap, AreRowsOf}
use Rattle.model.proofs.Tables.{rows_put}
use Rattle.model.specs.Bits.{of_page, bit_at, with_bit}
use Rattle.page_rows.specs.Bits.{bit_in}
use Rattle.heap.specs.Marking.{noted, marked_at, MarksFirst}

-- rows of marks are put in the place of others, as many and as long
pub marks_keep : (h : HeapState) (live mark todo : List (List Bool)) → IsHeap h → AreRowsOf h.store live
    → AreRowsOf h.store mark → AreRowsOf h.store todo
    → IsHeap (record h { live = live; mark = mark; todo = todo })
marks_keep h live mark todo i l m t = record {
  config = i.config;
  sizes = record {
    words = i.sizes.words;
    frames = i.sizes.frames;
    pages = i.sizes.pages;
    threads = i.sizes.threads;
    workers = i.sizes.workers;
    globals = i.sizes.globals;
  };
  starts = i.starts;
  live = l;
  mark = m;
  todo = t;
  sides = i.sides;
  births = i.births;
  buffers = i.buffers;
  registers = i.registers;
  idle = i.idle;
}

-- a bit is put by an address
pub bit_keeps : (s : StoreState) (rows new : List (List Bool)) (words a : ℕ) (bit : Bool) → AreRowsOf s rows
    → new ≡ with_bit rows words a bit → AreRowsOf s new
bit_keeps s rows new words a bit r e =
    subst (AreRowsOf s) (sym e) (rows_put s rows (a / words - 1) (a % words) bit r)

-- a bit is put by an address, or not
pub bit_kept : (s : StoreState) (rows new : List (List Bool)) (words a : ℕ) (bit unless : Bool) → AreRowsOf s rows
    → new ≡ (if unless then rows else with_bit rows words a bit) → AreRowsOf s new
bit_kept s rows new words a bit true r e = subst (AreRowsOf s) (sym e) r
bit_kept s rows new words a bit false r e = bit_keeps s rows new words a bit r e

-- a bit of what is to be scanned is put
pub todo_keeps : (h : HeapState) (todo : List (List Bool)) (a : ℕ) (bit : Bool) → IsHeap h
    → todo ≡ with_bit h.todo h.store.words a bit → IsHeap (record h { todo = todo })
todo_keeps h todo a bit i e = marks_keep h h.live h.mark todo i i.live i.mark
    (bit_keeps h.store h.todo todo h.store.words a bit i.todo e)

-- a bit of what is marked is
pub mark_keeps : (h : HeapState) (mark : List (List Bool)) (a : ℕ) (bit : Bool) → IsHeap h
    → mark ≡ with_bit h.mark h.store.words a bit → IsHeap (record h { mark = mark })
mark_keeps h mark a bit i e = marks_keep h h.live mark h.todo i i.live
    (bit_keeps h.store h.mark mark h.store.words a bit i.mark e) i.todo

-- a checkpoint isn't followed by being idle
was_idle : (last : Bool) (p q : Phase) → q ≡ (if last then phase_behind p else p) → q ≡ Idle → p ≡ Idle
was_idle false p q e f = sym e ∙ f
was_idle true Idle q e f = refl
was_idle true MarkCrossing q e f = absurd (cc)
was_idle true Scanning q e f = absurd (cc)
was_idle true ProtectCrossing q e f = absurd (cc)
was_idle true Relocating q e f = absurd (cc)

-- the phase after a crossing
pub phase_keeps : (h : HeapState) (p : Phase) (last : Bool) → IsHeap h
    → p ≡ (if last then phase_behind h.phase else h.phase) → IsHeap (record h { phase = p })
phase_keeps h p last i next = record {
  config = i.config;
  sizes = record {
    words = i.sizes.words;
    frames = i.sizes.frames;
    pages = i.sizes.pages;
    threads = i.sizes.threads;
    workers = i.sizes.workers;
    globals = i.sizes.globals;
  };
  starts = i.starts;
  live = i.live;
  mark = i.mark;
  todo = i.todo;
  sides = i.sides;
  births = i.births;
  buffers = i.buffers;
  registers = i.registers;
  idle = λ e. i.idle (was_idle last h.phase p next e);
}

-- ---- an object is marked, and noted later

bit_is : (rows : List (List Bool)) (words a : ℕ) (o : Option Bool) → bit_in rows words a ≡ o
    → bit_at rows words a ≡ unwrap_or o false
bit_is rows words a o e =
    sym (unwrap_or-slice_get (of_page rows (a / words)) (a % words) false) ∙ ap (λ p. unwrap_or p false) e

-- what marking leaves, where it is known whether the object was marked
mark_by : (h : HeapState) (a : ℕ) (b : Bool) → bit_at h.mark h.store.words a ≡ b
    → (record h {
      mark = with_bit h.mark h.store.words a true;
      todo = if b then h.todo else with_bit h.todo h.store.words a true;
    }) ≡ marked_at h a
unfolding marked_at
mark_by h a b e = λ i. record h {
  mark = with_bit h.mark h.store.words a true;
  todo = if sym e i then h.todo else with_bit h.todo h.store.words a true;
}

pub marked_first : (h : HeapState) (a : ℕ) (mark : List (List Bool)) → mark ≡ with_bit h.mark h.store.words a true
    → bit_in h.mark h.store.words a ≡ Some false → MarksFirst h a (record h { mark = mark })
unfolding noted
marked_first h a mark f e = subst (λ (m : List (List Bool)). MarksFirst h a (record h { mark = m })) (sym f) (record {
  fresh = e;
  marked = refl;
  rest = mark_by h a false (bit_is h.mark h.store.words a (Some false) e);
})

pub marked_again : (h : HeapState) (a : ℕ) (mark : List (List Bool)) → mark ≡ with_bit h.mark h.store.words a true
    → bit_in h.mark h.store.words a ≡ Some true → (record h { mark = mark }) ≡ marked_at h a
marked_again h a mark f e = ap (λ (m : List (List Bool)). record h { mark = m }) f
    ∙ mark_by h a true (bit_is h.mark h.store.words a (Some true) e)

pub marked_nowhere : (h : HeapState) (a : ℕ) (mark todo : List (List Bool))
    → mark ≡ with_bit h.mark h.store.words a true → todo ≡ with_bit h.todo h.store.words a true
    → bit_in h.mark h.store.words a ≡ None → (record h { mark = mark; todo = todo }) ≡ marked_at h a
marked_nowhere h a mark todo f g e = (λ i. record h { mark = f i; todo = g i })
    ∙ mark_by h a false (bit_is h.mark h.store.words a None e)

-- ---- a bit is cleared where none is set

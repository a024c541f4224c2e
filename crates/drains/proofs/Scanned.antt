-- An object that is picked and scanned field by field is scanned completely.
use Rattle.std.proofs.Common.{◌≡◌, ◌≢◌, ℕ, zero, suc, ◌+◌, ◌/◌, ◌%◌, true, false}
use Rattle.std.proofs.Common.{cond, nat_lt, List, set, Option, Some, None, refl, sym, ◌∙◌, ap, arith}
use Rattle.std.specs.List.{slice_get}
use Rattle.std.specs.Prelude.{Result, Ok}
use Rattle.std.proofs.Math.ListN.{length-set}
use Rattle.std.proofs.lemmas.List.{set-set}
use Rattle.refword.specs.Words.{bits_of}
use Rattle.layout.specs.declared.shape.Layout.{Layout}
use Rattle.model.specs.declared.records.Scan.{Scan}
use Rattle.model.specs.declared.steps.Refusal.{Refusal}
use Rattle.model.specs.declared.steps.Refusal.TheVariants as refusals
use Rattle.model.specs.Bits.{bit_at}
use Rattle.model.specs.Holding.{IsHeap}
use Rattle.heap.proofs.Keeping.{store_keeps}
use Rattle.heap.proofs.Marking.{marks_keep, bit_keeps, bit_kept}
use Rattle.page.proofs.Lying.{word_sized_alike, word_lies, word_unprotected}
use Rattle.page.proofs.RowSizes.{word_rows}
use Rattle.model.specs.Checkpoints.{all_crossed}
use Rattle.model.specs.Data.{layout_at, layout_in, header_layout}
use Rattle.model.specs.Emptying.{heap_after}
use Rattle.model.specs.Marks.{with_mark, marked_word, resolve, entry_at}
use Rattle.model.specs.Moves.{copied_for}
use Rattle.model.specs.Owning.{IsStore}
use Rattle.model.specs.References.{field_at, field_place, field_address}
use Rattle.model.specs.Refusing.{◌>>=◌, or_refuse, Outcome}
use Rattle.model.specs.Scans.{scan_of, with_scan, next_field, may_scan, reference_in}
use Rattle.model.specs.Scans.{with_marked_place, mark_place, with_scan_end, scan_next, scan_field_outcome}
use Rattle.model.specs.States.{Reference, HeapState, flat}
use Rattle.model.specs.Stores.{StoreState, word_at, with_word}
use Rattle.model.proofs.Lists.{get_set_same}
use Rattle.forward.specs.Counts.{uncopied_count}
use Rattle.page.proofs.Copied.{same_set}
use Rattle.page.proofs.Runs.{words_keep}
use Rattle.page.proofs.Untouched.{word_stays}
use Rattle.single_copies.proofs.Entries.{none_to_copy}
use Rattle.drains.specs.Drains.{refs_in, refs_at, marked_field, marked_fields, without_todo, scanned}

-- ---- a word that is written

word_keeps : (s : StoreState) (place v : ℕ) → IsStore s → IsStore (with_word s place v)
unfolding with_word
word_keeps s place v h = words_keep s (place / s.words) (λ ws. set ws (place % s.words) v)
    (λ ws. length-set ws (place % s.words) v) h

-- ---- what a scan needs of a heap

-- a mark runs that all have crossed, nothing is left to be copied, and the worker is there and has no object
pub record MayScan (h : HeapState) (w : ℕ) : Type 0 where
  pub scan : may_scan h ≡ Ok tt
  pub none : uncopied_count h.sides ≡ 0
  pub worker : slice_get h.workers w ≡ Some None
  pub store : IsStore h.store
  pub heap : IsHeap h

pub mark_heap : (h : HeapState) (v : Reference) → IsHeap h → IsHeap (with_mark h v)
unfolding with_mark
mark_heap h None i = marks_keep h h.live h.mark h.todo i i.live i.mark i.todo
mark_heap h (Some x) i = marks_keep h h.live _ _ i i.live
    (bit_keeps h.store h.mark _ h.store.words (resolve h x.0) true i.mark refl)
    (bit_kept h.store h.todo _ h.store.words (resolve h x.0) true (bit_at h.mark h.store.words (resolve h x.0)) i.todo
    refl)

marked_heap : (h : HeapState) (place : ℕ) → IsHeap h → IsHeap (marked_field h place)
unfolding marked_field with_marked_place with_mark
marked_heap h place i = store_keeps (with_mark h v) (with_word h.store place bits) (mark_heap h v i)
    (word_sized_alike h.store place bits) (word_rows h.store place bits) (λ b. word_lies h.store place bits b)
    (word_unprotected h.store place bits)
  where
    v : Reference
    v = reference_in (word_at h.store place)

    bits : ℕ
    bits = bits_of (marked_word h v)

pub scan_heap : (h : HeapState) (w : ℕ) (s : Option Scan) → IsHeap h → IsHeap (with_scan h w s)
unfolding with_scan
scan_heap h w s i = record {
  config = i.config;
  sizes = record {
    words = i.sizes.words;
    frames = i.sizes.frames;
    pages = i.sizes.pages;
    threads = i.sizes.threads;
    workers = length-set h.workers w s ∙ i.sizes.workers;
    globals = i.sizes.globals;
  };
  starts = i.starts;
  live = i.live;
  mark = i.mark;
  todo = i.todo;
  sides = i.sides;
  births = i.births;
  buffers = i.buffers;
  registers = i.registers;
  idle = i.idle;
}

pub field_keeps : (h : HeapState) (w place : ℕ) → MayScan h w → MayScan (marked_field h place) w
unfolding marked_field with_marked_place with_mark may_scan all_crossed
field_keeps h w place m = record {
  scan = m.scan;
  none = m.none;
  worker = m.worker;
  store = word_keeps h.store place _ m.store;
  heap = marked_heap h place m.heap;
}

pub layout_stays : (h : HeapState) (a place : ℕ) → IsStore h.store → a ≢ place
    → layout_at (marked_field h place) a ≡ layout_at h a
unfolding marked_field with_marked_place with_mark layout_at
layout_stays h a place s apart = ap (λ v. layout_in h.config.layouts (header_layout v))
    (word_stays h.store a place _ s apart)

-- ---- one field

abbrev pub at_field : ℕ → ℕ → Scan
at_field a i = record { object = a; next = i }

scan_held : (h : HeapState) (w : ℕ) (s : Scan) → slice_get h.workers w ≡ Some None
    → scan_of (with_scan h w (Some s)) w ≡ Some s
unfolding with_scan
scan_held h w s e = ap flat (get_set_same h.workers w None (Some s) e)

-- a word is marked beside what a worker has
mark_beside : (h : HeapState) (w : ℕ) (s : Option Scan) (place : ℕ) (v : Reference)
    → with_marked_place (with_scan h w s) place v ≡ with_scan (with_marked_place h place v) w s
unfolding with_scan with_marked_place with_mark marked_word resolve entry_at
mark_beside h w s place None = refl
mark_beside h w s place (Some x) = refl

pub none_copied : (h : HeapState) (v : Reference) → uncopied_count h.sides ≡ 0 → copied_for h v ≡ h
unfolding copied_for
none_copied h None e = refl
none_copied h (Some x) e = sym (none_to_copy h x.0 e)

scan_again : (h : HeapState) (w : ℕ) (s t : Option Scan) → with_scan (with_scan h w s) w t ≡ with_scan h w t
unfolding with_scan
scan_again h w s t = ap (λ (ws : List (Option Scan)). record h { workers = ws }) (set-set h.workers w s t)

abbrev row : HeapState → ℕ → Result Unit Refusal → Option Scan → Outcome
row g w r o = r >>= (λ u. or_refuse o refusals.NotTodo >>= (λ s. scan_next g w s (field_at g s.object s.next)))

pub field_row : (h : HeapState) (w : ℕ) (s : Scan) → MayScan h w
    → scan_field_outcome (with_scan h w (Some s)) w
    ≡ scan_next (with_scan h w (Some s)) w s (field_at (with_scan h w (Some s)) s.object s.next)
unfolding scan_field_outcome with_scan may_scan all_crossed
field_row h w s m = ap (λ r. row (with_scan h w (Some s)) w r (scan_of (with_scan h w (Some s)) w)) m.scan
    ∙ ap (row (with_scan h w (Some s)) w (Ok tt)) (scan_held h w s m.worker)

field_is : (h : HeapState) (w : ℕ) (s : Option Scan) (a i : ℕ) (o : Option Layout) → layout_at h a ≡ o
    → field_at (with_scan h w s) a i ≡ field_place a i o
unfolding field_at layout_at with_scan
field_is h w s a i o e = ap (field_place a i) e

pub one_field : (h : HeapState) (w a i : ℕ) (l : Layout) → MayScan h w → layout_at h a ≡ Some l → nat_lt i l.refs ≡ true
    → heap_after (with_scan h w (Some (at_field a i))) (scan_field_outcome (with_scan h w (Some (at_field a i))) w)
    ≡ with_scan (marked_field h (field_address a i)) w (Some (at_field a (i + 1)))
unfolding mark_place marked_field with_scan
one_field h w a i l m e low =
    ap (heap_after g) (field_row h w s m
    ∙ ap (scan_next g w s) (field_is h w (Some s) a i (Some l) e ∙ ap (λ b. cond b (Some place) None) low))
    ∙ ap (λ k. with_scan k w (Some (next_field s)))
    (ap (λ k. with_marked_place k place v) (none_copied g v none) ∙ mark_beside h w (Some s) place v)
    ∙ scan_again (with_marked_place h place v) w (Some s) (Some (next_field s))
  where
    s : Scan
    s = at_field a i

    g : HeapState
    g = with_scan h w (Some s)

    place : ℕ
    place = field_address a i

    v : Reference
    v = reference_in (word_at h.store place)

    none : uncopied_count g.sides ≡ 0
    none = m.none

-- no field is left
last_field : (h : HeapState) (w a i : ℕ) → MayScan h w → nat_lt i (refs_in (layout_at h a)) ≡ false
    → heap_after (with_scan h w (Some (at_field a i))) (scan_field_outcome (with_scan h w (Some (at_field a i))) w)
    ≡ without_todo h a
unfolding with_scan_end without_todo with_scan
last_field h w a i m high =
    ap (heap_after g) (field_row h w s m
    ∙ ap (scan_next g w s) (field_is h w (Some s) a i (layout_at h a) refl ∙ by_layout (layout_at h a) high))
    ∙ ap (λ (ws : List (Option Scan)). record (without_todo h a) { workers = ws })
    (set-set h.workers w (Some s) None ∙ same_set h.workers w None m.worker)
  where
    s : Scan
    s = at_field a i

    g : HeapState
    g = with_scan h w (Some s)

    by_layout : (o : Option Layout) → nat_lt i (refs_in o) ≡ false → field_place a i o ≡ None
    by_layout None e = refl
    by_layout (Some l) e = ap (λ b. cond b (Some (field_address a i)) None) e

-- ---- all fields

abbrev pub scans : HeapState → ℕ → ℕ → HeapState
scans h w zero = h
scans h w (suc k) = scans (heap_after h (scan_field_outcome h w)) w k

pub fields_scanned : (h : HeapState) (w a i k : ℕ) → MayScan h w → refs_in (layout_at h a) ≡ i + k
    → scans (with_scan h w (Some (at_field a i))) w (suc k) ≡ without_todo (marked_fields h a i k) a
fields_scanned h w a i zero m e = last_field h w a i m (none_left i (refs_in (layout_at h a)) e)
  where
    none_left : (i n : ℕ) → n ≡ i + 0 → nat_lt i n ≡ false
    none_left i n e = grind arith
fields_scanned h w a i (suc k) m e = by_layout (layout_at h a) refl e
    (λ l same. fields_scanned (marked_field h (field_address a i)) w a (i + 1) k
    (field_keeps h w (field_address a i) m) same)
  where
    one_left : (i n : ℕ) → n ≡ i + suc k → nat_lt i n ≡ true
    one_left i n e = grind arith

    next : HeapState
    next = marked_field h (field_address a i)

    by_layout : (o : Option Layout) → layout_at h a ≡ o → refs_in o ≡ i + suc k
        → ((l : Layout) → refs_in (layout_at next a) ≡ (i + 1) + k
        → scans (with_scan next w (Some (at_field a (i + 1)))) w (suc k)
        ≡ without_todo (marked_fields next a (i + 1) k) a)
        → scans (with_scan h w (Some (at_field a i))) w (suc (suc k)) ≡ without_todo (marked_fields h a i (suc k)) a
    by_layout None z f rest = absurd (omega (arith, f))
    by_layout (Some l) z f rest =
        let apart : a ≢ field_address a i = λ y. absurd (omega (arith, y)) in
        let same : layout_at next a ≡ Some l = layout_stays h a (field_address a i) m.store apart ∙ z in
        let left : l.refs ≡ (i + 1) + k = omega (arith, f) in
        ap (λ g. scans g w (suc k)) (one_field h w a i l m z (one_left i l.refs f))
        ∙ rest l (ap refs_in same ∙ left)

-- ---- what the code does

pub fields_more : (h : HeapState) (a i k m : ℕ) → k ≡ suc m
    → marked_fields h a i k ≡ marked_fields (marked_field h (field_address a i)) a (i + 1) m
fields_more h a i k m e = ap (marked_fields h a i) e

pub fields_none : (h : HeapState) (a i k : ℕ) → k ≡ 0 → marked_fields h a i k ≡ h
fields_none h a i k e = ap (marked_fields h a i) e

pub field_behind : (a i : ℕ) → a + (1 + i) ≡ field_address a i
field_behind a i = omega arith

-- the workers stay
pub workers_stay : (h : HeapState) (a i k : ℕ) → (marked_fields h a i k).workers ≡ h.workers
unfolding marked_field with_marked_place with_mark
workers_stay h a i zero = refl
workers_stay h a i (suc k) = workers_stay (marked_field h (field_address a i)) a (i + 1) k

pub fields_keep : (h : HeapState) (w a i k : ℕ) → MayScan h w → MayScan (marked_fields h a i k) w
fields_keep h w a i zero m = m
fields_keep h w a i (suc k) m = fields_keep (marked_field h (field_address a i)) w a (i + 1) k
    (field_keeps h w (field_address a i) m)

-- the globals stay
fields_globals : (h : HeapState) (a i k : ℕ) → (marked_fields h a i k).globals ≡ h.globals
unfolding marked_field with_marked_place with_mark
fields_globals h a i zero = refl
fields_globals h a i (suc k) = fields_globals (marked_field h (field_address a i)) a (i + 1) k

pub scanned_globals : (h : HeapState) (a : ℕ) → (scanned h a).globals ≡ h.globals
unfolding scanned without_todo
scanned_globals h a = fields_globals h a 0 (refs_at h a)

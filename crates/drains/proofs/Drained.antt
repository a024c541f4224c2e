-- A complete scan does what steps of a drain do.
use Rattle.std.proofs.Common.{◌≡◌, ◌≢◌, ◌⊎◌, inl, inr, ℕ, zero, suc, ◌+◌, ◌*◌, ◌/◌, ◌%◌, ◌<◌, ◌≤◌, ◌&&◌, ◌||◌, not}
use Rattle.std.proofs.Common.{Bool, true, false}
use Rattle.std.proofs.Common.{cond, nat_lt, nat_le, nat_eq, is_some, List, [], ◌∷◌, ◌++◌, get_or, length, Option, Some}
use Rattle.std.proofs.Common.{None, refl, sym, ◌∙◌, ap, arith, subst}
use Rattle.std.specs.List.{slice_get, list_all, find, range_with_len}
use Rattle.std.specs.Prelude.{Result, Ok, Err, if◌then◌else◌, is_ok}
use Rattle.std.proofs.Math.ListN.{length-set}
use Rattle.std.proofs.Math.Nat.{mod-lt}
use Rattle.std.proofs.lemmas.Bool.{and_parts, cases_lt, true≢false}
use Rattle.std.proofs.lemmas.Bool.Decides.{nat_tests}
use Rattle.std.proofs.lemmas.List.{get_or_past}
use Rattle.std.proofs.lemmas.List.Folds.{list_all-append}
use Rattle.std.proofs.lemmas.Nat.{div-add-mod'}
use Rattle.std.proofs.lemmas.Option.{slice_get_past, slice_get_within, same_Some}
use Rattle.model.specs.declared.records.Scan.{Scan}
use Rattle.model.specs.declared.steps.Actor.TheVariants.{Worker}
use Rattle.model.specs.declared.steps.Answer.TheVariants as answers
use Rattle.model.specs.declared.steps.Refusal.{Refusal}
use Rattle.model.specs.declared.steps.Refusal.TheVariants as refusals
use Rattle.model.specs.declared.steps.Step.{Step}
use Rattle.model.specs.declared.steps.Step.TheVariants as steps
use Rattle.model.specs.Bits.{bit_on, bit_at}
use Rattle.model.specs.Checkpoints.{all_crossed}
use Rattle.model.specs.Emptying.{heap_after}
use Rattle.model.specs.Holding.{IsHeap}
use Rattle.model.proofs.Tables.{rows_many}
use Rattle.model.specs.Outcome.{outcome, worker_gate, no_page}
use Rattle.model.specs.Owning.{IsStore}
use Rattle.model.specs.Refusing.{◌>>=◌, or_refuse, Outcome}
use Rattle.model.specs.Scans.{scan_of, with_scan, first_field, is_taken, may_scan, pick_outcome, scan_next}
use Rattle.model.specs.Scans.{scan_field_outcome, is_free_todo, next_todo}
use Rattle.model.specs.References.{field_at, field_address}
use Rattle.model.specs.States.{HeapState, flat}
use Rattle.model.specs.Stores.{record_count}
use Rattle.forward.specs.Counts.{uncopied_count}
use Rattle.layout.specs.declared.shape.Layout.{Layout}
use Rattle.model.specs.Data.{layout_at}
use Rattle.refinement.specs.Standing.{Holds, StepsHold, kept_at_mark}
use Rattle.model.specs.Plain.{PlainHeap, plain_step}
use Rattle.drains.specs.Drains.{drains, is_pick, picks, after_steps, AreInOrder, IsDrained, KeepsPlain, refs_in}
use Rattle.drains.specs.Drains.{marked_field, field_steps, object_steps, IsReady, HasDrained, refs_at, marked_fields}
use Rattle.drains.specs.Drains.{without_todo, scanned}
use Rattle.drains.proofs.Scanned.{MayScan, scan_heap, field_keeps, one_field, layout_stays, fields_keep, at_field}
use Rattle.drains.proofs.Scanned.{scans, fields_scanned, field_row}

-- ---- drains one behind the other

after_both : (h : HeapState) (w : ℕ) (ss ts : List Step) → after_steps h w (ss ++ ts)
    ≡ after_steps (after_steps h w ss) w ts
after_both h w [] ts = refl
after_both h w (s ∷ ss) ts = after_both (heap_after h (outcome h (Worker w) s)) w ss ts

pub drained_none : (h : HeapState) (w : ℕ) → IsDrained h w 0 h
drained_none h w = record { steps = []; only = refl; count = refl; order = tt; done = refl }

order_both : (h : HeapState) (w : ℕ) (ss ts : List Step) → AreInOrder h w ss → AreInOrder (after_steps h w ss) w ts
    → AreInOrder h w (ss ++ ts)
order_both h w [] ts a b = b
order_both h w (s ∷ ss) ts a b =
    (a.0, a.1, a.2, order_both (heap_after h (outcome h (Worker w) s)) w ss ts a.3 b)

picks_both : (ss ts : List Step) → picks (ss ++ ts) ≡ picks ss + picks ts
picks_both [] ts = omega arith
picks_both (s ∷ ss) ts = by_pick (is_pick s) (picks_both ss ts)
  where
    by_pick : (b : Bool) → picks (ss ++ ts) ≡ picks ss + picks ts
        → (if b then suc (picks (ss ++ ts)) else picks (ss ++ ts)) ≡ (if b then suc (picks ss) else picks ss) + picks ts
    by_pick true e = omega (arith, e)
    by_pick false e = e

pub drained_then : (h g k : HeapState) (w n m : ℕ) → IsDrained h w n g → IsDrained g w m k → IsDrained h w (n + m) k
drained_then h g k w n m a b = record {
  steps = a.steps ++ b.steps;
  only = list_all-append drains a.steps b.steps ∙ ap (λ x. x && list_all drains b.steps) a.only ∙ b.only;
  count = picks_both a.steps b.steps ∙ (λ i. a.count i + b.count i);
  order = order_both h w a.steps b.steps a.order (subst (λ x. AreInOrder x w b.steps) a.done b.order);
  done = b.done ∙ ap (λ x. after_steps x w b.steps) a.done ∙ sym (after_both h w a.steps b.steps);
}

-- ---- ScanField by its row alone

row_refused : (h : HeapState) (w : ℕ) (r : Result Unit Refusal) → slice_get h.workers w ≡ None
    → heap_after h (r >>= (λ u. or_refuse (scan_of h w) refusals.NotTodo
    >>= (λ s. scan_next h w s (field_at h s.object s.next)))) ≡ h
row_refused h w (Err e) n = refl
row_refused h w (Ok u) n = ap (λ o. heap_after h (or_refuse (flat o) refusals.NotTodo
    >>= (λ s. scan_next h w s (field_at h s.object s.next)))) n

le-true : (m n : ℕ) → nat_le m n ≡ true → m ≤ n
le-true m n e = grind (arith, nat_tests)

field_step : (h : HeapState) (w : ℕ)
    → heap_after h (outcome h (Worker w) steps.ScanField) ≡ heap_after h (scan_field_outcome h w)
unfolding outcome worker_gate scan_field_outcome
field_step h w = by_gate (nat_le (length h.workers) w) refl
  where
    gate : Bool → Result Unit Refusal
    gate b = if (b || false) then Err refusals.NoActor else Ok tt

    by_gate : (b : Bool) → nat_le (length h.workers) w ≡ b
        → heap_after h (gate b >>= (λ u. scan_field_outcome h w))
        ≡ heap_after h (scan_field_outcome h w)
    by_gate false e = refl
    by_gate true e = sym (row_refused h w (may_scan h) (slice_get_past h.workers w (le-true (length h.workers) w e)))

steps_scan : (h : HeapState) (w k : ℕ) → after_steps h w (field_steps k) ≡ scans h w k
steps_scan h w zero = refl
steps_scan h w (suc k) = ap (λ g. after_steps g w (field_steps k)) (field_step h w)
    ∙ steps_scan (heap_after h (scan_field_outcome h w)) w k

no_picks : (k : ℕ) → picks (field_steps k) ≡ 0
no_picks zero = refl
no_picks (suc k) = no_picks k

fields_only : (k : ℕ) → list_all drains (field_steps k) ≡ true
fields_only zero = refl
fields_only (suc k) = fields_only k

-- ---- Pick

-- a page on which a bit is set is there
bit_there : (rows : List (List Bool)) (n o : ℕ) → bit_on rows n o ≡ true → (0 < n) × (n ≤ length rows)
bit_there rows zero o e = absurd (cc)
bit_there rows (suc i) o e = (omega arith, by_place (cases_lt i (length rows)))
  where
    by_place : (i < length rows) ⊎ (length rows ≤ i) → suc i ≤ length rows
    by_place (inl l) = omega (arith, l)
    by_place (inr l) = absurd (true≢false (sym e ∙ ap (λ (r : List Bool). get_or r o false) (get_or_past rows i [] l)))

few : (frames count : ℕ) → record_count frames count ≤ count
few frames count = grind (arith, nat_tests)

page_there : (h : HeapState) (n o : ℕ) → IsStore h.store → IsHeap h → bit_on h.todo n o ≡ true
    → (nat_eq n 0 || nat_lt h.store.count n) ≡ false
page_there h n o s i e =
    let (low, high) = bit_there h.todo n o e in
    by_bounds n h.store.count low (omega (
      arith,
      high,
      rows_many h.store h.todo i.todo,
      s.sized.pages,
      few (length h.store.frames) h.store.count,
    ))
  where
    by_bounds : (n m : ℕ) → 0 < n → n ≤ m → (nat_eq n 0 || nat_lt m n) ≡ false
    by_bounds n m a b = grind (arith, nat_tests)

-- a step is accepted with nothing to tell
abbrev pub done : HeapState → Outcome
done g = Ok (g, answers.Done)

row_is : (n : HeapState) (g r : Result Unit Refusal) (b c : Bool) → g ≡ Ok tt → r ≡ Ok tt → b ≡ true → c ≡ false
    → (g >>= (λ u. r >>= (λ v. if not b then Err refusals.NotTodo
    else (if c then Err refusals.Taken else done n)))) ≡ done n
row_is n (Ok u) (Ok v) true false e f k l = refl
row_is n (Ok u) (Ok v) true true e f k l = absurd (cc)
row_is n (Ok u) (Ok v) false c e f k l = absurd (cc)
row_is n (Ok u) (Err x) b c e f k l = absurd (cc)
row_is n (Err x) r b c e f k l = absurd (cc)

abbrev gate : Bool → Bool → Result Unit Refusal
gate a b = if (a || false) then Err refusals.NoActor else (if b then Err refusals.BadIndex else Ok tt)

pub gate_is : (a b : Bool) → a ≡ false → b ≡ false → gate a b ≡ Ok tt
gate_is false false e f = refl
gate_is false true e f = absurd (cc)
gate_is true b e f = absurd (cc)

pub lt-not-le : (m n : ℕ) → m < n → nat_le n m ≡ false
lt-not-le m n e = grind (arith, nat_tests)

lt-is : (m n : ℕ) → m < n → nat_lt m n ≡ true
lt-is m n e = grind (arith, nat_tests)

both_true : (a b : Bool) → a ≡ true → b ≡ true → (a && b) ≡ true
both_true true true e f = refl
both_true true false e f = absurd (cc)
both_true false b e f = absurd (cc)

neither : (a b : Bool) → a ≡ false → b ≡ false → (a || b) ≡ false
neither false false e f = refl
neither false true e f = absurd (cc)
neither true b e f = absurd (cc)

not_is : (b : Bool) → not b ≡ true → b ≡ false
not_is false e = refl
not_is true e = absurd (cc)

pick_is : (h : HeapState) (w a : ℕ) → IsHeap h → MayScan h w → is_free_todo h a ≡ true
    → outcome h (Worker w) (steps.Pick (a / h.store.words) (a % h.store.words))
    ≡ done (with_scan h w (Some (at_field a 0)))
unfolding outcome worker_gate no_page pick_outcome is_free_todo
pick_is h w a i m free =
    let (bit, apart) = and_parts (bit_at h.todo h.store.words a) (not (is_taken h a)) free in
    let back : a / h.store.words * h.store.words + a % h.store.words ≡ a = div-add-mod' a h.store.words in
    row_is (with_scan h w (Some (first_field (a / h.store.words * h.store.words + a % h.store.words)))) _ (may_scan h)
    (nat_lt (a % h.store.words) h.store.words && bit_on h.todo (a / h.store.words) (a % h.store.words))
    (is_some (scan_of h w) || is_taken h (a / h.store.words * h.store.words + a % h.store.words))
    (gate_is (nat_le (length h.workers) w)
    (nat_eq (a / h.store.words) 0 || nat_lt h.store.count (a / h.store.words))
    (lt-not-le w (length h.workers) (slice_get_within h.workers w None m.worker))
    (page_there h (a / h.store.words) (a % h.store.words) m.store i bit))
    m.scan
    (both_true _ _ (lt-is (a % h.store.words) h.store.words (mod-lt a m.store.sized.words_low)) bit)
    (neither _ _ (ap (λ o. is_some (flat o)) m.worker) (ap (is_taken h) back ∙ not_is (is_taken h a) apart))
    ∙ ap (λ (x : ℕ). done (with_scan h w (Some (at_field x 0)))) back

picked : (h : HeapState) (w a : ℕ) → IsHeap h → MayScan h w → is_free_todo h a ≡ true
    → heap_after h (outcome h (Worker w) (steps.Pick (a / h.store.words) (a % h.store.words)))
    ≡ with_scan h w (Some (at_field a 0))
picked h w a i m free = ap (heap_after h) (pick_is h w a i m free)

-- ---- an object

next_accepted : (h : HeapState) (w : ℕ) (s : Scan) (o : Option ℕ) → is_ok (scan_next h w s o) ≡ true
next_accepted h w s None = refl
next_accepted h w s (Some place) = refl

field_accepted : (h : HeapState) (w : ℕ) (s : Scan) → MayScan h w
    → is_ok (outcome (with_scan h w (Some s)) (Worker w) steps.ScanField) ≡ true
unfolding outcome worker_gate with_scan
field_accepted h w s m =
    ap (λ (r : Result Unit Refusal). is_ok (r >>= (λ u. scan_field_outcome (with_scan h w (Some s)) w)))
    (gate_is (nat_le (length (with_scan h w (Some s)).workers) w) false
    (ap (λ (n : ℕ). nat_le n w) (length-set h.workers w (Some s))
    ∙ lt-not-le w (length h.workers) (slice_get_within h.workers w None m.worker)) refl)
    ∙ ap is_ok (field_row h w s m)
    ∙ next_accepted (with_scan h w (Some s)) w s (field_at (with_scan h w (Some s)) s.object s.next)

-- the heaps between its fields are in order
fields_order : (h : HeapState) (w a i k : ℕ) → MayScan h w → refs_in (layout_at h a) ≡ i + k
    → AreInOrder (with_scan h w (Some (at_field a i))) w (field_steps (suc k))
unfolding with_scan
fields_order h w a i zero m e =
    (m.store, scan_heap h w (Some (at_field a i)) m.heap, field_accepted h w (at_field a i) m, tt)
fields_order h w a i (suc k) m e = (
  m.store,
  scan_heap h w (Some (at_field a i)) m.heap,
  field_accepted h w (at_field a i) m,
  by_layout (layout_at h a) refl e (fields_order (marked_field h (field_address a i)) w a (i + 1) k
      (field_keeps h w (field_address a i) m)),
)
  where
    one_left : (i n : ℕ) → n ≡ i + suc k → nat_lt i n ≡ true
    one_left i n e = grind arith

    next : HeapState
    next = marked_field h (field_address a i)

    by_layout : (o : Option Layout) → layout_at h a ≡ o → refs_in o ≡ i + suc k
        → (refs_in (layout_at next a) ≡ (i + 1) + k → AreInOrder (with_scan next w (Some (at_field a (i + 1)))) w
        (field_steps (suc k)))
        → AreInOrder (heap_after (with_scan h w (Some (at_field a i)))
        (outcome (with_scan h w (Some (at_field a i))) (Worker w) steps.ScanField)) w (field_steps (suc k))
    by_layout None z f rest = absurd (omega (arith, f))
    by_layout (Some l) z f rest =
        let apart : a ≢ field_address a i = λ y. absurd (omega (arith, y)) in
        let same : layout_at next a ≡ Some l = layout_stays h a (field_address a i) m.store apart ∙ z in
        let left : l.refs ≡ (i + 1) + k = omega (arith, f) in
        subst (λ g. AreInOrder g w (field_steps (suc k)))
        (sym (field_step (with_scan h w (Some (at_field a i))) w ∙ one_field h w a i l m z (one_left i l.refs f)))
        (rest (ap refs_in same ∙ left))

pub object_drained : (h g : HeapState) (w a : ℕ) → IsStore h.store → IsHeap h → IsReady h w → is_free_todo h a ≡ true
    → g ≡ scanned h a → IsDrained h w 1 g
unfolding scanned refs_at
object_drained h g w a s i r free e = record {
  steps = object_steps (a / h.store.words) (a % h.store.words) (refs_at h a);
  only = fields_only (suc (refs_at h a));
  count = ap suc (no_picks (suc (refs_at h a)));
  order = (
    s,
    i,
    ap is_ok (pick_is h w a i m free),
    subst (λ k. AreInOrder k w (field_steps (suc (refs_at h a)))) (sym (picked h w a i m free))
        (fields_order h w a 0 (refs_at h a) m (omega arith)),
  );
  done = e ∙ sym (fields_scanned h w a 0 (refs_at h a) m (omega arith))
      ∙ sym (steps_scan (with_scan h w (Some (at_field a 0))) w (suc (refs_at h a)))
      ∙ ap (λ k. after_steps k w (field_steps (suc (refs_at h a)))) (sym (picked h w a i m free));
}
  where
    m : MayScan h w
    m = record { scan = r.scan; none = r.none; worker = r.worker; store = s; heap = i }

-- the worker may go on
pub ready_still : (h g : HeapState) (w a : ℕ) → IsStore h.store → IsHeap h → IsReady h w → g ≡ scanned h a → IsReady g w
unfolding scanned without_todo may_scan all_crossed
ready_still h g w a s i r e = subst (λ k. IsReady k w) (sym e) (after (fields_keep h w a 0 (refs_at h a)
    (record { scan = r.scan; none = r.none; worker = r.worker; store = s; heap = i })))
  where
    after : MayScan (marked_fields h a 0 (refs_at h a)) w → IsReady (without_todo (marked_fields h a 0 (refs_at h a)) a)
        w
    after m = record { scan = m.scan; none = m.none; worker = m.worker }

-- what is found passes
pub found_passes : (p : ℕ → Bool) (xs : List ℕ) (x : ℕ) → find p xs ≡ Some x → p x ≡ true
found_passes p [] x e = absurd (cc)
found_passes p (y ∷ xs) x e = by_test (p y) refl e (found_passes p xs x)
  where
    by_test : (b : Bool) → p y ≡ b → cond b (Some y) (find p xs) ≡ Some x → (find p xs ≡ Some x → p x ≡ true) → p x
        ≡ true
    by_test true z k rest = ap p (sym (same_Some _ _ k)) ∙ z
    by_test false z k rest = rest k

pub next_passes : (h : HeapState) (a : ℕ) → next_todo h ≡ Some a → is_free_todo h a ≡ true
unfolding next_todo
next_passes h a e = found_passes (is_free_todo h) (range_with_len h.store.words (length h.todo * h.store.words)) a e

pub first_drained : (h : HeapState) (w : ℕ) → IsReady h w → HasDrained h w 0 h
first_drained h w r = record { drained = drained_none h w; ready = r }

pub more_drained : (h g k : HeapState) (w n a : ℕ) → HasDrained h w n g → IsStore g.store → IsHeap g
    → is_free_todo g a ≡ true → k ≡ scanned g a → HasDrained h w (n + 1) k
more_drained h g k w n a d s i free e = record {
  drained = drained_then h g k w n 1 d.drained (object_drained g k w a s i d.ready free e);
  ready = ready_still g k w a s i d.ready e;
}

pub ready_is : (h : HeapState) (w : ℕ) → may_scan h ≡ Ok tt → uncopied_count h.sides ≡ 0
    → slice_get h.workers w ≡ Some None → IsReady h w
ready_is h w scan none worker = record { scan = scan; none = none; worker = worker }

-- ---- a drain changes no plain heap

kept_same : (p p0 : PlainHeap) (s : Step) → drains s ≡ true → kept_at_mark p p0 s ≡ p0
kept_same p p0 s e = grind arith

step_stands : StepsHold → (h : HeapState) (w : ℕ) (s : Step) (p p0 : PlainHeap) → drains s ≡ true → IsStore h.store
    → IsHeap h → Holds h p p0 → Holds (heap_after h (outcome h (Worker w) s)) p p0
unfolding plain_step
step_stands law h w s p p0 d store i k = by_outcome (outcome h (Worker w) s) refl
  where
    by_outcome : (o : Outcome) → outcome h (Worker w) s ≡ o → Holds (heap_after h o) p p0
    by_outcome (Err n) e = k
    by_outcome (Ok x) e = subst (λ q. Holds x.0 p q) (kept_same p p0 s d)
        (law h p p0 (Worker w) s x.0 x.1 store i k e).holds

steps_stand : StepsHold → (h : HeapState) (w : ℕ) (ss : List Step) (p p0 : PlainHeap) → list_all drains ss ≡ true
    → AreInOrder h w ss → Holds h p p0 → Holds (after_steps h w ss) p p0
steps_stand law h w [] p p0 d o k = k
steps_stand law h w (s ∷ ss) p p0 d o k =
    let (one, rest) = and_parts (drains s) (list_all drains ss) d in
    steps_stand law (heap_after h (outcome h (Worker w) s)) w ss p p0 rest o.3
    (step_stands law h w s p p0 one o.0 o.1 k)

pub drained_stands : (h g : HeapState) (w n : ℕ) → StepsHold → IsDrained h w n g → KeepsPlain h g
drained_stands h g w n law d p p0 k =
    subst (λ x. Holds x p p0) (sym d.done) (steps_stand law h w d.steps p p0 d.only d.order k)

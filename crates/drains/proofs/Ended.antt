-- Globals and objects are drained, one after another, and nothing is left at the end.
use Rattle.std.proofs.Common.{◌≡◌, ◌≢◌, ◌⊎◌, inl, inr, ℕ, ◌+◌, ◌<◌, ◌≤◌, Bool, true, false}
use Rattle.std.proofs.Common.{nat_le, is_some, List, [], ◌∷◌, length, Option, Some, None, refl, sym, ◌∙◌, ap, arith}
use Rattle.std.proofs.Common.{subst}
use Rattle.std.specs.List.{slice_get, position}
use Rattle.std.specs.Prelude.{Result, Ok, Err, if◌then◌else◌, is_ok}
use Rattle.std.proofs.lemmas.Bool.{cases_lt, true≢false}
use Rattle.model.specs.declared.records.Global.{Global}
use Rattle.model.specs.Marks.{with_mark, marked_word}
use Rattle.model.specs.Moves.{copied_for}
use Rattle.model.proofs.Lists.{get_set_same, get_set_other, position_finds, position_passes}
use Rattle.model.proofs.Tables.{length_changed}
use Rattle.std.proofs.lemmas.Option.{slice_get_past, slice_get_within}
use Rattle.model.specs.declared.steps.Actor.TheVariants.{Worker}
use Rattle.model.specs.declared.steps.Refusal.{Refusal}
use Rattle.model.specs.declared.steps.Refusal.TheVariants as refusals
use Rattle.model.specs.declared.steps.Step.TheVariants as steps
use Rattle.model.specs.Checkpoints.{all_crossed}
use Rattle.model.specs.Emptying.{heap_after}
use Rattle.model.specs.Holding.{IsHeap}
use Rattle.model.specs.Outcome.{outcome, worker_gate, no_global}
use Rattle.model.specs.Owning.{IsStore}
use Rattle.model.specs.Refusing.{◌>>=◌}
use Rattle.model.specs.Scans.{may_scan, is_free_todo, next_todo, next_drain, pick_step, global_step_or, is_todo_in}
use Rattle.model.specs.Scans.{set_marked_of, with_marked_global, mark_global, scan_global_outcome}
use Rattle.model.specs.References.{global_of}
use Rattle.model.specs.States.{HeapState, Reference, flat, change_at, change_found}
use Rattle.refinement.specs.Standing.{StepsHold}
use Rattle.drains.specs.Drains.{IsDrained, KeepsPlain, IsReady, HasDrained, ObjectsDone, NoneTodo, with_global_done}
use Rattle.drains.specs.Drains.{scanned}
use Rattle.drains.proofs.Scanned.{mark_heap, none_copied, scanned_globals}
use Rattle.drains.proofs.Drained.{lt-not-le, done, drained_then, gate_is, first_drained, more_drained, drained_stands}

-- ---- globals

pub none_first : (h : HeapState) → NoneTodo h 0
none_first h i l = absurd (omega (arith, l))

-- a global that isn't to be marked is passed over
pub none_next : (h : HeapState) (n : ℕ) → NoneTodo h n → is_todo_in (slice_get h.globals n) ≡ false → NoneTodo h (n + 1)
none_next h n k e i l = by_place (cases_lt i n)
  where
    by_place : (i < n) ⊎ (n ≤ i) → is_todo_in (slice_get h.globals i) ≡ false
    by_place (inl m) = k i m
    by_place (inr m) = let same : i ≡ n = omega (arith, l, m) in ap (λ j. is_todo_in (slice_get h.globals j)) same ∙ e

-- one that is to be marked is marked
changed_same : (gs : List Global) (n : ℕ) (v : Reference)
    → is_todo_in (slice_get (change_at gs n (set_marked_of v)) n) ≡ false
changed_same gs n v = by_found (slice_get gs n) refl
  where
    by_found : (o : Option Global) → slice_get gs n ≡ o
        → is_todo_in (slice_get (change_found gs n o (set_marked_of v)) n) ≡ false
    by_found None e = ap is_todo_in e
    by_found (Some g) e = ap is_todo_in (get_set_same gs n g (set_marked_of v g) e)

changed_other : (gs : List Global) (n i : ℕ) (v : Reference) → i ≢ n
    → slice_get (change_at gs n (set_marked_of v)) i ≡ slice_get gs i
changed_other gs n i v d = by_found (slice_get gs n)
  where
    by_found : (o : Option Global) → slice_get (change_found gs n o (set_marked_of v)) i ≡ slice_get gs i
    by_found None = refl
    by_found (Some g) = get_set_other gs n i (set_marked_of v g) d

pub none_marked : (h g : HeapState) (n : ℕ) (v : Reference) → NoneTodo h n → g ≡ with_marked_global h n v
    → NoneTodo g (n + 1)
unfolding with_marked_global
none_marked h g n v k e = subst (λ x. NoneTodo x (n + 1)) (sym e)
    (none_next (with_marked_global h n v) n before (changed_same h.globals n (marked_word h v)))
  where
    before : NoneTodo (with_marked_global h n v) n
    before i l = ap is_todo_in (changed_other h.globals n i (marked_word h v) (λ z. absurd (omega (arith, z, l))))
        ∙ k i l

-- as many as there were
pub globals_many : (h g : HeapState) (n : ℕ) (v : Reference) → g ≡ with_marked_global h n v
    → length g.globals ≡ length h.globals
unfolding with_marked_global
globals_many h g n v e = ap (λ (x : HeapState). length x.globals) e
    ∙ length_changed h.globals n (set_marked_of (marked_word h v))

-- what a marked global keeps

global_heap : (h : HeapState) (n : ℕ) (v : Reference) → IsHeap h → IsHeap (with_marked_global h n v)
unfolding with_marked_global with_mark
global_heap h n v i =
    let k = mark_heap h v i in
    record {
      config = k.config;
      sizes = record {
        words = k.sizes.words;
        frames = k.sizes.frames;
        pages = k.sizes.pages;
        threads = k.sizes.threads;
        workers = k.sizes.workers;
        globals = length_changed h.globals n (set_marked_of (marked_word h v)) ∙ k.sizes.globals;
      };
      starts = k.starts;
      live = k.live;
      mark = k.mark;
      todo = k.todo;
      sides = k.sides;
      births = k.births;
      buffers = k.buffers;
      registers = k.registers;
      idle = k.idle;
    }

global_ready : (h : HeapState) (w n : ℕ) (v : Reference) → IsReady h w → IsReady (with_marked_global h n v) w
unfolding with_marked_global with_mark may_scan all_crossed
global_ready h w n v r = record { scan = r.scan; none = r.none; worker = r.worker }

global_row : (n : HeapState) (g r : Result Unit Refusal) (b : Bool) → g ≡ Ok tt → r ≡ Ok tt → b ≡ true
    → (g >>= (λ u. r >>= (λ v. if b then done n else Err refusals.NotTodo))) ≡ done n
global_row n (Ok u) (Ok v) true e f k = refl
global_row n (Ok u) (Ok v) false e f k = absurd (cc)
global_row n (Ok u) (Err x) b e f k = absurd (cc)
global_row n (Err x) r b e f k = absurd (cc)

global_there : (gs : List Global) (n : ℕ) → is_todo_in (slice_get gs n) ≡ true → n < length gs
global_there gs n e = by_place (cases_lt n (length gs))
  where
    by_place : (n < length gs) ⊎ (length gs ≤ n) → n < length gs
    by_place (inl l) = l
    by_place (inr l) = absurd (true≢false (sym e ∙ ap is_todo_in (slice_get_past gs n l)))

global_step : (h : HeapState) (w n : ℕ) → IsReady h w → is_todo_in (slice_get h.globals n) ≡ true
    → outcome h (Worker w) (steps.ScanGlobal n) ≡ done (with_marked_global h n (global_of h n))
unfolding outcome worker_gate no_global scan_global_outcome mark_global
global_step h w n r todo =
    global_row (with_marked_global (copied_for h (global_of h n)) n (global_of h n)) _ (may_scan h)
    (is_todo_in (slice_get h.globals n))
    (gate_is (nat_le (length h.workers) w) (nat_le (length h.globals) n)
    (lt-not-le w (length h.workers) (slice_get_within h.workers w None r.worker))
    (lt-not-le n (length h.globals) (global_there h.globals n todo)))
    r.scan todo
    ∙ ap (λ (k : HeapState). done (with_marked_global k n (global_of h n)))
    (none_copied h (global_of h n) r.none)

pub global_drained : (h g k : HeapState) (w m n : ℕ) → HasDrained h w m g → IsStore g.store → IsHeap g
    → is_todo_in (slice_get g.globals n) ≡ true → k ≡ with_marked_global g n (global_of g n) → HasDrained h w m k
global_drained h g k w m n d s i todo e =
    subst (λ x. HasDrained h w m x) (sym e) (record {
      drained = subst (λ x. IsDrained h w x (with_marked_global g n (global_of g n))) (omega arith)
          (drained_then h g (with_marked_global g n (global_of g n)) w m 0 d.drained (record {
            steps = steps.ScanGlobal n ∷ [];
            only = refl;
            count = refl;
            order = (s, i, ap is_ok (global_step g w n d.ready todo), tt);
            done = sym (ap (heap_after g) (global_step g w n d.ready todo));
          }));
      ready = global_ready g w n (global_of g n) d.ready;
    })

pub record GlobalsDone (h : HeapState) (w n : ℕ) (g : HeapState) : Type 0 where
  pub drained : HasDrained h w 0 g
  pub none : NoneTodo g n
  pub many : length g.globals ≡ length h.globals

pub globals_first : (h : HeapState) (w : ℕ) → IsReady h w → GlobalsDone h w 0 h
globals_first h w r = record { drained = first_drained h w r; none = none_first h; many = refl }

pub globals_next : (h g k : HeapState) (w n : ℕ) → GlobalsDone h w n g → IsStore g.store → IsHeap g
    → k ≡ with_global_done g n → GlobalsDone h w (n + 1) k
unfolding with_global_done
globals_next h g k w n d s i e = by_todo (is_todo_in (slice_get g.globals n)) refl e
  where
    by_todo : (b : Bool) → is_todo_in (slice_get g.globals n) ≡ b
        → k ≡ (if b then with_marked_global g n (global_of g n) else g) → GlobalsDone h w (n + 1) k
    by_todo true z f = record {
      drained = global_drained h g k w 0 n d.drained s i z f;
      none = none_marked g k n (global_of g n) d.none f;
      many = globals_many g k n (global_of g n) f ∙ d.many;
    }
    by_todo false z f = subst (λ x. GlobalsDone h w (n + 1) x) (sym f) (record {
      drained = d.drained;
      none = none_next g n d.none z;
      many = d.many;
    })

pub globals_last : (h g : HeapState) (w n m : ℕ) → GlobalsDone h w n g → m ≡ length h.globals → m ≤ n
    → NoneTodo g (length g.globals)
globals_last h g w n m d e l i k = d.none i (omega (arith, k, d.many, e, l))

-- ---- objects, and the end

pub objects_first : (h : HeapState) (w : ℕ) → IsReady h w → ObjectsDone h w 0 h
objects_first h w r = record { drained = first_drained h w r; globals = refl }

pub objects_next : (h g k : HeapState) (w n a : ℕ) → ObjectsDone h w n g → IsStore g.store → IsHeap g
    → is_free_todo g a ≡ true → k ≡ scanned g a → ObjectsDone h w (n + 1) k
objects_next h g k w n a d s i free e = record {
  drained = more_drained h g k w n a d.drained s i free e;
  globals = ap (λ (x : HeapState). x.globals) e ∙ scanned_globals g a ∙ d.globals;
}

none_position : (gs : List Global) → ((i : ℕ) → i < length gs → is_todo_in (slice_get gs i) ≡ false)
    → position (λ (g : Global). g.todo) gs ≡ None
none_position gs k = by_found (position todo gs) refl
  where
    todo : Global → Bool
    todo g = g.todo

    by_found : (o : Option ℕ) → position todo gs ≡ o → o ≡ None
    by_found None e = refl
    by_found (Some i) e =
        let (g, there) = position_finds todo gs i e in
        absurd (true≢false (sym (position_passes todo gs i g e there)
        ∙ sym (ap is_todo_in there) ∙ k i (slice_get_within gs i g there)))

pub all_done : (g : HeapState) (w : ℕ) → IsReady g w → NoneTodo g (length g.globals) → next_todo g ≡ None
    → next_drain g w ≡ None
unfolding next_drain
all_done g w r none e =
    ap (λ o. if is_some (flat o) then Some steps.ScanField else global_step_or (pick_step g.store.words (next_todo g))
    (position (λ (x : Global). x.todo) g.globals)) r.worker
    ∙ ap (global_step_or (pick_step g.store.words (next_todo g))) (none_position g.globals none)
    ∙ ap (pick_step g.store.words) e

pub whole_drained : (h g k : HeapState) (w n : ℕ) → HasDrained h w 0 g → IsDrained g w n k → IsDrained h w n k
whole_drained h g k w n a b = subst (λ m. IsDrained h w m k) (omega arith) (drained_then h g k w 0 n a.drained b)

pub whole_stands : (h g k : HeapState) (w n : ℕ) → StepsHold → HasDrained h w 0 g → IsDrained g w n k → KeepsPlain h k
whole_stands h g k w n law a b = drained_stands h k w n law (whole_drained h g k w n a b)

pub none_still : (g k : HeapState) → NoneTodo g (length g.globals) → k.globals ≡ g.globals
    → NoneTodo k (length k.globals)
none_still g k none same =
    subst (λ (gs : List Global). (i : ℕ) → i < length gs → is_todo_in (slice_get gs i) ≡ false) (sym same) none

pub whole_end : (g k : HeapState) (w : ℕ) → NoneTodo g (length g.globals) → IsReady k w → k.globals ≡ g.globals
    → next_todo k ≡ None → next_drain k w ≡ None
whole_end g k w none r same e = all_done k w r (none_still g k none same) e

-- A drain ends within one step more than its history has space for.
use Rattle.std.proofs.Common.{◌≡◌, ℕ, zero, suc, ◌+◌, ◌<◌, ◌≤◌, Bool, true, false, [], ◌∷◌, length, Option}
use Rattle.std.proofs.Common.{Some, None, refl, ap, sym, subst, ◌∙◌, arith, length-append}
use Rattle.std.specs.Prelude.{Result, Ok, Err, position, is_some, if◌then◌else◌, ◌*◌, ◌&&◌, ◌||◌, not, nat_lt}
use Rattle.std.specs.Prelude.{slice_get}
use Rattle.std.proofs.lemmas.Bool.{leb-false}
use Rattle.model.specs.declared.config.Config.{Config}
use Rattle.model.specs.declared.records.Forwarding.{Forwarding}
use Rattle.model.specs.declared.records.Global.{Global}
use Rattle.model.specs.declared.records.Scan.{Scan}
use Rattle.model.specs.declared.steps.Actor.{Actor}
use Rattle.model.specs.declared.steps.Actor.TheVariants.{Worker}
use Rattle.model.specs.declared.steps.Step.{Step}
use Rattle.model.specs.declared.steps.Step.TheVariants as steps
use Rattle.model.specs.declared.steps.Answer.{Answer}
use Rattle.model.specs.declared.steps.Answer.TheVariants as answers
use Rattle.model.specs.declared.steps.Refusal.{Refusal}
use Rattle.model.specs.declared.steps.Refusal.TheVariants as refusals
use Rattle.model.specs.States.{HeapState, Reference}
use Rattle.model.specs.Refusing.{◌>>=◌, or_refuse, Outcome}
use Rattle.model.specs.References.{field_at, global_of}
use Rattle.model.specs.Bits.{bit_on}
use Rattle.model.specs.Scans.{is_todo_in, first_field, is_taken}
use Rattle.model.specs.Marks.{entry_at, with_mark}
use Rattle.model.specs.Moves.{with_copy, copied_by, copied_first, copied_for}
use Rattle.model.specs.Scans.{scan_of, with_scan, may_scan, pick_outcome, with_marked_place, mark_place, with_scan_end}
use Rattle.model.specs.Scans.{scan_next, scan_field_outcome, with_marked_global, mark_global, scan_global_outcome}
use Rattle.model.specs.Scans.{next_todo, pick_step}
use Rattle.model.specs.Scans.{global_step_or, next_drain}
use Rattle.model.specs.Outcome.{outcome, worker_gate, worker_row}
use Rattle.entries.specs.declared.entry.Entry.{Entry}
use Rattle.cycle.specs.Books.{BookState, BookOutcome, act_outcome, enter_accepted, is_full}
use Rattle.cycle.specs.Loads.{Told}
use Rattle.cycle.specs.Drains.{drain_step, drain_within, DrainsEnd}
use Rattle.cycle.proofs.Traps.{stepped_same}
use Rattle.cycle.proofs.WholeDrains.{drained_next}

-- ---- steps that keep the configuration

-- an accepted outcome has this configuration
abbrev Keeps : Config → Outcome → Type 0
Keeps c (Ok x) = x.0.config ≡ c
Keeps c (Err e) = Unit {0}

bind_keeps : {A : Type 0} (c : Config) (r : Result A Refusal) (f : A → Outcome) → ((a : A) → Keeps c (f a))
    → Keeps c (r >>= f)
bind_keeps c (Ok a) f h = h a
bind_keeps c (Err e) f h = tt

test_keeps : (c : Config) (b : Bool) (p q : Outcome) → Keeps c p → Keeps c q → Keeps c (if b then p else q)
test_keeps c true p q h k = h
test_keeps c false p q h k = k

-- an object that is copied leaves the configuration
copy_keeps : (h : HeapState) (v : Reference) → (copied_for h v).config ≡ h.config
unfolding copied_for copied_first with_copy
copy_keeps h None = refl
copy_keeps h (Some w) = by_entry (entry_at h w.0)
  where
    by_entry : (o : Option Forwarding) → (copied_by h w.0 o).config ≡ h.config
    by_entry None = refl
    by_entry (Some f) = by_copied f.copied
      where
        by_copied : (b : Bool) → (if b then h else with_copy h w.0 f.to).config ≡ h.config
        by_copied true = refl
        by_copied false = refl

next_keeps : (h : HeapState) (w : ℕ) (s : Scan) (o : Option ℕ) → Keeps h.config (scan_next h w s o)
unfolding with_scan with_scan_end mark_place with_marked_place with_mark
next_keeps h w s None = refl
next_keeps h w s (Some place) = copy_keeps h _

field_keeps : (h : HeapState) (w : ℕ) → Keeps h.config (scan_field_outcome h w)
unfolding scan_field_outcome
field_keeps h w = bind_keeps h.config (may_scan h) _ (λ u. bind_keeps h.config
    (or_refuse (scan_of h w) refusals.NotTodo) _ (λ s. next_keeps h w s (field_at h s.object s.next)))

global_keeps : (h : HeapState) (g : ℕ) → Keeps h.config (scan_global_outcome h g)
unfolding scan_global_outcome mark_global with_marked_global with_mark
global_keeps h g = bind_keeps h.config (may_scan h) _ (λ u.
    test_keeps h.config (is_todo_in (slice_get h.globals g)) (Ok (mark_global h g, answers.Done))
    (Err refusals.NotTodo) (copy_keeps h (global_of h g)) tt)

pick_keeps : (h : HeapState) (w page offset : ℕ) → Keeps h.config (pick_outcome h w page offset)
unfolding pick_outcome with_scan
pick_keeps h w page offset =
    let address = page * h.store.words + offset in
    let picked : Outcome = Ok (with_scan h w (Some (first_field address)), answers.Done) in
    let taken = is_some (scan_of h w) || is_taken h address in
    bind_keeps h.config (may_scan h) _ (λ u.
    test_keeps h.config (not (nat_lt offset h.store.words && bit_on h.todo page offset)) (Err refusals.NotTodo)
    (if taken then Err refusals.Taken else picked) tt
    (test_keeps h.config taken (Err refusals.Taken) picked tt refl))

-- a step of a drain
data IsScanStep : Step → Type 0 where
  Field : IsScanStep steps.ScanField
  OfGlobal : (g : ℕ) → IsScanStep (steps.ScanGlobal g)
  OfObject : (page offset : ℕ) → IsScanStep (steps.Pick page offset)

row_keeps : (h : HeapState) (w : ℕ) (step : Step) → IsScanStep step → Keeps h.config (worker_row h w step)
row_keeps h w _ Field = field_keeps h w
row_keeps h w _ (OfGlobal g) = global_keeps h g
row_keeps h w _ (OfObject page offset) = pick_keeps h w page offset

step_keeps : (h : HeapState) (w : ℕ) (step : Step) → IsScanStep step → Keeps h.config (outcome h (Worker w) step)
unfolding outcome
step_keeps h w step is = bind_keeps h.config (worker_gate h w step) _ (λ u. row_keeps h w step is)

picked : (words : ℕ) (o : Option ℕ) (step : Step) → pick_step words o ≡ Some step → IsScanStep step
picked words None step e = absurd cc
picked words (Some a) step e = subst IsScanStep (same_step _ step e) (OfObject _ _)
  where
    same_step : (x y : Step) → ◌≡◌ {A = Option Step} (Some x) (Some y) → x ≡ y
    same_step x y e = cc

drained_step : (h : HeapState) (w : ℕ) (step : Step) → next_drain h w ≡ Some step → IsScanStep step
unfolding next_drain
drained_step h w step e = by_scan (is_some (scan_of h w)) (position (λ (g : Global). g.todo) h.globals) e
  where
    same_step : (x y : Step) → ◌≡◌ {A = Option Step} (Some x) (Some y) → x ≡ y
    same_step x y e = cc

    by_global : (o : Option ℕ) → global_step_or (pick_step h.store.words (next_todo h)) o ≡ Some step
        → IsScanStep step
    by_global None f = picked h.store.words (next_todo h) step f
    by_global (Some g) f = subst IsScanStep (same_step (steps.ScanGlobal g) step f) (OfGlobal g)

    by_scan : (b : Bool) (o : Option ℕ)
        → (if b then Some steps.ScanField else global_step_or (pick_step h.store.words (next_todo h)) o) ≡ Some step
        → IsScanStep step
    by_scan true o f = subst IsScanStep (same_step steps.ScanField step f) Field
    by_scan false o f = by_global o f

-- ---- recorded heaps

-- a step was entered in a history that had space for it, of a heap with the same limit
record HasEntered (b c : BookState) : Type 0 where
  limit : c.heap.config.history ≡ b.heap.config.history
  longer : length c.history ≡ length b.history + 1
  room : length b.history < b.heap.config.history

entered : (b c : BookState) (actor : Actor) (step : Step) (o : Outcome) (a : Answer) → Keeps b.heap.config o
    → length b.history < b.heap.config.history → enter_accepted b actor step o ≡ Ok (c, a) → HasEntered b c
entered b c actor step (Err e) a keeps room h = absurd cc
entered b c actor step (Ok x) a keeps room h =
    let e : Entry = record { actor = actor; step = step; answer = x.1 } in
    subst (λ (y : BookState × Answer). HasEntered b y.0) (same_pair _ (c, a) h) (record {
      limit = ap (λ (y : Config). y.history) keeps;
      longer = length-append b.history (e ∷ []);
      room = room;
    })
  where
    same_pair : (y z : BookState × Answer) → ◌≡◌ {A = BookOutcome} (Ok y) (Ok z) → y ≡ z
    same_pair y z e = cc

acted : (b c : BookState) (w : ℕ) (step : Step) (a : Answer) → IsScanStep step
    → act_outcome b (Worker w) step ≡ Ok (c, a) → HasEntered b c
unfolding act_outcome is_full
acted b c w step a is e = by_full (is_full b) refl e
  where
    by_full : (full : Bool) → is_full b ≡ full
        → (if full then Err refusals.HistoryFull else enter_accepted b (Worker w) step
        (outcome b.heap (Worker w) step)) ≡ Ok (c, a) → HasEntered b c
    by_full true f k = absurd cc
    by_full false f k = entered b c (Worker w) step (outcome b.heap (Worker w) step) a (step_keeps b.heap w step is)
        (leb-false b.heap.config.history (length b.history) f) k

-- ---- the end

step_same : (b : BookState) (w : ℕ) (o : Option Step) (f g : BookState → Told)
    → ((c : BookState) (step : Step) (a : Answer) → o ≡ Some step → act_outcome b (Worker w) step ≡ Ok (c, a)
    → f c ≡ g c) → drain_step b w o f ≡ drain_step b w o g
step_same b w None f g same = refl
step_same b w (Some step) f g same =
    stepped_same b (act_outcome b (Worker w) step) (λ c a. f c) (λ c a. g c) (λ c a e. same c step a refl e)

-- if n steps are more than the history has space for, allowing more changes nothing
enough : (n m k : ℕ) (b : BookState) (w : ℕ) → m ≡ n + k → length b.history ≤ b.heap.config.history
    → b.heap.config.history < n + length b.history → drain_within m b w ≡ drain_within n b w
enough zero m k b w is within more = absurd (omega (arith, within, more))
enough (suc n) m k b w is within more =
    let left : m ≡ suc (n + k) = omega (arith, is) in
    drained_next m (n + k) b w (next_drain b.heap w) left refl
    ∙ step_same b w (next_drain b.heap w) (λ c. drain_within (n + k) c w) (λ c. drain_within n c w)
    (λ c step a next e. let h = acted b c w step a (drained_step b.heap w step next) e in
    enough n (n + k) k c w refl (omega (arith, h.limit, h.longer, h.room)) (omega (arith, more, h.limit, h.longer)))
    ∙ sym (drained_next (suc n) n b w (next_drain b.heap w) refl refl)

pub drains_end : DrainsEnd
drains_end b k w more =
    enough (b.heap.config.history + 1) (b.heap.config.history + 1 + more) more b w refl k.limit (omega arith)

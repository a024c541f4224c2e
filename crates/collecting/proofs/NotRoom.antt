-- The errors of a collection: never that there are too few frames or pages.
use Rattle.std.proofs.Common.{◌≡◌, ◌⊎◌, ◌∙◌, ℕ, ◌+◌, ◌*◌, Bool, true, false, cond, not, List, [], ◌∷◌, nat_le, nat_lt}
use Rattle.std.proofs.Common.{Option, Some, None, refl, sym, subst, ap, inl, inr, arith}
use Rattle.std.specs.Prelude.{Result, Ok, Err, if◌then◌else◌, ◌&&◌, ◌||◌, is_some, length, slice_get}
use Rattle.std.specs.List.{list_any}
use Rattle.std.proofs.lemmas.Bool.{and_parts, leb-true, ltb-true}
use Rattle.choosing.specs.Choices.{has_room_for}
use Rattle.model.specs.declared.records.Scan.{Scan}
use Rattle.model.specs.declared.steps.Actor.TheVariants.{Worker}
use Rattle.model.specs.declared.steps.Step.{Step}
use Rattle.model.specs.declared.steps.Step.TheVariants as steps
use Rattle.model.specs.declared.steps.Refusal.{Refusal}
use Rattle.model.specs.declared.steps.Refusal.TheVariants as refusals
use Rattle.model.specs.Bits.{of_page, bit_on}
use Rattle.model.specs.Checkpoints.{all_crossed, none_behind, first_behind}
use Rattle.model.specs.Cycles.{start_mark_outcome, end_mark_outcome, none_pending, first_pending, has_todo, is_uncopied}
use Rattle.model.specs.Cycles.{is_lent}
use Rattle.model.specs.Emptying.{crossed_if_protecting, copy_page_outcome, release_outcome}
use Rattle.model.specs.Outcome.{outcome, worker_gate, is_for_workers, has_bad_index}
use Rattle.model.specs.Phases.{is_idle, is_marking, is_protect_crossing, may_start_mark}
use Rattle.model.specs.Plans.{plan_of, target_count}
use Rattle.model.specs.Protections.{is_closed, all_ripe, ripe, room_for, free_count, unused_count, protect_outcome}
use Rattle.model.specs.Refusing.{◌>>=◌, or_refuse, refuse_if, Outcome, DoesStep}
use Rattle.model.specs.References.{field_at}
use Rattle.model.specs.Scans.{may_scan, scan_of, scan_next, pick_outcome, scan_field_outcome, scan_global_outcome}
use Rattle.model.specs.Scans.{is_taken, is_todo_in}
use Rattle.model.specs.States.{HeapState}
use Rattle.model.specs.Stores.{state_at, is_from, is_open}
use Rattle.managed.specs.Goings.{Scans, EndsDrain}
use Rattle.managed.specs.Collecting.{StopsCrossing, EndsScanned, EndsRest}
use Rattle.managed.specs.Emptying.{StopsPage, EndsProtected, EndsEmptying}
use Rattle.managed.proofs.Going.{next_scans}
use Rattle.collecting.specs.declared.collecting.Collected.{Collected}
use Rattle.collecting.specs.Collections.{WORKER, EndsSettling, EndsDue, EmptiesChosen, ChoosesAndEmpties}
use Rattle.collecting.specs.Collections.{MarksAndEmpties, EndsCollecting, is_of_rooms, IsNotRoom}
use Rattle.collecting.specs.Parts.{EndsPart, StopsAt}
use Rattle.collecting.specs.Parts.{Beginning, Crossing, Scanning, Ending, Emptying}

-- ---- steps, test by test

on_bind : {A B : Type 0} (r : Result A Refusal) (f : A → Result B Refusal) → IsNotRoom r
    → ((x : A) → IsNotRoom (f x)) → IsNotRoom (r >>= f)
on_bind (Ok x) f a b = b x
on_bind (Err e) f a b = a

on_some : {A B : Type 0} (o : Option A) (n : Refusal) (f : A → Result B Refusal) → is_of_rooms n ≡ false
    → ((x : A) → IsNotRoom (f x)) → IsNotRoom (or_refuse o n >>= f)
on_some (Some x) n f a b = b x
on_some None n f a b = a

on_unless : {B : Type 0} (c : Bool) (n : Refusal) (f : Unit {0} → Result B Refusal) → is_of_rooms n ≡ false
    → IsNotRoom (f tt) → IsNotRoom (refuse_if c n >>= f)
on_unless true n f a b = a
on_unless false n f a b = b

on_test : {B : Type 0} (c : Bool) (n : Refusal) (r : Result B Refusal) → is_of_rooms n ≡ false → IsNotRoom r
    → IsNotRoom (cond c (Err n) r)
on_test true n r a b = a
on_test false n r a b = b

on_truth : {B : Type 0} (c : Bool) (r : Result B Refusal) (n : Refusal) → IsNotRoom r → is_of_rooms n ≡ false
    → IsNotRoom (cond c r (Err n))
on_truth true r n a b = a
on_truth false r n a b = b

of_refused : {A : Type 0} (r : Result A Refusal) (e : Refusal) → IsNotRoom r → r ≡ Err e → is_of_rooms e ≡ false
of_refused (Ok x) e a is = absurd (cc)
of_refused {A} (Err n) e a is = ap is_of_rooms (same n e is) ∙ a
  where
    same : (n e : Refusal) → ◌≡◌ {A = Result A Refusal} (Err n) (Err e) → e ≡ n
    same n e is = cc

behind_not : (o : Option ℕ) → IsNotRoom (none_behind o)
behind_not None = tt
behind_not (Some t) = refl

crossed_not : (h : HeapState) → IsNotRoom (all_crossed h)
unfolding all_crossed
crossed_not h = behind_not (first_behind h.threads)

pending_not : (o : Option ℕ) → IsNotRoom (none_pending o)
pending_not None = tt
pending_not (Some t) = refl

gate_not : (h : HeapState) (w : ℕ) (s : Step) → IsNotRoom (worker_gate h w s)
unfolding worker_gate
gate_not h w s = by_tests (nat_le (length h.workers) w || not (is_for_workers s)) (has_bad_index h s)
  where
    passed : Result (Unit {0}) Refusal
    passed = Ok tt

    by_tests : (a b : Bool)
        → IsNotRoom (if a then Err refusals.NoActor else (if b then Err refusals.BadIndex else passed))
    by_tests true b = refl
    by_tests false true = refl
    by_tests false false = tt

scan_not : (h : HeapState) → IsNotRoom (may_scan h)
unfolding may_scan
scan_not h = on_truth (is_marking h.phase) (all_crossed h) refusals.Phase (crossed_not h) refl

protecting_not : (h : HeapState) → IsNotRoom (crossed_if_protecting h)
unfolding crossed_if_protecting
protecting_not h = by_test (is_protect_crossing h.phase)
  where
    by_test : (b : Bool) → IsNotRoom (cond b (all_crossed h) (Ok tt))
    by_test true = crossed_not h
    by_test false = tt

start_not : (h : HeapState) (w : ℕ) → IsNotRoom (outcome h (Worker w) steps.StartMark)
unfolding outcome start_mark_outcome
start_not h w = on_bind (worker_gate h w steps.StartMark) _ (gate_not h w steps.StartMark)
    (λ u. on_truth (may_start_mark h.phase) _ _ tt refl)

end_not : (h : HeapState) (w : ℕ) → IsNotRoom (outcome h (Worker w) steps.EndMark)
unfolding outcome end_mark_outcome
end_not h w = on_bind (worker_gate h w steps.EndMark) _ (gate_not h w steps.EndMark) (λ u.
    on_bind (may_scan h) _ (scan_not h) (λ v. on_unless (has_todo h) _ _ refl
    (on_bind (none_pending (first_pending h.threads)) _ (pending_not (first_pending h.threads)) (λ x. tt))))

pick_not : (h : HeapState) (w page offset : ℕ) → IsNotRoom (outcome h (Worker w) (steps.Pick page offset))
unfolding outcome pick_outcome
pick_not h w page offset = on_bind (worker_gate h w (steps.Pick page offset)) _
    (gate_not h w (steps.Pick page offset))
    (λ u. on_bind (may_scan h) _ (scan_not h) (λ v.
    on_test (not (nat_lt offset h.store.words && bit_on h.todo page offset)) _ _ refl
    (on_test (is_some (scan_of h w) || is_taken h (page * h.store.words + offset)) _ _ refl tt)))

next_not : (h : HeapState) (w : ℕ) (s : Scan) (o : Option ℕ) → IsNotRoom (scan_next h w s o)
next_not h w s None = tt
next_not h w s (Some place) = tt

field_not : (h : HeapState) (w : ℕ) → IsNotRoom (outcome h (Worker w) steps.ScanField)
unfolding outcome scan_field_outcome
field_not h w = on_bind (worker_gate h w steps.ScanField) _ (gate_not h w steps.ScanField) (λ u.
    on_bind (may_scan h) _ (scan_not h) (λ v. on_some (scan_of h w) _ _ refl
    (λ s. next_not h w s (field_at h s.object s.next))))

global_not : (h : HeapState) (w g : ℕ) → IsNotRoom (outcome h (Worker w) (steps.ScanGlobal g))
unfolding outcome scan_global_outcome
global_not h w g = on_bind (worker_gate h w (steps.ScanGlobal g)) _ (gate_not h w (steps.ScanGlobal g)) (λ u.
    on_bind (may_scan h) _ (scan_not h) (λ v. on_truth (is_todo_in (slice_get h.globals g)) _ _ tt refl))

copy_not : (h : HeapState) (w n : ℕ) → IsNotRoom (outcome h (Worker w) (steps.CopyPage n))
unfolding outcome copy_page_outcome
copy_not h w n = on_bind (worker_gate h w (steps.CopyPage n)) _ (gate_not h w (steps.CopyPage n)) (λ u.
    on_unless (is_idle h.phase) _ _ refl (on_bind (crossed_if_protecting h) _ (protecting_not h) (λ v.
    on_unless (not (is_from (state_at h.store n))) _ _ refl tt)))

release_not : (h : HeapState) (w n : ℕ) → IsNotRoom (outcome h (Worker w) (steps.Release n))
unfolding outcome release_outcome
release_not h w n = on_bind (worker_gate h w (steps.Release n)) _ (gate_not h w (steps.Release n)) (λ u.
    on_unless (is_idle h.phase) _ _ refl (on_bind (crossed_if_protecting h) _ (protecting_not h) (λ v.
    on_unless (not (is_from (state_at h.store n))) _ _ refl
    (on_unless (list_any is_uncopied (of_page h.sides n)) _ _ refl tt))))

one_ripe : (h : HeapState) (n : ℕ) → IsNotRoom (ripe h n)
unfolding ripe
one_ripe h n = by_tests (is_open (state_at h.store n) && is_lent h.threads n) (is_closed (state_at h.store n))
  where
    passed : Result (Unit {0}) Refusal
    passed = Ok tt

    by_tests : (a b : Bool)
        → IsNotRoom (if a then Err (refusals.Lent n) else (if b then passed else Err (refusals.Unripe n)))
    by_tests true b = refl
    by_tests false true = tt
    by_tests false false = refl

ripe_not : (h : HeapState) (ns : List ℕ) → IsNotRoom (all_ripe h ns)
ripe_not h [] = tt
ripe_not h (n ∷ ns) = on_bind (ripe h n) _ (one_ripe h n) (λ u. ripe_not h ns)

not_less : (a b : ℕ) → nat_le b a ≡ true → nat_lt a b ≡ false
not_less a b e = by_test (nat_lt a b) refl
  where
    by_test : (c : Bool) → nat_lt a b ≡ c → c ≡ false
    by_test false f = refl
    by_test true f = absurd (omega (arith, leb-true b a e, ltb-true a b f))

room_not : (h : HeapState) (ns : List ℕ) → has_room_for h ns ≡ true
    → IsNotRoom (room_for h.store (target_count (plan_of h ns)))
unfolding room_for
room_not h ns e = by_tests (nat_lt (free_count h.store) need) (nat_lt (unused_count h.store) need)
    (not_less (free_count h.store) need parts.0) (not_less (unused_count h.store) need parts.1)
  where
    need : ℕ
    need = target_count (plan_of h ns)

    parts : (nat_le need (free_count h.store) ≡ true) × (nat_le need (unused_count h.store) ≡ true)
    parts = and_parts (nat_le need (free_count h.store)) (nat_le need (unused_count h.store)) e

    passed : Result (Unit {0}) Refusal
    passed = Ok tt

    by_tests : (a b : Bool) → a ≡ false → b ≡ false
        → IsNotRoom (cond a (Err (refusals.NoFrames need (free_count h.store)))
        (cond b (Err refusals.NoPages) passed))
    by_tests false false e f = tt
    by_tests false true e f = absurd (cc)
    by_tests true b e f = absurd (cc)

protect_not : (h : HeapState) (w : ℕ) (ns : List ℕ) → has_room_for h ns ≡ true
    → IsNotRoom (outcome h (Worker w) (steps.Protect ns))
unfolding outcome protect_outcome
protect_not h w ns e = on_bind (worker_gate h w (steps.Protect ns)) _ (gate_not h w (steps.Protect ns)) (λ u.
    on_unless (not (is_idle h.phase)) _ _ refl (on_bind (all_ripe h ns) _ (ripe_not h ns) (λ v.
    on_bind (room_for h.store (target_count (plan_of h ns))) _ (room_not h ns e) (λ x. tt))))

-- ---- where a collection stops

page_stops_not : (h : HeapState) (n : ℕ) (e : Refusal) (g : HeapState) → StopsPage WORKER h n e g
    → is_of_rooms e ≡ false
page_stops_not h n e g (inl k) = of_refused (outcome h (Worker WORKER) (steps.CopyPage n)) e (copy_not h WORKER n) k.0
page_stops_not h n e g (inr k) =
    of_refused (outcome k.0 (Worker WORKER) (steps.Release n)) e (release_not k.0 WORKER n) k.3.0

crossing_stops_not : (h : HeapState) (e : Refusal) (g : HeapState) → StopsCrossing WORKER h e g → is_of_rooms e ≡ false
crossing_stops_not h e g k = of_refused (all_crossed g) e (crossed_not g) k.1

step_not : (g : HeapState) (step : Step) → Scans step → IsNotRoom (outcome g (Worker WORKER) step)
step_not g (steps.Pick page offset) k = pick_not g WORKER page offset
step_not g steps.ScanField k = field_not g WORKER
step_not g (steps.ScanGlobal n) k = global_not g WORKER n
step_not g _ k = absurd k

drain_stops_not : (h : HeapState) (e : Refusal) (g : HeapState) → EndsDrain WORKER h (Err e) g → is_of_rooms e ≡ false
drain_stops_not h e g (inl todo) = ap is_of_rooms todo.0
drain_stops_not h e g (inr k) = of_refused (outcome g (Worker WORKER) k.0) e
    (step_not g k.0 (next_scans g WORKER k.0 k.1)) k.2

scanned_not : (h : HeapState) (e : Refusal) (g : HeapState) → EndsScanned WORKER h (Err e) g → is_of_rooms e ≡ false
scanned_not h e g (inl k) = drain_stops_not h e g k.1
scanned_not h e g (inr k) = of_refused (outcome k.0 (Worker WORKER) steps.EndMark) e (end_not k.0 WORKER) k.3.0

rest_not : (h : HeapState) (e : Refusal) (g : HeapState) → EndsRest WORKER h (Err e) g → is_of_rooms e ≡ false
rest_not h e g (inl k) = crossing_stops_not h e g k
rest_not h e g (inr k) = scanned_not k.0 e g k.3

due_not : (b : Bool) (h : HeapState) (e : Refusal) (g : HeapState) → EndsDue b h (Err e) g → is_of_rooms e ≡ false
due_not true h e g k = rest_not h e g k
due_not false h e g (inl k) = of_refused (outcome h (Worker WORKER) steps.StartMark) e (start_not h WORKER) k.0
due_not false h e g (inr k) = rest_not k.0 e g k.3

refused_or_lacks : (h g : HeapState) (ns : List ℕ) (e : Refusal) (o : Outcome)
    → DoesStep h (steps.Protect ns) (Err e) g o
    → (e ≡ refusals.Memory) ⊎ (o ≡ Err e)
refused_or_lacks h g ns refusals.Memory o does = inl refl
refused_or_lacks h g ns _ o does = inr does.0

protected_not : (h : HeapState) (ns : List ℕ) (e : Refusal) (g : HeapState) → EndsProtected WORKER h ns (Err e) g
    → is_of_rooms e ≡ false
protected_not h ns e g (inl k) = crossing_stops_not h e g k
protected_not h ns e g (inr k) = page_stops_not k.3.there k.3.page e g k.3.stops

emptying_not : (h : HeapState) (ns : List ℕ) (e : Refusal) (g : HeapState) → has_room_for h ns ≡ true
    → EndsEmptying WORKER h ns (Err e) g → is_of_rooms e ≡ false
emptying_not h ns e g room (inl k) =
    by_refusal (refused_or_lacks h g ns e (outcome h (Worker WORKER) (steps.Protect ns)) k)
  where
    by_refusal : (e ≡ refusals.Memory) ⊎ (outcome h (Worker WORKER) (steps.Protect ns) ≡ Err e) → is_of_rooms e ≡ false
    by_refusal (inl memory) = ap is_of_rooms memory
    by_refusal (inr refused) = of_refused (outcome h (Worker WORKER) (steps.Protect ns)) e
        (protect_not h WORKER ns room) refused
emptying_not h ns e g room (inr k) = protected_not k.0 ns e g k.3

chosen_not : (h : HeapState) (ns : List ℕ) (e : Refusal) (g : HeapState) → has_room_for h ns ≡ true
    → EmptiesChosen h ns (Err e) g → is_of_rooms e ≡ false
chosen_not h [] e g room k = absurd (not_ok e k.0)
  where
    not_ok : (e : Refusal) → ◌≡◌ {A = Result Unit Refusal} (Err e) (Ok tt) → ⊥
    not_ok e is = cc
chosen_not h (n ∷ ns) e g room k = emptying_not h (n ∷ ns) e g room k

sparse_not : (percent live : ℕ) (h : HeapState) (e : Refusal) (g : HeapState)
    → ChoosesAndEmpties percent live h (Err e) g → is_of_rooms e ≡ false
sparse_not percent live h e g (inl k) = ap is_of_rooms k.0
sparse_not percent live h e g (inr k) = chosen_not k.0 k.1 e g
    (subst (λ (x : HeapState). has_room_for x k.1 ≡ true) (sym k.2.1) k.2.0.3.2) k.3

cycle_not : (percent : ℕ) (h : HeapState) (e : Refusal) (g : HeapState) → MarksAndEmpties percent h (Err e) g
    → is_of_rooms e ≡ false
cycle_not percent h e g (inl k) = due_not (is_marking h.phase) h e g k
cycle_not percent h e g (inr k) = sparse_not percent k.1 k.0 e g k.3

settling_not : (h : HeapState) (e : Refusal) (g : HeapState) → EndsSettling h (Err e) g → is_of_rooms e ≡ false
settling_not h e g (inl k) = crossing_stops_not h e g k
settling_not h e g (inr k) = page_stops_not k.3.1.0 k.3.1.1 e g k.3.1.3.1

-- a collection
pub collecting_not : (percent : ℕ) (h : HeapState) (r : Result Collected Refusal) (g : HeapState)
    → EndsCollecting percent h r g → IsNotRoom r
collecting_not percent h (Ok r) g k = tt
collecting_not percent h (Err e) g (inl k) = settling_not h e g k
collecting_not percent h (Err e) g (inr k) = cycle_not percent k.0 e g k.3

-- ---- a part of one

at_not : (h : HeapState) (e : Refusal) (g : HeapState) → StopsAt h e g → is_of_rooms e ≡ false
at_not h e g (Beginning may refused same) =
    of_refused (outcome h (Worker WORKER) steps.StartMark) e (start_not h WORKER) refused
at_not h e g (Crossing k) = crossing_stops_not h e g k
at_not h e g (Scanning phase a k) = drain_stops_not h e g (inr k)
at_not h e g (Ending phase nothing refused same) =
    of_refused (outcome h (Worker WORKER) steps.EndMark) e (end_not h WORKER) refused
at_not h e g (Emptying n k) = page_stops_not h n e g k.1

pub part_not : (h : HeapState) (r : Result Bool Refusal) (g : HeapState) → EndsPart h r g → IsNotRoom r
part_not h (Ok b) g k = tt
part_not h (Err e) g (inl k) = at_not k.1.0 e g k.1.2
part_not h (Err e) g (inr k) = ap is_of_rooms k.0

-- Scans of several fields and copies of complete pages, in a mark.
use Rattle.std.proofs.Common.{◌≡◌, ◌∙◌, inl, inr, ℕ, zero, suc, ◌+◌, ◌*◌, ◌/◌, ◌%◌, ◌<◌, ◌≤◌, Bool, true, false}
use Rattle.std.proofs.Common.{not, cond, nat_eq, nat_le, nat_lt, List, [], ◌∷◌, length, Option, Some, None, refl}
use Rattle.std.proofs.Common.{sym, ap, subst}
use Rattle.std.proofs.Common.{arith, eq-eqb, ne_eqb, count_by}
use Rattle.std.specs.List.{slice_get, list_any, list_all}
use Rattle.std.specs.Prelude.{◌||◌, Result, Ok, Err, is_ok}
use Rattle.std.proofs.Math.ListN.{length-set}
use Rattle.std.proofs.lemmas.Bool.{true≢false, and_parts, leb-true, ltb-true}
use Rattle.std.proofs.lemmas.Bool.Decides.{nat_tests}
use Rattle.std.proofs.lemmas.Nat.{div-mul-add, mod-mul-add}
use Rattle.std.proofs.lemmas.Option.{same_Some, slice_get_within}
use Rattle.layout.specs.declared.shape.Layout.{Layout}
use Rattle.model.specs.declared.limits.TheConstants.{MOST_FIELDS}
use Rattle.model.specs.declared.records.Forwarding.{Forwarding}
use Rattle.model.specs.declared.records.PageState.TheVariants.{From}
use Rattle.model.specs.declared.records.Phase.{Phase}
use Rattle.model.specs.declared.records.Phase.TheVariants.{Idle, MarkCrossing, Scanning, ProtectCrossing, Relocating}
use Rattle.model.specs.declared.records.Scan.{Scan}
use Rattle.model.specs.declared.steps.Actor.TheVariants.{Worker}
use Rattle.model.specs.declared.steps.Answer.{Answer}
use Rattle.model.specs.declared.steps.Answer.TheVariants as answers
use Rattle.model.specs.declared.steps.Refusal.{Refusal}
use Rattle.model.specs.declared.steps.Refusal.TheVariants as refusals
use Rattle.model.specs.declared.steps.Step.{Step}
use Rattle.model.specs.declared.steps.Step.TheVariants as steps
use Rattle.model.specs.Bits.{of_page}
use Rattle.model.specs.Checkpoints.{all_crossed}
use Rattle.model.specs.Configs.{fits_page}
use Rattle.model.specs.Cycles.{is_uncopied}
use Rattle.model.specs.Data.{layout_at, layout_in, header_layout}
use Rattle.model.specs.Emptying.{crossed_if_protecting, copy_outcome, heap_after, copies_from, copy_page}
use Rattle.model.specs.Emptying.{copy_page_outcome, entry_on}
use Rattle.model.specs.Holding.{AreRising}
use Rattle.model.specs.Marks.{with_mark, entry_at}
use Rattle.model.specs.Moves.{with_copy, with_copied_words, copied_by, copied_first, copied_for}
use Rattle.model.specs.Outcome.{outcome, worker_gate, no_page, has_bad_index, is_for_workers}
use Rattle.model.specs.Phases.{is_idle, is_marking, is_protect_crossing}
use Rattle.model.specs.References.{field_at, field_place, field_address}
use Rattle.model.specs.Refusing.{◌>>=◌, or_refuse, refuse_if, Outcome}
use Rattle.model.specs.Scans.{may_scan, scan_of, with_scan, next_field, scan_next, scan_field_outcome, mark_place}
use Rattle.model.specs.Scans.{with_marked_place, with_scan_end, pick_outcome, scan_global_outcome, reference_in}
use Rattle.model.specs.States.{HeapState, Reference, flat}
use Rattle.model.specs.Stores.{state_at, is_from, with_words, word_at}
use Rattle.model.proofs.Lists.{get_set_same}
use Rattle.model.specs.Plain.{PlainHeap}
use Rattle.laws.specs.AddressHeap.{Planned}
use Rattle.refinement.specs.Standing.{Holds}
use Rattle.refinement.specs.Worlds.{world_of}
use Rattle.refinement.specs.Worlds as worlds
use Rattle.managed.specs.Goings.{Scans}
use Rattle.managed.specs.Preparing.{FieldDone}

le-is : (m n : ℕ) → m ≤ n → nat_le m n ≡ true
le-is m n e = grind (arith, nat_tests)

-- ---- what is left to be copied is on pages that are emptied

record IsPlanned (w low : ℕ) (fs : List Forwarding) : Type 0 where
  offset : ℕ
  to : ℕ
  low_end : low ≤ offset
  high_end : offset < w
  entry : worlds.entry_at fs offset ≡ Planned to

planned_in : (w low : ℕ) (fs : List Forwarding) → AreRising w low fs → list_any is_uncopied fs ≡ true
    → IsPlanned w low fs
planned_in w low [] r e = absurd (cc)
planned_in w low (f ∷ fs) r e = by_copied f.copied refl e (planned_in w (f.offset + 1) fs r.2)
  where
    by_copied : (b : Bool) → f.copied ≡ b → (not b || list_any is_uncopied fs) ≡ true
        → (list_any is_uncopied fs ≡ true → IsPlanned w (f.offset + 1) fs) → IsPlanned w low (f ∷ fs)
    by_copied false z k rest = record {
      offset = f.offset;
      to = f.to;
      low_end = r.0;
      high_end = r.1;
      entry = ap (λ (b : Bool). cond b (worlds.entry_of f.copied f.to) (worlds.entry_at fs f.offset))
          (eq-eqb f.offset f.offset refl) ∙ ap (λ (b : Bool). worlds.entry_of b f.to) z;
    }
    by_copied true z k rest =
        let p = rest k in
        let low_is = r.0 in
        let after = p.low_end in
        record {
          offset = p.offset;
          to = p.to;
          low_end = omega (arith, low_is, after);
          high_end = p.high_end;
          entry = ap (λ (b : Bool). cond b (worlds.entry_of f.copied f.to) (worlds.entry_at fs p.offset))
              (ne_eqb f.offset p.offset (λ same. absurd (omega (arith, same, after)))) ∙ p.entry;
        }

pub from_there : (h : HeapState) (p p0 : PlainHeap) (n : ℕ) → Holds h p p0
    → AreRising h.store.words 0 (of_page h.sides n) → list_any is_uncopied (of_page h.sides n) ≡ true
    → state_at h.store n ≡ From
from_there h p p0 n k rising e =
    let x = planned_in h.store.words 0 (of_page h.sides n) rising e in
    let page : (n * h.store.words + x.offset) / h.store.words ≡ n = div-mul-add n h.store.words x.offset x.high_end in
    let offset : (n * h.store.words + x.offset) % h.store.words ≡ x.offset =
    mod-mul-add n h.store.words x.offset x.high_end in
    let planned : (world_of h).side_entry (n * h.store.words + x.offset) ≡ Planned x.to =
    ap (λ (m : ℕ). worlds.entry_at (of_page h.sides m) ((n * h.store.words + x.offset) % h.store.words)) page
    ∙ ap (λ (m : ℕ). worlds.entry_at (of_page h.sides n) m) offset ∙ x.entry in
    ap (state_at h.store) (sym page)
    ∙ k.invariant.objects.planned_from (n * h.store.words + x.offset) x.to planned

-- ---- what copies leave

pub record IsBeside (h g : HeapState) : Type 0 where
  pub workers : g.workers ≡ h.workers
  pub scan : may_scan g ≡ may_scan h
  pub pages : g.store.count ≡ h.store.count

beside_same : (h : HeapState) → IsBeside h h
beside_same h = record { workers = refl; scan = refl; pages = refl }

copy_beside : (h : HeapState) (a to : ℕ) → IsBeside h (with_copy h a to)
unfolding with_copy with_copied_words with_words may_scan all_crossed
copy_beside h a to = record { workers = refl; scan = refl; pages = refl }

outcome_beside : (h : HeapState) (page e : ℕ) → IsBeside h (heap_after h (copy_outcome h page e))
unfolding copy_outcome
outcome_beside h page e = by_tests (is_idle h.phase) (crossed_if_protecting h) (entry_on h page e)
  where
    by_entry : (f : Forwarding) (b : Bool) → IsBeside h (heap_after h (refuse_if b refusals.Copied
        >>= (λ u. Ok (
          with_copy h (page * h.store.words + f.offset) f.to,
          answers.MovedTo (f.to / h.store.words) (f.to % h.store.words),
        ))))
    by_entry f true = beside_same h
    by_entry f false = copy_beside h (page * h.store.words + f.offset) f.to

    by_tests : (a : Bool) (r : Result Unit Refusal) (q : Option Forwarding) → IsBeside h (heap_after h
        (refuse_if a refusals.Phase >>= (λ u. r >>= (λ v. or_refuse q refusals.BadIndex
        >>= (λ f. refuse_if f.copied refusals.Copied >>= (λ x. Ok (
          with_copy h (page * h.store.words + f.offset) f.to,
          answers.MovedTo (f.to / h.store.words) (f.to % h.store.words),
        )))))))
    by_tests true r q = beside_same h
    by_tests false (Err x) q = beside_same h
    by_tests false (Ok u) None = beside_same h
    by_tests false (Ok u) (Some f) = by_entry f f.copied

copies_beside : (h : HeapState) (page e k : ℕ) → IsBeside h (copies_from h page e k)
copies_beside h page e zero = beside_same h
copies_beside h page e (suc k) =
    let a = outcome_beside h page e in
    let b = copies_beside (heap_after h (copy_outcome h page e)) page (e + 1) k in
    record { workers = b.workers ∙ a.workers; scan = b.scan ∙ a.scan; pages = b.pages ∙ a.pages }

pub page_beside : (h : HeapState) (page : ℕ) → IsBeside h (copy_page h page)
unfolding copy_page
page_beside h page = copies_beside h page 0 (length (of_page h.sides page))

-- ---- CopyPage in a mark

-- a mark runs, so copies may be done
pub busy_in : (h : HeapState) → may_scan h ≡ Ok tt → (is_idle h.phase ≡ false) × (crossed_if_protecting h ≡ Ok tt)
unfolding may_scan crossed_if_protecting
busy_in h e = by_phase h.phase e
  where
    passed : Result (Unit {0}) Refusal
    passed = Ok tt

    by_phase : (f : Phase) → cond (is_marking f) (all_crossed h) (Err refusals.Phase) ≡ Ok tt
        → (is_idle f ≡ false) × (cond (is_protect_crossing f) (all_crossed h) passed ≡ Ok tt)
    by_phase MarkCrossing k = (refl, refl)
    by_phase Scanning k = (refl, refl)
    by_phase Idle k = absurd (cc)
    by_phase ProtectCrossing k = absurd (cc)
    by_phase Relocating k = absurd (cc)

lt-not-le : (m n : ℕ) → m < n → nat_le n m ≡ false
lt-not-le m n e = grind (arith, nat_tests)

in_bounds : (n m : ℕ) → 0 < n → n ≤ m → (nat_eq n 0 || nat_lt m n) ≡ false
in_bounds n m a b = grind (arith, nat_tests)

pub copied_answer : (h : HeapState) (n : ℕ) → Answer
copied_answer h n = answers.CopiedPage (count_by is_uncopied (of_page h.sides n))

-- it is accepted
pub page_is : (h : HeapState) (w n : ℕ) → may_scan h ≡ Ok tt → w < length h.workers → 0 < n → n ≤ h.store.count
    → state_at h.store n ≡ From → outcome h (Worker w) (steps.CopyPage n) ≡ Ok (copy_page h n, copied_answer h n)
unfolding outcome worker_gate no_page copy_page_outcome copied_answer
page_is h w n scan there low high from = by_tests (nat_le (length h.workers) w) (nat_eq n 0 || nat_lt h.store.count n)
    (is_idle h.phase) (crossed_if_protecting h) (is_from (state_at h.store n)) (lt-not-le w (length h.workers) there)
    (in_bounds n h.store.count low high) (busy_in h scan).0 (busy_in h scan).1 (ap is_from from)
  where
    new : Outcome
    new = Ok (copy_page h n, answers.CopiedPage (count_by is_uncopied (of_page h.sides n)))

    passed : Result (Unit {0}) Refusal
    passed = Ok tt

    by_tests : (a b c : Bool) (r : Result Unit Refusal) (d : Bool) → a ≡ false → b ≡ false → c ≡ false → r ≡ Ok tt
        → d ≡ true
        → ((cond (a || false) (Err refusals.NoActor) (cond b (Err refusals.BadIndex) passed)) >>= (λ t.
        refuse_if c refusals.Phase >>= (λ u. r >>= (λ v. refuse_if (not d) refusals.BadIndex >>= (λ x. new))))) ≡ new
    by_tests false false false (Ok u) true e f g i j = refl
    by_tests true b c r d e f g i j = absurd (true≢false e)
    by_tests false true c r d e f g i j = absurd (true≢false f)
    by_tests false false true r d e f g i j = absurd (true≢false g)
    by_tests false false false (Err x) d e f g i j = absurd (cc)
    by_tests false false false (Ok u) false e f g i j = absurd (true≢false (sym j))

-- ---- ScanField

first_workers : (h : HeapState) (v : Reference) → ((copied_for h v).workers ≡ h.workers)
    × (may_scan (copied_for h v) ≡ may_scan h)
unfolding copied_for copied_first with_copy may_scan all_crossed
first_workers h None = (refl, refl)
first_workers h (Some x) = by_entry (entry_at h x.0)
  where
    by_copied : (b : Bool) (to : ℕ) → ((cond b h (with_copy h x.0 to)).workers ≡ h.workers)
        × (may_scan (cond b h (with_copy h x.0 to)) ≡ may_scan h)
    by_copied true to = (refl, refl)
    by_copied false to = (refl, refl)

    by_entry : (q : Option Forwarding) → ((copied_by h x.0 q).workers ≡ h.workers)
        × (may_scan (copied_by h x.0 q) ≡ may_scan h)
    by_entry None = (refl, refl)
    by_entry (Some f) = by_copied f.copied f.to

place_workers : (h : HeapState) (place : ℕ) (v : Reference) → ((mark_place h place v).workers ≡ h.workers)
    × (may_scan (mark_place h place v) ≡ may_scan h)
unfolding mark_place with_marked_place with_mark may_scan all_crossed
place_workers h place v = first_workers h v

field_goes_on : (h : HeapState) (w : ℕ) (s : Scan) (place : ℕ) (v : Reference) → slice_get h.workers w ≡ Some (Some s)
    → s.next < MOST_FIELDS → FieldDone h w s (with_scan (mark_place h place v) w (Some (next_field s)))
unfolding with_scan may_scan all_crossed
field_goes_on h w s place v at low =
    let k = place_workers h place v in
    record {
      scan = k.1;
      many = length-set (mark_place h place v).workers w (Some (next_field s)) ∙ ap length k.0;
      now = inr (
        get_set_same (mark_place h place v).workers w (Some s) (Some (next_field s))
            (ap (λ (ws : List (Option Scan)). slice_get ws w) k.0 ∙ at),
        low,
      );
    }

field_ends : (h : HeapState) (w : ℕ) (s : Scan) → slice_get h.workers w ≡ Some (Some s)
    → FieldDone h w s (with_scan_end h w s)
unfolding with_scan_end with_scan may_scan all_crossed
field_ends h w s at = record {
  scan = refl;
  many = length-set h.workers w None;
  now = inl (get_set_same h.workers w (Some s) None at);
}

-- an object has few fields
fitting : (p : Layout → Bool) (ls : List Layout) (i : ℕ) (l : Layout) → list_all p ls ≡ true → slice_get ls i ≡ Some l
    → p l ≡ true
fitting p [] i l e at = absurd (cc)
fitting p (x ∷ ls) zero l e at = ap p (sym (same_Some _ _ at)) ∙ (and_parts (p x) (list_all p ls) e).0
fitting p (x ∷ ls) (suc i) l e at = fitting p ls i l (and_parts (p x) (list_all p ls) e).1 at

few_refs : (words : ℕ) (l : Layout) → fits_page words l ≡ true → l.refs ≤ MOST_FIELDS
few_refs words l e = leb-true l.refs MOST_FIELDS (and_parts (nat_le l.refs MOST_FIELDS) _ (and_parts _ _ e).0).0

few_fields : (h : HeapState) (a i place : ℕ) → list_all (fits_page h.config.words) h.config.layouts ≡ true
    → field_at h a i ≡ Some place → i < MOST_FIELDS
unfolding field_at layout_at
few_fields h a i place fits at = by_header (header_layout (word_at h.store a)) at
  where
    by_test : (l : Layout) (b : Bool) → nat_lt i l.refs ≡ b → fits_page h.config.words l ≡ true
        → cond b (Some (field_address a i)) None ≡ Some place → i < MOST_FIELDS
    by_test l true z f k =
        let low : i < l.refs = ltb-true i l.refs z in
        let few = few_refs h.config.words l f in omega (arith, low, few)
    by_test l false z f k = absurd (cc)

    by_layout : (n : ℕ) (q : Option Layout) → slice_get h.config.layouts n ≡ q → field_place a i q ≡ Some place
        → i < MOST_FIELDS
    by_layout n None z k = absurd (cc)
    by_layout n (Some l) z k =
        by_test l (nat_lt i l.refs) refl (fitting (fits_page h.config.words) h.config.layouts n l fits z) k

    by_header : (q : Option ℕ) → field_place a i (layout_in h.config.layouts q) ≡ Some place → i < MOST_FIELDS
    by_header None k = absurd (cc)
    by_header (Some n) k = by_layout n (slice_get h.config.layouts n) refl k

-- it is accepted
pub field_done : (h : HeapState) (w : ℕ) (s : Scan) → may_scan h ≡ Ok tt → slice_get h.workers w ≡ Some (Some s)
    → list_all (fits_page h.config.words) h.config.layouts ≡ true
    → (g : HeapState) × (a : Answer) × (outcome h (Worker w) steps.ScanField ≡ Ok (g, a)) × FieldDone h w s g
unfolding outcome worker_gate scan_field_outcome
field_done h w s scan at fits = by_tests (nat_le (length h.workers) w) (may_scan h) (scan_of h w)
    (lt-not-le w (length h.workers) (slice_get_within h.workers w (Some s) at)) scan (ap flat at)
  where
    passed : Result (Unit {0}) Refusal
    passed = Ok tt

    row : Option Scan → Outcome
    row q = or_refuse q refusals.NotTodo >>= (λ z. scan_next h w z (field_at h z.object z.next))

    by_place : (q : Option ℕ) → field_at h s.object s.next ≡ q
        → (g : HeapState) × (a : Answer) × (scan_next h w s q ≡ Ok (g, a)) × FieldDone h w s g
    by_place None z = (with_scan_end h w s, answers.Finished, refl, field_ends h w s at)
    by_place (Some place) z = (
      with_scan (mark_place h place (reference_in (word_at h.store place))) w (Some (next_field s)),
      answers.Scanned,
      refl,
      field_goes_on h w s place (reference_in (word_at h.store place)) at
          (few_fields h s.object s.next place fits z),
    )

    by_tests : (a : Bool) (r : Result Unit Refusal) (q : Option Scan) → a ≡ false → r ≡ Ok tt → q ≡ Some s
        → (g : HeapState) × (b : Answer)
        × (((cond (a || false) (Err refusals.NoActor) passed) >>= (λ t. r >>= (λ u. row q))) ≡ Ok (g, b))
        × FieldDone h w s g
    by_tests false (Ok tt) (Some z) e f k =
        subst (λ (y : Scan). (g : HeapState) × (b : Answer) × (row (Some y) ≡ Ok (g, b)) × FieldDone h w s g)
        (sym (same_Some _ _ k)) (by_place (field_at h s.object s.next) refl)
    by_tests true r q e f k = absurd (true≢false e)
    by_tests false (Err x) q e f k = absurd (cc)
    by_tests false (Ok tt) None e f k = absurd (cc)

-- ---- where no scan is accepted

behind_refused : (r : Result Unit Refusal) (f : Unit {0} → Outcome) → ((u : Unit {0}) → is_ok (f u) ≡ false)
    → is_ok (r >>= f) ≡ false
behind_refused (Ok u) f k = k u
behind_refused (Err e) f k = refl

first_refused : (r : Result Unit Refusal) (f : Unit {0} → Outcome) → (r ≡ Ok tt → ⊥) → is_ok (r >>= f) ≡ false
first_refused (Ok tt) f k = absurd (k refl)
first_refused (Err e) f k = refl

pub none_scanned : (h : HeapState) (w : ℕ) → (may_scan h ≡ Ok tt → ⊥) → (step : Step) → Scans step
    → is_ok (outcome h (Worker w) step) ≡ false
unfolding outcome pick_outcome scan_field_outcome scan_global_outcome
none_scanned h w no_mark (steps.Pick page offset) is =
    behind_refused (worker_gate h w (steps.Pick page offset)) _ (λ u. first_refused (may_scan h) _ no_mark)
none_scanned h w no_mark steps.ScanField is =
    behind_refused (worker_gate h w steps.ScanField) _ (λ u. first_refused (may_scan h) _ no_mark)
none_scanned h w no_mark (steps.ScanGlobal n) is =
    behind_refused (worker_gate h w (steps.ScanGlobal n)) _ (λ u. first_refused (may_scan h) _ no_mark)
none_scanned h w no_mark _ is = absurd is

no_gate : (h : HeapState) (w : ℕ) (step : Step) → length h.workers ≤ w → worker_gate h w step ≡ Ok tt → ⊥
unfolding worker_gate
no_gate h w step l e = by_test (nat_le (length h.workers) w) (has_bad_index h step) (le-is (length h.workers) w l) e
  where
    passed : Result (Unit {0}) Refusal
    passed = Ok tt

    by_test : (a b : Bool) → a ≡ true → cond (a || not (is_for_workers step)) (Err refusals.NoActor)
        (cond b (Err refusals.BadIndex) passed) ≡ Ok tt → ⊥
    by_test true b f k = absurd (cc)
    by_test false b f k = absurd (cc)

pub no_worker : (h : HeapState) (w : ℕ) (step : Step) → length h.workers ≤ w
    → is_ok (outcome h (Worker w) step) ≡ false
unfolding outcome
no_worker h w step l = first_refused (worker_gate h w step) _ (no_gate h w step l)

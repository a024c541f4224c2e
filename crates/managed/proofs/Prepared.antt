-- The lemmas that the calls before scans of complete objects cite.
use Rattle.std.proofs.Common.{◌≡◌, ◌≢◌, ◌⊎◌, ◌∙◌, inl, inr, ℕ, zero, suc, ◌+◌, ◌-◌, ◌^◌, ◌<◌, ◌≤◌, Bool, true}
use Rattle.std.proofs.Common.{false, not}
use Rattle.std.proofs.Common.{List, [], ◌∷◌, length, Option, Some, None, refl, sym, ap, subst, arith}
use Rattle.std.specs.List.{slice_get, list_any}
use Rattle.std.specs.Prelude.{Result, Ok, Err, is_ok, is_some, nat_lt, MatchBool}
use Rattle.std.proofs.lemmas.Bool.{true≢false, cases_lt, ltb-true, ltb-false}
use Rattle.std.proofs.lemmas.Bool.Decides.{nat_tests}
use Rattle.std.proofs.lemmas.Option.{same_Some, slice_get_within}
use Rattle.std.proofs.lemmas.List.{get_or_past}
use Rattle.model.specs.declared.limits.TheConstants.{MOST_FIELDS}
use Rattle.model.specs.declared.records.Forwarding.{Forwarding}
use Rattle.model.specs.declared.records.PageState.TheVariants.{From}
use Rattle.model.specs.declared.records.Scan.{Scan}
use Rattle.model.specs.declared.steps.Actor.{Actor}
use Rattle.model.specs.declared.steps.Actor.TheVariants.{Thread, Worker}
use Rattle.model.specs.declared.steps.Answer.{Answer}
use Rattle.model.specs.declared.steps.Refusal.{Refusal}
use Rattle.model.specs.declared.steps.Step.{Step}
use Rattle.model.specs.declared.steps.Step.TheVariants as steps
use Rattle.model.specs.Bits.{of_page}
use Rattle.model.specs.Cycles.{is_uncopied}
use Rattle.model.specs.Emptying.{copy_page}
use Rattle.model.specs.Holding.{AreRising, IsHeap}
use Rattle.model.specs.Outcome.{outcome}
use Rattle.model.specs.Owning.{Each}
use Rattle.model.specs.Plain.{PlainHeap}
use Rattle.model.specs.Refusing.{Outcome, Does, DoesStep}
use Rattle.model.specs.Scans.{may_scan, next_field, scan_of}
use Rattle.model.specs.States.{HeapState, flat}
use Rattle.model.specs.Stores.{StoreState, is_from, record_count, state_at}
use Rattle.model.proofs.Lists.{get_within}
use Rattle.forward.specs.Counts.{uncopied_count}
use Rattle.refinement.specs.Standing.{Holds, KeepsStanding}
use Rattle.entries.specs.declared.entry.Entry.{Entry}
use Rattle.cycle.proofs.Stepped.{step_accepted}
use Rattle.drains.specs.Drains.{IsReady}
use Rattle.managed.specs.Goings.{EachIs, Goes, GoesFar, GoesBy, IsDrain, IsScan, ScansFar}
use Rattle.managed.specs.Preparing.{AllCopied, FieldDone, GoesOn, IsFree, MayWork, PageDone, Prepares}
use Rattle.managed.specs.Preparing.{ScansField, ScansNothing, TellsDone}
use Rattle.managed.specs.Runs.{Leads}
use Rattle.managed.proofs.Copying.{busy_in, field_done, from_there, no_worker, none_scanned, page_beside, page_is}
use Rattle.managed.proofs.Counting.{far_before, far_none, far_step}
use Rattle.managed.proofs.Going.{goes_none, goes_then}
use Rattle.managed.proofs.Left.{none_uncopied, page_copied, page_stays}

-- ---- a step that is accepted

-- what came of a step that its outcome accepts
record IsDone (w : ℕ) (step : Step) (h g m : HeapState) : Type 0 where
  goes : GoesFar (IsDrain w) 1 h g
  same : g ≡ m

same_ok : (x y : HeapState × Answer) → ◌≡◌ {A = Outcome} (Ok x) (Ok y) → x ≡ y
same_ok x y e = cc

ok_not_err : (x : HeapState × Answer) (e : Refusal) → ◌≡◌ {A = Outcome} (Ok x) (Err e) → ⊥
ok_not_err x e z = cc

step_done : (w : ℕ) (step : Step) (h g m : HeapState) (a : Answer) (r : Result Answer Refusal)
    → IsDrain w (Worker w) step → outcome h (Worker w) step ≡ Ok (m, a)
    → DoesStep h step r g (outcome h (Worker w) step) → Does h r g (outcome h (Worker w) step)
    → KeepsStanding h (Worker w) step r g → IsDone w step h g m
step_done w step h g m a (Ok b) is ok does alike keeps = record {
  goes = far_step (IsDrain w) 0 h h g (Worker w) step (Ok b) b is refl does keeps (far_none (IsDrain w) h);
  same = ap (λ (x : HeapState × Answer). x.0) (same_ok (g, b) (m, a)
      (sym (step_accepted h g step b (outcome h (Worker w) step) does) ∙ ok));
}
step_done w step h g m a (Err e) is ok does alike keeps = absurd (ok_not_err (m, a) e (sym ok ∙ alike.0))

-- ---- fields

has_scan : (h : HeapState) (w : ℕ) → is_some (scan_of h w) ≡ true
    → (s : Scan) × (slice_get h.workers w ≡ Some (Some s))
has_scan h w e = by_worker (slice_get h.workers w) refl e
  where
    by_worker : (o : Option (Option Scan)) → slice_get h.workers w ≡ o → is_some (flat o) ≡ true
        → (s : Scan) × (slice_get h.workers w ≡ Some (Some s))
    by_worker None z k = absurd (cc)
    by_worker (Some None) z k = absurd (cc)
    by_worker (Some (Some s)) z k = (s, z)

pub field_scanned : (w : ℕ) (h g : HeapState) (r : Result Answer Refusal) → MayWork w h
    → is_some (scan_of h w) ≡ true → IsHeap h → DoesStep h steps.ScanField r g (outcome h (Worker w) steps.ScanField)
    → KeepsStanding h (Worker w) steps.ScanField r g → ScansField w h g
field_scanned w h g r may busy i does keeps =
    let (s, at) = has_scan h w busy in
    let (m, a, ok, done) = field_done h w s may.scan at i.config.fitting in
    let d = step_done w steps.ScanField h g m a r (refl, tt) ok does does keeps in
    record {
      goes = d.goes;
      done = λ z there. subst (λ (x : Scan). FieldDone h w x g) (same_scan s z (sym at ∙ there))
          (subst (FieldDone h w s) (sym d.same) done);
    }
  where
    same_scan : (s z : Scan) → ◌≡◌ {A = Option (Option Scan)} (Some (Some s)) (Some (Some z)) → s ≡ z
    same_scan s z e = same_Some _ _ (same_Some _ _ e)

-- n fields were scanned, of one object at most
pub record HasScanned (w n : ℕ) (h g : HeapState) : Type 0 where
  pub goes : Goes (IsDrain w) h g
  pub work : MayWork w g
  pub far : (s : Scan) → slice_get g.workers w ≡ Some (Some s) → (n ≡ 0) ⊎ ((n ≤ s.next) × (s.next ≤ MOST_FIELDS))

pub fields_first : (w : ℕ) (h : HeapState) → MayWork w h → HasScanned w 0 h h
fields_first w h may = record { goes = goes_none (IsDrain w) h; work = may; far = λ s at. inl refl }

pub fields_next : (w n : ℕ) (h m g : HeapState) → HasScanned w n h m → is_some (scan_of m w) ≡ true
    → ScansField w m g → HasScanned w (n + 1) h g
fields_next w n h m g k busy f =
    let (s, at) = has_scan m w busy in
    let d = f.done s at in
    let many = d.many in
    let there = k.work.there in
    record {
      goes = goes_then (IsDrain w) h m g k.goes f.goes.goes;
      work = record { scan = d.scan ∙ k.work.scan; there = omega (arith, many, there) };
      far = λ z now. inr (by_end s z (k.far s at) now d.now);
    }
  where
    not_both : (z : Scan) → ◌≡◌ {A = Option (Option Scan)} (Some None) (Some (Some z)) → ⊥
    not_both z e = cc

    after : (s z : Scan) → next_field s ≡ z → (n ≡ 0) ⊎ ((n ≤ s.next) × (s.next ≤ MOST_FIELDS)) → s.next < MOST_FIELDS
        → (n + 1 ≤ z.next) × (z.next ≤ MOST_FIELDS)
    after s z same (inl none) low =
        let is : s.next + 1 ≡ z.next = ap (λ (x : Scan). x.next) same in
        (omega (arith, none, is), omega (arith, low, is))
    after s z same (inr few) low =
        let is : s.next + 1 ≡ z.next = ap (λ (x : Scan). x.next) same in
        let before = few.0 in (omega (arith, before, is), omega (arith, low, is))

    by_end : (s z : Scan) → (n ≡ 0) ⊎ ((n ≤ s.next) × (s.next ≤ MOST_FIELDS)) → slice_get g.workers w ≡ Some (Some z)
        → GoesOn w s g → (n + 1 ≤ z.next) × (z.next ≤ MOST_FIELDS)
    by_end s z few now (inl none) = absurd (not_both z (sym none ∙ now))
    by_end s z few now (inr next) = after s z (same_Some _ _ (same_Some _ _ (sym next.0 ∙ now))) few next.1

-- the object has ended
pub fields_ended : (w n : ℕ) (h g : HeapState) → HasScanned w n h g → is_some (scan_of g w) ≡ false → IsFree w g
fields_ended w n h g k e = record { scan = k.work.scan; worker = by_worker (slice_get g.workers w) refl e }
  where
    no_worker_there : (x : Option Scan) → ◌≡◌ {A = Option (Option Scan)} None (Some x) → ⊥
    no_worker_there x z = cc

    by_worker : (o : Option (Option Scan)) → slice_get g.workers w ≡ o → is_some (flat o) ≡ false
        → slice_get g.workers w ≡ Some None
    by_worker None z f =
        let (x, at) = get_within g.workers w k.work.there in absurd (no_worker_there x (sym z ∙ at))
    by_worker (Some None) z f = z
    by_worker (Some (Some s)) z f = absurd (cc)

-- and no object has so many
pub fields_past : (w n : ℕ) (h g : HeapState) → HasScanned w n h g → 2 ^ 64 - 1 ≤ n → IsFree w g
fields_past w n h g k l = fields_ended w n h g k (by_object (is_some (scan_of g w)) refl)
  where
    too_many : (s : Scan) → (n ≡ 0) ⊎ ((n ≤ s.next) × (s.next ≤ MOST_FIELDS)) → ⊥
    too_many s (inl none) = absurd (omega (arith, none, l))
    too_many s (inr few) = let low = few.0 in let high = few.1 in absurd (omega (arith, low, high, l))

    by_object : (b : Bool) → is_some (scan_of g w) ≡ b → b ≡ false
    by_object false e = refl
    by_object true e = let (s, at) = has_scan g w e in absurd (too_many s (k.far s at))

-- ---- pages

page_each : (P : List Forwarding → Type 0) (sides : List (List Forwarding)) (n : ℕ) → P [] → Each sides P
    → P (of_page sides n)
page_each P sides zero e k = e
page_each P [] (suc n) e k = e
page_each P (x ∷ xs) (suc zero) e k = k zero x refl
page_each P (x ∷ xs) (suc (suc n)) e k = page_each P xs (suc n) e (λ i. k (suc i))

pub page_done : (w n : ℕ) (h g : HeapState) (p p0 : PlainHeap) (r : Result Answer Refusal) → Holds h p p0 → IsFree w h
    → 0 < n → n ≤ h.store.count → list_any is_uncopied (of_page h.sides n) ≡ true
    → DoesStep h (steps.CopyPage n) r g (outcome h (Worker w) (steps.CopyPage n))
    → KeepsStanding h (Worker w) (steps.CopyPage n) r g → PageDone w h n g × GoesFar (IsDrain w) 1 h g
page_done w n h g p p0 r k free low high left does keeps =
    let rising : AreRising h.store.words 0 (of_page h.sides n) =
    page_each (AreRising h.store.words 0) h.sides n tt k.laid.sides.rising in
    let from : state_at h.store n ≡ From = from_there h p p0 n k rising left in
    let d = step_done w (steps.CopyPage n) h g (copy_page h n) _ r (refl, tt) (page_is h w n free.scan
    (slice_get_within h.workers w None free.worker) low high from) does does keeps in
    let beside = page_beside h n in
    let busy = busy_in h free.scan in (
      record {
        goes = d.goes.goes;
        free = subst (IsFree w) (sym d.same) (record {
          scan = beside.scan ∙ free.scan;
          worker = ap (λ (ws : List (Option Scan)). slice_get ws w) beside.workers ∙ free.worker;
        });
        pages = ap (λ (x : HeapState). x.store.count) d.same ∙ beside.pages;
        done = subst (λ (x : HeapState). AllCopied x n) (sym d.same)
            (page_copied h n busy.0 busy.1 (ap is_from from) rising low);
        stay = λ m a. subst (λ (x : HeapState). AllCopied x m) (sym d.same) (page_stays h n m a);
      },
      d.goes,
    )

-- whether anything was left
pub some_left : (h : HeapState) (n : ℕ) (b : Bool) (sides : List (List Forwarding)) → sides ≡ h.sides
    → b ≡ not (list_any is_uncopied (of_page sides n)) → b ≡ false → list_any is_uncopied (of_page h.sides n) ≡ true
some_left h n b sides same told is =
    by_any (list_any is_uncopied (of_page h.sides n)) (sym is ∙ told
    ∙ ap (λ (xs : List (List Forwarding)). not (list_any is_uncopied (of_page xs n))) same)
  where
    by_any : (c : Bool) → false ≡ not c → c ≡ true
    by_any true e = refl
    by_any false e = absurd (cc)

pub none_there : (h : HeapState) (n : ℕ) (b : Bool) (sides : List (List Forwarding)) → sides ≡ h.sides
    → b ≡ not (list_any is_uncopied (of_page sides n)) → b ≡ true → AllCopied h n
none_there h n b sides same told is =
    by_any (list_any is_uncopied (of_page h.sides n)) (sym is ∙ told
    ∙ ap (λ (xs : List (List Forwarding)). not (list_any is_uncopied (of_page xs n))) same)
  where
    by_any : (c : Bool) → true ≡ not c → c ≡ false
    by_any false e = refl
    by_any true e = absurd (cc)

-- nothing was left of it
pub page_none : (w n : ℕ) (h : HeapState) → IsFree w h → AllCopied h n → PageDone w h n h
page_none w n h free none = record {
  goes = goes_none (IsDrain w) h;
  free = free;
  pages = refl;
  done = none;
  stay = λ m a. a;
}

-- the first n pages are done
pub record HasCopied (w n : ℕ) (h g : HeapState) : Type 0 where
  pub goes : Goes (IsDrain w) h g
  pub free : IsFree w g
  pub pages : g.store.count ≡ h.store.count
  pub done : (m : ℕ) → m ≤ n → AllCopied g m

none_before : (h : HeapState) (m : ℕ) → m ≤ 0 → AllCopied h m
none_before h zero l = refl
none_before h (suc m) l = absurd (omega (arith, l))

pub pages_first : (w : ℕ) (h : HeapState) → IsFree w h → HasCopied w 0 h h
pages_first w h free = record {
  goes = goes_none (IsDrain w) h;
  free = free;
  pages = refl;
  done = none_before h;
}

pub pages_next : (w n : ℕ) (h m g : HeapState) → HasCopied w n h m → PageDone w m (n + 1) g → HasCopied w (n + 1) h g
pages_next w n h m g k d = record {
  goes = goes_then (IsDrain w) h m g k.goes d.goes;
  free = d.free;
  pages = d.pages ∙ k.pages;
  done = λ i l. by_place i l (cases_lt i (n + 1));
}
  where
    by_place : (i : ℕ) → i ≤ n + 1 → (i < n + 1) ⊎ (n + 1 ≤ i) → AllCopied g i
    by_place i l (inl low) = d.stay i (k.done i (omega (arith, low)))
    by_place i l (inr high) =
        let same : n + 1 ≡ i = omega (arith, l, high) in subst (AllCopied g) same d.done

few : (frames count : ℕ) → record_count frames count ≤ count
few frames count = grind (arith, nat_tests)

-- pages that have no number have nothing
all_pages : (g : HeapState) (n : ℕ) → IsHeap g → g.store.count ≤ n → ((m : ℕ) → m ≤ n → AllCopied g m)
    → uncopied_count g.sides ≡ 0
all_pages g n i l k = none_uncopied g.sides (λ m. by_place m (cases_lt n m))
  where
    none_of : (xs : List Forwarding) → xs ≡ [] → list_any is_uncopied xs ≡ false
    none_of xs e = ap (list_any is_uncopied) e

    past : (m : ℕ) → n < m → of_page g.sides m ≡ []
    past zero low = refl
    past (suc m) low =
        let sides = i.sides.pages in
        let pages = i.sizes.pages in
        let fewer = few g.config.frames g.config.pages in
        get_or_past g.sides m [] (omega (arith, low, l, sides, pages, fewer))

    by_place : (m : ℕ) → (n < m) ⊎ (m ≤ n) → AllCopied g m
    by_place m (inl low) = none_of (of_page g.sides m) (past m low)
    by_place m (inr high) = k m high

pub ready_free : (w : ℕ) (g : HeapState) → IsFree w g → uncopied_count g.sides ≡ 0 → IsReady g w
ready_free w g free none = record { scan = free.scan; none = none; worker = free.worker }

-- all pages were gone over
pub count_past : (n m : ℕ) (s : StoreState) (x h : HeapState) → m ≡ s.count → s ≡ x.store → x ≡ h → m ≤ n
    → h.store.count ≤ n
count_past n m s x h a b e l =
    let there : s.count ≡ h.store.count =
    ap (λ (y : StoreState). y.count) b ∙ ap (λ (y : HeapState). y.store.count) e in
    omega (arith, a, there, l)

pub pages_last : (w n : ℕ) (h g : HeapState) → HasCopied w n h g → IsHeap g → h.store.count ≤ n → IsReady g w
pages_last w n h g k i l =
    let pages = k.pages in ready_free w g k.free (all_pages g n i (omega (arith, pages, l)) k.done)

-- none of the first n pages had anything left
pub record NoneLeft (w n : ℕ) (h g : HeapState) : Type 0 where
  pub same : g ≡ h
  pub done : (m : ℕ) → m ≤ n → AllCopied h m

pub left_first : (w : ℕ) (h : HeapState) → NoneLeft w 0 h h
left_first w h = record { same = refl; done = none_before h }

pub left_next : (w n : ℕ) (h m g : HeapState) (b : Bool) → NoneLeft w n h m → b ≡ false → PageDone w m (n + 1) g
    → TellsDone w m b g → NoneLeft w (n + 1) h g
left_next w n h m g b k is d told = record {
  same = still ∙ k.same;
  done = λ i l. by_place i l (cases_lt i (n + 1));
}
  where
    still : g ≡ m
    still = subst (λ (c : Bool). TellsDone w m c g) is told

    by_place : (i : ℕ) → i ≤ n + 1 → (i < n + 1) ⊎ (n + 1 ≤ i) → AllCopied h i
    by_place i l (inl low) = k.done i (omega (arith, low))
    by_place i l (inr high) =
        let here : n + 1 ≡ i = omega (arith, l, high) in
        subst (λ (x : HeapState). AllCopied x i) (still ∙ k.same) (subst (AllCopied g) here d.done)

pub left_last : (w n : ℕ) (h g : HeapState) → NoneLeft w n h g → IsFree w h → IsHeap g → h.store.count ≤ n
    → Prepares w h false g
left_last w n h g k free i l = (
  k.same,
  inl (subst (λ (x : HeapState). IsReady x w) (sym k.same) (ready_free w h free
      (all_pages h n (subst IsHeap k.same i) l k.done))),
)

pub left_one : (w n : ℕ) (h m g : HeapState) (b : Bool) → NoneLeft w n h m → b ≡ true → TellsDone w m b g
    → Prepares w h true g
left_one w n h m g b k is told =
    subst (λ (x : HeapState). GoesFar (IsDrain w) 1 x g) k.same (subst (λ (c : Bool). TellsDone w m c g) is told)

-- ---- where no scan is accepted

pub no_mark : (w : ℕ) (h : HeapState) → (may_scan h ≡ Ok tt → ⊥) → ScansNothing w h
no_mark w h none step is = none_scanned h w none step is

pub not_there : (w : ℕ) (h : HeapState) → length h.workers ≤ w → ScansNothing w h
not_there w h l step is = no_worker h w step l

-- what the calls tell

pub may_there : (w n : ℕ) (h x : HeapState) (b : Bool) → x ≡ h
    → MatchBool b (may_scan x ≡ Ok tt) (may_scan x ≢ Ok tt) → b ≡ true → n ≡ length h.workers
    → MatchBool (nat_lt w n) (MayWork w h) (ScansNothing w h)
may_there w n h x b same told is many = by_place (nat_lt w n) refl
  where
    scan : may_scan h ≡ Ok tt
    scan = subst (λ (y : HeapState). may_scan y ≡ Ok tt) same
        (subst (λ (c : Bool). MatchBool c (may_scan x ≡ Ok tt) (may_scan x ≢ Ok tt)) is told)

    by_place : (c : Bool) → nat_lt w n ≡ c → MatchBool c (MayWork w h) (ScansNothing w h)
    by_place true e = let low : w < n = ltb-true w n e in record { scan = scan; there = omega (arith, low, many) }
    by_place false e =
        let high : n ≤ w = ltb-false w n e in not_there w h (omega (arith, high, many))

pub may_not : (w : ℕ) (h x : HeapState) (b : Bool) → x ≡ h
    → MatchBool b (may_scan x ≡ Ok tt) (may_scan x ≢ Ok tt) → b ≡ false → ScansNothing w h
may_not w h x b same told is = no_mark w h (λ e.
    subst (λ (c : Bool). MatchBool c (may_scan x ≡ Ok tt) (may_scan x ≢ Ok tt)) is told
    (ap may_scan same ∙ e))

pub nothing_far : (w : ℕ) (h g : HeapState) → ScansNothing w h → GoesFar (IsScan w) 1 h g → ⊥
nothing_far w h g none k = by_entries k.goes.entries k.many k.goes.each k.goes.runs.steps
  where
    by_step : (actor : Actor) (step : Step) (x : HeapState × Answer) → IsScan w actor step
        → outcome h actor step ≡ Ok x → ⊥
    by_step (Thread t) step x is ok = absurd is
    by_step (Worker v) step x is ok =
        true≢false (sym (ap is_ok (subst (λ (u : ℕ). outcome h (Worker u) step ≡ Ok x) is.0 ok)) ∙ none step is.1)

    by_entries : (es : List Entry) → 1 ≤ length es → EachIs (IsScan w) es → Leads h es g → ⊥
    by_entries [] l each leads = absurd (omega (arith, l))
    by_entries (e ∷ es) l each leads = by_step e.actor e.step (leads.0, e.answer) each.0 leads.1

pub nothing_scanned : (w : ℕ) (h g : HeapState) (r : Result Bool Refusal) (b : Bool) → ScansNothing w h → r ≡ Ok b
    → b ≡ false → ScansFar w 1 h r g → ⊥
nothing_scanned w h g r b none is no_more far =
    let k : GoesBy (IsScan w) 1 h g =
    subst (λ (q : Result Bool Refusal). ScansFar w 1 h q g) (is ∙ ap Ok no_more) far in
    let many = k.many in
    nothing_far w h g none (record { goes = k.goes; many = omega (arith, many) })

-- ---- from one part to the next

pub then_more : (w : ℕ) (h m g : HeapState) → ScansField w h m → Goes (IsDrain w) m g → Prepares w h true g
then_more w h m g f k = far_before (IsDrain w) 1 h m g f.goes k

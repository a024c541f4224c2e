-- Collections, from one part to the next.
use Rattle.std.proofs.Common.{◌≡◌, ◌≢◌, ◌⊎◌, ◌∙◌, ℕ, zero, suc, ◌+◌, ◌-◌, ◌<◌, ◌≤◌, Bool, true, false, cond, List, []}
use Rattle.std.proofs.Common.{◌∷◌, length, nat_eq, Option, Some, None, refl, sym, subst, ap, inl, inr, arith, ne_eqb}
use Rattle.std.specs.Prelude.{Result, Ok, Err, ◌||◌}
use Rattle.std.specs.List.{slice_get}
use Rattle.std.proofs.lemmas.Bool.{cases_eq, cases_lt}
use Rattle.std.proofs.lemmas.Bool.Decides.{nat_tests}
use Rattle.std.proofs.lemmas.Option.{slice_get_within}
use Rattle.choosing.specs.Choices.{IsChoice, all_words, words_on}
use Rattle.model.specs.declared.records.Page.{Page}
use Rattle.model.specs.declared.records.Phase.TheVariants.{Idle}
use Rattle.model.specs.declared.steps.Actor.TheVariants.{Worker}
use Rattle.model.specs.declared.steps.Answer.{Answer}
use Rattle.model.specs.declared.steps.Step.TheVariants as steps
use Rattle.model.specs.declared.steps.Refusal.{Refusal}
use Rattle.model.specs.declared.steps.Refusal.TheVariants as refusals
use Rattle.model.specs.Cycles.{end_mark, end_mark_outcome, none_pending, first_pending, has_todo}
use Rattle.model.specs.Outcome.{outcome, worker_gate}
use Rattle.model.specs.Owning.{IsStore}
use Rattle.model.specs.Phases.{is_crossing, is_marking}
use Rattle.model.specs.Scans.{may_scan}
use Rattle.model.specs.States.{HeapState}
use Rattle.model.specs.Stores.{page_at, record_count, state_at, state_in, is_from}
use Rattle.refinement.proofs.Accepted.{OnAccepted, of_accepted, on_bind, on_unless}
use Rattle.managed.specs.Collecting.{IsCollecting, StandsUnseen, EndsCrossing, EndsMark, EndsRest}
use Rattle.managed.specs.Emptying.{EndsPage, EndsEmptying}
use Rattle.managed.specs.Scrubbing.{needs_no_scrub}
use Rattle.managed.proofs.Emptied.{emptying_goes}
use Rattle.managed.proofs.Going.{goes_none, goes_then}
use Rattle.managed.proofs.Gathering.{collected, crossing_goes, mark_goes, rest_goes}
use Rattle.managed.proofs.Sequences.{step_outcome, then_goes, then_more}
use Rattle.collecting.specs.declared.collecting.Collected.{Collected}
use Rattle.collecting.specs.Collections.{SettlesAndMarks, MarksAndEmpties, EndsCollecting, EndsChoosing}
use Rattle.collecting.specs.Collections.{WORKER, Collects, EndsLeft, EndsLeftPages, EndsSettling, EndsDue, has_from}
use Rattle.collecting.specs.Collections.{EndsDueMark, EmptiesChosen, EndsChosen, EndsChoice, ChoosesAndEmpties}

pub none : (h : HeapState) → Collects h h
none h = goes_none (IsCollecting WORKER) h

pub and_then : (h m g : HeapState) → Collects h m → Collects m g → Collects h g
and_then h m g a b = goes_then (IsCollecting WORKER) h m g a b

pub unseen : (h g : HeapState) → Collects h g → StandsUnseen h g
unseen h g a = collected WORKER h g a

-- ---- what is left of an earlier one

pub left_page : (h g : HeapState) (n : ℕ) (r : Result Unit Refusal) → is_crossing h.phase ≡ false
    → is_from (state_at h.store n) ≡ true → EndsPage WORKER h n r g → EndsLeft h n r g
left_page h g n (Ok u) phase from k = record {
  goes = k.goes;
  page = ap is_from k.gone;
  others = λ m e. by_place m e (cases_eq m n);
  count = k.count;
  phase = k.phase;
}
  where
    by_place : (m : ℕ) → is_from (state_at h.store m) ≡ false → (m ≡ n) ⊎ (m ≢ n)
        → is_from (state_at g.store m) ≡ false
    by_place m e (inl same) = ap (λ (i : ℕ). is_from (state_at g.store i)) same ∙ ap is_from k.gone
    by_place m e (inr d) = ap is_from (k.others m d) ∙ e
left_page h g n (Err e) phase from k = (k.0, (record { phase = phase; from = from }, k.1))

pub left_none : (h : HeapState) (n : ℕ) → is_from (state_at h.store n) ≡ false → EndsLeft h n (Ok tt) h
left_none h n e = record { goes = none h; page = e; others = λ m k. k; count = refl; phase = refl }

-- the first n pages aren't being emptied
pub record LeftPages (h : HeapState) (n : ℕ) (g : HeapState) : Type 0 where
  pub goes : Collects h g
  pub pages : (m : ℕ) → m ≤ n → is_from (state_at g.store m) ≡ false
  pub count : g.store.count ≡ h.store.count
  pub phase : g.phase ≡ h.phase

pub left_first : (h : HeapState) → LeftPages h 0 h
unfolding state_at page_at
left_first h = record { goes = none h; pages = by_number; count = refl; phase = refl }
  where
    by_number : (m : ℕ) → m ≤ 0 → is_from (state_in (cond (nat_eq m 0) None (slice_get h.store.pages (m - 1)))) ≡ false
    by_number zero l = refl
    by_number (suc m) l = absurd (omega (arith, l))

pub left_more : (h m g : HeapState) (n : ℕ) (r : Result Unit Refusal) (u : Unit {0}) → r ≡ Ok u → LeftPages h n m
    → EndsLeft m (n + 1) r g → LeftPages h (n + 1) g
left_more h m g n (Err e) u is a b = absurd (cc)
left_more h m g n (Ok v) u is a b = record {
  goes = and_then h m g a.goes b.goes;
  pages = λ i l. by_place i l (cases_lt i (n + 1));
  count = b.count ∙ a.count;
  phase = b.phase ∙ a.phase;
}
  where
    by_place : (i : ℕ) → i ≤ n + 1 → (i < n + 1) ⊎ (n + 1 ≤ i) → is_from (state_at g.store i) ≡ false
    by_place i l (inl low) = b.others i (a.pages i (omega (arith, low)))
    by_place i l (inr high) =
        let here : n + 1 ≡ i = omega (arith, l, high) in
        subst (λ (x : ℕ). is_from (state_at g.store x) ≡ false) here b.page

pub left_stops : (h m g : HeapState) (n i : ℕ) (r : Result Unit Refusal) (e : Refusal) → r ≡ Err e → LeftPages h i m
    → EndsLeft m n r g → EndsLeftPages h (Err e) g
left_stops h m g n i r e is a b =
    let k : EndsLeft m n (Err e) g = subst (λ (x : Result Unit Refusal). EndsLeft m n x g) is b in
    (and_then h m g a.goes k.0, (m, n, a.goes, k.1))

none_from : (ps : List Page) → ((j : ℕ) (p : Page) → slice_get ps j ≡ Some p → is_from p.state ≡ false)
    → has_from ps ≡ false
none_from [] k = refl
none_from (p ∷ ps) k =
    ap (λ (b : Bool). b || has_from ps) (k zero p refl) ∙ none_from ps (λ j q e. k (suc j) q e)

few_records : (frames count : ℕ) → record_count frames count ≤ count
few_records frames count = grind (arith, nat_tests)

-- none of the first n pages is being emptied
pub left_all : (h g : HeapState) (n : ℕ) → IsStore g.store → is_crossing h.phase ≡ false → h.store.count ≤ n
    → LeftPages h n g → EndsLeftPages h (Ok tt) g
unfolding state_at page_at
left_all h g n s phase l k = (
  k.goes,
  record { phase = ap is_crossing k.phase ∙ phase; pages = none_from g.store.pages each },
)
  where
    few : length g.store.pages ≤ g.store.count
    few = subst (λ (n : ℕ). n ≤ g.store.count) (sym s.sized.pages)
        (few_records (length g.store.frames) g.store.count)

    count : g.store.count ≡ h.store.count
    count = k.count

    each : (j : ℕ) (p : Page) → slice_get g.store.pages j ≡ Some p → is_from p.state ≡ false
    each j p e =
        let within : j < length g.store.pages = slice_get_within g.store.pages j p e in
        let before : j + 1 - 1 ≡ j = omega arith in
        let test : nat_eq (j + 1) 0 ≡ false = ne_eqb (j + 1) 0 (λ z. absurd (omega (arith, z))) in
        ap (λ (o : Option Page). is_from (state_in o)) (sym e ∙ ap (slice_get g.store.pages) (sym before)
        ∙ ap (λ (b : Bool). cond b None (slice_get g.store.pages (j + 1 - 1))) (sym test))
        ∙ k.pages (j + 1) (omega (arith, within, few, count, l))

-- ---- the mark that is due

pub due_rest : (h g : HeapState) (r : Result ℕ Refusal) → is_marking h.phase ≡ true → EndsRest WORKER h r g
    → EndsDueMark h r g
due_rest h g r is k = subst (λ (b : Bool). EndsDue b h r g) (sym is) k

pub due_mark : (h g : HeapState) (r : Result ℕ Refusal) → is_marking h.phase ≡ false → EndsMark WORKER h r g
    → EndsDueMark h r g
due_mark h g r is k = subst (λ (b : Bool). EndsDue b h r g) (sym is) k

-- ---- chosen pages

-- pages that aren't none
chosen_some : (h g : HeapState) (ns : List ℕ) (k : ℕ) (r : Result Unit Refusal) → k ≡ length ns → k ≢ 0
    → EndsEmptying WORKER h ns r g → EmptiesChosen h ns r g
chosen_some h g [] k r many some a = absurd (some many)
chosen_some h g (n ∷ ns) k r many some a = a

pub chosen_ends : (h g : HeapState) (ns : List ℕ) (k : ℕ) (r : Result Unit Refusal) (u : Unit {0}) → r ≡ Ok u
    → k ≡ length ns → k ≢ 0 → EndsEmptying WORKER h ns r g → EndsChosen h ns (Ok k) g
chosen_ends h g ns k r u is many some a =
    (many, subst (λ (x : Result Unit Refusal). EmptiesChosen h ns x g) is (chosen_some h g ns k r many some a))

pub chosen_stops : (h g : HeapState) (ns : List ℕ) (k : ℕ) (r : Result Unit Refusal) (e : Refusal) → r ≡ Err e
    → k ≡ length ns → k ≢ 0 → EndsEmptying WORKER h ns r g → EndsChosen h ns (Err e) g
chosen_stops h g ns k r e is many some a =
    subst (λ (x : Result Unit Refusal). EmptiesChosen h ns x g) is (chosen_some h g ns k r many some a)

pub choice_ends : (live live_words copied k : ℕ) (h g : HeapState) (ns : List ℕ) (r : Result ℕ Refusal) → r ≡ Ok k
    → EndsChosen h ns r g → EndsChoice live live_words copied h ns
    (Ok (record { live = live; live_words = live_words; emptied = k; copied = copied })) g
choice_ends live live_words copied k h g ns r is b =
    (refl, refl, refl, subst (λ (x : Result ℕ Refusal). EndsChosen h ns x g) is b)

pub choice_stops : (live live_words copied : ℕ) (h g : HeapState) (ns : List ℕ) (r : Result ℕ Refusal) (e : Refusal)
    → r ≡ Err e → EndsChosen h ns r g → EndsChoice live live_words copied h ns (Err e) g
choice_stops live live_words copied h g ns r e is b = subst (λ (x : Result ℕ Refusal). EndsChosen h ns x g) is b

pub sparse_ends : (percent live live_words copied : ℕ) (h g : HeapState) (ns : List ℕ) (r : Result Collected Refusal)
    → IsChoice h percent ns → copied ≡ words_on h ns → live_words ≡ all_words h
    → EndsChoice live live_words copied h ns r g → ChoosesAndEmpties percent live h r g
sparse_ends percent live live_words copied h g ns r c moved all b = then_more (EndsChoosing percent)
    (λ (ns : List ℕ) (m : HeapState). EndsChoice live (all_words m) (words_on m ns) m ns) h h g (Ok ns) ns r refl
    (c, refl)
    (subst (λ (n : ℕ). EndsChoice live n (words_on h ns) h ns r g) all
    (subst (λ (n : ℕ). EndsChoice live live_words n h ns r g) moved b))

pub sparse_lacks : (percent live : ℕ) (h : HeapState) → ChoosesAndEmpties percent live h (Err refusals.Memory) h
sparse_lacks percent live h = inl (refl, refl)

-- ---- the steps of all of it

-- nothing was done
same_goes : (h g : HeapState) → g ≡ h → Collects h g
same_goes h g e = subst (Collects h) (sym e) (none h)

left_goes : (h g : HeapState) (r : Result Unit Refusal) → EndsLeftPages h r g → Collects h g
left_goes h g (Ok u) k = k.0
left_goes h g (Err e) k = k.0

settling_goes : (h g : HeapState) (r : Result Unit Refusal) → EndsSettling h r g → Collects h g
settling_goes h g r k = then_goes (EndsCrossing WORKER) (λ (u : Unit {0}). EndsLeftPages) (IsCollecting WORKER)
    (crossing_goes WORKER) (λ u. left_goes) h g r k

due_goes : (h g : HeapState) (r : Result ℕ Refusal) → EndsDueMark h r g → Collects h g
due_goes h g r k = by_test (is_marking h.phase) k
  where
    by_test : (b : Bool) → EndsDue b h r g → Collects h g
    by_test true k = rest_goes WORKER h g r k
    by_test false k = mark_goes WORKER h g r k

chosen_goes : (ns : List ℕ) (h g : HeapState) (r : Result Unit Refusal) → EmptiesChosen h ns r g → Collects h g
chosen_goes [] h g r k = same_goes h g k.1
chosen_goes (n ∷ ns) h g r k = emptying_goes WORKER (n ∷ ns) h g r k

choosing_goes : (percent : ℕ) (h g : HeapState) (r : Result (List ℕ) Refusal) → EndsChoosing percent h r g
    → Collects h g
choosing_goes percent h g (Ok ns) k = same_goes h g k.1
choosing_goes percent h g (Err e) k = same_goes h g k.1

choice_goes : (live live_words copied : ℕ) (ns : List ℕ) (h g : HeapState) (r : Result Collected Refusal)
    → EndsChoice live live_words copied h ns r g → Collects h g
choice_goes live live_words copied ns h g (Ok r) k = chosen_goes ns h g (Ok tt) k.3.1
choice_goes live live_words copied ns h g (Err e) k = chosen_goes ns h g (Err e) k

sparse_goes : (percent live : ℕ) (h g : HeapState) (r : Result Collected Refusal) → ChoosesAndEmpties percent live h r g
    → Collects h g
sparse_goes percent live h g r k = then_goes (EndsChoosing percent)
    (λ (ns : List ℕ) (m : HeapState). EndsChoice live (all_words m) (words_on m ns) m ns) (IsCollecting WORKER)
    (choosing_goes percent) (λ ns m. choice_goes live (all_words m) (words_on m ns) ns m) h g r k

cycle_goes : (percent : ℕ) (h g : HeapState) (r : Result Collected Refusal) → MarksAndEmpties percent h r g
    → Collects h g
cycle_goes percent h g r k = then_goes EndsDueMark (ChoosesAndEmpties percent) (IsCollecting WORKER) due_goes
    (sparse_goes percent) h g r k

pub collecting_goes : (percent : ℕ) (h g : HeapState) (r : Result Collected Refusal) → EndsCollecting percent h r g
    → Collects h g
collecting_goes percent h g r k = then_goes EndsSettling (λ (u : Unit {0}). MarksAndEmpties percent)
    (IsCollecting WORKER) settling_goes (λ u. cycle_goes percent) h g r k

pub marking_goes : (h g : HeapState) (r : Result ℕ Refusal) → SettlesAndMarks h r g → Collects h g
marking_goes h g r k = then_goes EndsSettling (λ (u : Unit {0}). EndsDueMark) (IsCollecting WORKER) settling_goes
    (λ u. due_goes) h g r k

-- a collection whose mark failed has failed
pub marking_stops : (percent : ℕ) (h g : HeapState) (e : Refusal) → SettlesAndMarks h (Err e) g
    → EndsCollecting percent h (Err e) g
marking_stops percent h g e (inl k) = inl k
marking_stops percent h g e (inr k) = inr (k.0, k.1, k.2, inl k.3)

-- ---- registers

-- a mark that has ended leaves no page protected
ended : (h : HeapState) (w : ℕ)
    → OnAccepted (λ (z : HeapState × Answer). z.0.phase ≡ Idle) (outcome h (Worker w) steps.EndMark)
unfolding outcome end_mark_outcome end_mark
ended h w = on_bind (worker_gate h w steps.EndMark) _ _ (λ u e. on_bind (may_scan h) _ _ (λ v f.
    on_unless (has_todo h) _ _ _ (λ x. on_bind (none_pending (first_pending h.threads)) _ _ (λ y k. refl))))

ended_rest : (h g : HeapState) (live : ℕ) → EndsRest WORKER h (Ok live) g → g.phase ≡ Idle
ended_rest h g live k =
    let m = k.3.0 in
    let well = k.3.3 in
    of_accepted (λ (z : HeapState × Answer). z.0.phase ≡ Idle) (outcome m (Worker WORKER) steps.EndMark)
    (g, well.answer) (ended m WORKER) (step_outcome (Worker WORKER) steps.EndMark well.answer m g well.last)

ended_due : (b : Bool) (h g : HeapState) (live : ℕ) → EndsDue b h (Ok live) g → g.phase ≡ Idle
ended_due true h g live k = ended_rest h g live k
ended_due false h g live k = ended_rest k.0 g live k.3

pub due_calm : (h g : HeapState) (r : Result ℕ Refusal) (live : ℕ) → r ≡ Ok live → EndsDueMark h r g
    → needs_no_scrub g.phase ≡ true
due_calm h g r live is k = ap needs_no_scrub (ended_due (is_marking h.phase) h g live
    (subst (λ (x : Result ℕ Refusal). EndsDueMark h x g) is k))

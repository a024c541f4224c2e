-- Several data words of an object by one call.
use Rattle.std.proofs.Common.{◌≡◌, ◌≢◌, ◌∙◌, ◌+◌, ◌-◌, ◌<◌, ◌≤◌, ℕ, zero, suc, Bool, true, false, List, [], ◌∷◌, length}
use Rattle.std.proofs.Common.{Some, None, refl, sym, ap, subst, arith, take, get_or}
use Rattle.std.specs.Prelude.{Ok, Err, slice_get, nat_lt}
use Rattle.std.proofs.lemmas.Bool.Decides.{nat_tests}
use Rattle.layout.specs.declared.shape.Layout.{Layout}
use Rattle.model.specs.Data.{layout_at, datum_at, datum_outcome, set_datum_outcome}
use Rattle.model.specs.Outcome.{no_register, outcome, thread_gate, Passes}
use Rattle.model.specs.Registers.{usable}
use Rattle.model.specs.States.{HeapState}
use Rattle.model.specs.Stores.{with_word, word_at}
use Rattle.model.specs.declared.steps.Actor.TheVariants.{Thread}
use Rattle.model.specs.declared.steps.Answer.TheVariants as answers
use Rattle.model.specs.declared.steps.Refusal.{Refusal}
use Rattle.model.specs.declared.steps.Refusal.TheVariants as refusals
use Rattle.model.specs.declared.steps.Step.TheVariants as steps
use Rattle.std.proofs.Common.{set, inl, inr}
use Rattle.std.proofs.lemmas.Bool.{cases_eq}
use Rattle.std.proofs.lemmas.List.{take_all}
use Rattle.std.proofs.lemmas.Option.{slice_get_within}
use Rattle.model.proofs.Lists.{get_set_other, get_set_same, get_within}
use Rattle.model.specs.Data.{layout_in, header_layout}
use Rattle.model.specs.Holding.{IsHeap}
use Rattle.model.specs.Owning.{IsStore}
use Rattle.model.specs.Registers.{let_through, register_of}
use Rattle.model.specs.Stores.{StoreState, page_at, state_at, with_words}
use Rattle.page.proofs.Usable.{usable_set_keeps}
use Rattle.heap.proofs.Frames.{written_keeps}
use Rattle.fast_paths.proofs.AtOnce.{datum_there}
use Rattle.refinement.specs.Standing.{StepsHold, MarksFind, PhasesMove}
use Rattle.refinement.specs.Tallies.{StepsCount}
use Rattle.page.proofs.Untouched.{word_stays}
use Rattle.cycle.proofs.Replaying.{accepted_stands}
use Rattle.managed.specs.Runs.{Runs}
use Rattle.managed.specs.declared.data.Run.{Run}
use Rattle.managed.specs.Data.{IsRun, LacksDatum, LacksRun, ReadsEach, ReadsRun, set_entries, with_data}
use Rattle.managed.proofs.Running.{entry, runs_none, runs_one, runs_then}

-- ---- what can't be read or written

-- the tests before the rows are the same for all data words of an object
gate_read : (h : HeapState) (t object j k : ℕ)
    → thread_gate h t (steps.Datum object k) ≡ thread_gate h t (steps.Datum object j)
unfolding thread_gate
gate_read h t object j k = refl

gate_written : (h : HeapState) (t object j k v : ℕ)
    → thread_gate h t (steps.SetDatum object k v) ≡ thread_gate h t (steps.Datum object j)
unfolding thread_gate
gate_written h t object j k v = refl

module _ (h : HeapState) (t object j count : ℕ) (some : 0 < count) where
  pub gate_refuses : (e : Refusal) → thread_gate h t (steps.Datum object j) ≡ Err e → LacksRun h t object j count e
  unfolding outcome
  gate_refuses e is = (
    0,
    some,
    rw (gate_read h t object j (j + 0), is) refl,
    λ v. rw (gate_written h t object j (j + 0) v, is) refl,
  )

  module _ (gate : Passes h t (steps.Datum object j)) where
    pub register_refuses : (e : Refusal) → usable h t object ≡ Err e → LacksRun h t object j count e
    unfolding outcome datum_outcome set_datum_outcome
    register_refuses e is = (
      0,
      some,
      rw (gate_read h t object j (j + 0), gate, is) refl,
      λ v. rw (gate_written h t object j (j + 0) v, gate, is) refl,
    )

    -- a data word that isn't there
    word_refused : (a i : ℕ) → i < count → usable h t object ≡ Ok a → datum_at h a (j + i) ≡ None
        → LacksRun h t object j count refusals.BadIndex
    unfolding outcome datum_outcome set_datum_outcome
    word_refused a i low found none = (
      i,
      low,
      rw (gate_read h t object j (j + i), gate, found, none) refl,
      λ v. rw (gate_written h t object j (j + i) v, gate, found, none) refl,
    )

    no_layout : (a k : ℕ) → layout_at h a ≡ None → datum_at h a k ≡ None
    unfolding datum_at
    no_layout a k none = rw none refl

    pub layout_refuses : (a : ℕ) → usable h t object ≡ Ok a → layout_at h a ≡ None
        → LacksRun h t object j count refusals.BadIndex
    layout_refuses a found none = word_refused a 0 some found (no_layout a (j + 0) none)

    past_end : (a k : ℕ) (l : Layout) → layout_at h a ≡ Some l → l.nums ≤ k → datum_at h a k ≡ None
    unfolding datum_at
    past_end a k l at past = let e : nat_lt k l.nums ≡ false = grind (arith, nat_tests) in rw (at, e) refl

    pub size_refuses : (a : ℕ) (l : Layout) → usable h t object ≡ Ok a → layout_at h a ≡ Some l → l.nums < j + count
        → LacksRun h t object j count refusals.BadIndex
    size_refuses a l found at many = by_first (nat_lt j l.nums) refl
      where
        by_first : (b : Bool) → nat_lt j l.nums ≡ b → LacksRun h t object j count refusals.BadIndex
        by_first true e =
            let low : j < l.nums = grind (arith, nat_tests) in
            word_refused a (l.nums - j) (omega (arith, low, many)) found
            (past_end a (j + (l.nums - j)) l at (omega (arith, low)))
        by_first false e =
            let past : l.nums ≤ j = grind (arith, nat_tests) in
            word_refused a 0 some found (past_end a (j + 0) l at (omega (arith, past)))

-- ---- what is read

-- the step reads what stands there
read_there : (h : HeapState) (t object j a v : ℕ) (place : ℕ) → Passes h t (steps.Datum object j)
    → usable h t object ≡ Ok a → datum_at h a j ≡ Some place → word_at h.store place ≡ Some v
    → outcome h (Thread t) (steps.Datum object j) ≡ Ok (h, answers.Datum v)
unfolding outcome datum_outcome
read_there h t object j a v place gate found at word = rw (gate, found, at, word) refl

-- and is refused where nothing stands there
pub unread_there : (h : HeapState) (t object j a : ℕ) (place : ℕ) → Passes h t (steps.Datum object j)
    → usable h t object ≡ Ok a → datum_at h a j ≡ Some place → word_at h.store place ≡ None
    → outcome h (Thread t) (steps.Datum object j) ≡ Err refusals.BadIndex
unfolding outcome datum_outcome
unread_there h t object j a place gate found at none = rw (gate, found, at, none) refl

-- where data word i of a run stands
pub place_in : (h : HeapState) (t object j count : ℕ) (r : Run) (i : ℕ) → IsRun h t object j count r → i < count
    → datum_at h r.address (j + i) ≡ Some (r.address + r.ahead + i)
place_in h t object j count r i k low =
    datum_there h r.address (j + i) k.shape.refs (j + i) k.shape k.at (omega (arith, low, k.fits)) refl refl
    ∙ ap Some (omega (arith, k.ahead))

pub gate_in : (h : HeapState) (t object j k : ℕ) → Passes h t (steps.Datum object j) → Passes h t (steps.Datum object k)
gate_in h t object j k gate = gate_read h t object j k ∙ gate

pub run_read : (h : HeapState) (t object j : ℕ) (r : Run) (values : List ℕ) (count : ℕ)
    → IsRun h t object j count r → length values ≡ count → ReadsRun h.store (r.address + r.ahead) values true
    → ReadsEach h t object j values
run_read h t object j r values count k long words i v at =
    let low : i < count = omega (arith, slice_get_within values i v at, long) in
    read_there h t object (j + i) r.address v _ (gate_in h t object j (j + i) k.gate) k.usable
    (place_in h t object j count r i k low) (words i v at)

pub run_unread : (h : HeapState) (t object j : ℕ) (r : Run) (values : List ℕ) (count : ℕ)
    → IsRun h t object j count r → length values ≡ count → ReadsRun h.store (r.address + r.ahead) values false
    → LacksDatum h t object j (length values) refusals.BadIndex
run_unread h t object j r values count k long lacks =
    let i = lacks.0 in (
      i,
      lacks.1,
      unread_there h t object (j + i) r.address _ (gate_in h t object j (j + i) k.gate) k.usable
          (place_in h t object j count r i k (omega (arith, lacks.1, long))) lacks.2,
    )

-- ---- what is written

-- the step writes there
set_there : (h : HeapState) (t object j a v : ℕ) (place : ℕ) → Passes h t (steps.Datum object j)
    → usable h t object ≡ Ok a → datum_at h a j ≡ Some place
    → outcome h (Thread t) (steps.SetDatum object j v)
    ≡ Ok (record h { store = with_word h.store place v }, answers.Done)
unfolding outcome set_datum_outcome
set_there h t object j a v place gate found at = rw (gate_written h t object j j v, gate, found, at) refl

usable_stays : (h : HeapState) (t object place v : ℕ)
    → usable (record h { store = with_word h.store place v }) t object ≡ usable h t object
unfolding usable let_through register_of with_word with_words state_at page_at
usable_stays h t object place v = refl

gate_stays : (h : HeapState) (t object j place v : ℕ)
    → thread_gate (record h { store = with_word h.store place v }) t (steps.Datum object j)
    ≡ thread_gate h t (steps.Datum object j)
unfolding thread_gate no_register
gate_stays h t object j place v = refl

layout_stays : (h : HeapState) (a place v : ℕ) → IsStore h.store → a ≢ place
    → layout_at (record h { store = with_word h.store place v }) a ≡ layout_at h a
unfolding layout_at
layout_stays h a place v s apart = ap (λ o. layout_in h.config.layouts (header_layout o)) (word_stays h.store a place v s apart)

run_stays : (h : HeapState) (t object j count : ℕ) (r : Run) (v : ℕ) → IsStore h.store
    → IsRun h t object j (suc count) r
    → IsRun (record h { store = with_word h.store (r.address + r.ahead) v }) t object (j + 1) count
    (record r { ahead = r.ahead + 1 })
run_stays h t object j count r v s k = record {
  gate = gate_stays h t object (j + 1) (r.address + r.ahead) v ∙ gate_in h t object j (j + 1) k.gate;
  usable = usable_stays h t object (r.address + r.ahead) v ∙ k.usable;
  shape = k.shape;
  at = layout_stays h r.address (r.address + r.ahead) v s (λ e. omega (arith, k.ahead, e)) ∙ k.at;
  fits = omega (arith, k.fits);
  ahead = omega (arith, k.ahead);
  near = omega (arith, k.near);
}

pub run_written : (h : HeapState) (t object j : ℕ) (r : Run) (values : List ℕ) → IsStore h.store → IsHeap h → StepsHold
    → MarksFind → PhasesMove → StepsCount → IsRun h t object j (length values) r
    → Runs h (set_entries t object j values) (with_data h (r.address + r.ahead) values)
run_written h t object j r [] s d hold find move count k = runs_none h
run_written h t object j r (v ∷ vs) s d hold find move count k =
    let place = r.address + r.ahead in
    let g : HeapState = record h { store = with_word h.store place v } in
    let at : datum_at h r.address j ≡ Some place =
    ap (datum_at h r.address) (omega arith) ∙ place_in h t object j (suc (length vs)) r 0 k (omega arith)
    ∙ ap Some (omega arith) in
    let is = set_there h t object j r.address v place k.gate k.usable at in
    let one = runs_one h g (Thread t) (steps.SetDatum object j v) answers.Done is
    (accepted_stands h g (Thread t) (steps.SetDatum object j v) answers.Done is s d hold find move count) in
    let rest = run_written g t object (j + 1) (record r { ahead = r.ahead + 1 }) vs
    (usable_set_keeps h.store place v true s) (written_keeps h (with_word h.store place v) place v true d refl)
    hold find move count (run_stays h t object j (length vs) r v s k) in
    let next : r.address + (r.ahead + 1) ≡ place + 1 = omega arith in
    runs_then h g (with_data g (place + 1) vs) (entry (Thread t) (steps.SetDatum object j v) answers.Done ∷ [])
    (set_entries t object (j + 1) vs) one
    (subst (λ (p : ℕ). Runs g (set_entries t object (j + 1) vs) (with_data g p vs)) next rest)

-- ---- the loops

-- words that were written, and one more behind them
pub data_more : (h : HeapState) (place : ℕ) (values : List ℕ) (n d : ℕ) → n < length values
    → record (with_data h place (take n values)) { store = with_word (with_data h place (take n values)).store (place + n) (get_or values n d) }
    ≡ with_data h place (take (n + 1) values)
data_more h place [] n d low = absurd (omega (arith, low))
data_more h place (v ∷ vs) zero d low =
    ap (λ (p : ℕ). record h { store = with_word h.store p v }) (omega arith)
data_more h place (v ∷ vs) (suc n) d low =
    let m : HeapState = record h { store = with_word h.store place v } in
    ap (λ (p : ℕ). record (with_data m (place + 1) (take n vs)) { store = with_word (with_data m (place + 1) (take n vs)).store p (get_or vs n d) }) (omega arith)
    ∙ data_more m (place + 1) vs n d (omega (arith, low))
    ∙ ap (λ (k : ℕ). with_data h place (take k (v ∷ vs))) (longer n)
  where
    longer : (k : ℕ) → suc (k + 1) ≡ suc k + 1
    longer k = omega arith

-- words that were written so far, and all of them
pub data_next : (h m k : HeapState) (a ahead place : ℕ) (values : List ℕ) (n d : ℕ) → n < length values
    → m ≡ with_data h (a + ahead) (take n values) → place ≡ a + (ahead + n)
    → k ≡ record m { store = with_word m.store place (get_or values n d) }
    → k ≡ with_data h (a + ahead) (take (n + 1) values)
data_next h m k a ahead place values n d low is at e =
    e ∙ ap (λ (x : HeapState). record x { store = with_word x.store place (get_or values n d) }) is
    ∙ ap (λ (p : ℕ). record (with_data h (a + ahead) (take n values)) {
      store = with_word (with_data h (a + ahead) (take n values)).store p (get_or values n d);
    }) (at ∙ omega arith)
    ∙ data_more h (a + ahead) values n d low

pub data_all : (h m : HeapState) (place n : ℕ) (values : List ℕ) → length values ≤ n
    → m ≡ with_data h place (take n values) → m ≡ with_data h place values
data_all h m place n values past is = is ∙ ap (with_data h place) (take_all n values past)

-- words that were read so far
abbrev pub ReadsBelow : StoreState → ℕ → ℕ → List ℕ → Type 0
ReadsBelow s place n values =
    (i v : ℕ) → i < n → slice_get values i ≡ Some v → word_at s (place + i) ≡ Some v

pub read_more : (s : StoreState) (a ahead w n : ℕ) (values : List ℕ) → n < length values
    → ReadsBelow s (a + ahead) n values → word_at s (a + (ahead + n)) ≡ Some w
    → ReadsBelow s (a + ahead) (n + 1) (set values n w)
read_more s a ahead w n values low below word i v near at = elim (cases_eq i n) [
  | inl same ↦
      let (x, there) = get_within values n low in
      let here : slice_get (set values n w) i ≡ Some w =
      ap (slice_get (set values n w)) same ∙ get_set_same values n x w there in
      let is : Some w ≡ Some v = sym here ∙ at in
      ap (word_at s) (ap (λ k. a + ahead + k) same ∙ omega arith) ∙ word ∙ is
  | inr apart ↦ below i v (omega (arith, near, apart)) (sym (get_set_other values n i w apart) ∙ at)
]

pub read_all : (s : StoreState) (place n : ℕ) (values : List ℕ) → length values ≤ n → ReadsBelow s place n values
    → ReadsRun s place values true
read_all s place n values past below i v at = below i v (omega (arith, slice_get_within values i v at, past)) at

pub read_none : (s : StoreState) (a ahead n : ℕ) (values : List ℕ) → n < length values
    → word_at s (a + (ahead + n)) ≡ None → ReadsRun s (a + ahead) values false
read_none s a ahead n values low none = (n, low, ap (word_at s) (omega arith) ∙ none)

-- ---- the calls

pub many_read : (h g : HeapState) (t object j : ℕ) (r : Run) (values : List ℕ) (count : ℕ) (b : Bool) → h ≡ g
    → IsRun h t object j count r → length values ≡ count → ReadsRun h.store (r.address + r.ahead) values b → b ≡ true
    → ReadsEach g t object j values
many_read h g t object j r values count b same k long words is =
    subst (λ (x : HeapState). ReadsEach x t object j values) same
    (run_read h t object j r values count k long
    (subst (ReadsRun h.store (r.address + r.ahead) values) is words))

pub many_unread : (h g : HeapState) (t object j : ℕ) (r : Run) (values : List ℕ) (count : ℕ) (b : Bool) → h ≡ g
    → IsRun h t object j count r → length values ≡ count → ReadsRun h.store (r.address + r.ahead) values b → b ≡ false
    → LacksDatum g t object j (length values) refusals.BadIndex
many_unread h g t object j r values count b same k long words is =
    subst (λ (x : HeapState). LacksDatum x t object j (length values) refusals.BadIndex) same
    (run_unread h t object j r values count k long
    (subst (ReadsRun h.store (r.address + r.ahead) values) is words))

pub many_written : (h m g : HeapState) (t object j : ℕ) (r : Run) (values : List ℕ) → h ≡ m → IsStore h.store
    → IsHeap h → StepsHold → MarksFind → PhasesMove → StepsCount → IsRun h t object j (length values) r
    → g ≡ with_data h (r.address + r.ahead) values → Runs m (set_entries t object j values) g
many_written h m g t object j r values same s d hold find move count k is =
    subst (λ (x : HeapState). Runs x (set_entries t object j values) g) same
    (subst (Runs h (set_entries t object j values)) (sym is)
    (run_written h t object j r values s d hold find move count k))

-- Runs of many pages, which are copied at once, are copied page by page.
use Rattle.std.proofs.Common.{◌≡◌, ◌≢◌, ℕ, zero, suc, ◌+◌, ◌≤◌, ◌<◌, ◌||◌, Bool, true, false, List, [], ◌∷◌, ◌++◌}
use Rattle.std.proofs.Common.{length, take, get_or, set, Option, Some, None, nat_eq, nat_le, nat_lt, count_by, cond}
use Rattle.std.proofs.Common.{◌*◌, ◌/◌, ◌%◌, refl, sym, ◌∙◌, ap, subst, arith}
use Rattle.std.specs.List.{slice_get, list_any}
use Rattle.std.specs.Prelude.{Result, Ok, Err, if◌then◌else◌}
use Rattle.std.proofs.lemmas.Bool.{eqb-false, eqb-true}
use Rattle.std.proofs.lemmas.List.{append-nil, append_assoc, take_all, take_more}
use Rattle.std.proofs.lemmas.Bool.Decides.{nat_tests}
use Rattle.std.proofs.lemmas.Option.{same_Some, slice_get-get_or, slice_get_within}
use Rattle.model.specs.declared.records.Forwarding.{Forwarding}
use Rattle.model.specs.Bits.{of_page}
use Rattle.model.specs.Cycles.{is_uncopied}
use Rattle.model.specs.Emptying.{copy_page_outcome}
use Rattle.model.specs.Holding.{IsHeap}
use Rattle.model.specs.Moves.{with_copy, with_copied_words, words_from}
use Rattle.model.specs.Outcome.{no_page, outcome, worker_gate}
use Rattle.model.specs.Owning.{Each, IsStore}
use Rattle.model.specs.Protections.{has_twice, no_page_in}
use Rattle.model.specs.Refusing.{◌>>=◌}
use Rattle.model.specs.States.{HeapState}
use Rattle.model.specs.Plans.{object_words}
use Rattle.model.specs.Stores.{StoreState, with_words, words_at}
use Rattle.model.specs.declared.steps.Actor.TheVariants.{Worker}
use Rattle.model.specs.declared.steps.Answer.TheVariants as answers
use Rattle.model.specs.declared.steps.Refusal.{Refusal}
use Rattle.model.specs.declared.steps.Refusal.TheVariants as refusals
use Rattle.model.specs.declared.steps.Step.TheVariants as steps
use Rattle.model.proofs.Lists.{each_set}
use Rattle.model.proofs.Memory.{length_overlaid}
use Rattle.page.proofs.Runs.{words_keep}
use Rattle.model.specs.declared.limits.TheConstants.{MOST_WORDS}
use Rattle.page.specs.declared.targets.PageRun.{PageRun}
use Rattle.page.specs.declared.targets.Target.{Target}
use Rattle.page.specs.Filling.{runs_of}
use Rattle.heap.specs.Filling.{AreInOrder, AreRunsTo, IsAfter, IsRunTo, with_runs}
use Rattle.heap.specs.Runs.{with_entries, with_entry}
use Rattle.heap.proofs.Runs.{entries_keep}
use Rattle.relocate.specs.Many.{AddsTo, AreTiled, CopiesPages, MayCopyPage, Tiles}
use Rattle.relocate.specs.Runs.{IsRun}
use Rattle.relocate.proofs.PageCopies.{accepted, still_passes}
use Rattle.relocate.proofs.Runs.{entries_on, length_entries}

-- ---- lists

-- neither test holds, if not one does
neither : (a b : Bool) → (a || b) ≡ false → (a ≡ false) × (b ≡ false)
neither true b z = absurd (cc)
neither false b z = (refl, z)

each_both : {X : Type 0} (P : X → Type 0) (xs ys : List X) → Each xs P → Each ys P → Each (xs ++ ys) P
each_both P [] ys h k i x at = k i x at
each_both P (z ∷ xs) ys h k zero x at = h 0 x at
each_both P (z ∷ xs) ys h k (suc i) x at = each_both P xs ys (λ j y there. h (suc j) y there) k i x at

each_none : {X : Type 0} (P : X → Type 0) → Each [] P
each_none P i x at = absurd (cc)

-- each element that comes before one, and that one
pub each_more : (P : ℕ → Type 0) (ns : List ℕ) (k d : ℕ)
    → ((i n : ℕ) → i < k → slice_get ns i ≡ Some n → P n) → k < length ns → P (get_or ns k d)
    → (i n : ℕ) → i < k + 1 → slice_get ns i ≡ Some n → P n
each_more P ns k d h l p i n less at = by_test (nat_eq i k) refl
  where
    by_test : (b : Bool) → nat_eq i k ≡ b → P n
    by_test true e = subst P (same_Some _ _ (sym (slice_get-get_or ns k d l)
        ∙ ap (slice_get ns) (sym (eqb-true i k e)) ∙ at)) p
    by_test false e = h i n (grind (arith, nat_tests, less, e)) at

pub each_all : (P : ℕ → Type 0) (ns : List ℕ) (k : ℕ) → ((i n : ℕ) → i < k → slice_get ns i ≡ Some n → P n)
    → length ns ≤ k → Each ns P
each_all P ns k h l i n at = h i n (omega (arith, l, slice_get_within ns i n at)) at

one_run : {X : Type 0} (P : X → Type 0) (x : X) → P x → Each (x ∷ []) P
one_run P x h zero y at = subst P (same_Some _ _ at) h
one_run P x h (suc i) y at = absurd (cc)

-- ---- runs that follow each other

-- one more after them
tiles_more : (p e k : ℕ) (xs : List PageRun) (r : PageRun) → Tiles p e k xs → r.page ≡ p → r.first ≡ e + k
    → Tiles p e (k + r.count) (xs ++ r ∷ [])
tiles_more p e k [] r t a b =
    (0, a, (let z : r.first ≡ e = omega (arith, t, b) in z), (let y : k + r.count ≡ r.count + 0 = omega (arith, t) in y), refl)
tiles_more p e k (x ∷ xs) r (j, page, first, sum, rest) a b = (
  j + r.count,
  page,
  first,
  (let z : k + r.count ≡ x.count + (j + r.count) = omega (arith, sum) in z),
  tiles_more p (e + x.count) j xs r rest a (omega (arith, sum, b)),
)

-- they lie on the page, from their first entry on
tiles_within : (p e k : ℕ) (xs : List PageRun) → Tiles p e k xs → Each xs (λ q. (q.page ≡ p) × (e ≤ q.first))
tiles_within p e k [] t i q at = absurd (cc)
tiles_within p e k (x ∷ xs) t zero q at = let same = same_Some _ _ at in
    (ap (λ (r : PageRun). r.page) (sym same) ∙ t.1, omega (arith, t.2, ap (λ (r : PageRun). r.first) same))
tiles_within p e k (x ∷ xs) t (suc i) q at =
    let (page, low) = tiles_within p (e + x.count) t.0 xs t.4 i q at in (page, omega (arith, low))

-- copied one after another, they are copied as all entries
runs_both : (h : HeapState) (xs ys : List PageRun) → with_runs h (xs ++ ys) ≡ with_runs (with_runs h xs) ys
runs_both h [] ys = refl
runs_both h (r ∷ xs) ys = runs_both (with_entries h r.page r.first r.count) xs ys

tiles_copy : (h : HeapState) (p e k : ℕ) (xs : List PageRun) → Tiles p e k xs
    → with_runs h xs ≡ with_entries h p e k
tiles_copy h p e k [] t = ap (λ n. with_entries h p e n) (sym t)
tiles_copy h p e k (r ∷ xs) t =
    (λ i. with_runs (with_entries h (t.1 i) (t.2 i) r.count) xs)
    ∙ tiles_copy (with_entries h p e r.count) p (e + r.count) t.0 xs t.4
    ∙ sym (entries_on h p e r.count t.0) ∙ ap (λ n. with_entries h p e n) (sym t.3)

-- ---- runs of pages

-- the entries of one page more
tiled_more : (sides : List (List Forwarding)) (ps : List ℕ) (p : ℕ) (rs xs : List PageRun) → AreTiled sides ps rs
    → Tiles p 0 (length (of_page sides p)) xs → AreTiled sides (ps ++ p ∷ []) (rs ++ xs)
tiled_more sides [] p rs xs t k = (xs, [], ap (λ us. us ++ xs) t ∙ sym (append-nil xs), k, refl)
tiled_more sides (q ∷ ps) p rs xs (us, vs, is, tiles, rest) k =
    (us, vs ++ xs, ap (λ ws. ws ++ xs) is ∙ append_assoc us vs xs, tiles, tiled_more sides ps p vs xs rest k)

-- runs of other pages, if the page isn't among these
other_pages : (sides : List (List Forwarding)) (p : ℕ) (ps : List ℕ) (rs : List PageRun) → AreTiled sides ps rs
    → list_any (λ m. nat_eq m p) ps ≡ false → Each rs (λ (r : PageRun). r.page ≢ p)
other_pages sides p [] rs t none = subst (λ us. Each us (λ (r : PageRun). r.page ≢ p)) (sym t)
    (each_none (λ (r : PageRun). r.page ≢ p))
other_pages sides p (q ∷ ps) rs (us, vs, is, tiles, rest) none =
    let (here, later) = neither (nat_eq q p) (list_any (λ m. nat_eq m p) ps) none in
    subst (λ ws. Each ws (λ (r : PageRun). r.page ≢ p)) (sym is)
    (each_both (λ (r : PageRun). r.page ≢ p) us vs
    (λ i r at e. eqb-false q p here (sym (tiles_within q 0 _ us tiles i r at).0 ∙ e))
    (other_pages sides p ps vs rest later))

-- runs of a page before those of others are in order
tiles_order : (p e k : ℕ) (xs ys : List PageRun) → Tiles p e k xs → Each ys (λ (r : PageRun). r.page ≢ p)
    → AreInOrder ys → AreInOrder (xs ++ ys)
tiles_order p e k [] ys t others order = order
tiles_order p e k (r ∷ xs) ys t others order = (
  each_both (IsAfter r) xs ys
      (λ i q at same. omega (arith, (tiles_within p (e + r.count) t.0 xs t.4 i q at).1, t.2))
      (λ i q at same. absurd (others i q at (same ∙ t.1))),
  tiles_order p (e + r.count) t.0 xs ys t.4 others order,
)

pub tiled_order : (sides : List (List Forwarding)) (ps : List ℕ) (rs : List PageRun) → AreTiled sides ps rs
    → has_twice ps ≡ false → AreInOrder rs
tiled_order sides [] rs t once = subst AreInOrder (sym t) tt
tiled_order sides (p ∷ ps) rs (xs, ys, is, tiles, rest) once =
    let (here, later) = neither (list_any (λ m. nat_eq m p) ps) (has_twice ps) once in
    subst AreInOrder (sym is)
    (tiles_order p 0 _ xs ys tiles (other_pages sides p ps ys rest here) (tiled_order sides ps ys rest later))

-- forwarding tables of the same lengths
same_tiled : (sides others : List (List Forwarding)) (ps : List ℕ) (rs : List PageRun)
    → ((m : ℕ) → length (of_page others m) ≡ length (of_page sides m)) → AreTiled sides ps rs → AreTiled others ps rs
same_tiled sides others [] rs same t = t
same_tiled sides others (p ∷ ps) rs same (xs, ys, is, tiles, rest) =
    (xs, ys, is, subst (λ n. Tiles p 0 n xs) (sym (same p)) tiles, same_tiled sides others ps ys same rest)

-- the invariant of a store holds after copies
words_copied : (s : StoreState) (a to n : ℕ) → IsStore s → IsStore (with_copied_words s a to n)
unfolding with_copied_words
words_copied s a to n h = words_keep s (to / s.words) _ (λ ws. length_overlaid ws (to % s.words)
    (cond (nat_eq (a / s.words) (to / s.words)) [] (words_from (a % s.words) n (words_at s (a / s.words))))) h

entry_store : (h : HeapState) (n : ℕ) (o : Option Forwarding) → IsStore h.store → IsStore (with_entry h n o).store
unfolding with_copy
entry_store h n None s = s
entry_store h n (Some f) s = by_copied f.copied
  where
    by_copied : (b : Bool) → IsStore (cond b h (with_copy h (n * h.store.words + f.offset) f.to)).store
    by_copied true = s
    by_copied false = words_copied h.store (n * h.store.words + f.offset) f.to
        (object_words h (n * h.store.words + f.offset)) s

entries_store : (h : HeapState) (n e k : ℕ) → IsStore h.store → IsStore (with_entries h n e k).store
entries_store h n e zero s = s
entries_store h n e (suc k) s = entries_store (with_entry h n (slice_get (of_page h.sides n) e)) n (e + 1) k
    (entry_store h n (slice_get (of_page h.sides n) e) s)

-- workers and the number of pages stay
record Keeps (h g : HeapState) : Type 0 where
  workers : length g.workers ≡ length h.workers
  count : g.store.count ≡ h.store.count

entry_keeps : (h : HeapState) (n : ℕ) (o : Option Forwarding) → Keeps h (with_entry h n o)
unfolding with_copy with_copied_words with_words
entry_keeps h n None = record { workers = refl; count = refl }
entry_keeps h n (Some f) = by_copied f.copied
  where
    by_copied : (b : Bool) → Keeps h (cond b h (with_copy h (n * h.store.words + f.offset) f.to))
    by_copied true = record { workers = refl; count = refl }
    by_copied false = record { workers = refl; count = refl }

all_keep : (h : HeapState) (n e k : ℕ) → Keeps h (with_entries h n e k)
all_keep h n e zero = record { workers = refl; count = refl }
all_keep h n e (suc k) =
    let g = with_entry h n (slice_get (of_page h.sides n) e) in
    let a = entry_keeps h n (slice_get (of_page h.sides n) e) in
    let b = all_keep g n (e + 1) k in
    record { workers = b.workers ∙ a.workers; count = b.count ∙ a.count }

-- the step
step_is : (h m : HeapState) (w p n : ℕ) → MayCopyPage w h p → copy_page_outcome h p ≡ Ok (m, answers.CopiedPage n)
    → outcome h (Worker w) (steps.CopyPage p) ≡ Ok (m, answers.CopiedPage n)
unfolding outcome worker_gate no_page
step_is h m w p n may is = by_tests (nat_le (length h.workers) w) (not_there may.worker) (no_page_in h.store p) may.page
  where
    not_there : w < length h.workers → nat_le (length h.workers) w ≡ false
    not_there l = grind (arith, nat_tests, l)

    gate : Bool → Bool → Result Unit Refusal
    gate a b = if a || false then Err refusals.NoActor else (if b then Err refusals.BadIndex else Ok tt)

    by_tests : (a : Bool) → a ≡ false → (b : Bool) → b ≡ false
        → (gate a b >>= (λ u. copy_page_outcome h p)) ≡ Ok (m, answers.CopiedPage n)
    by_tests true x b y = absurd (cc)
    by_tests false x true y = absurd (cc)
    by_tests false x false y = is

still_may : (h : HeapState) (w n p k : ℕ) → MayCopyPage w h p → MayCopyPage w (with_entries h n 0 k) p
still_may h w n p k may =
    let keeps = all_keep h n 0 k in
    record {
      worker = omega (arith, may.worker, keeps.workers);
      page = ap (λ c. nat_eq p 0 || nat_lt c p) keeps.count ∙ may.page;
      tests = still_passes h n p 0 k may.tests;
    }

-- the runs of pages, copied one after another, are those pages
pub tiled_copy : (h : HeapState) (w : ℕ) (ps : List ℕ) (rs : List PageRun) → IsStore h.store → IsHeap h
    → AreTiled h.sides ps rs → Each ps (MayCopyPage w h) → CopiesPages w h ps (with_runs h rs)
tiled_copy h w [] rs s i t may = ap (with_runs h) t
tiled_copy h w (p ∷ ps) rs s i (xs, ys, is, tiles, rest) may =
    let n = length (of_page h.sides p) in
    let m = with_entries h p 0 n in
    let store = entries_store h p 0 n s in
    let heap = entries_keep h p 0 n i in
    let copied : with_runs h rs ≡ with_runs m ys = ap (with_runs h) is ∙ runs_both h xs ys
    ∙ ap (λ g. with_runs g ys) (tiles_copy h p 0 n xs tiles) in (
      m,
      count_by is_uncopied (of_page h.sides p),
      step_is h m w p _ (may 0 p refl) (accepted h m p n _ (may 0 p refl).tests refl refl refl),
      store,
      heap,
      subst (CopiesPages w m ps) (sym copied)
          (tiled_copy m w ps ys store heap (same_tiled h.sides m.sides ps ys (λ q. length_entries h p 0 n q) rest)
          (λ j q at. still_may h w p q n (may (suc j) q at))),
    )

-- ---- loops

-- the last target gets one run more
pub last_runs : (ts : List Target) (i : ℕ) (d u : Target) (r : PageRun) → length ts ≡ i + 1
    → u.runs.items ≡ (get_or ts i d).runs.items ++ r ∷ [] → runs_of (set ts i u) ≡ runs_of ts ++ r ∷ []
last_runs [] i d u r l e = absurd (omega (arith, l))
last_runs (t ∷ []) zero d u r l e =
    append-nil u.runs.items ∙ e ∙ ap (λ rs. rs ++ r ∷ []) (sym (append-nil t.runs.items))
last_runs (t ∷ []) (suc i) d u r l e = absurd (omega (arith, l))
last_runs (t ∷ v ∷ ts) zero d u r l e = absurd (omega (arith, l))
last_runs (t ∷ v ∷ ts) (suc i) d u r l e =
    ap (λ rs. t.runs.items ++ rs) (last_runs (v ∷ ts) i d u r (omega (arith, l)) e)
    ∙ sym (append_assoc t.runs.items (runs_of (v ∷ ts)) (r ∷ []))

pub last_to : (h : HeapState) (ts : List Target) (i : ℕ) (d u : Target) (r : PageRun) → i < length ts
    → AreRunsTo h ts → u.page ≡ (get_or ts i d).page → u.runs.items ≡ (get_or ts i d).runs.items ++ r ∷ []
    → IsRunTo h u.page r → AreRunsTo h (set ts i u)
last_to h ts i d u r l to same e here =
    each_set (λ (t : Target). Each t.runs.items (IsRunTo h t.page)) ts i u to
    (subst (λ rs. Each rs (IsRunTo h u.page)) (sym e)
    (each_both (IsRunTo h u.page) (get_or ts i d).runs.items (r ∷ [])
    (subst (λ n. Each (get_or ts i d).runs.items (IsRunTo h n)) (sym same)
    (to i (get_or ts i d) (slice_get-get_or ts i d l)))
    (one_run (IsRunTo h u.page) r here)))

-- a new one has it
pub new_runs : (ts : List Target) (u : Target) (r : PageRun) → u.runs.items ≡ r ∷ []
    → runs_of (ts ++ u ∷ []) ≡ runs_of ts ++ r ∷ []
new_runs [] u r e = append-nil u.runs.items ∙ e
new_runs (t ∷ ts) u r e = ap (λ rs. t.runs.items ++ rs) (new_runs ts u r e)
    ∙ sym (append_assoc t.runs.items (runs_of ts) (r ∷ []))

pub new_to : (h : HeapState) (ts : List Target) (u : Target) (r : PageRun) → AreRunsTo h ts → u.runs.items ≡ r ∷ []
    → IsRunTo h u.page r → AreRunsTo h (ts ++ u ∷ [])
new_to h ts u r to e here =
    each_both (λ (t : Target). Each t.runs.items (IsRunTo h t.page)) ts (u ∷ []) to
    (one_run (λ (t : Target). Each t.runs.items (IsRunTo h t.page)) u
    (subst (λ rs. Each rs (IsRunTo h u.page)) (sym e) (one_run (IsRunTo h u.page) r here)))

-- a run of entries
pub run_to : (h : HeapState) (p e end target count : ℕ) → IsRun h p e end target count
    → end ≡ length (of_page h.sides p) → end ≤ MOST_WORDS
    → IsRunTo h target (record { page = p; first = e; count = count })
run_to h p e end target count r is l = record {
  run = (omega (arith, r.within, is), r.together);
  small = omega (arith, r.within, l);
}

pub adds_none : (p : ℕ) (ts : List Target) → AddsTo p 0 ts ts
adds_none p ts = ([], sym (append-nil (runs_of ts)), refl)

pub adds_more : (p k n : ℕ) (ts us vs : List Target) (r : PageRun) → AddsTo p k ts us
    → runs_of vs ≡ runs_of us ++ r ∷ [] → r.page ≡ p → r.first ≡ k → n ≡ k + r.count → AddsTo p n ts vs
adds_more p k n ts us vs r (xs, is, tiles) e page first sum = (
  xs ++ r ∷ [],
  e ∙ ap (λ rs. rs ++ r ∷ []) is ∙ append_assoc (runs_of ts) xs (r ∷ []),
  subst (λ m. Tiles p 0 m (xs ++ r ∷ [])) (sym sum) (tiles_more p 0 k xs r tiles page (omega (arith, first))),
)

pub all_added : (p q k n : ℕ) (ts us : List Target) → AddsTo p k ts us → p ≡ q → k ≡ n → AddsTo q n ts us
all_added p q k n ts us a same many = subst (λ m. AddsTo q m ts us) many (subst (λ r. AddsTo r k ts us) same a)

-- one page more
pub page_tiled : (sides : List (List Forwarding)) (ps : List ℕ) (i d : ℕ) (ts us : List Target) → i < length ps
    → AreTiled sides (take i ps) (runs_of ts) → AddsTo (get_or ps i d) (length (of_page sides (get_or ps i d))) ts us
    → AreTiled sides (take (i + 1) ps) (runs_of us)
page_tiled sides ps i d ts us l t (xs, is, tiles) =
    subst (λ qs. AreTiled sides qs (runs_of us)) (sym (take_more ps i d l))
    (subst (AreTiled sides (take i ps ++ get_or ps i d ∷ [])) (sym is)
    (tiled_more sides (take i ps) (get_or ps i d) (runs_of ts) xs t tiles))

pub all_tiled : (sides : List (List Forwarding)) (ps : List ℕ) (i : ℕ) (ts : List Target) → length ps ≤ i
    → AreTiled sides (take i ps) (runs_of ts) → AreTiled sides ps (runs_of ts)
all_tiled sides ps i ts l t = subst (λ qs. AreTiled sides qs (runs_of ts)) (take_all i ps l) t

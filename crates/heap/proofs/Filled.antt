-- Runs of many pages: the words are written at once, and then the copies are noted.
use Rattle.std.proofs.Common.{◌≡◌, ◌≢◌, ℕ, zero, suc, ◌+◌, ◌-◌, ◌≤◌, ◌==◌, Bool, true, false, cond}
use Rattle.std.proofs.Common.{List, [], ◌∷◌, ◌++◌, length, map, get_or, Option, Some, None, nat_eq}
use Rattle.std.proofs.Common.{refl, sym, ◌∙◌, ap, subst, arith}
use Rattle.std.specs.List.{slice_get}
use Rattle.std.proofs.lemmas.Bool.{eqb-true, eqb-false}
use Rattle.std.proofs.lemmas.List.{get_or-set_other}
use Rattle.std.proofs.lemmas.Option.{same_Some}
use Rattle.layout.specs.declared.shape.Layout.{Layout}
use Rattle.model.specs.Bits.{of_page}
use Rattle.model.specs.Holding.{IsHeap, AreRising}
use Rattle.model.specs.Moves.{set_copied_of}
use Rattle.model.specs.Owning.{Each, IsStore}
use Rattle.model.specs.States.{HeapState, change_at, change_found}
use Rattle.model.specs.Stores.{StoreState, words_at, with_words}
use Rattle.model.specs.declared.limits.TheConstants.{MOST_WORDS}
use Rattle.model.specs.declared.records.Forwarding.{Forwarding}
use Rattle.forward.specs.Noting.{noted_sides}
use Rattle.pieces.specs.Pieces.{SourceState, laid_from}
use Rattle.pieces.proofs.Cuts.{length_all}
use Rattle.page.specs.declared.targets.PageRun.{PageRun}
use Rattle.page.specs.declared.targets.Target.{Target}
use Rattle.page.specs.Filling.{AllHaveEntries, all_filled, runs_of}
use Rattle.page.specs.Filling.{with_runs as stored_runs}
use Rattle.page.specs.Runs.{source_with, with_run}
use Rattle.page.proofs.Runs.{words_keep}
use Rattle.page_rows.specs.Starting.{AreSmall}
use Rattle.heap.specs.Filling.{AreInOrder, AreRunsTo, IsAfter, IsRunTo, with_runs}
use Rattle.page_rows.specs.Runs.{GoTo, Notes, notes, noted_by, noted_from}
use Rattle.heap.specs.Runs.{with_entries}
use Rattle.page_rows.specs.Starting.{AllGoTo, by_runs, run_noted, run_started, without_starts}
use Rattle.page_rows.proofs.Notes.{later_stay, noted_each}
use Rattle.heap.proofs.Runs.{entries_keep, page_rises, runs}
use Rattle.page_rows.proofs.Starts.{same_filled, same_runs}

-- notes of another page's copies

changed_elsewhere : {X : Type 0} (xs : List (List X)) (i j : ℕ) (f : List X → List X) → i ≢ j
    → get_or (change_at xs j f) i [] ≡ get_or xs i []
changed_elsewhere {X = X} xs i j f d = by_found (slice_get xs j)
  where
    by_found : (o : Option (List X)) → get_or (change_found xs j o f) i [] ≡ get_or xs i []
    by_found None = refl
    by_found (Some x) = get_or-set_other xs j i (f x) [] d

other_side : (sides : List (List Forwarding)) (m n e : ℕ) → m ≢ n
    → of_page (noted_sides n (slice_get (of_page sides n) e) sides) m ≡ of_page sides m
other_side sides zero n e d = refl
other_side sides (suc m) zero e d = refl
other_side sides (suc m) (suc n) e d = by_entry (slice_get (of_page sides (suc n)) e)
  where
    one : suc n - 1 ≡ n
    one = omega arith

    apart : m ≢ n
    apart z = d (ap suc z)

    by_copied : (b : Bool) (f : Forwarding)
        → get_or (cond b sides (change_at sides (suc n - 1) (map (set_copied_of f.offset)))) m [] ≡ get_or sides m []
    by_copied true f = refl
    by_copied false f = ap (λ j. get_or (change_at sides j (map (set_copied_of f.offset))) m []) one
        ∙ changed_elsewhere sides m n (map (set_copied_of f.offset)) apart

    by_entry : (o : Option Forwarding) → get_or (noted_sides (suc n) o sides) m [] ≡ get_or sides m []
    by_entry None = refl
    by_entry (Some f) = by_copied f.copied f

noted_elsewhere : (w m n e k : ℕ) (z : Notes) → m ≢ n → of_page (noted_from w n e k z).sides m ≡ of_page z.sides m
noted_elsewhere w m n e zero z d = refl
noted_elsewhere w m n e (suc k) z d =
    noted_elsewhere w m n (e + 1) k (noted_by w n (slice_get (of_page z.sides n) e) z) d ∙ other_side z.sides m n e d

-- notes of the entries before one
noted_before : (w n e k : ℕ) (z : Notes) (side : List Forwarding) → AreRising w 0 side
    → ((i : ℕ) → e ≤ i → slice_get (of_page z.sides n) i ≡ slice_get side i)
    → (i : ℕ) → e + k ≤ i → slice_get (of_page (noted_from w n e k z).sides n) i ≡ slice_get side i
noted_before w n e zero z side r agree i l = agree i (omega (arith, l))
noted_before w n e (suc k) z side r agree i l =
    noted_before w n (e + 1) k (noted_by w n (slice_get (of_page z.sides n) e) z) side r
    (later_stay z.sides n w side e (slice_get (of_page z.sides n) e) r (sym (agree e (omega arith))) agree)
    i (omega (arith, l))

-- runs with their targets

abbrev Aimed : Type 0
Aimed = ℕ × PageRun

abbrev aimed_at : ℕ → List PageRun → List Aimed
aimed_at n [] = []
aimed_at n (r ∷ rs) = (n, r) ∷ aimed_at n rs

abbrev all_aimed : List Target → List Aimed
all_aimed [] = []
all_aimed (t ∷ ts) = aimed_at t.page t.runs.items ++ all_aimed ts

abbrev only_runs : List Aimed → List PageRun
only_runs [] = []
only_runs (x ∷ xs) = x.1 ∷ only_runs xs

runs_aimed : (n : ℕ) (rs : List PageRun) (xs : List Aimed) → only_runs (aimed_at n rs ++ xs) ≡ rs ++ only_runs xs
runs_aimed n [] xs = refl
runs_aimed n (r ∷ rs) xs = ap (λ ys. r ∷ ys) (runs_aimed n rs xs)

all_runs_aimed : (ts : List Target) → only_runs (all_aimed ts) ≡ runs_of ts
all_runs_aimed [] = refl
all_runs_aimed (t ∷ ts) =
    runs_aimed t.page t.runs.items (all_aimed ts) ∙ ap (λ ys. t.runs.items ++ ys) (all_runs_aimed ts)

each_aimed : (P : ℕ → PageRun → Type 0) (n : ℕ) (rs : List PageRun) (xs : List Aimed)
    → Each rs (P n) → Each xs (λ (x : Aimed). P x.0 x.1) → Each (aimed_at n rs ++ xs) (λ (x : Aimed). P x.0 x.1)
each_aimed P n [] xs h k i x at = k i x at
each_aimed P n (r ∷ rs) xs h k zero x at = subst (λ (y : Aimed). P y.0 y.1) (same_Some _ _ at) (h 0 r refl)
each_aimed P n (r ∷ rs) xs h k (suc i) x at = each_aimed P n rs xs (λ j y there. h (suc j) y there) k i x at

all_each_aimed : (P : ℕ → PageRun → Type 0) (ts : List Target)
    → Each ts (λ (t : Target). Each t.runs.items (P t.page)) → Each (all_aimed ts) (λ (x : Aimed). P x.0 x.1)
all_each_aimed P [] h i x at = absurd (cc)
all_each_aimed P (t ∷ ts) h i x at =
    each_aimed P t.page t.runs.items (all_aimed ts) (h 0 t refl)
    (all_each_aimed P ts (λ j u there. h (suc j) u there)) i x at

module _ (sides : List (List Forwarding)) (ls : List Layout) where
  -- the store after runs were copied to their targets
  abbrev stored : StoreState → List Aimed → StoreState
  stored s [] = s
  stored s (x ∷ xs) = stored (with_run s x.1.page x.0 (of_page sides x.1.page) ls x.1.first x.1.count) xs

  stored_aimed : (s : StoreState) (n : ℕ) (rs : List PageRun) (xs : List Aimed)
      → stored s (aimed_at n rs ++ xs) ≡ stored (stored_runs s sides ls n rs) xs
  stored_aimed s n [] xs = refl
  stored_aimed s n (r ∷ rs) xs =
      stored_aimed (with_run s r.page n (of_page sides r.page) ls r.first r.count) n rs xs

  all_stored : (s : StoreState) (ts : List Target) → all_filled s sides ls ts ≡ stored s (all_aimed ts)
  all_stored s [] = refl
  all_stored s (t ∷ ts) = all_stored (stored_runs s sides ls t.page t.runs.items) ts
      ∙ sym (stored_aimed s t.page t.runs.items (all_aimed ts))

  run_keeps : (s : StoreState) (n : ℕ) (r : PageRun) → IsStore s
      → IsStore (with_run s r.page n (of_page sides r.page) ls r.first r.count)
  unfolding with_run
  run_keeps s n r h = words_keep s n _ (λ ws. long (r.page == n) ws) h
    where
      from : SourceState
      from = source_with s.words (words_at s r.page) (of_page sides r.page) ls

      long : (b : Bool) (ws : List ℕ) → length (cond b ws (laid_from from 0 r.first r.count ws)) ≡ length ws
      long true ws = refl
      long false ws = length_all from 0 r.first r.count ws

  -- the entries of runs from their first one on are as at first
  abbrev Agree : HeapState → List Aimed → Type 0
  Agree h xs = Each xs (λ (x : Aimed). (i : ℕ) → x.1.first ≤ i
      → slice_get (of_page h.sides x.1.page) i ≡ slice_get (of_page sides x.1.page) i)

  -- what is written and noted of runs is what they do one after another
  aimed_done : (h : HeapState) (xs : List Aimed) → h.config.layouts ≡ ls → IsStore h.store
      → ((n : ℕ) → AreRising h.store.words 0 (of_page sides n)) → Agree h xs
      → Each xs (λ (x : Aimed). GoTo h.store.words x.0 (of_page sides x.1.page) x.1.first x.1.count)
      → AreInOrder (only_runs xs) → record h {
        store = stored h.store xs;
        starts = by_runs (run_started h.store.words sides) (only_runs xs) h.starts;
        sides = by_runs run_noted (only_runs xs) h.sides;
      } ≡ with_runs h (only_runs xs)
  unfolding with_run with_words
  aimed_done h [] c s rise agree goes order = refl
  aimed_done h (x ∷ xs) c s rise agree goes order =
      (λ j. record h {
        store = stored next.store xs;
        starts = by_runs (run_started h.store.words sides) (only_runs xs) (here j).starts;
        sides = by_runs run_noted (only_runs xs) (here j).sides;
      })
      ∙ aimed_done next xs c (run_keeps h.store x.0 x.1 s) rise later (λ i y at. goes (suc i) y at) order.1
      ∙ ap (λ g. with_runs g (only_runs xs))
      (runs x.1.page x.0 (of_page sides x.1.page) ls h x.1.first x.1.count c s (rise x.1.page) (agree 0 x refl)
      (goes 0 x refl))
    where
      z : Notes
      z = noted_from h.store.words x.1.page x.1.first x.1.count (notes h.starts h.sides)

      here : notes (run_started h.store.words sides x.1 h.starts) (run_noted x.1 h.sides) ≡ z
      here = noted_each h.store.words h.store.words x.1.page x.1.first x.1.count (of_page sides x.1.page) h.starts
          h.sides (rise x.1.page) (agree 0 x refl)

      next : HeapState
      next = record h {
        store = with_run h.store x.1.page x.0 (of_page sides x.1.page) ls x.1.first x.1.count;
        starts = z.starts;
        sides = z.sides;
      }

      run_of : (ys : List Aimed) (i : ℕ) (y : Aimed) → slice_get ys i ≡ Some y → slice_get (only_runs ys) i ≡ Some y.1
      run_of [] i y at = absurd (cc)
      run_of (w ∷ ys) zero y at = ap Some (ap (λ (v : Aimed). v.1) (same_Some _ _ at))
      run_of (w ∷ ys) (suc i) y at = run_of ys i y at

      by_page : (y : Aimed) (b : Bool) → nat_eq y.1.page x.1.page ≡ b → IsAfter x.1 y.1
          → ((i : ℕ) → y.1.first ≤ i
          → slice_get (of_page h.sides y.1.page) i ≡ slice_get (of_page sides y.1.page) i)
          → (i : ℕ) → y.1.first ≤ i → slice_get (of_page z.sides y.1.page) i ≡ slice_get (of_page sides y.1.page) i
      by_page y true e behind before i l =
          let same = eqb-true y.1.page x.1.page e in
          subst (λ m. slice_get (of_page z.sides m) i ≡ slice_get (of_page sides m) i) (sym same)
          (noted_before h.store.words x.1.page x.1.first x.1.count (notes h.starts h.sides) (of_page sides x.1.page)
          (rise x.1.page) (agree 0 x refl) i (omega (arith, behind same, l)))
      by_page y false e behind before i l =
          ap (λ (fs : List Forwarding). slice_get fs i)
          (noted_elsewhere h.store.words y.1.page x.1.page x.1.first x.1.count (notes h.starts h.sides)
          (eqb-false y.1.page x.1.page e)) ∙ before i l

      later : Agree next xs
      later i y at = by_page y (nat_eq y.1.page x.1.page) refl (order.0 i y.1 (run_of xs i y at)) (agree (suc i) y at)

-- the runs of targets: us are ts, but for what they tell of starts, while these are filled
pub runs_done : (h : HeapState) (ts us : List Target) (s : StoreState) (starts : List (List Bool))
    (sides : List (List Forwarding)) → IsStore h.store → IsHeap h → AreRunsTo h ts → AreInOrder (runs_of ts)
    → map without_starts us ≡ map without_starts ts → s ≡ all_filled h.store h.sides h.config.layouts us
    → starts ≡ by_runs (run_started h.store.words h.sides) (runs_of ts) h.starts
    → sides ≡ by_runs run_noted (runs_of us) h.sides
    → record h { store = s; starts = starts; sides = sides } ≡ with_runs h (runs_of ts)
runs_done h ts us s starts sides store i to order same a b e =
    (λ j. record h {
      store = is j;
      starts = (b ∙ ap (λ rs. by_runs (run_started h.store.words h.sides) rs h.starts) aimed) j;
      sides = (e ∙ ap (λ rs. by_runs run_noted rs h.sides) (same_runs ts us same ∙ aimed)) j;
    })
    ∙ aimed_done h.sides h.config.layouts h (all_aimed ts) refl store (λ n. page_rises h n i)
    (λ j x at k l. refl)
    (λ j x at. (all_each_aimed (IsRunTo h) ts to j x at).run.1)
    (subst AreInOrder aimed order)
    ∙ ap (with_runs h) (all_runs_aimed ts)
  where
    aimed : runs_of ts ≡ only_runs (all_aimed ts)
    aimed = sym (all_runs_aimed ts)

    is : s ≡ stored h.sides h.config.layouts h.store (all_aimed ts)
    is = a ∙ same_filled h.store h.sides h.config.layouts ts us same ∙ all_stored h.sides h.config.layouts h.store ts

pub filled_heap : (h : HeapState) (rs : List PageRun) → IsHeap h → IsHeap (with_runs h rs)
filled_heap h [] i = i
filled_heap h (r ∷ rs) i = filled_heap (with_entries h r.page r.first r.count) rs
    (entries_keep h r.page r.first r.count i)

-- runs are no longer than a page
pub all_small : (h : HeapState) (ts : List Target) → AreRunsTo h ts → AreSmall (runs_of ts)
all_small h ts to = subst AreSmall (all_runs_aimed ts)
    (small (all_aimed ts) (λ i x at. (all_each_aimed (IsRunTo h) ts to i x at).small))
  where
    small : (xs : List Aimed) → Each xs (λ (x : Aimed). x.1.first + x.1.count ≤ MOST_WORDS) → AreSmall (only_runs xs)
    small [] k i r at = absurd (cc)
    small (x ∷ xs) k zero r at = subst (λ (q : PageRun). q.first + q.count ≤ MOST_WORDS) (same_Some _ _ at) (k 0 x refl)
    small (x ∷ xs) k (suc i) r at = small xs (λ j y there. k (suc j) y there) i r at

-- the entries of runs exist
pub all_have_entries : (h : HeapState) (ts : List Target) → AreRunsTo h ts → Each ts (AllHaveEntries h.sides)
all_have_entries h ts to i t at j r there = (to i t at j r there).run.0

-- so do the targets', for their runs
pub all_go_to : (h : HeapState) (ts : List Target) → AreRunsTo h ts → AllGoTo h.store.words h.sides ts
all_go_to h ts to i t at j r there = (to i t at j r there).run.1

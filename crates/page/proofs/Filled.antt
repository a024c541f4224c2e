-- Targets that are filled at once have the words that they get one after another.
use Rattle.std.proofs.Common.{◌≡◌, ◌≢◌, ℕ, zero, suc, ◌+◌, ◌-◌, ◌≤◌, ◌<◌, ◌==◌, ◌++◌, List, [], ◌∷◌, length, get_or}
use Rattle.std.proofs.Common.{Option, Some, None, cond, Bool, true, false, refl, sym, ap, ◌∙◌, subst, arith, ne_eqb}
use Rattle.std.proofs.Common.{drop, unwrap_or}
use Rattle.std.specs.List.{slice_get}
use Rattle.std.proofs.lemmas.Bool.{true≢false}
use Rattle.std.proofs.lemmas.List.{drop_more, drop_all}
use Rattle.std.proofs.lemmas.Option.{get_or_from_slice_get, same_Some, slice_get-get_or, slice_get_within}
use Rattle.layout.specs.declared.shape.Layout.{Layout}
use Rattle.model.specs.Bits.{of_page}
use Rattle.model.specs.Owning.{Each, IsStore}
use Rattle.model.specs.Stores.{StoreState, changed_in, frame_in, page_at, words_at, with_words}
use Rattle.model.specs.declared.records.Forwarding.{Forwarding}
use Rattle.model.specs.declared.records.Page.{Page}
use Rattle.model.proofs.Memory.{own_frame, words_kept}
use Rattle.pieces.specs.Pieces.{SourceState, laid_from}
use Rattle.pieces.proofs.Cuts.{length_all}
use Rattle.page.specs.declared.targets.PageRun.{PageRun}
use Rattle.page.specs.declared.targets.Target.{Target}
use Rattle.page.specs.Filling.{AllHaveEntries, AreFilled, AreOutside, FillsFrames, SourcesState, SwapsTargets, all_filled}
use Rattle.page.specs.Filling.{filled, is_from_in, laid_runs, page_in, runs_of, source_on, with_runs}
use Rattle.page.specs.Owned.{words_or}
use Rattle.page.specs.Runs.{known, source_with, with_run}
use Rattle.page.proofs.Changes.{Differ, changes_join, changes_match, changes_swap, words_of, words_stay}
use Rattle.page.proofs.Runs.{unchanged, words_keep, words_twice, words_alike}

-- no two pages have one frame

abbrev AreApart : List Page → Type 0
AreApart records = (m n : ℕ) → m ≢ n → Differ (frame_in (page_in records m)) (frame_in (page_in records n))

store_apart : (s : StoreState) → IsStore s → AreApart s.pages
unfolding page_at
store_apart s h m n d x e k = d (own_frame s m n x h e k)

-- a From page isn't a target
other_page : (records : List Page) (m n : ℕ) → is_from_in records m ≡ true → is_from_in records n ≡ false → m ≢ n
other_page records m n a b e = true≢false (sym a ∙ ap (is_from_in records) e ∙ b)

-- runs are copied from pages with the same words
laid_alike : (a b : SourcesState) (rs : List PageRun) (ws : List ℕ)
    → Each rs (λ r. source_on a r.page ≡ source_on b r.page) → laid_runs a rs ws ≡ laid_runs b rs ws
laid_alike a b [] ws same = refl
laid_alike a b (r ∷ rs) ws same =
    ap (λ s. laid_runs a rs (laid_from s 0 r.first r.count ws)) (same 0 r refl)
    ∙ laid_alike a b rs (laid_from (source_on b r.page) 0 r.first r.count ws) (λ i x at. same (suc i) x at)

module _ (sides : List (List Forwarding)) (ls : List Layout) where
  abbrev sources_of : StoreState → SourcesState
  sources_of s = record { size = s.words; pages = s.pages; frames = s.frames; sides = sides; layouts = ls }

  -- another page's words are changed
  source_stays : (s : StoreState) (m n : ℕ) (f : List ℕ → List ℕ) → IsStore s → m ≢ n
      → source_on (sources_of (with_words s n f)) m ≡ source_on (sources_of s) m
  unfolding with_words words_at page_at
  source_stays s m n f h d = ap (λ (o : Option (List ℕ)). record {
    size = s.words;
    words = known o;
    side = of_page sides m;
    layouts = ls;
  }) (words_kept s m n f h d)

  -- what a run copies from another page
  run_is : (s : StoreState) (n : ℕ) (r : PageRun) → r.page ≢ n
      → with_run s r.page n (of_page sides r.page) ls r.first r.count
      ≡ with_words s n (λ ws. laid_from (source_on (sources_of s) r.page) 0 r.first r.count ws)
  unfolding with_run words_at page_at
  run_is s n r d = rw (ne_eqb r.page n d) refl

  long_run : (a : SourcesState) (r : PageRun) (ws : List ℕ)
      → length (laid_from (source_on a r.page) 0 r.first r.count ws) ≡ length ws
  long_run a r ws = length_all (source_on a r.page) 0 r.first r.count ws

  -- what runs copy from other pages to one
  runs_are : (s : StoreState) (n : ℕ) (rs : List PageRun) → IsStore s → Each rs (λ r. r.page ≢ n)
      → with_runs s sides ls n rs ≡ with_words s n (laid_runs (sources_of s) rs)
  runs_are s n [] h d = unchanged s n (λ ws. ws) (λ ws. refl)
  runs_are s n (r ∷ rs) h d =
      ap (λ t. with_runs t sides ls n rs) (run_is s n r (d 0 r refl))
      ∙ runs_are next n rs (words_keep s n first (long_run (sources_of s) r) h) (λ i x at. d (suc i) x at)
      ∙ words_alike next n (laid_runs (sources_of next) rs) (laid_runs (sources_of s) rs)
      (λ ws. laid_alike (sources_of next) (sources_of s) rs ws
      (λ i x at. source_stays s x.page n first h (d (suc i) x at)))
      ∙ words_twice s n first (laid_runs (sources_of s) rs)
    where
      first : List ℕ → List ℕ
      first ws = laid_from (source_on (sources_of s) r.page) 0 r.first r.count ws

      next : StoreState
      next = with_words s n first

  long_runs : (a : SourcesState) (rs : List PageRun) (ws : List ℕ) → length (laid_runs a rs ws) ≡ length ws
  long_runs a [] ws = refl
  long_runs a (r ∷ rs) ws =
      long_runs a rs (laid_from (source_on a r.page) 0 r.first r.count ws) ∙ long_run a r ws

-- frames after those of targets were put there
abbrev put_all : List Page → List (List ℕ) → List Target → List (List ℕ)
put_all records fs [] = fs
put_all records fs (t ∷ ts) =
    put_all records (changed_in fs (frame_in (page_in records t.page)) (λ old. t.frame)) ts

module _ (records : List Page) (apart : AreApart records) where
  abbrev frame : ℕ → Option ℕ
  frame n = frame_in (page_in records n)

  swap_puts : (fs : List (List ℕ)) (ts : List Target) (after : List (List ℕ)) (us : List Target)
      → SwapsTargets records fs ts after us → after ≡ put_all records fs ts
  swap_puts fs [] after [] e = e
  swap_puts fs [] after (u ∷ us) e = absurd (true≢false e)
  swap_puts fs (t ∷ ts) after [] e = absurd (true≢false e)
  swap_puts fs (t ∷ ts) after (u ∷ us) e = swap_puts (changed_in fs (frame t.page) (λ old. t.frame)) ts after us e.1

  -- what is put into targets changes no page before them
  puts_swap : (fs : List (List ℕ)) (m n : ℕ) (f : List ℕ → List ℕ) (ts : List Target) → m ≤ n
      → AreOutside records n ts
      → changed_in (put_all records fs ts) (frame m) f ≡ put_all records (changed_in fs (frame m) f) ts
  puts_swap fs m n f [] l o = refl
  puts_swap fs m n f (t ∷ ts) l o =
      puts_swap (changed_in fs (frame t.page) (λ old. t.frame)) m t.page f ts (omega (arith, l, o.0)) o.2
      ∙ ap (λ x. put_all records x ts)
      (changes_swap fs (frame t.page) (frame m) (λ old. t.frame) f
      (apart t.page m (λ e. absurd (omega (arith, l, o.0, e)))))

  -- nor the words of a From page
  puts_keep : (fs : List (List ℕ)) (m n : ℕ) (ts : List Target) → is_from_in records m ≡ true
      → AreOutside records n ts → words_of (put_all records fs ts) (frame m) ≡ words_of fs (frame m)
  puts_keep fs m n [] from o = refl
  puts_keep fs m n (t ∷ ts) from o =
      puts_keep (changed_in fs (frame t.page) (λ old. t.frame)) m t.page ts from o.2
      ∙ words_stay fs (frame t.page) (frame m) (λ old. t.frame)
      (apart t.page m (λ e. other_page records m t.page from o.1.target (sym e)))

-- the words that a target gets
lent_words : (fs : List (List ℕ)) (o : Option ℕ) (ws vs : List ℕ) → words_of fs o ≡ Some ws → words_or fs o vs ≡ ws
lent_words fs None ws vs e = absurd (cc)
lent_words fs (Some f) ws vs e = get_or_from_slice_get fs f ws vs e

module _ (sides : List (List Forwarding)) (ls : List Layout) where
  -- targets have the words that their runs give those of a store
  abbrev Matches : StoreState → List Target → List Target → Type 0
  Matches s [] [] = Unit {0}
  Matches s [] (u ∷ us) = true ≡ false
  Matches s (t ∷ ts) [] = true ≡ false
  Matches s (t ∷ ts) (u ∷ us) = (u.page ≡ t.page)
      × ((ws : List ℕ) → words_of s.frames (frame_in (page_in s.pages t.page)) ≡ Some ws
      → u.frame ≡ laid_runs (sources_of sides ls s) t.runs.items ws)
      × Matches s ts us

  -- the same once a target before them has other words
  still_matches : (s : StoreState) (m n : ℕ) (f : List ℕ → List ℕ) (ts us : List Target) → IsStore s → m ≤ n
      → is_from_in s.pages m ≡ false → AreOutside s.pages n ts → Matches s ts us → Matches (with_words s m f) ts us
  unfolding with_words page_at
  still_matches s m n f [] [] h l from o k = tt
  still_matches s m n f [] (u ∷ us) h l from o k = k
  still_matches s m n f (t ∷ ts) [] h l from o k = k
  still_matches s m n f (t ∷ ts) (u ∷ us) h l from o k = (
    k.0,
    λ ws e. k.1 ws (sym (words_stay s.frames (frame_in (page_in s.pages m)) (frame_in (page_in s.pages t.page)) f
        (store_apart s h m t.page (λ z. absurd (omega (arith, l, o.0, z))))) ∙ e)
        ∙ laid_alike (sources_of sides ls s) (sources_of sides ls (with_words s m f)) t.runs.items ws
        (λ i r at. sym (source_stays sides ls s r.page m f h
        (other_page s.pages r.page m (o.1.sources i r at) from))),
    still_matches s m t.page f ts us h (omega (arith, l, o.0)) from o.2 k.2,
  )

  -- what is put into targets at once is put there one after another
  put_fills : (s : StoreState) (n : ℕ) (ts us : List Target) → IsStore s → AreOutside s.pages n ts → Matches s ts us
      → record s { frames = put_all s.pages (put_all s.pages s.frames ts) us } ≡ all_filled s sides ls ts
  unfolding with_words page_at
  put_fills s n [] [] h o k = refl
  put_fills s n [] (u ∷ us) h o k = absurd (true≢false k)
  put_fills s n (t ∷ ts) [] h o k = absurd (true≢false k)
  put_fills s n (t ∷ ts) (u ∷ us) h o k =
      ap (λ fs. record s { frames = put_all s.pages fs us }) (
      ap (λ m. changed_in (put_all s.pages first ts) (frame_in (page_in s.pages m)) (λ old. u.frame)) k.0
      ∙ puts_swap s.pages (store_apart s h) first t.page t.page (λ old. u.frame) ts (omega arith) o.2
      ∙ ap (λ fs. put_all s.pages fs ts)
      (changes_join s.frames at (λ old. t.frame) (λ old. u.frame)
      ∙ changes_match s.frames at (λ old. u.frame) laid (λ ws e. k.1 ws e))
      )
      ∙ put_fills (with_words s t.page laid) t.page ts us
      (words_keep s t.page laid (long_runs sides ls (sources_of sides ls s) t.runs.items) h) o.2
      (still_matches s t.page t.page laid ts us h (omega arith) o.1.target o.2 k.2)
      ∙ ap (λ x. all_filled x sides ls ts) (sym (runs_are sides ls s t.page t.runs.items h
      (λ i r there. other_page s.pages r.page t.page (o.1.sources i r there) o.1.target)))
    where
      at : Option ℕ
      at = frame_in (page_in s.pages t.page)

      first : List (List ℕ)
      first = changed_in s.frames at (λ old. t.frame)

      laid : List ℕ → List ℕ
      laid ws = laid_runs (sources_of sides ls s) t.runs.items ws

  -- targets that were lent their words, while these are read, and filled
  lent_match : (s : StoreState) (from : SourcesState) (fs : List (List ℕ)) (n : ℕ) (ts : List Target)
      (between : List (List ℕ)) (lent left : List Target) → IsStore s → AreOutside s.pages n ts
      → ((m : ℕ) → n < m
      → words_of fs (frame_in (page_in s.pages m)) ≡ words_of s.frames (frame_in (page_in s.pages m)))
      → ((m : ℕ) → is_from_in s.pages m ≡ true → source_on from m ≡ source_on (sources_of sides ls s) m)
      → SwapsTargets s.pages fs ts between lent → AreFilled from lent left → Matches s ts left
  lent_match s from fs n [] between [] [] h o same src e f = tt
  lent_match s from fs n [] between [] (v ∷ left) h o same src e f = absurd (omega (arith, f.long))
  lent_match s from fs n [] between (u ∷ lent) left h o same src e f = absurd (true≢false e)
  lent_match s from fs n (t ∷ ts) between [] left h o same src e f = absurd (true≢false e)
  lent_match s from fs n (t ∷ ts) between (u ∷ lent) [] h o same src e f = absurd (omega (arith, f.long))
  lent_match s from fs n (t ∷ ts) between (u ∷ lent) (v ∷ left) h o same src e f = (
    ap (λ (x : Target). x.page) is,
    λ ws there. ap (λ (x : Target). x.frame) is
        ∙ ap (laid_runs from t.runs.items)
        (lent_words fs (frame_in (page_in s.pages t.page)) ws t.frame (same t.page o.0 ∙ there))
        ∙ laid_alike from (sources_of sides ls s) t.runs.items ws (λ i r at. src r.page (o.1.sources i r at)),
    lent_match s from (changed_in fs (frame_in (page_in s.pages t.page)) (λ old. t.frame)) t.page ts between lent left h
        o.2
        (λ m l. words_stay fs (frame_in (page_in s.pages t.page)) (frame_in (page_in s.pages m)) (λ old. t.frame)
        (store_apart s h t.page m (λ z. absurd (omega (arith, l, z)))) ∙ same m (omega (arith, l, o.0)))
        src e.1 (record { long = shorter f.long; each = λ i x at. f.each (suc i) x at }),
  )
    where
      is : v ≡ filled from (record t { frame = words_or fs (frame_in (page_in s.pages t.page)) t.frame })
      is = same_Some _ _ (f.each 0 u refl) ∙ ap (filled from) e.0

      shorter : suc (length left) ≡ suc (length lent) → length left ≡ length lent
      shorter z = omega (arith, z)

-- targets that are filled at once, with their frames
pub fills_all : (s : StoreState) (size : ℕ) (sides : List (List Forwarding)) (ls : List Layout) (ts : List Target)
    (after : List (List ℕ)) (back : List Target) → IsStore s → size ≡ s.words → AreOutside s.pages 0 ts
    → FillsFrames size s.pages sides ls s.frames ts after back
    → record s { frames = after } ≡ all_filled s sides ls ts
fills_all s size sides ls ts after back h sized o f =
    let apart = store_apart s h in
    let between = swap_puts s.pages apart s.frames ts f.between f.lent f.take in
    let src : (m : ℕ) → is_from_in s.pages m ≡ true → source_on (record {
      size = size;
      pages = s.pages;
      frames = f.between;
      sides = sides;
      layouts = ls;
    }) m ≡ source_on (sources_of sides ls s) m = λ m from. (λ i. record {
      size = sized i;
      words = known ((ap (λ fs. words_of fs (frame_in (page_in s.pages m))) between
          ∙ puts_keep s.pages apart s.frames m 0 ts from o) i);
      side = of_page sides m;
      layouts = ls;
    }) in
    ap (λ fs. record s { frames = fs })
    (swap_puts s.pages apart f.between f.left after back f.give ∙ ap (λ fs. put_all s.pages fs f.left) between)
    ∙ put_fills sides ls s 0 ts f.left h o
    (lent_match sides ls s _ s.frames 0 ts f.between f.lent f.left h o (λ m l. refl) src f.take f.fill)

-- frames of the same lengths

pub filled_store : (s : StoreState) (sides : List (List Forwarding)) (ls : List Layout) (n : ℕ) (ts : List Target)
    → IsStore s → AreOutside s.pages n ts → IsStore (all_filled s sides ls ts)
unfolding with_words page_at
filled_store s sides ls n [] h o = h
filled_store s sides ls n (t ∷ ts) h o =
    subst (λ x. IsStore (all_filled x sides ls ts)) (sym is)
    (filled_store (with_words s t.page laid) sides ls t.page ts
    (words_keep s t.page laid (long_runs sides ls (sources_of sides ls s) t.runs.items) h) o.2)
  where
    laid : List ℕ → List ℕ
    laid ws = laid_runs (sources_of sides ls s) t.runs.items ws

    is : with_runs s sides ls t.page t.runs.items ≡ with_words s t.page laid
    is = runs_are sides ls s t.page t.runs.items h
        (λ i r there. other_page s.pages r.page t.page (o.1.sources i r there) o.1.target)

-- a run of no entries

pub no_run : (s : StoreState) (page target : ℕ) (side : List Forwarding) (ls : List Layout) (e k : ℕ)
    → e + k ≤ length side → length side ≡ 0 → s ≡ with_run s page target side ls e k
unfolding with_run
no_run s page target side ls e k l none = by_count k (omega (arith, l, none))
  where
    by_count : (j : ℕ) → j ≡ 0 → s ≡ with_words s target (λ ws. cond (page == target) ws
        (laid_from (source_with s.words (words_at s page) side ls) 0 e j ws))
    by_count zero z = unchanged s target _ (λ ws. same (page == target) ws)
      where
        same : (b : Bool) (ws : List ℕ) → cond b ws ws ≡ ws
        same true ws = refl
        same false ws = refl
    by_count (suc j) z = absurd (omega (arith, z))

-- a page's forwarding table
pub side_of : (sides : List (List Forwarding)) (n : ℕ) (o : Option (List Forwarding)) → n ≢ 0
    → o ≡ slice_get sides (n - 1) → of_page sides n ≡ unwrap_or o []
side_of sides zero o h e = absurd (h refl)
side_of sides (suc n) o h e =
    let one : suc n - 1 ≡ n = omega arith in
    found sides n ∙ ap (λ p. unwrap_or p []) (sym (e ∙ ap (slice_get sides) one))
  where
    found : (xs : List (List Forwarding)) (i : ℕ) → get_or xs i [] ≡ unwrap_or (slice_get xs i) []
    found [] i = refl
    found (x ∷ xs) zero = refl
    found (x ∷ xs) (suc i) = found xs i

-- a run of a page without a forwarding table
pub none_laid : (s : SourceState) (side : List Forwarding) (e k : ℕ) (ws : List ℕ) → e + k ≤ length side → side ≡ []
    → ws ≡ laid_from s 0 e k ws
none_laid s side e k ws l none =
    let empty : length side ≡ 0 = ap length none in by_count k (omega (arith, l, empty))
  where
    by_count : (j : ℕ) → j ≡ 0 → ws ≡ laid_from s 0 e j ws
    by_count zero z = refl
    by_count (suc j) z = absurd (omega (arith, z))

-- one run more
pub runs_next : (s : SourcesState) (ws vs all : List ℕ) (rs : List PageRun) (i : ℕ) (d : PageRun)
    → laid_runs s (drop i rs) ws ≡ all → i < length rs
    → vs ≡ laid_from (source_on s (get_or rs i d).page) 0 (get_or rs i d).first (get_or rs i d).count ws
    → laid_runs s (drop (i + 1) rs) vs ≡ all
runs_next s ws vs all rs i d k l e =
    ap (laid_runs s (drop (i + 1) rs)) e ∙ ap (λ xs. laid_runs s xs ws) (sym (drop_more rs i d l)) ∙ k

pub runs_last : (s : SourcesState) (ws all : List ℕ) (rs : List PageRun) (i : ℕ) → laid_runs s (drop i rs) ws ≡ all
    → length rs ≤ i → ws ≡ all
runs_last s ws all rs i k l = ap (λ xs. laid_runs s xs ws) (sym (drop_all i rs l)) ∙ k

-- targets on threads

-- the targets that were lent their words have the runs that they had
pub lent_entries : (records : List Page) (sides : List (List Forwarding)) (fs : List (List ℕ)) (ts : List Target)
    (after : List (List ℕ)) (us : List Target) → SwapsTargets records fs ts after us
    → Each ts (AllHaveEntries sides) → Each us (AllHaveEntries sides)
lent_entries records sides fs [] after [] e h i u at = absurd (cc)
lent_entries records sides fs [] after (u ∷ us) e h i v at = absurd (true≢false e)
lent_entries records sides fs (t ∷ ts) after [] e h i u at = absurd (cc)
lent_entries records sides fs (t ∷ ts) after (u ∷ us) e h zero v at =
    subst (AllHaveEntries sides) (sym e.0 ∙ same_Some _ _ at) (h 0 t refl)
lent_entries records sides fs (t ∷ ts) after (u ∷ us) e h (suc i) v at =
    lent_entries records sides (changed_in fs (frame_in (page_in records t.page)) (λ old. t.frame)) ts after us e.1
    (λ j x there. h (suc j) x there) i v at

-- the same of one that a thread gets
pub lent_one : (sides : List (List Forwarding)) (us : List Target) (i : ℕ) (u : Target)
    → Each us (AllHaveEntries sides) → i < length us → u ≡ get_or us i u → AllHaveEntries sides u
lent_one sides us i u h l e = h i u (slice_get-get_or us i u l ∙ ap Some (sym e))

-- each target was filled by a thread
pub all_done : (from to : SourcesState) (us vs : List Target) → from ≡ to → length vs ≡ length us
    → ((i : ℕ) (d : Target) → i < length us → get_or vs i d ≡ filled from (get_or us i d)) → AreFilled to us vs
all_done from to us vs same long h = record {
  long = long;
  each = λ i u at. let l = slice_get_within us i u at in
      slice_get-get_or vs i u (omega (arith, l, long)) ∙ ap Some (h i u l
      ∙ ap (filled from) (get_or_from_slice_get us i u u at) ∙ ap (λ s. filled s u) same);
}

-- targets that were swapped have the runs that they had
swapped_runs : (records : List Page) (fs : List (List ℕ)) (ts : List Target) (after : List (List ℕ)) (us : List Target)
    → SwapsTargets records fs ts after us → runs_of us ≡ runs_of ts
swapped_runs records fs [] after [] e = refl
swapped_runs records fs [] after (u ∷ us) e = absurd (true≢false e)
swapped_runs records fs (t ∷ ts) after [] e = absurd (true≢false e)
swapped_runs records fs (t ∷ ts) after (u ∷ us) e =
    ap (λ (x : Target). x.runs.items ++ runs_of us) e.0
    ∙ ap (λ rs. t.runs.items ++ rs)
    (swapped_runs records (changed_in fs (frame_in (page_in records t.page)) (λ old. t.frame)) ts after us e.1)

-- so have those that were filled
filled_runs : (from : SourcesState) (us vs : List Target) → AreFilled from us vs → runs_of vs ≡ runs_of us
filled_runs from [] [] f = refl
filled_runs from [] (v ∷ vs) f = absurd (omega (arith, f.long))
filled_runs from (u ∷ us) [] f = absurd (omega (arith, f.long))
filled_runs from (u ∷ us) (v ∷ vs) f =
    ap (λ (x : Target). x.runs.items ++ runs_of vs) (same_Some _ _ (f.each 0 u refl))
    ∙ ap (λ rs. u.runs.items ++ rs) (filled_runs from us vs (record {
      long = shorter f.long;
      each = λ i x at. f.each (suc i) x at;
    }))
  where
    shorter : suc (length vs) ≡ suc (length us) → length vs ≡ length us
    shorter z = omega (arith, z)

pub runs_back : (size : ℕ) (records : List Page) (sides : List (List Forwarding)) (ls : List Layout)
    (fs : List (List ℕ)) (ts : List Target) (after : List (List ℕ)) (back : List Target)
    → FillsFrames size records sides ls fs ts after back → runs_of back ≡ runs_of ts
runs_back size records sides ls fs ts after back f =
    swapped_runs records f.between f.left after back f.give ∙ filled_runs _ f.lent f.left f.fill
    ∙ swapped_runs records fs ts f.between f.lent f.take

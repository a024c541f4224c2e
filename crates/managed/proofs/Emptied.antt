-- Pages that are emptied, from one step to the next: which have a frame, and how many are free.
use Rattle.std.proofs.Common.{◌≡◌, ◌≢◌, ◌⊎◌, ◌∙◌, ℕ, ◌+◌, ◌-◌, ◌<◌, ◌≤◌, Bool, true, false, List, []}
use Rattle.std.proofs.Common.{◌∷◌, length}
use Rattle.std.proofs.Common.{cond, not, nat_eq, set, drop, get_or, is_none, count_by, refl, sym, subst, ap, inl, inr}
use Rattle.std.proofs.Common.{arith, Option, Some, None}
use Rattle.std.specs.Prelude.{Result, Ok, Err}
use Rattle.std.specs.List.{AllByRecursion, list_any, slice_get}
use Rattle.std.specs.Option.{option_map}
use Rattle.std.proofs.lemmas.Bool.{cases_eq}
use Rattle.std.proofs.lemmas.Bool.Decides.{nat_tests}
use Rattle.std.proofs.lemmas.List.{drop_more, drop_all}
use Rattle.model.specs.declared.records.Page.{Page}
use Rattle.model.specs.declared.records.PageState.{PageState}
use Rattle.model.specs.declared.records.PageState.TheVariants.{Unused, Open, Closed, From, Gone}
use Rattle.model.specs.declared.steps.Actor.TheVariants.{Worker}
use Rattle.model.specs.declared.steps.Step.TheVariants as steps
use Rattle.model.specs.declared.steps.Answer.{Answer}
use Rattle.model.specs.declared.steps.Refusal.{Refusal}
use Rattle.model.specs.Bits.{of_page}
use Rattle.model.specs.Cycles.{is_uncopied}
use Rattle.model.specs.Emptying.{crossed_if_protecting}
use Rattle.model.specs.Emptying.{release_outcome}
use Rattle.model.specs.Moves.{with_released}
use Rattle.model.specs.Moves.{with_free, set_gone_of}
use Rattle.model.specs.Outcome.{outcome, worker_gate}
use Rattle.model.specs.Owning.{IsStore}
use Rattle.model.specs.Phases.{is_idle}
use Rattle.model.specs.Protections.{free_count}
use Rattle.model.specs.Refusing.{DoesStep}
use Rattle.model.specs.States.{HeapState, change_at, change_found}
use Rattle.model.specs.Stores.{StoreState, page_at, state_at, state_in, frame_in, is_from}
use Rattle.model.proofs.Lists.{get_set_same, get_set_other, get_within, count_set}
use Rattle.laws.proofs.Basics.{put_other}
use Rattle.page.proofs.Relocated.{from_framed, used_there}
use Rattle.refinement.specs.Standing.{KeepsStanding}
use Rattle.refinement.proofs.Changes.{get_changed}
use Rattle.refinement.proofs.Accepted.{OnAccepted, of_accepted, on_bind, on_unless}
use Rattle.managed.specs.Goings.{Goes, IsScrub}
use Rattle.managed.specs.Sequences.{EndsStep}
use Rattle.managed.specs.Collecting.{IsCollecting, EndsCrossing}
use Rattle.managed.specs.Emptying.{IsBare, PageFreed, PagesFreed, EndsPage, EndsPages, StopsPages}
use Rattle.managed.specs.Emptying.{EndsRelease, EndsProtected, EndsEmptying, whether_told}
use Rattle.managed.proofs.Going.{goes_none, goes_then}
use Rattle.managed.proofs.Gathering.{collect_step, crossing_goes, scrubs_collect}
use Rattle.managed.proofs.Sequences.{step_ends, step_goes, then_goes}
use Rattle.managed.proofs.Frames.{SameFrames, bare_same, copy_page_phase, copy_page_row, crossings_same_frames}
use Rattle.managed.proofs.Frames.{free_same}
use Rattle.managed.proofs.Frames.{scrubs_same_frames, state_same}

-- ---- a page gives its memory up

from_is : (s : PageState) → not (is_from s) ≡ false → s ≡ From
from_is From e = refl
from_is Unused e = absurd (cc)
from_is Open e = absurd (cc)
from_is Closed e = absurd (cc)
from_is Gone e = absurd (cc)

record Releases (h : HeapState) (n : ℕ) (g : HeapState) : Type 0 where
  from : state_at h.store n ≡ From
  is : g.store ≡ with_released h.store n
  phase : g.phase ≡ h.phase

release_row : (h : HeapState) (w n : ℕ)
    → OnAccepted (λ (z : HeapState × Answer). Releases h n z.0) (outcome h (Worker w) (steps.Release n))
unfolding outcome release_outcome
release_row h w n = on_bind (worker_gate h w (steps.Release n)) _ _ (λ t f. on_unless (is_idle h.phase) _ _ _ (λ u.
    on_bind (crossed_if_protecting h) _ _ (λ v g. on_unless (not (is_from (state_at h.store n))) _ _ _ (λ x.
    on_unless (list_any is_uncopied (of_page h.sides n)) _ _ _ (λ y.
    record { from = from_is (state_at h.store n) x; is = refl; phase = refl })))))

gone_at : (ps : List Page) (i : ℕ) → frame_in (slice_get (change_at ps i set_gone_of) i) ≡ None
gone_at ps i = by_page (slice_get ps i) refl
  where
    by_page : (o : Option Page) → slice_get ps i ≡ o
        → frame_in (slice_get (change_found ps i o set_gone_of) i) ≡ None
    by_page None e = ap frame_in e
    by_page (Some p) e = ap frame_in (get_set_same ps i p (set_gone_of p) e)

gone_stays : (ps : List Page) (i j : ℕ) → frame_in (slice_get ps j) ≡ None
    → frame_in (slice_get (change_at ps i set_gone_of) j) ≡ None
gone_stays ps i j b = by_place (cases_eq j i)
  where
    other : (o : Option Page) → j ≢ i → frame_in (slice_get (change_found ps i o set_gone_of) j) ≡ None
    other None d = b
    other (Some p) d = ap frame_in (get_set_other ps i j (set_gone_of p) d) ∙ b

    by_place : (j ≡ i) ⊎ (j ≢ i) → frame_in (slice_get (change_at ps i set_gone_of) j) ≡ None
    by_place (inl e) = subst (λ (k : ℕ). frame_in (slice_get (change_at ps i set_gone_of) k) ≡ None) (sym e)
        (gone_at ps i)
    by_place (inr d) = other (slice_get ps i) d

released_bare : (s : StoreState) (n : ℕ) → frame_in (page_at (with_released s n) n) ≡ None
unfolding page_at with_released
released_bare s n = by_test (nat_eq n 0)
  where
    by_test : (b : Bool)
        → frame_in (cond b None (slice_get (change_at s.pages (n - 1) set_gone_of) (n - 1))) ≡ None
    by_test true = refl
    by_test false = gone_at s.pages (n - 1)

released_stay : (s : StoreState) (n m : ℕ) → frame_in (page_at s m) ≡ None
    → frame_in (page_at (with_released s n) m) ≡ None
unfolding page_at with_released
released_stay s n m b = by_test (nat_eq m 0) b
  where
    by_test : (z : Bool) → frame_in (cond z None (slice_get s.pages (m - 1))) ≡ None
        → frame_in (cond z None (slice_get (change_at s.pages (n - 1) set_gone_of) (m - 1))) ≡ None
    by_test true k = refl
    by_test false k = gone_stays s.pages (n - 1) (m - 1) k

not_unused : From ≡ Unused → ⊥
not_unused e = cc

-- its state, and those of others
released_gone : (s : StoreState) (n : ℕ) → state_at s n ≡ From → state_at (with_released s n) n ≡ Gone
unfolding state_at page_at with_released
released_gone s n from = by_test (nat_eq n 0) from
  where
    by_page : (o : Option Page) → slice_get s.pages (n - 1) ≡ o → state_in o ≡ From
        → state_in (slice_get (change_found s.pages (n - 1) o set_gone_of) (n - 1)) ≡ Gone
    by_page None e f = absurd (not_unused (sym f))
    by_page (Some p) e f = ap state_in (get_set_same s.pages (n - 1) p (set_gone_of p) e)

    by_test : (z : Bool) → state_in (cond z None (slice_get s.pages (n - 1))) ≡ From
        → state_in (cond z None (slice_get (change_at s.pages (n - 1) set_gone_of) (n - 1))) ≡ Gone
    by_test true f = absurd (not_unused (sym f))
    by_test false f = by_page (slice_get s.pages (n - 1)) refl f

before_same : (n m : ℕ) → nat_eq n 0 ≡ false → nat_eq m 0 ≡ false → m - 1 ≡ n - 1 → m ≡ n
before_same n m a b e = grind (arith, nat_tests)

released_others : (s : StoreState) (n m : ℕ) → state_at s n ≡ From → m ≢ n
    → state_at (with_released s n) m ≡ state_at s m
unfolding state_at page_at with_released
released_others s n m from d = by_test (nat_eq m 0) refl (nat_eq n 0) refl from
  where
    by_test : (z : Bool) → nat_eq m 0 ≡ z → (y : Bool) → nat_eq n 0 ≡ y
        → state_in (cond y None (slice_get s.pages (n - 1))) ≡ From
        → state_in (cond z None (slice_get (change_at s.pages (n - 1) set_gone_of) (m - 1)))
        ≡ state_in (cond z None (slice_get s.pages (m - 1)))
    by_test true a y b f = refl
    by_test false a true b f = absurd (not_unused (sym f))
    by_test false a false b f = ap state_in (get_changed s.pages (n - 1) set_gone_of (m - 1)
        ∙ put_other (slice_get s.pages) (n - 1) (option_map set_gone_of (slice_get s.pages (n - 1))) (m - 1)
        (λ same. d (before_same n m b a same)))

released_count : (s : StoreState) (n : ℕ) → (with_released s n).count ≡ s.count
unfolding with_released
released_count s n = refl

released_more : (s : StoreState) (n : ℕ) → IsStore s → state_at s n ≡ From
    → free_count (with_released s n) ≡ free_count s + 1
unfolding free_count with_released
released_more s n h from = by_page (get_within s.pages (n - 1) there.0)
  where
    there : (n - 1 < length s.pages) × (state_in (slice_get s.pages (n - 1)) ≡ From)
        × (page_at s n ≡ slice_get s.pages (n - 1))
    there = used_there s n From from not_unused

    by_frame : (p : Page) → slice_get s.pages (n - 1) ≡ Some p → (o : Option ℕ) → p.frame ≡ o
        → count_by is_none (with_free s.owners o) ≡ count_by is_none s.owners + 1
    by_frame p at None e = absurd (from_framed s (n - 1) p h at (sym (ap state_in at) ∙ there.1) e)
    by_frame p at (Some f) e =
        let counts : count_by is_none (set s.owners f None) + 0 ≡ count_by is_none s.owners + 1 =
        count_set is_none s.owners f (Some ((n - 1) + 1)) None (h.owning.owned (n - 1) f p at e) in
        omega (arith, counts)

    by_page : (p : Page) × (slice_get s.pages (n - 1) ≡ Some p)
        → count_by is_none (with_free s.owners (frame_in (page_at s n))) ≡ count_by is_none s.owners + 1
    by_page x = ap (λ (o : Option Page). count_by is_none (with_free s.owners (frame_in o))) (there.2 ∙ x.1)
        ∙ by_frame x.0 x.1 x.0.frame refl

-- the step that gives a page's memory up
pub released : (w : ℕ) (h g : HeapState) (n : ℕ) (reply : Result Answer Refusal) (result : Result Unit Refusal)
    → result ≡ whether_told reply → IsStore h.store
    → DoesStep h (steps.Release n) reply g (outcome h (Worker w) (steps.Release n))
    → KeepsStanding h (Worker w) (steps.Release n) reply g → EndsRelease w h n result g
released w h g n (Err e) result told s does keeps =
    subst (λ (r : Result Unit Refusal). EndsRelease w h n r g) (sym told) does
released w h g n (Ok a) result told s does keeps =
    let r : Releases h n g = of_accepted (λ (z : HeapState × Answer). Releases h n z.0)
    (outcome h (Worker w) (steps.Release n)) (g, a) (release_row h w n) does in
    subst (λ (r : Result Unit Refusal). EndsRelease w h n r g) (sym told) (record {
      goes = collect_step w h g (steps.Release n) (Ok a) does keeps;
      bare = ap (λ (t : StoreState). frame_in (page_at t n)) r.is ∙ released_bare h.store n;
      stay = λ m b. ap (λ (t : StoreState). frame_in (page_at t m)) r.is ∙ released_stay h.store n m b;
      more = ap free_count r.is ∙ released_more h.store n s r.from;
      gone = ap (λ (t : StoreState). state_at t n) r.is ∙ released_gone h.store n r.from;
      others = λ m d. ap (λ (t : StoreState). state_at t m) r.is ∙ released_others h.store n m r.from d;
      count = ap (λ (t : StoreState). t.count) r.is ∙ released_count h.store n;
      phase = r.phase;
    })

-- ---- a page, and all of them

-- a page is copied, and gives its memory up
pub page_then : (w : ℕ) (h m g : HeapState) (n : ℕ) (r : Result Answer Refusal) (a : Answer)
    (result : Result Unit Refusal) → r ≡ Ok a
    → DoesStep h (steps.CopyPage n) r m (outcome h (Worker w) (steps.CopyPage n))
    → KeepsStanding h (Worker w) (steps.CopyPage n) r m → EndsRelease w m n result g → EndsPage w h n result g
page_then w h m g n (Err x) a result is does keeps b = absurd (cc)
page_then w h m g n (Ok x) a (Ok u) is does keeps b =
    let same : SameFrames h m = of_accepted (λ (z : HeapState × Answer). SameFrames h z.0)
    (outcome h (Worker w) (steps.CopyPage n)) (m, x) (copy_page_row h w n) does in
    record {
      goes = goes_then (IsCollecting w) h m g (collect_step w h m (steps.CopyPage n) (Ok x) does keeps) b.goes;
      bare = b.bare;
      stay = λ k z. b.stay k (bare_same h m k same z);
      more = b.more ∙ ap (λ (c : ℕ). c + 1) (free_same h m same);
      gone = b.gone;
      others = λ k d. b.others k d ∙ state_same h m k same;
      count = b.count ∙ same.count;
      phase = b.phase ∙ of_accepted (λ (z : HeapState × Answer). z.0.phase ≡ h.phase)
          (outcome h (Worker w) (steps.CopyPage n)) (m, x) (copy_page_phase h w n) does;
    }
page_then w h m g n (Ok x) a (Err e) is does keeps b = (
  subst (Goes (IsCollecting w) h) (sym b.1) (collect_step w h m (steps.CopyPage n) (Ok x) does keeps),
  inr (m, x, step_ends (Worker w) (steps.CopyPage n) h m (Ok x) does keeps, b),
)

-- the phase stays
pub page_phase : (w : ℕ) (h m g : HeapState) (n : ℕ) (r : Result Unit Refusal) (u : Unit {0}) → r ≡ Ok u
    → EndsPage w m n r g → m.phase ≡ h.phase → g.phase ≡ h.phase
page_phase w h m g n r u is k before =
    let f : PageFreed w m n g = subst (λ (x : Result Unit Refusal). EndsPage w m n x g) is k in f.phase ∙ before

pages_none : (w : ℕ) (h : HeapState) → PagesFreed w h [] h
pages_none w h = record {
  goes = goes_none (IsCollecting w) h;
  bare = tt;
  stay = λ m b. b;
  more = omega arith;
}

-- a page, and then others
pages_more : (w : ℕ) (h m g : HeapState) (n : ℕ) (ns : List ℕ) → PageFreed w h n m → PagesFreed w m ns g
    → PagesFreed w h (n ∷ ns) g
pages_more w h m g n ns a b = record {
  goes = goes_then (IsCollecting w) h m g a.goes b.goes;
  bare = (b.stay n a.bare, b.bare);
  stay = λ k z. b.stay k (a.stay k z);
  more = let is : length (n ∷ ns) ≡ length ns + 1 = omega arith in omega (arith, a.more, b.more, is);
}

freed_then : (w : ℕ) (h m g : HeapState) (n : ℕ) (ns : List ℕ) (r : Result Unit Refusal) → PageFreed w h n m
    → EndsPages w m ns r g → EndsPages w h (n ∷ ns) r g
freed_then w h m g n ns (Ok u) a b = pages_more w h m g n ns a b
freed_then w h m g n ns (Err e) a b = record {
  goes = goes_then (IsCollecting w) h m g a.goes b.goes;
  before = n ∷ b.before;
  page = b.page;
  behind = b.behind;
  order = ap (λ (xs : List ℕ). n ∷ xs) b.order;
  there = b.there;
  freed = pages_more w h m b.there n b.before a b.freed;
  stops = b.stops;
}

stops_first : (w : ℕ) (h g : HeapState) (n : ℕ) (ns : List ℕ) (e : Refusal) → EndsPage w h n (Err e) g
    → StopsPages w h (n ∷ ns) e g
stops_first w h g n ns e k = record {
  goes = k.0;
  before = [];
  page = n;
  behind = ns;
  order = refl;
  there = h;
  freed = pages_none w h;
  stops = k.1;
}

-- the rest of pages that are emptied ends as all of them do
abbrev pub IsRest : ℕ → HeapState → List ℕ → HeapState → List ℕ → Type 0
IsRest w h ns m ms = (r : Result Unit Refusal) (g : HeapState) → EndsPages w m ms r g → EndsPages w h ns r g

pub rest_first : (w : ℕ) (h : HeapState) (ns : List ℕ) → IsRest w h ns h (drop 0 ns)
rest_first w h [] = λ r g k. k
rest_first w h (n ∷ ns) = λ r g k. k

pub rest_more : (w : ℕ) (h m k : HeapState) (ns : List ℕ) (i : ℕ) (r : Result Unit Refusal) (u : Unit {0})
    → i < length ns → r ≡ Ok u → EndsPage w m (get_or ns i 0) r k → IsRest w h ns m (drop i ns)
    → IsRest w h ns k (drop (i + 1) ns)
rest_more w h m k ns i r u l is ends rest s g b =
    let one : PageFreed w m (get_or ns i 0) k =
    subst (λ (x : Result Unit Refusal). EndsPage w m (get_or ns i 0) x k) is ends in
    rest s g (subst (λ (ms : List ℕ). EndsPages w m ms s g) (sym (drop_more ns i 0 l))
    (freed_then w m k g (get_or ns i 0) (drop (i + 1) ns) s one b))

pub rest_stops : (w : ℕ) (h m g : HeapState) (ns : List ℕ) (i : ℕ) (r : Result Unit Refusal) (e : Refusal)
    → i < length ns → r ≡ Err e → EndsPage w m (get_or ns i 0) r g → IsRest w h ns m (drop i ns)
    → EndsPages w h ns (Err e) g
rest_stops w h m g ns i r e l is ends rest =
    rest (Err e) g (subst (λ (ms : List ℕ). EndsPages w m ms (Err e) g) (sym (drop_more ns i 0 l))
    (stops_first w m g (get_or ns i 0) (drop (i + 1) ns) e
    (subst (λ (x : Result Unit Refusal). EndsPage w m (get_or ns i 0) x g) is ends)))

pub rest_ends : (w : ℕ) (h g : HeapState) (ns : List ℕ) (i : ℕ) → length ns ≤ i → IsRest w h ns g (drop i ns)
    → EndsPages w h ns (Ok tt) g
rest_ends w h g ns i l rest = rest (Ok tt) g
    (subst (λ (ms : List ℕ). EndsPages w g ms (Ok tt) g) (sym (drop_all i ns l)) (pages_none w g))

-- registers are corrected behind it
all_bare : (h g : HeapState) (ns : List ℕ) → SameFrames h g → AllByRecursion (IsBare h) ns
    → AllByRecursion (IsBare g) ns
all_bare h g [] k b = tt
all_bare h g (n ∷ ns) k b = (bare_same h g n k b.0, all_bare h g ns k b.1)

pub pages_scrubbed : (w : ℕ) (h m g : HeapState) (ns : List ℕ) (r : Result Unit Refusal) (u : Unit {0}) → r ≡ Ok u
    → EndsPages w h ns r m → Goes IsScrub m g → EndsPages w h ns (Ok u) g
pages_scrubbed w h m g ns (Err e) u is a b = absurd (cc)
pages_scrubbed w h m g ns (Ok v) u is a b =
    let same = scrubs_same_frames m g b in
    record {
      goes = goes_then (IsCollecting w) h m g a.goes (scrubs_collect w m g b);
      bare = all_bare m g ns same a.bare;
      stay = λ k z. bare_same m g k same (a.stay k z);
      more = free_same m g same ∙ a.more;
    }

-- ---- the steps of all of it

pages_goes : (w : ℕ) (ns : List ℕ) (h g : HeapState) (r : Result Unit Refusal) → EndsPages w h ns r g
    → Goes (IsCollecting w) h g
pages_goes w ns h g (Ok u) k = k.goes
pages_goes w ns h g (Err e) k = k.goes

pub protected_goes : (w : ℕ) (ns : List ℕ) (h g : HeapState) (r : Result Unit Refusal) → EndsProtected w h ns r g
    → Goes (IsCollecting w) h g
protected_goes w ns h g r k = then_goes (EndsCrossing w) (λ (u : Unit {0}) (m : HeapState). EndsPages w m ns)
    (IsCollecting w) (crossing_goes w) (λ u. pages_goes w ns) h g r k

pub emptying_goes : (w : ℕ) (ns : List ℕ) (h g : HeapState) (r : Result Unit Refusal) → EndsEmptying w h ns r g
    → Goes (IsCollecting w) h g
emptying_goes w ns h g r k = then_goes (EndsStep (Worker w) (steps.Protect ns))
    (λ (a : Answer) (m : HeapState). EndsProtected w m ns) (IsCollecting w)
    (step_goes (IsCollecting w) (Worker w) (steps.Protect ns) refl) (λ a. protected_goes w ns) h g r k

-- protected pages that were emptied: crossings leave all frames as they are
pub protected_freed : (w : ℕ) (ns : List ℕ) (h g : HeapState) (u : Unit {0}) → EndsProtected w h ns (Ok u) g
    → PagesFreed w h ns g
protected_freed w ns h g u k =
    let m = k.0 in
    let same = crossings_same_frames w h m k.2.0 in
    record {
      goes = protected_goes w ns h g (Ok u) k;
      bare = k.3.bare;
      stay = λ i z. k.3.stay i (bare_same h m i same z);
      more = k.3.more ∙ ap (λ (x : ℕ). x + length ns) (free_same h m same);
    }

-- Protecting pages, and opening targets for their live objects.
use Rattle.std.specs.List.{list_any}
use Rattle.std.specs.Prelude.{ℕ, ◌+◌, ◌-◌, ◌==◌, ◌&&◌, ◌||◌, zero, suc, not, Bool, true, false, List, [], ◌∷◌, map}
use Rattle.std.specs.Prelude.{length, count_by, is_none, nat_lt, if◌then◌else◌, Result, Ok, Err}
use Rattle.model.specs.declared.records.Buffer.{Buffer}
use Rattle.model.specs.declared.records.Page.{Page}
use Rattle.model.specs.declared.records.PageState.{PageState}
use Rattle.model.specs.declared.records.PageState.TheVariants.{Closed, From}
use Rattle.model.specs.declared.records.Phase.TheVariants.{ProtectCrossing}
use Rattle.model.specs.declared.records.Room.{Room}
use Rattle.model.specs.declared.steps.Answer.TheVariants as answers
use Rattle.model.specs.declared.steps.Refusal.{Refusal}
use Rattle.model.specs.declared.steps.Refusal.TheVariants as refusals
use Rattle.model.specs.Phases.{is_idle}
use Rattle.model.specs.Stores.{StoreState, state_at, is_open, is_unused, free_frame, unused_page, take_fresh}
use Rattle.model.specs.Refusing.{◌>>=◌, refuse_if, Outcome}
use Rattle.model.specs.States.{HeapState, change_at}
use Rattle.model.specs.Threads.{set_crossed_of}
use Rattle.model.specs.Buffers.{opened_rows}
use Rattle.model.specs.Cycles.{is_lent}
use Rattle.model.specs.Plans.{plan_of, target_count, moves_of, with_sides}

-- targets

-- a store with a fresh page that is given out completely, and that page as a buffer, if there is space
unfoldable pub take_target : StoreState → Result (StoreState × Buffer) Room
take_target s = take_fresh s s.words (free_frame s.owners) (unused_page s.count s.pages)

-- the heap with a page that was taken from its store
unfoldable pub with_target : HeapState → StoreState × Buffer → HeapState
with_target h x = record h {
  store = x.0;
  starts = opened_rows x.0.words x.1 h.starts;
  live = opened_rows x.0.words x.1 h.live;
  mark = opened_rows x.0.words x.1 h.mark;
  todo = opened_rows x.0.words x.1 h.todo;
}

-- a heap with one target and those that follow it, and their pages
abbrev pub behind_target : (HeapState → HeapState × List ℕ) → HeapState → Result (StoreState × Buffer) Room
    → HeapState × List ℕ
behind_target others h (Err e) = (h, [])
behind_target others h (Ok x) = ((others (with_target h x)).0, x.1.page ∷ (others (with_target h x)).1)

-- the heap with k targets, and their pages, in the order in which they were opened
abbrev pub with_targets : ℕ → HeapState → HeapState × List ℕ
with_targets zero h = (h, [])
with_targets (suc k) h = behind_target (with_targets k) h (take_target h.store)

-- protected pages

-- a From page
abbrev pub set_from_of : Page → Page
set_from_of p = record p { state = From }

-- records after these pages became From
abbrev pub with_from_pages : List ℕ → List Page → List Page
with_from_pages [] ps = ps
with_from_pages (n ∷ ns) ps = with_from_pages ns (change_at ps (n - 1) set_from_of)

-- the heap g after these pages of it became From, whose live objects have these moves: all threads count as not
-- crossed
unfoldable pub with_protected : HeapState → HeapState → List ℕ → List (ℕ × ℕ) → HeapState
with_protected h g pages moves = record g {
  store = record g.store { pages = with_from_pages pages g.store.pages };
  sides = with_sides h moves pages g.sides;
  threads = map (set_crossed_of false) g.threads;
  phase = ProtectCrossing;
}

-- the heap after pages were protected, and targets opened for their live objects
abbrev pub protect_with : HeapState → List ℕ → HeapState × List ℕ → HeapState
protect_with h pages x = with_protected h x.0 pages (moves_of h pages x.1)

unfoldable pub protect : HeapState → List ℕ → HeapState
protect h pages = protect_with h pages (with_targets (target_count (plan_of h pages)) h)

-- the outcome of Protect

-- pages of this state may be protected
abbrev pub is_closed : PageState → Bool
is_closed Closed = true
is_closed _ = false

-- Ok if page n may be protected, which a closed one may
unfoldable pub ripe : HeapState → ℕ → Result Unit Refusal
ripe h n =
    if is_open (state_at h.store n) && is_lent h.threads n then Err (refusals.Lent n) else
    (if is_closed (state_at h.store n) then Ok tt else Err (refusals.Unripe n))

-- Ok if all these pages may be protected, else the error of the first that may not
abbrev pub all_ripe : HeapState → List ℕ → Result Unit Refusal
all_ripe h [] = Ok tt
all_ripe h (n ∷ ns) = ripe h n >>= λ _. all_ripe h ns

-- page n doesn't exist
abbrev pub no_page_in : StoreState → ℕ → Bool
no_page_in s n = (n == 0) || nat_lt s.count n

-- a number is in a list twice
abbrev pub has_twice : List ℕ → Bool
has_twice [] = false
has_twice (n ∷ ns) = list_any (λ m. m == n) ns || has_twice ns

-- a list of pages that is empty, or names one that doesn't exist, or one twice
abbrev pub are_bad_pages : HeapState → List ℕ → Bool
are_bad_pages h [] = true
are_bad_pages h (n ∷ ns) = list_any (no_page_in h.store) (n ∷ ns) || has_twice (n ∷ ns)

-- how many frames are free
unfoldable pub free_count : StoreState → ℕ
free_count s = count_by is_none s.owners

-- how many pages are unused, including those without a record
unfoldable pub unused_count : StoreState → ℕ
unused_count s = count_by (λ (p : Page). is_unused p.state) s.pages + (s.count - length s.pages)

-- Ok if there are frames and pages for a number of targets
unfoldable pub room_for : StoreState → ℕ → Result Unit Refusal
room_for s need =
    if nat_lt (free_count s) need then Err (refusals.NoFrames need (free_count s)) else
    (if nat_lt (unused_count s) need then Err refusals.NoPages else Ok tt)

-- the outcome of Protect
unfoldable pub protect_outcome : HeapState → List ℕ → Outcome
protect_outcome h pages = do
  _ ← refuse_if (not (is_idle h.phase)) refusals.Phase
  _ ← all_ripe h pages
  _ ← room_for h.store (target_count (plan_of h pages))
  Ok (protect h pages, answers.Protected (length (plan_of h pages)) (target_count (plan_of h pages)))

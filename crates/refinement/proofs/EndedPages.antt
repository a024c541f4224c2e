-- Pages, their bitmaps and their words after the end of a mark.
use Rattle.std.proofs.Common.{◌≡◌, ◌≢◌, ◌⊎◌, inl, inr, ℕ, zero, suc, ◌+◌, ◌-◌, ◌/◌, ◌%◌}
use Rattle.std.proofs.Common.{Bool, true, false, cond, count_by, List, [], ◌∷◌, length, map, replicate}
use Rattle.std.proofs.Common.{get_or}
use Rattle.std.proofs.Common.{Option, Some, None, refl, sym, ◌∙◌, ap, arith}
use Rattle.std.specs.List.{slice_get}
use Rattle.std.specs.Option.{option_map}
use Rattle.std.proofs.lemmas.Bool.{cases_eq, false≢true}
use Rattle.std.proofs.lemmas.List.Sums.{sum_by-cons}
use Rattle.model.specs.declared.records.Page.{Page}
use Rattle.model.specs.declared.records.PageState.{PageState}
use Rattle.model.specs.declared.records.PageState.TheVariants.{Unused, Open, Closed, From, Gone}
use Rattle.model.specs.declared.records.Forwarding.{Forwarding}
use Rattle.model.specs.Stores.{StoreState, page_at, frame_in, state_at, state_in, is_open, is_protected}
use Rattle.model.specs.Stores.{has_memory, page_after_mark, pages_after_mark, store_after_mark}
use Rattle.model.specs.Stores.{owner_after_mark, frames_owned}
use Rattle.model.specs.Owning.{IsStore}
use Rattle.model.specs.Bits.{of_page, bit_at, blank_row, blank_all, bit_count}
use Rattle.model.specs.Cycles.{rows_after_mark}
use Rattle.model.proofs.Lists.{none_counted}
use Rattle.model.proofs.Memory.{page_record}
use Rattle.model.proofs.Tables.{get_map}
use Rattle.page.proofs.Ended.{kept_owned}
use Rattle.page.proofs.Keeping.{page_at_record, page_at_zero}
use Rattle.laws.specs.Edits.{state_after_mark}
use Rattle.refinement.proofs.Changes.{list_of, list_read, blank_bit}

-- pages

pub get_after : (lent : ℕ → Bool) (n : ℕ) (ps : List Page) (i j : ℕ) → j ≡ n + i
    → slice_get (pages_after_mark lent n ps) i ≡ option_map (page_after_mark (lent j)) (slice_get ps i)
get_after lent n [] i j e = refl
get_after lent n (p ∷ ps) zero j e = ap (λ m. Some (page_after_mark (lent m) p)) (omega (arith, e))
get_after lent n (p ∷ ps) (suc i) j e = get_after lent (n + 1) ps i j (omega (arith, e))

pub length_after : (lent : ℕ → Bool) (n : ℕ) (ps : List Page) → length (pages_after_mark lent n ps) ≡ length ps
length_after lent n [] = refl
length_after lent n (p ∷ ps) = ap suc (length_after lent (n + 1) ps)

-- the page after a mark
pub page_after : (lent : ℕ → Bool) (s : StoreState) (n : ℕ)
    → page_at (store_after_mark lent s) n ≡ option_map (page_after_mark (lent n)) (page_at s n)
unfolding store_after_mark
page_after lent s n = by_zero (cases_eq n 0)
  where
    after : StoreState
    after = store_after_mark lent s

    by_zero : (n ≡ 0) ⊎ (n ≢ 0) → page_at after n ≡ option_map (page_after_mark (lent n)) (page_at s n)
    by_zero (inl z) = page_at_zero after n z ∙ sym (ap (option_map (page_after_mark (lent n))) (page_at_zero s n z))
    by_zero (inr d) = page_at_record after n d ∙ get_after lent 1 s.pages (n - 1) n (omega (arith, d))
        ∙ sym (ap (option_map (page_after_mark (lent n))) (page_at_record s n d))

-- a page of this state, after a mark
abbrev in_state : Bool → Page → PageState → Page
in_state lent p f = page_after_mark lent (record p { state = f })

-- a property of the page after a mark, by the page's state
by_states : (lent : Bool) (p : Page) (P : PageState → Page → Type 0)
    → ((f : PageState) → P f (in_state lent p f)) → P p.state (page_after_mark lent p)
by_states lent p P h = h p.state

-- the state of the page after a mark
state_is : (lent : Bool) (p : Page) (f : PageState) → (in_state lent p f).state ≡ state_after_mark lent f
state_is true p Open = refl
state_is false p Open = refl
state_is lent p Unused = refl
state_is lent p Closed = refl
state_is lent p From = refl
state_is lent p Gone = refl

pub state_of : (lent : Bool) (o : Option Page)
    → state_in (option_map (page_after_mark lent) o) ≡ state_after_mark lent (state_in o)
state_of lent None = refl
state_of lent (Some p) = by_states lent p (λ f q. q.state ≡ state_after_mark lent f) (state_is lent p)

-- the frame that the page keeps
frame_is : (lent : Bool) (p : Page) (f : PageState) → (in_state lent p f).frame ≡ cond (is_protected f) None p.frame
frame_is true p Open = refl
frame_is false p Open = refl
frame_is lent p Unused = refl
frame_is lent p Closed = refl
frame_is lent p From = refl
frame_is lent p Gone = refl

pub frame_of : (lent : Bool) (o : Option Page)
    → frame_in (option_map (page_after_mark lent) o) ≡ cond (is_protected (state_in o)) None (frame_in o)
frame_of lent None = refl
frame_of lent (Some p) =
    by_states lent p (λ f q. q.frame ≡ cond (is_protected f) None p.frame) (frame_is lent p)

-- a page that is open was, and has given out the same words
open_is : (lent : Bool) (p : Page) (f : PageState) → is_open (in_state lent p f).state ≡ true
    → (is_open f ≡ true) × ((in_state lent p f).top ≡ p.top)
open_is true p Open e = (refl, refl)
open_is false p Open e = absurd (cc)
open_is lent p Unused e = absurd (cc)
open_is lent p Closed e = absurd (cc)
open_is lent p From e = absurd (cc)
open_is lent p Gone e = absurd (cc)

pub open_of : (lent : Bool) (p : Page) → is_open (page_after_mark lent p).state ≡ true
    → (is_open p.state ≡ true) × ((page_after_mark lent p).top ≡ p.top)
open_of lent p = by_states lent p
    (λ f q. is_open q.state ≡ true → (is_open f ≡ true) × (q.top ≡ p.top)) (open_is lent p)

-- a page with memory had it, and wasn't protected
pub memory_is : (lent : Bool) (f : PageState) → has_memory (state_after_mark lent f) ≡ true
    → (has_memory f ≡ true) × (is_protected f ≡ false)
memory_is true Open e = (refl, refl)
memory_is false Open e = (refl, refl)
memory_is lent Closed e = (refl, refl)
memory_is lent Unused e = absurd (cc)
memory_is lent From e = absurd (cc)
memory_is lent Gone e = absurd (cc)

-- a page with memory that isn't protected keeps it
pub memory_kept : (lent : Bool) (f : PageState) → has_memory f ≡ true → is_protected f ≡ false
    → state_after_mark lent f ≢ Unused
memory_kept true Open e u = λ z. cc
memory_kept false Open e u = λ z. cc
memory_kept lent Closed e u = λ z. cc
memory_kept lent Unused e u = absurd (cc)
memory_kept lent From e u = absurd (cc)
memory_kept lent Gone e u = absurd (cc)

-- bitmaps

pub no_side : (n m : ℕ) → of_page (replicate {A = List Forwarding} n []) m ≡ []
no_side n zero = refl
no_side n (suc i) = list_read (replicate {A = List Forwarding} n []) i ∙ at n i
  where
    at : (n i : ℕ) → list_of (slice_get (replicate {A = List Forwarding} n []) i) ≡ []
    at zero i = refl
    at (suc n) zero = refl
    at (suc n) (suc i) = at n i

pub blank_everywhere : (rows : List (List Bool)) (m o : ℕ) → get_or (of_page (blank_all rows) m) o false ≡ false
blank_everywhere rows zero o = refl
blank_everywhere rows (suc i) o = ap (λ r. get_or r o false) (list_read (blank_all rows) i) ∙ at rows i
  where
    at : (rows : List (List Bool)) (i : ℕ) → get_or (list_of (slice_get (map blank_row rows) i)) o false ≡ false
    at [] i = refl
    at (r ∷ rows) zero = blank_bit (length r) o
    at (r ∷ rows) (suc i) = at rows i

bits_more : (r : List Bool) (rows : List (List Bool)) → bit_count (r ∷ rows) ≡ count_by (λ b. b) r + bit_count rows
bits_more r rows = sum_by-cons (count_by (λ b. b)) r rows

pub none_set : (rows : List (List Bool)) → bit_count rows ≡ 0 → (m o : ℕ) → get_or (of_page rows m) o false ≡ false
none_set rows e zero o = refl
none_set rows e (suc i) o = ap (λ r. get_or r o false) (list_read rows i) ∙ at rows e i
  where
    at : (rows : List (List Bool)) → bit_count rows ≡ 0 → (i : ℕ) → get_or (list_of (slice_get rows i)) o false ≡ false
    at [] e i = refl
    at (r ∷ rows) e zero = none_counted r (omega (arith, e, bits_more r rows)) o
    at (r ∷ rows) e (suc i) = at rows (omega (arith, e, bits_more r rows)) i

-- the bitmap of a page, which loses it if it is protected
row_ended : (ps : List Page) (rows : List (List Bool)) (i : ℕ)
    → get_or (rows_after_mark ps rows) i [] ≡ cond (is_protected (state_in (slice_get ps i))) [] (get_or rows i [])
row_ended [] rows i = refl
row_ended (p ∷ ps) [] i = same (is_protected (state_in (slice_get (p ∷ ps) i)))
  where
    same : (b : Bool) → ◌≡◌ {A = List Bool} [] (cond b [] [])
    same true = refl
    same false = refl
row_ended (p ∷ ps) (row ∷ rows) zero = refl
row_ended (p ∷ ps) (row ∷ rows) (suc i) = row_ended ps rows i

state_of_record : (s : StoreState) (i : ℕ) → state_at s (suc i) ≡ state_in (slice_get s.pages i)
unfolding state_at
state_of_record s i =
    let back : suc i - 1 ≡ i = omega arith in
    ap state_in (page_at_record s (suc i) (λ z. absurd (omega (arith, z))))
    ∙ ap (λ j. state_in (slice_get s.pages j)) back

-- a bit stays that isn't set on a protected page
pub bit_ended : (s : StoreState) (rows : List (List Bool)) (a : ℕ)
    → (is_protected (state_at s (a / s.words)) ≡ true → bit_at rows s.words a ≡ false)
    → bit_at (rows_after_mark s.pages rows) s.words a ≡ bit_at rows s.words a
bit_ended s rows a h = by_page (a / s.words) h
  where
    by_test : (i : ℕ) (b : Bool) → (b ≡ true → get_or (get_or rows i []) (a % s.words) false ≡ false)
        → get_or (cond b [] (get_or rows i [])) (a % s.words) false ≡ get_or (get_or rows i []) (a % s.words) false
    by_test i true k = sym (k refl)
    by_test i false k = refl

    by_page : (n : ℕ) → (is_protected (state_at s n) ≡ true
        → get_or (of_page rows n) (a % s.words) false ≡ false)
        → get_or (of_page (rows_after_mark s.pages rows) n) (a % s.words) false
        ≡ get_or (of_page rows n) (a % s.words) false
    by_page zero k = refl
    by_page (suc i) k = ap (λ r. get_or r (a % s.words) false) (row_ended s.pages rows i)
        ∙ by_test i (is_protected (state_in (slice_get s.pages i))) (λ e. k (ap is_protected (state_of_record s i) ∙ e))

-- a bit that is set was set before
pub bit_was : (s : StoreState) (rows : List (List Bool)) (a : ℕ) → bit_at (rows_after_mark s.pages rows) s.words a ≡ true
    → bit_at rows s.words a ≡ true
bit_was s rows a e = by_page (a / s.words) e
  where
    by_test : (row : List Bool) (b : Bool) → get_or (cond b [] row) (a % s.words) false ≡ true
        → get_or row (a % s.words) false ≡ true
    by_test row true k = absurd (false≢true k)
    by_test row false k = k

    by_page : (n : ℕ) → get_or (of_page (rows_after_mark s.pages rows) n) (a % s.words) false ≡ true
        → get_or (of_page rows n) (a % s.words) false ≡ true
    by_page zero k = k
    by_page (suc i) k = by_test (get_or rows i []) (is_protected (state_in (slice_get s.pages i)))
        (sym (ap (λ r. get_or r (a % s.words) false) (row_ended s.pages rows i)) ∙ k)

-- a page that isn't protected keeps its words
pub kept_words : (s : StoreState) (n f : ℕ) → IsStore s → is_protected (state_in (page_at s n)) ≡ false
    → frame_in (page_at s n) ≡ Some f
    → slice_get (frames_owned (map (owner_after_mark s) s.owners) s.frames) f ≡ slice_get s.frames f
unfolding state_at
kept_words s n f h free frame =
    let (i, p, number, at, has) = page_record s n f frame in
    let owner : slice_get s.owners f ≡ Some (Some n) =
    h.owning.owned i f p at has ∙ ap (λ m. Some (Some m)) (sym number) in
    kept_owned (map (owner_after_mark s) s.owners) s.frames f n
    (get_map (owner_after_mark s) s.owners f (Some n) owner ∙ ap (λ b. Some (cond b None (Some n))) free)

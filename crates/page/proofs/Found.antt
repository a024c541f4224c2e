-- What a search for a page or a frame has found.
use Rattle.std.proofs.Common.{◌≡◌, ℕ, ◌+◌, ◌-◌, ◌<◌, ◌≤◌, ◌&&◌, Bool, true, false, cond, List}
use Rattle.std.proofs.Common.{[], ◌∷◌, length, Option, Some, None, is_some, is_none, position}
use Rattle.std.proofs.Common.{count_by, nat_le, IfSome, refl, sym, ◌∙◌, ap, arith, rules}
use Rattle.std.specs.List.{slice_get}
use Rattle.std.proofs.lemmas.Bool.Decides.{nat_tests}
use Rattle.std.proofs.lemmas.List.Sums.{sum_by-cons}
use Rattle.std.proofs.lemmas.List.Quantifiers.{position-Some}
use Rattle.std.proofs.lemmas.Bool.{and_parts}
use Rattle.model.specs.declared.records.Page.{Page}
use Rattle.model.specs.Stores.{has_room, is_open, is_unused, state_in, top_in, blank_page, page_with_room, free_frame}
use Rattle.model.proofs.Lists.{position_passes, get_within, count_positive}
use Rattle.page.specs.Records.{is_unused_in}

pub position_within : {X : Type 0} (p : X → Bool) (xs : List X) (i : ℕ) → position p xs ≡ Some i → (x : X)
    → i < length xs
position_within p xs i e x = (position-Some p xs i x e).0

pub room_left : (words n top : ℕ) (is_so : Bool) → 0 < n → is_so && nat_le n (words - top) ≡ true → top + n ≤ words
room_left words n top true low e = grind (arith, nat_tests)
room_left words n top false low e = absurd (cc)

none_is : (o : Option ℕ) → is_none o ≡ true → o ≡ None
none_is None e = refl
none_is (Some x) e = absurd (cc)

pub room_found : (words n : ℕ) (pages : List Page) (i : ℕ) → 0 < n → i < length pages
    → page_with_room words n pages ≡ Some i → top_in (slice_get pages i) + n ≤ words
unfolding page_with_room
room_found words n pages i low within e =
    let found = get_within pages i within in
    let passes = position_passes (has_room words n) pages i found.0 e found.1 in
    rw found.1 (room_left words n found.0.top (is_open found.0.state) low passes)

pub free_found : (owners : List (Option ℕ)) (f : ℕ) → f < length owners → free_frame owners ≡ Some f
    → slice_get owners f ≡ Some None
unfolding free_frame
free_found owners f within e =
    let found = get_within owners f within in
    found.1 ∙ ap Some (none_is found.0 (position_passes is_none owners f found.0 e found.1))

pub free_counts : (owners : List (Option ℕ)) (f : ℕ) → f < length owners → free_frame owners ≡ Some f
    → 0 < count_by is_none owners
free_counts owners f within e = count_positive is_none owners f None (free_found owners f within e) refl

pub unused_found : (pages : List Page) (i : ℕ) → i < length pages
    → position (λ (p : Page). is_unused p.state) pages ≡ Some i → is_unused_in (slice_get pages i) ≡ true
unused_found pages i within e =
    let found = get_within pages i within in
    rw found.1 (position_passes (λ (p : Page). is_unused p.state) pages i found.0 e found.1)

pub free_within : (owners : List (Option ℕ)) (f : ℕ) → free_frame owners ≡ Some f → f < length owners
unfolding free_frame
free_within owners f e = position_within is_none owners f e None

pub room_within : (words n : ℕ) (pages : List Page) (i : ℕ) → page_with_room words n pages ≡ Some i → Page
    → i < length pages
unfolding page_with_room
room_within words n pages i e p = position_within (has_room words n) pages i e p

pub room_passes : (words n : ℕ) (pages : List Page) (i : ℕ) → page_with_room words n pages ≡ Some i → (p : Page)
    → slice_get pages i ≡ Some p → has_room words n p ≡ true
unfolding page_with_room
room_passes words n pages i e p at = position_passes (has_room words n) pages i p e at

-- the same, of a search that may have found nothing

pub room_open : (words n : ℕ) (pages : List Page) (r : Option ℕ) → r ≡ page_with_room words n pages
    → IfSome r (λ i. is_open (state_in (slice_get pages i)) ≡ true)
room_open words n pages None e = search rules
room_open words n pages (Some i) e =
    let found = get_within pages i (room_within words n pages i (sym e) blank_page) in
    rw found.1 (and_parts (is_open found.0.state) _ (room_passes words n pages i (sym e) found.0 found.1)).0

pub room_enough : (words n : ℕ) (pages : List Page) (r : Option ℕ) → 0 < n → r ≡ page_with_room words n pages
    → IfSome r (λ i. top_in (slice_get pages i) + n ≤ words)
room_enough words n pages None low e = search rules
room_enough words n pages (Some i) low e =
    room_found words n pages i low (room_within words n pages i (sym e) blank_page) (sym e)

pub free_is : (owners : List (Option ℕ)) (r : Option ℕ) → r ≡ free_frame owners
    → IfSome r (λ f. slice_get owners f ≡ Some None)
free_is owners None e = search rules
free_is owners (Some f) e = free_found owners f (free_within owners f (sym e)) (sym e)

pub free_some : (owners : List (Option ℕ)) (r : Option ℕ) → r ≡ free_frame owners
    → IfSome r (λ f. 0 < count_by is_none owners)
free_some owners None e = search rules
free_some owners (Some f) e = free_counts owners f (free_within owners f (sym e)) (sym e)

pub unused_is : (pages : List Page) (r : Option ℕ) → r ≡ position (λ (p : Page). is_unused p.state) pages
    → IfSome r (λ i. is_unused_in (slice_get pages i) ≡ true)
unused_is pages None e = search rules
unused_is pages (Some i) e =
    unused_found pages i (position_within (λ (p : Page). is_unused p.state) pages i (sym e) blank_page) (sym e)

-- each frame is owned or free
pub count_owned : (owners : List (Option ℕ)) → count_by is_some owners + count_by is_none owners ≡ length owners
count_owned [] = refl
count_owned (None ∷ os) = omega (
  arith,
  sum_by-cons (λ x. cond (is_some x) 1 0) None os,
  sum_by-cons (λ x. cond (is_none x) 1 0) None os,
  count_owned os,
)
count_owned (Some x ∷ os) = omega (
  arith,
  sum_by-cons (λ x. cond (is_some x) 1 0) (Some x) os,
  sum_by-cons (λ x. cond (is_none x) 1 0) (Some x) os,
  count_owned os,
)

-- The next target: a fresh page, given out completely, if a frame is free and a page unused. Closed pages stay
-- closed.
use Rattle.std.proofs.Common.{◌≡◌, ◌≢◌, ℕ, zero, suc, ◌+◌, ◌-◌, ◌*◌, ◌<◌, ◌≤◌, Bool, true, false, List, [], ◌∷◌}
use Rattle.std.proofs.Common.{length, set, position, count_by, is_none, cond, Option, Some, None, nat_le}
use Rattle.std.proofs.Common.{refl, sym, ◌∙◌, ap, subst, arith}
use Rattle.std.specs.List.{slice_get}
use Rattle.std.specs.Prelude.{Ok, Err, Result}
use Rattle.std.proofs.Math.ListN.{length-set}
use Rattle.std.proofs.lemmas.Bool.{leb-false, false≢true}
use Rattle.std.proofs.lemmas.List.Sums.{sum_by-cons}
use Rattle.std.proofs.lemmas.Option.{slice_get_within}
use Rattle.model.specs.declared.records.Buffer.{Buffer}
use Rattle.model.specs.declared.records.Page.{Page}
use Rattle.model.specs.declared.records.PageState.TheVariants.{Unused, Closed}
use Rattle.model.specs.declared.records.Room.{Room}
use Rattle.model.specs.Stores.{StoreState, state_at, state_in, is_unused, free_frame, unused_page, unused_in}
use Rattle.model.specs.Stores.{open_fresh, fresh_page, give_words, take_fresh, buffer_of}
use Rattle.model.specs.Owning.{Each, IsStore}
use Rattle.model.specs.Protections.{take_target, free_count, unused_count}
use Rattle.model.proofs.Lists.{get_set_other, get_within, count_set, position_none, none_far, as_number}
use Rattle.page.specs.Records.{is_unused_in}
use Rattle.page.proofs.Found.{position_within, free_found, free_within, unused_found}
use Rattle.page.proofs.Keeping.{opened_at, given_at, unused_as, page_at_record}
use Rattle.page.proofs.Protecting.{numbered}
use Rattle.page.proofs.Relocated.{used_there}

-- no more pages have records than there are numbers
pub records_within : (s : StoreState) → IsStore s → length s.pages ≤ s.count
records_within s h = by_test (nat_le s.count (2 * length s.frames)) refl
  where
    by_test : (b : Bool) → nat_le s.count (2 * length s.frames) ≡ b → length s.pages ≤ s.count
    by_test true e =
        let is : length s.pages ≡ s.count = h.sized.pages ∙ ap (λ b. cond b s.count (2 * length s.frames)) e in
        omega (arith, is)
    by_test false e =
        let is : length s.pages ≡ 2 * length s.frames =
        h.sized.pages ∙ ap (λ b. cond b s.count (2 * length s.frames)) e in
        omega (arith, is, leb-false s.count (2 * length s.frames) e)

none_counts : {X : Type 0} (p : X → Bool) (xs : List X) → Each xs (λ x. p x ≡ false) → count_by p xs ≡ 0
none_counts p [] h = refl
none_counts p (x ∷ xs) h =
    let here : as_number (p x) ≡ 0 = ap as_number (h zero x refl) in
    omega (arith, sum_by-cons (λ y. cond (p y) 1 0) x xs, here, none_counts p xs (λ i. h (suc i)))

-- an unused page and a free frame, on which the next target opens
pub record NextTarget (s : StoreState) : Type 0 where
  pub index : ℕ
  pub frame : ℕ
  pub page : Page
  pub at : slice_get s.pages index ≡ Some page
  pub unused : is_unused page.state ≡ true
  pub free : slice_get s.owners frame ≡ Some None
  pub is : take_target s ≡ Ok (give_words (open_fresh s index frame) index s.words)

-- a target opens if a frame is free and a page unused
pub next_target : (s : StoreState) → IsStore s → 0 < free_count s → 0 < unused_count s → NextTarget s
unfolding take_target free_count unused_count free_frame unused_page
next_target s h free unused = by_frame (free_frame s.owners) refl
  where
    by_page : (f : ℕ) → free_frame s.owners ≡ Some f → (o : Option ℕ)
        → position (λ (p : Page). is_unused p.state) s.pages ≡ o → NextTarget s
    by_page f a None b = absurd (
        let few = none_counts (λ (p : Page). is_unused p.state) s.pages
        (position_none (λ (p : Page). is_unused p.state) s.pages b) in
        let all : s.count ≤ length s.pages = none_far (length s.pages) s.count
        (ap (unused_in s.count s.pages) (sym b) ∙ sym (unused_as s h free None (sym b))) in
        omega (arith, few, all, unused)
        )
    by_page f a (Some i) b =
        let (p, at) = get_within s.pages i
        (position_within (λ (p : Page). is_unused p.state) s.pages i b (fresh_page f)) in
        record {
          index = i;
          frame = f;
          page = p;
          at = at;
          unused = sym (ap is_unused_in at) ∙ unused_found s.pages i
              (position_within (λ (p : Page). is_unused p.state) s.pages i b (fresh_page f)) b;
          free = free_found s.owners f (free_within s.owners f a) a;
          is = ap (λ o. take_fresh s s.words o (unused_page s.count s.pages)) a
              ∙ ap (take_fresh s s.words (Some f)) (sym (unused_as s h free (Some i) (sym b)));
        }

    by_frame : (o : Option ℕ) → free_frame s.owners ≡ o → NextTarget s
    by_frame None a = absurd (no (none_counts is_none s.owners (position_none is_none s.owners a)))
      where
        no : count_by is_none s.owners ≡ 0 → ⊥
        no e = absurd (omega (arith, e, free))
    by_frame (Some f) a = by_page f a (position (λ (p : Page). is_unused p.state) s.pages) refl

-- the store after page i + 1 opened on frame f, and was given out completely
abbrev pub target_store : StoreState → ℕ → ℕ → StoreState
target_store s i f = record (open_fresh s i f) {
  pages = set (open_fresh s i f).pages i (record (fresh_page f) { top = (fresh_page f).top + s.words });
}

module _ (s : StoreState) (x : NextTarget s) where
  -- one frame and one page less are left
  pub free_less : free_count (target_store s x.index x.frame) + 1 ≡ free_count s
  unfolding open_fresh free_count
  free_less = omega (arith, count_set is_none s.owners x.frame None (Some (x.index + 1)) x.free)

  pub unused_less : unused_count (target_store s x.index x.frame) + 1 ≡ unused_count s
  unfolding open_fresh unused_count
  unused_less =
      let q : Page = fresh_page x.frame in
      let full : Page = record q { top = q.top + s.words } in
      let at = opened_at s x.index x.frame x.page x.at in
      let opens = count_set (λ (z : Page). is_unused z.state) s.pages x.index x.page q x.at in
      let fills = count_set (λ (z : Page). is_unused z.state) (set s.pages x.index q) x.index q full at in
      let was : as_number (is_unused x.page.state) ≡ 1 = ap as_number x.unused in
      let first : length (set s.pages x.index q) ≡ length s.pages = length-set s.pages x.index q in
      let second : length (set (set s.pages x.index q) x.index full) ≡ length (set s.pages x.index q) =
      length-set (set s.pages x.index q) x.index full in
      omega (arith, opens, fills, was, first, second)

  -- it is what the store gives out
  pub target_is : take_target s ≡ Ok (target_store s x.index x.frame, buffer_of x.index 0 s.words)
  target_is = x.is ∙ ap (λ (z : StoreState × Buffer). Ok z)
      (given_at (open_fresh s x.index x.frame) x.index s.words (fresh_page x.frame)
      (opened_at s x.index x.frame x.page x.at))

  -- a closed page stays closed
  pub closed_stays : (n : ℕ) → state_at s n ≡ Closed → state_at (target_store s x.index x.frame) n ≡ Closed
  unfolding state_at open_fresh
  closed_stays n e =
      let one = numbered s n e in
      let (low, closed, at) = used_there s n Closed e not_unused in
      let other = elsewhere closed in
      ap state_in (page_at_record (target_store s x.index x.frame) n one
      ∙ get_set_other (open_fresh s x.index x.frame).pages x.index (n - 1) _ other
      ∙ get_set_other s.pages x.index (n - 1) (fresh_page x.frame) other) ∙ closed
    where
      not_unused : Closed ≡ Unused → ⊥
      not_unused k = cc

      elsewhere : state_in (slice_get s.pages (n - 1)) ≡ Closed → n - 1 ≢ x.index
      elsewhere closed k =
          let is : x.page.state ≡ Closed =
          ap state_in (sym (ap (slice_get s.pages) k ∙ x.at)) ∙ closed in
          false≢true (sym (ap is_unused is) ∙ x.unused)

-- what stays of a store when a target opens, and that it is one of its pages
pub record OpensNext (s t : StoreState) (n : ℕ) : Type 0 where
  pub words : t.words ≡ s.words
  pub count : t.count ≡ s.count
  pub free : free_count t + 1 ≡ free_count s
  pub unused : unused_count t + 1 ≡ unused_count s
  pub low : 0 < n
  pub high : n ≤ s.count
  pub closed : (m : ℕ) → state_at s m ≡ Closed → state_at t m ≡ Closed

abbrev Taken : Type 0
Taken = Result (StoreState × Buffer) Room

same_ok : (x y : StoreState × Buffer) → ◌≡◌ {A = Taken} (Ok x) (Ok y) → x ≡ y
same_ok x y e = cc

ok_err : (x : StoreState × Buffer) (r : Room) → ◌≡◌ {A = Taken} (Ok x) (Err r) → ⊥
ok_err x r e = cc

next_opens : (s : StoreState) (x : NextTarget s) → IsStore s
    → OpensNext s (target_store s x.index x.frame) (x.index + 1)
unfolding open_fresh
next_opens s x h = record {
  words = refl;
  count = refl;
  free = free_less s x;
  unused = unused_less s x;
  low = omega arith;
  high = omega (arith, slice_get_within s.pages x.index x.page x.at, records_within s h);
  closed = closed_stays s x;
}

-- the target that a store opens is such a one
pub opens_next : (s t : StoreState) (b : Buffer) → IsStore s → 0 < free_count s → 0 < unused_count s
    → take_target s ≡ Ok (t, b) → OpensNext s t b.page
opens_next s t b h free unused is =
    let x = next_target s h free unused in
    subst (λ (z : StoreState × Buffer). OpensNext s z.0 z.1.page)
    (same_ok _ _ (sym (target_is s x) ∙ is)) (next_opens s x h)

-- there is space for it
pub never_full : (s : StoreState) (r : Room) → IsStore s → 0 < free_count s → 0 < unused_count s
    → take_target s ≡ Err r → ⊥
never_full s r h free unused e =
    let x = next_target s h free unused in ok_err _ r (sym (target_is s x) ∙ e)

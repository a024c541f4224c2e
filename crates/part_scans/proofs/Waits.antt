-- Objects that wait, while pages change.
use Rattle.std.proofs.Common.{◌≡◌, ◌≢◌, ◌⊎◌, inl, inr, ℕ, ◌<◌, true, false, List, [], ◌∷◌, ◌++◌}
use Rattle.std.proofs.Common.{get_or, set, length, Option, Some, None, refl, sym, ◌∙◌, ap, arith}
use Rattle.std.specs.List.{slice_get}
use Rattle.std.specs.Prelude.{if◌then◌else◌}
use Rattle.std.proofs.lemmas.Bool.{cases_eq}
use Rattle.std.proofs.lemmas.Option.{same_Some}
use Rattle.model.specs.Bits.{put_bit}
use Rattle.model.specs.States.{change_at, change_found}
use Rattle.model.proofs.Lists.{get_set_same, get_set_other, changed_again, changed_there}
use Rattle.page.specs.declared.owned.OwnedPage.{OwnedPage}
use Rattle.part_scans.specs.Scans.{mark_on}
use Rattle.part_scans.specs.Waiting.{AreWaiting, IsNoneOf, IsWaiting, all_grey, grey_on, white_on}
use Rattle.part_scans.proofs.Greying.{Leaves, greyed_more, greyed_two, mark_goes, mark_leaves, set_here, white_leaves}

pub waits_still : (ps : List OwnedPage) (j : ℕ) (f : OwnedPage → OwnedPage) (x : ℕ × ℕ) → Leaves f → IsWaiting ps x
    → IsWaiting (change_at ps j f) x
waits_still ps j f x k w = by_place (cases_eq x.0 j)
  where
    by_page : (o : Option OwnedPage) → slice_get ps j ≡ o → x.0 ≢ j
        → slice_get (change_found ps j o f) x.0 ≡ Some w.page
    by_page None e d = w.there
    by_page (Some p) e d = get_set_other ps j x.0 (f p) d ∙ w.there

    by_place : (x.0 ≡ j) ⊎ (x.0 ≢ j) → IsWaiting (change_at ps j f) x
    by_place (inr d) = record {
      page = w.page;
      there = by_page (slice_get ps j) refl d;
      marked = w.marked;
      low = w.low;
    }
    by_place (inl e) = record {
      page = f w.page;
      there = ap (λ n. slice_get (change_at ps n f) x.0) (sym e)
          ∙ ap (λ qs. slice_get qs x.0) (changed_there ps x.0 w.page f w.there)
          ∙ get_set_same ps x.0 w.page (f w.page) w.there;
      marked = k.marked w.page x.1 w.marked;
      low = omega (arith, w.low, k.grey w.page);
    }

pub all_wait_still : (ps : List OwnedPage) (j : ℕ) (f : OwnedPage → OwnedPage) (xs : List (ℕ × ℕ)) → Leaves f
    → AreWaiting ps xs → AreWaiting (change_at ps j f) xs
all_wait_still ps j f [] k w = tt
all_wait_still ps j f (x ∷ xs) k w = (waits_still ps j f x k w.0, w.1, all_wait_still ps j f xs k w.2)

-- ---- one more, or one less

none_less : (x y : ℕ × ℕ) (xs : List (ℕ × ℕ)) → IsNoneOf x (xs ++ y ∷ [])
    → IsNoneOf x xs × (x.0 ≡ y.0 → x.1 ≡ y.1 → true ≡ false)
none_less x y [] d = (tt, d.0)
none_less x y (z ∷ xs) d = let rest = none_less x y xs d.1 in ((d.0, rest.0), rest.1)

none_more : (x y : ℕ × ℕ) (xs : List (ℕ × ℕ)) → IsNoneOf x xs → (x.0 ≡ y.0 → x.1 ≡ y.1 → true ≡ false)
    → IsNoneOf x (xs ++ y ∷ [])
none_more x y [] d e = (e, tt)
none_more x y (z ∷ xs) d e = (d.0, none_more x y xs d.1 e)

-- the last one as the first
pub waiting_last : (ps : List OwnedPage) (xs : List (ℕ × ℕ)) (y : ℕ × ℕ) → AreWaiting ps (xs ++ y ∷ [])
    → AreWaiting ps (y ∷ xs)
waiting_last ps [] y w = w
waiting_last ps (x ∷ xs) y w =
    let apart = none_less x y xs w.1 in
    let rest = waiting_last ps xs y w.2 in
    (rest.0, (λ a b. apart.1 (sym a) (sym b), rest.1), (w.0, apart.0, rest.2))

waiting_more : (ps : List OwnedPage) (xs : List (ℕ × ℕ)) (y : ℕ × ℕ) → AreWaiting ps xs → IsWaiting ps y
    → IsNoneOf y xs → AreWaiting ps (xs ++ y ∷ [])
waiting_more ps [] y w v d = (v, tt, tt)
waiting_more ps (x ∷ xs) y w v d =
    (w.0, none_more x y xs w.1 (λ a b. d.0 (sym a) (sym b)), waiting_more ps xs y w.2 v d.1)

-- an object that isn't marked doesn't wait
unmarked_none : (ps : List OwnedPage) (y : ℕ × ℕ) (p : OwnedPage) (xs : List (ℕ × ℕ)) → slice_get ps y.0 ≡ Some p
    → get_or p.marked y.1 false ≡ false → AreWaiting ps xs → IsNoneOf y xs
unmarked_none ps y p [] e u w = tt
unmarked_none ps y p (x ∷ xs) e u w = (
  λ a b.
      let same : p ≡ w.0.page = same_Some _ _ (sym e ∙ ap (slice_get ps) a ∙ w.0.there) in
      sym w.0.marked ∙ sym (λ j. get_or (same j).marked (b j) false) ∙ u,
  unmarked_none ps y p xs e u w.2,
)

-- ---- an object is marked

-- pages after an object is marked, and what waits then
pub record Marks (ps : List OwnedPage) (i o : ℕ) (xs : List (ℕ × ℕ)) (qs : List OwnedPage) (ys : List (ℕ × ℕ))
    : Type 0 where
  pub pages : all_grey qs ys ≡ change_at (all_grey ps xs) i (mark_on o)
  pub waits : AreWaiting qs ys

-- it becomes grey at once, if it has to
pub marked_grey : (ps : List OwnedPage) (i o : ℕ) (xs : List (ℕ × ℕ)) → AreWaiting ps xs
    → Marks ps i o xs (change_at ps i (mark_on o)) xs
marked_grey ps i o xs w = record {
  pages = greyed_two ps i (mark_on o) xs (λ n. mark_goes n o);
  waits = all_wait_still ps i (mark_on o) xs (mark_leaves o) w;
}

-- it waits
pub marked_waits : (ps : List OwnedPage) (i o : ℕ) (p : OwnedPage) (xs : List (ℕ × ℕ)) → slice_get ps i ≡ Some p
    → get_or p.marked o false ≡ false → o < length p.marked → o < length p.grey → AreWaiting ps xs
    → Marks ps i o xs (change_at ps i (white_on o)) (xs ++ (i, o) ∷ [])
unfolding mark_on grey_on
marked_waits ps i o p xs e u l low w = record {
  pages = greyed_more (change_at ps i (white_on o)) xs (i, o)
      ∙ ap (λ qs. all_grey qs xs)
      (changed_again ps i (white_on o) (grey_on o) (λ q. grey_on o (white_on o q)) (λ q. refl)
      ∙ changed_there ps i p (λ q. grey_on o (white_on o q)) e
      ∙ ap (set ps i) (sym (ap (λ b. record p {
        marked = put_bit o true p.marked;
        grey = if b then p.grey else put_bit o true p.grey;
      }) u))
      ∙ sym (changed_there ps i p (mark_on o) e))
      ∙ greyed_two ps i (mark_on o) xs (λ n. mark_goes n o);
  waits = waiting_more (change_at ps i (white_on o)) xs (i, o)
      (all_wait_still ps i (white_on o) xs (white_leaves o) w)
      (record {
        page = white_on o p;
        there = ap (λ qs. slice_get qs i) (changed_there ps i p (white_on o) e)
            ∙ get_set_same ps i p (white_on o p) e;
        marked = set_here p.marked o l;
        low = low;
      })
      (unmarked_none ps (i, o) p xs e u w);
}

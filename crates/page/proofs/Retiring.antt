-- The end of a mark keeps the store's invariant.
use Rattle.std.proofs.Common.{◌≡◌, ◌≢◌, ◌⊎◌, inl, inr, ℕ, ◌+◌, ◌-◌, ◌<◌, ◌≤◌, Bool, true, false, List, length, Option}
use Rattle.std.proofs.Common.{Some, None, is_some, is_none, set, count_by, zero, suc, ◌&&◌, not, [], ◌∷◌, refl, sym}
use Rattle.std.proofs.Common.{◌∙◌, ap, arith, cond}
use Rattle.std.specs.List.{slice_get}
use Rattle.std.proofs.Math.ListN.{length-set}
use Rattle.std.proofs.lemmas.Option.{same_Some, none-some, slice_get_within}
use Rattle.model.specs.declared.limits.TheConstants.{MOST_FRAMES}
use Rattle.model.specs.declared.records.Page.{Page}
use Rattle.model.specs.declared.records.PageState.{PageState}
use Rattle.model.specs.declared.records.PageState.TheVariants.{Unused, Open, Closed, From, Gone}
use Rattle.model.specs.Stores.{StoreState, has_memory, is_protected, is_open, is_unused, state_in, record_count}
use Rattle.model.specs.Owning.{IsPage, IsStore}
use Rattle.model.proofs.Lists.{get_within, get_set, get_set_other, each_set, count_set, as_number}
use Rattle.page.specs.Ending.{with_mark_ended_at}
use Rattle.page.specs.Views.{left_in}
use Rattle.page.proofs.Found.{count_owned}
use Rattle.page.proofs.Keeping.{page_keeps, sized_by}

-- a page that is unused again
abbrev pub retired_page : Page → Page
retired_page p = record p { state = Unused; frame = None }

-- a page that is closed
abbrev pub closed_page : Page → Page
closed_page p = record p { state = Closed }

pub open_is : (p : PageState) → is_open p ≡ true → p ≡ Open
open_is Unused e = absurd (cc)
open_is Open e = refl
open_is Closed e = absurd (cc)
open_is From e = absurd (cc)
open_is Gone e = absurd (cc)

-- an open page closes
pub close_keeps : (s : StoreState) (i : ℕ) (p : Page) → IsStore s → slice_get s.pages i ≡ Some p
    → is_open p.state ≡ true → IsStore (record s { pages = set s.pages i (closed_page p) })
close_keeps s i p h e o =
    let is_so = open_is p.state o in
    page_keeps s i p (closed_page p) h e refl (ap has_memory (sym is_so)) (ap is_protected (sym is_so))
    (h.pages i p e).top

-- a page without a frame is unused again
pub retire_gone_keeps : (s : StoreState) (i : ℕ) (p : Page) → IsStore s → slice_get s.pages i ≡ Some p
    → p.frame ≡ None → is_protected p.state ≡ true → IsStore (record s { pages = set s.pages i (retired_page p) })
retire_gone_keeps s i p h e none protected =
    let q : Page = retired_page p in
    let same : length (set s.pages i q) ≡ length s.pages = simp length-set in
    let memory : has_memory p.state ≡ false = sym (h.pages i p e).memory ∙ ap is_some none in
    record {
      sized = record {
        words_low = h.sized.words_low;
        words = h.sized.words;
        frame_count = h.sized.frame_count;
        count = h.sized.count;
        owners = h.sized.owners;
        pages = same ∙ h.sized.pages;
        frames = h.sized.frames;
      };
      pages = each_set (IsPage s.words) s.pages i q h.pages (record { memory = refl; top = (h.pages i p e).top });
      owning = record {
        owned = λ j f x a b. owned j f x b (get_set s.pages i j q x a);
        owner = λ f n a. owner f n (h.owning.owner f n a);
      };
      balanced = record {
        frames = omega (
          arith,
          h.balanced.frames,
          count_set (λ x. has_memory x.state) s.pages i p q e,
          ap as_number memory,
        );
        leaving = omega (
          arith,
          h.balanced.leaving,
          count_set (λ x. is_protected x.state) s.pages i p q e,
        );
      };
    }
  where
    owned : (j f : ℕ) (x : Page)
        → x.frame ≡ Some f → ((j ≡ i) × (retired_page p ≡ x)) ⊎ ((j ≢ i) × (slice_get s.pages j ≡ Some x))
        → slice_get s.owners f ≡ Some (Some (j + 1))
    owned j f x b (inl a) = absurd (none-some f (ap (λ (z : Page). z.frame) a.1 ∙ b))
    owned j f x b (inr a) = h.owning.owned j f x a.1 b

    owner : (f n : ℕ)
        → (j : ℕ) × (x : Page) × (n ≡ j + 1) × (slice_get s.pages j ≡ Some x) × (x.frame ≡ Some f)
        → (j : ℕ) × (x : Page) × (n ≡ j + 1) × (slice_get (set s.pages i (retired_page p)) j ≡ Some x)
        × (x.frame ≡ Some f)
    owner f n (j, x, b, c, d) =
        let other : j ≢ i = λ z. none-some f (sym none
        ∙ ap (λ (y : Page). y.frame) (same_Some _ _ (sym e ∙ ap (slice_get s.pages) (sym z) ∙ c)) ∙ d) in
        (j, x, b, get_set_other s.pages i j (retired_page p) other ∙ c, d)

-- a page releases its frame, which is free
pub freed_keeps : (s : StoreState) (i g : ℕ) (p q : Page) → IsStore s → slice_get s.pages i ≡ Some p
    → p.frame ≡ Some g → q.frame ≡ None → has_memory q.state ≡ false → q.top ≤ s.words
    → count_by (λ x. is_protected x.state) (set s.pages i q) ≤ length s.frames
    → IsStore (record s { pages = set s.pages i q; frames = set s.frames g []; owners = set s.owners g None })
freed_keeps s i g p q h e frame none empty top leaving =
    let frames_same : length (set s.frames g []) ≡ length s.frames = simp length-set in
    let pages_same : length (set s.pages i q) ≡ length s.pages = simp length-set in
    let owners_same : length (set s.owners g None) ≡ length s.owners = simp length-set in
    let memory : has_memory p.state ≡ true = sym (h.pages i p e).memory ∙ ap is_some frame in
    record {
      sized = record {
        words_low = h.sized.words_low;
        words = h.sized.words;
        frame_count = rw frames_same h.sized.frame_count;
        count = h.sized.count;
        owners = owners_same ∙ h.sized.owners ∙ sym frames_same;
        pages = pages_same ∙ h.sized.pages ∙ ap (λ n. record_count n s.count) (sym frames_same);
        frames = sized_by s g None [] h refl;
      };
      pages = each_set (IsPage s.words) s.pages i q h.pages
          (record { memory = ap is_some none ∙ sym empty; top = top });
      owning = record {
        owned = λ j f x a b. owned j f x b (get_set s.pages i j q x a);
        owner = λ f n a. owner f n (get_set s.owners g f None (Some n) a);
      };
      balanced = record {
        frames = rw frames_same (omega (
          arith,
          h.balanced.frames,
          count_set (λ x. has_memory x.state) s.pages i p q e,
          count_set is_none s.owners g (Some (i + 1)) None owns,
          ap as_number memory,
          ap as_number empty,
        ));
        leaving = rw frames_same leaving;
      };
    }
  where
    owns : slice_get s.owners g ≡ Some (Some (i + 1))
    owns = h.owning.owned i g p e frame

    owned : (j f : ℕ) (x : Page)
        → x.frame ≡ Some f → ((j ≡ i) × (q ≡ x)) ⊎ ((j ≢ i) × (slice_get s.pages j ≡ Some x))
        → slice_get (set s.owners g None) f ≡ Some (Some (j + 1))
    owned j f x b (inl a) = absurd (none-some f (sym none ∙ ap (λ (z : Page). z.frame) a.1 ∙ b))
    owned j f x b (inr a) =
        let before = h.owning.owned j f x a.1 b in
        let other : f ≢ g = λ z. a.0 (omega (
          arith,
          same_Some _ _ (same_Some _ _ (sym before ∙ ap (slice_get s.owners) z ∙ owns)),
        )) in
        get_set_other s.owners g f None other ∙ before

    owner : (f n : ℕ) → ((f ≡ g) × (None ≡ Some n)) ⊎ ((f ≢ g) × (slice_get s.owners f ≡ Some (Some n)))
        → (j : ℕ) × (x : Page) × (n ≡ j + 1) × (slice_get (set s.pages i (q)) j ≡ Some x)
        × (x.frame ≡ Some f)
    owner f n (inl a) = absurd (none-some n a.1)
    owner f n (inr a) = moved f n a.0 (h.owning.owner f n a.1)
      where
        moved : (f n : ℕ) → f ≢ g
            → (j : ℕ) × (x : Page) × (n ≡ j + 1) × (slice_get s.pages j ≡ Some x) × (x.frame ≡ Some f)
            → (j : ℕ) × (x : Page) × (n ≡ j + 1) × (slice_get (set s.pages i (q)) j ≡ Some x)
            × (x.frame ≡ Some f)
        moved f n k (j, x, b, c, d) =
            let other : j ≢ i = λ z. k (same_Some _ _ (sym d ∙ ap (λ (y : Page). y.frame)
            (same_Some _ _ (sym c ∙ ap (slice_get s.pages) z ∙ e)) ∙ frame)) in
            (j, x, b, get_set_other s.pages i j (q) other ∙ c, d)

-- a page with a frame is unused again, and its frame is free
pub retire_from_keeps : (s : StoreState) (i g : ℕ) (p : Page) → IsStore s → slice_get s.pages i ≡ Some p
    → p.frame ≡ Some g → is_protected p.state ≡ true
    → IsStore (record s {
      pages = set s.pages i (retired_page p);
      frames = set s.frames g [];
      owners = set s.owners g None;
    })
retire_from_keeps s i g p h e frame protected = freed_keeps s i g p (retired_page p) h e frame refl refl
    (h.pages i p e).top
    (omega (arith, h.balanced.leaving, count_set (λ x. is_protected x.state) s.pages i p (retired_page p) e))

-- the two have a mark's end's effect on the page

pub closed_marked : (p : Page) → is_open p.state ≡ true → is_unused p.state ≡ false
closed_marked p o = ap is_unused (open_is p.state o)

pub closed_at : (s : StoreState) (i : ℕ) (p : Page) → slice_get s.pages i ≡ Some p → is_open p.state ≡ true
    → record s { pages = set s.pages i (closed_page p) } ≡ with_mark_ended_at s i false
unfolding with_mark_ended_at
closed_at s i p e o = let is_so = ap is_protected (open_is p.state o) in rw (e, is_so, o) refl

pub retired_gone_at : (s : StoreState) (i : ℕ) (lent : Bool) (p : Page) → slice_get s.pages i ≡ Some p → p.frame ≡ None
    → is_protected p.state ≡ true
    → record s { pages = set s.pages i (retired_page p) } ≡ with_mark_ended_at s i lent
unfolding with_mark_ended_at
retired_gone_at s i lent p e none protected = rw (e, protected, none) refl

pub retired_from_at : (s : StoreState) (i g : ℕ) (lent : Bool) (p : Page) → slice_get s.pages i ≡ Some p
    → p.frame ≡ Some g → is_protected p.state ≡ true
    → record s {
      pages = set s.pages i (retired_page p);
      frames = set s.frames g [];
      owners = set s.owners g None;
    } ≡ with_mark_ended_at s i lent
unfolding with_mark_ended_at
retired_from_at s i g lent p e frame protected = rw (e, protected, frame) refl

-- the frame of a page is one of the store
pub frame_within : (s : StoreState) (i g : ℕ) (p : Page) → IsStore s → slice_get s.pages i ≡ Some p → p.frame ≡ Some g
    → g < length s.owners
frame_within s i g p h e frame = slice_get_within s.owners g _ (h.owning.owned i g p e frame)

pub owners_few : (s : StoreState) → IsStore s → length s.owners ≤ MOST_FRAMES
owners_few s h = rw h.sized.owners h.sized.frame_count

-- no more frames are free than there are
pub count_few : (owners : List (Option ℕ)) → count_by is_none owners ≤ length owners
count_few owners = omega (arith, count_owned owners)

-- no words can be taken in a protected or an unused page
pub protected_left : (words : ℕ) (p : Page) → is_protected p.state ≡ true → left_in words p ≡ 0
protected_left words p e = ap (λ b. cond b (words - p.top) 0) (closed_so p.state e)
  where
    closed_so : (x : PageState) → is_protected x ≡ true → is_open x ≡ false
    closed_so Unused e = absurd (cc)
    closed_so Open e = absurd (cc)
    closed_so Closed e = absurd (cc)
    closed_so From e = refl
    closed_so Gone e = refl

-- writing an element that is already there changes nothing
pub set_same : {X : Type 0} (xs : List X) (i : ℕ) (x : X) → slice_get xs i ≡ Some x → set xs i x ≡ xs
set_same [] i x e = refl
set_same (y ∷ ys) zero x e = let here : y ≡ x = cc in ap (λ z. z ∷ ys) (sym here)
set_same (y ∷ ys) (suc i) x e = ap (λ zs. y ∷ zs) (set_same ys i x e)

-- a page that is neither protected, nor open without a lent buffer, stays
pub kept_at : (s : StoreState) (i : ℕ) (lent : Bool) (p : Page) → slice_get s.pages i ≡ Some p
    → is_protected p.state ≡ false → is_open p.state && not lent ≡ false → s ≡ with_mark_ended_at s i lent
unfolding with_mark_ended_at
kept_at s i lent p e protected stays =
    rw (e, protected, stays) (ap (λ ps. record s { pages = ps }) (sym (set_same s.pages i p e)))

-- the same, by how the page is used
pub kept_in : (s : StoreState) (i : ℕ) (lent : Bool) (x : PageState) → i < length s.pages
    → x ≡ state_in (slice_get s.pages i) → is_protected x ≡ false → is_open x && not lent ≡ false
    → s ≡ with_mark_ended_at s i lent
kept_in s i lent x h e protected stays =
    let p = get_within s.pages i h in
    let same : x ≡ p.0.state = e ∙ ap state_in p.1 in
    kept_at s i lent p.0 p.1 (ap is_protected (sym same) ∙ protected)
    (ap (λ y. is_open y && not lent) (sym same) ∙ stays)

-- a page that has no record stays so
pub missing_at : (s : StoreState) (i : ℕ) (lent : Bool) → slice_get s.pages i ≡ None → with_mark_ended_at s i lent ≡ s
unfolding with_mark_ended_at
missing_at s i lent e = rw e refl

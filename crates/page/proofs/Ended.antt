-- Ending a mark for each page in turn ends it for the store.
use Rattle.std.proofs.Common.{◌≡◌, ◌≢◌, ◌⊎◌, inl, inr, ℕ, zero, suc, ◌+◌, ◌-◌, ◌<◌, ◌≤◌, ◌&&◌, Bool, true, false, not}
use Rattle.std.proofs.Common.{cond, List, [], ◌∷◌, map, length, Option, Some, None, set, refl, sym, ◌∙◌, ap, subst}
use Rattle.std.proofs.Common.{arith}
use Rattle.std.specs.List.{slice_get}
use Rattle.std.specs.Option.{option_and_then}
use Rattle.std.proofs.Math.ListN.{length-set}
use Rattle.std.proofs.lemmas.Option.{same_Some, none-some, slice_get_within}
use Rattle.std.proofs.lemmas.Bool.{cases_eq}
use Rattle.model.specs.declared.records.Page.{Page}
use Rattle.model.specs.declared.records.PageState.{PageState}
use Rattle.model.specs.declared.records.PageState.TheVariants.{Unused, Open, Closed, From, Gone}
use Rattle.model.specs.declared.records.Buffer.{Buffer}
use Rattle.model.specs.Stores.{StoreState, is_protected, is_open, state_at, state_in, page_after_mark, pages_after_mark}
use Rattle.model.specs.Stores.{owner_after_mark, store_after_mark, frames_owned, words_owned, with_empty}
use Rattle.model.specs.States.{change_at, change_found}
use Rattle.model.specs.Owning.{Each, IsStore, LiesIn, AreSized, NoneProtected, owned_size}
use Rattle.model.proofs.Tables.{get_map}
use Rattle.model.proofs.Lists.{get_set, get_set_same, get_set_other}
use Rattle.page.specs.Ending.{with_mark_ended_at, given_up}
use Rattle.page.proofs.Keeping.{page_at_record}
use Rattle.page.proofs.Lying.{lies_at, lies_by}
use Rattle.page.proofs.Retiring.{retired_page, closed_page, kept_at, closed_at, retired_gone_at, retired_from_at}
use Rattle.page.proofs.Retiring.{missing_at, open_is}

-- lists

map_alike : {X Y : Type 0} (f g : X → Y) (xs : List X) → Each xs (λ x. f x ≡ g x) → map f xs ≡ map g xs
map_alike f g [] h = refl
map_alike f g (x ∷ xs) h =
    ap (λ y. y ∷ map f xs) (h zero x refl) ∙ ap (λ ys. g x ∷ ys) (map_alike f g xs (λ i y e. h (suc i) y e))

map_same : {X : Type 0} (f : X → X) (xs : List X) → Each xs (λ x. f x ≡ x) → map f xs ≡ xs
map_same f [] h = refl
map_same f (x ∷ xs) h =
    ap (λ y. y ∷ map f xs) (h zero x refl) ∙ ap (λ ys. x ∷ ys) (map_same f xs (λ i y e. h (suc i) y e))

map_but : {X Y : Type 0} (f g : X → Y) (xs : List X) (i : ℕ) (x v : X) → slice_get xs i ≡ Some x → f v ≡ g x
    → ((j : ℕ) (y : X) → j ≢ i → slice_get xs j ≡ Some y → f y ≡ g y) → map f (set xs i v) ≡ map g xs
map_but f g [] i x v e h k = absurd (cc)
map_but f g (y ∷ ys) zero x v e h k =
    let here : y ≡ x = same_Some _ _ e in
    ap (λ z. z ∷ map f ys) (h ∙ ap g (sym here))
    ∙ ap (λ zs. g y ∷ zs) (map_alike f g ys (λ j z a. k (suc j) z (λ b. absurd (omega (arith, b))) a))
map_but f g (y ∷ ys) (suc i) x v e h k =
    ap (λ z. z ∷ map f (set ys i v)) (k zero y (λ b. absurd (omega (arith, b))) refl)
    ∙ ap (λ zs. g y ∷ zs) (map_but f g ys i x v e h (λ j z a b. k (suc j) z (λ c. a (omega (arith, c))) b))

-- pages

-- ending a mark for a page twice is ending it once
again : (lent : Bool) (p : Page) → page_after_mark lent (page_after_mark lent p) ≡ page_after_mark lent p
again lent p = by_state p.state refl lent
  where
    by_state : (x : PageState) → p.state ≡ x → (lent : Bool)
        → page_after_mark lent (page_after_mark lent p) ≡ page_after_mark lent p
    by_state Unused e lent = rw e refl
    by_state Open e true = rw e refl
    by_state Open e false = rw e refl
    by_state Closed e lent = rw e refl
    by_state From e lent = rw e refl
    by_state Gone e lent = rw e refl

state_after : (lent : Bool) (p : Page) → is_protected p.state ≡ true → (page_after_mark lent p).state ≡ Unused
state_after lent p e = rw e refl

-- a page for which a mark was ended isn't protected
not_protected : (lent : Bool) (p : Page) → page_after_mark lent p ≡ p → is_protected p.state ≡ false
not_protected lent p h = by_state p.state refl
  where
    from_unused : is_protected p.state ≡ true → p.state ≡ Unused
    from_unused e = sym (ap (λ (z : Page). z.state) h) ∙ state_after lent p e

    by_state : (x : PageState) → p.state ≡ x → is_protected p.state ≡ false
    by_state Unused e = ap is_protected e
    by_state Open e = ap is_protected e
    by_state Closed e = ap is_protected e
    by_state From e = ap is_protected (from_unused (ap is_protected e))
    by_state Gone e = ap is_protected (from_unused (ap is_protected e))

change_more : {X : Type 0} (x : X) (xs : List X) (i : ℕ) (change : X → X)
    → change_at (x ∷ xs) (suc i) change ≡ x ∷ change_at xs i change
change_more {X} x xs i change = by_element (slice_get xs i)
  where
    by_element : (o : Option X) → change_found (x ∷ xs) (suc i) o change ≡ x ∷ change_found xs i o change
    by_element None = refl
    by_element (Some y) = refl

pages_again : (lent : ℕ → Bool) (n k : ℕ) (ps : List Page) (i : ℕ) → k ≡ n + i
    → pages_after_mark lent n (change_at ps i (page_after_mark (lent k))) ≡ pages_after_mark lent n ps
pages_again lent n k [] i e = refl
pages_again lent n k (p ∷ ps) zero e =
    let here : k ≡ n = omega (arith, e) in
    rw here (ap (λ q. q ∷ pages_after_mark lent (n + 1) ps) (again (lent n) p))
pages_again lent n k (p ∷ ps) (suc i) e =
    ap (pages_after_mark lent n) (change_more p ps i (page_after_mark (lent k)))
    ∙ ap (λ qs. page_after_mark (lent n) p ∷ qs) (pages_again lent (n + 1) k ps i (omega (arith, e)))

-- a mark was ended for the pages of indexes below i
abbrev pub AreEnded : (ℕ → Bool) → ℕ → StoreState → Type 0
AreEnded lent i s =
    (j : ℕ) (p : Page) → j < i → slice_get s.pages j ≡ Some p → page_after_mark (lent (j + 1)) p ≡ p

pages_stay : (lent : ℕ → Bool) (n : ℕ) (ps : List Page)
    → ((j k : ℕ) (p : Page) → k ≡ n + j → slice_get ps j ≡ Some p → page_after_mark (lent k) p ≡ p)
    → pages_after_mark lent n ps ≡ ps
pages_stay lent n [] h = refl
pages_stay lent n (p ∷ ps) h = ap (λ q. q ∷ pages_after_mark lent (n + 1) ps) (h zero n p (omega arith) refl)
    ∙ ap (λ qs. p ∷ qs) (pages_stay lent (n + 1) ps (λ j k q a e. h (suc j) k q (omega (arith, a)) e))

page_ended : (lent : ℕ → Bool) (n k : ℕ) (ps : List Page) (i : ℕ) (p : Page) → k ≡ n + i → slice_get ps i ≡ Some p
    → slice_get (pages_after_mark lent n ps) i ≡ Some (page_after_mark (lent k) p)
page_ended lent n k [] i p e h = absurd (cc)
page_ended lent n k (q ∷ ps) zero p e h =
    let here : q ≡ p = same_Some _ _ h in let same : n ≡ k = omega (arith, e) in
    ap (λ z. Some (page_after_mark (lent n) z)) here ∙ ap (λ z. Some (page_after_mark (lent z) p)) same
page_ended lent n k (q ∷ ps) (suc i) p e h = page_ended lent (n + 1) k ps i p (omega (arith, e)) h

pages_many : (lent : ℕ → Bool) (n : ℕ) (ps : List Page) → length (pages_after_mark lent n ps) ≡ length ps
pages_many lent n [] = refl
pages_many lent n (p ∷ ps) = ap suc (pages_many lent (n + 1) ps)

-- owners

page_at_number : (s : StoreState) (j : ℕ) → state_at s (j + 1) ≡ state_in (slice_get s.pages j)
unfolding state_at
page_at_number s j =
    let back : j + 1 - 1 ≡ j = omega arith in
    ap state_in (page_at_record s (j + 1) (λ e. absurd (omega (arith, e))))
    ∙ ap (λ k. state_in (slice_get s.pages k)) back

-- an owner that loses its frame, or keeps it
abbrev pub owner_if : (n : ℕ) → Bool → Option ℕ
owner_if n b = cond b None (Some n)

-- the page of an index becomes another one, which is protected only if it was before
module _ (s : StoreState) (i : ℕ) (p : Page) (h : IsStore s) (at : slice_get s.pages i ≡ Some p) where
  owner_elsewhere : (q : Page) (t : StoreState) → t.pages ≡ set s.pages i q → (j : ℕ) → j ≢ i
      → owner_after_mark t (Some (j + 1)) ≡ owner_after_mark s (Some (j + 1))
  owner_elsewhere q t e j other =
      ap (λ x. owner_if (j + 1) (is_protected x)) (page_at_number t j ∙ ap (λ ps. state_in (slice_get ps j)) e
      ∙ ap state_in (get_set_other s.pages i j q other) ∙ sym (page_at_number s j))

  -- an owner is the page of an index
  by_owner : (P : Option ℕ → Type 0) (f : ℕ) (o : Option ℕ) → slice_get s.owners f ≡ Some o → P None
      → ((j : ℕ) (x : Page) → slice_get s.pages j ≡ Some x → x.frame ≡ Some f → P (Some (j + 1))) → P o
  by_owner P f None e none some = none
  by_owner P f (Some n) e none some = go (h.owning.owner f n e)
    where
      go : (j : ℕ) × (x : Page) × (n ≡ j + 1) × (slice_get s.pages j ≡ Some x) × (x.frame ≡ Some f) → P (Some n)
      go (j, x, a, b, c) = subst (λ m. P (Some m)) (sym a) (some j x b c)

  frame_of : (j f : ℕ) (x : Page) → slice_get s.pages j ≡ Some x → x.frame ≡ Some f → j ≡ i → p.frame ≡ Some f
  frame_of j f x e frame same =
      ap (λ (y : Page). y.frame) (same_Some _ _ (sym at ∙ ap (slice_get s.pages) (sym same) ∙ e)) ∙ frame

  -- a page without a frame becomes another one
  owners_gone : p.frame ≡ None → (t : StoreState) → t.pages ≡ set s.pages i (retired_page p) → t.owners ≡ s.owners
      → map (owner_after_mark t) t.owners ≡ map (owner_after_mark s) s.owners
  owners_gone none t e same = ap (map (owner_after_mark t)) same ∙ map_alike _ _ s.owners
      (λ f o a. by_owner (λ o. owner_after_mark t o ≡ owner_after_mark s o) f o a refl
      (λ j x b c. owner_elsewhere (retired_page p) t e j (λ z. none-some f (sym none ∙ frame_of j f x b c z))))

  -- a page releases its frame
  owners_from : (g : ℕ) → p.frame ≡ Some g → is_protected p.state ≡ true → (t : StoreState)
      → t.pages ≡ set s.pages i (retired_page p) → t.owners ≡ set s.owners g None
      → map (owner_after_mark t) t.owners ≡ map (owner_after_mark s) s.owners
  owners_from g frame protected t e same =
      let owns = h.owning.owned i g p at frame in
      let given : owner_after_mark s (Some (i + 1)) ≡ None =
      ap (λ x. owner_if (i + 1) (is_protected x)) (page_at_number s i ∙ ap state_in at)
      ∙ ap (owner_if (i + 1)) protected in
      ap (map (owner_after_mark t)) same ∙ map_but _ _ s.owners g (Some (i + 1)) None owns (sym given)
      (λ f o other a. by_owner (λ o. owner_after_mark t o ≡ owner_after_mark s o) f o a refl
      (λ j x b c. owner_elsewhere (retired_page p) t e j
      (λ z. other (same_Some _ _ (sym (frame_of j f x b c z) ∙ frame)))))

  -- a page becomes another one that is protected as it was
  owners_alike : (q : Page) → is_protected q.state ≡ is_protected p.state → (t : StoreState)
      → t.pages ≡ set s.pages i q → t.owners ≡ s.owners
      → map (owner_after_mark t) t.owners ≡ map (owner_after_mark s) s.owners
  owners_alike q alike t e same = ap (map (owner_after_mark t)) same ∙ map_alike _ _ s.owners
      (λ f o a. by_owner (λ o. owner_after_mark t o ≡ owner_after_mark s o) f o a refl
      (λ j x b c. by_place j (cases_eq j i)))
    where
      by_place : (j : ℕ) → (j ≡ i) ⊎ (j ≢ i)
          → owner_after_mark t (Some (j + 1)) ≡ owner_after_mark s (Some (j + 1))
      by_place j (inr other) = owner_elsewhere q t e j other
      by_place j (inl here) = ap (owner_if (j + 1)) (ap is_protected (page_at_number t j)
          ∙ ap (λ ps. is_protected (state_in (slice_get ps j))) e
          ∙ ap (λ k. is_protected (state_in (slice_get (set s.pages i q) k))) here
          ∙ ap (λ o. is_protected (state_in o)) (get_set_same s.pages i p q at) ∙ alike
          ∙ ap (λ o. is_protected (state_in o)) (sym at)
          ∙ ap (λ k. is_protected (state_in (slice_get s.pages k))) (sym here)
          ∙ ap is_protected (sym (page_at_number s j)))

-- two stores have the same owners after a mark's end
abbrev pub LeavesAlike : StoreState → StoreState → Type 0
LeavesAlike s t = map (owner_after_mark t) t.owners ≡ map (owner_after_mark s) s.owners

-- the owners after a mark's end are the same before and after it is done for one page
ended_owners : (s : StoreState) (i : ℕ) (lent : Bool) → IsStore s
    → LeavesAlike s (with_mark_ended_at s i lent)
ended_owners s i lent h = by_page (slice_get s.pages i) refl
  where
    by_frame : (p : Page) → slice_get s.pages i ≡ Some p → is_protected p.state ≡ true → (lent : Bool)
        → (o : Option ℕ) → p.frame ≡ o → LeavesAlike s (with_mark_ended_at s i lent)
    by_frame p e protected lent None frame = subst (LeavesAlike s) (retired_gone_at s i lent p e frame protected)
        (owners_gone s i p h e frame (record s { pages = set s.pages i (retired_page p) }) refl refl)
    by_frame p e protected lent (Some g) frame = subst (LeavesAlike s) (retired_from_at s i g lent p e frame protected)
        (owners_from s i p h e g frame protected
        (record s {
          pages = set s.pages i (retired_page p);
          frames = set s.frames g [];
          owners = set s.owners g None;
        }) refl refl)

    by_state : (p : Page) → slice_get s.pages i ≡ Some p → (x : PageState) → p.state ≡ x → (lent : Bool)
        → LeavesAlike s (with_mark_ended_at s i lent)
    by_state p e Unused a b =
        subst (LeavesAlike s) (kept_at s i b p e (ap is_protected a) (ap (λ y. is_open y && not b) a)) refl
    by_state p e Open a true =
        subst (LeavesAlike s) (kept_at s i true p e (ap is_protected a) (ap (λ y. is_open y && false) a)) refl
    by_state p e Open a false = subst (LeavesAlike s) (closed_at s i p e (ap is_open a))
        (owners_alike s i p h e (closed_page p)
        (ap is_protected (sym a)) (record s { pages = set s.pages i (closed_page p) }) refl refl)
    by_state p e Closed a b =
        subst (LeavesAlike s) (kept_at s i b p e (ap is_protected a) (ap (λ y. is_open y && not b) a)) refl
    by_state p e From a b = by_frame p e (ap is_protected a) b p.frame refl
    by_state p e Gone a b = by_frame p e (ap is_protected a) b p.frame refl

    by_page : (o : Option Page) → slice_get s.pages i ≡ o → LeavesAlike s (with_mark_ended_at s i lent)
    by_page None e = subst (LeavesAlike s) (sym (missing_at s i lent e)) refl
    by_page (Some p) e = by_state p e p.state refl lent

-- frames

-- a frame that will be free may lose its words before
owned_empty : (os : List (Option ℕ)) (frames : List (List ℕ)) (g : ℕ) → slice_get os g ≡ Some None
    → frames_owned os (set frames g []) ≡ frames_owned os frames
owned_empty [] frames g e = absurd (cc)
owned_empty (o ∷ os) [] g e = refl
owned_empty (o ∷ os) (ws ∷ frames) zero e =
    let free : o ≡ None = same_Some _ _ e in
    ap (λ x. words_owned x [] ∷ frames_owned os frames) free
    ∙ sym (ap (λ x. words_owned x ws ∷ frames_owned os frames) free)
owned_empty (o ∷ os) (ws ∷ frames) (suc g) e = ap (λ fs. words_owned o ws ∷ fs) (owned_empty os frames g e)

-- only frames with owners have words, so frames stay
owned_same : (words : ℕ) (os : List (Option ℕ)) (frames : List (List ℕ)) → ((f : ℕ) (o : Option ℕ) (ws : List ℕ)
    → slice_get os f ≡ Some o → slice_get frames f ≡ Some ws → length ws ≡ owned_size words o)
    → frames_owned os frames ≡ frames
owned_same words [] frames h = refl
owned_same words (o ∷ os) [] h = refl
owned_same words (o ∷ os) (ws ∷ frames) h =
    ap (λ x. x ∷ frames_owned os frames) (here o ws (h zero o ws refl refl))
    ∙ ap (λ fs. ws ∷ fs) (owned_same words os frames (λ f q xs a b. h (suc f) q xs a b))
  where
    here : (o : Option ℕ) (ws : List ℕ) → length ws ≡ owned_size words o → words_owned o ws ≡ ws
    here None [] e = refl
    here None (x ∷ xs) e = absurd (cc)
    here (Some n) ws e = refl

length_owned : (os : List (Option ℕ)) (frames : List (List ℕ)) → length (frames_owned os frames) ≡ length frames
length_owned [] frames = refl
length_owned (o ∷ os) [] = refl
length_owned (o ∷ os) (ws ∷ frames) = ap suc (length_owned os frames)

-- a frame that has an owner keeps its words
pub kept_owned : (os : List (Option ℕ)) (frames : List (List ℕ)) (f n : ℕ) → slice_get os f ≡ Some (Some n)
    → slice_get (frames_owned os frames) f ≡ slice_get frames f
kept_owned [] frames f n e = absurd (cc)
kept_owned (o ∷ os) [] f n e = refl
kept_owned (o ∷ os) (ws ∷ frames) zero n e =
    let owner : o ≡ Some n = same_Some _ _ e in ap (λ x. Some (words_owned x ws)) owner
kept_owned (o ∷ os) (ws ∷ frames) (suc f) n e = kept_owned os frames f n e

-- a frame that a page releases is free after the mark
given_free : (s : StoreState) (i g : ℕ) (p : Page) → IsStore s → slice_get s.pages i ≡ Some p → given_up p ≡ Some g
    → slice_get (map (owner_after_mark s) s.owners) g ≡ Some None
given_free s i g p h at e = by_test (is_protected p.state) refl e
  where
    by_test : (b : Bool) → is_protected p.state ≡ b → cond b p.frame None ≡ Some g
        → slice_get (map (owner_after_mark s) s.owners) g ≡ Some None
    by_test false a k = absurd (cc)
    by_test true a k = get_map (owner_after_mark s) s.owners g (Some (i + 1)) (h.owning.owned i g p at k)
        ∙ ap Some (ap (λ x. owner_if (i + 1) (is_protected x)) (page_at_number s i ∙ ap state_in at)
        ∙ ap (owner_if (i + 1)) a)

-- the frames after a mark's end are the same before and after it is done for one page
ended_frames : (s : StoreState) (i : ℕ) → IsStore s
    → frames_owned (map (owner_after_mark s) s.owners)
    (with_empty s.frames (option_and_then given_up (slice_get s.pages i)))
    ≡ frames_owned (map (owner_after_mark s) s.owners) s.frames
ended_frames s i h = by_page (slice_get s.pages i) refl
  where
    by_frame : (p : Page) → slice_get s.pages i ≡ Some p → (o : Option ℕ) → given_up p ≡ o
        → frames_owned (map (owner_after_mark s) s.owners) (with_empty s.frames o)
        ≡ frames_owned (map (owner_after_mark s) s.owners) s.frames
    by_frame p at None e = refl
    by_frame p at (Some g) e = owned_empty _ s.frames g (given_free s i g p h at e)

    by_page : (o : Option Page) → slice_get s.pages i ≡ o
        → frames_owned (map (owner_after_mark s) s.owners) (with_empty s.frames (option_and_then given_up o))
        ≡ frames_owned (map (owner_after_mark s) s.owners) s.frames
    by_page None at = refl
    by_page (Some p) at = by_frame p at (given_up p) refl

-- a mark may be ended for one page before it is ended for all
pub ended_step : (s : StoreState) (lent : ℕ → Bool) (i : ℕ) → IsStore s
    → store_after_mark lent (with_mark_ended_at s i (lent (i + 1))) ≡ store_after_mark lent s
unfolding store_after_mark with_mark_ended_at
ended_step s lent i h =
    let pages = pages_again lent 1 (i + 1) s.pages i (omega arith) in
    let owners = ended_owners s i (lent (i + 1)) h in
    let frames = ap (λ os. frames_owned os (with_empty s.frames
    (option_and_then given_up (slice_get s.pages i)))) owners ∙ ended_frames s i h in
    λ z. record s { pages = pages z; frames = frames z; owners = owners z }

-- a mark that was ended for each page is ended for the store
pub ended_all : (s : StoreState) (lent : ℕ → Bool) (i : ℕ) → IsStore s → length s.pages ≤ i → AreEnded lent i s
    → store_after_mark lent s ≡ s
unfolding store_after_mark
ended_all s lent i h k all =
    let pages = pages_stay lent 1 s.pages (λ j k p a e. ended_at j k p (omega (arith, a)) e) in
    let owners = map_same (owner_after_mark s) s.owners (λ f o e. by_owner_of f o e) in
    let frames = ap (λ os. frames_owned os s.frames) owners
    ∙ owned_same s.words s.owners s.frames h.sized.frames in
    λ z. record s { pages = pages z; frames = frames z; owners = owners z }
  where
    ended_at : (j m : ℕ) (p : Page) → m ≡ j + 1 → slice_get s.pages j ≡ Some p → page_after_mark (lent m) p ≡ p
    ended_at j m p a e = let within = slice_get_within s.pages j p e in rw a (all j p (omega (arith, within)) e)

    by_owner_of : (f : ℕ) (o : Option ℕ) → slice_get s.owners f ≡ Some o → owner_after_mark s o ≡ o
    by_owner_of f None e = refl
    by_owner_of f (Some n) e = go (h.owning.owner f n e)
      where
        go : (j : ℕ) × (x : Page) × (n ≡ j + 1) × (slice_get s.pages j ≡ Some x) × (x.frame ≡ Some f)
            → owner_after_mark s (Some n) ≡ Some n
        go (j, x, a, b, c) =
            let free : is_protected x.state ≡ false = not_protected (lent (j + 1)) x (ended_at j (j + 1) x refl b) in
            let state : state_at s n ≡ x.state =
            ap (state_at s) a ∙ page_at_number s j ∙ ap state_in b in
            ap (owner_if n) (ap is_protected state ∙ free)

-- it is ended for one more page
pub ended_more : (s : StoreState) (lent : ℕ → Bool) (i : ℕ) → AreEnded lent i s
    → AreEnded lent (i + 1) (with_mark_ended_at s i (lent (i + 1)))
unfolding with_mark_ended_at
ended_more s lent i h j p below e = by_page (slice_get s.pages i) refl
  where
    by_page : (o : Option Page) → slice_get s.pages i ≡ o → page_after_mark (lent (j + 1)) p ≡ p
    by_page None a =
        let before : slice_get s.pages j ≡ Some p =
        ap (λ (t : StoreState). slice_get t.pages j) (sym (missing_at s i (lent (i + 1)) a)) ∙ e in
        let within = slice_get_within s.pages j p before in
        let other : j ≢ i = λ z. none-some p (sym a ∙ ap (slice_get s.pages) (sym z) ∙ before) in
        h j p (omega (arith, other, below)) before
    by_page (Some q) a = by_place (get_set s.pages i j (page_after_mark (lent (i + 1)) q) p (found q a))
      where
        found : (q : Page) → slice_get s.pages i ≡ Some q
            → slice_get (set s.pages i (page_after_mark (lent (i + 1)) q)) j ≡ Some p
        found q a = ap (λ o. slice_get (change_found s.pages i o (page_after_mark (lent (i + 1)))) j) (sym a) ∙ e

        by_place : ((j ≡ i) × (page_after_mark (lent (i + 1)) q ≡ p)) ⊎ ((j ≢ i) × (slice_get s.pages j ≡ Some p))
            → page_after_mark (lent (j + 1)) p ≡ p
        by_place (inl b) = rw (b.0, sym b.1) (again (lent (i + 1)) q)
        by_place (inr b) = h j p (omega (arith, b.0, below)) b.1

-- at first it is ended for none
pub ended_none : (s : StoreState) (lent : ℕ → Bool) → AreEnded lent 0 s
ended_none s lent j p below e = absurd (omega (arith, below))

-- no page is gained or lost
pub ended_length : (s : StoreState) (i : ℕ) (lent : Bool) → length (with_mark_ended_at s i lent).pages ≡ length s.pages
unfolding with_mark_ended_at
ended_length s i lent = by_page (slice_get s.pages i)
  where
    by_page : (o : Option Page) → length (change_found s.pages i o (page_after_mark lent)) ≡ length s.pages
    by_page None = refl
    by_page (Some p) = length-set s.pages i (page_after_mark lent p)

-- whether a buffer is lent matters only if the page is open
pub ended_open : (s : StoreState) (i : ℕ) (lent : Bool)
    → with_mark_ended_at s i (is_open (state_in (slice_get s.pages i)) && lent) ≡ with_mark_ended_at s i lent
ended_open s i lent = by_page (slice_get s.pages i) refl
  where
    by_frame : (p : Page) → slice_get s.pages i ≡ Some p → is_protected p.state ≡ true → (o : Option ℕ) → p.frame ≡ o
        → with_mark_ended_at s i false ≡ with_mark_ended_at s i lent
    by_frame p e a None f = sym (retired_gone_at s i false p e f a) ∙ retired_gone_at s i lent p e f a
    by_frame p e a (Some g) f = sym (retired_from_at s i g false p e f a) ∙ retired_from_at s i g lent p e f a

    by_state : (p : Page) → slice_get s.pages i ≡ Some p → (x : PageState) → p.state ≡ x
        → with_mark_ended_at s i (is_open x && lent) ≡ with_mark_ended_at s i lent
    by_state p e Unused a = sym (kept_at s i false p e (ap is_protected a) (ap (λ y. is_open y && true) a))
        ∙ kept_at s i lent p e (ap is_protected a) (ap (λ y. is_open y && not lent) a)
    by_state p e Open a = refl
    by_state p e Closed a = sym (kept_at s i false p e (ap is_protected a) (ap (λ y. is_open y && true) a))
        ∙ kept_at s i lent p e (ap is_protected a) (ap (λ y. is_open y && not lent) a)
    by_state p e From a = by_frame p e (ap is_protected a) p.frame refl
    by_state p e Gone a = by_frame p e (ap is_protected a) p.frame refl

    by_page : (o : Option Page) → slice_get s.pages i ≡ o
        → with_mark_ended_at s i (is_open (state_in (slice_get s.pages i)) && lent) ≡ with_mark_ended_at s i lent
    by_page None e = missing_at s i _ e ∙ sym (missing_at s i lent e)
    by_page (Some p) e = ap (λ o. with_mark_ended_at s i (is_open (state_in o) && lent)) e ∙ by_state p e p.state refl

-- so it need not be known for a page that isn't open
pub ended_shut : (s : StoreState) (i : ℕ) (lent : Bool) → is_open (state_in (slice_get s.pages i)) ≡ false
    → with_mark_ended_at s i false ≡ with_mark_ended_at s i lent
ended_shut s i lent e = ap (λ b. with_mark_ended_at s i (b && lent)) (sym e) ∙ ended_open s i lent

-- the sizes stay
pub ended_sized : (s : StoreState) (lent : ℕ → Bool) → AreSized s (store_after_mark lent s)
unfolding store_after_mark
ended_sized s lent =
    record { words = refl; count = refl; frames = length_owned (map (owner_after_mark s) s.owners) s.frames }

-- buffers lie where they did, if their pages count as lent
pub ended_lies : (s : StoreState) (lent : ℕ → Bool) (b : Buffer) → lent b.page ≡ true → LiesIn s b
    → LiesIn (store_after_mark lent s) b
unfolding store_after_mark
ended_lies s lent b is_lent h =
    let (z, p, at, is_so) = lies_at s b h in
    let open_page : p.state ≡ Open = open_is p.state is_so in
    let stays : page_after_mark (lent b.page) p ≡ p = rw (is_lent, open_page) refl in
    lies_by (store_after_mark lent s) b p z
    (page_ended lent 1 b.page s.pages (b.page - 1) p (omega (arith, z)) at ∙ ap Some stays) is_so h.order h.end

-- no page is protected any more
pub ended_unprotected : (s : StoreState) (lent : ℕ → Bool) → NoneProtected (store_after_mark lent s)
unfolding store_after_mark
ended_unprotected s lent = all 1 s.pages
  where
    by_tests : (a b : Bool) (p : Page) → is_protected p.state ≡ a
        → is_protected (cond a (record p { state = Unused; frame = None })
        (cond b (record p { state = Closed }) p)).state ≡ false
    by_tests true b p e = refl
    by_tests false true p e = refl
    by_tests false false p e = e

    all : (n : ℕ) (ps : List Page) → Each (pages_after_mark lent n ps) (λ p. is_protected p.state ≡ false)
    all n [] i x e = absurd (cc)
    all n (p ∷ ps) zero x e = subst (λ (q : Page). is_protected q.state ≡ false) (same_Some _ _ e)
        (by_tests (is_protected p.state) (is_open p.state && not (lent n)) p refl)
    all n (p ∷ ps) (suc i) x e = all (n + 1) ps i x e

-- A page is protected, or releases its memory: the store's invariant stays.
use Rattle.std.proofs.Common.{◌≡◌, ◌≢◌, ℕ, zero, suc, ◌-◌, ◌<◌, ◌≤◌, Bool, true, false, cond, List, [], ◌∷◌}
use Rattle.std.proofs.Common.{length}
use Rattle.std.proofs.Common.{set, count_by, is_some, Option, Some, None, refl, sym, ◌∙◌, ap, arith}
use Rattle.std.specs.List.{slice_get}
use Rattle.std.proofs.lemmas.List.Sums.{sum_by-cons}
use Rattle.std.proofs.lemmas.Option.{slice_get_within}
use Rattle.std.proofs.lemmas.Bool.{false≢true}
use Rattle.model.specs.declared.records.Page.{Page}
use Rattle.model.specs.declared.records.PageState.{PageState}
use Rattle.model.specs.declared.records.PageState.TheVariants.{Unused, Open, Closed, From, Gone}
use Rattle.model.specs.Stores.{StoreState, has_memory, is_protected, is_open, is_unused, page_at, state_at, state_in}
use Rattle.model.specs.Owning.{Each, IsStore}
use Rattle.model.specs.States.{change_at, change_found}
use Rattle.model.specs.Protections.{set_from_of}
use Rattle.model.specs.Moves.{set_gone_of}
use Rattle.model.proofs.Lists.{each_set, count_set, as_number}
use Rattle.model.proofs.Memory.{page_there}
use Rattle.page.specs.Relocating.{NoneGone}
use Rattle.page.specs.Views.{left_in, mark}
use Rattle.page.proofs.Keeping.{record_keeps}
use Rattle.page.proofs.Retiring.{freed_keeps}

-- if each element that passes one test passes another, no fewer pass the other
fewer : {X : Type 0} (p q : X → Bool) (xs : List X) → Each xs (λ x. p x ≡ true → q x ≡ true)
    → count_by p xs ≤ count_by q xs
fewer p q [] h = omega arith
fewer p q (x ∷ xs) h =
    let rest = fewer p q xs (λ i y e. h (suc i) y e) in
    let here : as_number (p x) ≤ as_number (q x) = one (p x) (q x) (h zero x refl) in
    omega (arith, sum_by-cons (λ y. cond (p y) 1 0) x xs, sum_by-cons (λ y. cond (q y) 1 0) x xs, rest, here)
  where
    one : (a b : Bool) → (a ≡ true → b ≡ true) → as_number a ≤ as_number b
    one false b k = omega arith
    one true true k = omega arith
    one true false k = absurd (false≢true (k refl))

-- a page that isn't gone and is protected has memory
kept_memory : (x : PageState) → x ≢ Gone → is_protected x ≡ true → has_memory x ≡ true
kept_memory From k e = refl
kept_memory Gone k e = absurd (k refl)
kept_memory Unused k e = absurd (cc)
kept_memory Open k e = absurd (cc)
kept_memory Closed k e = absurd (cc)

pub protect_keeps : (s : StoreState) (i : ℕ) (p : Page) → IsStore s → slice_get s.pages i ≡ Some p → p.state ≡ Closed
    → NoneGone s → IsStore (record s { pages = set s.pages i (set_from_of p) })
protect_keeps s i p h e closed kept =
    let same = ap has_memory closed in
    let after = count_set (λ (x : Page). has_memory x.state) s.pages i p (set_from_of p) e in
    let few = fewer (λ (x : Page). is_protected x.state) (λ (x : Page). has_memory x.state)
    (set s.pages i (set_from_of p)) (each_set (λ (x : Page). is_protected x.state ≡ true → has_memory x.state ≡ true)
    s.pages i (set_from_of p) (λ j x f. kept_memory x.state (kept j x f)) (λ f. refl)) in
    record_keeps s i p (set_from_of p) h e refl (sym same) (h.pages i p e).top
    (omega (arith, few, after, ap as_number same, h.balanced.frames))

pub release_keeps : (s : StoreState) (i g : ℕ) (p : Page) → IsStore s → slice_get s.pages i ≡ Some p
    → p.state ≡ From → p.frame ≡ Some g
    → IsStore (record s {
      pages = set s.pages i (set_gone_of p);
      frames = set s.frames g [];
      owners = set s.owners g None;
    })
release_keeps s i g p h e from frame = freed_keeps s i g p (set_gone_of p) h e frame refl refl (h.pages i p e).top
    (omega (
      arith,
      h.balanced.leaving,
      count_set (λ x. is_protected x.state) s.pages i p (set_gone_of p) e,
      ap (λ x. as_number (is_protected x)) from,
    ))

-- a record that is replaced by a changed one
pub changed_there : {X : Type 0} (xs : List X) (i : ℕ) (f : X → X) (x : X) → slice_get xs i ≡ Some x
    → set xs i (f x) ≡ change_at xs i f
changed_there xs i f x e = sym (ap (λ o. change_found xs i o f) e)

-- no words can be taken in a closed page before and after it is protected, and it isn't unused
pub from_left : (words : ℕ) (p : Page) → p.state ≡ Closed → left_in words p ≡ left_in words (set_from_of p)
from_left words p e = ap (λ x. cond (is_open x) (words - p.top) 0) e

pub from_marked : (p : Page) → p.state ≡ Closed → mark (is_unused p.state) ≡ mark (is_unused (set_from_of p).state)
from_marked p e = ap (λ x. mark (is_unused x)) e

pub gone_left : (words : ℕ) (p : Page) → p.state ≡ From → left_in words p ≡ left_in words (set_gone_of p)
gone_left words p e = ap (λ x. cond (is_open x) (words - p.top) 0) e

pub gone_marked : (p : Page) → p.state ≡ From → mark (is_unused p.state) ≡ mark (is_unused (set_gone_of p).state)
gone_marked p e = ap (λ x. mark (is_unused x)) e

-- a protected page that isn't released has a frame
pub from_framed : (s : StoreState) (i : ℕ) (p : Page) → IsStore s → slice_get s.pages i ≡ Some p → p.state ≡ From
    → p.frame ≡ None → ⊥
from_framed s i p h e from none =
    false≢true (sym (ap is_some none) ∙ (h.pages i p e).memory ∙ ap has_memory from)

-- a page in any state but Unused has a record
pub used_there : (s : StoreState) (n : ℕ) (x : PageState) → state_at s n ≡ x → x ≢ Unused
    → (n - 1 < length s.pages) × (state_in (slice_get s.pages (n - 1)) ≡ x) × (page_at s n ≡ slice_get s.pages (n - 1))
unfolding state_at
used_there s n x e d = by_page (page_at s n) refl
  where
    by_page : (o : Option Page) → page_at s n ≡ o
        → (n - 1 < length s.pages) × (state_in (slice_get s.pages (n - 1)) ≡ x)
        × (page_at s n ≡ slice_get s.pages (n - 1))
    by_page None f = absurd (d (sym e ∙ ap state_in f))
    by_page (Some p) f = let (one, at) = page_there s n p f in
        (slice_get_within s.pages (n - 1) p at, ap state_in at ∙ sym (ap state_in f) ∙ e, f ∙ sym at)

-- Pages are protected one after another.
use Rattle.std.proofs.Common.{◌≡◌, ◌≢◌, ℕ, zero, suc, ◌+◌, ◌-◌, ◌<◌, true, false}
use Rattle.std.proofs.Common.{List, [], ◌∷◌, ◌++◌, length, take, ◌==◌, eq-eqb, Option, Some, None}
use Rattle.std.proofs.Common.{refl, sym, ◌∙◌, ap, arith}
use Rattle.std.specs.List.{slice_get, list_any}
use Rattle.std.proofs.Math.ListN.{length-set}
use Rattle.std.proofs.lemmas.Option.{same_Some}
use Rattle.std.proofs.lemmas.Bool.{or_parts, true≢false}
use Rattle.model.specs.declared.records.Buffer.{Buffer}
use Rattle.model.specs.declared.records.Page.{Page}
use Rattle.model.specs.declared.records.PageState.TheVariants.{Unused, Closed, From, Gone}
use Rattle.model.specs.Stores.{StoreState, page_at, frame_in, state_at, state_in, is_open, is_protected, with_empty}
use Rattle.model.specs.Owning.{Each, LiesIn, NoneProtected, AreSized}
use Rattle.model.specs.States.{change_at, change_found}
use Rattle.model.specs.Protections.{has_twice, set_from_of, with_from_pages}
use Rattle.std.proofs.Common.{get_or}
use Rattle.std.proofs.lemmas.Option.{get_or_from_slice_get, slice_get_within}
use Rattle.std.proofs.lemmas.List.{take_more}
use Rattle.model.proofs.Lists.{get_set_other, get_within, each_changed, none_passes}
use Rattle.model.specs.Moves.{set_gone_of, with_released}
use Rattle.page.specs.Relocating.{NoneGone}
use Rattle.page.proofs.Keeping.{page_at_record, page_at_zero}
use Rattle.page.proofs.Relocated.{used_there}
use Rattle.page.proofs.Lying.{lies_at, lies_by}

-- a record that isn't changed
other_there : (ps : List Page) (i j : ℕ) (f : Page → Page) → j ≢ i → slice_get (change_at ps i f) j ≡ slice_get ps j
other_there ps i j f d = by_found (slice_get ps i)
  where
    by_found : (o : Option Page) → slice_get (change_found ps i o f) j ≡ slice_get ps j
    by_found None = refl
    by_found (Some x) = get_set_other ps i j (f x) d

-- pages that aren't among those that are protected stay
others_stay : (ns : List ℕ) (ps : List Page) (j : ℕ) → Each ns (λ n. j ≢ n - 1)
    → slice_get (with_from_pages ns ps) j ≡ slice_get ps j
others_stay [] ps j h = refl
others_stay (n ∷ ns) ps j h =
    others_stay ns (change_at ps (n - 1) set_from_of) j (λ i. h (suc i))
    ∙ other_there ps (n - 1) j set_from_of (h 0 n refl)

-- pages are protected after others
more : (ns : List ℕ) (n : ℕ) (ps : List Page)
    → with_from_pages (ns ++ n ∷ []) ps ≡ change_at (with_from_pages ns ps) (n - 1) set_from_of
more [] n ps = refl
more (m ∷ ns) n ps = more ns n (change_at ps (m - 1) set_from_of)

-- and none is gone by that
none_gone : (ns : List ℕ) (ps : List Page) → Each ps (λ p. p.state ≢ Gone)
    → Each (with_from_pages ns ps) (λ p. p.state ≢ Gone)
none_gone [] ps h = h
none_gone (n ∷ ns) ps h = none_gone ns (change_at ps (n - 1) set_from_of)
    (each_changed (λ p. p.state ≢ Gone) ps (n - 1) set_from_of h (λ p k. from_gone))
  where
    from_gone : From ≡ Gone → ⊥
    from_gone e = cc

-- the element of a number, in the elements before another
taken : {X : Type 0} (xs : List X) (i k : ℕ) (x : X) → slice_get (take i xs) k ≡ Some x
    → (k < i) × (slice_get xs k ≡ Some x)
taken [] zero k x e = absurd (cc)
taken [] (suc i) k x e = absurd (cc)
taken (y ∷ xs) zero k x e = absurd (cc)
taken (y ∷ xs) (suc i) zero x e = (omega arith, e)
taken (y ∷ xs) (suc i) (suc k) x e = let (low, at) = taken xs i k x e in (omega (arith, low), at)

-- numbers without repeats
apart : (ns : List ℕ) (i j m n : ℕ) → has_twice ns ≡ false → i < j → slice_get ns i ≡ Some m → slice_get ns j ≡ Some n
    → m ≢ n
apart [] i j m n h l e f k = absurd (cc)
apart (x ∷ ns) i zero m n h l e f k = absurd (omega (arith, l))
apart (x ∷ ns) zero (suc j) m n h l e f k =
    let none = none_passes (λ z. z == x) ns (or_parts (list_any (λ z. z == x) ns) (has_twice ns) h).0 in
    true≢false (sym (eq-eqb n x (sym k ∙ sym (same_Some x m e))) ∙ none j n f)
apart (x ∷ ns) (suc i) (suc j) m n h l e f k =
    apart ns i j m n (or_parts (list_any (λ z. z == x) ns) (has_twice ns) h).1 (omega (arith, l)) e f k

-- a closed page has a number
pub numbered : (s : StoreState) (n : ℕ) → state_at s n ≡ Closed → n ≢ 0
unfolding state_at
numbered s n e z = absurd (let k : Unused ≡ Closed = sym (ap state_in (page_at_zero s n z)) ∙ e in cc)

-- the i-th page is unchanged if only those before it are protected
pub still_closed : (s : StoreState) (ns : List ℕ) (i n : ℕ) → Each ns (λ m. state_at s m ≡ Closed)
    → has_twice ns ≡ false → slice_get ns i ≡ Some n
    → state_at (record s { pages = with_from_pages (take i ns) s.pages }) n ≡ Closed
unfolding state_at
still_closed s ns i n closed once at =
    let one = numbered s n (closed i n at) in
    ap state_in (page_at_record (record s { pages = with_from_pages (take i ns) s.pages }) n one
    ∙ others_stay (take i ns) s.pages (n - 1) differs ∙ sym (page_at_record s n one))
    ∙ closed i n at
  where
    predecessors : (m n : ℕ) → m ≢ 0 → n ≢ 0 → m - 1 ≡ n - 1 → m ≡ n
    predecessors zero n a b e = absurd (a refl)
    predecessors (suc m) zero a b e = absurd (b refl)
    predecessors (suc m) (suc n) a b e = omega (arith, e)

    differs : Each (take i ns) (λ m. n - 1 ≢ m - 1)
    differs k m e z =
        let (low, there) = taken ns i k m e in
        let one = numbered s n (closed i n at) in
        let other = numbered s m (closed k m there) in
        apart ns k i m n once low there at (predecessors m n other one (sym z))

pub still_none_gone : (s : StoreState) (ns : List ℕ) → NoneGone s
    → NoneGone (record s { pages = with_from_pages ns s.pages })
still_none_gone s ns h = none_gone ns s.pages h

-- one more page is protected
pub protected_more : (s : StoreState) (ns : List ℕ) (i n : ℕ) → slice_get ns i ≡ Some n
    → record s { pages = change_at (with_from_pages (take i ns) s.pages) (n - 1) set_from_of }
    ≡ record s { pages = with_from_pages (take (i + 1) ns) s.pages }
protected_more s ns i n at = ap (λ ps. record s { pages = ps })
    (sym (more (take i ns) n s.pages) ∙ ap (λ ms. with_from_pages ms s.pages)
    (sym (take_more ns i 0 (slice_get_within ns i n at)
    ∙ ap (λ m. take i ns ++ m ∷ []) (get_or_from_slice_get ns i n 0 at))))

-- buffers lie where they did
pub protected_lies : (s : StoreState) (ns : List ℕ) (b : Buffer) → Each ns (λ n. state_at s n ≡ Closed) → LiesIn s b
    → LiesIn (record s { pages = with_from_pages ns s.pages }) b
unfolding state_at
protected_lies s ns b closed lies =
    let (one, p, at, is_so) = lies_at s b lies in
    lies_by (record s { pages = with_from_pages ns s.pages }) b p one
    (others_stay ns s.pages (b.page - 1) (differs one p at is_so) ∙ at) is_so lies.order lies.end
  where
    differs : b.page ≢ 0 → (p : Page) → slice_get s.pages (b.page - 1) ≡ Some p → is_open p.state ≡ true
        → Each ns (λ n. b.page - 1 ≢ n - 1)
    differs one p at is_so k n e z =
        let other = numbered s n (closed k n e) in
        let is : state_in (Some p) ≡ Closed = ap state_in (sym at ∙ ap (slice_get s.pages) z
        ∙ sym (page_at_record s n other)) ∙ closed k n e in
        true≢false (sym is_so ∙ ap is_open is)

-- the value at an index that exists
pub read_there : (ns : List ℕ) (i : ℕ) → i < length ns → slice_get ns i ≡ Some (get_or ns i 0)
read_there ns i low = let (n, at) = get_within ns i low in at ∙ ap Some (sym (get_or_from_slice_get ns i n 0 at))

-- a page is released: buffers lie where they did, and some page was protected
pub released_lies : (s : StoreState) (n : ℕ) (b : Buffer) → state_at s n ≡ From → LiesIn s b
    → LiesIn (with_released s n) b
unfolding with_released
released_lies s n b from lies =
    let (one, p, at, is_so) = lies_at s b lies in
    let (low, state, here) = used_there s n From from not_unused in
    lies_by (with_released s n) b p one
    (other_there s.pages (n - 1) (b.page - 1) set_gone_of (differs one p at is_so state) ∙ at) is_so lies.order lies.end
  where
    not_unused : From ≡ Unused → ⊥
    not_unused e = cc

    differs : b.page ≢ 0 → (p : Page) → slice_get s.pages (b.page - 1) ≡ Some p → is_open p.state ≡ true
        → state_in (slice_get s.pages (n - 1)) ≡ From → b.page - 1 ≢ n - 1
    differs one p at is_so state z =
        let is : p.state ≡ From = ap state_in (sym at ∙ ap (slice_get s.pages) z) ∙ state in
        true≢false (sym is_so ∙ ap is_open is)

-- the sizes stay
pub released_sized : (s : StoreState) (n : ℕ) → AreSized s (with_released s n)
unfolding with_released
released_sized s n = record { words = refl; count = refl; frames = by_frame (frame_in (page_at s n)) }
  where
    by_frame : (o : Option ℕ) → length (with_empty s.frames o) ≡ length s.frames
    by_frame None = refl
    by_frame (Some f) = length-set s.frames f []

pub some_protected : (s : StoreState) (n : ℕ) → state_at s n ≡ From → NoneProtected s → ⊥
some_protected s n from none = by_page (slice_get s.pages (n - 1)) refl (used_there s n From from not_unused).1
  where
    not_unused : From ≡ Unused → ⊥
    not_unused e = cc

    by_page : (o : Option Page) → slice_get s.pages (n - 1) ≡ o → state_in o ≡ From → ⊥
    by_page None e k = absurd (cc)
    by_page (Some p) e k = true≢false (sym (ap is_protected k) ∙ none (n - 1) p e)

-- The table of usable pages' frames: what is found in it, and how a changed page changes it.
use Rattle.std.proofs.Common.{◌≡◌, ℕ, zero, suc, ◌+◌, ◌-◌, ◌*◌, nat_le, ◌==◌, ◌/◌, ◌%◌, ◌<◌, Bool, true, false, cond, List, [], ◌∷◌, map, length, set}
use Rattle.std.proofs.Math.ListN.{length-set}
use Rattle.std.proofs.Common.{◌≤◌, get_or, replicate, Option, Some, None, refl, subst, sym, ap, ◌∙◌, arith}
use Rattle.std.specs.List.{slice_get}
use Rattle.std.specs.Prelude.{IfSome}
use Rattle.std.specs.Option.{option_and_then}
use Rattle.std.proofs.lemmas.Option.{slice_get_within}
use Rattle.std.proofs.lemmas.Bool.Decides.{nat_tests}
use Rattle.model.specs.States.{flat}
use Rattle.model.specs.declared.records.Page.{Page}
use Rattle.model.specs.Stores.{StoreState, at_offset, blank_page, frame_in, is_open, record_count, is_protected, page_at, spot_of}
use Rattle.model.specs.Stores.{changed_frame, state_at, state_in, with_word, with_words, word_at, word_in, words_at}
use Rattle.model.specs.Owning.{IsStore}
use Rattle.model.specs.declared.limits.TheConstants.{MOST_PAGES, MOST_WORDS}
use Rattle.model.proofs.Lists.{get_read}
use Rattle.model.proofs.Memory.{open_state, page_record}
use Rattle.std.proofs.lemmas.Nat.{div-add-mod', mod_below, mul-le}
use Rattle.refword.specs.Words.{IsAddress}
use Rattle.page.specs.Usable.{usable_by_number, usable_frame, usable_in}
use Rattle.page.proofs.Behind.{further_on, same_page, spot_behind}
use Rattle.page.proofs.Indexes.{copies_mapped, length_mapped, set_mapped}
use Rattle.page.proofs.Keeping.{frame_short}
use Rattle.page.proofs.Retiring.{closed_page}
use Rattle.page.proofs.Runs.{frame_there, words_keep}

-- what is found

in_records : (pages : List Page) (i : ℕ) → flat (slice_get (map usable_in pages) i) ≡ option_and_then usable_in (slice_get pages i)
in_records [] i = refl
in_records (p ∷ ps) zero = refl
in_records (p ∷ ps) (suc i) = in_records ps i

-- the table is indexed by page numbers
pub found : (s : StoreState) (n : ℕ) → flat (slice_get (usable_by_number s.pages) n) ≡ usable_frame s n
unfolding usable_frame page_at
found s zero = refl
found s (suc n) = in_records s.pages n ∙ ap (option_and_then usable_in) (sym recorded)
  where
    positive : (suc n == 0) ≡ false
    positive = grind (arith, nat_tests)

    before : suc n - 1 ≡ n
    before = omega arith

    recorded : cond (suc n == 0) None (slice_get s.pages (suc n - 1)) ≡ slice_get s.pages n
    recorded = ap (λ b. cond b None (slice_get s.pages (suc n - 1))) positive ∙ ap (slice_get s.pages) before

-- a usable page has this frame
pub usable_framed : (s : StoreState) (n f : ℕ) → usable_frame s n ≡ Some f → frame_in (page_at s n) ≡ Some f
unfolding usable_frame
usable_framed s n f h = by_page (page_at s n) h
  where
    by_state : (b : Bool) (o : Option ℕ) → cond b None o ≡ Some f → o ≡ Some f
    by_state true o e = absurd (cc)
    by_state false o e = e

    by_page : (o : Option Page) → option_and_then usable_in o ≡ Some f → frame_in o ≡ Some f
    by_page None e = absurd (cc)
    by_page (Some p) e = by_state (is_protected p.state) p.frame e

-- a usable page isn't protected
pub usable_unprotected : (s : StoreState) (n f : ℕ) → usable_frame s n ≡ Some f → is_protected (state_at s n) ≡ false
unfolding usable_frame state_at
usable_unprotected s n f h = by_page (page_at s n) h
  where
    by_state : (b : Bool) (o : Option ℕ) → cond b None o ≡ Some f → b ≡ false
    by_state true o e = absurd (cc)
    by_state false o e = refl

    by_page : (o : Option Page) → option_and_then usable_in o ≡ Some f → is_protected (state_in o) ≡ false
    by_page None e = absurd (cc)
    by_page (Some p) e = by_state (is_protected p.state) p.frame e

-- a word after an address on a usable page is one of its frame
pub usable_spot : (s : StoreState) (a k f : ℕ) → usable_frame s (a / s.words) ≡ Some f → a % s.words + k < s.words
    → spot_of s (a + k) ≡ Some (f, a % s.words + k)
usable_spot s a k f h near = spot_behind s a k near
    ∙ ap (λ o. at_offset o (a % s.words + k)) (usable_framed s (a / s.words) f h)

get_past : (us : List (Option ℕ)) (n : ℕ) → length us ≤ n → slice_get us n ≡ None
get_past [] n h = refl
get_past (u ∷ us) zero h = absurd (omega (arith, h))
get_past (u ∷ us) (suc n) h = get_past us n (omega (arith, h))

none_there : {X : Type 0} (xs : List X) (i : ℕ) → i < length xs → slice_get xs i ≡ None → ⊥
none_there [] i l e = omega (arith, l)
none_there (x ∷ xs) zero l e = cc
none_there (x ∷ xs) (suc i) l e = none_there xs i (omega (arith, l)) e

-- no entry is past the table's end
pub found_none : (s : StoreState) (us : List (Option ℕ)) (n : ℕ) → us ≡ usable_by_number s.pages → length us ≤ n
    → None ≡ usable_frame s n
found_none s us n e past = ap flat (sym (get_past us n past)) ∙ ap (λ xs. flat (slice_get xs n)) e ∙ found s n

-- an entry of the table is the page's
pub found_some : (s : StoreState) (us : List (Option ℕ)) (n : ℕ) (x : Option ℕ) → us ≡ usable_by_number s.pages
    → n < length us → x ≡ get_or us n x → x ≡ usable_frame s n
found_some s us n x e low is = ap flat (sym (get_read us n x low is)) ∙ ap (λ xs. flat (slice_get xs n)) e ∙ found s n

-- the word after an address on a usable page
pub usable_word : (s : StoreState) (a k f : ℕ) → usable_frame s (a / s.words) ≡ Some f → a % s.words + k < s.words
    → word_at s (a + k) ≡ word_in s.frames (Some (f, a % s.words + k))
unfolding word_at
usable_word s a k f h near = ap (word_in s.frames) (usable_spot s a k f h near)

-- the words of a usable page are those of its frame
pub usable_words : {X : Type 0} (read : X → List ℕ) (s : StoreState) (n f : ℕ) (r : Option X) → usable_frame s n ≡ Some f
    → IfSome r (λ x. slice_get s.frames f ≡ Some (read x)) → IfSome r (λ x. words_at s n ≡ Some (read x))
unfolding words_at
usable_words read s n f None h e = tt
usable_words read s n f (Some x) h e = rw (usable_framed s n f h) e

-- the first word of an object
pub first_of : (s : StoreState) (a v : ℕ) → word_at s (a + 0) ≡ Some v → Some v ≡ word_at s a
first_of s a v e = let here : a + 0 ≡ a = omega arith in sym e ∙ ap (word_at s) here

-- that word is written
pub usable_written : (s : StoreState) (a k f v : ℕ) → usable_frame s (a / s.words) ≡ Some f
    → a % s.words + k < s.words
    → record s { frames = changed_frame s.frames f (slice_get s.frames f) (λ ws. set ws (a % s.words + k) v) }
    ≡ with_word s (a + k) v
unfolding with_word with_words
usable_written s a k f v h near = rw (same_page a k s.words near, further_on a k s.words near)
    (rw (usable_framed s (a / s.words) f h) refl)

on_frame : (s : StoreState) (f o : ℕ) → IsStore s → f < length s.frames
    → IfSome (slice_get s.frames f) (λ ws. o < length ws) → o < s.words
on_frame s f o k low h = by_frame (slice_get s.frames f) refl h
  where
    by_frame : (x : Option (List ℕ)) → slice_get s.frames f ≡ x → IfSome x (λ ws. o < length ws) → o < s.words
    by_frame None e l = absurd (none_there s.frames f low e)
    by_frame (Some ws) e l = omega (arith, frame_short s f ws k e, l)

-- the word found in the frame of a usable page is the word after the address
pub usable_read : (s : StoreState) (a k f o : ℕ) (r : Option ℕ) → IsStore s → usable_frame s (a / s.words) ≡ Some f
    → o ≡ a % s.words → IfSome r (λ v. word_in s.frames (Some (f, o + k)) ≡ Some v)
    → IfSome r (λ v. word_at s (a + k) ≡ Some v)
usable_read s a k f o None st h e w = tt
usable_read s a k f o (Some v) st h e w = usable_word s a k f h near ∙ there
  where
    there : word_in s.frames (Some (f, a % s.words + k)) ≡ Some v
    there = sym (ap (λ n. word_in s.frames (Some (f, n + k))) e) ∙ w

    by_frame : (x : Option (List ℕ)) → slice_get s.frames f ≡ x
        → option_and_then (λ ws. slice_get ws (a % s.words + k)) x ≡ Some v → a % s.words + k < s.words
    by_frame None p q = absurd (cc)
    by_frame (Some ws) p q =
        omega (arith, frame_short s f ws st p, slice_get_within ws (a % s.words + k) v q)

    near : a % s.words + k < s.words
    near = by_frame (slice_get s.frames f) refl there

-- it is written, or nothing is
pub usable_set : (s : StoreState) (a k f v o : ℕ) (done : Bool) (fs : List (List ℕ)) → IsStore s
    → usable_frame s (a / s.words) ≡ Some f → o ≡ a % s.words + k
    → (done ≡ true → IfSome (slice_get s.frames f) (λ ws. o < length ws))
    → fs ≡ cond done (changed_frame s.frames f (slice_get s.frames f) (λ ws. set ws o v)) s.frames
    → record s { frames = fs } ≡ cond done (with_word s (a + k) v) s
usable_set s a k f v o true fs st h is low e =
    let there = frame_there s (a / s.words) f st (usable_framed s (a / s.words) f h) in
    let near : a % s.words + k < s.words = subst (λ (n : ℕ). n < s.words) is (on_frame s f o st there (low refl)) in
    ap (λ xs. record s { frames = xs }) e
    ∙ ap (λ n. record s { frames = changed_frame s.frames f (slice_get s.frames f) (λ ws. set ws n v) }) is
    ∙ usable_written s a k f v h near
usable_set s a k f v o false fs st h is low e = ap (λ xs. record s { frames = xs }) e

-- that keeps the store's invariant
pub usable_set_keeps : (s : StoreState) (a v : ℕ) (done : Bool) → IsStore s → IsStore (cond done (with_word s a v) s)
unfolding with_word
usable_set_keeps s a v true h =
    words_keep s (a / s.words) (λ ws. set ws (a % s.words) v) (λ ws. length-set ws (a % s.words) v) h
usable_set_keeps s a v false h = h

records_few : (f c : ℕ) → c ≤ MOST_PAGES → record_count f c ≤ MOST_PAGES
records_few f c h = by_cases (nat_le c (2 * f)) refl
  where
    by_cases : (b : Bool) → nat_le c (2 * f) ≡ b → cond b c (2 * f) ≤ MOST_PAGES
    by_cases true e = h
    by_cases false e = let l : 2 * f < c = grind (arith, nat_tests, e) in omega (arith, l, h)

-- a number on a usable page is an address
pub usable_address : (s : StoreState) (a f : ℕ) → IsStore s → usable_frame s (a / s.words) ≡ Some f → IsAddress a
usable_address s a f st h =
    let n = a / s.words in
    let w = s.words in
    let (i, p, is, at, owns) = page_record s n f (usable_framed s n f h) in
    let few = records_few (length s.frames) s.count st.sized.count in
    let within = slice_get_within s.pages i p at in
    let low : 1 ≤ n = omega (arith, is) in
    let high : n ≤ MOST_PAGES = omega (arith, is, within, st.sized.pages, few) in
    let parts = div-add-mod' a w in
    let first : 1 * w ≤ n * w = mul-le 1 w n w low (omega arith) in
    let last : n * w ≤ MOST_PAGES * MOST_WORDS = mul-le n w MOST_PAGES MOST_WORDS high st.sized.words in
    record {
      above = omega (arith, parts, first, st.sized.words_low);
      below = omega (arith, parts, last, mod_below a w st.sized.words_low, st.sized.words);
    }

pub usable_is_address : (s : StoreState) (a : ℕ) (o : Option ℕ) → IsStore s → o ≡ usable_frame s (a / s.words)
    → IfSome o (λ _. IsAddress a)
usable_is_address s a None st e = tt
usable_is_address s a (Some f) st e = usable_address s a f st (sym e)

-- what changes

next_set : (us : List (Option ℕ)) (i : ℕ) (u v : Option ℕ) → set (u ∷ us) (i + 1) v ≡ u ∷ set us i v
next_set us i u v = let e : i + 1 ≡ suc i = omega arith in ap (λ k. set (u ∷ us) k v) e

-- a page changes, and its entry with it
pub usable_changed : (us : List (Option ℕ)) (pages : List Page) (i : ℕ) (p : Page) (v : Option ℕ)
    → us ≡ usable_by_number pages → v ≡ usable_in p → set us (i + 1) v ≡ usable_by_number (set pages i p)
usable_changed us pages i p v e h = ap (λ xs. set xs (i + 1) v) e ∙ next_set (map usable_in pages) i None v
    ∙ ap (λ xs. None ∷ xs) (set_mapped usable_in pages i p v h)

-- each page with a record has an entry
pub usable_there : (us : List (Option ℕ)) (pages : List Page) (i : ℕ) → us ≡ usable_by_number pages → i < length pages
    → i + 1 < length us
usable_there us pages i e h = omega (arith, ap length e, length_mapped usable_in pages, h)

pub usable_all : (us : List (Option ℕ)) (pages : List Page) → us ≡ usable_by_number pages → length us ≡ length pages + 1
usable_all us pages e = omega (arith, ap length e, length_mapped usable_in pages)

-- no unused page is usable
pub usable_first : (n : ℕ) → replicate (n + 1) None ≡ usable_by_number (replicate n blank_page)
usable_first n = let e : n + 1 ≡ suc n = omega arith in
    ap (λ k. replicate k None) e ∙ ap (λ xs. None ∷ xs) (copies_mapped usable_in n blank_page)

-- a page that closes keeps its entry
pub usable_closed : (p : Page) → is_open p.state ≡ true → usable_in p ≡ usable_in (closed_page p)
usable_closed p h = ap (λ st. cond (is_protected st) None p.frame) (open_state p.state h)

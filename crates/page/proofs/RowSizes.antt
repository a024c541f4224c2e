-- How many bits the bitmaps of pages have after changes of a store.
use Rattle.std.proofs.Common.{◌≡◌, ◌≢◌, ◌⊎◌, inl, inr, ℕ, zero, suc, ◌+◌, ◌-◌, ◌/◌, Bool, true, false, cond, List, [], ◌∷◌}
use Rattle.std.proofs.Common.{set, map, length, Option, Some, None, refl, sym, ◌∙◌, ap, ap₂, arith}
use Rattle.std.specs.List.{slice_get}
use Rattle.std.specs.Prelude.{◌==◌}
use Rattle.std.proofs.lemmas.Bool.{cases_eq}
use Rattle.model.specs.declared.records.Buffer.{Buffer}
use Rattle.model.specs.declared.records.Page.{Page}
use Rattle.model.specs.declared.records.PageState.{PageState}
use Rattle.model.specs.declared.records.PageState.TheVariants.{Unused, Open, Closed, From, Gone}
use Rattle.model.specs.Stores.{StoreState, is_open, is_unused, is_protected, give_words, open_fresh, fresh_page}
use Rattle.model.specs.Stores.{with_words, with_word, state_at, state_in, page_after_mark, pages_after_mark}
use Rattle.model.specs.Owning.{Each, row_size, row_sizes, opened_sizes}
use Rattle.model.specs.States.{change_at, change_found}
use Rattle.model.specs.Moves.{set_gone_of, with_released}
use Rattle.model.specs.Protections.{set_from_of, with_from_pages}
use Rattle.model.specs.Cycles.{rows_after_mark}
use Rattle.model.proofs.Lists.{get_set_same, get_set_other}
use Rattle.model.proofs.Tables.{get_map}
use Rattle.page.proofs.Indexes.{kept_mapped, set_mapped}
use Rattle.page.proofs.Keeping.{given_at, opened_at, opened_words}
use Rattle.page.proofs.Relocated.{used_there}
use Rattle.page.proofs.Retiring.{open_is, set_same}
use Rattle.std.proofs.lemmas.List.{set-set}

open_sized : (words : ℕ) (p : Page) → is_open p.state ≡ true → row_size words p ≡ words
open_sized words p o = ap (λ x. cond (is_unused x) 0 words) (open_is p.state o)

-- an open page that gives out words has its bitmaps, and needs no others
pub given_rows : (s : StoreState) (i n : ℕ) (p : Page) → slice_get s.pages i ≡ Some p → is_open p.state ≡ true
    → row_sizes (give_words s i n).0 ≡ opened_sizes s.words (give_words s i n).1 (row_sizes s)
given_rows s i n p e o =
    let q : Page = record p { top = p.top + n } in
    rw (given_at s i n p e) (sym (kept_mapped (row_size s.words) s.pages i p q e refl) ∙ by_top (p.top == 0))
  where
    by_top : (c : Bool) → row_sizes s ≡ cond c (set (row_sizes s) (i + 1 - 1) s.words) (row_sizes s)
    by_top false = refl
    by_top true =
        let back : i + 1 - 1 ≡ i = omega arith in
        sym (ap (λ j. set (row_sizes s) j s.words) back
        ∙ set_same (row_sizes s) i s.words
        (get_map (row_size s.words) s.pages i p e ∙ ap Some (open_sized s.words p o)))

pub opened_rows : (s : StoreState) (i f : ℕ) → row_sizes (open_fresh s i f) ≡ set (row_sizes s) i s.words
unfolding open_fresh
opened_rows s i f = sym (set_mapped (row_size s.words) s.pages i (fresh_page f) s.words refl)

-- a fresh page gets bitmaps
pub fresh_rows : (s : StoreState) (i f n : ℕ) (p : Page) → slice_get s.pages i ≡ Some p
    → row_sizes (give_words (open_fresh s i f) i n).0
    ≡ opened_sizes s.words (give_words (open_fresh s i f) i n).1 (row_sizes s)
fresh_rows s i f n p e =
    let at = opened_at s i f p e in
    let back : i + 1 - 1 ≡ i = omega arith in
    given_rows (open_fresh s i f) i n (fresh_page f) at refl
    ∙ ap (λ (b : Buffer). opened_sizes (open_fresh s i f).words b (row_sizes (open_fresh s i f)))
    (ap (λ (x : StoreState × Buffer). x.1) (given_at (open_fresh s i f) i n (fresh_page f) at))
    ∙ ap (λ w. set (row_sizes (open_fresh s i f)) (i + 1 - 1) w) (opened_words s i f)
    ∙ ap (λ j. set (row_sizes (open_fresh s i f)) j s.words) back
    ∙ ap (λ ns. set ns i s.words) (opened_rows s i f)
    ∙ set-set (row_sizes s) i s.words s.words
    ∙ sym (ap (λ (b : Buffer). opened_sizes s.words b (row_sizes s))
    (ap (λ (x : StoreState × Buffer). x.1) (given_at (open_fresh s i f) i n (fresh_page f) at))
    ∙ ap (λ j. set (row_sizes s) j s.words) back)

-- the bitmaps of pages keep their sizes if only words change
pub words_rows : (s : StoreState) (n : ℕ) (change : List ℕ → List ℕ) → row_sizes (with_words s n change) ≡ row_sizes s
unfolding with_words
words_rows s n change = refl

pub word_rows : (s : StoreState) (address v : ℕ) → row_sizes (with_word s address v) ≡ row_sizes s
unfolding with_word
word_rows s address v = words_rows s (address / s.words) _

-- a page that becomes another one, unused exactly if it was, needs the bitmaps that it has
pub alike_rows : (s : StoreState) (ps : List Page) (i : ℕ) (p q : Page) → slice_get s.pages i ≡ Some p
    → is_unused q.state ≡ is_unused p.state → ps ≡ set s.pages i q → map (row_size s.words) ps ≡ row_sizes s
alike_rows s ps i p q at same e =
    ap (map (row_size s.words)) e
    ∙ sym (kept_mapped (row_size s.words) s.pages i p q at (ap (λ b. cond b 0 s.words) (sym same)))

-- a page is released
pub released_rows : (s : StoreState) (n : ℕ) → state_at s n ≡ From → row_sizes (with_released s n) ≡ row_sizes s
unfolding with_released
released_rows s n from =
    let (low, state, at) = used_there s n From from not_unused in
    by_page (slice_get s.pages (n - 1)) refl state
  where
    not_unused : From ≡ Unused → ⊥
    not_unused e = cc

    by_page : (o : Option Page) → slice_get s.pages (n - 1) ≡ o → state_in o ≡ From
        → map (row_size s.words) (change_found s.pages (n - 1) o set_gone_of) ≡ row_sizes s
    by_page None e k = refl
    by_page (Some p) e k = alike_rows s _ (n - 1) p (set_gone_of p) e (ap is_unused (sym k)) refl

-- pages are protected
pub protected_rows : (words : ℕ) (ns : List ℕ) (ps : List Page)
    → Each ns (λ n. is_unused (state_in (slice_get ps (n - 1))) ≡ false)
    → map (row_size words) (with_from_pages ns ps) ≡ map (row_size words) ps
protected_rows words [] ps h = refl
protected_rows words (n ∷ ns) ps h =
    protected_rows words ns (change_at ps (n - 1) set_from_of) (λ i m e. used m (h (suc i) m e))
    ∙ one (slice_get ps (n - 1)) refl (h zero n refl)
  where
    one : (o : Option Page) → slice_get ps (n - 1) ≡ o → is_unused (state_in o) ≡ false
        → map (row_size words) (change_found ps (n - 1) o set_from_of) ≡ map (row_size words) ps
    one None e k = refl
    one (Some p) e k = sym (kept_mapped (row_size words) ps (n - 1) p (set_from_of p) e (ap (λ b. cond b 0 words) k))

    used : (m : ℕ) → is_unused (state_in (slice_get ps (m - 1))) ≡ false
        → is_unused (state_in (slice_get (change_at ps (n - 1) set_from_of) (m - 1))) ≡ false
    used m k = by_page (slice_get ps (n - 1)) refl
      where
        by_page : (o : Option Page) → slice_get ps (n - 1) ≡ o
            → is_unused (state_in (slice_get (change_found ps (n - 1) o set_from_of) (m - 1))) ≡ false
        by_page None e = k
        by_page (Some p) e = by_place (cases_eq (m - 1) (n - 1))
          where
            by_place : (m - 1 ≡ n - 1) ⊎ (m - 1 ≢ n - 1)
                → is_unused (state_in (slice_get (set ps (n - 1) (set_from_of p)) (m - 1))) ≡ false
            by_place (inl a) = ap (λ j. is_unused (state_in (slice_get (set ps (n - 1) (set_from_of p)) j))) a
                ∙ ap (λ o. is_unused (state_in o)) (get_set_same ps (n - 1) p (set_from_of p) e)
            by_place (inr a) =
                ap (λ o. is_unused (state_in o)) (get_set_other ps (n - 1) (m - 1) (set_from_of p) a) ∙ k

-- a mark ends, and protected pages lose their bitmaps
pub ended_rows : (words : ℕ) (lent : ℕ → Bool) (n : ℕ) (ps : List Page) (rows : List (List Bool))
    → map length rows ≡ map (row_size words) ps
    → map length (rows_after_mark ps rows) ≡ map (row_size words) (pages_after_mark lent n ps)
ended_rows words lent n [] rows e = e
ended_rows words lent n (p ∷ ps) [] e = absurd (cc)
ended_rows words lent n (p ∷ ps) (row ∷ rows) e =
    let (head, tail) = parts e in
    ap₂ (λ k ks. k ∷ ks) (by_state p.state refl (lent n) head) (ended_rows words lent (n + 1) ps rows tail)
  where
    parts : length row ∷ map length rows ≡ row_size words p ∷ map (row_size words) ps
        → (length row ≡ row_size words p) × (map length rows ≡ map (row_size words) ps)
    parts e = (cc, cc)

    by_state : (x : PageState) → p.state ≡ x → (b : Bool) → length row ≡ row_size words p
        → length (cond (is_protected p.state) [] row) ≡ row_size words (page_after_mark b p)
    by_state Unused a b k = rw a (rw a at k)
    by_state Open a true k = rw a (rw a at k)
    by_state Open a false k = rw a (rw a at k)
    by_state Closed a b k = rw a (rw a at k)
    by_state From a b k = rw a refl
    by_state Gone a b k = rw a refl

-- Objects that wait become grey, in any order with other changes of pages.
use Rattle.std.proofs.Common.{◌≡◌, ◌≢◌, ◌⊎◌, inl, inr, ℕ, zero, suc, ◌<◌, true, false, Bool, List, [], ◌∷◌, ◌++◌}
use Rattle.std.proofs.Common.{get_or, set, length, Option, Some, None, refl, sym, ◌∙◌, ap, arith}
use Rattle.std.specs.List.{slice_get}
use Rattle.std.specs.Prelude.{if◌then◌else◌}
use Rattle.std.specs.Option.{option_and_then}
use Rattle.std.proofs.Math.ListN.{length-set}
use Rattle.std.proofs.lemmas.List.{set-set}
use Rattle.std.proofs.lemmas.Bool.{cases_eq, true≢false}
use Rattle.std.proofs.lemmas.Option.{same_Some}
use Rattle.model.specs.Bits.{put_bit}
use Rattle.model.specs.States.{change_at, change_found}
use Rattle.model.proofs.Lists.{get_set_same, get_set_other, changed_again, changed_there, changed_two, set_again}
use Rattle.model.proofs.Tables.{length_changed}
use Rattle.page.specs.declared.owned.OwnedPage.{OwnedPage}
use Rattle.part_scans.specs.Scans.{end_on, mark_on, word_of, write_on, is_grey_own, is_marked_own, bit_in}
use Rattle.part_scans.specs.Waiting.{IsNoneOf, IsWaiting, all_grey, grey_at, grey_on, white_on}
use Rattle.page.proofs.Changes.{set_two}

-- ---- one page

-- a change of a page that goes with greying another object
abbrev pub Goes : ℕ → (OwnedPage → OwnedPage) → Type 0
Goes o f = (p : OwnedPage) → f (grey_on o p) ≡ grey_on o (f p)

-- a change that leaves marks, and how many bits there are
pub record Leaves (f : OwnedPage → OwnedPage) : Type 0 where
  pub marked : (p : OwnedPage) (o : ℕ) → get_or p.marked o false ≡ true → get_or (f p).marked o false ≡ true
  pub grey : (p : OwnedPage) → length (f p).grey ≡ length p.grey

pub grey_goes : (o n : ℕ) → Goes o (grey_on n)
unfolding grey_on
grey_goes o n p = ap (λ r. record p { grey = r }) (set_two p.grey o n true true (λ e. refl))

pub write_goes : (o n v : ℕ) → Goes o (write_on n v)
unfolding grey_on write_on
write_goes o n v p = refl

pub white_goes : (o n : ℕ) → Goes o (white_on n)
unfolding grey_on
white_goes o n p = refl

pub mark_goes : (o n : ℕ) → Goes o (mark_on n)
unfolding grey_on mark_on
mark_goes o n p = by_bit (get_or p.marked n false)
  where
    by_bit : (b : Bool)
        → (record p {
          marked = put_bit n true p.marked;
          grey = if b then put_bit o true p.grey else put_bit n true (put_bit o true p.grey);
        })
        ≡ (record p {
          marked = put_bit n true p.marked;
          grey = put_bit o true (if b then p.grey else put_bit n true p.grey);
        })
    by_bit true = refl
    by_bit false = ap (λ r. record p { marked = put_bit n true p.marked; grey = r })
        (set_two p.grey o n true true (λ e. refl))

pub end_goes : (o n : ℕ) → (o ≡ n → true ≡ false) → Goes o (end_on n)
unfolding grey_on end_on
end_goes o n d p = ap (λ r. record p { grey = r }) (set_two p.grey o n true false (λ e. d e))

set_true : (row : List Bool) (n o : ℕ) → get_or row o false ≡ true → get_or (set row n true) o false ≡ true
set_true [] n o e = e
set_true (b ∷ bs) zero zero e = refl
set_true (b ∷ bs) zero (suc o) e = e
set_true (b ∷ bs) (suc n) zero e = e
set_true (b ∷ bs) (suc n) (suc o) e = set_true bs n o e

pub grey_leaves : (n : ℕ) → Leaves (grey_on n)
unfolding grey_on
grey_leaves n = record { marked = λ p o e. e; grey = λ p. length-set p.grey n true }

pub write_leaves : (n v : ℕ) → Leaves (write_on n v)
unfolding write_on
write_leaves n v = record { marked = λ p o e. e; grey = λ p. refl }

pub white_leaves : (n : ℕ) → Leaves (white_on n)
white_leaves n = record { marked = λ p o e. set_true p.marked n o e; grey = λ p. refl }

pub mark_leaves : (n : ℕ) → Leaves (mark_on n)
unfolding mark_on
mark_leaves n = record {
  marked = λ p o e. set_true p.marked n o e;
  grey = λ p. by_bit (get_or p.marked n false) p;
}
  where
    by_bit : (b : Bool) (p : OwnedPage) → length (if b then p.grey else put_bit n true p.grey) ≡ length p.grey
    by_bit true p = refl
    by_bit false p = length-set p.grey n true

pub end_leaves : (n : ℕ) → Leaves (end_on n)
unfolding end_on
end_leaves n = record { marked = λ p o e. e; grey = λ p. length-set p.grey n false }

-- ---- pages

-- a change after objects became grey, or before
pub greyed_two : (ps : List OwnedPage) (i : ℕ) (f : OwnedPage → OwnedPage) (xs : List (ℕ × ℕ))
    → ((o : ℕ) → Goes o f) → all_grey (change_at ps i f) xs ≡ change_at (all_grey ps xs) i f
greyed_two ps i f [] k = refl
greyed_two ps i f (x ∷ xs) k =
    ap (λ qs. all_grey qs xs) (changed_two ps i x.0 f (grey_on x.1) (λ p e. sym (k x.1 p)))
    ∙ greyed_two (grey_at ps x) i f xs k

-- the same of a change of one object that is none of these
pub greyed_apart : (ps : List OwnedPage) (y : ℕ × ℕ) (f : OwnedPage → OwnedPage) (xs : List (ℕ × ℕ))
    → ((o : ℕ) → (o ≡ y.1 → true ≡ false) → Goes o f) → IsNoneOf y xs
    → all_grey (change_at ps y.0 f) xs ≡ change_at (all_grey ps xs) y.0 f
greyed_apart ps y f [] k d = refl
greyed_apart ps y f (x ∷ xs) k d =
    ap (λ qs. all_grey qs xs)
    (changed_two ps y.0 x.0 f (grey_on x.1) (λ p e. sym (k x.1 (λ z. d.0 e (sym z)) p)))
    ∙ greyed_apart (grey_at ps x) y f xs k d.1

pub greyed_more : (ps : List OwnedPage) (xs : List (ℕ × ℕ)) (y : ℕ × ℕ)
    → all_grey ps (xs ++ y ∷ []) ≡ all_grey ps (y ∷ xs)
greyed_more ps [] y = refl
greyed_more ps (x ∷ xs) y =
    greyed_more (grey_at ps x) xs y
    ∙ ap (λ qs. all_grey qs xs)
    (changed_two ps x.0 y.0 (grey_on x.1) (grey_on y.1) (λ p e. grey_goes x.1 y.1 p))

pub greyed_length : (ps : List OwnedPage) (xs : List (ℕ × ℕ)) → length (all_grey ps xs) ≡ length ps
greyed_length ps [] = refl
greyed_length ps (x ∷ xs) = greyed_length (grey_at ps x) xs ∙ length_changed ps x.0 (grey_on x.1)

-- what is read of a page that a change leaves
read_changed : {Y : Type 0} (ps : List OwnedPage) (j i : ℕ) (f : OwnedPage → OwnedPage) (read : Option OwnedPage → Y)
    → ((p : OwnedPage) → read (Some (f p)) ≡ read (Some p))
    → read (slice_get (change_at ps j f) i) ≡ read (slice_get ps i)
read_changed ps j i f read k = by_page (slice_get ps j) refl
  where
    by_place : (p : OwnedPage) → slice_get ps j ≡ Some p → (i ≡ j) ⊎ (i ≢ j)
        → read (slice_get (set ps j (f p)) i) ≡ read (slice_get ps i)
    by_place p e (inr d) = ap read (get_set_other ps j i (f p) d)
    by_place p e (inl z) = ap (λ n. read (slice_get (set ps j (f p)) n)) z ∙ ap read (get_set_same ps j p (f p) e)
        ∙ k p ∙ sym (ap read e) ∙ sym (ap (λ n. read (slice_get ps n)) z)

    by_page : (o : Option OwnedPage) → slice_get ps j ≡ o
        → read (slice_get (change_found ps j o f) i) ≡ read (slice_get ps i)
    by_page None e = refl
    by_page (Some p) e = by_place p e (cases_eq i j)

grey_frame : (o x : ℕ) (p : OwnedPage) → slice_get (grey_on o p).frame x ≡ slice_get p.frame x
unfolding grey_on
grey_frame o x p = refl

grey_marked : (o : ℕ) (p : OwnedPage) → (grey_on o p).marked ≡ p.marked
unfolding grey_on
grey_marked o p = refl

pub greyed_word : (ps : List OwnedPage) (xs : List (ℕ × ℕ)) (i o : ℕ) → word_of (all_grey ps xs) i o ≡ word_of ps i o
greyed_word ps [] i o = refl
greyed_word ps (x ∷ xs) i o =
    greyed_word (grey_at ps x) xs i o
    ∙ read_changed ps x.0 i (grey_on x.1) (option_and_then (λ (p : OwnedPage). slice_get p.frame o))
    (λ p. grey_frame x.1 o p)

pub greyed_marked : (ps : List OwnedPage) (xs : List (ℕ × ℕ)) (i o : ℕ)
    → is_marked_own (all_grey ps xs) i o ≡ is_marked_own ps i o
greyed_marked ps [] i o = refl
greyed_marked ps (x ∷ xs) i o =
    greyed_marked (grey_at ps x) xs i o
    ∙ read_changed ps x.0 i (grey_on x.1) (λ q. bit_in (option_and_then (λ (p : OwnedPage). Some p.marked) q) o)
    (λ p. ap (λ r. get_or r o false) (grey_marked x.1 p))

-- an object that is grey stays so
grey_stays : (ps : List OwnedPage) (j n i o : ℕ) → is_grey_own ps i o ≡ true
    → is_grey_own (change_at ps j (grey_on n)) i o ≡ true
unfolding grey_on
grey_stays ps j n i o e = by_page (slice_get ps j) refl
  where
    by_place : (p : OwnedPage) → slice_get ps j ≡ Some p → (i ≡ j) ⊎ (i ≢ j)
        → is_grey_own (set ps j (grey_on n p)) i o ≡ true
    by_place p z (inr d) =
        ap (λ q. bit_in (option_and_then (λ (x : OwnedPage). Some x.grey) q) o)
        (get_set_other ps j i (grey_on n p) d) ∙ e
    by_place p z (inl s) =
        ap (λ m. is_grey_own (set ps j (grey_on n p)) m o) s
        ∙ ap (λ q. bit_in (option_and_then (λ (x : OwnedPage). Some x.grey) q) o)
        (get_set_same ps j p (grey_on n p) z)
        ∙ set_true p.grey n o (sym (ap (λ q. bit_in (option_and_then (λ (x : OwnedPage). Some x.grey) q) o) z)
        ∙ ap (λ m. is_grey_own ps m o) (sym s) ∙ e)

    by_page : (q : Option OwnedPage) → slice_get ps j ≡ q → is_grey_own (change_found ps j q (grey_on n)) i o ≡ true
    by_page None z = e
    by_page (Some p) z = by_place p z (cases_eq i j)

greyed_stays : (ps : List OwnedPage) (xs : List (ℕ × ℕ)) (i o : ℕ) → is_grey_own ps i o ≡ true
    → is_grey_own (all_grey ps xs) i o ≡ true
greyed_stays ps [] i o e = e
greyed_stays ps (x ∷ xs) i o e = greyed_stays (grey_at ps x) xs i o (grey_stays ps x.0 x.1 i o e)

pub set_here : (row : List Bool) (o : ℕ) → o < length row → get_or (set row o true) o false ≡ true
set_here [] o l = absurd (omega (arith, l))
set_here (b ∷ bs) zero l = refl
set_here (b ∷ bs) (suc o) l = set_here bs o (omega (arith, l))

-- an object that waits is grey in the end
pub greyed_first : (ps : List OwnedPage) (x : ℕ × ℕ) (xs : List (ℕ × ℕ)) → IsWaiting ps x
    → is_grey_own (all_grey ps (x ∷ xs)) x.0 x.1 ≡ true
unfolding grey_on
greyed_first ps x xs w = greyed_stays (grey_at ps x) xs x.0 x.1
    (ap (λ q. bit_in (option_and_then (λ (y : OwnedPage). Some y.grey) q) x.1)
    (ap (λ qs. slice_get qs x.0) (changed_there ps x.0 w.page (grey_on x.1) w.there)
    ∙ get_set_same ps x.0 w.page (grey_on x.1 w.page) w.there)
    ∙ set_here w.page.grey x.1 w.low)

row_read : (row : List Bool) (o : ℕ) → get_or row o false ≡ true → slice_get row o ≡ Some true
row_read [] o e = absurd (true≢false (sym e))
row_read (b ∷ bs) zero e = ap Some e
row_read (b ∷ bs) (suc o) e = row_read bs o e

-- an object that is grey already
pub greyed_already : (ps : List OwnedPage) (x : ℕ × ℕ) (p : OwnedPage) → slice_get ps x.0 ≡ Some p
    → get_or p.grey x.1 false ≡ true → grey_at ps x ≡ ps
unfolding grey_on
greyed_already ps x p e g =
    changed_there ps x.0 p (grey_on x.1) e
    ∙ ap (λ r. set ps x.0 (record p { grey = r })) (set_again p.grey x.1 true (row_read p.grey x.1 g))
    ∙ same ps x.0 e
  where
    same : (qs : List OwnedPage) (i : ℕ) → slice_get qs i ≡ Some p → set qs i p ≡ qs
    same [] i z = refl
    same (q ∷ qs) zero z = ap (λ y. y ∷ qs) (sym (same_Some _ _ z))
    same (q ∷ qs) (suc i) z = ap (λ ys. q ∷ ys) (same qs i z)

-- the end of a scan of an object that waits
pub greyed_ended : (ps : List OwnedPage) (x : ℕ × ℕ) (xs : List (ℕ × ℕ)) → IsNoneOf x xs
    → change_at (all_grey ps (x ∷ xs)) x.0 (end_on x.1) ≡ all_grey (change_at ps x.0 (end_on x.1)) xs
unfolding grey_on end_on
greyed_ended ps x xs d =
    sym (greyed_apart (grey_at ps x) x (end_on x.1) xs (λ o z. end_goes o x.1 z) d)
    ∙ ap (λ qs. all_grey qs xs) (changed_again ps x.0 (grey_on x.1) (end_on x.1) (end_on x.1)
    (λ p. ap (λ r. record p { grey = r }) (set-set p.grey x.1 true false)))

-- an object that waits is marked
pub waiting_marked : (ps : List OwnedPage) (x : ℕ × ℕ) → IsWaiting ps x → is_marked_own ps x.0 x.1 ≡ true
waiting_marked ps x w =
    ap (λ q. bit_in (option_and_then (λ (p : OwnedPage). Some p.marked) q) x.1) w.there ∙ w.marked

bit_low : (row : List Bool) (o : ℕ) → get_or row o false ≡ true → o < length row
bit_low [] o e = absurd (true≢false (sym e))
bit_low (b ∷ bs) zero e = omega arith
bit_low (b ∷ bs) (suc o) e = omega (arith, bit_low bs o e)

-- a grey object that is marked can wait, and is grey already
pub grey_waits : (ps : List OwnedPage) (x : ℕ × ℕ) → is_grey_own ps x.0 x.1 ≡ true → is_marked_own ps x.0 x.1 ≡ true
    → IsWaiting ps x × (grey_at ps x ≡ ps)
grey_waits ps x g m = by_page (slice_get ps x.0) refl
  where
    by_page : (q : Option OwnedPage) → slice_get ps x.0 ≡ q → IsWaiting ps x × (grey_at ps x ≡ ps)
    by_page None e = absurd (true≢false (sym g
        ∙ ap (λ q. bit_in (option_and_then (λ (p : OwnedPage). Some p.grey) q) x.1) e))
    by_page (Some p) e =
        let grey : get_or p.grey x.1 false ≡ true =
        sym (ap (λ q. bit_in (option_and_then (λ (y : OwnedPage). Some y.grey) q) x.1) e) ∙ g in (
          record {
            page = p;
            there = e;
            marked = sym (ap (λ q. bit_in (option_and_then (λ (y : OwnedPage). Some y.marked) q) x.1) e) ∙ m;
            low = bit_low p.grey x.1 grey;
          },
          greyed_already ps x p e grey,
        )

-- Bits that are set and cleared one after another.
use Rattle.std.proofs.Common.{◌≡◌, ◌≢◌, ℕ, zero, suc, ◌-◌, ◌/◌, ◌%◌, ◌<◌, Bool, true, false, List, []}
use Rattle.std.proofs.Common.{◌∷◌, set}
use Rattle.std.proofs.Common.{Some, get_or, refl, sym, ◌∙◌, ap, arith}
use Rattle.std.specs.List.{slice_get}
use Rattle.std.proofs.lemmas.Bool.{true≢false}
use Rattle.std.proofs.lemmas.List.{set-set}
use Rattle.std.proofs.lemmas.Option.{same_Some, get_or_from_slice_get}
use Rattle.refword.specs.Words.{IsAddress}
use Rattle.heap.specs.Marking.{bit_in}
use Rattle.model.specs.Bits.{of_page, bit_at, put_bit, with_bit}
use Rattle.model.specs.States.{change_at}
use Rattle.drains.specs.Waiting.{noting, IsOther, AreWaiting}
use Rattle.page.proofs.Untouched.{parted}
use Rattle.model.proofs.Lists.{alter, changed_again, changed_is, changed_two}
use Rattle.page.proofs.Changes.{set_two}

-- ---- bits by addresses

pub bits_two : (rows : List (List Bool)) (w a b : ℕ)
    → with_bit (with_bit rows w a true) w b true ≡ with_bit (with_bit rows w b true) w a true
bits_two rows w a b = changed_two rows (a / w - 1) (b / w - 1) (put_bit (a % w) true) (put_bit (b % w) true)
    (λ row e. set_two row (a % w) (b % w) true true (λ f. refl))

same_page : (m n : ℕ) → 0 < m → 0 < n → m - 1 ≡ n - 1 → m ≡ n
same_page m n a b e = omega arith

pub bits_apart : (rows : List (List Bool)) (w a b : ℕ) → 0 < a / w → 0 < b / w → b ≢ a
    → with_bit (with_bit rows w b true) w a false ≡ with_bit (with_bit rows w a false) w b true
bits_apart rows w a b low high apart =
    changed_two rows (b / w - 1) (a / w - 1) (put_bit (b % w) true) (put_bit (a % w) false)
    (λ row e. set_two row (b % w) (a % w) true false
    (λ f. absurd (apart (parted b a w (same_page (b / w) (a / w) high low e) f))))

pub bit_again : (rows : List (List Bool)) (w a : ℕ)
    → with_bit (with_bit rows w a true) w a false ≡ with_bit rows w a false
bit_again rows w a = changed_again rows (a / w - 1) (put_bit (a % w) true) (put_bit (a % w) false)
    (put_bit (a % w) false) (λ row. set-set row (a % w) true false)

-- ---- the bits of objects that wait

pub noting_two : (rows : List (List Bool)) (w a : ℕ) (xs : List ℕ)
    → noting (with_bit rows w a true) w xs ≡ with_bit (noting rows w xs) w a true
noting_two rows w a [] = refl
noting_two rows w a (b ∷ ys) = ap (λ r. with_bit r w b true) (noting_two rows w a ys)
    ∙ bits_two (noting rows w ys) w a b

-- a bit that is there stands on a page
pub page_there : (rows : List (List Bool)) (w a : ℕ) (b : Bool) → bit_in rows w a ≡ Some b → 0 < a / w
page_there rows w a b e = by_page (a / w) e
  where
    by_page : (n : ℕ) → slice_get (of_page rows n) (a % w) ≡ Some b → 0 < n
    by_page zero f = absurd (cc)
    by_page (suc n) f = omega arith

pub noting_apart : (mark rows : List (List Bool)) (w a : ℕ) (xs : List ℕ) → 0 < a / w → IsOther a xs
    → AreWaiting mark w xs → noting (with_bit rows w a false) w xs ≡ with_bit (noting rows w xs) w a false
noting_apart mark rows w a [] low other wait = refl
noting_apart mark rows w a (b ∷ ys) low other wait =
    ap (λ r. with_bit r w b true) (noting_apart mark rows w a ys low other.1 wait.3)
    ∙ sym (bits_apart (noting rows w ys) w a b low (page_there mark w b true wait.1) other.0)

-- ---- a bit that is set

row_set : (row : List Bool) (o k : ℕ) → slice_get row k ≡ Some true → slice_get (set row o true) k ≡ Some true
row_set [] o k e = e
row_set (b ∷ ys) zero zero e = refl
row_set (b ∷ ys) zero (suc k) e = e
row_set (b ∷ ys) (suc o) zero e = e
row_set (b ∷ ys) (suc o) (suc k) e = row_set ys o k e

rows_set : (rows : List (List Bool)) (n i k o : ℕ) → slice_get (get_or rows n []) k ≡ Some true
    → slice_get (get_or (alter rows i (put_bit o true)) n []) k ≡ Some true
rows_set [] n i k o e = e
rows_set (r ∷ rs) zero zero k o e = row_set r o k e
rows_set (r ∷ rs) zero (suc i) k o e = e
rows_set (r ∷ rs) (suc n) zero k o e = e
rows_set (r ∷ rs) (suc n) (suc i) k o e = rows_set rs n i k o e

page_set : (rows : List (List Bool)) (n i k o : ℕ) → slice_get (of_page rows n) k ≡ Some true
    → slice_get (of_page (change_at rows i (put_bit o true)) n) k ≡ Some true
page_set rows zero i k o e = e
page_set rows (suc n) i k o e =
    ap (λ rs. slice_get (get_or rs n []) k) (changed_is rows i (put_bit o true)) ∙ rows_set rows n i k o e

-- one that was set stays so
pub bit_stays : (rows : List (List Bool)) (w a b : ℕ) → bit_in rows w a ≡ Some true
    → bit_in (with_bit rows w b true) w a ≡ Some true
bit_stays rows w a b e = page_set rows (a / w) (b / w - 1) (a % w) (b % w) e

row_here : (row : List Bool) (k : ℕ) (b : Bool) → slice_get row k ≡ Some b → slice_get (set row k true) k ≡ Some true
row_here [] k b e = absurd (cc)
row_here (c ∷ cs) zero b e = refl
row_here (c ∷ cs) (suc k) b e = row_here cs k b e

rows_here : (rows : List (List Bool)) (n k : ℕ) (b : Bool) → slice_get (get_or rows n []) k ≡ Some b
    → slice_get (get_or (alter rows n (put_bit k true)) n []) k ≡ Some true
rows_here [] n k b e = absurd (cc)
rows_here (r ∷ rs) zero k b e = row_here r k b e
rows_here (r ∷ rs) (suc n) k b e = rows_here rs n k b e

-- one that is there is set
pub bit_here : (rows : List (List Bool)) (w a : ℕ) (b : Bool) → bit_in rows w a ≡ Some b
    → bit_in (with_bit rows w a true) w a ≡ Some true
bit_here rows w a b e = by_page (a / w) (a / w - 1) (page_there rows w a b e) refl e
  where
    by_page : (n i : ℕ) → 0 < n → i ≡ n - 1 → slice_get (of_page rows n) (a % w) ≡ Some b
        → slice_get (of_page (change_at rows i (put_bit (a % w) true)) n) (a % w) ≡ Some true
    by_page zero i low s f = absurd (omega (arith, low))
    by_page (suc n) i low s f =
        let same : i ≡ n = omega (arith, s) in
        ap (λ j. slice_get (get_or (change_at rows j (put_bit (a % w) true)) n []) (a % w)) same
        ∙ ap (λ rs. slice_get (get_or rs n []) (a % w)) (changed_is rows n (put_bit (a % w) true))
        ∙ rows_here rows n (a % w) b f

pub bit_read : (rows : List (List Bool)) (w a : ℕ) (b : Bool) → bit_in rows w a ≡ Some b → bit_at rows w a ≡ b
bit_read rows w a b e = get_or_from_slice_get (of_page rows (a / w)) (a % w) b false e

-- ---- objects that wait

pub waiting_stay : (mark : List (List Bool)) (w b : ℕ) (xs : List ℕ) → AreWaiting mark w xs
    → AreWaiting (with_bit mark w b true) w xs
waiting_stay mark w b [] k = k
waiting_stay mark w b (a ∷ xs) k = (k.0, bit_stays mark w a b k.1, k.2, waiting_stay mark w b xs k.3)

-- what isn't marked is none of them
pub none_waits : (mark : List (List Bool)) (w t : ℕ) (xs : List ℕ) → bit_in mark w t ≡ Some false
    → AreWaiting mark w xs → IsOther t xs
none_waits mark w t [] e k = tt
none_waits mark w t (a ∷ xs) e k = (
  λ same. true≢false (same_Some _ _ (sym k.1 ∙ ap (bit_in mark w) same ∙ e)),
  none_waits mark w t xs e k.3,
)

-- one more waits, which wasn't marked
pub one_waits : (mark : List (List Bool)) (w t : ℕ) (xs : List ℕ) → IsAddress t → bit_in mark w t ≡ Some false
    → AreWaiting mark w xs → AreWaiting (with_bit mark w t true) w (t ∷ xs)
one_waits mark w t xs i e k =
    (i, bit_here mark w t false e, none_waits mark w t xs e k, waiting_stay mark w t xs k)

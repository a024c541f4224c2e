-- A page in use has a number, and only such a page is sparse.
use Rattle.std.proofs.Common.{◌≡◌, ◌⊎◌, inl, inr, ℕ, ◌+◌, ◌-◌, ◌<◌, ◌≤◌, true, false, not}
use Rattle.std.proofs.Common.{sym, ◌∙◌, ap, arith, refl, Option, Some, None}
use Rattle.std.proofs.Math.Nat.{eq-or-lt_of_le}
use Rattle.std.specs.Prelude.{◌*◌, ◌&&◌, if◌then◌else◌, nat_le}
use Rattle.model.specs.declared.records.PageState.{PageState}
use Rattle.model.specs.declared.records.PageState.TheVariants.{Unused, Open, Closed, From, Gone}
use Rattle.model.specs.Owning.{IsStore}
use Rattle.model.specs.Protections.{is_closed}
use Rattle.model.specs.States.{HeapState}
use Rattle.model.specs.Stores.{has_memory, is_protected, state_at}
use Rattle.relocate.proofs.Entries.{numbered}
use Rattle.choosing.specs.Choices.{is_in_use, live_words, measured, measured_if}

used_numbered : (h : HeapState) (n : ℕ) → IsStore h.store → is_in_use h n ≡ true → (0 < n) × (n ≤ h.store.count)
used_numbered h n is e =
    numbered h.store n is (λ z. absurd (let k : false ≡ true = sym (ap (λ (s : PageState). has_memory s
    && not (is_protected s)) z) ∙ e in cc))

pub used_low : (h : HeapState) (n : ℕ) → IsStore h.store → is_in_use h n ≡ true → 0 < n
used_low h n is e = (used_numbered h n is e).0

pub used_high : (h : HeapState) (n : ℕ) → IsStore h.store → is_in_use h n ≡ true → n ≤ h.store.count
used_high h n is e = (used_numbered h n is e).1

-- a page that isn't in use isn't sparse
pub unused_dense : (h : HeapState) (percent n : ℕ) → is_in_use h n ≡ false → None ≡ measured_if h percent n
unused_dense h percent n e = by (state_at h.store n) e
  where
    by : (s : PageState) → (has_memory s && not (is_protected s)) ≡ false
        → ◌≡◌ {A = Option (ℕ × ℕ)} None (if is_closed s && nat_le (live_words h n * 100) (percent * h.store.words)
        then Some (measured h n) else None)
    by Unused k = refl
    by Open k = refl
    by Closed k = absurd (cc)
    by From k = refl
    by Gone k = refl

-- the last pages, up to page n, aren't in use: one page more, and all of them
pub none_more : (h : HeapState) (n k : ℕ)
    → ((page : ℕ) → n < page + k → page ≤ n → is_in_use h page ≡ false) → k < n → is_in_use h (n - k) ≡ false
    → (page : ℕ) → n < page + (k + 1) → page ≤ n → is_in_use h page ≡ false
none_more h n k none l here page low high = by_place (eq-or-lt_of_le (omega (arith, low)))
  where
    by_place : (n ≡ page + k) ⊎ (n < page + k) → is_in_use h page ≡ false
    by_place (inl e) = ap (is_in_use h) (omega (arith, e)) ∙ here
    by_place (inr e) = none page e high

-- Places that C passes.
use Rattle.std.proofs.Common.{◌≡◌, inl, inr, ℕ, ◌∙◌, arith, ap, refl, subst, sym}
use Rattle.std.specs.Prelude.{Result, Err}
use Rattle.refword.specs.Words.{IsAddress}
use Rattle.model.specs.declared.steps.Refusal.{Refusal}
use Rattle.model.specs.States.{HeapState}
use Rattle.viewing.specs.Viewing.{IsHandle, handle_at}
use Rattle.foreign.specs.Views.{OfPlace, ReadsPlace}

-- a place at which no object can be
pub place_refused : {A : Type 0} (P : HeapState → ℕ → Result A Refusal → Type 0) (place : ℕ) (h : HeapState)
    (e : Refusal) (r : Result A Refusal) → ReadsPlace place (Err e) → r ≡ Err e → OfPlace P place h r h
place_refused P place h e r (inl (zero, is)) same = record {
  null = λ z. same ∙ ap Err is;
  reads = λ a k. absurd (omega (arith, zero, a.above));
  same = refl;
}
place_refused P place h e r (inr (other, off, is)) same = record {
  null = λ z. absurd (other z);
  reads = λ a k. absurd (off a);
  same = refl;
}

-- a place at which one can be
pub place_read : {A : Type 0} (P : HeapState → ℕ → Result A Refusal → Type 0) (place a : ℕ) (h : HeapState)
    (r : Result A Refusal) → (a ≡ place) × IsAddress a → (IsHandle (handle_at h a) → P h a r) → OfPlace P place h r h
place_read P place a h r (is, range) reads = record {
  null = λ z. absurd (omega (arith, z, is, range.above));
  reads = λ _ k. subst (λ n. P h n r) is (reads (subst (λ n. IsHandle (handle_at h n)) (sym is) k));
  same = refl;
}

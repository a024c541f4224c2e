-- New objects: their words and their marks.
use Rattle.std.proofs.Common.{◌≡◌, ◌≤◌, ℕ, false, List, [], ◌∷◌, length, replicate, set, refl, arith}
use Rattle.model.specs.declared.records.Phase.{Phase}
use Rattle.model.specs.declared.records.Phase.TheVariants.{Idle, MarkCrossing, Scanning, ProtectCrossing, Relocating}
use Rattle.model.specs.Phases.{is_marking, is_mark_crossing}

-- a zero is written at each of the first seven places that are there
pub few_cleared : (ws : List ℕ) → length ws ≤ 7
    → set (set (set (set (set (set (set ws 0 0) 1 0) 2 0) 3 0) 4 0) 5 0) 6 0 ≡ replicate (length ws) 0
few_cleared [] h = refl
few_cleared (a ∷ []) h = refl
few_cleared (a ∷ b ∷ []) h = refl
few_cleared (a ∷ b ∷ c ∷ []) h = refl
few_cleared (a ∷ b ∷ c ∷ d ∷ []) h = refl
few_cleared (a ∷ b ∷ c ∷ d ∷ e ∷ []) h = refl
few_cleared (a ∷ b ∷ c ∷ d ∷ e ∷ f ∷ []) h = refl
few_cleared (a ∷ b ∷ c ∷ d ∷ e ∷ f ∷ g ∷ []) h = refl
few_cleared (a ∷ b ∷ c ∷ d ∷ e ∷ f ∷ g ∷ k ∷ ws) h = absurd (omega (arith, h))

-- where no mark runs none is being crossed
pub not_crossing : (p : Phase) → is_marking p ≡ false → is_mark_crossing p ≡ false
not_crossing Idle e = refl
not_crossing MarkCrossing e = absurd (cc)
not_crossing Scanning e = refl
not_crossing ProtectCrossing e = refl
not_crossing Relocating e = refl

-- Live objects that are kept with a frame.
use Rattle.std.proofs.Common.{◌≡◌, ℕ, Bool, List, [], ◌∷◌, ◌++◌, ◌∙◌, Option, Some, None, ap, ap₂, subst}
use Rattle.std.specs.Prelude.{IfSome}
use Rattle.layout.specs.declared.shape.Layout.{Layout}
use Rattle.forward.specs.Objects.{ObjectsState}
use Rattle.page_frames.specs.Kept.{AreKept, IsKept, KeptState, objects_in}

-- the last of kept objects are kept
pub last_kept : (words : List ℕ) (ks xs : List KeptState) (k : KeptState) → ks ≡ xs ++ k ∷ [] → AreKept words ks
    → IsKept words k
last_kept words ks xs k e are = of_last xs (subst (AreKept words) e are)
  where
    of_last : (xs : List KeptState) → AreKept words (xs ++ k ∷ []) → IsKept words k
    of_last [] are = are.0
    of_last (x ∷ xs) are = of_last xs are.1

-- kept objects of a bitmap, by layouts, are those in the words
pub objects_kept : (layouts : List Layout) (words now : List ℕ) (live : List Bool) (k : KeptState)
    (found : Option ObjectsState) → words ≡ now → IsKept words k → IfSome found (λ o. o ≡ k.objects)
    → IfSome found (λ o. k.objects.live ≡ live) → IfSome found (λ o. k.layouts ≡ layouts)
    → IfSome found (λ o. o ≡ objects_in layouts now live)
objects_kept layouts words now live k None view is objects bits shapes = tt
objects_kept layouts words now live k (Some o) view is objects bits shapes =
    objects ∙ is ∙ ap₂ (λ ls b. objects_in ls words b) shapes bits ∙ ap (λ ws. objects_in layouts ws live) view

-- Lists of live objects that were measured.
use Rattle.std.proofs.Common.{◌≡◌, ◌++◌, List, Bool, true, false, if◌then◌else◌, subst, sym}
use Rattle.std.proofs.lemmas.List.Elements.{All-append}
use Rattle.std.specs.List.{All}

-- elements were added to a list, if memory was there for it
pub if_more : {X : Type 0} (P : X → Type 0) (b : Bool) (xs ys new : List X)
    → new ≡ (if b then xs ++ ys else xs) → All P xs → All P ys → All P new
if_more P true xs ys new is some more = subst (All P) (sym is) (All-append P xs ys some more)
if_more P false xs ys new is some more = subst (All P) (sym is) some

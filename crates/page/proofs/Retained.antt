-- The words of a page, by its frame.
use Rattle.std.proofs.Common.{◌≡◌, ℕ, List, ◌∙◌, Option, Some, None, refl, ap}
use Rattle.std.specs.Prelude.{IfSome}
use Rattle.std.specs.List.{slice_get}
use Rattle.std.specs.Option.{option_and_then}
use Rattle.model.specs.Stores.{StoreState, frame_in, page_at, words_at}

-- what holds of the words of a page holds of those of its frame
pub words_there : (s : StoreState) (n f : ℕ) (P : List ℕ → Type 0) → frame_in (page_at s n) ≡ Some f
    → ((ws : List ℕ) → words_at s n ≡ Some ws → P ws) → IfSome (slice_get s.frames f) P
unfolding words_at
words_there s n f P e holds = by_words (slice_get s.frames f) refl
  where
    by_words : (o : Option (List ℕ)) → slice_get s.frames f ≡ o → IfSome o P
    by_words None q = tt
    by_words (Some ws) q = holds ws (ap (option_and_then (slice_get s.frames)) e ∙ q)

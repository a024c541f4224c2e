-- What is written over with itself, or with nothing.
use Rattle.std.proofs.Common.{◌≡◌, ℕ, List, [], length, take, ap, ◌∙◌}
use Rattle.std.proofs.Math.Seq.{take-length}
use Rattle.std.proofs.lemmas.List.{take-append-drop}
use Rattle.model.specs.Stores.{overlay}
pub use Rattle.page_frames.proofs.Aside.{same_set}

-- an overlay of no words changes nothing
pub nothing_over : (ws : List ℕ) (o : ℕ) → overlay ws o [] ≡ ws
nothing_over ws o = ap (take (length ws)) (take-append-drop o ws) ∙ take-length ws

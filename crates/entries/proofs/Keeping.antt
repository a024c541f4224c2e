-- Entries that are stored stay as they are.
use Rattle.std.proofs.Common.{◌≡◌, List, [], ◌∷◌, ◌++◌, length, map, Option, Some, None, refl, sym, ◌∙◌, arith}
use Rattle.std.specs.List.{All}
use Rattle.std.proofs.lemmas.List.{get_or_append_left, get_or_push, map-append}
use Rattle.std.proofs.lemmas.List.Elements.{All-tail}
use Rattle.model.specs.declared.steps.Step.{Step}
use Rattle.entries.specs.declared.entry.Entry.{Entry}
use Rattle.entries.specs.declared.blocks.Kept.{Kept}
use Rattle.entries.specs.Events.{step_in, place_in}
use Rattle.entries.specs.Views.{entry_in, entry_with, Stands, StandsBy}

-- after one more entry is stored in full
stays : (w : List Entry) (e : Entry) (k : Kept) (s : Option Step) → StandsBy (length w) k s
    → entry_with (w ++ e ∷ []) k s ≡ entry_with w k s
stays w e k (Some s) h = refl
stays w e k None h = get_or_append_left w (e ∷ []) _ (place_in k.event) h

all_stay : (w : List Entry) (e : Entry) (ks : List Kept) → All (Stands (length w)) ks
    → map (entry_in (w ++ e ∷ [])) ks ≡ map (entry_in w) ks
all_stay w e [] h = refl
all_stay w e (k ∷ ks) h =
    rw (stays w e k (step_in k.event) (h 0 k (omega arith)), all_stay w e ks (All-tail (Stands (length w)) k ks h)) refl

-- the last entry is the one that was entered
pub entered_whole : (w : List Entry) (e : Entry) (ks : List Kept) (k : Kept) → All (Stands (length w)) ks
    → step_in k.event ≡ None → place_in k.event ≡ length w
    → map (entry_in (w ++ e ∷ [])) (ks ++ k ∷ []) ≡ map (entry_in w) ks ++ e ∷ []
entered_whole w e ks k h s p =
    let last : entry_in (w ++ e ∷ []) k ≡ e = rw s (get_or_push w e _ (place_in k.event) (sym p)) in
    map-append (entry_in (w ++ e ∷ [])) ks (k ∷ []) ∙ rw (all_stay w e ks h, last) refl

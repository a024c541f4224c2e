-- Worked examples of histories, computed by the definitions.
use Rattle.std.proofs.Common.{◌≡◌, ◌^◌, ◌-◌, lit<, List, [], ◌∷◌, map, refl}
use Rattle.std.specs.Prelude.{None}
use Rattle.model.specs.declared.steps.Actor.TheVariants.{Thread, Worker}
use Rattle.model.specs.declared.steps.Step.TheVariants as steps
use Rattle.model.specs.declared.steps.Answer.TheVariants as answers
use Rattle.entries.specs.declared.entry.Entry.{Entry}
use Rattle.entries.specs.declared.entry.EntryRef.TheVariants.{Made}
use Rattle.entries.specs.declared.blocks.Kept.{Kept}
use Rattle.entries.specs.declared.event.Event.TheVariants as events
use Rattle.entries.specs.Histories.{entry_of}
use Rattle.entries.specs.Events.{step_in, answer_in, place_in, IsShort}
use Rattle.entries.specs.Blocks.{joined}
use Rattle.entries.specs.Views.{entry_in, Stands}

-- a `Protect`, which is stored in full, and a `Take` before it
protected : Entry
protected = record {
  actor = Worker 0;
  step = steps.Protect (4 ∷ 2 ∷ []);
  answer = answers.Protected 7 1;
}

taken : Entry
taken = record { actor = Thread 3; step = steps.Take 8; answer = answers.Lent 1 16 }

-- the same, as they are stored
kept : List Kept
kept =
    record { actor = Thread 3; event = events.Take 8 1 16 } ∷
    record { actor = Worker 0; event = events.Whole 0 } ∷
    []

entries_stand : map (entry_in (protected ∷ [])) kept ≡ taken ∷ protected ∷ []
unfolding protected taken kept
entries_stand = refl

made_stands : entry_of (Made taken) ≡ taken
made_stands = refl

datum_is_short : IsShort (steps.Datum 1 2) (answers.Datum (2 ^ 64 - 1)) (events.Datum 1 2 (2 ^ 64 - 1))
datum_is_short = record { step_is = refl; answer_is = refl }

others_in_their_place : (step_in (events.Whole 5) ≡ None) × (place_in (events.Whole 5) ≡ 5)
    × (place_in events.Park ≡ 0) × (answer_in events.Park ≡ answers.Done)
others_in_their_place = (refl, refl, refl, refl)

first_of_one : Stands 1 (record { actor = Worker 0; event = events.Whole 0 })
first_of_one = lit< tt

last_block_alone : joined [] kept ≡ kept
unfolding joined
last_block_alone = refl

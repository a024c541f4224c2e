-- Buffers that are taken.
use Rattle.model.specs.declared.records.Room.{Room}
use Rattle.model.specs.declared.records.Room.TheVariants.{NoFrames, NoPages, NoMemory}
use Rattle.model.specs.declared.steps.Refusal.{Refusal}
use Rattle.model.specs.declared.steps.Refusal.TheVariants as refusals

-- why a thread gets no buffer
abbrev pub refusal_of : Room → Refusal
refusal_of NoFrames = refusals.NoFrames 1 0
refusal_of NoPages = refusals.NoPages
refusal_of NoMemory = refusals.Memory

-- The places of the first commands that not every kind of run does, in small texts.
use Rattle.std.proofs.Common.{◌≡◌, ℕ, [], ◌∷◌, Option, Some, None, refl}
use Rattle.std.specs.Prelude.{codes}
use Rattle.parser.specs.declared.fault.FaultKind.{FaultKind}
use Rattle.parser.specs.declared.fault.FaultKind.TheVariants as kinds
use Rattle.parser.specs.declared.fault.LineFault.{LineFault}
use Rattle.parser.specs.declared.spots.Spots.{Spots}
use Rattle.parser.specs.Words.{word_at}
use Rattle.parser.specs.Reading.{first_word}
use Rattle.parser.specs.Faults.{text_of}
use Rattle.parser.specs.Spots.{second_word, first_spot, spots_in}

abbrev at : ℕ → ℕ → FaultKind → Option LineFault
at line column kind = Some (record { line = line; column = column; kind = kind })

abbrev both : Option LineFault → Option LineFault → Spots
both cycle other = record { cycle = cycle; other = other }

-- a comment and an empty line count; a cycle in a block is the first one, and no other command is before `w1 roll 5`
a_block : spots_in (text_of (codes "# w1 mark" ∷ [] ∷ codes "times 2" ∷ codes "w0 cycle 100" ∷ codes "end"
    ∷ codes "t0 give" ∷ codes "w1 roll 5" ∷ codes "w0 mark" ∷ []))
    ≡ both (at 4 4 kinds.CycleNeedsThreads) (at 7 4 kinds.UnknownWord)
unfolding spots_in first_spot second_word first_word word_at
a_block = refl

-- the first half of a cycle by another worker than 0 is both
a_roll : spots_in (text_of (codes "t0 take 1" ∷ codes "w10 roll 5" ∷ codes "w0 cycle 100" ∷ codes "w0 mark" ∷ []))
    ≡ both (at 2 5 kinds.CycleNeedsThreads) (at 2 5 kinds.UnknownWord)
unfolding spots_in first_spot second_word first_word word_at
a_roll = refl

-- no cycle, and a command that any run on one thread does
a_mark : spots_in (text_of (codes "t0 take 1" ∷ codes "w0 mark" ∷ codes "w1 mark" ∷ []))
    ≡ both None (at 2 4 kinds.UnknownWord)
unfolding spots_in first_spot second_word first_word word_at
a_mark = refl

-- commands of threads, and cycles of worker 0 alone
cycles_alone : spots_in (text_of (codes "w0 roll 5" ∷ codes "t0 take 1" ∷ codes "w0 cycle 100" ∷ []))
    ≡ both (at 1 4 kinds.CycleNeedsThreads) None
unfolding spots_in first_spot second_word first_word word_at
cycles_alone = refl

-- nothing at all
no_lines : spots_in [] ≡ both None None
unfolding spots_in first_spot
no_lines = refl

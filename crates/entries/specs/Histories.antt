-- Histories as contracts see them.
use Rattle.std.specs.Prelude.{Bool, List}
use Rattle.entries.specs.declared.entry.Entry.{Entry}
use Rattle.entries.specs.declared.entry.EntryRef.{EntryRef}
use Rattle.entries.specs.declared.entry.EntryRef.TheVariants.{Made, Lent}

-- accepted steps with their answers, oldest first, and whether there is space for one more
pub record HistoryState : Type 0 where
  pub entries : List Entry
  pub has_room : Bool

-- an entry that is made or borrowed
abbrev pub entry_of : EntryRef → Entry
entry_of (Made e) = e
entry_of (Lent e) = e.now

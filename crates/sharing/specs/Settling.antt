-- The first actor that fails a test.
use Rattle.std.specs.Prelude.{◌≡◌, Bool, true, false, Option, Some, None, if◌then◌else◌}
use Rattle.model.specs.declared.steps.Actor.{Actor}
use Rattle.entries.specs.Parts.{is_before}

-- none, or the first actor for whom a property fails
abbrev pub IsFirstNot : (Actor → Type 0) → Option Actor → Type 0
IsFirstNot P None = (a : Actor) → P a
IsFirstNot P (Some x) = (¬ P x) × ((a : Actor) → is_before a x ≡ true → P a)

-- the earlier of an actor, if there is one, and another
abbrev pub earlier : Option Actor → Actor → Option Actor
earlier None b = Some b
earlier (Some a) b = if is_before b a then Some b else Some a

-- the first actor for whom it fails, after one more was tested
abbrev pub noted : Option Actor → Actor → Bool → Option Actor
noted found a true = found
noted found a false = earlier found a

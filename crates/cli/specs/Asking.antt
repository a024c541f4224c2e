-- The meaning of the command line's words.
use Rattle.std.specs.Prelude.{ℕ, Bool, true, not, ◌==◌, List, [], ◌∷◌, Option, Some, None}
use Rattle.std.specs.Prelude.{if◌then◌else◌, option_map, codes}
use Rattle.std.specs.Str.{bytes_eq}
use Rattle.std.specs.List.{list_all}
use Rattle.cli.specs.declared.asking.Mode.{Mode}
use Rattle.cli.specs.declared.asking.Mode.TheVariants.{Run, Check, Threads}

-- the word doesn't begin with '-' (45)
abbrev pub is_plain_word : List ℕ → Bool
is_plain_word [] = true
is_plain_word (byte ∷ rest) = not (byte == 45)

-- no word begins with '-'
abbrev pub are_plain : List (List ℕ) → Bool
are_plain words = list_all is_plain_word words

-- the mode of a name
abbrev pub mode_named : List ℕ → Option Mode
mode_named name =
    if bytes_eq name (codes "run") then Some Run else
    (if bytes_eq name (codes "check") then Some Check else
    (if bytes_eq name (codes "threads") then Some Threads else None))

-- the mode and the file name of two words, if the first is a mode's name
abbrev pub asked_by : List (List ℕ) → Option (Mode × List ℕ)
asked_by (name ∷ file ∷ []) = option_map (λ mode. (mode, file)) (mode_named name)
asked_by _ = None

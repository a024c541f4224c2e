-- The values of tokens, and the invariant that relates them.
use Rattle.std.specs.Prelude.{◌≡◌, ◌<◌, ℕ, List, [], true, false}
use mathlib.Core.Option.{some}
use lib.ListN.{get_elem?}
use Rattle.atomic_table.specs.Seated.{TableId}
use Rattle.tokens.specs.Rows.{Registers, Rows, row_of}
use Rattle.tokens.specs.declared.cells.View.{View}

-- the name of no cell
abbrev pub no_table : TableId
no_table = record { words = 0; slots = 0; views_name = 0; atom = 0; block = 0; offset = 0; slot_names = [] }

-- the view of a keeper
abbrev pub keeper_of : Rows → ℕ → View
keeper_of rows dealt =
    record { keeps = true; rows = rows; dealt = dealt; claims = false; thread = 0; registers = [] }

-- the view of a keeper with the token of thread t
abbrev pub holder_of : Rows → ℕ → ℕ → Registers → View
holder_of rows dealt t mine =
    record { keeps = true; rows = rows; dealt = dealt; claims = true; thread = t; registers = mine }

-- the view of the token of thread t
abbrev pub token_of : ℕ → Registers → View
token_of t mine =
    record { keeps = false; rows = []; dealt = 0; claims = true; thread = t; registers = mine }

-- the view of a pass without a value
abbrev pub nobody : View
nobody = record { keeps = false; rows = []; dealt = 0; claims = false; thread = 0; registers = [] }

-- the invariant for one view: at most one pass is the keeper's; the registers in a thread's token are the thread's,
-- and a thread has at most one token
abbrev pub Fits : ℕ → Rows → ℕ → (ℕ → ℕ) → ℕ → View → Type 0
Fits seat rows dealt owner by v =
    (v.keeps ≡ true → (by ≡ seat) × (v.rows ≡ rows) × (v.dealt ≡ dealt))
    × (v.claims ≡ true → (owner v.thread ≡ by) × (row_of rows v.thread ≡ v.registers) × (v.thread < dealt))

-- the invariant: there are registers for which all views fit
abbrev pub Kept : List ℕ → List View → Type 0
Kept words views =
    (seat : ℕ) × (rows : Rows) × (dealt : ℕ) × (owner : ℕ → ℕ)
    × ((by : ℕ) (v : View) → get_elem? views by ≡ some v → Fits seat rows dealt owner by v)

-- the keeper with a thread's token finds the thread's registers to be those in the token
abbrev pub Found : View → List ℕ → List ℕ → View → Type 0
Found v words words' w = (w ≡ v) × (row_of v.rows v.thread ≡ v.registers)

-- the keeper with a thread's token gets the registers after a change
abbrev pub Told : Rows → View → List ℕ → List ℕ → View → Type 0
Told rows v words words' w = w ≡ holder_of rows v.dealt v.thread (row_of rows v.thread)

-- a keeper, before any thread has a token, gets the registers
abbrev pub Begun : Rows → View → List ℕ → List ℕ → View → Type 0
Begun rows v words words' w = w ≡ keeper_of rows 0

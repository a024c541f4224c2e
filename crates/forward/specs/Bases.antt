-- Addresses as distances from bases: consecutive ones have one base.
use Rattle.std.specs.Prelude.{◌≡◌, ℕ, ◌+◌, ◌-◌, ◌*◌, ◌%◌, ◌^◌, ◌≤◌, List, [], ◌∷◌, nat_le, get_or, if◌then◌else◌}
use Rattle.forward.specs.declared.runs.Run.{Run}

-- the base of address i: that of the last run that doesn't begin after it
abbrev pub base_of : ℕ → List Run → ℕ → ℕ
base_of b [] i = b
base_of b (r ∷ rs) i = base_of (if nat_le r.first i then r.target else b) rs i

-- a run is the last one: its base is that of each address from its first one on
abbrev pub IsLastRun : ℕ → List Run → Run → Type 0
IsLastRun b rs r = (i : ℕ) → r.first ≤ i → base_of b rs i ≡ r.target

-- an address, in arithmetic of 64 bits
abbrev pub based : ℕ → ℕ → ℕ
based b d = (b + d) % 2 ^ 64

-- the addresses of these distances, from number i on
abbrev pub addresses_from : ℕ → List Run → ℕ → List ℕ → List ℕ
addresses_from b rs i [] = []
addresses_from b rs i (d ∷ ds) = based (base_of b rs i) d ∷ addresses_from b rs (i + 1) ds

-- the address of a target's head, if targets are on these pages, of `words` words
abbrev pub head_of : ℕ → List ℕ → ℕ → ℕ
head_of words targets t = get_or targets t 0 * words

-- the base of a run: the address of its first object, less the words of the page's objects before it
abbrev pub run_base : ℕ → List ℕ → Run → ℕ
run_base words targets r = (head_of words targets r.target + r.offset + (2 ^ 64 - r.before)) % 2 ^ 64

-- a run with its base in place of its target
abbrev pub run_on : ℕ → List ℕ → Run → Run
run_on words targets r = record r { target = run_base words targets r }

-- Forwarding tables of pages whose objects have places in targets that aren't on a page yet.
use Rattle.std.specs.Prelude.{◌≡◌, ℕ, ◌≤◌, Bool, false, List, map, length, count_by, replicate}
use Rattle.model.specs.declared.limits.TheConstants.{MOST_WORDS}
use Rattle.model.specs.declared.records.Forwarding.{Forwarding}
use Rattle.model.specs.Plans.{address_in}
use Rattle.forward.specs.Ranked.{entries_of}

-- the live bitmap of a page, and the places of its objects
pub record DraftState : Type 0 where
  pub live : List Bool
  pub places : List (ℕ × ℕ)

-- there is a place for each live object of a page, and a flag, which isn't set
pub record IsDraft (live : List Bool) (places : List (ℕ × ℕ)) (copied : List Bool) : Type 0 where
  pub short : length live ≤ MOST_WORDS
  pub many : length places ≡ count_by (λ b. b) live
  pub flags : copied ≡ replicate (length places) false

-- the entries, if targets are on these pages
unfoldable pub settled : ℕ → List ℕ → DraftState → List Forwarding
settled words targets d =
    entries_of d.live (map (address_in words targets) d.places) (replicate (length d.places) false)

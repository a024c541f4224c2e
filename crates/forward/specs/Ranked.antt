-- The entries of a forwarding table, as a bitmap of their offsets, their places in order, and a bitmap of which are
-- copied.
use Rattle.std.specs.Prelude.{◌≡◌, ℕ, ◌<◌, ◌≤◌, Bool, true, false, List, map, length, count_by, get_or}
use Rattle.std.specs.Prelude.{slice_index_or, is_some}
use Rattle.std.specs.List.{range_with_len}
use Rattle.model.specs.declared.limits.TheConstants.{MOST_WORDS}
use Rattle.model.specs.declared.records.Forwarding.{Forwarding}
use Rattle.model.specs.Marks.{entry_of}
use Rattle.model.specs.Plans.{offsets_from}
use Rattle.markbits.specs.Ranks.{rank_of}

-- the entry of a number
abbrev pub numbered_entry : List Bool → List ℕ → List Bool → ℕ → Forwarding
numbered_entry live places copied k = record {
  offset = get_or (offsets_from 0 live) k 0;
  to = get_or places k 0;
  copied = get_or copied k false;
}

-- the entries: one for each set bit of the bitmap
unfoldable pub entries_of : List Bool → List ℕ → List Bool → List Forwarding
entries_of live places copied = map (numbered_entry live places copied) (range_with_len 0 (length places))

-- there is a place and a flag for each set bit of a bitmap that is no longer than a page
pub record AreEntries (live : List Bool) (places : List ℕ) (copied : List Bool) : Type 0 where
  pub short : length live ≤ MOST_WORDS
  pub many : length places ≡ count_by (λ b. b) live
  pub flags : length copied ≡ length places

-- a place and a number, if there is an entry of this number, are those of one entry
abbrev pub IsKept : List Bool → List ℕ → ℕ → ℕ → Type 0
IsKept live places place number =
    number < length places → (slice_index_or live place false ≡ true) × (rank_of live place ≡ number)

-- a bit is set if and only if an entry has its offset
abbrev pub IsLiveOf : List Bool → List Forwarding → Type 0
IsLiveOf live side = (o : ℕ) → slice_index_or live o false ≡ is_some (entry_of side o)

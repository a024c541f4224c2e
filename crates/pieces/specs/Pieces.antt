-- Objects of a page that are copied to their places on another page.
use Rattle.std.specs.Prelude.{◌≡◌, ℕ, zero, suc, ◌+◌, ◌-◌, ◌%◌, ◌<◌, ◌≤◌, List, take, drop, Option, Some, None}
use Rattle.std.specs.Prelude.{slice_get, if◌then◌else◌}
use Rattle.layout.specs.declared.shape.Layout.{Layout}
use Rattle.model.specs.declared.records.Forwarding.{Forwarding}
use Rattle.model.specs.Stores.{overlay}
use Rattle.model.specs.Data.{layout_in, header_layout}
use Rattle.model.specs.Plans.{words_of}
use Rattle.forward.specs.Noting.{offset_of}
use Rattle.pieces.specs.declared.source.Source.{Source}

-- A page that is being emptied: the number of words of a page, its words, its forwarding table, and the layouts of
-- objects.
pub record SourceState : Type 0 where
  pub size : ℕ
  pub words : List ℕ
  pub side : List Forwarding
  pub layouts : List Layout

abbrev pub source_of : Source → SourceState
source_of s = record { size = s.size; words = s.words.now; side = s.side.now; layouts = s.layouts.now }

-- the number of words of the object at an offset; 1, for the header alone, if it has no layout
abbrev pub size_at : SourceState → ℕ → ℕ
size_at s o = words_of (layout_in s.layouts (header_layout (slice_get s.words o)))

-- the words of the object at an offset, up to the end of the page
abbrev pub words_at : SourceState → ℕ → List ℕ
words_at s o = take (size_at s o) (drop o s.words)

-- the entry before number e has this offset
abbrev pub IsBehind : List Forwarding → ℕ → ℕ → Type 0
IsBehind side e o = (0 < e) × (offset_of (slice_get side (e - 1)) ≡ Some o)

-- the words of a target page from offset `base` on, after the object of an entry was copied, if there is an uncopied
-- one
abbrev pub laid_by : SourceState → ℕ → Option Forwarding → List ℕ → List ℕ
laid_by s base None ws = ws
laid_by s base (Some f) ws = if f.copied then ws else overlay ws (f.to % s.size - base) (words_at s f.offset)

-- the same for a number of entries from number e on
abbrev pub laid_from : SourceState → ℕ → ℕ → ℕ → List ℕ → List ℕ
laid_from s base e zero ws = ws
laid_from s base e (suc k) ws = laid_from s base (e + 1) k (laid_by s base (slice_get s.side e) ws)

-- an entry's object, if there is one, doesn't begin below a place
abbrev pub Follows : SourceState → ℕ → Option Forwarding → Type 0
Follows s low None = Unit {0}
Follows s low (Some f) = low ≤ f.to % s.size

-- the end of the entry's object; `low` if there is no such entry
abbrev pub end_by : SourceState → ℕ → Option Forwarding → ℕ
end_by s low None = low
end_by s low (Some f) = f.to % s.size + size_at s f.offset

-- the places of the objects of k entries from number e on follow each other, between two places of the target
abbrev pub AreInOrder : SourceState → ℕ → ℕ → ℕ → ℕ → Type 0
AreInOrder s low high e zero = low ≤ high
AreInOrder s low high e (suc k) =
    Follows s low (slice_get s.side e) × AreInOrder s (end_by s low (slice_get s.side e)) high (e + 1) k

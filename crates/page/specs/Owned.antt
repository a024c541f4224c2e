-- Pages that a thread owns for a time.
use Rattle.std.specs.Prelude.{◌≡◌, ℕ, ◌+◌, ◌<◌, length, List, [], ◌∷◌, Option, None, Some, get_or, slice_get, true, false}
use denote.Ref.{MutBor}
use denote.Param.Members.{Shared}
use Rattle.std.specs.Fork.{ChangesEach}
use Rattle.model.specs.declared.records.Page.{Page}
use Rattle.model.specs.Stores.{changed_in, frame_in}
use Rattle.page.specs.declared.owned.OwnedPage.{OwnedPage}
use Rattle.page.specs.declared.owned.Part.{Part}

-- the words of a frame that may be missing, else others
abbrev pub words_or : List (List ℕ) → Option ℕ → List ℕ → List ℕ
words_or frames None ws = ws
words_or frames (Some f) ws = get_or frames f ws

-- the words that an owned page, which had others, gets of the page of a record's index
abbrev pub lent_frame : List Page → ℕ → List (List ℕ) → List ℕ → List ℕ
lent_frame records i frames ws = words_or frames (frame_in (slice_get records i)) ws

-- frames with other words in that of the page of a record's index, if it has one
abbrev pub put_frame : List Page → ℕ → List (List ℕ) → List ℕ → List (List ℕ)
put_frame records i frames ws = changed_in frames (frame_in (slice_get records i)) (λ old. ws)

-- the words of pages, from that of a record's index on, were swapped with those of owned pages, one after the other
abbrev pub Swapped : List Page → ℕ → List (List ℕ) → List OwnedPage → List (List ℕ) → List OwnedPage → Type 0
Swapped records i frames [] after [] = after ≡ frames
Swapped records i frames [] after (q ∷ qs) = true ≡ false
Swapped records i frames (p ∷ ps) after [] = true ≡ false
Swapped records i frames (p ∷ ps) after (q ∷ qs) =
    (q ≡ record p { frame = lent_frame records i frames p.frame })
    × Swapped records (i + 1) (put_frame records i frames p.frame) ps after qs

-- the pages of parts were swapped so, one part after the other; what else parts have stays
abbrev pub SwappedParts : List Page → List (List ℕ) → List Part → List (List ℕ) → List Part → Type 0
SwappedParts records frames [] after [] = after ≡ frames
SwappedParts records frames [] after (q ∷ qs) = true ≡ false
SwappedParts records frames (p ∷ ps) after [] = true ≡ false
SwappedParts records frames (p ∷ ps) after (q ∷ qs) =
    (between : List (List ℕ)) × Swapped records p.first frames p.pages.items between q.pages.items
    × (q ≡ record p { pages = q.pages }) × SwappedParts records between ps after qs

-- the indexes of the pages of parts are numbers of a machine
abbrev pub AreShort : List Part → Type 0
AreShort [] = Unit {0}
AreShort (p ∷ ps) = (p.first + length p.pages.items < 18446744073709551616) × AreShort ps

-- calls of f have changed parts, which had the words of their pages meanwhile
pub record OwnsBy {F : Type 0} (g : Shared F (ℕ × (MutBor Part × Unit {0})) (Unit {0} × (MutBor Part × Unit {0})))
    (f : F) (records : List Page) (frames : List (List ℕ)) (parts : List Part) (after : List (List ℕ))
    (back : List Part) : Type 0 where
  pub between : List (List ℕ)
  pub lent : List Part
  pub left : List Part
  pub take : SwappedParts records frames parts between lent
  pub changed : ChangesEach g f lent left
  pub long : length left ≡ length lent
  pub give : SwappedParts records between left after back

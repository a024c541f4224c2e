-- Objects of a part that wait: they were marked, and will be scanned, but aren't grey yet.
use Rattle.std.specs.Prelude.{◌≡◌, ℕ, ◌%◌, ◌<◌, true, false, List, [], ◌∷◌, ◌++◌, get_or, slice_get, length, map, Some}
use Rattle.model.specs.Bits.{put_bit}
use Rattle.model.specs.States.{Reference, change_at}
use Rattle.page.specs.declared.owned.OwnedPage.{OwnedPage}
use Rattle.part_scans.specs.Scenes.{SceneState}
use Rattle.part_scans.specs.Scans.{own_index, mark_words, send_words}

-- A place of a part: the index of a page, and an offset there.

-- that of an address
abbrev pub place_of : SceneState → ℕ → ℕ → ℕ × ℕ
place_of s first a = (own_index s first a, a % s.words)

-- those of some addresses
abbrev pub places_of : SceneState → ℕ → List ℕ → List (ℕ × ℕ)
places_of s first ns = map (place_of s first) ns

-- a page on which the object at an offset is grey
unfoldable pub grey_on : ℕ → OwnedPage → OwnedPage
grey_on o p = record p { grey = put_bit o true p.grey }

-- the pages after the object at a place becomes grey
abbrev pub grey_at : List OwnedPage → ℕ × ℕ → List OwnedPage
grey_at ps x = change_at ps x.0 (grey_on x.1)

-- the pages after the objects at all these places become grey
abbrev pub all_grey : List OwnedPage → List (ℕ × ℕ) → List OwnedPage
all_grey ps [] = ps
all_grey ps (x ∷ xs) = all_grey (grey_at ps x) xs

-- the object at a place is marked, and can become grey
pub record IsWaiting (ps : List OwnedPage) (x : ℕ × ℕ) : Type 0 where
  pub page : OwnedPage
  pub there : slice_get ps x.0 ≡ Some page
  pub marked : get_or page.marked x.1 false ≡ true
  pub low : x.1 < length page.grey

-- a place is none of these
abbrev pub IsNoneOf : ℕ × ℕ → List (ℕ × ℕ) → Type 0
IsNoneOf x [] = Unit {0}
IsNoneOf x (y ∷ ys) = (x.0 ≡ y.0 → x.1 ≡ y.1 → true ≡ false) × IsNoneOf x ys

-- the objects at these places wait, each once
abbrev pub AreWaiting : List OwnedPage → List (ℕ × ℕ) → Type 0
AreWaiting ps [] = Unit {0}
AreWaiting ps (x ∷ xs) = IsWaiting ps x × IsNoneOf x xs × AreWaiting ps xs

-- a page on which the object at an offset is marked, but doesn't become grey
abbrev pub white_on : ℕ → OwnedPage → OwnedPage
white_on o p = record p { marked = put_bit o true p.marked }

-- A change f of pages was done to pages ps, of which objects ws waited, by pages qs and objects vs that wait: so it is,
-- whatever object x waits before them.
abbrev pub Does : SceneState → ℕ → (List OwnedPage → List OwnedPage) → List OwnedPage → List ℕ → List OwnedPage
    → List ℕ → Type 0
Does s first f ps ws qs vs = (x : ℕ × ℕ) → AreWaiting ps (x ∷ places_of s first ws)
    → (all_grey qs (x ∷ places_of s first vs) ≡ f (all_grey ps (x ∷ places_of s first ws)))
    × AreWaiting qs (x ∷ places_of s first vs)

-- the same of the marks of k references, from an offset of a page on, with what was sent
pub record MarksWords (s : SceneState) (first i o k : ℕ) (ps : List OwnedPage) (ws : List ℕ) (sent : List Reference)
    (qs : List OwnedPage) (vs : List ℕ) (after : List Reference) (x : ℕ × ℕ) : Type 0 where
  pub pages : all_grey qs (x ∷ places_of s first vs)
      ≡ mark_words s first (all_grey ps (x ∷ places_of s first ws)) i o k
  pub notes : after ≡ sent ++ send_words s first (all_grey ps (x ∷ places_of s first ws)) i o k
  pub waits : AreWaiting qs (x ∷ places_of s first vs)

-- an object at an offset of a page is marked, and waits or becomes grey, if it wasn't marked before
abbrev pub WaitsOn : ℕ → ℕ → OwnedPage → List ℕ → OwnedPage → List ℕ → Type 0
WaitsOn o a p ws q vs = (q ≡ white_on o p) × (vs ≡ ws ++ a ∷ []) × (get_or p.marked o false ≡ false)
    × (o < length p.marked) × (o < length p.grey)

-- the place that is looked at next, and what still waits
abbrev pub IsNext : SceneState → ℕ → List OwnedPage → List ℕ → ℕ × ℕ → List ℕ → Type 0
IsNext s first ps ws x vs = AreWaiting ps (x ∷ places_of s first vs)
    × (all_grey ps (x ∷ places_of s first vs) ≡ all_grey ps (places_of s first ws))

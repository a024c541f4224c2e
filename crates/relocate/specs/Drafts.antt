-- Drafts of pages: a place in a target for each of their live objects; and the forwarding tables that they become.
use Rattle.std.specs.Prelude.{◌≡◌, ℕ, ◌+◌, ◌-◌, ◌*◌, ◌<◌, ◌≤◌, List, [], ◌∷◌, map, length, count_by, slice_set}
use Rattle.model.specs.declared.records.Forwarding.{Forwarding}
use Rattle.model.specs.Bits.{of_page}
use Rattle.model.specs.Owning.{Each}
use Rattle.model.specs.Plans.{live_offsets, object_words}
use Rattle.model.specs.States.{HeapState}
use Rattle.forward.specs.Drafts.{DraftState, settled}
use Rattle.forward.specs.Objects.{ObjectsState}

-- the address of an offset of page n
abbrev pub address_of : HeapState → ℕ → ℕ → ℕ
address_of h n o = n * h.store.words + o

-- the words of the object at an offset of page n
abbrev pub draft_size : HeapState → ℕ → ℕ → ℕ
draft_size h n o = object_words h (address_of h n o)

-- the words of each live object of page n
abbrev pub draft_sizes : HeapState → ℕ → List ℕ
draft_sizes h n = map (draft_size h n) (live_offsets h n)

-- the live objects of page n: its live bitmap, and a size for each
pub record AreLiveOn (h : HeapState) (n : ℕ) (o : ObjectsState) : Type 0 where
  pub live : o.live ≡ of_page h.live n
  pub sizes : o.sizes ≡ draft_sizes h n

-- the places of a draft
abbrev pub places_of : DraftState → List (ℕ × ℕ)
places_of d = d.places

-- a draft of page n: a place for each of its live objects
pub record IsDraftOf (h : HeapState) (n : ℕ) (d : DraftState) : Type 0 where
  pub live : d.live ≡ of_page h.live n
  pub many : length d.places ≡ count_by (λ b. b) d.live

-- drafts of these pages
abbrev pub AreDraftsOf : HeapState → List ℕ → List DraftState → Type 0
AreDraftsOf h [] [] = Unit {0}
AreDraftsOf h [] (d ∷ ds) = ⊥
AreDraftsOf h (n ∷ ns) [] = ⊥
AreDraftsOf h (n ∷ ns) (d ∷ ds) = IsDraftOf h n d × AreDraftsOf h ns ds

-- a draft becomes a forwarding table, for pages of a number of words and so many targets: it has a place for each live
-- object, within one of them
pub record IsReadyFor (words count : ℕ) (d : DraftState) : Type 0 where
  pub short : length d.live ≤ words
  pub many : length d.places ≡ count_by (λ b. b) d.live
  pub counted : Each d.places (λ p. p.0 < count)
  pub within : Each d.places (λ p. p.1 < words)

-- forwarding tables after those of these pages became those of drafts, whose targets are on pages
abbrev pub with_settled : ℕ → List ℕ → List ℕ → List DraftState → List (List Forwarding) → List (List Forwarding)
with_settled words targets [] drafts sides = sides
with_settled words targets (n ∷ ns) [] sides = sides
with_settled words targets (n ∷ ns) (d ∷ ds) sides =
    with_settled words targets ns ds (slice_set sides (n - 1) (settled words targets d))

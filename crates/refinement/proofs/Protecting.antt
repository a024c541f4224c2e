-- The effect of protecting pages on their records and forwarding tables, page by page.
use Rattle.std.proofs.Common.{◌≡◌, ◌≢◌, ◌⊎◌, inl, inr, ℕ, suc, ◌-◌, ◌<◌, List, []}
use Rattle.std.proofs.Common.{◌∷◌, length, set, get_or, Option, Some, None, refl, sym, ◌∙◌, ap, arith}
use Rattle.std.specs.List.{slice_get}
use Rattle.std.specs.Option.{option_map}
use Rattle.std.proofs.Math.ListN.{length-set}
use Rattle.std.proofs.lemmas.Bool.{cases_eq}
use Rattle.std.proofs.lemmas.List.{get_or-set_same, get_or-set_other}
use Rattle.model.specs.declared.records.Forwarding.{Forwarding}
use Rattle.model.specs.declared.records.Page.{Page}
use Rattle.model.specs.States.{HeapState, change_at}
use Rattle.model.specs.Bits.{of_page}
use Rattle.model.specs.Plans.{side_of, with_sides}
use Rattle.model.specs.Protections.{set_from_of, with_from_pages}
use Rattle.model.proofs.Tables.{length_changed}
use Rattle.model.proofs.Plans.{IsIn}
use Rattle.laws.specs.AddressHeap.{put}
use Rattle.laws.proofs.Basics.{put_same, put_other}
use Rattle.refinement.proofs.Changes.{get_changed}

-- page n isn't one of these
abbrev pub IsOut : ℕ → List ℕ → Type 0
IsOut n pages = (m : ℕ) → IsIn m pages → m ≢ n

-- page numbers begin at 1
abbrev pub ArePages : List ℕ → Type 0
ArePages pages = (m : ℕ) → IsIn m pages → 0 < m

pub sides_many : (h : HeapState) (moves : List (ℕ × ℕ)) (pages : List ℕ) (sides : List (List Forwarding))
    → length (with_sides h moves pages sides) ≡ length sides
sides_many h moves [] sides = refl
sides_many h moves (m ∷ pages) sides =
    sides_many h moves pages (set sides (m - 1) (side_of h moves m)) ∙ length-set sides (m - 1) (side_of h moves m)

-- a page has the forwarding table that was made for it, or the one that it had
pub sides_read : (h : HeapState) (moves : List (ℕ × ℕ)) (pages : List ℕ) (sides : List (List Forwarding)) (i : ℕ)
    → ArePages pages → i < length sides
    → (IsIn (suc i) pages × (of_page (with_sides h moves pages sides) (suc i) ≡ side_of h moves (suc i)))
    ⊎ (IsOut (suc i) pages × (of_page (with_sides h moves pages sides) (suc i) ≡ of_page sides (suc i)))
sides_read h moves [] sides i low within = inr ((λ m e. absurd e), refl)
sides_read h moves (m ∷ pages) sides i low within =
    let side : List Forwarding = side_of h moves m in
    let one : 0 < m = low m (inl refl) in
    elim (sides_read h moves pages (set sides (m - 1) side) i (λ k e. low k (inr e))
    (omega (arith, within, length-set sides (m - 1) side))) [
      | inl (there, is) ↦ inl (inr there, is)
      | inr (out, same) ↦ elim (cases_eq m (suc i)) [
        | inl e ↦ inl (
          inl e,
          same ∙ ap (λ j. get_or (set sides j side) i []) (omega (arith, e))
              ∙ get_or-set_same sides i side [] within ∙ ap (side_of h moves) e,
        )
        | inr d ↦ inr (
          (λ k is. elim is [ inl e ↦ (λ z. d (e ∙ z)) | inr there ↦ out k there ]),
          same ∙ get_or-set_other sides (m - 1) i side [] (λ z. d (omega (arith, z, one))),
        )
      ]
    ]

pub pages_many : (pages : List ℕ) (records : List Page) → length (with_from_pages pages records) ≡ length records
pages_many [] records = refl
pages_many (m ∷ pages) records =
    pages_many pages (change_at records (m - 1) set_from_of) ∙ length_changed records (m - 1) set_from_of

-- a page is From, or its record is as it was
pub pages_read : (pages : List ℕ) (records : List Page) (i : ℕ) → ArePages pages
    → (IsIn (suc i) pages
    × (slice_get (with_from_pages pages records) i ≡ option_map set_from_of (slice_get records i)))
    ⊎ (IsOut (suc i) pages × (slice_get (with_from_pages pages records) i ≡ slice_get records i))
pages_read [] records i low = inr ((λ m e. absurd e), refl)
pages_read (m ∷ pages) records i low =
    let one : 0 < m = low m (inl refl) in
    let changed = get_changed records (m - 1) set_from_of i in
    elim (pages_read pages (change_at records (m - 1) set_from_of) i (λ k e. low k (inr e))) [
      | inl (there, is) ↦ inl (inr there, is ∙ ap (option_map set_from_of) changed ∙ again one)
      | inr (out, same) ↦ elim (cases_eq m (suc i)) [
        | inl e ↦ inl (
          inl e,
          same ∙ changed ∙ ap (λ j. put (slice_get records) j (option_map set_from_of (slice_get records j)) i)
              (omega (arith, e)) ∙ put_same (slice_get records) i (option_map set_from_of (slice_get records i)),
        )
        | inr d ↦ inr (
          (λ k is. elim is [ inl e ↦ (λ z. d (e ∙ z)) | inr there ↦ out k there ]),
          same ∙ changed ∙ put_other (slice_get records) (m - 1)
              (option_map set_from_of (slice_get records (m - 1))) i (λ z. d (omega (arith, z, one))),
        )
      ]
    ]
  where
    twice : (o : Option Page) → option_map set_from_of (option_map set_from_of o) ≡ option_map set_from_of o
    twice None = refl
    twice (Some p) = refl

    again : 0 < m → option_map set_from_of
        (put (slice_get records) (m - 1) (option_map set_from_of (slice_get records (m - 1))) i)
        ≡ option_map set_from_of (slice_get records i)
    again one = elim (cases_eq i (m - 1)) [
      | inl e ↦ ap (λ j. option_map set_from_of
          (put (slice_get records) j (option_map set_from_of (slice_get records j)) i)) (sym e)
          ∙ ap (option_map set_from_of) (put_same (slice_get records) i (option_map set_from_of (slice_get records i)))
          ∙ twice (slice_get records i)
      | inr d ↦ ap (option_map set_from_of) (put_other (slice_get records) (m - 1)
          (option_map set_from_of (slice_get records (m - 1))) i d)
    ]

-- Forwarding tables that drafts become are those made by moves.
use Rattle.std.proofs.Common.{◌≡◌, ◌≤◌, inl, inr, ℕ, zero, suc, ◌+◌, ◌-◌, ◌*◌, ◌<◌, Bool, true, false, cond}
use Rattle.std.proofs.Common.{List, [], ◌∷◌, ◌++◌, length, map, set, replicate, get_or, count_by, ◌==◌, eq-eqb, ne_eqb, Some}
use Rattle.std.proofs.Common.{refl, sym, ◌∙◌, ap, subst, arith}
use Rattle.std.specs.List.{slice_get, flat_map, list_any}
use Rattle.std.specs.Prelude.{zip}
use Rattle.std.proofs.lemmas.Bool.{or_parts, true≢false}
use Rattle.std.proofs.lemmas.List.{get_or-replicate, length-map}
use Rattle.std.proofs.lemmas.Nat.{same_from_place}
use Rattle.std.proofs.lemmas.Option.{slice_get_within}
use Rattle.model.specs.declared.records.Forwarding.{Forwarding}
use Rattle.model.specs.Bits.{of_page}
use Rattle.model.specs.Owning.{Each}
use Rattle.model.specs.Plans.{places_from, offsets_from, live_offsets, live_on, live_objects}
use Rattle.model.specs.Plans.{object_words, plan_of, address_in, moves_of, place_of, side_of, with_sides}
use Rattle.model.specs.Protections.{has_twice}
use Rattle.model.specs.States.{HeapState}
use Rattle.forward.specs.Drafts.{DraftState, settled}
use Rattle.forward.specs.Ranked.{entries_of}
use Rattle.forward.proofs.Ranked.{entries_many, entry_read, offsets_many}
use Rattle.model.proofs.Lists.{none_passes, same_lists}
use Rattle.model.proofs.Plans.{IsIn, in_either, in_at, mapped_in, in_objects, offset_told, places_length}
use Rattle.relocate.specs.Drafts.{AreDraftsOf, IsDraftOf, places_of, with_settled}

-- lists without repeats

-- no element is there twice
abbrev AreDistinct : List ℕ → Type 0
AreDistinct [] = Unit {0}
AreDistinct (x ∷ xs) = (IsIn x xs → ⊥) × AreDistinct xs

distinct_joined : (xs ys : List ℕ) → AreDistinct xs → AreDistinct ys → ((x : ℕ) → IsIn x xs → IsIn x ys → ⊥)
    → AreDistinct (xs ++ ys)
distinct_joined [] ys a b apart = b
distinct_joined (x ∷ xs) ys (fresh, a) b apart = (
  (λ there. elim (in_either x xs ys there) [ inl k ↦ fresh k | inr k ↦ apart x (inl refl) k ]),
  distinct_joined xs ys a b (λ y k. apart y (inr k)),
)

distinct_mapped : (f : ℕ → ℕ) (xs : List ℕ) → ((x y : ℕ) → f x ≡ f y → x ≡ y) → AreDistinct xs
    → AreDistinct (map f xs)
distinct_mapped f [] alike a = tt
distinct_mapped f (x ∷ xs) alike (fresh, a) = (
  (λ there. let (y, k, is) = mapped_in f (f x) xs there in fresh (subst (λ z. IsIn z xs) (alike y x is) k)),
  distinct_mapped f xs alike a,
)

-- the live objects of pages

distinct_offsets : (b : ℕ) (bits : List Bool) → AreDistinct (offsets_from b bits)
distinct_offsets b [] = tt
distinct_offsets b (true ∷ bits) = (
  (λ there. let (j, is, at) = offset_told (b + 1) bits b there in absurd (omega (arith, is))),
  distinct_offsets (b + 1) bits,
)
distinct_offsets b (false ∷ bits) = distinct_offsets (b + 1) bits

-- a bit of a page's bitmap is within the page
row_within : (words : ℕ) (rows : List (List Bool)) (n j : ℕ) (bit : Bool) → Each rows (λ row. length row ≤ words)
    → slice_get (of_page rows n) j ≡ Some bit → j < words
row_within words rows zero j bit long at = absurd (cc)
row_within words [] (suc i) j bit long at = absurd (cc)
row_within words (row ∷ rows) (suc zero) j bit long at = omega (arith, slice_get_within row j bit at, long 0 row refl)
row_within words (row ∷ rows) (suc (suc i)) j bit long at =
    row_within words rows (suc i) j bit (λ k. long (suc k)) at

-- the live objects of a page are at its offsets
live_at : (h : HeapState) (n a : ℕ) → Each h.live (λ row. length row ≤ h.store.words) → IsIn a (live_on h n)
    → (o : ℕ) × (n * h.store.words + o ≡ a) × (o < h.store.words)
unfolding live_offsets
live_at h n a long there =
    let (o, told, is) = mapped_in (λ o. n * h.store.words + o) a (offsets_from 0 (of_page h.live n)) there in
    let (j, same, at) = offset_told 0 (of_page h.live n) o told in
    let low = row_within h.store.words h.live n j true long at in
    (o, is, omega (arith, same, low))

distinct_on : (h : HeapState) (n : ℕ) → AreDistinct (live_on h n)
unfolding live_offsets
distinct_on h n = distinct_mapped (λ o. n * h.store.words + o) (offsets_from 0 (of_page h.live n))
    (λ x y e. same_offset (n * h.store.words) x y e) (distinct_offsets 0 (of_page h.live n))
  where
    same_offset : (start x y : ℕ) → start + x ≡ start + y → x ≡ y
    same_offset start x y e = omega (arith, e)

-- no object is on two pages
one_page : (h : HeapState) (m n a : ℕ) → Each h.live (λ row. length row ≤ h.store.words) → IsIn a (live_on h m)
    → IsIn a (live_on h n) → m ≡ n
one_page h m n a long first second =
    let (o, is, low) = live_at h m a long first in
    let (p, same, under) = live_at h n a long second in
    (same_from_place m o n p h.store.words low under (is ∙ sym same)).0

distinct_objects : (h : HeapState) (pages : List ℕ) → Each h.live (λ row. length row ≤ h.store.words)
    → has_twice pages ≡ false → AreDistinct (flat_map (live_on h) pages)
distinct_objects h [] long once = tt
distinct_objects h (n ∷ ns) long once =
    let (none, rest) = or_parts (list_any (λ m. m == n) ns) (has_twice ns) once in
    distinct_joined (live_on h n) (flat_map (live_on h) ns) (distinct_on h n) (distinct_objects h ns long rest)
    (apart (none_passes (λ m. m == n) ns none))
  where
    apart : Each ns (λ m. m == n ≡ false) → (a : ℕ) → IsIn a (live_on h n) → IsIn a (flat_map (live_on h) ns) → ⊥
    apart none a first later =
        let (m, there, second) = in_objects (live_on h) a ns later in
        let (i, at) = in_at m ns there in
        true≢false (sym (eq-eqb m n (one_page h m n a long second first)) ∙ none i m at)

-- objects and their places

-- by moves, these objects go to these addresses, in order
abbrev AreMoved : List (ℕ × ℕ) → List ℕ → List ℕ → Type 0
AreMoved moves [] addresses = Unit {0}
AreMoved moves (o ∷ os) [] = ⊥
AreMoved moves (o ∷ os) (to ∷ tos) = (place_of moves o ≡ to) × AreMoved moves os tos

-- a move of another object changes nothing
other_move : (moves : List (ℕ × ℕ)) (x a : ℕ) (objects addresses : List ℕ) → (IsIn x objects → ⊥)
    → AreMoved moves objects addresses → AreMoved ((x, a) ∷ moves) objects addresses
other_move moves x a [] addresses fresh k = tt
other_move moves x a (o ∷ os) [] fresh k = k
other_move moves x a (o ∷ os) (to ∷ tos) fresh (here, rest) = (
  ap (λ b. cond b a (place_of moves o)) (ne_eqb x o (λ e. fresh (inl (sym e)))) ∙ here,
  other_move moves x a os tos (λ there. fresh (inr there)) rest,
)

moved_beside : (objects addresses : List ℕ) → AreDistinct objects → length addresses ≡ length objects
    → AreMoved (zip objects addresses) objects addresses
moved_beside [] addresses once same = tt
moved_beside (o ∷ os) [] once same = absurd (omega (arith, same))
moved_beside (o ∷ os) (to ∷ tos) (fresh, once) same = (
  ap (λ b. cond b to (place_of (zip os tos) o)) (eq-eqb o o refl),
  other_move (zip os tos) o to os tos fresh (moved_beside os tos once (omega (arith, same))),
)

planned_moves : (h : HeapState) (pages targets : List ℕ) → Each h.live (λ row. length row ≤ h.store.words)
    → has_twice pages ≡ false
    → AreMoved (moves_of h pages targets) (flat_map (live_on h) pages)
    (map (address_in h.store.words targets) (plan_of h pages))
unfolding moves_of live_objects plan_of
planned_moves h pages targets long once =
    let objects = flat_map (live_on h) pages in
    let sizes = map (object_words h) objects in
    let places = places_from h.store.words 0 0 sizes in
    moved_beside objects (map (address_in h.store.words targets) places) (distinct_objects h pages long once)
    (length-map places (address_in h.store.words targets) ∙ places_length h.store.words 0 0 sizes
    ∙ length-map objects (object_words h))

-- drafts that become forwarding tables

-- entries at these offsets with these places
abbrev pub placed_entries : ℕ → List ℕ → List (ℕ × ℕ) → List ℕ → List Forwarding
placed_entries words targets ps [] = []
placed_entries words targets [] (o ∷ os) = []
placed_entries words targets (p ∷ ps) (o ∷ os) =
    record { offset = o; to = address_in words targets p; copied = false } ∷ placed_entries words targets ps os

placed_many : (words : ℕ) (targets : List ℕ) (ps : List (ℕ × ℕ)) (os : List ℕ) → length ps ≡ length os
    → length (placed_entries words targets ps os) ≡ length ps
placed_many words targets [] [] e = refl
placed_many words targets [] (o ∷ os) e = refl
placed_many words targets (p ∷ ps) [] e = absurd (omega (arith, e))
placed_many words targets (p ∷ ps) (o ∷ os) e = ap suc (placed_many words targets ps os (omega (arith, e)))

placed_read : (words : ℕ) (targets : List ℕ) (ps : List (ℕ × ℕ)) (os : List ℕ) (i : ℕ) → length ps ≡ length os
    → i < length ps → slice_get (placed_entries words targets ps os) i ≡ Some (record {
      offset = get_or os i 0;
      to = get_or (map (address_in words targets) ps) i 0;
      copied = false;
    })
placed_read words targets [] os i e l = absurd (omega (arith, l))
placed_read words targets (p ∷ ps) [] i e l = absurd (omega (arith, e))
placed_read words targets (p ∷ ps) (o ∷ os) zero e l = refl
placed_read words targets (p ∷ ps) (o ∷ os) (suc i) e l =
    placed_read words targets ps os i (omega (arith, e)) (omega (arith, l))

-- a forwarding table has an entry for each live object, with its place
pub settled_placed : (words : ℕ) (targets : List ℕ) (d : DraftState) → length d.places ≡ count_by (λ b. b) d.live
    → settled words targets d ≡ placed_entries words targets d.places (offsets_from 0 d.live)
unfolding settled
settled_placed words targets d many = same_lists v w
    (entries_many d.live addresses flags ∙ addresses_many ∙ sym (placed_many words targets d.places offsets same))
    (λ i l. by_number i (omega (arith, l, entries_many d.live addresses flags)))
  where
    offsets : List ℕ
    offsets = offsets_from 0 d.live

    addresses : List ℕ
    addresses = map (address_in words targets) d.places

    flags : List Bool
    flags = replicate (length d.places) false

    v : List Forwarding
    v = entries_of d.live addresses flags

    w : List Forwarding
    w = placed_entries words targets d.places offsets

    same : length d.places ≡ length offsets
    same = many ∙ sym (offsets_many 0 d.live)

    addresses_many : length addresses ≡ length d.places
    addresses_many = length-map d.places (address_in words targets)

    by_number : (i : ℕ) → i < length addresses → slice_get v i ≡ slice_get w i
    by_number i l =
        let there : i < length d.places = omega (arith, l, addresses_many) in
        let flag : get_or flags i false ≡ false = get_or-replicate (length d.places) i false false there in
        entry_read d.live addresses flags i l
        ∙ (λ k. Some (record { offset = get_or offsets i 0; to = get_or addresses i 0; copied = flag k }))
        ∙ sym (placed_read words targets d.places offsets i same there)

-- the entries of a page whose objects begin at these offsets go where moves say
entries_settled : (words start : ℕ) (targets : List ℕ) (moves : List (ℕ × ℕ)) (offsets later : List ℕ)
    (ps qs : List (ℕ × ℕ)) → length ps ≡ length offsets
    → AreMoved moves (map (λ o. start + o) offsets ++ later) (map (address_in words targets) (ps ++ qs))
    → placed_entries words targets ps offsets
    ≡ map (λ o. record { offset = o; to = place_of moves (start + o); copied = false }) offsets
entries_settled words start targets moves [] later ps qs e k = refl
entries_settled words start targets moves (o ∷ os) later [] qs e k = absurd (omega (arith, e))
entries_settled words start targets moves (o ∷ os) later (p ∷ ps) qs e (here, rest) =
    let to : address_in words targets p ≡ place_of moves (start + o) = sym here in
    λ i. record { offset = o; to = to i; copied = false }
    ∷ entries_settled words start targets moves os later ps qs (omega (arith, e)) rest i

-- the objects of later pages go to the places after them
moved_behind : (words start : ℕ) (targets : List ℕ) (moves : List (ℕ × ℕ)) (offsets later : List ℕ)
    (ps qs : List (ℕ × ℕ)) → length ps ≡ length offsets
    → AreMoved moves (map (λ o. start + o) offsets ++ later) (map (address_in words targets) (ps ++ qs))
    → AreMoved moves later (map (address_in words targets) qs)
moved_behind words start targets moves [] later [] qs e k = k
moved_behind words start targets moves [] later (p ∷ ps) qs e k = absurd (omega (arith, e))
moved_behind words start targets moves (o ∷ os) later [] qs e k = absurd (omega (arith, e))
moved_behind words start targets moves (o ∷ os) later (p ∷ ps) qs e (here, rest) =
    moved_behind words start targets moves os later ps qs (omega (arith, e)) rest

module _ (h : HeapState) (n : ℕ) (d : DraftState) (is : IsDraftOf h n d) where
  offsets_are : offsets_from 0 d.live ≡ live_offsets h n
  unfolding live_offsets
  offsets_are = ap (offsets_from 0) is.live

  places_are : length d.places ≡ length (live_offsets h n)
  places_are = is.many ∙ sym (offsets_many 0 d.live) ∙ ap length offsets_are

  side_settled : (targets : List ℕ) (moves : List (ℕ × ℕ)) (later : List ℕ) (qs : List (ℕ × ℕ))
      → AreMoved moves (live_on h n ++ later) (map (address_in h.store.words targets) (d.places ++ qs))
      → settled h.store.words targets d ≡ side_of h moves n
  unfolding side_of
  side_settled targets moves later qs k = settled_placed h.store.words targets d is.many
      ∙ ap (placed_entries h.store.words targets d.places) offsets_are
      ∙ entries_settled h.store.words (n * h.store.words) targets moves (live_offsets h n) later d.places qs places_are k

-- pages and their places

pages_settled : (h : HeapState) (targets : List ℕ) (moves : List (ℕ × ℕ)) (pages : List ℕ) (ds : List DraftState)
    (sides : List (List Forwarding)) → AreDraftsOf h pages ds
    → AreMoved moves (flat_map (live_on h) pages) (map (address_in h.store.words targets) (flat_map places_of ds))
    → with_settled h.store.words targets pages ds sides ≡ with_sides h moves pages sides
pages_settled h targets moves [] [] sides d k = refl
pages_settled h targets moves [] (x ∷ ds) sides d k = absurd d
pages_settled h targets moves (n ∷ ns) [] sides d k = absurd d
pages_settled h targets moves (n ∷ ns) (x ∷ ds) sides (is, rest) k =
    let later = flat_map (live_on h) ns in
    let words = h.store.words in
    ap (λ side. with_settled words targets ns ds (set sides (n - 1) side))
    (side_settled h n x is targets moves later (flat_map places_of ds) k)
    ∙ pages_settled h targets moves ns ds (set sides (n - 1) (side_of h moves n)) rest
    (moved_behind words (n * words) targets moves (live_offsets h n) later x.places (flat_map places_of ds)
    (places_are h n x is) k)

-- drafts with the places of a plan become the forwarding tables of the moves
pub sides_settled : (h : HeapState) (targets pages : List ℕ) (ds : List DraftState) (sides : List (List Forwarding))
    → Each h.live (λ row. length row ≤ h.store.words) → has_twice pages ≡ false → AreDraftsOf h pages ds
    → flat_map places_of ds ≡ plan_of h pages
    → with_settled h.store.words targets pages ds sides ≡ with_sides h (moves_of h pages targets) pages sides
sides_settled h targets pages ds sides long once are planned =
    pages_settled h targets (moves_of h pages targets) pages ds sides are
    (subst (λ ps. AreMoved (moves_of h pages targets) (flat_map (live_on h) pages)
    (map (address_in h.store.words targets) ps)) (sym planned) (planned_moves h pages targets long once))

-- Tables of bitmaps.
use Rattle.std.proofs.Common.{◌≡◌, ℕ, ◌+◌, ◌<◌, Bool, count_by, List, [], ◌∷◌, ◌++◌, length, map, take, drop, get_or}
use Rattle.std.proofs.Common.{set, sym}
use Rattle.std.proofs.Common.{◌∙◌, ap, arith, length-set}
use Rattle.std.proofs.lemmas.List.{get_or_read, get_or-drop, take_more, take_more_set, map-append, drop-set-lt}
use Rattle.std.proofs.lemmas.Grind.{drop_more_same}
use Rattle.sequences.specs.Bits.{blank_row}

-- one step of a loop that blanks each row
pub blank_more : (items old : List (List Bool)) (i : ℕ) (row cleared : List Bool)
    → (take i items ≡ map blank_row (take i old)) × (drop i items ≡ drop i old) × (length items ≡ length old)
    → i < length items → row ≡ get_or items i row → cleared ≡ blank_row row
    → (take (i + 1) (set items i cleared) ≡ map blank_row (take (i + 1) old))
    × (drop (i + 1) (set items i cleared) ≡ drop (i + 1) old)
    × (length (set items i cleared) ≡ length old)
blank_more items old i row cleared so_far within read is =
    let zero_more : i + 0 ≡ i = omega arith in
    let here : get_or items i [] ≡ get_or old i [] =
    ap (λ x. get_or items x []) (sym zero_more) ∙ sym (get_or-drop i items 0 [])
    ∙ ap (λ xs. get_or xs 0 []) so_far.1 ∙ get_or-drop i old 0 [] ∙ ap (λ x. get_or old x []) zero_more in
    let cleared_is : cleared ≡ blank_row (get_or old i []) = is
    ∙ ap blank_row (get_or_read items i row within read [] ∙ here) in
    let in_old : i < length old = omega (arith, so_far.2) in (
      take_more_set items i cleared within ∙ ap (λ xs. xs ++ cleared ∷ []) so_far.0
          ∙ ap (λ x. map blank_row (take i old) ++ x ∷ []) cleared_is
          ∙ sym (map-append blank_row (take i old) (get_or old i [] ∷ []))
          ∙ ap (map blank_row) (sym (take_more old i [] in_old)),
      drop-set-lt (i + 1) items i cleared (omega arith) ∙ drop_more_same items old i so_far.1,
      length-set items i cleared ∙ so_far.2,
    )

-- how many bits of a row are set
abbrev pub set_bits : List Bool → ℕ
set_bits row = count_by (λ b. b) row

-- Drafts that become forwarding tables.
use Rattle.std.proofs.Common.{◌≡◌, ℕ, ◌+◌, ◌*◌, ◌<◌, ◌≤◌, Bool, false, List, map, length, replicate, get_or, Option}
use Rattle.std.proofs.Common.{Some, None}
use Rattle.std.proofs.Common.{refl, sym, ◌∙◌, ap, subst, arith}
use Rattle.std.specs.List.{slice_get}
use Rattle.std.specs.Prelude.{option_map}
use Rattle.std.proofs.Math.Nat.{le-mul_of_pos_right}
use Rattle.std.proofs.lemmas.Nat.{mul-le}
use Rattle.std.proofs.lemmas.Option.{same_Some, slice_get-get_or, slice_get-map}
use Rattle.model.specs.Owning.{Each}
use Rattle.model.specs.Plans.{address_in}
use Rattle.refword.specs.Words.{IsAddress}
use Rattle.forward.specs.Drafts.{DraftState, settled}
use Rattle.forward.specs.Ranked.{entries_of}

-- an offset in a page has an address
address_paged : (w n o : ℕ) → w ≤ 32768 → 0 < n → n ≤ 1048575 → o < w → IsAddress (n * w + o)
address_paged w n o few low high within = record {
  above = let some : n ≤ n * w = le-mul_of_pos_right n (omega (arith, within)) in omega (arith, some, low);
  below = let most : n * w ≤ 1048575 * 32768 = mul-le n w 1048575 32768 high few in omega (arith, most, within, few);
}

module _ (w : ℕ) (ts : List ℕ) (ps : List (ℕ × ℕ)) (few : w ≤ 32768) (low : Each ts (λ n. 0 < n))
    (high : Each ts (λ n. n ≤ 1048575)) (counted : Each ps (λ p. p.0 < length ts)) (within : Each ps (λ p. p.1 < w))
  where
    place_paged : (i : ℕ) (p : ℕ × ℕ) → slice_get ps i ≡ Some p → IsAddress (address_in w ts p)
    place_paged i p e =
        let at = slice_get-get_or ts p.0 0 (counted i p e) in
        address_paged w (get_or ts p.0 0) p.1 few (low p.0 _ at) (high p.0 _ at) (within i p e)

    -- places in targets on pages have addresses
    pub places_paged : Each (map (address_in w ts) ps) IsAddress
    places_paged i a at = by_place (slice_get ps i) refl (sym (slice_get-map (address_in w ts) ps i) ∙ at)
      where
        by_place : (o : Option (ℕ × ℕ)) → slice_get ps i ≡ o → option_map (address_in w ts) o ≡ Some a → IsAddress a
        by_place None f k = absurd (cc)
        by_place (Some p) f k = subst IsAddress (same_Some _ _ k) (place_paged i p f)

-- the entries are those of the places on these pages
pub settled_is : (w : ℕ) (ts : List ℕ) (d : DraftState) (live copied : List Bool) (places : List (ℕ × ℕ)) (xs : List ℕ)
    → record { live = live; places = places } ≡ d → copied ≡ replicate (length places) false
    → xs ≡ map (address_in w ts) places → entries_of live xs copied ≡ settled w ts d
unfolding settled
settled_is w ts d live copied places xs is flags on =
    ap (λ zs. entries_of live zs copied) on
    ∙ ap (entries_of live (map (address_in w ts) places)) flags ∙ ap (settled w ts) is

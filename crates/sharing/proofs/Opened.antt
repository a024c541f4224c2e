-- Seats for each actor in turn.
use Rattle.std.proofs.Common.{◌≡◌, ℕ, ◌+◌, List, [], ◌∷◌, ◌++◌, map, sym, ap, ◌∙◌, append_assoc, arith}
use Rattle.std.specs.List.{range_with_len}
use Rattle.std.proofs.lemmas.List.{map-append}
use Rattle.std.proofs.lemmas.List.FromFn.{map-range_with_len_more}
use Rattle.model.specs.declared.steps.Actor.{Actor}
use Rattle.entries.specs.declared.entry.Entry.{Entry}
use Rattle.sharing.specs.Seats.{SeatState, seat_from}

seats_more : (f : ℕ → Actor) (es : List Entry) (n : ℕ)
    → map (seat_from es) (map f (range_with_len 0 (n + 1)))
    ≡ map (seat_from es) (map f (range_with_len 0 n)) ++ seat_from es (f n) ∷ []
seats_more f es n =
    ap (map (seat_from es)) (map-range_with_len_more f 0 n n (omega arith))
    ∙ map-append (seat_from es) (map f (range_with_len 0 n)) (f n ∷ [])

-- one more seat is appended
pub one_more : (f : ℕ → Actor) (es : List Entry) (old now new : List SeatState) (n : ℕ) (s : SeatState)
    → now ≡ old ++ map (seat_from es) (map f (range_with_len 0 n)) → s ≡ seat_from es (f n) → new ≡ now ++ s ∷ []
    → new ≡ old ++ map (seat_from es) (map f (range_with_len 0 (n + 1)))
one_more f es old now new n s so is more =
    more ∙ (λ i. so i ++ is i ∷ []) ∙ append_assoc old (map (seat_from es) (map f (range_with_len 0 n)))
    (seat_from es (f n) ∷ [])
    ∙ ap (λ l. old ++ l) (sym (seats_more f es n))

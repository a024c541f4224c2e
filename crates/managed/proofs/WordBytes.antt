-- Words as bytes, and back.
use Rattle.std.proofs.Common.{◌≡◌, ◌∙◌, ◌+◌, ◌*◌, ◌^◌, ◌<◌, ◌≤◌, ℕ, suc, List, [], ◌∷◌, ◌++◌, length}
use Rattle.std.proofs.Common.{refl, sym, ap, subst, arith, take, drop, get_or}
use Rattle.std.specs.Int.{w64, from_le_bytes}
use Rattle.std.proofs.Common.{length-append, length-drop}
use Rattle.std.proofs.lemmas.List.{drop-drop, get_or-drop, get_or_past, get_or-take, length-take-le, take-append-drop}
use Rattle.std.proofs.Common.{Bool, true, false}
use Rattle.std.specs.Prelude.{nat_lt}
use Rattle.std.proofs.lemmas.Bool.Decides.{nat_tests}
use Rattle.model.specs.Stores.{overlay}
use Rattle.model.proofs.Memory.{length_overlaid}
use Rattle.std.proofs.lemmas.Nat.{le_bytes_8}
use Rattle.std.proofs.lemmas.Option.{same_Some, slice_get_within, slice_get-get_or}
use Rattle.byteorder.specs.Endian.{IsRead, little_bytes, little_number}
use Rattle.byteorder.specs.Numbers.{little_from-lt}
use Rattle.managed.specs.Bytes.{AreWords, bytes_of}

-- the bytes of words are eight of each
pub bytes_many : (words : List ℕ) → length (bytes_of words) ≡ 8 * length words
bytes_many [] = refl
bytes_many (w ∷ ws) = length-append (little_bytes 8 w) (bytes_of ws) ∙ ap (λ n. 8 + n) (bytes_many ws) ∙ omega arith

-- all bytes are numbers below 256
abbrev pub AreBytes : List ℕ → Type 0
AreBytes bs = (i : ℕ) → get_or bs i 0 < 256

dropped : (n : ℕ) (bs : List ℕ) → AreBytes bs → AreBytes (drop n bs)
dropped n bs small i = subst (λ (b : ℕ). b < 256) (sym (get_or-drop n bs i 0)) (small (n + i))

-- a number that was read of eight bytes has these bytes
number_back : (bs : List ℕ) → 8 ≤ length bs → AreBytes bs → little_bytes 8 (little_number 8 bs) ≡ take 8 bs
number_back bs long small = le_bytes_8 (take 8 bs) (little_number 8 bs) (length-take-le 8 bs long) few is
  where
    at : (i : ℕ) → i < 8 → get_or (take 8 bs) i 0 ≡ get_or bs i 0
    at i low = get_or-take 8 bs i 0 low

    few : AreBytes (take 8 bs)
    few i = by_place (nat_lt i 8) refl
      where
        by_place : (b : Bool) → nat_lt i 8 ≡ b → get_or (take 8 bs) i 0 < 256
        by_place true e =
            let low : i < 8 = grind (arith, nat_tests) in subst (λ (n : ℕ). n < 256) (sym (at i low)) (small i)
        by_place false e =
            let past : 8 ≤ i = grind (arith, nat_tests) in
            let none = get_or_past (take 8 bs) i 0 (omega (arith, past, length-take-le 8 bs long)) in
            subst (λ (n : ℕ). n < 256) (sym none) (omega arith)

    is : little_number 8 bs ≡ from_le_bytes w64 (take 8 bs)
    is = omega (
      arith,
      at 0 (omega arith),
      at 1 (omega arith),
      at 2 (omega arith),
      at 3 (omega arith),
      at 4 (omega arith),
      at 5 (omega arith),
      at 6 (omega arith),
      at 7 (omega arith),
    )

all_left : (bs : List ℕ) → drop 0 bs ≡ bs
all_left [] = refl
all_left (b ∷ bs) = refl

further : (bs : List ℕ) (k : ℕ) → drop (8 * suc k) bs ≡ drop (8 * k) (drop 8 bs)
further bs k = ap (λ n. drop n bs) (omega arith) ∙ sym (drop-drop (8 * k) 8 bs)

-- numbers that were read of bytes have these bytes
pub read_back : (bs words : List ℕ) → length bs ≡ 8 * length words → AreBytes bs → IsRead little_number 8 bs words
    → bytes_of words ≡ bs
read_back [] [] e small is = refl
read_back (b ∷ bs) [] e small is = absurd (omega (arith, e))
read_back bs (w ∷ ws) e small is =
    let many : length bs ≡ 8 + 8 * length ws = omega (arith, e) in
    let first : little_bytes 8 w ≡ take 8 bs =
    ap (little_bytes 8) (is 0 (omega arith) ∙ ap (little_number 8) (all_left bs))
    ∙ number_back bs (omega (arith, many)) small in
    let rest : bytes_of ws ≡ drop 8 bs =
    read_back (drop 8 bs) ws (omega (arith, many, length-drop 8 bs)) (dropped 8 bs small)
    (λ k low. is (suc k) (omega (arith, low)) ∙ ap (little_number 8) (further bs k)) in
    (λ z. first z ++ rest z) ∙ take-append-drop 8 bs

-- and are numbers of 64 bits
pub read_fits : (bs words : List ℕ) → AreBytes bs → IsRead little_number 8 bs words → AreWords words
read_fits bs words small is i v at =
    let low : i < length words = slice_get_within words i v at in
    let here : v ≡ little_number 8 (drop (8 * i) bs) =
    same_Some _ _ (sym at ∙ slice_get-get_or words i 0 low) ∙ is i low in
    subst (λ (n : ℕ). n < 2 ^ 64) (sym here) (little_from-lt 0 8 (drop (8 * i) bs) (dropped (8 * i) bs small))

-- bytes that are written over those of words
pub replaced : (old new space laid bytes : List ℕ) (skip : ℕ) → space ≡ bytes_of old → laid ≡ overlay space skip bytes
    → AreBytes laid → length new ≡ length old → IsRead little_number 8 laid new
    → bytes_of new ≡ overlay (bytes_of old) skip bytes
replaced old new space laid bytes skip first second small many is =
    read_back laid new (ap length second ∙ length_overlaid space skip bytes ∙ ap length first ∙ bytes_many old
    ∙ ap (λ n. 8 * n) (sym many)) small is ∙ second ∙ ap (λ xs. overlay xs skip bytes) first

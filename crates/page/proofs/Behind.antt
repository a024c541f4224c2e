-- Words at a distance from an address, on the address's page.
use Rattle.std.proofs.Common.{◌≡◌, ℕ, ◌+◌, ◌*◌, ◌/◌, ◌%◌, ◌<◌, ◌∙◌, ap, arith, refl, List, Option, Some, None}
use Rattle.std.specs.Prelude.{slice_get}
use Rattle.std.specs.Option.{option_and_then}
use Rattle.std.proofs.lemmas.Nat.{div-add-mod', div-mul-add, mod-mul-add}
use Rattle.model.specs.Stores.{StoreState, page_at, frame_in, at_offset, spot_of, word_in, word_at, words_at}

parted : (a k w : ℕ) → a + k ≡ a / w * w + (a % w + k)
parted a k w = omega (arith, div-add-mod' a w)

pub same_page : (a k w : ℕ) → a % w + k < w → (a + k) / w ≡ a / w
same_page a k w near = ap (λ x. x / w) (parted a k w) ∙ div-mul-add (a / w) w (a % w + k) near

pub further_on : (a k w : ℕ) → a % w + k < w → (a + k) % w ≡ a % w + k
further_on a k w near = ap (λ x. x % w) (parted a k w) ∙ mod-mul-add (a / w) w (a % w + k) near

-- an address less than a page's words after another, on its page, has that page's frame
pub spot_behind : (s : StoreState) (a k : ℕ) → a % s.words + k < s.words
    → spot_of s (a + k) ≡ at_offset (frame_in (page_at s (a / s.words))) (a % s.words + k)
unfolding spot_of
spot_behind s a k near = rw (same_page a k s.words near) (rw (further_on a k s.words near) refl)

on_frame : (frames : List (List ℕ)) (f : Option ℕ) (k : ℕ) (ws : List ℕ) → option_and_then (slice_get frames) f ≡ Some ws
    → word_in frames (at_offset f k) ≡ slice_get ws k
on_frame frames None k ws h = absurd (cc)
on_frame frames (Some f) k ws h = rw h refl

-- a word less than a page's words after an address, on its page, is one of its page's words
pub word_on_page : (s : StoreState) (a k : ℕ) (ws : List ℕ) → words_at s (a / s.words) ≡ Some ws
    → a % s.words + k < s.words → word_at s (a + k) ≡ slice_get ws (a % s.words + k)
unfolding word_at words_at
word_on_page s a k ws h near =
    rw (spot_behind s a k near) (on_frame s.frames (frame_in (page_at s (a / s.words))) (a % s.words + k) ws h)

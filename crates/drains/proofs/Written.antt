-- What stays if a word in memory is written.
use Rattle.std.proofs.Common.{◌≡◌, ℕ, ◌/◌, Bool, true, false, List, sym, ◌∙◌, ap}
use Rattle.std.specs.Prelude.{if◌then◌else◌}
use Rattle.model.specs.Marks.{with_mark}
use Rattle.model.specs.Scans.{with_marked_place}
use Rattle.model.specs.States.{HeapState}
use Rattle.model.specs.Stores.{StoreState, page_at, with_word, with_words}
use Rattle.page.specs.Usable.{usable_frame}
use Rattle.heap.specs.AtOnce.{IsOnFrame}
use Rattle.drains.specs.Drains.{marked_field}
use Rattle.drains.specs.Waiting.{all_noted}

-- to write a word leaves the words of a page as many as they are
pub words_still : (h g : HeapState) (s : StoreState) (place bits : ℕ) → s ≡ h.store
    → g ≡ record h { store = with_word h.store place bits } → s.words ≡ g.store.words
unfolding with_word with_words
words_still h g s place bits e f =
    ap (λ (t : StoreState). t.words) e ∙ sym (ap (λ (x : HeapState). x.store.words) f)

-- a word that may be written is
pub written_then : (h g : HeapState) (place bits : ℕ) (is : Bool)
    → g ≡ (if is then record h { store = with_word h.store place bits } else h) → is ≡ true
    → g ≡ record h { store = with_word h.store place bits }
written_then h g place bits true e f = e
written_then h g place bits false e f = absurd (cc)

-- the frame of an object's page is still its frame when a field is marked
pub frame_stays : (h g : HeapState) (a f place : ℕ) (xs ys : List ℕ)
    → all_noted g ys ≡ marked_field (all_noted h xs) place → IsOnFrame h a f → IsOnFrame g a f
unfolding all_noted marked_field with_marked_place with_mark with_word with_words usable_frame page_at
frame_stays h g a f place xs ys e on =
    ap (λ (x : HeapState). usable_frame x.store (a / x.store.words)) e ∙ on

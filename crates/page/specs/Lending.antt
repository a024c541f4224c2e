-- Borrowed parts of a store, and their effect when the borrow ends.
use Rattle.std.specs.Prelude.{ℕ, ◌==◌, ◌&&◌, Bool, not, List, is_some, nat_le}
use Rattle.std.specs.Borrow.{Lends, MutBor, Fml, Array, u64}
use Rattle.model.specs.declared.records.Buffer.{Buffer}
use Rattle.model.specs.Stores.{StoreState, frame_in, is_open, overlay, page_at, state_at, with_words}
use Rattle.page.specs.contracts.store.Store as store

-- when the borrow ends, a page's words from an offset on are replaced by the written ones, and the rest stays
abbrev pub LendsPart : MutBor StoreState → ℕ → ℕ → MutBor (List ℕ) → Fml
LendsPart s page start r = Lends store.the_row (Array u64 0) s r (λ w. with_words s.now page (λ ws. overlay ws start w))

-- a buffer lies in an open page
abbrev pub lies_in : StoreState → Buffer → Bool
lies_in s b = is_open (state_at s b.page) && (nat_le b.next b.end && nat_le b.end s.words)

-- a page has memory
abbrev pub has_frame : StoreState → ℕ → Bool
has_frame s n = is_some (frame_in (page_at s n))

-- a page can be read while another is written: they differ, and both have memory
abbrev pub can_lend : StoreState → ℕ → ℕ → Bool
can_lend s from to = not (from == to) && (has_frame s from && has_frame s to)

-- when the borrow ends, the words of a page are replaced by the written ones, and the rest stays
abbrev pub LendsPage : MutBor StoreState → ℕ → MutBor (List ℕ) → Fml
LendsPage s page r = Lends store.the_row (Array u64 0) s r (λ w. with_words s.now page (λ ws. overlay ws 0 w))

-- Borrowed frames and parts of frames, and their effect when the borrow ends.
use Rattle.std.specs.Prelude.{ℕ, List, slice_get, slice_set}
use Rattle.std.specs.Borrow.{Lends, MutBor, Fml, Array, u64}
use Rattle.model.specs.Stores.{changed_frame, overlay}
use Rattle.page_frames.specs.contracts.frame.Frame as frame
use Rattle.page_frames.specs.contracts.frames.Frames as frames

-- when the borrow ends, the frame's words from start on are replaced by the written ones
abbrev pub LendsRun : MutBor (List ℕ) → ℕ → MutBor (List ℕ) → Fml
LendsRun f start r = Lends frame.the_row (Array u64 0) f r (overlay f.now start)

-- when the borrow ends, frame i is as written
abbrev pub LendsFrame : MutBor (List (List ℕ)) → ℕ → MutBor (List ℕ) → Fml
LendsFrame f i r = Lends frames.the_row frame.the_row f r (slice_set f.now i)

-- when the borrow ends, the words of frame i are replaced by the written ones
abbrev pub LendsWords : MutBor (List (List ℕ)) → ℕ → MutBor (List ℕ) → Fml
LendsWords f i r = Lends frames.the_row (Array u64 0) f r
    (λ w. changed_frame f.now i (slice_get f.now i) (λ ws. overlay ws 0 w))

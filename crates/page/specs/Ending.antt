-- The end of a mark, page by page.
use Rattle.std.specs.Prelude.{ℕ, Bool, Option, None, slice_get, option_and_then, if◌then◌else◌}
use Rattle.model.specs.declared.records.Page.{Page}
use Rattle.model.specs.Stores.{StoreState, is_protected, page_after_mark, with_empty}
use Rattle.model.specs.States.{change_at}
use Rattle.model.specs.Moves.{with_free}

-- the frame that a page releases when a mark ends
abbrev pub given_up : Page → Option ℕ
given_up p = if is_protected p.state then p.frame else None

-- the store after a mark was ended for the page of an index alone
unfoldable pub with_mark_ended_at : StoreState → ℕ → Bool → StoreState
with_mark_ended_at s i lent = record s {
  pages = change_at s.pages i (page_after_mark lent);
  frames = with_empty s.frames (option_and_then given_up (slice_get s.pages i));
  owners = with_free s.owners (option_and_then given_up (slice_get s.pages i));
}

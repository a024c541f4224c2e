-- Records of pages that may not exist.
use Rattle.std.specs.Prelude.{ℕ, ◌==◌, Bool, true, false, List, Option, Some, None, slice_get}
use Rattle.model.specs.declared.records.Page.{Page}
use Rattle.model.specs.Stores.{StoreState, is_unused, page_with_room, top_in}

-- the page has a record, and is unused
abbrev pub is_unused_in : Option Page → Bool
is_unused_in None = false
is_unused_in (Some p) = is_unused p.state

-- a buffer in the page of an index is the first of the page, as is one in a fresh page
abbrev pub begins_in : List Page → Option ℕ → Bool
begins_in pages None = true
begins_in pages (Some i) = top_in (slice_get pages i) == 0

-- a buffer of n words that is taken now is the first of its page
unfoldable pub begins_page : StoreState → ℕ → Bool
begins_page s n = begins_in s.pages (page_with_room s.words n s.pages)

-- Pages that have memory and aren't protected.
use Rattle.std.specs.Prelude.{ℕ, Option, None, List, ◌∷◌, map, if◌then◌else◌}
use Rattle.std.specs.Option.{option_and_then}
use Rattle.model.specs.declared.records.Page.{Page}
use Rattle.model.specs.Stores.{StoreState, is_protected, page_at}

-- the frame of a page, unless it is protected
abbrev pub usable_in : Page → Option ℕ
usable_in p = if is_protected p.state then None else p.frame

-- the frame of page n, if it has memory and isn't protected
unfoldable pub usable_frame : StoreState → ℕ → Option ℕ
usable_frame s n = option_and_then usable_in (page_at s n)

-- the same by page number, from 0, of a list of pages that begins at number 1
abbrev pub usable_by_number : List Page → List (Option ℕ)
usable_by_number pages = None ∷ map usable_in pages

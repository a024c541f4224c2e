-- When a heap is collected for a fresh buffer.
use Rattle.std.specs.Prelude.{ℕ, Bool, ◌&&◌, ◌||◌, ◌/◌, count_by, is_none, nat_le}
use Rattle.model.specs.declared.records.Page.{Page}
use Rattle.model.specs.States.{HeapState}
use Rattle.model.specs.Stores.{is_open}
use Rattle.collecting.specs.Targets.{in_use}

-- how many pages are open: those that were opened since the last mark ended, and those in which buffers were lent then
abbrev pub opened : HeapState → ℕ
opened h = count_by (λ (p : Page). is_open p.state) h.store.pages

-- enough pages were opened since the last mark ended for another collection to free some: half as many as frames are
-- free, or a sixteenth of those in use
abbrev pub may_free : HeapState → Bool
may_free h = nat_le (count_by is_none h.store.owners / 2) (opened h) || nat_le (in_use h / 16) (opened h)

-- at most `free` frames are free, and a collection may free some
abbrev pub are_low : ℕ → HeapState → Bool
are_low free h = nat_le (count_by is_none h.store.owners) free && may_free h

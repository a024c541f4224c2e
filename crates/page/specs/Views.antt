-- A store as contracts see it.
use Rattle.std.specs.Prelude.{◌≡◌, ◌-◌, ℕ, Bool, if◌then◌else◌, map, count_by, is_none}
use Rattle.model.specs.declared.records.Page.{Page}
use Rattle.model.specs.Stores.{StoreState, is_open, is_unused}
use Rattle.model.specs.Owning.{IsStore}
use Rattle.page.specs.Usable.{usable_by_number}
use Rattle.page.specs.declared.store.Store.TheInside.{Inside}

-- how many words can still be taken in a page: none if it isn't open
abbrev pub left_in : ℕ → Page → ℕ
left_in words p = if is_open p.state then words - p.top else 0

-- 1 for true, and 0 for false
abbrev pub mark : Bool → ℕ
mark b = if b then 1 else 0

-- the records as plain data, without the number of free frames and the indexes
abbrev pub store_of : Inside → StoreState
store_of s = record {
  words = s.words;
  count = s.count;
  pages = s.pages.items;
  frames = s.frames;
  owners = s.owners.items;
}

-- the store's invariant holds, and the number of free frames, three indexes and the usable pages' frames match the
-- records
pub record IsStoreInside (s : Inside) : Type 0 where
  pub size : s.size ≡ s.words
  pub store : IsStore (store_of s)
  pub free : s.free ≡ count_by is_none s.owners.items
  pub rooms : s.rooms ≡ map (left_in s.words) s.pages.items
  pub unused : s.unused ≡ map (λ p. mark (is_unused p.state)) s.pages.items
  pub spare : s.spare ≡ map (λ o. mark (is_none o)) s.owners.items
  pub usable : s.usable.items ≡ usable_by_number s.pages.items

-- What stays when targets are opened.
use Rattle.std.specs.Prelude.{◌≡◌, ℕ, List, length}
use Rattle.page_rows.specs.Opening.{IsBlank}
use Rattle.page_rows.specs.declared.opening.PageMemory.{PageMemory}
use Rattle.model.specs.Owning.{Each}
use Rattle.model.specs.declared.records.PageState.TheVariants.{Closed}
use Rattle.model.specs.States.{HeapState}
use Rattle.model.specs.Stores.{state_at}

-- blank memory for a number of pages of a number of words
abbrev pub AreBlank : ℕ → ℕ → List PageMemory → Type 0
AreBlank words count memory = (length memory ≡ count) × Each memory (IsBlank words)

-- a heap has the phase, the configuration and the sizes of an old one, and its closed pages are still closed
pub record KeepsClosed (old new : HeapState) : Type 0 where
  pub phase : new.phase ≡ old.phase
  pub config : new.config ≡ old.config
  pub words : new.store.words ≡ old.store.words
  pub count : new.store.count ≡ old.store.count
  pub closed : (n : ℕ) → state_at old.store n ≡ Closed → state_at new.store n ≡ Closed

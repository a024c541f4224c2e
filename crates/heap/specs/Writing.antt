-- Several words that are written at once.
use Rattle.std.specs.Prelude.{ℕ, ◌+◌, ◌/◌, ◌%◌, List}
use Rattle.model.specs.States.{HeapState}
use Rattle.model.specs.Stores.{overlay, with_words}

-- the heap with these words on the page of an address, from `ahead` words after the address on
abbrev pub with_words_after : HeapState → ℕ → ℕ → List ℕ → HeapState
with_words_after h address ahead values = record h {
  store = with_words h.store (address / h.store.words) (λ ws. overlay ws (address % h.store.words + ahead) values);
}

-- A run of entries whose objects are copied to a target at once.
use Rattle.std.specs.Prelude.{ℕ, ◌==◌, List, [], Option, Some, None, if◌then◌else◌}
use Rattle.layout.specs.declared.shape.Layout.{Layout}
use Rattle.model.specs.declared.records.Forwarding.{Forwarding}
use Rattle.model.specs.Stores.{StoreState, with_words, words_at}
use Rattle.pieces.specs.Pieces.{SourceState, laid_from}

-- the words of a page; none if it has no memory
abbrev pub known : Option (List ℕ) → List ℕ
known None = []
known (Some ws) = ws

-- a page as the source of copies
abbrev pub source_with : ℕ → Option (List ℕ) → List Forwarding → List Layout → SourceState
source_with size words side layouts = record { size = size; words = known words; side = side; layouts = layouts }

-- the store after the objects of k entries from number e on were copied from a page to a target
unfoldable pub with_run : StoreState → ℕ → ℕ → List Forwarding → List Layout → ℕ → ℕ → StoreState
with_run s page target side layouts e k = with_words s target (λ ws. if page == target then ws
    else laid_from (source_with s.words (words_at s page) side layouts) 0 e k ws)

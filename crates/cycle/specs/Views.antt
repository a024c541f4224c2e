-- A recorded heap as contracts see it.
use Rattle.cycle.specs.declared.book.Book.TheInside.{Inside}
use Rattle.cycle.specs.Books.{BookState}
use Rattle.cycle.specs.Replays.{IsBook}

-- its heap, and the list of its entries
abbrev pub book_of : Inside → BookState
book_of b = record { heap = b.heap; history = b.history.entries }

-- its invariant
abbrev pub IsBookInside : Inside → Type 0
IsBookInside b = IsBook (book_of b)

-- The results of a command's steps.
use Rattle.std.proofs.Common.{◌≡◌, List, [], ap, sym}
use Rattle.cycle.specs.Books.{BookState, Reply}
use Rattle.cycle.specs.Loads.{Told, tell, behind}

pub same_book : (c : BookState) (t : Told) (more : List Reply) → behind [] t ≡ tell c more → c ≡ t.book
same_book c t more h = sym (ap (λ (x : Told). x.book) h)

pub same_replies : (c : BookState) (t : Told) (more : List Reply) → behind [] t ≡ tell c more → more ≡ t.replies
same_replies c t more h = sym (ap (λ (x : Told). x.replies) h)

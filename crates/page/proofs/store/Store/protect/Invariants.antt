use Rattle.std.proofs.Common.{◌≡◌, take}
use Rattle.model.specs.Protections.{with_from_pages}
use Rattle.page.proofs.store.Store.protect.Given as goal

abbrev pub invariant-loop-index : goal.invariant-loop-index
invariant-loop-index l = l.self ≡ record l.fn.self { pages = with_from_pages (take l.index l.fn.pages) l.fn.self.pages }

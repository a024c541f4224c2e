use Rattle.std.proofs.Common.{Ok, subst}
use Rattle.viewing.specs.Viewing.{HandleState, FindsEntry, field_entry, handle_at}
use Rattle.viewing.proofs.Finding.{handles_found}
use Rattle.viewing.proofs.handle.Handle.load.Goals as goal

pub returns : goal.returns
returns c = subst (λ (s : HandleState). FindsEntry s.heap (field_entry s c.args.index) (Ok c.handle_of.result))
    c.self.view_is (handles_found c.self.inside.heap.now
    (field_entry (handle_at c.self.inside.heap.now c.self.inside.address) c.args.index) c.in_ok-found.found
    c.handle_of.result (c.in_ok-found.ensures c.self.invariant) c.handle_of.ensures)

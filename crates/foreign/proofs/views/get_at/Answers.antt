use Rattle.viewing.specs.Viewing.{ReadsDatum, handle_at}
use Rattle.foreign.proofs.Places.{place_read}
use Rattle.foreign.proofs.views.get_at.Goals as goal

pub returns-in-Ok : goal.returns-in-Ok
returns-in-Ok c = place_read (λ h a r. ReadsDatum (handle_at h a) c.args.index r) c.args.place c.in-Ok.address
    c.args.heap.now c.data_word_at.result c.in-Ok.ensures c.data_word_at.ensures

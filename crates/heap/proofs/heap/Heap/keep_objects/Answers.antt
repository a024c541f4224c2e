use Rattle.std.proofs.Common.{◌≡◌, ℕ, List, Some, sym, subst}
use Rattle.model.specs.States.{HeapState}
use Rattle.model.specs.Stores.{words_at}
use Rattle.page_frames.specs.Kept.{objects_in}
use Rattle.heap.proofs.Sizes.{objects_there}
use Rattle.heap.proofs.heap.Heap.keep_objects.Goals as goal

pub keep_objects-requires : goal.keep_objects-requires
keep_objects-requires c =
    subst (λ (h : HeapState). (ws : List ℕ) → words_at h.store c.args.page ≡ Some ws
    → c.args.objects ≡ objects_in h.config.layouts ws c.args.objects.live) (sym c.self.view_is)
    (objects_there c.args.self.now c.args.page c.args.objects c.law.ensures.heap.live c.requires.live c.requires.sizes)

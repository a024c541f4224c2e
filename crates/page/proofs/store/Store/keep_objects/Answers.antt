use Rattle.std.proofs.Common.{◌≡◌, ◌∙◌, sym, subst}
use Rattle.std.specs.Prelude.{IfSome}
use Rattle.std.specs.List.{slice_get}
use Rattle.model.specs.Stores.{StoreState}
use Rattle.page_frames.specs.Kept.{objects_in}
use Rattle.page.proofs.Retained.{words_there}
use Rattle.page.proofs.store.Store.keep_objects.Goals as goal

pub keep_objects-requires-clause-objects : goal.keep_objects-requires-clause-objects
keep_objects-requires-clause-objects c =
    subst (λ (s : StoreState). IfSome (slice_get s.frames c.in-Some.frame)
    (λ ws. c.args.objects ≡ objects_in c.args.layouts.now ws c.args.objects.live)) (sym c.self.view_is)
    (words_there c.args.self.now c.args.page c.in-Some.frame
    (λ ws. c.args.objects ≡ objects_in c.args.layouts.now ws c.args.objects.live)
    (sym c.frame.ensures ∙ c.in-Some.is) c.requires)

use Rattle.page_frames.proofs.Retained.{last_kept, objects_kept}
use Rattle.page_frames.proofs.frame.Frame.take_objects.Goals as goal

pub returns-clause-objects : goal.returns-clause-objects
returns-clause-objects c =
    objects_kept c.args.layouts.now c.self.inside.words.items c.args.self.now c.args.live.now c.in_ok-kept.kept
    c.objects_for.result c.self.view_is
    (last_kept c.self.inside.words.items c.self.inside.kept.items c.pop.new.self.items c.in_ok-kept.kept
    c.in_ok-kept.ensures.items (c.self.invariant.1 c.if-not-were_fresh.false))
    c.objects_for.ensures.objects c.objects_for.ensures.live c.objects_for.ensures.layouts

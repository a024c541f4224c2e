use Rattle.page.proofs.NextTargets.{opens_next, never_full}
use Rattle.relocate.proofs.Opening.{target_keeps}
use Rattle.relocate.proofs.targets.open_next.Goals as goal

pub unreachable-requires : goal.unreachable-requires
unreachable-requires c =
    never_full c.args.heap.now.store c.in-Err.field-0 c.law.ensures.store c.requires.frame c.requires.page
    c.in-Err.ensures.0

pub returns-clause-frames : goal.returns-clause-frames
returns-clause-frames c =
    (opens_next c.args.heap.now.store c.raw_open_target.new.self.store c.in-Ok.buffer c.law.ensures.store
    c.requires.frame c.requires.page c.in-Ok.ensures.0).free

pub returns-clause-pages : goal.returns-clause-pages
returns-clause-pages c =
    (opens_next c.args.heap.now.store c.raw_open_target.new.self.store c.in-Ok.buffer c.law.ensures.store
    c.requires.frame c.requires.page c.in-Ok.ensures.0).unused

pub returns-clause-low : goal.returns-clause-low
returns-clause-low c =
    (opens_next c.args.heap.now.store c.raw_open_target.new.self.store c.in-Ok.buffer c.law.ensures.store
    c.requires.frame c.requires.page c.in-Ok.ensures.0).low

pub returns-clause-high : goal.returns-clause-high
returns-clause-high c =
    (opens_next c.args.heap.now.store c.raw_open_target.new.self.store c.in-Ok.buffer c.law.ensures.store
    c.requires.frame c.requires.page c.in-Ok.ensures.0).high

pub returns-clause-stays : goal.returns-clause-stays
returns-clause-stays c = target_keeps c.args.heap.now c.raw_open_target.new.self c.in-Ok.buffer
    (opens_next c.args.heap.now.store c.raw_open_target.new.self.store c.in-Ok.buffer c.law.ensures.store
    c.requires.frame c.requires.page c.in-Ok.ensures.0)
    c.in-Ok.ensures.1

use Rattle.fast_paths.proofs.AtOnceGlobals.{global_loaded}
use Rattle.fast_paths.proofs.globals.load_global_at_once.Goals as goal

pub returns : goal.returns
returns c =
    global_loaded c.args.heap.now c.raw_read_into.new.self c.args.thread c.args.target c.args.global c.in-Some.word
    c.law.ensures.store c.law.ensures.heap (c.is_quiet.ensures c.if-not-is_quiet.false) c.in-Some.ensures
    (λ b. c.raw_read_into.ensures b)

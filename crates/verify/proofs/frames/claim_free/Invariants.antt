use Rattle.std.proofs.Common.{◌≡◌, ◌+◌, take, vec_len}
use Rattle.verify.specs.Soundness.{times_in}
use Rattle.verify.specs.Claims.{AreNoted, noted}
use Rattle.verify.proofs.frames.claim_free.Given as goal

abbrev pub invariant-loop-frame : goal.invariant-loop-frame
invariant-loop-frame l = record {
  len : vec_len l.seen ≡ vec_len l.initial.seen;
  claimed : AreNoted l.seen.items (λ f. noted l.initial.seen.items f + times_in (take l.frame-index l.free) f);
}

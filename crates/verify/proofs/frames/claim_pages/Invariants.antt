use Rattle.std.proofs.Common.{◌≡◌, take, vec_len}
use Rattle.verify.specs.Soundness.{owners_in}
use Rattle.verify.specs.Claims.{AreNoted}
use Rattle.verify.proofs.frames.claim_pages.Given as goal

abbrev pub invariant-loop-page : goal.invariant-loop-page
invariant-loop-page l = record {
  len : vec_len l.seen ≡ vec_len l.initial.seen;
  claimed : AreNoted l.seen.items (owners_in (take l.page-index l.pages));
}

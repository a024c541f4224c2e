use Rattle.std.proofs.Common.{ap, ◌∙◌, ◌≡◌}
use Rattle.verify.proofs.Claiming.{once_seen}
use Rattle.verify.proofs.frames.all_once.Goals as goal

pub returns : goal.returns
returns c =
    let a = c.if-not-claim_pages.ensures in
    let b = c.if-not-claim_free.ensures in
    let d = c.deref-3.ensures in
    let e = c.in_ok-seen.ensures.len in
    let v : c.image.inside.frame_count ≡ c.args.image.now.frame_count = ap (λ x. x.frame_count) c.image.view_is in
    once_seen c.args.image.now c.all_seen.result c.deref.result.now c.deref-2.result.now _ c.deref-3.result.now
    (c.deref.ensures.value ∙ ap (λ x. x.pages) c.image.view_is)
    (c.deref-2.ensures.value ∙ ap (λ x. x.free) c.image.view_is)
    a.claimed (λ f. rw d.value (b.claimed f)) (d.len ∙ b.len ∙ a.len ∙ e ∙ v) c.all_seen.ensures

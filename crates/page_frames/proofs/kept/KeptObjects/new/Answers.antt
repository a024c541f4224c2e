use Rattle.std.proofs.Common.{◌∙◌, ap, sym, length}
use Rattle.std.specs.Prelude.{count_by}
use Rattle.forward.proofs.Offsets.{sized_many}
use Rattle.page_frames.specs.Kept.{size_in}
use Rattle.page_frames.proofs.kept.KeptObjects.new.Goals as goal

pub new-requires-clause-many : goal.new-requires-clause-many
new-requires-clause-many c =
    ap length c.in_ok-sizes.ensures ∙ sized_many (size_in c.args.layouts.now c.args.words.now) c.args.live.now
    ∙ ap (count_by (λ b. b)) (sym c.in_ok-live.ensures)

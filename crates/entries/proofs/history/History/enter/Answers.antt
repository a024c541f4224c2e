use Rattle.std.proofs.Common.{◌∙◌, refl}
use Rattle.entries.proofs.Keeping.{entered_whole}
use Rattle.entries.proofs.history.History.enter.Goals as goal

pub returns-in-None : goal.returns-in-None
returns-in-None c =
    rw (c.enter_whole.ensures, c.push-in-None.ensures, ← c.self.view_is)
    (entered_whole c.self.inside.whole.items _ c.self.inside.kept.items _ c.self.invariant refl
    (c.len-place.ensures ∙ c.self.inside.whole.ok.0))

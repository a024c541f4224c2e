use Rattle.std.proofs.Common.{◌∙◌, ap, subst, sym, ◌≤◌, ◌<◌, length, List, ℕ, arith}
use Rattle.std.proofs.lemmas.List.{get_or_read}
use Rattle.forward.specs.Sizes.{words_before}
use Rattle.forward.proofs.Summed.{before_none, before_some}
use Rattle.forward.proofs.sizes.Sizes.before.Goals as goal

pub returns-then-number-len : goal.returns-then-number-len
returns-then-number-len c =
    let bs = c.self.inside.before.items in
    let l = subst (λ (s : List ℕ). c.args.number ≤ length s) (sym c.self.view_is) c.requires in
    let low : c.args.number < length bs = omega (arith, c.if-number-len.true, c.len.ensures) in
    before_some bs c.self.inside.total c.self.invariant c.args.number l c.index.result.now low
    (sym (get_or_read bs c.args.number c.index.result.now low c.index.ensures c.self.inside.total))
    ∙ ap (λ s. words_before s c.args.number) c.self.view_is

pub returns-else-number-len : goal.returns-else-number-len
returns-else-number-len c =
    let l = subst (λ (s : List ℕ). c.args.number ≤ length s) (sym c.self.view_is) c.requires in
    before_none c.self.inside.before.items c.self.inside.total c.self.invariant c.args.number l
    (omega (arith, c.if-number-len.false, c.len.ensures))
    ∙ ap (λ s. words_before s c.args.number) c.self.view_is

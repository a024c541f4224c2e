use Rattle.std.proofs.Common.{◌∙◌, ◌∷◌, ◌++◌, [], ◌+◌, ap, arith, length}
use Rattle.forward.specs.Sizes.{sizes_of}
use Rattle.forward.proofs.Summed.{are_sizes, sizes_many, sizes_more}
use Rattle.forward.proofs.sizes.Sizes.push.Goals as goal

pub overflow_add-self : goal.overflow_add-self
overflow_add-self c = omega (
  arith,
  c.self.invariant.few,
  c.self.invariant.short,
  c.requires.size,
  c.requires.few,
  ap length c.self.view_is,
  sizes_many c.self.inside.before.items c.self.inside.total,
)

pub invariant_of-self-2 : goal.invariant_of-self-2
invariant_of-self-2 c = are_sizes c.self.inside.before.items c.push.new.self.items c.self.inside.total c.args.size
    c.self.invariant c.in_ok-push.ensures.items
    (omega (arith, c.requires.few, ap length c.self.view_is, sizes_many c.self.inside.before.items c.self.inside.total))
    c.requires.size

pub returns : goal.returns
returns c = ap (λ bs. sizes_of bs (c.self.inside.total + c.args.size)) c.in_ok-push.ensures.items
    ∙ sizes_more c.self.inside.before.items c.self.inside.total c.args.size
    ∙ ap (λ ns. ns ++ c.args.size ∷ []) c.self.view_is

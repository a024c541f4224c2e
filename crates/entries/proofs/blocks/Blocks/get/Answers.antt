use Rattle.std.proofs.Common.{◌∙◌, ◌%◌, ◌-◌, ◌*◌, sym, ap, arith, slice_get, vec_items}
use Rattle.entries.specs.Blocks.{BlocksState}
use Rattle.entries.proofs.Joining.{found_in_block, found_behind}
use Rattle.entries.proofs.blocks.Blocks.get.Goals as goal

pub returns-then-block-len : goal.returns-then-block-len
returns-then-block-len c =
    c.entry_at.ensures
    ∙ ap (λ xs. slice_get xs (c.args.index % 2048)) (c.deref.ensures.value ∙ ap vec_items (c.index.ensures))
    ∙ sym (found_in_block c.self.inside.full.items c.self.inside.last.items c.args.index _ c.self.invariant.full
    (omega (arith, c.if-block-len.true, c.len.ensures, c.self.inside.full.ok.0)))
    ∙ ap (λ (b : BlocksState). slice_get b.items c.args.index) c.self.view_is

pub returns-else-block-len : goal.returns-else-block-len
returns-else-block-len c =
    c.entry_at-else-block-len.ensures
    ∙ ap (λ xs. slice_get xs (c.args.index - c.len-else-block-len.result * 2048)) c.deref-else-block-len.ensures.value
    ∙ ap (λ n. slice_get c.self.inside.last.items (c.args.index - n * 2048))
    (c.len-else-block-len.ensures ∙ c.self.inside.full.ok.0)
    ∙ sym (found_behind c.self.inside.full.items c.self.inside.last.items c.args.index c.self.invariant.full
    (omega (arith, c.if-block-len.false, c.len.ensures, c.self.inside.full.ok.0)))
    ∙ ap (λ (b : BlocksState). slice_get b.items c.args.index) c.self.view_is

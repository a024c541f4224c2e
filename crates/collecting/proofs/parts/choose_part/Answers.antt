use Rattle.std.proofs.Common.{subst}
use Rattle.model.specs.States.{HeapState}
use Rattle.collecting.specs.Stages.{IsChosen}
use Rattle.collecting.proofs.Staged.{chooses_lacks, chooses_none, chooses_some, listed_none, listed_some}
use Rattle.collecting.proofs.parts.choose_part.Goals as goal

pub returns-then-is_empty : goal.returns-then-is_empty
returns-then-is_empty c = chooses_none c.args.parts.now c.choose.new.self c.begin.new.self
    c.args.heap.now c.in-Ok.pages.items c.choose.new.self.words.copied
    (subst (λ (h : HeapState). IsChosen c.args.parts.now.most h c.args.parts.now.found c.in-Ok.pages.items
    c.choose.new.self.words.copied) c.heap.ensures c.in-Ok.ensures.chosen)
    c.in-Ok.ensures.kept c.in-Ok.ensures.words c.in-Ok.ensures.most
    (listed_none _ c.in-Ok.pages.items c.is_empty.result c.is_empty.ensures c.if-is_empty.true c.in-Ok.pages.ok.0)
    c.begin.ensures

pub returns-else-is_empty : goal.returns-else-is_empty
returns-else-is_empty c = chooses_some c.args.parts.now c.choose.new.self c.protect_part.new.parts
    c.args.heap.now c.protect_part.new.heap c.in-Ok.pages.items c.choose.new.self.words.copied c.protect_part.result
    (subst (λ (h : HeapState). IsChosen c.args.parts.now.most h c.args.parts.now.found c.in-Ok.pages.items
    c.choose.new.self.words.copied) c.heap.ensures c.in-Ok.ensures.chosen)
    c.in-Ok.ensures.words c.in-Ok.ensures.most
    (listed_some _ c.in-Ok.pages.items c.is_empty.result c.is_empty.ensures c.if-is_empty.false c.in-Ok.pages.ok.0)
    c.protect_part.ensures

pub returns-in-Err : goal.returns-in-Err
returns-in-Err c = chooses_lacks c.args.parts.now c.choose.new.self c.args.heap.now

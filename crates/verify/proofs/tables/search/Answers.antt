use Rattle.std.proofs.Common.{rules, ◌∙◌}
use Rattle.std.proofs.lemmas.List.Sorted.{answers_always}
use Rattle.verify.proofs.Searching.{found, absent}
use Rattle.verify.proofs.tables.search.Goals as goal

pub returns-in-Ok : goal.returns-in-Ok
returns-in-Ok c =
    let facts = c.in-Ok.ensures in
    c.copy_of.ensures ∙ found c.args.words c.args.side.now c.requires c.args.offset c.in-Ok.k
    c.index-side-k.result facts.bound
    (facts.position (λ entry. entry.offset) (answers_always _ _ _ (λ f a r g called. search rules))) c.index-side-k.is

pub returns-in-Err : goal.returns-in-Err
returns-in-Err c =
    absent c.args.words c.args.side.now c.requires c.args.offset c.in-Err.field-0
    (c.in-Err.ensures.position (λ entry. entry.offset) (answers_always _ _ _ (λ f a r g called. search rules)))

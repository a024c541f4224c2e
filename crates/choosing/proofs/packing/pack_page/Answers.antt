use Rattle.std.proofs.Common.{◌∙◌, ◌-◌, ◌≡◌, ap, ap₂, subst, sym}
use Rattle.std.specs.List.{slice_get}
use Rattle.std.specs.Option.{IfSome, option_copied}
use Rattle.model.specs.Stores.{StoreState}
use Rattle.model.proofs.Tables.{row_short}
use Rattle.choosing.specs.Choices.{sizes_on}
use Rattle.choosing.specs.Packings.{pack}
use Rattle.choosing.proofs.Low.{page_low}
use Rattle.choosing.proofs.Packed.{none_packed, row_packed}
use Rattle.choosing.proofs.Sums.{row_live}
use Rattle.choosing.proofs.packing.pack_page.Goals as goal

pub pack_row-requires-clause-size : goal.pack_row-requires-clause-size
pack_row-requires-clause-size c =
    row_short c.args.heap.now.store c.args.heap.now.live (c.args.page - 1) c.in-Some-get.row.now c.law.ensures.heap.live
    (ap (λ rows. slice_get rows (c.args.page - 1)) (sym c.live.ensures) ∙ sym c.get.ensures
    ∙ ap option_copied c.in-Some-get.is)

by_kept : (c : goal.After-pack_sizes)
    → c.pack_sizes.result ≡ pack c.args.heap.now.store.words c.args.before (sizes_on c.args.heap.now c.args.page)
by_kept c = c.pack_sizes.ensures ∙ ap₂ (λ w ns. pack w c.args.before ns)
    (c.page_words.ensures.value ∙ ap (λ (s : StoreState). s.words) c.memory.ensures)
    (subst (λ o. IfSome o (λ s. s.now ≡ sizes_on c.args.heap.now c.args.page)) c.in-Some.is c.sizes_on.ensures)

pub returns-in-Some-clause-value : goal.returns-in-Some-clause-value
returns-in-Some-clause-value c = by_kept c

pub returns-in-Some-clause-offset : goal.returns-in-Some-clause-offset
returns-in-Some-clause-offset c = page_low c.args.heap.now c.args.page c.args.before c.pack_sizes.result
    c.law.ensures.heap c.requires.offset (by_kept c)

pub returns-in-None-clause-value : goal.returns-in-None-clause-value
returns-in-None-clause-value c =
    none_packed c.args.heap.now c.args.page c.requires.low c.args.before
    (ap (λ rows. slice_get rows (c.args.page - 1)) (sym c.live.ensures) ∙ sym c.get.ensures
    ∙ ap option_copied c.in-None.is)

pub returns-in-Some-get-clause-value : goal.returns-in-Some-get-clause-value
returns-in-Some-get-clause-value c = c.pack_row.ensures
    ∙ row_packed c.args.heap.now c.args.page c.requires.low c.args.before c.in-Some-get.row.now
    (ap (λ rows. slice_get rows (c.args.page - 1)) (sym c.live.ensures) ∙ sym c.get.ensures
    ∙ ap option_copied c.in-Some-get.is)

pub returns-in-Some-get-clause-offset : goal.returns-in-Some-get-clause-offset
returns-in-Some-get-clause-offset c = page_low c.args.heap.now c.args.page c.args.before c.pack_row.result
    c.law.ensures.heap c.requires.offset (c.pack_row.ensures
    ∙ row_packed c.args.heap.now c.args.page c.requires.low c.args.before c.in-Some-get.row.now
    (ap (λ rows. slice_get rows (c.args.page - 1)) (sym c.live.ensures) ∙ sym c.get.ensures
    ∙ ap option_copied c.in-Some-get.is))

pub pack_row-requires-clause-live : goal.pack_row-requires-clause-live
pack_row-requires-clause-live c =
    subst (λ m. IfSome c.args.live (λ n. n ≡ m))
    (sym (row_live c.args.heap.now c.args.page c.requires.low c.in-Some-get.row.now
    (ap (λ rows. slice_get rows (c.args.page - 1)) (sym c.live.ensures) ∙ sym c.get.ensures
    ∙ ap option_copied c.in-Some-get.is)))
    c.requires.live

use Rattle.std.proofs.Common.{◌≡◌, ap, ◌∙◌, drop, subst, arith}
use Rattle.std.specs.List.{sum_by}
use Rattle.std.specs.Prelude.{IfSome}
use Rattle.model.specs.Plans.{offsets_from}
use Rattle.model.specs.Stores.{StoreState}
use Rattle.markbits.specs.Words.{IsNextPlace}
use Rattle.forward.proofs.Offsets.{left_next, left_none}
use Rattle.choosing.specs.Choices.{size_on}
use Rattle.choosing.specs.Packings.{pack_one}
use Rattle.choosing.proofs.Packed.{enough_left, less_left, pack_all, pack_left, pack_next}
use Rattle.choosing.proofs.Sums.{within}
use Rattle.choosing.proofs.packing.pack_row.Goals as goal

pub loop-offset-preserved : goal.loop-offset-preserved
loop-offset-preserved c =
    let h = c.args.heap.now in
    let row = c.args.row.now in
    let k = c.in-Some.offset in
    let first = subst (IsNextPlace row c.loop-offset.from) c.in-Some.is c.next_from.ensures in
    let near = within row k first.here in (
      pack_next h.store.words (size_on h c.args.page) c.loop-offset.packing c.pack_one-packing.result _ _ _ k
          (left_next row c.loop-offset.from k first) c.loop-offset.invariant.0
          (c.pack_one-packing.ensures.value ∙ (λ i. pack_one ((c.page_words-words.ensures.value
          ∙ ap (λ (s : StoreState). s.words) c.memory.ensures) i) c.loop-offset.packing
          (c.object_words_on-size.ensures.value i))),
      omega (arith, c.loop-offset.invariant.1, c.pack_one-packing.ensures.targets, first.low),
      omega (arith, near),
      less_left (size_on h c.args.page) _ _ k _ c.loop-offset.left _ (left_next row c.loop-offset.from k first)
          c.object_words_on-size.ensures.value c.loop-offset.invariant.3 c.left_after-left.ensures,
    )

pub returns : goal.returns
returns c =
    let row = c.args.row.now in
    pack_all c.args.heap.now.store.words (size_on c.args.heap.now c.args.page) c.loop-offset.packing _ _
    (left_none row c.loop-offset.from (subst (IsNextPlace row c.loop-offset.from) c.in_default.is c.next_from.ensures))
    c.loop-offset.invariant.0

pub left_after-left-requires : goal.left_after-left-requires
left_after-left-requires c =
    let row = c.args.row.now in
    let first = subst (IsNextPlace row c.loop-offset.from) c.in-Some.is c.next_from.ensures in
    enough_left (size_on c.args.heap.now c.args.page) _ _ c.in-Some.offset _ c.loop-offset.left
    (left_next row c.loop-offset.from c.in-Some.offset first) c.object_words_on-size.ensures.value
    c.loop-offset.invariant.3

pub returns-in-Some-fitting_rest : goal.returns-in-Some-fitting_rest
returns-in-Some-fitting_rest c =
    let h = c.args.heap.now in
    let f = size_on h c.args.page in
    let row = c.args.row.now in
    let from = c.loop-offset.from in
    let first = subst (IsNextPlace row from) c.in-Some.is c.next_from.ensures in
    let known : c.in-Some-fitting_rest.rest ≡ sum_by f (offsets_from from (drop from row)) =
    subst (λ o. IfSome o (λ n. n ≡ sum_by f (offsets_from from (drop from row)))) c.in-Some-fitting_rest.ensures.left
    c.loop-offset.invariant.3 in
    let words = c.page_words-words.ensures.value ∙ ap (λ (s : StoreState). s.words) c.memory.ensures in
    pack_left h.store.words f c.loop-offset.packing _ _ _ _ c.in-Some.offset c.in-Some-fitting_rest.rest
    (left_next row from c.in-Some.offset first) c.loop-offset.invariant.0 known
    (omega (arith, c.in-Some-fitting_rest.ensures.fits, words)) c.pack_rest.ensures

use Rattle.std.proofs.Common.{ℕ, ◌+◌, ◌-◌, ◌≡◌, ◌∙◌, ap, ap₂, arith, refl, sym}
use Rattle.forward.proofs.Packed.{placed_next, placed_up_to, places_many, with_offset}
use Rattle.forward.proofs.Summed.{before_grows}
use Rattle.forward.proofs.runs.Runs.new.Goals as goal

pub overflow_sub-before : goal.overflow_sub-before
overflow_sub-before c = omega (
  arith,
  c.before-then-next-number.ensures,
  c.before-then-next-number-2.ensures,
  before_grows c.args.sizes c.loop-number.number c.fitting_after-next.result c.fitting_after-next.ensures.low,
)

pub end_of-at-requires : goal.end_of-at-requires
end_of-at-requires c = omega (
  arith,
  c.fitting_after-next.ensures.fits c.if-next-number.true,
  c.before-then-next-number.ensures,
  c.before-then-next-number-2.ensures,
  c.ranges.words.fits,
)

pub loop-number-preserved-then-next-number : goal.loop-number-preserved-then-next-number
loop-number-preserved-then-next-number c =
    let i = c.loop-number.number in
    let j = c.fitting_after-next.result in
    let up : j ≡ i + (j - i) = omega (arith, c.fitting_after-next.ensures.low) in (
      placed_up_to c.args.words c.args.end.now c.args.sizes i j (j - i) _ c.loop-number.last c.loop-number.more.items
          c.loop-number.at c.end_of-at.result c.loop-number.invariant.0 up c.fitting_after-next.ensures.high
          (omega (arith, c.before-then-next-number.ensures, c.before-then-next-number.type_inv))
          (c.fitting_after-next.ensures.fits c.if-next-number.true)
          (c.end_of-at.ensures ∙ ap₂ (λ x y. with_offset c.loop-number.at.0 (c.loop-number.at.1 + (x - y)))
          c.before-then-next-number.ensures c.before-then-next-number-2.ensures),
      c.fitting_after-next.ensures.high,
    )

pub loop-number-preserved : goal.loop-number-preserved
loop-number-preserved c = (
  placed_next c.args.words c.args.end.now c.args.sizes c.loop-number.number c.size-size.result _ c.loop-number.last
      c.loop-number.more.items c.loop-number.at (c.place.inside.target, c.place.inside.offset) _
      c.loop-number.invariant.0 c.size-size.ensures (c.place.view_is ∙ c.next_place-place.ensures.place)
      (λ k. record {
        first = c.loop-number.number;
        before = c.before-else-next-number.ensures k;
        target = c.place.inside.target;
        offset = c.place.inside.offset;
      }) c.before-else-next-number.type_inv
      c.in_ok-last.last c.add_run.new.runs.items _ c.in_ok-last.ensures.last c.in_ok-last.ensures.runs
      (c.end_of-at-else-next-number.ensures ∙ ap (λ (q : ℕ × ℕ). with_offset q.0 (q.1 + c.size-size.result))
      (sym c.place.view_is)),
  omega (arith, c.loop-number-test.true, c.len-count.ensures.value),
)

pub returns-clause-many : goal.returns-clause-many
returns-clause-many c = places_many _ c.loop-number.more.items 0 0 c.args.sizes

pub invariant_of-result : goal.invariant_of-result
invariant_of-result c = (refl, c.loop-number.invariant.0.knows)

use Rattle.std.proofs.Common.{ap, sym, ◌∙◌}
use Rattle.page_rows.specs.Starting.{with_starts}
use Rattle.page_rows.proofs.Starts.{all_with, lent_small}
use Rattle.page_rows.proofs.starting.note_by.Goals as goal

pub for_each_mut-requires-clause-accepts : goal.for_each_mut-requires-clause-accepts
for_each_mut-requires-clause-accepts g c κs within = λ i p l e.
    lent_small c.args.starts.now c.args.targets.now c.swap_starts.new.starts c.swap_starts.new.targets i p.now
    c.requires.small c.swap_starts.ensures l e

pub returns : goal.returns
returns g c = record {
  between = c.swap_starts.new.starts;
  lent = c.swap_starts.new.targets;
  left = c.for_each_mut.new.s;
  take = c.swap_starts.ensures;
  note = all_with c.args.places.now c.swap_starts.new.targets c.for_each_mut.new.s c.for_each_mut.auto.s
      (λ i d l. let p = (c.for_each_mut.ensures i d l).1 in
      sym p.left ∙ p.call ∙ ap (with_starts c.args.places.now) p.argument_is);
  give = c.swap_starts-2.ensures;
}

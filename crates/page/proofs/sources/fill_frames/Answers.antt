use Rattle.std.proofs.Common.{ap, subst, sym, ◌∙◌}
use Rattle.model.specs.Owning.{Each}
use Rattle.page.specs.Filling.{AllHaveEntries, SourcesState, filled}
use Rattle.page.proofs.Filled.{all_done, lent_entries, lent_one}
use Rattle.page.proofs.sources.fill_frames.Goals as goal

pub for_each_mut-requires-clause-accepts : goal.for_each_mut-requires-clause-accepts
for_each_mut-requires-clause-accepts g c κs within = λ i p l e.
    lent_one c.new-sources.result.sides c.swap_targets.new.targets i p.now
    (subst (λ sides. Each c.swap_targets.new.targets (AllHaveEntries sides))
    (sym (ap (λ (s : SourcesState). s.sides) c.new-sources.ensures))
    (lent_entries c.args.pages.now c.args.sides.now c.args.frames.now c.args.targets.now c.swap_targets.new.frames
    c.swap_targets.new.targets c.swap_targets.ensures c.requires.entries)) l e

pub returns : goal.returns
returns g c = record {
  between = c.swap_targets.new.frames;
  lent = c.swap_targets.new.targets;
  left = c.for_each_mut.new.s;
  take = c.swap_targets.ensures;
  fill = all_done c.new-sources.result _ c.swap_targets.new.targets c.for_each_mut.new.s c.new-sources.ensures
      c.for_each_mut.auto.s (λ i d l. let p = (c.for_each_mut.ensures i d l).1 in
      sym p.left ∙ p.call ∙ ap (filled c.new-sources.result) p.argument_is);
  give = c.swap_targets-2.ensures;
}

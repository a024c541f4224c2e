use Rattle.std.proofs.Common.{◌≡◌, ◌∙◌, Bool, false, List, map, ap, refl, sym, subst, arith, length}
use Rattle.std.proofs.Math.ListN.{length-replicate}
use Rattle.model.specs.Stores.{StoreState, first_store, record_count, blank_page, is_protected}
use Rattle.model.specs.Owning.{NoneProtected, row_sizes}
use Rattle.model.proofs.Lists.{each_replicate}
use Rattle.model.specs.declared.config.Config.{Config}
use Rattle.model.specs.First.{blank_rows}
use Rattle.model.specs.Holding.{AreRowsOf, AreSidesFor}
use Rattle.model.proofs.Tables.{first_rows, first_sides}
use Rattle.heap.proofs.Keeping.{first_fills, first_registers}
use Rattle.heap.proofs.heap.Heap.first.Goals as goal

rows_for : (c : Config) (s : StoreState) (new : List (List Bool)) → s ≡ first_store c.words c.frames c.pages
    → new ≡ blank_rows c → AreRowsOf s new
rows_for c s new e f = ap (map length) f ∙ first_rows c ∙ sym (ap row_sizes e)

pub invariant_of-result : goal.invariant_of-result
unfolding first_store
invariant_of-result c = record {
  config = c.requires.ranged;
  sizes = record {
    words = ap (λ (s : StoreState). s.words) c.requires.blank.store;
    frames = ap (λ (s : StoreState). length s.frames) c.requires.blank.store ∙ length-replicate c.args.config.frames _;
    pages = ap (λ (s : StoreState). s.count) c.requires.blank.store;
    threads = ap length c.requires.blank.threads ∙ length-replicate c.args.config.threads _;
    workers = ap length c.requires.blank.workers ∙ length-replicate c.args.config.workers _;
    globals = ap length c.requires.blank.globals ∙ length-replicate c.args.config.globals _;
  };
  starts = rows_for c.args.config _ _ c.requires.blank.store c.requires.blank.starts;
  live = rows_for c.args.config _ _ c.requires.blank.store c.requires.blank.live;
  mark = rows_for c.args.config _ _ c.requires.blank.store c.requires.blank.mark;
  todo = rows_for c.args.config _ _ c.requires.blank.store c.requires.blank.todo;
  sides = subst (AreSidesFor c.args.config) (sym c.requires.blank.sides) (first_sides c.args.config);
  births = omega arith;
  buffers = first_fills _ c.args.config.threads c.args.config.registers
      _ c.requires.blank.threads;
  registers = first_registers c.args.config _ c.requires.blank.threads;
  idle = λ e. subst NoneProtected (sym c.requires.blank.store)
      (each_replicate (λ p. is_protected p.state ≡ false) (record_count c.args.config.frames c.args.config.pages)
      blank_page refl);
}

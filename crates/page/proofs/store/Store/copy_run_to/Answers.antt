use Rattle.std.proofs.Common.{◌∙◌, [], ap, length, unwrap_or}
use Rattle.std.specs.Option.{option_copied}
use Rattle.model.specs.Bits.{of_page}
use Rattle.page.proofs.Filled.{no_run}
use Rattle.page.proofs.store.Store.copy_run_to.Goals as goal

pub returns-in_default : goal.returns-in_default
returns-in_default c = no_run c.args.self.now c.args.run.page c.args.target (of_page c.args.sides.now c.args.run.page)
    c.args.layouts.now c.args.run.first c.args.run.count c.requires
    (ap length (c.side_on.ensures ∙ ap (λ o. unwrap_or (option_copied o) []) c.in_default.is))

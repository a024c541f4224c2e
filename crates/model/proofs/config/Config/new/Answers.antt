use Rattle.std.proofs.Common.{rules}
use Rattle.model.specs.Configs.{usual_config}
use Rattle.model.proofs.Usual.{rest_in_range}
use Rattle.model.proofs.config.Config.new.Goals as goal

pub returns-clause-rest : goal.returns-clause-rest
unfolding usual_config
returns-clause-rest c = rest_in_range c.args.words c.args.frames c.args.layouts _ (search rules)

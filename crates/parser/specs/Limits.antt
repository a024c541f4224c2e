-- The configurations that a script may have.
use Rattle.std.specs.Prelude.{◌≤◌, length}
use Rattle.model.specs.declared.config.Config.{Config}
use Rattle.model.specs.Configs.{IsConfig}
use Rattle.parser.specs.declared.limits.TheConstants.{MOST_FRAMES, MOST_THREADS, MOST_REGISTERS}
use Rattle.parser.specs.declared.limits.TheConstants.{MOST_GLOBALS, MOST_LAYOUTS, MOST_BIRTHS}

-- a heap can be made with it, and it is within the limits of a script
pub record IsScriptConfig (c : Config) : Type 0 where
  pub config : IsConfig c
  pub frames : c.frames ≤ MOST_FRAMES
  pub threads : c.threads ≤ MOST_THREADS
  pub registers : c.registers ≤ MOST_REGISTERS
  pub globals : c.globals ≤ MOST_GLOBALS
  pub layouts : length c.layouts ≤ MOST_LAYOUTS
  pub births : c.births ≤ MOST_BIRTHS

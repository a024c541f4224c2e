-- The program's command, as clap sees it.
use Rattle.std.specs.Prelude.{ℕ, true, List, map, Some, codes}
use Rattle.std.specs.Borrow.{Bor}
use Rattle.clap.specs.Words.{App, Rule, Text, new_app, new_rule, with_rule}
use Rattle.clap.specs.declared.builder.action.ArgAction.TheVariants.{Set}

-- the texts of borrowed strings
abbrev pub texts_in : List (Bor (List ℕ)) → List (List ℕ)
texts_in = map (λ text. text.now)

-- a required argument with a value
abbrev pub required_rule : Text → Rule
required_rule id = record (new_rule id) { required = true; action = Some Set }

-- a command without flags for help and version
abbrev pub bare_app : Text → App
bare_app name = record (new_app name) {
  top = record (new_app name).top { disable_help_flag = true; disable_version_flag = true };
}

-- the program's command
abbrev pub program : App
program = with_rule (with_rule (bare_app (codes "pauseless")) (required_rule (codes "mode")))
    (required_rule (codes "file"))

-- A script, and what was read of one, as contracts see them.
use Rattle.parser.specs.declared.reading.Reading.TheInside as reading
use Rattle.parser.specs.declared.script.Script.TheInside as script
use Rattle.parser.specs.Reading.{ReadSoFar}
use Rattle.parser.specs.Scripts.{ParsedScript}

-- what was read so far, by its fields
abbrev pub read_so_far : reading.Inside → ReadSoFar
read_so_far r = record {
  sizes = r.sizes;
  layouts = r.layouts.items;
  begun = r.begun;
  commands = r.commands.items;
  turns = r.turns;
  body = r.body.items;
}

-- a script by its fields
abbrev pub script_value : script.Inside → ParsedScript
script_value s = record { config = s.config; commands = s.commands.items; spots = s.spots }

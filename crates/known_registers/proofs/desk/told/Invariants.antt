use Rattle.known_registers.specs.Held.{births_held}
use Rattle.known_registers.proofs.desk.told.Given as goal

abbrev pub ghosts-tell : goal.ghosts-tell
ghosts-tell g a = record { rows = births_held a.shown.now.heap }

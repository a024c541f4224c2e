use Rattle.known_registers.specs.Held.{births_held}
use Rattle.known_registers.proofs.desk.begun.Given as goal

abbrev pub ghosts-begin : goal.ghosts-begin
ghosts-begin g a = record { rows = births_held a.shown.now.heap }

use Rattle.test_known_registers.proofs.sharing.shares.Given as goal

abbrev pub ghosts-both : goal.ghosts-both
ghosts-both g a = record { table = a.blank }

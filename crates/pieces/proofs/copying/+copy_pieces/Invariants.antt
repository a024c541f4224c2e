use Rattle.pieces.proofs.copying.+copy_pieces.Given as goal

abbrev pub decreases-copy_pieces : goal.decreases-copy_pieces
decreases-copy_pieces l = l.count

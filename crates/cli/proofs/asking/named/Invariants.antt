use Rattle.std.proofs.Common.{◌≡◌, ◌∷◌, map, take, codes, string_bytes}
use Rattle.cli.specs.Program.{texts_in}
use Rattle.cli.proofs.asking.named.Given as goal

abbrev pub invariant-loop-word : goal.invariant-loop-word
invariant-loop-word l = texts_in l.texts.items ≡ codes "pauseless" ∷ map string_bytes (take l.word-index l.words)

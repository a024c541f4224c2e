use Rattle.std.proofs.Common.{◌≡◌, drop}
use Rattle.std.specs.List.{list_all}
use Rattle.parser.specs.Words.{is_digit, capped_from}
use Rattle.parser.proofs.words.short.Given as goal

-- the bytes before are digits, and the remaining ones lead to the same number
abbrev pub invariant-loop-b : goal.invariant-loop-b
invariant-loop-b l =
    record {
      digits : list_all is_digit l.word ≡ list_all is_digit (drop l.b-index l.word);
      rest : capped_from l.value (drop l.b-index l.word) ≡ capped_from 0 l.word;
    }

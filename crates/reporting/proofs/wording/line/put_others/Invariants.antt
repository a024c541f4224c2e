use Rattle.std.proofs.Common.{◌≡◌, ◌++◌, drop}
use Rattle.std.specs.List.{flat_map}
use Rattle.std.specs.String.{string_bytes}
use Rattle.reporting.specs.Texts.{next_text}
use Rattle.reporting.proofs.wording.line.put_others.Given as goal

-- the texts of the replies so far and of the remaining ones are all texts
abbrev pub invariant-loop-reply : goal.invariant-loop-reply
invariant-loop-reply l = string_bytes l.text ++ flat_map next_text (drop l.reply-index l.replies)
    ≡ string_bytes l.initial.text ++ flat_map next_text l.replies

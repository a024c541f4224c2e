use Rattle.std.proofs.Common.{take}
use Rattle.std.specs.Fmt.{HasWritten, IsPlainFormatter}
use Rattle.reporting.specs.Lines.{texts_from, register_text}
use Rattle.reporting.proofs.wording.report.RegistersTextDisplay.fmt.Given as goal

abbrev pub invariant-loop-number : goal.invariant-loop-number
invariant-loop-number g l = IsPlainFormatter l.fn.f → HasWritten g.W.Write.write_str_gives l.fn.f
    (texts_from (register_text l.self.page_words) 0 (take l.number l.word-items)) l.f

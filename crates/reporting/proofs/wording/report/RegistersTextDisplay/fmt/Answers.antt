use Rattle.std.proofs.Common.{◌++◌, ◌∙◌, ap, refl, take, subst}
use Rattle.std.specs.Fmt.{HasWritten}
use Rattle.std.proofs.Output.{writes_in_calls_nil}
use Rattle.std.proofs.lemmas.Grind.{put_two}
use Rattle.reporting.specs.Lines.{texts_from, register_text}
use Rattle.reporting.proofs.Listing.{texts_more, texts_all}
use Rattle.reporting.proofs.wording.report.RegistersTextDisplay.fmt.Goals as goal

pub loop-number-init : goal.loop-number-init
unfolding texts_from
loop-number-init g c = λ plain. record { wrote = writes_in_calls_nil g.W.Write.write_str_gives _; plain = plain }

pub loop-number-preserved : goal.loop-number-preserved
loop-number-preserved g c = λ plain.
    let f = register_text c.args.self.now.page_words in
    let words = c.args.self.now.words.now in
    let before = c.loop-number.invariant plain in
    let so_far = texts_from f 0 (take c.loop-number.number words) in
    put_two g.W.Write.write_str_gives _ _ _ so_far _ _ before
    (c.in_ok-write_register.ensures before.plain refl)
    (ap (λ n. so_far ++ register_text n c.loop-number.number c.new.result.word) c.new.ensures.page_words
    ∙ ap (λ w. so_far ++ f c.loop-number.number w) (c.new.ensures.word ∙ c.word-item.is)
    ∙ texts_more f words c.loop-number.number c.word-item.result c.loop-number-test.true)

pub returns-clause-writes : goal.returns-clause-writes
returns-clause-writes g c = λ plain ok.
    subst (λ text. HasWritten g.W.Write.write_str_gives c.args.f.now text c.loop-number.f)
    (texts_all (register_text c.args.self.now.page_words) c.args.self.now.words.now c.loop-number.number
    c.loop-number-test.false) (c.loop-number.invariant plain)

use Rattle.std.proofs.Common.{ap, ◌∙◌}
use Rattle.cli.proofs.Reading.{read_up_to}
use Rattle.cli.proofs.running.read_bytes.Goals as goal

pub returns-in-Ok-clause-bytes : goal.returns-in-Ok-clause-bytes
returns-in-Ok-clause-bytes g c = read_up_to 4194305 c.take.result.limit (g.R.Read.remaining c.args.reader.now)
    (g.R.Read.remaining c.take.result.inner.now) c.new-bytes.result.items c.read_to_end.new.buf.items
    (c.take.ensures.limit ∙ c.most_read-limit.ensures) (ap (λ m. g.R.Read.remaining m.now) c.take.ensures.inner)
    c.new-bytes.ensures.items c.in-Ok.ensures.bytes

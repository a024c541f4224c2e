use Rattle.std.proofs.Common.{rules}
use Rattle.managed.proofs.WordBytes.{read_fits, replaced}
use Rattle.managed.proofs.bytewise.replace_bytes.Goals as goal

pub returns-clause-bytes : goal.returns-clause-bytes
returns-clause-bytes c = replaced c.args.words.now c.read_u64_into.new.dst c.write_u64_into.new.dst
    c.write_over.new.space c.args.bytes.now c.args.skip c.write_u64_into.ensures c.write_over.ensures (search rules)
    (search rules) c.read_u64_into.ensures

pub returns-clause-fits : goal.returns-clause-fits
returns-clause-fits c = read_fits c.write_over.new.space c.read_u64_into.new.dst (search rules) c.read_u64_into.ensures

use Rattle.std.proofs.Common.{List, ℕ, subst}
use Rattle.std.specs.Prelude.{◌≡◌, IfErr}
use Rattle.cli.specs.Running.{HasFault, fault_status}
use Rattle.cli.proofs.Reading.{run_faults}
use Rattle.cli.proofs.running.check.Goals as goal

pub returns-clause-faults : goal.returns-clause-faults
returns-clause-faults g c =
    let faults = subst (λ (b : List ℕ). IfErr c.check_bytes.result (λ fault. fault_status fault ≡ 2 → HasFault b))
    c.deref.ensures.value c.check_bytes.ensures.faults in
    run_faults c.check_bytes.result (λ fault. fault_status fault ≡ 2)
    (g.R.Read.remaining c.args.reader.now) c.in_ok-bytes.bytes.items c.in_ok-bytes.ensures.bytes faults

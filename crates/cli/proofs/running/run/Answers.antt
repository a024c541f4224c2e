use Rattle.std.proofs.Common.{List, ℕ, subst}
use Rattle.std.specs.Result.{OnOk}
use Rattle.std.specs.Prelude.{◌≡◌, IfErr}
use Rattle.cli.specs.Running.{HasFault, Prints, fault_status}
use Rattle.cli.proofs.Reading.{run_faults, prints_all}
use Rattle.cli.proofs.running.run.Goals as goal

pub returns-clause-prints : goal.returns-clause-prints
returns-clause-prints g c =
    let prints = subst (λ (b : List ℕ). OnOk c.run_bytes.result (Prints g.W.Write.contents c.args.output.now
    c.run_bytes.new.output b)) c.deref.ensures.value c.run_bytes.ensures.prints in
    prints_all c.run_bytes.result (g.R.Read.remaining c.args.reader.now) c.in_ok-bytes.bytes.items _ _ _
    c.in_ok-bytes.ensures.bytes prints

pub returns-clause-faults : goal.returns-clause-faults
returns-clause-faults g c =
    let faults = subst (λ (b : List ℕ). IfErr c.run_bytes.result (λ fault. fault_status fault ≡ 2 → HasFault b))
    c.deref.ensures.value c.run_bytes.ensures.faults in
    run_faults c.run_bytes.result (λ fault. fault_status fault ≡ 2)
    (g.R.Read.remaining c.args.reader.now) c.in_ok-bytes.bytes.items c.in_ok-bytes.ensures.bytes faults

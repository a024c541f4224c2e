use Rattle.std.proofs.Common.{List, ℕ, subst}
use Rattle.std.specs.Prelude.{◌≡◌, IfErr, IfOk}
use Rattle.cli.specs.Running.{HoldsScript, IsNoScript, fault_status}
use Rattle.cli.proofs.Reading.{script_all, text_faults}
use Rattle.cli.proofs.running.read_script.Goals as goal

pub returns-clause-read : goal.returns-clause-read
returns-clause-read g c =
    let read = subst (λ (b : List ℕ). IfOk c.script_in.result (λ s. HoldsScript s b))
    c.deref.ensures.value c.script_in.ensures.read in
    script_all c.script_in.result (g.R.Read.remaining c.args.reader.now) c.in_ok-bytes.bytes.items
    c.in_ok-bytes.ensures.bytes read

pub returns-clause-faults : goal.returns-clause-faults
returns-clause-faults g c =
    let faults = subst (λ (b : List ℕ). IfErr c.script_in.result (λ fault. fault_status fault ≡ 2 → IsNoScript b))
    c.deref.ensures.value c.script_in.ensures.faults in
    text_faults c.script_in.result (λ fault. fault_status fault ≡ 2)
    (g.R.Read.remaining c.args.reader.now) c.in_ok-bytes.bytes.items c.in_ok-bytes.ensures.bytes faults

use Rattle.std.proofs.Common.{◌≡◌, ◌≢◌, ◌∙◌, Bool, ap, subst, sym}
use Rattle.std.specs.Prelude.{MatchBool}
use Rattle.model.specs.declared.records.Phase.TheVariants as phases
use Rattle.model.specs.States.{HeapState}
use Rattle.collecting.proofs.Parted.{portion_goes, portion_stops}
use Rattle.collecting.proofs.portions.mark_some.Goals as goal

pub returns-in-Ok : goal.returns-in-Ok
returns-in-Ok c = portion_goes c.args.heap.now c.begin_or_cross.new.heap c.begin_or_cross.result
    c.begin_or_cross.ensures

pub returns-in-Err : goal.returns-in-Err
returns-in-Err c = portion_stops c.args.heap.now c.begin_or_cross.new.heap c.begin_or_cross.result c.in-Err.refusal
    c.in-Err.is c.begin_or_cross.ensures

pub scan_or_end-requires : goal.scan_or_end-requires
scan_or_end-requires c =
    ap (λ (h : HeapState). h.phase) (sym c.heap.ensures) ∙ sym c.phase.ensures
    ∙ subst (λ (b : Bool). MatchBool b (c.phase.result ≡ phases.Scanning) (c.phase.result ≢ phases.Scanning))
    c.if-is_scanning.true c.is_scanning.ensures

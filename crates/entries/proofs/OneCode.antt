-- No two steps have one code.
use Rattle.std.proofs.Common.{◌≡◌, ◌≢◌, List, [], ◌∷◌, get_or, refl, sym, ap, ◌∙◌}
use Rattle.model.specs.declared.steps.Step.{Step}
use Rattle.model.specs.declared.steps.Step.TheVariants as steps
use Rattle.entries.specs.Codes.{Code, code_of}

-- the steps that have these numbers and this list, by their kinds
abbrev steps_with : Code → List Step
steps_with c =
    steps.Take c.first ∷
    steps.GiveBack ∷
    steps.New c.first c.second ∷
    steps.Load c.first c.second c.third ∷
    steps.LoadGlobal c.first c.second ∷
    steps.Trap ∷
    steps.Heal ∷
    steps.Finish ∷
    steps.Store c.first c.second c.third ∷
    steps.StoreGlobal c.first c.second ∷
    steps.Datum c.first c.second ∷
    steps.SetDatum c.first c.second c.third ∷
    steps.Same c.first c.second ∷
    steps.IsNull c.first ∷
    steps.CopyReg c.first c.second ∷
    steps.ClearReg c.first ∷
    steps.Cross ∷
    steps.Scrub c.first ∷
    steps.Park ∷
    steps.Unpark ∷
    steps.StartMark ∷
    steps.Pick c.first c.second ∷
    steps.ScanField ∷
    steps.ScanGlobal c.first ∷
    steps.EndMark ∷
    steps.Protect c.list ∷
    steps.Copy c.first c.second ∷
    steps.Release c.first ∷
    steps.CrossFor c.first ∷
    steps.CopyPage c.first ∷
    []

-- the step of a code
abbrev step_in : Code → Step
step_in c = get_or (steps_with c) c.kind steps.Park

again : (s : Step) → step_in (code_of s) ≡ s
again (steps.Take words) = refl
again steps.GiveBack = refl
again (steps.New target layout) = refl
again (steps.Load target object field) = refl
again (steps.LoadGlobal target global) = refl
again steps.Trap = refl
again steps.Heal = refl
again steps.Finish = refl
again (steps.Store object field source) = refl
again (steps.StoreGlobal global source) = refl
again (steps.Datum object index) = refl
again (steps.SetDatum object index value) = refl
again (steps.Same left right) = refl
again (steps.IsNull register) = refl
again (steps.CopyReg target source) = refl
again (steps.ClearReg register) = refl
again steps.Cross = refl
again (steps.Scrub register) = refl
again steps.Park = refl
again steps.Unpark = refl
again steps.StartMark = refl
again (steps.Pick page offset) = refl
again steps.ScanField = refl
again (steps.ScanGlobal global) = refl
again steps.EndMark = refl
again (steps.Protect pages) = refl
again (steps.Copy page entry) = refl
again (steps.Release page) = refl
again (steps.CrossFor thread) = refl
again (steps.CopyPage page) = refl

pub one_step : (s t : Step) → code_of s ≡ code_of t → s ≡ t
one_step s t e = sym (again s) ∙ ap step_in e ∙ again t

pub other_step : (s t : Step) → code_of s ≢ code_of t → s ≢ t
other_step s t other e = other (ap code_of e)

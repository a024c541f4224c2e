-- Codes of steps: the number of the kind, the step's numbers, and its list. No two steps have the same code.
use Rattle.std.specs.Prelude.{ℕ, List, []}
use Rattle.model.specs.declared.steps.Step.{Step}
use Rattle.model.specs.declared.steps.Step.TheVariants as steps
use Rattle.entries.specs.declared.codes.Coded.{Coded}

pub record Code : Type 0 where
  pub kind : ℕ
  pub first : ℕ
  pub second : ℕ
  pub third : ℕ
  pub list : List ℕ

-- the code of a `Coded`
abbrev pub coded : Coded → Code
coded c = record { kind = c.kind; first = c.first; second = c.second; third = c.third; list = c.list.now }

abbrev pub numbered : ℕ → ℕ → ℕ → ℕ → Code
numbered kind first second third =
    record { kind = kind; first = first; second = second; third = third; list = [] }

abbrev pub listed : ℕ → List ℕ → Code
listed kind list = record { kind = kind; first = 0; second = 0; third = 0; list = list }

-- the code of a step
abbrev pub code_of : Step → Code
code_of (steps.Take words) = numbered 0 words 0 0
code_of steps.GiveBack = numbered 1 0 0 0
code_of (steps.New target layout) = numbered 2 target layout 0
code_of (steps.Load target object field) = numbered 3 target object field
code_of (steps.LoadGlobal target global) = numbered 4 target global 0
code_of steps.Trap = numbered 5 0 0 0
code_of steps.Heal = numbered 6 0 0 0
code_of steps.Finish = numbered 7 0 0 0
code_of (steps.Store object field source) = numbered 8 object field source
code_of (steps.StoreGlobal global source) = numbered 9 global source 0
code_of (steps.Datum object index) = numbered 10 object index 0
code_of (steps.SetDatum object index value) = numbered 11 object index value
code_of (steps.Same left right) = numbered 12 left right 0
code_of (steps.IsNull register) = numbered 13 register 0 0
code_of (steps.CopyReg target source) = numbered 14 target source 0
code_of (steps.ClearReg register) = numbered 15 register 0 0
code_of steps.Cross = numbered 16 0 0 0
code_of (steps.Scrub register) = numbered 17 register 0 0
code_of steps.Park = numbered 18 0 0 0
code_of steps.Unpark = numbered 19 0 0 0
code_of steps.StartMark = numbered 20 0 0 0
code_of (steps.Pick page offset) = numbered 21 page offset 0
code_of steps.ScanField = numbered 22 0 0 0
code_of (steps.ScanGlobal global) = numbered 23 global 0 0
code_of steps.EndMark = numbered 24 0 0 0
code_of (steps.Protect pages) = listed 25 pages
code_of (steps.Copy page entry) = numbered 26 page entry 0
code_of (steps.Release page) = numbered 27 page 0 0
code_of (steps.CrossFor thread) = numbered 28 thread 0 0
code_of (steps.CopyPage page) = numbered 29 page 0 0

-- The codes that calls return to C. A code's class is its low eight bits: the higher bits are more specific.
use Rattle.std.specs.Prelude.{ℕ, ◌%◌, Option, Some, None, Result, Ok, Err, if◌then◌else◌}
use Rattle.model.specs.declared.steps.Refusal.{Refusal}
use Rattle.model.specs.declared.steps.Refusal.TheVariants as refusals
use Rattle.model.specs.declared.config.ConfigFault.{ConfigFault}
use Rattle.model.specs.declared.config.ConfigFault.TheVariants as faults
use Rattle.model.specs.declared.limits.TheConstants.{MOST_LAYOUTS}
use Rattle.model.specs.Configs.{is_outside}
use Rattle.collecting.specs.declared.numbers.Number.{Number}
use Rattle.collecting.specs.declared.numbers.Number.TheVariants as numbers
use Rattle.collecting.specs.declared.policy.PolicyFault.{PolicyFault}
use Rattle.collecting.specs.declared.policy.PolicyFault.TheVariants as policies

-- the handle has no heap
abbrev pub NO_HEAP : ℕ
NO_HEAP = 1

-- the handle has a heap already
abbrev pub HAS_HEAP : ℕ
HAS_HEAP = 2

-- out of memory
abbrev pub NO_MEMORY : ℕ
NO_MEMORY = 29

-- the code of an error
unfoldable pub refusal_code : Refusal → ℕ
refusal_code refusals.NoActor = 3
refusal_code refusals.BadIndex = 4
refusal_code refusals.Parked = 5
refusal_code refusals.NotParked = 6
refusal_code refusals.Busy = 7
refusal_code refusals.NotBusy = 8
refusal_code refusals.Null = 9
refusal_code refusals.Stall = 10
refusal_code refusals.Stale = 11
refusal_code refusals.NoRoom = 12
refusal_code refusals.HasBuffer = 13
refusal_code (refusals.NoFrames need free) = 14
refusal_code refusals.NoPages = 15
refusal_code refusals.Phase = 16
refusal_code refusals.AlreadyCrossed = 17
refusal_code (refusals.NotCrossed t) = 18
refusal_code refusals.NotTodo = 19
refusal_code refusals.Taken = 20
refusal_code refusals.TodoLeft = 21
refusal_code (refusals.Pending t) = 22
refusal_code (refusals.Unripe n) = 23
refusal_code (refusals.Uncopied n) = 24
refusal_code refusals.Copied = 25
refusal_code (refusals.Lent n) = 26
refusal_code refusals.Births = 27
refusal_code refusals.HistoryFull = 28
refusal_code refusals.Memory = 29

-- the code of the first field of a configuration that is out of its range
unfoldable pub config_code : ConfigFault → ℕ
config_code faults.Words = 30
config_code faults.Frames = 31
config_code faults.Pages = 32
config_code faults.Threads = 33
config_code faults.Workers = 34
config_code faults.Registers = 35
config_code faults.Globals = 36
config_code faults.Layouts = 37
config_code faults.Births = 38
config_code faults.History = 39

-- a number names nothing, and it isn't known which one
abbrev pub BAD_INDEX : ℕ
BAD_INDEX = 4

-- the code of a number of this kind that names nothing: of the class of BAD_INDEX, but for a thread
unfoldable pub number_code : Number → ℕ
number_code numbers.Thread = 3
number_code numbers.Register = 260
number_code numbers.Global = 516
number_code numbers.Layout = 772
number_code numbers.Field = 1028
number_code numbers.Datum = 1284
number_code numbers.Words = 1540

-- number_code, if it is known which
abbrev pub wrong_code : Option Number → ℕ
wrong_code None = BAD_INDEX
wrong_code (Some n) = number_code n

-- an object is larger than the buffers of a policy
abbrev pub OBJECT_TOO_LARGE : ℕ
OBJECT_TOO_LARGE = 268

-- an object of a layout is larger than a page
abbrev pub LAYOUT_TOO_LARGE : ℕ
LAYOUT_TOO_LARGE = 293

-- the code of the first field of a configuration that is out of its range, which has `count` layouts:
-- RANGE_OF_LAYOUTS if these are too few or too many; else an object of one of them is too large
abbrev pub fault_code : ℕ → ConfigFault → ℕ
fault_code count faults.Layouts =
    if is_outside count 1 MOST_LAYOUTS then config_code faults.Layouts else LAYOUT_TOO_LARGE
fault_code count f = config_code f

-- the code of the first field of a policy that is out of its range
unfoldable pub policy_code : PolicyFault → ℕ
policy_code policies.Words = 297
policy_code policies.Free = 553
policy_code policies.Percent = 809

-- the class of a code
abbrev pub class_of : ℕ → ℕ
class_of code = code % 256

-- the code of the result of a call, by that of an error
abbrev pub code_by : {A : Type 0} → (Refusal → ℕ) → Result A Refusal → ℕ
code_by c (Ok x) = 0
code_by c (Err e) = c e

-- code_by, if the error alone determines the code
abbrev pub code_of : {A : Type 0} → Result A Refusal → ℕ
code_of r = code_by refusal_code r

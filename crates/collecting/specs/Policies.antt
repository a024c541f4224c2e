-- Policies that a heap may be collected by.
use Rattle.std.specs.Prelude.{◌==◌, ◌||◌, nat_lt, Option, Some, None, Result, Ok, Err, if◌then◌else◌}
use Rattle.model.specs.declared.config.Config.{Config}
use Rattle.collecting.specs.declared.policy.Policy.{Policy}
use Rattle.collecting.specs.declared.policy.PolicyFault.{PolicyFault}
use Rattle.collecting.specs.declared.policy.PolicyFault.TheVariants as faults

-- the first field that is out of its range: the words of a buffer, the free frames, the live words of a hundred
unfoldable pub policy_fault : Config → Policy → Option PolicyFault
policy_fault c p =
    if (p.words == 0) || nat_lt c.words p.words then Some faults.Words else
    (if nat_lt c.frames p.free then Some faults.Free else
    (if nat_lt 100 p.percent then Some faults.Percent else None))

-- succeeds if there is no fault, else fails with it
abbrev pub failed : Option PolicyFault → Result Unit PolicyFault
failed None = Ok tt
failed (Some f) = Err f

abbrev pub checked : Config → Policy → Result Unit PolicyFault
checked c p = failed (policy_fault c p)

-- Calls whose policy or percentage is tested first.
use Rattle.std.specs.Prelude.{◌≡◌, ℕ, nat_lt, Bool, List, Option, Some, None, Result, MatchResult, if◌then◌else◌}
use Rattle.collecting.specs.declared.policy.PolicyFault.{PolicyFault}
use Rattle.collecting.specs.declared.policy.PolicyFault.TheVariants as policies
use Rattle.collecting.specs.declared.collecting.Collected.{Collected}
use Rattle.collecting.specs.declared.counting.Cause.TheVariants as causes
use Rattle.collecting.specs.Counting.{counted, part_counted, seen_in_use}
use Rattle.collecting.specs.Policies.{policy_fault}
use Rattle.collecting.specs.Targets.{in_use}
use Rattle.foreign.specs.declared.held.Held.{Held}
use Rattle.foreign.specs.declared.objects.PolicyOfC.{PolicyOfC}
use Rattle.model.specs.declared.steps.Refusal.{Refusal}
use Rattle.foreign.specs.declared.cycles.CollectedOfC.{CollectedOfC}
use Rattle.foreign.specs.Codes.{code_of, policy_code}
use Rattle.foreign.specs.Calls.{CodedBy, CollectedBy, IsTold, Made, MadeWith, PartOf, Refilled}
use Rattle.foreign.specs.Which.{fill_code, make_code, plain_code}

-- a call was done, if its policy or percentage is in its range; else the code tells which field isn't, and nothing
-- was done
abbrev pub InRange : Option PolicyFault → (Held → ℕ → Held → Type 0) → Held → ℕ → Held → Type 0
InRange None P h code g = P h code g
InRange (Some f) P h code g = (code ≡ policy_code f) × (g ≡ h)

-- the first field of C's policy that is out of its range
abbrev pub fault_of : Held → PolicyOfC → Option PolicyFault
fault_of h p = policy_fault h.heap.config (record { words = p.words; free = p.free; percent = p.percent })

-- a call was done, if the policy is in its range
abbrev pub ByPolicy : PolicyOfC → (Held → ℕ → Held → Type 0) → Held → ℕ → Held → Type 0
ByPolicy p P h code g = InRange (fault_of h p) P h code g

-- thread t was to make an object by a policy
abbrev pub MakesBy : PolicyOfC → ℕ → ℕ → ℕ → Held → ℕ → Held → Type 0
MakesBy p t target layout h code g =
    ByPolicy p (CodedBy (make_code p.words target layout) (Made p.words p.percent t target layout)) h code g

-- thread t was to make an object by a policy, and to fill it
abbrev pub MakesWithBy : PolicyOfC → ℕ → ℕ → ℕ → List ℕ → List ℕ → Held → ℕ → Held → Type 0
MakesWithBy p t target layout sources nums h code g =
    ByPolicy p (CodedBy (fill_code p.words target layout sources)
    (MadeWith p.words p.percent t target layout sources nums)) h code g

-- thread t was to get a fresh buffer by a policy
abbrev pub RefillsBy : PolicyOfC → ℕ → Held → ℕ → Held → Type 0
RefillsBy p t h code g = ByPolicy p (CodedBy plain_code (Refilled p.words p.percent t)) h code g

-- a percentage that is out of its range
abbrev pub percent_fault : ℕ → Option PolicyFault
percent_fault percent = if nat_lt 100 percent then Some policies.Percent else None

-- collections in parts are to empty at most `most` pages with live objects each; nothing else changed
abbrev pub Limits : ℕ → Held → ℕ → Held → Type 0
Limits most h code g = (code ≡ 0) × (g ≡ record h { parts = record h.parts { most = most } })

-- InRange for a call with a percentage: S is that nothing was written
abbrev pub ByPercent : Option PolicyFault → Type 0 → (Held → ℕ → Held → Type 0) → Held → ℕ → Held → Type 0
ByPercent None S P h code g = P h code g
ByPercent (Some f) S P h code g = (code ≡ policy_code f) × (g ≡ h) × S

-- a call was done whose result is written for C, by Q; S is that nothing was written
abbrev pub GivenBy : {A : Type 0} → (Held → Result A Refusal → Held → Type 0) → (A → Type 0) → Type 0 → Held → ℕ
    → Held → Type 0
GivenBy {A} P Q S h code g = (r : Result A Refusal) × P h r g × MatchResult r Q (λ _. S) × (code ≡ code_of r)

-- a complete collection, which was counted
abbrev pub CollectsHeld : ℕ → Held → Result Collected Refusal → Held → Type 0
CollectsHeld percent h r g =
    CollectedBy percent h.heap r g.heap
    × (g.counters ≡ seen_in_use (in_use g.heap) (counted causes.Call r h.counters))

-- a part of a collection, which was counted
abbrev pub PartHeld : ℕ → ℕ → Held → Result Bool Refusal → Held → Type 0
PartHeld percent budget h r g =
    PartOf percent budget h r g
    × (g.counters ≡ seen_in_use (in_use g.heap) (part_counted h.parts h.heap r g.parts h.counters))

-- a collection was done, if the percentage is in its range
abbrev pub CollectsBy : ℕ → CollectedOfC → CollectedOfC → Held → ℕ → Held → Type 0
CollectsBy percent old new h code g =
    ByPercent (percent_fault percent) (new ≡ old)
    (GivenBy (CollectsHeld percent) (IsTold new) (new ≡ old)) h code g

-- a part of a collection was done, if the percentage is in its range
abbrev pub PartsBy : ℕ → ℕ → Bool → Bool → Held → ℕ → Held → Type 0
PartsBy percent budget old new h code g =
    ByPercent (percent_fault percent) (new ≡ old)
    (GivenBy (PartHeld percent budget) (λ x. new ≡ x) (new ≡ old)) h code g

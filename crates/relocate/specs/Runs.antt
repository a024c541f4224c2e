-- Runs of a page's entries with one target, and whether a page's objects may be copied.
use Rattle.std.specs.Prelude.{ℕ, ◌+◌, ◌/◌, ◌≤◌, ◌<◌, not, Option, Some, None, Result}
use Rattle.model.specs.declared.records.Forwarding.{Forwarding}
use Rattle.model.specs.declared.steps.Refusal.{Refusal}
use Rattle.model.specs.declared.steps.Refusal.TheVariants as refusals
use Rattle.model.specs.Bits.{of_page}
use Rattle.model.specs.Emptying.{crossed_if_protecting}
use Rattle.model.specs.Phases.{is_idle}
use Rattle.model.specs.Refusing.{◌>>=◌, refuse_if}
use Rattle.model.specs.States.{HeapState}
use Rattle.model.specs.Stores.{state_at, is_from}
use Rattle.heap.specs.Runs.{GoTo}

-- the target of an entry's object, if there is such an entry
abbrev pub goes_to : ℕ → Option Forwarding → Option ℕ
goes_to words None = None
goes_to words (Some f) = Some (f.to / words)

-- `count` entries of page n, from number e on and below number `end`, have one target
pub record IsRun (h : HeapState) (n e end target count : ℕ) : Type 0 where
  pub some : 0 < count
  pub within : e + count ≤ end
  pub together : GoTo h.store.words target (of_page h.sides n) e count

-- the tests of CopyPage
abbrev pub may_copy_page : HeapState → ℕ → Result Unit Refusal
may_copy_page h n = do
  _ ← refuse_if (is_idle h.phase) refusals.Phase
  _ ← crossed_if_protecting h
  refuse_if (not (is_from (state_at h.store n))) refusals.BadIndex

-- The effect of steps on the registers that a seat knows.
use Rattle.std.proofs.Common.{◌≡◌, ◌∙◌, ◌<◌, ℕ, Bool, true, List, [], ◌∷◌, length, refl, sym, ap, subst, arith}
use Rattle.std.proofs.Common.{Option, Some, None}
use Rattle.std.specs.Prelude.{IfSome, Ok, slice_get, slice_set}
use Rattle.std.proofs.lemmas.Bool.{eq-eqb}
use Rattle.model.specs.declared.steps.Answer.{Answer}
use Rattle.model.specs.declared.steps.Answer.TheVariants as answers
use Rattle.model.specs.declared.steps.Step.TheVariants as steps
use Rattle.model.specs.Plain.{PlainHeap, PlainThread, name_in, name_of, name_register, plain_answer, plain_step}
use Rattle.model.specs.Plain.{same_name, set_name}
use Rattle.model.specs.Saying.{done}
use Rattle.model.specs.States.{HeapState, change_found, flat}
use Rattle.model.proofs.Lists.{get_set_same}
use Rattle.cycle.specs.Mutating.{ThreadStands}
use Rattle.managed.specs.Managing.{Promises, replayed_in}
use Rattle.portions.specs.Portions.{MutatorState}
use Rattle.known_registers.specs.Held.{HasRegisters, births_in}
use Rattle.known_registers.specs.Knowing.{FindsOwn, KnowingState, LeavesOwn}

-- a register by its number
abbrev pub birth_at : List (Option ℕ) → ℕ → Option ℕ
birth_at births r = flat (slice_get births r)

named_in : (o : Option PlainThread) (r : ℕ) → name_in o r ≡ birth_at (births_in o) r
named_in None r = refl
named_in (Some t) r = refl

named : (p : PlainHeap) (t r : ℕ) (births : List (Option ℕ)) → births_in (slice_get p.threads t) ≡ births
    → name_of p t r ≡ birth_at births r
unfolding name_of
named p t r births e = named_in (slice_get p.threads t) r ∙ ap (λ (l : List (Option ℕ)). birth_at l r) e

changed_in : (ts : List PlainThread) (t target : ℕ) (b : Option ℕ) (o : Option PlainThread) → slice_get ts t ≡ o
    → births_in (slice_get (change_found ts t o (set_name target b)) t) ≡ slice_set (births_in o) target b
changed_in ts t target b None e = ap births_in e
changed_in ts t target b (Some x) e = ap births_in (get_set_same ts t x (set_name target b x) e)

-- a register is copied
pub copies : (h g : HeapState) (t target source : ℕ) (u : Unit {0}) (before after : List (Option ℕ)) → Promises h
    → HasRegisters h t before → HasRegisters g t after
    → ThreadStands done h t (steps.CopyReg target source) (Ok u) g
    → after ≡ slice_set before target (birth_at before source)
unfolding plain_step name_register
copies h g t target source u before after k was is stands =
    let r = replayed_in h k.entries in
    let s = (stands r.now r.at_mark k.holds).stands in
    let old = was.known r.now r.at_mark k.holds in
    sym (is.known _ _ s.holds)
    ∙ changed_in r.now.threads t target (name_of r.now t source) (slice_get r.now.threads t) refl
    ∙ (λ z. slice_set (old z) target (named r.now t source before old z))

-- whether two registers refer to one object
pub compares : (h g : HeapState) (t left right : ℕ) (b : Bool) (births : List (Option ℕ)) → Promises h
    → HasRegisters h t births → ThreadStands answers.Truth h t (steps.Same left right) (Ok b) g
    → b ≡ same_name (birth_at births left) (birth_at births right)
unfolding plain_answer
compares h g t left right b births k has stands =
    let r = replayed_in h k.entries in
    let s = (stands r.now r.at_mark k.holds).stands in
    let old = has.known r.now r.at_mark k.holds in
    ap truth_of s.answers ∙ (λ z. same_name (named r.now t left births old z) (named r.now t right births old z))
  where
    truth_of : Answer → Bool
    truth_of (answers.Truth x) = x
    truth_of _ = true

same_self : (b : Option ℕ) → same_name b b ≡ true
same_self None = refl
same_self (Some n) = eq-eqb n n refl

-- after a copy both registers refer to one object
pub copied_same : (births : List (Option ℕ)) → 1 < length births
    → same_name (birth_at (slice_set births 1 (birth_at births 0)) 0)
    (birth_at (slice_set births 1 (birth_at births 0)) 1) ≡ true
copied_same [] low = absurd (omega (arith, low))
copied_same (x ∷ []) low = absurd (omega (arith, low))
copied_same (x ∷ y ∷ xs) low = same_self x

-- what was copied in one portion is found in the next one
pub found_same : (seat mid : KnowingState) (m n k l : MutatorState) (same : Bool) → 1 < length seat.registers
    → FindsOwn seat m → LeavesOwn n mid → mid.thread ≡ seat.thread
    → ThreadStands done m.heap m.thread (steps.CopyReg 1 0) (Ok tt) n.heap → FindsOwn mid k
    → ThreadStands answers.Truth k.heap k.thread (steps.Same 0 1) (Ok same) l.heap → same ≡ true
found_same seat mid m n k l same low begins leaves thread copied again compared =
    let first = subst (λ (t : ℕ). ThreadStands done m.heap t (steps.CopyReg 1 0) (Ok tt) n.heap) begins.begins.thread
    copied in
    let second = subst (λ (t : ℕ). ThreadStands answers.Truth k.heap t (steps.Same 0 1) (Ok same) l.heap)
    again.begins.thread compared in
    let left = subst (λ (t : ℕ). HasRegisters n.heap t mid.registers) thread leaves.registers in
    let are = copies m.heap n.heap seat.thread 1 0 tt seat.registers mid.registers begins.holds.promises
    begins.registers left first in
    compares k.heap l.heap mid.thread 0 1 same mid.registers again.holds.promises again.registers second
    ∙ ap (λ (births : List (Option ℕ)). same_name (birth_at births 0) (birth_at births 1)) are
    ∙ copied_same seat.registers low

pub if_some : {A : Type 0} (o : Option A) (P Q : A → Type 0) → ((x : A) → P x → Q x) → IfSome o P → IfSome o Q
if_some None P Q f k = tt
if_some (Some x) P Q f k = f x k

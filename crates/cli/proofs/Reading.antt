-- Reading a reader to its end, or one byte more than the limit of a script.
use Rattle.std.proofs.Common.{◌≡◌, ℕ, ◌+◌, ◌≤◌, List, [], ◌++◌, length, take, Option}
use Rattle.std.proofs.Common.{Some, None, IfSome, inl, inr, ◌∙◌, ap, subst, arith, rules}
use Rattle.std.specs.Option.{option_map}
use Rattle.std.specs.Prelude.{Result, Ok, Err, IfErr, IfOk, OnOk}
use Rattle.std.specs.declared.io.buffered.BufWriter.{BufWriter}
use Rattle.std.proofs.lemmas.List.{length-take, take_all}
use Rattle.std.proofs.lemmas.Bool.{cases_lt}
use Rattle.parser.specs.Scripts.{IsTooLong, ParsedScript}
use Rattle.cli.specs.Running.{HasFault, HoldsScript, IsNoScript, Prints, ReadsUpTo}

-- fewer bytes than requested are all
pub whole : (limit : ℕ) (all bytes : List ℕ) → bytes ≡ take (limit + 1) all → length bytes ≤ limit → bytes ≡ all
whole limit all bytes e h =
    let size : length (take (limit + 1) all) ≤ limit = subst (λ (b : List ℕ). length b ≤ limit) e h in
    e ∙ take_all (limit + 1) all (omega (arith, size, length-take (limit + 1) all))

-- what was printed for the bytes that were read is printed for all
pub prints_all : {E T A : Type 0} (r : Result Unit E) (known : Option (List ℕ)) (bytes : List ℕ)
    (contents : T → Option (List ℕ)) (old new : BufWriter T A) → ReadsUpTo known bytes
    → OnOk r (Prints contents old new bytes) → OnOk r (IfSome known (Prints contents old new))
prints_all (Err e) known bytes contents old new h p = search rules
prints_all (Ok u) None bytes contents old new h p = search rules
prints_all (Ok u) (Some all) bytes contents old new h p =
    subst (Prints contents old new) (whole 4194304 all bytes h p.fits) p

-- the bytes that a reader with a limit reads
pub read_up_to : (limit n : ℕ) (known inner : Option (List ℕ)) (old bytes : List ℕ)
    → n ≡ limit → inner ≡ known → old ≡ [] → IfSome (option_map (take n) inner) (λ xs. bytes ≡ old ++ xs)
    → IfSome known (λ all. bytes ≡ take limit all)
read_up_to limit n None inner old bytes e i o h = search rules
read_up_to limit n (Some all) inner old bytes e i o h =
    let there : IfSome (option_map (take n) (Some all)) (λ xs. bytes ≡ old ++ xs) =
    subst (λ k. IfSome (option_map (take n) k) (λ xs. bytes ≡ old ++ xs)) i h in
    there ∙ ap (λ xs. xs ++ take n all) o ∙ ap (λ k. take k all) e

-- a property of what was read holds for all: it holds for too many bytes, else they are the same
pub fault_all : (Q : List ℕ → Type 0) (known : Option (List ℕ)) (bytes : List ℕ)
    → ((all : List ℕ) → IsTooLong all → Q all) → IfSome known (λ all. bytes ≡ take (4194304 + 1) all)
    → Q bytes → IfSome known Q
fault_all Q None bytes too_long h k = search rules
fault_all Q (Some all) bytes too_long h k = elim (cases_lt 4194304 (length all)) [
  | inl long ↦ too_long all long
  | inr short ↦ subst Q (h ∙ take_all (4194304 + 1) all (omega (arith, short))) k
]

faults_all : {X E : Type 0} (Q : List ℕ → Type 0) (r : Result X E) (P : E → Type 0) (known : Option (List ℕ))
    (bytes : List ℕ) → ((all : List ℕ) → IsTooLong all → Q all) → ReadsUpTo known bytes
    → IfErr r (λ e. P e → Q bytes) → IfErr r (λ e. P e → IfSome known Q)
faults_all Q (Ok u) P known bytes too_long h k = search rules
faults_all Q (Err e) P known bytes too_long h k = λ p. fault_all Q known bytes too_long h (k p)

-- the same for the errors of a run, and for a text alone
pub run_faults : {X E : Type 0} (r : Result X E) (P : E → Type 0) (known : Option (List ℕ)) (bytes : List ℕ)
    → ReadsUpTo known bytes
    → IfErr r (λ e. P e → HasFault bytes) → IfErr r (λ e. P e → IfSome known HasFault)
run_faults r P known bytes h k = faults_all HasFault r P known bytes (λ all long. inl (inl long)) h k

pub text_faults : {X E : Type 0} (r : Result X E) (P : E → Type 0) (known : Option (List ℕ)) (bytes : List ℕ)
    → ReadsUpTo known bytes
    → IfErr r (λ e. P e → IsNoScript bytes) → IfErr r (λ e. P e → IfSome known IsNoScript)
text_faults r P known bytes h k = faults_all IsNoScript r P known bytes (λ all long. inl long) h k

-- the script that was read is that of all bytes
pub script_all : {E : Type 0} (r : Result ParsedScript E) (known : Option (List ℕ)) (bytes : List ℕ)
    → ReadsUpTo known bytes → IfOk r (λ s. HoldsScript s bytes) → IfOk r (λ s. IfSome known (HoldsScript s))
script_all (Err e) known bytes h held = search rules
script_all (Ok s) None bytes h held = search rules
script_all (Ok s) (Some all) bytes h held = subst (HoldsScript s) (whole 4194304 all bytes h held.fits) held

-- The first word of a line exists, so it is read only once.
use Rattle.parser.proofs.Names.{Bool, List, None, Some, ap, arith, cond, drop, false, length, nat_lt, position, refl}
use Rattle.parser.proofs.Names.{sym, true, ℕ, ◌∙◌, ◌≡◌, nat_tests, Ok, ◌==◌, first_word_in, first_word, cut_at, flaw}
use Rattle.parser.proofs.Names.{named_in, or_flaw, ◌>>=◌, named_at, word_at, word_or}
use Rattle.parser.specs.declared.fault.FaultKind.TheVariants as kinds

-- a word that exists
is_there : (b : Bool) (x : List ℕ × ℕ) (at : ℕ) → b ≡ false
    → or_flaw (cond b None (Some x)) (flaw at kinds.UnknownWord) ≡ Ok (first_word_in (cond b None (Some x)))
is_there true x at h = absurd cc
is_there false x at h = refl

-- the first word exists
first_is : (line : List ℕ) → word_or line 0 kinds.UnknownWord ≡ Ok (first_word line)
unfolding word_or word_at first_word
first_is line =
    let low : nat_lt (length line) 0 ≡ false = grind (arith, nat_tests) in
    is_there (nat_lt (length line) 0) (cut_at line 0 (drop 0 line) (position (λ b. b == 32) (drop 0 line)))
    (length line) low

-- the name of the first word is the name at the beginning of the line
pub first_named : (line word : List ℕ) (after letter count : ℕ) → (word, after) ≡ first_word line
    → named_in word after 0 letter count kinds.NoSuchActor ≡ named_at line 0 letter count kinds.NoSuchActor
unfolding named_at
first_named line word after letter count e =
    ap (λ w. named_in w.0 w.1 0 letter count kinds.NoSuchActor) e
    ∙ sym (ap (λ r. r >>= (λ w. named_in w.0 w.1 0 letter count kinds.NoSuchActor)) (first_is line))

-- Cutting lines off the beginning of a script.
use Rattle.parser.proofs.Names.{List, None, Some, ap, drop, length, position, refl, sym, take, ℕ, ◌+◌, ◌∙◌, ◌∷◌, ◌≡◌}
use Rattle.parser.proofs.Names.{slice_split, Err, Ok, CutsLine, ReadSoFar, goes_on, in_line, newline, last_line}
use Rattle.parser.proofs.Names.{line_in, lines_in, LineFault}
use Rattle.parser.proofs.Lists.{IsCons, split_cons, split_some, split_none}

-- a line that isn't the last is followed by the others
pub lines_cons : (n : ℕ) (s : ReadSoFar) (line : List ℕ) (lines : List (List ℕ)) → IsCons lines
    → lines_in n s (line ∷ lines) ≡ goes_on (in_line n (line_in s line)) (λ t. lines_in (n + 1) t lines)
unfolding lines_in
lines_cons n s line lines h = rw h.is refl

-- a newline at end cuts off a line
pub lines_step : (n : ℕ) (s : ReadSoFar) (bytes : List ℕ) (end : ℕ) → position newline bytes ≡ Some end
    → lines_in n s (slice_split newline bytes) ≡ goes_on (in_line n (line_in s (take end bytes)))
    (λ t. lines_in (n + 1) t (slice_split newline (drop (end + 1) bytes)))
lines_step n s bytes end h =
    rw (split_some newline bytes end h) (lines_cons n s (take end bytes) (slice_split newline (drop (end + 1) bytes))
    (split_cons newline (drop (end + 1) bytes)))

-- with no newline there is one line
pub lines_last : (n : ℕ) (s : ReadSoFar) (bytes : List ℕ) → position newline bytes ≡ None
    → lines_in n s (slice_split newline bytes) ≡ last_line n s bytes
unfolding lines_in
lines_last n s bytes h = rw (split_none newline bytes h) refl

-- a line that is accepted is followed by the others
pub step_ok : (n : ℕ) (s t : ReadSoFar) (bytes line after : List ℕ) → CutsLine bytes line after
    → in_line n (line_in s line) ≡ Ok t
    → lines_in (n + 1) t (slice_split newline after) ≡ lines_in n s (slice_split newline bytes)
step_ok n s t bytes line after cut h =
    let e : line_in s line ≡ line_in s (take (length line) bytes) = ap (line_in s) cut.line_is in
    let k : in_line n (line_in s (take (length line) bytes)) ≡ Ok t = rw (← e) h in
    sym (lines_step n s bytes (length line) cut.newline_at ∙ rw k (rw (← cut.after_is) refl))

-- the fault of a line is the script's
pub step_err : (n : ℕ) (s : ReadSoFar) (e : LineFault) (bytes line after : List ℕ) → CutsLine bytes line after
    → in_line n (line_in s line) ≡ Err e → lines_in n s (slice_split newline bytes) ≡ Err e
step_err n s f bytes line after cut h =
    let e : line_in s line ≡ line_in s (take (length line) bytes) = ap (line_in s) cut.line_is in
    let k : in_line n (line_in s (take (length line) bytes)) ≡ Err f = rw (← e) h in
    lines_step n s bytes (length line) cut.newline_at ∙ rw k refl

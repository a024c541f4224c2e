-- What was written stays when the rest of the buffer is written.
use Rattle.std.proofs.Common.{ℕ, List, Option, Some, None, ◌∙◌, rules}
use Rattle.std.specs.Prelude.{Result, Ok, Err, IsOk, OnOk}
use Rattle.std.specs.Io.KnownBytes.{Appends, Keeps}

then_kept : (old mid new : Option (List ℕ)) (text : List ℕ) → Appends old mid text → Keeps mid new
    → Appends old new text
then_kept None mid new text h k = tt
then_kept (Some o) None new text h k = absurd h
then_kept (Some o) (Some m) None text h k = absurd k
then_kept (Some o) (Some m) (Some n) text h k = k ∙ h

pub written_kept : {X E : Type 0} (r : Result X E) (old mid new : Option (List ℕ)) (text : List ℕ)
    → OnOk r (Appends old mid text) → IsOk r → Keeps mid new → Appends old new text
written_kept (Err e) old mid new text h ok k = search rules
written_kept (Ok x) old mid new text h ok k = then_kept old mid new text h k

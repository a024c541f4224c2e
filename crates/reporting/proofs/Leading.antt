-- A text written piece by piece.
use Rattle.std.proofs.Common.{ℕ, List, [], ◌++◌, Option, Some, None, refl, ap, sym, ◌∙◌, append_assoc, append-nil}
use Rattle.std.specs.Io.KnownBytes.{Appends}
use Rattle.reporting.specs.Texts.{Leads}

-- before the first piece all of it is left
pub leads_start : (c : Option (List ℕ)) (all : List ℕ) → Leads c c all all
leads_start None all = tt
leads_start (Some o) all = refl

-- after a piece is written, the rest is left
pub leads_step : (old c d : Option (List ℕ)) (line rest all : List ℕ) → Leads old c (line ++ rest) all
    → Appends c d line → Leads old d rest all
leads_step None c d line rest all h a = tt
leads_step (Some o) None d line rest all h a = absurd h
leads_step (Some o) (Some m) None line rest all h a = a
leads_step (Some o) (Some m) (Some n) line rest all h a = ap (λ xs. xs ++ rest) a ∙ append_assoc m line rest ∙ h

-- if nothing is left, all is written
pub leads_end : (old c : Option (List ℕ)) (all : List ℕ) → Leads old c [] all → Appends old c all
leads_end None c all h = tt
leads_end (Some o) None all h = absurd h
leads_end (Some o) (Some m) all h = sym (append-nil m) ∙ h

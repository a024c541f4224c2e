-- The table of a forwarding table by offset, filled from its end.
use Rattle.std.proofs.Common.{◌≡◌, ◌<◌, ℕ, ◌+◌, ◌-◌, suc, Bool, true, false, cond, List, ◌∷◌, length, drop}
use Rattle.std.proofs.Common.{get_or, eqb, Option, Some, None, refl, sym, ap, ◌∙◌, arith, drop-cons}
use Rattle.std.specs.List.{find}
use Rattle.std.specs.Option.{option_and_then}
use Rattle.model.specs.declared.records.Forwarding.{Forwarding}
use Rattle.verify.specs.Images.{copy_in, copy_of}
use Rattle.verify.specs.Copies.{ArePlaces}

-- the first entry counts if it has the offset
copy_first : (f : Forwarding) (fs : List Forwarding) (o : ℕ)
    → copy_in (f ∷ fs) o ≡ cond (eqb f.offset o) (copy_of f) (copy_in fs o)
copy_first f fs o = by_test (eqb f.offset o)
  where
    by_test : (t : Bool)
        → option_and_then copy_of (cond t (Some f) (find (λ g. eqb g.offset o) fs)) ≡ cond t (copy_of f) (copy_in fs o)
    by_test true = refl
    by_test false = refl

-- the last entries of a list, with the one before them
pub drop_more : (side : List Forwarding) (k : ℕ) (f : Forwarding) → k < length side
    → f ≡ get_or side (length side - 1 - k) f → drop (length side - (k + 1)) side ≡ f ∷ drop (length side - k) side
drop_more side k f l e =
    let x : length side - 1 - k ≡ length side - (k + 1) = omega arith in
    here (length side - (k + 1)) (length side - k) (omega arith) (omega arith) (e ∙ ap (λ y. get_or side y f) x)
  where
    here : (i j : ℕ) → i < length side → j ≡ suc i → f ≡ get_or side i f → drop i side ≡ f ∷ drop j side
    here i j b q g = drop-cons side i f b ∙ ap (λ x. x ∷ drop (suc i) side) (sym g) ∙ ap (λ x. f ∷ drop x side) (sym q)

-- a table of a part of a forwarding table has a place for each offset, and agrees with it
pub record IsTable (side : List Forwarding) (words : ℕ) (table : List (Option ℕ)) : Type 0 where
  pub sized : length table ≡ words
  pub tells : ArePlaces side words table

-- the entry before those that are in the table
pub table_more : (side : List Forwarding) (words k : ℕ) (f : Forwarding) (old new : List (Option ℕ)) → k < length side
    → f ≡ get_or side (length side - 1 - k) f → IsTable (drop (length side - k) side) words old
    → length new ≡ length old
    → ((o : ℕ) → o < length old → get_or new o None ≡ cond (eqb f.offset o) (copy_of f) (get_or old o None))
    → IsTable (drop (length side - (k + 1)) side) words new
table_more side words k f old new l e h n p = record {
  sized = n ∙ h.sized;
  tells = λ o b.
      p o (rw h.sized b)
      ∙ ap (cond (eqb f.offset o) (copy_of f)) (h.tells o b)
      ∙ sym (ap (λ s. copy_in s o) (drop_more side k f l e) ∙ copy_first f (drop (length side - k) side) o);
}

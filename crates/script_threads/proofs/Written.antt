-- Texts of a list's elements, written one after another.
use Rattle.std.proofs.Common.{◌≡◌, ℕ, ◌+◌, ◌<◌, ◌≤◌, List, [], ◌++◌, length, drop, get_or, Option}
use Rattle.std.proofs.Common.{refl, subst, add-one, drop-cons}
use Rattle.std.proofs.lemmas.List.{drop_all}
use Rattle.std.specs.List.{flat_map}
use Rattle.std.specs.Io.KnownBytes.{Appends}
use Rattle.reporting.specs.Texts.{Leads}
use Rattle.reporting.proofs.Leading.{leads_step, leads_end}

-- the first of the remaining texts
next_text : {X : Type 0} (f : X → List ℕ) (i : ℕ) (xs : List X) (d : X) → i < length xs
    → flat_map f (drop i xs) ≡ f (get_or xs i d) ++ flat_map f (drop (i + 1) xs)
next_text f i xs d h = rw (add-one, drop-cons xs i d h) refl

-- one element more is written
pub item_told : {X : Type 0} (f : X → List ℕ) (i : ℕ) (xs : List X) (x : X) (old c new : Option (List ℕ))
    (all : List ℕ) → Leads old c (flat_map f (drop i xs)) all → i < length xs → x ≡ get_or xs i x → Appends c new (f x)
    → Leads old new (flat_map f (drop (i + 1) xs)) all
item_told f i xs x old c new all h le e a =
    let there : Leads old c (f (get_or xs i x) ++ flat_map f (drop (i + 1) xs)) all = rw (← next_text f i xs x le) h in
    leads_step old c new _ _ all there (subst (λ y. Appends c new (f y)) e a)

-- all are written
pub items_told : {X : Type 0} (f : X → List ℕ) (i : ℕ) (xs : List X) (old c : Option (List ℕ)) (all : List ℕ)
    → Leads old c (flat_map f (drop i xs)) all → length xs ≤ i → Appends old c all
items_told f i xs old c all h le =
    let there : Leads old c [] all = rw (← ended) h in leads_end old c all there
  where
    ended : flat_map f (drop i xs) ≡ []
    ended = rw (drop_all i xs le) refl

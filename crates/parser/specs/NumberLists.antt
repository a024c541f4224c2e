-- A list of numbers, as contracts see it.
use Rattle.std.specs.Prelude.{ℕ, List, [], Option, None, Some, vec_items}
use Rattle.std.specs.Arc.{arc_value}
use Rattle.parser.specs.declared.number_list.NumberList.TheInside as inside

-- the numbers of an option; none for `None`
abbrev pub numbers_in : {A : Type 0} → (A → List ℕ) → Option A → List ℕ
numbers_in view None = []
numbers_in view (Some x) = view x

-- the numbers of a list: those that it shares, or none
abbrev pub number_list : inside.Inside → List ℕ
number_list l = numbers_in (λ numbers. vec_items (arc_value numbers)) l.numbers

-- Properties of accepted outcomes, by combinators that mirror the `do` of an outcome: each opens its first line, and
-- passes on what that line found or tested.
use Rattle.std.proofs.Common.{◌≡◌, Bool, true, false, cond, Option, Some, None, refl, subst}
use Rattle.std.specs.Prelude.{Result, Ok, Err}
use Rattle.model.specs.declared.steps.Refusal.{Refusal}
use Rattle.model.specs.Refusing.{◌>>=◌, or_refuse, refuse_if}
use Rattle.model.proofs.Results.{same_result}

abbrev pub accepted : {A : Type 0} → A → Result A Refusal
accepted x = Ok x

-- a property of an accepted value; it says nothing about an error
abbrev pub OnAccepted : {A : Type 0} → (A → Type 0) → Result A Refusal → Type 0
OnAccepted P (Ok x) = P x
OnAccepted P (Err n) = Unit {0}

-- a value that is accepted has the property
pub of_accepted : {A : Type 0} (P : A → Type 0) (r : Result A Refusal) (x : A) → OnAccepted P r → r ≡ accepted x → P x
of_accepted P (Ok y) x h e = subst P (same_result y x e) h
of_accepted P (Err n) x h e = absurd (cc)

-- x ← r
pub on_bind : {A B : Type 0} (r : Result A Refusal) (f : A → Result B Refusal) (P : B → Type 0)
    → ((x : A) → r ≡ accepted x → OnAccepted P (f x)) → OnAccepted P (r >>= f)
on_bind (Ok x) f P h = h x refl
on_bind (Err n) f P h = tt

-- x ← r, if each value that r accepts has Q
pub on_has : {A B : Type 0} (r : Result A Refusal) (f : A → Result B Refusal) (Q : A → Type 0) (P : B → Type 0)
    → OnAccepted Q r → ((x : A) → Q x → OnAccepted P (f x)) → OnAccepted P (r >>= f)
on_has (Ok x) f Q P q h = h x q
on_has (Err n) f Q P q h = tt

-- x ← or_refuse o n
pub on_some : {A B : Type 0} (o : Option A) (n : Refusal) (f : A → Result B Refusal) (P : B → Type 0)
    → ((x : A) → o ≡ Some x → OnAccepted P (f x)) → OnAccepted P (or_refuse o n >>= f)
on_some (Some x) n f P h = h x refl
on_some None n f P h = tt

-- if c then Err n else r
pub on_test : {B : Type 0} (c : Bool) (n : Refusal) (r : Result B Refusal) (P : B → Type 0)
    → (c ≡ false → OnAccepted P r) → OnAccepted P (cond c (Err n) r)
on_test true n r P h = tt
on_test false n r P h = h refl

-- if c then r else Err n
pub on_truth : {B : Type 0} (c : Bool) (n : Refusal) (r : Result B Refusal) (P : B → Type 0)
    → (c ≡ true → OnAccepted P r) → OnAccepted P (cond c r (Err n))
on_truth true n r P h = h refl
on_truth false n r P h = tt

-- if c then r else q
pub on_either : {B : Type 0} (c : Bool) (r q : Result B Refusal) (P : B → Type 0)
    → (c ≡ true → OnAccepted P r) → (c ≡ false → OnAccepted P q) → OnAccepted P (cond c r q)
on_either true r q P h k = h refl
on_either false r q P h k = k refl

-- if P implies Q, accepted values with P have Q
pub on_accepted : {A : Type 0} (r : Result A Refusal) (P Q : A → Type 0) → OnAccepted P r → ((x : A) → P x → Q x)
    → OnAccepted Q r
on_accepted (Ok x) P Q h f = f x h
on_accepted (Err n) P Q h f = tt

-- _ ← refuse_if b n
pub on_unless : {B : Type 0} (b : Bool) (n : Refusal) (f : Unit {0} → Result B Refusal) (P : B → Type 0)
    → (b ≡ false → OnAccepted P (f tt)) → OnAccepted P (refuse_if b n >>= f)
on_unless true n f P h = tt
on_unless false n f P h = h refl

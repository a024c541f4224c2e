-- Entries that are equal.
use Rattle.std.proofs.Common.{◌≡◌, ◌≢◌, ℕ, Bool, true, false, true≢false, List, refl, sym, ap, ◌∙◌, nat_eq}
use Rattle.std.proofs.Common.{slice_get}
use Rattle.std.proofs.Common.{Option, Some, None}
use Rattle.std.proofs.lemmas.Bool.{eq-eqb, eqb-true}
use Rattle.model.specs.declared.steps.Actor.{Actor}
use Rattle.model.specs.declared.steps.Actor.TheVariants.{Thread, Worker}
use Rattle.entries.specs.declared.entry.Entry.{Entry}
use Rattle.entries.specs.Parts.{is_same}

same_numbers : (m n : ℕ) → nat_eq m n ≡ true → m ≡ n
same_numbers = eqb-true

pub same_actor : (a b : Actor) → is_same a b ≡ true → a ≡ b
unfolding is_same
same_actor (Thread m) (Thread n) h = ap Thread (same_numbers m n h)
same_actor (Worker m) (Worker n) h = ap Worker (same_numbers m n h)
same_actor (Thread m) (Worker n) h = absurd (true≢false (sym h))
same_actor (Worker m) (Thread n) h = absurd (true≢false (sym h))

pub is_itself : (a : Actor) → is_same a a ≡ true
unfolding is_same
is_itself (Thread n) = eq-eqb n n refl
is_itself (Worker n) = eq-eqb n n refl

pub same_entry : (e f : Entry) → is_same e.actor f.actor ≡ true → e.answer ≡ f.answer → e.step ≡ f.step → e ≡ f
same_entry e f a x s = λ i. record { actor = same_actor e.actor f.actor a i; step = s i; answer = x i }

pub other_actor : (e f : Entry) → is_same e.actor f.actor ≡ false → e ≢ f
other_actor e f h is = true≢false (sym (is_itself e.actor) ∙ ap (λ (z : Entry). is_same e.actor z.actor) is ∙ h)

pub other_step : (e f : Entry) → e.step ≢ f.step → e ≢ f
other_step e f h is = h (ap (λ (z : Entry). z.step) is)

pub other_answer : (e f : Entry) → e.answer ≢ f.answer → e ≢ f
other_answer e f h is = h (ap (λ (z : Entry). z.answer) is)

abbrev or_this : Entry → Option Entry → Entry
or_this e None = e
or_this e (Some d) = d

pub here : (list : List Entry) (i : ℕ) (d e : Entry) → Some d ≡ slice_get list i → d ≡ e → slice_get list i ≡ Some e
here list i d e at is = sym at ∙ ap (λ (z : Entry). Some z) is

pub another : (list : List Entry) (i : ℕ) (d e : Entry) → Some d ≡ slice_get list i → d ≢ e → slice_get list i ≢ Some e
another list i d e at other is = other (ap (or_this e) (at ∙ is))

abbrev is_there : Option Entry → Bool
is_there None = false
is_there (Some d) = true

pub past : (list : List Entry) (i : ℕ) (e : Entry) → None ≡ slice_get list i → slice_get list i ≢ Some e
past list i e at is = true≢false (sym (ap is_there (at ∙ is)))

use Rattle.std.proofs.Common.{ℕ, ◌∙◌, ap, sym}
use Rattle.std.specs.Prelude.{Option, Result}
use Rattle.model.specs.declared.steps.Refusal.{Refusal}
use Rattle.model.specs.declared.steps.Refusal.TheVariants as refusals
use Rattle.model.specs.Refusing.{◌>>=◌, or_refuse}
use Rattle.model.specs.Stores.{word_at}
use Rattle.collecting.specs.Objects.{header_of}
use Rattle.collecting.proofs.seeing.header_of.Goals as goal

pub returns-in-Some : goal.returns-in-Some
unfolding header_of
returns-in-Some c = sym (ap (λ (r : Result ℕ Refusal). r >>= λ (a : ℕ).
    or_refuse (word_at c.args.heap.now.store a) refusals.BadIndex) c.in-Some.ensures.usable
    ∙ ap (λ (o : Option ℕ). or_refuse o refusals.BadIndex) c.in-Some.ensures.stands)

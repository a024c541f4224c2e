use Rattle.std.proofs.Common.{ℕ, List, length, map, take, ap, ap₂, subst, ◌∙◌}
use Rattle.std.specs.Prelude.{IsPermutation}
use Rattle.choosing.specs.Choices.{page_of}
use Rattle.collecting.specs.Stages.{PartsState, IsFitting, dead_count, emptied_of, first_of, found_words}
use Rattle.collecting.proofs.Fitted.{is_chosen}
use Rattle.collecting.proofs.parts.Parts.choose.Goals as goal

pub returns-clause-chosen : goal.returns-clause-chosen
returns-clause-chosen c = is_chosen c.args.self.now.most c.args.heap.now c.args.self.now.found c.sort.new.self.items
    c.in_ok-fitting.fitting.items c.in_ok-pages.pages.items _
    (subst (λ (ps : List (ℕ × ℕ)). IsPermutation ps c.sort.new.self.items)
    (ap (λ (p : PartsState). p.found) c.self.view_is) c.in_ok-sort.ensures.permutation)
    c.in_ok-sort.ensures.sorted
    (subst (λ (ps : List (ℕ × ℕ)). IsFitting c.args.heap.now (map page_of ps) c.in_ok-fitting.fitting.items)
    (c.first_of.ensures ∙ ap₂ first_of (ap (λ (p : PartsState). p.most) c.self.view_is) c.deref.ensures.value)
    c.in_ok-fitting.ensures)
    (c.in_ok-pages.ensures.items ∙ c.most_of.ensures
    ∙ ap₂ (λ (d : ℕ) (ns : List ℕ). take (emptied_of d (length ns)) ns)
    (c.dead_count.ensures.value ∙ ap dead_count c.deref-3.ensures.value) c.deref-2.ensures.value)
    (c.first_words-self-inside.ensures
    ∙ ap₂ (λ (n : ℕ) (ps : List (ℕ × ℕ)). found_words (take n ps)) (c.len.ensures ∙ c.in_ok-pages.pages.ok.0)
    c.deref-4.ensures.value)

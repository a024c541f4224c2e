use Rattle.std.proofs.Common.{◌≡◌, ℕ, List, [], ◌++◌, ◌∙◌, ap, sym, true, Option, Some, None, IfSome}
use Rattle.std.specs.Option.{option_to_list}
use Rattle.part_scans.specs.declared.backlog.Place.{Place}
use Rattle.part_scans.specs.Scans.{is_grey_own, is_marked_own}
use Rattle.part_scans.specs.Waiting.{IsNext}
use Rattle.part_scans.proofs.Marked.{next_grey, next_waited, none_waited}
use Rattle.part_scans.proofs.backlog.next_place.Goals as goal

pub returns-in-None-clause-next : goal.returns-in-None-clause-next
returns-in-None-clause-next c = by_place c.grey_next.result c.grey_next.ensures.grey c.grey_next.ensures.marked
  where
    ws : List ℕ
    ws = c.args.waiting.now.items

    none : ws ≡ []
    none = none_waited ws (sym c.pop.ensures.value ∙ c.in-None.is)

    by_place : (r : Option Place) → IfSome r (λ p. is_grey_own c.args.pages.now p.index p.offset ≡ true)
        → IfSome r (λ p. is_marked_own c.args.pages.now p.index p.offset ≡ true)
        → IfSome r (λ p. IsNext c.args.scene.now c.args.first c.args.pages.now ws (p.index, p.offset)
        c.pop.new.self.items)
    by_place None g m = tt
    by_place (Some p) g m = next_grey c.args.scene.now c.args.first c.args.pages.now ws c.pop.new.self.items
        (p.index, p.offset) none (ap (λ v. v.items) c.in-None.ensures.empty) g m

pub returns-in-Some-clause-next : goal.returns-in-Some-clause-next
returns-in-Some-clause-next c = next_waited c.args.scene.now c.args.first c.in-Some.number c.args.pages.now
    c.args.waiting.now.items c.pop.new.self.items (c.place_of.result.index, c.place_of.result.offset) c.requires
    (c.pop.ensures.items ∙ ap (λ (o : Option _). c.pop.new.self.items ++ option_to_list o) c.in-Some.is)
    c.place_of.ensures.place

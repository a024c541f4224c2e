use Rattle.std.proofs.Common.{eqb, sym, ap, ◌∙◌}
use Rattle.std.specs.HashMap.{get}
use Rattle.std.specs.Option.{option_map}
use Rattle.verify.specs.declared.objects.Object.{Object}
use Rattle.verify.specs.Images.{object_at}
use Rattle.verify.proofs.Looking.{births_noted}
use Rattle.verify.proofs.births.Births.note_reached.Goals as goal

pub returns-in_ok-note : goal.returns-in_ok-note
returns-in_ok-note c = λ n same h.
    births_noted c.args.chart.now c.args.spots.now c.requires.spots (get eqb c.args.self.now.addresses)
    (get eqb c.note.new.self.addresses) n c.args.address
    c.in-Some.birth same (c.requires.spots.reached c.args.address c.if-is_reached.ensures)
    (ap (λ i. option_map (λ (o : Object). o.birth) (object_at i c.args.address)) (sym c.image.ensures)
    ∙ sym c.birth_at.ensures ∙ c.in-Some.is) c.in_ok-note.ensures h

use Rattle.std.proofs.Common.{Some, ap, sym, ◌∙◌}
use Rattle.std.specs.Option.{option_map}
use Rattle.entries.specs.Histories.{entry_of}
use Rattle.entries.proofs.Parts.{passes_at}
use Rattle.entries.proofs.matching.next_place.Goals as goal

pub returns : goal.returns
returns c =
    passes_at c.args.list.now.entries c.args.place c.args.actor c.args.history.now.entries c.args.index
    c.entry.result.now
    c.passed.result (ap Some c.entry.ensures ∙ sym (ap (option_map entry_of) c.in-Some.is) ∙ c.get.ensures)
    c.requires.before c.passed.ensures

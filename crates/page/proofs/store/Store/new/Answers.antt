use Rattle.std.proofs.Common.{ℕ, ◌∙◌, Option, None, is_none, map, ap, sym, replicate}
use Rattle.model.specs.declared.records.Page.{Page}
use Rattle.model.specs.Stores.{blank_page, is_unused}
use Rattle.page.specs.Usable.{usable_by_number}
use Rattle.page.specs.Views.{left_in, mark}
use Rattle.page.proofs.Indexes.{copies_mapped}
use Rattle.page.proofs.Keeping.{first_inside, first_free}
use Rattle.page.proofs.Usable.{usable_first}
use Rattle.page.proofs.store.Store.new.Goals as goal

pub invariant_of-result : goal.invariant_of-result
invariant_of-result c =
    let records = c.record_count-records in
    record {
      size = c.of.ensures;
      store = first_inside c.args.words c.args.frames c.args.pages _ _ _ c.requires.words_low c.requires.words_high
          c.requires.frames_high c.requires.pages_high
          (c.in_ok-many.ensures ∙ ap (λ n. replicate n blank_page) records.ensures.value) c.in_ok-new.ensures
          c.in_ok-many-3.ensures;
      free = first_free c.args.frames _ c.in_ok-many-3.ensures;
      usable = c.in_ok-many-2.ensures ∙ usable_first records.result
          ∙ ap usable_by_number (sym c.in_ok-many.ensures);
      rooms = c.in_ok-new-2.ensures ∙ copies_mapped (left_in c.args.words) records.result blank_page
          ∙ ap (map (left_in c.args.words)) (sym c.in_ok-many.ensures);
      unused = c.in_ok-new-3.ensures ∙ copies_mapped (λ (p : Page). mark (is_unused p.state)) records.result blank_page
          ∙ ap (map (λ (p : Page). mark (is_unused p.state))) (sym c.in_ok-many.ensures);
      spare = c.in_ok-new-4.ensures ∙ copies_mapped (λ (o : Option ℕ). mark (is_none o)) c.args.frames None
          ∙ ap (map (λ (o : Option ℕ). mark (is_none o))) (sym c.in_ok-many-3.ensures);
    }

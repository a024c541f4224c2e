use Rattle.std.proofs.Common.{◌∙◌, ◌<◌, length, ap, sym, subst, arith}
use Rattle.std.specs.List.{slice_get}
use Rattle.model.specs.Stores.{StoreState, is_open, state_in, top_in}
use Rattle.page.proofs.Keeping.{opened_open, opened_pages, opened_top, opened_words}
use Rattle.page.proofs.store.Store.take_fresh.Goals as goal

pub give-requires-clause-there : goal.give-requires-clause-there
give-requires-clause-there c =
    let there = subst (λ (s : StoreState). c.in_ok-frame.index < length s.pages) (sym c.blank.ensures.stays) c.in_ok-frame.ensures.page_there in
    let same = ap (λ (s : StoreState). length s.pages) c.open.ensures
    ∙ opened_pages c.blank.new.self c.in_ok-frame.index c.in_ok-frame.frame in
    omega (arith, there)

pub give-requires-clause-open : goal.give-requires-clause-open
give-requires-clause-open c =
    let there = subst (λ (s : StoreState). c.in_ok-frame.index < length s.pages) (sym c.blank.ensures.stays) c.in_ok-frame.ensures.page_there in
    ap (λ (s : StoreState). is_open (state_in (slice_get s.pages c.in_ok-frame.index))) c.open.ensures
    ∙ opened_open c.blank.new.self c.in_ok-frame.index c.in_ok-frame.frame
    there

pub give-requires-clause-room : goal.give-requires-clause-room
give-requires-clause-room c =
    let there = subst (λ (s : StoreState). c.in_ok-frame.index < length s.pages) (sym c.blank.ensures.stays) c.in_ok-frame.ensures.page_there in
    let top = ap (λ (s : StoreState). top_in (slice_get s.pages c.in_ok-frame.index)) c.open.ensures
    ∙ opened_top c.blank.new.self c.in_ok-frame.index c.in_ok-frame.frame
    there in
    let words = ap (λ (s : StoreState). s.words) c.open.ensures
    ∙ opened_words c.blank.new.self c.in_ok-frame.index c.in_ok-frame.frame in
    omega (arith, ap (λ (s : StoreState). s.words) c.blank.ensures.stays)

use Rattle.std.proofs.Common.{◌≡◌, ◌<◌, ◌∙◌, length, true, sym, subst, ap}
use Rattle.std.proofs.lemmas.Option.{same_Some}
use Rattle.model.specs.Stores.{StoreState, is_open, state_in, page_at, frame_in}
use Rattle.page.specs.Views.{store_of}
use Rattle.page.proofs.Keeping.{open_has_frame, some_is}
use Rattle.page.proofs.store.Store.open_frame.Goals as goal

pub unwrap-requires : goal.unwrap-requires
unwrap-requires c =
    let is_so = subst (λ (s : StoreState). is_open (state_in (page_at s c.args.page)) ≡ true)
    (sym c.self.view_is) c.requires in
    let has = open_has_frame (store_of c.self.inside) c.args.page c.self.invariant.store is_so in
    let view = ap (λ (s : StoreState). frame_in (page_at s c.args.page)) (sym c.self.view_is) ∙ has.is in
    some_is c.frame.result has.frame (c.frame.ensures ∙ view)

pub returns-clause-there : goal.returns-clause-there
returns-clause-there c =
    let is_so = subst (λ (s : StoreState). is_open (state_in (page_at s c.args.page)) ≡ true)
    (sym c.self.view_is) c.requires in
    let has = open_has_frame (store_of c.self.inside) c.args.page c.self.invariant.store is_so in
    let view = ap (λ (s : StoreState). frame_in (page_at s c.args.page)) (sym c.self.view_is) ∙ has.is in
    let same = same_Some _ _ (sym c.unwrap.ensures ∙ c.frame.ensures ∙ view) in
    let there = subst (λ (s : StoreState). has.frame < length s.frames) c.self.view_is has.there in
    rw same there

use Rattle.std.proofs.Common.{◌∙◌, nat_le, position, ap}
use Rattle.model.specs.Stores.{StoreState, page_with_room}
use Rattle.page.specs.Views.{store_of}
use Rattle.page.proofs.Found.{room_open, room_enough}
use Rattle.page.proofs.Indexes.{room_in_index}
use Rattle.page.proofs.store.Store.page_with_room.Goals as goal

pub returns-clause-first : goal.returns-clause-first
returns-clause-first c =
    let s = store_of c.self.inside in
    c.first_at_least.ensures ∙ ap (position (λ v. nat_le c.args.n v)) c.self.invariant.rooms
    ∙ room_in_index s.words c.args.n s.pages c.requires
    ∙ ap (λ (s : StoreState). page_with_room s.words c.args.n s.pages) c.self.view_is

pub returns-clause-open : goal.returns-clause-open
returns-clause-open c =
    room_open c.args.self.now.words c.args.n c.args.self.now.pages c.first_at_least.result (returns-clause-first c)

pub returns-clause-room : goal.returns-clause-room
returns-clause-room c = room_enough c.args.self.now.words c.args.n c.args.self.now.pages c.first_at_least.result
    c.requires (returns-clause-first c)

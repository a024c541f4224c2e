use Rattle.std.proofs.Common.{◌∙◌, ◌/◌, ◌≤◌, ◌<◌, get_or, length, ap, arith}
use Rattle.std.proofs.lemmas.Bool.Decides.{nat_tests}
use Rattle.page.specs.Usable.{usable_frame}
use Rattle.page.specs.Views.{store_of}
use Rattle.model.specs.Stores.{StoreState}
use Rattle.page.proofs.Usable.{found_none, found_some, usable_is_address}
use Rattle.page.proofs.store.Store.usable_frame.Goals as goal

pub returns-in-None-clause-value : goal.returns-in-None-clause-value
returns-in-None-clause-value c =
    let s = store_of c.self.inside in
    let us = c.self.inside.usable.items in
    let lookup = c.in-None.ensures.lookup.0 in
    let past : length us ≤ c.page_of.result = grind (arith, nat_tests, lookup, c.deref.ensures.value) in
    found_none s us c.page_of.result c.self.invariant.usable past
    ∙ ap (usable_frame s) (c.page_of.ensures ∙ ap (λ w. c.args.number / w) c.self.invariant.size)
    ∙ ap (λ (t : StoreState). usable_frame t (c.args.number / t.words)) c.self.view_is

pub returns-in-Some-clause-value : goal.returns-in-Some-clause-value
returns-in-Some-clause-value c =
    let s = store_of c.self.inside in
    let us = c.self.inside.usable.items in
    let lookup = c.in-Some.ensures.lookup in
    let low : c.page_of.result < length us = grind (arith, nat_tests, lookup.0, c.deref.ensures.value) in
    found_some s us c.page_of.result c.in-Some.frame.now c.self.invariant.usable low
    (lookup.1 ∙ ap (λ xs. get_or xs c.page_of.result c.in-Some.frame.now) c.deref.ensures.value)
    ∙ ap (usable_frame s) (c.page_of.ensures ∙ ap (λ w. c.args.number / w) c.self.invariant.size)
    ∙ ap (λ (t : StoreState). usable_frame t (c.args.number / t.words)) c.self.view_is

pub returns-in-Some-clause-address : goal.returns-in-Some-clause-address
returns-in-Some-clause-address c =
    let s = store_of c.self.inside in
    let us = c.self.inside.usable.items in
    let lookup = c.in-Some.ensures.lookup in
    let low : c.page_of.result < length us = grind (arith, nat_tests, lookup.0, c.deref.ensures.value) in
    usable_is_address s c.args.number c.in-Some.frame.now c.self.invariant.store
    (found_some s us c.page_of.result c.in-Some.frame.now c.self.invariant.usable low
    (lookup.1 ∙ ap (λ xs. get_or xs c.page_of.result c.in-Some.frame.now) c.deref.ensures.value)
    ∙ ap (usable_frame s) (c.page_of.ensures ∙ ap (λ w. c.args.number / w) c.self.invariant.size))

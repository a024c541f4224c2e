use Rattle.std.proofs.Common.{◌≡◌, ◌∙◌, ◌<◌, ◌/◌, ◌%◌, List, length, get_or, Some, ap, subst, sym}
use Rattle.layout.specs.declared.shape.Layout.{Layout}
use Rattle.model.specs.declared.config.Config.{Config}
use Rattle.model.specs.Stores.{StoreState, words_at}
use Rattle.fast_paths.specs.Found.{FindsObject}
use Rattle.fast_paths.proofs.FoundObjects.{header_within, layout_within, found_whole}
use Rattle.fast_paths.proofs.found.find_object.Goals as goal

pub bounds-words-offset_on : goal.bounds-words-offset_on
bounds-words-offset_on c =
    let h = c.args.heap.now in
    let a = c.in_ok-address.field-0.address in
    let page = subst (λ (x : StoreState). words_at x (a / x.words) ≡ Some c.in_ok-words.words.now)
    c.memory-memory.ensures c.in_ok-words.ensures in
    let o = subst (λ (x : StoreState). c.offset_on.result ≡ a % x.words) c.memory-memory.ensures c.offset_on.ensures in
    header_within h a c.in_ok-words.words.now (c.requires.whole c.args.thread c.args.register a c.in_ok-address.ensures.uses.usable)
    page c.offset_on.result o

pub bounds-as_slice-layout_of : goal.bounds-as_slice-layout_of
bounds-as_slice-layout_of c =
    let h = c.args.heap.now in
    let a = c.in_ok-address.field-0.address in
    let page = subst (λ (x : StoreState). words_at x (a / x.words) ≡ Some c.in_ok-words.words.now)
    c.memory-memory.ensures c.in_ok-words.ensures in
    let o = subst (λ (x : StoreState). c.offset_on.result ≡ a % x.words) c.memory-memory.ensures c.offset_on.ensures in
    let table : c.as_slice.result.now ≡ h.config.layouts =
    c.as_slice.ensures ∙ ap (λ (x : Config). x.layouts) c.config.ensures in
    subst (λ (ls : List Layout). c.layout_of.result < length ls) (sym table)
    (layout_within h a c.in_ok-words.words.now
    (c.requires.whole c.args.thread c.args.register a c.in_ok-address.ensures.uses.usable) page c.offset_on.result
    c.layout_of.result o c.layout_of.ensures)

pub returns : goal.returns
returns c =
    let h = c.args.heap.now in
    let a = c.in_ok-address.field-0.address in
    let f = c.in_ok-address.field-0.frame in
    let page = subst (λ (x : StoreState). words_at x (a / x.words) ≡ Some c.in_ok-words.words.now)
    c.memory-memory.ensures c.in_ok-words.ensures in
    let o = subst (λ (x : StoreState). c.offset_on.result ≡ a % x.words) c.memory-memory.ensures c.offset_on.ensures in
    let table : c.as_slice.result.now ≡ h.config.layouts =
    c.as_slice.ensures ∙ ap (λ (x : Config). x.layouts) c.config.ensures in
    subst (λ (ls : List Layout). FindsObject h c.args.thread c.args.register (record {
      address = a;
      frame = f;
      layout = get_or ls c.layout_of.result (record { refs = 0; nums = 0 });
    })) (sym table)
    (found_whole h a c.in_ok-words.words.now
    (c.requires.whole c.args.thread c.args.register a c.in_ok-address.ensures.uses.usable) page c.args.thread c.args.register f
    c.offset_on.result c.layout_of.result (record { refs = 0; nums = 0 }) c.law.ensures.store
    c.in_ok-address.ensures.uses c.in_ok-address.ensures.frame o c.layout_of.ensures)

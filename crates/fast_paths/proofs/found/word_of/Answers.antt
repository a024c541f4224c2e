use Rattle.std.proofs.Common.{◌≡◌, ◌/◌, ◌%◌, Some, subst}
use Rattle.model.specs.Stores.{StoreState, words_at}
use Rattle.fast_paths.proofs.FoundObjects.{read_within, word_within}
use Rattle.fast_paths.proofs.found.word_of.Goals as goal

pub bounds-words-offset_on : goal.bounds-words-offset_on
bounds-words-offset_on c =
    let s = c.args.heap.now.store in
    let a = c.args.found.address in
    let page = subst (λ (x : StoreState). words_at x (a / x.words) ≡ Some c.in_ok-words.words.now)
    c.memory-memory.ensures c.in_ok-words.ensures in
    let o = subst (λ (x : StoreState). c.offset_on.result ≡ a % x.words) c.memory-memory.ensures c.offset_on.ensures in
    word_within s a c.args.ahead c.offset_on.result c.in_ok-words.words.now c.law.ensures.store page o c.requires.within

pub returns : goal.returns
returns c =
    let s = c.args.heap.now.store in
    let a = c.args.found.address in
    let page = subst (λ (x : StoreState). words_at x (a / x.words) ≡ Some c.in_ok-words.words.now)
    c.memory-memory.ensures c.in_ok-words.ensures in
    let o = subst (λ (x : StoreState). c.offset_on.result ≡ a % x.words) c.memory-memory.ensures c.offset_on.ensures in
    read_within s a c.args.ahead c.offset_on.result c.in_ok-words.words.now c.law.ensures.store page o c.requires.within

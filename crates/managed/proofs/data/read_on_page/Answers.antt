use Rattle.std.proofs.Common.{ℕ, ◌≡◌, ◌/◌, ◌%◌, ◌+◌, ◌∙◌, Some, ap, arith, subst, sym}
use Rattle.std.specs.Prelude.{slice_range}
use Rattle.model.specs.Stores.{StoreState, words_at}
use Rattle.managed.proofs.OnePage.{page_read}
use Rattle.managed.proofs.data.read_on_page.Goals as goal

pub returns-clause-words : goal.returns-clause-words
returns-clause-words c = λ yes.
    let s = c.args.heap.now.store in
    let a = c.args.address in
    let page = subst (λ (n : ℕ). words_at s (n / s.words) ≡ Some c.in-Some-words_on.words.now) c.number-2.ensures.value
    (subst (λ (x : StoreState). words_at x (c.number-2.result / x.words) ≡ Some c.in-Some-words_on.words.now)
    c.memory-memory.ensures c.in-Some-words_on.ensures) in
    let o = subst (λ (n : ℕ). c.offset_on.result ≡ n % s.words) c.number-3.ensures.value
    (subst (λ (x : StoreState). c.offset_on.result ≡ c.number-3.result % x.words) c.memory-memory.ensures
    c.offset_on.ensures) in
    page_read s a c.args.ahead (c.offset_on.result + c.args.ahead) c.in-Some-words_on.words.now
    c.copy_from_slice.new.self c.law.ensures.store page (ap (λ n. n + c.args.ahead) o) (omega arith)
    (c.copy_from_slice.ensures.after ∙ ap (λ n. slice_range c.in-Some-words_on.words.now
    (c.offset_on.result + c.args.ahead) (c.offset_on.result + c.args.ahead + n)) (sym c.copy_from_slice.ensures.len))

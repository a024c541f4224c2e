-- Frames of pages that have memory, and words that are written to them.
use Rattle.std.proofs.Common.{◌≡◌, ℕ, Bool, true, false, Option, Some, None, refl, sym}
use Rattle.std.proofs.Common.{subst, ap, ◌∙◌}
use Rattle.std.specs.Prelude.{Ok, IfSome, if◌then◌else◌, ◌/◌}
use Rattle.std.specs.Option.{is_some}
use Rattle.model.specs.Holding.{IsHeap}
use Rattle.model.specs.Owning.{AreSized, LiesIn, NoneProtected, row_sizes}
use Rattle.page.proofs.Lying.{word_lies, word_sized_alike, word_unprotected}
use Rattle.page.proofs.RowSizes.{word_rows}
use Rattle.model.specs.Registers.{let_through}
use Rattle.model.specs.States.{HeapState}
use Rattle.page.specs.Usable.{usable_frame}
use Rattle.page.proofs.Usable.{usable_unprotected}
use Rattle.model.specs.Stores.{StoreState, with_word}
use Rattle.heap.proofs.Keeping.{store_keeps}
use Rattle.heap.specs.AtOnce.{IsOpenTo}

-- an address on a usable page is on no protected one
pub open_where : (h : HeapState) (a : ℕ) (o : Option ℕ) → o ≡ usable_frame h.store (a / h.store.words)
    → IfSome o (λ _. IsOpenTo h a)
open_where h a None e = tt
open_where h a (Some f) e = usable_unprotected h.store (a / h.store.words) f (sym e)

-- an address on no protected page may be used
pub let_at_once : (h : HeapState) (t a : ℕ) (o : Option ℕ) → IfSome o (λ _. IsOpenTo h a) → true ≡ is_some o
    → Ok tt ≡ let_through h t a
unfolding let_through
let_at_once h t a None f there = absurd (cc)
let_at_once h t a (Some x) f there = rw f refl

-- the heap keeps what all heaps have, where a word was written or nothing was
pub written_keeps : (h : HeapState) (s : StoreState) (a v : ℕ) (done : Bool) → IsHeap h
    → s ≡ (if done then with_word h.store a v else h.store) → IsHeap (record h { store = s })
written_keeps h s a v true k e = store_keeps h s k (subst (AreSized h.store) (sym e) (word_sized_alike h.store a v))
    (ap row_sizes e ∙ word_rows h.store a v)
    (λ b lies. subst (λ t. LiesIn t b) (sym e) (word_lies h.store a v b lies))
    (λ n. subst NoneProtected (sym e) (word_unprotected h.store a v n))
written_keeps h s a v false k e = subst (λ (t : StoreState). IsHeap (record h { store = t })) (sym e) k

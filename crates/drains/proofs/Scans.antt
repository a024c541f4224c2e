-- Objects of a list are scanned.
use Rattle.std.proofs.Common.{◌≡◌, ℕ, ◌+◌, true, false, List, [], reverse, sym, ◌∙◌, ap, subst}
use Rattle.model.specs.Holding.{IsHeap}
use Rattle.model.specs.Owning.{IsStore}
use Rattle.model.specs.Scans.{is_free_todo}
use Rattle.model.specs.States.{HeapState}
use Rattle.drains.specs.Drains.{ObjectsDone, scanned}
use Rattle.drains.specs.Scans.{IsScanned}
use Rattle.drains.specs.Waiting.{all_noted, WaitBeside}
use Rattle.drains.proofs.Ended.{objects_next}
use Rattle.drains.proofs.Waiting.{none_noted, none_wait}

pub none_beside : (h : HeapState) (a : ℕ) (ws : List ℕ) → ws ≡ [] → is_free_todo h a ≡ true
    → WaitBeside h a (reverse ws)
none_beside h a ws e free = subst (λ us. WaitBeside h a (reverse us)) (sym e) (none_wait h a free)

pub is_scanned : (h g k : HeapState) (a : ℕ) (ws vs : List ℕ) → ws ≡ [] → is_free_todo h a ≡ true
    → all_noted g (reverse vs) ≡ scanned (all_noted h (reverse ws)) a → k ≡ all_noted g (reverse vs)
    → IsScanned h a true k
is_scanned h g k a ws vs e free s d =
    (free, d ∙ s ∙ ap (λ us. scanned (all_noted h (reverse us)) a) e ∙ ap (λ x. scanned x a) (none_noted h))

pub listed_more : (f h g : HeapState) (w n a : ℕ) → ObjectsDone f w n h → IsStore h.store → IsHeap h
    → IsScanned h a true g → ObjectsDone f w (n + 1) g
listed_more f h g w n a d s i k = objects_next f h g w n a d s i k.0 k.1

pub listed_left : (f h g : HeapState) (w n a : ℕ) → ObjectsDone f w n h → IsScanned h a false g → ObjectsDone f w n g
listed_left f h g w n a d k = subst (λ x. ObjectsDone f w n x) (sym k) d

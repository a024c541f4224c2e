-- Parts of a drain, one after another.
use Rattle.std.proofs.Common.{◌≡◌, ℕ, ◌+◌, ◌∙◌, arith, subst}
use Rattle.model.specs.States.{HeapState}
use Rattle.drains.specs.Drains.{ObjectsDone}
use Rattle.drains.proofs.Drained.{drained_then}

pub objects_then : (h g k : HeapState) (w n m : ℕ) → ObjectsDone h w n g → ObjectsDone g w m k
    → ObjectsDone h w (n + m) k
objects_then h g k w n m a b = record {
  drained = record {
    drained = drained_then h g k w n m a.drained.drained b.drained.drained;
    ready = b.drained.ready;
  };
  globals = b.globals ∙ a.globals;
}

pub objects_none : (h g k : HeapState) (w n m : ℕ) → ObjectsDone h w n g → n ≡ 0 → ObjectsDone g w m k
    → ObjectsDone h w m k
objects_none h g k w n m a e b =
    subst (λ x. ObjectsDone h w x k) (omega (arith, e)) (objects_then h g k w n m a b)

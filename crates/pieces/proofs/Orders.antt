-- Objects whose places follow each other.
use Rattle.std.proofs.Common.{◌≡◌, ℕ, zero, suc, ◌+◌, ◌-◌, ◌≤◌, List, Option, Some, None, sym, ap, ◌∙◌, subst, arith}
use Rattle.std.specs.List.{slice_get}
use Rattle.model.specs.declared.records.Forwarding.{Forwarding}
use Rattle.forward.specs.Noting.{offset_of}
use Rattle.pieces.specs.Pieces.{SourceState, AreInOrder, Follows, end_by, IsBehind}

-- one object has its place, and the others have theirs after it
pub order_more : (s : SourceState) (low end high e d k n : ℕ) → k ≡ suc n → d ≡ e + 1
    → Follows s low (slice_get s.side e) → end ≡ end_by s low (slice_get s.side e)
    → AreInOrder s end high d n → AreInOrder s low high e k
order_more s low end high e d k n a b f z rest = subst (λ m. AreInOrder s low high e m) (sym a)
    (f, subst (λ m. AreInOrder s m high (e + 1) n) z (subst (λ m. AreInOrder s end high m n) b rest))

-- no object is left
pub order_all : (s : SourceState) (low high e k : ℕ) → k ≡ 0 → low ≤ high → AreInOrder s low high e k
order_all s low high e k a h = subst (λ m. AreInOrder s low high e m) (sym a) h

-- objects don't end before they begin
pub order_low : (s : SourceState) (low high e k : ℕ) → AreInOrder s low high e k → low ≤ high
order_low s low high e zero h = h
order_low s low high e (suc k) h =
    by_entry (slice_get s.side e) h.0 (order_low s (end_by s low (slice_get s.side e)) high (e + 1) k h.1)
  where
    by_entry : (o : Option Forwarding) → Follows s low o → end_by s low o ≤ high → low ≤ high
    by_entry None a b = b
    by_entry (Some f) a b = omega (arith, a, b)

-- the entry after one whose offset is known
pub behind_next : (side : List Forwarding) (e d o : ℕ) → offset_of (slice_get side e) ≡ Some o → d ≡ e + 1
    → IsBehind side d o
behind_next side e d o at next =
    let same : d - 1 ≡ e = omega (arith, next) in
    (omega (arith, next), ap (λ n. offset_of (slice_get side n)) same ∙ at)

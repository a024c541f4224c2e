-- Runs that are cut in two, together with the target's part.
use Rattle.std.proofs.Common.{◌≡◌, ℕ, zero, suc, ◌+◌, ◌-◌, ◌/◌, ◌%◌, ◌≤◌, ◌<◌, List, [], ◌∷◌, ◌++◌, length, take, drop}
use Rattle.std.proofs.Common.{Option, Some, None, refl, sym, ap, ◌∙◌, subst, arith, cond, Bool, true, false}
use Rattle.std.specs.List.{slice_get}
use Rattle.std.proofs.lemmas.List.{take-append-drop}
use Rattle.std.proofs.lemmas.Option.{same_Some}
use Rattle.model.specs.declared.records.Forwarding.{Forwarding}
use Rattle.model.specs.Stores.{overlay}
use Rattle.model.proofs.Memory.{length_overlaid}
use Rattle.pieces.specs.Pieces.{SourceState, AreInOrder, Follows, end_by, size_at, words_at, laid_by, laid_from}
use Rattle.pieces.proofs.Orders.{order_low}
use Rattle.pieces.proofs.Overlays.{overlaid_front, overlaid_back}

-- k entries are laid as j of them, and then the others
pub laid_on : (s : SourceState) (base e j k : ℕ) (ws : List ℕ)
    → laid_from s base e (j + k) ws ≡ laid_from s base (e + j) k (laid_from s base e j ws)
laid_on s base e zero k ws = let z : zero + k ≡ k = omega arith in let y : e ≡ e + zero = omega arith in
    ap (λ m. laid_from s base e m ws) z ∙ ap (λ m. laid_from s base m k ws) y
laid_on s base e (suc j) k ws = let z : suc j + k ≡ suc (j + k) = omega arith in
    let y : (e + 1) + j ≡ e + suc j = omega arith in
    ap (λ m. laid_from s base e m ws) z
    ∙ laid_on s base (e + 1) j k (laid_by s base (slice_get s.side e) ws)
    ∙ ap (λ m. laid_from s base m k (laid_from s base (e + 1) j (laid_by s base (slice_get s.side e) ws))) y

-- an object has no more words than its size
length_taken : (n : ℕ) (xs : List ℕ) → length (take n xs) ≤ n
length_taken zero xs = omega arith
length_taken (suc n) [] = omega arith
length_taken (suc n) (x ∷ xs) = omega (arith, length_taken n xs)

length_laid : (s : SourceState) (base : ℕ) (o : Option Forwarding) (ws : List ℕ)
    → length (laid_by s base o ws) ≡ length ws
length_laid s base None ws = refl
length_laid s base (Some f) ws = by_copied f.copied
  where
    by_copied : (b : Bool) → length (cond b ws (overlay ws (f.to % s.size - base) (words_at s f.offset))) ≡ length ws
    by_copied true = refl
    by_copied false = length_overlaid ws (f.to % s.size - base) (words_at s f.offset)

-- an object in the front part doesn't change the back part
laid_front_by : (s : SourceState) (base low : ℕ) (o : Option Forwarding) (a b : List ℕ) → base ≤ low → Follows s low o
    → end_by s low o ≤ base + length a → laid_by s base o (a ++ b) ≡ laid_by s base o a ++ b
laid_front_by s base low None a b h f z = refl
laid_front_by s base low (Some f) a b h g z = by_copied f.copied
  where
    p : ℕ
    p = f.to % s.size - base

    by_copied : (c : Bool) → cond c (a ++ b) (overlay (a ++ b) p (words_at s f.offset))
        ≡ cond c a (overlay a p (words_at s f.offset)) ++ b
    by_copied true = refl
    by_copied false = overlaid_front a b p (words_at s f.offset)
        (omega (arith, h, g, z, length_taken (size_at s f.offset) (drop f.offset s.words)))

pub laid_front : (s : SourceState) (base low e k : ℕ) (a b : List ℕ) → base ≤ low
    → AreInOrder s low (base + length a) e k → laid_from s base e k (a ++ b) ≡ laid_from s base e k a ++ b
laid_front s base low e zero a b h z = refl
laid_front s base low e (suc k) a b h z =
    let o : Option Forwarding = slice_get s.side e in
    let rest = z.1 in
    let same : length (laid_by s base o a) ≡ length a = length_laid s base o a in
    ap (laid_from s base (e + 1) k)
    (laid_front_by s base low o a b h z.0 (order_low s (end_by s low o) (base + length a) (e + 1) k rest))
    ∙ laid_front s base (end_by s low o) (e + 1) k (laid_by s base o a) b (by_entry o z.0)
    (subst (λ n. AreInOrder s (end_by s low o) (base + n) (e + 1) k) (sym same) rest)
  where
    by_entry : (o : Option Forwarding) → Follows s low o → base ≤ end_by s low o
    by_entry None f = h
    by_entry (Some g) f = omega (arith, h, f)

-- an object in the back part doesn't change the front part
laid_back_by : (s : SourceState) (base low : ℕ) (o : Option Forwarding) (a b : List ℕ) → base + length a ≤ low
    → Follows s low o → laid_by s base o (a ++ b) ≡ a ++ laid_by s (base + length a) o b
laid_back_by s base low None a b h f = refl
laid_back_by s base low (Some f) a b h g = by_copied f.copied
  where
    xs : List ℕ
    xs = words_at s f.offset

    by_copied : (c : Bool) → cond c (a ++ b) (overlay (a ++ b) (f.to % s.size - base) xs)
        ≡ a ++ cond c b (overlay b (f.to % s.size - (base + length a)) xs)
    by_copied true = refl
    by_copied false = overlaid_back a b (f.to % s.size - base) (f.to % s.size - (base + length a)) xs
        (omega (arith, h, g))

pub laid_back : (s : SourceState) (base low high e k : ℕ) (a b : List ℕ) → base + length a ≤ low
    → AreInOrder s low high e k → laid_from s base e k (a ++ b) ≡ a ++ laid_from s (base + length a) e k b
laid_back s base low high e zero a b h z = refl
laid_back s base low high e (suc k) a b h z =
    let o : Option Forwarding = slice_get s.side e in
    ap (laid_from s base (e + 1) k) (laid_back_by s base low o a b h z.0)
    ∙ laid_back s base (end_by s low o) high (e + 1) k a (laid_by s (base + length a) o b) (by_entry o z.0) z.1
  where
    by_entry : (o : Option Forwarding) → Follows s low o → base + length a ≤ end_by s low o
    by_entry None f = h
    by_entry (Some g) f = omega (arith, h, f)

-- the first entries' objects end before the next one's begins
order_front : (s : SourceState) (low high e j k : ℕ) (f : Forwarding) → AreInOrder s low high e (j + suc k)
    → slice_get s.side (e + j) ≡ Some f → AreInOrder s low (f.to % s.size) e j
order_front s low high e zero k f h at =
    let y : zero + suc k ≡ suc k = omega arith in
    let z = subst (λ m. AreInOrder s low high e m) y h in
    let w : e + zero ≡ e = omega arith in
    subst (Follows s low) (sym (ap (slice_get s.side) w) ∙ at) z.0
order_front s low high e (suc j) k f h at =
    let y : suc j + suc k ≡ suc (j + suc k) = omega arith in
    let z = subst (λ m. AreInOrder s low high e m) y h in
    let w : (e + 1) + j ≡ e + suc j = omega arith in
    (z.0, order_front s (end_by s low (slice_get s.side e)) high (e + 1) j k f z.1 (ap (slice_get s.side) w ∙ at))

from_here : (s : SourceState) (low high e k : ℕ) (f : Forwarding) → AreInOrder s low high e (suc k)
    → slice_get s.side e ≡ Some f → AreInOrder s (f.to % s.size) high e (suc k)
from_here s low high e k f h at = by_entry (slice_get s.side e) at h.1
  where
    by_entry : (o : Option Forwarding) → o ≡ Some f → AreInOrder s (end_by s low o) high (e + 1) k
        → Follows s (f.to % s.size) o × AreInOrder s (end_by s (f.to % s.size) o) high (e + 1) k
    by_entry None g z = absurd (cc)
    by_entry (Some x) g z =
        let same : x.to % s.size ≡ f.to % s.size = ap (λ (y : Forwarding). y.to % s.size) (same_Some _ _ g) in
        (omega (arith, same), z)

-- the other entries' objects begin there
order_back : (s : SourceState) (low high e j k : ℕ) (f : Forwarding) → AreInOrder s low high e (j + suc k)
    → slice_get s.side (e + j) ≡ Some f → AreInOrder s (f.to % s.size) high (e + j) (suc k)
order_back s low high e zero k f h at =
    let y : zero + suc k ≡ suc k = omega arith in
    let z = subst (λ m. AreInOrder s low high e m) y h in
    let w : e + zero ≡ e = omega arith in
    subst (λ m. AreInOrder s (f.to % s.size) high m (suc k)) (sym w)
    (from_here s low high e k f z (sym (ap (slice_get s.side) w) ∙ at))
order_back s low high e (suc j) k f h at =
    let y : suc j + suc k ≡ suc (j + suc k) = omega arith in
    let z = subst (λ m. AreInOrder s low high e m) y h in
    let w : (e + 1) + j ≡ e + suc j = omega arith in
    subst (λ m. AreInOrder s (f.to % s.size) high m (suc k)) w
    (order_back s (end_by s low (slice_get s.side e)) high (e + 1) j k f z.1 (ap (slice_get s.side) w ∙ at))

pub length_all : (s : SourceState) (base e k : ℕ) (ws : List ℕ) → length (laid_from s base e k ws) ≡ length ws
length_all s base e zero ws = refl
length_all s base e (suc k) ws = length_all s base (e + 1) k (laid_by s base (slice_get s.side e) ws)
    ∙ length_laid s base (slice_get s.side e) ws

pub length_cut : (n : ℕ) (ws : List ℕ) → n ≤ length ws → length (take n ws) ≡ n
length_cut zero ws h = refl
length_cut (suc n) [] h = absurd (omega (arith, h))
length_cut (suc n) (w ∷ ws) h = ap suc (length_cut n ws (omega (arith, h)))

-- a run is cut at the place of the entry at its middle

module _ (s : SourceState) (first count base len : ℕ) (order : AreInOrder s base (base + len) first count)
    (some : 0 < count) (f : Forwarding) (at : slice_get s.side (first + count / 2) ≡ Some f) where
  abbrev cut : ℕ
  cut = f.to % s.size - base

  abbrev rest : ℕ
  rest = count - count / 2 - 1

  left : count ≡ count / 2 + suc (count - count / 2 - 1)
  left = omega (arith, some)

  more : count - count / 2 ≡ suc (count - count / 2 - 1)
  more = omega (arith, some)

  whole : AreInOrder s base (base + len) first (count / 2 + suc rest)
  whole = subst (λ m. AreInOrder s base (base + len) first m) left order

  front : AreInOrder s base (f.to % s.size) first (count / 2)
  front = order_front s base (base + len) first (count / 2) rest f whole at

  back : AreInOrder s (f.to % s.size) (base + len) (first + count / 2) (suc rest)
  back = order_back s base (base + len) first (count / 2) rest f whole at

  above : base ≤ f.to % s.size
  above = order_low s base (f.to % s.size) first (count / 2) front

  below : f.to % s.size ≤ base + len
  below = order_low s (f.to % s.size) (base + len) (first + count / 2) (suc rest) back

  place : base + cut ≡ f.to % s.size
  place = omega (arith, above)

  pub cut_within : cut ≤ len
  cut_within = omega (arith, below)

  pub cut_low : AreInOrder s base (base + cut) first (count / 2)
  cut_low = subst (λ m. AreInOrder s base m first (count / 2)) (sym place) front

  pub cut_high : AreInOrder s (base + cut) (base + len) (first + count / 2) (count - count / 2)
  cut_high = subst (λ m. AreInOrder s (base + cut) (base + len) (first + count / 2) m) (sym more)
      (subst (λ m. AreInOrder s m (base + len) (first + count / 2) (suc rest)) (sym place) back)

  pub cut_laid : (ws : List ℕ) → length ws ≡ len → laid_from s base first (count / 2) (take cut ws)
      ++ laid_from s (base + cut) (first + count / 2) (count - count / 2) (drop cut ws)
      ≡ laid_from s base first count ws
  cut_laid ws long =
      let a : List ℕ = take cut ws in
      let b : List ℕ = drop cut ws in
      let n : length a ≡ cut = length_cut cut ws (omega (arith, above, below, long)) in
      let parted : a ++ b ≡ ws = take-append-drop cut ws in
      let c : List ℕ = laid_from s base first (count / 2) a in
      let m : length c ≡ cut = length_all s base first (count / 2) a ∙ n in
      let lies : AreInOrder s base (base + length a) first (count / 2) =
      subst (λ x. AreInOrder s base x first (count / 2)) (sym place ∙ ap (λ x. base + x) (sym n)) front in
      sym (ap (λ x. laid_from s base first x ws) left
      ∙ laid_on s base first (count / 2) (suc rest) ws
      ∙ ap (λ x. laid_from s base (first + count / 2) (suc rest) (laid_from s base first (count / 2) x)) (sym parted)
      ∙ ap (laid_from s base (first + count / 2) (suc rest))
      (laid_front s base base first (count / 2) a b (omega arith) lies)
      ∙ laid_back s base (f.to % s.size) (base + len) (first + count / 2) (suc rest) c b (omega (arith, m, place)) back
      ∙ ap (λ x. c ++ laid_from s (base + x) (first + count / 2) (suc rest) b) m
      ∙ ap (λ x. c ++ laid_from s (base + cut) (first + count / 2) x b) (sym more))

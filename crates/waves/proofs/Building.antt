-- Parts are made, and counted.
use Rattle.std.proofs.Common.{◌≡◌, ℕ, zero, suc, ◌+◌, ◌*◌, ◌≤◌, ◌<◌, List, [], ◌∷◌, ◌++◌, length, drop, get_or}
use Rattle.std.proofs.Common.{refl, ◌∙◌, ap, arith}
use Rattle.std.proofs.Math.Nat.{mul-le-mul_right}
use Rattle.std.proofs.lemmas.List.{drop_more, drop_all}
use Rattle.page.specs.declared.owned.OwnedPage.{OwnedPage}
use Rattle.page.specs.declared.owned.Part.{Part}
use Rattle.heap.specs.Owning.{AreBlank, AreBlankPages, ArePlaced}
use Rattle.waves.specs.Parts.{AreFew, AreJoined, AreNew, AreUnsent, all_scanned_in}

pub longer : {X : Type 0} (xs : List X) (x : X) → length (xs ++ x ∷ []) ≡ length xs + 1
longer [] x = refl
longer (y ∷ xs) x = ap suc (longer xs x) ∙ next (length xs)
  where
    next : (n : ℕ) → suc (n + 1) ≡ suc n + 1
    next n = omega arith

pub blank_more : (ps : List OwnedPage) (p : OwnedPage) → AreBlankPages ps → p.frame ≡ [] → p.marked ≡ [] → p.grey ≡ []
    → AreBlankPages (ps ++ p ∷ [])
blank_more [] p k a b c = ((λ j. record { frame = a j; marked = b j; grey = c j }), tt)
blank_more (q ∷ ps) p k a b c = (k.0, blank_more ps p k.1 a b c)

blank_parts : (ps : List Part) (p : Part) → AreBlank ps → AreBlankPages p.pages.items → AreBlank (ps ++ p ∷ [])
blank_parts [] p k b = (b, tt)
blank_parts (q ∷ ps) p k b = (k.0, blank_parts ps p k.1 b)

unsent_more : (ps : List Part) (p : Part) → AreUnsent ps → p.sent.items ≡ [] → AreUnsent (ps ++ p ∷ [])
unsent_more [] p k b = (b, tt)
unsent_more (q ∷ ps) p k b = (k.0, unsent_more ps p k.1 b)

placed_more : (low e f : ℕ) (ps : List Part) (p : Part) → ArePlaced e low ps → p.first ≡ e
    → f ≡ e + length p.pages.items → ArePlaced f low (ps ++ p ∷ [])
placed_more low e f [] p k a b = (omega (arith, k, a), omega (arith, a, b))
placed_more low e f (q ∷ ps) p k a b = (k.0, placed_more (q.first + length q.pages.items) e f ps p k.1 a b)

pub new_none : AreNew 0 []
new_none = record { blank = tt; placed = omega arith; unsent = tt }

pub new_more : (e f : ℕ) (ps : List Part) (p : Part) → AreNew e ps → p.first ≡ e → AreBlankPages p.pages.items
    → f ≡ e + length p.pages.items → p.sent.items ≡ [] → AreNew f (ps ++ p ∷ [])
new_more e f ps p k a b c d = record {
  blank = blank_parts ps p k.blank b;
  placed = placed_more 0 e f ps p k.placed a c;
  unsent = unsent_more ps p k.unsent d;
}

pub joined_more : (low e f : ℕ) (ps : List Part) (p : Part) → AreJoined e low ps → p.first ≡ e
    → f ≡ e + length p.pages.items → AreJoined f low (ps ++ p ∷ [])
joined_more low e f [] p k a b = (omega (arith, k, a), omega (arith, a, b))
joined_more low e f (q ∷ ps) p k a b = (k.0, joined_more (q.first + length q.pages.items) e f ps p k.1 a b)

placed_within : (m n low : ℕ) (ps : List Part) → m ≤ n → ArePlaced m low ps → ArePlaced n low ps
placed_within m n low [] l k = omega (arith, l, k)
placed_within m n low (p ∷ ps) l k = (k.0, placed_within m n (p.first + length p.pages.items) ps l k.1)

pub new_within : (m n : ℕ) (ps : List Part) → m ≤ n → AreNew m ps → AreNew n ps
new_within m n ps l k = record {
  blank = k.blank;
  placed = placed_within m n 0 ps l k.placed;
  unsent = k.unsent;
}

-- ---- sums

pub few_at : (most i : ℕ) (ps : List Part) (d : Part) → AreFew most ps → i < length ps
    → (get_or ps i d).scanned ≤ most
few_at most i [] d k l = absurd (omega (arith, l))
few_at most zero (p ∷ ps) d k l = k.0
few_at most (suc i) (p ∷ ps) d k l = few_at most i ps d k.1 (omega (arith, l))

pub sum_next : (ps : List Part) (i done all : ℕ) (d : Part) → done + all_scanned_in (drop i ps) ≡ all → i < length ps
    → d ≡ get_or ps i d → (done + d.scanned) + all_scanned_in (drop (i + 1) ps) ≡ all
sum_next ps i done all d k l read =
    let here : all_scanned_in (drop i ps) ≡ (get_or ps i d).scanned + all_scanned_in (drop (i + 1) ps) =
    ap all_scanned_in (drop_more ps i d l) in
    let same : d.scanned ≡ (get_or ps i d).scanned = ap (λ (p : Part). p.scanned) read in
    omega (arith, k, here, same)

pub sum_last : (ps : List Part) (i done all : ℕ) → done + all_scanned_in (drop i ps) ≡ all → length ps ≤ i
    → done ≡ all
sum_last ps i done all k l =
    let none : all_scanned_in (drop i ps) ≡ 0 = ap all_scanned_in (drop_all i ps l) in omega (arith, k, none)

pub times_next : (i each done : ℕ) → done ≤ i * each → (x : ℕ) → x ≤ each → done + x ≤ (i + 1) * each
times_next i each done l x k = let one = more i each in omega (arith, l, k, one)
  where
    more : (a b : ℕ) → (a + 1) * b ≡ a * b + b
    more a b = grind arith

pub times_within : (i n each : ℕ) → i ≤ n → i * each ≤ n * each
times_within i n each l = mul-le-mul_right each l

-- Blocks, joined.
use Rattle.std.proofs.Common.{◌≡◌, ℕ, zero, suc, ◌+◌, ◌*◌, ◌/◌, ◌%◌, ◌-◌, ◌<◌, ◌≤◌, List, [], ◌∷◌, ◌++◌, length}
use Rattle.std.proofs.Common.{get_or, slice_get, vec_items, refl, sym, ap, ◌∙◌, arith, lit<, append_assoc, append-nil}
use Rattle.std.proofs.Common.{length-append, div-add-mod', mod-lt}
use Rattle.std.specs.List.{All, flat_map}
use Rattle.std.proofs.lemmas.List.Concat.{flat_map-append}
use Rattle.std.proofs.lemmas.List.Elements.{All-append, All-cons, All-nil, All-head, All-tail}
use Rattle.entries.specs.declared.blocks.Kept.{Kept}
use Rattle.entries.specs.Blocks.{Block, IsFull, joined}

-- the last block is added to the full ones
pub joined_more : (full : List Block) (b : Block) → joined (full ++ b ∷ []) [] ≡ joined full (vec_items b)
unfolding joined
joined_more full b =
    append-nil (flat_map vec_items (full ++ b ∷ [])) ∙ flat_map-append vec_items full (b ∷ [])
    ∙ ap (λ xs. flat_map vec_items full ++ xs) (append-nil (vec_items b))

pub all_full : (full : List Block) (b : Block) → All IsFull full → length (vec_items b) ≡ 2048
    → All IsFull (full ++ b ∷ [])
all_full full b h e = All-append IsFull full (b ∷ []) h (All-cons IsFull b [] e (All-nil IsFull))

-- an entry is appended to the last block
pub joined_pushed : (full : List Block) (last : List Kept) (k : Kept)
    → joined full (last ++ k ∷ []) ≡ joined full last ++ k ∷ []
unfolding joined
joined_pushed full last k = sym (append_assoc (flat_map vec_items full) last (k ∷ []))

-- there is one more entry
pub has_more : (full : List Block) (last more : List Kept) (k : Kept) → more ≡ last ++ k ∷ []
    → length (joined full more) ≡ length (joined full last) + 1
has_more full last more k e =
    ap (λ xs. length (joined full xs)) e ∙ ap length (joined_pushed full last k)
    ∙ length-append (joined full last) (k ∷ [])

-- an element of a list, and one of the list after it
left : {X : Type 0} (xs ys : List X) (i : ℕ) → i < length xs → slice_get (xs ++ ys) i ≡ slice_get xs i
left [] ys i l = absurd (omega (arith, l))
left (x ∷ xs) ys zero l = refl
left (x ∷ xs) ys (suc i) l = left xs ys i (omega (arith, l))

right : {X : Type 0} (xs ys : List X) (n i j : ℕ) → length xs ≡ n → i ≡ n + j → slice_get (xs ++ ys) i ≡ slice_get ys j
right [] ys n i j e k = let same : i ≡ j = omega (arith, e, k) in rw same refl
right (x ∷ xs) ys n zero j e k = absurd (omega (arith, e, k))
right (x ∷ xs) ys n (suc i) j e k = right xs ys (n - 1) i j (omega (arith, e)) (omega (arith, e, k))

-- how many entries full blocks have
filled : (full : List Block) → All IsFull full → length (flat_map vec_items full) ≡ length full * 2048
filled [] h = refl
filled (b ∷ bs) h =
    length-append (vec_items b) (flat_map vec_items bs)
    ∙ omega (arith, All-head IsFull b bs h, filled bs (All-tail IsFull b bs h))

in_block : (full : List Block) (last : List Kept) (q r i : ℕ) (d : Block) → All IsFull full → q < length full → r < 2048
    → i ≡ q * 2048 + r → slice_get (flat_map vec_items full ++ last) i ≡ slice_get (vec_items (get_or full q d)) r
in_block [] last q r i d h l k e = absurd (omega (arith, l))
in_block (b ∷ bs) last zero r i d h l k e =
    let same : i ≡ r = omega (arith, e) in
    let here = All-head IsFull b bs h in
    rw same (ap (λ xs. slice_get xs r) (append_assoc (vec_items b) (flat_map vec_items bs) last)
    ∙ left (vec_items b) (flat_map vec_items bs ++ last) r (omega (arith, k, here)))
in_block (b ∷ bs) last (suc q) r i d h l k e =
    ap (λ xs. slice_get xs i) (append_assoc (vec_items b) (flat_map vec_items bs) last)
    ∙ right (vec_items b) (flat_map vec_items bs ++ last) 2048 i (q * 2048 + r) (All-head IsFull b bs h)
    (omega (arith, e))
    ∙ in_block bs last q r (q * 2048 + r) d (All-tail IsFull b bs h) (omega (arith, l)) k refl

-- an entry of a full block
pub found_in_block : (full : List Block) (last : List Kept) (i : ℕ) (d : Block) → All IsFull full
    → i / 2048 < length full
    → slice_get (joined full last) i ≡ slice_get (vec_items (get_or full (i / 2048) d)) (i % 2048)
unfolding joined
found_in_block full last i d h l =
    in_block full last (i / 2048) (i % 2048) i d h l (mod-lt i (lit< tt)) (sym (div-add-mod' i 2048))

-- an entry of the last block
pub found_behind : (full : List Block) (last : List Kept) (i : ℕ) → All IsFull full → length full ≤ i / 2048
    → slice_get (joined full last) i ≡ slice_get last (i - length full * 2048)
unfolding joined
found_behind full last i h l =
    right (flat_map vec_items full) last (length full * 2048) i (i - length full * 2048) (filled full h)
    (omega (arith, l, div-add-mod' i 2048))

-- Entries whose objects are written into consecutive pieces of the target.
use Rattle.std.proofs.Common.{◌≡◌, ℕ, suc, ◌+◌, ◌-◌, ◌%◌, ◌≤◌, List, ◌++◌, length, take, drop, Some, Bool, true, false}
use Rattle.std.proofs.Common.{cond}
use Rattle.std.proofs.Common.{sym, ap, ◌∙◌, arith}
use Rattle.std.specs.List.{slice_get}
use Rattle.std.proofs.lemmas.List.{append_assoc, length-append, take-append-drop}
use Rattle.model.specs.declared.records.Forwarding.{Forwarding}
use Rattle.model.specs.Stores.{overlay}
use Rattle.pieces.specs.Pieces.{SourceState, words_at, laid_by, laid_from}
use Rattle.pieces.proofs.Cuts.{laid_on, length_cut}
use Rattle.pieces.proofs.Overlays.{overlaid_all, overlaid_front, overlaid_back}

-- an object is written into its piece
laid_piece : (s : SourceState) (f : Forwarding) (at : ℕ) (a here rest new : List ℕ) → f.to % s.size ≡ at + length a
    → length here ≡ length (words_at s f.offset) → new ≡ cond f.copied here (words_at s f.offset)
    → laid_by s at (Some f) (a ++ (here ++ rest)) ≡ a ++ (new ++ rest)
laid_piece s f at a here rest new p n e = by_copied f.copied e
  where
    xs : List ℕ
    xs = words_at s f.offset

    by_copied : (b : Bool) → new ≡ cond b here xs
        → cond b (a ++ (here ++ rest)) (overlay (a ++ (here ++ rest)) (f.to % s.size - at) xs) ≡ a ++ (new ++ rest)
    by_copied true z = ap (λ l. a ++ (l ++ rest)) (sym z)
    by_copied false z = overlaid_back a (here ++ rest) (f.to % s.size - at) 0 xs (omega (arith, p))
        ∙ ap (λ l. a ++ l) (overlaid_front here rest 0 xs (omega (arith, n)))
        ∙ ap (λ l. a ++ (l ++ rest)) (overlaid_all here xs (sym n) ∙ sym z)

-- the object of an entry, and those of others after it
pub laid_next : (s : SourceState) (f : Forwarding) (at e k r : ℕ) (front gap here rest new more : List ℕ) → k ≡ suc r
    → slice_get s.side e ≡ Some f → f.to % s.size ≡ at + length (front ++ gap)
    → length here ≡ length (words_at s f.offset) → new ≡ cond f.copied here (words_at s f.offset)
    → laid_from s at (e + 1) r (((front ++ gap) ++ new) ++ rest) ≡ ((front ++ gap) ++ new) ++ more
    → laid_from s at e k (front ++ (gap ++ (here ++ rest))) ≡ front ++ (gap ++ (new ++ more))
laid_next s f at e k r front gap here rest new more h there p n z others =
    let ws : List ℕ = front ++ (gap ++ (here ++ rest)) in
    let a : List ℕ = front ++ gap in
    ap (λ m. laid_from s at e m ws) h
    ∙ ap (λ o. laid_from s at (e + 1) r (laid_by s at o ws)) there
    ∙ ap (λ l. laid_from s at (e + 1) r (laid_by s at (Some f) l)) (sym (append_assoc front gap (here ++ rest)))
    ∙ ap (laid_from s at (e + 1) r) (laid_piece s f at a here rest new p n z ∙ sym (append_assoc a new rest))
    ∙ others
    ∙ append_assoc a new more
    ∙ append_assoc front gap (new ++ more)

parted : (n m : ℕ) (ws gap rest here behind : List ℕ) → gap ≡ take n ws → rest ≡ drop n ws → here ≡ take m rest
    → behind ≡ drop m rest → ws ≡ gap ++ (here ++ behind)
parted n m ws gap rest here behind a b c d =
    let whole : here ++ behind ≡ rest = (λ i. c i ++ d i) ∙ take-append-drop m rest in
    sym (ap (λ l. gap ++ l) whole ∙ (λ i. a i ++ b i) ∙ take-append-drop n ws)

length_filled : (c : Bool) (here words new : List ℕ) → length here ≡ length words → new ≡ cond c here words
    → length new ≡ length words
length_filled true here words new n e = ap length e ∙ n
length_filled false here words new n e = ap length e

-- the same, with pieces cut off the rest of the target
pub laid_stretch : (s : SourceState) (f : Forwarding) (at base e k r place n : ℕ)
    (front ws gap rest here behind words new more : List ℕ) → base ≡ at + length front → k ≡ suc r
    → slice_get s.side e ≡ Some f → place ≡ f.to % s.size → base ≤ place → n ≡ place - base → n ≤ length ws
    → gap ≡ take n ws → rest ≡ drop n ws → length words ≤ length rest → here ≡ take (length words) rest
    → behind ≡ drop (length words) rest → words ≡ words_at s f.offset → new ≡ cond f.copied here words
    → ((before : List ℕ) → place + length words ≡ at + length before
    → laid_from s at (e + 1) r (before ++ behind) ≡ before ++ more)
    → laid_from s at e k (front ++ ws) ≡ front ++ (gap ++ (new ++ more))
laid_stretch s f at base e k r place n front ws gap rest here behind words new more z h there p low q fits a b long c d
    w
    fill others =
    let cut : length gap ≡ n = ap length a ∙ length_cut n ws fits in
    let same : length here ≡ length words = ap length c ∙ length_cut (length words) rest long in
    let new_long : length new ≡ length words = length_filled f.copied here words new same fill in
    let at_gap : length (front ++ gap) ≡ length front + length gap = length-append front gap in
    let at_new : length ((front ++ gap) ++ new) ≡ length (front ++ gap) + length new = length-append (front ++ gap)
    new in
    ap (λ l. laid_from s at e k (front ++ l)) (parted n (length words) ws gap rest here behind a b c d)
    ∙ laid_next s f at e k r front gap here behind new more h there (omega (arith, z, p, low, q, cut, at_gap))
    (same ∙ ap length w) (fill ∙ ap (λ l. cond f.copied here l) w)
    (others ((front ++ gap) ++ new) (omega (arith, z, low, q, cut, at_gap, at_new, new_long)))

-- none was written
pub laid_none_yet : (s : SourceState) (base e k : ℕ) (ws new : List ℕ) → k ≡ 0 → laid_from s base e k ws ≡ new → new
    ≡ ws
laid_none_yet s base e k ws new h z = sym z ∙ ap (λ m. laid_from s base e m ws) h

-- j entries are copied, and then the others
pub laid_further : (s : SourceState) (base e d j k m : ℕ) (ws new : List ℕ) → m ≡ j + k → d ≡ e + j
    → new ≡ laid_from s base e j ws → laid_from s base e m ws ≡ laid_from s base d k new
laid_further s base e d j k m ws new a b c = ap (λ n. laid_from s base e n ws) a ∙ laid_on s base e j k ws
    ∙ ap (laid_from s base (e + j) k) (sym c) ∙ ap (λ n. laid_from s base n k new) (sym b)

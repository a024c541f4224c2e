-- An object written at the head of a lent part is written over the page's words.
use Rattle.std.proofs.Common.{◌≡◌, ℕ, ◌+◌, ◌-◌, ◌<◌, ◌≤◌, List, ◌∷◌, ◌++◌, length, take, drop}
use Rattle.std.proofs.Common.{Option, Some, None, refl, sym, ◌∙◌, ap, subst, arith, append_assoc}
use Rattle.std.proofs.Common.{length-drop, length-append, rules, set, replicate, suc, is_some}
use Rattle.std.proofs.Math.ListN.{length-replicate}
use Rattle.std.specs.List.{slice_get, slice_range}
use Rattle.std.specs.Option.{IfSome, IsSome}
use Rattle.std.proofs.lemmas.List.{length-take-le, drop-take, drop-drop, take-append-drop}
use Rattle.refword.specs.Words.{IsAddress}
use Rattle.model.specs.declared.records.Buffer.{Buffer}
use Rattle.model.specs.Stores.{StoreState, overlay, with_words, words_at, page_at, frame_in, changed_in, changed_frame}
use Rattle.model.specs.Owning.{IsStore, LiesIn}
use Rattle.model.proofs.Memory.{length_overlaid, words_in, words_sized}
use Rattle.pieces.proofs.Overlays.{overlaid_all}

-- two changes that do the same to a page's words
same_words : (s : StoreState) (n : ℕ) (f g : List ℕ → List ℕ) → IfSome (words_at s n) (λ ws. f ws ≡ g ws)
    → with_words s n f ≡ with_words s n g
unfolding with_words words_at
same_words s n f g h = ap (λ fs. record s { frames = fs }) (by_frame (frame_in (page_at s n)) refl)
  where
    by_words : (x : ℕ) → frame_in (page_at s n) ≡ Some x → (o : Option (List ℕ)) → slice_get s.frames x ≡ o
        → changed_frame s.frames x o f ≡ changed_frame s.frames x o g
    by_words x e None a = refl
    by_words x e (Some ws) a = let there : words_in s.frames (Some x) ≡ Some ws = a in
        let k : IfSome (words_in s.frames (frame_in (page_at s n))) (λ v. f v ≡ g v) = h in
        ap (set s.frames x) (rw (e, a) at k)

    by_frame : (o : Option ℕ) → frame_in (page_at s n) ≡ o → changed_in s.frames o f ≡ changed_in s.frames o g
    by_frame None e = refl
    by_frame (Some x) e = by_words x e (slice_get s.frames x) refl

rest_behind : (xs rest : List ℕ) (m j : ℕ) → m ≡ length xs → m + j ≤ length rest
    → (xs ++ drop (length xs) (take (m + j) rest)) ++ drop (length (xs ++ drop (length xs) (take (m + j) rest))) rest
    ≡ xs ++ drop (length xs) rest
rest_behind xs rest m j e h =
    let cut : drop (length xs) (take (m + j) rest) ≡ take j (drop m rest) =
    ap (λ n. drop n (take (m + j) rest)) (sym e) ∙ drop-take m j rest in
    let size : length (xs ++ take j (drop m rest)) ≡ m + j = length-append xs (take j (drop m rest)) ∙ sized in
    let back : take j (drop m rest) ++ drop (m + j) rest ≡ drop (length xs) rest =
    ap (λ ys. take j (drop m rest) ++ ys) (sym (drop-drop j m rest)) ∙ take-append-drop j (drop m rest)
    ∙ ap (λ n. drop n rest) e in
    rw cut (rw size (append_assoc xs (take j (drop m rest)) (drop (m + j) rest) ∙ ap (λ ys. xs ++ ys) back))
  where
    sized : length xs + length (take j (drop m rest)) ≡ m + j
    sized = omega (arith, e, length-take-le j (drop m rest) (omega (arith, length-drop m rest)))

-- what was written at the head of a lent part is written over the words
overlaid_part : (ws xs : List ℕ) (o end : ℕ) → o + length xs ≤ end → end ≤ length ws
    → overlay ws o (xs ++ drop (length xs) (slice_range ws o end)) ≡ overlay ws o xs
overlaid_part ws xs o end low high =
    let m = length xs in
    let j = end - o - m in
    let size : m + j ≡ end - o = omega arith in
    let same = rest_behind xs (drop o ws) m j refl (omega (arith, length-drop o ws)) in
    let under : ℕ → List ℕ = λ k. xs ++ drop (length xs) (take k (drop o ws)) in
    let behind =
    subst (λ k. under k ++ drop (length (under k)) (drop o ws) ≡ xs ++ drop (length xs) (drop o ws)) size same in
    ap (λ ys. take (length ws) (take o ws ++ ys)) behind

-- a part that was lent, with others written at its head
pub written : (s : StoreState) (b : Buffer) (part xs : List ℕ) → IsStore s → LiesIn s b → length xs ≤ b.end - b.next
    → IfSome (words_at s b.page) (λ ws. part ≡ slice_range ws b.next b.end) → with_words s b.page
    (λ ws. overlay ws b.next (xs ++ drop (length xs) part)) ≡ with_words s b.page (λ ws. overlay ws b.next xs)
written s b part xs h l room e = same_words s b.page _ _ (by_words (words_at s b.page) refl e)
  where
    by_words : (o : Option (List ℕ)) → words_at s b.page ≡ o → IfSome o (λ ws. part ≡ slice_range ws b.next b.end)
        → IfSome o (λ ws. overlay ws b.next (xs ++ drop (length xs) part) ≡ overlay ws b.next xs)
    by_words None a k = search rules
    by_words (Some ws) a k =
        let size = words_sized s b.page ws h a in
        ap (λ p. overlay ws b.next (xs ++ drop (length xs) p)) k
        ∙ overlaid_part ws xs b.next b.end (omega (arith, room, l.order)) (omega (arith, l.end, size))

-- a new object's words, written at the head of the part
pub written_object : (s : StoreState) (b : Buffer) (part final : List ℕ) (header others : ℕ) → IsStore s → LiesIn s b
    → others < b.end - b.next → IfSome (words_at s b.page) (λ ws. part ≡ slice_range ws b.next b.end)
    → final ≡ (header ∷ replicate others 0) ++ drop (1 + others) part → with_words s b.page
    (λ ws. overlay ws b.next final) ≡ with_words s b.page (λ ws. overlay ws b.next (header ∷ replicate others 0))
written_object s b part final header others h l room e k =
    let xs : List ℕ = header ∷ replicate others 0 in
    let zeros : length (replicate {A = ℕ} others 0) ≡ others = length-replicate others 0 in
    let size : length xs ≡ 1 + others = ap suc zeros ∙ one others in
    let final_is : final ≡ xs ++ drop (length xs) part = k ∙ ap (λ n. xs ++ drop n part) (sym size) in
    ap (λ p. with_words s b.page (λ ws. overlay ws b.next p)) final_is
    ∙ written s b part xs h l (omega (arith, size, room)) e
  where
    one : (n : ℕ) → suc n ≡ 1 + n
    one n = omega arith

pub address_found : (o : Option ℕ) (n : ℕ) → (IsAddress n → o ≡ Some n) → IsAddress n → IsSome o
address_found o n h a = ap is_some (h a)

-- words of a page that was lent, with others written over them
pub overlaid_page : (s : StoreState) (n start : ℕ) (ws new xs : List ℕ) → words_at s n ≡ Some ws
    → new ≡ overlay ws start xs → with_words s n (λ us. overlay us 0 new) ≡ with_words s n (λ us. overlay us start xs)
overlaid_page s n start ws new xs at is =
    same_words s n (λ us. overlay us 0 new) (λ us. overlay us start xs)
    (subst (λ (o : Option (List ℕ)). IfSome o (λ us. overlay us 0 new ≡ overlay us start xs)) (sym at)
    (overlaid_all ws new (ap length is ∙ length_overlaid ws start xs) ∙ is))

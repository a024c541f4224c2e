-- What parts have sent is taken in by the parts whose pages it leads to.
use Rattle.std.proofs.Common.{◌≡◌, inr, ℕ, zero, suc, ◌+◌, ◌-◌, ◌/◌, ◌%◌, ◌≤◌, ◌<◌, ◌&&◌, true, false, Bool}
use Rattle.std.proofs.Common.{List, [], ◌∷◌, ◌++◌, get_or, set, length, nat_lt, Option, Some, None, refl, sym, ◌∙◌, ap}
use Rattle.std.proofs.Common.{arith, subst}
use Rattle.std.specs.List.{slice_get}
use Rattle.std.specs.Prelude.{if◌then◌else◌}
use Rattle.std.proofs.lemmas.Bool.{true≢false}
use Rattle.std.proofs.lemmas.Bool.Decides.{nat_tests}
use Rattle.std.proofs.lemmas.Option.{get_or_from_slice_get}
use Rattle.model.specs.Bits.{bit_at, put_bit, with_bit, of_page}
use Rattle.model.specs.Holding.{IsHeap}
use Rattle.model.specs.Owning.{IsStore}
use Rattle.model.specs.States.{Reference, HeapState, change_at, change_found}
use Rattle.page.specs.declared.owned.OwnedPage.{OwnedPage}
use Rattle.page.specs.declared.owned.Part.{Part}
use Rattle.page.proofs.Copied.{same_set}
use Rattle.part_scans.specs.Scenes.{SceneState, scene_of}
use Rattle.part_scans.specs.Scans.{AreScanned, Scans, all_taken, mark_on, mark_own, mark_target, own_index, send_other}
use Rattle.part_scans.specs.Scans.{send_target}
use Rattle.heap.specs.Owning.{AllScanned, AreLent, ArePagesOf, ArePlaced, ScansParts, put_pages, put_parts}
use Rattle.waves.specs.Waves.{applied}
use Rattle.waves.specs.Parts.{AreBare, AreJoined, AreSent, FitsPages, sent_to}
use Rattle.waves.proofs.Composing.{page_stays, pages_fit, pages_same, put_heap, put_records, put_scene, put_store, put_words}
use Rattle.waves.proofs.Folding.{nothing_applied}
use Rattle.waves.proofs.Notes.{sent_both}
use Rattle.waves.proofs.PartObjects.{append_assoc}
use Rattle.waves.proofs.PartsDone.{lent_apart, parts_words}
use Rattle.waves.proofs.Placed.{frames_distinct, pages_placed, placed}
use Rattle.waves.proofs.Scanning.{Moves, target_moves}
use Rattle.waves.proofs.Sent.{sent_then}

-- ---- one part

-- what a part leaves of some notes
abbrev all_left : SceneState → ℕ → ℕ → List Reference → List Reference
all_left s first n [] = []
all_left s first n (v ∷ vs) = send_target s first n v ++ all_left s first n vs

-- a heap with the pages of a part, and what is left
record Takes (h : HeapState) (first : ℕ) (ps : List OwnedPage) (ns vs : List Reference) : Type 0 where
  pub same : sent_to (placed h first ps) (ns ++ vs)
      ≡ sent_to (placed h first (all_taken (scene_of h) first ps vs)) (ns ++ all_left (scene_of h) first (length ps) vs)
  pub fits : FitsPages h first (all_taken (scene_of h) first ps vs)
  pub many : length (all_taken (scene_of h) first ps vs) ≡ length ps

is_low : (a b : ℕ) → a < b → nat_lt a b ≡ true
is_low a b l = grind (arith, nat_tests)

not_low : (a b : ℕ) → b ≤ a → nat_lt a b ≡ false
not_low a b l = grind (arith, nat_tests)

low_is : (a b : ℕ) → nat_lt a b ≡ true → a < b
low_is a b e = grind (arith, nat_tests)

low_not : (a b : ℕ) → nat_lt a b ≡ false → b ≤ a
low_not a b e = grind (arith, nat_tests)

takes_next : (h : HeapState) (first t : ℕ) (ps qs : List OwnedPage) (ns ms vs : List Reference)
    → qs ≡ mark_target (scene_of h) first ps (Some (t, false))
    → ms ≡ send_target (scene_of h) first (length ps) (Some (t, false))
    → Moves h first ps ns (sent_to (placed h first ps) (ns ++ (Some (t, false) ∷ []))) qs ms
    → Takes h first qs (ns ++ ms) vs → Takes h first ps ns (Some (t, false) ∷ vs)
takes_next h first t ps qs ns ms vs d e one rest = record {
  same = ap (sent_to (placed h first ps)) (sym (append_assoc ns (Some (t, false) ∷ []) vs))
      ∙ sym (sent_then (placed h first ps) (ns ++ (Some (t, false) ∷ [])) vs)
      ∙ ap (λ g. sent_to g vs) one.same
      ∙ sent_then (placed h first qs) (ns ++ ms) vs
      ∙ rest.same
      ∙ ap (λ n. sent_to (placed h first (all_taken s first qs vs)) ((ns ++ ms) ++ all_left s first n vs)) one.many
      ∙ ap (sent_to (placed h first (all_taken s first qs vs))) (append_assoc ns ms (all_left s first (length ps) vs))
      ∙ (λ j. sent_to (placed h first (all_taken s first (d j) vs)) (ns ++ (e j ++ all_left s first (length ps) vs)));
  fits = subst (λ us. FitsPages h first (all_taken s first us vs)) d rest.fits;
  many = ap (λ us. length (all_taken s first us vs)) (sym d) ∙ rest.many ∙ one.many;
}
  where
    s : SceneState
    s = scene_of h

notes_taken : (h : HeapState) (first : ℕ) (ps : List OwnedPage) (ns vs : List Reference) → IsHeap h
    → FitsPages h first ps → AreSent h.store.words ns → AreSent h.store.words vs → Takes h first ps ns vs
notes_taken h first ps ns [] heap fits k l = record { same = refl; fits = fits; many = refl }
notes_taken h first ps ns (None ∷ vs) heap fits k l = absurd (true≢false l)
notes_taken h first ps ns (Some (t, true) ∷ vs) heap fits k l = absurd (true≢false l)
notes_taken h first ps ns (Some (t, false) ∷ vs) heap fits k l =
    let ms : List Reference = send_target (scene_of h) first (length ps) (Some (t, false)) in
    let one = target_moves h first ps ns (Some (t, false)) heap fits k (is_low 0 (t / h.store.words) l.0) in
    takes_next h first t ps (mark_target (scene_of h) first ps (Some (t, false))) ns ms vs refl refl one
    (notes_taken h first (mark_target (scene_of h) first ps (Some (t, false))) (ns ++ ms) vs heap one.fits
    (sent_both h.store.words ns ms k one.sent) l.1)

-- ---- notes of pages from one on

-- the note, if the index of its page's record is not below a number
abbrev note_from : ℕ → ℕ → Reference → List Reference
note_from w low None = []
note_from w low (Some x) = if nat_lt low (x.0 / w) then Some x ∷ [] else []

abbrev notes_from : ℕ → ℕ → List Reference → List Reference
notes_from w low [] = []
notes_from w low (v ∷ vs) = note_from w low v ++ notes_from w low vs

from_first : (w : ℕ) (vs : List Reference) → AreSent w vs → notes_from w 0 vs ≡ vs
from_first w [] k = refl
from_first w (None ∷ vs) k = absurd (true≢false k)
from_first w (Some (t, true) ∷ vs) k = absurd (true≢false k)
from_first w (Some (t, false) ∷ vs) k =
    ap (λ b. (if b then Some (t, false) ∷ [] else []) ++ notes_from w 0 vs) (is_low 0 (t / w) k.0)
    ∙ ap (λ us. Some (t, false) ∷ us) (from_first w vs k.1)

from_sent : (w low : ℕ) (vs : List Reference) → AreSent w vs → AreSent w (notes_from w low vs)
from_sent w low [] k = tt
from_sent w low (None ∷ vs) k = absurd (true≢false k)
from_sent w low (Some (t, true) ∷ vs) k = absurd (true≢false k)
from_sent w low (Some (t, false) ∷ vs) k = by_test (nat_lt low (t / w)) (from_sent w low vs k.1)
  where
    by_test : (b : Bool) → AreSent w (notes_from w low vs)
        → AreSent w ((if b then Some (t, false) ∷ [] else []) ++ notes_from w low vs)
    by_test true rest = (k.0, rest)
    by_test false rest = rest

-- notes of earlier pages change nothing on these
earlier_taken : (s : SceneState) (low : ℕ) (ps : List OwnedPage) (vs : List Reference) → AreSent s.words vs
    → all_taken s low ps vs ≡ all_taken s low ps (notes_from s.words low vs)
unfolding mark_own
earlier_taken s low ps [] k = refl
earlier_taken s low ps (None ∷ vs) k = absurd (true≢false k)
earlier_taken s low ps (Some (t, true) ∷ vs) k = absurd (true≢false k)
earlier_taken s low ps (Some (t, false) ∷ vs) k =
    by_test (nat_lt low (t / s.words)) refl (λ us. earlier_taken s low us vs k.1)
  where
    other : nat_lt low (t / s.words) ≡ false → mark_own s low ps t ≡ ps
    other e = ap (λ b. if b && nat_lt (own_index s low t) (length ps)
        then change_at ps (own_index s low t) (mark_on (t % s.words)) else ps) e

    by_test : (b : Bool) → nat_lt low (t / s.words) ≡ b
        → ((us : List OwnedPage) → all_taken s low us vs ≡ all_taken s low us (notes_from s.words low vs))
        → all_taken s low (mark_own s low ps t) vs
        ≡ all_taken s low ps ((if b then Some (t, false) ∷ [] else []) ++ notes_from s.words low vs)
    by_test true e rest = rest (mark_own s low ps t)
    by_test false e rest = ap (λ us. all_taken s low us vs) (other e) ∙ rest ps

-- what a part leaves of notes from its first page on leads to pages after its last one
left_later : (s : SceneState) (low n : ℕ) (vs : List Reference) → AreSent s.words vs
    → all_left s low n (notes_from s.words low vs) ≡ notes_from s.words (low + n) vs
unfolding send_other
left_later s low n [] k = refl
left_later s low n (None ∷ vs) k = absurd (true≢false k)
left_later s low n (Some (t, true) ∷ vs) k = absurd (true≢false k)
left_later s low n (Some (t, false) ∷ vs) k =
    by_test (nat_lt low (t / s.words)) refl (nat_lt (own_index s low t) n) refl (left_later s low n vs k.1)
  where
    later : List Reference
    later = notes_from s.words (low + n) vs

    page : ℕ
    page = t / s.words

    send_is : nat_lt low page ≡ true → (c : Bool) → nat_lt (own_index s low t) n ≡ c
        → send_other s low n t ≡ (if c then [] else Some (t, false) ∷ [])
    send_is e c f = (λ j. if e j && f j then [] else Some (t, false) ∷ [])

    by_test : (b : Bool) → nat_lt low page ≡ b → (c : Bool) → nat_lt (own_index s low t) n ≡ c
        → all_left s low n (notes_from s.words low vs) ≡ later
        → all_left s low n ((if b then Some (t, false) ∷ [] else []) ++ notes_from s.words low vs)
        ≡ (if nat_lt (low + n) page then Some (t, false) ∷ [] else []) ++ later
    by_test false e c f rest =
        let l = low_not low page e in
        rest ∙ ap (λ x. (if x then Some (t, false) ∷ [] else []) ++ later)
        (sym (not_low (low + n) page (omega (arith, l))))
    by_test true e true f rest =
        let b : page - 1 - low < n = low_is (own_index s low t) n f in
        ap (λ x. x ++ all_left s low n (notes_from s.words low vs)) (send_is e true f)
        ∙ rest
        ∙ ap (λ x. (if x then Some (t, false) ∷ [] else []) ++ later)
        (sym (not_low (low + n) page (omega (arith, low_is low page e, b))))
    by_test true e false f rest =
        let b : n ≤ page - 1 - low = low_not (own_index s low t) n f in
        ap (λ x. x ++ all_left s low n (notes_from s.words low vs)) (send_is e false f)
        ∙ ap (λ x. (Some (t, false) ∷ []) ++ x) rest
        ∙ ap (λ x. (if x then Some (t, false) ∷ [] else []) ++ later)
        (sym (is_low (low + n) page (omega (arith, low_is low page e, b))))

-- ---- pages without bitmaps

row_bare : (rows : List (List Bool)) (i o : ℕ) (b : Bool) → get_or rows i [] ≡ [] → change_at rows i (put_bit o b) ≡ rows
row_bare rows i o b e = by_row (slice_get rows i) refl
  where
    by_row : (f : Option (List Bool)) → slice_get rows i ≡ f → change_found rows i f (put_bit o b) ≡ rows
    by_row None z = refl
    by_row (Some row) z =
        let none : row ≡ [] = sym (get_or_from_slice_get rows i row [] z) ∙ e in
        ap (λ r. set rows i (put_bit o b r)) none
        ∙ same_set rows i [] (z ∙ ap Some none)

bare_bit : (rows : List (List Bool)) (w t n : ℕ) → n < t / w → ((j : ℕ) → n ≤ j → get_or rows j [] ≡ [])
    → bit_at rows w t ≡ false
bare_bit rows w t n l k = by_page (t / w) l
  where
    by_page : (m : ℕ) → n < m → get_or (of_page rows m) (t % w) false ≡ false
    by_page zero l = absurd (omega (arith, l))
    by_page (suc m) l = ap (λ r. get_or r (t % w) false) (k m (omega (arith, l)))

bare_note : (h : HeapState) (n t : ℕ) → AreBare h n → n < t / h.store.words → sent_to h (Some (t, false) ∷ []) ≡ h
unfolding applied
bare_note h n t k l =
    let w = h.store.words in
    let m : n ≤ t / w - 1 = omega (arith, l) in
    let mark = row_bare h.mark (t / w - 1) (t % w) true (k (t / w - 1) m).0 in
    let todo : (if bit_at h.mark w t then h.todo else with_bit h.todo w t true) ≡ h.todo =
    ap (λ b. if b then h.todo else with_bit h.todo w t true) (bare_bit h.mark w t n l (λ j d. (k j d).0))
    ∙ row_bare h.todo (t / w - 1) (t % w) true (k (t / w - 1) m).1 in
    λ z. record h { mark = mark z; todo = todo z }

bare_notes : (h : HeapState) (n : ℕ) (vs : List Reference) → AreBare h n → AreSent h.store.words vs
    → sent_to h (notes_from h.store.words n vs) ≡ h
bare_notes h n [] k l = nothing_applied h
bare_notes h n (None ∷ vs) k l = absurd (true≢false l)
bare_notes h n (Some (t, true) ∷ vs) k l = absurd (true≢false l)
bare_notes h n (Some (t, false) ∷ vs) k l =
    by_test (nat_lt n (t / h.store.words)) refl (bare_notes h n vs k l.1)
  where
    rest : List Reference
    rest = notes_from h.store.words n vs

    by_test : (b : Bool) → nat_lt n (t / h.store.words) ≡ b → sent_to h rest ≡ h
        → sent_to h ((if b then Some (t, false) ∷ [] else []) ++ rest) ≡ h
    by_test false e none = none
    by_test true e none = sym (sent_then h (Some (t, false) ∷ []) rest)
        ∙ ap (λ g. sent_to g rest) (bare_note h n t k (low_is n (t / h.store.words) e))
        ∙ none

bare_put : (h : HeapState) (i n : ℕ) (ps : List OwnedPage) → IsStore h.store → i + length ps ≤ n → AreBare h n
    → AreBare (put_pages h i ps) n
bare_put h i n ps s l k = subst (λ (g : HeapState). AreBare g n) (sym (pages_placed h i ps (frames_distinct h.store s)))
    (λ j d. let same = page_stays h i j ps s (inr (omega (arith, l, d))) in (
      ap (λ (p : OwnedPage). p.marked) same ∙ (k j d).0,
      ap (λ (p : OwnedPage). p.grey) same ∙ (k j d).1,
    ))

-- ---- several parts

joined_end : (n low : ℕ) (ps : List Part) → AreJoined n low ps → low ≤ n
joined_end n low [] k = omega (arith, k)
joined_end n low (p ∷ ps) k = let l = joined_end n (p.first + length p.pages.items) ps k.1 in omega (arith, k.0, l)

none_scanned : (s : SceneState) (first n : ℕ) (ps : List OwnedPage) (sent : List Reference) (qs : List OwnedPage)
    (after : List Reference) → AreScanned s first n ps sent qs after → n ≤ 0 → qs ≡ ps
none_scanned s first n ps sent qs after k l = by_places k.places (omega (arith, k.count, l)) k.scans
  where
    by_places : (xs : List (ℕ × ℕ × ℕ)) → length xs ≡ 0 → Scans s first xs ps sent qs after → qs ≡ ps
    by_places [] e z = z.0
    by_places (x ∷ xs) e z = absurd (omega (arith, e))

joined_placed : (n low : ℕ) (ps : List Part) → AreJoined n low ps → ArePlaced n low ps
joined_placed n low [] k = omega (arith, k)
joined_placed n low (p ∷ ps) k = (omega (arith, k.0), joined_placed n (p.first + length p.pages.items) ps k.1)

-- the heap with the pages of a part, which has taken in what leads to them
record PartTaken (h : HeapState) (low : ℕ) (notes : List Reference) (xs qs : List OwnedPage) : Type 0 where
  pub same : sent_to h (notes_from h.store.words low notes)
      ≡ sent_to (put_pages h low qs) (notes_from h.store.words (low + length xs) notes)
  pub fits : FitsPages h low qs
  pub many : length qs ≡ length xs

part_taken : (h : HeapState) (low : ℕ) (notes : List Reference) (xs qs : List OwnedPage) → IsStore h.store → IsHeap h
    → AreSent h.store.words notes → low + length xs ≤ length h.store.pages → ArePagesOf h low xs
    → qs ≡ all_taken (scene_of h) low xs notes → PartTaken h low notes xs qs
part_taken h low notes xs qs s i k m l d =
    let ms : List Reference = notes_from h.store.words low notes in
    let done : qs ≡ all_taken (scene_of h) low xs ms = d ∙ earlier_taken (scene_of h) low xs notes k in
    let fit = pages_fit h low xs m l in
    let takes = notes_taken h low xs [] ms i fit tt (from_sent h.store.words low notes k) in
    record {
      same = ap (λ u. sent_to u ms) (sym (pages_same h low xs s l) ∙ pages_placed h low xs (frames_distinct h.store s))
          ∙ takes.same
          ∙ (λ z. sent_to (placed h low (sym done z)) (left_later (scene_of h) low (length xs) notes k z))
          ∙ ap (λ u. sent_to u (notes_from h.store.words (low + length xs) notes))
          (sym (pages_placed h low qs (frames_distinct h.store s)));
      fits = subst (λ us. FitsPages h low us) (sym done) takes.fits;
      many = ap length done ∙ takes.many;
    }

-- parts have taken in what leads to their pages, and what is left leads to later ones
record AreTaken (h : HeapState) (low end : ℕ) (notes : List Reference) (qs : List Part) : Type 0 where
  pub same : sent_to h (notes_from h.store.words low notes)
      ≡ sent_to (put_parts h qs) (notes_from h.store.words end notes)
  pub bare : AreBare (put_parts h qs) end

parts_taken : (h : HeapState) (low end : ℕ) (notes : List Reference) (ps ls qs : List Part) → IsStore h.store
    → IsHeap h → AreSent h.store.words notes → AreJoined end low ps → end ≤ length h.store.pages → AreBare h end
    → AreLent h ps ls → AllScanned (scene_of h) notes 0 ls qs → AreTaken h low end notes qs
parts_taken h low end notes [] [] [] s i k j m b l a = record {
  same = ap (λ n. sent_to h (notes_from h.store.words n notes)) j;
  bare = b;
}
parts_taken h low end notes [] [] (q ∷ qs) s i k j m b l a = absurd (cc)
parts_taken h low end notes [] (x ∷ ls) qs s i k j m b l a = absurd (cc)
parts_taken h low end notes (y ∷ ps) [] qs s i k j m b l a = absurd (cc)
parts_taken h low end notes (y ∷ ps) (x ∷ ls) [] s i k j m b l a = absurd (cc)
parts_taken h low end notes (y ∷ ps) (x ∷ ls) (q ∷ qs) s i k j m b l a =
    let w = h.store.words in
    let first : x.first ≡ low = ap (λ (z : Part). z.first) l.0 ∙ j.0 in
    let place : q.first ≡ low = a.0.first ∙ first in
    let next : ℕ = y.first + length y.pages.items in
    let ends : next ≤ end = joined_end end next ps j.1 in
    let done : q.pages.items ≡ all_taken (scene_of h) low x.pages.items notes =
    none_scanned (scene_of h) x.first q.scanned (all_taken (scene_of h) x.first x.pages.items notes) x.sent.items
    q.pages.items q.sent.items a.0.scans a.1
    ∙ ap (λ n. all_taken (scene_of h) n x.pages.items notes) first in
    let one = part_taken h low notes x.pages.items q.pages.items s i k (omega (arith, ends, l.1, m, j.0))
    (subst (λ n. ArePagesOf h n x.pages.items) j.0 l.2) done in
    let g : HeapState = put_pages h low q.pages.items in
    let rest = parts_taken g next end notes ps ls qs (put_store h low q.pages.items s one.fits)
    (put_heap h low q.pages.items s i one.fits)
    (subst (λ n. AreSent n notes) (sym (put_words h low q.pages.items)) k) j.1
    (subst (λ rs. end ≤ length rs) (sym (put_records h low q.pages.items)) m)
    (bare_put h low end q.pages.items s (omega (arith, one.many, l.1, ends, j.0)) b)
    (lent_apart h end next low q.pages.items ps ls s (omega (arith, one.many, l.1, j.0))
    (joined_placed end next ps j.1) l.3)
    (subst (λ t. AllScanned t notes 0 ls qs) (sym (put_scene h low q.pages.items)) a.2) in
    let there : low + length x.pages.items ≡ next = omega (arith, l.1, j.0) in
    record {
      same = one.same
          ∙ ap (λ n. sent_to g (notes_from w n notes)) there
          ∙ ap (λ n. sent_to g (notes_from n next notes)) (sym (put_words h low q.pages.items))
          ∙ rest.same
          ∙ ap (λ n. sent_to (put_parts g qs) (notes_from n end notes)) (put_words h low q.pages.items)
          ∙ ap (λ n. sent_to (put_parts (put_pages h n q.pages.items) qs) (notes_from w end notes)) (sym place);
      bare = subst (λ n. AreBare (put_parts (put_pages h n q.pages.items) qs) end) (sym place) rest.bare;
    }

-- the heap after parts have taken in what leads to their pages
pub taken_done : (h g : HeapState) (end : ℕ) (notes : List Reference) (ps qs : List Part) → IsStore h.store → IsHeap h
    → AreSent h.store.words notes → AreJoined end 0 ps → end ≤ length h.store.pages → AreBare h end
    → ScansParts h notes 0 ps g qs → g ≡ sent_to h notes
taken_done h g end notes ps qs s i k j m b e =
    let all = parts_taken h 0 end notes ps e.lent e.left s i k j m b e.pages e.scanned in
    e.heap
    ∙ sym (bare_notes (put_parts h e.left) end notes all.bare
    (subst (λ n. AreSent n notes) (sym (parts_words h e.left)) k))
    ∙ ap (λ n. sent_to (put_parts h e.left) (notes_from n end notes)) (parts_words h e.left)
    ∙ sym all.same
    ∙ ap (sent_to h) (from_first h.store.words notes k)

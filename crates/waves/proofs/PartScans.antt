-- What a part scans is a part of a drain.
use Rattle.std.proofs.Common.{◌≡◌, ℕ, suc, ◌+◌, ◌-◌, ◌*◌, ◌%◌, ◌<◌, ◌&&◌, not, true, false, is_some}
use Rattle.std.proofs.Common.{List, [], ◌∷◌, ◌++◌, get_or, length, Option, Some, None, refl, sym, ◌∙◌, ap, arith}
use Rattle.std.proofs.Common.{subst, subst₂}
use Rattle.std.specs.List.{list_any}
use Rattle.std.proofs.lemmas.Nat.{div-mul-add, mod-mul-add}
use Rattle.model.specs.declared.records.Scan.{Scan}
use Rattle.model.specs.Bits.{bit_at}
use Rattle.model.specs.Holding.{IsHeap}
use Rattle.model.specs.Owning.{IsStore}
use Rattle.model.specs.Scans.{is_scan_of, is_taken, is_free_todo}
use Rattle.model.specs.States.{Reference, HeapState}
use Rattle.waves.specs.Waves.{applied}
use Rattle.drains.specs.Drains.{scanned, ObjectsDone}
use Rattle.drains.proofs.Ended.{objects_next}
use Rattle.page.specs.declared.owned.OwnedPage.{OwnedPage}
use Rattle.part_scans.specs.Scenes.{scene_of}
use Rattle.part_scans.specs.Scans.{scan_own, send_words, Scans}
use Rattle.heap.specs.Owning.{put_pages}
use Rattle.waves.specs.Parts.{sent_to, FitsPages, AreSent}
use Rattle.waves.proofs.Folding.{append_none}
use Rattle.waves.proofs.Notes.{grey_stays, sent_both}
use Rattle.waves.proofs.Placed.{placed, IsOn, frames_distinct, grey_read, pages_placed}
use Rattle.waves.proofs.Fitting.{placed_store, placed_heap, sent_store, sent_heap}
use Rattle.waves.proofs.Scanning.{Moves}
use Rattle.waves.proofs.PartObjects.{append_assoc, grey_page, object_moves}

-- ---- one object

-- no worker has an object
none_taken : (a : ℕ) (ws : List (Option Scan)) → list_any is_some ws ≡ false → list_any (is_scan_of a) ws ≡ false
none_taken a [] e = refl
none_taken a (None ∷ ws) e = none_taken a ws e
none_taken a (Some s ∷ ws) e = absurd (cc)

free_by : (g : HeapState) (a : ℕ) → bit_at g.todo g.store.words a ≡ true → list_any is_some g.workers ≡ false
    → is_free_todo g a ≡ true
unfolding is_free_todo is_taken
free_by g a e none =
    ap (λ b. b && not (list_any (is_scan_of a) g.workers)) e ∙ ap (λ b. not b) (none_taken a g.workers none)

free_sent : (g : HeapState) (a : ℕ) (ns : List Reference) → AreSent g.store.words ns
    → bit_at g.todo g.store.words a ≡ true → list_any is_some g.workers ≡ false → is_free_todo (sent_to g ns) a ≡ true
unfolding applied
free_sent g a ns sent e none = free_by (sent_to g ns) a (grey_stays g a ns sent e) none

-- the place of an object
place_on : (w first i o : ℕ) → o < w → IsOn w first i ((first + i + 1) * w + o)
place_on w first i o l =
    let page = div-mul-add (first + i + 1) w o l in
    record {
      low = subst (λ n. 0 < n) (sym page) (omega arith);
      page = ap (λ n. n - 1) page ∙ last (first + i);
    }
  where
    last : (n : ℕ) → n + 1 - 1 ≡ n
    last n = omega arith

-- ---- all objects

-- what was done: some objects of a drain, from one heap to another with these pages and notes
pub record PartDone (f : HeapState) (w m : ℕ) (h : HeapState) (first : ℕ) (qs : List OwnedPage)
    (before after : List Reference) : Type 0 where
  pub done : ObjectsDone f w m (sent_to (placed h first qs) (before ++ after))
  pub fits : FitsPages h first qs
  pub sent : AreSent h.store.words after

pub objects_done : (f h : HeapState) (w m first : ℕ) (xs : List (ℕ × ℕ × ℕ)) (ps qs : List OwnedPage)
    (before own after : List Reference) → ObjectsDone f w m (sent_to (placed h first ps) (before ++ own))
    → IsStore h.store → IsHeap h → list_any is_some h.workers ≡ false → FitsPages h first ps
    → AreSent h.store.words before → AreSent h.store.words own → Scans (scene_of h) first xs ps own qs after
    → PartDone f w (m + length xs) h first qs before after
objects_done f h w m first [] ps qs before own after d s heap none fits sent k e =
    subst₂ (λ (ys : List OwnedPage) (ns : List Reference). PartDone f w (m + 0) h first ys before ns)
    (sym e.0) (sym e.1)
    (record {
      done = subst (λ n. ObjectsDone f w n (sent_to (placed h first ps) (before ++ own))) (omega arith) d;
      fits = fits;
      sent = k;
    })
objects_done f h w m first (x ∷ xs) ps qs before own after d s heap none fits sent k e =
    let (p, there, set, low) = grey_page h first x.0 x.1 ps heap fits e.0.grey in
    let on = place_on words first x.0 x.1 low in
    let at : a % words ≡ x.1 = mod-mul-add (first + x.0 + 1) words x.1 low in
    let both = sent_both words before own sent k in
    let free : is_free_todo g a ≡ true = free_sent (placed h first ps) a (before ++ own) both
    (grey_read h first x.0 a ps p heap fits there on ∙ ap (λ n. get_or p.grey n false) at ∙ set) none in
    let moves : Moves h first ps (before ++ own) (scanned g a) rs ms =
    object_moves h first x.0 a x.1 x.2 ps (before ++ own) s heap fits both on at e.0 in
    let next = objects_next f g (sent_to (placed h first rs) (before ++ (own ++ ms))) w m a d
    (sent_store (placed h first ps) (before ++ own) (placed_store h first ps s fits))
    (sent_heap (placed h first ps) (before ++ own) both (placed_heap h first ps heap fits)) free
    (sym (moves.same ∙ ap (sent_to (placed h first rs)) (append_assoc before own ms))) in
    let many : (m + 1) + length xs ≡ m + suc (length xs) = omega arith in
    subst (λ n. PartDone f w n h first qs before after) many
    (objects_done f h w (m + 1) first xs rs qs before (own ++ ms) after next s heap none moves.fits sent
    (sent_both words own ms k moves.sent) e.1)
  where
    words : ℕ
    words = h.store.words

    a : ℕ
    a = (first + x.0 + 1) * words + x.1

    g : HeapState
    g = sent_to (placed h first ps) (before ++ own)

    rs : List OwnedPage
    rs = scan_own (scene_of h) first ps x.0 x.1 x.2

    ms : List Reference
    ms = send_words (scene_of h) first ps x.0 (x.1 + 1) x.2

-- what a part scans is a part of a drain
pub part_done : (f h : HeapState) (w m first : ℕ) (xs : List (ℕ × ℕ × ℕ)) (ps qs : List OwnedPage)
    (sent after : List Reference) → ObjectsDone f w m (sent_to (put_pages h first ps) sent)
    → IsStore h.store → IsHeap h → list_any is_some h.workers ≡ false → FitsPages h first ps
    → AreSent h.store.words sent → Scans (scene_of h) first xs ps [] qs after
    → ObjectsDone f w (m + length xs) (sent_to (put_pages h first qs) (sent ++ after)) × FitsPages h first qs
    × AreSent h.store.words after
part_done f h w m first xs ps qs sent after d s heap none fits k e =
    let distinct = frames_distinct h.store s in
    let done = objects_done f h w m first xs ps qs sent [] after
    (subst₂ (λ (g : HeapState) (ns : List Reference). ObjectsDone f w m (sent_to g ns))
    (pages_placed h first ps distinct) (sym (append_none sent)) d) s heap none fits k tt e in (
      subst (λ (g : HeapState). ObjectsDone f w (m + length xs) (sent_to g (sent ++ after)))
          (sym (pages_placed h first qs distinct)) done.done,
      done.fits,
      done.sent,
    )

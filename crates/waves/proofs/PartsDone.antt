-- What several parts scan at once is a part of a drain.
use Rattle.std.proofs.Common.{◌≡◌, inr, ℕ, ◌+◌, ◌≤◌, false, is_some}
use Rattle.std.proofs.Common.{List, [], ◌∷◌, ◌++◌, length, refl, sym, ◌∙◌, ap, arith, subst}
use Rattle.std.specs.List.{list_any}
use Rattle.model.specs.Holding.{IsHeap}
use Rattle.model.specs.Owning.{IsStore}
use Rattle.model.specs.States.{Reference, HeapState}
use Rattle.drains.specs.Drains.{IsReady, ObjectsDone}
use Rattle.drains.proofs.Ended.{objects_first}
use Rattle.page.specs.declared.owned.OwnedPage.{OwnedPage}
use Rattle.page.specs.declared.owned.Part.{Part}
use Rattle.part_scans.specs.Scenes.{SceneState, scene_of}
use Rattle.part_scans.specs.Scans.{Scans, all_sent}
use Rattle.heap.specs.Owning.{AllScanned, AreBack, AreLent, ArePlaced, ScansParts, put_pages, put_parts}
use Rattle.heap.proofs.Shapes.{long_sized, sized_scans}
use Rattle.waves.specs.Parts.{AreFew, AreSent, AreUnsent, all_scanned_in, sent_to}
use Rattle.waves.proofs.Composing.{pages_apart, pages_fit, pages_same, put_heap, put_records, put_scene, put_store}
use Rattle.waves.proofs.Composing.{put_words, put_workers}
use Rattle.waves.proofs.Folding.{append_none, nothing_applied}
use Rattle.waves.proofs.Notes.{sent_both}
use Rattle.waves.proofs.PartObjects.{append_assoc}
use Rattle.waves.proofs.PartScans.{part_done}

placed_end : (n low : ℕ) (ps : List Part) → ArePlaced n low ps → low ≤ n
placed_end n low [] k = k
placed_end n low (p ∷ ps) k =
    let l = placed_end n (p.first + length p.pages.items) ps k.1 in omega (arith, k.0, l)

-- a heap after several parts were scanned, once what was sent is taken in
record PartsDone (f h : HeapState) (w m : ℕ) (sent : List Reference) (qs : List Part) : Type 0 where
  pub done : ObjectsDone f w (m + all_scanned_in qs) (sent_to (put_parts h qs) (sent ++ all_sent qs))
  pub leads : AreSent h.store.words (sent ++ all_sent qs)

pub parts_words : (h : HeapState) (qs : List Part) → (put_parts h qs).store.words ≡ h.store.words
parts_words h [] = refl
parts_words h (q ∷ qs) = parts_words (put_pages h q.first q.pages.items) qs ∙ put_words h q.first q.pages.items

parts_pages : (h : HeapState) (qs : List Part) → (put_parts h qs).store.pages ≡ h.store.pages
parts_pages h [] = refl
parts_pages h (q ∷ qs) = parts_pages (put_pages h q.first q.pages.items) qs ∙ put_records h q.first q.pages.items

-- later parts' pages are still as the heap has them
pub lent_apart : (h : HeapState) (n low i : ℕ) (xs : List OwnedPage) (ps ls : List Part) → IsStore h.store
    → i + length xs ≤ low → ArePlaced n low ps → AreLent h ps ls → AreLent (put_pages h i xs) ps ls
lent_apart h n low i xs [] [] s l p k = tt
lent_apart h n low i xs [] (x ∷ ls) s l p k = absurd (cc)
lent_apart h n low i xs (q ∷ ps) [] s l p k = absurd (cc)
lent_apart h n low i xs (q ∷ ps) (x ∷ ls) s l p k = (
  k.0,
  k.1,
  pages_apart h i q.first xs x.pages.items s (inr (omega (arith, l, p.0))) k.2,
  lent_apart h n (q.first + length q.pages.items) i xs ps ls s (omega (arith, l, p.0)) p.1 k.3,
)

parts_from : (f h : HeapState) (w m most low : ℕ) (sent : List Reference) (ps ls qs : List Part)
    → ObjectsDone f w m (sent_to h sent) → IsStore h.store → IsHeap h → list_any is_some h.workers ≡ false
    → AreSent h.store.words sent → ArePlaced (length h.store.pages) low ps → AreUnsent ps → AreLent h ps ls
    → AllScanned (scene_of h) [] most ls qs → PartsDone f h w m sent qs
parts_from f h w m most low sent [] [] [] d s i none k p u l a = record {
  done = subst (λ n. ObjectsDone f w n (sent_to h (sent ++ []))) (omega arith)
      (subst (λ ns. ObjectsDone f w m (sent_to h ns)) (sym (append_none sent)) d);
  leads = subst (AreSent h.store.words) (sym (append_none sent)) k;
}
parts_from f h w m most low sent [] [] (q ∷ qs) d s i none k p u l a = absurd (cc)
parts_from f h w m most low sent [] (x ∷ ls) qs d s i none k p u l a = absurd (cc)
parts_from f h w m most low sent (y ∷ ps) [] qs d s i none k p u l a = absurd (cc)
parts_from f h w m most low sent (y ∷ ps) (x ∷ ls) [] d s i none k p u l a = absurd (cc)
parts_from f h w m most low sent (y ∷ ps) (x ∷ ls) (q ∷ qs) d s i none k p u l a =
    let first : x.first ≡ y.first = ap (λ (z : Part). z.first) l.0 in
    let own : x.sent.items ≡ [] = ap (λ (z : Part). z.sent.items) l.0 ∙ u.0 in
    let places : List (ℕ × ℕ × ℕ) = a.0.scans.places in
    let scans : Scans (scene_of h) y.first places x.pages.items [] q.pages.items q.sent.items =
    subst (λ n. Scans (scene_of h) n places x.pages.items [] q.pages.items q.sent.items) first
    (subst (λ ns. Scans (scene_of h) x.first places x.pages.items ns q.pages.items q.sent.items) own a.0.scans.scans) in
    let long : length q.pages.items ≡ length x.pages.items =
    long_sized x.pages.items q.pages.items
    (sized_scans (scene_of h) y.first places x.pages.items [] q.pages.items q.sent.items scans) in
    let end = placed_end (length h.store.pages) (y.first + length y.pages.items) ps p.1 in
    let fit = pages_fit h y.first x.pages.items (omega (arith, end, l.1)) l.2 in
    let same = pages_same h y.first x.pages.items s l.2 in
    let r = part_done f h w m y.first places x.pages.items q.pages.items sent q.sent.items
    (subst (λ (g : HeapState). ObjectsDone f w m (sent_to g sent)) (sym same) d) s i none fit k scans in
    let rest = parts_from f (put_pages h y.first q.pages.items) w (m + length places) most
    (y.first + length y.pages.items) (sent ++ q.sent.items) ps ls qs r.0
    (put_store h y.first q.pages.items s r.1) (put_heap h y.first q.pages.items s i r.1)
    (ap (list_any is_some) (put_workers h y.first q.pages.items) ∙ none)
    (subst (λ n. AreSent n (sent ++ q.sent.items)) (sym (put_words h y.first q.pages.items))
    (sent_both h.store.words sent q.sent.items k r.2))
    (subst (λ rs. ArePlaced (length rs) (y.first + length y.pages.items) ps) (sym (put_records h y.first q.pages.items)) p.1)
    u.1
    (lent_apart h (length h.store.pages) (y.first + length y.pages.items) y.first q.pages.items ps ls s
    (omega (arith, long, l.1)) p.1 l.3)
    (subst (λ t. AllScanned t [] most ls qs) (sym (put_scene h y.first q.pages.items)) a.2) in
    let many : (m + length places) + all_scanned_in qs ≡ m + (q.scanned + all_scanned_in qs) =
    omega (arith, a.0.scans.count) in
    record {
      done = subst (λ n. ObjectsDone f w (m + (q.scanned + all_scanned_in qs))
          (sent_to (put_parts (put_pages h n q.pages.items) qs) (sent ++ (q.sent.items ++ all_sent qs))))
          (sym (a.0.first ∙ first))
          (subst (λ ns. ObjectsDone f w (m + (q.scanned + all_scanned_in qs))
          (sent_to (put_parts (put_pages h y.first q.pages.items) qs) ns)) (append_assoc sent q.sent.items (all_sent qs))
          (subst (λ n. ObjectsDone f w n (sent_to (put_parts (put_pages h y.first q.pages.items) qs)
          ((sent ++ q.sent.items) ++ all_sent qs))) many rest.done));
      leads = subst (AreSent h.store.words) (append_assoc sent q.sent.items (all_sent qs))
          (subst (λ n. AreSent n ((sent ++ q.sent.items) ++ all_sent qs)) (put_words h y.first q.pages.items) rest.leads);
    }

back_sent : (ps qs : List Part) → AreBack ps qs → (all_sent ps ≡ all_sent qs) × (all_scanned_in ps ≡ all_scanned_in qs)
back_sent [] [] k = (refl, refl)
back_sent [] (q ∷ qs) k = absurd (cc)
back_sent (p ∷ ps) [] k = absurd (cc)
back_sent (p ∷ ps) (q ∷ qs) k =
    let rest = back_sent ps qs k.1 in (
      (λ j. (sym k.0 j).sent.items ++ rest.0 j),
      (λ j. (sym k.0 j).scanned + rest.1 j),
    )

all_done : (h g : HeapState) (w most : ℕ) (ps qs : List Part) → IsReady h w → IsStore h.store → IsHeap h
    → list_any is_some h.workers ≡ false → ArePlaced (length h.store.pages) 0 ps → AreUnsent ps
    → (e : ScansParts h [] most ps g qs) → PartsDone h h w 0 [] e.left
all_done h g w most ps qs r s i none p u e = parts_from h h w 0 most 0 [] ps e.lent e.left
    (subst (ObjectsDone h w 0) (sym (nothing_applied h)) (objects_first h w r)) s i none tt p u e.pages e.scanned

-- a heap whose parts were scanned, once what they have sent is taken in
pub parts_done : (h g k : HeapState) (w most n : ℕ) (ps qs : List Part) → IsReady h w → IsStore h.store → IsHeap h
    → list_any is_some h.workers ≡ false → ArePlaced (length h.store.pages) 0 ps → AreUnsent ps
    → ScansParts h [] most ps g qs → k ≡ sent_to g (all_sent qs) → n ≡ all_scanned_in qs → ObjectsDone h w n k
parts_done h g k w most n ps qs r s i none p u e d z =
    let back = back_sent e.left qs e.back in
    let none_yet : 0 + all_scanned_in e.left ≡ all_scanned_in e.left = omega arith in
    let done = subst (λ m. ObjectsDone h w m (sent_to (put_parts h e.left) (all_sent e.left))) none_yet
    (all_done h g w most ps qs r s i none p u e).done in
    subst (ObjectsDone h w n) (sym d)
    (subst (λ (x : HeapState). ObjectsDone h w n (sent_to x (all_sent qs))) (sym e.heap)
    (subst (λ ns. ObjectsDone h w n (sent_to (put_parts h e.left) ns)) back.0
    (subst (λ m. ObjectsDone h w m (sent_to (put_parts h e.left) (all_sent e.left)))
    (back.1 ∙ sym z) done)))

-- what they have sent leads to pages, and is marked
pub parts_sent : (h g : HeapState) (w most : ℕ) (ps qs : List Part) → IsReady h w → IsStore h.store → IsHeap h
    → list_any is_some h.workers ≡ false → ArePlaced (length h.store.pages) 0 ps → AreUnsent ps
    → ScansParts h [] most ps g qs → AreSent g.store.words (all_sent qs)
parts_sent h g w most ps qs r s i none p u e =
    subst (λ n. AreSent n (all_sent qs)) (sym (ap (λ (x : HeapState). x.store.words) e.heap ∙ parts_words h e.left))
    (subst (AreSent h.store.words) (back_sent e.left qs e.back).0
    (all_done h g w most ps qs r s i none p u e).leads)

-- as many records as before
pub parts_records : (h g : HeapState) (notes : List Reference) (most : ℕ) (ps qs : List Part)
    → ScansParts h notes most ps g qs → length g.store.pages ≡ length h.store.pages
parts_records h g notes most ps qs e =
    ap (λ (x : HeapState). length x.store.pages) e.heap ∙ ap length (parts_pages h e.left)

few_scanned : (s : SceneState) (most : ℕ) (ps qs : List Part) → AllScanned s [] most ps qs → AreFew most qs
few_scanned s most [] [] k = tt
few_scanned s most [] (q ∷ qs) k = absurd (cc)
few_scanned s most (p ∷ ps) [] k = absurd (cc)
few_scanned s most (p ∷ ps) (q ∷ qs) k = (k.1, few_scanned s most ps qs k.2)

few_back : (most : ℕ) (ps qs : List Part) → AreBack ps qs → AreFew most ps → AreFew most qs
few_back most [] [] k l = tt
few_back most [] (q ∷ qs) k l = absurd (cc)
few_back most (p ∷ ps) [] k l = absurd (cc)
few_back most (p ∷ ps) (q ∷ qs) k l =
    (subst (λ n. n ≤ most) (sym (ap (λ (x : Part). x.scanned) k.0)) l.0, few_back most ps qs k.1 l.1)

pub parts_few : (h g : HeapState) (most : ℕ) (ps qs : List Part) → ScansParts h [] most ps g qs → AreFew most qs
parts_few h g most ps qs e =
    few_back most e.left qs e.back (few_scanned (scene_of h) most e.lent e.left e.scanned)

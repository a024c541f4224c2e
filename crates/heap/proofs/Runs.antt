-- Runs of entries whose objects are copied: the words are written at once, and then the copies are noted.
use Rattle.std.proofs.Common.{◌≡◌, ◌≢◌, ℕ, zero, suc, ◌+◌, ◌-◌, ◌*◌, ◌/◌, ◌%◌, ◌<◌, ◌≤◌, Bool, true, false, cond}
use Rattle.std.proofs.Common.{nat_eq}
use Rattle.std.proofs.Common.{List, [], ◌∷◌, length, map, take, drop, get_or, Option, Some, None}
use Rattle.std.proofs.Common.{refl, sym, ◌∙◌, ap, subst, arith, eq-eqb}
use Rattle.std.specs.List.{slice_get}
use Rattle.std.specs.Option.{option_and_then}
use Rattle.std.proofs.lemmas.Bool.{true≢false}
use Rattle.std.proofs.lemmas.Nat.{div-mul-add, mod-mul-add}
use Rattle.std.proofs.lemmas.Option.{same_Some}
use Rattle.layout.specs.declared.shape.Layout.{Layout}
use Rattle.model.specs.declared.records.Forwarding.{Forwarding}
use Rattle.model.specs.Stores.{StoreState, with_words, words_at, overlay}
use Rattle.model.specs.Owning.{IsStore}
use Rattle.model.specs.Holding.{IsHeap, AreRising}
use Rattle.model.specs.States.{HeapState, change_at}
use Rattle.model.specs.Bits.{of_page, with_bit}
use Rattle.model.specs.Data.{layout_at, layout_in, header_layout}
use Rattle.model.specs.Plans.{object_words, words_of}
use Rattle.model.specs.Moves.{with_copy, with_copied_words, words_from, set_copied_of}
use Rattle.model.proofs.Memory.{word_on_page, words_kept}
use Rattle.model.proofs.Plans.{rising_within}
use Rattle.pieces.specs.Pieces.{SourceState, size_at, laid_by, laid_from}
use Rattle.pieces.specs.Pieces.{words_at as object_at}
use Rattle.pieces.proofs.Cuts.{length_all}
use Rattle.page.specs.Runs.{known, source_with, with_run}
use Rattle.page.proofs.Copied.{nothing_over}
use Rattle.page.proofs.Runs.{unchanged, words_keep, words_twice, words_alike}
use Rattle.forward.specs.Noting.{noted_sides}
use Rattle.page_rows.specs.Runs.{GoTo, notes, noted_starts, noted_by}
use Rattle.page_rows.proofs.Notes.{later_stay}
use Rattle.heap.specs.Runs.{with_entry, with_entries}
use Rattle.page_rows.specs.Runs.{noted_from}
use Rattle.heap.proofs.Moving.{copy_keeps}

pub entries_none : (h : HeapState) (n e k : ℕ) → k ≡ 0 → h ≡ with_entries h n e k
entries_none h n e k a = sym (ap (λ j. with_entries h n e j) a)

-- what holds of a heap

entry_keeps : (h : HeapState) (n : ℕ) (o : Option Forwarding) → IsHeap h → IsHeap (with_entry h n o)
unfolding with_copy
entry_keeps h n None i = i
entry_keeps h n (Some f) i = by_copied f.copied
  where
    by_copied : (b : Bool) → IsHeap (cond b h (with_copy h (n * h.store.words + f.offset) f.to))
    by_copied true = i
    by_copied false = copy_keeps h _ _ _ h.store.words (n * h.store.words + f.offset) f.to
        (object_words h (n * h.store.words + f.offset)) f.to _ _ i refl refl refl

pub entries_keep : (h : HeapState) (n e k : ℕ) → IsHeap h → IsHeap (with_entries h n e k)
entries_keep h n e zero i = i
entries_keep h n e (suc k) i = entries_keep (with_entry h n (slice_get (of_page h.sides n) e)) n (e + 1) k
    (entry_keeps h n (slice_get (of_page h.sides n) e) i)

-- one entry

module _ (h : HeapState) (n target : ℕ) (side : List Forwarding) where
  abbrev from : SourceState
  from = source_with h.store.words (words_at h.store n) side h.config.layouts

  -- the words of the target after one entry
  abbrev step : Option Forwarding → List ℕ → List ℕ
  step o ws = cond (nat_eq n target) ws (laid_by from 0 o ws)

  -- an object has as many words where it is read off its page's words
  size_known : (a o : ℕ) (ws : List ℕ) → a / h.store.words ≡ n → a % h.store.words ≡ o → words_at h.store n ≡ Some ws
      → object_words h a ≡ size_at from o
  unfolding object_words layout_at
  size_known a o ws p q w =
      let known_is : known (words_at h.store n) ≡ ws = ap known w in
      ap (λ (v : Option ℕ). words_of (layout_in h.config.layouts (header_layout v)))
      (word_on_page h.store a
      ∙ ap (λ m. option_and_then (λ (xs : List ℕ). slice_get xs (a % h.store.words)) (words_at h.store m)) p
      ∙ ap (option_and_then (λ (xs : List ℕ). slice_get xs (a % h.store.words))) w
      ∙ ap (slice_get ws) q ∙ sym (ap (λ (xs : List ℕ). slice_get xs o) known_is))

  -- the words of one that wasn't copied
  module _ (f : Forwarding) (there : f.to / h.store.words ≡ target) (low : f.offset < h.store.words) where
    abbrev place : ℕ
    place = n * h.store.words + f.offset

    on : place / h.store.words ≡ n
    on = div-mul-add n h.store.words f.offset low

    at : place % h.store.words ≡ f.offset
    at = mod-mul-add n h.store.words f.offset low

    taken : (o : Option (List ℕ)) → words_at h.store n ≡ o
        → words_from f.offset (object_words h place) o ≡ take (size_at from f.offset) (drop f.offset (known o))
    taken None w = sym (ap (take (size_at from f.offset)) (dropped f.offset) ∙ took (size_at from f.offset))
      where
        took : (m : ℕ) → take {A = ℕ} m [] ≡ []
        took zero = refl
        took (suc m) = refl

        dropped : (m : ℕ) → drop {A = ℕ} m [] ≡ []
        dropped zero = refl
        dropped (suc m) = refl
    taken (Some ws) w = ap (λ m. take m (drop f.offset ws)) (size_known place f.offset ws on at w)

    minus : (m : ℕ) → m ≡ m - 0
    minus m = omega arith

    laid : (ws : List ℕ) → overlay ws (f.to % h.store.words)
        (cond (nat_eq n target) [] (words_from f.offset (object_words h place) (words_at h.store n)))
        ≡ cond (nat_eq n target) ws (overlay ws (f.to % h.store.words - 0) (object_at from f.offset))
    laid ws = by_page (nat_eq n target)
      where
        by_page : (b : Bool) → overlay ws (f.to % h.store.words)
            (cond b [] (words_from f.offset (object_words h place) (words_at h.store n)))
            ≡ cond b ws (overlay ws (f.to % h.store.words - 0) (object_at from f.offset))
        by_page true = nothing_over ws (f.to % h.store.words)
        by_page false = ap (overlay ws (f.to % h.store.words)) (taken (words_at h.store n) refl)
            ∙ ap (λ m. overlay ws m (object_at from f.offset)) (minus (f.to % h.store.words))

    store_is : with_words h.store target
        (λ ws. cond (nat_eq n target) ws (overlay ws (f.to % h.store.words - 0) (object_at from f.offset)))
        ≡ with_copied_words h.store place f.to (object_words h place)
    unfolding with_copied_words
    store_is = sym (
        (λ i. with_words h.store (there i) (λ ws. overlay ws (f.to % h.store.words)
        (cond (nat_eq (on i) (there i)) [] (words_from (at i) (object_words h place) (words_at h.store (on i))))))
        ∙ words_alike h.store target _ _ laid
        )

    copied_is : record h {
      store = with_words h.store target
          (λ ws. cond (nat_eq n target) ws (overlay ws (f.to % h.store.words - 0) (object_at from f.offset)));
      starts = with_bit h.starts h.store.words f.to true;
      sides = change_at h.sides (n - 1) (map (set_copied_of f.offset));
    } ≡ with_copy h place f.to
    unfolding with_copy
    copied_is = λ i. record h {
      store = store_is i;
      starts = with_bit h.starts h.store.words f.to true;
      sides = change_at h.sides (sym on i - 1) (map (set_copied_of (sym at i)));
    }

  entry_is : (o : Option Forwarding) → ((f : Forwarding) → o ≡ Some f → f.to / h.store.words ≡ target)
      → ((f : Forwarding) → o ≡ Some f → f.offset < h.store.words) → record h {
        store = with_words h.store target (step o);
        starts = noted_starts h.store.words o h.starts;
        sides = noted_sides n o h.sides;
      } ≡ with_entry h n o
  entry_is None there low = ap (λ (s : StoreState). record h { store = s })
      (sym (unchanged h.store target (step None) same))
    where
      same : (ws : List ℕ) → step None ws ≡ ws
      same ws = by_page (nat_eq n target)
        where
          by_page : (b : Bool) → cond b ws ws ≡ ws
          by_page true = refl
          by_page false = refl
  entry_is (Some f) there low = by_copied f.copied
    where
      alike : (ws : List ℕ) → cond (nat_eq n target) ws ws ≡ ws
      alike ws = by_page (nat_eq n target)
        where
          by_page : (b : Bool) → cond b ws ws ≡ ws
          by_page true = refl
          by_page false = refl

      by_copied : (b : Bool) → record h {
        store = with_words h.store target (λ ws. cond (nat_eq n target) ws
            (cond b ws (overlay ws (f.to % h.store.words - 0) (object_at from f.offset))));
        starts = cond b h.starts (with_bit h.starts h.store.words f.to true);
        sides = cond b h.sides (change_at h.sides (n - 1) (map (set_copied_of f.offset)));
      } ≡ cond b h (with_copy h (n * h.store.words + f.offset) f.to)
      by_copied true = ap (λ (s : StoreState). record h { store = s }) (sym (unchanged h.store target _ alike))
      by_copied false = copied_is f (there f refl) (low f refl)

-- the words of a run, after its first entry
run_more : (s : StoreState) (n target : ℕ) (side : List Forwarding) (ls : List Layout) (e k : ℕ) → IsStore s
    → with_run s n target side ls e (suc k) ≡ with_run
    (with_words s target (λ ws. cond (nat_eq n target) ws
    (laid_by (source_with s.words (words_at s n) side ls) 0 (slice_get side e) ws))) n target side ls (e + 1) k
unfolding with_run with_words
run_more s n target side ls e k h = words_alike s target both (λ ws. second (first ws)) same
    ∙ sym (words_twice s target first second)
  where
    from : SourceState
    from = source_with s.words (words_at s n) side ls

    first : List ℕ → List ℕ
    first ws = cond (nat_eq n target) ws (laid_by from 0 (slice_get side e) ws)

    both : List ℕ → List ℕ
    both ws = cond (nat_eq n target) ws (laid_from from 0 (e + 1) k (laid_by from 0 (slice_get side e) ws))

    second : List ℕ → List ℕ
    second ws = cond (nat_eq n target) ws
        (laid_from (source_with s.words (words_at (with_words s target first) n) side ls) 0 (e + 1) k ws)

    same : (ws : List ℕ) → both ws ≡ second (first ws)
    same ws = by_page (nat_eq n target) refl
      where
        by_page : (b : Bool) → nat_eq n target ≡ b
            → cond b ws (laid_from from 0 (e + 1) k (laid_by from 0 (slice_get side e) ws))
            ≡ cond b (cond b ws (laid_by from 0 (slice_get side e) ws))
            (laid_from (source_with s.words (words_at (with_words s target first) n) side ls) 0 (e + 1) k
            (cond b ws (laid_by from 0 (slice_get side e) ws)))
        by_page true z = refl
        by_page false z =
            let apart : n ≢ target = λ y. true≢false (sym (eq-eqb n target y) ∙ z) in
            ap (λ o. laid_from (source_with s.words o side ls) 0 (e + 1) k (laid_by from 0 (slice_get side e) ws))
            (sym (words_kept s n target first h apart))

-- a run

module _ (n target : ℕ) (side : List Forwarding) (ls : List Layout) where
  pub runs : (h : HeapState) (e k : ℕ) → h.config.layouts ≡ ls → IsStore h.store → AreRising h.store.words 0 side
      → ((i : ℕ) → e ≤ i → slice_get (of_page h.sides n) i ≡ slice_get side i) → GoTo h.store.words target side e k
      → record h {
        store = with_run h.store n target side ls e k;
        starts = (noted_from h.store.words n e k (notes h.starts h.sides)).starts;
        sides = (noted_from h.store.words n e k (notes h.starts h.sides)).sides;
      } ≡ with_entries h n e k
  unfolding with_run with_words
  runs h e zero c s r agree to = ap (λ (t : StoreState). record h { store = t })
      (sym (unchanged h.store target _ alike))
    where
      alike : (ws : List ℕ) → cond (nat_eq n target) ws ws ≡ ws
      alike ws = by_page (nat_eq n target)
        where
          by_page : (b : Bool) → cond b ws ws ≡ ws
          by_page true = refl
          by_page false = refl
  runs h e (suc k) c s r agree to =
      (λ i. record h {
        store = more i;
        starts = (noted_from h.store.words n (e + 1) k (noted_by h.store.words n (now i)
            (notes h.starts h.sides))).starts;
        sides = (noted_from h.store.words n (e + 1) k (noted_by h.store.words n (now i)
            (notes h.starts h.sides))).sides;
      })
      ∙ runs next (e + 1) k c (words_keep h.store target _ long s) r
      (later_stay h.sides n h.store.words side e o r refl agree)
      (λ i f l z. to (i + 1) f (omega (arith, l)) (ap (slice_get side) (place i) ∙ z))
      ∙ ap (λ g. with_entries g n (e + 1) k) (one ∙ ap (with_entry h n) (sym now))
    where
      o : Option Forwarding
      o = slice_get side e

      now : slice_get (of_page h.sides n) e ≡ o
      now = agree e (omega arith)

      place : (i : ℕ) → e + (i + 1) ≡ (e + 1) + i
      place i = omega arith

      src : SourceState
      src = source_with h.store.words (words_at h.store n) side ls

      long : (ws : List ℕ) → length (cond (nat_eq n target) ws (laid_by src 0 o ws)) ≡ length ws
      long ws = by_page (nat_eq n target)
        where
          by_page : (b : Bool) → length (cond b ws (laid_by src 0 o ws)) ≡ length ws
          by_page true = refl
          by_page false = length_all src 0 e 1 ws

      next : HeapState
      next = record h {
        store = with_words h.store target (λ ws. cond (nat_eq n target) ws (laid_by src 0 o ws));
        starts = noted_starts h.store.words o h.starts;
        sides = noted_sides n o h.sides;
      }

      more : with_run h.store n target side ls e (suc k) ≡ with_run next.store n target side ls (e + 1) k
      more = run_more h.store n target side ls e k s

      begins : e + 0 ≡ e
      begins = omega arith

      one : next ≡ with_entry h n o
      one = ap (λ l. record h {
        store = with_words h.store target (λ ws. cond (nat_eq n target) ws
            (laid_by (source_with h.store.words (words_at h.store n) side l) 0 o ws));
        starts = noted_starts h.store.words o h.starts;
        sides = noted_sides n o h.sides;
      }) (sym c) ∙ entry_is h n target side o
          (λ f z. to 0 f (omega arith) (ap (slice_get side) begins ∙ z))
          (λ f z. (rising_within h.store.words 0 side e f r z).1)

-- the entries of a page rise
pub page_rises : (h : HeapState) (n : ℕ) → IsHeap h → AreRising h.store.words 0 (of_page h.sides n)
page_rises h zero i = tt
page_rises h (suc n) i = subst (λ w. AreRising w 0 (get_or h.sides n [])) (sym i.sizes.words)
    (by_list h.sides n (λ fs at. i.sides.rising n fs at))
  where
    by_list : (sides : List (List Forwarding)) (m : ℕ)
        → ((fs : List Forwarding) → slice_get sides m ≡ Some fs → AreRising h.config.words 0 fs)
        → AreRising h.config.words 0 (get_or sides m [])
    by_list [] m r = tt
    by_list (x ∷ sides) zero r = r x refl
    by_list (x ∷ sides) (suc m) r = by_list sides m r

-- what is written and noted of a run is what its entries do one after the other
pub run_is : (h : HeapState) (n target e k : ℕ) (s : StoreState) (starts : List (List Bool))
    (sides : List (List Forwarding)) → IsStore h.store → IsHeap h
    → s ≡ with_run h.store n target (of_page h.sides n) h.config.layouts e k
    → notes starts sides ≡ noted_from h.store.words n e k (notes h.starts h.sides)
    → GoTo h.store.words target (of_page h.sides n) e k
    → record h { store = s; starts = starts; sides = sides } ≡ with_entries h n e k
run_is h n target e k s starts sides store i a b to =
    (λ z. record h {
      store = a z;
      starts = (b z).starts;
      sides = (b z).sides;
    }) ∙ runs n target (of_page h.sides n) h.config.layouts h e k refl store (page_rises h n i) (λ j l. refl) to

-- the same, as the code has it
pub run_done : (h : HeapState) (n target e k words : ℕ) (side : List Forwarding) (s : StoreState)
    (starts : List (List Bool)) (sides : List (List Forwarding)) → IsStore h.store → IsHeap h
    → side ≡ of_page h.sides n → s ≡ with_run h.store n target side h.config.layouts e k → words ≡ s.words
    → notes starts sides ≡ noted_from words n e k (notes h.starts h.sides)
    → GoTo h.store.words target (of_page h.sides n) e k
    → record h { store = s; starts = starts; sides = sides } ≡ with_entries h n e k
unfolding with_run with_words
run_done h n target e k words side s starts sides store i is a same b to = run_is h n target e k s starts sides store i
    (a ∙ ap (λ fs. with_run h.store n target fs h.config.layouts e k) is)
    (b ∙ ap (λ w. noted_from w n e k (notes h.starts h.sides)) (same ∙ ap (λ (t : StoreState). t.words) a)) to

pub side_there : (sides : List (List Forwarding)) (n m : ℕ) (fs : List Forwarding) → n ≢ 0 → m ≡ n - 1
    → Some fs ≡ slice_get sides m → fs ≡ of_page sides n
side_there sides zero m fs h j e = absurd (h refl)
side_there sides (suc n) m fs h j e =
    let one : m ≡ n = omega (arith, j) in read sides n (e ∙ ap (slice_get sides) one)
  where
    read : (xs : List (List Forwarding)) (i : ℕ) → Some fs ≡ slice_get xs i → fs ≡ get_or xs i []
    read [] i z = absurd (cc)
    read (x ∷ xs) zero z = same_Some _ _ z
    read (x ∷ xs) (suc i) z = read xs i z

pub no_side : (sides : List (List Forwarding)) (n m e k : ℕ) → n ≢ 0 → m ≡ n - 1 → None ≡ slice_get sides m
    → e + k ≤ length (of_page sides n) → k ≡ 0
no_side sides zero m e k h j z l = absurd (h refl)
no_side sides (suc n) m e k h j z l =
    let one : m ≡ n = omega (arith, j) in
    let none : length (get_or sides n []) ≡ 0 = read sides n (z ∙ ap (slice_get sides) one) in omega (arith, l, none)
  where
    read : (xs : List (List Forwarding)) (i : ℕ) → None ≡ slice_get xs i → length (get_or xs i []) ≡ 0
    read [] i y = refl
    read (x ∷ xs) zero y = absurd (cc)
    read (x ∷ xs) (suc i) y = read xs i y

-- References are marked while objects wait.
use Rattle.std.proofs.Common.{◌≡◌, ◌≢◌, ◌⊎◌, inl, inr, ℕ, zero, suc, ◌+◌, ◌-◌, ◌/◌, ◌%◌, ◌≤◌, ◌<◌, ◌&&◌, true, false}
use Rattle.std.proofs.Common.{List, [], ◌∷◌, ◌++◌, get_or, set, length, nat_lt, Option, Some, None, refl, sym, ◌∙◌, ap}
use Rattle.std.proofs.Common.{Bool, arith, subst}
use Rattle.std.specs.List.{slice_get}
use Rattle.std.specs.Prelude.{if◌then◌else◌, MatchBool}
use Rattle.std.proofs.lemmas.Bool.Decides.{nat_tests}
use Rattle.refword.specs.Words.{bits_of}
use Rattle.model.specs.References.{read_reference}
use Rattle.model.specs.States.{Reference, change_at}
use Rattle.model.proofs.Lists.{get_within, changed_there}
use Rattle.std.proofs.lemmas.Option.{get_or_from_slice_get}
use Rattle.page.specs.declared.owned.OwnedPage.{OwnedPage}
use Rattle.part_scans.specs.Scenes.{SceneState, marked_in, refs_of}
use Rattle.part_scans.specs.Scans.{AllLeadOn, ScansOne, bits_lead_on, end_on, is_own, mark_bits, mark_on, mark_own}
use Rattle.part_scans.specs.Scans.{mark_target, mark_word, mark_words, own_index, scan_own, send_bits, send_word}
use Rattle.part_scans.specs.Scans.{send_words}
use Rattle.part_scans.specs.Scans.{is_grey_own, is_marked_own, word_of, write_on}
use Rattle.part_scans.specs.Waiting.{AreWaiting, Does, IsNext, MarksWords, WaitsOn, all_grey, grey_at, grey_on}
use Rattle.part_scans.specs.Waiting.{place_of, places_of, white_on}
use Rattle.part_scans.proofs.Greying.{end_leaves, grey_leaves, greyed_ended, greyed_first, greyed_length}
use Rattle.part_scans.proofs.Greying.{greyed_marked, greyed_more, greyed_two, greyed_word, grey_waits}
use Rattle.part_scans.proofs.Greying.{waiting_marked, write_goes, write_leaves}
use Rattle.part_scans.proofs.Waits.{all_wait_still, marked_grey, marked_waits, waiting_last}
use Rattle.part_scans.proofs.Words.{WordsLeft, words_first, words_next, words_notes, words_pages}

pub places_more : (s : SceneState) (first : ℕ) (ws : List ℕ) (a : ℕ)
    → places_of s first (ws ++ a ∷ []) ≡ places_of s first ws ++ place_of s first a ∷ []
places_more s first [] a = refl
places_more s first (w ∷ ws) a = ap (λ xs. place_of s first w ∷ xs) (places_more s first ws a)

-- ---- an object

not_own : (s : SceneState) (first n a page : ℕ) → page ≡ a / s.words → (page ≤ first) ⊎ (n ≤ page - 1 - first)
    → is_own s first n a ≡ false
not_own s first n a page e (inl l) =
    ap (λ b. b && nat_lt (own_index s first a) n) (none (a / s.words) (omega (arith, e, l)))
  where
    none : (m : ℕ) → m ≤ first → nat_lt first m ≡ false
    none m k = grind (arith, nat_tests)
not_own s first n a page e (inr l) = by_test (nat_lt first (a / s.words))
  where
    none : (m : ℕ) → n ≤ m → nat_lt m n ≡ false
    none m k = grind (arith, nat_tests)

    by_test : (b : Bool) → b && nat_lt (own_index s first a) n ≡ false
    by_test true = none (own_index s first a) (subst (λ m. n ≤ m - 1 - first) e l)
    by_test false = refl

own_here : (s : SceneState) (first n a page : ℕ) → page ≡ a / s.words → first < page → page - 1 - first < n
    → is_own s first n a ≡ true
own_here s first n a page e l m =
    (λ j. both (nat_lt first (a / s.words)) (nat_lt (own_index s first a) n)
    (low first (a / s.words) (subst (λ k. first < k) e l))
    (low (own_index s first a) n (subst (λ k. k - 1 - first < n) e m)) j)
  where
    low : (x y : ℕ) → x < y → nat_lt x y ≡ true
    low x y k = grind (arith, nat_tests)

    both : (b c : Bool) → b ≡ true → c ≡ true → b && c ≡ true
    both b c x y = (λ j. x j && y j)

-- an object on another part's page
pub other_done : (s : SceneState) (first a page : ℕ) (ps : List OwnedPage) (ws : List ℕ) → page ≡ a / s.words
    → (page ≤ first) ⊎ (length ps ≤ page - 1 - first)
    → Does s first (λ us. mark_own s first us a) ps ws ps ws
unfolding mark_own
other_done s first a page ps ws e far x w =
    let us = all_grey ps (x ∷ places_of s first ws) in (
      sym (ap (λ b. if b then change_at us (own_index s first a) (mark_on (a % s.words)) else us)
          (ap (λ n. is_own s first n a) (greyed_length ps (x ∷ places_of s first ws))
          ∙ not_own s first (length ps) a page e far)),
      w,
    )

-- an object on one of these pages
pub own_done : (s : SceneState) (first a page o : ℕ) (r : Bool) (ps : List OwnedPage) (ws : List ℕ) (p q d : OwnedPage)
    (vs : List ℕ) → page ≡ a / s.words → first < page → page - 1 - first < length ps → o ≡ a % s.words
    → p ≡ get_or ps (page - 1 - first) d → MatchBool r (WaitsOn o a p ws q vs) ((q ≡ mark_on o p) × (vs ≡ ws))
    → Does s first (λ us. mark_own s first us a) ps ws (set ps (page - 1 - first) q) vs
unfolding mark_own
own_done s first a page o r ps ws p q d vs e l m at read k x w = by_case r k
  where
    i : ℕ
    i = page - 1 - first

    xs : List (ℕ × ℕ)
    xs = x ∷ places_of s first ws

    there : slice_get ps i ≡ Some p
    there = let (y, is) = get_within ps i m in is ∙ ap Some (sym (get_or_from_slice_get ps i y d is) ∙ sym read)

    owned : change_at (all_grey ps xs) i (mark_on o) ≡ mark_own s first (all_grey ps xs) a
    owned = (λ j. change_at (all_grey ps xs) (e j - 1 - first) (mark_on (at j)))
        ∙ sym (ap (λ b. if b then change_at (all_grey ps xs) (own_index s first a) (mark_on (a % s.words))
        else all_grey ps xs)
        (ap (λ n. is_own s first n a) (greyed_length ps xs) ∙ own_here s first (length ps) a page e l m))

    same_place : (i, o) ≡ place_of s first a
    same_place = (λ j. (e j - 1 - first, at j))

    by_case : (b : Bool) → MatchBool b (WaitsOn o a p ws q vs) ((q ≡ mark_on o p) × (vs ≡ ws))
        → (all_grey (set ps i q) (x ∷ places_of s first vs) ≡ mark_own s first (all_grey ps xs) a)
        × AreWaiting (set ps i q) (x ∷ places_of s first vs)
    by_case true z =
        let done = marked_waits ps i o p xs there z.2 z.3 z.4 w in
        let pages : change_at ps i (white_on o) ≡ set ps i q =
        changed_there ps i p (white_on o) there ∙ ap (set ps i) (sym z.0) in
        let places : xs ++ (i, o) ∷ [] ≡ x ∷ places_of s first vs =
        ap (λ y. xs ++ y ∷ []) same_place
        ∙ ap (λ ys. x ∷ ys) (sym (places_more s first ws a) ∙ ap (places_of s first) (sym z.1)) in (
          sym (λ j. all_grey (pages j) (places j)) ∙ done.pages ∙ owned,
          subst (AreWaiting (set ps i q)) places (subst (λ us. AreWaiting us (xs ++ (i, o) ∷ [])) pages done.waits),
        )
    by_case false z =
        let done = marked_grey ps i o xs w in
        let pages : change_at ps i (mark_on o) ≡ set ps i q =
        changed_there ps i p (mark_on o) there ∙ ap (set ps i) (sym z.0) in
        let places : xs ≡ x ∷ places_of s first vs = ap (λ ns. x ∷ places_of s first ns) (sym z.1) in (
          sym (λ j. all_grey (pages j) (places j)) ∙ done.pages ∙ owned,
          subst (AreWaiting (set ps i q)) places (subst (λ us. AreWaiting us xs) pages done.waits),
        )

-- ---- a reference

pub word_left : (s : SceneState) (first i o : ℕ) (ps : List OwnedPage) (ws : List ℕ) (b : Option ℕ)
    → b ≡ word_of ps i o → (b ≡ None) ⊎ (b ≡ Some 0) → Does s first (λ us. mark_word s first us i o) ps ws ps ws
unfolding mark_word
word_left s first i o ps ws b e none x w = (by_word none, w)
  where
    us : List OwnedPage
    us = all_grey ps (x ∷ places_of s first ws)

    same : word_of us i o ≡ b
    same = greyed_word ps (x ∷ places_of s first ws) i o ∙ sym e

    by_word : (b ≡ None) ⊎ (b ≡ Some 0) → us ≡ mark_bits s first us i o (word_of us i o)
    by_word (inl z) = ap (mark_bits s first us i o) (sym (same ∙ z))
    by_word (inr z) = ap (mark_bits s first us i o) (sym (same ∙ z))

pub word_done : (s : SceneState) (first i o b : ℕ) (v : Reference) (ps rs qs : List OwnedPage) (ws vs : List ℕ)
    → Some b ≡ word_of ps i o → b ≢ 0 → v ≡ marked_in s (read_reference b)
    → rs ≡ change_at ps i (write_on o (bits_of v)) → Does s first (λ us. mark_target s first us v) rs ws qs vs
    → Does s first (λ us. mark_word s first us i o) ps ws qs vs
unfolding mark_word
word_done s first i o zero v ps rs qs ws vs e d is r k x w = absurd (d refl)
word_done s first i o (suc b) v ps rs qs ws vs e d is r k x w =
    let xs : List (ℕ × ℕ) = x ∷ places_of s first ws in
    let us : List OwnedPage = all_grey ps xs in
    let done = k x (subst (λ ts. AreWaiting ts xs) (sym r) (all_wait_still ps i (write_on o (bits_of v)) xs
    (write_leaves o (bits_of v)) w)) in (
      done.0
          ∙ ap (λ ts. mark_target s first ts v) (ap (λ ts. all_grey ts xs) r
          ∙ greyed_two ps i (write_on o (bits_of v)) xs (λ n. write_goes n o (bits_of v)))
          ∙ ap (λ y. mark_target s first (change_at us i (write_on o (bits_of y))) y) is
          ∙ ap (mark_bits s first us i o) (e ∙ sym (greyed_word ps xs i o)),
      done.1,
    )

-- what is sent doesn't depend on what is grey
pub word_sent : (s : SceneState) (first i o : ℕ) (ps : List OwnedPage) (xs : List (ℕ × ℕ))
    → send_word s first ps i o ≡ send_word s first (all_grey ps xs) i o
unfolding send_word
word_sent s first i o ps xs =
    (λ j. send_bits s first (sym (greyed_length ps xs) j) (sym (greyed_word ps xs i o) j))

-- ---- several references

-- k references from an offset on are left
pub record WordsWait (s : SceneState) (first i o k : ℕ) (ps : List OwnedPage) (ws : List ℕ) (sent : List Reference)
    (qs : List OwnedPage) (after : List Reference) (x : ℕ × ℕ) : Type 0 where
  pub waits : AreWaiting ps (x ∷ places_of s first ws)
  pub left : WordsLeft s first i o k (all_grey ps (x ∷ places_of s first ws)) sent qs after

pub wait_first : (s : SceneState) (first i o k p n : ℕ) (ps : List OwnedPage) (ws : List ℕ) (sent : List Reference)
    (x : ℕ × ℕ) → p ≡ o → n ≡ k → AreWaiting ps (x ∷ places_of s first ws)
    → WordsWait s first i p n ps ws sent (mark_words s first (all_grey ps (x ∷ places_of s first ws)) i o k)
    (sent ++ send_words s first (all_grey ps (x ∷ places_of s first ws)) i o k) x
wait_first s first i o k p n ps ws sent x e d w = record {
  waits = w;
  left = words_first s first i o k p n (all_grey ps (x ∷ places_of s first ws)) sent e d;
}

pub wait_next : (s : SceneState) (first i o k p m : ℕ) (ps rs : List OwnedPage) (ws vs : List ℕ)
    (sent more : List Reference) (qs : List OwnedPage) (after : List Reference) (x : ℕ × ℕ)
    → WordsWait s first i o k ps ws sent qs after x → k ≡ suc m → p ≡ o + 1
    → Does s first (λ us. mark_word s first us i o) ps ws rs vs → more ≡ sent ++ send_word s first ps i o
    → WordsWait s first i p m rs vs more qs after x
wait_next s first i o k p m ps rs ws vs sent more qs after x l e at marked noted =
    let done = marked x l.waits in
    record {
      waits = done.1;
      left = words_next s first i o k p m (all_grey ps (x ∷ places_of s first ws))
          (all_grey rs (x ∷ places_of s first vs)) sent more qs after l.left e at done.0
          (noted ∙ ap (λ ns. sent ++ ns) (word_sent s first i o ps (x ∷ places_of s first ws)));
    }

pub wait_last : (s : SceneState) (first i o j n k : ℕ) (ps qs : List OwnedPage) (ws vs : List ℕ)
    (sent after : List Reference) (x : ℕ × ℕ)
    → WordsWait s first i j n qs vs after (mark_words s first (all_grey ps (x ∷ places_of s first ws)) i o k)
    (sent ++ send_words s first (all_grey ps (x ∷ places_of s first ws)) i o k) x → n ≡ 0
    → MarksWords s first i o k ps ws sent qs vs after x
wait_last s first i o j n k ps qs ws vs sent after x l e = record {
  pages = words_pages s first i j n (all_grey qs (x ∷ places_of s first vs)) after _ _ l.left e;
  notes = words_notes s first i j n (all_grey qs (x ∷ places_of s first vs)) after _ _ l.left e;
  waits = l.waits;
}

-- ---- an object

pub left_waits : (s : SceneState) (first i o : ℕ) (ps : List OwnedPage) (ws : List ℕ)
    → AreWaiting ps ((i, o) ∷ places_of s first ws) → AreWaiting (grey_at ps (i, o)) (places_of s first ws)
left_waits s first i o ps ws w = all_wait_still ps i (grey_on o) (places_of s first ws) (grey_leaves o) w.2

leads_greyed : (s : SceneState) (ps : List OwnedPage) (xs : List (ℕ × ℕ)) (i o k : ℕ) → AllLeadOn s ps i o k
    → AllLeadOn s (all_grey ps xs) i o k
leads_greyed s ps xs i o k l j d =
    let (b, is) = (l j d).0 in
    let same = greyed_word ps xs i (o + j) in
    ((b, same ∙ is), ap (bits_lead_on s) same ∙ (l j d).1)

-- an object that waited is scanned
pub object_done : (s : SceneState) (first i o k : ℕ) (ps qs rs : List OwnedPage) (ws vs : List ℕ)
    (sent after : List Reference) → AreWaiting ps ((i, o) ∷ places_of s first ws) → k ≡ refs_of s (word_of ps i o)
    → AllLeadOn s ps i (o + 1) k → MarksWords s first i (o + 1) k ps ws sent qs vs after (i, o)
    → rs ≡ change_at qs i (end_on o)
    → ScansOne s first i o (Some k) (all_grey ps ((i, o) ∷ places_of s first ws)) sent
    (all_grey rs (places_of s first vs)) after
unfolding scan_own
object_done s first i o k ps qs rs ws vs sent after w refs leads m e =
    let xs : List (ℕ × ℕ) = (i, o) ∷ places_of s first ws in (
      record {
        grey = greyed_first ps (i, o) (places_of s first ws) w.0;
        marked = greyed_marked ps xs i o ∙ waiting_marked ps (i, o) w.0;
        refs = refs ∙ ap (refs_of s) (sym (greyed_word ps xs i o));
        leads = leads_greyed s ps xs i (o + 1) k leads;
      },
      ap (λ us. all_grey us (places_of s first vs)) e
          ∙ sym (greyed_ended qs (i, o) (places_of s first vs) m.waits.1)
          ∙ ap (λ us. change_at us i (end_on o)) m.pages,
      m.notes,
    )

pub object_waits : (s : SceneState) (first i o k : ℕ) (ps qs rs : List OwnedPage) (ws vs : List ℕ)
    (sent after : List Reference) → MarksWords s first i (o + 1) k ps ws sent qs vs after (i, o)
    → rs ≡ change_at qs i (end_on o) → AreWaiting rs (places_of s first vs)
object_waits s first i o k ps qs rs ws vs sent after m e =
    subst (λ us. AreWaiting us (places_of s first vs)) (sym e)
    (all_wait_still qs i (end_on o) (places_of s first vs) (end_leaves o) m.waits.2)

-- ---- the next object

-- the one that waited last
pub next_waited : (s : SceneState) (first n : ℕ) (ps : List OwnedPage) (ws vs : List ℕ) (x : ℕ × ℕ)
    → AreWaiting ps (places_of s first ws) → ws ≡ vs ++ n ∷ [] → x ≡ place_of s first n → IsNext s first ps ws x vs
next_waited s first n ps ws vs x w e d =
    let places : places_of s first ws ≡ places_of s first vs ++ x ∷ [] =
    ap (places_of s first) e ∙ places_more s first vs n ∙ ap (λ y. places_of s first vs ++ y ∷ []) (sym d) in (
      waiting_last ps (places_of s first vs) x (subst (AreWaiting ps) places w),
      sym (greyed_more ps (places_of s first vs) x) ∙ ap (all_grey ps) (sym places),
    )

-- a grey one, if none waits
pub next_grey : (s : SceneState) (first : ℕ) (ps : List OwnedPage) (ws vs : List ℕ) (x : ℕ × ℕ) → ws ≡ [] → vs ≡ ws
    → is_grey_own ps x.0 x.1 ≡ true → is_marked_own ps x.0 x.1 ≡ true → IsNext s first ps ws x vs
next_grey s first ps ws vs x e d g m =
    let found = grey_waits ps x g m in
    subst (λ us. IsNext s first ps us x vs) (sym e)
    (subst (λ us. IsNext s first ps [] x us) (sym (d ∙ e)) ((found.0, tt, tt), found.1))

pub none_waited : (ws : List ℕ) → slice_get ws (length ws - 1) ≡ None → ws ≡ []
none_waited [] e = refl
none_waited (w ∷ ws) e =
    let (y, is) = get_within (w ∷ ws) (suc (length ws) - 1) (omega arith) in absurd (cc)

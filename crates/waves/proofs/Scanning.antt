-- An object of a part's pages is scanned in the heap with these pages.
use Rattle.std.proofs.Common.{◌≡◌, ◌≢◌, ◌⊎◌, inl, inr, ℕ, zero, suc, ◌-◌, ◌/◌, ◌%◌, ◌<◌, true, false, Bool}
use Rattle.std.proofs.Common.{List, [], ◌∷◌, ◌++◌, get_or, set, length, nat_lt, Option, Some, None, refl, sym, ◌∙◌, ap}
use Rattle.std.proofs.Common.{arith, subst}
use Rattle.std.specs.List.{slice_get}
use Rattle.std.specs.Option.{option_and_then}
use Rattle.std.specs.Prelude.{if◌then◌else◌}
use Rattle.std.proofs.Math.ListN.{length-set}
use Rattle.std.proofs.lemmas.Bool.{and_parts, cases_eq}
use Rattle.std.proofs.lemmas.Bool.Decides.{nat_tests}
use Rattle.refword.specs.Words.{bits_of}
use Rattle.model.specs.Bits.{bit_at, put_bit}
use Rattle.model.specs.Holding.{IsHeap}
use Rattle.model.specs.Marks.{marked_word, resolve, entry_at}
use Rattle.model.specs.Owning.{IsStore}
use Rattle.model.specs.References.{field_address, read_reference}
use Rattle.model.specs.States.{Reference, HeapState, change_at, change_found}
use Rattle.model.specs.Stores.{word_at}
use Rattle.model.proofs.Lists.{get_within, get_set_same, get_set_other}
use Rattle.model.proofs.Tables.{length_changed}
use Rattle.waves.specs.Waves.{applied}
use Rattle.drains.specs.Drains.{marked_field}
use Rattle.page.specs.declared.owned.OwnedPage.{OwnedPage}
use Rattle.part_scans.specs.Scenes.{SceneState, scene_of, resolved, marked_in}
use Rattle.part_scans.specs.Scans.{own_index, is_own, mark_on, end_on, write_on, mark_own, send_other, word_of}
use Rattle.part_scans.specs.Scans.{mark_target, send_target, mark_bits, send_bits, mark_word, send_word}
use Rattle.part_scans.specs.Scans.{leads_on, bits_lead_on}
use Rattle.waves.specs.Waves.{note_of}
use Rattle.waves.specs.Parts.{sent_to, FitsPages, AreSent}
use Rattle.waves.proofs.Rows.{bit_set}
use Rattle.waves.proofs.Folding.{field_is, applied_both, nothing_applied, append_none}
use Rattle.waves.proofs.Notes.{mark_first}
use Rattle.waves.proofs.Placed.{placed, IsOn, mark_placed, word_read, word_placed}
use Rattle.waves.proofs.Fitting.{IsAlike, fits_changed}

-- ---- what a change of one page leaves

marked_alike : (o : ℕ) (p : OwnedPage) → IsAlike p (mark_on o p)
unfolding mark_on
marked_alike o p = record {
  frame = refl;
  marked = length-set p.marked o true;
  grey = by_bit (get_or p.marked o false);
}
  where
    by_bit : (b : Bool) → length (if b then p.grey else put_bit o true p.grey) ≡ length p.grey
    by_bit true = refl
    by_bit false = length-set p.grey o true

written_alike : (o v : ℕ) (p : OwnedPage) → IsAlike p (write_on o v p)
unfolding write_on
written_alike o v p = record { frame = length-set p.frame o v; marked = refl; grey = refl }

pub ended_alike : (o : ℕ) (p : OwnedPage) → IsAlike p (end_on o p)
unfolding end_on
ended_alike o p = record { frame = refl; marked = refl; grey = length-set p.grey o false }

-- a word that a change of a page leaves
word_kept : (ps : List OwnedPage) (k i x : ℕ) (f : OwnedPage → OwnedPage)
    → ((p : OwnedPage) → slice_get (f p).frame x ≡ slice_get p.frame x)
    → word_of (change_at ps k f) i x ≡ word_of ps i x
word_kept ps k i x f same = by_page (slice_get ps k) refl
  where
    read : Option OwnedPage → Option ℕ
    read o = option_and_then (λ (p : OwnedPage). slice_get p.frame x) o

    by_place : (p : OwnedPage) → slice_get ps k ≡ Some p → (i ≡ k) ⊎ (i ≢ k)
        → word_of (set ps k (f p)) i x ≡ word_of ps i x
    by_place p e (inr d) = ap read (get_set_other ps k i (f p) d)
    by_place p e (inl z) = ap (λ n. read (slice_get (set ps k (f p)) n)) z
        ∙ ap read (get_set_same ps k p (f p) e) ∙ same p ∙ sym (ap read e) ∙ sym (ap (λ n. read (slice_get ps n)) z)

    by_page : (o : Option OwnedPage) → slice_get ps k ≡ o → word_of (change_found ps k o f) i x ≡ word_of ps i x
    by_page None e = refl
    by_page (Some p) e = by_place p e (cases_eq i k)

mark_keeps_word : (x o : ℕ) (p : OwnedPage) → slice_get (mark_on o p).frame x ≡ slice_get p.frame x
unfolding mark_on
mark_keeps_word x o p = refl

write_keeps_word : (x o v : ℕ) (p : OwnedPage) → o < x → slice_get (write_on o v p).frame x ≡ slice_get p.frame x
unfolding write_on
write_keeps_word x o v p l = get_set_other p.frame o x v (λ e. absurd (omega (arith, e, l)))

target_keeps : (s : SceneState) (first : ℕ) (ps : List OwnedPage) (v : Reference) (i x : ℕ)
    → word_of (mark_target s first ps v) i x ≡ word_of ps i x
unfolding mark_own
target_keeps s first ps None i x = refl
target_keeps s first ps (Some t) i x = by_own (is_own s first (length ps) t.0)
  where
    by_own : (c : Bool)
        → word_of (if c then change_at ps (own_index s first t.0) (mark_on (t.0 % s.words)) else ps) i x
        ≡ word_of ps i x
    by_own true = word_kept ps (own_index s first t.0) i x (mark_on (t.0 % s.words))
        (mark_keeps_word x (t.0 % s.words))
    by_own false = refl

bits_keep : (s : SceneState) (first : ℕ) (ps : List OwnedPage) (i o x : ℕ) (q : Option ℕ) → o < x
    → word_of (mark_bits s first ps i o q) i x ≡ word_of ps i x
bits_keep s first ps i o x None l = refl
bits_keep s first ps i o x (Some zero) l = refl
bits_keep s first ps i o x (Some (suc b)) l =
    let v : Reference = marked_in s (read_reference (suc b)) in
    target_keeps s first (change_at ps i (write_on o (bits_of v))) v i x
    ∙ word_kept ps i i x (write_on o (bits_of v)) (λ p. write_keeps_word x o (bits_of v) p l)

-- words after one that is marked stay
pub word_keeps : (s : SceneState) (first : ℕ) (ps : List OwnedPage) (i o x : ℕ) → o < x
    → word_of (mark_word s first ps i o) i x ≡ word_of ps i x
unfolding mark_word
word_keeps s first ps i o x l = bits_keep s first ps i o x (word_of ps i o) l

-- ---- from pages to pages

-- heap g is the one with these pages, and what was sent with these notes
pub record Moves (h : HeapState) (first : ℕ) (ps : List OwnedPage) (ns : List Reference) (g : HeapState)
    (qs : List OwnedPage) (ms : List Reference) : Type 0 where
  pub same : g ≡ sent_to (placed h first qs) (ns ++ ms)
  pub marks : (b : ℕ) → bit_at (placed h first ps).mark h.store.words b ≡ true
      → bit_at (placed h first qs).mark h.store.words b ≡ true
  pub fits : FitsPages h first qs
  pub sent : AreSent h.store.words ms
  pub many : length qs ≡ length ps

low_is : (a b : ℕ) → nat_lt a b ≡ true → a < b
low_is a b e = grind (arith, nat_tests)

own_on : (w first a : ℕ) → first < a / w → IsOn w first (a / w - 1 - first) a
own_on w first a l = record { low = omega (arith, l); page = omega (arith, l) }

marked_stays : (g : HeapState) (t b : ℕ) → bit_at g.mark g.store.words b ≡ true
    → bit_at (sent_to g (Some (t, false) ∷ [])).mark g.store.words b ≡ true
unfolding applied
marked_stays g t b e = bit_set g.mark g.store.words b t e

-- the object of a reference is marked
pub target_moves : (h : HeapState) (first : ℕ) (ps : List OwnedPage) (ns : List Reference) (v : Reference) → IsHeap h
    → FitsPages h first ps → AreSent h.store.words ns → leads_on (scene_of h) v ≡ true
    → Moves h first ps ns (sent_to (placed h first ps) (ns ++ note_of v)) (mark_target (scene_of h) first ps v)
    (send_target (scene_of h) first (length ps) v)
unfolding mark_own send_other
target_moves h first ps ns None heap fits k leads =
    record { same = refl; marks = λ b e. e; fits = fits; sent = tt; many = refl }
target_moves h first ps ns (Some t) heap fits k leads = by_own (is_own (scene_of h) first (length ps) t.0) refl
  where
    w : ℕ
    w = h.store.words

    low : 0 < t.0 / w
    low = low_is 0 (t.0 / w) leads

    n : ℕ
    n = own_index (scene_of h) first t.0

    qs : List OwnedPage
    qs = change_at ps n (mark_on (t.0 % w))

    here : IsOn w first n t.0 → (p : OwnedPage) × (slice_get ps n ≡ Some p)
        → Moves h first ps ns (sent_to (placed h first ps) (ns ++ (Some (t.0, false) ∷ []))) qs []
    here on found =
        let marked : sent_to (placed h first ps) (Some (t.0, false) ∷ []) ≡ placed h first qs =
        mark_placed h first n t.0 ps found.0 heap fits found.1 on in
        record {
          same = mark_first (placed h first ps) t.0 ns low k ∙ ap (λ g. sent_to g ns) marked
              ∙ ap (sent_to (placed h first qs)) (sym (append_none ns));
          marks = λ b e. ap (λ (g : HeapState). bit_at g.mark w b) (sym marked)
              ∙ marked_stays (placed h first ps) t.0 b e;
          fits = fits_changed h first n ps (mark_on (t.0 % w)) (marked_alike (t.0 % w)) fits;
          sent = tt;
          many = length_changed ps n (mark_on (t.0 % w));
        }

    by_own : (c : Bool) → is_own (scene_of h) first (length ps) t.0 ≡ c
        → Moves h first ps ns (sent_to (placed h first ps) (ns ++ (Some (t.0, false) ∷ []))) (if c then qs else ps)
        (if c then [] else Some (t.0, false) ∷ [])
    by_own false e = record { same = refl; marks = λ b x. x; fits = fits; sent = (low, tt); many = refl }
    by_own true e =
        let both = and_parts (nat_lt first (t.0 / w)) (nat_lt n (length ps)) e in
        here (own_on w first t.0 (low_is first (t.0 / w) both.0)) (get_within ps n (low_is n (length ps) both.1))

-- ---- one word

word_alike : (h : HeapState) (first : ℕ) (ps : List OwnedPage) (ns : List Reference) (v : Reference)
    → marked_word (sent_to (placed h first ps) ns) v ≡ marked_in (scene_of h) v
unfolding marked_word resolve entry_at marked_in resolved applied
word_alike h first ps ns None = refl
word_alike h first ps ns (Some x) = refl

there_read : (h : HeapState) (first i a : ℕ) (ps : List OwnedPage) (ns : List Reference) (p : OwnedPage) (q : Option ℕ)
    → IsStore h.store → FitsPages h first ps → slice_get ps i ≡ Some p → IsOn h.store.words first i a
    → word_of ps i (a % h.store.words) ≡ q → word_at (sent_to (placed h first ps) ns).store a ≡ q
unfolding applied
there_read h first i a ps ns p q s fits e on is = word_read h first i a ps p s fits e on ∙ is

-- a reference is written
write_is : (h : HeapState) (first i a : ℕ) (ps : List OwnedPage) (p : OwnedPage) (v : Reference)
    → IsStore h.store → FitsPages h first ps → slice_get ps i ≡ Some p → IsOn h.store.words first i a
    → applied (placed h first ps) ((a, v) ∷ []) []
    ≡ placed h first (change_at ps i (write_on (a % h.store.words) (bits_of v)))
unfolding applied
write_is h first i a ps p v s fits e on = word_placed h first i a (bits_of v) ps p s fits e on

write_marks : (g : HeapState) (a : ℕ) (v : Reference) → (applied g ((a, v) ∷ []) []).mark ≡ g.mark
unfolding applied
write_marks g a v = refl

pub nothing_moves : (h : HeapState) (first : ℕ) (ps : List OwnedPage) (ns : List Reference) (g : HeapState)
    → FitsPages h first ps → g ≡ sent_to (placed h first ps) ns → Moves h first ps ns g ps []
nothing_moves h first ps ns g fits e = record {
  same = e ∙ ap (sent_to (placed h first ps)) (sym (append_none ns));
  marks = λ b x. x;
  fits = fits;
  sent = tt;
  many = refl;
}

bits_move : (h : HeapState) (first i a j : ℕ) (ps : List OwnedPage) (ns : List Reference) (p : OwnedPage) (q : Option ℕ)
    → IsStore h.store → IsHeap h → FitsPages h first ps → AreSent h.store.words ns → slice_get ps i ≡ Some p
    → IsOn h.store.words first i (field_address a j) → word_of ps i (field_address a j % h.store.words) ≡ q
    → bits_lead_on (scene_of h) q ≡ true
    → Moves h first ps ns (marked_field (sent_to (placed h first ps) ns) (field_address a j))
    (mark_bits (scene_of h) first ps i (field_address a j % h.store.words) q)
    (send_bits (scene_of h) first (length ps) q)
bits_move h first i a j ps ns p None s heap fits k e on is leads =
    let g : HeapState = sent_to (placed h first ps) ns in
    nothing_moves h first ps ns _ fits (field_is g a j None
    (there_read h first i (field_address a j) ps ns p None s fits e on is) ∙ nothing_applied g)
bits_move h first i a j ps ns p (Some zero) s heap fits k e on is leads =
    let g : HeapState = sent_to (placed h first ps) ns in
    nothing_moves h first ps ns _ fits (field_is g a j (Some zero)
    (there_read h first i (field_address a j) ps ns p (Some zero) s fits e on is) ∙ nothing_applied g)
bits_move h first i a j ps ns p (Some (suc b)) s heap fits k e on is leads =
    record {
      same = written ∙ target.same;
      marks = λ x y. target.marks x (ap (λ m. bit_at m h.store.words x) kept ∙ y);
      fits = target.fits;
      sent = target_sent;
      many = target.many ∙ length_changed ps i (write_on o (bits_of v));
    }
  where
    o : ℕ
    o = field_address a j % h.store.words

    v : Reference
    v = marked_in (scene_of h) (read_reference (suc b))

    g : HeapState
    g = sent_to (placed h first ps) ns

    qs : List OwnedPage
    qs = change_at ps i (write_on o (bits_of v))

    write : applied (placed h first ps) ((field_address a j, v) ∷ []) [] ≡ placed h first qs
    write = write_is h first i (field_address a j) ps p v s fits e on

    kept : (placed h first qs).mark ≡ (placed h first ps).mark
    kept = ap (λ (x : HeapState). x.mark) (sym write) ∙ write_marks (placed h first ps) (field_address a j) v

    written : marked_field g (field_address a j) ≡ sent_to (placed h first qs) (ns ++ note_of v)
    written = field_is g a j (Some (suc b))
        (there_read h first i (field_address a j) ps ns p (Some (suc b)) s fits e on is)
        ∙ ap (λ x. applied g ((field_address a j, x) ∷ []) (note_of x))
        (word_alike h first ps ns (read_reference (suc b)))
        ∙ applied_both (placed h first ps) [] ((field_address a j, v) ∷ []) ns (note_of v)
        ∙ sym (applied_both (placed h first ps) ((field_address a j, v) ∷ []) [] [] (ns ++ note_of v))
        ∙ ap (λ x. sent_to x (ns ++ note_of v)) write

    target : Moves h first qs ns (sent_to (placed h first qs) (ns ++ note_of v)) (mark_target (scene_of h) first qs v)
        (send_target (scene_of h) first (length ps) v)
    target = subst (λ m. Moves h first qs ns (sent_to (placed h first qs) (ns ++ note_of v))
        (mark_target (scene_of h) first qs v) (send_target (scene_of h) first m v))
        (length_changed ps i (write_on o (bits_of v)))
        (target_moves h first qs ns v heap
        (fits_changed h first i ps (write_on o (bits_of v)) (written_alike o (bits_of v)) fits) k leads)

    target_sent : AreSent h.store.words (send_target (scene_of h) first (length ps) v)
    target_sent = target.sent

pub word_moves : (h : HeapState) (first i a j o : ℕ) (ps : List OwnedPage) (ns : List Reference) (p : OwnedPage)
    → IsStore h.store → IsHeap h → FitsPages h first ps → AreSent h.store.words ns → slice_get ps i ≡ Some p
    → IsOn h.store.words first i (field_address a j) → field_address a j % h.store.words ≡ o
    → bits_lead_on (scene_of h) (word_of ps i o) ≡ true
    → Moves h first ps ns (marked_field (sent_to (placed h first ps) ns) (field_address a j))
    (mark_word (scene_of h) first ps i o) (send_word (scene_of h) first ps i o)
unfolding mark_word send_word
word_moves h first i a j o ps ns p s heap fits k e on same leads =
    subst (λ x. Moves h first ps ns (marked_field (sent_to (placed h first ps) ns) (field_address a j))
    (mark_bits (scene_of h) first ps i x (word_of ps i o)) (send_bits (scene_of h) first (length ps) (word_of ps i o)))
    same (bits_move h first i a j ps ns p (word_of ps i o) s heap fits k e on (ap (word_of ps i) same) leads)

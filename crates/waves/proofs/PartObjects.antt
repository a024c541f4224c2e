-- An object of a part's pages is scanned completely in the heap with these pages.
use Rattle.std.proofs.Common.{◌≡◌, ℕ, zero, suc, ◌+◌, ◌-◌, ◌/◌, ◌%◌, ◌<◌, ◌≤◌, true, false, Bool}
use Rattle.std.proofs.Common.{List, [], ◌∷◌, ◌++◌, get_or, length, Option, Some, None, refl, sym, ◌∙◌, ap, arith}
use Rattle.std.proofs.Common.{subst}
use Rattle.std.specs.List.{slice_get}
use Rattle.std.specs.Option.{option_and_then}
use Rattle.std.proofs.lemmas.Option.{slice_get_within, get_or_from_slice_get}
use Rattle.layout.specs.declared.shape.Layout.{Layout}
use Rattle.model.specs.Bits.{bit_at}
use Rattle.model.specs.Data.{layout_at, layout_in, header_layout}
use Rattle.model.specs.Holding.{IsHeap}
use Rattle.model.specs.Owning.{IsStore}
use Rattle.model.specs.References.{field_address}
use Rattle.model.specs.States.{Reference, HeapState, change_at}
use Rattle.model.proofs.Lists.{get_within}
use Rattle.model.proofs.Tables.{length_changed, row_short}
use Rattle.waves.specs.Waves.{applied}
use Rattle.drains.specs.Drains.{refs_at, refs_in, marked_fields, without_todo, scanned}
use Rattle.drains.proofs.Scanned.{field_behind}
use Rattle.page.specs.Owned.{words_or}
use Rattle.page.specs.declared.owned.OwnedPage.{OwnedPage}
use Rattle.page.proofs.Behind.{same_page, further_on}
use Rattle.part_scans.specs.Scenes.{scene_of, refs_of, refs_in as scene_refs}
use Rattle.part_scans.specs.Scans.{end_on, word_of, mark_word, send_word, mark_words, send_words, scan_own}
use Rattle.part_scans.specs.Scans.{bits_lead_on, AllLeadOn, bit_in, is_grey_own, IsScannable}
use Rattle.waves.specs.Parts.{sent_to, FitsPage, FitsPages, AreSent}
use Rattle.waves.proofs.Folding.{applied_both}
use Rattle.waves.proofs.Notes.{end_first, sent_both}
use Rattle.waves.proofs.Placed.{placed, frame_of, IsOn, fits_one, none_in, mark_read, end_placed, word_read}
use Rattle.waves.proofs.Placed.{frame_size}
use Rattle.waves.proofs.Fitting.{fits_changed}
use Rattle.waves.proofs.Scanning.{Moves, nothing_moves, word_moves, word_keeps, ended_alike}

pub append_assoc : {X : Type 0} (xs ys zs : List X) → (xs ++ ys) ++ zs ≡ xs ++ (ys ++ zs)
append_assoc [] ys zs = refl
append_assoc (x ∷ xs) ys zs = ap (λ us. x ∷ us) (append_assoc xs ys zs)

-- ---- places on a page

-- a word of a page is at an offset of the page
word_low : (h : HeapState) (i x b : ℕ) (p : OwnedPage) → IsStore h.store → FitsPage h i p → slice_get p.frame x ≡ Some b
    → x < h.store.words
word_low h i x b p s fits e = by_frame (frame_of h.store.pages i) refl
  where
    by_frame : (q : Option ℕ) → frame_of h.store.pages i ≡ q → x < h.store.words
    by_frame None z =
        let none : slice_get p.frame x ≡ None = none_in h i p x fits z in
        absurd (cc)
    by_frame (Some f) z = omega (
      arith,
      slice_get_within p.frame x b e,
      frame_size h.store i f s z,
      fits.frame ∙ ap (λ q. length (words_or h.store.frames q [])) z,
    )

-- so is a bit
bit_low : (row : List Bool) (o : ℕ) → get_or row o false ≡ true → o < length row
bit_low [] o e = absurd (cc)
bit_low (b ∷ bs) zero e = omega arith
bit_low (b ∷ bs) (suc o) e = omega (arith, bit_low bs o e)

-- a page with a bit
page_with : (ps : List OwnedPage) (i o : ℕ) (row : OwnedPage → List Bool)
    → bit_in (option_and_then (λ (p : OwnedPage). Some (row p)) (slice_get ps i)) o ≡ true
    → (p : OwnedPage) × (slice_get ps i ≡ Some p) × (get_or (row p) o false ≡ true)
page_with ps i o row e = by_page (slice_get ps i) refl e
  where
    by_page : (q : Option OwnedPage) → slice_get ps i ≡ q
        → bit_in (option_and_then (λ (p : OwnedPage). Some (row p)) q) o ≡ true
        → (p : OwnedPage) × (slice_get ps i ≡ Some p) × (get_or (row p) o false ≡ true)
    by_page None z f = absurd (cc)
    by_page (Some p) z f = (p, z, f)

-- a page with a word
page_of_word : (ps : List OwnedPage) (i x b : ℕ) → word_of ps i x ≡ Some b
    → (p : OwnedPage) × (slice_get ps i ≡ Some p) × (slice_get p.frame x ≡ Some b)
page_of_word ps i x b e = by_page (slice_get ps i) refl e
  where
    by_page : (q : Option OwnedPage) → slice_get ps i ≡ q
        → option_and_then (λ (p : OwnedPage). slice_get p.frame x) q ≡ Some b
        → (p : OwnedPage) × (slice_get ps i ≡ Some p) × (slice_get p.frame x ≡ Some b)
    by_page None z f = absurd (cc)
    by_page (Some p) z f = (p, z, f)

-- a grey object's page, and that its offset is on a page
pub grey_page : (h : HeapState) (first i o : ℕ) (ps : List OwnedPage) → IsHeap h → FitsPages h first ps
    → is_grey_own ps i o ≡ true
    → (p : OwnedPage) × (slice_get ps i ≡ Some p) × (get_or p.grey o false ≡ true) × (o < h.store.words)
grey_page h first i o ps heap fits e =
    let (p, there, set) = page_with ps i o (λ (q : OwnedPage). q.grey) e in
    (p, there, set, low p (fits_one h first i ps p fits there) (bit_low p.grey o set))
  where
    short : (n : ℕ) (o : Option (List Bool)) → slice_get h.todo n ≡ o → length (get_or h.todo n []) ≤ h.store.words
    short n None z = none_short h.todo n z
      where
        none_short : (rows : List (List Bool)) (n : ℕ) → slice_get rows n ≡ None
            → length (get_or rows n []) ≤ h.store.words
        none_short [] n z = omega arith
        none_short (r ∷ rs) zero z = absurd (cc)
        none_short (r ∷ rs) (suc n) z = none_short rs n z
    short n (Some row) z =
        let is : get_or h.todo n [] ≡ row = get_or_from_slice_get h.todo n row [] z in
        omega (arith, row_short h.store h.todo n row heap.todo z, ap (λ (r : List Bool). length r) is)

    low : (p : OwnedPage) → FitsPage h (first + i) p → o < length p.grey → o < h.store.words
    low p f l = omega (arith, l, f.grey, short (first + i) (slice_get h.todo (first + i)) refl)

on_alike : (w first i a b : ℕ) → b / w ≡ a / w → IsOn w first i a → IsOn w first i b
on_alike w first i a b e on =
    record { low = subst (λ n. 0 < n) (sym e) on.low; page = ap (λ n. n - 1) e ∙ on.page }

-- ---- all words of an object

fields_move : (h : HeapState) (first i a j x o k : ℕ) (ps : List OwnedPage) (ns : List Reference) → IsStore h.store
    → IsHeap h → FitsPages h first ps → AreSent h.store.words ns → IsOn h.store.words first i a
    → a % h.store.words ≡ o → x ≡ o + (1 + j) → AllLeadOn (scene_of h) ps i x k
    → Moves h first ps ns (marked_fields (sent_to (placed h first ps) ns) a j k)
    (mark_words (scene_of h) first ps i x k) (send_words (scene_of h) first ps i x k)
fields_move h first i a j x o zero ps ns s heap fits sent on same at leads =
    nothing_moves h first ps ns (sent_to (placed h first ps) ns) fits refl
fields_move h first i a j x o (suc k) ps ns s heap fits sent on same at leads =
    let here : x + 0 ≡ x = omega arith in
    let lead = leads 0 (omega arith) in
    let (p, there, word) = page_of_word ps i x lead.0.0 (ap (word_of ps i) (sym here) ∙ lead.0.1) in
    let one = word_moves h first i a j x ps ns p s heap fits sent there
    (on_alike w first i a (field_address a j) (page_is (near lead.0.0 p there word)) on)
    (offset_is (near lead.0.0 p there word))
    (ap (λ n. bits_lead_on (scene_of h) (word_of ps i n)) (sym here) ∙ lead.1) in
    let rest = fields_move h first i a (j + 1) (x + 1) o k qs (ns ++ ms) s heap one.fits
    (sent_both w ns ms sent one.sent) on same (omega (arith, at)) leads_more in
    record {
      same = ap (λ g. marked_fields g a (j + 1) k) one.same ∙ rest.same
          ∙ ap (sent_to (placed h first (mark_words (scene_of h) first qs i (x + 1) k)))
          (append_assoc ns ms (send_words (scene_of h) first qs i (x + 1) k));
      marks = λ b e. rest.marks b (one.marks b e);
      fits = rest.fits;
      sent = sent_both w ms (send_words (scene_of h) first qs i (x + 1) k) one.sent rest.sent;
      many = rest.many ∙ one.many;
    }
  where
    w : ℕ
    w = h.store.words

    qs : List OwnedPage
    qs = mark_word (scene_of h) first ps i x

    ms : List Reference
    ms = send_word (scene_of h) first ps i x

    near : (b : ℕ) (p : OwnedPage) → slice_get ps i ≡ Some p → slice_get p.frame x ≡ Some b → a % w + (1 + j) < w
    near b p there word =
        let low : x < w = word_low h (first + i) x b p s (fits_one h first i ps p fits there) word in
        subst (λ n. n + (1 + j) < w) (sym same) (subst (λ n. n < w) at low)

    page_is : a % w + (1 + j) < w → field_address a j / w ≡ a / w
    page_is n = ap (λ y. y / w) (sym (field_behind a j)) ∙ same_page a (1 + j) w n

    offset_is : a % w + (1 + j) < w → field_address a j % w ≡ x
    offset_is n = ap (λ y. y % w) (sym (field_behind a j)) ∙ further_on a (1 + j) w n
        ∙ ap (λ y. y + (1 + j)) same ∙ sym at

    leads_more : AllLeadOn (scene_of h) qs i (x + 1) k
    leads_more m l =
        let d = leads (suc m) (omega (arith, l)) in
        let further : x + 1 + m ≡ x + suc m = omega arith in
        let e : word_of qs i (x + 1 + m) ≡ word_of ps i (x + suc m) =
        word_keeps (scene_of h) first ps i x (x + 1 + m) (omega arith) ∙ ap (word_of ps i) further in
        ((d.0.0, e ∙ d.0.1), ap (bits_lead_on (scene_of h)) e ∙ d.1)

-- ---- an object

refs_alike : (o : Option Layout) → refs_in o ≡ scene_refs o
refs_alike None = refl
refs_alike (Some l) = refl

refs_are : (h : HeapState) (first i a o : ℕ) (ps : List OwnedPage) (ns : List Reference) (p : OwnedPage)
    → IsStore h.store → FitsPages h first ps → slice_get ps i ≡ Some p → IsOn h.store.words first i a
    → a % h.store.words ≡ o → refs_at (sent_to (placed h first ps) ns) a ≡ refs_of (scene_of h) (word_of ps i o)
unfolding refs_at layout_at refs_of applied
refs_are h first i a o ps ns p s fits there on same =
    ap (λ v. refs_in (layout_in h.config.layouts (header_layout v)))
    (word_read h first i a ps p s fits there on ∙ ap (word_of ps i) same)
    ∙ refs_alike (layout_in h.config.layouts (header_layout (word_of ps i o)))

end_apart : (g : HeapState) (a : ℕ) → without_todo g a ≡ applied g [] (Some (a, true) ∷ [])
unfolding without_todo applied
end_apart g a = refl

ended_is : (g : HeapState) (a : ℕ) (ns : List Reference)
    → without_todo (sent_to g ns) a ≡ sent_to g (ns ++ (Some (a, true) ∷ []))
ended_is g a ns = end_apart (sent_to g ns) a ∙ applied_both g [] [] ns (Some (a, true) ∷ [])

end_marks : (g : HeapState) (a : ℕ) → (sent_to g (Some (a, true) ∷ [])).mark ≡ g.mark
unfolding applied
end_marks g a = refl

pub object_moves : (h : HeapState) (first i a o k : ℕ) (ps : List OwnedPage) (ns : List Reference) → IsStore h.store
    → IsHeap h → FitsPages h first ps → AreSent h.store.words ns → IsOn h.store.words first i a
    → a % h.store.words ≡ o → IsScannable (scene_of h) ps i o k
    → Moves h first ps ns (scanned (sent_to (placed h first ps) ns) a) (scan_own (scene_of h) first ps i o k)
    (send_words (scene_of h) first ps i (o + 1) k)
unfolding scanned scan_own
object_moves h first i a o k ps ns s heap fits sent on same c =
    let (p, there, set) = page_with ps i o (λ (q : OwnedPage). q.marked) c.marked in
    let (q, found) = get_within qs i (omega (arith, slice_get_within ps i p there, fields.many)) in
    let marked : bit_at (placed h first qs).mark h.store.words a ≡ true = fields.marks a
    (mark_read h first i a ps p heap fits there on ∙ ap (λ n. get_or p.marked n false) same ∙ set) in
    let ended : sent_to (placed h first qs) (Some (a, true) ∷ []) ≡ placed h first (change_at qs i (end_on o)) =
    end_placed h first i a qs q heap fields.fits found on
    ∙ ap (λ n. placed h first (change_at qs i (end_on n))) same in
    record {
      same = ap (λ n. without_todo (marked_fields (sent_to (placed h first ps) ns) a 0 n) a)
          (refs_are h first i a o ps ns p s fits there on same ∙ sym c.refs)
          ∙ ap (λ g. without_todo g a) fields.same
          ∙ ended_is (placed h first qs) a (ns ++ ms)
          ∙ end_first (placed h first qs) a (ns ++ ms) marked (sent_both h.store.words ns ms sent fields.sent)
          ∙ ap (λ g. sent_to g (ns ++ ms)) ended;
      marks = λ b e. ap (λ (g : HeapState). bit_at g.mark h.store.words b) (sym ended)
          ∙ ap (λ m. bit_at m h.store.words b) (end_marks (placed h first qs) a) ∙ fields.marks b e;
      fits = fits_changed h first i qs (end_on o) (ended_alike o) fields.fits;
      sent = fields.sent;
      many = length_changed qs i (end_on o) ∙ fields.many;
    }
  where
    qs : List OwnedPage
    qs = mark_words (scene_of h) first ps i (o + 1) k

    ms : List Reference
    ms = send_words (scene_of h) first ps i (o + 1) k

    fields : Moves h first ps ns (marked_fields (sent_to (placed h first ps) ns) a 0 k) qs ms
    fields = fields_move h first i a 0 (o + 1) o k ps ns s heap fits sent on same (omega arith) c.leads

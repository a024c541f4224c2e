-- Runs of objects that are copied from one page to another.
use Rattle.std.proofs.lemmas.List.{set-set}
use Rattle.std.proofs.Common.{◌≡◌, ℕ, zero, suc, ◌+◌, ◌-◌, ◌≤◌, ◌<◌, ◌%◌, ◌==◌, List, [], length, take, drop, set}
use Rattle.std.proofs.Common.{Option, Some, None, cond, Bool, true, false, not, ◌&&◌, ◌⊎◌, inl, inr}
use Rattle.std.proofs.Common.{refl, sym, ap, ◌∙◌, arith}
use Rattle.std.specs.List.{slice_get}
use Rattle.std.proofs.lemmas.Bool.{and_cases, and_parts, not-true, not-false}
use Rattle.std.proofs.lemmas.Option.{same_Some, slice_get_within}
use Rattle.layout.specs.declared.shape.Layout.{Layout}
use Rattle.model.specs.declared.records.Forwarding.{Forwarding}
use Rattle.model.specs.Owning.{IsStore}
use Rattle.model.specs.declared.limits.TheConstants.{MOST_WORDS}
use Rattle.model.specs.Stores.{StoreState, page_at, frame_in, words_at, with_words, changed_frame, changed_in, overlay}
use Rattle.model.proofs.Lists.{get_set_same, no_some}
use Rattle.model.proofs.Memory.{page_record, words_in, words_sized}
use Rattle.pieces.specs.Pieces.{SourceState, laid_from, laid_by, words_at as object_at, size_at}
use Rattle.pieces.proofs.Cuts.{length_all}
use Rattle.pieces.proofs.Overlays.{overlaid_all}
use Rattle.page.specs.Lending.{can_lend, has_frame}
use Rattle.page.specs.Runs.{known, source_with, with_run}
use Rattle.page.proofs.Keeping.{frame_keeps}
use Rattle.page.proofs.Copied.{same_set, nothing_over}

-- no words are taken of a page without words

taken_none : (n : ℕ) → take {A = ℕ} n [] ≡ []
taken_none zero = refl
taken_none (suc n) = refl

dropped_none : (n : ℕ) → drop {A = ℕ} n [] ≡ []
dropped_none zero = refl
dropped_none (suc n) = refl

none_by : (s : SourceState) (o : Option Forwarding) (ws : List ℕ) → s.words ≡ [] → laid_by s 0 o ws ≡ ws
none_by s None ws h = refl
none_by s (Some f) ws h = by_copied f.copied
  where
    no_words : object_at s f.offset ≡ []
    no_words = ap (λ (l : List ℕ). take (size_at s f.offset) (drop f.offset l)) h
        ∙ ap (take (size_at s f.offset)) (dropped_none f.offset) ∙ taken_none (size_at s f.offset)

    by_copied : (b : Bool) → cond b ws (overlay ws (f.to % s.size - 0) (object_at s f.offset)) ≡ ws
    by_copied true = refl
    by_copied false = ap (overlay ws (f.to % s.size - 0)) no_words ∙ nothing_over ws (f.to % s.size - 0)

laid_none : (s : SourceState) (e k : ℕ) (ws : List ℕ) → s.words ≡ [] → laid_from s 0 e k ws ≡ ws
laid_none s e zero ws h = refl
laid_none s e (suc k) ws h = ap (laid_from s 0 (e + 1) k) (none_by s (slice_get s.side e) ws h)
    ∙ laid_none s (e + 1) k ws h

-- frames whose words stay
unchanged_frame : (fs : List (List ℕ)) (target : ℕ) (f : List ℕ → List ℕ) → ((ws : List ℕ) → f ws ≡ ws)
    → fs ≡ changed_frame fs target (slice_get fs target) f
unchanged_frame fs target f same = by_words (slice_get fs target) refl
  where
    by_words : (o : Option (List ℕ)) → slice_get fs target ≡ o → fs ≡ changed_frame fs target o f
    by_words None e = refl
    by_words (Some ws) e = sym (ap (set fs target) (same ws) ∙ same_set fs target ws e)

pub unchanged : (s : StoreState) (n : ℕ) (f : List ℕ → List ℕ) → ((ws : List ℕ) → f ws ≡ ws) → s ≡ with_words s n f
unfolding with_words
unchanged s n f same = ap (λ fs. record s { frames = fs }) (by_frame (frame_in (page_at s n)))
  where
    by_frame : (o : Option ℕ) → s.frames ≡ changed_in s.frames o f
    by_frame None = refl
    by_frame (Some i) = unchanged_frame s.frames i f same

-- in a store

pub run_nowhere : (s : StoreState) (page target : ℕ) (side : List Forwarding) (ls : List Layout) (e k : ℕ)
    → frame_in (page_at s target) ≡ None → s ≡ with_run s page target side ls e k
unfolding with_run with_words
run_nowhere s page target side ls e k none = rw none refl

pub run_of_nothing : (s : StoreState) (page target : ℕ) (side : List Forwarding) (ls : List Layout) (e k : ℕ)
    → frame_in (page_at s page) ≡ None → s ≡ with_run s page target side ls e k
unfolding with_run words_at
run_of_nothing s page target side ls e k none = unchanged s target
    (λ ws. cond (page == target) ws
    (laid_from (source_with s.words (words_in s.frames (frame_in (page_at s page))) side ls) 0 e k ws))
    (λ ws. by_page (page == target) ws)
  where
    from : SourceState
    from = source_with s.words (words_in s.frames (frame_in (page_at s page))) side ls

    by_page : (b : Bool) (ws : List ℕ) → cond b ws (laid_from from 0 e k ws) ≡ ws
    by_page true ws = refl
    by_page false ws = laid_none from e k ws (ap (λ o. known (words_in s.frames o)) none)

-- if the pages can't be lent, nothing is copied
pub run_unlent : (s : StoreState) (page target : ℕ) (side : List Forwarding) (ls : List Layout) (e k : ℕ)
    → can_lend s page target ≡ false → s ≡ with_run s page target side ls e k
unfolding with_run
run_unlent s page target side ls e k h = by_pages (and_cases _ _ h)
  where
    by_frames : (has_frame s page ≡ false) ⊎ (has_frame s target ≡ false) → s ≡ with_run s page target side ls e k
    by_frames (inl a) = run_of_nothing s page target side ls e k (no_some _ a)
    by_frames (inr b) = run_nowhere s page target side ls e k (no_some _ b)

    by_pages : (not (page == target) ≡ false) ⊎ ((has_frame s page && has_frame s target) ≡ false)
        → s ≡ with_run s page target side ls e k
    by_pages (inl z) = rw (not-false (page == target) z) (unchanged s target (λ ws. ws) (λ ws. refl))
    by_pages (inr z) = by_frames (and_cases _ _ z)

-- two changes with the same effect on a page's words
same_words : (s : StoreState) (n : ℕ) (f g : List ℕ → List ℕ) (ws : List ℕ) → words_at s n ≡ Some ws → f ws ≡ g ws
    → with_words s n f ≡ with_words s n g
unfolding with_words words_at
same_words s n f g ws e same = ap (λ fs. record s { frames = fs }) (by_frame (frame_in (page_at s n)) refl)
  where
    by_words : (x : ℕ) → frame_in (page_at s n) ≡ Some x → (o : Option (List ℕ)) → slice_get s.frames x ≡ o
        → changed_frame s.frames x o f ≡ changed_frame s.frames x o g
    by_words x k None a = refl
    by_words x k (Some vs) a =
        let there : words_in s.frames (Some x) ≡ Some vs = a in
        let is : vs ≡ ws = same_Some _ _ (sym there ∙ ap (words_in s.frames) (sym k) ∙ e) in
        ap (set s.frames x) (ap f is ∙ same ∙ ap g (sym is))

    by_frame : (o : Option ℕ) → frame_in (page_at s n) ≡ o → changed_in s.frames o f ≡ changed_in s.frames o g
    by_frame None k = refl
    by_frame (Some x) k = by_words x k (slice_get s.frames x) refl

-- the target's words are written while those of the page are read
pub run_lent : (s : StoreState) (page target size : ℕ) (side : List Forwarding) (ls : List Layout) (e k : ℕ)
    (from to new : List ℕ) → can_lend s page target ≡ true → size ≡ s.words → words_at s page ≡ Some from
    → words_at s target ≡ Some to
    → new ≡ laid_from (record { size = size; words = from; side = side; layouts = ls }) 0 e k to
    → with_words s target (λ ws. overlay ws 0 new) ≡ with_run s page target side ls e k
unfolding with_run
run_lent s page target size side ls e k from to new h a b c d =
    let apart : (page == target) ≡ false = not-true (page == target) (and_parts _ _ h).0 in
    let run : ℕ → List ℕ → List ℕ = λ n ws. laid_from (record { size = n; words = from; side = side; layouts = ls }) 0 e
    k ws in
    let laid : run size to ≡ run s.words to = ap (λ n. run n to) a in
    rw (apart, b) (same_words s target (λ ws. overlay ws 0 new) (run s.words) to c
    (overlaid_all to new (ap length d ∙ length_all _ 0 e k to) ∙ d ∙ laid))

-- a page's frame exists
pub frame_there : (s : StoreState) (n f : ℕ) → IsStore s → frame_in (page_at s n) ≡ Some f → f < length s.frames
frame_there s n f h e =
    let (i, p, a, b, c) = page_record s n f e in
    omega (arith, h.sized.owners, slice_get_within s.owners f _ (h.owning.owned i f p b c))

-- no page has more words than the limit
pub page_short : (s : StoreState) (n : ℕ) (ws : List ℕ) → IsStore s → words_at s n ≡ Some ws → length ws ≤ MOST_WORDS
page_short s n ws h e = omega (arith, words_sized s n ws h e, h.sized.words)

-- other words of the same number in a page keep the store's invariant
pub words_keep : (s : StoreState) (n : ℕ) (f : List ℕ → List ℕ) → ((ws : List ℕ) → length (f ws) ≡ length ws)
    → IsStore s
    → IsStore (with_words s n f)
unfolding with_words
words_keep s n f same h = by_frame (frame_in (page_at s n))
  where
    by_words : (i : ℕ) (o : Option (List ℕ)) → slice_get s.frames i ≡ o
        → IsStore (record s { frames = changed_frame s.frames i o f })
    by_words i None z = h
    by_words i (Some ws) z = frame_keeps s i ws (f ws) h z (same ws)

    by_frame : (o : Option ℕ) → IsStore (record s { frames = changed_in s.frames o f })
    by_frame None = h
    by_frame (Some i) = by_words i (slice_get s.frames i) refl

-- words that are changed twice
pub words_twice : (s : StoreState) (n : ℕ) (f g : List ℕ → List ℕ)
    → with_words (with_words s n f) n g ≡ with_words s n (λ ws. g (f ws))
unfolding with_words page_at
words_twice s n f g = ap (λ fs. record s { frames = fs }) (by_frame (frame_in (page_at s n)))
  where
    by_words : (i : ℕ) (o : Option (List ℕ)) → slice_get s.frames i ≡ o
        → changed_frame (changed_frame s.frames i o f) i (slice_get (changed_frame s.frames i o f) i) g
        ≡ changed_frame s.frames i o (λ ws. g (f ws))
    by_words i None z = ap (λ o. changed_frame s.frames i o g) z
    by_words i (Some ws) z = ap (λ o. changed_frame (set s.frames i (f ws)) i o g) (get_set_same s.frames i ws (f ws) z)
        ∙ set-set s.frames i (f ws) (g (f ws))

    by_frame : (o : Option ℕ) → changed_in (changed_in s.frames o f) o g ≡ changed_in s.frames o (λ ws. g (f ws))
    by_frame None = refl
    by_frame (Some i) = by_words i (slice_get s.frames i) refl

-- two changes with the same effect on any words
pub words_alike : (s : StoreState) (n : ℕ) (f g : List ℕ → List ℕ) → ((ws : List ℕ) → f ws ≡ g ws)
    → with_words s n f ≡ with_words s n g
unfolding with_words
words_alike s n f g same = ap (λ fs. record s { frames = fs }) (by_frame (frame_in (page_at s n)))
  where
    by_words : (i : ℕ) (o : Option (List ℕ)) → changed_frame s.frames i o f ≡ changed_frame s.frames i o g
    by_words i None = refl
    by_words i (Some ws) = ap (set s.frames i) (same ws)

    by_frame : (o : Option ℕ) → changed_in s.frames o f ≡ changed_in s.frames o g
    by_frame None = refl
    by_frame (Some i) = by_words i (slice_get s.frames i)

-- The words of pages: where they are, and how a change of one page's words affects them and those of others.
use Rattle.std.proofs.Common.{◌≡◌, ◌≢◌, ℕ, ◌+◌, ◌-◌, ◌/◌, ◌%◌, cond, Bool, true, false, nat_eq}
use Rattle.std.proofs.Common.{is_some, List, length, Option, Some, None, refl, sym, ◌∙◌, ap}
use Rattle.std.proofs.Common.{arith, ◌≤◌, ◌++◌, take, drop, length-drop, length-append}
use Rattle.std.specs.List.{slice_get}
use Rattle.std.proofs.Math.ListN.{length-set}
use Rattle.std.specs.Option.{option_and_then}
use Rattle.std.proofs.lemmas.Option.{slice_get_within, same_Some}
use Rattle.std.proofs.lemmas.Bool.{false≢true}
use Rattle.std.proofs.lemmas.List.{length-take, length-take-le}
use Rattle.model.specs.declared.records.Page.{Page}
use Rattle.model.specs.declared.records.PageState.{PageState}
use Rattle.model.specs.declared.records.PageState.TheVariants.{Unused, Open, Closed, From, Gone}
use Rattle.model.specs.Stores.{StoreState, page_at, frame_in, state_at, state_in, has_memory}
use Rattle.model.specs.Stores.{is_open, is_unused, word_at, word_in, spot_of, at_offset}
use Rattle.model.specs.Stores.{words_at, with_words, changed_in, changed_frame, overlay}
use Rattle.model.specs.Owning.{IsStore}
use Rattle.model.proofs.Lists.{get_set_same, get_set_other, get_within}

-- the words of a frame
abbrev pub words_in : List (List ℕ) → Option ℕ → Option (List ℕ)
words_in frames o = option_and_then (slice_get frames) o

from_one : (n : ℕ) → nat_eq n 0 ≡ false → n ≡ n - 1 + 1
from_one n z = grind arith

-- a page with a frame has a record, which has the frame
pub page_record : (s : StoreState) (n f : ℕ) → frame_in (page_at s n) ≡ Some f
    → (i : ℕ) × (p : Page) × (n ≡ i + 1) × (slice_get s.pages i ≡ Some p) × (p.frame ≡ Some f)
unfolding page_at
page_record s n f e = by_zero (nat_eq n 0) refl e
  where
    by_page : (o : Option Page) → slice_get s.pages (n - 1) ≡ o → (n ≡ n - 1 + 1) → frame_in o ≡ Some f
        → (i : ℕ) × (p : Page) × (n ≡ i + 1) × (slice_get s.pages i ≡ Some p) × (p.frame ≡ Some f)
    by_page None a b k = absurd (cc)
    by_page (Some p) a b k = (n - 1, p, b, a, k)

    by_zero : (b : Bool) → nat_eq n 0 ≡ b → frame_in (cond b None (slice_get s.pages (n - 1))) ≡ Some f
        → (i : ℕ) × (p : Page) × (n ≡ i + 1) × (slice_get s.pages i ≡ Some p) × (p.frame ≡ Some f)
    by_zero true z k = absurd (cc)
    by_zero false z k = by_page (slice_get s.pages (n - 1)) refl (from_one n z) k

-- no two pages have one frame
pub own_frame : (s : StoreState) (m n f : ℕ) → IsStore s → frame_in (page_at s m) ≡ Some f
    → frame_in (page_at s n) ≡ Some f → m ≡ n
own_frame s m n f h e k =
    let (i, p, a, b, c) = page_record s m f e in
    let (j, q, x, y, z) = page_record s n f k in
    let one = h.owning.owned i f p b c in
    let two = h.owning.owned j f q y z in
    a ∙ same_Some _ _ (same_Some _ _ (sym one ∙ two)) ∙ sym x

-- a page has as many words as the store says
pub words_sized : (s : StoreState) (n : ℕ) (ws : List ℕ) → IsStore s → words_at s n ≡ Some ws → length ws ≡ s.words
unfolding words_at
words_sized s n ws h e = by_frame (frame_in (page_at s n)) refl e
  where
    by_frame : (o : Option ℕ) → frame_in (page_at s n) ≡ o → words_in s.frames o ≡ Some ws → length ws ≡ s.words
    by_frame None a k = absurd (cc)
    by_frame (Some f) a k =
        let (i, p, z, at, frame) = page_record s n f a in
        h.sized.frames f (Some (i + 1)) ws (h.owning.owned i f p at frame) k

-- the words of the changed page
pub words_changed : (s : StoreState) (n : ℕ) (f : List ℕ → List ℕ) (ws : List ℕ) → words_at s n ≡ Some ws
    → words_at (with_words s n f) n ≡ Some (f ws)
unfolding words_at with_words page_at
words_changed s n f ws e = by_frame (frame_in (page_at s n)) refl e
  where
    by_frame : (o : Option ℕ) → frame_in (page_at s n) ≡ o → words_in s.frames o ≡ Some ws
        → words_in (changed_in s.frames o f) o ≡ Some (f ws)
    by_frame None a k = absurd (cc)
    by_frame (Some x) a k = ap (λ o. slice_get (changed_frame s.frames x o f) x) k ∙ get_set_same s.frames x ws (f ws) k

-- the words of another
pub words_kept : (s : StoreState) (m n : ℕ) (f : List ℕ → List ℕ) → IsStore s → m ≢ n
    → words_at (with_words s n f) m ≡ words_at s m
unfolding words_at with_words page_at
words_kept s m n f h d = by_frame (frame_in (page_at s n)) refl (frame_in (page_at s m)) refl
  where
    by_words : (x y : ℕ) (o : Option (List ℕ)) → y ≢ x
        → words_in (changed_frame s.frames x o f) (Some y) ≡ words_in s.frames (Some y)
    by_words x y None k = refl
    by_words x y (Some ws) k = get_set_other s.frames x y (f ws) k

    by_frame : (o : Option ℕ) → frame_in (page_at s n) ≡ o → (q : Option ℕ) → frame_in (page_at s m) ≡ q
        → words_in (changed_in s.frames o f) q ≡ words_in s.frames q
    by_frame None a q b = refl
    by_frame (Some x) a None b = refl
    by_frame (Some x) a (Some y) b =
        by_words x y (slice_get s.frames x) (λ e. d (own_frame s m n x h (b ∙ ap Some e) a))

-- the word at an address is one of its page's
pub word_on_page : (s : StoreState) (a : ℕ)
    → word_at s a ≡ option_and_then (λ ws. slice_get ws (a % s.words)) (words_at s (a / s.words))
unfolding word_at spot_of words_at
word_on_page s a = by_frame (frame_in (page_at s (a / s.words)))
  where
    by_words : (o : Option (List ℕ))
        → option_and_then (λ ws. slice_get ws (a % s.words)) o ≡ option_and_then (λ ws. slice_get ws (a % s.words)) o
    by_words o = refl

    by_frame : (o : Option ℕ) → word_in s.frames (at_offset o (a % s.words))
        ≡ option_and_then (λ ws. slice_get ws (a % s.words)) (option_and_then (slice_get s.frames) o)
    by_frame None = refl
    by_frame (Some f) = refl

-- the record of page n is at index n - 1
pub page_there : (s : StoreState) (n : ℕ) (p : Page) → page_at s n ≡ Some p
    → (n ≡ n - 1 + 1) × (slice_get s.pages (n - 1) ≡ Some p)
unfolding page_at
page_there s n p e = by_zero (nat_eq n 0) refl e
  where
    by_zero : (b : Bool) → nat_eq n 0 ≡ b → cond b None (slice_get s.pages (n - 1)) ≡ Some p
        → (n ≡ n - 1 + 1) × (slice_get s.pages (n - 1) ≡ Some p)
    by_zero true z k = absurd (cc)
    by_zero false z k = (from_one n z, k)

-- a page with words has memory
pub words_memory : (s : StoreState) (n : ℕ) (ws : List ℕ) → IsStore s → words_at s n ≡ Some ws
    → has_memory (state_at s n) ≡ true
unfolding words_at state_at
words_memory s n ws h e = by_page (page_at s n) refl e
  where
    by_frame : (p : Page) → slice_get s.pages (n - 1) ≡ Some p → (o : Option ℕ) → p.frame ≡ o
        → words_in s.frames o ≡ Some ws → has_memory p.state ≡ true
    by_frame p a None f k = absurd (cc)
    by_frame p a (Some x) f k = sym (h.pages (n - 1) p a).memory ∙ ap is_some f

    by_page : (o : Option Page) → page_at s n ≡ o → words_in s.frames (frame_in o) ≡ Some ws
        → has_memory (state_in o) ≡ true
    by_page None a k = absurd (cc)
    by_page (Some p) a k = by_frame p (page_there s n p a).1 p.frame refl k

-- such a page isn't unused
pub page_used : (s : StoreState) (n : ℕ) (ws : List ℕ) → IsStore s → words_at s n ≡ Some ws
    → (p : Page) × (slice_get s.pages (n - 1) ≡ Some p) × (is_unused p.state ≡ false)
unfolding state_at
page_used s n ws h e = by_page (page_at s n) refl (words_memory s n ws h e)
  where
    used : (x : PageState) → has_memory x ≡ true → is_unused x ≡ false
    used Unused k = absurd (cc)
    used Open k = refl
    used Closed k = refl
    used From k = refl
    used Gone k = refl

    by_page : (o : Option Page) → page_at s n ≡ o → has_memory (state_in (page_at s n)) ≡ true
        → (p : Page) × (slice_get s.pages (n - 1) ≡ Some p) × (is_unused p.state ≡ false)
    by_page None a k = absurd (false≢true (sym (ap (λ o. has_memory (state_in o)) a) ∙ k))
    by_page (Some p) a k = (p, (page_there s n p a).1, used p.state (sym (ap (λ o. has_memory (state_in o)) a) ∙ k))

-- a page with memory has words
pub memory_words : (s : StoreState) (n : ℕ) → IsStore s → has_memory (state_at s n) ≡ true
    → (ws : List ℕ) × (words_at s n ≡ Some ws)
unfolding words_at state_at
memory_words s n h e = by_page (page_at s n) refl e
  where
    by_frame : (p : Page) → slice_get s.pages (n - 1) ≡ Some p → (o : Option ℕ) → p.frame ≡ o → is_some o ≡ true
        → (ws : List ℕ) × (words_in s.frames o ≡ Some ws)
    by_frame p a None f k = absurd (cc)
    by_frame p a (Some x) f k =
        let owner = slice_get_within s.owners x _ (h.owning.owned (n - 1) x p a f) in
        get_within s.frames x (omega (arith, owner, h.sized.owners))

    by_page : (o : Option Page) → page_at s n ≡ o → has_memory (state_in o) ≡ true
        → (ws : List ℕ) × (words_in s.frames (frame_in o) ≡ Some ws)
    by_page None a k = absurd (cc)
    by_page (Some p) a k =
        let there = (page_there s n p a).1 in by_frame p there p.frame refl ((h.pages (n - 1) p there).memory ∙ k)

pub open_state : (p : PageState) → is_open p ≡ true → p ≡ Open
open_state Open e = refl
open_state Unused e = absurd (cc)
open_state Closed e = absurd (cc)
open_state From e = absurd (cc)
open_state Gone e = absurd (cc)

pub unused_state : (p : PageState) → is_unused p ≡ true → p ≡ Unused
unused_state Unused e = refl
unused_state Open e = absurd (cc)
unused_state Closed e = absurd (cc)
unused_state From e = absurd (cc)
unused_state Gone e = absurd (cc)

-- an overlay keeps the number of words
pub length_overlaid : (ws : List ℕ) (o : ℕ) (xs : List ℕ) → length (overlay ws o xs) ≡ length ws
length_overlaid ws o xs = whole (take o ws) (drop o ws) (omega (arith, length-take o ws, length-drop o ws))
  where
    whole : (front back : List ℕ) → length ws ≤ length front + length back →
        length (take (length ws) (front ++ (xs ++ drop (length xs) back))) ≡ length ws
    whole front back h =
        let rest = length-drop (length xs) back in
        let behind = length-append xs (drop (length xs) back) in
        let all = length-append front (xs ++ drop (length xs) back) in
        length-take-le (length ws) (front ++ (xs ++ drop (length xs) back)) (omega (arith, all, behind, rest, h))

-- other words in a page keep the number of frames
pub frames_stay : (s : StoreState) (n : ℕ) (f : List ℕ → List ℕ) → length (with_words s n f).frames ≡ length s.frames
unfolding with_words
frames_stay s n f = by_frame (frame_in (page_at s n))
  where
    by_words : (x : ℕ) (o : Option (List ℕ)) → length (changed_frame s.frames x o f) ≡ length s.frames
    by_words x None = refl
    by_words x (Some ws) = length-set s.frames x (f ws)

    by_frame : (o : Option ℕ) → length (changed_in s.frames o f) ≡ length s.frames
    by_frame None = refl
    by_frame (Some x) = by_words x (slice_get s.frames x)

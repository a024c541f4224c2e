-- Copies of all objects of a page: their result, and when they fail.
use Rattle.std.proofs.Common.{◌≡◌, ℕ, zero, suc, ◌+◌, ◌*◌, ◌/◌, ◌%◌, ◌||◌, nat_eq, Bool, true, false, cond, not, length, count_by}
use Rattle.std.proofs.Common.{List, [], ◌∷◌, Option, Some, None}
use Rattle.std.proofs.Common.{refl, sym, ◌∙◌, ap}
use Rattle.std.specs.List.{list_any, slice_get}
use Rattle.std.specs.Prelude.{Result, Ok, Err}
use Rattle.std.proofs.lemmas.Bool.{not-true}
use Rattle.std.proofs.lemmas.Option.{same_Some}
use Rattle.model.specs.declared.records.Forwarding.{Forwarding}
use Rattle.model.specs.declared.steps.Answer.{Answer}
use Rattle.model.specs.declared.steps.Answer.TheVariants as answers
use Rattle.model.specs.declared.steps.Refusal.{Refusal}
use Rattle.model.specs.declared.steps.Refusal.TheVariants as refusals
use Rattle.model.specs.Bits.{of_page}
use Rattle.model.specs.Checkpoints.{all_crossed}
use Rattle.model.specs.Cycles.{is_uncopied}
use Rattle.model.specs.Emptying.{crossed_if_protecting, entry_on, copy_outcome, heap_after, copies_from, copy_page}
use Rattle.model.specs.Emptying.{copy_page_outcome}
use Rattle.model.specs.Moves.{with_copy, with_copied_words}
use Rattle.model.specs.Phases.{is_idle}
use Rattle.model.specs.Refusing.{◌>>=◌, or_refuse, refuse_if, Outcome}
use Rattle.model.specs.States.{HeapState}
use Rattle.model.specs.Stores.{state_at, is_from, with_words, page_at}
use Rattle.forward.proofs.Copies.{none_left as all_copied}
use Rattle.heap.specs.Runs.{with_entry, with_entries}
use Rattle.relocate.specs.Runs.{may_copy_page}

-- a page's objects may be copied
record MayCopy (h : HeapState) (n : ℕ) : Type 0 where
  busy : is_idle h.phase ≡ false
  crossed : crossed_if_protecting h ≡ Ok tt
  emptied : is_from (state_at h.store n) ≡ true

may_copy : (h : HeapState) (n : ℕ) → may_copy_page h n ≡ Ok tt → MayCopy h n
may_copy h n e = by_tests (is_idle h.phase) (crossed_if_protecting h) (is_from (state_at h.store n)) refl refl refl e
  where
    by_tests : (a : Bool) (r : Result Unit Refusal) (b : Bool) → is_idle h.phase ≡ a → crossed_if_protecting h ≡ r
        → is_from (state_at h.store n) ≡ b
        → (refuse_if a refusals.Phase >>= (λ u. r >>= (λ v. refuse_if (not b) refusals.BadIndex))) ≡ Ok tt
        → MayCopy h n
    by_tests true r b x y z k = absurd (cc)
    by_tests false (Err m) b x y z k = absurd (cc)
    by_tests false (Ok tt) false x y z k = absurd (cc)
    by_tests false (Ok tt) true x y z k = record { busy = x; crossed = y; emptied = z }

-- the effect of `Copy` of an entry
copied_one : (h : HeapState) (n e : ℕ) → MayCopy h n
    → heap_after h (copy_outcome h n e) ≡ with_entry h n (slice_get (of_page h.sides n) e)
unfolding copy_outcome entry_on
copied_one h n e m = by_tests (is_idle h.phase) (crossed_if_protecting h) (is_from (state_at h.store n)) m.busy
    m.crossed
    m.emptied
  where
    row : Option Forwarding → Outcome
    row o = or_refuse o refusals.BadIndex >>= (λ f. refuse_if f.copied refusals.Copied
        >>= (λ u. Ok (with_copy h (n * h.store.words + f.offset) f.to, answer f)))
      where
        answer : Forwarding → Answer
        answer f = answers.MovedTo (f.to / h.store.words) (f.to % h.store.words)

    by_entry : (o : Option Forwarding) → heap_after h (row o) ≡ with_entry h n o
    by_entry None = refl
    by_entry (Some f) = by_copied f.copied
      where
        by_copied : (b : Bool) → heap_after h (refuse_if b refusals.Copied
            >>= (λ u. Ok (
              with_copy h (n * h.store.words + f.offset) f.to,
              answers.MovedTo (f.to / h.store.words) (f.to % h.store.words),
            )))
            ≡ cond b h (with_copy h (n * h.store.words + f.offset) f.to)
        by_copied true = refl
        by_copied false = refl

    by_tests : (a : Bool) (r : Result Unit Refusal) (b : Bool) → a ≡ false → r ≡ Ok tt → b ≡ true
        → heap_after h (refuse_if a refusals.Phase >>= (λ u. r
        >>= (λ v. row (cond b (slice_get (of_page h.sides n) e) None))))
        ≡ with_entry h n (slice_get (of_page h.sides n) e)
    by_tests false (Ok tt) true x y z = by_entry (slice_get (of_page h.sides n) e)
    by_tests true r b x y z = absurd (cc)
    by_tests false (Err k) b x y z = absurd (cc)
    by_tests false (Ok tt) false x y z = absurd (cc)

-- after an entry is copied, the objects of a page may still be copied
still : (h : HeapState) (n p : ℕ) (o : Option Forwarding) → MayCopy h p → MayCopy (with_entry h n o) p
unfolding with_copy with_copied_words with_words state_at page_at crossed_if_protecting all_crossed
still h n p None m = m
still h n p (Some f) m = by_copied f.copied
  where
    by_copied : (b : Bool) → MayCopy (cond b h (with_copy h (n * h.store.words + f.offset) f.to)) p
    by_copied true = m
    by_copied false = record { busy = m.busy; crossed = m.crossed; emptied = m.emptied }

copies_are : (h : HeapState) (n e k : ℕ) → MayCopy h n → copies_from h n e k ≡ with_entries h n e k
copies_are h n e zero m = refl
copies_are h n e (suc k) m =
    let o : Option Forwarding = slice_get (of_page h.sides n) e in
    ap (λ g. copies_from g n (e + 1) k) (copied_one h n e m) ∙ copies_are (with_entry h n o) n (e + 1) k (still h n n o m)

-- the outcome is that of the tests, and then of the copies

abbrev told : HeapState → ℕ → Outcome
told h n = Ok (copy_page h n, answers.CopiedPage (count_by is_uncopied (of_page h.sides n)))

abbrev first_then : Result Unit Refusal → Outcome → Outcome
first_then r o = r >>= (λ u. o)

abbrev both_of : Result Unit Refusal → Result Unit Refusal → Result Unit Refusal
both_of r q = r >>= (λ u. q)

by_parts : (h : HeapState) (n : ℕ) → copy_page_outcome h n ≡ first_then (may_copy_page h n) (told h n)
unfolding copy_page_outcome
by_parts h n = by_tests (refuse_if (is_idle h.phase) refusals.Phase) (crossed_if_protecting h)
    (refuse_if (not (is_from (state_at h.store n))) refusals.BadIndex)
  where
    by_tests : (a b c : Result Unit Refusal) → first_then a (first_then b (first_then c (told h n)))
        ≡ first_then (both_of a (both_of b c)) (told h n)
    by_tests (Err k) b c = refl
    by_tests (Ok u) (Err k) c = refl
    by_tests (Ok u) (Ok v) (Err k) = refl
    by_tests (Ok u) (Ok v) (Ok w) = refl

pub refused : (h : HeapState) (n : ℕ) (k : Refusal) → may_copy_page h n ≡ Err k → copy_page_outcome h n ≡ Err k
refused h n k e = by_parts h n ∙ ap (λ r. first_then r (told h n)) e

pub accepted : (h g : HeapState) (n count copied : ℕ) → may_copy_page h n ≡ Ok tt → count ≡ length (of_page h.sides n)
    → g ≡ with_entries h n 0 count → copied ≡ count_by is_uncopied (of_page h.sides n)
    → copy_page_outcome h n ≡ Ok (g, answers.CopiedPage copied)
unfolding copy_page
accepted h g n count copied e all is many = by_parts h n ∙ ap (λ r. first_then r (told h n)) e
    ∙ (λ i. Ok (
      (copies_are h n 0 (length (of_page h.sides n)) (may_copy h n e)
          ∙ ap (λ k. with_entries h n 0 k) (sym all) ∙ sym is) i,
      answers.CopiedPage (sym many i),
    ))

-- if no entry is left to be copied, nothing happens

element_copied : (fs : List Forwarding) (e : ℕ) (f : Forwarding) → list_any is_uncopied fs ≡ false
    → slice_get fs e ≡ Some f → f.copied ≡ true
element_copied [] e f none at = absurd (cc)
element_copied (x ∷ fs) zero f none at =
    ap (λ (y : Forwarding). y.copied) (sym (same_Some _ _ at)) ∙ by_copied x.copied refl none
  where
    by_copied : (b : Bool) → x.copied ≡ b → not b || list_any is_uncopied fs ≡ false → x.copied ≡ true
    by_copied true c z = c
    by_copied false c z = absurd (cc)
element_copied (x ∷ fs) (suc e) f none at = element_copied fs e f (rest (not x.copied) none) at
  where
    rest : (b : Bool) → b || list_any is_uncopied fs ≡ false → list_any is_uncopied fs ≡ false
    rest true z = absurd (cc)
    rest false z = z

entries_same : (h : HeapState) (n e k : ℕ) → list_any is_uncopied (of_page h.sides n) ≡ false
    → with_entries h n e k ≡ h
entries_same h n e zero none = refl
entries_same h n e (suc k) none =
    ap (λ g. with_entries g n (e + 1) k) (by_entry (slice_get (of_page h.sides n) e) refl)
    ∙ entries_same h n (e + 1) k none
  where
    by_entry : (o : Option Forwarding) → slice_get (of_page h.sides n) e ≡ o → with_entry h n o ≡ h
    by_entry None at = refl
    by_entry (Some f) at = ap (λ b. cond b h (with_copy h (n * h.store.words + f.offset) f.to))
        (element_copied (of_page h.sides n) e f none at)

pub none_left : (h : HeapState) (n copied : ℕ) → may_copy_page h n ≡ Ok tt
    → copied ≡ count_by is_uncopied (of_page h.sides n) → copied ≡ 0
    → copy_page_outcome h n ≡ Ok (h, answers.CopiedPage 0)
none_left h n copied may many none =
    accepted h h n (length (of_page h.sides n)) 0 may refl
    (sym (entries_same h n 0 (length (of_page h.sides n)) (not-true _ (sym (all_copied (of_page h.sides n))
    ∙ ap (λ k. nat_eq k 0) (sym many ∙ none)))))
    (sym none ∙ many)

-- after the entries of a page are copied, the objects of another may still be copied

tests_pass : (h : HeapState) (n : ℕ) → MayCopy h n → may_copy_page h n ≡ Ok tt
tests_pass h n m =
    (λ i. refuse_if (m.busy i) refusals.Phase
    >>= (λ u. m.crossed i >>= (λ v. refuse_if (not (m.emptied i)) refusals.BadIndex)))

all_still : (h : HeapState) (n p e k : ℕ) → MayCopy h p → MayCopy (with_entries h n e k) p
all_still h n p e zero m = m
all_still h n p e (suc k) m =
    let o : Option Forwarding = slice_get (of_page h.sides n) e in
    all_still (with_entry h n o) n p (e + 1) k (still h n p o m)

pub still_passes : (h : HeapState) (n p e k : ℕ) → may_copy_page h p ≡ Ok tt
    → may_copy_page (with_entries h n e k) p ≡ Ok tt
still_passes h n p e k m = tests_pass (with_entries h n e k) p (all_still h n p e k (may_copy h p m))

-- Entries by the addresses of their objects, and tables in which no entry is left to be copied.
use Rattle.std.proofs.Common.{◌≡◌, ℕ, ◌+◌, ◌*◌, ◌/◌, ◌%◌, ◌≤◌, ◌==◌, ◌||◌, not, Bool, true, false, cond, nat_eq}
use Rattle.std.proofs.Common.{List, [], ◌∷◌, length, Option, Some, None, refl, sym, ◌∙◌, ap, arith, div-add-mod'}
use Rattle.std.specs.List.{slice_get, list_any}
use Rattle.std.proofs.lemmas.Bool.{eqb-true}
use Rattle.std.proofs.lemmas.Option.{same_Some, slice_get_within}
use Rattle.model.specs.declared.records.Forwarding.{Forwarding}
use Rattle.model.specs.States.{HeapState}
use Rattle.model.specs.Bits.{of_page}
use Rattle.model.specs.Marks.{entry_of, entry_at}
use Rattle.model.specs.Cycles.{is_uncopied}
use Rattle.model.specs.Moves.{with_copy, copied_by, copied_first}
use Rattle.forward.specs.Counts.{uncopied_count}
use Rattle.forward.specs.Searching.{found_at}
use Rattle.forward.proofs.Totals.{all_copied}
use Rattle.heap.specs.Runs.{with_entry, GoTo}

-- one entry is a run
pub one_goes : (h : HeapState) (n e target : ℕ) (f : Forwarding) → slice_get (of_page h.sides n) e ≡ Some f
    → target ≡ f.to / h.store.words → GoTo h.store.words target (of_page h.sides n) e 1
one_goes h n e target f at is i g l there =
    let same : e + i ≡ e = omega (arith, l) in
    ap (λ (x : Forwarding). x.to / h.store.words)
    (same_Some _ _ (sym there ∙ ap (slice_get (of_page h.sides n)) same ∙ at)) ∙ sym is

pub one_within : (h : HeapState) (n e : ℕ) (f : Forwarding) → slice_get (of_page h.sides n) e ≡ Some f
    → e + 1 ≤ length (of_page h.sides n)
one_within h n e f at = omega (arith, slice_get_within (of_page h.sides n) e f at)

-- entries by their offsets

offset_of : (fs : List Forwarding) (o : ℕ) (f : Forwarding) → entry_of fs o ≡ Some f → f.offset ≡ o
offset_of [] o f e = absurd (cc)
offset_of (x ∷ fs) o f e = by_test (λ k. offset_of fs o f k) (nat_eq x.offset o) refl e
  where
    by_test : (entry_of fs o ≡ Some f → f.offset ≡ o) → (b : Bool) → nat_eq x.offset o ≡ b
        → cond b (Some x) (entry_of fs o) ≡ Some f → f.offset ≡ o
    by_test rest true z k = sym (ap (λ (y : Forwarding). y.offset) (same_Some _ _ k)) ∙ eqb-true x.offset o z
    by_test rest false z k = rest k

pub none_first : (h : HeapState) (a : ℕ)
    → entry_of (of_page h.sides (a / h.store.words)) (a % h.store.words)
    ≡ found_at (of_page h.sides (a / h.store.words)) None → h ≡ copied_first h a
unfolding copied_first entry_at
none_first h a e = sym (ap (copied_by h a) e)

pub entry_first : (h : HeapState) (a i : ℕ)
    → entry_of (of_page h.sides (a / h.store.words)) (a % h.store.words)
    ≡ found_at (of_page h.sides (a / h.store.words)) (Some i)
    → with_entry h (a / h.store.words) (slice_get (of_page h.sides (a / h.store.words)) i) ≡ copied_first h a
unfolding copied_first entry_at
entry_first h a i e = by_entry (slice_get (of_page h.sides (a / h.store.words)) i) e
  where
    by_entry : (o : Option Forwarding) → entry_of (of_page h.sides (a / h.store.words)) (a % h.store.words) ≡ o
        → with_entry h (a / h.store.words) o
        ≡ copied_by h a (entry_of (of_page h.sides (a / h.store.words)) (a % h.store.words))
    by_entry None z = sym (ap (copied_by h a) z)
    by_entry (Some f) z =
        let at = offset_of (of_page h.sides (a / h.store.words)) (a % h.store.words) f z in
        ap (λ o. copied_by h (a / h.store.words * h.store.words + o) (Some f)) at
        ∙ ap (λ m. copied_by h m (Some f)) (div-add-mod' a h.store.words)
        ∙ sym (ap (copied_by h a) z)

-- if no entry is left to be copied, nothing is

-- an entry is copied if all of its forwarding table are
is_copied : (fs : List Forwarding) (o : ℕ) (f : Forwarding) → list_any is_uncopied fs ≡ false
    → entry_of fs o ≡ Some f → f.copied ≡ true
is_copied [] o f none e = absurd (cc)
is_copied (x ∷ fs) o f none e = by_test (x.offset == o) x.copied refl none e (is_copied fs o f)
  where
    by_test : (b c : Bool) → x.copied ≡ c → not c || list_any is_uncopied fs ≡ false
        → cond b (Some x) (entry_of fs o) ≡ Some f
        → (list_any is_uncopied fs ≡ false → entry_of fs o ≡ Some f → f.copied ≡ true) → f.copied ≡ true
    by_test b false k h e rest = absurd (cc)
    by_test true true k h e rest = cc
    by_test false true k h e rest = rest h e

pub none_to_copy : (h : HeapState) (a : ℕ) → uncopied_count h.sides ≡ 0 → h ≡ copied_first h a
unfolding copied_first entry_at
none_to_copy h a none = by_entry (entry_of (of_page h.sides (a / h.store.words)) (a % h.store.words)) refl
  where
    by_entry : (o : Option Forwarding) → entry_of (of_page h.sides (a / h.store.words)) (a % h.store.words) ≡ o
        → h ≡ copied_by h a o
    by_entry None e = refl
    by_entry (Some f) e = sym (ap (λ b. cond b h (with_copy h a f.to))
        (is_copied (of_page h.sides (a / h.store.words)) (a % h.store.words) f
        (all_copied h.sides (a / h.store.words) none) e))

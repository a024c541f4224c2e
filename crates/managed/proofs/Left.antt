-- Uncopied objects: a page that was copied completely has none.
use Rattle.std.proofs.Common.{◌≡◌, ◌⊎◌, ◌∙◌, inl, inr, ℕ, zero, suc, ◌+◌, ◌-◌, ◌*◌, ◌/◌, ◌%◌, ◌<◌, ◌≤◌, Bool, true}
use Rattle.std.proofs.Common.{false}
use Rattle.std.proofs.Common.{not, cond, nat_eq, List, [], ◌∷◌, length, map, Option, Some, None, refl, sym, ap}
use Rattle.std.proofs.Common.{subst, arith}
use Rattle.std.proofs.Common.{eq-eqb, eqb-true}
use Rattle.std.proofs.lemmas.List.Sums.{sum_by-cons}
use Rattle.std.specs.List.{slice_get, list_any}
use Rattle.std.specs.Option.{option_map}
use Rattle.std.specs.Prelude.{◌||◌, ◌==◌, Result, Ok, Err}
use Rattle.std.proofs.lemmas.Bool.{cases_lt}
use Rattle.std.proofs.lemmas.Nat.{div-mul-add, mod-mul-add}
use Rattle.std.proofs.lemmas.Option.{same_Some}
use Rattle.std.proofs.Math.ListN.{length-map}
use Rattle.model.specs.declared.records.Forwarding.{Forwarding}
use Rattle.model.specs.declared.steps.Refusal.{Refusal}
use Rattle.model.specs.declared.steps.Refusal.TheVariants as refusals
use Rattle.model.specs.declared.steps.Answer.TheVariants as answers
use Rattle.model.specs.Bits.{of_page}
use Rattle.model.specs.Checkpoints.{all_crossed}
use Rattle.model.specs.Cycles.{is_uncopied}
use Rattle.model.specs.Emptying.{crossed_if_protecting, entry_on, copy_outcome, heap_after, copies_from, copy_page}
use Rattle.model.specs.Holding.{AreRising}
use Rattle.model.specs.Moves.{with_copy, with_copied_words, set_copied_of}
use Rattle.model.specs.Phases.{is_idle}
use Rattle.model.specs.Refusing.{◌>>=◌, or_refuse, refuse_if, Outcome}
use Rattle.model.specs.States.{HeapState, change_at}
use Rattle.model.specs.Stores.{state_at, page_at, is_from, with_words}
use Rattle.model.proofs.Plans.{rising_within}
use Rattle.laws.proofs.Basics.{put_all, put_same}
use Rattle.refinement.proofs.Changes.{get_changed, list_of, list_read}
use Rattle.managed.specs.Preparing.{AllCopied}
use Rattle.forward.specs.Counts.{uncopied_in, uncopied_count}
use Rattle.forward.proofs.Copies.{none_left, still_rising}

-- ---- entries of one page

none_more : (o : ℕ) (fs : List Forwarding) → list_any is_uncopied fs ≡ false
    → list_any is_uncopied (map (set_copied_of o) fs) ≡ false
none_more o [] e = refl
none_more o (f ∷ fs) e = by_copied f.copied refl e (none_more o fs)
  where
    by_copied : (b : Bool) → f.copied ≡ b → (not b || list_any is_uncopied fs) ≡ false
        → (list_any is_uncopied fs ≡ false → list_any is_uncopied (map (set_copied_of o) fs) ≡ false)
        → (not (f.copied || nat_eq f.offset o) || list_any is_uncopied (map (set_copied_of o) fs)) ≡ false
    by_copied false z k rest = absurd (cc)
    by_copied true z k rest =
        ap (λ (b : Bool). not (b || nat_eq f.offset o) || list_any is_uncopied (map (set_copied_of o) fs)) z ∙ rest k

-- the first entries are copied
FirstCopied : List Forwarding → ℕ → Type 0
FirstCopied fs e = (j : ℕ) (f : Forwarding) → j < e → slice_get fs j ≡ Some f → f.copied ≡ true

first_none : (fs : List Forwarding) → FirstCopied fs 0
unfolding FirstCopied
first_none fs j f l at = absurd (omega (arith, l))

-- an entry that isn't there, or is copied, may count
first_more : (fs : List Forwarding) (e : ℕ) → FirstCopied fs e
    → ((f : Forwarding) → slice_get fs e ≡ Some f → f.copied ≡ true) → FirstCopied fs (e + 1)
unfolding FirstCopied
first_more fs e k one j f l at = by_place (cases_lt j e)
  where
    by_place : (j < e) ⊎ (e ≤ j) → f.copied ≡ true
    by_place (inl m) = k j f m at
    by_place (inr m) = let same : j ≡ e = omega (arith, l, m) in one f (ap (slice_get fs) (sym same) ∙ at)

get_mapped : (o : ℕ) (fs : List Forwarding) (j : ℕ) → slice_get (map (set_copied_of o) fs) j
    ≡ option_map (set_copied_of o) (slice_get fs j)
get_mapped o [] j = refl
get_mapped o (f ∷ fs) zero = refl
get_mapped o (f ∷ fs) (suc j) = get_mapped o fs j

or_left : (a b : Bool) → a ≡ true → (a || b) ≡ true
or_left true b e = refl
or_left false b e = absurd (cc)

or_right : (a b : Bool) → b ≡ true → (a || b) ≡ true
or_right true b e = refl
or_right false b e = e

-- the entry of an offset is copied
first_noted : (fs : List Forwarding) (e : ℕ) (f : Forwarding) → slice_get fs e ≡ Some f → FirstCopied fs e
    → FirstCopied (map (set_copied_of f.offset) fs) (e + 1)
unfolding FirstCopied
first_noted fs e f at k j g l there = by_entry (slice_get fs j) refl (sym (get_mapped f.offset fs j) ∙ there)
  where
    by_entry : (q : Option Forwarding) → slice_get fs j ≡ q → option_map (set_copied_of f.offset) q ≡ Some g
        → g.copied ≡ true
    by_entry None z y = absurd (cc)
    by_entry (Some x) z y =
        ap (λ (w : Forwarding). w.copied) (sym (same_Some _ _ y)) ∙ by_place (cases_lt j e)
      where
        by_place : (j < e) ⊎ (e ≤ j) → (x.copied || nat_eq x.offset f.offset) ≡ true
        by_place (inl m) = or_left x.copied _ (k j x m z)
        by_place (inr m) =
            let same : e ≡ j = omega (arith, l, m) in
            let is : f ≡ x = same_Some _ _ (sym at ∙ ap (slice_get fs) same ∙ z) in
            or_right x.copied _ (eq-eqb x.offset f.offset (ap (λ (w : Forwarding). w.offset) (sym is)))

first_all : (fs : List Forwarding) → FirstCopied fs (length fs) → list_any is_uncopied fs ≡ false
unfolding FirstCopied
first_all [] k = refl
first_all (f ∷ fs) k =
    ap (λ (b : Bool). not b || list_any is_uncopied fs) (k zero f (omega arith) refl)
    ∙ first_all fs (λ j g l at. k (suc j) g (omega (arith, l)) at)

-- ---- pages

mapped_list : (o : ℕ) (q : Option (List Forwarding))
    → list_of (option_map (map (set_copied_of o)) q) ≡ map (set_copied_of o) (list_of q)
mapped_list o None = refl
mapped_list o (Some fs) = refl

page_noted : (sides : List (List Forwarding)) (i o : ℕ)
    → of_page (change_at sides i (map (set_copied_of o))) (suc i) ≡ map (set_copied_of o) (of_page sides (suc i))
page_noted sides i o =
    list_read (change_at sides i (map (set_copied_of o))) i
    ∙ ap list_of (get_changed sides i (map (set_copied_of o)) i
    ∙ put_same (slice_get sides) i (option_map (map (set_copied_of o)) (slice_get sides i)))
    ∙ mapped_list o (slice_get sides i)
    ∙ ap (map (set_copied_of o)) (sym (list_read sides i))

pages_noted : (sides : List (List Forwarding)) (i o n : ℕ) → list_any is_uncopied (of_page sides n) ≡ false
    → list_any is_uncopied (of_page (change_at sides i (map (set_copied_of o))) n) ≡ false
pages_noted sides i o zero e = refl
pages_noted sides i o (suc m) e =
    ap (list_any is_uncopied) (list_read (change_at sides i (map (set_copied_of o))) m
    ∙ ap list_of (get_changed sides i (map (set_copied_of o)) m))
    ∙ put_all (λ (v : ℕ) (y : Option (List Forwarding)). list_any is_uncopied (list_of (slice_get sides v)) ≡ false
    → list_any is_uncopied (list_of y) ≡ false) (slice_get sides) i
    (option_map (map (set_copied_of o)) (slice_get sides i))
    (λ z. ap (list_any is_uncopied) (mapped_list o (slice_get sides i)) ∙ none_more o (list_of (slice_get sides i)) z)
    (λ v d z. z) m (ap (list_any is_uncopied) (sym (list_read sides m)) ∙ e)

copy_stays : (h : HeapState) (a to n : ℕ) → AllCopied h n → AllCopied (with_copy h a to) n
unfolding with_copy
copy_stays h a to n e = pages_noted h.sides (a / h.store.words - 1) (a % h.store.words) n e

-- Copy of an entry

outcome_stays : (h : HeapState) (page e n : ℕ) → AllCopied h n → AllCopied (heap_after h (copy_outcome h page e)) n
unfolding copy_outcome
outcome_stays h page e n k = by_tests (is_idle h.phase) (crossed_if_protecting h) (entry_on h page e)
  where
    by_entry : (f : Forwarding) (b : Bool) → AllCopied (heap_after h (refuse_if b refusals.Copied
        >>= (λ u. Ok (
          with_copy h (page * h.store.words + f.offset) f.to,
          answers.MovedTo (f.to / h.store.words) (f.to % h.store.words),
        )))) n
    by_entry f true = k
    by_entry f false = copy_stays h (page * h.store.words + f.offset) f.to n k

    by_tests : (a : Bool) (r : Result Unit Refusal) (q : Option Forwarding) → AllCopied (heap_after h
        (refuse_if a refusals.Phase >>= (λ u. r >>= (λ v. or_refuse q refusals.BadIndex
        >>= (λ f. refuse_if f.copied refusals.Copied >>= (λ x. Ok (
          with_copy h (page * h.store.words + f.offset) f.to,
          answers.MovedTo (f.to / h.store.words) (f.to % h.store.words),
        ))))))) n
    by_tests true r q = k
    by_tests false (Err x) q = k
    by_tests false (Ok u) None = k
    by_tests false (Ok u) (Some f) = by_entry f f.copied

pub copies_stay : (h : HeapState) (page e k n : ℕ) → AllCopied h n → AllCopied (copies_from h page e k) n
copies_stay h page e zero n a = a
copies_stay h page e (suc k) n a =
    copies_stay (heap_after h (copy_outcome h page e)) page (e + 1) k n (outcome_stays h page e n a)

-- ---- all entries of a page

-- page n is being copied: its first entries are
record IsCopying (h : HeapState) (n e count : ℕ) : Type 0 where
  busy : is_idle h.phase ≡ false
  crossed : crossed_if_protecting h ≡ Ok tt
  from : is_from (state_at h.store n) ≡ true
  rising : AreRising h.store.words 0 (of_page h.sides n)
  there : 0 < n
  first : FirstCopied (of_page h.sides n) e
  many : length (of_page h.sides n) ≡ count

noted_there : (h : HeapState) (n e : ℕ) (f : Forwarding) → AreRising h.store.words 0 (of_page h.sides n) → 0 < n
    → slice_get (of_page h.sides n) e ≡ Some f
    → of_page (with_copy h (n * h.store.words + f.offset) f.to).sides n
    ≡ map (set_copied_of f.offset) (of_page h.sides n)
unfolding with_copy
noted_there h zero e f rising low at = absurd (omega (arith, low))
noted_there h (suc i) e f rising low at =
    let within = rising_within h.store.words 0 (of_page h.sides (suc i)) e f rising at in
    let page : (suc i * h.store.words + f.offset) / h.store.words ≡ suc i =
    div-mul-add (suc i) h.store.words f.offset within.1 in
    let offset : (suc i * h.store.words + f.offset) % h.store.words ≡ f.offset =
    mod-mul-add (suc i) h.store.words f.offset within.1 in
    let before : suc i - 1 ≡ i = omega arith in
    ap (λ (m : ℕ). of_page (change_at h.sides (m - 1) (map (set_copied_of
    ((suc i * h.store.words + f.offset) % h.store.words)))) (suc i)) page
    ∙ ap (λ (m : ℕ). of_page (change_at h.sides m (map (set_copied_of
    ((suc i * h.store.words + f.offset) % h.store.words)))) (suc i)) before
    ∙ ap (λ (m : ℕ). of_page (change_at h.sides i (map (set_copied_of m))) (suc i)) offset
    ∙ page_noted h.sides i f.offset

-- an entry that was copied now
noted_next : (h : HeapState) (n e count : ℕ) (f : Forwarding) → IsCopying h n e count
    → slice_get (of_page h.sides n) e ≡ Some f
    → IsCopying (with_copy h (n * h.store.words + f.offset) f.to) n (e + 1) count
unfolding with_copy with_copied_words with_words state_at page_at crossed_if_protecting all_crossed
noted_next h n e count f k at =
    let now = noted_there h n e f k.rising k.there at in
    record {
      busy = k.busy;
      crossed = k.crossed;
      from = k.from;
      rising = subst (AreRising h.store.words 0) (sym now)
          (still_rising h.store.words 0 f.offset (of_page h.sides n) k.rising);
      there = k.there;
      first = subst (λ (fs : List Forwarding). FirstCopied fs (e + 1)) (sym now)
          (first_noted (of_page h.sides n) e f at k.first);
      many = ap length now ∙ length-map (of_page h.sides n) (set_copied_of f.offset) ∙ k.many;
    }

-- an entry that was copied already, or isn't there
passed_next : (h : HeapState) (n e count : ℕ) → IsCopying h n e count
    → ((f : Forwarding) → slice_get (of_page h.sides n) e ≡ Some f → f.copied ≡ true) → IsCopying h n (e + 1) count
passed_next h n e count k one = record {
  busy = k.busy;
  crossed = k.crossed;
  from = k.from;
  rising = k.rising;
  there = k.there;
  first = first_more (of_page h.sides n) e k.first one;
  many = k.many;
}

copying_next : (h : HeapState) (n e count : ℕ) → IsCopying h n e count
    → IsCopying (heap_after h (copy_outcome h n e)) n (e + 1) count
unfolding copy_outcome entry_on
copying_next h n e count k = by_tests (is_idle h.phase) (crossed_if_protecting h) (is_from (state_at h.store n)) k.busy
    k.crossed k.from
  where
    Next : HeapState → Type 0
    Next g = IsCopying g n (e + 1) count

    row : Option Forwarding → Outcome
    row q = or_refuse q refusals.BadIndex >>= (λ f. refuse_if f.copied refusals.Copied
        >>= (λ u. Ok (
          with_copy h (n * h.store.words + f.offset) f.to,
          answers.MovedTo (f.to / h.store.words) (f.to % h.store.words),
        )))

    by_entry : (q : Option Forwarding) → slice_get (of_page h.sides n) e ≡ q → Next (heap_after h (row q))
    by_entry None at = passed_next h n e count k (λ f here. absurd (no_entry f (sym at ∙ here)))
      where
        no_entry : (f : Forwarding) → ◌≡◌ {A = Option Forwarding} None (Some f) → ⊥
        no_entry f z = cc
    by_entry (Some f) at = by_copied f.copied refl
      where
        by_copied : (b : Bool) → f.copied ≡ b → Next (heap_after h (refuse_if b refusals.Copied
            >>= (λ u. Ok (
              with_copy h (n * h.store.words + f.offset) f.to,
              answers.MovedTo (f.to / h.store.words) (f.to % h.store.words),
            ))))
        by_copied true z = passed_next h n e count k (λ g here.
            ap (λ (x : Forwarding). x.copied) (sym (same_Some _ _ (sym at ∙ here))) ∙ z)
        by_copied false z = noted_next h n e count f k at

    by_tests : (a : Bool) (r : Result Unit Refusal) (b : Bool) → a ≡ false → r ≡ Ok tt → b ≡ true
        → Next (heap_after h (refuse_if a refusals.Phase >>= (λ u. r
        >>= (λ v. row (cond b (slice_get (of_page h.sides n) e) None)))))
    by_tests false (Ok tt) true x y z = by_entry (slice_get (of_page h.sides n) e) refl
    by_tests true r b x y z = absurd (cc)
    by_tests false (Err m) b x y z = absurd (cc)
    by_tests false (Ok tt) false x y z = absurd (cc)

copying_all : (h : HeapState) (n e k count : ℕ) → IsCopying h n e count → e + k ≡ count
    → AllCopied (copies_from h n e k) n
copying_all h n e zero count c l =
    let whole : e ≡ length (of_page h.sides n) = omega (arith, l, c.many) in
    first_all (of_page h.sides n) (subst (FirstCopied (of_page h.sides n)) whole c.first)
copying_all h n e (suc k) count c l =
    copying_all (heap_after h (copy_outcome h n e)) n (e + 1) k count (copying_next h n e count c) (omega (arith, l))

-- page n, copied whole
pub page_copied : (h : HeapState) (n : ℕ) → is_idle h.phase ≡ false → crossed_if_protecting h ≡ Ok tt
    → is_from (state_at h.store n) ≡ true → AreRising h.store.words 0 (of_page h.sides n) → 0 < n
    → AllCopied (copy_page h n) n
unfolding copy_page
page_copied h n busy crossed from rising there =
    copying_all h n 0 (length (of_page h.sides n)) (length (of_page h.sides n)) (record {
      busy = busy;
      crossed = crossed;
      from = from;
      rising = rising;
      there = there;
      first = first_none (of_page h.sides n);
      many = refl;
    }) (omega arith)

pub page_stays : (h : HeapState) (page n : ℕ) → AllCopied h n → AllCopied (copy_page h page) n
unfolding copy_page
page_stays h page n k = copies_stay h page 0 (length (of_page h.sides page)) n k

-- ---- all pages

none_in : (fs : List Forwarding) → list_any is_uncopied fs ≡ false → uncopied_in fs ≡ 0
none_in fs e = by_any (uncopied_in fs == 0) refl (none_left fs ∙ ap not e)
  where
    by_any : (b : Bool) → (uncopied_in fs == 0) ≡ b → b ≡ true → uncopied_in fs ≡ 0
    by_any true z k = eqb-true (uncopied_in fs) 0 z
    by_any false z k = absurd (cc)

pub none_uncopied : (sides : List (List Forwarding))
    → ((n : ℕ) → list_any is_uncopied (of_page sides n) ≡ false) → uncopied_count sides ≡ 0
none_uncopied [] k = refl
none_uncopied (fs ∷ sides) k =
    omega (arith, sum_by-cons uncopied_in fs sides, none_in fs (k 1), none_uncopied sides (rest k))
  where
    rest : ((n : ℕ) → list_any is_uncopied (of_page (fs ∷ sides) n) ≡ false)
        → (n : ℕ) → list_any is_uncopied (of_page sides n) ≡ false
    rest all zero = refl
    rest all (suc m) = all (suc (suc m))

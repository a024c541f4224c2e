-- How many entries of all forwarding tables are uncopied.
use Rattle.std.proofs.Common.{◌≡◌, ℕ, zero, suc, ◌+◌, ◌-◌, ◌*◌, ◌<◌, ◌≤◌, ◌^◌, List, [], ◌∷◌, length}
use Rattle.std.proofs.Common.{get_or, set, replicate, Some, refl, sym, ◌∙◌, ap, subst, arith, length-set}
use Rattle.std.proofs.Common.{Bool, true, false, not, ◌==◌, ◌≢◌, cond, map, Option, None}
use Rattle.std.specs.List.{slice_get, list_any}
use Rattle.std.proofs.Math.ListN.{get_or-eq_default}
use Rattle.std.proofs.lemmas.List.{length-replicate, get_or_read, set-get_or, set-set, get_or-set_same}
use Rattle.std.proofs.lemmas.List.Sums.{sum_by-set, sum_by-cons}
use Rattle.std.proofs.lemmas.Option.{slice_get-get_or}
use Rattle.model.specs.declared.limits.TheConstants.{MOST_WORDS}
use Rattle.model.specs.declared.records.Forwarding.{Forwarding}
use Rattle.model.specs.Owning.{Each}
use Rattle.model.specs.States.{change_at, change_found}
use Rattle.model.specs.Bits.{of_page}
use Rattle.model.specs.Holding.{AreRising}
use Rattle.model.specs.Cycles.{is_uncopied}
use Rattle.model.proofs.Lists.{get_read, each_set, each_replicate}
use Rattle.model.specs.Moves.{set_copied_of}
use Rattle.forward.specs.Noting.{noted_side, noted_sides, noted_run, noted_range}
use Rattle.forward.specs.Counts.{uncopied_in, uncopied_count, AreCounted}
use Rattle.forward.proofs.Copies.{none_left}

-- no more than all pages have words
pub most_left : (sides : List (List Forwarding)) → Each sides (λ side. uncopied_in side ≤ MOST_WORDS)
    → uncopied_count sides ≤ length sides * MOST_WORDS
most_left [] few = omega arith
most_left (side ∷ sides) few =
    omega (arith, sum_by-cons uncopied_in side sides, few zero side refl, most_left sides (λ i. few (suc i)))

-- none, where all are empty
pub none_counted : (n : ℕ) → n < 2 ^ 32 → AreCounted (replicate n []) 0
none_counted n short = record {
  counted = sym (none n);
  few = each_replicate (λ side. uncopied_in side ≤ MOST_WORDS) n [] (omega arith);
  short = omega (arith, short, length-replicate {A = List Forwarding} n []);
}
  where
    none : (n : ℕ) → uncopied_count (replicate n []) ≡ 0
    none zero = refl
    none (suc n) = omega (arith, sum_by-cons uncopied_in [] (replicate n []), none n)

-- an entry of a table is noted as copied
noted_entry : (sides : List (List Forwarding)) (n e i : ℕ) → n ≢ 0 → i ≡ n - 1 → i < length sides
    → set sides i (noted_side (slice_get (get_or sides i []) e) (get_or sides i []))
    ≡ noted_sides n (slice_get (of_page sides n) e) sides
noted_entry sides zero e i some at within = absurd (some refl)
noted_entry sides (suc m) e i some at within =
    by_entry (slice_get old e) ∙ ap (λ j. noted_sides (suc m) (slice_get (get_or sides j []) e) sides) same
  where
    same : i ≡ m
    same = omega (arith, at)

    old : List Forwarding
    old = get_or sides i []

    by_copied : (f : Forwarding) (b : Bool) → set sides i (cond b old (map (set_copied_of f.offset) old))
        ≡ cond b sides (change_at sides (suc m - 1) (map (set_copied_of f.offset)))
    by_copied f true = set-get_or sides i []
    by_copied f false =
        ap (λ o. change_found sides i o (map (set_copied_of f.offset))) (sym (slice_get-get_or sides i [] within))
        ∙ ap (λ j. change_at sides j (map (set_copied_of f.offset))) at

    by_entry : (o : Option Forwarding) → set sides i (noted_side o old) ≡ noted_sides (suc m) o sides
    by_entry None = set-get_or sides i []
    by_entry (Some f) = by_copied f f.copied

-- the same of entries one after another
noted_table : (sides : List (List Forwarding)) (n e k i : ℕ) → n ≢ 0 → i ≡ n - 1 → i < length sides
    → set sides i (noted_run e k (get_or sides i [])) ≡ noted_range n e k sides
noted_table sides n e zero i some at within = set-get_or sides i []
noted_table sides n e (suc k) i some at within =
    let next : List Forwarding = noted_side (slice_get (get_or sides i []) e) (get_or sides i []) in
    sym (set-set sides i next (noted_run (e + 1) k next))
    ∙ ap (λ xs. set (set sides i next) i (noted_run (e + 1) k xs)) (sym (get_or-set_same sides i next [] within))
    ∙ noted_table (set sides i next) n (e + 1) k i some at (omega (arith, within, length-set sides i next))
    ∙ ap (noted_range n (e + 1) k) (noted_entry sides n e i some at within)

-- none are, where a page has no entries
pub noted_none : (sides : List (List Forwarding)) (n e k : ℕ) → of_page sides n ≡ [] → sides ≡ noted_range n e k sides
noted_none sides n e zero none = refl
noted_none sides n e (suc k) none =
    noted_none sides n (e + 1) k none
    ∙ ap (λ side. noted_range n (e + 1) k (noted_sides n (slice_get side e) sides)) (sym none)

pub no_table : (sides : List (List Forwarding)) (n : ℕ) → length sides ≤ n - 1 → of_page sides n ≡ []
no_table sides zero past = refl
no_table sides (suc m) past = get_or-eq_default sides [] (omega (arith, past))

-- one side array takes another's place
module _ (sides : List (List Forwarding)) (left i : ℕ) (old : List Forwarding) (k : AreCounted sides left)
    (within : i < length sides) (read : old ≡ get_or sides i old) where
  there : slice_get sides i ≡ Some old
  there = get_read sides i old within read

  pub some_left : uncopied_in old ≤ left
  some_left =
      let total = sum_by-set uncopied_in sides i [] old within in
      let same : uncopied_in (get_or sides i old) ≡ uncopied_in old = ap uncopied_in (sym read) in
      omega (arith, total, same, k.counted)

  pub room_left : (b n : ℕ) → b ≡ uncopied_in old → n ≤ MOST_WORDS → left - b + n < 2 ^ 64
  room_left b n before few = omega (arith, few, k.counted, k.short, most_left sides k.few)

  pub counted_set : (side : List Forwarding) (b n : ℕ) → b ≡ uncopied_in old → n ≡ uncopied_in side → n ≤ MOST_WORDS
      → AreCounted (set sides i side) (left - b + n)
  counted_set side b n before after few = record {
    counted =
        let total = sum_by-set uncopied_in sides i side old within in
        let same : uncopied_in (get_or sides i old) ≡ uncopied_in old = ap uncopied_in (sym read) in
        omega (arith, total, same, k.counted, some_left, before, after);
    few = each_set (λ side. uncopied_in side ≤ MOST_WORDS) sides i side k.few (omega (arith, after, few));
    short = omega (arith, k.short, length-set sides i side);
  }

  pub changed : (now : List (List Forwarding)) (side : List Forwarding) (f : List Forwarding → List Forwarding)
      → sides ≡ now → side ≡ f old → set sides i side ≡ change_at now i f
  changed now side f view is =
      ap (set sides i) is ∙ ap (λ o. change_found sides i o f) (sym there) ∙ ap (λ xs. change_at xs i f) view

  -- entries of page n, whose table it is, are noted as copied
  page_read : (n : ℕ) → n ≢ 0 → i ≡ n - 1 → old ≡ of_page sides n
  page_read zero some at = absurd (some refl)
  page_read (suc m) some at =
      let same : i ≡ m = omega (arith, at) in
      get_or_read sides i old within read [] ∙ ap (λ j. get_or sides j []) same

  pub noted_page : (now : List (List Forwarding)) (side : List Forwarding) (n e k : ℕ) → n ≢ 0 → i ≡ n - 1
      → sides ≡ now → side ≡ noted_run e k old → set sides i side ≡ noted_range n e k now
  noted_page now side n e k some at view is =
      ap (set sides i) (is ∙ ap (noted_run e k) (get_or_read sides i old within read []))
      ∙ noted_table sides n e k i some at within ∙ ap (noted_range n e k) view

  pub rising_page : (now : List (List Forwarding)) (n : ℕ) → n ≢ 0 → i ≡ n - 1 → sides ≡ now
      → AreRising MOST_WORDS 0 old → AreRising MOST_WORDS 0 (of_page now n)
  rising_page now n some at view r =
      subst (AreRising MOST_WORDS 0) (page_read n some at ∙ ap (λ xs. of_page xs n) view) r

-- all of them are cleared
pub all_cleared : (old items : List (List Forwarding)) (left : ℕ) → AreCounted old left
    → items ≡ replicate (length old) [] → AreCounted items 0
all_cleared old items left k is = subst (λ xs. AreCounted xs 0) (sym is) (none_counted (length old) k.short)

-- where no entry is left, each side array is copied
pub all_copied : (sides : List (List Forwarding)) (n : ℕ) → uncopied_count sides ≡ 0
    → list_any is_uncopied (of_page sides n) ≡ false
all_copied sides zero e = refl
all_copied [] (suc i) e = refl
all_copied (side ∷ sides) (suc zero) e =
    let none : uncopied_in side ≡ 0 = omega (arith, sum_by-cons uncopied_in side sides, e) in
    by_any (list_any is_uncopied side) (ap (λ n. n == 0) (sym none) ∙ none_left side)
  where
    by_any : (b : Bool) → true ≡ not b → b ≡ false
    by_any false k = refl
    by_any true k = absurd (cc)
all_copied (side ∷ sides) (suc (suc i)) e =
    all_copied sides (suc i) (omega (arith, sum_by-cons uncopied_in side sides, e))

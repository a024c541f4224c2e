-- The objects of a page that is protected go to at most two targets. Letters are those of `Planned` and
-- `Protections`.
use Rattle.std.proofs.Common.{◌≡◌, ◌⊎◌, inl, inr, ℕ, zero, suc, ◌+◌, ◌*◌, ◌/◌, ◌%◌, ◌<◌, ◌≤◌, ◌==◌, ◌||◌, Bool, true}
use Rattle.std.proofs.Common.{false, not, List, [], ◌∷◌, ◌++◌, length, map, take, drop, Option, Some, None}
use Rattle.std.proofs.Common.{refl, sym}
use Rattle.std.proofs.Common.{◌∙◌, ap, subst, arith, eq-eqb}
use Rattle.std.specs.List.{slice_get, flat_map, list_any, sum_by}
use Rattle.std.specs.Option.{option_map}
use Rattle.std.proofs.lemmas.Bool.{true≢false}
use Rattle.std.proofs.lemmas.List.{length-map, map-append, take-append-le}
use Rattle.std.proofs.lemmas.List.Sums.{sum_by-cons}
use Rattle.std.proofs.lemmas.Nat.{div-mul-add, mod-mul-add}
use Rattle.std.proofs.lemmas.Option.{slice_get-map, slice_get_within, same_Some, none-some}
use Rattle.std.proofs.Math.Seq.{drop-append-add}
use Rattle.model.specs.declared.records.Forwarding.{Forwarding}
use Rattle.model.specs.declared.records.PageState.TheVariants.{Closed}
use Rattle.model.specs.declared.steps.Actor.TheVariants.{Worker}
use Rattle.model.specs.declared.steps.Answer.{Answer}
use Rattle.model.specs.declared.steps.Step.TheVariants as steps
use Rattle.model.specs.declared.steps.Refusal.TheVariants as refusals
use Rattle.model.specs.Bits.{of_page}
use Rattle.model.specs.Holding.{IsHeap}
use Rattle.model.specs.Outcome.{outcome, worker_gate}
use Rattle.model.specs.Owning.{Each, IsStore}
use Rattle.model.specs.Phases.{is_idle}
use Rattle.model.specs.Plain.{PlainHeap}
use Rattle.model.specs.Plans.{live_offsets, live_on, live_objects, object_words, plan_of, target_count, moves_of}
use Rattle.model.specs.Plans.{place_of, side_of, offsets_from}
use Rattle.model.specs.Protections.{all_ripe, are_bad_pages, has_twice, no_page_in, protect}
use Rattle.model.specs.Protections.{with_targets, room_for, protect_outcome}
use Rattle.model.specs.Refusing.{refuse_if}
use Rattle.model.specs.States.{HeapState}
use Rattle.model.specs.Stores.{state_at}
use Rattle.model.proofs.Lists.{get_within}
use Rattle.model.proofs.Plans.{IsIn, at_in, in_objects, mapped_in, offset_told}
use Rattle.forward.proofs.Planned.{near_places}
use Rattle.refinement.specs.Claims.{IsLaid, OfObject, extent, object_size, sized_extent}
use Rattle.refinement.specs.Packing.{LiesInTwo, targets_of}
use Rattle.refinement.specs.Standing.{Holds}
use Rattle.refinement.proofs.Accepted.{OnAccepted, accepted, of_accepted, on_has}
use Rattle.refinement.proofs.Emptied.{MayEmpty, side_after}
use Rattle.refinement.proofs.Planned.{IsLive, IsPlanned, live_at, live_within, of_live, planned, words_are}
use Rattle.refinement.proofs.ProtectionTests.{all_closed, has_room, idle_is}
use Rattle.refinement.proofs.Targets.{targets_hold}
use Rattle.refinement.proofs.Verdicts.{worker_passed}

-- consecutive objects

abbrev total : List ℕ → ℕ
total ns = sum_by (λ n. n) ns

-- each object ends before the next one's offset, and all are between one place and another
abbrev AreSpaced : (ℕ → ℕ) → ℕ → ℕ → List ℕ → Type 0
AreSpaced size high low [] = low ≤ high
AreSpaced size high low (o ∷ os) = (low ≤ o) × AreSpaced size high (o + size o) os

spaced_low : (size : ℕ → ℕ) (high low : ℕ) (os : List ℕ) → AreSpaced size high low os → low ≤ high
spaced_low size high low [] s = s
spaced_low size high low (o ∷ os) s = omega (arith, s.0, spaced_low size high (o + size o) os s.1)

-- so the first of them have at most the words between the two
spaced_total : (size : ℕ → ℕ) (high low : ℕ) (os : List ℕ) (k : ℕ) → AreSpaced size high low os
    → low + total (take k (map size os)) ≤ high
spaced_total size high low [] zero s = omega (arith, s)
spaced_total size high low [] (suc k) s = omega (arith, s)
spaced_total size high low (o ∷ os) zero s = omega (arith, spaced_low size high low (o ∷ os) s)
spaced_total size high low (o ∷ os) (suc k) s = omega (
  arith,
  s.0,
  spaced_total size high (o + size o) os k s.1,
  sum_by-cons (λ (n : ℕ). n) (size o) (take k (map size os)),
)

-- offsets of bits are so if each object ends at most at the high end, and before each later one
spaced_from : (size : ℕ → ℕ) (high b low : ℕ) (bits : List Bool)
    → ((o : ℕ) → IsIn o (offsets_from b bits) → low ≤ o)
    → ((o : ℕ) → IsIn o (offsets_from b bits) → o + size o ≤ high)
    → ((o u : ℕ) → IsIn o (offsets_from b bits) → IsIn u (offsets_from b bits) → o < u → o + size o ≤ u)
    → low ≤ high → AreSpaced size high low (offsets_from b bits)
spaced_from size high b low [] from fits apart l = l
spaced_from size high b low (true ∷ bits) from fits apart l = (
  from b (inl refl),
  spaced_from size high (b + 1) (b + size b) bits (λ o e. apart b o (inl refl) (inr e) (rises o e))
      (λ o e. fits o (inr e)) (λ o u e f less. apart o u (inr e) (inr f) less) (fits b (inl refl)),
)
  where
    rises : (o : ℕ) → IsIn o (offsets_from (b + 1) bits) → b < o
    rises o e = let (j, is, set) = offset_told (b + 1) bits o e in omega (arith, is)
spaced_from size high b low (false ∷ bits) from fits apart l =
    spaced_from size high (b + 1) low bits from fits apart l

-- the objects of a page among those of several

-- in the list of what several numbers give, what this number gives is contiguous, and is all that belongs to it
record IsBlock (f : ℕ → List ℕ) (size owner : ℕ → ℕ) (n : ℕ) (xs : List ℕ) : Type 0 where
  pub start : ℕ
  pub only : (i a : ℕ) → slice_get xs i ≡ Some a → owner a ≡ n → (k : ℕ) × (i ≡ start + k) × (k < length (f n))
  pub words : (k : ℕ) → k ≤ length (f n) → take k (drop start (map size xs)) ≡ take k (map size (f n))

in_append : (xs ys : List ℕ) (i a : ℕ) → slice_get (xs ++ ys) i ≡ Some a
    → ((i < length xs) × (slice_get xs i ≡ Some a)) ⊎ ((j : ℕ) × (i ≡ length xs + j) × (slice_get ys j ≡ Some a))
in_append [] ys i a e = inr (i, omega arith, e)
in_append (x ∷ xs) ys zero a e = inl (omega arith, e)
in_append (x ∷ xs) ys (suc i) a e = elim (in_append xs ys i a e) [
  | inl k ↦ inl (omega (arith, k.0), k.1)
  | inr (j, is, at) ↦ inr (j, omega (arith, is), at)
]

named : (n : ℕ) (ns : List ℕ) → IsIn n ns → list_any (λ m. m == n) ns ≡ true
named n [] e = absurd e
named n (m ∷ ns) (inl e) = ap (λ b. b || list_any (λ m. m == n) ns) (eq-eqb m n e)
named n (m ∷ ns) (inr e) = by_first (m == n) (named n ns e)
  where
    by_first : (b : Bool) → list_any (λ m. m == n) ns ≡ true → (b || list_any (λ m. m == n) ns) ≡ true
    by_first true k = refl
    by_first false k = k

-- a list without repeats has its first element nowhere in the rest, and the rest has no repeats
once : (n : ℕ) (ns : List ℕ) → has_twice (n ∷ ns) ≡ false → (IsIn n ns → ⊥) × (has_twice ns ≡ false)
once n ns e = by_first (list_any (λ m. m == n) ns) refl e
  where
    by_first : (b : Bool) → list_any (λ m. m == n) ns ≡ b → (b || has_twice ns) ≡ false
        → (IsIn n ns → ⊥) × (has_twice ns ≡ false)
    by_first true k z = absurd (true≢false z)
    by_first false k z = ((λ there. true≢false (sym (named n ns there) ∙ k)), z)

block : (f : ℕ → List ℕ) (size owner : ℕ → ℕ) (owned : (m a : ℕ) → IsIn a (f m) → owner a ≡ m) (n : ℕ) (ns : List ℕ)
    → has_twice ns ≡ false → IsIn n ns → IsBlock f size owner n (flat_map f ns)
block f size owner owned n [] twice e = absurd e
block f size owner owned n (m ∷ ns) twice (inl e) = record {
  start = 0;
  only = λ i a at is. elim (in_append (f m) (flat_map f ns) i a at) [
    | inl k ↦ (i, omega arith, omega (arith, k.0, ap (λ x. length (f x)) e))
    | inr (j, sum, there) ↦ (
        let (x, named_there, told) = in_objects f a ns (at_in a (flat_map f ns) j there) in
        absurd ((once m ns twice).0 (subst (λ y. IsIn y ns) (sym (owned x a told) ∙ is ∙ sym e) named_there))
        )
  ];
  words = λ k l. (
      let few : k ≤ length (map size (f m)) =
      omega (arith, l, length-map (f m) size, ap (λ x. length (f x)) e) in
      ap (take k) (drop_none (map size (f m ++ flat_map f ns)) ∙ map-append size (f m) (flat_map f ns))
      ∙ take-append-le k (map size (f m)) (map size (flat_map f ns)) few
      ∙ ap (λ x. take k (map size (f x))) e
      );
}
  where
    drop_none : (xs : List ℕ) → drop 0 xs ≡ xs
    drop_none [] = refl
    drop_none (x ∷ xs) = refl
block f size owner owned n (m ∷ ns) twice (inr e) = behind (block f size owner owned n ns (once m ns twice).1 e)
  where
    behind : IsBlock f size owner n (flat_map f ns) → IsBlock f size owner n (f m ++ flat_map f ns)
    behind b = record {
      start = length (f m) + b.start;
      only = λ i a at is. elim (in_append (f m) (flat_map f ns) i a at) [
        | inl k ↦ absurd ((once m ns twice).0
            (subst (λ y. IsIn y ns) (sym is ∙ owned m a (at_in a (f m) i k.1)) e))
        | inr (j, sum, there) ↦ (
            let (k, within, few) = b.only j a there is in (k, omega (arith, sum, within), few)
            )
      ];
      words = λ k l. ap (take k) (
          ap (drop (length (f m) + b.start)) (map-append size (f m) (flat_map f ns))
          ∙ ap (λ c. drop (c + b.start) (map size (f m) ++ map size (flat_map f ns))) (sym (length-map (f m) size))
          ∙ drop-append-add (map size (f m)) (map size (flat_map f ns)) b.start)
          ∙ b.words k l;
    }

-- the objects of a page

module _ (h : HeapState) (s : IsStore h.store) (l : IsLaid h) (pages : List ℕ)
    (closed : (n : ℕ) → IsIn n pages → state_at h.store n ≡ Closed) where
  abbrev size_on : ℕ → ℕ → ℕ
  size_on n o = object_words h (n * h.store.words + o)

  claimed : (a : ℕ) (x : IsLive h pages a)
      → extent h (OfObject a) ≡ Some (sized_extent a (object_size x.object))
  claimed a x = ap (λ o. option_map (sized_extent a) (option_map object_size o)) x.here

  other_claim : (a b : ℕ) → a < b → OfObject a ≡ OfObject b → ⊥
  other_claim a b less e = different a b less (same e)
    where
      same : {a b : ℕ} → OfObject a ≡ OfObject b → a ≡ b
      same z = cc

      different : (a b : ℕ) → a < b → a ≡ b → ⊥
      different a b less e = absurd (omega (arith, less, e))

  -- one ends before the next begins
  apart_on : (n : ℕ) → IsIn n pages → (o u : ℕ) → IsIn o (live_offsets h n) → IsIn u (live_offsets h n) → o < u
      → o + size_on n o ≤ u
  apart_on n there o u e f less =
      let a : ℕ = n * h.store.words + o in
      let b : ℕ = n * h.store.words + u in
      let x = live_at h s l pages closed n o there e in
      let y = live_at h s l pages closed n u there f in
      let size = words_are h a x.object x.here in
      elim (l.apart (OfObject a) (OfObject b) (sized_extent a (object_size x.object))
      (sized_extent b (object_size y.object)) (claimed a x) (claimed b y)) [
        | inl same ↦ absurd (other_claim a b (omega (arith, less)) same)
        | inr z ↦ elim z [
          | inl k ↦ omega (arith, k, size)
          | inr k ↦ absurd (omega (arith, k, less))
        ]
      ]

  fits_on : (n : ℕ) → IsIn n pages → (o : ℕ) → IsIn o (live_offsets h n) → o + size_on n o ≤ h.store.words
  fits_on n there o e =
      let x = live_at h s l pages closed n o there e in
      omega (
        arith,
        x.fits,
        words_are h (n * h.store.words + o) x.object x.here,
        mod-mul-add n h.store.words o (live_within h l n o e),
      )

  -- so they have at most the words of the page
  spaced_on : (n : ℕ) → IsIn n pages → AreSpaced (size_on n) h.store.words 0 (live_offsets h n)
  unfolding live_offsets
  spaced_on n there = spaced_from (size_on n) h.store.words 0 0 (of_page h.live n) (λ o e. omega arith)
      (fits_on n there) (apart_on n there) (omega arith)

  -- an object of a page has the page's number
  owned : (n a : ℕ) → IsIn a (live_on h n) → a / h.store.words ≡ n
  owned n a e =
      let (o, told, is) = mapped_in (λ o. n * h.store.words + o) a (live_offsets h n) e in
      ap (λ z. z / h.store.words) (sym is) ∙ div-mul-add n h.store.words o (live_within h l n o told)

  sizes_on : (n : ℕ) (os : List ℕ) → map (object_words h) (map (λ o. n * h.store.words + o) os) ≡ map (size_on n) os
  sizes_on n [] = refl
  sizes_on n (o ∷ os) = ap (λ rest. size_on n o ∷ rest) (sizes_on n os)

  module _ (twice : has_twice pages ≡ false) (n : ℕ) (there : IsIn n pages) where
    here : IsBlock (live_on h) (object_words h) (λ a. a / h.store.words) n (live_objects h pages)
    unfolding live_objects
    here = block (live_on h) (object_words h) (λ a. a / h.store.words) owned n pages twice there

    abbrev sizes : List ℕ
    sizes = map (object_words h) (live_objects h pages)

    few : (k : ℕ) → k ≤ length (live_on h n) → total (take k (drop here.start sizes)) ≤ h.store.words
    few k under =
        let same : total (take k (drop here.start sizes)) ≡ total (take k (map (size_on n) (live_offsets h n))) =
        ap total (here.words k under ∙ ap (take k) (sizes_on n (live_offsets h n))) in
        omega (arith, same, spaced_total (size_on n) h.store.words 0 (live_offsets h n) k (spaced_on n there))

    module _ (targets : List ℕ) (enough : length targets ≡ target_count (plan_of h pages)) where
      abbrev side : List Forwarding
      side = side_of h (moves_of h pages targets) n

      -- an entry's object has a number among those of its page
      record IsNumbered (f : Forwarding) : Type 0 where
        pub address : ℕ
        pub plan : IsPlanned h s l pages closed targets enough address f.to
        pub number : ℕ
        pub at : plan.index ≡ here.start + number
        pub under : number < length (live_on h n)

      numbered : (i : ℕ) (f : Forwarding) → slice_get side i ≡ Some f → IsNumbered f
      unfolding side_of
      numbered i f e = by_offset (slice_get (live_offsets h n) i) refl
          (sym (slice_get-map (λ o. record {
            offset = o;
            to = place_of (moves_of h pages targets) (n * h.store.words + o);
            copied = false;
          }) (live_offsets h n) i) ∙ e)
        where
          by_offset : (x : Option ℕ) → slice_get (live_offsets h n) i ≡ x → option_map (λ o. record {
            offset = o;
            to = place_of (moves_of h pages targets) (n * h.store.words + o);
            copied = false;
          }) x ≡ Some f → IsNumbered f
          by_offset None z k = absurd (cc)
          by_offset (Some o) z k =
              let a : ℕ = n * h.store.words + o in
              let told = at_in o (live_offsets h n) i z in
              let under = live_within h l n o told in
              let page : a / h.store.words ≡ n = div-mul-add n h.store.words o under in
              let offset : a % h.store.words ≡ o = mod-mul-add n h.store.words o under in
              let live = of_live h s l pages closed a (subst (λ m. IsIn m pages) (sym page) there)
              (subst (λ m. IsIn (a % h.store.words) (live_offsets h m)) (sym page)
              (subst (λ u. IsIn u (live_offsets h n)) (sym offset) told)) in
              let to : place_of (moves_of h pages targets) a ≡ f.to =
              ap (λ (g : Forwarding). g.to) (same_Some _ _ k) in
              let x = subst (IsPlanned h s l pages closed targets enough a) to
              (planned h s l pages closed targets enough a live) in
              let (k, at, few) = here.only x.index a x.at page in
              record { address = a; plan = x; number = k; at = at; under = few }

      target_is : (a to : ℕ) (x : IsPlanned h s l pages closed targets enough a to)
          → slice_get targets x.place.0 ≡ Some (to / h.store.words)
      target_is a to x = x.in_target
          ∙ ap Some (sym (div-mul-add x.target h.store.words x.place.1 (omega (arith, x.room)))
          ∙ ap (λ z. z / h.store.words) x.is)

      pub lies_in_two : LiesInTwo h.store.words targets side
      unfolding plan_of
      lies_in_two = by_first (slice_get (plan_of h pages) here.start) refl
        where
          by_first : (o : Option (ℕ × ℕ)) → slice_get (plan_of h pages) here.start ≡ o
              → LiesInTwo h.store.words targets side
          by_first None z = record { first = 0; each = λ i f e. absurd (none (numbered i f e)) }
            where
              none : {f : Forwarding} → IsNumbered f → ⊥
              none x =
                  let within = slice_get_within (plan_of h pages) x.plan.index x.plan.place x.plan.placed in
                  let (p, at) = get_within (plan_of h pages) here.start (omega (arith, within, x.at)) in
                  none-some p (sym z ∙ at)
          by_first (Some p) z = record {
            first = p.0;
            each = λ i f e. (
                let x = numbered i f e in
                elim (near_places h.store.words 0 0 sizes here.start x.number x.plan.index p x.plan.place x.at z
                x.plan.placed (few (suc x.number) (omega (arith, x.under)))) [
                  | inl q ↦ inl (ap (slice_get targets) (sym q) ∙ target_is x.address f.to x.plan)
                  | inr q ↦ inr (ap (slice_get targets) (sym q) ∙ target_is x.address f.to x.plan)
                ]
                );
          }

-- the outcome

or_second : (b c : Bool) → (b || c) ≡ false → c ≡ false
or_second true c e = absurd (true≢false e)
or_second false c e = e

-- pages of a valid list are named once each
named_once : (h : HeapState) (pages : List ℕ) → are_bad_pages h pages ≡ false → has_twice pages ≡ false
named_once h [] e = refl
named_once h (n ∷ ns) e = or_second (list_any (no_page_in h.store) (n ∷ ns)) (has_twice (n ∷ ns)) e

abbrev Packs : HeapState → List ℕ → HeapState → Type 0
Packs h pages g = Each pages (λ n. LiesInTwo h.store.words (targets_of h pages) (of_page g.sides n))

module _ {h : HeapState} {p p0 : PlainHeap} (s : IsStore h.store) (d : IsHeap h) (k : Holds h p p0) where
  protect_packs : (pages : List ℕ) → has_twice pages ≡ false
      → OnAccepted (λ (z : HeapState × Answer). Packs h pages z.0) (protect_outcome h pages)
  unfolding protect_outcome protect
  protect_packs pages twice = on_has (refuse_if (not (is_idle h.phase)) refusals.Phase) _ _ _ (idle_is h.phase)
      (λ u idle. on_has (all_ripe h pages) _ _ _ (all_closed h pages) (λ v closed.
      on_has (room_for h.store (target_count (plan_of h pages))) _ _ _
      (has_room h (target_count (plan_of h pages))) (λ z room.
      let x = targets_hold (target_count (plan_of h pages)) h p p0 s d.buffers k room.frames room.pages in
      let m : MayEmpty h (with_targets (target_count (plan_of h pages)) h).0 p p0 (targets_of h pages) pages = record {
        store = s;
        before = k;
        targets = x.targets;
        holds = x.holds;
        idle = idle;
        closed = closed;
        enough = x.many;
      } in
      λ i n at.
      let there = at_in n pages i at in
      subst (LiesInTwo h.store.words (targets_of h pages)) (sym (side_after h _ p p0 _ pages m n there))
      (lies_in_two h s k.laid pages closed twice n there (targets_of h pages) x.many))))

  row_packs : (w : ℕ) (pages : List ℕ)
      → OnAccepted (λ (z : HeapState × Answer). Packs h pages z.0) (outcome h (Worker w) (steps.Protect pages))
  unfolding outcome
  row_packs w pages = on_has (worker_gate h w (steps.Protect pages)) _ _ _ (worker_passed h w (steps.Protect pages))
      (λ u g. protect_packs pages (named_once h pages g.indices))

pub pages_pack : (h : HeapState) (p p0 : PlainHeap) (w : ℕ) (pages : List ℕ) (g : HeapState) (answer : Answer)
    → IsStore h.store → IsHeap h → Holds h p p0 → outcome h (Worker w) (steps.Protect pages) ≡ accepted (g, answer)
    → Packs h pages g
pages_pack h p p0 w pages g answer s d k e = of_accepted (λ (z : HeapState × Answer). Packs h pages z.0)
    (outcome h (Worker w) (steps.Protect pages)) (g, answer) (row_packs s d k w pages) e

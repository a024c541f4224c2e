-- The spots before a walk, page by page.
use Rattle.std.proofs.Common.{◌≡◌, eqb, leb, inl, inr, ℕ, suc, ◌+◌, ◌-◌, ◌*◌, ◌/◌, ◌%◌, ◌<◌, ◌≤◌, Bool, true, false}
use Rattle.std.proofs.Common.{cond}
use Rattle.std.proofs.Common.{ltb, List, [], ◌∷◌, ◌++◌, length, get_or, Option, Some, None, refl, ◌∙◌, ap, arith}
use Rattle.std.proofs.Common.{div-add-mod', length-append}
use Rattle.std.proofs.Math.Nat.{mul-le-mul_right, suc-mul}
use Rattle.std.proofs.Math.Seq.{get_or-append_seam}
use Rattle.std.specs.List.{slice_get}
use Rattle.std.proofs.lemmas.Bool.{cases_eq, cases_lt}
use Rattle.std.proofs.lemmas.List.{get_or_past, get_or_append_left}
use Rattle.std.proofs.lemmas.Nat.{div-mul-add, mod-mul-add}
use Rattle.refword.specs.declared.addr.TheConstants.Addr as addresses
use Rattle.layout.specs.Objects.{size_of, birth_of, layout_of}
use Rattle.verify.specs.declared.objects.Object.{Object}
use Rattle.verify.specs.declared.spots.Spot.{Spot}
use Rattle.verify.specs.Images.{ImageData, PageData, ◌>>=◌, page_at, word_at, starts_on, object_in, object_at}
use Rattle.verify.specs.Spots.{spot_on}
use Rattle.verify.specs.Walks.{spot_at, first_spot}
use Rattle.verify.proofs.Spotting.{same_page}

-- if there is no start bit, there is no object
pub no_start : (i : ImageData) (a : ℕ) → starts_on (page_at i a) (a % i.words) ≡ false → object_at i a ≡ None
unfolding object_at
no_start i a e = ap (λ (b : Bool). cond (ltb a addresses.LIMIT) (cond b (object_in i a) None) None) e
    ∙ nothing (ltb a addresses.LIMIT)
  where
    nothing : (b : Bool) → cond b (cond false (object_in i a) None) None ≡ None
    nothing true = refl
    nothing false = refl

-- so there is none on a page that doesn't exist
pub no_page : (i : ImageData) (a : ℕ) → page_at i a ≡ None → object_at i a ≡ None
no_page i a e = no_start i a (ap (λ p. starts_on p (a % i.words)) e)

-- and none on a page without a frame
no_word : (i : ImageData) (a : ℕ) (p : PageData) → page_at i a ≡ Some p → p.frame ≡ None → word_at i a ≡ None
unfolding word_at
no_word i a p e f = ap by_page e ∙ ap by_frame f
  where
    by_frame : Option ℕ → Option ℕ
    by_frame o = o >>= (λ n. slice_get i.frames n >>= (λ ws. slice_get ws (a % i.words)))

    by_page : Option PageData → Option ℕ
    by_page o = o >>= (λ q. by_frame q.frame)

pub no_frame : (i : ImageData) (a : ℕ) (p : PageData) → page_at i a ≡ Some p → p.frame ≡ None → object_at i a ≡ None
unfolding object_at object_in
no_frame i a p e f = by_tests (ltb a addresses.LIMIT) (starts_on (page_at i a) (a % i.words)) (word_at i a)
    (no_word i a p e f)
  where
    object : Option ℕ → Option Object
    object o = o >>= (λ bits. slice_get i.layouts (layout_of bits) >>= (λ layout.
        cond (leb (a % i.words + size_of layout) i.words)
        (Some (record { birth = birth_of bits; refs = layout.refs })) None))

    by_tests : (b c : Bool) (o : Option ℕ) → o ≡ None → cond b (cond c (object o) None) None ≡ None
    by_tests true true o z = ap object z
    by_tests true false o z = refl
    by_tests false c o z = refl

-- addresses of a page that begins at another one
pub page_stays : (i : ImageData) (base o : ℕ) → base % i.words ≡ 0 → o < i.words
    → (page_at i (base + o) ≡ page_at i base) × ((base + o) % i.words ≡ o)
unfolding page_at
page_stays i base o e l =
    let s = same_page i.words base o (omega (arith, e, l)) in (
      ap (λ k. cond (eqb k 0) None (slice_get i.pages (k - 1))) s.0,
      omega (arith, s.1, e),
    )

-- more pages

-- the list of pages covers the addresses below a bound, where the next page begins
pub record AreCovered (i : ImageData) (ps : List (List Spot)) (base : ℕ) : Type 0 where
  pub many : base ≡ length ps * i.words
  pub short : (k : ℕ) → length (get_or ps k []) ≤ i.words
  pub each : (a : ℕ) → a < base → spot_on i.words ps a ≡ first_spot (object_at i a)

pub covered_none : (i : ImageData) → AreCovered i [] 0
covered_none i = record {
  many = omega arith;
  short = λ k. omega arith;
  each = λ a l. absurd (omega (arith, l));
}

below : (a w m : ℕ) → a < m * w → a / w < m
below a w m l = elim (cases_lt (a / w) m) [
  | inl k ↦ k
  | inr k ↦ absurd (omega (arith, mul-le-mul_right w k, div-add-mod' a w, l))
]

pub covered_more : (i : ImageData) (ps : List (List Spot)) (base : ℕ) (q : List Spot) → AreCovered i ps base
    → length q ≤ i.words → ((o : ℕ) → o < i.words → spot_at q o ≡ first_spot (object_at i (base + o)))
    → AreCovered i (ps ++ q ∷ []) (base + i.words)
covered_more i ps base q c few told = record {
  many = omega (arith, c.many, longer, times (length ps) (length (ps ++ q ∷ [])) longer);
  short = λ k. elim (cases_lt k (length ps)) [
    | inl l ↦ omega (arith, c.short k, ap length (get_or_append_left ps (q ∷ []) [] k l))
    | inr l ↦ elim (cases_eq k (length ps)) [
      | inl e ↦ omega (arith, few, ap length (ap (λ j. get_or (ps ++ q ∷ []) j []) e ∙ get_or-append_seam ps q [] []))
      | inr d ↦ omega (arith, ap length (get_or_past (ps ++ q ∷ []) k [] (omega (arith, longer, l, d))))
    ]
  ];
  each = λ a l. elim (cases_lt a base) [
    | inl z ↦ ap (λ p. spot_at p (a % i.words))
        (get_or_append_left ps (q ∷ []) [] (a / i.words) (below a i.words (length ps) (omega (arith, z, c.many))))
        ∙ c.each a z
    | inr z ↦ (
        let sum : a ≡ length ps * i.words + (a - base) = omega (arith, c.many, z) in
        let under : a - base < i.words = omega (arith, l, z) in
        let page : a / i.words ≡ length ps =
        ap (λ n. n / i.words) sum ∙ div-mul-add (length ps) i.words (a - base) under in
        let offset : a % i.words ≡ a - base =
        ap (λ n. n % i.words) sum ∙ mod-mul-add (length ps) i.words (a - base) under in
        let back : base + (a - base) ≡ a = omega (arith, z) in
        ap (λ k. spot_at (get_or (ps ++ q ∷ []) k []) (a % i.words)) page
        ∙ ap (λ p. spot_at p (a % i.words)) (get_or-append_seam ps q [] [])
        ∙ ap (spot_at q) offset ∙ told (a - base) under
        ∙ ap (λ n. first_spot (object_at i n)) back
        )
  ];
}
  where
    longer : length (ps ++ q ∷ []) ≡ suc (length ps)
    longer = omega (arith, length-append ps (q ∷ []))

    times : (m n : ℕ) → n ≡ suc m → n * i.words ≡ m * i.words + i.words
    times m n e = ap (λ k. k * i.words) e ∙ suc-mul m i.words

-- the next page begins at the start of a page
pub covered_head : (i : ImageData) (ps : List (List Spot)) (base : ℕ) → 0 < i.words → AreCovered i ps base
    → base % i.words ≡ 0
covered_head i ps base w c =
    let e : base ≡ length ps * i.words + 0 = omega (arith, c.many) in
    ap (λ n. n % i.words) e ∙ mod-mul-add (length ps) i.words 0 w

-- the spot at an address that is covered, by what was read
pub covered_on : (i : ImageData) (ps : List (List Spot)) (base w a : ℕ) → AreCovered i ps base → w ≡ i.words → a < base
    → spot_on w ps a ≡ first_spot (object_at i a)
covered_on i ps base w a c e l = ap (λ u. spot_on u ps a) e ∙ c.each a l

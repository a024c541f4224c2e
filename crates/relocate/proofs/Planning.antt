-- The plan of pages: a place for each live object, in one of the targets.
use Rattle.std.proofs.Common.{◌≡◌, ℕ, zero, suc, ◌+◌, ◌<◌, ◌≤◌, Bool, true, false, cond, nat_le, List, [], ◌∷◌, ◌++◌}
use Rattle.std.proofs.Common.{◌*◌, drop, get_or, length, map, take, Option, Some, None, refl, sym}
use Rattle.std.proofs.Common.{◌∙◌, ap, ap₂, subst, arith, length-append}
use Rattle.std.specs.List.{slice_get, flat_map}
use Rattle.std.specs.Prelude.{Result, Ok, Err, IfOk, count_by}
use Rattle.std.proofs.lemmas.Bool.{leb-true}
use Rattle.std.proofs.lemmas.List.{append-nil, append_assoc, drop_all, drop_more, map-append, take_all, take_more}
use Rattle.std.proofs.lemmas.Simd.{map-map}
use Rattle.std.proofs.lemmas.Option.{same_Some}
use Rattle.layout.specs.declared.shape.Layout.{Layout}
use Rattle.model.specs.declared.records.Forwarding.{Forwarding}
use Rattle.model.specs.Owning.{Each}
use Rattle.model.specs.Holding.{IsHeap}
use Rattle.model.specs.States.{HeapState}
use Rattle.model.specs.Bits.{of_page}
use Rattle.model.specs.Data.{layout_at}
use Rattle.model.specs.Plans.{places_from, target_count, plan_of, live_offsets, live_objects, live_on, object_words}
use Rattle.model.specs.Plans.{words_of, with_sides, moves_of}
use Rattle.model.specs.Protections.{has_twice, with_targets, with_protected, protect_with, protect}
use Rattle.heap.specs.Relocating.{start_protection}
use Rattle.model.proofs.Plans as plans
use Rattle.relocate.specs.Drafts.{AreDraftsOf, IsDraftOf, IsReadyFor, address_of, draft_sizes, places_of, with_settled}
use Rattle.model.proofs.Tables.{row_short}
use Rattle.forward.specs.Drafts.{DraftState}
use Rattle.relocate.proofs.Settled.{sides_settled}

-- sizes

-- the drafted sizes are the planned ones
flat_mapped : {X Y Z : Type 0} (f : Y → Z) (g : X → List Y) (k : X → List Z) (xs : List X)
    → ((x : X) → k x ≡ map f (g x)) → flat_map k xs ≡ map f (flat_map g xs)
flat_mapped f g k [] h = refl
flat_mapped f g k (x ∷ xs) h =
    ap₂ (λ ys zs. ys ++ zs) (h x) (flat_mapped f g k xs h) ∙ sym (map-append f (g x) (flat_map g xs))

pub sizes_planned : (h : HeapState) (pages : List ℕ)
    → places_from h.store.words 0 0 (flat_map (draft_sizes h) pages) ≡ plan_of h pages
unfolding plan_of live_objects
sizes_planned h pages = ap (places_from h.store.words 0 0)
    (flat_mapped (object_words h) (live_on h) (draft_sizes h) pages
    (λ n. sym (map-map (object_words h) (address_of h n) (live_offsets h n))))

-- places

-- a place begins within its target, since each object has a word
begins_within : (w t o : ℕ) (ns : List ℕ) → 0 < w → Each ns (λ n. 0 < n) → (i : ℕ) (p : ℕ × ℕ)
    → slice_get (places_from w t o ns) i ≡ Some p → p.1 < w
begins_within w t o [] low some i p e = absurd (cc)
begins_within w t o (n ∷ ns) low some i p e = by_test (nat_le (o + n) w) refl i e
    (begins_within w t (o + n) ns low (λ j. some (suc j))) (begins_within w (t + 1) n ns low (λ j. some (suc j)))
  where
    by_test : (b : Bool) → nat_le (o + n) w ≡ b → (i : ℕ)
        → slice_get (cond b ((t, o) ∷ places_from w t (o + n) ns) ((t + 1, 0) ∷ places_from w (t + 1) n ns)) i ≡ Some p
        → ((i : ℕ) (p : ℕ × ℕ) → slice_get (places_from w t (o + n) ns) i ≡ Some p → p.1 < w)
        → ((i : ℕ) (p : ℕ × ℕ) → slice_get (places_from w (t + 1) n ns) i ≡ Some p → p.1 < w)
        → p.1 < w
    by_test true c zero e x y =
        let is : o ≡ p.1 = ap (λ (z : ℕ × ℕ). z.1) (same_Some _ _ e) in
        omega (arith, is, leb-true (o + n) w c, some zero n refl)
    by_test true c (suc i) e x y = x i p e
    by_test false c zero e x y =
        let is : 0 ≡ p.1 = ap (λ (z : ℕ × ℕ). z.1) (same_Some _ _ e) in omega (arith, is, low)
    by_test false c (suc i) e x y = y i p e

some_words : (o : Option Layout) → 0 < words_of o
some_words None = omega arith
some_words (Some l) = omega arith

each_mapped : {X : Type 0} (f : X → ℕ) (xs : List X) → ((x : X) → 0 < f x) → Each (map f xs) (λ n. 0 < n)
each_mapped f [] h i n e = absurd (cc)
each_mapped f (x ∷ xs) h zero n e = let is : f x ≡ n = same_Some _ _ e in omega (arith, is, h x)
each_mapped f (x ∷ xs) h (suc i) n e = each_mapped f xs h i n e

pub places_within : (h : HeapState) (pages : List ℕ) → 0 < h.store.words
    → Each (plan_of h pages) (λ p. p.1 < h.store.words)
unfolding plan_of object_words
places_within h pages low i p e = begins_within h.store.words 0 0 _ low
    (each_mapped (object_words h) (live_objects h pages) (λ a. some_words (layout_at h a))) i p e

pub places_counted : (h : HeapState) (pages : List ℕ) (n : ℕ) → n ≡ target_count (plan_of h pages)
    → Each (plan_of h pages) (λ p. p.0 < n)
unfolding plan_of
places_counted h pages n e i p at =
    let low = plans.places_counted h.store.words 0 0 (map (object_words h) (live_objects h pages)) i p at in
    omega (arith, e, low)

-- drafts

-- a property of each place of drafts is one of each of theirs
each_flat : (P : ℕ × ℕ → Type 0) (ps qs : List (ℕ × ℕ)) → Each (ps ++ qs) P → Each ps P × Each qs P
each_flat P [] qs h = ((λ i x e. absurd (cc)), h)
each_flat P (p ∷ ps) qs h =
    let rest = each_flat P ps qs (λ i. h (suc i)) in ((λ i x e. by_index i x e rest.0), rest.1)
  where
    by_index : (i : ℕ) (x : ℕ × ℕ) → slice_get (p ∷ ps) i ≡ Some x → Each ps P → P x
    by_index zero x e rest = subst P (same_Some p x e) (h zero p refl)
    by_index (suc i) x e rest = rest i x e

row_on : (rows : List (List Bool)) (w n : ℕ) → Each rows (λ row. length row ≤ w) → length (of_page rows n) ≤ w
row_on rows w zero k = omega arith
row_on [] w (suc i) k = omega arith
row_on (row ∷ rows) w (suc zero) k = k zero row refl
row_on (row ∷ rows) w (suc (suc i)) k = row_on rows w (suc i) (λ j. k (suc j))

-- drafts whose places are in the targets are ready for as many
pub all_ready : (h : HeapState) (w count : ℕ) (pages : List ℕ) (ds : List DraftState) → AreDraftsOf h pages ds
    → Each h.live (λ row. length row ≤ w) → Each (flat_map places_of ds) (λ p. p.0 < count)
    → Each (flat_map places_of ds) (λ p. p.1 < w) → Each ds (IsReadyFor w count)
all_ready h w count pages [] are long counted within i d e = absurd (cc)
all_ready h w count [] (x ∷ ds) are long counted within i d e = absurd are
all_ready h w count (n ∷ ns) (x ∷ ds) (is, rest) long counted within zero d e =
    subst (IsReadyFor w count) (same_Some x d e) (record {
      short = omega (arith, ap length is.live, row_on h.live w n long);
      many = is.many;
      counted = (each_flat (λ p. p.0 < count) x.places (flat_map places_of ds) counted).0;
      within = (each_flat (λ p. p.1 < w) x.places (flat_map places_of ds) within).0;
    })
all_ready h w count (n ∷ ns) (x ∷ ds) (is, rest) long counted within (suc i) d e =
    all_ready h w count ns ds rest long (each_flat (λ p. p.0 < count) x.places (flat_map places_of ds) counted).1
    (each_flat (λ p. p.1 < w) x.places (flat_map places_of ds) within).1 i d e

pub plan_ready : (h : HeapState) (count : ℕ) (pages : List ℕ) (ds : List DraftState) → IsHeap h → 0 < h.store.words
    → AreDraftsOf h pages ds → flat_map places_of ds ≡ plan_of h pages → count ≡ target_count (plan_of h pages)
    → Each ds (IsReadyFor h.store.words count)
plan_ready h count pages ds is low are planned many =
    all_ready h h.store.words count pages ds are (λ i row e. row_short h.store h.live i row is.live e)
    (subst (λ ps. Each ps (λ p. p.0 < count)) (sym planned) (places_counted h pages count many))
    (subst (λ ps. Each ps (λ p. p.1 < h.store.words)) (sym planned) (places_within h pages low))

pub drafts_many : (h : HeapState) (pages : List ℕ) (ds : List DraftState) → AreDraftsOf h pages ds
    → length ds ≡ length pages
drafts_many h [] [] are = refl
drafts_many h [] (d ∷ ds) are = absurd are
drafts_many h (n ∷ ns) [] are = absurd are
drafts_many h (n ∷ ns) (d ∷ ds) (is, rest) = ap suc (drafts_many h ns ds rest)

-- pages are protected

-- targets are opened, drafts become forwarding tables, and pages are protected
pub protected_is : (h g mid final : HeapState) (ts pages : List ℕ) (ds : List DraftState) (n : ℕ) → IsHeap h
    → has_twice pages ≡ false → AreDraftsOf h pages ds → flat_map places_of ds ≡ plan_of h pages
    → n ≡ target_count (plan_of h pages) → g ≡ (with_targets n h).0 → ts ≡ (with_targets n h).1
    → g.store.words ≡ h.store.words
    → mid ≡ record g { sides = with_settled g.store.words ts pages ds g.sides }
    → final ≡ start_protection mid pages → final ≡ protect h pages
unfolding protect with_protected start_protection
protected_is h g mid final ts pages ds n is once are planned count opened pages_are words put started =
    let sides : with_settled g.store.words ts pages ds g.sides ≡ with_sides h (moves_of h pages ts) pages g.sides =
    ap (λ w. with_settled w ts pages ds g.sides) words
    ∙ sides_settled h ts pages ds g.sides (λ i row e. row_short h.store h.live i row is.live e) once are planned in
    started ∙ ap (λ (m : HeapState). start_protection m pages) put
    ∙ ap (λ (ss : List (List Forwarding)). start_protection (record g { sides = ss }) pages) sides
    ∙ ap₂ (λ (z : HeapState) (us : List ℕ). with_protected h z pages (moves_of h pages us)) opened pages_are
    ∙ ap (λ m. protect_with h pages (with_targets m h)) count

-- drafts are made one after another

-- after the drafts of the first i pages: where their objects end, how many these are, and in how many targets
pub record AreMade (h : HeapState) (pages : List ℕ) (i : ℕ) (ds : List DraftState) (end : ℕ × ℕ) (objects targets : ℕ)
    : Type 0 where
  pub drafts : AreDraftsOf h (take i pages) ds
  pub placed : places_from h.store.words 0 0 (flat_map (draft_sizes h) pages)
      ≡ flat_map places_of ds ++ places_from h.store.words end.0 end.1 (flat_map (draft_sizes h) (drop i pages))
  pub many : objects ≡ length (flat_map places_of ds)
  pub counted : targets ≡ target_count (flat_map places_of ds)
  pub near : end.0 ≤ i * 32768
  pub few : objects ≤ i * 32768

drafts_more : (h : HeapState) (pages : List ℕ) (n : ℕ) (ds : List DraftState) (d : DraftState)
    → AreDraftsOf h pages ds → IsDraftOf h n d → AreDraftsOf h (pages ++ n ∷ []) (ds ++ d ∷ [])
drafts_more h [] n [] d are is = (is, tt)
drafts_more h [] n (x ∷ ds) d are is = absurd are
drafts_more h (m ∷ ms) n [] d are is = absurd are
drafts_more h (m ∷ ms) n (x ∷ ds) d (this, rest) is = (this, drafts_more h ms n ds d rest is)

flat_more : (ds : List DraftState) (d : DraftState)
    → flat_map places_of (ds ++ d ∷ []) ≡ flat_map places_of ds ++ d.places
flat_more [] d = append-nil d.places
flat_more (x ∷ ds) d = ap (λ ps. x.places ++ ps) (flat_more ds d)
    ∙ sym (append_assoc x.places (flat_map places_of ds) d.places)

pub made_next : (h : HeapState) (pages : List ℕ) (i n : ℕ) (ds more : List DraftState) (d : DraftState) (end to : ℕ × ℕ)
    (objects targets objects2 targets2 : ℕ) → i < length pages → n ≡ get_or pages i 0
    → AreMade h pages i ds end objects targets → IsDraftOf h n d
    → ((ns : List ℕ) → places_from h.store.words end.0 end.1 (draft_sizes h n ++ ns)
    ≡ d.places ++ places_from h.store.words to.0 to.1 ns)
    → ((ps : List (ℕ × ℕ)) → targets ≡ target_count ps → targets2 ≡ target_count (ps ++ d.places))
    → objects2 ≡ objects + length d.places → length d.places ≤ 32768 → to.0 ≤ end.0 + 32768 → more ≡ ds ++ d ∷ []
    → AreMade h pages (i + 1) more to objects2 targets2
made_next h pages i n ds more d end to objects targets objects2 targets2 l at is this places counted many few near put =
    again (sym put)
  where
    flat : flat_map places_of (ds ++ d ∷ []) ≡ flat_map places_of ds ++ d.places
    flat = flat_more ds d

    sizes : flat_map (draft_sizes h) (drop i pages) ≡ draft_sizes h n ++ flat_map (draft_sizes h) (drop (i + 1) pages)
    sizes = ap (flat_map (draft_sizes h)) (drop_more pages i 0 l)
        ∙ ap (λ m. draft_sizes h m ++ flat_map (draft_sizes h) (drop (i + 1) pages)) (sym at)

    rest : List (ℕ × ℕ)
    rest = places_from h.store.words to.0 to.1 (flat_map (draft_sizes h) (drop (i + 1) pages))

    made : AreMade h pages (i + 1) (ds ++ d ∷ []) to objects2 targets2
    made = record {
      drafts = subst (λ ns. AreDraftsOf h ns (ds ++ d ∷ []))
          (ap (λ m. take i pages ++ m ∷ []) at ∙ sym (take_more pages i 0 l))
          (drafts_more h (take i pages) n ds d is.drafts this);
      placed = is.placed
          ∙ ap (λ ns. flat_map places_of ds ++ places_from h.store.words end.0 end.1 ns) sizes
          ∙ ap (λ ps. flat_map places_of ds ++ ps) (places (flat_map (draft_sizes h) (drop (i + 1) pages)))
          ∙ sym (append_assoc (flat_map places_of ds) d.places rest)
          ∙ ap (λ ps. ps ++ rest) (sym flat);
      many = omega (arith, many, is.many, ap length flat, length-append (flat_map places_of ds) d.places);
      counted = counted (flat_map places_of ds) is.counted ∙ ap target_count (sym flat);
      near = omega (arith, is.near, near);
      few = omega (arith, is.few, many, few);
    }

    again : ds ++ d ∷ [] ≡ more → AreMade h pages (i + 1) more to objects2 targets2
    again e = subst (λ xs. AreMade h pages (i + 1) xs to objects2 targets2) e made

-- all are made
module _ (h : HeapState) (pages : List ℕ) (i : ℕ) (ds : List DraftState) (end : ℕ × ℕ) (objects targets : ℕ)
    (is : AreMade h pages i ds end objects targets) (l : length pages ≤ i) where
  pub all_drafted : AreDraftsOf h pages ds
  all_drafted = subst (λ ns. AreDraftsOf h ns ds) (take_all i pages l) is.drafts

  pub all_planned : flat_map places_of ds ≡ plan_of h pages
  all_planned = sym (append-nil (flat_map places_of ds))
      ∙ ap (λ ns. flat_map places_of ds ++ places_from h.store.words end.0 end.1 (flat_map (draft_sizes h) ns))
      (sym (drop_all i pages l))
      ∙ sym is.placed ∙ sizes_planned h pages

  pub objects_planned : objects ≡ length (plan_of h pages)
  objects_planned = is.many ∙ ap length all_planned

  pub targets_planned : targets ≡ target_count (plan_of h pages)
  targets_planned = is.counted ∙ ap target_count all_planned

-- the targets with one page more
pub count_none : (targets : ℕ) (ps qs : List (ℕ × ℕ)) → length qs ≡ 0 → targets ≡ target_count ps
    → targets ≡ target_count (ps ++ qs)
count_none targets ps [] e is = is ∙ ap target_count (sym (append-nil ps))
count_none targets ps (q ∷ qs) e is = absurd (omega (arith, e))

pub count_some : (n : ℕ) (ps qs : List (ℕ × ℕ)) → 0 < length qs → target_count qs ≡ n → n ≡ target_count (ps ++ qs)
count_some n ps [] l is = absurd (omega (arith, l))
count_some n ps (q ∷ qs) l is = sym is ∙ sym (behind ps)
  where
    behind : (ps : List (ℕ × ℕ)) → target_count (ps ++ q ∷ qs) ≡ target_count (q ∷ qs)
    behind [] = refl
    behind (p ∷ []) = refl
    behind (p ∷ r ∷ ps) = behind (r ∷ ps)

-- a draft of a live bitmap is one of its page
pub result_drafted : {E : Type 0} (h : HeapState) (n : ℕ) (row : List Bool) (r : Result DraftState E)
    → row ≡ of_page h.live n → IfOk r (λ d. d.live ≡ row) → IfOk r (λ d. length d.places ≡ count_by (λ b. b) d.live)
    → IfOk r (IsDraftOf h n)
result_drafted h n row (Err e) is live many = tt
result_drafted h n row (Ok d) is live many = record { live = live ∙ is; many = many }

-- one of no objects is one of a page without any
pub none_drafted : (h : HeapState) (n : ℕ) (d : DraftState) → d ≡ record { live = []; places = [] }
    → [] ≡ of_page h.live n → IsDraftOf h n d
none_drafted h n d e is = subst (IsDraftOf h n) (sym e) (record { live = is; many = refl })

pub none_placed : (w : ℕ) (end : ℕ × ℕ) (sizes : List ℕ) (d : DraftState) (ns : List ℕ)
    → d ≡ record { live = []; places = [] } → [] ≡ sizes
    → places_from w end.0 end.1 (sizes ++ ns) ≡ d.places ++ places_from w end.0 end.1 ns
none_placed w end sizes d ns e is = ap (λ (xs : List ℕ). places_from w end.0 end.1 (xs ++ ns)) (sym is)
    ∙ ap (λ (x : DraftState). x.places ++ places_from w end.0 end.1 ns) (sym e)

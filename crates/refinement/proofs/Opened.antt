-- An unused page is opened: no object, mark or claim is on it, and its words are one claim.
use Rattle.std.proofs.Common.{length, ◌≡◌, ◌≢◌, ◌⊎◌, inl, inr, ℕ, suc, ◌+◌, ◌*◌, ◌/◌, ◌%◌, ◌<◌, ◌≤◌, Bool, true}
use Rattle.std.proofs.Common.{false, List, map}
use Rattle.std.proofs.Common.{set, replicate, Option, Some, None, nat_eq, refl, sym, ◌∙◌, ap, ap₂, arith, cond}
use Rattle.std.proofs.Common.{IfSome, div-add-mod', eq-eqb, ne_eqb, mul-le-mul_right}
use Rattle.std.proofs.Math.Nat.{suc-mul}
use Rattle.std.specs.List.{slice_get}
use Rattle.std.specs.Option.{option_map}
use Rattle.std.proofs.Math.ListN.{length-set}
use Rattle.std.proofs.lemmas.List.{length-replicate}
use Rattle.std.proofs.lemmas.Option.{slice_get_within, same_Some, none-some}
use Rattle.std.proofs.lemmas.Bool.{cases_eq, eqb-true, false≢true}
use mathlib.Core.Path.{fun_ext}
use Rattle.model.specs.declared.records.Page.{Page}
use Rattle.model.specs.declared.records.PageState.TheVariants.{Unused, Open}
use Rattle.model.specs.declared.records.Buffer.{Buffer}
use Rattle.model.specs.Stores.{words_at, state_at, state_in, frame_in, page_at, has_memory, is_open, is_unused}
use Rattle.model.specs.Stores.{open_fresh, fresh_page}
use Rattle.model.specs.Owning.{Each, IsStore, LiesIn}
use Rattle.model.specs.Holding.{FillsIn, AreRowsOf}
use Rattle.model.specs.States.{HeapState, ThreadState}
use Rattle.model.specs.Threads.{buffer_in}
use Rattle.model.specs.Registers.{register_of}
use Rattle.model.proofs.Lists.{get_set_other, get_within, no_some}
use Rattle.model.proofs.Memory.{open_state, unused_state, words_in, page_record, words_sized, words_memory}
use Rattle.laws.specs.AddressHeap.{HeapObject, SideEntry, NoEntry, Planned, Copied, put}
use Rattle.laws.specs.Invariant.{SoundObjects, SoundMarks}
use Rattle.laws.specs.Edits.{open_page}
use Rattle.laws.proofs.Basics.{put_same, put_other}
use Rattle.model.specs.Bits.{bit_at}
use Rattle.refinement.specs.Worlds.{world_of, object_at, object_in}
use Rattle.refinement.specs.Claims.{IsLaid, Apart, AreApart, Claim, OfObject, OfBuffer, OfPlan, OfEnd}
use Rattle.refinement.specs.Claims.{Extent, extent, object_size, sized_extent, planned_extent, buffer_extent}
use Rattle.refinement.specs.Claims.{end_extent, size_at}
use Rattle.refinement.proofs.ObjectWords.{read_fits}
use Rattle.refinement.proofs.Objects.{there}
use Rattle.model.proofs.Tables.{lengths_set, rows_many}
use Rattle.page.proofs.RowSizes.{opened_rows}
use Rattle.refinement.proofs.Changes.{new_here, new_other}
use Rattle.refinement.proofs.Granted.{page_set, page_here}

mul_less : (a b w : ℕ) → a < b → a * w + w ≤ b * w
mul_less a b w e = let z : suc a * w ≤ b * w = mul-le-mul_right w (omega (arith, e)) in omega (arith, z, suc-mul a w)

-- an extent lies in page n
pub record LiesOn (w n : ℕ) (x : Extent) : Type 0 where
  pub from : n * w ≤ x.from
  pub upto : x.upto ≤ n * w + w

-- extents in two pages are apart
pub pages_apart : (w m n : ℕ) (x y : Extent) → m ≢ n → LiesOn w m x → LiesOn w n y → AreApart x y
pages_apart w m n x y d a b = by_order (less m n d)
  where
    less : (m n : ℕ) → m ≢ n → (m < n) ⊎ (n < m)
    less m n d = grind arith

    by_order : (m < n) ⊎ (n < m) → AreApart x y
    by_order (inl e) = inl (omega (arith, a.upto, b.from, mul_less m n w e))
    by_order (inr e) = inr (omega (arith, a.from, b.upto, mul_less n m w e))

-- an extent lies in a page with memory
pub record LiesOnPage (h : HeapState) (x : Extent) : Type 0 where
  pub page : ℕ
  pub memory : has_memory (state_at h.store page) ≡ true
  pub from : page * h.store.words ≤ x.from
  pub upto : x.upto ≤ page * h.store.words + h.store.words

module _ (h : HeapState) (s : IsStore h.store) (k : Each h.threads (FillsIn h.store)) (l : IsLaid h)
    (o : SoundObjects (world_of h)) where
  object_lies : (a : ℕ) (q : HeapObject) (x : Extent) → object_at h a ≡ Some q → sized_extent a (object_size q) ≡ x
      → LiesOnPage h x
  object_lies a q x e f =
      let r = there h a q e in
      let size = words_sized h.store (a / h.store.words) r.words s r.page in
      let fits = read_fits h.config.layouts r.words (a % h.store.words) q r.read in
      let from : a ≡ x.from = ap (λ (y : Extent). y.from) f in
      let upto : a + object_size q ≡ x.upto = ap (λ (y : Extent). y.upto) f in
      record {
        page = a / h.store.words;
        memory = words_memory h.store (a / h.store.words) r.words s r.page;
        from = omega (arith, from, div-add-mod' a h.store.words);
        upto = omega (arith, upto, size, fits, div-add-mod' a h.store.words);
      }

  object_claim : (a : ℕ) (x : Extent) (y : Option HeapObject) → object_at h a ≡ y
      → option_map (sized_extent a) (option_map object_size y) ≡ Some x → LiesOnPage h x
  object_claim a x None e f = absurd (cc)
  object_claim a x (Some q) e f = object_lies a q x e (same_Some _ _ f)

  buffer_lies : (b : Buffer) (x : Extent) → LiesIn h.store b → buffer_extent h.store.words b ≡ x → LiesOnPage h x
  unfolding state_at
  buffer_lies b x lies f =
      let from : b.page * h.store.words + b.next ≡ x.from = ap (λ (y : Extent). y.from) f in
      let upto : b.page * h.store.words + b.end ≡ x.upto = ap (λ (y : Extent). y.upto) f in
      record {
        page = b.page;
        memory = ap has_memory (open_state (state_in (page_at h.store b.page)) lies.page);
        from = omega (arith, from);
        upto = omega (arith, upto, lies.end);
      }

  thread_claim : (u : ℕ) (x : Extent) (y : Option ThreadState) → slice_get h.threads u ≡ y
      → option_map (buffer_extent h.store.words) (buffer_in y) ≡ Some x → LiesOnPage h x
  thread_claim u x None e f = absurd (cc)
  thread_claim u x (Some y) e f = by_buffer y.buffer (k u y e) f
    where
      by_buffer : (c : Option Buffer) → IfSome c (LiesIn h.store) → option_map (buffer_extent h.store.words) c ≡ Some x
          → LiesOnPage h x
      by_buffer None g z = absurd (cc)
      by_buffer (Some b) g z = buffer_lies b x g (same_Some _ _ z)

  plan_claim : (a : ℕ) (x : Extent) (e : SideEntry) (y : Option HeapObject) → (world_of h).side_entry a ≡ e
      → object_at h a ≡ y → planned_extent e (option_map object_size y) ≡ Some x → LiesOnPage h x
  plan_claim a x NoEntry y f g z = absurd (cc)
  plan_claim a x (Copied n) y f g z = absurd (cc)
  plan_claim a x (Planned n) None f g z = absurd (cc)
  plan_claim a x (Planned n) (Some q) f g z =
      let is : sized_extent n (object_size q) ≡ x = same_Some _ _ z in
      let from : n ≡ x.from = ap (λ (y : Extent). y.from) is in
      let upto : n + object_size q ≡ x.upto = ap (λ (y : Extent). y.upto) is in
      record {
        page = n / h.store.words;
        memory = ap has_memory (o.planned_open a n f);
        from = omega (arith, from, div-add-mod' n h.store.words);
        upto = omega (arith, upto, l.planned a n q f g, div-add-mod' n h.store.words);
      }

  end_claim : (m : ℕ) (x : Extent) (y : Option Page) → page_at h.store m ≡ y → end_extent h.store.words m y ≡ Some x
      → LiesOnPage h x
  unfolding state_at
  end_claim m x None e f = absurd (cc)
  end_claim m x (Some p) e f = by_open (is_open p.state) refl f
    where
      by_open : (b : Bool) → is_open p.state ≡ b
          → cond b (Some (record { from = m * h.store.words + p.top; upto = m * h.store.words + h.store.words })) None
          ≡ Some x → LiesOnPage h x
      by_open false g z = absurd (cc)
      by_open true g z =
          let from : m * h.store.words + p.top ≡ x.from = ap (λ (y : Extent). y.from) (same_Some _ _ z) in
          let upto : m * h.store.words + h.store.words ≡ x.upto = ap (λ (y : Extent). y.upto) (same_Some _ _ z) in
          record {
            page = m;
            memory = ap (λ y. has_memory (state_in y)) e ∙ ap has_memory (open_state p.state g);
            from = omega (arith, from);
            upto = omega (arith, upto);
          }

  -- every claim lies in a page with memory
  pub claim_lies : (c : Claim) (x : Extent) → extent h c ≡ Some x → LiesOnPage h x
  claim_lies (OfObject a) x e = object_claim a x (object_at h a) refl e
  claim_lies (OfBuffer u) x e = thread_claim u x (slice_get h.threads u) refl e
  claim_lies (OfPlan a) x e = plan_claim a x ((world_of h).side_entry a) (object_at h a) refl refl e
  claim_lies (OfEnd m) x e = end_claim m x (page_at h.store m) refl e

-- the heap with page i + 1 opened on frame f
abbrev pub opened_heap : HeapState → ℕ → ℕ → HeapState
opened_heap h i f = record h {
  store = open_fresh h.store i f;
  starts = set h.starts i (replicate h.store.words false);
  live = set h.live i (replicate h.store.words false);
  mark = set h.mark i (replicate h.store.words false);
  todo = set h.todo i (replicate h.store.words false);
}

-- the addresses of page i + 1
abbrev pub on_page : HeapState → ℕ → ℕ → Bool
on_page h i a = nat_eq (a / h.store.words) (i + 1)

-- page i + 1 is unused, and frame f is free
pub record MayOpen (h : HeapState) (i f : ℕ) (p : Page) : Type 0 where
  pub at : slice_get h.store.pages i ≡ Some p
  pub unused : is_unused p.state ≡ true
  pub free : slice_get h.store.owners f ≡ Some None

module _ {h : HeapState} (s : IsStore h.store) (k : Each h.threads (FillsIn h.store)) (l : IsLaid h)
    (o : SoundObjects (world_of h)) (m : SoundMarks (world_of h)) {i f : ℕ} {p : Page} (w : MayOpen h i f p) where
  abbrev after : HeapState
  after = opened_heap h i f

  pub state : state_at h.store (i + 1) ≡ Unused
  unfolding state_at
  state = ap state_in (page_here h.store i p w.at) ∙ unused_state p.state w.unused

  no_frame : p.frame ≡ None
  no_frame = no_some p.frame ((s.pages i p w.at).memory ∙ ap has_memory (unused_state p.state w.unused))

  no_words : words_at h.store (i + 1) ≡ None
  unfolding words_at
  no_words = ap (λ y. words_in h.store.frames (frame_in y)) (page_here h.store i p w.at)
      ∙ ap (words_in h.store.frames) no_frame

  pages : (n : ℕ) → page_at after.store n ≡ put (page_at h.store) (i + 1) (Some (fresh_page f)) n
  unfolding open_fresh
  pages = page_set h.store after.store i p (fresh_page f) w.at refl

  words_other : (n : ℕ) → n ≢ i + 1 → words_at after.store n ≡ words_at h.store n
  unfolding words_at open_fresh
  words_other n d = ap (λ y. words_in after.store.frames (frame_in y)) (pages n
      ∙ put_other (page_at h.store) (i + 1) (Some (fresh_page f)) n d) ∙ by_frame (frame_in (page_at h.store n)) refl
    where
      by_frame : (c : Option ℕ) → frame_in (page_at h.store n) ≡ c
          → words_in (set h.store.frames f (replicate h.store.words 0)) c ≡ words_in h.store.frames c
      by_frame None e = refl
      by_frame (Some y) e =
          let (j, q, a, b, c) = page_record h.store n y e in
          let owned = s.owning.owned j y q b c in
          get_set_other h.store.frames f y (replicate h.store.words 0)
          (λ z. no (j + 1) (same_Some _ _ (sym w.free ∙ ap (slice_get h.store.owners) (sym z) ∙ owned)))
        where
          no : (n : ℕ) → None ≡ Some n → ⊥
          no n z = cc

  row : (xs : List (List Bool)) → AreRowsOf h.store xs → (r : List Bool) × (slice_get xs i ≡ Some r)
  row xs r = let within = slice_get_within h.store.pages i p w.at in get_within xs i (omega (arith, within, rows_many h.store xs r))

  page_suc : (n : ℕ) → n ≡ i + 1 → n ≡ suc i
  page_suc n e = omega (arith, e)

  blank : (xs : List (List Bool)) → AreRowsOf h.store xs → (a : ℕ) → a / h.store.words ≡ i + 1
      → bit_at (set xs i (replicate h.store.words false)) h.store.words a ≡ false
  blank xs r a e = let (y, is) = row xs r in new_here h.store.words h.store.words xs i y a is (page_suc (a / h.store.words) e)

  other_bit : (xs : List (List Bool)) → AreRowsOf h.store xs → (a : ℕ) → a / h.store.words ≢ i + 1
      → bit_at (set xs i (replicate h.store.words false)) h.store.words a ≡ bit_at xs h.store.words a
  other_bit xs r a d = let (y, is) = row xs r in new_other h.store.words h.store.words xs i y a is (λ e. d (omega (arith, e)))

  -- there was no object on the page
  no_object : (a : ℕ) → a / h.store.words ≡ i + 1 → object_at h a ≡ None
  no_object a e = ap (λ y. object_in h.config.layouts (bit_at h.starts h.store.words a) y (a % h.store.words))
      (ap (words_at h.store) e ∙ no_words) ∙ by_bit (bit_at h.starts h.store.words a)
    where
      by_bit : (b : Bool) → object_in h.config.layouts b None (a % h.store.words) ≡ None
      by_bit true = refl
      by_bit false = refl

  pub opened_objects : (a : ℕ) → object_at after a ≡ object_at h a
  unfolding open_fresh
  opened_objects a = by_page (cases_eq (a / h.store.words) (i + 1))
    where
      unset : (y : Option (List ℕ)) → object_in h.config.layouts false y (a % h.store.words) ≡ None
      unset None = refl
      unset (Some y) = refl

      by_page : (a / h.store.words ≡ i + 1) ⊎ (a / h.store.words ≢ i + 1) → object_at after a ≡ object_at h a
      by_page (inl e) =
          ap (λ b. object_in h.config.layouts b (words_at after.store (a / h.store.words)) (a % h.store.words))
          (blank h.starts l.starts a e) ∙ unset (words_at after.store (a / h.store.words)) ∙ sym (no_object a e)
      by_page (inr d) = ap₂ (λ b y. object_in h.config.layouts b y (a % h.store.words))
          (other_bit h.starts l.starts a d) (words_other (a / h.store.words) d)

  -- a bitmap that has no bit on the page stays
  stays : (xs : List (List Bool))
      → AreRowsOf h.store xs → ((a : ℕ) → a / h.store.words ≡ i + 1 → bit_at xs h.store.words a ≡ false) → (a : ℕ)
      → bit_at (set xs i (replicate h.store.words false)) h.store.words a ≡ bit_at xs h.store.words a
  stays xs r none a = by_page (cases_eq (a / h.store.words) (i + 1))
    where
      by_page : (a / h.store.words ≡ i + 1) ⊎ (a / h.store.words ≢ i + 1)
          → bit_at (set xs i (replicate h.store.words false)) h.store.words a ≡ bit_at xs h.store.words a
      by_page (inl e) = blank xs r a e ∙ sym (none a e)
      by_page (inr d) = other_bit xs r a d

  unmarked : (a : ℕ) → a / h.store.words ≡ i + 1 → bit_at h.mark h.store.words a ≡ false
  unmarked a e = by_bit (bit_at h.mark h.store.words a) refl
    where
      by_bit : (b : Bool) → bit_at h.mark h.store.words a ≡ b → b ≡ false
      by_bit false g = refl
      by_bit true g = let (q, is) = m.object a g in absurd (none-some _ (sym (no_object a e) ∙ is))

  not_todo : (a : ℕ) → a / h.store.words ≡ i + 1 → bit_at h.todo h.store.words a ≡ false
  not_todo a e = by_bit (bit_at h.todo h.store.words a) refl
    where
      by_bit : (b : Bool) → bit_at h.todo h.store.words a ≡ b → b ≡ false
      by_bit false g = refl
      by_bit true g = sym (m.todo a g) ∙ unmarked a e

  not_live : (a : ℕ) → a / h.store.words ≡ i + 1 → bit_at h.live h.store.words a ≡ false
  not_live a e = l.unused a (ap (state_at h.store) e ∙ state)

  pub page_states : (n : ℕ) → state_at after.store n ≡ cond (nat_eq n (i + 1)) Open (state_at h.store n)
  unfolding state_at
  page_states n = ap state_in (pages n) ∙ by_test (nat_eq n (i + 1))
    where
      by_test : (b : Bool) → state_in (cond b (Some (fresh_page f)) (page_at h.store n))
          ≡ cond b Open (state_in (page_at h.store n))
      by_test true = refl
      by_test false = refl

  states : (a : ℕ)
      → state_at after.store (a / h.store.words) ≡ cond (on_page h i a) Open (state_at h.store (a / h.store.words))
  states a = page_states (a / h.store.words)

  -- the address-level model has the page open
  pub opened_world : world_of after ≡ open_page (on_page h i) (world_of h)
  unfolding open_fresh register_of
  opened_world = λ z. record (world_of h) {
    page_state = fun_ext states z;
    object_at = fun_ext opened_objects z;
    live = fun_ext (stays h.live l.live not_live) z;
    marked = fun_ext (stays h.mark l.mark unmarked) z;
    todo = fun_ext (stays h.todo l.todo not_todo) z;
  }

  -- it was unused
  pub was_unused : (a : ℕ) → on_page h i a ≡ true → (world_of h).page_state a ≡ Unused
  was_unused a e = ap (state_at h.store) (eqb-true (a / h.store.words) (i + 1) e) ∙ state

  sizes : (a : ℕ) → size_at after a ≡ size_at h a
  sizes a = ap (option_map object_size) (opened_objects a)

  ends : (n : ℕ)
      → extent after (OfEnd n) ≡ end_extent h.store.words n (put (page_at h.store) (i + 1) (Some (fresh_page f)) n)
  unfolding open_fresh
  ends n = ap (end_extent h.store.words n) (pages n)

  -- a claim of before, or the words of the page
  pub old_or_new : (c : Claim) → (c ≡ OfEnd (i + 1)) ⊎ (extent after c ≡ extent h c)
  unfolding open_fresh
  old_or_new (OfObject a) = inr (ap (option_map (sized_extent a)) (sizes a))
  old_or_new (OfBuffer u) = inr refl
  old_or_new (OfPlan a) = inr (ap (planned_extent ((world_of h).side_entry a)) (sizes a))
  old_or_new (OfEnd n) = go (cases_eq n (i + 1))
    where
      go : (n ≡ i + 1) ⊎ (n ≢ i + 1) → (OfEnd n ≡ OfEnd (i + 1)) ⊎ (extent after (OfEnd n) ≡ extent h (OfEnd n))
      go (inl e) = inl (ap OfEnd e)
      go (inr d) = inr
          (ends n ∙ ap (end_extent h.store.words n) (put_other (page_at h.store) (i + 1) (Some (fresh_page f)) n d))

  new_extent : (y : Extent) → extent after (OfEnd (i + 1)) ≡ Some y
      → (y.from ≡ (i + 1) * h.store.words + 0) × (y.upto ≡ (i + 1) * h.store.words + h.store.words)
  new_extent y e =
      let is : Some (record { from = (i + 1) * h.store.words + 0; upto = (i + 1) * h.store.words + h.store.words })
      ≡ Some y =
      sym (ends (i + 1)
      ∙ ap (end_extent h.store.words (i + 1)) (put_same (page_at h.store) (i + 1) (Some (fresh_page f)))) ∙ e in
      (sym (ap (λ (z : Extent). z.from) (same_Some _ _ is)), sym (ap (λ (z : Extent). z.upto) (same_Some _ _ is)))

  -- an extent on another page is apart from the words of this one
  other_page : (n : ℕ) → n ≢ i + 1 → (x : Extent)
      → n * h.store.words ≤ x.from → x.upto ≤ n * h.store.words + h.store.words
      → (x.upto ≤ (i + 1) * h.store.words) ⊎ ((i + 1) * h.store.words + h.store.words ≤ x.from)
  other_page n d x low high = by_order (less n (i + 1) d)
    where
      less : (a b : ℕ) → a ≢ b → (a < b) ⊎ (b < a)
      less a b d = grind arith

      by_order : (n < i + 1) ⊎ (i + 1 < n)
          → (x.upto ≤ (i + 1) * h.store.words) ⊎ ((i + 1) * h.store.words + h.store.words ≤ x.from)
      by_order (inl e) = inl (omega (arith, high, mul_less n (i + 1) h.store.words e))
      by_order (inr e) = inr (omega (arith, low, mul_less (i + 1) n h.store.words e))

  far : (c : Claim) (x y : Extent) → extent h c ≡ Some x
      → (y.from ≡ (i + 1) * h.store.words + 0) × (y.upto ≡ (i + 1) * h.store.words + h.store.words)
      → (x.upto ≤ y.from) ⊎ (y.upto ≤ x.from)
  far c x y e g =
      let z = claim_lies h s k l o c x e in
      let elsewhere : z.page ≢ i + 1 =
      λ q. false≢true (sym (ap (λ n. has_memory (state_at h.store n)) q ∙ ap has_memory state) ∙ z.memory) in
      elim (other_page z.page elsewhere x z.from z.upto) [
        | inl q ↦ inl (omega (arith, q, g.0))
        | inr q ↦ inr (omega (arith, q, g.1))
      ]

  apart : Apart (extent after)
  apart c d x y e g = go (old_or_new c) (old_or_new d)
    where
      go : (c ≡ OfEnd (i + 1)) ⊎ (extent after c ≡ extent h c) → (d ≡ OfEnd (i + 1)) ⊎ (extent after d ≡ extent h d)
          → (c ≡ d) ⊎ AreApart x y
      go (inl a) (inl b) = inl (a ∙ sym b)
      go (inl a) (inr b) = elim (far d y x (sym b ∙ g) (new_extent x (ap (extent after) (sym a) ∙ e))) [
        | inl q ↦ inr (inr q)
        | inr q ↦ inr (inl q)
      ]
      go (inr a) (inl b) = elim (far c x y (sym a ∙ e) (new_extent y (ap (extent after) (sym b) ∙ g))) [
        | inl q ↦ inr (inl q)
        | inr q ↦ inr (inr q)
      ]
      go (inr a) (inr b) = l.apart c d x y (sym a ∙ e) (sym b ∙ g)

  rows : (xs : List (List Bool)) → AreRowsOf h.store xs
      → AreRowsOf (open_fresh h.store i f) (set xs i (replicate h.store.words false))
  rows xs r = lengths_set xs i (replicate h.store.words false)
      ∙ ap (set (map length xs) i) (length-replicate h.store.words false)
      ∙ ap (λ ns. set ns i h.store.words) r ∙ sym (opened_rows h.store i f)

  -- memory is in order
  pub opened_laid : IsLaid after
  unfolding open_fresh
  opened_laid = record {
    starts = rows h.starts l.starts;
    live = rows h.live l.live;
    mark = rows h.mark l.mark;
    todo = rows h.todo l.todo;
    sides = record { pages = l.sides.pages ∙ sym (length-set h.store.pages i (fresh_page f)); rising = l.sides.rising };
    registers = l.registers;
    objects = objects;
    apart = apart;
    planned = λ a n q e g. l.planned a n q e (sym (opened_objects a) ∙ g);
    live_objects = live;
    unused = λ a e. stays h.live l.live not_live a ∙ by_page a (cases_eq (a / h.store.words) (i + 1)) e;
  }
    where
      old_state : (a : ℕ) → a / h.store.words ≢ i + 1
          → state_at after.store (a / h.store.words) ≡ state_at h.store (a / h.store.words)
      old_state a d = states a
          ∙ ap (λ b. cond b Open (state_at h.store (a / h.store.words))) (ne_eqb (a / h.store.words) (i + 1) d)

      new_state : (a : ℕ) → a / h.store.words ≡ i + 1 → state_at after.store (a / h.store.words) ≡ Open
      new_state a e = states a
          ∙ ap (λ b. cond b Open (state_at h.store (a / h.store.words))) (eq-eqb (a / h.store.words) (i + 1) e)

      by_page : (a : ℕ) → (a / h.store.words ≡ i + 1) ⊎ (a / h.store.words ≢ i + 1)
          → state_at after.store (a / h.store.words) ≡ Unused → bit_at h.live h.store.words a ≡ false
      by_page a (inl e) g = absurd (no (sym (new_state a e) ∙ g))
        where
          no : Open ≡ Unused → ⊥
          no z = cc
      by_page a (inr d) g = l.unused a (sym (old_state a d) ∙ g)

      live : (a : ℕ) → bit_at (set h.live i (replicate h.store.words false)) h.store.words a ≡ true
          → has_memory (state_at after.store (a / h.store.words)) ≡ true
          → (q : HeapObject) × (object_at after a ≡ Some q)
      live a e g = go (cases_eq (a / h.store.words) (i + 1))
        where
          go : (a / h.store.words ≡ i + 1) ⊎ (a / h.store.words ≢ i + 1)
              → (q : HeapObject) × (object_at after a ≡ Some q)
          go (inl z) = absurd (false≢true (sym (blank h.live l.live a z) ∙ e))
          go (inr d) = let (q, is) =
              l.live_objects a (sym (other_bit h.live l.live a d) ∙ e) (ap has_memory (sym (old_state a d)) ∙ g) in
              (q, opened_objects a ∙ is)

      objects : (a : ℕ) → bit_at (set h.starts i (replicate h.store.words false)) h.store.words a ≡ true
          → has_memory (state_at after.store (a / h.store.words)) ≡ true
          → (q : HeapObject) × (object_at after a ≡ Some q)
      objects a e g = go (cases_eq (a / h.store.words) (i + 1))
        where
          go : (a / h.store.words ≡ i + 1) ⊎ (a / h.store.words ≢ i + 1)
              → (q : HeapObject) × (object_at after a ≡ Some q)
          go (inl z) = absurd (false≢true (sym (blank h.starts l.starts a z) ∙ e))
          go (inr d) = let (q, is) =
              l.objects a (sym (other_bit h.starts l.starts a d) ∙ e) (ap has_memory (sym (old_state a d)) ∙ g) in
              (q, opened_objects a ∙ is)

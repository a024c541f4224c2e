-- The birth of an object that is made in a buffer.
use Rattle.std.proofs.Common.{◌≡◌, ◌≢◌, ◌⊎◌, inl, inr, ℕ, suc, ◌+◌, ◌-◌, ◌*◌, ◌/◌, ◌%◌, ◌^◌, ◌<◌, ◌≤◌, Bool, true}
use Rattle.std.proofs.Common.{List, length, Option, Some, None, refl, sym, ◌∙◌, ap, ap₂, subst, arith, div-add-mod'}
use Rattle.std.proofs.Common.{replicate}
use Rattle.std.specs.List.{slice_get}
use Rattle.std.specs.Option.{option_map}
use Rattle.std.proofs.Math.ListN.{length-set, length-replicate}
use Rattle.std.proofs.lemmas.Nat.{div-mul-add, mod-mul-add}
use Rattle.std.proofs.lemmas.Option.{slice_get_within, same_Some}
use Rattle.std.proofs.lemmas.Bool.{cases_eq}
use mathlib.Core.Path.{fun_ext}
use Rattle.layout.specs.declared.shape.Layout.{Layout}
use Rattle.layout.specs.Objects.{size_of}
use Rattle.model.specs.declared.records.Page.{Page}
use Rattle.model.specs.declared.records.PageState.TheVariants.{Open}
use Rattle.model.specs.declared.records.Buffer.{Buffer}
use Rattle.model.specs.Phases.{is_marking, is_mark_crossing}
use Rattle.model.specs.Stores.{words_at, with_words, state_at, state_in, page_at, has_memory, is_open, overlay}
use Rattle.model.specs.Owning.{IsStore, LiesIn}
use Rattle.model.specs.States.{HeapState, ThreadState, change_at}
use Rattle.model.specs.Threads.{buffer_in, has_crossed, is_parked_in}
use Rattle.model.specs.Registers.{register_of}
use Rattle.model.specs.Bits.{put_bit}
use Rattle.model.specs.Births.{fresh_object, place_object, hand_object, used_buffer}
use Rattle.model.proofs.Lists.{get_within, each_changed}
use Rattle.model.proofs.Memory.{open_state, words_sized, memory_words, page_there, page_used, length_overlaid, frames_stay}
use Rattle.page.proofs.Lying.{buffer_address}
use Rattle.laws.specs.AddressHeap.{HeapObject, Word, Null, SideEntry, NoEntry, Planned, Copied, put}
use Rattle.laws.specs.Invariant.{SoundObjects}
use Rattle.laws.specs.Edits.{add_object}
use Rattle.laws.proofs.Basics.{put_after, put_same, put_other}
use Rattle.model.specs.Bits.{bit_at}
use Rattle.refinement.specs.Worlds.{world_of, object_at, barrier_in}
use Rattle.model.specs.Holding.{AreRowsOf}
use Rattle.refinement.specs.Claims.{IsLaid, AreApart, Claim, OfObject, OfBuffer, OfPlan, OfEnd, Extent}
use Rattle.refinement.specs.Claims.{extent, object_size, size_at, sized_extent, planned_extent, buffer_extent}
use Rattle.refinement.specs.Roots.{HoldsWords}
use Rattle.refinement.proofs.Slices.{Agree, overlaid_before, overlaid_behind}
use Rattle.refinement.proofs.ObjectWords.{IsRead, read_fits, read_fresh, new_object}
use Rattle.refinement.proofs.Objects.{Rewrites, there, rewritten}
use Rattle.refinement.proofs.Claims.{object_extent, Splits, split_apart}
use Rattle.model.proofs.Tables.{length_changed, rows_many, rows_put, row_used}
use Rattle.refinement.proofs.Changes.{read_changed, kept_of, bit_put}
use Rattle.refinement.proofs.Carrying.{Carries, alike}
use Rattle.refinement.proofs.Rooted.{handed_holds_words}
use Rattle.refinement.proofs.Changes.{register_changed}

-- a buffer's page is open
pub open_at : (h : HeapState) (b : Buffer) → LiesIn h.store b → b.next < h.store.words
    → (world_of h).page_state (b.page * h.store.words + b.next) ≡ Open
unfolding state_at
open_at h b lies low = ap (state_at h.store) (div-mul-add b.page h.store.words b.next low)
    ∙ open_state (state_in (page_at h.store b.page)) lies.page

-- the conditions under which an object is made in a buffer
pub record MayPlace (h : HeapState) (t target number : ℕ) (shape : Layout) (b : Buffer) (x : ThreadState) : Type 0 where
  pub thread : slice_get h.threads t ≡ Some x
  pub buffer : x.buffer ≡ Some b
  pub lies : LiesIn h.store b
  pub register : target < length x.registers
  pub known : slice_get h.config.layouts number ≡ Some shape
  pub room : size_of shape ≤ b.end - b.next
  pub births : h.births < 2 ^ 56
  pub few : number < 2 ^ 8
  pub unplanned : (m : ℕ) → (world_of h).side_entry (b.page * h.store.words + b.next) ≢ Planned m

module _ {h : HeapState} (s : IsStore h.store) (l : IsLaid h) {t target number : ℕ} {shape : Layout} {b : Buffer}
    {x : ThreadState} (m : MayPlace h t target number shape b x) where
  -- the address of the new object
  abbrev pub address : ℕ
  address = b.page * h.store.words + b.next

  -- the heap with it
  abbrev pub after : HeapState
  after = place_object h t target number shape b

  -- the object
  abbrev pub fresh : HeapObject
  fresh = new_object h.births number shape

  next_in : b.next < h.store.words
  next_in = omega (arith, m.room, m.lies.end)

  pub address_page : address / h.store.words ≡ b.page
  address_page = div-mul-add b.page h.store.words b.next next_in

  pub address_offset : address % h.store.words ≡ b.next
  address_offset = mod-mul-add b.page h.store.words b.next next_in

  pub page_open : state_at h.store b.page ≡ Open
  unfolding state_at
  page_open = open_state (state_in (page_at h.store b.page)) m.lies.page

  memory : has_memory (state_at h.store b.page) ≡ true
  memory = ap has_memory page_open

  ws : (ws : List ℕ) × (words_at h.store b.page ≡ Some ws)
  ws = memory_words h.store b.page s memory

  size : length ws.0 ≡ h.store.words
  size = words_sized h.store b.page ws.0 s ws.1

  -- the page has a record
  record_there : (p : Page) × (b.page ≡ b.page - 1 + 1) × (slice_get h.store.pages (b.page - 1) ≡ Some p)
  record_there = by_page (page_at h.store b.page) refl m.lies.page
    where
      by_page : (o : Option Page) → page_at h.store b.page ≡ o → is_open (state_in o) ≡ true
          → (p : Page) × (b.page ≡ b.page - 1 + 1) × (slice_get h.store.pages (b.page - 1) ≡ Some p)
      by_page None e k = absurd (cc)
      by_page (Some p) e k = let (f, g) = page_there h.store b.page p e in (p, f, g)

  page_is : address / h.store.words ≡ suc (b.page - 1)
  page_is = omega (arith, address_page, record_there.1)

  row : (rows : List (List Bool)) → AreRowsOf h.store rows
      → (r : List Bool) × (slice_get rows (b.page - 1) ≡ Some r) × (b.next < length r)
  row rows r =
      let within = slice_get_within h.store.pages (b.page - 1) record_there.0 record_there.2 in
      let (y, e) = get_within rows (b.page - 1) (omega (arith, within, rows_many h.store rows r)) in
      let (p, at, used) = page_used h.store b.page ws.0 s ws.1 in
      (y, e, omega (arith, next_in, row_used h.store rows (b.page - 1) p y r at used e))

  put_at_address : (rows : List (List Bool)) → AreRowsOf h.store rows → (bit : Bool) (y : ℕ) → bit_at
      (change_at rows (b.page - 1) (put_bit b.next bit)) h.store.words y ≡ put (bit_at rows h.store.words) address bit y
  put_at_address rows r bit y =
      let (z, e, k) = row rows r in
      subst (λ o. bit_at (change_at rows (b.page - 1) (put_bit o bit)) h.store.words y
      ≡ put (bit_at rows h.store.words) address bit y) address_offset
      (bit_put h.store.words rows (b.page - 1) address bit z page_is e (omega (arith, k, address_offset)) y)

  buffer_had : extent h (OfBuffer t) ≡ Some (buffer_extent h.store.words b)
  buffer_had = ap (λ o. option_map (buffer_extent h.store.words) (buffer_in o)) m.thread
      ∙ ap (option_map (buffer_extent h.store.words)) m.buffer

  -- the extent of another claim is apart from the buffer
  clear : (c : Claim) (y : Extent) → c ≢ OfBuffer t → extent h c ≡ Some y → AreApart y (buffer_extent h.store.words b)
  clear c y d e =
      elim (l.apart c (OfBuffer t) y (buffer_extent h.store.words b) e buffer_had) [ inl k ↦ absurd (d k) | inr k ↦ k ]

  -- no object is there yet
  pub place_free : object_at h address ≡ None
  place_free = by_object (object_at h address) refl
    where
      by_object : (o : Option HeapObject) → object_at h address ≡ o → o ≡ None
      by_object None e = refl
      by_object (Some q) e = absurd (elim (clear (OfObject address) _ (λ k. cc) (object_extent h address q e)) [
        | inl k ↦ omega (arith, k)
        | inr k ↦ omega (arith, k, m.room)
      ])

  -- no object will be copied there
  pub unplanned_place : SoundObjects (world_of h) → (y : ℕ) → (world_of h).side_entry y ≢ Planned address
  unplanned_place o y e =
      let (q, is) = o.planned_object y address e in
      let had : extent h (OfPlan y) ≡ Some (sized_extent address (object_size q)) =
      ap₂ planned_extent e (ap (option_map object_size) is) in
      elim (clear (OfPlan y) _ (λ k. cc) had) [
        | inl k ↦ absurd (omega (arith, k))
        | inr k ↦ absurd (omega (arith, k, m.room))
      ]

  abbrev change : List ℕ → List ℕ
  change words = overlay words b.next (fresh_object h.births number shape)

  long : length (fresh_object h.births number shape) ≡ size_of shape
  long = omega (arith, one (length zeros), length-replicate {A = ℕ} (shape.refs + shape.nums) 0)
    where
      zeros : List ℕ
      zeros = replicate (shape.refs + shape.nums) 0

      one : (n : ℕ) → suc n ≡ 1 + n
      one n = omega arith

  fits : b.next + length (fresh_object h.births number shape) ≤ length ws.0
  fits = omega (arith, long, size, m.room, m.lies.end, m.lies.order)

  read : IsRead h.config.layouts (change ws.0) (address % h.store.words) fresh
  read = subst (λ o. IsRead h.config.layouts (change ws.0) o fresh) (sym address_offset)
      (read_fresh h.config.layouts ws.0 b.next h.births number shape m.known m.births m.few (omega (arith, long, fits)))

  agree : (y : ℕ) (o : HeapObject) → y ≢ address → y / h.store.words ≡ b.page → object_at h y ≡ Some o
      → Agree (change ws.0) ws.0 (y % h.store.words) (y % h.store.words + object_size o)
  agree y o d p e = go (clear (OfObject y) _ (λ k. cc) (object_extent h y o e))
    where
      base : y / h.store.words * h.store.words ≡ b.page * h.store.words
      base = ap (λ n. n * h.store.words) p

      end : y % h.store.words + object_size o ≤ length ws.0
      end =
          let r = there h y o e in
          let same : r.words ≡ ws.0 = same_Some _ _ (sym r.page ∙ ap (words_at h.store) p ∙ ws.1) in
          subst (λ v. y % h.store.words + object_size o ≤ length v) same
          (read_fits h.config.layouts r.words (y % h.store.words) o r.read)

      go : AreApart (record { from = y; upto = y + object_size o }) (buffer_extent h.store.words b)
          → Agree (change ws.0) ws.0 (y % h.store.words) (y % h.store.words + object_size o)
      go (inl k) i low high = overlaid_before ws.0 (fresh_object h.births number shape) b.next i fits
          (omega (arith, k, base, div-add-mod' y h.store.words, high))
      go (inr k) i low high = overlaid_behind ws.0 (fresh_object h.births number shape) b.next i fits
          (omega (arith, k, base, div-add-mod' y h.store.words, low, long, m.room)) (omega (arith, high, end))

  abbrev starts : List (List Bool)
  starts = change_at h.starts (b.page - 1) (put_bit b.next true)

  rewrites : Rewrites h starts b.page address change fresh
  rewrites = record {
    words = ws.0;
    before = ws.1;
    sized = length_overlaid ws.0 b.next (fresh_object h.births number shape);
    on_page = address_page;
    bit = put_at_address h.starts l.starts true address ∙ put_same (bit_at h.starts h.store.words) address true;
    read = read;
    bits = λ y d. put_at_address h.starts l.starts true y ∙ put_other (bit_at h.starts h.store.words) address true y d;
    known = λ y p k. l.objects y k (ap (λ n. has_memory (state_at h.store n)) p ∙ memory);
    apart = agree;
  }

  pub born_objects : (y : ℕ) → object_at after y ≡ put (object_at h) address (Some fresh) y
  unfolding place_object with_words
  born_objects y = rewritten h starts b.page address change fresh s rewrites y

  -- the address-level model has one more birth
  born_world : world_of after ≡ add_object address fresh t target (world_of h)
  unfolding place_object with_words state_at page_at register_of
  born_world = λ z. record (world_of h) {
    object_at = fun_ext born_objects z;
    births = one h.births z;
    register = fun_ext (λ u. fun_ext (register_changed h.threads t target (Some (address, h.nmt))
        (hand_object target (Some (address, h.nmt)) (used_buffer b (size_of shape))) x m.thread m.register refl u)) z;
    marked = fun_ext (put_at_address h.mark l.mark (is_marking h.phase)) z;
    todo = fun_ext (put_at_address h.todo l.todo (is_mark_crossing h.phase)) z;
    crossed = fun_ext (kept_of has_crossed h.threads t
        (hand_object target (Some (address, h.nmt)) (used_buffer b (size_of shape))) (λ y. refl)) z;
    parked = fun_ext (kept_of is_parked_in h.threads t
        (hand_object target (Some (address, h.nmt)) (used_buffer b (size_of shape))) (λ y. refl)) z;
    barrier = fun_ext (kept_of barrier_in h.threads t
        (hand_object target (Some (address, h.nmt)) (used_buffer b (size_of shape))) (λ y. refl)) z;
  }
    where
      one : (n : ℕ) → n + 1 ≡ suc n
      one n = omega arith

  -- the rest of the buffer
  abbrev rest : Buffer
  rest = used_buffer b (size_of shape)

  fresh_size : object_size fresh ≡ size_of shape
  fresh_size = omega (arith, length-replicate {A = Word} shape.refs Null, length-replicate {A = ℕ} shape.nums 0)

  sizes_other : (y : ℕ) → y ≢ address → size_at after y ≡ size_at h y
  sizes_other y d = ap (option_map object_size) (born_objects y ∙ put_other (object_at h) address (Some fresh) y d)

  size_here : size_at after address ≡ Some (size_of shape)
  size_here = ap (option_map object_size) (born_objects address ∙ put_same (object_at h) address (Some fresh))
      ∙ ap Some fresh_size

  buffers : (u : ℕ)
      → extent after (OfBuffer u) ≡ put (λ v. extent h (OfBuffer v)) t (Some (buffer_extent h.store.words rest)) u
  unfolding place_object with_words
  buffers u = read_changed (λ o. option_map (buffer_extent h.store.words) (buffer_in o)) h.threads t
      (hand_object target (Some (address, h.nmt)) rest) x (Some (buffer_extent h.store.words rest)) m.thread refl u

  plan_of : SideEntry → Option ℕ → Option Extent
  plan_of = planned_extent

  unplanned_extent : (e : SideEntry) (o p : Option ℕ) → ((n : ℕ) → e ≢ Planned n)
      → planned_extent e o ≡ planned_extent e p
  unplanned_extent NoEntry o p d = refl
  unplanned_extent (Copied n) o p d = refl
  unplanned_extent (Planned n) o p d = absurd (d n refl)

  others : (c : Claim) → (c ≡ OfBuffer t) ⊎ (c ≡ OfObject address) ⊎ (extent after c ≡ extent h c)
  unfolding place_object with_words page_at
  others (OfObject y) = go (cases_eq y address)
    where
      go : (y ≡ address) ⊎ (y ≢ address) → (OfObject y ≡ OfBuffer t) ⊎ (OfObject y ≡ OfObject address)
          ⊎ (extent after (OfObject y) ≡ extent h (OfObject y))
      go (inl k) = inr (inl (ap OfObject k))
      go (inr k) = inr (inr (ap (option_map (sized_extent y)) (sizes_other y k)))
  others (OfBuffer u) = go (cases_eq u t)
    where
      go : (u ≡ t) ⊎ (u ≢ t) → (OfBuffer u ≡ OfBuffer t) ⊎ (OfBuffer u ≡ OfObject address)
          ⊎ (extent after (OfBuffer u) ≡ extent h (OfBuffer u))
      go (inl k) = inl (ap OfBuffer k)
      go (inr k) = inr
          (inr (buffers u ∙ put_other (λ v. extent h (OfBuffer v)) t (Some (buffer_extent h.store.words rest)) u k))
  others (OfPlan y) = go (cases_eq y address)
    where
      go : (y ≡ address) ⊎ (y ≢ address)
          → (OfPlan y ≡ OfBuffer t) ⊎ (OfPlan y ≡ OfObject address) ⊎ (extent after (OfPlan y) ≡ extent h (OfPlan y))
      go (inl k) = inr (inr (unplanned_extent ((world_of h).side_entry y) (size_at after y) (size_at h y)
          (λ n e. m.unplanned n (ap (world_of h).side_entry (sym k) ∙ e))))
      go (inr k) = inr (inr (ap (planned_extent ((world_of h).side_entry y)) (sizes_other y k)))
  others (OfEnd n) = inr (inr refl)

  splits : Splits (extent h) (extent after) (OfBuffer t) (OfObject address)
  splits = record {
    whole = buffer_extent h.store.words b;
    had = buffer_had;
    new = ap (λ o. option_map (sized_extent address) (option_map object_size o)) place_free;
    rest = λ y e. let k = left y e in record { from = omega (arith, k.0, m.room); upto = omega (arith, k.1) };
    part = λ y e. let k = part y e in
        record { from = omega (arith, k.0); upto = omega (arith, k.1, m.room, m.lies.order) };
    apart = λ y z e f. inr (let k = left y e in let g = part z f in omega (arith, k.0, g.1));
    others = others;
  }
    where
      left : (y : Extent) → extent after (OfBuffer t) ≡ Some y
          → (y.from ≡ b.page * h.store.words + (b.next + size_of shape)) × (y.upto ≡ b.page * h.store.words + b.end)
      left y e =
          let k : buffer_extent h.store.words rest ≡ y = same_Some _ _ (sym
          (buffers t ∙ put_same (λ v. extent h (OfBuffer v)) t (Some (buffer_extent h.store.words rest))) ∙ e) in
          (sym (ap (λ (z : Extent). z.from) k), sym (ap (λ (z : Extent). z.upto) k))

      part : (y : Extent) → extent after (OfObject address) ≡ Some y
          → (y.from ≡ address) × (y.upto ≡ address + size_of shape)
      part y e =
          let k : sized_extent address (size_of shape) ≡ y =
          same_Some _ _ (sym (ap (option_map (sized_extent address)) size_here) ∙ e) in
          (sym (ap (λ (z : Extent). z.from) k), sym (ap (λ (z : Extent). z.upto) k))

  objects : (y : ℕ) → bit_at starts h.store.words y ≡ true → has_memory (state_at h.store (y / h.store.words)) ≡ true
      → (o : HeapObject) × (object_at after y ≡ Some o)
  objects y e k = go (cases_eq y address)
    where
      go : (y ≡ address) ⊎ (y ≢ address) → (o : HeapObject) × (object_at after y ≡ Some o)
      go (inl d) = (
        fresh,
        born_objects y ∙ ap (put (object_at h) address (Some fresh)) d ∙ put_same (object_at h) address (Some fresh),
      )
      go (inr d) =
          let (o, is) = l.objects y (sym (put_at_address h.starts l.starts true y
          ∙ put_other (bit_at h.starts h.store.words) address true y d) ∙ e) k in
          (o, born_objects y ∙ put_other (object_at h) address (Some fresh) y d ∙ is)

  -- an object that was there stays
  stays : (y : ℕ) (o : HeapObject) → object_at h y ≡ Some o → (q : HeapObject) × (object_at after y ≡ Some q)
  stays y o is = go (cases_eq y address)
    where
      go : (y ≡ address) ⊎ (y ≢ address) → (q : HeapObject) × (object_at after y ≡ Some q)
      go (inl e) = (
        fresh,
        born_objects y ∙ ap (put (object_at h) address (Some fresh)) e ∙ put_same (object_at h) address (Some fresh),
      )
      go (inr e) = (o, born_objects y ∙ put_other (object_at h) address (Some fresh) y e ∙ is)

  planned : (y n : ℕ) (o : HeapObject) → (world_of h).side_entry y ≡ Planned n
      → put (object_at h) address (Some fresh) y ≡ Some o → n % h.store.words + object_size o ≤ h.store.words
  planned y n o k f = go (put_after (object_at h) address (Some fresh) y (Some o) f)
    where
      go : ((y ≡ address) × (Some fresh ≡ Some o)) ⊎ ((y ≢ address) × (object_at h y ≡ Some o))
          → n % h.store.words + object_size o ≤ h.store.words
      go (inl d) = absurd (m.unplanned n (ap (world_of h).side_entry (sym d.0) ∙ k))
      go (inr d) = l.planned y n o k d.1

  -- memory is in order
  born_laid : IsLaid after
  unfolding place_object with_words state_at page_at register_of
  born_laid = record {
    starts = rows h.starts l.starts true;
    live = l.live;
    mark = rows h.mark l.mark (is_marking h.phase);
    todo = rows h.todo l.todo (is_mark_crossing h.phase);
    sides = record { pages = l.sides.pages; rising = l.sides.rising };
    registers = each_changed (λ y. length y.registers ≡ h.config.registers) h.threads t
        (hand_object target (Some (address, h.nmt)) rest) l.registers
        (λ y e. length-set y.registers target (Some (address, h.nmt)) ∙ e);
    objects = objects;
    apart = split_apart (extent h) (extent after) l.apart (OfBuffer t) (OfObject address) splits;
    planned = λ y n o k f. planned y n o k (sym (born_objects y) ∙ f);
    live_objects = λ y e m. (let (o, is) = l.live_objects y e m in stays y o is);
    unused = l.unused;
  }
    where
      rows : (xs : List (List Bool)) → AreRowsOf h.store xs → (bit : Bool)
          → AreRowsOf after.store (change_at xs (b.page - 1) (put_bit b.next bit))
      rows xs r bit = rows_put h.store xs (b.page - 1) b.next bit r

  pub born_carries : Carries h after (add_object address fresh t target)
  unfolding place_object with_words
  born_carries = record {
    size = alike h after refl refl (frames_stay h.store _ _) refl
        (length_changed h.threads t (hand_object target (Some (address, h.nmt)) rest)) refl refl;
    laid = λ z. born_laid;
    given = λ z. z;
    words = λ w. record {
      threads = each_changed (HoldsWords h.config.registers) h.threads t (hand_object target (Some
          (address, h.nmt)) rest)
          w.threads (λ y. handed_holds_words h.config.registers target (Some (address, h.nmt)) rest y
          (buffer_address h.store b s m.lies (omega (arith, m.room))));
      globals = w.globals;
    };
    world = born_world;
  }

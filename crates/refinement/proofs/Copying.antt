-- An object is copied to its planned place: the words there are read as it, and its entry is Copied.
use Rattle.std.proofs.Common.{◌≡◌, ◌≢◌, ◌⊎◌, inl, inr, ℕ, suc, ◌+◌, ◌-◌, ◌*◌, ◌/◌, ◌%◌, ◌<◌, ◌≤◌, Bool, true, false}
use Rattle.std.proofs.Common.{◌||◌, cond, nat_eq, List, [], ◌∷◌, length, map, Option, Some, None}
use Rattle.std.proofs.Common.{refl, sym, ◌∙◌, ap, ap₂, subst, arith, div-add-mod', ne_eqb}
use mathlib.Core.Path.{fun_ext}
use Rattle.std.specs.List.{slice_get}
use Rattle.std.specs.Option.{option_map}
use Rattle.std.proofs.lemmas.Bool.{cases_eq, eqb-true}
use Rattle.std.proofs.lemmas.Option.{same_Some}
use Rattle.layout.specs.declared.shape.Layout.{Layout}
use Rattle.model.specs.declared.records.Forwarding.{Forwarding}
use Rattle.model.specs.declared.records.PageState.TheVariants.{Open, From}
use Rattle.model.specs.Stores.{words_at, with_words, state_at, page_at, has_memory, overlay}
use Rattle.model.specs.Owning.{IsStore}
use Rattle.model.specs.Holding.{AreRising, AreRowsOf}
use Rattle.model.specs.States.{HeapState, change_at}
use Rattle.model.specs.Registers.{register_of}
use Rattle.model.specs.Bits.{of_page, bit_at, with_bit}
use Rattle.model.specs.Plans.{object_words}
use Rattle.model.specs.Moves.{with_copy, with_copied_words, words_from, set_copied_of}
use Rattle.model.proofs.Lists.{same_lists, get_within, each_changed}
use Rattle.model.proofs.Memory.{words_sized, memory_words, page_used, length_overlaid}
use Rattle.model.proofs.Tables.{length_changed, rows_many, rows_put, row_used}
use Rattle.laws.specs.AddressHeap.{HeapObject, SideEntry, NoEntry, Planned, Copied, put}
use Rattle.laws.specs.Invariant.{SoundObjects}
use Rattle.laws.specs.Edits.{copy_object}
use Rattle.laws.proofs.Basics.{put_all, put_after, put_same, put_other}
use Rattle.refinement.specs.Worlds.{world_of, object_at, entry_of, entry_at, run}
use Rattle.refinement.specs.Claims.{IsLaid, AreApart, Claim, OfObject, OfBuffer, OfPlan, OfEnd}
use Rattle.refinement.specs.Claims.{Extent, extent, object_size, size_at, sized_extent, planned_extent}
use Rattle.refinement.proofs.Slices.{Agree, get_run, length_run, overlaid_in, overlaid_before}
use Rattle.refinement.proofs.Slices.{overlaid_behind}
use Rattle.refinement.proofs.ObjectWords.{IsRead, read_fits, read_size, built}
use Rattle.refinement.proofs.Objects.{Rewrites, IsThere, there, rewritten}
use Rattle.refinement.proofs.Changes.{list_of, list_read, page_changed, bit_put, same_place}
use Rattle.refinement.proofs.Claims.{object_extent, Splits, split_apart, Within}
use Rattle.refinement.proofs.Marks.{record_there}
use Rattle.refinement.proofs.Planned as plans

-- runs that are equal at each index
run_moved : (vs ws : List ℕ) (a b n : ℕ) → a + n ≤ length vs → b + n ≤ length ws
    → ((i : ℕ) → i < n → slice_get vs (a + i) ≡ slice_get ws (b + i)) → run vs a n ≡ run ws b n
run_moved vs ws a b n h k same = same_lists (run vs a n) (run ws b n) (length_run vs a n h ∙ sym (length_run ws b n k))
    (λ i l. let m : i < n = omega (arith, l, length_run vs a n h) in
    get_run vs a n i m ∙ same i m ∙ sym (get_run ws b n i m))

-- an object that is copied reads the same at its new place
pub read_copied : (ls : List Layout) (ws vs : List ℕ) (o p : ℕ) (q : HeapObject) → IsRead ls ws o q
    → p + object_size q ≤ length vs
    → IsRead ls (overlay vs p (run ws o (object_size q))) p q
read_copied ls ws vs o p q r room =
    let n : ℕ = object_size q in
    let xs : List ℕ = run ws o n in
    let fits = read_fits ls ws o q r in
    let size = read_size ls ws o q r in
    let long : length xs ≡ n = length_run ws o n fits in
    let whole : length (overlay vs p xs) ≡ length vs = length_overlaid vs p xs in
    let at : (i : ℕ) → i < n → slice_get (overlay vs p xs) (p + i) ≡ slice_get ws (o + i) =
    λ i m. overlaid_in vs xs p i (omega (arith, long, room)) (omega (arith, long, m)) ∙ get_run ws o n i m in
    let refs : run (overlay vs p xs) (p + 1) r.shape.refs ≡ run ws (o + 1) r.shape.refs =
    run_moved (overlay vs p xs) ws (p + 1) (o + 1) r.shape.refs (omega (arith, whole, room, size))
    (omega (arith, r.fits))
    (λ i m. ap (slice_get (overlay vs p xs)) (omega arith) ∙ at (1 + i) (omega (arith, m, size))
    ∙ ap (slice_get ws) (omega arith)) in
    let nums : run (overlay vs p xs) (p + 1 + r.shape.refs) r.shape.nums ≡ run ws (o + 1 + r.shape.refs) r.shape.nums =
    run_moved (overlay vs p xs) ws (p + 1 + r.shape.refs) (o + 1 + r.shape.refs) r.shape.nums
    (omega (arith, whole, room, size)) (omega (arith, r.fits))
    (λ i m. ap (slice_get (overlay vs p xs)) (omega arith) ∙ at (1 + r.shape.refs + i) (omega (arith, m, size))
    ∙ ap (slice_get ws) (omega arith)) in
    record {
      header = r.header;
      shape = r.shape;
      at = ap (slice_get (overlay vs p xs)) (omega arith) ∙ at 0 (omega (arith, size)) ∙ ap (slice_get ws) (omega arith)
          ∙ r.at;
      known = r.known;
      fits = omega (arith, whole, room, size);
      is = r.is ∙ ap₂ (built r.header) (sym refs) (sym nums);
    }

-- forwarding tables

or_false : (b : Bool) → b || false ≡ b
or_false true = refl
or_false false = refl

or_true : (b : Bool) → b || true ≡ true
or_true true = refl
or_true false = refl

-- other entries stay
entry_other : (fs : List Forwarding) (x o : ℕ) → o ≢ x → entry_at (map (set_copied_of x) fs) o ≡ entry_at fs o
entry_other [] x o d = refl
entry_other (f ∷ fs) x o d = by_test (nat_eq f.offset o) refl (entry_other fs x o d)
  where
    by_test : (b : Bool) → nat_eq f.offset o ≡ b → entry_at (map (set_copied_of x) fs) o ≡ entry_at fs o
        → cond b (entry_of (f.copied || nat_eq f.offset x) f.to) (entry_at (map (set_copied_of x) fs) o)
        ≡ cond b (entry_of f.copied f.to) (entry_at fs o)
    by_test true e k = ap (λ c. entry_of (f.copied || c) f.to)
        (ne_eqb f.offset x (λ z. d (sym (eqb-true f.offset o e) ∙ z))) ∙ ap (λ c. entry_of c f.to) (or_false f.copied)
    by_test false e k = k

-- the entry of a planned object becomes Copied
entry_copied : (fs : List Forwarding) (x n : ℕ) → entry_at fs x ≡ Planned n
    → entry_at (map (set_copied_of x) fs) x ≡ Copied n
entry_copied [] x n e = absurd (cc)
entry_copied (f ∷ fs) x n e = by_test (nat_eq f.offset x) refl e (entry_copied fs x n)
  where
    by_copied : (b : Bool) → entry_of b f.to ≡ Planned n → Copied f.to ≡ Copied n
    by_copied false k = cc
    by_copied true k = absurd (cc)

    by_test : (b : Bool) → nat_eq f.offset x ≡ b
        → cond b (entry_of f.copied f.to) (entry_at fs x) ≡ Planned n
        → (entry_at fs x ≡ Planned n → entry_at (map (set_copied_of x) fs) x ≡ Copied n)
        → cond b (entry_of (f.copied || nat_eq f.offset x) f.to) (entry_at (map (set_copied_of x) fs) x) ≡ Copied n
    by_test true z k next = ap (λ c. entry_of (f.copied || c) f.to) z ∙ ap (λ c. entry_of c f.to) (or_true f.copied)
        ∙ by_copied f.copied k
    by_test false z k next = next k

rising_stays : (w low : ℕ) (x : ℕ) (fs : List Forwarding) → AreRising w low fs
    → AreRising w low (map (set_copied_of x) fs)
rising_stays w low x [] r = tt
rising_stays w low x (f ∷ fs) r = (r.0, r.1, rising_stays w (f.offset + 1) x fs r.2)

module _ (h : HeapState) (s : IsStore h.store) (l : IsLaid h) (o : SoundObjects (world_of h)) (a n : ℕ) (q : HeapObject)
    (e : object_at h a ≡ Some q) (plan : (world_of h).side_entry a ≡ Planned n) where
  w : ℕ
  w = h.store.words

  abbrev c : IsThere h a q
  c = there h a q e

  from : state_at h.store (a / h.store.words) ≡ From
  from = o.planned_from a n plan

  open_there : state_at h.store (n / h.store.words) ≡ Open
  open_there = o.planned_open a n plan

  apart_pages : a / h.store.words ≢ n / h.store.words
  apart_pages z = no (sym from ∙ ap (state_at h.store) z ∙ open_there)
    where
      no : From ≡ Open → ⊥
      no y = cc

  target : (ws : List ℕ) × (words_at h.store (n / h.store.words) ≡ Some ws)
  target = memory_words h.store (n / h.store.words) s (ap has_memory open_there)

  target_size : length target.0 ≡ h.store.words
  target_size = words_sized h.store (n / h.store.words) target.0 s target.1

  fits : n % h.store.words + object_size q ≤ h.store.words
  fits = l.planned a n q plan e

  -- the words that are copied
  abbrev copied : List ℕ
  copied = run c.words (a % h.store.words) (object_size q)

  abbrev change : List ℕ → List ℕ
  change ws = overlay ws (n % h.store.words) copied

  -- what the copy writes
  abbrev written : Bool → ℕ → Option (List ℕ) → List ℕ
  written b m ws = cond b [] (words_from (a % h.store.words) m ws)

  size_is : object_words h a ≡ object_size q
  size_is = plans.words_are h a q e

  words_are : written (nat_eq (a / h.store.words) (n / h.store.words)) (object_words h a)
      (words_at h.store (a / h.store.words)) ≡ copied
  words_are = ap (λ b. written b (object_words h a) (words_at h.store (a / h.store.words)))
      (ne_eqb (a / h.store.words) (n / h.store.words) apart_pages)
      ∙ ap₂ (λ m ws. written false m ws) size_is c.page

  store_is : with_copied_words h.store a n (object_words h a) ≡ with_words h.store (n / h.store.words) change
  unfolding with_copied_words
  store_is = ap (λ xs. with_words h.store (n / h.store.words) (λ ws. overlay ws (n % h.store.words) xs)) words_are

  abbrev starts : List (List Bool)
  starts = with_bit h.starts h.store.words n true

  put_start : (x : ℕ) → bit_at (with_bit h.starts h.store.words n true) h.store.words x
      ≡ put (bit_at h.starts h.store.words) n true x
  put_start x =
      let (page, low) = record_there h.store (n / h.store.words) target.0 target.1 in
      let (row, at) = get_within h.starts (n / h.store.words - 1) (omega (arith, low, rows_many h.store h.starts l.starts)) in
      let (p, found, used) = page_used h.store (n / h.store.words) target.0 s target.1 in
      let inside = read_size h.config.layouts c.words (a % h.store.words) q c.read in
      bit_put h.store.words h.starts (n / h.store.words - 1) n true row page at
      (omega (arith, fits, inside, row_used h.store h.starts (n / h.store.words - 1) p row l.starts found used at)) x

  place_free : object_at h n ≡ None
  place_free = o.planned_free a n plan

  plan_had : extent h (OfPlan a) ≡ Some (sized_extent n (object_size q))
  plan_had = ap₂ planned_extent plan (ap (option_map object_size) e)

  agree : (x : ℕ) (p : HeapObject) → x ≢ n → x / h.store.words ≡ n / h.store.words → object_at h x ≡ Some p
      → Agree (change target.0) target.0 (x % h.store.words) (x % h.store.words + object_size p)
  agree x p d page f =
      go (l.apart (OfObject x) (OfPlan a) _ _ (object_extent h x p f) plan_had)
    where
      base : x / h.store.words * h.store.words ≡ n / h.store.words * h.store.words
      base = ap (λ m. m * h.store.words) page

      long : length copied ≡ object_size q
      long = length_run c.words (a % h.store.words) (object_size q)
          (read_fits h.config.layouts c.words (a % h.store.words) q c.read)

      room : n % h.store.words + length copied ≤ length target.0
      room = omega (arith, long, fits, target_size)

      end : x % h.store.words + object_size p ≤ length target.0
      end =
          let t = there h x p f in
          let same : t.words ≡ target.0 = same_Some _ _ (sym t.page ∙ ap (words_at h.store) page ∙ target.1) in
          subst (λ v. x % h.store.words + object_size p ≤ length v) same
          (read_fits h.config.layouts t.words (x % h.store.words) p t.read)

      go : (OfObject x ≡ OfPlan a) ⊎ AreApart (sized_extent x (object_size p)) (sized_extent n (object_size q))
          → Agree (change target.0) target.0 (x % h.store.words) (x % h.store.words + object_size p)
      go (inl k) i low high = absurd (cc)
      go (inr (inl k)) i low high = overlaid_before target.0 copied (n % h.store.words) i room
          (omega (arith, k, base, div-add-mod' x h.store.words, div-add-mod' n h.store.words, high))
      go (inr (inr k)) i low high = overlaid_behind target.0 copied (n % h.store.words) i room
          (omega (arith, k, base, div-add-mod' x h.store.words, div-add-mod' n h.store.words, low, long))
          (omega (arith, high, end))

  rewrites : Rewrites h (with_bit h.starts h.store.words n true) (n / h.store.words) n change q
  rewrites = record {
    words = target.0;
    before = target.1;
    sized = length_overlaid target.0 (n % h.store.words) copied;
    on_page = refl;
    bit = put_start n ∙ put_same (bit_at h.starts h.store.words) n true;
    read = read_copied h.config.layouts c.words target.0 (a % h.store.words) (n % h.store.words) q c.read
        (omega (arith, fits, target_size));
    bits = λ x d. put_start x ∙ put_other (bit_at h.starts h.store.words) n true x d;
    known = λ x g b. l.objects x b (ap (λ m. has_memory (state_at h.store m)) g ∙ ap has_memory open_there);
    apart = agree;
  }

  -- the heap with the copy, whose store is given by the words that are written
  abbrev after : HeapState
  after = record h {
    store = with_words h.store (n / h.store.words) change;
    starts = with_bit h.starts h.store.words n true;
    sides = change_at h.sides (a / h.store.words - 1) (map (set_copied_of (a % h.store.words)));
  }

  copy_is : with_copy h a n ≡ after
  unfolding with_copy
  copy_is = ap (λ t. record h {
    store = t;
    starts = with_bit h.starts h.store.words n true;
    sides = change_at h.sides (a / h.store.words - 1) (map (set_copied_of (a % h.store.words)));
  }) store_is

  objects_after : (x : ℕ) → object_at after x ≡ put (object_at h) n (Some q) x
  unfolding with_words
  objects_after x = rewritten h (with_bit h.starts h.store.words n true) (n / h.store.words) n change q s rewrites x

  side : (fs : List Forwarding) × (slice_get h.sides (a / h.store.words - 1) ≡ Some fs)
  side =
      let (page, low) = record_there h.store (a / h.store.words) c.words c.page in
      get_within h.sides (a / h.store.words - 1) (omega (arith, low, l.sides.pages))

  page_is : a / h.store.words ≡ suc (a / h.store.words - 1)
  page_is = (record_there h.store (a / h.store.words) c.words c.page).0

  side_of_page : of_page h.sides (a / h.store.words) ≡ side.0
  side_of_page = ap (of_page h.sides) page_is ∙ list_read h.sides (a / h.store.words - 1) ∙ ap list_of side.1

  entries_after : (x : ℕ) → (world_of after).side_entry x ≡ put (world_of h).side_entry a (Copied n) x
  unfolding with_words
  entries_after = put_all (λ x y. (world_of after).side_entry x ≡ y) (world_of h).side_entry a (Copied n) here
      (λ x d. elsewhere x d (cases_eq (x / h.store.words) (a / h.store.words)))
    where
      lists : (m : ℕ) → of_page after.sides m
          ≡ put (of_page h.sides) (suc (a / h.store.words - 1)) (map (set_copied_of (a % h.store.words)) side.0) m
      lists = page_changed h.sides (a / h.store.words - 1) (map (set_copied_of (a % h.store.words))) side.0 side.1

      at_page : of_page after.sides (a / h.store.words) ≡ map (set_copied_of (a % h.store.words)) side.0
      at_page = ap (of_page after.sides) page_is ∙ lists (suc (a / h.store.words - 1))
          ∙ put_same (of_page h.sides) (suc (a / h.store.words - 1)) (map (set_copied_of (a % h.store.words)) side.0)

      here : entry_at (of_page after.sides (a / h.store.words)) (a % h.store.words) ≡ Copied n
      here = ap (λ fs. entry_at fs (a % h.store.words)) at_page
          ∙ entry_copied side.0 (a % h.store.words) n
          (ap (λ fs. entry_at fs (a % h.store.words)) (sym side_of_page) ∙ plan)

      elsewhere : (x : ℕ) → x ≢ a → (x / h.store.words ≡ a / h.store.words) ⊎ (x / h.store.words ≢ a / h.store.words)
          → entry_at (of_page after.sides (x / h.store.words)) (x % h.store.words)
          ≡ entry_at (of_page h.sides (x / h.store.words)) (x % h.store.words)
      elsewhere x d (inl g) = ap (λ m. entry_at (of_page after.sides m) (x % h.store.words)) g
          ∙ ap (λ fs. entry_at fs (x % h.store.words)) at_page
          ∙ entry_other side.0 (a % h.store.words) (x % h.store.words) (λ z. d (same_place h.store.words x a g z))
          ∙ ap (λ fs. entry_at fs (x % h.store.words)) (sym (ap (of_page h.sides) g ∙ side_of_page))
      elsewhere x d (inr g) = ap (λ fs. entry_at fs (x % h.store.words)) (lists (x / h.store.words)
          ∙ put_other (of_page h.sides) (suc (a / h.store.words - 1)) (map (set_copied_of (a % h.store.words)) side.0)
          (x / h.store.words) (λ z. g (z ∙ sym page_is)))

  after_world : world_of after ≡ copy_object a n q (world_of h)
  unfolding with_words state_at page_at register_of
  after_world = λ z. record (world_of h) {
    object_at = fun_ext objects_after z;
    side_entry = fun_ext entries_after z;
  }

  -- the copy, in the address-level model
  pub copy_world : world_of (with_copy h a n) ≡ copy_object a n q (world_of h)
  copy_world = ap world_of copy_is ∙ after_world

  -- an entry that isn't planned claims nothing
  unplanned_extent : (y : SideEntry) (u v : Option ℕ) → ((m : ℕ) → y ≢ Planned m)
      → planned_extent y u ≡ planned_extent y v
  unplanned_extent NoEntry u v d = refl
  unplanned_extent (Copied m) u v d = refl
  unplanned_extent (Planned m) u v d = absurd (d m refl)

  -- no object of the target's page is planned
  target_unplanned : (m : ℕ) → (world_of h).side_entry n ≢ Planned m
  target_unplanned m k = no (sym open_there ∙ o.planned_from n m k)
    where
      no : Open ≡ From → ⊥
      no y = cc

  sizes_other : (x : ℕ) → x ≢ n → size_at after x ≡ size_at h x
  sizes_other x d = ap (option_map object_size) (objects_after x ∙ put_other (object_at h) n (Some q) x d)

  size_here : size_at after n ≡ Some (object_size q)
  size_here = ap (option_map object_size) (objects_after n ∙ put_same (object_at h) n (Some q))

  others : (u : Claim) → (u ≡ OfPlan a) ⊎ (u ≡ OfObject n) ⊎ (extent after u ≡ extent h u)
  unfolding with_words page_at
  others (OfObject x) = go (cases_eq x n)
    where
      go : (x ≡ n) ⊎ (x ≢ n) → (OfObject x ≡ OfPlan a) ⊎ (OfObject x ≡ OfObject n)
          ⊎ (extent after (OfObject x) ≡ extent h (OfObject x))
      go (inl k) = inr (inl (ap OfObject k))
      go (inr k) = inr (inr (ap (option_map (sized_extent x)) (sizes_other x k)))
  others (OfBuffer u) = inr (inr refl)
  others (OfPlan x) = go (cases_eq x a) (cases_eq x n)
    where
      same : x ≢ a → (world_of after).side_entry x ≡ (world_of h).side_entry x
      same d = entries_after x ∙ put_other (world_of h).side_entry a (Copied n) x d

      go : (x ≡ a) ⊎ (x ≢ a) → (x ≡ n) ⊎ (x ≢ n) → (OfPlan x ≡ OfPlan a) ⊎ (OfPlan x ≡ OfObject n)
          ⊎ (extent after (OfPlan x) ≡ extent h (OfPlan x))
      go (inl k) z = inl (ap OfPlan k)
      go (inr k) (inl z) = inr (inr (ap (λ y. planned_extent y (size_at after x)) (same k)
          ∙ unplanned_extent ((world_of h).side_entry x) (size_at after x) (size_at h x)
          (λ m f. target_unplanned m (ap (world_of h).side_entry (sym z) ∙ f))))
      go (inr k) (inr z) = inr (inr (ap₂ planned_extent (same k) (sizes_other x z)))
  others (OfEnd m) = inr (inr refl)

  splits : Splits (extent h) (extent after) (OfPlan a) (OfObject n)
  splits = record {
    whole = sized_extent n (object_size q);
    had = plan_had;
    new = ap (λ y. option_map (sized_extent n) (option_map object_size y)) place_free;
    rest = λ x f. absurd (nothing x f);
    part = λ x f. part x (same_Some _ _ (sym (ap (option_map (sized_extent n)) size_here) ∙ f));
    apart = λ x y f g. absurd (nothing x f);
    others = others;
  }
    where
      nothing : (x : Extent) → extent after (OfPlan a) ≡ Some x → ⊥
      nothing x f = no (sym (ap (λ y. planned_extent y (size_at after a)) (entries_after a
          ∙ put_same (world_of h).side_entry a (Copied n))) ∙ f)
        where
          no : None ≡ Some x → ⊥
          no y = cc

      part : (x : Extent) → sized_extent n (object_size q) ≡ x → Within x (sized_extent n (object_size q))
      part x f = subst (λ y. Within y (sized_extent n (object_size q))) f
          (record { from = omega arith; upto = omega arith })

  -- an object that was there stays
  stays : (x : ℕ) (p : HeapObject) → object_at h x ≡ Some p → (p : HeapObject) × (object_at after x ≡ Some p)
  stays x p is = go (cases_eq x n)
    where
      go : (x ≡ n) ⊎ (x ≢ n) → (p : HeapObject) × (object_at after x ≡ Some p)
      go (inl f) = (q, objects_after x ∙ ap (put (object_at h) n (Some q)) f ∙ put_same (object_at h) n (Some q))
      go (inr f) = (p, objects_after x ∙ put_other (object_at h) n (Some q) x f ∙ is)

  objects : (x : ℕ) → bit_at (with_bit h.starts h.store.words n true) h.store.words x ≡ true
      → has_memory (state_at h.store (x / h.store.words)) ≡ true → (p : HeapObject) × (object_at after x ≡ Some p)
  objects x b f = go (cases_eq x n)
    where
      go : (x ≡ n) ⊎ (x ≢ n) → (p : HeapObject) × (object_at after x ≡ Some p)
      go (inl k) = (q, objects_after x ∙ ap (put (object_at h) n (Some q)) k ∙ put_same (object_at h) n (Some q))
      go (inr k) =
          let (p, is) = l.objects x (sym (put_start x ∙ put_other (bit_at h.starts h.store.words) n true x k) ∙ b) f in
          stays x p is

  planned : (x m : ℕ) (p : HeapObject) → (world_of after).side_entry x ≡ Planned m → object_at after x ≡ Some p
      → m % h.store.words + object_size p ≤ h.store.words
  planned x m p f g = go (put_after (world_of h).side_entry a (Copied n) x (Planned m) (sym (entries_after x) ∙ f))
      (put_after (object_at h) n (Some q) x (Some p) (sym (objects_after x) ∙ g))
    where
      go : ((x ≡ a) × (Copied n ≡ Planned m)) ⊎ ((x ≢ a) × ((world_of h).side_entry x ≡ Planned m))
          → ((x ≡ n) × (Some q ≡ Some p)) ⊎ ((x ≢ n) × (object_at h x ≡ Some p))
          → m % h.store.words + object_size p ≤ h.store.words
      go (inl (k, z)) y = absurd (cc)
      go (inr (k, z)) (inl (y, r)) = absurd (target_unplanned m (ap (world_of h).side_entry (sym y) ∙ z))
      go (inr (k, z)) (inr (y, r)) = l.planned x m p z r

  after_laid : IsLaid after
  unfolding with_words state_at page_at register_of
  after_laid = record {
    starts = starts_rows;
    live = l.live;
    mark = l.mark;
    todo = l.todo;
    sides = record {
      pages = length_changed h.sides (a / h.store.words - 1) (map (set_copied_of (a % h.store.words))) ∙ l.sides.pages;
      rising = each_changed (AreRising h.store.words 0) h.sides (a / h.store.words - 1)
          (map (set_copied_of (a % h.store.words))) l.sides.rising
          (λ fs r. rising_stays h.store.words 0 (a % h.store.words) fs r);
    };
    registers = l.registers;
    objects = objects;
    apart = split_apart (extent h) (extent after) l.apart (OfPlan a) (OfObject n) splits;
    planned = planned;
    live_objects = λ x b f. (let (p, is) = l.live_objects x b f in stays x p is);
    unused = l.unused;
  }
    where
      starts_rows : AreRowsOf after.store (with_bit h.starts h.store.words n true)
      starts_rows = rows_put h.store h.starts (n / h.store.words - 1) (n % h.store.words) true l.starts

  -- memory stays in order
  pub copy_laid : IsLaid (with_copy h a n)
  copy_laid = subst IsLaid (sym copy_is) after_laid

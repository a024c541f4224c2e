-- The objects of a heap's image are those of the heap.
use Rattle.std.proofs.Common.{◌≡◌, ◌<◌, ◌≤◌, ℕ, ◌+◌, ◌-◌, ◌*◌, ◌/◌, ◌%◌, true, ltb, leb, List, length}
use Rattle.std.proofs.Common.{Option, Some, None, refl, sym, ap, ◌∙◌, arith}
use Rattle.std.specs.List.{slice_get}
use Rattle.std.specs.Option.{option_map, option_and_then}
use Rattle.std.proofs.lemmas.Option.{same_Some, slice_get_within}
use Rattle.std.proofs.lemmas.Bool.{false≢true, lt-ltb, le-leb}
use Rattle.std.proofs.lemmas.Bool.Decides.{nat_tests}
use Rattle.std.proofs.Math.Nat.{lt-div-mul-add}
use Rattle.layout.specs.declared.shape.Layout.{Layout}
use Rattle.layout.specs.Objects.{size_of, birth_of, layout_of}
use Rattle.refword.specs.declared.addr.TheConstants.Addr as addresses
use Rattle.model.specs.declared.limits.TheConstants.{MOST_WORDS, MOST_PAGES}
use Rattle.model.specs.declared.records.Page.{Page}
use Rattle.model.specs.Stores.{StoreState, page_at as store_page, words_at, record_count}
use Rattle.model.specs.Owning.{IsStore}
use Rattle.model.specs.Holding.{IsHeap}
use Rattle.model.specs.Bits.{bit_at}
use Rattle.model.specs.States.{HeapState}
use Rattle.model.proofs.Memory.{page_there, words_memory, words_sized, word_on_page}
use Rattle.laws.specs.AddressHeap.{HeapObject}
use Rattle.refinement.specs.Worlds.{object_at as world_object}
use Rattle.refinement.specs.Claims.{IsLaid}
use Rattle.refinement.proofs.Objects.{there}
use Rattle.refinement.proofs.ObjectWords.{read_refs}
use Rattle.verify.specs.Images.{ImageData, page_at, word_at, starts_on, object_in, object_at}
use Rattle.verify.specs.Pictures.{image_of}
use Rattle.verify.specs.Soundness.{IsBirthAt}
use Rattle.heap_images.proofs.Lists.{found_first, mapped_first, tested}
use Rattle.heap_images.proofs.Pages.{page_is, pictured, word_is, page_of_words}

-- addresses

-- the number of a page that exists
page_number : (s : StoreState) (n : ℕ) (p : Page) → IsStore s → store_page s n ≡ Some p
    → n ≤ MOST_PAGES
page_number s n p k e =
    let there = page_there s n p e in
    let within = slice_get_within s.pages (n - 1) p there.1 in
    let few : record_count (length s.frames) s.count ≤ s.count = grind (arith, nat_tests) in
    omega (arith, there.0, within, few, k.sized.pages, k.sized.count)

-- an address within a number of pages of a number of words
low_address : (a n w : ℕ) → a / w ≡ n → n ≤ MOST_PAGES → 0 < w → w ≤ MOST_WORDS → a < addresses.LIMIT
low_address a n w e l z m =
    let x : a < a / w * w + w = lt-div-mul-add z in bounded a (a / w) w x (omega arith) m
  where
    bounded : (a p w : ℕ) → a < p * w + w → p ≤ MOST_PAGES → w ≤ MOST_WORDS → a < addresses.LIMIT
    bounded a p w x l m = grind (arith)

-- an address on a page that exists is one that references can have
address_low : (h : HeapState) (a : ℕ) (p : Page) → IsStore h.store → store_page h.store (a / h.store.words) ≡ Some p
    → a < addresses.LIMIT
address_low h a p s e =
    low_address a (a / h.store.words) h.store.words refl (page_number h.store (a / h.store.words) p s e)
    s.sized.words_low s.sized.words

-- objects

-- the object of an image at a header whose layout is known and for which there is space
object_read : (i : ImageData) (a bits : ℕ) (l : Layout) → word_at i a ≡ Some bits
    → slice_get i.layouts (layout_of bits) ≡ Some l → leb (a % i.words + size_of l) i.words ≡ true
    → object_in i a ≡ Some (record { birth = birth_of bits; refs = l.refs })
unfolding object_in
object_read i a bits l word known fits = rw (word, known, fits) refl

module _ (h : HeapState) (s : IsStore h.store) (d : IsHeap h) where
  -- the image has each object of the heap
  pub object_to : (a : ℕ) (q : HeapObject) → world_object h a ≡ Some q
      → object_at (image_of h) a ≡ Some (record { birth = q.birth; refs = length q.refs })
  unfolding object_at image_of
  object_to a q e =
      let t = there h a q e in
      let g = page_of_words h.store (a / h.store.words) t.words t.page in
      let low : ltb a addresses.LIMIT ≡ true = lt-ltb a addresses.LIMIT (address_low h a g.0 s g.1) in
      let start : starts_on (page_at (image_of h) a) (a % h.store.words) ≡ true =
      ap (λ o. starts_on o (a % h.store.words)) (page_is h a ∙ ap (pictured h (a / h.store.words)) g.1) ∙ t.bit in
      let word : word_at (image_of h) a ≡ Some t.read.header =
      word_is h a ∙ word_on_page h.store a
      ∙ ap (option_and_then (λ ws. slice_get ws (a % h.store.words))) t.page ∙ t.read.at in
      let size = words_sized h.store (a / h.store.words) t.words s t.page in
      let fits : leb (a % h.store.words + size_of t.read.shape) h.store.words ≡ true =
      le-leb (a % h.store.words + size_of t.read.shape) h.store.words (omega (arith, t.read.fits)) in
      let read = object_read (image_of h) a t.read.header t.read.shape word t.read.known fits in
      let refs = read_refs h.config.layouts t.words (a % h.store.words) q t.read in
      let birth : birth_of t.read.header ≡ q.birth = sym (ap (λ (z : HeapObject). z.birth) t.read.is) in
      rw (low, start) (read ∙ rw (birth, ← refs) refl)

  -- an object of the image has its start bit in the heap
  start_bit : (a : ℕ) → starts_on (page_at (image_of h) a) (a % h.store.words) ≡ true
      → bit_at h.starts h.store.words a ≡ true
  start_bit a e =
      by_page (store_page h.store (a / h.store.words))
      (ap (λ o. starts_on o (a % h.store.words)) (sym (page_is h a)) ∙ e)
    where
      by_page : (o : Option Page) → starts_on (pictured h (a / h.store.words) o) (a % h.store.words) ≡ true
          → bit_at h.starts h.store.words a ≡ true
      by_page None f = absurd (false≢true f)
      by_page (Some p) f = f

  -- and its page has words
  words_below : (a bits : ℕ) → word_at (image_of h) a ≡ Some bits
      → (ws : List ℕ) × (words_at h.store (a / h.store.words) ≡ Some ws)
  words_below a bits e =
      let found = found_first (λ ws. slice_get ws (a % h.store.words)) (words_at h.store (a / h.store.words)) bits
      (sym (word_on_page h.store a) ∙ sym (word_is h a) ∙ e) in
      (found.0, found.1)

  -- and no other object is in the image
  pub object_from : (a n : ℕ) → IsLaid h → IsBirthAt (image_of h) a n
      → (q : HeapObject) × (world_object h a ≡ Some q) × (q.birth ≡ n)
  unfolding object_at object_in image_of
  object_from a n laid e =
      let (o, at, birth) = mapped_first (λ o. o.birth) (object_at (image_of h) a) n e in
      let (low, started) = tested (ltb a addresses.LIMIT) _ o at in
      let (start, read) = tested (starts_on (page_at (image_of h) a) (a % h.store.words)) _ o started in
      let (bits, word, rest) = found_first _ (word_at (image_of h) a) o read in
      let (ws, page) = words_below a bits word in
      let (q, here) = laid.objects a (start_bit a start) (words_memory h.store (a / h.store.words) ws s page) in
      (q, here, same_Some q.birth n (sym (ap (option_map (λ o. o.birth)) (object_to a q here)) ∙ e))

-- Objects that were found: what a thread learns of one, and which steps leave it found.
use Rattle.std.proofs.Common.{◌≡◌, ◌≢◌, ◌∙◌, ◌/◌, ◌%◌, ◌+◌, ◌<◌, ℕ, Bool, true, false, List, length, get_or}
use Rattle.std.proofs.Common.{Option, Some, None}
use Rattle.std.proofs.Common.{refl, sym, ap, subst, arith}
use Rattle.std.specs.Prelude.{slice_get, if◌then◌else◌}
use Rattle.std.specs.Option.{option_and_then}
use Rattle.std.proofs.lemmas.Option.{get_or_from_slice_get, slice_get_within, slice_get-get_or, same_Some}
use Rattle.std.proofs.lemmas.Bool.{leb-false}
use Rattle.refword.specs.Words.{address_in}
use Rattle.layout.specs.declared.shape.Layout.{Layout}
use Rattle.layout.specs.Objects.{layout_of}
use Rattle.model.specs.declared.records.Barrier.{Barrier}
use Rattle.model.specs.declared.records.Counter.TheVariants as counters
use Rattle.model.specs.declared.records.Place.TheVariants as places
use Rattle.model.specs.declared.steps.Step.TheVariants as steps
use Rattle.model.specs.Data.{layout_at, layout_in, header_layout}
use Rattle.model.specs.Holding.{IsHeap}
use Rattle.model.specs.Loads.{with_barrier, with_loaded}
use Rattle.model.specs.Outcome.{no_register}
use Rattle.model.specs.Owning.{IsStore}
use Rattle.model.specs.References.{read_reference}
use Rattle.model.specs.Registers.{register_of, usable}
use Rattle.model.specs.States.{HeapState, Reference, ThreadState, change_at, flat}
use Rattle.model.specs.Stores.{StoreState, page_at, state_at, with_word, with_words, word_at, words_at}
use Rattle.model.specs.Threads.{barrier_of, is_parked_in, set_barrier_of, set_loaded_of}
use Rattle.model.proofs.Lists.{get_set_other, get_within}
use Rattle.model.proofs.Memory.{word_on_page, words_sized}
use Rattle.page.specs.Usable.{usable_frame}
use Rattle.page.specs.Whole.{IsWhole}
use Rattle.page.proofs.Behind.{further_on, same_page}
use Rattle.page.proofs.Untouched.{word_stays}
use Rattle.page.proofs.Usable.{usable_unprotected}
use Rattle.fast_paths.specs.declared.found.FoundObject.{FoundObject}
use Rattle.heap.specs.AtOnce.{IsOnFrame, IsOpenTo}
use Rattle.fast_paths.specs.AtOnce.{HoldsAtOnce, IsQuiet, LoadsAtOnce, NamesAtOnce, UsesAtOnce}
use Rattle.fast_paths.specs.Found.{FindsObject}
use Rattle.heap.proofs.LoadedWords.{read_twice}
use Rattle.fast_paths.proofs.AtOnce.{changed_there, field_there, gated, read_of, reads_where, ready_passes}
use Rattle.fast_paths.proofs.AtOnce.{register_where, used_where}

-- ---- what a whole object's header says

module _ (h : HeapState) (a : ℕ) (words : List ℕ) (k : IsWhole h.store h.config.layouts a)
    (page : words_at h.store (a / h.store.words) ≡ Some words) where
  same_words : k.words ≡ words
  same_words = same_Some _ _ (sym k.page ∙ page)

  header_there : slice_get words (a % h.store.words) ≡ Some k.header
  header_there = sym (ap (λ ws. slice_get ws (a % h.store.words)) same_words) ∙ k.headed

  -- the header is one of the page's words
  pub header_within : (o : ℕ) → o ≡ a % h.store.words → o < length words
  header_within o e = omega (arith, e, slice_get_within words (a % h.store.words) k.header header_there)

  -- what is read there is the header
  header_read : (o : ℕ) → o ≡ a % h.store.words → get_or words o 0 ≡ k.header
  header_read o e = get_or_from_slice_get words o k.header 0 (ap (slice_get words) e ∙ header_there)

  number_read : (o n : ℕ) → o ≡ a % h.store.words → n ≡ layout_of (get_or words o 0) → n ≡ layout_of k.header
  number_read o n e is = is ∙ ap layout_of (header_read o e)

  -- its layout is in the table
  pub layout_within : (o n : ℕ) → o ≡ a % h.store.words → n ≡ layout_of (get_or words o 0)
      → n < length h.config.layouts
  layout_within o n e is = omega (
    arith,
    number_read o n e is,
    slice_get_within h.config.layouts (layout_of k.header) k.layout k.named,
  )

  layout_read : (o n : ℕ) (d : Layout) → o ≡ a % h.store.words → n ≡ layout_of (get_or words o 0)
      → get_or h.config.layouts n d ≡ k.layout
  layout_read o n d e is = get_or_from_slice_get h.config.layouts n k.layout d
      (ap (slice_get h.config.layouts) (number_read o n e is) ∙ k.named)

  has_layout : layout_at h a ≡ Some k.layout
  unfolding layout_at
  has_layout = ap (λ o. layout_in h.config.layouts (header_layout o)) (word_on_page h.store a
      ∙ ap (option_and_then (λ ws. slice_get ws (a % h.store.words))) page ∙ header_there) ∙ k.named

  -- the object is found
  pub found_whole : (t r f o n : ℕ) (d : Layout) → IsStore h.store → UsesAtOnce h t r a → IsOnFrame h a f
      → o ≡ a % h.store.words → n ≡ layout_of (get_or words o 0)
      → FindsObject h t r (record { address = a; frame = f; layout = get_or h.config.layouts n d })
  found_whole t r f o n d s uses frame e is =
      subst (λ (l : Layout). FindsObject h t r (record { address = a; frame = f; layout = l }))
      (sym (layout_read o n d e is)) (record {
        uses = uses;
        frame = frame;
        layout = has_layout;
        ends = omega (arith, k.ends, words_sized h.store (a / h.store.words) k.words s k.page);
      })

-- ---- words of an object that was found

-- a word of the page
pub word_within : (s : StoreState) (a k o : ℕ) (words : List ℕ) → IsStore s → words_at s (a / s.words) ≡ Some words
    → o ≡ a % s.words → a % s.words + k < s.words → o + k < length words
word_within s a k o words st page e near = omega (arith, e, near, words_sized s (a / s.words) words st page)

-- is what is read there
pub read_within : (s : StoreState) (a k o : ℕ) (words : List ℕ) → IsStore s → words_at s (a / s.words) ≡ Some words
    → o ≡ a % s.words → a % s.words + k < s.words → word_at s (a + k) ≡ Some (get_or words (o + k) 0)
read_within s a k o words st page e near =
    word_on_page s (a + k)
    ∙ ap (λ n. option_and_then (λ ws. slice_get ws ((a + k) % s.words)) (words_at s n)) (same_page a k s.words near)
    ∙ ap (option_and_then (λ ws. slice_get ws ((a + k) % s.words))) page
    ∙ ap (slice_get words) (further_on a k s.words near ∙ sym (ap (λ n. n + k) e))
    ∙ slice_get-get_or words (o + k) 0 (word_within s a k o words st page e near)

-- ---- a thread that may use an object

-- thread t runs, and its barrier is closed
record IsReady (h : HeapState) (t : ℕ) : Type 0 where
  thread : ThreadState
  there : slice_get h.threads t ≡ Some thread
  runs : thread.parked ≡ false
  closed : thread.barrier ≡ None

ready : (h : HeapState) (t r a : ℕ) → UsesAtOnce h t r a → IsReady h t
ready h t r a u =
    let p = gated h t (steps.Datum r 0) refl (u.passes (steps.Datum r 0) refl u.there) in
    let x = get_within h.threads t (leb-false (length h.threads) t p.0) in
    record {
      thread = x.0;
      there = x.1;
      runs = subst (λ (o : Option ThreadState). is_parked_in o ≡ false) x.1 p.1;
      closed = subst (λ (o : Option ThreadState). barrier_of o ≡ None) x.1 u.closed;
    }

-- a heap of the same configuration, in which the thread runs too, and the register still holds the address
still_uses : (g : HeapState) (t r a : ℕ) (x : ThreadState) → slice_get g.threads t ≡ Some x → x.parked ≡ false
    → x.barrier ≡ None → no_register g r ≡ false → address_in (register_of g t r) ≡ Some a → IsOpenTo g a
    → UsesAtOnce g t r a
unfolding usable
still_uses g t r a x there runs closed low named free = record {
  passes = λ s mine good. ready_passes g t s x there runs closed mine good;
  closed = ap barrier_of there ∙ closed;
  named = named;
  there = low;
  usable = used_where g t a (register_of g t r) free named;
}

-- ---- a load leaves an object found, whose register gets no word

abbrev after_load : ℕ → Reference → Barrier → ThreadState → ThreadState
after_load target w b x = set_loaded_of target w (set_barrier_of b counters.Loads x)

abbrev loaded_heap : HeapState → ℕ → ℕ → Reference → Barrier → HeapState
loaded_heap h t target w b = record h { threads = change_at h.threads t (after_load target w b) }

found_loaded : (h : HeapState) (t r target : ℕ) (w : Reference) (b : Barrier) (o : FoundObject)
    → FindsObject h t r o → target ≢ r → FindsObject (loaded_heap h t target w b) t r o
unfolding layout_at no_register
found_loaded h t r target w b o k apart =
    let x = ready h t r o.address k.uses in
    let g = loaded_heap h t target w b in
    let there : slice_get g.threads t ≡ Some (after_load target w b x.thread) =
    changed_there h.threads t (after_load target w b) x.thread x.there in
    let kept : register_of g t r ≡ register_of h t r = register_where g t r (after_load target w b x.thread) there
    ∙ ap flat (get_set_other x.thread.registers target r w (λ e. apart (sym e)))
    ∙ sym (register_where h t r x.thread x.there) in
    record {
      uses = still_uses g t r o.address (after_load target w b x.thread) there x.runs refl k.uses.there
          (ap address_in kept ∙ k.uses.named)
          (usable_unprotected h.store (o.address / h.store.words) o.frame k.frame);
      frame = k.frame;
      layout = k.layout;
      ends = k.ends;
    }

some_barrier : Barrier
some_barrier = record { target = 0; place = places.Global 0; raw = None; now = None; healed = false }

pub found_read : (h g : HeapState) (t r target : ℕ) (w : Reference) (o : FoundObject) → FindsObject h t r o
    → ((b : Barrier) → g ≡ with_loaded (with_barrier h t b counters.Loads) t target w) → target ≢ r
    → FindsObject g t r o
found_read h g t r target w o k is apart = subst (λ (x : HeapState). FindsObject x t r o)
    (read_twice h t target w some_barrier (loaded_heap h t target w some_barrier).threads refl ∙ sym (is some_barrier))
    (found_loaded h t r target w some_barrier o k apart)

-- a load of a reference of it
names_found : (h : HeapState) (t target r : ℕ) (v : Reference) (o : FoundObject) → FindsObject h t r o
    → HoldsAtOnce h t target v → NamesAtOnce h t target r o.address
names_found h t target r v o k to = record {
  passes = λ i. k.uses.passes (steps.Load target r i) refl (rw (to.there, k.uses.there) refl);
  usable = k.uses.usable;
  closed = k.uses.closed;
}

pub load_found : (h g : HeapState) (t target r i n bits : ℕ) (v w : Reference) (o : FoundObject) → IsStore h.store
    → IsHeap h → IsQuiet h w → FindsObject h t r o → HoldsAtOnce h t target v → i < o.layout.refs → n ≡ i
    → word_at h.store (o.address + (1 + n)) ≡ Some bits → w ≡ read_reference bits
    → ((b : Barrier) → g ≡ with_loaded (with_barrier h t b counters.Loads) t target w)
    → LoadsAtOnce h t (steps.Load target r i) g
load_found h g t target r i n bits v w o st d quiet k to few same read word is =
    read_of h g t target r i o.address w st d quiet (names_found h t target r v o k to)
    (reads_where h o.address i (1 + n) bits w (field_there h o.address i n o.layout k.layout few same) read word) is

-- ---- a word that is written leaves the object found

found_written : (h : HeapState) (t r k v : ℕ) (o : FoundObject) → IsStore h.store → FindsObject h t r o → 0 < k
    → FindsObject (record h { store = with_word h.store (o.address + k) v }) t r o
unfolding layout_at no_register with_word with_words page_at state_at usable_frame register_of
found_written h t r k v o s f behind =
    let x = ready h t r o.address f.uses in
    let g : HeapState = record h { store = with_word h.store (o.address + k) v } in
    record {
      uses = still_uses g t r o.address x.thread x.there x.runs x.closed f.uses.there f.uses.named
          (usable_unprotected h.store (o.address / h.store.words) o.frame f.frame);
      frame = f.frame;
      layout = ap (λ q. layout_in h.config.layouts (header_layout q))
          (word_stays h.store o.address (o.address + k) v s (λ e. omega (arith, behind, e))) ∙ f.layout;
      ends = f.ends;
    }

pub found_set : (h g : HeapState) (t r k v : ℕ) (done : Bool) (o : FoundObject) → IsStore h.store
    → FindsObject h t r o → 0 < k
    → g ≡ (if done then record h { store = with_word h.store (o.address + k) v } else h) → FindsObject g t r o
found_set h g t r k v true o s f behind e =
    subst (λ (x : HeapState). FindsObject x t r o) (sym e) (found_written h t r k v o s f behind)
found_set h g t r k v false o s f behind e = subst (λ (x : HeapState). FindsObject x t r o) (sym e) f

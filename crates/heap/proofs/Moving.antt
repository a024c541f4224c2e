-- Edits that relocate objects keep the invariant of a heap.
use Rattle.std.proofs.Common.{◌≡◌, ℕ, ◌+◌, ◌-◌, ◌/◌, ◌%◌, Bool, true, false, List, [], ◌∷◌, length, map, set, refl, sym}
use Rattle.std.proofs.Common.{◌∙◌, ap, subst}
use Rattle.std.proofs.Math.ListN.{length-set}
use Rattle.model.specs.declared.config.Config.{Config}
use Rattle.model.specs.declared.records.Buffer.{Buffer}
use Rattle.model.specs.declared.records.Forwarding.{Forwarding}
use Rattle.model.specs.declared.records.Phase.TheVariants.{Idle, ProtectCrossing}
use Rattle.model.specs.declared.records.PageState.TheVariants.{Unused, Closed, From}
use Rattle.model.specs.Stores.{StoreState, is_protected, is_unused, state_at, state_in}
use Rattle.model.specs.Protections.{with_from_pages}
use Rattle.std.proofs.lemmas.Bool.{true≢false}
use Rattle.page.specs.Relocating.{NoneGone}
use Rattle.model.specs.Owning.{Each, LiesIn, AreSized, NoneProtected, row_sizes}
use Rattle.model.specs.Holding.{IsHeap, FillsIn, HasRegisters, AreRising, AreRowsOf, AreSidesFor, GoesToPage}
use Rattle.model.specs.States.{HeapState, ThreadState, change_at}
use Rattle.model.specs.Threads.{set_crossed_of}
use Rattle.model.specs.Bits.{with_bit}
use Rattle.model.specs.Moves.{set_copied_of, with_copied_words, with_released}
use Rattle.model.proofs.Lists.{each_set, each_changed}
use Rattle.model.proofs.Tables.{length_changed, rows_put}
use Rattle.page.proofs.Lying.{words_sized_alike, words_lie, words_unprotected}
use Rattle.page.proofs.Protecting.{released_lies, released_sized, some_protected}
use Rattle.page.proofs.Relocated.{used_there}
use Rattle.page.proofs.RowSizes.{protected_rows, released_rows, words_rows}
use Rattle.std.specs.List.{slice_get}
use Rattle.heap.proofs.Keeping.{fills_in, store_keeps}
use Rattle.heap.proofs.Cycling.{each_mapped}
use Rattle.thread_records.proofs.Looping.{length_mapped}

-- side arrays are put in the place of others
pub sides_keep : (h : HeapState) (sides : List (List Forwarding)) → IsHeap h → AreSidesFor h.config sides
    → IsHeap (record h { sides = sides })
sides_keep h sides i k = record {
  config = i.config;
  sizes = record {
    words = i.sizes.words;
    frames = i.sizes.frames;
    pages = i.sizes.pages;
    threads = i.sizes.threads;
    workers = i.sizes.workers;
    globals = i.sizes.globals;
  };
  starts = i.starts;
  live = i.live;
  mark = i.mark;
  todo = i.todo;
  sides = k;
  births = i.births;
  buffers = i.buffers;
  registers = i.registers;
  idle = i.idle;
}

-- one is
pub side_keeps : (h : HeapState) (sides : List (List Forwarding)) (i : ℕ) (side : List Forwarding) → IsHeap h
    → AreRising h.config.words 0 side → Each side (GoesToPage h.config) → sides ≡ set h.sides i side
    → IsHeap (record h { sides = sides })
side_keeps h sides i side k r g e = sides_keep h sides k (subst (AreSidesFor h.config) (sym e) (record {
  pages = length-set h.sides i side ∙ k.sides.pages;
  rising = each_set (AreRising h.config.words 0) h.sides i side k.sides.rising r;
  places = each_set (λ fs. Each fs (GoesToPage h.config)) h.sides i side k.sides.places g;
}))

-- an entry that is noted as copied stays where it is
noted_rises : (w low o : ℕ) (fs : List Forwarding) → AreRising w low fs → AreRising w low (map (set_copied_of o) fs)
noted_rises w low o [] r = tt
noted_rises w low o (f ∷ fs) (a, b, r) = (a, b, noted_rises w (f.offset + 1) o fs r)

sides_noted : (c : Config) (sides : List (List Forwarding)) (i o : ℕ) → AreSidesFor c sides
    → AreSidesFor c (change_at sides i (map (set_copied_of o)))
sides_noted c sides i o k = record {
  pages = length_changed sides i (map (set_copied_of o)) ∙ k.pages;
  rising = each_changed (AreRising c.words 0) sides i (map (set_copied_of o)) k.rising
      (λ fs r. noted_rises c.words 0 o fs r);
  places = each_changed (λ fs. Each fs (GoesToPage c)) sides i (map (set_copied_of o)) k.places
      (λ fs g. each_mapped (GoesToPage c) (GoesToPage c) (set_copied_of o) fs (λ f z. z) g);
}

-- where no page is protected, none is gone
pub none_gone : (s : StoreState) → NoneProtected s → NoneGone s
none_gone s h i p e k = true≢false (sym (ap is_protected k) ∙ h i p e)

-- pages are protected
pub protection_keeps : (h : HeapState) (s : StoreState) (threads : List ThreadState) (pages : List ℕ) → IsHeap h
    → s ≡ record h.store { pages = with_from_pages pages h.store.pages }
    → Each pages (λ n. state_at h.store n ≡ Closed)
    → ((b : Buffer) → LiesIn h.store b → LiesIn s b) → threads ≡ map (set_crossed_of false) h.threads
    → IsHeap (record h { store = s; threads = threads; phase = ProtectCrossing })
protection_keeps h s threads pages i is closed stays e = record {
  config = i.config;
  sizes = record {
    words = z.words ∙ i.sizes.words;
    frames = z.frames ∙ i.sizes.frames;
    pages = z.count ∙ i.sizes.pages;
    threads = ap length e ∙ length_mapped (set_crossed_of false) h.threads ∙ i.sizes.threads;
    workers = i.sizes.workers;
    globals = i.sizes.globals;
  };
  starts = i.starts ∙ sym rows;
  live = i.live ∙ sym rows;
  mark = i.mark ∙ sym rows;
  todo = i.todo ∙ sym rows;
  sides = i.sides;
  births = i.births;
  buffers = subst (λ ts. Each ts (FillsIn s)) (sym e)
      (each_mapped (FillsIn h.store) (FillsIn s) (set_crossed_of false) h.threads
      (λ t k. fills_in h.store s t.buffer stays k) i.buffers);
  registers = subst (λ ts. Each ts (HasRegisters h.config)) (sym e)
      (each_mapped (HasRegisters h.config) (HasRegisters h.config) (set_crossed_of false) h.threads (λ t k. k)
      i.registers);
  idle = λ k. absurd (not_idle k);
}
  where
    not_idle : ProtectCrossing ≡ Idle → ⊥
    not_idle k = cc

    z : AreSized h.store s
    z = subst (AreSized h.store) (sym is) (record { words = refl; count = refl; frames = refl })

    used : (n : ℕ) → state_at h.store n ≡ Closed → is_unused (state_in (slice_get h.store.pages (n - 1))) ≡ false
    used n k = ap is_unused (used_there h.store n Closed k not_unused).1
      where
        not_unused : Closed ≡ Unused → ⊥
        not_unused k = cc

    rows : row_sizes s ≡ row_sizes h.store
    rows = ap row_sizes is
        ∙ protected_rows h.store.words pages h.store.pages (λ j n a. used n (closed j n a))

-- an object is copied
pub copy_keeps : (h : HeapState) (s : StoreState) (starts : List (List Bool)) (sides : List (List Forwarding))
    (words a to n place i o : ℕ) → IsHeap h → s ≡ with_copied_words h.store a to n
    → starts ≡ with_bit h.starts words place true
    → sides ≡ change_at h.sides i (map (set_copied_of o))
    → IsHeap (record h { store = s; starts = starts; sides = sides })
unfolding with_copied_words
copy_keeps h s starts sides words a to n place j o i is e f = record {
  config = i.config;
  sizes = record {
    words = z.words ∙ i.sizes.words;
    frames = z.frames ∙ i.sizes.frames;
    pages = z.count ∙ i.sizes.pages;
    threads = i.sizes.threads;
    workers = i.sizes.workers;
    globals = i.sizes.globals;
  };
  starts = subst (AreRowsOf h.store) (sym e) (rows_put h.store h.starts (place / words - 1) (place % words) true
      i.starts) ∙ sym rows;
  live = i.live ∙ sym rows;
  mark = i.mark ∙ sym rows;
  todo = i.todo ∙ sym rows;
  sides = subst (AreSidesFor h.config) (sym f) (sides_noted h.config h.sides j o i.sides);
  births = i.births;
  buffers = λ t x k. fills_in h.store s x.buffer
      (λ b l. subst (λ (r : StoreState). LiesIn r b) (sym is) (words_lie h.store _ _ b l)) (i.buffers t x k);
  registers = i.registers;
  idle = λ k. subst NoneProtected (sym is) (words_unprotected h.store _ _ (i.idle k));
}
  where
    z : AreSized h.store s
    z = subst (AreSized h.store) (sym is) (words_sized_alike h.store _ _)

    rows : row_sizes s ≡ row_sizes h.store
    rows = ap row_sizes is ∙ words_rows h.store _ _

-- a page gives its memory up
pub release_keeps : (h : HeapState) (s : StoreState) (n : ℕ) → IsHeap h → state_at h.store n ≡ From
    → s ≡ with_released h.store n → IsHeap (record h { store = s })
unfolding with_released
release_keeps h s n i from is = store_keeps h s i
    (subst (AreSized h.store) (sym is) (released_sized h.store n))
    (ap row_sizes is ∙ released_rows h.store n from)
    (λ b lies. subst (λ (r : StoreState). LiesIn r b) (sym is) (released_lies h.store n b from lies))
    (λ none. absurd (some_protected h.store n from none))

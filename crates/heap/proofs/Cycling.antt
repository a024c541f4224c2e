-- The start and the end of a mark keep the invariant of a heap.
use Rattle.std.proofs.Common.{◌≡◌, ℕ, zero, suc, Bool, true, false, List, [], ◌∷◌, length, map, replicate, Option}
use Rattle.std.proofs.Common.{Some, None}
use Rattle.std.proofs.Common.{refl, sym, ◌∙◌, ap, subst, rules, arith, nat_eq}
use Rattle.std.proofs.lemmas.Bool.Decides.{nat_tests}
use Rattle.std.specs.List.{slice_get}
use Rattle.std.specs.Option.{IfSome}
use Rattle.std.proofs.lemmas.List.{length-replicate}
use Rattle.std.proofs.lemmas.List.Folds.{list_any_at}
use Rattle.std.proofs.lemmas.Option.{slice_get_within, get_or_from_slice_get}
use Rattle.model.specs.declared.config.Config.{Config}
use Rattle.model.specs.declared.records.Buffer.{Buffer}
use Rattle.model.specs.declared.records.Forwarding.{Forwarding}
use Rattle.model.specs.declared.records.Global.{Global}
use Rattle.model.specs.declared.records.Phase.TheVariants.{Idle, MarkCrossing}
use Rattle.model.specs.Stores.{StoreState, store_after_mark}
use Rattle.model.specs.Owning.{Each, LiesIn, NoneProtected, row_sizes}
use Rattle.model.specs.States.{HeapState, ThreadState}
use Rattle.model.specs.Threads.{set_crossed_of}
use Rattle.model.specs.Bits.{blank_all}
use Rattle.model.specs.Cycles.{is_lent, is_buffer_on, rows_after_mark, set_todo_of}
use Rattle.model.specs.Holding.{IsHeap, FillsIn, HasRegisters, AreRising, AreRowsOf, AreSidesFor, GoesToPage}
use Rattle.model.proofs.Tables.{lengths_blank, none_goes}
use Rattle.model.proofs.Lists.{each_replicate}
use Rattle.page.proofs.Ended.{ended_sized, ended_lies, ended_unprotected}
use Rattle.page.proofs.RowSizes.{ended_rows}
use Rattle.thread_records.proofs.Looping.{length_mapped}

-- each element of a list comes of one before it
pub each_mapped : {X Y : Type 0} (P : X → Type 0) (Q : Y → Type 0) (f : X → Y) (xs : List X) → ((x : X) → P x → Q (f x))
    → Each xs P → Each (map f xs) Q
each_mapped P Q f [] h k i y e = absurd (cc)
each_mapped P Q f (x ∷ xs) h k zero y e = let here : f x ≡ y = cc in subst Q here (h x (k zero x refl))
each_mapped P Q f (x ∷ xs) h k (suc i) y e = each_mapped P Q f xs h (λ j z a. k (suc j) z a) i y e

-- protected pages give up their rows
rows_ended : (h : HeapState) (s : StoreState) (rows new : List (List Bool)) → AreRowsOf h.store rows
    → s ≡ store_after_mark (is_lent h.threads) h.store → new ≡ rows_after_mark h.store.pages rows → AreRowsOf s new
unfolding store_after_mark
rows_ended h s rows new r e f = ap (map length) f ∙ ended_rows h.store.words (is_lent h.threads) 1 h.store.pages rows r
    ∙ sym (ap row_sizes e)

-- a page with a thread's buffer counts as lent
lent_by : (threads : List ThreadState) (i : ℕ) (t : ThreadState) (b : Buffer) → slice_get threads i ≡ Some t
    → t.buffer ≡ Some b → is_lent threads b.page ≡ true
unfolding is_lent
lent_by threads i t b e f = list_any_at (λ (t : ThreadState). is_buffer_on b.page t.buffer) threads i t
    (slice_get_within threads i t e)
    (ap (λ (x : ThreadState). is_buffer_on b.page x.buffer) (get_or_from_slice_get threads i t t e)
    ∙ ap (is_buffer_on b.page) f ∙ same b.page)
  where
    same : (n : ℕ) → nat_eq n n ≡ true
    same n = grind (arith, nat_tests)

-- side arrays that are let go
sides_emptied : (c : Config) (sides : List (List Forwarding)) → AreSidesFor c sides
    → AreSidesFor c (replicate (length sides) [])
sides_emptied c sides k = record {
  pages = length-replicate (length sides) [] ∙ k.pages;
  rising = each_replicate (AreRising c.words 0) (length sides) [] tt;
  places = each_replicate (λ side. Each side (GoesToPage c)) (length sides) [] (none_goes c);
}

pub ended_keeps : (h : HeapState) (s : StoreState) (starts live mark todo : List (List Bool))
    (sides : List (List Forwarding)) → IsHeap h → s ≡ store_after_mark (is_lent h.threads) h.store
    → starts ≡ rows_after_mark h.store.pages h.starts → live ≡ rows_after_mark h.store.pages h.mark
    → mark ≡ blank_all (rows_after_mark h.store.pages h.live) → todo ≡ rows_after_mark h.store.pages h.todo
    → sides ≡ replicate (length h.sides) []
    → IsHeap (record h {
      store = s;
      starts = starts;
      live = live;
      mark = mark;
      todo = todo;
      sides = sides;
      phase = Idle;
    })
ended_keeps h s starts live mark todo sides i e a f g b r =
    let sized = ended_sized h.store (is_lent h.threads) in
    record {
      config = i.config;
      sizes = record {
        words = ap (λ (t : StoreState). t.words) e ∙ sized.words ∙ i.sizes.words;
        frames = ap (λ (t : StoreState). length t.frames) e ∙ sized.frames ∙ i.sizes.frames;
        pages = ap (λ (t : StoreState). t.count) e ∙ sized.count ∙ i.sizes.pages;
        threads = i.sizes.threads;
        workers = i.sizes.workers;
        globals = i.sizes.globals;
      };
      starts = rows_ended h s h.starts starts i.starts e a;
      live = rows_ended h s h.mark live i.mark e f;
      mark = ap (map length) g ∙ lengths_blank (rows_after_mark h.store.pages h.live)
          ∙ rows_ended h s h.live _ i.live e refl;
      todo = rows_ended h s h.todo todo i.todo e b;
      sides = subst (AreSidesFor h.config) (sym r) (sides_emptied h.config h.sides i.sides);
      births = i.births;
      buffers = λ j t a. subst (λ (s : StoreState). FillsIn s t) (sym e)
          (by_buffer j t a t.buffer refl (i.buffers j t a));
      registers = i.registers;
      idle = λ _. subst NoneProtected (sym e) (ended_unprotected h.store (is_lent h.threads));
    }
  where
    by_buffer : (j : ℕ) (t : ThreadState) → slice_get h.threads j ≡ Some t → (o : Option Buffer) → t.buffer ≡ o
        → IfSome o (LiesIn h.store) → IfSome o (LiesIn (store_after_mark (is_lent h.threads) h.store))
    by_buffer j t a None b k = search rules
    by_buffer j t a (Some c) b k = ended_lies h.store (is_lent h.threads) c (lent_by h.threads j t c a b) k

pub started_keeps : (h : HeapState) (threads : List ThreadState) (globals : List Global) (nmt : Bool) → IsHeap h
    → threads ≡ map (set_crossed_of false) h.threads → globals ≡ map set_todo_of h.globals
    → IsHeap (record h { threads = threads; globals = globals; phase = MarkCrossing; nmt = nmt })
started_keeps h threads globals nmt i e f = record {
  config = i.config;
  sizes = record {
    words = i.sizes.words;
    frames = i.sizes.frames;
    pages = i.sizes.pages;
    threads = ap length e ∙ length_mapped (set_crossed_of false) h.threads ∙ i.sizes.threads;
    workers = i.sizes.workers;
    globals = ap length f ∙ length_mapped set_todo_of h.globals ∙ i.sizes.globals;
  };
  starts = i.starts;
  live = i.live;
  mark = i.mark;
  todo = i.todo;
  sides = i.sides;
  births = i.births;
  buffers = subst (λ ts. Each ts (FillsIn h.store)) (sym e)
      (each_mapped (FillsIn h.store) (FillsIn h.store) (set_crossed_of false) h.threads (λ t k. k) i.buffers);
  registers = subst (λ ts. Each ts (HasRegisters h.config)) (sym e)
      (each_mapped (HasRegisters h.config) (HasRegisters h.config) (set_crossed_of false) h.threads (λ t k. k)
      i.registers);
  idle = λ z. absurd (marking z);
}
  where
    marking : MarkCrossing ≡ Idle → ⊥
    marking z = cc

-- Edits of a heap keep its invariant.
use Rattle.std.proofs.Common.{◌≡◌, ℕ, Bool, ◌-◌, ◌<◌, ◌≤◌, ◌+◌, List, Option, Some, None, replicate, arith, rules}
use Rattle.std.proofs.Common.{length, map, set, cond, ap, ◌∙◌, sym, subst, true, false, refl}
use Rattle.std.specs.Prelude.{◌==◌}
use Rattle.std.proofs.lemmas.Bool.{eqb-true}
use Rattle.std.specs.Option.{IfSome}
use Rattle.std.proofs.Math.ListN.{length-replicate}
use Rattle.model.specs.declared.config.Config.{Config}
use Rattle.model.specs.declared.records.Buffer.{Buffer}
use Rattle.model.specs.Stores.{StoreState}
use Rattle.model.specs.Owning.{Each, LiesIn, AreSized, NoneProtected, TakesWell, row_sizes, opened_sizes}
use Rattle.model.specs.Phases.{is_marking, is_mark_crossing}
use Rattle.model.specs.Holding.{IsHeap, HasSizes, FillsIn, HasRegisters, AreRowsOf}
use Rattle.model.specs.States.{HeapState, ThreadState, change_at}
use Rattle.model.specs.Bits.{put_bit}
use Rattle.model.specs.Buffers.{opened_rows}
use Rattle.model.proofs.Tables.{length_changed, lengths_set, rows_put}
use Rattle.model.specs.First.{blank_thread}
use Rattle.model.proofs.Lists.{each_changed, each_replicate}

-- threads of a new heap have no buffers
pub first_fills : (s : StoreState) (n registers : ℕ) (threads : List ThreadState)
    → threads ≡ replicate n (blank_thread registers) → Each threads (FillsIn s)
first_fills s n registers threads e = rw e (each_replicate (FillsIn s) n (blank_thread registers) (search rules))

-- and have so many registers
pub first_registers : (c : Config) (threads : List ThreadState) → threads ≡ replicate c.threads (blank_thread c.registers)
    → Each threads (HasRegisters c)
first_registers c threads e = rw e (each_replicate (HasRegisters c) c.threads (blank_thread c.registers)
    (length-replicate c.registers None))

-- the sizes stay where threads and globals are as many, and the store is of the sizes that it was
threads_sized : (h : HeapState) (threads : List ThreadState) → length threads ≡ length h.threads → HasSizes h
    → HasSizes (record h { threads = threads })
threads_sized h threads e z = record {
  words = z.words;
  frames = z.frames;
  pages = z.pages;
  threads = e ∙ z.threads;
  workers = z.workers;
  globals = z.globals;
}

store_sized : (h : HeapState) (s : StoreState) → AreSized h.store s → HasSizes h → HasSizes (record h { store = s })
store_sized h s k z = record {
  words = k.words ∙ z.words;
  frames = k.frames ∙ z.frames;
  pages = k.count ∙ z.pages;
  threads = z.threads;
  workers = z.workers;
  globals = z.globals;
}

-- a thread is changed, whose buffer then lies in an open page, and which keeps how many registers it has
pub thread_keeps : (h : HeapState) (t : ℕ) (change : ThreadState → ThreadState) (threads : List ThreadState) → IsHeap h
    → threads ≡ change_at h.threads t change
    → ((x : ThreadState) → FillsIn h.store x → FillsIn h.store (change x))
    → ((x : ThreadState) → length (change x).registers ≡ length x.registers) → IsHeap (record h { threads = threads })
thread_keeps h t change threads i e fills many = record {
  config = i.config;
  sizes = threads_sized h threads (ap length e ∙ length_changed h.threads t change) i.sizes;
  starts = i.starts;
  live = i.live;
  mark = i.mark;
  todo = i.todo;
  sides = i.sides;
  births = i.births;
  buffers = subst (λ ts. Each ts (FillsIn h.store)) (sym e)
      (each_changed (FillsIn h.store) h.threads t change i.buffers fills);
  registers = subst (λ ts. Each ts (HasRegisters h.config)) (sym e)
      (each_changed (HasRegisters h.config) h.threads t change i.registers (λ x k. many x ∙ k));
  idle = i.idle;
}

pub fills_in : (s t : StoreState) (b : Option Buffer) → ((c : Buffer) → LiesIn s c → LiesIn t c) → IfSome b (LiesIn s)
    → IfSome b (LiesIn t)
fills_in s t None h f = f
fills_in s t (Some b) h f = h b f

pub store_keeps : (h : HeapState) (s : StoreState) → IsHeap h → AreSized h.store s → row_sizes s ≡ row_sizes h.store
    → ((c : Buffer) → LiesIn h.store c → LiesIn s c) → (NoneProtected h.store → NoneProtected s)
    → IsHeap (record h { store = s })
store_keeps h s i z r k q = record {
  config = i.config;
  sizes = store_sized h s z i.sizes;
  starts = i.starts ∙ sym r;
  live = i.live ∙ sym r;
  mark = i.mark ∙ sym r;
  todo = i.todo ∙ sym r;
  sides = i.sides;
  births = i.births;
  buffers = λ t x e. fills_in h.store s x.buffer k (i.buffers t x e);
  registers = i.registers;
  idle = λ e. q (i.idle e);
}

-- an object is made: other words in a page, other bits, one more birth
pub birth_keeps : (h : HeapState) (s : StoreState) (b : Buffer) (starts mark todo : List (List Bool))
    → IsHeap h → h.births < h.config.births → AreSized h.store s → row_sizes s ≡ row_sizes h.store → ((c : Buffer) → LiesIn h.store c → LiesIn s c)
    → (NoneProtected h.store → NoneProtected s) → starts ≡ change_at h.starts (b.page - 1) (put_bit b.next true)
    → mark ≡ change_at h.mark (b.page - 1) (put_bit b.next (is_marking h.phase))
    → todo ≡ change_at h.todo (b.page - 1) (put_bit b.next (is_mark_crossing h.phase))
    → IsHeap (record h { store = s; starts = starts; mark = mark; todo = todo; births = h.births + 1 })
birth_keeps h s b starts mark todo i low z r k q e f g = let sizes = store_sized h s z i.sizes in record {
  config = i.config;
  sizes = record {
    words = sizes.words;
    frames = sizes.frames;
    pages = sizes.pages;
    threads = sizes.threads;
    workers = sizes.workers;
    globals = sizes.globals;
  };
  starts = put_row h.starts starts true e i.starts;
  live = i.live ∙ sym r;
  mark = put_row h.mark mark (is_marking h.phase) f i.mark;
  todo = put_row h.todo todo (is_mark_crossing h.phase) g i.todo;
  sides = i.sides;
  births = omega arith;
  buffers = λ t x e. fills_in h.store s x.buffer k (i.buffers t x e);
  registers = i.registers;
  idle = λ e. q (i.idle e);
}
  where
    put_row : (rows new : List (List Bool)) (bit : Bool) → new ≡ change_at rows (b.page - 1) (put_bit b.next bit)
        → AreRowsOf h.store rows → AreRowsOf s new
    put_row rows new bit e k =
        subst (AreRowsOf h.store) (sym e) (rows_put h.store rows (b.page - 1) b.next bit k) ∙ sym r

-- a buffer is taken of the store, and the page that it is the first of gets its rows
pub opened_keeps : (h : HeapState) (s : StoreState) (b : Buffer) (starts live mark todo : List (List Bool)) → IsHeap h
    → TakesWell h.store s b → starts ≡ opened_rows s.words b h.starts → live ≡ opened_rows s.words b h.live
    → mark ≡ opened_rows s.words b h.mark → todo ≡ opened_rows s.words b h.todo
    → IsHeap (record h { store = s; starts = starts; live = live; mark = mark; todo = todo })
opened_keeps h s b starts live mark todo i w e f g k = record {
  config = i.config;
  sizes = record {
    words = w.sized.words ∙ i.sizes.words;
    frames = w.sized.frames ∙ i.sizes.frames;
    pages = w.sized.count ∙ i.sizes.pages;
    threads = i.sizes.threads;
    workers = i.sizes.workers;
    globals = i.sizes.globals;
  };
  starts = opened h.starts starts e i.starts;
  live = opened h.live live f i.live;
  mark = opened h.mark mark g i.mark;
  todo = opened h.todo todo k i.todo;
  sides = i.sides;
  births = i.births;
  buffers = λ t x e. fills_in h.store s x.buffer w.stays (i.buffers t x e);
  registers = i.registers;
  idle = λ e. w.unprotected (i.idle e);
}
  where
    opened : (rows new : List (List Bool)) → new ≡ opened_rows s.words b rows → AreRowsOf h.store rows → AreRowsOf s new
    opened rows new e r = ap (map length) e ∙ by_test (b.next == 0)
        ∙ ap (λ ws. opened_sizes ws b (map length rows)) w.sized.words
        ∙ ap (opened_sizes h.store.words b) r ∙ sym w.rows
      where
        by_test : (c : Bool) → map length (cond c (set rows (b.page - 1) (replicate s.words false)) rows)
            ≡ cond c (set (map length rows) (b.page - 1) s.words) (map length rows)
        by_test true = lengths_set rows (b.page - 1) (replicate s.words false)
            ∙ ap (set (map length rows) (b.page - 1)) (length-replicate s.words false)
        by_test false = refl

-- a row that is placed is what its page has to have
pub opened_by : (words : ℕ) (b : Buffer) (rows : List (List Bool)) (row : List Bool)
    → (b.next ≡ 0 → row ≡ replicate words false)
    → cond (b.next == 0) (set rows (b.page - 1) row) rows ≡ opened_rows words b rows
opened_by words b rows row h = by_test (b.next == 0) refl
  where
    by_test : (c : Bool) → (b.next == 0) ≡ c
        → cond c (set rows (b.page - 1) row) rows ≡ cond c (set rows (b.page - 1) (replicate words false)) rows
    by_test true e = ap (set rows (b.page - 1)) (h (eqb-true b.next 0 e))
    by_test false e = refl

-- what is left of a buffer lies where it did
pub rest_lies : (s : StoreState) (b : Buffer) (n : ℕ) → LiesIn s b → n ≤ b.end - b.next
    → LiesIn s (record b { next = b.next + n })
rest_lies s b n h room = record { page = h.page; order = omega (arith, h.order, room); end = h.end }

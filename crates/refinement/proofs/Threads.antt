-- A thread is changed, or a global: the effect on the address-level model, and that memory stays in order.
use Rattle.std.proofs.Common.{◌≡◌, ℕ, ◌<◌, nat_lt, Bool, length, Some, None, refl, ◌∙◌, ap, arith, Option}
use Rattle.std.specs.List.{slice_get}
use Rattle.std.specs.Option.{option_map}
use Rattle.std.proofs.Math.ListN.{length-set}
use Rattle.std.proofs.lemmas.Option.{none-some}
use mathlib.Core.Path.{fun_ext}
use Rattle.refword.specs.Words.{IsWord}
use Rattle.model.specs.declared.records.Barrier.{Barrier}
use Rattle.model.specs.declared.records.Counter.{Counter}
use Rattle.model.specs.declared.records.Global.{Global}
use Rattle.model.specs.declared.records.Buffer.{Buffer}
use Rattle.model.specs.States.{HeapState, ThreadState, Reference, change_at}
use Rattle.model.specs.Threads.{set_buffer_of, register_in, set_register_of, set_barrier_of, set_loaded_of}
use Rattle.model.specs.Threads.{set_parked_of, buffer_in, has_crossed, is_parked_in}
use Rattle.model.specs.Registers.{register_of, with_register}
use Rattle.model.specs.Buffers.{with_buffer}
use Rattle.model.specs.Loads.{with_barrier, with_loaded}
use Rattle.model.specs.References.{with_global, set_word_of}
use Rattle.model.specs.Checkpoints.{with_parked}
use Rattle.model.proofs.Lists.{get_within, each_changed}
use Rattle.laws.specs.Edits.{set_barrier, end_load, set_global, set_parked}
use Rattle.laws.specs.Effects.{set_register}
use Rattle.refinement.specs.Claims.{Extent, IsLaid, Claim, OfObject, OfBuffer, OfPlan, OfEnd, extent, buffer_extent}
use Rattle.refinement.specs.Worlds.{world_of, as_word, as_barrier, barrier_in, global_in, todo_in}
use Rattle.refinement.specs.Roots.{IsLoad}
use Rattle.refinement.proofs.Claims.{extents_same}
use Rattle.model.proofs.Tables.{length_changed}
use Rattle.refinement.proofs.Changes.{was_read, kept_of, read_changed}
use Rattle.refinement.proofs.Carrying.{Carries, thread_carries, alike}
use Rattle.refinement.proofs.Rooted.{buffer_holds_words, register_holds_words, barrier_holds_words}
use Rattle.refinement.proofs.Rooted.{loaded_holds_words, parked_holds_words}
use Rattle.refinement.proofs.Changes.{register_changed}

-- a change that keeps the number of a thread's registers, and its buffer unless it gives it back
record KeepsShape (f : ThreadState → ThreadState) : Type 0 where
  pub buffer : (y : ThreadState) (b : Buffer) → (f y).buffer ≡ Some b → y.buffer ≡ Some b
  pub size : (y : ThreadState) → length (f y).registers ≡ length y.registers

thread_laid : (h : HeapState) (t : ℕ) (f : ThreadState → ThreadState) → KeepsShape f → IsLaid h
    → IsLaid (record h { threads = change_at h.threads t f })
unfolding register_of
thread_laid h t f k l = record {
  starts = l.starts;
  live = l.live;
  mark = l.mark;
  todo = l.todo;
  sides = l.sides;
  registers =
      each_changed (λ y. length y.registers ≡ h.config.registers) h.threads t f l.registers (λ y e. k.size y ∙ e);
  objects = l.objects;
  apart = λ c d x y e g. l.apart c d x y (had c x e) (had d y g);
  planned = l.planned;
  live_objects = l.live_objects;
  unused = l.unused;
}
  where
    by_buffer : (y : ThreadState) (z : Extent) (o : Option Buffer) → (f y).buffer ≡ o
        → option_map (buffer_extent h.store.words) o ≡ Some z
        → option_map (buffer_extent h.store.words) y.buffer ≡ Some z
    by_buffer y z None e g = absurd (none-some z g)
    by_buffer y z (Some b) e g = ap (option_map (buffer_extent h.store.words)) (k.buffer y b e) ∙ g

    -- a claim's extent was its extent before
    had : (c : Claim) (x : Extent) → extent (record h { threads = change_at h.threads t f }) c ≡ Some x
        → extent h c ≡ Some x
    had (OfObject a) x e = e
    had (OfBuffer u) x e = was_read (λ o. option_map (buffer_extent h.store.words) (buffer_in o)) h.threads t f
        (λ y z g. by_buffer y z (f y).buffer refl g) u x e
    had (OfPlan a) x e = e
    had (OfEnd n) x e = e

module _ (h : HeapState) (t : ℕ) (x : ThreadState) (at : slice_get h.threads t ≡ Some x) where
  -- a register gets a reference
  register_world : (r : ℕ) (w : Reference) → r < length x.registers
      → world_of (with_register h t r w) ≡ set_register t r (as_word w) (world_of h)
  unfolding with_register register_of
  register_world r w k = λ z. record (world_of h) {
    register = fun_ext (λ u. fun_ext (register_changed h.threads t r w (set_register_of r w) x at k refl u)) z;
    crossed = fun_ext (kept_of has_crossed h.threads t (set_register_of r w) (λ y. refl)) z;
    parked = fun_ext (kept_of is_parked_in h.threads t (set_register_of r w) (λ y. refl)) z;
    barrier = fun_ext (kept_of barrier_in h.threads t (set_register_of r w) (λ y. refl)) z;
  }

  pub register_carries : (r : ℕ) (w : Reference) → IsLaid h → IsWord w → r < h.config.registers
      → Carries h (with_register h t r w) (set_register t r (as_word w))
  unfolding with_register
  register_carries r w l word low = thread_carries h t (set_register_of r w) (set_register t r (as_word w))
      (thread_laid h t (set_register_of r w)
      (record { buffer = λ y b e. e; size = λ y. length-set y.registers r w }))
      (λ y. register_holds_words h.config.registers r w y word)
      (register_world r w (omega (arith, low, l.registers t x at)))

  -- a barrier is opened or changed; the address-level model has no counters
  barrier_world : (b : Barrier) (c : Counter) → world_of (with_barrier h t b c)
      ≡ set_barrier t (as_barrier b) (world_of h)
  unfolding with_barrier register_of
  barrier_world b c = λ z. record (world_of h) {
    register = fun_ext (λ u. fun_ext
        (λ s. kept_of (λ o. as_word (register_in o s)) h.threads t (set_barrier_of b c) (λ y. refl) u)) z;
    crossed = fun_ext (kept_of has_crossed h.threads t (set_barrier_of b c) (λ y. refl)) z;
    parked = fun_ext (kept_of is_parked_in h.threads t (set_barrier_of b c) (λ y. refl)) z;
    barrier = fun_ext (read_changed barrier_in h.threads t (set_barrier_of b c) x (Some (as_barrier b)) at refl) z;
  }

  pub barrier_carries : (b : Barrier) (c : Counter) → IsLoad h.config.registers b
      → Carries h (with_barrier h t b c) (set_barrier t (as_barrier b))
  unfolding with_barrier
  barrier_carries b c load = thread_carries h t (set_barrier_of b c) (set_barrier t (as_barrier b))
      (thread_laid h t (set_barrier_of b c) (record { buffer = λ y b e. e; size = λ y. refl }))
      (λ y. barrier_holds_words h.config.registers b c y load) (barrier_world b c)

  -- a load ends
  loaded_world : (r : ℕ) (w : Reference) → r < length x.registers
      → world_of (with_loaded h t r w) ≡ end_load t r (as_word w) (world_of h)
  unfolding with_loaded register_of
  loaded_world r w k = λ z. record (world_of h) {
    register = fun_ext (λ u. fun_ext (register_changed h.threads t r w (set_loaded_of r w) x at k refl u)) z;
    crossed = fun_ext (kept_of has_crossed h.threads t (set_loaded_of r w) (λ y. refl)) z;
    parked = fun_ext (kept_of is_parked_in h.threads t (set_loaded_of r w) (λ y. refl)) z;
    barrier = fun_ext (read_changed barrier_in h.threads t (set_loaded_of r w) x None at refl) z;
  }

  pub loaded_carries : (r : ℕ) (w : Reference) → IsLaid h → IsWord w → r < h.config.registers
      → Carries h (with_loaded h t r w) (end_load t r (as_word w))
  unfolding with_loaded
  loaded_carries r w l word low = thread_carries h t (set_loaded_of r w) (end_load t r (as_word w))
      (thread_laid h t (set_loaded_of r w) (record { buffer = λ y b e. e; size = λ y. length-set y.registers r w }))
      (λ y. loaded_holds_words h.config.registers r w y word)
      (loaded_world r w (omega (arith, low, l.registers t x at)))

  -- a thread is parked, or runs again
  parked_world : (b : Bool) → world_of (with_parked h t b) ≡ set_parked t b (world_of h)
  unfolding with_parked register_of
  parked_world b = λ z. record (world_of h) {
    register = fun_ext (λ u.
        fun_ext (λ s. kept_of (λ o. as_word (register_in o s)) h.threads t (set_parked_of b) (λ y. refl) u)) z;
    crossed = fun_ext (kept_of has_crossed h.threads t (set_parked_of b) (λ y. refl)) z;
    parked = fun_ext (read_changed is_parked_in h.threads t (set_parked_of b) x b at refl) z;
    barrier = fun_ext (kept_of barrier_in h.threads t (set_parked_of b) (λ y. refl)) z;
  }

  pub parked_carries : (b : Bool) → Carries h (with_parked h t b) (set_parked t b)
  unfolding with_parked
  parked_carries b = thread_carries h t (set_parked_of b) (set_parked t b)
      (thread_laid h t (set_parked_of b) (record { buffer = λ y b e. e; size = λ y. refl }))
      (parked_holds_words h.config.registers b) (parked_world b)

  -- a buffer is given back
  buffer_world : (b : Option Buffer) → world_of (with_buffer h t b) ≡ world_of h
  unfolding with_buffer register_of
  buffer_world b = λ z. record (world_of h) {
    register = fun_ext (λ u.
        fun_ext (λ s. kept_of (λ o. as_word (register_in o s)) h.threads t (set_buffer_of b) (λ y. refl) u)) z;
    crossed = fun_ext (kept_of has_crossed h.threads t (set_buffer_of b) (λ y. refl)) z;
    parked = fun_ext (kept_of is_parked_in h.threads t (set_buffer_of b) (λ y. refl)) z;
    barrier = fun_ext (kept_of barrier_in h.threads t (set_buffer_of b) (λ y. refl)) z;
  }

  pub given_back_carries : Carries h (with_buffer h t None) (λ w. w)
  unfolding with_buffer
  given_back_carries = thread_carries h t (set_buffer_of None) (λ w. w)
      (thread_laid h t (set_buffer_of None) (record { buffer = λ y b e. absurd (none-some b e); size = λ y. refl }))
      (buffer_holds_words h.config.registers None) (buffer_world None)

-- a global gets a reference
global_world : (h : HeapState) (g : ℕ) (x : Global) (w : Reference) → slice_get h.globals g ≡ Some x
    → world_of (with_global h g w) ≡ set_global g (as_word w) (world_of h)
unfolding with_global register_of
global_world h g x w at = λ z. record (world_of h) {
  is_global = fun_ext (λ n. ap (nat_lt n) (length_changed h.globals g (set_word_of w))) z;
  global = fun_ext (read_changed global_in h.globals g (set_word_of w) x (as_word w) at refl) z;
  global_todo = fun_ext (kept_of todo_in h.globals g (set_word_of w) (λ y. refl)) z;
}

global_laid : (h : HeapState) (g : ℕ) (w : Reference) → IsLaid h → IsLaid (with_global h g w)
unfolding with_global register_of
global_laid h g w l = record {
  starts = l.starts;
  live = l.live;
  mark = l.mark;
  todo = l.todo;
  sides = l.sides;
  registers = l.registers;
  objects = l.objects;
  apart = extents_same (extent h) _ l.apart extents;
  planned = l.planned;
  live_objects = l.live_objects;
  unused = l.unused;
}
  where
    extents : (c : Claim) → extent (record h { globals = change_at h.globals g (set_word_of w) }) c ≡ extent h c
    extents (OfObject a) = refl
    extents (OfBuffer u) = refl
    extents (OfPlan a) = refl
    extents (OfEnd n) = refl

pub global_carries : (h : HeapState) (g : ℕ) (w : Reference) → IsWord w → g < length h.globals
    → Carries h (with_global h g w) (set_global g (as_word w))
unfolding with_global
global_carries h g w word low = record {
  size = alike h (record h { globals = change_at h.globals g (set_word_of w) }) refl refl refl refl refl refl
      (length_changed h.globals g (set_word_of w));
  laid = global_laid h g w;
  given = λ z. z;
  words = λ z. record {
    threads = z.threads;
    globals = each_changed (λ x. IsWord x.word) h.globals g (set_word_of w) z.globals (λ x e. word);
  };
  world = let (x, at) = get_within h.globals g low in global_world h g x w at;
}

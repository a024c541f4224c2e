-- A buffer that a thread took is its own.
use Rattle.std.proofs.Common.{◌≡◌, ℕ, ◌<◌, ◌-◌, Bool, true, false, cond, nat_le, length, List, replicate, set}
use Rattle.std.proofs.Common.{Option, Some, None, is_some, refl, sym, ap, ◌∙◌}
use Rattle.std.specs.Prelude.{◌==◌}
use Rattle.std.specs.Prelude.{Result, Ok, Err, if◌then◌else◌}
use Rattle.std.specs.List.{slice_get}
use Rattle.std.proofs.lemmas.Bool.{or_parts, leb-false}
use Rattle.model.specs.declared.records.Buffer.{Buffer}
use Rattle.model.specs.declared.records.Room.{Room}
use Rattle.model.specs.declared.records.Room.TheVariants.{NoFrames, NoPages, NoMemory}
use Rattle.model.specs.declared.steps.Answer.TheVariants as answers
use Rattle.model.specs.declared.steps.Refusal.TheVariants as refusals
use Rattle.model.specs.Buffers.{buffer_of_thread, opened_rows, take_outcome, take_result, lend_buffer}
use Rattle.model.specs.Protections.{with_target}
use Rattle.model.specs.Stores.{StoreState, TakesOrLacks, take_buffer}
use Rattle.page.specs.Records.{begins_page}
use Rattle.page.proofs.Lying.{page_begun}
use Rattle.heap.proofs.Keeping.{opened_by}
use Rattle.model.specs.declared.steps.Refusal.{Refusal}
use Rattle.model.specs.declared.steps.Step.{Step}
use Rattle.model.specs.Outcome.{is_for_workers, thread_gate, Passes}
use Rattle.model.specs.States.{HeapState, ThreadState, change_at, change_found}
use Rattle.model.specs.Threads.{buffer_in, set_buffer_of}
use Rattle.model.proofs.Lists.{get_set_same, get_within}

past_first : (b : Bool) (e : Refusal) (rest : Result Unit Refusal) → (if b then Err e else rest) ≡ Ok tt → b ≡ false
past_first false e rest h = refl
past_first true e rest h = absurd cc

-- a thread whose step has passed its first tests is there
pub thread_there : (h : HeapState) (t : ℕ) (s : Step) → Passes h t s → t < length h.threads
unfolding thread_gate
thread_there h t s passes = leb-false (length h.threads) t
    (or_parts (nat_le (length h.threads) t) (is_for_workers s) (past_first _ _ _ passes)).0

-- behind a buffer that was lent to it, that is the thread's
pub threads_lent : (threads : List ThreadState) (t : ℕ) (b : Buffer) → t < length threads
    → buffer_in (slice_get (change_at threads t (set_buffer_of (Some b))) t) ≡ Some b
threads_lent threads t b there = by_thread (slice_get threads t) refl
  where
    by_thread : (o : Option ThreadState) → slice_get threads t ≡ o
        → buffer_in (slice_get (change_found threads t o (set_buffer_of (Some b))) t) ≡ Some b
    by_thread None e =
        let at = get_within threads t there in absurd (let k : None ≡ Some at.0 = sym e ∙ at.1 in cc)
    by_thread (Some x) e = ap buffer_in (get_set_same threads t x (set_buffer_of (Some b) x) e)

-- a store that gave nothing out is as it was
pub refused_same : (s t : StoreState) (e : Room) (o : Result (StoreState × Buffer) Room) → TakesOrLacks s (Err e) t o
    → t ≡ s
refused_same s t NoFrames o h = h.1
refused_same s t NoPages o h = h.1
refused_same s t NoMemory o h = h

-- the rows that were made ready are those of the page, where the buffer is its first
pub taken_rows : (s t : StoreState) (n : ℕ) (b : Buffer) (rows : List (List Bool)) (row : List Bool)
    → take_buffer s n ≡ Ok (t, b) → t.words ≡ s.words → (begins_page s n ≡ true → row ≡ replicate s.words false)
    → cond (b.next == 0) (set rows (b.page - 1) row) rows ≡ opened_rows t.words b rows
taken_rows s t n b rows row e w clear = opened_by t.words b rows row
    (λ z. clear (page_begun s t n b e z) ∙ ap (λ k. replicate k false) (sym w))

-- a thread takes a buffer
pub took : (h : HeapState) (t n : ℕ) (s : StoreState) (b : Buffer) (starts live mark todo : List (List Bool))
    (threads : List ThreadState) → is_some (buffer_of_thread h t) ≡ false → take_buffer h.store n ≡ Ok (s, b)
    → starts ≡ opened_rows s.words b h.starts → live ≡ opened_rows s.words b h.live
    → mark ≡ opened_rows s.words b h.mark → todo ≡ opened_rows s.words b h.todo
    → threads ≡ change_at h.threads t (set_buffer_of (Some b))
    → take_outcome h t n ≡ Ok (
      record h {
        store = s;
        starts = starts;
        live = live;
        mark = mark;
        todo = todo;
        threads = threads;
      },
      answers.Lent b.page b.next,
    )
unfolding take_outcome lend_buffer
took h t n s b starts live mark todo threads none e f g k l m =
    ap (λ c. cond c (Err refusals.HasBuffer) (take_result h t (take_buffer h.store n))) none
    ∙ ap (take_result h t) e ∙ λ z. Ok (
      record h {
        store = s;
        starts = sym f z;
        live = sym g z;
        mark = sym k z;
        todo = sym l z;
        threads = sym m z;
      },
      answers.Lent b.page b.next,
    )

-- a target is opened
pub opened_target : (h : HeapState) (s : StoreState) (b : Buffer) (starts live mark todo : List (List Bool))
    → starts ≡ opened_rows s.words b h.starts → live ≡ opened_rows s.words b h.live
    → mark ≡ opened_rows s.words b h.mark → todo ≡ opened_rows s.words b h.todo
    → record h { store = s; starts = starts; live = live; mark = mark; todo = todo } ≡ with_target h (s, b)
unfolding with_target
opened_target h s b starts live mark todo f g k l =
    λ z. record h { store = s; starts = f z; live = g z; mark = k z; todo = l z }

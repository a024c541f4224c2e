-- Steps that take a buffer, or give it back.
use Rattle.std.proofs.Common.{replicate, ◌≡◌, ◌≢◌, ◌⊎◌, inl, inr, ℕ, ◌-◌, ◌<◌, ◌≤◌, ◌==◌, Bool, false, cond, nat_eq}
use Rattle.std.proofs.Common.{nat_lt, List, set, is_some, Some, None, refl, sym, ◌∙◌, ap, subst, arith, ne_eqb}
use Rattle.std.specs.List.{slice_get}
use Rattle.std.specs.Prelude.{Ok, Err, Result}
use Rattle.std.proofs.Math.ListN.{length-set}
use Rattle.std.proofs.lemmas.Bool.{ltb-false}
use Rattle.model.specs.declared.steps.Actor.TheVariants.{Thread}
use Rattle.model.specs.declared.steps.Step.TheVariants as steps
use Rattle.model.specs.declared.steps.Answer.{Answer}
use Rattle.model.specs.declared.steps.Answer.TheVariants as answers
use Rattle.model.specs.declared.records.Page.{Page}
use Rattle.model.specs.declared.records.Buffer.{Buffer}
use Rattle.model.specs.declared.records.Room.{Room}
use Rattle.model.specs.declared.records.Room.TheVariants.{NoFrames, NoPages, NoMemory}
use Rattle.model.specs.Stores.{StoreState, take_buffer, open_fresh, fresh_page, buffer_of}
use Rattle.model.specs.Owning.{Each, IsStore}
use Rattle.model.specs.Holding.{IsHeap}
use Rattle.model.specs.States.{HeapState, ThreadState}
use Rattle.model.specs.Threads.{buffer_in}
use Rattle.model.specs.Buffers.{buffer_of_thread, opened_rows, take_outcome, take_result, lend_buffer}
use Rattle.model.specs.Buffers.{give_back_outcome}
use Rattle.model.specs.Plain.{PlainHeap, plain_step, plain_answer}
use Rattle.model.proofs.Lists.{get_set, get_set_other, no_some}
use Rattle.page.proofs.Keeping.{given_at, opened_at}
use Rattle.laws.specs.Transitions.{TakeFresh}
use Rattle.laws.specs.Invariant.{SoundObjects, SoundMarks}
use Rattle.laws.specs.Edits.{open_page}
use Rattle.refinement.specs.Worlds.{world_of}
use Rattle.refinement.specs.Claims.{HasGiven, IsLaid}
use Rattle.refinement.specs.Standing.{Holds}
use Rattle.refinement.proofs.Accepted.{OnAccepted, on_test, on_truth}
use Rattle.refinement.proofs.Carrying.{Carries, RowHolds, step_by, stays, unseen, alike, unseen_by}
use Rattle.refinement.proofs.Taken.{InOpenPage, InFreshPage, ways}
use Rattle.refinement.proofs.Granted.{MayGrant, granted, granted_carries, with_more}
use Rattle.refinement.proofs.Opened.{MayOpen, opened_heap, opened_world, opened_laid, on_page, was_unused}
use Rattle.refinement.proofs.Verdicts.{Passed, first_false, second_false}
use Rattle.refinement.proofs.Threads.{given_back_carries}

-- a property of each element, and of the last of two that are written to one index
pub each_set_again : {X : Type 0} (P : X → Type 0) (xs : List X) (i : ℕ) (v w : X) → Each xs P → P w
    → Each (set (set xs i v) i w) P
each_set_again P xs i v w h q j y e = go (get_set (set xs i v) i j w y e)
  where
    go : ((j ≡ i) × (w ≡ y)) ⊎ ((j ≢ i) × (slice_get (set xs i v) j ≡ Some y)) → P y
    go (inl (a, b)) = subst P b q
    go (inr (a, b)) = h j y (sym (get_set_other xs i j v a) ∙ b)

-- bitmaps stay if the buffer isn't the first of its page
same_rows : (words : ℕ) (b : Buffer) (rows : List (List Bool)) → 0 < b.next → opened_rows words b rows ≡ rows
same_rows words b rows low =
    ap (λ c. cond c (set rows (b.page - 1) (replicate words false)) rows) (ne_eqb b.next 0
    (λ e. absurd (omega (arith, e, low))))

lent_open : (h : HeapState) (t i : ℕ) (p : Page) (n : ℕ) → 0 < p.top → lend_buffer h t
    (record h.store { pages = set h.store.pages i (with_more p n) }) (buffer_of i p.top n) ≡ granted h t i p n
unfolding lend_buffer
lent_open h t i p n low = λ z. record (granted h t i p n) {
  starts = same_rows h.store.words (buffer_of i p.top n) h.starts low z;
  live = same_rows h.store.words (buffer_of i p.top n) h.live low z;
  mark = same_rows h.store.words (buffer_of i p.top n) h.mark low z;
  todo = same_rows h.store.words (buffer_of i p.top n) h.todo low z;
}

pub blank_rows : (words i n : ℕ) (rows : List (List Bool))
    → opened_rows words (buffer_of i 0 n) rows ≡ set rows i (replicate words false)
blank_rows words i n rows = ap (λ j. set rows j (replicate words false)) (omega arith)

lent_fresh : (h : HeapState) (t i f n : ℕ)
    → lend_buffer h t (record (open_fresh h.store i f) {
      pages =
          set (open_fresh h.store i f).pages i (with_more (fresh_page f) n);
    })
    (buffer_of i 0 n) ≡ granted (opened_heap h i f) t i (fresh_page f) n
unfolding lend_buffer open_fresh
lent_fresh h t i f n = λ z. record (granted (opened_heap h i f) t i (fresh_page f) n) {
  starts = blank_rows h.store.words i n h.starts z;
  live = blank_rows h.store.words i n h.live z;
  mark = blank_rows h.store.words i n h.mark z;
  todo = blank_rows h.store.words i n h.todo z;
}

-- a thread gets words of an unused page, which opens
fresh_carries : {h : HeapState} (s : IsStore h.store) (d : IsHeap h) (l : IsLaid h) (o : SoundObjects (world_of h))
    (m : SoundMarks (world_of h)) {i f : ℕ} {q : Page} (w : MayOpen h i f q) (t n : ℕ) (x : ThreadState)
    → slice_get h.threads t ≡ Some x → x.buffer ≡ None → 0 < n → n ≤ h.store.words
    → Carries h (granted (opened_heap h i f) t i (fresh_page f) n) (open_page (on_page h i))
unfolding open_fresh
fresh_carries {h = h} s d l o m {i = i} {f = f} {q = q} w t n x at had low room =
    let laid = opened_laid s d.buffers l o m w in
    let may : MayGrant (opened_heap h i f) t i (fresh_page f) n x = record {
      at = opened_at h.store i f q w.at;
      is_so = refl;
      room = omega (arith, room);
      thread = at;
      had = had;
      low = low;
    } in
    let c = granted_carries laid may in
    record {
      size = alike h (granted (opened_heap h i f) t i (fresh_page f) n) refl refl
          (length-set h.store.frames f (replicate h.store.words 0)) refl c.size.threads refl refl;
      laid = λ z. c.laid laid;
      given = λ z. each_set_again HasGiven h.store.pages i (fresh_page f) (with_more (fresh_page f) n) z
          (λ e. omega (arith, low));
      words = λ w. c.words (record { threads = w.threads; globals = w.globals });
      world = c.world ∙ opened_world s d.buffers l o m w;
    }

-- the thread gets what the store gave out
on_took : (h : HeapState) (t : ℕ) (r : Result (StoreState × Buffer) Room) (P : HeapState × Answer → Type 0)
    → ((z : StoreState × Buffer) → r ≡ Ok z → P (lend_buffer h t z.0 z.1, answers.Lent z.1.page z.1.next))
    → OnAccepted P (take_result h t r)
on_took h t (Ok z) P f = f z refl
on_took h t (Err NoFrames) P f = tt
on_took h t (Err NoPages) P f = tt
on_took h t (Err NoMemory) P f = tt

module _ {h : HeapState} {p p0 : PlainHeap} (s : IsStore h.store) (d : IsHeap h) (k : Holds h p p0) (t : ℕ) where
  lent_holds : (n : ℕ) (x : ThreadState) → slice_get h.threads t ≡ Some x → x.buffer ≡ None → 0 < n
      → n ≤ h.store.words → (z : StoreState × Buffer) → InOpenPage h.store n z ⊎ InFreshPage h.store n z
      → Holds (lend_buffer h t z.0 z.1) p p0
  lent_holds n x at had low high z (inl w) =
      let may : MayGrant h t w.index w.page n x =
      record { at = w.at; is_so = w.is_so; room = w.room; thread = at; had = had; low = low } in
      let same :
      (record h.store { pages = set h.store.pages w.index (with_more w.page n) }, buffer_of w.index w.page.top n)
      ≡ z = sym (given_at h.store w.index n w.page w.at) ∙ w.is in
      subst (λ (z : StoreState × Buffer). Holds (lend_buffer h t z.0 z.1) p p0) same
      (subst (λ g. Holds g p p0) (sym (lent_open h t w.index w.page n (k.given w.index w.page w.at w.is_so)))
      (unseen (granted_carries k.laid may) k))
  lent_holds n x at had low high z (inr w) =
      let there = opened_at h.store w.index w.frame w.page w.at in
      let o = k.invariant.objects in
      let m = k.invariant.marks in
      let may : MayOpen h w.index w.frame w.page = record { at = w.at; unused = w.unused; free = w.free } in
      let same : (
        record (open_fresh h.store w.index w.frame) {
          pages = set (open_fresh h.store w.index w.frame).pages w.index (with_more (fresh_page w.frame) n);
        },
        buffer_of w.index 0 n,
      ) ≡ z = sym (given_at (open_fresh h.store w.index w.frame) w.index n (fresh_page w.frame) there) ∙ w.is in
      subst (λ (z : StoreState × Buffer). Holds (lend_buffer h t z.0 z.1) p p0) same
      (subst (λ g. Holds g p p0) (sym (lent_fresh h t w.index w.frame n)) (step_by k
      (fresh_carries s d k.laid o m may t n x at had low high) (stays h p)
      (TakeFresh (on_page h w.index) (was_unused s d.buffers k.laid o m may))))

  -- a buffer is taken
  pub take_holds : (n : ℕ) → Passed h t (steps.Take n) → RowHolds h p p0 (Thread t) (steps.Take n) (take_outcome h t n)
  unfolding take_outcome plain_step plain_answer lend_buffer
  take_holds n g = on_test (is_some (buffer_of_thread h t)) _ _ _ (λ none.
      on_took h t (take_buffer h.store n) _ (λ z ok.
      let had = no_some g.thread.buffer (ap (λ o. is_some (buffer_in o)) (sym g.there) ∙ none) in
      let low = positive n (first_false (n == 0) (nat_lt h.store.words n) g.indices) in
      let high = ltb-false h.store.words n (second_false (n == 0) (nat_lt h.store.words n) g.indices) in
      record {
        config = refl;
        holds = lent_holds n g.thread g.there had low high z (ways h.store n z s low ok);
        answers = tt;
      }))
    where
      positive : (n : ℕ) → nat_eq n 0 ≡ false → 0 < n
      positive n e = grind arith

module _ {h : HeapState} {p p0 : PlainHeap} (s : IsStore h.store) (d : IsHeap h) (k : Holds h p p0) (t : ℕ) where
  -- a buffer is given back
  pub give_back_holds : Passed h t steps.GiveBack → RowHolds h p p0 (Thread t) steps.GiveBack (give_back_outcome h t)
  unfolding give_back_outcome plain_step plain_answer
  give_back_holds g = on_truth (is_some (buffer_of_thread h t)) _ _ _
      (λ e. unseen_by k (given_back_carries h t g.thread g.there) tt)

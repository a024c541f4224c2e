-- References to protected pages are corrected: by the traps of a load, and in registers. A trap is never due twice.
use Rattle.std.proofs.Common.{◌≡◌, inl, inr, ℕ, ◌/◌, Bool, true, false, cond, Option, Some, None, refl, sym, ◌∙◌}
use Rattle.std.proofs.Common.{ap, subst}
use Rattle.std.specs.List.{slice_get}
use Rattle.std.specs.Prelude.{Ok}
use Rattle.std.proofs.lemmas.Bool.{true≢false}
use Rattle.model.specs.declared.records.Barrier.{Barrier}
use Rattle.model.specs.declared.records.Counter.TheVariants as counters
use Rattle.model.specs.declared.records.Forwarding.{Forwarding}
use Rattle.model.specs.declared.records.Phase.{Phase}
use Rattle.model.specs.declared.records.Phase.TheVariants.{Idle, MarkCrossing, Scanning, ProtectCrossing, Relocating}
use Rattle.model.specs.declared.steps.Actor.TheVariants.{Thread}
use Rattle.model.specs.declared.steps.Step.TheVariants as steps
use Rattle.model.specs.Phases.{is_marking}
use Rattle.model.specs.Stores.{page_at, state_at, is_protected, with_words}
use Rattle.model.specs.Owning.{IsStore}
use Rattle.model.specs.Holding.{IsHeap}
use Rattle.model.specs.States.{HeapState, ThreadState, Reference}
use Rattle.model.specs.Threads.{has_crossed}
use Rattle.model.specs.Registers.{register_of, let_through, held_back}
use Rattle.model.specs.Marks.{entry_at, forward_by, resolve, with_mark, marked_word}
use Rattle.model.specs.Loads.{with_barrier, barrier_of_thread, is_refused, gc_trap_due, nmt_trap_due}
use Rattle.model.specs.Moves.{with_copied_words, with_copy, copied_by, copied_first, copied_for, place_by, moved_word}
use Rattle.model.specs.Traps.{trap_outcome, scrub_outcome}
use Rattle.model.specs.Plain.{PlainHeap}
use Rattle.laws.specs.AddressHeap.{To, names}
use Rattle.laws.proofs.Barriers.{pending_kept}
use Rattle.refinement.specs.Worlds.{world_of, as_word, as_barrier}
use Rattle.refinement.specs.Worlds as worlds
use Rattle.refinement.specs.PlainHeaps.{births_of}
use Rattle.refinement.specs.Standing.{Holds}
use Rattle.refinement.proofs.Accepted.{on_some, on_either}
use Rattle.refinement.proofs.Carrying.{RowHolds}
use Rattle.refinement.proofs.Loads.{nmt_holds, opened, marks_run}
use Rattle.refinement.proofs.Marks.{as_entry}
use Rattle.refinement.proofs.Copies.{same_entry}
use Rattle.refinement.proofs.Moving.{Leads, leads, held_protected, gc_holds, scrub_word_holds}
use Rattle.refinement.proofs.Verdicts.{Passed, is_register}

-- an address that isn't on a protected page may be used
free_there : (t : ℕ) (g : HeapState) (a : ℕ) → is_protected (state_at g.store (a / g.store.words)) ≡ false
    → is_refused (let_through g t a) ≡ false
unfolding let_through
free_there t g a e = rw e refl

module _ {h : HeapState} {p p0 : PlainHeap} (k : Holds h p p0) (t : ℕ) where
  -- while a mark runs, an address that a thread may use isn't on a protected page
  not_held : (a : ℕ) → is_refused (let_through h t a) ≡ false → is_marking h.phase ≡ true
      → is_protected (state_at h.store (a / h.store.words)) ≡ false
  unfolding let_through
  not_held a f m = by_test (is_protected (state_at h.store (a / h.store.words))) f
    where
      by_phase : (f : Phase) (c : Bool) → is_marking f ≡ true → is_refused (held_back f c) ≡ false → ⊥
      by_phase MarkCrossing c m e = true≢false e
      by_phase Scanning c m e = true≢false e
      by_phase Idle c m e = absurd (cc)
      by_phase ProtectCrossing c m e = absurd (cc)
      by_phase Relocating c m e = absurd (cc)

      by_test : (b : Bool)
          → is_refused (cond b (held_back h.phase (has_crossed (slice_get h.threads t))) (Ok tt)) ≡ false → b ≡ false
      by_test false e = refl
      by_test true e = absurd (by_phase h.phase (has_crossed (slice_get h.threads t)) m e)

  -- an address on a page that isn't protected is resolved to itself
  stays_there : (a : ℕ) → is_protected (state_at h.store (a / h.store.words)) ≡ false → resolve h a ≡ a
  unfolding resolve
  stays_there a free = by_entry (entry_at h a) refl
    where
      by_entry : (o : Option Forwarding) → entry_at h a ≡ o → forward_by o a ≡ a
      by_entry None e = refl
      by_entry (Some f) e = by_copied f.copied refl
        where
          by_copied : (b : Bool) → f.copied ≡ b → cond b f.to a ≡ a
          by_copied false c = refl
          by_copied true c = absurd (true≢false (sym (k.invariant.objects.copied_from a f.to
              (same_entry h a ∙ ap as_entry e ∙ ap (λ b. worlds.entry_of b f.to) c)) ∙ free))

  -- nothing is copied for a reference whose address may be used
  pub copies_nothing : (v : Reference) → gc_trap_due h t v ≡ false → is_marking h.phase ≡ true → copied_for h v ≡ h
  unfolding copied_for copied_first
  copies_nothing None f m = refl
  copies_nothing (Some (a, bit)) f m = by_entry (entry_at h a) refl
    where
      by_entry : (o : Option Forwarding) → entry_at h a ≡ o → copied_by h a o ≡ h
      by_entry None e = refl
      by_entry (Some f') e = by_copied f'.copied refl
        where
          by_copied : (b : Bool) → f'.copied ≡ b → cond b h (with_copy h a f'.to) ≡ h
          by_copied true c = refl
          by_copied false c = absurd (true≢false (sym (ap is_protected
              (k.invariant.objects.planned_from a f'.to
              (same_entry h a ∙ ap as_entry e ∙ ap (λ b. worlds.entry_of b f'.to) c))) ∙ not_held a f m))

  -- after an NMT trap none is due
  pub marked_free : (b c : Barrier) → gc_trap_due h t b.now ≡ false → nmt_trap_due h t b.now ≡ true
      → gc_trap_due (with_barrier (with_mark (copied_for h b.now) b.now) t c counters.Nmt) t
      (marked_word (copied_for h b.now) b.now) ≡ false
  unfolding with_barrier with_mark marked_word
  marked_free b c free due =
      subst (λ g. gc_trap_due (with_barrier (with_mark g b.now) t c counters.Nmt) t (marked_word g b.now) ≡ false)
      (sym (copies_nothing b.now free (marks_run h t b.now due))) (by_word b.now free (marks_run h t b.now due))
    where
      by_word : (v : Reference) → gc_trap_due h t v ≡ false → is_marking h.phase ≡ true
          → gc_trap_due (with_barrier (with_mark h b.now) t c counters.Nmt) t (marked_word h v) ≡ false
      by_word None f m = refl
      by_word (Some (a, bit)) f m =
          let unprotected = not_held a f m in
          free_there t (with_barrier (with_mark h b.now) t c counters.Nmt) (resolve h a)
          (subst (λ n. is_protected (state_at h.store (n / h.store.words)) ≡ false) (sym (stays_there a unprotected))
          unprotected)

module _ {h : HeapState} {p p0 : PlainHeap} (s : IsStore h.store) (d : IsHeap h) (k : Holds h p p0) (t : ℕ) where
  -- a load's reference is forwarded, or marked, or neither is due
  pub trap_holds : (x : ThreadState) → slice_get h.threads t ≡ Some x
      → RowHolds h p p0 (Thread t) steps.Trap (trap_outcome h t)
  unfolding trap_outcome
  trap_holds x at = on_some (barrier_of_thread h t) _ _ _ (λ b first.
      on_either (gc_trap_due h t b.now) _ _ _ (gc_holds s k d t x at b first) (λ clear. nmt_holds s d k t x at b first))

  -- after a GC trap none is due: its reference leads to an open page
  pub moved_free : (x : ThreadState) → slice_get h.threads t ≡ Some x → (b c : Barrier) (w : ℕ × Bool)
      → barrier_of_thread h t ≡ Some b → b.now ≡ Some w → gc_trap_due h t b.now ≡ true
      → gc_trap_due (with_barrier (copied_first h w.0) t c counters.Gc) t (Some (moved_word h w)) ≡ false
  unfolding with_barrier moved_word with_copy with_copied_words with_words state_at page_at
  moved_free x at b c (a, bit) first e due =
      let word : as_word b.now ≡ To a bit = ap as_word e in
      let open_load = opened s d k t x at b first in
      let z = leads s k a bit open_load.pending.1 (ap (names (world_of h)) (sym word) ∙ open_load.barrier.now.names)
      (pending_kept (world_of h) (births_of p) t (as_barrier b) open_load)
      (held_protected h t a (subst (λ v. gc_trap_due h t v ≡ true) e due)) in
      free_there t (with_barrier (copied_first h a) t c counters.Gc) (place_by (entry_at h a) a)
      (subst (λ n. is_protected (state_at (copied_first h a).store (n / (copied_first h a).store.words)) ≡ false)
      (sym z.word) (same_state z))
    where
      Free : HeapState → ℕ → Type 0
      Free g n = is_protected (state_at g.store (n / g.store.words)) ≡ false

      same_state : (z : Leads s k a) → Free (copied_first h a) z.place
      same_state z = elim z.how [
        | inl (copied, same) ↦ subst (λ (g : HeapState). Free g z.place) (sym same) (ap is_protected z.on_open)
        | inr (q, plan, here, same) ↦ subst (λ (g : HeapState). Free g z.place) (sym same) (ap is_protected z.on_open)
      ]

  -- a register is corrected, or needs no correction
  pub scrub_holds : (r : ℕ) → Passed h t (steps.Scrub r)
      → RowHolds h p p0 (Thread t) (steps.Scrub r) (scrub_outcome h t r)
  unfolding scrub_outcome
  scrub_holds r g = on_some (register_of h t r) _ _ _ (λ w is.
      scrub_word_holds s k d t g.thread g.there r w.0 w.1 (g.closed refl) (is_register h r g.indices) is)

-- A thread crosses a checkpoint: its registers are marked, and the last crossing begins the next phase.
use Rattle.std.proofs.Common.{◌≡◌, ◌≢◌, inl, inr, ℕ, zero, suc, ◌<◌, ◌≤◌, true, false, cond, not, length}
use Rattle.std.proofs.Common.{is_none, List, Option, Some, None, refl, sym, ◌∙◌, ap, subst, arith}
use mathlib.Core.Path.{fun_ext}
use Rattle.std.specs.List.{slice_get}
use Rattle.std.proofs.lemmas.Option.{slice_get_within, slice_get_past}
use Rattle.std.proofs.lemmas.Bool.{true≢false, not-false, not-true}
use Rattle.model.specs.declared.config.Config.{Config}
use Rattle.model.specs.declared.records.Phase.{Phase}
use Rattle.model.specs.declared.records.Phase.TheVariants.{Idle, MarkCrossing, Scanning, ProtectCrossing, Relocating}
use Rattle.model.specs.Phases.{is_marking, is_crossing, is_mark_crossing}
use Rattle.model.specs.Owning.{IsStore}
use Rattle.model.specs.States.{HeapState, ThreadState, flat, change_at}
use Rattle.model.specs.Threads.{register_in, set_crossed_of, buffer_in, has_crossed, is_parked_in}
use Rattle.model.specs.Registers.{register_of, with_register}
use Rattle.model.specs.Marks.{with_mark, marked_word}
use Rattle.model.specs.Moves.{copied_for}
use Rattle.model.specs.Checkpoints.{first_behind, phase_behind, with_crossed}
use Rattle.model.specs.Checkpoints.{with_marked_word, with_marked_register, with_marked_registers, marked_at_crossing}
use Rattle.model.specs.Checkpoints.{cross_thread}
use Rattle.model.specs.Plain.{PlainHeap}
use Rattle.model.proofs.Lists.{get_within, each_changed, position_none, position_passes, position_finds}
use Rattle.model.proofs.Tables.{length_changed}
use Rattle.laws.specs.AddressHeap.{AddressHeap, Null, put}
use Rattle.laws.specs.Edits.{mark_word, cross_checkpoint}
use Rattle.laws.specs.BirthHeap.{BirthHeap}
use Rattle.laws.specs.Invariant.{Invariant}
use Rattle.laws.specs.Effects.{set_register, mark_register, mark_registers}
use Rattle.laws.specs.Transitions.{IsPhaseAfter, CrossMark, CrossProtect}
use Rattle.laws.proofs.Basics.{put_other, put_same}
use Rattle.laws.proofs.Workers.{CrossedBelow, mark_registers_keeps}
use Rattle.refinement.specs.Worlds.{world_of, as_word, barrier_in}
use Rattle.refinement.specs.PlainHeaps.{births_of}
use Rattle.refinement.specs.Claims.{IsLaid}
use Rattle.refinement.specs.Roots.{HoldsWords}
use Rattle.refinement.specs.Standing.{Holds}
use Rattle.refinement.proofs.Carrying.{Carries, and_then, becomes, moved, same_carries, step_by, stays}
use Rattle.refinement.proofs.Changes.{kept_of, read_changed}
use Rattle.refinement.proofs.Copies.{marks_first}
use Rattle.refinement.proofs.Records.{records_of, records_carry}
use Rattle.refinement.proofs.Threads.{register_carries}

-- the reference in a register is marked
register_marked : {g : HeapState} {b b0 : BirthHeap} (t n : ℕ) (x : ThreadState) → IsStore g.store → IsLaid g
    → Invariant (world_of g) b b0 → is_marking g.phase ≡ true → slice_get g.threads t ≡ Some x
    → n < g.config.registers
    → Carries g (with_marked_register g t n) (mark_register t n) × IsStore (with_marked_register g t n).store
unfolding with_marked_register with_marked_word with_mark with_register
register_marked {g} t n x s l i phase at low =
    let v = register_of g t n in
    let m = marks_first s l i phase v _ (i.words.registers t n).names in
    let c = copied_for g v in
    let there : slice_get c.threads t ≡ Some x = ap (λ ts. slice_get ts t) m.copied.threads ∙ at in
    let within : n < c.config.registers =
    subst (λ (z : Config). n < z.registers) (sym m.copied.carries.size.config) low in (
      becomes (and_then m.carries (register_carries (with_mark c v) t x there n (marked_word c v) (m.carries.laid l)
          m.word within)) (mark_register t n) (ap (λ u. set_register t n u (mark_word (as_word v) (world_of g)))
          m.same),
      m.copied.store,
    )

module _ {h : HeapState} {p p0 : PlainHeap} (s : IsStore h.store) (k : Holds h p p0) (t : ℕ)
    (low : t < length h.threads) (m : is_marking h.phase ≡ true) (b : (world_of h).barrier t ≡ None) where
  -- what holds after the first n registers
  below : (n : ℕ) → CrossedBelow (world_of h) (births_of p) (births_of p0) t n (mark_registers t n (world_of h))
  below n = mark_registers_keeps (world_of h) (births_of p) (births_of p0) k.invariant t m b n

  registers_marked : (n : ℕ) → n ≤ h.config.registers
      → Carries h (with_marked_registers h t n) (mark_registers t n) × IsStore (with_marked_registers h t n).store
  registers_marked zero most = (same_carries h, s)
  registers_marked (suc n) most =
      let g = with_marked_registers h t n in
      let (c, kept) = registers_marked n (omega (arith, most)) in
      let i = moved _ _ _ _ (births_of p0) c.world refl (below n).inv in
      let (x, at) = get_within g.threads t (omega (arith, low, c.size.threads)) in
      let registers : g.config.registers ≡ h.config.registers = ap (λ (z : Config). z.registers) c.size.config in
      let phase : g.phase ≡ h.phase = ap (λ (w : AddressHeap). w.phase) c.world ∙ (below n).phase in
      let next = register_marked t n x kept (c.laid k.laid) i (ap is_marking phase ∙ m) at
      (omega (arith, most, registers)) in (and_then c next.0, next.1)

-- the phase after a thread crosses
abbrev pub phase_after : HeapState → ℕ → Phase
phase_after h t = cond (is_none (first_behind (change_at h.threads t (set_crossed_of true))))
    (phase_behind h.phase) h.phase

-- a thread crosses
crossed_carries : (h : HeapState) (t : ℕ) (x : ThreadState) → slice_get h.threads t ≡ Some x
    → Carries h (with_crossed h t) (cross_checkpoint t (phase_after h t))
unfolding with_crossed register_of
crossed_carries h t x at = records_carry h (record (records_of h) {
  threads = change_at h.threads t f;
  phase = phase_after h t;
}) (cross_checkpoint t (phase_after h t)) (record {
  mark = λ z. z;
  todo = λ z. z;
  threads = length_changed h.threads t f;
  registers = λ z. each_changed (λ y. length y.registers ≡ h.config.registers) h.threads t f z (λ y e. e);
  buffers = kept_of buffer_in h.threads t f (λ y. refl);
  workers = refl;
  globals = refl;
}) (λ w. record {
  threads = each_changed (HoldsWords h.config.registers) h.threads t f w.threads
      (λ y z. record { registers_hold = z.registers_hold; barrier = z.barrier });
  globals = w.globals;
}) (λ z. record (world_of h) {
  register = fun_ext (λ u. fun_ext (λ r. kept_of (λ o. as_word (register_in o r)) h.threads t f (λ y. refl) u)) z;
  crossed = fun_ext (read_changed has_crossed h.threads t f x true at refl) z;
  parked = fun_ext (kept_of is_parked_in h.threads t f (λ y. refl)) z;
  barrier = fun_ext (kept_of barrier_in h.threads t f (λ y. refl)) z;
  phase = phase_after h t;
})
  where
    f : ThreadState → ThreadState
    f = set_crossed_of true

-- if there is no first thread that hasn't crossed, all have
pub none_is_behind : (threads : List ThreadState) → first_behind threads ≡ None → (t : ℕ)
    → has_crossed (slice_get threads t) ≡ true
unfolding first_behind
none_is_behind threads e t = by_thread (slice_get threads t) refl
  where
    by_thread : (o : Option ThreadState) → slice_get threads t ≡ o → has_crossed o ≡ true
    by_thread None g = refl
    by_thread (Some x) g = not-false x.crossed (position_none (λ (y : ThreadState). not y.crossed) threads e t x g)

-- such a thread hasn't crossed
one_is_behind : (threads : List ThreadState) (t : ℕ) → first_behind threads ≡ Some t
    → has_crossed (slice_get threads t) ≡ false
unfolding first_behind
one_is_behind threads t e =
    let (x, at) = position_finds (λ (y : ThreadState). not y.crossed) threads t e in
    ap has_crossed at ∙ not-true x.crossed (position_passes (λ (y : ThreadState). not y.crossed) threads t x e at)

-- the phase after a crossing is the laws'
after_crossing : (h : HeapState) (t : ℕ) (x : ThreadState) → slice_get h.threads t ≡ Some x
    → IsPhaseAfter (world_of h) t h.phase (phase_behind h.phase) (phase_after h t)
after_crossing h t x at = by_found (first_behind (change_at h.threads t f)) refl
  where
    f : ThreadState → ThreadState
    f = set_crossed_of true

    crossed : (u : ℕ) → has_crossed (slice_get (change_at h.threads t f) u) ≡ put (world_of h).crossed t true u
    crossed = read_changed has_crossed h.threads t f x true at refl

    by_found : (o : Option ℕ) → first_behind (change_at h.threads t f) ≡ o
        → IsPhaseAfter (world_of h) t h.phase (phase_behind h.phase) (cond (is_none o) (phase_behind h.phase) h.phase)
    by_found None e = inr (
      refl,
      λ u d. sym (put_other (world_of h).crossed t true u d) ∙ sym (crossed u)
          ∙ none_is_behind (change_at h.threads t f) e u,
    )
    by_found (Some u) e =
        let behind = sym (crossed u) ∙ one_is_behind (change_at h.threads t f) u e in
        let other : u ≢ t = λ z. true≢false (sym (put_same (world_of h).crossed t true)
        ∙ ap (put (world_of h).crossed t true) (sym z) ∙ behind) in
        inl (refl, u, other, sym (put_other (world_of h).crossed t true u other) ∙ behind)

-- the same for another address-level model with the same crossings
phase_of_other : (w v : AddressHeap) (t : ℕ) (now next now' next' f : Phase) → v.crossed ≡ w.crossed → now ≡ now'
    → next ≡ next' → IsPhaseAfter v t now next f → IsPhaseAfter w t now' next' f
phase_of_other w v t now next now' next' f same e n x = elim x [
  | inl y ↦ inl (y.0 ∙ e, y.1, y.2, ap (λ g. g y.1) (sym same) ∙ y.3)
  | inr y ↦ inr (y.0 ∙ n, (λ u d. ap (λ g. g u) (sym same) ∙ y.1 u d))
]

-- registers past a thread's last are null
beyond : (h : HeapState) (t : ℕ) → IsLaid h → (r : ℕ) → h.config.registers ≤ r → as_word (register_of h t r) ≡ Null
unfolding register_of
beyond h t l r m = by_thread (slice_get h.threads t) refl
  where
    by_thread : (o : Option ThreadState) → slice_get h.threads t ≡ o → as_word (register_in o r) ≡ Null
    by_thread None e = refl
    by_thread (Some x) e =
        ap (λ o. as_word (flat o)) (slice_get_past x.registers r (omega (arith, m, l.registers t x e)))

module _ {h : HeapState} {p p0 : PlainHeap} (s : IsStore h.store) (k : Holds h p p0) (t : ℕ) (x : ThreadState)
    (at : slice_get h.threads t ≡ Some x) (b : (world_of h).barrier t ≡ None) where
  -- a thread crosses a mark's checkpoint
  at_mark : h.phase ≡ MarkCrossing → (n : ℕ) → n ≡ h.config.registers
      → Holds (with_crossed (with_marked_registers h t n) t) p p0
      × ((with_crossed (with_marked_registers h t n) t).config ≡ h.config)
  at_mark e n all =
      let m = ap is_marking e in
      let low = slice_get_within h.threads t x at in
      let g = with_marked_registers h t n in
      let (c, kept) = registers_marked s k t low m b n (omega (arith, all)) in
      let u = below s k t low m b n in
      let (y, there) = get_within g.threads t (omega (arith, low, c.size.threads)) in
      let phase : g.phase ≡ MarkCrossing = ap (λ (w : AddressHeap). w.phase) c.world ∙ u.phase ∙ e in
      let next = phase_of_other (world_of h) (world_of g) t _ _ MarkCrossing Scanning _
      (ap (λ (w : AddressHeap). w.crossed) c.world ∙ u.crossed) phase (ap phase_behind phase)
      (after_crossing g t y there) in
      let whole = and_then c (crossed_carries g t y there) in (
        step_by k whole (stays h p)
            (CrossMark t n _ e b (λ r z. beyond h t k.laid r (omega (arith, z, all))) next),
        whole.size.config,
      )

  -- a thread crosses the checkpoint of protected pages
  at_protection : h.phase ≡ ProtectCrossing → Holds (with_crossed h t) p p0 × ((with_crossed h t).config ≡ h.config)
  at_protection e =
      let next = phase_of_other (world_of h) (world_of h) t _ _ ProtectCrossing Relocating _ refl e
      (ap phase_behind e) (after_crossing h t x at) in
      let whole = crossed_carries h t x at in (
        step_by k whole (stays h p)
            (CrossProtect t _ e b next),
        whole.size.config,
      )

  -- a thread crosses
  pub thread_crosses : is_crossing h.phase ≡ true
      → Holds (cross_thread h t) p p0 × ((cross_thread h t).config ≡ h.config)
  unfolding cross_thread
  thread_crosses crossing = by_phase h.phase refl crossing
    where
      by_phase : (f : Phase) → h.phase ≡ f → is_crossing f ≡ true
          → Holds (with_crossed (with_marked_registers h t (marked_at_crossing h)) t) p p0
          × ((with_crossed (with_marked_registers h t (marked_at_crossing h)) t).config ≡ h.config)
      by_phase MarkCrossing e o =
          at_mark e (marked_at_crossing h) (ap (λ f. cond (is_mark_crossing f) h.config.registers 0) e)
      by_phase ProtectCrossing e o = subst (λ n. Holds (with_crossed (with_marked_registers h t n) t) p p0
          × ((with_crossed (with_marked_registers h t n) t).config ≡ h.config))
          (sym (ap (λ f. cond (is_mark_crossing f) h.config.registers 0) e)) (at_protection e)
      by_phase Idle e o = absurd (cc)
      by_phase Scanning e o = absurd (cc)
      by_phase Relocating e o = absurd (cc)

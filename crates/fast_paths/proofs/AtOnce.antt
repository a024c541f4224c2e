-- If no trap is due, a load is done at once.
use Rattle.std.proofs.Common.{◌≡◌, ℕ, ◌==◌, ◌<◌, Bool, true, false, Option, Some, None, List, length, refl, nat_le, sym}
use Rattle.std.proofs.Common.{subst, arith, ap, ◌∙◌}
use Rattle.std.specs.Prelude.{Result, Ok, Err, IfSome, if◌then◌else◌, slice_get, ◌%◌, ◌+◌, ◌^◌, ◌||◌, ◌&&◌, not}
use Rattle.std.specs.Prelude.{nat_lt}
use Rattle.std.specs.Option.{is_some}
use Rattle.std.proofs.lemmas.Bool.{or_parts, leb-false}
use Rattle.std.proofs.lemmas.Option.{slice_get_within, same_Some}
use Rattle.refword.specs.Words.{IsAddress, bits_of, address_in, number_in, read_word}
use Rattle.refword.proofs.Reading.{bits_of-read_word, read_word-is_word}
use Rattle.layout.specs.Objects.{layout_of}
use Rattle.model.specs.declared.records.Barrier.{Barrier}
use Rattle.model.specs.declared.records.Counter.TheVariants as counters
use Rattle.model.specs.declared.records.Place.{Place}
use Rattle.model.specs.declared.records.Place.TheVariants as places
use Rattle.model.specs.declared.records.Phase.{Phase}
use Rattle.model.specs.declared.records.Phase.TheVariants.{Idle, MarkCrossing, Scanning, ProtectCrossing, Relocating}
use Rattle.model.specs.Phases.{is_marking, may_nmt_trap, same_bit}
use Rattle.model.specs.declared.steps.Actor.TheVariants.{Thread}
use Rattle.model.specs.declared.steps.Answer.TheVariants as answers
use Rattle.model.specs.declared.steps.Refusal.{Refusal}
use Rattle.model.specs.declared.steps.Step.{Step}
use Rattle.model.specs.declared.steps.Step.TheVariants as steps
use Rattle.model.specs.Holding.{IsHeap}
use Rattle.model.specs.Loads.{with_barrier, with_loaded, new_barrier, trap_due, load_outcome, finish_outcome, end_load}
use Rattle.model.specs.Outcome.{outcome, thread_gate, Passes, has_bad_index, is_for_workers, is_for_parked}
use Rattle.model.specs.Outcome.{no_register}
use Rattle.model.specs.Owning.{IsStore}
use Rattle.model.specs.References.{read_reference, field_at, store_outcome}
use Rattle.model.specs.Registers.{let_through, usable, usable_or_null, register_of, use_word, use_or_null}
use Rattle.model.specs.States.{Reference, HeapState, ThreadState, change_at, flat}
use Rattle.model.specs.Data.{layout_at, datum_at, datum_outcome, set_datum_outcome}
use Rattle.layout.specs.declared.shape.Layout.{Layout}
use Rattle.model.specs.Stores.{word_at, with_word}
use Rattle.model.specs.Threads.{is_parked_in, set_barrier_of, barrier_of, has_crossed}
use Rattle.heap.proofs.Keeping.{thread_keeps}
use Rattle.model.proofs.Lists.{get_within, get_set_same}
use Rattle.model.proofs.Tables.{length_changed}
use Rattle.heap.specs.AtOnce.{IsOpenTo}
use Rattle.fast_paths.specs.AtOnce.{begun, LoadsAtOnce, NamesAtOnce, ReadsAtOnce, SourceAtOnce, UsesAtOnce, IsQuiet, mark_is_due, GivesDatum, MayDoAtOnce}
use Rattle.fast_paths.specs.AtOnce.{HoldsAtOnce}

-- ---- no trap is due

either_false : (b : Bool) → (if b then false else false) ≡ false
either_false true = refl
either_false false = refl

no_nmt : (p : Phase) (crossed due : Bool) → (is_marking p && due) ≡ false
    → (if may_nmt_trap p crossed then due else false) ≡ false
no_nmt p crossed false e = either_false (may_nmt_trap p crossed)
no_nmt Idle crossed true e = refl
no_nmt MarkCrossing crossed true e = absurd (cc)
no_nmt Scanning crossed true e = absurd (cc)
no_nmt ProtectCrossing crossed true e = refl
no_nmt Relocating crossed true e = refl

-- no trap is due for a word that is neither to be marked nor on a protected page
pub quiet_clear : (g : HeapState) (t : ℕ) (w : Reference) → IsQuiet g w → trap_due g t w ≡ false
unfolding trap_due let_through
quiet_clear g t None q = refl
quiet_clear g t (Some w) q =
    rw (q.1, no_nmt g.phase (has_crossed (slice_get g.threads t)) (not (same_bit w.1 g.nmt)) q.0) refl

pub quiet_where : (h : HeapState) (w : Reference) → mark_is_due h w ≡ false → IfSome w (λ v. IsOpenTo h v.0) → IsQuiet h w
quiet_where h None m f = tt
quiet_where h (Some v) m f = (m, f)

-- ---- bits and numbers

number_read : (n : ℕ) (v : ℕ × Bool) → read_word n ≡ Some (Some v) → v.0 ≡ n % 2 ^ 63
number_read n (a, false) e =
    let k = bits_of-read_word n (Some (a, false)) e in
    let l = (read_word-is_word n (Some (a, false)) e).below in
    omega (arith, k, l)
number_read n (a, true) e =
    let k = bits_of-read_word n (Some (a, true)) e in
    let l = (read_word-is_word n (Some (a, true)) e).below in
    omega (arith, k, l)

-- no trap is due for the word of bits, whose address is on no protected page
pub quiet_bits : (h : HeapState) (n k : ℕ) (w : Reference) → k ≡ n % 2 ^ 63 → IsOpenTo h k → read_word n ≡ Some w
    → mark_is_due h w ≡ false → IsQuiet h w
quiet_bits h n k None is free e m = tt
quiet_bits h n k (Some v) is free e m = (m, subst (IsOpenTo h) (is ∙ sym (number_read n v e)) free)

-- a word with this number has this address
pub numbered : (w : Reference) (a : ℕ) → a ≡ number_in w → IsAddress a → address_in w ≡ Some a
numbered None a e is = absurd (omega (arith, is.above, e))
numbered (Some v) a e is = ap Some (sym e)

-- a word whose number is on no protected page
pub free_where : (h : HeapState) (w : Reference) (a : ℕ) (o : Option ℕ) → a ≡ number_in w
    → IfSome o (λ _. IsOpenTo h a) → is_some o ≡ true → IfSome w (λ v. IsOpenTo h v.0)
free_where h None a o e f there = tt
free_where h (Some v) a None e f there = absurd (cc)
free_where h (Some v) a (Some x) e f there = subst (IsOpenTo h) e f

-- ---- the tests before a step

past : (b : Bool) (e : Refusal) (rest : Result Unit Refusal) → (if b then Err e else rest) ≡ Ok tt
    → (b ≡ false) × (rest ≡ Ok tt)
past false e rest h = (refl, h)
past true e rest h = absurd (cc)

and_true : (b : Bool) → (b && true) ≡ false → b ≡ false
and_true false e = refl
and_true true e = absurd (cc)

pub gated : (h : HeapState) (t : ℕ) (s : Step) → is_for_parked s ≡ false → Passes h t s
    → (nat_le (length h.threads) t ≡ false) × (is_parked_in (slice_get h.threads t) ≡ false)
unfolding thread_gate
gated h t s never g =
    let a = past (nat_le (length h.threads) t || is_for_workers s) _ _ g in
    let b = past (has_bad_index h s) _ _ a.1 in
    let c = past (is_parked_in (slice_get h.threads t) && not (is_for_parked s)) _ _ b.1 in (
      (or_parts (nat_le (length h.threads) t) (is_for_workers s) a.0).0,
      and_true (is_parked_in (slice_get h.threads t))
          (subst (λ (b : Bool). (is_parked_in (slice_get h.threads t) && not b) ≡ false) never c.0),
    )

pub changed_there : {X : Type 0} (xs : List X) (i : ℕ) (f : X → X) (x : X) → slice_get xs i ≡ Some x
    → slice_get (change_at xs i f) i ≡ Some (f x)
changed_there xs i f x e = rw e (get_set_same xs i x (f x) e)

same_number : (n : ℕ) → (n == n) ≡ true
same_number n = grind arith

or_right : (b : Bool) → b ≡ true → (false || b) ≡ true
or_right b e = e

-- ---- a load that has begun may end

ends_at_once : (h : HeapState) (t target : ℕ) (place : Place) (w : Reference) (x : ThreadState)
    → IsQuiet (begun h t target place w) w → nat_le (length h.threads) t ≡ false → slice_get h.threads t ≡ Some x
    → x.parked ≡ false
    → outcome (begun h t target place w) (Thread t) steps.Finish
    ≡ Ok (with_loaded (begun h t target place w) t target w, answers.Done)
unfolding outcome thread_gate finish_outcome end_load with_barrier
ends_at_once h t target place w x q le there runs =
    let b = new_barrier target place w in
    let g = begun h t target place w in
    let found : slice_get g.threads t ≡ Some (set_barrier_of b counters.Loads x) =
    changed_there h.threads t (set_barrier_of b counters.Loads) x there in
    let many : nat_le (length g.threads) t ≡ false =
    rw (length_changed h.threads t (set_barrier_of b counters.Loads)) le in
    let clear : trap_due g t w ≡ false = quiet_clear g t w q in
    let same : (bits_of w == bits_of w) ≡ true = same_number (bits_of w) in
    rw (many, found, runs, clear, same) refl

begun_keeps : (h : HeapState) (t target : ℕ) (place : Place) (w : Reference) → IsHeap h
    → IsHeap (begun h t target place w)
unfolding with_barrier
begun_keeps h t target place w k =
    let change = set_barrier_of (new_barrier target place w) counters.Loads in
    thread_keeps h t change (change_at h.threads t change) k refl (λ x f. f) (λ x. refl)

begun_stored : (h : HeapState) (t target : ℕ) (place : Place) (w : Reference) → IsStore h.store
    → IsStore (begun h t target place w).store
unfolding with_barrier
begun_stored h t target place w k = k

begun_quiet : (h : HeapState) (t target : ℕ) (place : Place) (w : Reference) → IsQuiet h w
    → IsQuiet (begun h t target place w) w
unfolding with_barrier
begun_quiet h t target place None q = tt
begun_quiet h t target place (Some v) q = (q.0, q.1)

-- where nothing is due, a load that begins with a word gives its register that word
pub loads_at_once : (h : HeapState) (t target : ℕ) (begin : Step) (place : Place) (w : Reference) → IsStore h.store
    → IsHeap h → IsQuiet h w → nat_le (length h.threads) t ≡ false → is_parked_in (slice_get h.threads t) ≡ false
    → outcome h (Thread t) begin ≡ Ok (begun h t target place w, answers.Loaded)
    → LoadsAtOnce h t begin (with_loaded (begun h t target place w) t target w)
loads_at_once h t target begin place w st k e there runs loads =
    let x = get_within h.threads t (leb-false (length h.threads) t there) in
    record {
      between = begun h t target place w;
      heap = begun_keeps h t target place w k;
      store = begun_stored h t target place w st;
      loads = loads;
      ends = ends_at_once h t target place w x.0 (begun_quiet h t target place w e) there x.1
          (subst (λ (o : Option ThreadState). is_parked_in o ≡ false) x.1 runs);
    }

-- where nothing is due what a load of a field reads is what its register gets, by Load and Finish
pub at_once : (h : HeapState) (t target object i address place bits : ℕ) → IsStore h.store → IsHeap h
    → IsQuiet h (read_reference bits)
    → Passes h t (steps.Load target object i) → usable h t object ≡ Ok address → field_at h address i ≡ Some place
    → word_at h.store place ≡ Some bits
    → LoadsAtOnce h t (steps.Load target object i)
    (with_loaded (begun h t target (places.Field address i) (read_reference bits)) t target (read_reference bits))
unfolding outcome load_outcome
at_once h t target object i address place bits st k e g u f w =
    let p = gated h t (steps.Load target object i) refl g in
    loads_at_once h t target (steps.Load target object i) (places.Field address i) (read_reference bits) st k e p.0 p.1
    (rw (g, u, f, w) refl)

-- the same of the edits by which it is done
pub at_once_by : (h g1 g2 : HeapState) (t target object i address place bits : ℕ) (w : Reference) → IsStore h.store
    → IsHeap h → IsQuiet h (read_reference bits) → Passes h t (steps.Load target object i) → usable h t object
    ≡ Ok address
    → field_at h address i ≡ Some place → word_at h.store place ≡ Some bits → w ≡ read_reference bits
    → g1 ≡ begun h t target (places.Field address i) w → g2 ≡ with_loaded g1 t target w
    → LoadsAtOnce h t (steps.Load target object i) g2
at_once_by h g1 g2 t target object i address place bits w st k e g u f r is one two =
    rw (two, one, is) (at_once h t target object i address place bits st k e g u f r)

-- ---- what the tests before a load say

not_beyond : (xs : List ThreadState) (i : ℕ) (x : ThreadState) → slice_get xs i ≡ Some x → nat_le (length xs) i ≡ false
not_beyond xs i x e = let l = slice_get_within xs i x e in grind arith

-- a thread has as many registers as the heap was made with
register_there : (h : HeapState) (t r : ℕ) (x : ThreadState) → IsHeap h → slice_get h.threads t ≡ Some x
    → r < length x.registers → no_register h r ≡ false
unfolding no_register
register_there h t r x k there low =
    let many : length x.registers ≡ h.config.registers = k.registers t x there in below low many
  where
    below : {n m : ℕ} → r < n → n ≡ m → nat_le m r ≡ false
    below l e = grind arith

pub register_where : (h : HeapState) (t r : ℕ) (x : ThreadState) → slice_get h.threads t ≡ Some x
    → register_of h t r ≡ flat (slice_get x.registers r)
unfolding register_of
register_where h t r x there = rw there refl

-- a word that names an address on no protected page may be used
pub used_where : (h : HeapState) (t address : ℕ) (w : Reference) → IsOpenTo h address → address_in w ≡ Some address
    → use_word h t w ≡ Ok address
unfolding let_through
used_where h t address None k e = absurd (cc)
used_where h t address (Some v) k e =
    let same : v.0 ≡ address = same_Some _ _ e in
    let there : IsOpenTo h v.0 = subst (IsOpenTo h) (sym same) k in
    rw there (ap Ok same)

pub ready_passes : (h : HeapState) (t : ℕ) (s : Step) (x : ThreadState) → slice_get h.threads t ≡ Some x
    → x.parked ≡ false → x.barrier ≡ None → is_for_workers s ≡ false → has_bad_index h s ≡ false → Passes h t s
unfolding thread_gate
ready_passes h t s x there runs closed mine good =
    let many : nat_le (length h.threads) t ≡ false = not_beyond h.threads t x there in
    rw (many, mine, good, there, runs, closed) refl

pub held_at_once : (h : HeapState) (t r : ℕ) (x : ThreadState) (w : Reference) → IsHeap h
    → slice_get h.threads t ≡ Some x → x.parked ≡ false → x.barrier ≡ None → slice_get x.registers r ≡ Some w
    → HoldsAtOnce h t r w
held_at_once h t r x w k there runs closed is = record {
  passes = λ s mine good. ready_passes h t s x there runs closed mine good;
  closed = ap barrier_of there ∙ closed;
  there = register_there h t r x k there (slice_get_within x.registers r w is);
  word = register_where h t r x there ∙ ap flat is;
}

-- ---- a load

pub read_of : (h g : HeapState) (t target object i address : ℕ) (w : Reference) → IsStore h.store → IsHeap h
    → IsQuiet h w → NamesAtOnce h t target object address → ReadsAtOnce h address i w
    → ((b : Barrier) → g ≡ with_loaded (with_barrier h t b counters.Loads) t target w)
    → LoadsAtOnce h t (steps.Load target object i) g
read_of h g t target object i address w st k e names reads is =
    let b = new_barrier target (places.Field address i) w in
    at_once_by h (begun h t target (places.Field address i) w) g t target object i address reads.place reads.bits w st k
    (subst (IsQuiet h) reads.word e)
    (names.passes i) names.usable reads.stands reads.read reads.word refl (is b)

layout_where : (h : HeapState) (a header : ℕ) (l : Layout) → word_at h.store a ≡ Some header
    → slice_get h.config.layouts (layout_of header) ≡ Some l → layout_at h a ≡ Some l
unfolding layout_at
layout_where h a header l read named = rw read named

field_where : (h : HeapState) (a i : ℕ) (l : Layout) → layout_at h a ≡ Some l → nat_lt i l.refs ≡ true
    → field_at h a i ≡ Some (a + 1 + i)
unfolding field_at
field_where h a i l e few = rw (e, few) refl

less : (i n : ℕ) → i < n → nat_lt i n ≡ true
less i n l = grind arith

-- the header's number names the object's layout
pub layout_named : (h : HeapState) (a header : ℕ) (o : Option Layout) → word_at h.store (a + 0) ≡ Some header
    → o ≡ slice_get h.config.layouts (layout_of header) → IfSome o (λ l. layout_at h a ≡ Some l)
layout_named h a header None read e = tt
layout_named h a header (Some l) read e =
    let here : a + 0 ≡ a = omega arith in
    layout_where h a header l (sym (ap (word_at h.store) here) ∙ read) (sym e)

-- a reference of an object of this layout
pub field_there : (h : HeapState) (a i k : ℕ) (l : Layout) → layout_at h a ≡ Some l → i < l.refs → k ≡ i
    → field_at h a i ≡ Some (a + (1 + k))
field_there h a i k l e few is =
    let place : a + 1 + i ≡ a + (1 + k) = omega (arith, is) in
    field_where h a i l e (less i l.refs few) ∙ ap Some place

-- a reference that was read
pub reads_where : (h : HeapState) (a i k bits : ℕ) (w : Reference) → field_at h a i ≡ Some (a + k)
    → word_at h.store (a + k) ≡ Some bits → w ≡ read_reference bits → ReadsAtOnce h a i w
reads_where h a i k bits w stands read word =
    record { place = a + k; bits = bits; stands = stands; read = read; word = word }

-- ---- two edits of a thread, one behind the other

-- ---- as the code has it

pub found : (i n : ℕ) → true ≡ nat_lt i n → i < n
found i n e = grind arith

-- ---- a datum

pub uses_at_once : (h : HeapState) (t object address : ℕ) (w : Reference) → IsOpenTo h address
    → HoldsAtOnce h t object w → address_in w ≡ Some address → UsesAtOnce h t object address
unfolding usable
uses_at_once h t object address w free from names = record {
  passes = from.passes;
  closed = from.closed;
  named = ap address_in from.word ∙ names;
  there = from.there;
  usable = ap (use_word h t) from.word ∙ used_where h t address w free names;
}

datum_where : (h : HeapState) (a j : ℕ) (l : Layout) → layout_at h a ≡ Some l → nat_lt j l.nums ≡ true
    → datum_at h a j ≡ Some (a + 1 + l.refs + j)
unfolding datum_at
datum_where h a j l e few = rw (e, few) refl

-- a data word of an object of this layout
pub datum_there : (h : HeapState) (a j r k : ℕ) (l : Layout) → layout_at h a ≡ Some l → j < l.nums → r ≡ l.refs → k ≡ j
    → datum_at h a j ≡ Some (a + (1 + r + k))
datum_there h a j r k l e few refs is =
    let place : a + 1 + l.refs + j ≡ a + (1 + r + k) = omega (arith, refs, is) in
    datum_where h a j l e (less j l.nums few) ∙ ap Some place

-- a datum that was read
pub datum_read : (h : HeapState) (t object a j k value : ℕ) → UsesAtOnce h t object a → datum_at h a j ≡ Some (a + k)
    → word_at h.store (a + k) ≡ Some value → GivesDatum h t object j value
unfolding outcome datum_outcome
datum_read h t object a j k value uses place word =
    let gate : Passes h t (steps.Datum object j) = uses.passes (steps.Datum object j) refl uses.there in
    rw (gate, uses.usable, place, word) refl

-- ---- writes

-- a word that is null, or on no protected page, may be used
null_or_free : (h : HeapState) (t : ℕ) (w : Reference) → IfSome w (λ v. IsOpenTo h v.0)
    → use_or_null h t w ≡ Ok (address_in w)
unfolding let_through
null_or_free h t None k = refl
null_or_free h t (Some v) k = rw k refl

-- a register that is null, or whose word is on no protected page
pub source_at_once : (h : HeapState) (t r : ℕ) (x : ThreadState) (w : Reference) → IsHeap h
    → slice_get h.threads t ≡ Some x → slice_get x.registers r ≡ Some w → IfSome w (λ v. IsOpenTo h v.0)
    → SourceAtOnce h t r w
unfolding usable_or_null
source_at_once h t r x w k there is free =
    let named : register_of h t r ≡ w = register_where h t r x there ∙ ap flat is in
    record {
      there = register_there h t r x k there (slice_get_within x.registers r w is);
      named = named;
      usable = ap (use_or_null h t) named ∙ null_or_free h t w free;
    }

pub stored : (h g : HeapState) (t object i source a k : ℕ) (w : Reference) → UsesAtOnce h t object a
    → SourceAtOnce h t source w → field_at h a i ≡ Some (a + k)
    → g ≡ record h { store = with_word h.store (a + k) (bits_of w) }
    → outcome h (Thread t) (steps.Store object i source) ≡ Ok (g, answers.Done)
unfolding outcome store_outcome
stored h g t object i source a k w u s f e =
    let good : has_bad_index h (steps.Store object i source) ≡ false = rw (u.there, s.there) refl in
    let gate : Passes h t (steps.Store object i source) = u.passes (steps.Store object i source) refl good in
    rw (gate, u.usable, f, s.usable, s.named, e) refl

pub datum_set : (h g : HeapState) (t object j value a k : ℕ) → UsesAtOnce h t object a → datum_at h a j ≡ Some (a + k)
    → g ≡ record h { store = with_word h.store (a + k) value }
    → outcome h (Thread t) (steps.SetDatum object j value) ≡ Ok (g, answers.Done)
unfolding outcome set_datum_outcome
datum_set h g t object j value a k u f e =
    let gate : Passes h t (steps.SetDatum object j value) = u.passes (steps.SetDatum object j value) refl u.there in
    rw (gate, u.usable, f, e) refl

-- a reference is stored, or nothing is
pub may_store : (h g : HeapState) (t object i source a k v : ℕ) (w : Reference) (done : Bool) → UsesAtOnce h t object a
    → SourceAtOnce h t source w → field_at h a i ≡ Some (a + k) → v ≡ bits_of w
    → g ≡ (if done then record h { store = with_word h.store (a + k) v } else h)
    → MayDoAtOnce done h t (steps.Store object i source) g
may_store h g t object i source a k v w true u s f is e =
    stored h g t object i source a k w u s f (e ∙ ap (λ (x : ℕ). record h { store = with_word h.store (a + k) x }) is)
may_store h g t object i source a k v w false u s f is e = e

-- a datum is set, or nothing is
pub may_set_datum : (h g : HeapState) (t object j value a k : ℕ) (done : Bool) → UsesAtOnce h t object a
    → datum_at h a j ≡ Some (a + k) → g ≡ (if done then record h { store = with_word h.store (a + k) value } else h)
    → MayDoAtOnce done h t (steps.SetDatum object j value) g
may_set_datum h g t object j value a k true u f e = datum_set h g t object j value a k u f e
may_set_datum h g t object j value a k false u f e = e

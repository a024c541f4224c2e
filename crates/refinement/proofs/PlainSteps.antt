-- The steps of `model`'s reference model are those of the laws'.
use Rattle.std.proofs.Common.{◌≡◌, ◌≢◌, ℕ, zero, suc, ◌<◌, List, [], ◌∷◌, ◌++◌, length, set, replicate, Option, Some}
use Rattle.std.proofs.Common.{None, refl, sym, ◌∙◌, ap, subst, arith, length-append}
use Rattle.std.specs.List.{slice_get}
use Rattle.std.specs.Option.{option_map}
use Rattle.std.proofs.Math.ListN.{length-set}
use Rattle.std.proofs.lemmas.Option.{slice_get_within}
use mathlib.Core.Path.{fun_ext}
use Rattle.layout.specs.declared.shape.Layout.{Layout}
use Rattle.model.specs.States.{HeapState, flat, change_at, ThreadState}
use Rattle.model.specs.Plain.{PlainHeap, PlainThread, Object, name_of, name_in, name_register, set_name, add_birth}
use Rattle.model.specs.Plain.{blank_object}
use Rattle.model.specs.Plain.{store_field, set_field, write_datum, set_datum, Pending, pending_in, begin_load}
use Rattle.model.specs.Plain.{start_load}
use Rattle.model.specs.Plain.{finish_pending, end_load}
use Rattle.model.specs.Owning.{Each}
use Rattle.model.proofs.Lists.{get_set_same, get_set_other, get_within, each_changed}
use Rattle.laws.specs.AddressHeap.{put, put_at}
use Rattle.laws.specs.Edits.{plain_born, plain_set_pending, plain_end_load, plain_set_global}
use Rattle.laws.specs.Effects.{plain_set_register, datum_at, store_at}
use Rattle.laws.proofs.Basics.{put_all, put_same, put_other, put_id}
use Rattle.refinement.specs.PlainHeaps.{births_of, layout_in, refs_in, data_in, as_pair, HasRootsOf}
use Rattle.refinement.specs.Standing.{Holds}
use Rattle.refinement.proofs.Slices.{get_second}
use Rattle.model.proofs.Tables.{length_changed}
use Rattle.refinement.proofs.Changes.{get_changed, kept_of, read_changed}
use Rattle.refinement.proofs.Carrying.{Follows, stays}

-- registers

-- the registers of threads after register r of one changed
name_changed : (ts : List PlainThread) (t r : ℕ) (v : Option ℕ) (f : PlainThread → PlainThread) (y : PlainThread)
    → slice_get ts t ≡ Some y → r < length y.registers → (f y).registers ≡ set y.registers r v
    → (u s : ℕ) → name_in (slice_get (change_at ts t f) u) s ≡ put_at (λ u s. name_in (slice_get ts u) s) t r v u s
name_changed ts t r v f y e k is u s =
    ap (λ o. name_in o s) (get_changed ts t f u)
    ∙ put_all (λ u z. (q : ℕ) → name_in (put (slice_get ts) t now u) q ≡ z q)
    (λ u q. name_in (slice_get ts u) q) t (put (λ q. name_in (slice_get ts t) q) r v) here
    (λ u d q. ap (λ o. name_in o q) (put_other (slice_get ts) t now u d)) u s
  where
    in_thread : (q : ℕ) → flat (slice_get (set y.registers r v) q) ≡ put (λ q. flat (slice_get y.registers q)) r v q
    in_thread = put_all (λ q z. flat (slice_get (set y.registers r v) q) ≡ z) (λ q. flat (slice_get y.registers q)) r v
        (let (z, there) = get_within y.registers r k in ap flat (get_set_same y.registers r z v there))
        (λ q d. ap flat (get_set_other y.registers r q v d))

    now : Option PlainThread
    now = option_map f (slice_get ts t)

    here : (q : ℕ) → name_in (put (slice_get ts) t now t) q ≡ put (λ q. name_in (slice_get ts t) q) r v q
    here q =
        ap (λ o. name_in o q) (put_same (slice_get ts) t now ∙ ap (option_map f) e) ∙ ap (λ l. flat (slice_get l q)) is
        ∙ in_thread q
        ∙ ap (λ o. put (λ q. name_in o q) r v q) (sym e)

-- the reference model has the threads of a heap
pub plain_thread : {h : HeapState} {p p0 : PlainHeap} → Holds h p p0 → (t : ℕ) (x : ThreadState)
    → slice_get h.threads t ≡ Some x
    → (y : PlainThread) × (slice_get p.threads t ≡ Some y) × (length y.registers ≡ h.config.registers)
plain_thread {h = h} {p = p} k t x at =
    let (y, e) = get_within p.threads t (omega (arith, slice_get_within h.threads t x at, k.roots.threads)) in
    (y, e, k.roots.registers t y e)

-- the roots of a reference model with a thread changed
changed_roots : (h : HeapState) (p q : PlainHeap) (t : ℕ) (f : PlainThread → PlainThread)
    → q.threads ≡ change_at p.threads t f → length q.globals ≡ length p.globals
    → ((y : PlainThread) → length (f y).registers ≡ length y.registers) → HasRootsOf h p → HasRootsOf h q
changed_roots h p q t f e g size k = record {
  threads = ap length e ∙ length_changed p.threads t f ∙ k.threads;
  registers = subst (λ ts. Each ts (λ y. length y.registers ≡ h.config.registers)) (sym e)
      (each_changed (λ y. length y.registers ≡ h.config.registers) p.threads t f k.registers (λ y r. size y ∙ r));
  globals = g ∙ k.globals;
}

-- a register gets a birth
naming_is : (p : PlainHeap) (t r : ℕ) (v : Option ℕ) (y : PlainThread) → slice_get p.threads t ≡ Some y
    → r < length y.registers → births_of (name_register p t r v) ≡ plain_set_register t r v (births_of p)
unfolding name_register name_of
naming_is p t r v y e k = λ z. record (births_of p) {
  register = fun_ext (λ u. fun_ext (name_changed p.threads t r v (set_name r v) y e k refl u)) z;
  pending = fun_ext (kept_of (λ o. option_map as_pair (pending_in o)) p.threads t (set_name r v) (λ x. refl)) z;
}

pub naming_follows : {h : HeapState} {p p0 : PlainHeap} → Holds h p p0 → (t : ℕ) (x : ThreadState)
    → slice_get h.threads t ≡ Some x → (r : ℕ) (v : Option ℕ) → r < h.config.registers
    → Follows h p (name_register p t r v) (plain_set_register t r v (births_of p))
unfolding name_register
naming_follows {h = h} {p = p} k t x at r v low =
    let (y, there, size) = plain_thread k t x at in
    record {
      roots = changed_roots h p _ t (set_name r v) refl refl (λ y. length-set y.registers r v);
      births = naming_is p t r v y there (omega (arith, low, size));
    }

-- objects

object_more : (xs : List Object) (o : Object) (b : ℕ)
    → slice_get (xs ++ o ∷ []) b ≡ put (slice_get xs) (length xs) (Some o) b
object_more xs o = put_all (λ b y. slice_get (xs ++ o ∷ []) b ≡ y) (slice_get xs) (length xs) (Some o) here elsewhere
  where
    here : slice_get (xs ++ o ∷ []) (length xs) ≡ Some o
    here = ap (slice_get (xs ++ o ∷ [])) (omega arith) ∙ get_second xs (o ∷ []) 0

    elsewhere : (b : ℕ) → b ≢ length xs → slice_get (xs ++ o ∷ []) b ≡ slice_get xs b
    elsewhere b d = by_list xs b d
      where
        by_list : (xs : List Object) (b : ℕ) → b ≢ length xs → slice_get (xs ++ o ∷ []) b ≡ slice_get xs b
        by_list [] zero d = absurd (d refl)
        by_list [] (suc b) d = refl
        by_list (x ∷ xs) zero d = refl
        by_list (x ∷ xs) (suc b) d = by_list xs b (λ e. d (ap suc e))

-- a read of a function after a `put`
put_read : {X B : Type 0} (P : Option X → B) (f : ℕ → Option X) (a : ℕ) (v : Option X) (b : ℕ)
    → P (put f a v b) ≡ put (λ c. P (f c)) a (P v) b
put_read P f a v = put_all (λ b y. P (put f a v b) ≡ y) (λ c. P (f c)) a (P v) (ap P (put_same f a v))
    (λ b d. ap P (put_other f a v b d))

-- an object is born
born_is : (p : PlainHeap) (t r number : ℕ) (l : Layout) (y : PlainThread) → slice_get p.threads t ≡ Some y
    → r < length y.registers
    → births_of (add_birth p t r number (Some l)) ≡ plain_born number (replicate l.refs None) (replicate l.nums 0) t r
    (births_of p)
unfolding name_register name_of
born_is p t r number l y e k = λ z. record (births_of p) {
  births = count z;
  layout = fun_ext
      (λ b. ap layout_in (more b) ∙ put_read layout_in (slice_get p.objects) (length p.objects) (Some new) b) z;
  refs = fun_ext (λ b. ap refs_in (more b) ∙ put_read refs_in (slice_get p.objects) (length p.objects) (Some new) b) z;
  data_words = fun_ext
      (λ b. ap data_in (more b) ∙ put_read data_in (slice_get p.objects) (length p.objects) (Some new) b) z;
  register = fun_ext (λ u. fun_ext (name_changed p.threads t r (Some (length p.objects))
      (set_name r (Some (length p.objects))) y e k refl u)) z;
  pending = fun_ext (kept_of (λ o. option_map as_pair (pending_in o)) p.threads t
      (set_name r (Some (length p.objects))) (λ x. refl)) z;
}
  where
    new : Object
    new = blank_object number l

    more : (b : ℕ) → slice_get (p.objects ++ new ∷ []) b ≡ put (slice_get p.objects) (length p.objects) (Some new) b
    more = object_more p.objects new

    count : length (p.objects ++ new ∷ []) ≡ suc (length p.objects)
    count = omega (arith, length-append p.objects (new ∷ []))

pub born_follows : {h : HeapState} {p p0 : PlainHeap} → Holds h p p0 → (t : ℕ) (x : ThreadState)
    → slice_get h.threads t ≡ Some x → (r number : ℕ) (o : Option Layout) (l : Layout) → o ≡ Some l
    → r < h.config.registers → Follows h p (add_birth p t r number o)
    (plain_born number (replicate l.refs None) (replicate l.nums 0) t r (births_of p))
unfolding name_register
born_follows {h = h} {p = p} k t x at r number o l is low =
    let (y, there, size) = plain_thread k t x at in
    subst (λ z. Follows h p (add_birth p t r number z) (plain_born number (replicate l.refs None)
    (replicate l.nums 0) t r
    (births_of p))) (sym is) (record {
      roots = changed_roots h p _ t (set_name r (Some (length p.objects))) refl refl
          (λ y. length-set y.registers r (Some (length p.objects)));
      births = born_is p t r number l y there (omega (arith, low, size));
    })

-- a datum is written
writing_is : (p : PlainHeap) (o : Option ℕ) (j v : ℕ) → births_of (write_datum p o j v) ≡ datum_at o j v (births_of p)
unfolding name_of
writing_is p None j v = refl
writing_is p (Some b) j v = λ z. record (births_of p) {
  births = length_changed p.objects b (set_datum j v) z;
  layout = fun_ext (kept_of layout_in p.objects b (set_datum j v) (λ x. refl)) z;
  refs = fun_ext (λ c. kept_of refs_in p.objects b (set_datum j v) (λ x. refl) c ∙ sym
      (ap (λ f. f c) (put_id (λ c. refs_in (slice_get p.objects c)) b (refs_in (slice_get p.objects b)) refl))) z;
  data_words = fun_ext (λ c. ap data_in (get_changed p.objects b (set_datum j v) c)
      ∙ put_read data_in (slice_get p.objects) b (option_map (set_datum j v) (slice_get p.objects b)) c
      ∙ ap (λ d. put (λ c. data_in (slice_get p.objects c)) b d c) (set_in (slice_get p.objects b))) z;
}
  where
    set_in : (o : Option Object) → data_in (option_map (set_datum j v) o) ≡ set (data_in o) j v
    set_in None = refl
    set_in (Some o) = refl

pub writing_follows : (h : HeapState) (p : PlainHeap) (o : Option ℕ) (j v : ℕ)
    → Follows h p (write_datum p o j v) (datum_at o j v (births_of p))
writing_follows h p None j v = stays h p
writing_follows h p (Some b) j v = record {
  roots = λ k. record { threads = k.threads; registers = k.registers; globals = k.globals };
  births = writing_is p (Some b) j v;
}

-- a reference is written
storing_is : (p : PlainHeap) (o : Option ℕ) (i : ℕ) (v : Option ℕ)
    → births_of (store_field p o i v) ≡ store_at o i v (births_of p)
unfolding name_of
storing_is p None i v = refl
storing_is p (Some b) i v = λ z. record (births_of p) {
  births = length_changed p.objects b (set_field i v) z;
  layout = fun_ext (kept_of layout_in p.objects b (set_field i v) (λ x. refl)) z;
  refs = fun_ext (λ c. ap refs_in (get_changed p.objects b (set_field i v) c)
      ∙ put_read refs_in (slice_get p.objects) b (option_map (set_field i v) (slice_get p.objects b)) c
      ∙ ap (λ d. put (λ c. refs_in (slice_get p.objects c)) b d c) (set_in (slice_get p.objects b))) z;
  data_words = fun_ext (λ c. kept_of data_in p.objects b (set_field i v) (λ x. refl) c ∙ sym
      (ap (λ f. f c) (put_id (λ c. data_in (slice_get p.objects c)) b (data_in (slice_get p.objects b)) refl))) z;
}
  where
    set_in : (o : Option Object) → refs_in (option_map (set_field i v) o) ≡ set (refs_in o) i v
    set_in None = refl
    set_in (Some o) = refl

pub storing_follows : (h : HeapState) (p : PlainHeap) (o : Option ℕ) (i : ℕ) (v : Option ℕ)
    → Follows h p (store_field p o i v) (store_at o i v (births_of p))
storing_follows h p None i v = stays h p
storing_follows h p (Some b) i v = record {
  roots = λ k. record { threads = k.threads; registers = k.registers; globals = k.globals };
  births = storing_is p (Some b) i v;
}

-- a global gets a birth
global_is : (p : PlainHeap) (g : ℕ) (v : Option ℕ) → g < length p.globals
    → births_of (record p { globals = set p.globals g v }) ≡ plain_set_global g v (births_of p)
unfolding name_of
global_is p g v k = λ z. record (births_of p) { global = fun_ext globals z }
  where
    globals : (n : ℕ) → flat (slice_get (set p.globals g v) n) ≡ put (λ n. flat (slice_get p.globals n)) g v n
    globals = put_all (λ n y. flat (slice_get (set p.globals g v) n) ≡ y) (λ n. flat (slice_get p.globals n)) g v
        (let (z, there) = get_within p.globals g k in ap flat (get_set_same p.globals g z v there))
        (λ n d. ap flat (get_set_other p.globals g n v d))

pub global_follows : {h : HeapState} {p p0 : PlainHeap} → Holds h p p0 → (g : ℕ) (v : Option ℕ) → g < length h.globals
    → Follows h p (record p { globals = set p.globals g v }) (plain_set_global g v (births_of p))
global_follows {h = h} {p = p} k g v low = record {
  roots = λ r. record {
    threads = r.threads;
    registers = r.registers;
    globals = length-set p.globals g v ∙ r.globals;
  };
  births = global_is p g v (omega (arith, low, k.roots.globals));
}

-- a load begins
loading_is : (p : PlainHeap) (t r : ℕ) (b : Option ℕ) (y : PlainThread) → slice_get p.threads t ≡ Some y
    → births_of (begin_load p t r (Some b)) ≡ plain_set_pending t (r, b) (births_of p)
unfolding name_of
loading_is p t r b y e = λ z. record (births_of p) {
  register = fun_ext (λ u. fun_ext (λ s. kept_of (λ o. name_in o s) p.threads t (start_load r b) (λ x. refl) u)) z;
  pending = fun_ext (read_changed (λ o. option_map as_pair (pending_in o)) p.threads t (start_load r b) y
      (Some (r, b)) e refl) z;
}

pub loading_follows : {h : HeapState} {p p0 : PlainHeap} → Holds h p p0 → (t : ℕ) (x : ThreadState)
    → slice_get h.threads t ≡ Some x → (r : ℕ) (o : Option (Option ℕ)) (b : Option ℕ) → o ≡ Some b
    → Follows h p (begin_load p t r o) (plain_set_pending t (r, b) (births_of p))
loading_follows {h = h} {p = p} k t x at r o b is =
    let (y, there, size) = plain_thread k t x at in
    subst (λ z. Follows h p (begin_load p t r z) (plain_set_pending t (r, b) (births_of p))) (sym is) (record {
      roots = changed_roots h p _ t (start_load r b) refl refl (λ y. refl);
      births = loading_is p t r b y there;
    })

-- a load ends
finishing_is : (p : PlainHeap) (t : ℕ) (l : Pending) (y : PlainThread)
    → slice_get p.threads t ≡ Some y → l.target < length y.registers
    → births_of (finish_pending p t (Some l)) ≡ plain_end_load t l.target l.found (births_of p)
unfolding name_of
finishing_is p t l y e k = λ z. record (births_of p) {
  register = fun_ext (λ u. fun_ext (name_changed p.threads t l.target l.found (end_load l) y e k refl u)) z;
  pending = fun_ext (read_changed (λ o. option_map as_pair (pending_in o)) p.threads t (end_load l) y None e refl) z;
}

pub finishing_follows : {h : HeapState} {p p0 : PlainHeap} → Holds h p p0 → (t : ℕ) (x : ThreadState)
    → slice_get h.threads t ≡ Some x → (o : Option Pending) (l : Pending) → o ≡ Some l → l.target < h.config.registers
    → Follows h p (finish_pending p t o) (plain_end_load t l.target l.found (births_of p))
finishing_follows {h = h} {p = p} k t x at o l is low =
    let (y, there, size) = plain_thread k t x at in
    subst (λ z. Follows h p (finish_pending p t z) (plain_end_load t l.target l.found (births_of p))) (sym is) (record {
      roots = changed_roots h p _ t (end_load l) refl refl (λ y. length-set y.registers l.target l.found);
      births = finishing_is p t l y there (omega (arith, low, size));
    })

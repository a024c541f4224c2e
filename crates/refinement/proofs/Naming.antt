-- The object of a usable register, and the places of its references and data.
use Rattle.std.proofs.Common.{◌≡◌, ℕ, ◌+◌, ◌<◌, length, Some, ap}
use Rattle.std.specs.Prelude.{Result}
use Rattle.model.specs.States.{HeapState}
use Rattle.model.specs.Registers.{register_of, usable}
use Rattle.model.specs.Refusing.{◌>>=◌, or_refuse}
use Rattle.model.specs.Data.{datum_at}
use Rattle.model.specs.References.{field_at}
use Rattle.model.specs.Plain.{PlainHeap, name_of}
use Rattle.model.specs.declared.steps.Refusal.{Refusal}
use Rattle.laws.specs.AddressHeap.{HeapObject, To}
use Rattle.laws.specs.Transitions.{Uses}
use Rattle.laws.specs.Promises.{ReadsPlain}
use Rattle.laws.proofs.Basics.{current_there}
use Rattle.laws.proofs.Reading.{At, at, register_kept}
use Rattle.laws.proofs.Reading as reading
use Rattle.laws.proofs.Promises.{reads}
use Rattle.refinement.specs.Worlds.{world_of, as_word, object_at}
use Rattle.refinement.specs.PlainHeaps.{births_of}
use Rattle.refinement.specs.Standing.{Holds}
use Rattle.refinement.proofs.Accepted.{OnAccepted, on_has, on_some}
use Rattle.refinement.proofs.Verdicts.{IsUsed, used, field_there, datum_there}

-- the object of a usable register
pub record NamesObject (h : HeapState) (p : PlainHeap) (t r a : ℕ) : Type 0 where
  pub object : HeapObject
  pub uses : Uses (world_of h) t r a object
  pub reads : ReadsPlain (world_of h) (births_of p) t r a object
  pub holds : At (world_of h) (births_of p) a object

pub names_object : {h : HeapState} {p p0 : PlainHeap} → Holds h p p0 → (t r a : ℕ) → IsUsed h t r a
    → NamesObject h p t r a
unfolding name_of
names_object {h = h} {p = p} {p0 = p0} k t r a u =
    let word : as_word (register_of h t r) ≡ To a u.bit = ap as_word u.word in
    let d = reading.used (world_of h) (births_of p) (births_of p0) k.invariant t r a u.bit word u.usable in
    let here : object_at h a ≡ Some d.object = current_there (world_of h) a d.object d.here in
    let uses : Uses (world_of h) t r a d.object = record { bit = u.bit; word = word; usable = u.usable; here = here } in
    record {
      object = d.object;
      uses = uses;
      reads = reads (world_of h) (births_of p) (births_of p0) k.invariant t r a d.object uses;
      holds = at (world_of h) (births_of p) (births_of p0) k.invariant a d.object d.here
          (register_kept (world_of h) (births_of p) t r d.object.birth d.birth);
    }

-- a ← usable h t r
pub on_named : {h : HeapState} {p p0 : PlainHeap} {B : Type 0} → Holds h p p0 → (t r : ℕ)
    → (f : ℕ → Result B Refusal) (P : B → Type 0) → ((a : ℕ) → NamesObject h p t r a → OnAccepted P (f a))
    → OnAccepted P (usable h t r >>= f)
on_named {h = h} k t r f P use_it =
    on_has (usable h t r) f (IsUsed h t r) P (used h t r) (λ a u. use_it a (names_object k t r a u))

-- n ← or_refuse (field_at h a i) BadIndex
pub on_field : {h : HeapState} {p : PlainHeap} {t r a : ℕ} {B : Type 0} (names : NamesObject h p t r a) (i : ℕ)
    (e : Refusal) (f : ℕ → Result B Refusal) (P : B → Type 0)
    → ((n : ℕ) → i < length names.object.refs → a + (1 + i) ≡ n → OnAccepted P (f n))
    → OnAccepted P (or_refuse (field_at h a i) e >>= f)
on_field {h = h} {a = a} names i e f P use_it = on_some (field_at h a i) e f P
    (λ n found. let (low, spot) = field_there h a names.object names.uses.here i n found in use_it n low spot)

-- n ← or_refuse (datum_at h a j) BadIndex
pub on_datum : {h : HeapState} {p : PlainHeap} {t r a : ℕ} {B : Type 0} (names : NamesObject h p t r a) (j : ℕ)
    (e : Refusal) (f : ℕ → Result B Refusal) (P : B → Type 0)
    → ((n : ℕ) → j < length names.object.data_words → a + (1 + length names.object.refs + j) ≡ n
    → OnAccepted P (f n)) → OnAccepted P (or_refuse (datum_at h a j) e >>= f)
on_datum {h = h} {a = a} names j e f P use_it = on_some (datum_at h a j) e f P
    (λ n found. let (low, spot) = datum_there h a names.object names.uses.here j n found in use_it n low spot)

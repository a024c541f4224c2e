-- The reference model of `model`, as functions of births and numbers.
use Rattle.std.specs.Prelude.{◌≡◌, ℕ, List, [], length, Option, Some, None, option_map, slice_get}
use Rattle.model.specs.States.{flat, HeapState}
use Rattle.model.specs.Owning.{Each}
use Rattle.model.specs.Plain.{PlainHeap, Object, Pending, name_of, pending_in}
use Rattle.laws.specs.BirthHeap.{BirthHeap}

-- the number of the layout of an object that may be missing
abbrev pub layout_in : Option Object → ℕ
layout_in None = 0
layout_in (Some o) = o.layout

-- the references of an object that may be missing
abbrev pub refs_in : Option Object → List (Option ℕ)
refs_in None = []
refs_in (Some o) = o.refs

-- the data of an object that may be missing
abbrev pub data_in : Option Object → List ℕ
data_in None = []
data_in (Some o) = o.data_words

-- a load, in the laws' terms
abbrev pub as_pair : Pending → ℕ × Option ℕ
as_pair l = (l.target, l.found)

-- the reference model, in the laws' terms
abbrev pub births_of : PlainHeap → BirthHeap
births_of p = record {
  births = length p.objects;
  layout = λ b. layout_in (slice_get p.objects b);
  refs = λ b. refs_in (slice_get p.objects b);
  data_words = λ b. data_in (slice_get p.objects b);
  register = name_of p;
  pending = λ t. option_map as_pair (pending_in (slice_get p.threads t));
  global = λ g. flat (slice_get p.globals g);
}

-- the reference model has the threads, registers and globals of a heap
pub record HasRootsOf (h : HeapState) (p : PlainHeap) : Type 0 where
  pub threads : length p.threads ≡ length h.threads
  pub registers : Each p.threads (λ t. length t.registers ≡ h.config.registers)
  pub globals : length p.globals ≡ length h.globals

-- The reference model: it never moves and never frees an object.
use Rattle.std.specs.Prelude.{ℕ, ◌==◌, Bool, true, false, List, [], ◌∷◌, ◌++◌, length, replicate, Option, Some, None}
use Rattle.std.specs.Prelude.{slice_get, slice_set, is_none}
use Rattle.layout.specs.declared.shape.Layout.{Layout}
use Rattle.model.specs.declared.config.Config.{Config}
use Rattle.model.specs.declared.steps.Actor.{Actor}
use Rattle.model.specs.declared.steps.Actor.TheVariants.{Thread, Worker}
use Rattle.model.specs.declared.steps.Step.{Step}
use Rattle.model.specs.declared.steps.Step.TheVariants as steps
use Rattle.model.specs.declared.steps.Answer.{Answer}
use Rattle.model.specs.declared.steps.Answer.TheVariants as answers
use Rattle.model.specs.States.{flat, change_at}

-- an object: the number of its layout, its references, each a birth or none, and its data
pub record Object : Type 0 where
  pub layout : ℕ
  pub refs : List (Option ℕ)
  pub data_words : List ℕ

-- the register that a load is for, and the birth that it loaded, or none
pub record Pending : Type 0 where
  pub target : ℕ
  pub found : Option ℕ

-- a thread: the birth in each register, or none, and its unfinished load
pub record PlainThread : Type 0 where
  pub registers : List (Option ℕ)
  pub pending : Option Pending

-- the object of birth b is at index b of objects
pub record PlainHeap : Type 0 where
  pub objects : List Object
  pub threads : List PlainThread
  pub globals : List (Option ℕ)

-- reading

-- the birth in register r of a thread that may be missing
abbrev pub name_in : Option PlainThread → ℕ → Option ℕ
name_in None r = None
name_in (Some t) r = flat (slice_get t.registers r)

-- the birth in a register
unfoldable pub name_of : PlainHeap → ℕ → ℕ → Option ℕ
name_of p t r = name_in (slice_get p.threads t) r

-- the object of a birth that may be missing
abbrev pub object_of : PlainHeap → Option ℕ → Option Object
object_of p None = None
object_of p (Some b) = slice_get p.objects b

-- reference i of an object that may be missing: a birth or none
abbrev pub field_of : Option Object → ℕ → Option (Option ℕ)
field_of None i = None
field_of (Some o) i = slice_get o.refs i

-- datum j of an object that may be missing
abbrev pub datum_of : Option Object → ℕ → Option ℕ
datum_of None j = None
datum_of (Some o) j = slice_get o.data_words j

-- the load of a thread that may be missing
abbrev pub pending_in : Option PlainThread → Option Pending
pending_in None = None
pending_in (Some t) = t.pending

-- changing

-- a thread with another birth in register r
abbrev pub set_name : ℕ → Option ℕ → PlainThread → PlainThread
set_name r b t = record t { registers = slice_set t.registers r b }

-- the reference model with another birth in a register
unfoldable pub name_register : PlainHeap → ℕ → ℕ → Option ℕ → PlainHeap
name_register p t r b = record p { threads = change_at p.threads t (set_name r b) }

-- a new object of a layout: its references are none, its data 0
abbrev pub blank_object : ℕ → Layout → Object
blank_object number l = record { layout = number; refs = replicate l.refs None; data_words = replicate l.nums 0 }

-- one more birth, to which a register refers
abbrev pub add_birth : PlainHeap → ℕ → ℕ → ℕ → Option Layout → PlainHeap
add_birth p t r number None = p
add_birth p t r number (Some l) =
    name_register (record p { objects = p.objects ++ blank_object number l ∷ [] }) t r (Some (length p.objects))

-- a thread with a load for register r, which found b
abbrev pub start_load : ℕ → Option ℕ → PlainThread → PlainThread
start_load r b t = record t { pending = Some (record { target = r; found = b }) }

-- a load becomes pending with the birth that it found; nothing changes if there is no such place
abbrev pub begin_load : PlainHeap → ℕ → ℕ → Option (Option ℕ) → PlainHeap
begin_load p t r None = p
begin_load p t r (Some b) = record p { threads = change_at p.threads t (start_load r b) }

-- a thread whose load ended: its register has what the load found
abbrev pub end_load : Pending → PlainThread → PlainThread
end_load l t = record t { registers = slice_set t.registers l.target l.found; pending = None }

-- the load of a thread ends; nothing changes if there is none
abbrev pub finish_pending : PlainHeap → ℕ → Option Pending → PlainHeap
finish_pending p t None = p
finish_pending p t (Some l) = record p { threads = change_at p.threads t (end_load l) }

-- an object with another reference i
abbrev pub set_field : ℕ → Option ℕ → Object → Object
set_field i b o = record o { refs = slice_set o.refs i b }

-- reference i of a birth changes; nothing does if there is no birth
abbrev pub store_field : PlainHeap → Option ℕ → ℕ → Option ℕ → PlainHeap
store_field p None i b = p
store_field p (Some a) i b = record p { objects = change_at p.objects a (set_field i b) }

-- an object with another datum j
abbrev pub set_datum : ℕ → ℕ → Object → Object
set_datum j v o = record o { data_words = slice_set o.data_words j v }

-- datum j of a birth changes; nothing does if there is no birth
abbrev pub write_datum : PlainHeap → Option ℕ → ℕ → ℕ → PlainHeap
write_datum p None j v = p
write_datum p (Some a) j v = record p { objects = change_at p.objects a (set_datum j v) }

-- the effect of thread t's step on the reference model
abbrev pub thread_plain : List Layout → PlainHeap → ℕ → Step → PlainHeap
thread_plain ls p t (steps.New target layout) = add_birth p t target layout (slice_get ls layout)
thread_plain ls p t (steps.Load target object field) =
    begin_load p t target (field_of (object_of p (name_of p t object)) field)
thread_plain ls p t (steps.LoadGlobal target global) = begin_load p t target (slice_get p.globals global)
thread_plain ls p t steps.Finish = finish_pending p t (pending_in (slice_get p.threads t))
thread_plain ls p t (steps.Store object field source) = store_field p (name_of p t object) field (name_of p t source)
thread_plain ls p t (steps.StoreGlobal global source) =
    record p { globals = slice_set p.globals global (name_of p t source) }
thread_plain ls p t (steps.SetDatum object index value) = write_datum p (name_of p t object) index value
thread_plain ls p t (steps.CopyReg target source) = name_register p t target (name_of p t source)
thread_plain ls p t (steps.ClearReg target) = name_register p t target None
thread_plain ls p t _ = p

-- the effect of a step on the reference model: a worker's has none
unfoldable pub plain_step : List Layout → PlainHeap → Actor → Step → PlainHeap
plain_step ls p (Thread t) s = thread_plain ls p t s
plain_step ls p (Worker w) s = p

-- the answer with a datum, if there is one
abbrev pub as_datum : Option ℕ → Option Answer
as_datum None = None
as_datum (Some v) = Some (answers.Datum v)

-- both are none, or they are one birth
abbrev pub same_name : Option ℕ → Option ℕ → Bool
same_name None None = true
same_name (Some a) (Some b) = a == b
same_name _ _ = false

-- the reference model's answer to thread t, if it has one
abbrev pub thread_answer : PlainHeap → ℕ → Step → Option Answer
thread_answer p t (steps.New target layout) = Some (answers.Birth (length p.objects))
thread_answer p t (steps.Datum object index) = as_datum (datum_of (object_of p (name_of p t object)) index)
thread_answer p t (steps.Same left right) = Some (answers.Truth (same_name (name_of p t left) (name_of p t right)))
thread_answer p t (steps.IsNull r) = Some (answers.Truth (is_none (name_of p t r)))
thread_answer p t _ = None

-- the reference model's answer, if it has one
unfoldable pub plain_answer : PlainHeap → Actor → Step → Option Answer
plain_answer p (Thread t) s = thread_answer p t s
plain_answer p (Worker w) s = None

-- the first reference model, without births
unfoldable pub plain_start : Config → PlainHeap
plain_start c = record {
  objects = [];
  threads = replicate c.threads (record { registers = replicate c.registers None; pending = None });
  globals = replicate c.globals None;
}

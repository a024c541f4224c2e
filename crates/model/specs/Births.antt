-- New objects.
use Rattle.std.specs.Prelude.{ℕ, ◌+◌, ◌-◌, true, ◌∷◌, List, replicate, Some, slice_get}
use Rattle.std.specs.Prelude.{if◌then◌else◌, ◌*◌, Ok, Err, nat_lt, nat_le}
use Rattle.layout.specs.declared.shape.Layout.{Layout}
use Rattle.layout.specs.Objects.{header_bits, size_of}
use Rattle.model.specs.declared.records.Buffer.{Buffer}
use Rattle.model.specs.declared.steps.Answer.TheVariants as answers
use Rattle.model.specs.declared.steps.Refusal.TheVariants as refusals
use Rattle.model.specs.Phases.{is_marking, is_mark_crossing}
use Rattle.model.specs.Stores.{with_words, overlay}
use Rattle.model.specs.Refusing.{◌>>=◌, or_refuse, Outcome}
use Rattle.model.specs.States.{Reference, ThreadState, HeapState, change_at}
use Rattle.model.specs.Threads.{set_register_of, set_buffer_of}
use Rattle.model.specs.Buffers.{buffer_of_thread}
use Rattle.model.specs.Bits.{put_bit}

-- the words of a new object: its header, then zeros
abbrev pub fresh_object : ℕ → ℕ → Layout → List ℕ
fresh_object birth number l = header_bits (record { birth = birth; layout = number }) ∷ replicate (l.refs + l.nums) 0

-- the rest of a buffer after n of its words
abbrev pub used_buffer : Buffer → ℕ → Buffer
used_buffer b n = record b { next = b.next + n }

-- a thread's register gets a reference to a new object, and its buffer becomes the rest
abbrev pub hand_object : ℕ → Reference → Buffer → ThreadState → ThreadState
hand_object target w rest t = set_register_of target w (set_buffer_of (Some rest) t)

-- the heap after an object was made in a buffer; while a mark runs it is born marked, and before all threads have
-- crossed also grey
unfoldable pub place_object : HeapState → ℕ → ℕ → ℕ → Layout → Buffer → HeapState
place_object h t target number l b = record h {
  store = with_words h.store b.page (λ ws. overlay ws b.next (fresh_object h.births number l));
  starts = change_at h.starts (b.page - 1) (put_bit b.next true);
  mark = change_at h.mark (b.page - 1) (put_bit b.next (is_marking h.phase));
  todo = change_at h.todo (b.page - 1) (put_bit b.next (is_mark_crossing h.phase));
  threads = change_at h.threads t
      (hand_object target (Some (b.page * h.store.words + b.next, h.nmt)) (used_buffer b (size_of l)));
  births = h.births + 1;
}

-- the outcome of New
unfoldable pub new_outcome : HeapState → ℕ → ℕ → ℕ → Outcome
new_outcome h t target number = do
  b ← or_refuse (buffer_of_thread h t) refusals.NoRoom
  l ← or_refuse (slice_get h.config.layouts number) refusals.BadIndex
  if nat_lt (b.end - b.next) (size_of l) then Err refusals.NoRoom else
      (if nat_le h.config.births h.births then Err refusals.Births
      else Ok (place_object h t target number l b, answers.Birth h.births))

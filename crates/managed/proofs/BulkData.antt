-- Data words and bytes of an object that are read, written or copied by one call.
use Rattle.std.proofs.Common.{◌≡◌, ◌∙◌, ◌+◌, ◌/◌, ◌%◌, ℕ, true, List, length}
use Rattle.std.proofs.Common.{inl, inr, sym, ap, subst}
use Rattle.std.specs.Prelude.{Result, Ok, Err, slice_range}
use Rattle.model.specs.Holding.{IsHeap}
use Rattle.model.specs.Owning.{IsStore}
use Rattle.model.specs.States.{HeapState}
use Rattle.model.specs.Stores.{overlay}
use Rattle.model.specs.declared.steps.Refusal.{Refusal}
use Rattle.model.specs.declared.steps.Refusal.TheVariants as refusals
use Rattle.refinement.specs.Standing.{StepsHold, MarksFind, PhasesMove}
use Rattle.refinement.specs.Tallies.{StepsCount}
use Rattle.managed.specs.Managing.{IsManaged}
use Rattle.managed.specs.declared.data.Run.{Run}
use Rattle.managed.specs.Bytes.{EndsReadingBytes, EndsWritingBytes, ReadsRunBytes, WritesRunBytes, bytes_of, words_touched}
use Rattle.managed.specs.Data.{CopiesRun, EndsCopying, IsRun, LacksDatum, LacksWord, set_entries, with_data}
use Rattle.managed.proofs.ManyData.{gate_in, place_in, run_read, run_written, unread_there}
use Rattle.managed.proofs.Running.{managed_then}
use Rattle.managed.specs.Runs.{Runs}

-- a word that isn't there can't be read
pub word_lacks : (h : HeapState) (t object j count : ℕ) (r : Run) → IsRun h t object j count r
    → LacksWord h.store (r.address + r.ahead) count → LacksDatum h t object j count refusals.BadIndex
word_lacks h t object j count r k lacks =
    let i = lacks.0 in (
      i,
      lacks.1,
      unread_there h t object (j + i) r.address _ (gate_in h t object j (j + i) k.gate) k.usable
          (place_in h t object j count r i k lacks.1) lacks.2,
    )

-- what holds while steps are done
module _ (h : HeapState) (s : IsStore h.store) (d : IsHeap h) (hold : StepsHold) (find : MarksFind)
    (move : PhasesMove) (tally : StepsCount) where
  -- words of a run are written
  pub data_written : (t object j count : ℕ) (r : Run) (values : List ℕ) (g : HeapState) → IsRun h t object j count r
      → length values ≡ count → g ≡ with_data h (r.address + r.ahead) values
      → Runs h (set_entries t object j values) g
  data_written t object j count r values g k long is =
      subst (Runs h (set_entries t object j values)) (sym is)
      (run_written h t object j r values s d hold find move tally
      (subst (λ n. IsRun h t object j n r) (sym long) k))

  -- words are copied, or nothing is done
  pub run_copied : (t target j source i count : ℕ) (from : Run) (r : Result Unit Refusal) (g : HeapState)
      → IsRun h t source i count from → CopiesRun t target j (from.address + from.ahead) count h r g
      → EndsCopying t target j source i count h r g
  run_copied t target j source i count from (Ok u) g k (values, words, to, l, is) = (
    values,
    words.0,
    run_read h t source i from values count k words.0 words.1,
    data_written t target j count to values g l words.0 is,
  )
  run_copied t target j source i count from (Err e) g k (same, inl (bad, lacks)) = (
    same,
    inl (subst (LacksDatum h t source i count) (sym bad) (word_lacks h t source i count from k lacks)),
  )
  run_copied t target j source i count from (Err e) g k (same, inr (values, words, lacks)) = (
    same,
    inr (
      values,
      words.0,
      run_read h t source i from values count k words.0 words.1,
      (lacks.0, lacks.1, lacks.3),
    ),
  )

  -- bytes are written
  pub run_replaced : (t object at count skip : ℕ) (r : Run) (bytes : List ℕ) (g : HeapState)
      → IsRun h t object (at / 8) count r → skip ≡ at % 8 → count ≡ words_touched skip (length bytes)
      → WritesRunBytes (r.address + r.ahead) count skip bytes h true g
      → EndsWritingBytes t object at bytes h (Ok tt) g
  run_replaced t object at count skip r bytes g k off many (old, new, words, long, is, fits, into) =
      let first : count ≡ words_touched (at % 8) (length bytes) =
      many ∙ ap (λ n. words_touched n (length bytes)) off in (
        old,
        new,
        words.0 ∙ first,
        run_read h t object (at / 8) r old count k words.0 words.1,
        is ∙ ap (λ n. overlay (bytes_of old) n bytes) off,
        fits,
        data_written t object (at / 8) count r new g k long into,
      )

-- bytes are read
pub run_bytes : (h : HeapState) (t object at count skip : ℕ) (r : Run) (bytes : List ℕ)
    → IsRun h t object (at / 8) count r → skip ≡ at % 8 → count ≡ words_touched skip (length bytes)
    → ReadsRunBytes h.store (r.address + r.ahead) count skip bytes true
    → EndsReadingBytes t object at h (Ok tt) bytes
run_bytes h t object at count skip r bytes k off many (values, words, is) = (
  values,
  words.0 ∙ many ∙ ap (λ n. words_touched n (length bytes)) off,
  run_read h t object (at / 8) r values count k words.0 words.1,
  is ∙ ap (λ n. slice_range (bytes_of values) n (n + length bytes)) off,
)

-- or a word of theirs isn't there
pub bytes_lack : (h : HeapState) (t object at count skip size : ℕ) (r : Run) → IsRun h t object (at / 8) count r
    → skip ≡ at % 8 → count ≡ words_touched skip size → LacksWord h.store (r.address + r.ahead) count
    → LacksDatum h t object (at / 8) (words_touched (at % 8) size) refusals.BadIndex
bytes_lack h t object at count skip size r k off many lacks =
    subst (λ n. LacksDatum h t object (at / 8) n refusals.BadIndex) (many ∙ ap (λ n. words_touched n size) off)
    (word_lacks h t object (at / 8) count r k lacks)

-- ---- what is managed

pub copied_managed : (h g : HeapState) (t target j source i count : ℕ) (r : Result Unit Refusal) → IsManaged h
    → EndsCopying t target j source i count h r g → IsManaged g
copied_managed h g t target j source i count (Ok u) m (values, long, reads, runs) = managed_then h g _ m runs
copied_managed h g t target j source i count (Err e) m (same, why) = subst IsManaged (sym same) m

pub replaced_managed : (h g : HeapState) (t object at : ℕ) (bytes : List ℕ) (r : Result Unit Refusal) → IsManaged h
    → EndsWritingBytes t object at bytes h r g → IsManaged g
replaced_managed h g t object at bytes (Ok u) m (old, new, long, reads, is, fits, runs) = managed_then h g _ m runs
replaced_managed h g t object at bytes (Err e) m (same, why) = subst IsManaged (sym same) m

-- A mark that ends: thread 0 crosses, with registers that are null, and nothing is grey.
use Rattle.std.proofs.Common.{◌≡◌, ◌≢◌, inl, inr, ℕ, Bool, true, false, nat_lt, refl, arith}
use Rattle.std.proofs.lemmas.Bool.Decides.{nat_tests}
use Rattle.model.specs.declared.records.Phase.TheVariants.{Scanning}
use Rattle.laws.specs.AddressHeap.{AddressHeap}
use Rattle.laws.specs.First.{first, plain_first}
use Rattle.laws.specs.Edits.{start_mark, cross_checkpoint}
use Rattle.laws.specs.Transitions.{StartMark, CrossMark, End, Then}
use Rattle.laws.specs.Promises.{MarksCanEnd}
use Rattle.laws.proofs.Basics.{put_all}

-- true for numbers that no thread has: 0 is the only thread
abbrev no_thread : ℕ → Bool
no_thread t = nat_lt 0 t

abbrev start : AddressHeap
start = first (λ g. false)

abbrev marking : AddressHeap
marking = start_mark no_thread start

abbrev scanning : AddressHeap
scanning = cross_checkpoint 0 Scanning marking

others : (u : ℕ) → u ≢ 0 → no_thread u ≡ true
others u d = grind (arith, nat_tests)

pub mark_can_end : MarksCanEnd
mark_can_end = record {
  heap = scanning;
  run = Then start plain_first plain_first marking plain_first plain_first scanning plain_first plain_first
      (StartMark no_thread (record {
        phase = inl refl;
        waits = (0, refl);
        no_thread = λ t r e. refl;
      }))
      (Then marking plain_first plain_first scanning plain_first plain_first scanning plain_first plain_first
      (CrossMark 0 0 Scanning refl refl (λ r e. refl) (inr (refl, others)))
      (End scanning plain_first plain_first));
  ends = record {
    scans = record { runs = refl; crossed = put_all (λ t b. b ≡ true) no_thread 0 true refl others };
    todo = λ a. refl;
    globals = λ g. refl;
    barriers = λ t. refl;
  };
}

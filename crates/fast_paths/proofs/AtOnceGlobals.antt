-- Loads of globals that are done at once.
use Rattle.std.proofs.Common.{◌≡◌, ℕ, false, Some, length, refl, sym, ap, arith, ◌∙◌, ◌<◌}
use Rattle.std.specs.Prelude.{Ok, slice_get}
use Rattle.std.proofs.lemmas.Option.{slice_get_within}
use Rattle.model.specs.declared.records.Barrier.{Barrier}
use Rattle.model.specs.declared.records.Counter.TheVariants as counters
use Rattle.model.specs.declared.records.Global.{Global}
use Rattle.model.specs.declared.records.Place.TheVariants as places
use Rattle.model.specs.declared.steps.Actor.TheVariants.{Thread}
use Rattle.model.specs.declared.steps.Answer.TheVariants as answers
use Rattle.model.specs.declared.steps.Step.TheVariants as steps
use Rattle.model.specs.Holding.{IsHeap}
use Rattle.model.specs.Loads.{with_barrier, with_loaded, new_barrier, load_global_outcome}
use Rattle.model.specs.Outcome.{outcome, no_global}
use Rattle.model.specs.Owning.{IsStore}
use Rattle.model.specs.References.{global_of, word_of_global}
use Rattle.model.specs.States.{Reference, HeapState}
use Rattle.fast_paths.specs.AtOnce.{begun, HoldsAtOnce, IsQuiet, LoadsAtOnce, ReadsGlobal}
use Rattle.fast_paths.proofs.AtOnce.{gated, loads_at_once}

global_there : (h : HeapState) (g : ℕ) → g < length h.globals → no_global h g ≡ false
unfolding no_global
global_there h g low = grind arith

pub global_read : (h : HeapState) (t target g : ℕ) (v w : Reference) (x : Global) → HoldsAtOnce h t target v
    → slice_get h.globals g ≡ Some x → w ≡ x.word → ReadsGlobal h t target g w
unfolding global_of
global_read h t target g v w x p there is = record {
  passes = p.passes (steps.LoadGlobal target g) refl
      (rw (p.there, global_there h g (slice_get_within h.globals g x there)) refl);
  closed = p.closed;
  word = is ∙ sym (ap word_of_global there);
}

pub global_loaded : (h g : HeapState) (t target global : ℕ) (w : Reference) → IsStore h.store → IsHeap h → IsQuiet h w
    → ReadsGlobal h t target global w
    → ((b : Barrier) → g ≡ with_loaded (with_barrier h t b counters.Loads) t target w)
    → LoadsAtOnce h t (steps.LoadGlobal target global) g
unfolding outcome load_global_outcome
global_loaded h g t target global w st k e reads is =
    let begin = steps.LoadGlobal target global in
    let place = places.Global global in
    let p = gated h t begin refl reads.passes in
    let begins : outcome h (Thread t) begin ≡ Ok (begun h t target place w, answers.Loaded) =
    rw (reads.passes, reads.word) refl in
    rw (is (new_barrier target place w)) (loads_at_once h t target begin place w st k e p.0 p.1 begins)

-- A step that allocates an object.
use Rattle.std.proofs.Common.{◌≡◌, ℕ, ◌+◌, ◌<◌, Option, Some, None, refl, sym, ◌∙◌, ap, subst, arith, zero, suc, ◌-◌}
use Rattle.std.proofs.Common.{◌*◌, ◌≤◌, nat_lt, nat_le, replicate, get_or}
use Rattle.std.specs.List.{slice_get}
use Rattle.std.proofs.lemmas.Option.{slice_get_within, same_Some}
use Rattle.model.specs.declared.steps.Actor.TheVariants.{Thread}
use Rattle.model.specs.declared.steps.Step.TheVariants as steps
use Rattle.model.specs.declared.steps.Answer.TheVariants as answers
use Rattle.model.specs.Owning.{IsStore, LiesIn}
use Rattle.model.specs.Holding.{IsHeap}
use Rattle.model.specs.States.{HeapState}
use Rattle.model.specs.Plain.{PlainHeap, plain_step, plain_answer}
use Rattle.laws.specs.AddressHeap.{Null, Word}
use Rattle.refinement.specs.Worlds.{world_of}
use Rattle.refinement.specs.Standing.{Holds}
use Rattle.refinement.proofs.Accepted.{on_some, on_test}
use Rattle.refinement.proofs.Carrying.{RowHolds, row_by}
use Rattle.refinement.proofs.Verdicts.{Passed, first_false, closed_barrier, is_register}
use Rattle.std.specs.Option.{IfSome}
use Rattle.std.proofs.Math.ListN.{length-replicate}
use Rattle.std.proofs.lemmas.Bool.{leb-false, ltb-false}
use Rattle.layout.specs.declared.shape.Layout.{Layout}
use Rattle.layout.specs.Objects.{size_of}
use Rattle.model.specs.declared.records.Buffer.{Buffer}
use Rattle.model.specs.declared.records.PageState.TheVariants.{Open, From}
use Rattle.model.specs.Threads.{buffer_in}
use Rattle.model.specs.Buffers.{buffer_of_thread}
use Rattle.model.specs.Births.{new_outcome}
use Rattle.model.specs.Outcome.{no_register}
use Rattle.model.specs.Stores.{StoreState}
use Rattle.laws.specs.Transitions.{New, MayBeBorn}
use Rattle.refinement.proofs.ObjectWords.{new_object}
use Rattle.refinement.proofs.Born as births
use Rattle.refinement.proofs.PlainSteps.{born_follows}

null_field : (n j : ℕ) → get_or (replicate n Null) j Null ≡ Null
null_field zero j = refl
null_field (suc n) zero = refl
null_field (suc n) (suc j) = null_field n j

none_field : (n j : ℕ) → get_or (replicate {A = Option ℕ} n None) j None ≡ None
none_field zero j = refl
none_field (suc n) zero = refl
none_field (suc n) (suc j) = none_field n j

lies_of : {s : StoreState} (o : Option Buffer) (b : Buffer) → o ≡ Some b → IfSome o (LiesIn s) → LiesIn s b
lies_of None b e f = absurd (cc)
lies_of {s} (Some c) b e f = subst (LiesIn s) (same_Some _ _ e) f

module _ {h : HeapState} {p p0 : PlainHeap} (s : IsStore h.store) (d : IsHeap h) (k : Holds h p p0) (t : ℕ) where
  -- the conditions of making an object hold
  may_place : (r number : ℕ) (g : Passed h t (steps.New r number)) (b : Buffer) (l : Layout)
      → buffer_of_thread h t ≡ Some b → slice_get h.config.layouts number ≡ Some l
      → size_of l ≤ b.end - b.next → h.births < h.config.births → births.MayPlace h t r number l b g.thread
  may_place r number g b l first known room more =
      let buffer : g.thread.buffer ≡ Some b = sym (ap buffer_in g.there) ∙ first in
      let lies = lies_of g.thread.buffer b buffer (d.buffers t g.thread g.there) in
      let low = is_register h r (first_false (no_register h r) _ g.indices) in
      record {
        thread = g.there;
        buffer = buffer;
        lies = lies;
        register = omega (arith, low, k.laid.registers t g.thread g.there);
        known = known;
        room = room;
        births = omega (arith, more, d.config.births);
        few = omega (arith, slice_get_within h.config.layouts number l known, d.config.layouts);
        unplanned = λ m e. open_or_from (sym (births.open_at h b lies (omega (arith, room, lies.end)))
            ∙ k.invariant.objects.planned_from (b.page * h.store.words + b.next) m e);
      }
    where
      open_or_from : Open ≡ From → ⊥
      open_or_from e = cc

  -- the laws allow its birth
  may_be_born : (r number : ℕ) (g : Passed h t (steps.New r number)) (b : Buffer) (l : Layout)
      → births.MayPlace h t r number l b g.thread
      → MayBeBorn (world_of h) (b.page * h.store.words + b.next) (new_object h.births number l) t number
      (replicate l.refs None) (replicate l.nums 0)
  may_be_born r number g b l m = record {
    free = births.place_free s k.laid m;
    page_open = births.open_at h b m.lies (omega (arith, m.room, m.lies.end));
    unplanned = births.unplanned_place s k.laid m k.invariant.objects;
    birth = refl;
    nulls = null_field l.refs;
    nones = none_field l.refs;
    refs_length = length-replicate {A = Word} l.refs Null ∙ sym (length-replicate {A = Option ℕ} l.refs None);
    layout = refl;
    data_words = refl;
    barrier = closed_barrier g refl;
  }

  -- an object is allocated
  pub new_holds : (r number : ℕ) → Passed h t (steps.New r number)
      → RowHolds h p p0 (Thread t) (steps.New r number) (new_outcome h t r number)
  unfolding new_outcome plain_step plain_answer
  new_holds r number g = on_some (buffer_of_thread h t) _ _ _ (λ b first.
      on_some (slice_get h.config.layouts number) _ _ _ (λ l second.
      on_test (nat_lt (b.end - b.next) (size_of l)) _ _ _ (λ room.
      on_test (nat_le h.config.births h.births) _ _ _ (λ more.
      let m = may_place r number g b l first second (ltb-false (b.end - b.next) (size_of l) room)
      (leb-false h.config.births h.births more) in
      let low = is_register h r (first_false (no_register h r) _ g.indices) in
      row_by k (births.born_carries s k.laid m)
      (born_follows k t g.thread g.there r number (slice_get h.config.layouts number) l second low)
      (New (b.page * h.store.words + b.next) (new_object h.births number l) t r number (replicate l.refs None)
      (replicate l.nums 0) (may_be_born r number g b l m)) (ap answers.Birth k.invariant.births)))))

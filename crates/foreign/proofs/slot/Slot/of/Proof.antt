-- A box that was taken apart, as a slot. Assumes `Logic`.
use Rattle.std.proofs.Common.{◌≡◌, List, [], ◌∷◌, ◌++◌, refl}
use mir.Syntax.{Fn}
use mir.Val.{Val, vptr}
use base.Logic.{SProp, emp}
use base.Fml.{ftrue}
use prog.Wp.{WpFn}
use contract.Monad.{fact, fact_i}
use contract.Running.{tables}
use types.Kit.{‵, raw, ◌⊛◌, prop, ◌$◌, ◌∵◌, !, qed, by, move, drop, use0, split, regoal, fsplit, fjoin}
use types.Part.{whole, sub, agg}
use types.Run.{stop, fld, of_opd, no_more, and_then, returns, enter}
use types.ByLocal.{alloc_all, pass_all, free_all, look_at, get, get_in, sets}
use denote.RattleType.{owns}
use denote.RawPtr.{block_ptr}
use denote.Signature.{types_at}
use denote.Steps.{nothing}
use denote.Triple.Entry.{alive}
use denote.Triple.Walked.{Stays, stay_dropped, walk_of}
use denote.Signature.{plain}
use Rattle.core.proofs.alloc.Calls.{Goes-blank}
use Rattle.std.specs.Prelude.{Some}
use Rattle.std.proofs.raw_atomic.Walks.{proved_at, leaves}
use Rattle.std_heap.proofs.Handle.{heap_val}
use Rattle.foreign.proofs.Values.{slot_val, slot_own, slot_made, slot_typed, both, Hidden, hidden_out, hidden_typed}
use Rattle.foreign.specs.contracts.slot.Slot as slot
use Rattle.foreign.specs.contracts.slot.Slot.of.{ended, clauses}
use Rattle.foreign.specs.contracts.slot.Slot.of.Key.{name as #self}
use Rattle.foreign.proofs.slot.Slot.of.Statement.{statement}
use Rattle.foreign.proofs.slot.Slot.of.Code as compiled

pub of_spec : {M : Type 1} → statement M
of_spec 𝓤 𝓛 𝓜 𝓡 wired =
    let H = 𝓛.H in
    let En = ended in
    let c = clauses 𝓛 𝓜.mem 𝓡.returns in
    let fn : Fn = compiled.function in
    let stays : Stays En.signature.params En.kept = (stay_dropped (plain (λ _. Hidden)) En.kept.0, tt) in
    let C = (tables 𝓤 H 𝓜 𝓡 𝓡.env).C in
    let Λ = (tables 𝓤 H 𝓜 𝓡 𝓡.env).Λ in
    proved_at 𝓛 En stays c 𝓜 𝓡 (Goes-blank 𝓛 0 (plain (λ _. Hidden)) En.kept.0 (λ κs x f. tt), tt) #self fn
    (compiled.unfolded 𝓤 H 𝓜 𝓡 wired) (λ z are.
    let Post : Val → SProp 𝓤 = (walk_of 𝓛 En stays c).post z in
    let x = z.0.3.0 in
    qed 𝓛 ((raw (alive 𝓛 En.signature z.0.0 z.0.1) ⊛ ‵ (owns (types_at En.signature.params z.0.0) z.0.3 z.0.4)) ∷ ‵
    ftrue ∷ []) ∵ move ! (1 ∷ []) $ drop ! $ split ! $ move ! (1 ∷ []) $
    fsplit ! $ hidden_out ! x z.0.4.0 (λ b o e ev. move ! (1 ∷ []) $ drop ! $
    let made : slot.the_row.Denot = record { at = block_ptr b o; held = Some x.value } in
    regoal ! (λ (us : List Val). prop (WpFn 𝓤 H C Λ fn us Post)) (λ i. ev i ++ []) refl $
    enter ! C Λ fn (both (vptr b o) heap_val ∷ []) Post $
    alloc_all ! (λ l. pass_all ! refl (hidden_typed (block_ptr b o), tt) $
    sets ! (of_opd ! (get_in ! (fld ! refl (stop !)) (sub ! 0 refl (whole !)))) refl (tt, tt) $
    sets ! (of_opd ! (get ! refl)) refl (tt, tt) $
    sets ! (agg ! (and_then ! (get ! refl) (no_more !))) refl (slot_typed (block_ptr b o)) $
    returns ! (look_at ! 0 refl) $ free_all ! refl $
    use0 𝓛 (‵ (slot_own (block_ptr b o) (slot_val (block_ptr b o) ∷ []))) (slot_made 𝓛 (block_ptr b o)) $ fjoin ! $
    use0 𝓛 (raw (fact 𝓤 (made.held ≡ Some x.value))) (fact_i 𝓤 (made.held ≡ Some x.value) (emp 𝓤) refl) $
    nothing ! $ nothing ! $ fjoin ! $ move ! (3 ∷ 0 ∷ 2 ∷ 1 ∷ []) $
    by ! (leaves 𝓛 En stays c z (slot_val (block_ptr b o)) made (tt, tt) (tt, tt)))))

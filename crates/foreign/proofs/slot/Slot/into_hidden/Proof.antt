-- A slot's box, taken apart. Assumes `Logic`.
use Rattle.std.proofs.Common.{◌≡◌, List, [], ◌∷◌, ◌++◌, refl}
use mir.Syntax.{Fn}
use mir.Val.{Val}
use base.Logic.{SProp, emp}
use prog.Wp.{WpFn}
use contract.Monad.{fact, fact_i}
use contract.Running.{tables}
use types.Kit.{‵, raw, ◌⊛◌, prop, ◌$◌, ◌∵◌, !, qed, by, move, drop, use0, split, regoal, rewrite, fsplit, fjoin}
use types.Kit.{fpack, feq_i}
use types.Part.{whole, sub, agg}
use types.Run.{stop, fld, of_opd, no_more, and_then, returns, enter}
use types.ByLocal.{alloc_all, pass_all, free_all, look_at, get, get_in, sets}
use denote.RattleType.{Valss, owns}
use denote.Builtin.{RawPtr}
use denote.RawPtr.{ptr_val}
use denote.Struct.Struct.{within}
use denote.Struct.Owning.{shape}
use denote.Signature.{types_at, plain}
use denote.Steps.{nothing, heard}
use denote.Triple.Entry.{alive}
use denote.Triple.Walked.{Stays, stay_dropped, walk_of, Goes-dropped}
use Rattle.core.proofs.alloc.Calls.{Goes-blank}
use Rattle.std.specs.Prelude.{Some, true}
use Rattle.std.proofs.raw_atomic.Walks.{proved_at, leaves}
use Rattle.std_heap.proofs.Handle.{heap_val, heap_Tells}
use Rattle.std_heap.specs.contracts.Global as HP
use Rattle.foreign.proofs.Values.{slot_val, slot_told, slot_typed, ptr_typed, both, Hidden, hidden_typed, held_value}
use Rattle.foreign.specs.Holding.{slot_owns, is_held}
use Rattle.std_heap.specs.contracts.GlobalAllocator.TheImpl.{ghosts}
use Rattle.foreign.specs.contracts.held.Held as held
use Rattle.foreign.specs.contracts.hidden.Hidden as hidden
use Rattle.foreign.specs.contracts.slot.Slot as slot
use Rattle.foreign.specs.contracts.slot.Slot.into_hidden.{ended, clauses}
use Rattle.foreign.specs.contracts.slot.Slot.into_hidden.Key.{name as #self}
use Rattle.foreign.proofs.slot.Slot.into_hidden.Statement.{statement}
use Rattle.foreign.proofs.slot.Slot.into_hidden.Code as compiled

pub into_hidden_spec : {M : Type 1} → statement M
into_hidden_spec 𝓤 𝓛 𝓜 𝓡 wired =
    let H = 𝓛.H in
    let En = ended in
    let c = clauses 𝓛 𝓜.mem 𝓡.returns in
    let fn : Fn = compiled.function in
    let stays : Stays En.signature.params En.kept = (
      stay_dropped (plain (λ _. slot.the_row)) En.kept.0,
      (stay_dropped (plain (λ _. HP.the_row)) En.kept.1.0, tt),
    ) in
    let C = (tables 𝓤 H 𝓜 𝓡 𝓡.env).C in
    let Λ = (tables 𝓤 H 𝓜 𝓡 𝓡.env).Λ in
    proved_at 𝓛 En stays c 𝓜 𝓡 (
      Goes-blank 𝓛 0 (plain (λ _. slot.the_row)) En.kept.0 (λ κs x f. tt),
      (
        Goes-dropped 𝓛
            0 (plain (λ _. HP.the_row)) En.kept.1.0 (λ κs x f. refl),
        tt,
      ),
    ) #self fn (compiled.unfolded 𝓤 H 𝓜 𝓡 wired) (λ z
    are.
    let Post : Val → SProp 𝓤 = (walk_of 𝓛 En stays c).post z in
    let x = z.0.3.0 in
    let a = z.0.3.1.0 in
    let p = x.at in
    let Asked : Type 0 = is_held x.held ≡ true in
    qed 𝓛 ((raw (alive 𝓛 En.signature z.0.0 z.0.1) ⊛ ‵ (owns (types_at En.signature.params z.0.0) z.0.3 z.0.4)) ∷ raw
    (fact 𝓤 Asked) ∷ []) ∵ move ! (1 ∷ []) $ heard ! Asked (λ asked. let value = (held_value x.held asked).0 in
    let same = (held_value x.held asked).1 in split ! $ move ! (1 ∷ []) $
    fsplit ! $ fsplit ! $ drop ! $ rewrite ! 0 (λ h. ‵ (slot_owns p h)) same refl $ move ! (1 ∷ []) $ fsplit ! $
    let made : Hidden.Denot = record { ptr = p; alloc = a; value = value } in
    -- [the handle; nothing; the box; the tokens]
    rewrite ! 0 (λ (us : List Val). ‵ (HP.the_row.own_val a us)) (heap_Tells a z.0.4.1.0 are.1.0) refl $
    regoal ! (λ (us : List Val). prop (WpFn 𝓤 H C Λ fn us Post)) (λ i. slot_told p z.0.4.0 are.0.0 i ++ (heap_Tells a
    z.0.4.1.0 are.1.0 i ++ [])) refl $
    enter ! C Λ fn (slot_val p ∷ heap_val ∷ []) Post $
    alloc_all ! (λ l. pass_all ! refl (slot_typed p, ((tt, ((tt, tt), tt)), tt)) $
    sets ! (of_opd ! (get_in ! (fld ! refl (stop !)) (sub ! 0 refl (whole !)))) refl (ptr_typed p) $
    sets ! (of_opd ! (get ! refl)) refl (ptr_typed p) $
    sets ! (agg ! (and_then ! (get ! refl) (and_then ! (get ! refl) (no_more !)))) refl (hidden_typed p) $
    returns ! (look_at ! 0 refl) $ free_all ! refl $ let w : Val = both (ptr_val p) heap_val in
    fjoin ! $ feq_i ! (List Val) (ptr_val p ∷ []) (ptr_val p ∷ []) refl $ fjoin ! $
    feq_i ! (List Val) (w ∷ []) (w ∷ []) refl $ fjoin ! $
    fpack ! (Valss (RawPtr ∷ HP.the_row ∷ [])) (within (shape (hidden.the_type held.the_row HP.the_row ghosts)) (
      p,
      (a, tt),
    ) (w ∷ [])) (ptr_val p ∷ [], (heap_val ∷ [], tt)) $ fjoin ! $
    use0 𝓛 (raw (fact 𝓤 (x.held ≡ Some made.value))) (fact_i 𝓤 (x.held ≡ Some made.value) (emp 𝓤) same) $ nothing ! $
    nothing ! $ fjoin ! $ nothing ! $ fjoin ! $ move ! (3 ∷ 0 ∷ 2 ∷ 1 ∷ []) $
    by ! (leaves 𝓛 En stays c z w made (tt, (tt, tt)) (tt, (tt, tt))))))

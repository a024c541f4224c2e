-- A slot lends its target: the block's own value is borrowed, and the slot follows it. Assumes `Logic`.
use Rattle.std.proofs.Common.{◌≡◌, ℕ, List, [], ◌∷◌, ◌++◌, refl, sym, subst}
use seplogic.Ra.Ura.{Ura}
use base.Fraction.{full_share}
use base.Logic.{SProp, ent, sep, never, fst∗}
use base.Fml.{Lft, GName, Share, Fml, ftrue, flft, fsep}
use contract.Monad.{Fun, fact}
use contract.Running.{tables}
use mir.Raw.{raw as bare}
use mir.Syntax.{named}
use mir.Val.{Val, vptr, vstruct, of_list}
use prog.Memory.{Memory}
use prog.Routine.{Routine}
use prog.Wp.{Env, Calls, Loops, WpFn}
use types.Logic.{Logic, sem}
use types.Kit.{‵, raw, ◌⊛◌, some, later, at_ret, ◌$◌, ◌∵◌, !, qed, by, move, keep, drop, use0, use1, split, join, pick}
use types.Kit.{fsplit, fsplit3, fjoin, fpick, fpack, feq_l, rewrite, suffices, frame, done, await, group}
use types.Part.{whole, sub, look_in}
use types.Run.{stop, fld, load, of_opd, first, blocks, exec, returns, enter, addr}
use types.ByLocal.{alloc_all, pass_all, free_all, look_at, get, through, sets, env, sets_last}
use denote.Exit.{no}
use denote.Follow.{follows, Part, lends_Part}
use denote.Memory.{part_at, mem, cell_at, part_of, lone}
use denote.RattleType.{RattleType, owns}
use denote.RawPtr.{Ptr, block_ptr, null_ptr, in_a_block}
use denote.Ref.{MutRef, mut_vals, mut_Tells}
use denote.Signature.{plain, mut_ref_to}
use denote.Steps.{nothing, opens, heard}
use denote.Triple.Clauses.{Clauses}
use denote.Triple.Entry.{on_entry}
use denote.Triple.Walked.{says, Stays, stay_dropped, walk_of, ends_at, Goes-spent_ref}
use Rattle.std.proofs.raw_atomic.Walks.{proved}
use Rattle.std.specs.Prelude.{Some, true}
use Rattle.std_alloc.specs.Box.Ownership.{box_owns}
use Rattle.foreign.specs.declared.held.Held.{Held}
use Rattle.foreign.specs.declared.slot.Slot.{Slot}
use Rattle.foreign.specs.Holding.{is_held, slot_owns, token}
use Rattle.foreign.specs.Lending.{led}
use Rattle.foreign.specs.contracts.held.Held as held
use Rattle.foreign.specs.contracts.slot.Slot as slot
use Rattle.foreign.specs.contracts.slot.Slot.lend as F
use Rattle.foreign.proofs.Values.{slot_val, slot_own, slot_made, held_value}
use Rattle.foreign.proofs.slot.Slot.lend.Statement.{statement}
use Rattle.foreign.proofs.slot.Slot.lend.Code as code
use Rattle.foreign.proofs.slot.Slot.lend.Code.Mir.{t-2}

abbrev S : RattleType
S = slot.the_row

abbrev R : RattleType
R = held.the_row

abbrev stayed : Stays F.ended.signature.params F.ended.kept
stayed = (stay_dropped (mut_ref_to (0 ∷ []) tt (plain (λ _. S))) no, tt)

module _ {M : Type 1} {𝓤 : Ura M} (𝓛 : Logic 𝓤) (at_mem : Memory → SProp 𝓤) (run : Routine → Fun 𝓤) (κ : Lft)
    (q : Share) (rb ro : ℕ) (γ : GName) (h : Slot) (x : Held) (same : h.held ≡ Some x) where
  open 𝓛 use {H, A}

  abbrev said : Clauses 𝓤 F.ended
  said = F.clauses 𝓛 at_mem run

  abbrev bound : (walk_of 𝓛 F.ended stayed said).Ghost
  bound = (
    (
      (κ, tt),
      (q, tt),
      tt,
      (record { ref_ptr = (rb, ro); ghost_name = γ; now = h }, tt),
      (vptr rb ro ∷ [], tt),
    ),
    tt,
  )

  abbrev Post : Val → SProp 𝓤
  Post = (walk_of 𝓛 F.ended stayed said).post bound

  module _ (b o : ℕ) (at_b : h.at ≡ block_ptr b o) where
    -- all of the slot but what it leads to
    abbrev Rest : Fml
    Rest = fsep (token (bare (lone R.mir)) (block_ptr b o))
        (cell_at full_share S.mir (slot_val (block_ptr b o) ∷ []) rb ro)

    back : (w : Held) → ent 𝓤 (sep 𝓤 (sem 𝓛 ((mem R).own_at w b o)) (sem 𝓛 Rest))
        (sem 𝓛 ((mem S).own_at (led h w) rb ro))
    unfolding part_of
    back w =
        qed 𝓛 (‵ (part_at R full_share w b o) ∷ ‵ Rest ∷ []) ∵ move ! (1 ∷ []) $ fsplit ! $ move ! (2 ∷ 0 ∷ []) $
        fjoin ! $ rewrite ! 0 (λ (p : Ptr). ‵ (box_owns token R p w)) (sym at_b) refl $
        rewrite ! 1 (λ (p : Ptr). ‵ (cell_at full_share S.mir (slot_val p ∷ []) rb ro)) (sym at_b) refl $
        use0 𝓛 (‵ (slot_own h.at (slot_val h.at ∷ []))) (slot_made 𝓛 h.at) $ fjoin ! $
        move ! (1 ∷ 0 ∷ []) $ fjoin ! $
        fpack ! (List Val) (λ us. fsep (cell_at full_share S.mir us rb ro) (S.own_val (led h w) us))
        (slot_val h.at ∷ []) $ done !

    exits : (γ' : GName)
        → ent 𝓤 (sep 𝓤 (sem 𝓛 ((MutRef (named 0) κ R).own_val (record { ref_ptr = (b, o); ghost_name = γ'; now = x })
        (vptr b o ∷ []))) (sep 𝓤 (A.lft κ q) (sem 𝓛 (follows S R γ γ' (led h))))) (Post (vptr b o))
    exits γ' =
        qed 𝓛 (‵ ((MutRef (named 0) κ R).own_val (record { ref_ptr = (b, o); ghost_name = γ'; now = x }) (vptr b o ∷
        [])) ∷ ‵ (flft κ q) ∷ ‵ (follows S R γ γ' (led h)) ∷ []) ∵
        suffices ! _ (ends_at 𝓛 F.ended stayed said bound (vptr b o) (record {
          ref_ptr = (b, o);
          ghost_name = γ';
          now =
              x;
        }) (tt, tt) (tt, tt)) $
        nothing ! $ nothing ! $ fjoin ! $ join ! $ nothing ! $ move ! (2 ∷ 0 ∷ []) $ join ! $ join ! $ frame ! $
        says ! (sym same) $ done !

  module _ (C : Calls 𝓤 H) (Λ : Loops 𝓤 H) where
    walk : ent 𝓤 (on_entry 𝓛 F.signature (κ, tt) (q, tt) (record { ref_ptr = (rb, ro); ghost_name = γ; now = h }, tt)
        (vptr rb ro ∷ [], tt)) (WpFn 𝓤 H C Λ code.function (vptr rb ro ∷ []) Post)
    walk =
        qed 𝓛 ((‵ (flft κ q) ⊛ ‵ ftrue) ∷ ‵ (owns (MutRef (named 0) κ S ∷ []) (
          record {
            ref_ptr = (rb, ro);
            ghost_name
                = γ;
            now = h;
          },
          tt,
        ) (vptr rb ro ∷ [], tt)) ∷ []) ∵
        enter ! C Λ code.function (vptr rb ro ∷ []) _ $
        alloc_all ! (λ l. pass_all ! refl ((tt, tt), tt) $
        let En : Env 𝓤 H = env code.function.locals l in
        move ! (1 ∷ []) $ fsplit ! $ fsplit3 ! $ drop ! $ move ! (3 ∷ []) $ split ! $ move ! (2 ∷ 3 ∷ 0 ∷ []) $
        opens ! tt S {h = h} rb ro (λ vs. move ! (1 ∷ []) $
        fsplit ! $ fpick ! (λ vss. fsplit ! $ feq_l ! (λ ev. fsplit ! $ feq_l ! (λ ep. drop ! $
        rewrite ! 0 (λ o. ‵ (slot_owns h.at o)) same refl $
        in_a_block ! h.at (λ p. box_owns token R p x) (fst∗ 𝓤 (never 𝓤) (sem 𝓛 (token (bare (lone R.mir)) null_ptr)))
        (λ b o at_b. fsplit ! $
        let told : vs ≡ slot_val (block_ptr b o) ∷ [] =
        subst (λ (p : Ptr). vs ≡ slot_val p ∷ []) at_b
        (subst (λ (us : List Val). vs ≡ vstruct (of_list (us ++ [])) ∷ []) ep ev) in
        rewrite ! 2 (λ (us : List Val). ‵ (cell_at full_share S.mir us rb ro)) told refl $
        first ! $ blocks ! $
        sets ! (of_opd ! (load ! (through ! refl (fld ! refl (stop !))) (look_in ! 2 (sub ! 0 refl (whole !))))) refl
        (tt, tt) $
        sets ! (of_opd ! (get ! refl)) refl (tt, tt) $
        sets_last ! (addr ! (through ! refl (stop !))) refl (tt, tt) $
        exec ! C Λ En t-2 (at_ret En Post) $
        sets ! (of_opd ! (get ! refl)) refl (tt, tt) $
        move ! (1 ∷ 2 ∷ []) $ fjoin ! $ move ! (2 ∷ 3 ∷ 4 ∷ 1 ∷ 0 ∷ []) $ group ! 5 $
        use1 𝓛 (later (some (λ (γ' : GName). raw (Part 𝓛 S R (led h) (named 0) κ q rb ro b o γ (sem 𝓛 (Rest b o at_b))
        (back b o at_b) x γ'))))
        (lends_Part 𝓛 S R (led h) (named 0) κ q rb ro b o γ (sem 𝓛 (Rest b o at_b)) (back b o at_b) (S.coded.code h)
        (S.coded.code h) x) $ await ! tt $ pick ! (λ γ'.
        returns ! (look_at ! 0 refl) $ free_all ! refl $
        keep ! (0 ∷ []) $ by ! (exits b o at_b γ'))))))))

pub lend_spec : {M : Type 1} → statement M
lend_spec 𝓤 𝓛 𝓜 𝓡 wired =
    let c = F.clauses 𝓛 𝓜.mem 𝓡.returns in
    let 𝓣 = tables 𝓤 𝓛.H 𝓜 𝓡 𝓡.env in
    proved 𝓛 F.ended stayed c 𝓜 𝓡 (Goes-spent_ref 𝓛 1 (0 ∷ []) tt (plain (λ _. S)), tt)
    F.Key.name code.function (code.unfolded 𝓤 𝓛.H 𝓜 𝓡 wired)
    (λ κs. (mut_vals, tt)) (λ κs. (mut_Tells (named 0) κs.0 S, tt)) (λ κs qs bounds a g are.
    let Asked : Type 0 = is_held a.0.now.held ≡ true in
    qed 𝓛 (raw (on_entry 𝓛 F.signature κs qs a (vptr a.0.ref_ptr.0 a.0.ref_ptr.1 ∷ [], tt)) ∷ raw (fact 𝓤 Asked) ∷ [])
    ∵ move ! (1 ∷ []) $ heard ! Asked (λ asked.
    let value = held_value a.0.now.held asked in
    by ! (walk 𝓛 𝓜.mem 𝓡.returns κs.0 qs.0 a.0.ref_ptr.0 a.0.ref_ptr.1 a.0.ghost_name a.0.now value.0 value.1 𝓣.C
    𝓣.Λ)))

-- The machine values of a slot and of a box in sight. Assumes `Logic`.
use Rattle.std.proofs.Common.{◌≡◌, ℕ, List, [], ◌∷◌, ◌++◌, refl, subst, ◌∙◌, lit<}
use seplogic.Ra.Ura.{Ura}
use mir.Syntax.{ty_ptr, ty_unit, ty_struct, tcons, tnil}
use mir.Raw.{raw as bare}
use mir.Val.{Val, vptr, vstruct, vcons, vnil, of_list}
use base.Logic.{ent, emp, never, fst∗}
use base.Fml.{Fml}
use types.Logic.{Logic, sem}
use types.Kit.{Item, Goal, Seq, ‵, ◌$◌, move, drop, fsplit, fpick, feq_l}
use denote.RattleType.{RattleType}
use denote.Builtin.{RawPtr}
use denote.Laws.{Is, shows}
use denote.Memory.{lone}
use denote.RawPtr.{Ptr, block_ptr, null_ptr, ptr_val, in_a_block}
use denote.Shadow.{shadow, makes_shadow}
use denote.Steps.{peeks}
use denote.Struct.Struct.{Struct}
use Rattle.core.proofs.cell.Inside.{Good}
use Rattle.std_alloc.specs.Box.Ownership.{box_owns}
use Rattle.std_heap.proofs.Handle.{heap_val, heap_Tells}
use Rattle.std_heap.specs.contracts.Global as HP
use Rattle.std_heap.specs.contracts.GlobalAllocator.TheImpl.{ghosts}
use Rattle.foreign.specs.contracts.held.Held as held
use Rattle.std.specs.Prelude.{Option, Some, None, true}
use Rattle.std.proofs.lemmas.Bool.{false≢true}
use Rattle.foreign.specs.declared.held.Held.{Held}
use Rattle.foreign.specs.Holding.{is_held}
use Rattle.foreign.specs.contracts.hidden.Hidden as hidden

-- a slot's one word, which is null or leads to a block
abbrev pub slot_val : Ptr → Val
slot_val p = vstruct (vcons (ptr_val p) vnil)

abbrev pub slot_own : Ptr → List Val → Fml
slot_own p = (Struct (record { name = []; args = []; types = []; fields = RawPtr ∷ [] })).own_val (p, tt)

pub slot_told : (p : Ptr) (vs : List Val) → shadow (slot_own p vs) → vs ≡ slot_val p ∷ []
slot_told p vs s = s.1.0 ∙ (λ i. vstruct (of_list (s.1.1.0 i ++ [])) ∷ [])

pub slot_made : {M : Type 1} {𝓤 : Ura M} (𝓛 : Logic 𝓤) (p : Ptr) → ent 𝓤 (emp 𝓤) (sem 𝓛 (slot_own p (slot_val p ∷ [])))
slot_made 𝓛 p = makes_shadow 𝓛 (slot_own p (slot_val p ∷ [])) (λ _. (tt, (tt, tt))) (
  (ptr_val p ∷ [], tt),
  (
    refl,
    (refl, tt),
  ),
)

pub ptr_typed : (p : Ptr) → Good ty_ptr (ptr_val p)
ptr_typed (block_ptr b o) = (tt, tt)
ptr_typed null_ptr = (tt, record { fits = lit< tt })

pub slot_typed : (p : Ptr) → Good (ty_struct [] (tcons ty_ptr tnil)) (slot_val p)
slot_typed (block_ptr b o) = (tt, (tt, tt))
slot_typed null_ptr = (tt, (record { fits = lit< tt }, tt))

abbrev pub both : Val → Val → Val
both v w = vstruct (vcons v (vcons w vnil))

pub hidden_typed : (p : Ptr) → Good (ty_struct [] (tcons ty_ptr (tcons (ty_struct [] (tcons (ty_struct [] (tcons
    ty_unit tnil)) tnil)) tnil))) (both (ptr_val p) heap_val)
hidden_typed (block_ptr b o) = (tt, (tt, (((tt, tt), tt), tt)))
hidden_typed null_ptr = (tt, (record { fits = lit< tt }, (((tt, tt), tt), tt)))

abbrev pub Hidden : RattleType
Hidden = hidden.the_row held.the_row HP.the_row ghosts

module _ {M : Type 1} {𝓤 : Ura M} {𝓛 : Logic 𝓤} {K : Type 0} {Γ : List (Item 𝓤)} {G : Goal 𝓤 𝓛.H} where
  pub hidden_out : K → (d : Hidden.Denot) (vs : List Val)
      → ((b o : ℕ) → d.ptr ≡ block_ptr b o → vs ≡ both (vptr b o) heap_val ∷ []
      → Seq K 𝓛 (‵ (box_owns (ghosts.dealloc_token d.alloc) held.the_row (block_ptr b o) d.value) ∷ Γ) G)
      → Seq K 𝓛 (‵ (Hidden.own_val d vs) ∷ Γ) G
  hidden_out t d vs k =
      fsplit t $ fpick t (λ vss. fsplit t $ feq_l t (λ ev. fsplit t $ feq_l t (λ ep. fsplit t $
      peeks t HP.the_row (Is HP.the_row) (shows 𝓛 HP.the_row) d.alloc vss.1.0 (λ is.
      move t (1 ∷ []) $ drop t $ drop t $
      in_a_block t d.ptr (λ p. box_owns (ghosts.dealloc_token d.alloc) held.the_row p d.value) (fst∗ 𝓤 (never 𝓤) (sem
      𝓛 (ghosts.dealloc_token d.alloc (bare (lone held.the_row.mir)) null_ptr))) (λ b o e. k b o e
      (subst (λ (p : Ptr). vs ≡ vstruct (of_list (ptr_val p ∷ heap_val ∷ [])) ∷ []) e
      (subst (λ (ws : List Val). vs ≡ vstruct (of_list (ptr_val d.ptr ∷ (ws ++ []))) ∷ []) (heap_Tells d.alloc
      vss.1.0 is) (subst (λ (ps : List Val). vs ≡ vstruct (of_list (ps ++ (vss.1.0 ++ []))) ∷ []) ep ev))))))))

-- the value of an option that has one
pub held_value : (o : Option Held) → is_held o ≡ true → (x : Held) × (o ≡ Some x)
held_value None h = absurd (false≢true h)
held_value (Some x) h = (x, refl)

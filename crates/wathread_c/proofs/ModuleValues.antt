-- The machine values of the place of a module. Assumes `Logic`.
use Rattle.std.proofs.Common.{◌≡◌, ℕ, List, [], ◌∷◌, ◌++◌, refl, subst, Option, Some, None}
use seplogic.Ra.Ura.{Ura}
use mir.Raw.{raw as bare}
use mir.Val.{Val, vptr, vstruct, vcons, vnil, of_list}
use base.Logic.{never, fst∗}
use types.Logic.{Logic, sem}
use types.Kit.{Item, Goal, Seq, Step, step, ‵, ◌$◌, drop, fsplit, fjoin, fpick, fpack, rewrite, feq_i, feq_l}
use denote.RattleType.{RattleType, Valss}
use denote.Builtin.{RawPtr}
use denote.Memory.{lone}
use denote.RawPtr.{Ptr, block_ptr, null_ptr, ptr_val, in_a_block}
use denote.Steps.{nothing}
use denote.Struct.Struct.{within}
use denote.Struct.Owning.{shape}
use Rattle.std_alloc.specs.Box.Ownership.{box_owns}
use Rattle.std_heap.specs.contracts.Global as Heap
use Rattle.wathread_c.specs.Handles.{right_to_free, slot_owns}
use Rattle.host_instances.specs.contracts.module.KeptModule as Held
use Rattle.wathread_c.specs.contracts.module_handle.ModuleSlot as slot

abbrev pub R : RattleType
R = Held.the_row

abbrev pub Z : RattleType
Z = Heap.the_row

abbrev pub word : Val → Val
word v = vstruct (vcons v vnil)

module _ {M : Type 1} {𝓤 : Ura M} {𝓛 : Logic 𝓤} {K : Type 0} {Γ : List (Item 𝓤)} {G : Goal 𝓤 𝓛.H} where
  pub slot_out : K → (d : slot.the_row.Denot) (x : R.Denot) (vs : List Val) → d.held ≡ Some x
      → ((b o : ℕ) → d.at ≡ block_ptr b o → vs ≡ word (vptr b o) ∷ [] → Seq K 𝓛 (‵ (box_owns right_to_free R (block_ptr b o) x) ∷ Γ) G)
      → Seq K 𝓛 (‵ (slot.the_row.own_val d vs) ∷ Γ) G
  slot_out t d x vs is k =
      fsplit t $ fpick t (λ vss. fsplit t $ feq_l t (λ ev. fsplit t $ feq_l t (λ ep. drop t $
      rewrite t 0 (λ (held : Option R.Denot). ‵ (slot_owns R d.at held)) is refl $
      in_a_block t d.at (λ p. box_owns right_to_free R p x) (fst∗ 𝓤 (never 𝓤) (sem 𝓛 (right_to_free (bare (lone R.mir)) null_ptr))) (λ b o e. k b o e
      (subst (λ (p : Ptr). vs ≡ vstruct (of_list (ptr_val p ∷ [])) ∷ []) e
      (subst (λ (ps : List Val). vs ≡ vstruct (of_list (ps ++ [])) ∷ []) ep ev))))))

  pub slot_in : K → (b o : ℕ) (x : R.Denot)
      → Step K 𝓛 (‵ (slot.the_row.own_val (record { at = block_ptr b o; held = Some x }) (word (vptr b o) ∷ [])) ∷ Γ) G (‵ (box_owns right_to_free R (block_ptr b o) x) ∷ Γ) G
  slot_in t b o x = step (λ s. let v : Val = word (vptr b o) in
      nothing t $ feq_i t (List Val) (vptr b o ∷ []) (vptr b o ∷ []) refl $ fjoin t $ feq_i t (List Val) (v ∷ []) (v ∷ []) refl $ fjoin t $
      fpack t (Valss (RawPtr ∷ [])) (within (shape slot.the_type) (block_ptr b o, tt) (v ∷ [])) (vptr b o ∷ [], tt) $ fjoin t $ s)

  pub slot_none : K
      → Step K 𝓛 (‵ (slot.the_row.own_val (record { at = null_ptr; held = None }) (word (ptr_val null_ptr) ∷ [])) ∷ Γ) G Γ G
  slot_none t = step (λ s. let v : Val = word (ptr_val null_ptr) in
      nothing t $ nothing t $ feq_i t (List Val) (ptr_val null_ptr ∷ []) (ptr_val null_ptr ∷ []) refl $ fjoin t $ feq_i t (List Val) (v ∷ []) (v ∷ []) refl $ fjoin t $
      fpack t (Valss (RawPtr ∷ [])) (within (shape slot.the_type) (null_ptr, tt) (v ∷ [])) (ptr_val null_ptr ∷ [], tt) $ fjoin t $ s)

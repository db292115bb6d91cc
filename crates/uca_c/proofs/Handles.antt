-- What an open handle owns, put together and taken apart.
use Rattle.std.proofs.Common.{◌≡◌, ℕ, List, [], ◌∷◌, ◌++◌, refl, subst}
use mathlib.Core.Bool.{Bool, true, false}
use seplogic.Ra.Ura.{Ura}
use mir.Raw.{raw as bare}
use mir.Syntax.{w64}
use mir.Val.{Val, vptr, vbool, vint, vstruct, vcons, vnil, of_list}
use base.Logic.{never, fst∗}
use types.Logic.{Logic, sem}
use types.Kit.{Item, Goal, Seq, Step, step, ‵, ◌$◌, move, drop, fsplit, fjoin, fpick, fpack, rewrite, feq_i, feq_l}
use denote.RattleType.{RattleType, Valss}
use denote.Builtin.{RawPtr, bool}
use denote.RawPtr.{Ptr, block_ptr, null_ptr, ptr_val, in_a_block}
use denote.Steps.{nothing}
use denote.Struct.Struct.{within}
use denote.Struct.Owning.{shape, to}
use Rattle.std.proofs.alloc.Calls.{token, Fits, handle_tells}
use Rattle.std_alloc.specs.Box.Ownership.{box_owns}
use Rattle.std_alloc.proofs.BoxSteps.Form.{R, X, τ, handle as held}
use Rattle.std_heap.specs.contracts.Global as Heap
use Rattle.uca_c.specs.contracts.handle.Handle as Handle
use Rattle.uca_c.specs.inside.Handles.{handle_owns}
use Rattle.uca_c.proofs.AsBox.{E}

abbrev pub three : Val → Val → Val → Val
three v w u = vstruct (vcons v (vcons w (vcons u vnil)))

abbrev pub H : RattleType
H = Handle.the_row

module _ {M : Type 1} {𝓤 : Ura M} {𝓛 : Logic 𝓤} {K : Type 0} {Γ : List (Item 𝓤)} {G : Goal 𝓤 𝓛.H} where
  pub handle_in : K → (b o : ℕ) (h : Val) (a : E.al.row.Denot) (x : X E)
      → Step K 𝓛 (‵ (H.own_val (record { ptr = block_ptr b o; alloc = a; full = true; kept = x }) (three (vptr b o) h (vbool true) ∷ [])) ∷ Γ) G
      (‵ (box_owns (token E.al a) (R E) (block_ptr b o) x) ∷ ‵ (held E a h) ∷ Γ) G
  handle_in t b o h a x = step (λ s. let v : Val = three (vptr b o) h (vbool true) in
      nothing t $ feq_i t (List Val) (vbool true ∷ []) (vbool true ∷ []) refl $ fjoin t $ move t (2 ∷ 0 ∷ []) $ fjoin t $
      feq_i t (List Val) (vptr b o ∷ []) (vptr b o ∷ []) refl $ fjoin t $ feq_i t (List Val) (v ∷ []) (v ∷ []) refl $ fjoin t $
      fpack t (Valss (RawPtr ∷ Heap.the_row ∷ bool ∷ [])) (within (shape Handle.the_type) (to Handle.the_type (record { ptr = block_ptr b o; alloc = a; full = true; kept = x })) (v ∷ [])) (vptr b o ∷ [], (h ∷ [], (vbool true ∷ [], tt))) $ fjoin t $ s)

  pub handle_out : K → (d : H.Denot) (vs : List Val) → d.full ≡ true
      → ((b o : ℕ) (h : Val) → d.ptr ≡ block_ptr b o → vs ≡ three (vptr b o) h (vbool d.full) ∷ [] → Fits E.al h
      → Seq K 𝓛 (‵ (box_owns (token E.al d.alloc) (R E) (block_ptr b o) d.kept) ∷ ‵ (held E d.alloc h) ∷ Γ) G)
      → Seq K 𝓛 (‵ (H.own_val d vs) ∷ Γ) G
  handle_out t d vs is_full k =
      fsplit t $ fpick t (λ vss. fsplit t $ feq_l t (λ ev. fsplit t $ feq_l t (λ ep. fsplit t $ handle_tells E.al t d.alloc vss.1.0 (λ h ea fits.
      move t (1 ∷ []) $ fsplit t $ feq_l t (λ eo. drop t $ move t (1 ∷ []) $
      rewrite t 0 (λ (y : Bool). ‵ (handle_owns y d.alloc d.ptr d.kept)) is_full refl $
      in_a_block t d.ptr (λ p. box_owns (token E.al d.alloc) (R E) p d.kept) (fst∗ 𝓤 (never 𝓤) (sem 𝓛 (token E.al d.alloc (bare (τ E)) null_ptr))) (λ b o e. k b o h e
      (subst (λ (p : Ptr). vs ≡ vstruct (of_list (ptr_val p ∷ h ∷ vbool d.full ∷ [])) ∷ []) e
      (subst (λ (os : List Val). vs ≡ vstruct (of_list (ptr_val d.ptr ∷ h ∷ (os ++ []))) ∷ []) eo
      (subst (λ (ws : List Val). vs ≡ vstruct (of_list (ptr_val d.ptr ∷ (ws ++ (vss.1.1.0 ++ [])))) ∷ []) ea
      (subst (λ (ps : List Val). vs ≡ vstruct (of_list (ps ++ (vss.1.0 ++ (vss.1.1.0 ++ [])))) ∷ []) ep ev)))) fits))))))

module _ {M : Type 1} {𝓤 : Ura M} {𝓛 : Logic 𝓤} {K : Type 0} {Γ : List (Item 𝓤)} {G : Goal 𝓤 𝓛.H} where
  pub handle_none : K → (h : Val) (a : E.al.row.Denot) (x : X E)
      → Step K 𝓛 (‵ (H.own_val (record { ptr = null_ptr; alloc = a; full = false; kept = x }) (three (vint w64 0) h (vbool false) ∷ [])) ∷ Γ) G (‵ (held E a h) ∷ Γ) G
  handle_none t h a x = step (λ s. let v : Val = three (vint w64 0) h (vbool false) in
      nothing t $ nothing t $ feq_i t (List Val) (vbool false ∷ []) (vbool false ∷ []) refl $ fjoin t $ move t (2 ∷ 0 ∷ []) $ fjoin t $
      feq_i t (List Val) (vint w64 0 ∷ []) (vint w64 0 ∷ []) refl $ fjoin t $ feq_i t (List Val) (v ∷ []) (v ∷ []) refl $ fjoin t $
      fpack t (Valss (RawPtr ∷ Heap.the_row ∷ bool ∷ [])) (within (shape Handle.the_type) (to Handle.the_type (record { ptr = null_ptr; alloc = a; full = false; kept = x })) (v ∷ [])) (vint w64 0 ∷ [], (h ∷ [], (vbool false ∷ [], tt))) $ fjoin t $ s)

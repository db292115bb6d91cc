-- The three functions that count, at a call: what each is given, and what a caller knows of it. Assumes `Logic`.
use mathlib.Core.Bool.{Bool}
use Rattle.std.proofs.Common.{◌≡◌, ℕ, List, [], ◌∷◌, refl, ap}
use seplogic.Ra.Ura.{Ura}
use mir.Val.{Val, vbool, vunit, vptr}
use base.Logic.{SProp, ent, sep, ex, guard, id⊢}
use base.Fml.{Lft, Share, ftrue, fsep, flft}
use prog.Memory.{Memory}
use prog.Routine.{Routine}
use types.Logic.{Logic, sem}
use contract.Monad.{Fun}
use types.Kit.{‵, ◌⊛◌, some, later, ◌$◌, ◌∵◌, !, qed, move, keep, use1, split, join, pick, fjoin, feq_i, feq_l, check, show, await, updating, now as at_once, done}
use denote.RattleType.{RattleType}
use denote.Memory.{hidden_shr}
use denote.Builtin.{bool, unit}
use denote.Steps.{nothing, only}
use denote.Triple.Statement.{Contract}
use denote.Triple.Spec.{triple_of}
use Rattle.test_kit.specs.contracts.counts.Counts as CT
use Rattle.test_kit.specs.contracts.counts.Counts.is_refused as IR
use Rattle.test_kit.specs.contracts.counts.Counts.take as TA
use Rattle.test_kit.specs.contracts.counts.Counts.give as GI

abbrev pub Counted : RattleType
Counted = CT.the_row

module _ {M : Type 1} {𝓤 : Ura M} (𝓛 : Logic 𝓤) (at_mem : Memory → SProp 𝓤) (run : Routine → Fun 𝓤) where
  abbrev pub Asks : Contract 𝓤
  Asks = triple_of 𝓛 IR.signature (IR.spec 𝓛 at_mem run)

  abbrev pub at_asks : Lft → Share → ℕ × ℕ → Counted.Denot → Asks.Ghost
  at_asks κ q c x = (((κ, tt), (q, tt), tt, (record { ref_ptr = (c.0, c.1); now = x }, tt), (vptr c.0 c.1 ∷ [], tt)), tt)

  abbrev pub Takes_one : Contract 𝓤
  Takes_one = triple_of 𝓛 TA.signature (TA.spec 𝓛 at_mem run)

  abbrev pub at_takes_one : Lft → Share → ℕ × ℕ → Counted.Denot → Takes_one.Ghost
  at_takes_one κ q c x = (((κ, tt), (q, tt), tt, (record { ref_ptr = (c.0, c.1); now = x }, tt), (vptr c.0 c.1 ∷ [], tt)), tt)

  abbrev pub Gives_one : Contract 𝓤
  Gives_one = triple_of 𝓛 GI.signature (GI.spec 𝓛 at_mem run)

  abbrev pub at_gives_one : Lft → Share → ℕ × ℕ → Counted.Denot → Gives_one.Ghost
  at_gives_one κ q c x = (((κ, tt), (q, tt), tt, (record { ref_ptr = (c.0, c.1); now = x }, tt), (vptr c.0 c.1 ∷ [], tt)), tt)

module _ {M : Type 1} {𝓤 : Ura M} (𝓛 : Logic 𝓤) (at_mem : Memory → SProp 𝓤) (run : Routine → Fun 𝓤) (κ : Lft) (q : Share) (c : ℕ × ℕ) (x : Counted.Denot) where
  open 𝓛 use {H, A}

  pub asks_goes : ent 𝓤 (sep 𝓤 (sem 𝓛 (hidden_shr Counted κ x c.0 c.1)) (A.lft κ q)) ((Asks 𝓛 at_mem run).pre (at_asks 𝓛 at_mem run κ q c x))
  asks_goes =
      qed 𝓛 (‵ (hidden_shr Counted κ x c.0 c.1) ∷ ‵ (flft κ q) ∷ []) ∵ feq_i ! (List Val) (vptr c.0 c.1 ∷ []) (vptr c.0 c.1 ∷ []) refl $ fjoin ! $
      nothing ! $ move ! (1 ∷ []) $ fjoin ! $ nothing ! $ move ! (2 ∷ []) $ join ! $ join ! $ nothing ! $ move ! (1 ∷ []) $ done !

  pub takes_one_goes : ent 𝓤 (sep 𝓤 (sem 𝓛 (hidden_shr Counted κ x c.0 c.1)) (A.lft κ q)) ((Takes_one 𝓛 at_mem run).pre (at_takes_one 𝓛 at_mem run κ q c x))
  takes_one_goes =
      qed 𝓛 (‵ (hidden_shr Counted κ x c.0 c.1) ∷ ‵ (flft κ q) ∷ []) ∵ feq_i ! (List Val) (vptr c.0 c.1 ∷ []) (vptr c.0 c.1 ∷ []) refl $ fjoin ! $
      nothing ! $ move ! (1 ∷ []) $ fjoin ! $ nothing ! $ move ! (2 ∷ []) $ join ! $ join ! $ nothing ! $ move ! (1 ∷ []) $ done !

  pub gives_one_goes : ent 𝓤 (sep 𝓤 (sem 𝓛 (hidden_shr Counted κ x c.0 c.1)) (A.lft κ q)) ((Gives_one 𝓛 at_mem run).pre (at_gives_one 𝓛 at_mem run κ q c x))
  gives_one_goes =
      qed 𝓛 (‵ (hidden_shr Counted κ x c.0 c.1) ∷ ‵ (flft κ q) ∷ []) ∵ feq_i ! (List Val) (vptr c.0 c.1 ∷ []) (vptr c.0 c.1 ∷ []) refl $ fjoin ! $
      nothing ! $ move ! (1 ∷ []) $ fjoin ! $ nothing ! $ move ! (2 ∷ []) $ join ! $ join ! $ nothing ! $ move ! (1 ∷ []) $ done !

  pub takes_one_gives : (v : Val) → ent 𝓤 ((Takes_one 𝓛 at_mem run).post (at_takes_one 𝓛 at_mem run κ q c x) v) (H.⇛ (guard 𝓤 (v ≡ vunit) (A.lft κ q)))
  takes_one_gives v =
      qed 𝓛 (types.Kit.raw ((Takes_one 𝓛 at_mem run).post (at_takes_one 𝓛 at_mem run κ q c x) v) ∷ []) ∵ updating ! $
      use1 𝓛 (later (some (λ (r : Unit {0}). ((‵ (flft κ q) ⊛ ‵ ftrue) ⊛ ‵ (unit.own_val r (v ∷ []))) ⊛ some (λ (ws : Unit {0} × Unit {0}). ‵ (fsep ftrue ftrue) ⊛ ‵ ftrue)))) (id⊢ 𝓤 _) $ await ! tt $ pick ! (λ r.
      split ! $ split ! $ move ! (1 ∷ []) $ feq_l ! (λ e. split ! $ at_once ! $ check ! (ap only e) $ keep ! (0 ∷ []) $ done !))

  pub gives_one_gives : (v : Val) → ent 𝓤 ((Gives_one 𝓛 at_mem run).post (at_gives_one 𝓛 at_mem run κ q c x) v) (H.⇛ (guard 𝓤 (v ≡ vunit) (A.lft κ q)))
  gives_one_gives v =
      qed 𝓛 (types.Kit.raw ((Gives_one 𝓛 at_mem run).post (at_gives_one 𝓛 at_mem run κ q c x) v) ∷ []) ∵ updating ! $
      use1 𝓛 (later (some (λ (r : Unit {0}). ((‵ (flft κ q) ⊛ ‵ ftrue) ⊛ ‵ (unit.own_val r (v ∷ []))) ⊛ some (λ (ws : Unit {0} × Unit {0}). ‵ (fsep ftrue ftrue) ⊛ ‵ ftrue)))) (id⊢ 𝓤 _) $ await ! tt $ pick ! (λ r.
      split ! $ split ! $ move ! (1 ∷ []) $ feq_l ! (λ e. split ! $ at_once ! $ check ! (ap only e) $ keep ! (0 ∷ []) $ done !))

  pub asks_gives : (v : Val) → ent 𝓤 ((Asks 𝓛 at_mem run).post (at_asks 𝓛 at_mem run κ q c x) v) (H.⇛ (ex 𝓤 (λ (y : Bool). guard 𝓤 (v ≡ vbool y) (A.lft κ q))))
  asks_gives v =
      qed 𝓛 (types.Kit.raw ((Asks 𝓛 at_mem run).post (at_asks 𝓛 at_mem run κ q c x) v) ∷ []) ∵ updating ! $
      use1 𝓛 (later (some (λ (r : Bool). ((‵ (flft κ q) ⊛ ‵ ftrue) ⊛ ‵ (bool.own_val r (v ∷ []))) ⊛ some (λ (ws : Unit {0} × Unit {0}). ‵ (fsep ftrue ftrue) ⊛ ‵ ftrue)))) (id⊢ 𝓤 _) $ await ! tt $ pick ! (λ r.
      split ! $ split ! $ move ! (1 ∷ []) $ feq_l ! (λ e. split ! $ at_once ! $ show ! (λ (y : Bool). guard 𝓤 (v ≡ vbool y) (A.lft κ q)) r $ check ! (ap only e) $ keep ! (0 ∷ []) $ done !))

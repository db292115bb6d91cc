-- What is true of a level's list from relation to relation.
use Rattle.std.proofs.Common.{◌≡◌, ◌⊎◌, inl, inr, ℕ, ◌+◌, ◌<◌, ◌≤◌, Bool, List, [], ◌∷◌, map, refl, sym, ap, ◌∙◌, subst, arith}
use Rattle.uca_weights.specs.declared.Element.{Element}
use Rattle.uca_weights.specs.declared.Level.{Level}
use Rattle.uca_plans.specs.declared.drafts.DraftWeight.{DraftWeight}
use Rattle.uca_plans.specs.declared.drafts.DraftWeight.TheVariants.{Base, New}
use Rattle.uca_plans.specs.Lists.{fixed_weight, base_weights, Insertion, inserted}
use Rattle.uca_plans.specs.ListLaws.{IsRising, IsAmong, StandsBefore, AreApart}
use Rattle.uca_plans.specs.Runs.{bases}
use Rattle.uca_plans.proofs.ListMembers.{same_or_other, of_each}
use Rattle.uca_plans.proofs.BaseWeightLemmas.{bases_rising, fixed_base}
use Rattle.uca_plans.proofs.InsertionLemmas.{Inserts, ahead, behind, later, inserts, inserts_from, inserts_old, inserts_apart, inserts_kept}
use Rattle.uca_plans.proofs.InsertionLemmas.{inserts_stood, later_among}

-- ---- Base members

-- a base member is a base weight of the list
pub among_bases : (ms : List DraftWeight) (w : ℕ) → IsAmong ms (Base w) → IsAmong (bases ms) w
among_bases [] w among = among
among_bases (Base v ∷ ms) w (inl here) = inl (cc)
among_bases (Base v ∷ ms) w (inr there) = inr (among_bases ms w there)
among_bases (New n ∷ ms) w (inl here) = absurd (cc)
among_bases (New n ∷ ms) w (inr there) = among_bases ms w there

-- a base weight of the list is a base member
pub bases_among : (ms : List DraftWeight) (w : ℕ) → IsAmong (bases ms) w → IsAmong ms (Base w)
bases_among [] w among = among
bases_among (Base v ∷ ms) w (inl here) = inl (ap Base here)
bases_among (Base v ∷ ms) w (inr there) = inr (bases_among ms w there)
bases_among (New n ∷ ms) w among = inr (bases_among ms w among)

-- base weights alone are their own base members
pub bases_of_base : (ws : List ℕ) → bases (map Base ws) ≡ ws
bases_of_base [] = refl
bases_of_base (w ∷ ws) = ap (λ vs. w ∷ vs) (bases_of_base ws)

-- so a base weight is a member of their list
pub base_among : (ws : List ℕ) (w : ℕ) → IsAmong ws w → IsAmong (map Base ws) (Base w)
base_among ws w among = bases_among (map Base ws) w (subst (λ vs. IsAmong vs w) (sym (bases_of_base ws)) among)

-- an insertion of a new weight adds no base member
pub bases_inserted : (k : ℕ) {a : DraftWeight} {b : Bool} {ms ns : List DraftWeight} → Inserts a (New k) b ms ns → bases ns ≡ bases ms
bases_inserted k ahead = refl
bases_inserted k {a = Base v} behind = refl
bases_inserted k {a = New n} behind = refl
bases_inserted k (later {m = Base v} other h) = ap (λ vs. v ∷ vs) (bases_inserted k h)
bases_inserted k (later {m = New n} other h) = bases_inserted k h

-- ---- Members or not

-- a weight is a member or not
pub among_or_not : (ms : List DraftWeight) (w : DraftWeight) → IsAmong ms w ⊎ (IsAmong ms w → ⊥)
among_or_not [] w = inr (λ among. among)
among_or_not (m ∷ ms) w = elim (same_or_other w m) [
  | inl same ↦ inl (inl (sym same.1))
  | inr other ↦ elim (among_or_not ms w) [
    | inl there ↦ inl (inr there)
    | inr not ↦ inr (λ among. not (later_among m ms w other.1 among))
  ]
]

-- next to a weight that is not a member nothing is put in
pub not_inserted : (i : Insertion) (ms : List DraftWeight) → (IsAmong ms i.anchor → ⊥) → inserted i ms ≡ ms
not_inserted i [] none = refl
not_inserted i (m ∷ ms) none = elim (same_or_other i.anchor m) [
  | inl same ↦ absurd (none (inl (sym same.1)))
  | inr other ↦ rw other.0 (ap (λ xs. m ∷ xs) (not_inserted i ms (λ among. none (inr among))))
]

-- ---- Good lists

-- The list of a level after n relations: no member comes twice. Its base members are the level's base weights in their
-- order, and its names are those of the relations.
pub record IsGoodList (level : Level) (es : List Element) (n : ℕ) (ms : List DraftWeight) : Type 0 where
  pub apart : AreApart ms
  pub base : bases ms ≡ base_weights level es
  pub names : (k : ℕ) → IsAmong ms (New k) → k < n

-- What later relations leave of a list after n relations: its members keep their order, and no name of the n comes in.
pub record IsGrown (n : ℕ) (ms ns : List DraftWeight) : Type 0 where
  pub old : (w : DraftWeight) → IsAmong ms w → IsAmong ns w
  pub kept : (v w : DraftWeight) → StandsBefore ms v w → StandsBefore ns v w
  pub stood : (v w : DraftWeight) → IsAmong ms v → IsAmong ms w → StandsBefore ns v w → StandsBefore ms v w
  pub names : (k : ℕ) → k < n → IsAmong ns (New k) → IsAmong ms (New k)

-- a good list has the fixed weight
pub good_fixed : (level : Level) (es : List Element) (n : ℕ) (ms : List DraftWeight) → IsGoodList level es n ms
    → IsAmong ms (Base (fixed_weight level))
good_fixed level es n ms good = bases_among ms (fixed_weight level) (subst (λ ws. IsAmong ws (fixed_weight level)) (sym good.base) (fixed_base level es))

-- base weights are distinct
apart_base : (ws : List ℕ) → IsRising ws → AreApart (map Base ws)
apart_base [] rising = tt
apart_base (w ∷ ws) rising = (λ among. twice (among_bases (map Base ws) w among), apart_base ws rising.1)
  where
    -- none is among those above it
    twice : IsAmong (bases (map Base ws)) w → ⊥
    twice among = let above = of_each (λ v. w < v) ws w rising.0 (subst (λ vs. IsAmong vs w) (bases_of_base ws) among) in omega arith

-- base weights have no name
no_name : (ws : List ℕ) (k : ℕ) → IsAmong (map Base ws) (New k) → ⊥
no_name [] k among = among
no_name (w ∷ ws) k (inl here) = cc
no_name (w ∷ ws) k (inr there) = no_name ws k there

-- the base weights of a level are a good list
pub good_base : (level : Level) (es : List Element) → IsGoodList level es 0 (map Base (base_weights level es))
good_base level es = record {
  apart = apart_base (base_weights level es) (bases_rising level es);
  base = bases_of_base (base_weights level es);
  names = λ k among. absurd (no_name (base_weights level es) k among);
}

-- a good list is a good list after more relations
pub good_more : (level : Level) (es : List Element) (n : ℕ) (ms : List DraftWeight) → IsGoodList level es n ms → IsGoodList level es (n + 1) ms
good_more level es n ms good = record { apart = good.apart; base = good.base; names = λ k among. omega (arith, good.names k among) }

-- a list has grown to itself
pub grown_same : (n : ℕ) (ms : List DraftWeight) → IsGrown n ms ms
grown_same n ms = record { old = λ w among. among; kept = λ v w stands. stands; stood = λ v w _ _ stands. stands; names = λ k _ among. among }

-- and through a list between
pub grown_through : (n m : ℕ) (ms ns os : List DraftWeight) → n ≤ m → IsGrown n ms ns → IsGrown m ns os → IsGrown n ms os
grown_through n m ms ns os order first second = record {
  old = λ w among. second.old w (first.old w among);
  kept = λ v w stands. second.kept v w (first.kept v w stands);
  stood = λ v w among_v among_w stands. first.stood v w among_v among_w (second.stood v w (first.old v among_v) (first.old w among_w) stands);
  names = λ k less among. first.names k less (second.names k (omega arith) among);
}

-- a new weight is no member
pub new_is_new : (level : Level) (es : List Element) (n : ℕ) (ms : List DraftWeight) → IsGoodList level es n ms → IsAmong ms (New n) → ⊥
new_is_new level es n ms good among = let less = good.names n among in omega arith

-- names are distinct
same_name : (j k : ℕ) → New j ≡ New k → j ≡ k
same_name j k same = cc

-- a good list is good with the next new weight put in
pub good_inserted : (level : Level) (es : List Element) (n : ℕ) (i : Insertion) (ms : List DraftWeight) → i.new ≡ New n → IsGoodList level es n ms
    → IsGoodList level es (n + 1) (inserted i ms)
good_inserted level es n i ms named good = elim (among_or_not ms i.anchor) [
  | inr not ↦ rw (not_inserted i ms not) (good_more level es n ms good)
  | inl among ↦
      let h : Inserts i.anchor (New n) i.before ms (inserted i ms) = subst (λ w. Inserts i.anchor w i.before ms (inserted i ms)) named (inserts i ms among) in
      record {
        apart = inserts_apart h good.apart (new_is_new level es n ms good);
        base = bases_inserted n h ∙ good.base;
        names = λ k member. elim (inserts_from (New k) h member) [
          | inl new ↦ omega (arith, same_name k n new)
          | inr old ↦ omega (arith, good.names k old)
        ];
      }
]

-- and has grown so
pub grown_inserted : (level : Level) (es : List Element) (n : ℕ) (i : Insertion) (ms : List DraftWeight) → i.new ≡ New n → IsGoodList level es n ms
    → IsGrown n ms (inserted i ms)
grown_inserted level es n i ms named good = elim (among_or_not ms i.anchor) [
  | inr not ↦ rw (not_inserted i ms not) (grown_same n ms)
  | inl among ↦
      let h : Inserts i.anchor (New n) i.before ms (inserted i ms) = subst (λ w. Inserts i.anchor w i.before ms (inserted i ms)) named (inserts i ms among) in
      let fresh = new_is_new level es n ms good in
      record {
        old = λ w. inserts_old w h;
        kept = λ v w. inserts_kept v w h;
        stood = λ v w among_v among_w.
            inserts_stood v w h (λ new. fresh (subst (λ x. IsAmong ms x) new among_v)) (λ new. fresh (subst (λ x. IsAmong ms x) new among_w));
        names = λ k less member. elim (inserts_from (New k) h member) [
          | inl new ↦ absurd (omega (arith, less, same_name k n new))
          | inr old ↦ old
        ];
      }
]

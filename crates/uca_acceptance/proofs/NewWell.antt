-- An element with a new weight is in good order among those among which the old one is.
use Rattle.std.proofs.Common.{◌≡◌, ◌⊎◌, inl, inr, ℕ, Bool, true, false, List, refl, sym, ◌∙◌, subst, arith}
use Rattle.uca_weights.specs.declared.Level.{Level}
use Rattle.uca_weights.specs.declared.Level.TheVariants.{One, Two, Three}
use Rattle.uca_plans.specs.declared.drafts.DraftWeight.{DraftWeight}
use Rattle.uca_plans.specs.declared.drafts.DraftWeight.TheVariants.{Base, New}
use Rattle.uca_plans.specs.declared.drafts.DraftElement.{DraftElement}
use Rattle.uca_plans.specs.Drafts.{draft_weight, reset, reweighted}
use Rattle.uca_plans.specs.declared.drafts.Insertion.{Insertion}
use Rattle.uca_plans.specs.Lists.{inserted}
use Rattle.uca_plans.specs.ListLaws.{StandsBefore, IsInserted}
use Rattle.uca_plans.proofs.DraftKinds.{IsZero, IsHigh, reset_cases, new_not_zero}
use Rattle.uca_plans.proofs.PlanCarried.{WithElement}
use Rattle.uca_acceptance.proofs.WellDrafts.{IsPrimaryDraft, IsSecondaryDraft, IsTertiaryDraft, AreHighBelow, IsBelow, IsBelowOrZero, StandWell}

-- where the new weight of a relation goes, whose anchor's last element is this one
abbrev pub insertion_at : Level → Bool → ℕ → DraftElement → Insertion
insertion_at level before n a = record { level = level; before = before; anchor = draft_weight level a; new = New n }

-- ---- The new weight and others

-- the lesser of two weights from 8000 up is such
high_first : (v w : DraftWeight) → AreHighBelow v w → IsHigh v
high_first (Base v) (Base w) both = both.0
high_first (Base v) (New n) both = absurd both
high_first (New m) w both = both

-- and so is the greater
high_second : (v w : DraftWeight) → AreHighBelow v w → IsHigh w
high_second (Base v) (Base w) both = omega (arith, both.0, both.1)
high_second (Base v) (New n) both = both
high_second (New m) w both = absurd both

-- what is below another stays below it with the new weight put in
below_kept : (i : Insertion) (ms : List DraftWeight) (v w : DraftWeight) → IsInserted i ms → IsBelow ms v w → IsBelow (inserted i ms) v w
below_kept i ms v w put (inl stands) = inl (put.kept v w stands)
below_kept i ms v w put (inr (inl there)) = inr (inl ((put.each v).1 (inr there.0), there.1))
below_kept i ms v w put (inr (inr high)) = inr (inr high)

-- what is below the anchor's weight is below the new one
below_new : (i : Insertion) (ms : List DraftWeight) (v : DraftWeight) → IsInserted i ms → (IsHigh i.anchor → ⊥) → IsBelow ms v i.anchor
    → IsBelow (inserted i ms) v i.new
below_new i ms v put low (inl stands) = inl (put.below v stands)
below_new i ms v put low (inr (inl there)) = absurd (low there.1)
below_new i ms v put low (inr (inr high)) = absurd (low (high_second v i.anchor high))

-- and what is above it is above the new one
above_new : (i : Insertion) (ms : List DraftWeight) (w : DraftWeight) → IsInserted i ms → (IsHigh i.anchor → ⊥) → IsBelow ms i.anchor w
    → IsBelow (inserted i ms) i.new w
above_new i ms w put low (inl stands) = inl (put.above w stands)
above_new i ms w put low (inr (inl there)) = inr (inl ((put.each i.new).1 (inl refl), there.1))
above_new i ms w put low (inr (inr high)) = absurd (low (high_first i.anchor w high))

-- a weight that is reset is below all that the fixed one is below
reset_below : (ms : List DraftWeight) (v w : DraftWeight) (fixed : ℕ) → StandsBefore ms (Base fixed) w → IsBelowOrZero ms (reset v fixed) w
reset_below ms v w fixed stands = elim (reset_cases v fixed) [
  | inl none ↦ inl none.1
  | inr some ↦ inr (subst (λ x. StandsBefore ms x w) (sym some.1) stands)
]

-- ---- One element more

-- what is true of some elements and of one more is true of each
with_each : (E : DraftElement → Type 0) (x : DraftElement) (P : DraftElement → Type 0) → ((e : DraftElement) → E e → P e) → P x
    → (e : DraftElement) → WithElement E x e → P e
with_each E x P old new e (inl held) = old e held
with_each E x P old new e (inr same) = subst P (sym same) new

-- and what is true of each two is true of each two
with_both : (E : DraftElement → Type 0) (x : DraftElement) (R : DraftElement → DraftElement → Type 0)
    → ((e f : DraftElement) → E e → E f → R e f) → ((e : DraftElement) → E e → R e x) → ((f : DraftElement) → E f → R x f) → R x x
    → (e f : DraftElement) → WithElement E x e → WithElement E x f → R e f
with_both E x R old first second itself e f in_e in_f =
    with_each E x (λ d. R d f)
    (λ d held. with_each E x (λ g. R d g) (λ g held_g. old d g held held_g) (first d held) f in_f)
    (with_each E x (λ g. R x g) second itself f in_f) e in_e

-- an element is below all variable ones or above them all
abbrev StandApart : List DraftWeight → (DraftElement → Type 0) → DraftElement → Type 0
StandApart primary E e =
    ((v : DraftElement) → E v → v.mark ≡ true → IsBelow primary e.primary v.primary)
    ⊎ ((v : DraftElement) → E v → v.mark ≡ true → IsBelow primary v.primary e.primary)

-- elements that are not variable do so with one more that has the primary and the mark of one of them
same_apart : (primary : List DraftWeight) (E : DraftElement → Type 0) (a x : DraftElement) → E a → a.primary ≡ x.primary → a.mark ≡ x.mark
    → ((e : DraftElement) → E e → e.mark ≡ false → IsPrimaryDraft e → StandApart primary E e)
    → (e : DraftElement) → WithElement E x e → e.mark ≡ false → IsPrimaryDraft e → StandApart primary (WithElement E x) e
same_apart primary E a x held same mark apart e in_e =
    with_each E x (λ d. d.mark ≡ false → IsPrimaryDraft d → StandApart primary (WithElement E x) d)
    (λ d held_d unmarked some. wider d (apart d held_d unmarked some))
    (λ unmarked some. moved (wider a (apart a held (mark ∙ unmarked) (λ none. some (sym same ∙ none)))))
    e in_e
  where
    -- with one more variable element
    wider : (d : DraftElement) → StandApart primary E d → StandApart primary (WithElement E x) d
    wider d (inl below) = inl (with_each E x (λ v. v.mark ≡ true → IsBelow primary d.primary v.primary) below
        (λ marked. subst (λ w. IsBelow primary d.primary w) same (below a held (mark ∙ marked))))
    wider d (inr above) = inr (with_each E x (λ v. v.mark ≡ true → IsBelow primary v.primary d.primary) above
        (λ marked. subst (λ w. IsBelow primary w d.primary) same (above a held (mark ∙ marked))))

    -- from the one to the other
    moved : StandApart primary (WithElement E x) a → StandApart primary (WithElement E x) x
    moved (inl below) = inl (λ v held_v marked. subst (λ w. IsBelow primary w v.primary) same (below v held_v marked))
    moved (inr above) = inr (λ v held_v marked. subst (λ w. IsBelow primary v.primary w) same (above v held_v marked))

module _ (primary : List DraftWeight) (E : DraftElement → Type 0) (a : DraftElement) (before : Bool) (n : ℕ) (held : E a) (low : IsHigh a.primary → ⊥)
    (put : IsInserted (insertion_at One before n a) primary) where
  -- the insertion
  abbrev i : Insertion
  i = insertion_at One before n a

  -- the list with it
  abbrev ms : List DraftWeight
  ms = inserted i primary

  -- the new element
  abbrev x : DraftElement
  x = reweighted One (New n) a

  -- others towards the new one
  wider_new : (d : DraftElement) → StandApart primary E d → StandApart ms (WithElement E x) d
  wider_new d (inl below) = inl (with_each E x (λ v. v.mark ≡ true → IsBelow ms d.primary v.primary)
      (λ v held_v marked. below_kept i primary d.primary v.primary put (below v held_v marked))
      (λ marked. below_new i primary d.primary put low (below a held marked)))
  wider_new d (inr above) = inr (with_each E x (λ v. v.mark ≡ true → IsBelow ms v.primary d.primary)
      (λ v held_v marked. below_kept i primary v.primary d.primary put (above v held_v marked))
      (λ marked. above_new i primary d.primary put low (above a held marked)))

  -- the new one towards others
  moved_new : a.mark ≡ false → StandApart primary E a → StandApart ms (WithElement E x) x
  moved_new unmarked (inl below) = inl (with_each E x (λ v. v.mark ≡ true → IsBelow ms (New n) v.primary)
      (λ v held_v marked. above_new i primary v.primary put low (below v held_v marked))
      (λ marked. absurd (cc)))
  moved_new unmarked (inr above) = inr (with_each E x (λ v. v.mark ≡ true → IsBelow ms v.primary (New n))
      (λ v held_v marked. below_new i primary v.primary put low (above v held_v marked))
      (λ marked. absurd (cc)))

  -- and with an element that has a new weight in place of its primary
  new_apart : IsPrimaryDraft a → ((e : DraftElement) → E e → e.mark ≡ false → IsPrimaryDraft e → StandApart primary E e)
      → (e : DraftElement) → WithElement E x e → e.mark ≡ false → IsPrimaryDraft e → StandApart ms (WithElement E x) e
  new_apart some apart =
      with_each E x (λ d. d.mark ≡ false → IsPrimaryDraft d → StandApart ms (WithElement E x) d)
      (λ d held_d unmarked some_d. wider_new d (apart d held_d unmarked some_d))
      (λ unmarked _. moved_new unmarked (apart a held unmarked some))

-- ---- Each level

-- an element with a new primary is in good order among those among which the old one is
pub new_well_one : (primary secondary tertiary : List DraftWeight) (E : DraftElement → Type 0) (a : DraftElement) (before : Bool) (n : ℕ) → E a
    → StandWell primary secondary tertiary E → (IsZero a.primary → ⊥) → (IsHigh a.primary → ⊥) → IsInserted (insertion_at One before n a) primary
    → StandWell (inserted (insertion_at One before n a) primary) secondary tertiary (WithElement E (reweighted One (New n) a))
new_well_one primary secondary tertiary E a before n held well some low put =
    let x = reweighted One (New n) a in
    record {
      secondaries = with_both E x (λ e f. IsPrimaryDraft e → IsSecondaryDraft f → IsBelowOrZero secondary e.secondary f.secondary)
          well.secondaries
          (λ e _ _ second. absurd (new_not_zero n second.0))
          (λ f held_f _ second. reset_below secondary a.secondary f.secondary 0x20 (well.secondary_fixed f held_f second))
          (λ _ second. absurd (new_not_zero n second.0));
      secondary_fixed = with_each E x (λ f. IsSecondaryDraft f → StandsBefore secondary (Base 0x20) f.secondary)
          well.secondary_fixed (λ second. absurd (new_not_zero n second.0));
      tertiaries = with_both E x (λ e f. IsPrimaryDraft e ⊎ IsSecondaryDraft e → IsTertiaryDraft f → IsBelowOrZero tertiary e.tertiary f.tertiary)
          well.tertiaries
          (λ e _ _ third. absurd (new_not_zero n third.0))
          (λ f held_f _ third. reset_below tertiary a.tertiary f.tertiary 2 (well.tertiary_fixed f held_f third))
          (λ _ third. absurd (new_not_zero n third.0));
      tertiary_fixed = with_each E x (λ f. IsTertiaryDraft f → StandsBefore tertiary (Base 2) f.tertiary)
          well.tertiary_fixed (λ third. absurd (new_not_zero n third.0));
      variable = with_each E x (λ e. e.mark ≡ true → IsPrimaryDraft e) well.variable (λ _. new_not_zero n);
      apart = new_apart primary E a before n held low put some well.apart;
    }

-- one with a new secondary weight
pub new_well_two : (primary secondary tertiary : List DraftWeight) (E : DraftElement → Type 0) (a : DraftElement) (before : Bool) (n : ℕ) → E a
    → StandWell primary secondary tertiary E → (IsZero a.secondary → ⊥) → IsInserted (insertion_at Two before n a) secondary
    → StandWell primary (inserted (insertion_at Two before n a) secondary) tertiary (WithElement E (reweighted Two (New n) a))
new_well_two primary secondary tertiary E a before n held well some put =
    let x = reweighted Two (New n) a in
    let ms = inserted (insertion_at Two before n a) secondary in
    record {
      secondaries = with_both E x (λ e f. IsPrimaryDraft e → IsSecondaryDraft f → IsBelowOrZero ms e.secondary f.secondary)
          (λ e f held_e held_f first second. elim (well.secondaries e f held_e held_f first second) [
            | inl none ↦ inl none
            | inr stands ↦ inr (put.kept e.secondary f.secondary stands)
          ])
          (λ e held_e first second. elim (well.secondaries e a held_e held first (second.0, some)) [
            | inl none ↦ inl none
            | inr stands ↦ inr (put.below e.secondary stands)
          ])
          (λ f held_f first second. elim (well.secondaries a f held held_f first second) [
            | inl none ↦ absurd (some none)
            | inr stands ↦ inr (put.above f.secondary stands)
          ])
          (λ first second. absurd (first second.0));
      secondary_fixed = with_each E x (λ f. IsSecondaryDraft f → StandsBefore ms (Base 0x20) f.secondary)
          (λ f held_f second. put.kept (Base 0x20) f.secondary (well.secondary_fixed f held_f second))
          (λ second. put.below (Base 0x20) (well.secondary_fixed a held (second.0, some)));
      tertiaries = with_both E x (λ e f. IsPrimaryDraft e ⊎ IsSecondaryDraft e → IsTertiaryDraft f → IsBelowOrZero tertiary e.tertiary f.tertiary)
          well.tertiaries
          (λ e _ _ third. absurd (new_not_zero n third.1))
          (λ f held_f _ third. reset_below tertiary a.tertiary f.tertiary 2 (well.tertiary_fixed f held_f third))
          (λ _ third. absurd (new_not_zero n third.1));
      tertiary_fixed = with_each E x (λ f. IsTertiaryDraft f → StandsBefore tertiary (Base 2) f.tertiary)
          well.tertiary_fixed (λ third. absurd (new_not_zero n third.1));
      variable = with_each E x (λ e. e.mark ≡ true → IsPrimaryDraft e) well.variable (well.variable a held);
      apart = same_apart primary E a x held refl refl well.apart;
    }

-- and one with a new tertiary weight
pub new_well_three : (primary secondary tertiary : List DraftWeight) (E : DraftElement → Type 0) (a : DraftElement) (before : Bool) (n : ℕ) → E a
    → StandWell primary secondary tertiary E → (IsZero a.tertiary → ⊥) → IsInserted (insertion_at Three before n a) tertiary
    → StandWell primary secondary (inserted (insertion_at Three before n a) tertiary) (WithElement E (reweighted Three (New n) a))
new_well_three primary secondary tertiary E a before n held well some put =
    let x = reweighted Three (New n) a in
    let ms = inserted (insertion_at Three before n a) tertiary in
    record {
      secondaries = with_both E x (λ e f. IsPrimaryDraft e → IsSecondaryDraft f → IsBelowOrZero secondary e.secondary f.secondary)
          well.secondaries
          (λ e held_e first second. well.secondaries e a held_e held first second)
          (λ f held_f first second. well.secondaries a f held held_f first second)
          (well.secondaries a a held held);
      secondary_fixed = with_each E x (λ f. IsSecondaryDraft f → StandsBefore secondary (Base 0x20) f.secondary)
          well.secondary_fixed (well.secondary_fixed a held);
      tertiaries = with_both E x (λ e f. IsPrimaryDraft e ⊎ IsSecondaryDraft e → IsTertiaryDraft f → IsBelowOrZero ms e.tertiary f.tertiary)
          (λ e f held_e held_f first third. elim (well.tertiaries e f held_e held_f first third) [
            | inl none ↦ inl none
            | inr stands ↦ inr (put.kept e.tertiary f.tertiary stands)
          ])
          (λ e held_e first third. elim (well.tertiaries e a held_e held first (third.0, third.1, some)) [
            | inl none ↦ inl none
            | inr stands ↦ inr (put.below e.tertiary stands)
          ])
          (λ f held_f first third. elim (well.tertiaries a f held held_f first third) [
            | inl none ↦ absurd (some none)
            | inr stands ↦ inr (put.above f.tertiary stands)
          ])
          (λ first third. elim first [
            | inl primary_one ↦ absurd (primary_one third.0)
            | inr secondary_one ↦ absurd (secondary_one.1 third.1)
          ]);
      tertiary_fixed = with_each E x (λ f. IsTertiaryDraft f → StandsBefore ms (Base 2) f.tertiary)
          (λ f held_f third. put.kept (Base 2) f.tertiary (well.tertiary_fixed f held_f third))
          (λ third. put.below (Base 2) (well.tertiary_fixed a held (third.0, third.1, some)));
      variable = with_each E x (λ e. e.mark ≡ true → IsPrimaryDraft e) well.variable (well.variable a held);
      apart = same_apart primary E a x held refl refl well.apart;
    }

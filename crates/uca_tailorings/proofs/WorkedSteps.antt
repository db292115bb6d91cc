-- Lemmas for the worked tailorings: what the conditions ask where rows, relations and maps are listed one by one.
use Rattle.std.proofs.Common.{◌≡◌, ◌⊎◌, ℕ, ◌+◌, List, [], ◌∷◌, ◌++◌, Option, None, Some, IfSome, inl, inr, ⊎_elim}
use Rattle.std.proofs.Common.{refl, sym, ap, subst, subst₂, ◌∙◌, arith, append_assoc, append-nil}
use Rattle.std.specs.List.{AllByRecursion}
use Rattle.std.specs.Bool.{⊤}
use Rattle.std.specs.Char.{IsScalar}
use Rattle.uca_weights.specs.declared.Element.{Element}
use Rattle.uca_weights.specs.declared.Level.{Level}
use Rattle.uca_weights.specs.Levels.{weight, level_of}
use Rattle.uca_values.specs.Content.{Entry, IsHeader}
use Rattle.uca_relations.specs.declared.Relation.{Relation}
use Rattle.uca_relations.specs.Relations.{IsRuleText}
use Rattle.uca_elements.specs.WorkedTable.{small_header}
use Rattle.uca_weights.specs.PerLevel.{at_level}
use Rattle.uca_tailorings.specs.Images.{Maps, IsImage, AreImages}
use Rattle.uca_tailorings.specs.Placing.{IsLow}
use Rattle.uca_tailorings.specs.Tailorings.{Tailoring, IsPlacedAt, IsNewWeight, IsImageOfBase, IsPairWeight, IsKnownWeight, IsBetween}
use Rattle.uca_tailorings.specs.Tailorings.{IsFreshWeight, IsNearestWeight, IsFresh, IsNearest}
use Rattle.uca_tailorings.specs.Worked.{letter}
use Rattle.uca_weights.proofs.Lists.{not_nil, each_contained}
use Rattle.uca_tailorings.proofs.Relating.{one_anchor, one_new}

-- ---- Parts

-- the header
pub header : IsHeader small_header
header =
    record {
      named = refl;
      ranges = (
        record { first_point = refl; last_point = refl; rising = omega arith; low = omega arith; high = omega arith; short = omega arith },
        tt,
        tt,
      );
      few = omega arith;
    }

-- the text of a letter
pub letter_text : (point : ℕ) → IsScalar point → IsRuleText (letter point)
letter_text point scalar =
    record {
      normal = record {
        accepted = record { same = refl; few = omega arith; short_runs = λ place run. omega (arith, run.within) };
        scalars = (scalar, tt);
      };
      some = λ none. cc;
      short = omega arith;
    }

-- a row that is found has the images of an element, where its own is the image
pub image_found : (maps : Maps) (e f : Element) (new : List Element) → IsImage maps e f → Some (f ∷ []) ≡ Some new → AreImages maps (e ∷ []) new
image_found maps e f new image found = let same : f ∷ [] ≡ new = cc in subst (AreImages maps (e ∷ [])) same (image, tt)

-- ---- Members with those before and after them

-- each member of the second list has the property, with those before it, which begin with the first list, and those after it
abbrev pub AtEachPart : {A : Type 0} → (List A → A → List A → Type 0) → List A → List A → Type 0
AtEachPart P front [] = ⊤
AtEachPart P front (x ∷ xs) = P front x xs × AtEachPart P (front ++ x ∷ []) xs

-- so it holds at each split
at_split : {A : Type 0} (P : List A → A → List A → Type 0) (front xs : List A) → AtEachPart P front xs →
    (before : List A) (y : A) (after : List A) → xs ≡ before ++ y ∷ after → P (front ++ before) y after
at_split P front [] each before y after split = absurd (not_nil before y after split)
at_split P front (x ∷ xs) each [] y after split =
    let first : x ≡ y = cc in
    let rest : xs ≡ after = cc in
    subst₂ (P (front ++ [])) first rest (subst (λ whole. P whole x xs) (sym (append-nil front)) each.0)
at_split P front (x ∷ xs) each (b ∷ before) y after split =
    let first : x ≡ b = cc in
    let rest : xs ≡ before ++ y ∷ after = cc in
    subst (λ whole. P whole y after) (append_assoc front (b ∷ []) before)
    (at_split P (front ++ b ∷ []) xs (subst (λ z. AtEachPart P (front ++ z ∷ []) xs) first each.1) before y after rest)

-- what each member has, with those before it and after it, holds at each split of the list
pub at_parts : {A : Type 0} (P : List A → A → List A → Type 0) (xs : List A) → AtEachPart P [] xs → (before : List A) (y : A) (after : List A) →
    xs ≡ before ++ y ∷ after → P before y after
at_parts P xs each before y after split = at_split P [] xs each before y after split

-- ---- New weights

-- what a relation replaces, and by what
pub record Place : Type 0 where
  pub level : Level
  pub old : ℕ
  pub new : ℕ

module _ (tailoring : Tailoring) where
  -- the relation puts this new weight, or is of identical strength
  abbrev pub HasPlace : Relation → Option Place → Type 0
  HasPlace r None = level_of r.strength ≡ None
  HasPlace r (Some p) = IsPlacedAt tailoring r p.level p.old p.new

  -- each relation its own
  abbrev pub HavePlaces : List Relation → List (Option Place) → Type 0
  HavePlaces [] [] = ⊤
  HavePlaces [] (p ∷ places) = ⊥
  HavePlaces (r ∷ relations) [] = ⊥
  HavePlaces (r ∷ relations) (p ∷ places) = HasPlace r p × HavePlaces relations places

  -- no other position has the relation
  pub one_place : (Q : Level → ℕ → ℕ → Type 0) (r : Relation) (p : Place) → IsPlacedAt tailoring r p.level p.old p.new → Q p.level p.old p.new →
      (level : Level) (old new : ℕ) → IsPlacedAt tailoring r level old new → Q level old new
  one_place Q r p at holds level old new other =
      let found : Some p.level ≡ Some level = sym at.strength ∙ other.strength in
      let same : p.level ≡ level = cc in
      at_level (subst (λ l. IsPlacedAt tailoring r l old new) (sym same) other) same
    where
      -- where the level is the same
      at_level : IsPlacedAt tailoring r p.level old new → p.level ≡ level → Q level old new
      at_level here same =
          let parts = one_anchor p.level at.before here.before at.last here.last at.trailing here.trailing
          (sym at.anchor.whole ∙ here.anchor.whole) at.anchor.ignorable here.anchor.ignorable at.anchor.not_ignorable here.anchor.not_ignorable in
          let was : p.old ≡ old = sym at.old_weight ∙ ap (weight p.level) parts.1 ∙ here.old_weight in
          let now : p.new ≡ new = one_new tailoring r p.level p.old p.new old new at here in
          subst₂ (Q level) was now (subst (λ l. Q l p.old p.new) same holds)

  -- one of the positions has the new weight
  abbrev pub IsNewOf : List (Option Place) → Level → ℕ → Type 0
  IsNewOf [] level w = ⊥
  IsNewOf (None ∷ places) level w = IsNewOf places level w
  IsNewOf (Some p ∷ places) level w = ((p.level ≡ level) × (p.new ≡ w)) ⊎ IsNewOf places level w

  -- so does each new weight of the relations
  pub new_of_places : (relations : List Relation) (places : List (Option Place)) → HavePlaces relations places → (level : Level) (w : ℕ) →
      IsNewWeight tailoring level w relations → IsNewOf places level w
  new_of_places [] [] have level w new = new
  new_of_places [] (p ∷ places) have level w new = absurd have
  new_of_places (r ∷ relations) [] have level w new = absurd have
  new_of_places (r ∷ relations) (None ∷ places) have level w new =
      ⊎_elim (λ here. let none : None ≡ Some level = sym have.0 ∙ here.1.strength in absurd cc)
      (λ later. new_of_places relations places have.1 level w later) new
  new_of_places (r ∷ relations) (Some p ∷ places) have level w new =
      ⊎_elim (λ here. inl (one_place (λ l o n. (p.level ≡ l) × (p.new ≡ n)) r p have.0 (refl, refl) level here.0 w here.1))
      (λ later. inr (new_of_places relations places have.1 level w later)) new

  -- ---- Known weights

  -- what is true of each image of a weight of a base row is true of all
  pub image_is : (P : ℕ → Type 0) (level : Level) →
      AllByRecursion (λ (r : Entry). AllByRecursion (λ e. IfSome (at_level level tailoring.maps (weight level e)) P) r.elements) tailoring.base.rows →
      (w : ℕ) → IsImageOfBase tailoring level w → P w
  image_is P level each w image =
      subst (λ found. IfSome found P) image.image
      (each_contained (λ e. IfSome (at_level level tailoring.maps (weight level e)) P) image.row.elements image.element
      (each_contained (λ (r : Entry). AllByRecursion (λ e. IfSome (at_level level tailoring.maps (weight level e)) P) r.elements) tailoring.base.rows image.row
      each image.is_row) image.is_element)

  -- and of all known weights, where it is true of that of implicit weights
  pub known_is : (P : ℕ → Type 0) (level : Level) →
      AllByRecursion (λ (r : Entry). AllByRecursion (λ e. IfSome (at_level level tailoring.maps (weight level e)) P) r.elements) tailoring.base.rows →
      ((w : ℕ) → IsPairWeight level w → P w) → (w : ℕ) → IsKnownWeight tailoring level w → P w
  known_is P level each pair w known = ⊎_elim (λ image. image_is P level each w image) (λ own. pair w own) known

  -- ---- Conditions on new weights

  -- a relation's new weight is new and nearest
  abbrev pub IsFreshAndNearest : List Relation → Relation → List Relation → Type 0
  IsFreshAndNearest before r after = IsFresh tailoring before r after × IsNearest tailoring before r after

  -- by its position, where no weight lies between the two
  pub at_place : (before : List Relation) (r : Relation) (after : List Relation) (earlier : List (Option Place)) (p : Place)
      (later : List (Option Place)) → HavePlaces before earlier → IsPlacedAt tailoring r p.level p.old p.new → HavePlaces after later →
      ¬ (IsKnownWeight tailoring p.level p.new) → ¬ (IsNewOf earlier p.level p.new) → ¬ (IsNewOf later p.level p.new) → IsLow p.level p.new →
      (p.new ≡ p.old + 1) ⊎ (p.old ≡ p.new + 1) → IsFreshAndNearest before r after
  at_place before r after earlier p later had at has unknown none_before none_after low next = (
    one_place (λ level old new. IsFreshWeight tailoring before after level new) r p at (record {
      unknown = unknown;
      own_before = λ own. none_before (new_of_places before earlier had p.level p.new own);
      own_after = λ own. none_after (new_of_places after later has p.level p.new own);
      low = low;
    }),
    one_place (λ level old new. IsNearestWeight tailoring before level old new) r p at
        (record { known = λ w known. nothing_between w; earlier = λ w own. nothing_between w }),
  )
    where
      -- neighbours have nothing between them
      nothing_between : (w : ℕ) → ¬ (IsBetween p.old p.new w)
      nothing_between w between =
          ⊎_elim (λ up. ⊎_elim (λ above. omega (arith, up, above.0, above.1)) (λ below. omega (arith, up, below.0, below.1)) between)
          (λ down. ⊎_elim (λ above. omega (arith, down, above.0, above.1)) (λ below. omega (arith, down, below.0, below.1)) between) next

  -- a relation of identical strength has none
  pub at_no_place : (before : List Relation) (r : Relation) (after : List Relation) → level_of r.strength ≡ None → IsFreshAndNearest before r after
  at_no_place before r after none = (
    λ level old new at. let found : None ≡ Some level = sym none ∙ at.strength in absurd cc,
    λ level old new at. let found : None ≡ Some level = sym none ∙ at.strength in absurd cc,
  )

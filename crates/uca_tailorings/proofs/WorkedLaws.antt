-- The worked tailoring is one, is accepted, and is rejected if the row of `x` is another.
use Rattle.std.proofs.Common.{◌≡◌, ◌⊎◌, ℕ, ◌<◌, List, [], ◌∷◌, ◌++◌, true, false, Some, inl, inr, ⊎_elim}
use Rattle.std.proofs.Common.{refl, sym, ap, subst, subst₂, ◌∙◌, arith}
use Rattle.std.specs.List.{AllByRecursion}
use Rattle.uca_weights.specs.declared.Element.{Element}
use Rattle.uca_weights.specs.declared.Level.{Level}
use Rattle.uca_weights.specs.declared.Level.TheVariants.{One, Two, Three}
use Rattle.uca_weights.specs.Levels.{weight}
use Rattle.uca_weights.specs.Maps.{Sends}
use Rattle.uca_text.specs.Occurring.{OccursInOrder}
use Rattle.uca_relations.specs.declared.Relation.{Relation}
use Rattle.uca_relations.specs.Relations.{IsTarget, IsUsedBy, IsUntouched, AreRules}
use Rattle.uca_elements.specs.WorkedTable.{plain, row, small_properties}
use Rattle.uca_tailorings.specs.Images.{IsImage}
use Rattle.uca_tailorings.specs.Placing.{IsLow, IsAnchor, reweighted}
use Rattle.uca_tailorings.specs.Tailorings.{IsTailoring, IsPlacedAt, IsNewWeight, IsKnownWeight}
use Rattle.uca_tailorings.specs.Tailorings.{Meets, IsAccepted}
use Rattle.uca_tailorings.specs.declared.conditions.Condition.TheVariants.{BaseIllFormed, TailoredIllFormed, Header, Uncovered, RowChanged, RowMissing}
use Rattle.uca_tailorings.specs.declared.conditions.Condition.TheVariants.{RowExtra, Anchor, NotPlaced, NotFresh, NotNearest}
use Rattle.uca_tailorings.specs.Inputs.{maps_of}
use Rattle.uca_tailorings.specs.Worked.{a_and_b, x_after_a, kept_runs, with_x, WorkedTailorings}
use Rattle.uca_tailorings.proofs.Members.{only_one}
use Rattle.uca_tailorings.proofs.WorkedTables.{IsLetterRow, letter_row, letters_table, letters_well_formed}
use Rattle.uca_tailorings.proofs.WorkedRuns.{kept, moving, maps_rise}
use Rattle.uca_tailorings.proofs.WorkedMoves as moves
use Rattle.uca_tailorings.proofs.WorkedSteps.{header, letter_text, image_found, known_is}

-- ---- A tailoring

-- the rows of the base
base_letters : AllByRecursion IsLetterRow a_and_b
base_letters = (letter_row 0x61 0x1C47 0x20 2 refl refl, (letter_row 0x62 0x1C60 0x20 2 refl refl, tt))

-- the element directly after the anchor
abbrev accepted_element : Element
accepted_element = plain 0x1C48 0x20 2

-- the rows of the tailored table
tailored_letters : AllByRecursion IsLetterRow (a_and_b ++ row (0x78 ∷ []) (plain 0x1C48 0x20 2) ∷ [])
tailored_letters = (letter_row 0x61 0x1C47 0x20 2 refl refl, (letter_row 0x62 0x1C60 0x20 2 refl refl, (letter_row 0x78 0x1C48 0x20 2 refl refl, tt)))

-- the key of a letter
abbrev key : ℕ → List ℕ
key point = point ∷ []

-- the rule leaves its own anchor as it is
anchor_untouched : (text : List ℕ) → IsUsedBy x_after_a text → IsUntouched (x_after_a ∷ []) text
anchor_untouched text used = (⊎_elim (λ is. subst (λ t. ¬ (OccursInOrder (key 0x78) t)) (sym is) apart) (λ none. absurd none) used, tt)
  where
    -- the target does not occur in the anchor
    apart : ¬ (OccursInOrder (key 0x78) (key 0x61))
    apart occurs = ⊎_elim (λ here. omega (arith, here.0)) (λ later. later) occurs

-- the one rule
rules : AreRules (x_after_a ∷ [])
rules =
    record {
      few = omega arith;
      texts = (record { anchors = letter_text 0x61 refl; targets = letter_text 0x78 refl; expands = tt }, tt);
      distinct = λ before after r split target. subst (λ relations. IsTarget relations r.target.points) (only_one x_after_a before r after split).0 target;
      none_late = λ before after r text split used free.
          let parts = only_one x_after_a before r after split in
          subst₂ (λ (s : Relation) later. IsUntouched (s ∷ later) text) parts.1 (sym parts.2)
          (anchor_untouched text (subst (λ (s : Relation). IsUsedBy s text) (sym parts.1) used));
    }

-- tables, rules and maps keep what is true of every tailoring
is_tailoring : IsTailoring (with_x (plain 0x1C48 0x20 2))
is_tailoring =
    record {
      base = record {
        header = header;
        rows = letters_table a_and_b base_letters (0x61, refl, omega arith, (0x62, refl, omega arith, tt)) (omega arith);
      };
      tailored = record {
        header = header;
        rows = letters_table (a_and_b ++ row (key 0x78) accepted_element ∷ []) tailored_letters
            (0x61, refl, omega arith, (0x62, refl, omega arith, (0x78, refl, omega arith, tt))) (omega arith);
      };
      rules = rules;
      maps = maps_rise kept_runs kept;
    }

-- ---- Where `x` is placed

-- the anchor takes a new primary
a_is_anchor : IsAnchor One (plain 0x1C47 0x20 2 ∷ []) [] (plain 0x1C47 0x20 2) []
a_is_anchor =
    record {
      whole = refl;
      ignorable = tt;
      not_ignorable = λ none. omega (arith, none);
      alone = λ continues. omega (arith, continues.1);
      low = omega arith;
    }

-- a greater one puts the target after it
x_is_placed : (new : ℕ) → 0x1C47 < new → IsPlacedAt (with_x (plain new 0x20 2)) x_after_a One 0x1C47 new
x_is_placed new above =
    record {
      strength = refl;
      before = [];
      last = plain 0x1C47 0x20 2;
      trailing = [];
      anchor = a_is_anchor;
      old_weight = refl;
      side = above;
      row = refl;
    }

-- the row of `x` where it is placed
placed_row : (e : Element) (level : Level) (old new : ℕ) → IsPlacedAt (with_x e) x_after_a level old new →
    (level ≡ One) × (old ≡ 0x1C47) × (e ≡ plain new 0x20 2)
placed_row e One old new placed =
    let parts = only_one (plain 0x1C47 0x20 2) placed.before placed.last placed.trailing placed.anchor.whole in
    let found : Some (e ∷ []) ≡ Some (placed.before ++ reweighted One new placed.last ∷ []) = placed.row in
    let same : e ∷ [] ≡ placed.before ++ reweighted One new placed.last ∷ [] = cc in
    let only = only_one e placed.before (reweighted One new placed.last) [] same in
    (refl, sym placed.old_weight ∙ sym (ap (weight One) parts.1), only.1 ∙ ap (reweighted One new) (sym parts.1))
placed_row e Two old new placed = let no : Some One ≡ Some Two = placed.strength in absurd cc
placed_row e Three old new placed = let no : Some One ≡ Some Three = placed.strength in absurd cc

-- the weights that the base gave at level 1
base_weights : (e : Element) (w : ℕ) → IsKnownWeight (with_x e) One w → (w ≡ 0x1C47) ⊎ (w ≡ 0x1C60)
base_weights e w known =
    known_is (with_x e) (λ v. (v ≡ 0x1C47) ⊎ (v ≡ 0x1C60)) One ((inl refl, tt), ((inr refl, tt), tt)) (λ v none. absurd none) w known

-- the weight of `b`
b_weighs : (e : Element) → IsKnownWeight (with_x e) One 0x1C60
b_weighs e =
    inl (record {
      row = row (0x62 ∷ []) (plain 0x1C60 0x20 2);
      is_row = (1, omega arith, refl);
      element = plain 0x1C60 0x20 2;
      is_element = (0, omega arith, refl);
      some = λ none. omega (arith, none);
      image = refl;
    })

-- ---- Conditions

-- what is placed has the weight 1C48
placed_weight : (level : Level) (old new : ℕ) → IsPlacedAt (with_x accepted_element) x_after_a level old new → new ≡ 0x1C48
placed_weight level old new placed = sym (ap (λ (e : Element). e.primary) (placed_row accepted_element level old new placed).2)

-- its weight is new
fresh : Meets (with_x accepted_element) NotFresh
fresh before r after split level old new placed =
    let parts = only_one x_after_a before r after split in
    let at_x : IsPlacedAt (with_x accepted_element) x_after_a level old new =
    subst (λ (s : Relation). IsPlacedAt (with_x accepted_element) s level old new) (sym parts.1) placed in
    let is_one : level ≡ One = (placed_row accepted_element level old new at_x).0 in
    let is_new : new ≡ 0x1C48 = placed_weight level old new at_x in
    record {
      unknown = λ known.
          ⊎_elim (λ a. omega (arith, a, is_new)) (λ b. omega (arith, b, is_new))
          (base_weights accepted_element new (subst (λ l. IsKnownWeight (with_x accepted_element) l new) is_one known));
      own_before = λ own. subst (λ relations. IsNewWeight (with_x accepted_element) level new relations) parts.0 own;
      own_after = λ own. subst (λ relations. IsNewWeight (with_x accepted_element) level new relations) parts.2 own;
      low = subst (λ l. IsLow l new) (sym is_one) (omega (arith, is_new));
    }

-- and no weight lies between
nearest : Meets (with_x accepted_element) NotNearest
nearest before r after split level old new placed =
    let parts = only_one x_after_a before r after split in
    let at_x : IsPlacedAt (with_x accepted_element) x_after_a level old new =
    subst (λ (s : Relation). IsPlacedAt (with_x accepted_element) s level old new) (sym parts.1) placed in
    let is_old : old ≡ 0x1C47 = (placed_row accepted_element level old new at_x).1 in
    let is_new : new ≡ 0x1C48 = placed_weight level old new at_x in
    record {
      known = λ w known between.
          ⊎_elim (λ above. omega (arith, above.0, above.1, is_old, is_new)) (λ below. omega (arith, below.0, below.1, is_old, is_new)) between;
      earlier = λ w own between. subst (λ relations. IsNewWeight (with_x accepted_element) level w relations) parts.0 own;
    }

-- an element whose primary stays is its own image
kept_image : (p : ℕ) → Sends (maps_of kept_runs).primary p p → IsImage (maps_of kept_runs) (plain p 0x20 2) (plain p 0x20 2)
kept_image p stays = record { primary = stays; secondary = refl; tertiary = refl; mark = refl }

-- all conditions are met
accepted : IsAccepted (with_x accepted_element)
accepted BaseIllFormed = letters_well_formed a_and_b small_properties.class base_letters
accepted TailoredIllFormed = letters_well_formed (a_and_b ++ row (key 0x78) accepted_element ∷ []) small_properties.class tailored_letters
accepted Header = refl
accepted Uncovered = (
  (record { primary = refl; secondary = refl; tertiary = refl }, tt),
  ((record { primary = refl; secondary = refl; tertiary = refl }, tt), tt),
)
accepted RowChanged = (
  (λ other new found. image_found (maps_of kept_runs) (plain 0x1C47 0x20 2) (plain 0x1C47 0x20 2) new (kept_image 0x1C47 refl) found),
  ((λ other new found. image_found (maps_of kept_runs) (plain 0x1C60 0x20 2) (plain 0x1C60 0x20 2) new (kept_image 0x1C60 refl) found), tt),
)
accepted RowMissing = ((refl, (refl, tt)), (refl, tt))
accepted RowExtra = (inl refl, (inl refl, (inr (inl refl), tt)))
accepted Anchor = (([], plain 0x1C47 0x20 2, [], a_is_anchor), tt)
accepted NotPlaced = ((0x1C47, 0x1C48, x_is_placed 0x1C48 (omega arith)), tt)
accepted NotFresh = fresh
accepted NotNearest = nearest

-- ---- The law

-- acceptance, and four failures
pub worked : WorkedTailorings
worked =
    record {
      kept = kept;
      moving = moving;
      is_tailoring = is_tailoring;
      accepted = accepted;
      not_fresh = λ met.
          (met [] x_after_a [] refl One 0x1C47 0x1C60 (x_is_placed 0x1C60 (omega arith))).unknown (b_weighs (plain 0x1C60 0x20 2));
      not_nearest = λ met.
          (met [] x_after_a [] refl One 0x1C47 0x1C61 (x_is_placed 0x1C61 (omega arith))).known 0x1C60 (b_weighs (plain 0x1C61 0x20 2))
          (inl (omega arith, omega arith));
      not_placed = λ met.
          let same = (placed_row (plain 0x1C48 0x20 8) One met.0.0 met.0.1 met.0.2).2 in
          omega (arith, ap (λ (e : Element). e.tertiary) same);
      missing = λ met. let none : false ≡ true = met.1.0 in absurd cc;
      is_moved_tailoring = moves.is_tailoring;
      moved_accepted = moves.accepted;
    }

-- The worked tailoring in which `b` moves is one, and is accepted.
use Rattle.std.proofs.Common.{◌≡◌, ◌⊎◌, ℕ, ◌<◌, List, [], ◌∷◌, Some, None, false, ◌||◌, nat_eq, inl, inr, ⊎_elim}
use Rattle.std.proofs.Common.{refl, sym, subst, arith}
use Rattle.std.specs.List.{AllByRecursion}
use Rattle.std.proofs.lemmas.Bool.Decides.{nat_tests}
use Rattle.uca_weights.specs.declared.Level.{Level}
use Rattle.uca_weights.specs.declared.Level.TheVariants.{One, Two, Three}
use Rattle.uca_weights.specs.Levels.{weight}
use Rattle.uca_weights.specs.Runs.{weight_image}
use Rattle.uca_text.specs.Occurring.{OccursInOrder}
use Rattle.uca_relations.specs.declared.Relation.{Relation}
use Rattle.uca_relations.specs.Relations.{IsTarget, IsUsedBy, IsUntouched, AreRules}
use Rattle.uca_elements.specs.WorkedTable.{plain, small_properties}
use Rattle.uca_tailorings.specs.Images.{IsImage}
use Rattle.uca_tailorings.specs.Placing.{IsAnchor, IsLow}
use Rattle.uca_tailorings.specs.Tailorings.{IsTailoring, IsPlacedAt, IsKnownWeight, IsAccepted}
use Rattle.uca_tailorings.specs.declared.conditions.Condition.TheVariants.{BaseIllFormed, TailoredIllFormed, Header, Uncovered, RowChanged, RowMissing}
use Rattle.uca_tailorings.specs.declared.conditions.Condition.TheVariants.{RowExtra, Anchor, NotPlaced, NotFresh, NotNearest}
use Rattle.uca_tailorings.specs.Inputs.{maps_of}
use Rattle.uca_tailorings.specs.Worked.{x_after_a, four_letters, eight_letters, z_after_capital_a, y_before_c, w_as_a_and_b}
use Rattle.uca_tailorings.specs.Worked.{moving_runs, with_moved_b}
use Rattle.uca_weights.proofs.Lists.{each_parts}
use Rattle.uca_tailorings.proofs.Parts.{of_part}
use Rattle.uca_tailorings.proofs.WorkedTables.{IsLetterRow, full_plain, letter_row, letters_table, letters_well_formed}
use Rattle.uca_tailorings.proofs.WorkedRuns.{moving, maps_rise}
use Rattle.uca_tailorings.proofs.WorkedSteps.{header, letter_text, image_found, AtEachPart, at_parts, Place, known_is}
use Rattle.uca_tailorings.proofs.WorkedSteps.{IsFreshAndNearest, at_place, at_no_place}

-- ---- A tailoring

-- the rows of the base
base_letters : AllByRecursion IsLetterRow four_letters
base_letters = (
  letter_row 0x41 0x1C47 0x20 8 refl refl,
  (
    letter_row 0x61 0x1C47 0x20 2 refl refl,
    (letter_row 0x62 0x1C48 0x20 2 refl refl, (letter_row 0x63 0x1C60 0x20 2 refl refl, tt)),
  ),
)

-- the row of `w`, which has two elements
w_letter : IsLetterRow (record { key = 0x77 ∷ []; elements = plain 0x1C47 0x20 2 ∷ plain 0x1C49 0x20 2 ∷ [] })
w_letter =
    record {
      point = 0x77;
      scalar = refl;
      key = refl;
      full = (full_plain 0x1C47 0x20 2 refl, (full_plain 0x1C49 0x20 2 refl, tt));
      some = omega arith;
      few = omega arith;
    }

-- the rows of the tailored table
tailored_letters : AllByRecursion IsLetterRow eight_letters
tailored_letters = (
  letter_row 0x41 0x1C47 0x20 8 refl refl,
  (
    letter_row 0x61 0x1C47 0x20 2 refl refl,
    (
      letter_row 0x62 0x1C49 0x20 2 refl refl,
      (
        letter_row 0x63 0x1C60 0x20 2 refl refl,
        (
          w_letter,
          (
            letter_row 0x78 0x1C48 0x20 2 refl refl,
            (letter_row 0x79 0x1C5F 0x20 2 refl refl, (letter_row 0x7A 0x1C47 0x21 2 refl refl, tt)),
          ),
        ),
      ),
    ),
  ),
)

-- the relations of its rules
abbrev relations : List Relation
relations = with_moved_b.relations

-- no other letter occurs in a letter
other_letter : (a b : ℕ) → ¬ (a ≡ b) → ¬ (OccursInOrder (a ∷ []) (b ∷ []))
other_letter a b apart occurs = ⊎_elim (λ here. apart here.0) (λ later. later) occurs

-- a letter that is no target is left as it is
untouched_letter : (b : ℕ) → b < 0x77 → IsUntouched relations (b ∷ [])
untouched_letter b below = (
  other_letter 0x78 b (λ same. omega (arith, same, below)),
  (
    other_letter 0x7A b (λ same. omega (arith, same, below)),
    (other_letter 0x79 b (λ same. omega (arith, same, below)), (other_letter 0x77 b (λ same. omega (arith, same, below)), tt)),
  ),
)

-- the anchors and the expansion are such letters
abbrev UsedTextsStay : Relation → Type 0
UsedTextsStay r = (text : List ℕ) → IsUsedBy r text → IsUntouched relations text

-- by the relations one by one
all_untouched : AllByRecursion UsedTextsStay relations
all_untouched = (
  (λ text used. ⊎_elim (λ is. subst (IsUntouched relations) (sym is) (untouched_letter 0x61 (omega arith))) (λ none. absurd none) used),
  (
    (λ text used. ⊎_elim (λ is. subst (IsUntouched relations) (sym is) (untouched_letter 0x41 (omega arith))) (λ none. absurd none) used),
    (
      (λ text used. ⊎_elim (λ is. subst (IsUntouched relations) (sym is) (untouched_letter 0x63 (omega arith))) (λ none. absurd none) used),
      (
        (λ text used.
            ⊎_elim (λ is. subst (IsUntouched relations) (sym is) (untouched_letter 0x61 (omega arith)))
            (λ is. subst (IsUntouched relations) (sym is) (untouched_letter 0x62 (omega arith))) used),
        tt,
      ),
    ),
  ),
)

-- the targets are different letters
other_target : (a b : ℕ) → ¬ (a ≡ b) → ¬ ((a ∷ []) ≡ (b ∷ []))
other_target a b apart same = let heads : a ≡ b = cc in apart heads

-- so no relation has the target of one before it
distinct_targets : AtEachPart (λ before r after. ¬ (IsTarget before r.target.points)) [] relations
distinct_targets = (
  (λ none. none),
  (
    (λ target. ⊎_elim (other_target 0x78 0x7A (λ same. omega (arith, same))) (λ none. none) target),
    (
      (λ target.
          ⊎_elim (other_target 0x78 0x79 (λ same. omega (arith, same)))
          (λ later. ⊎_elim (other_target 0x7A 0x79 (λ same. omega (arith, same))) (λ none. none) later) target),
      (
        (λ target.
            ⊎_elim (other_target 0x78 0x77 (λ same. omega (arith, same)))
            (λ later.
            ⊎_elim (other_target 0x7A 0x77 (λ same. omega (arith, same)))
            (λ last. ⊎_elim (other_target 0x79 0x77 (λ same. omega (arith, same))) (λ none. none) last) later) target),
        tt,
      ),
    ),
  ),
)

-- the rules
rules : AreRules relations
rules =
    record {
      few = omega arith;
      texts = (
        record { anchors = letter_text 0x61 refl; targets = letter_text 0x78 refl; expands = tt },
        (
          record { anchors = letter_text 0x41 refl; targets = letter_text 0x7A refl; expands = tt },
          (
            record { anchors = letter_text 0x63 refl; targets = letter_text 0x79 refl; expands = tt },
            (record { anchors = letter_text 0x61 refl; targets = letter_text 0x77 refl; expands = letter_text 0x62 refl }, tt),
          ),
        ),
      );
      distinct = λ before after r split. at_parts (λ before r after. ¬ (IsTarget before r.target.points)) relations distinct_targets before r after split;
      none_late = λ before after r text split used free.
          (each_parts (λ s. ¬ (OccursInOrder s.target.points text)) before (r ∷ after)
          (subst (λ all. IsUntouched all text) split (of_part UsedTextsStay relations before r after all_untouched split text used))).1;
    }

-- tables, rules and maps keep what is true of every tailoring
pub is_tailoring : IsTailoring with_moved_b
is_tailoring =
    record {
      base = record {
        header = header;
        rows = letters_table four_letters base_letters
            (0x41, refl, omega arith, (0x61, refl, omega arith, (0x62, refl, omega arith, (0x63, refl, omega arith, tt)))) (omega arith);
      };
      tailored = record {
        header = header;
        rows = letters_table eight_letters tailored_letters (
          0x41,
          refl,
          omega arith,
          (
            0x61,
            refl,
            omega arith,
            (
              0x62,
              refl,
              omega arith,
              (
                0x63,
                refl,
                omega arith,
                (0x77, refl, omega arith, (0x78, refl, omega arith, (0x79, refl, omega arith, (0x7A, refl, omega arith, tt)))),
              ),
            ),
          ),
        ) (omega arith);
      };
      rules = rules;
      maps = maps_rise moving_runs moving;
    }

-- ---- Where the targets are placed

-- an anchor of one element that has a weight
one_anchor_element : (level : Level) (p s t : ℕ) → ¬ (p ≡ 0) → ¬ (s ≡ 0) → IsLow level (weight level (plain p s t)) →
    IsAnchor level (plain p s t ∷ []) [] (plain p s t) []
one_anchor_element One p s t some more low =
    record { whole = refl; ignorable = tt; not_ignorable = λ none. some none; alone = λ continues. more continues.1; low = low }
one_anchor_element Two p s t some more low =
    record { whole = refl; ignorable = tt; not_ignorable = λ none. some none.0; alone = λ continues. more continues.1; low = low }
one_anchor_element Three p s t some more low =
    record { whole = refl; ignorable = tt; not_ignorable = λ none. some none.0; alone = λ continues. more continues.1; low = low }

-- `x` after `a`, `z` after `A`, and `y` before `c`
abbrev x_place : Place
x_place = record { level = One; old = 0x1C47; new = 0x1C48 }

abbrev z_place : Place
z_place = record { level = Two; old = 0x20; new = 0x21 }

abbrev y_place : Place
y_place = record { level = One; old = 0x1C60; new = 0x1C5F }

-- each is there
x_is_placed : IsPlacedAt with_moved_b x_after_a One 0x1C47 0x1C48
x_is_placed =
    record {
      strength = refl;
      before = [];
      last = plain 0x1C47 0x20 2;
      trailing = [];
      anchor = one_anchor_element One 0x1C47 0x20 2 (λ none. omega (arith, none)) (λ none. omega (arith, none)) (omega arith);
      old_weight = refl;
      side = omega arith;
      row = refl;
    }

z_is_placed : IsPlacedAt with_moved_b z_after_capital_a Two 0x20 0x21
z_is_placed =
    record {
      strength = refl;
      before = [];
      last = plain 0x1C47 0x20 8;
      trailing = [];
      anchor = one_anchor_element Two 0x1C47 0x20 8 (λ none. omega (arith, none)) (λ none. omega (arith, none)) tt;
      old_weight = refl;
      side = omega arith;
      row = refl;
    }

y_is_placed : IsPlacedAt with_moved_b y_before_c One 0x1C60 0x1C5F
y_is_placed =
    record {
      strength = refl;
      before = [];
      last = plain 0x1C60 0x20 2;
      trailing = [];
      anchor = one_anchor_element One 0x1C60 0x20 2 (λ none. omega (arith, none)) (λ none. omega (arith, none)) (omega arith);
      old_weight = refl;
      side = omega arith;
      row = refl;
    }

-- ---- The weights of the base

-- at level 1
known_primary : (w : ℕ) → IsKnownWeight with_moved_b One w → (w ≡ 0x1C47) ⊎ (w ≡ 0x1C49) ⊎ (w ≡ 0x1C60)
known_primary =
    known_is with_moved_b (λ v. (v ≡ 0x1C47) ⊎ (v ≡ 0x1C49) ⊎ (v ≡ 0x1C60)) One
    ((inl refl, tt), ((inl refl, tt), ((inr (inl refl), tt), ((inr (inr refl), tt), tt)))) (λ v none. absurd none)

-- other weights are none of them
other_primary : (w : ℕ) → (nat_eq w 0x1C47 || nat_eq w 0x1C49 || nat_eq w 0x1C60) ≡ false → ¬ ((w ≡ 0x1C47) ⊎ (w ≡ 0x1C49) ⊎ (w ≡ 0x1C60))
other_primary w none is =
    ⊎_elim (λ a. grind (arith, nat_tests, none, a))
    (λ later. ⊎_elim (λ b. grind (arith, nat_tests, none, b)) (λ c. grind (arith, nat_tests, none, c)) later) is

-- at level 2
known_secondary : (w : ℕ) → IsKnownWeight with_moved_b Two w → w ≡ 0x20
known_secondary = known_is with_moved_b (λ v. v ≡ 0x20) Two ((refl, tt), ((refl, tt), ((refl, tt), ((refl, tt), tt)))) (λ v same. same)

-- ---- Conditions

-- each new weight is new and nearest
fresh_and_nearest : AtEachPart (IsFreshAndNearest with_moved_b) [] relations
fresh_and_nearest = (
  at_place with_moved_b [] x_after_a (z_after_capital_a ∷ y_before_c ∷ w_as_a_and_b ∷ []) [] x_place (Some z_place ∷ Some y_place ∷ None ∷ [])
      tt x_is_placed (z_is_placed, (y_is_placed, (refl, tt))) (λ known. other_primary 0x1C48 refl (known_primary 0x1C48 known))
      (λ none. none)
      (λ new. ⊎_elim (λ z. let no : Two ≡ One = z.0 in absurd cc) (λ later. ⊎_elim (λ y. omega (arith, y.1)) (λ none. none) later) new)
      (omega arith) (inl refl),
  (
    at_place with_moved_b (x_after_a ∷ []) z_after_capital_a (y_before_c ∷ w_as_a_and_b ∷ []) (Some x_place ∷ []) z_place
        (Some y_place ∷ None ∷ []) (x_is_placed, tt) z_is_placed (y_is_placed, (refl, tt)) (λ known. omega (arith, known_secondary 0x21 known))
        (λ new. ⊎_elim (λ x. let no : One ≡ Two = x.0 in absurd cc) (λ none. none) new)
        (λ new. ⊎_elim (λ y. let no : One ≡ Two = y.0 in absurd cc) (λ none. none) new) tt (inl refl),
    (
      at_place with_moved_b (x_after_a ∷ z_after_capital_a ∷ []) y_before_c (w_as_a_and_b ∷ []) (Some x_place ∷ Some z_place ∷ []) y_place
          (None ∷ []) (x_is_placed, (z_is_placed, tt)) y_is_placed (refl, tt) (λ known. other_primary 0x1C5F refl (known_primary 0x1C5F known))
          (λ new. ⊎_elim (λ x. omega (arith, x.1)) (λ later. ⊎_elim (λ z. let no : Two ≡ One = z.0 in absurd cc) (λ none. none) later) new)
          (λ none. none) (omega arith) (inr refl),
      (at_no_place with_moved_b (x_after_a ∷ z_after_capital_a ∷ y_before_c ∷ []) w_as_a_and_b [] refl, tt),
    ),
  ),
)

-- an element that keeps its weights
same_image : (p t : ℕ) → weight_image One moving_runs.primary p ≡ Some p → weight_image Three moving_runs.tertiary t ≡ Some t →
    IsImage (maps_of moving_runs) (plain p 0x20 t) (plain p 0x20 t)
same_image p t primary tertiary = record { primary = primary; secondary = refl; tertiary = tertiary; mark = refl }

-- all conditions are met
pub accepted : IsAccepted with_moved_b
accepted BaseIllFormed = letters_well_formed four_letters small_properties.class base_letters
accepted TailoredIllFormed = letters_well_formed eight_letters small_properties.class tailored_letters
accepted Header = refl
accepted Uncovered = (
  (record { primary = refl; secondary = refl; tertiary = refl }, tt),
  (
    (record { primary = refl; secondary = refl; tertiary = refl }, tt),
    ((record { primary = refl; secondary = refl; tertiary = refl }, tt), ((record { primary = refl; secondary = refl; tertiary = refl }, tt), tt)),
  ),
)
accepted RowChanged = (
  (λ other new found. image_found (maps_of moving_runs) (plain 0x1C47 0x20 8) (plain 0x1C47 0x20 8) new (same_image 0x1C47 8 refl refl) found),
  (
    (λ other new found. image_found (maps_of moving_runs) (plain 0x1C47 0x20 2) (plain 0x1C47 0x20 2) new (same_image 0x1C47 2 refl refl) found),
    (
      (λ other new found.
          image_found (maps_of moving_runs) (plain 0x1C48 0x20 2) (plain 0x1C49 0x20 2) new
          (record { primary = refl; secondary = refl; tertiary = refl; mark = refl }) found),
      ((λ other new found. image_found (maps_of moving_runs) (plain 0x1C60 0x20 2) (plain 0x1C60 0x20 2) new (same_image 0x1C60 2 refl refl) found), tt),
    ),
  ),
)
accepted RowMissing = ((refl, (refl, (refl, (refl, tt)))), (refl, (refl, (refl, (refl, tt)))))
accepted RowExtra = (
  inl refl,
  (inl refl, (inl refl, (inl refl, (inr (inr (inr (inr (inl refl)))), (inr (inl refl), (inr (inr (inr (inl refl))), (inr (inr (inl refl)), tt))))))),
)
accepted Anchor = (
  (x_is_placed.before, x_is_placed.last, x_is_placed.trailing, x_is_placed.anchor),
  (
    (z_is_placed.before, z_is_placed.last, z_is_placed.trailing, z_is_placed.anchor),
    ((y_is_placed.before, y_is_placed.last, y_is_placed.trailing, y_is_placed.anchor), (tt, tt)),
  ),
)
accepted NotPlaced = ((0x1C47, 0x1C48, x_is_placed), ((0x20, 0x21, z_is_placed), ((0x1C60, 0x1C5F, y_is_placed), (refl, tt))))
accepted NotFresh = λ before r after split. (at_parts (IsFreshAndNearest with_moved_b) relations fresh_and_nearest before r after split).0
accepted NotNearest = λ before r after split. (at_parts (IsFreshAndNearest with_moved_b) relations fresh_and_nearest before r after split).1

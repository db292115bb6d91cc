-- What is true of the elements of each draft row, and of the implicit elements of each code point, is true of the draft
-- elements of a text.
use Rattle.std.proofs.Common.{ℕ, Bool, true, false, List, [], ◌∷◌, ◌++◌, map}
use Rattle.std.proofs.Common.{Some, unwrap_or, if◌then◌else◌}
use Rattle.std.specs.List.{AllByRecursion, flat_map}
use Rattle.uca_values.specs.declared.ImplicitRange.{ImplicitRange}
use Rattle.uca_values.specs.Content.{Properties}
use Rattle.uca_values.specs.Implicit.{implicit}
use Rattle.uca_text.specs.Texts.{NfdText, code_points, with_classes, classed}
use Rattle.uca_elements.specs.Rows.{same_key}
use Rattle.uca_elements.specs.Parts.{Part, Row, Implicit, IsPartOf}
use Rattle.uca_elements.specs.Reading.{parts}
use Rattle.uca_elements.proofs.Parts.{each_part}
use Rattle.uca_weights.proofs.Lists.{each_contained}
use Rattle.uca_plans.specs.declared.drafts.DraftElement.{DraftElement}
use Rattle.uca_plans.specs.Drafts.{DraftRow, as_draft, has_key, draft_at, part_drafts, draft_elements}

-- what is true of each code point of a text is true of each of its letters
each_letter : (P : ℕ → Type 0) (points classes : List ℕ) → AllByRecursion P points → AllByRecursion P (code_points (with_classes points classes))
each_letter P [] classes all = tt
each_letter P (c ∷ points) [] all = tt
each_letter P (c ∷ points) (k ∷ classes) all = (all.0, each_letter P points classes all.1)

module _ (P : List DraftElement → Type 0) (none : P []) (append : (es fs : List DraftElement) → P es → P fs → P (es ++ fs)) where
  -- the elements of the row of a key, or none
  at_key : (rows : List DraftRow) (key : List ℕ) → AllByRecursion (λ row. P row.elements) rows → P (unwrap_or (draft_at rows key) [])
  at_key [] key all = none
  at_key (row ∷ rows) key all = go (same_key row.key key) (at_key rows key all.1)
    where
      -- by the test of the first key
      go : (b : Bool) → P (unwrap_or (draft_at rows key) []) → P (unwrap_or (if b then Some row.elements else draft_at rows key) [])
      go true rest = all.0
      go false rest = rest

  -- so it is true of the draft elements of a text
  pub read_each : (ranges : List ImplicitRange) (properties : Properties) (rows : List DraftRow) (text : NfdText)
      → AllByRecursion (λ row. P row.elements) rows
      → AllByRecursion (λ c. P (map (as_draft true) (implicit ranges properties c))) text.points
      → P (draft_elements ranges properties rows text)
  read_each ranges properties rows text at_rows at_points =
      each (parts (has_key rows) (classed text)) (each_part (has_key rows) (classed text))
    where
      -- the draft elements of one part
      of_part : (p : Part) → IsPartOf (has_key rows) (classed text) p → P (part_drafts ranges properties rows p)
      of_part (Row key) is = at_key rows key at_rows
      of_part (Implicit c) is =
          each_contained (λ d. P (map (as_draft true) (implicit ranges properties d))) (code_points (classed text)) c
          (each_letter (λ d. P (map (as_draft true) (implicit ranges properties d))) text.points text.classes at_points) is

      -- and of some
      each : (ps : List Part) → AllByRecursion (IsPartOf (has_key rows) (classed text)) ps → P (flat_map (part_drafts ranges properties rows) ps)
      each [] are = none
      each (p ∷ ps) are = append (part_drafts ranges properties rows p) (flat_map (part_drafts ranges properties rows) ps) (of_part p are.0) (each ps are.1)

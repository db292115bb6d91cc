-- Texts under the tailored table of a plan are read as drafts, numbered.
use Rattle.std.proofs.Common.{◌≡◌, ℕ, ◌+◌, true, List, map, option_map, refl, ap, ◌∙◌, arith}
use Rattle.uca_weights.specs.declared.Element.{Element}
use Rattle.uca_weights.specs.declared.Level.TheVariants.{Two, Three}
use Rattle.uca_values.specs.Content.{Entry, TableContent, Properties}
use Rattle.uca_values.specs.Implicit.{implicit}
use Rattle.uca_values.proofs.ImplicitPairs.{of_pair}
use Rattle.uca_text.specs.Texts.{NfdText}
use Rattle.uca_elements.specs.Collations as collations
use Rattle.uca_elements.specs.Rows.{rows_of}
use Rattle.uca_relations.specs.declared.Relation.{Relation}
use Rattle.uca_tailorings.specs.Tailorings.{tailored_reading}
use Rattle.uca_plans.specs.declared.drafts.DraftElement.{DraftElement}
use Rattle.uca_plans.specs.Drafts.{as_draft, draft_at, draft_elements}
use Rattle.uca_plans.specs.Plans.{Plan, numbered}
use Rattle.uca_plans.specs.Readings.{valued_rows}
use Rattle.uca_plans.proofs.DraftReading.{read_as_rows, valued_row}
use Rattle.uca_acceptance.specs.Accepted.{tailoring_by}
use Rattle.uca_acceptance.proofs.PlanCase.{IsCase, plans_in}
use Rattle.uca_acceptance.proofs.LevelImages.{fixed_number, high_number}

module _ (base : TableContent) (properties : Properties) (relations : List Relation) (plan : Plan) (case : IsCase base properties relations plan) where
  -- a numbered draft
  abbrev pub value : DraftElement → Element
  value = numbered (plans_in base properties relations plan case)

  -- an implicit element stays as it is
  pub own_implicit : (c : ℕ) →
      map (λ e. numbered (plans_in base properties relations plan case) (as_draft true e)) (implicit base.header.ranges properties c)
      ≡ implicit base.header.ranges properties c
  own_implicit c =
      of_pair (λ es. map (λ e. value (as_draft true e)) es ≡ es) base.header.ranges properties c
      (λ lead low bounds.
      let high = (bounds case.table.header.ranges).high in
      let first = high_number base properties relations plan case lead (omega (arith, high)) in
      let second = high_number base properties relations plan case (0x8000 + low) (omega arith) in
      let secondary = fixed_number base properties relations plan case Two in
      let tertiary = fixed_number base properties relations plan case Three in
      rw (first, second, secondary, tertiary) refl)

  -- the rows of the plan are the numbered drafts
  rows_valued : plan.rows ≡ valued_rows value case.made.drafting.rows
  rows_valued = ap (λ (p : Plan). p.rows) case.made.is_plan

  -- so the elements of a text under the tailored table are the numbered drafts
  pub tailored_read : (text : NfdText) → collations.elements_of (tailored_reading (tailoring_by base properties relations plan)) text
      ≡ map (numbered (plans_in base properties relations plan case)) (draft_elements base.header.ranges properties case.made.drafting.rows text)
  tailored_read text =
      ap (λ (rows : List Entry). collations.elements_of (record { rows = rows_of rows; ranges = base.header.ranges; properties = properties }) text) rows_valued
      ∙ read_as_rows value base.header.ranges properties case.made.drafting.rows text own_implicit

  -- and a tailored row is the numbered draft row
  pub tailored_row : (key : List ℕ) →
      rows_of plan.rows key ≡ option_map (λ es. map (numbered (plans_in base properties relations plan case)) es) (draft_at case.made.drafting.rows key)
  tailored_row key = ap (λ (rows : List Entry). rows_of rows key) rows_valued ∙ valued_row value case.made.drafting.rows key

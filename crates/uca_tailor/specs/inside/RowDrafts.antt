-- The elements of a drafted row.
use Rattle.std.specs.Prelude.{List, map, false}
use Rattle.uca_plans.specs.declared.drafts.DraftElement.{DraftElement}
use Rattle.uca_plans.specs.Drafts.{as_draft}
use Rattle.uca_tailor.specs.declared.drafts.row_drafts.RowElements.{RowElements}
use Rattle.uca_tailor.specs.declared.drafts.row_drafts.RowElements.TheVariants.{Base, Target}

-- those of the base as they are, and those of a target
abbrev pub row_elements : {A : Type 0} → RowElements A → List DraftElement
row_elements (Base elements) = map (as_draft false) elements.now
row_elements (Target elements) = elements.items

-- What is true of the elements of each row and of the implicit weights that a text may read as is true of all its elements.
use Rattle.std.proofs.Common.{◌≡◌, ℕ, List, Option, Some, None, refl}
use Rattle.std.specs.List.{AllByRecursion}
use Rattle.uca_weights.specs.declared.Element.{Element}
use Rattle.uca_text.specs.Texts.{Text, code_points}
use Rattle.uca_text.specs.Occurring.{OccursInOrder}
use Rattle.uca_elements.specs.Rows.{Rows}
use Rattle.uca_elements.specs.Reading.{read}
use Rattle.uca_elements.specs.Laws.{AreRelatedRows}
use Rattle.uca_elements.proofs.RelatedReading.{read_related}
use Rattle.uca_weights.proofs.Lists.{each_append}

module _ (P : Element → Type 0) (implicit : ℕ → List Element) (rows : Rows) where
  -- a row is related to itself
  each_row : (row : Option (List Element)) → ((elements : List Element) → row ≡ Some elements → AllByRecursion P elements) →
      AreRelatedRows (λ es fs. AllByRecursion P es) row row
  each_row None holds = tt
  each_row (Some elements) holds = holds elements refl

  -- What is true of each row that occurs in order in a text, and of the implicit weights of its code points, is true of
  -- its elements.
  pub read_each : (t : Text) → ((key : List ℕ) (row : List Element) → OccursInOrder key (code_points t) → rows key ≡ Some row → AllByRecursion P row) →
      AllByRecursion (λ c. AllByRecursion P (implicit c)) (code_points t) → AllByRecursion P (read implicit rows t)
  read_each t at_rows at_points =
      read_related (λ es fs. AllByRecursion P es) tt (λ es fs gs hs first second. each_append P es gs first second) implicit implicit rows rows t
      (record { at_keys = λ key occurs. each_row (rows key) (λ row found. at_rows key row occurs found); at_points = at_points })

-- Rows of texts that are not listed. `IsListed` says which texts are.
use Rattle.std.specs.Prelude.{ℕ, List}
use Rattle.std.specs.List.{AllByRecursion}
use Rattle.uca_values.specs.Content.{Entry}
use Rattle.uca_elements.specs.Rows.{Rows, IsKey}
use Rattle.uca_tailorings.specs.Images.{Maps}
use Rattle.uca_tailorings.specs.Tailorings.{IsCovered}

-- where the key is not listed, each weight of the row has an image
abbrev pub IsCoveredIfUnlisted : Maps → (List ℕ → Type 0) → Entry → Type 0
IsCoveredIfUnlisted maps IsListed row = ¬ (IsListed row.key) → AllByRecursion (IsCovered maps) row.elements

-- where the key is not listed, it is a key of these rows
abbrev pub IsPresentIfUnlisted : (List ℕ → Type 0) → Rows → Entry → Type 0
IsPresentIfUnlisted IsListed rows row = ¬ (IsListed row.key) → IsKey rows row.key

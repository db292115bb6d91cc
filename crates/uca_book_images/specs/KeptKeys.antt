-- Compact keys that stay. For example, 4A is the third weight of the cell 48 to 5F, and becomes 53. That is the third
-- one of the new cell 51 to 7F, which has the number of the old one. So 4A keeps its place, and its bytes stay.
use Rattle.std.specs.Prelude.{◌≡◌, ⊤, ℕ, suc, List, [], ◌∷◌, Bool, map}
use Rattle.std.specs.List.{AllByRecursion, AllZip}
use Rattle.std.specs.Ordering.{nat_cmp}
use Rattle.std.specs.declared.cmp.Ordering.{Ordering}
use Rattle.std.specs.declared.cmp.Ordering.TheVariants.{Less, Equal, Greater}
use Rattle.uca_weights.specs.declared.Weighting.{Weighting}
use Rattle.uca_weights.specs.Maps.{Sends}
use Rattle.uca_books.specs.Books.{BookContent}
use Rattle.uca_compact.specs.Forms.{Form, first_cell, forms_of}
use Rattle.uca_compact.specs.PlainLevels.{is_lead}
use Rattle.uca_compact.specs.CompactKeys.{cell, KeyParts}
use Rattle.uca_tailorings.specs.Images.{Maps}
use Rattle.uca_tailorings.specs.Moves.{level_images}

-- the number of the cell of a weight, and its offset there, by how it compares to the common weight, which has no cell
abbrev pub cell_by : Form → ℕ → Ordering → List ℕ
cell_by f w Less = cell 0 1 f.lesser f.common w
cell_by f w Equal = []
cell_by f w Greater = cell (first_cell f) (suc f.common) f.greater 65536 w

-- a weight under a form keeps its place as a new weight under a new form
pub record KeepsPlace (f g : Form) (w x : ℕ) : Type 0 where
  -- both are less than the common weight, or both are it, or both are greater
  pub side : nat_cmp w f.common ≡ nat_cmp x g.common
  -- their cells have one number, and they have one offset there
  pub place : cell_by f w (nat_cmp w f.common) ≡ cell_by g x (nat_cmp x g.common)

-- so does each weight of each level, in order
abbrev pub LevelsKeepPlaces : (forms new_forms : List Form) → (levels new_levels : List (List ℕ)) → Type 0
LevelsKeepPlaces [] [] [] [] = ⊤
LevelsKeepPlaces (f ∷ forms) (g ∷ new_forms) (ws ∷ levels) (xs ∷ new_levels) =
    AllZip (KeepsPlace f g) ws xs × LevelsKeepPlaces forms new_forms levels new_levels
LevelsKeepPlaces forms new_forms levels new_levels = ⊥

-- for each weight of level 1, whether it is the first of the two of an implicit element
abbrev pub leads_of : List (List ℕ) → List Bool
leads_of [] = []
leads_of (letters ∷ later) = map is_lead letters

-- a key under a book keeps its places as a new key under a new book
pub record KeyKeepsPlaces (weighting : Weighting) (book new_book : BookContent) (k new : KeyParts) : Type 0 where
  pub places : LevelsKeepPlaces (forms_of weighting book) (forms_of weighting new_book) k.levels new.levels
  -- a lead stays one
  pub leads : leads_of k.levels ≡ leads_of new.levels
  pub points : k.points ≡ new.points

-- ---- Stored keys that are put through maps

-- each weight of each level, from a level on, keeps its place as its image, if it has one
abbrev pub MapsKeepPlaces : Maps → (level : ℕ) → (forms new_forms : List Form) → List (List ℕ) → Type 0
MapsKeepPlaces maps level [] [] [] = ⊤
MapsKeepPlaces maps level (f ∷ forms) (g ∷ new_forms) (ws ∷ levels) =
    AllByRecursion (λ w. (x : ℕ) → Sends (level_images maps level) w x → KeepsPlace f g w x) ws × MapsKeepPlaces maps (suc level) forms new_forms levels
MapsKeepPlaces maps level forms new_forms levels = ⊥

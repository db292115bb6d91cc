-- The images of all weights as lists.
use Rattle.std.specs.Prelude.{◌≡◌, ℕ, ◌<◌, List, length, Some, None, nat_eq, slice_index, if◌then◌else◌}
use Rattle.uca_weights.specs.Maps.{WeightImages}
use Rattle.uca_tailorings.specs.Images.{Maps}

-- a weight has this image, or none where it is 0 and the weight is not
abbrev pub IsImageEntry : WeightImages → ℕ → ℕ → Type 0
IsImageEntry images w x = images w ≡ (if nat_eq x 0 then (if nat_eq w 0 then Some 0 else None) else Some x)

-- the weights below the bound have these images
abbrev pub AreImagesBelow : ℕ → WeightImages → List ℕ → Type 0
AreImagesBelow bound images table = (w : ℕ) → w < bound → IsImageEntry images w (slice_index table w)

-- the list has the images of all weights of 16 bits
pub record IsImageTable (images : WeightImages) (table : List ℕ) : Type 0 where
  pub full : length table ≡ 0x1_0000
  pub entries : AreImagesBelow 0x1_0000 images table

-- and so at each level
pub record AreLevelTables (maps : Maps) (primary secondary tertiary : List ℕ) : Type 0 where
  pub first : IsImageTable maps.primary primary
  pub second : IsImageTable maps.secondary secondary
  pub third : IsImageTable maps.tertiary tertiary

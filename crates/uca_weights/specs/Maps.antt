-- Rising maps of the weights of a level.
use Rattle.std.specs.Prelude.{◌≡◌, ℕ, ◌<◌, ◌≤◌, Option, Some}
use Rattle.uca_weights.specs.declared.Level.{Level}
use Rattle.uca_weights.specs.declared.Level.TheVariants.{One, Two, Three}

-- the weight that a weight becomes, if it has an image
abbrev pub WeightImages : Type 0
WeightImages = ℕ → Option ℕ

abbrev pub Sends : WeightImages → ℕ → ℕ → Type 0
Sends images w x = images w ≡ Some x

-- what each level keeps: at level 1 the weights from 8000 up, with those below it sent below it; at levels 2 and 3 the
-- weight of implicit weights
abbrev pub KeepsFixed : Level → WeightImages → Type 0
KeepsFixed One images = ((w : ℕ) → 0x8000 ≤ w → w < 0x1_0000 → Sends images w w) × ((w x : ℕ) → Sends images w x → w < 0x8000 → x < 0x8000)
KeepsFixed Two images = Sends images 0x20 0x20
KeepsFixed Three images = Sends images 2 2

-- a map of the weights of a level: of two weights the greater has the greater image, and 0 stays
pub record IsRisingMap (level : Level) (images : WeightImages) : Type 0 where
  pub rising : (v w x y : ℕ) → Sends images v x → Sends images w y → v < w → x < y
  pub zero : Sends images 0 0
  pub fixed : KeepsFixed level images

-- the map sends each weight that it maps to itself
abbrev pub KeepsWeights : WeightImages → Type 0
KeepsWeights images = (w x : ℕ) → Sends images w x → w ≡ x

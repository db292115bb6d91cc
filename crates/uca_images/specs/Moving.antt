-- Keys that are put through maps level by level. Public contracts cite `MoverState` alone.
use Rattle.std.specs.Prelude.{◌≡◌, ℕ, suc, ◌≤◌, List, ◌++◌, take, drop, Option, None, ⊤, option_map}
use Rattle.uca_weights.specs.declared.Depth.{Depth}
use Rattle.uca_weights.specs.declared.Settings.{Settings}
use Rattle.uca_certificates.specs.Certificates.{CertificateContent}
use Rattle.uca_tailorings.specs.Images.{Maps}
use Rattle.uca_tailorings.specs.Moves.{ended, moved_from}
use Rattle.uca_images.specs.declared.levels.LevelEnd.{LevelEnd}
use Rattle.uca_images.specs.declared.levels.LevelEnd.TheVariants.{Next, Key, Missing}

-- whose maps keys are put through, and the settings that the keys were made under
pub record MoverState : Type 0 where
  pub certificate : CertificateContent
  pub settings : Settings

-- The key put through the maps is what there is before `at`, and then the rest put through them. The rest is in this level, with
-- this many levels of weights from there on.
abbrev pub HasMoved : Maps → Depth → ℕ → ℕ → ℕ → List ℕ → Option (List ℕ) → Type 0
HasMoved maps depth level more at key moved = moved ≡ option_map (λ rest. take at key ++ rest) (moved_from maps depth level more (drop at key))

-- what the key put through the maps is, where a level ends so and this many levels of weights come after it
abbrev pub EndsLevel : Maps → Depth → ℕ → ℕ → LevelEnd → List ℕ → Option (List ℕ) → Type 0
EndsLevel maps depth level more (Next at) key moved = HasMoved maps depth (suc level) more at key moved
EndsLevel maps depth level more Key key moved = moved ≡ option_map (λ rest. key ++ rest) (ended depth more)
EndsLevel maps depth level more Missing key moved = moved ≡ None

-- the next level begins within the key, or at its end
abbrev pub IsWithin : LevelEnd → ℕ → Type 0
IsWithin (Next at) length_ = at ≤ length_
IsWithin Key length_ = ⊤
IsWithin Missing length_ = ⊤

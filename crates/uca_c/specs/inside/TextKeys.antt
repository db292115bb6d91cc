-- Keys of texts, where the texts themselves are not at hand.
use Rattle.std.specs.Prelude.{◌≡◌, ℕ, List, true}
use Rattle.std.specs.Str.{all_scalars}
use Rattle.uca_weights.specs.declared.Settings.{Settings}
use Rattle.uca_order.specs.Depths.{ReadText, key_at}

-- the key is that of this text, whose code points are Unicode scalar values
pub record IsKeyOf (settings : Settings) (t : ReadText) (key : List ℕ) : Type 0 where
  pub scalars : all_scalars t.points ≡ true
  pub is : key ≡ key_at settings.depth settings.weighting t

-- it is that of a text
abbrev pub IsTextKey : Settings → List ℕ → Type 0
IsTextKey settings key = (t : ReadText) × IsKeyOf settings t key

-- The headers of key lines and of lines of compact keys: a first line that says what made the keys.
use Rattle.std.specs.Prelude.{ℕ, List, ◌++◌, codes}
use Rattle.hex.specs.Hex.{encode_lower}
use Rattle.uca_weights.specs.declared.Settings.{Settings}
use Rattle.uca_weights.specs.WeightingText.{weighting_text}
use Rattle.uca_fingerprint.specs.Fingerprints.{depth_text}

-- `#uca keys 1 shifted weights ` and the 64 digits of a fingerprint. In the order of bytes it comes before each line that begins with a key.
abbrev pub key_header : Settings → List ℕ → List ℕ
key_header settings sum =
    codes "#uca keys 1 " ++ weighting_text settings.weighting ++ codes " " ++ depth_text settings.depth ++ codes " " ++ encode_lower sum

-- `#uca compact 1 shifted weights ` and the 64 digits of a fingerprint of compact keys. It comes before each line that begins with one.
abbrev pub compact_header : Settings → List ℕ → List ℕ
compact_header settings sum =
    codes "#uca compact 1 "
    ++ weighting_text settings.weighting
    ++ codes " "
    ++ depth_text settings.depth
    ++ codes " "
    ++ encode_lower sum

-- The fingerprint of what keys are made by: the SHA-256 of a text that names all of it.
use Rattle.std.specs.Prelude.{ℕ, List, [], ◌∷◌, ◌++◌, codes}
use Rattle.std.specs.Fmt.{decimal}
use Rattle.hex.specs.Hex.{encode_lower}
use Rattle.sha2.specs.Sha256.{sha256}
use Rattle.uca_weights.specs.declared.Depth.{Depth}
use Rattle.uca_weights.specs.declared.Depth.TheVariants.{Weights, Identical}
use Rattle.uca_weights.specs.declared.Numbers.{Numbers}
use Rattle.uca_weights.specs.declared.Numbers.TheVariants.{AsText, ByValue}
use Rattle.uca_weights.specs.declared.Settings.{Settings}
use Rattle.uca_weights.specs.WeightingText.{weighting_text}

-- the edition of Unicode by which texts are brought to Normalization Form D
abbrev pub edition : List ℕ
edition = codes "18.0.0"

-- a version of three numbers, as it is written
abbrev pub version_text : ℕ × ℕ × ℕ → List ℕ
version_text v = decimal v.0 ++ (46 ∷ decimal v.1) ++ (46 ∷ decimal v.2)

-- the name of a depth
abbrev pub depth_text : Depth → List ℕ
depth_text Weights = codes "weights"
depth_text Identical = codes "identical"

-- a line: a name with a blank after it, a value, and LF
abbrev pub value_line : List ℕ → List ℕ → List ℕ
value_line name value = name ++ (value ++ 10 ∷ [])

-- numbers by value have a line more
abbrev pub numbers_line : Numbers → List ℕ
numbers_line AsText = []
numbers_line ByValue = value_line (codes "numbers ") (codes "by value")

-- what keys are made by, in six lines or seven; files are named by the SHA-256 of their bytes
unfoldable pub fingerprint_text : Settings → List ℕ → List ℕ → List ℕ
fingerprint_text settings table_sum data_sum =
    value_line (codes "uca keys ") (codes "1")
    ++ value_line (codes "unicode ") edition
    ++ value_line (codes "weighting ") (weighting_text settings.weighting)
    ++ value_line (codes "depth ") (depth_text settings.depth)
    ++ numbers_line settings.numbers
    ++ value_line (codes "table ") (encode_lower table_sum)
    ++ value_line (codes "data ") (encode_lower data_sum)

-- the fingerprint of settings, and the bytes of a table and of a data file
abbrev pub fingerprint : Settings → List ℕ → List ℕ → List ℕ
fingerprint settings table_bytes data_bytes = sha256 (fingerprint_text settings (sha256 table_bytes) (sha256 data_bytes))

-- what compact keys are made by, in three lines: the fingerprint of their whole keys, and the SHA-256 of the bytes of the book
unfoldable pub compact_fingerprint_text : List ℕ → List ℕ → List ℕ
compact_fingerprint_text keys_sum book_sum =
    value_line (codes "uca compact keys ") (codes "1")
    ++ value_line (codes "keys ") (encode_lower keys_sum)
    ++ value_line (codes "book ") (encode_lower book_sum)

-- the fingerprint of compact keys, by that of their whole keys and the bytes of the book
abbrev pub compact_fingerprint : List ℕ → List ℕ → List ℕ
compact_fingerprint keys_sum book_bytes = sha256 (compact_fingerprint_text keys_sum (sha256 book_bytes))

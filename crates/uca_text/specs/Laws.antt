-- The law of canonically equivalent texts, as a statement.
use Rattle.std.specs.Prelude.{◌≡◌, ℕ, List}
use Rattle.uca_values.specs.Content.{Properties}
use Rattle.uca_text.specs.Texts.{AreCanonicallyEquivalent, nfd_text}

-- canonically equivalent texts have the same code points in Normalization Form D, and the same classes
abbrev pub CanonicallyEquivalentTextsAreNormalizedAlike : Type 0
CanonicallyEquivalentTextsAreNormalizedAlike =
    (properties : Properties) (s t : List ℕ) → AreCanonicallyEquivalent s t → nfd_text properties s ≡ nfd_text properties t

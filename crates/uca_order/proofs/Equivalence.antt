-- Canonically equivalent texts have equal keys.
use Rattle.std.proofs.Common.{◌≡◌, ℕ, List, map, ap, ap₂, sym, ◌∙◌}
use Rattle.unicode_normalization.specs.Forms.{nfd}
use Rattle.uca_weights.specs.declared.Numbers.{Numbers}
use Rattle.uca_weights.specs.declared.Numbers.TheVariants.{AsText, ByValue}
use Rattle.uca_values.specs.Content.{Properties}
use Rattle.uca_text.specs.Texts.{NfdText, AreCanonicallyEquivalent}
use Rattle.uca_elements.specs.Collations.{elements_of}
use Rattle.uca_numbers.specs.Texts.{by_value}
use Rattle.uca_digits.proofs.NfdNumbers.{written_first}
use Rattle.uca_order.specs.Depths.{key_at, written}
use Rattle.uca_order.specs.Laws.{CanonicallyEquivalentTextsHaveEqualKeys}

-- code points with their classes
abbrev with_properties : Properties → List ℕ → NfdText
with_properties properties points = record { points = points; classes = map properties.class points }

-- what is read of them is canonically equivalent too
written_equivalent : (numbers : Numbers) (left right : List ℕ) → AreCanonicallyEquivalent left right → nfd (written numbers left) ≡ nfd (written numbers right)
written_equivalent AsText left right same = same
written_equivalent ByValue left right same = written_first left ∙ ap by_value same ∙ sym (written_first right)

-- so their elements are the same, and so are their code points in Normalization Form D
pub equivalent_texts : CanonicallyEquivalentTextsHaveEqualKeys
equivalent_texts c settings left right same =
    ap₂ (λ (read points : List ℕ). key_at settings.depth settings.weighting
    (record { elements = elements_of c (with_properties c.properties read); points = points }))
    (written_equivalent settings.numbers left right same) same

-- Texts that are not normalized yet: their elements are those of the text by value.
use Rattle.std.proofs.Common.{ℕ, List, map, refl, sym, ap, ◌∙◌}
use Rattle.unicode_normalization.specs.Forms.{nfd}
use Rattle.uca_values.specs.Content.{Properties}
use Rattle.uca_text.specs.Texts.{NfdText}
use Rattle.uca_elements.specs.Collations.{Collation, elements_of}
use Rattle.uca_order.specs.Depths.{ReadText, key_at}
use Rattle.uca_numbers.specs.Texts.{by_value}
use Rattle.uca_numbers.proofs.Rewriting.{codes_stand}
use Rattle.uca_digits.proofs.NfdNumbers.{written_first}
use Rattle.uca_number_keys.specs.Laws.{NumericTextsReadByValue, EquivalentTextsHaveTheSameLimits, NumericKeysAreOfTextsByValue}

-- code points with their classes
abbrev with_properties : Properties → List ℕ → NfdText
with_properties properties points = record { points = points; classes = map properties.class points }

abbrev read_as : Collation → List ℕ → List ℕ → ReadText
read_as c points itself = record { elements = elements_of c (with_properties c.properties points); points = itself }

pub reads_by_value : NumericTextsReadByValue
reads_by_value c points = ap (λ (text : List ℕ). read_as c text (nfd points)) (written_first points)

pub same_limits : EquivalentTextsHaveTheSameLimits
same_limits properties left right same = ap (with_properties properties) (written_first left ∙ ap by_value same ∙ sym (written_first right))

pub keys_by_value : NumericKeysAreOfTextsByValue
keys_by_value = record {
  weights = λ c weighting points. refl;
  without_digits = λ c weighting depth points none.
      ap (λ (text : List ℕ). key_at depth weighting (read_as c (nfd text) (nfd points))) (codes_stand.other points none);
}

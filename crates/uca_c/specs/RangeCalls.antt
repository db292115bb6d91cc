-- The ends of the ranges of keys that a lookup by a text scans.
use Rattle.std.specs.Prelude.{◌≡◌, ◌⊎◌, ℕ, List, [], ◌∷◌, Option, Some, None}
use Rattle.uca_weights.specs.declared.Weighting.{Weighting}
use Rattle.uca_order.specs.Levels.{weighted, level_list}
use Rattle.uca_order.specs.Depths.{ReadText}
use Rattle.uca_order.specs.Keyings.{Keying, read_of}
use Rattle.uca_books.specs.Books.{BookContent}
use Rattle.uca_ranges.specs.Ranges.{levels_low, levels_high, letters_low, letters_high}
use Rattle.uca_ranges.specs.Ranges.{compact_levels_low, compact_levels_high, compact_letters_low, compact_letters_high}
use Rattle.uca_c.specs.declared.numbers.RangeOf.{RangeOf}
use Rattle.uca_c.specs.declared.numbers.RangeOf.TheVariants.{SameLetters, SameAccents, Begins}
use Rattle.uca_c.specs.declared.numbers.End.{End}
use Rattle.uca_c.specs.declared.numbers.End.TheVariants.{Low, High}
use Rattle.uca_c.specs.Numbers.{range_of, end_of}

-- level 1 of a text
abbrev pub letters_in : Weighting → ReadText → List ℕ
letters_in weighting t = level_list 1 (weighted weighting t.elements)

-- level 2
abbrev pub accents_in : Weighting → ReadText → List ℕ
accents_in weighting t = level_list 2 (weighted weighting t.elements)

-- an end of a range of whole keys
abbrev pub whole_end : RangeOf → End → Weighting → ReadText → List ℕ
whole_end SameLetters Low weighting t = levels_low (letters_in weighting t ∷ [])
whole_end SameLetters High weighting t = levels_high (letters_in weighting t ∷ [])
whole_end SameAccents Low weighting t = levels_low (letters_in weighting t ∷ accents_in weighting t ∷ [])
whole_end SameAccents High weighting t = levels_high (letters_in weighting t ∷ accents_in weighting t ∷ [])
whole_end Begins Low weighting t = letters_low (letters_in weighting t)
whole_end Begins High weighting t = letters_high (letters_in weighting t)

-- an end of a range of compact keys
abbrev pub compact_end : BookContent → RangeOf → End → Weighting → ReadText → List ℕ
compact_end b SameLetters Low weighting t = compact_levels_low weighting b (letters_in weighting t ∷ [])
compact_end b SameLetters High weighting t = compact_levels_high weighting b (letters_in weighting t ∷ [])
compact_end b SameAccents Low weighting t = compact_levels_low weighting b (letters_in weighting t ∷ accents_in weighting t ∷ [])
compact_end b SameAccents High weighting t = compact_levels_high weighting b (letters_in weighting t ∷ accents_in weighting t ∷ [])
compact_end b Begins Low weighting t = compact_letters_low weighting b (letters_in weighting t)
compact_end b Begins High weighting t = compact_letters_high weighting b (letters_in weighting t)

-- that of the keys of a collator
abbrev pub end_by : Option BookContent → RangeOf → End → Weighting → ReadText → List ℕ
end_by None range side weighting t = whole_end range side weighting t
end_by (Some b) range side weighting t = compact_end b range side weighting t

-- the numbers ask for this range and this end
pub record AsksEnd (range side : ℕ) (r : RangeOf) (e : End) : Type 0 where
  pub is_range : range_of range ≡ Some r
  pub is_end : end_of side ≡ Some e

-- they ask for none
abbrev pub AsksNoEnd : (range side : ℕ) → Type 0
AsksNoEnd range side = (range_of range ≡ None) ⊎ (end_of side ≡ None)

-- the bytes are the end that the numbers ask for, by this text
abbrev pub IsEndOf : Keying → Option BookContent → (range side : ℕ) → (text bytes : List ℕ) → Type 0
IsEndOf k book range side text bytes =
    (r : RangeOf) × (e : End) × AsksEnd range side r e × (bytes ≡ end_by book r e k.settings.weighting (read_of k text))

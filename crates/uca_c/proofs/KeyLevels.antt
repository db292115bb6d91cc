-- The compact key of a text that is made of the levels of its key.
use Rattle.std.proofs.Common.{◌≡◌, ◌∙◌, ℕ, List, Some, map, take, refl, ap, subst, sym}
use Rattle.std.specs.List.{AllByRecursion}
use Rattle.uca_weights.specs.declared.Depth.{Depth}
use Rattle.uca_weights.specs.declared.Depth.TheVariants.{Weights}
use Rattle.uca_weights.specs.declared.Element.{Element}
use Rattle.uca_weights.specs.declared.Settings.{Settings}
use Rattle.uca_weights.specs.declared.Weighting.{Weighting}
use Rattle.uca_weights.specs.declared.Weighting.TheVariants.{NonIgnorable, Shifted}
use Rattle.uca_order.specs.Levels.{level_count, level_lists}
use Rattle.uca_compact.specs.declared.level_bytes.LevelBytes.{LevelBytes}
use Rattle.uca_compact.specs.CompactKeys.{compact, compact_key, text_parts}
use Rattle.uca_compact.specs.Forms.{forms_of}
use Rattle.uca_compact.specs.LevelBytes.{AreWeightBytes, level_bytes_in, weights_in}
use Rattle.uca_compact.specs.PlainLevels.{plain_level}
use Rattle.uca_compact.specs.Programs.{CompacterState}
use Rattle.uca_compact.proofs.WeightBytes.{levels_are}
use Rattle.uca_key_writer.specs.declared.key_levels.KeyLevels.{KeyLevels}
use Rattle.uca_key_writer.specs.KeyLevels.{AreLevelsOf, levels_in}
use Rattle.uca_owned.specs.Owned.{OwnedState, keying_in}
use Rattle.uca_order.specs.Keyings.{read_of}
use Rattle.uca_c.specs.OpenCollators.{key_by}

-- the levels as they are handed over
abbrev pub handed_over : KeyLevels → LevelBytes
handed_over l = record { letters = l.primary; accents = l.secondary; cases = l.tertiary; variables = l.quaternary }

-- the weights of those that a compacter reads
abbrev pub weights_read : Weighting → KeyLevels → List (List ℕ)
weights_read weighting l = map weights_in (level_bytes_in weighting (handed_over l))

-- it reads those that keys of its weighting have
read_levels : (weighting : Weighting) (l : KeyLevels) → level_bytes_in weighting (handed_over l) ≡ take (level_count weighting) (levels_in l)
read_levels NonIgnorable l = refl
read_levels Shifted l = refl

-- these are bytes of weights, and the weights are those of the elements
are_weights : (weighting : Weighting) (es : List Element) (l : KeyLevels) → AreLevelsOf weighting es (levels_in l)
    → AllByRecursion AreWeightBytes (level_bytes_in weighting (handed_over l)) × (weights_read weighting l ≡ level_lists weighting es)
are_weights weighting es l are = levels_are weighting es (level_bytes_in weighting (handed_over l)) (read_levels weighting l ∙ are)

pub bytes_of_weights : (s settings : Settings) (es : List Element) (l : KeyLevels) → s ≡ settings → AreLevelsOf settings.weighting es (levels_in l)
    → AllByRecursion AreWeightBytes (level_bytes_in s.weighting (handed_over l))
bytes_of_weights s settings es l same are =
    subst (λ (s : Settings). AllByRecursion AreWeightBytes (level_bytes_in s.weighting (handed_over l))) (sym same)
    (are_weights settings.weighting es l are).0

-- the compact key of a text with these levels
pub key_of_levels : (c : OwnedState) (m : CompacterState) (text key : List ℕ) (l : KeyLevels) → m.settings ≡ c.settings → c.settings.depth ≡ Weights
    → AreLevelsOf c.settings.weighting (read_of (keying_in c) text).elements (levels_in l)
    → key ≡ compact plain_level (forms_of m.settings.weighting m.book) (weights_read m.settings.weighting l)
    → key ≡ key_by (keying_in c) (Some m.book) text
key_of_levels c m text key l same at are made =
    let t = read_of (keying_in c) text in
    let weighting = c.settings.weighting in
    made ∙ ap (λ (s : Settings). compact plain_level (forms_of s.weighting m.book) (weights_read s.weighting l)) same
    ∙ ap (compact plain_level (forms_of weighting m.book)) (are_weights weighting t.elements l are).1
    ∙ ap (λ (d : Depth). compact_key d weighting m.book (text_parts d weighting t)) (sym at)

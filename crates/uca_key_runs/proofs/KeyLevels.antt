-- Compact keys that are made of the levels of a key.
use Rattle.std.proofs.Common.{◌≡◌, ◌∙◌, ◌<◌, ◌^◌, ℕ, List, Some, Option, Result, map, take, length, refl, ap, subst, sym}
use Rattle.std.specs.List.{AllByRecursion}
use Rattle.std.specs.Result.{OnOk}
use Rattle.uca_weights.specs.declared.Depth.{Depth}
use Rattle.uca_weights.specs.declared.Depth.TheVariants.{Weights}
use Rattle.uca_weights.specs.declared.Element.{Element}
use Rattle.uca_weights.specs.declared.Settings.{Settings}
use Rattle.uca_weights.specs.declared.Weighting.{Weighting}
use Rattle.uca_weights.specs.declared.Weighting.TheVariants.{NonIgnorable, Shifted}
use Rattle.uca_text.specs.Limits.{IsAccepted}
use Rattle.uca_elements.specs.Collations.{Collation}
use Rattle.uca_order.specs.Levels.{level_count, level_lists}
use Rattle.uca_order.specs.Depths.{ReadText, read_points, written_text}
use Rattle.uca_order.specs.Lengths.{HasShortRows}
use Rattle.uca_order.proofs.KeyLength.{keys_short}
use Rattle.uca_books.specs.Books.{BookContent}
use Rattle.uca_compact.specs.declared.level_bytes.LevelBytes.{LevelBytes}
use Rattle.uca_compact.specs.CompactKeys.{compact, compact_key, text_parts}
use Rattle.uca_compact.specs.Forms.{forms_of}
use Rattle.uca_compact.specs.LevelBytes.{AreWeightBytes, level_bytes_in, weights_in}
use Rattle.uca_compact.specs.PlainLevels.{plain_level}
use Rattle.uca_compact.specs.Programs.{CompacterState}
use Rattle.uca_compact.proofs.WeightBytes.{levels_are}
use Rattle.uca_key_writer.specs.declared.key_levels.KeyLevels.{KeyLevels}
use Rattle.uca_key_writer.specs.KeyLevels.{AreLevelsOf, levels_in}
use Rattle.uca_key_runs.specs.inside.KeyForms.{shown_at}
use Rattle.uca_key_runs.proofs.ShownKeys.{shown_is_short}

-- ---- What a compacter gets

-- the levels as they are handed over
abbrev pub handed_over : KeyLevels → LevelBytes
handed_over l = record { letters = l.primary; accents = l.secondary; cases = l.tertiary; variables = l.quaternary }

-- it reads those that keys of its weighting have
read_levels : (weighting : Weighting) (l : KeyLevels) → level_bytes_in weighting (handed_over l) ≡ take (level_count weighting) (levels_in l)
read_levels NonIgnorable l = refl
read_levels Shifted l = refl

-- these are bytes of weights, and the weights are those of the elements
are_weights : (weighting : Weighting) (es : List Element) (l : KeyLevels) → AreLevelsOf weighting es (levels_in l) →
    let levels = level_bytes_in weighting (handed_over l) in
    AllByRecursion AreWeightBytes levels × (map weights_in levels ≡ level_lists weighting es)
are_weights weighting es l are = levels_are weighting es (level_bytes_in weighting (handed_over l)) (read_levels weighting l ∙ are)

pub bytes_of_weights : (held given : CompacterState) (es : List Element) (l : KeyLevels) → held ≡ given → AreLevelsOf given.settings.weighting es (levels_in l)
    → AllByRecursion AreWeightBytes (level_bytes_in held.settings.weighting (handed_over l))
bytes_of_weights held given es l same are =
    subst (λ (s : CompacterState). AllByRecursion AreWeightBytes (level_bytes_in s.settings.weighting (handed_over l))) (sym same)
    (are_weights given.settings.weighting es l are).0

-- ---- What it makes

-- the compact key of a text with these levels
pub made_of_levels : {T E : Type 0} (held given : CompacterState) (t : ReadText) (l : KeyLevels) (key : List ℕ) (r : Result T E) → held ≡ given
    → OnOk r (key ≡ compact plain_level (forms_of held.settings.weighting held.book) (map weights_in (level_bytes_in held.settings.weighting (handed_over l))))
    → AreLevelsOf given.settings.weighting t.elements (levels_in l)
    → OnOk r (key ≡ compact_key Weights given.settings.weighting given.book (text_parts Weights given.settings.weighting t))
made_of_levels held given t l key r same made are =
    subst (λ (levels : List (List ℕ)). OnOk r (key ≡ compact plain_level (forms_of given.settings.weighting given.book) levels))
    (are_weights given.settings.weighting t.elements l are).1
    (subst (λ (s : CompacterState). OnOk r (key ≡ compact plain_level (forms_of s.settings.weighting s.book) (map weights_in (level_bytes_in s.settings.weighting (handed_over l)))))
    same made)

-- it is the one that is shown
pub made_is_shown : (by : CompacterState) (settings : Settings) (t : ReadText) (key : List ℕ) → by.settings ≡ settings → settings.depth ≡ Weights
    → key ≡ compact_key Weights by.settings.weighting by.book (text_parts Weights by.settings.weighting t)
    → key ≡ shown_at (Some by.book) settings.depth settings.weighting t
made_is_shown by settings t key same at is =
    is ∙ ap (λ (s : Settings). compact_key Weights s.weighting by.book (text_parts Weights s.weighting t)) same
    ∙ ap (λ (d : Depth). compact_key d settings.weighting by.book (text_parts d settings.weighting t)) (sym at)

-- and short where the text is accepted
pub accepted_is_short : (c : Collation) (book : Option BookContent) (settings : Settings) (points : List ℕ) → HasShortRows c.rows → settings.depth ≡ Weights
    → IsAccepted (written_text settings.numbers c.properties points)
    → length (shown_at book settings.depth settings.weighting (read_points c settings.numbers points)) < 2 ^ 41
accepted_is_short c book settings points short at accepted =
    let t = read_points c settings.numbers points in
    subst (λ (d : Depth). length (shown_at book d settings.weighting t) < 2 ^ 41) (sym at)
    (shown_is_short book Weights settings.weighting t (keys_short c Weights settings.weighting (written_text settings.numbers c.properties points) short accepted))

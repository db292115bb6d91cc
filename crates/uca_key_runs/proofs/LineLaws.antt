-- The laws of key lines, from those of keys.
use Rattle.std.proofs.Common.{◌≡◌, ℕ, List, chars, ap₂, subst}
use Rattle.uca_weights.specs.declared.Depth.TheVariants.{Weights}
use Rattle.uca_order.specs.Depths.{read_points, key_at}
use Rattle.uca_order.specs.Laws.{KeysCompareAsTexts, IdenticalKeysAreOfEquivalentTexts}
use Rattle.uca_order.proofs.Equivalence.{equivalent_texts}
use Rattle.uca_run_parts.specs.Print.{print_line_at}
use Rattle.uca_key_runs.specs.Laws.{LineKeysCompareAsLines, CanonicallyEquivalentLinesHaveOneKeyLine, IdenticalLineKeysAreOfEquivalentLines}

-- the keys of lines are those of their texts
pub line_keys_compare : KeysCompareAsTexts → LineKeysCompareAsLines
line_keys_compare law c left right =
    let one = read_points c.collation c.settings.numbers (chars left) in
    let other = read_points c.collation c.settings.numbers (chars right) in
    (law.order c.settings.depth c.settings.weighting one other, law.equal c.settings.depth c.settings.weighting one other)

-- a line is printed by its key without an identical level, and by its code points in Normalization Form D
pub one_key_line : CanonicallyEquivalentLinesHaveOneKeyLine
one_key_line c left right same =
    ap₂ (λ (key points : List ℕ). print_line_at c.settings.depth key points)
    (equivalent_texts c.collation (record { weighting = c.settings.weighting; depth = Weights; numbers = c.settings.numbers }) (chars left) (chars right) same) same

-- equal keys with an identical level are keys of equivalent lines
pub identical_lines : IdenticalKeysAreOfEquivalentTexts → IdenticalLineKeysAreOfEquivalentLines
identical_lines law c left right is same =
    let one = read_points c.collation c.settings.numbers (chars left) in
    let other = read_points c.collation c.settings.numbers (chars right) in
    law c.collation c.settings.weighting c.settings.numbers (chars left) (chars right)
    (subst (λ d. key_at d c.settings.weighting one ≡ key_at d c.settings.weighting other) is same)

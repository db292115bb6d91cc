-- Lines whose numbers are ordered by value.
use Rattle.std.proofs.Common.{◌≡◌, ◌++◌, chars, ap, ap₂, ◌∙◌}
use Rattle.uca_order.specs.Levels.{lexicographic}
use Rattle.uca_order.specs.Depths.{ReadText, compared_at, key_at, read_points}
use Rattle.uca_order.specs.Keyings.{keying}
use Rattle.uca_number_keys.specs.Keys.{read_by_value}
use Rattle.uca_number_keys.specs.Laws.{NumbersOrderTexts, NumericTextsReadByValue}
use Rattle.uca_key_runs.specs.Laws.{NumbersOrderLines}

pub numbers_order : NumbersOrderTexts → NumericTextsReadByValue → NumbersOrderLines
numbers_order law reads asked table properties left right front a rest other b more is taken have differ =
    let c = keying asked table properties in
    let depth = c.settings.depth in
    let weighting = c.settings.weighting in
    let one : read_points c.collation asked.numbers (chars left) ≡ read_by_value c.collation (front ++ (a ++ rest)) =
    ap (λ n. read_points c.collation n (chars left)) is ∙ reads c.collation (chars left) ∙ ap (read_by_value c.collation) have.left_text in
    let two : read_points c.collation asked.numbers (chars right) ≡ read_by_value c.collation (other ++ (b ++ more)) =
    ap (λ n. read_points c.collation n (chars right)) is ∙ reads c.collation (chars right) ∙ ap (read_by_value c.collation) have.right_text in
    record {
      compared = ap₂ (compared_at depth weighting) one two ∙ law.texts c.collation depth weighting front a rest other b more (taken is) have.numbers differ;
      keys = ap₂ (λ (x y : ReadText). lexicographic (key_at depth weighting x) (key_at depth weighting y)) one two
          ∙ law.keys c.collation depth weighting front a rest other b more (taken is) have.numbers differ;
    }

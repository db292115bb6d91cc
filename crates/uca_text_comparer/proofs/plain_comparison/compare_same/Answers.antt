use Rattle.std.proofs.Common.{◌≡◌, List, ℕ, subst, rules}
use Rattle.std.specs.Str.{chars}
use Rattle.std.specs.declared.cmp.Ordering.TheVariants.{Equal}
use Rattle.uca_comparison.specs.declared.walk.Walked.{Walked}
use Rattle.uca_text_comparer.specs.inside.Shared.{ComparesTexts}
use Rattle.uca_text_comparer.proofs.PlainComparisons.{same_compared}
use Rattle.uca_text_comparer.proofs.plain_comparison.compare_same.Goals as goal

pub returns : goal.returns
returns g c =
    let same : c.args.left.now ≡ c.args.right.now = search rules in
    let count = c.in_ok-count.count in
    let walked : Walked = record { order = Equal; level = 0; last = c.level_count.result; fetched_left = count; fetched_right = count } in
    λ collation entries.
    subst (λ (text : List ℕ). ComparesTexts collation c.args.weighting (chars c.args.left.now) (chars text) walked) same
    (same_compared collation c.args.weighting (chars c.args.left.now) count c.level_count.result (c.in_ok-count.ensures collation entries) c.level_count.ensures)

use Rattle.std.proofs.Common.{List, ℕ, [], ◌∷◌, ◌++◌, sym, ap, ◌∙◌}
use Rattle.uca_ranges.specs.Ranges.{letters_code}
use Rattle.uca_ranges.proofs.OneLevel.{one_low, one_high}
use Rattle.uca_ranges.proofs.compact.write_same_compact_letters_range.Goals as goal

pub returns-clause-low : goal.returns-clause-low
returns-clause-low g c =
    c.in_ok-push.ensures.items ∙ ap (λ (xs : List ℕ). xs ++ 0 ∷ []) c.in_ok-write_cells.ensures
    ∙ sym (one_low c.args.weighting c.args.book.now c.args.letters.now c.requires)

pub returns-clause-high : goal.returns-clause-high
returns-clause-high g c =
    c.in_ok-push-2.ensures.items ∙ ap (λ (xs : List ℕ). xs ++ c.end_count.result ∷ []) c.in_ok-write_cells-2.ensures
    ∙ ap (λ (n : ℕ). letters_code c.args.weighting c.args.book.now c.args.letters.now ++ n ∷ []) c.end_count.ensures
    ∙ sym (one_high c.args.weighting c.args.book.now c.args.letters.now c.requires)

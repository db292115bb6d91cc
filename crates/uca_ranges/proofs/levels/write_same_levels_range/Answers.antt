use Rattle.std.proofs.Common.{List, ℕ, [], ◌∷◌, ◌++◌, true, false, take, ap, sym, ◌∙◌, arith}
use Rattle.std.proofs.lemmas.Bool.{false≢true}
use Rattle.uca_compact.proofs.ExpandedKeys.{bytes_are}
use Rattle.uca_ranges.proofs.LevelsEnd.{finds_some, finds_none, has_levels}
use Rattle.uca_ranges.proofs.levels.write_same_levels_range.Goals as goal

pub returns-in-None : goal.returns-in-None
returns-in-None g c = (
  finds_none c.args.count c.args.key.now c.args.low.now.items c.args.high.now.items c.in-None.ensures.value,
  λ found some. absurd (false≢true found),
)

pub returns : goal.returns
returns g c =
    let key = c.args.key.now in
    let front = take c.in-Some.end key in
    let low = c.in_ok-extend_from_slice.ensures.items ∙ ap (λ (xs : List ℕ). xs ++ front) c.clear.ensures.items in
    let high = c.in_ok-extend_from_slice-3.ensures.items
    ∙ ap (λ (xs : List ℕ). xs ++ (0 ∷ 1 ∷ [])) (c.in_ok-extend_from_slice-2.ensures.items ∙ ap (λ (xs : List ℕ). xs ++ front) c.clear-2.ensures.items) in
    let low_bytes = c.extend_from_slice.new.self.items in
    let high_bytes = c.extend_from_slice-3.new.self.items in (
      finds_some c.args.count key c.in-Some.end low_bytes high_bytes c.in-Some.ensures.value low high,
      λ found some. has_levels c.args.count key c.in-Some.end low_bytes high_bytes
          (bytes_are key (λ k within. let fits = c.type_inv.key k in omega (arith, fits))) c.in-Some.ensures.value low high some,
    )

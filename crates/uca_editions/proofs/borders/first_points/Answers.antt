use Rattle.std.proofs.Common.{[], ◌∷◌, refl, arith}
use Rattle.std.proofs.lemmas.Result.{IfOk-weaker}
use Rattle.uca_editions.specs.inside.Borders.{HasFirsts}
use Rattle.uca_editions.proofs.borders.first_points.Goals as goal

pub returns : goal.returns
returns g c =
    let firsts : HasFirsts (0 ∷ 0xE000 ∷ []) = record { zero = (0, omega arith, refl); after = (1, omega arith, refl) } in
    IfOk-weaker c.from_slice.result _ (λ list. HasFirsts list.items) (λ list is. rw is firsts) c.from_slice.ensures.items

use Rattle.std.proofs.Common.{List, ℕ, eqb, not, cond, map, ◌%◌, ◌^◌, ap₂, sym, ◌∙◌, arith}
use Rattle.std.proofs.lemmas.List.{take_all}
use lib.Lanes.{zip2, mask_l, top}
use Rattle.uca_lanes.specs.inside.Marks.{first_set}
use Rattle.uca_lanes.proofs.LaneSteps.{same_lanes}
use Rattle.uca_lanes.proofs.short.same_of_sixteen.Goals as goal

pub returns : goal.returns
returns c =
    let left = c.args.left in
    let right = c.args.right in
    same_lanes 16 left right 0 0 c.first_set.result (omega (arith, c.fits-left.0)) (omega (arith, c.fits-right.0)) (omega arith)
    (c.first_set.ensures
    ∙ ap₂ (λ (xs ys : List ℕ). first_set (mask_l (map (top 7) (zip2 (λ a b. cond (not (eqb a b)) 255 0) xs ys)) % 2 ^ 64) 16)
    (sym (take_all 16 left (omega (arith, c.fits-left.0)))) (sym (take_all 16 right (omega (arith, c.fits-right.0)))))

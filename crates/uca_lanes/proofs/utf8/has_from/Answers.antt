use Rattle.std.proofs.Common.{◌≡◌, ◌∙◌, eqb-true}
use Rattle.std.proofs.lemmas.Bool.{not-false, not-true, eqb-false}
use Rattle.uca_lanes.proofs.MaskSteps.{none_in_both, none_of_both}
use Rattle.uca_lanes.proofs.utf8.has_from.Goals as goal

pub returns-clause-front : goal.returns-clause-front
returns-clause-front c = λ none.
    let mask = c.mask_from.result in
    let no_mask : mask ≡ 0 = eqb-true mask 0 (not-false _ none) in
    (none_in_both c.args.least mask c.args.front c.args.back c.fits-front.0 c.fits-back.0 c.mask_from.ensures.mask no_mask).0

pub returns-clause-back : goal.returns-clause-back
returns-clause-back c = λ none.
    let mask = c.mask_from.result in
    let no_mask : mask ≡ 0 = eqb-true mask 0 (not-false _ none) in
    (none_in_both c.args.least mask c.args.front c.args.back c.fits-front.0 c.fits-back.0 c.mask_from.ensures.mask no_mask).1

pub returns-clause-some : goal.returns-clause-some
returns-clause-some c = λ some none.
    let mask = c.mask_from.result in
    absurd (eqb-false mask 0 (not-true _ some) (c.mask_from.ensures.mask ∙ none_of_both c.args.least c.args.front c.args.back c.fits-front.0 c.fits-back.0 none.0 none.1))

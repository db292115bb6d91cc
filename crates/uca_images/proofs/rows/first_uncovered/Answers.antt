use Rattle.std.proofs.Common.{Contains, rules}
use Rattle.std.proofs.lemmas.Iterator.{IsFirst-from_position, YieldsList-from_slice}
use Rattle.uca_check.proofs.Firsts.{first_found, fails_tested, holds_tested}
use Rattle.uca_tailorings.specs.Inputs.{maps_of}
use Rattle.uca_images.specs.UnlistedRows.{IsCoveredIfUnlisted}
use Rattle.uca_images.proofs.rows.first_uncovered.Goals as goal

pub returns : goal.returns
returns g c =
    let Has = IsCoveredIfUnlisted (maps_of c.args.images.now) (Contains c.args.listed.now.texts) in
    first_found Has c.args.rows.now _
    (IsFirst-from_position _ _ _ (λ row. Has row → ⊥) Has c.position.ensures.ran (YieldsList-from_slice c.args.rows.now cc)
    (λ x q k. fails_tested (Has x.now) (search rules)) (λ x q k. (search rules, holds_tested (Has x.now) (search rules))))

use Rattle.std.proofs.Common.{arith, subst}
use Rattle.std.proofs.lemmas.Grind.{common_steps}
use Rattle.std.proofs.lemmas.Slice.Eq.{slice_eq-Decides}
use Rattle.uca_values.specs.Content.{HeaderContent, AreImplicitRanges, properties_of}
use Rattle.uca_editions.proofs.SamePairs.{pairs_told}
use Rattle.uca_editions.proofs.points.have_same_pair.Goals as goal

pub returns : goal.returns
returns g c =
    pairs_told c.args.old.now.ranges c.args.new.now.ranges
    (subst (λ (h : HeaderContent). AreImplicitRanges h.ranges) c.old.view_is c.old.invariant.ranges)
    (subst (λ (h : HeaderContent). AreImplicitRanges h.ranges) c.new.view_is c.new.invariant.ranges) (properties_of c.new-nothing.result) c.args.point
    c.implicit.result c.implicit-2.result c.implicit.ensures c.implicit-2.ensures c.eq.result
    (slice_eq-Decides (λ a b. grind (arith, common_steps)) c.implicit.result c.implicit-2.result c.eq.result c.eq.ensures)

use Rattle.std.proofs.Common.{◌≡◌, ℕ, true, sym, subst, arith}
use lib.Utf8.{scalar}
use Rattle.uca_compact.specs.StoredParts.{stored_points}
use Rattle.uca_compact.specs.inside.StoredEnds.{with_points}
use Rattle.uca_compact.proofs.StoredSteps.{points_step, points_end}
use Rattle.uca_compact.proofs.stored.push_points.Goals as goal

pub loop-at-preserved : goal.loop-at-preserved
loop-at-preserved g c =
    points_step c.loop-at.out.items c.args.bytes.now c.push_point.new.out.items c.loop-at.at c.in-Some.point (with_points c.args.out.now.items (stored_points c.args.bytes.now))
    c.loop-at-test.true (omega (arith, c.in-Some.ensures.value.1, c.from.ensures, c.from-in-loop-at.ensures, c.from-in-loop-at-2.ensures))
    (subst (λ (n : ℕ). scalar n ≡ true) (sym c.in-Some.ensures.value.1) c.in-Some.ensures.value.0)
    c.in_ok-push_point-in-Some.ensures c.loop-at.invariant.1

pub returns : goal.returns
returns g c =
    points_end c.loop-at.out.items c.args.bytes.now c.loop-at.at (with_points c.args.out.now.items (stored_points c.args.bytes.now)) c.loop-at.invariant.0
    (omega (arith, c.loop-at-test.false)) c.loop-at.invariant.1

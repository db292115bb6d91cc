use Rattle.std.proofs.Common.{refl}
use Rattle.std.proofs.lemmas.Bool.{and_parts, and_from}
use Rattle.uca_lanes.specs.inside.Marks.{joined}
use Rattle.uca_lanes.proofs.CodePoints.{agree-IsUtf8}
use Rattle.uca_lanes.proofs.MaskSteps.{none_joined}
use Rattle.uca_lanes.proofs.utf8.are_utf8.Goals as goal

pub returns-then-has_from : goal.returns-then-has_from
returns-then-has_from c =
    let agree = agree-IsUtf8 (joined c.args.front c.args.back c.args.both) in
    let counts = c.counts_agree.ensures in
    let seconds = c.seconds_agree.ensures in (
      λ t. (let h = and_parts c.counts_agree.result c.seconds_agree.result t in agree.0 (counts.0 h.0, seconds.0 h.1)),
      λ u. (let h = agree.1 u in and_from c.counts_agree.result c.seconds_agree.result (counts.1 h.0) (seconds.1 h.1)),
    )

pub are_utf8_if_narrow-requires-clause-narrow : goal.are_utf8_if_narrow-requires-clause-narrow
are_utf8_if_narrow-requires-clause-narrow c =
    let none = c.if-has_from.ensures in
    none_joined 0xe0 c.args.front c.args.back c.args.both c.fits-front.0 (none.front refl) (none.back refl)

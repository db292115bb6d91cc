use Rattle.std.proofs.Common.{◌≡◌, ◌+◌, subst, sym, ap, arith, rules}
use Rattle.std.specs.Str.{IsUtf8}
use Rattle.uca_text_comparer.proofs.HeadSteps.{PointAt, point_there}
use Rattle.uca_text_comparer.proofs.heads.long_point_at.Goals as goal

pub returns : goal.returns
returns c =
    let text = c.args.text.now in
    let rest = c.in_ok-rest.rest.now in
    let after = c.in_ok-point.field-0-1.now in
    let x = c.in_ok-point.point in
    let rest_utf8 : IsUtf8 rest = search rules in
    let after_utf8 : IsUtf8 after = search rules in
    let there = point_there text rest after c.args.at x c.in_ok-rest.ensures.back rest_utf8 after_utf8 (omega (arith, c.requires)) c.in_ok-point.ensures in
    let next : _ ≡ c.args.at + c.len_utf8.result = ap (λ n. c.args.at + n) (sym c.len_utf8.ensures.value) in
    let found = subst (PointAt text c.args.at x) next there in
    let as_number = subst (λ y. PointAt text c.args.at y (c.args.at + c.len_utf8.result)) (sym c.from.ensures) found in
    record { point = as_number.point; boundary = as_number.boundary; on = as_number.on }

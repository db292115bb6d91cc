-- The digits of a code point are its text.
use Rattle.std.proofs.Common.{ap, subst, sym, ◌∙◌, ◌++◌}
use Rattle.std.proofs.lemmas.Result.{MatchResult-at_ok}
use Rattle.std.specs.Str.{IsUtf8}
use Rattle.uca_lines.specs.Numbers.{digits}
use Rattle.uca_table.specs.Canonical.{point_text}
use Rattle.uca_table.proofs.CanonicalDigits.{point_is}
use Rattle.uca_table.proofs.TakeLaws.{is_ok_by}
use Rattle.uca_run_parts.proofs.PointTexts.{point_is_text}
use Rattle.uca_run_parts.proofs.change_faults.point_message.Goals as goal

pub unwrap-text-requires : goal.unwrap-text-requires
unwrap-text-requires c =
    let text = point_is c.args.point c.spare_digits.result c.six_digits-digits.result c.spare_digits.ensures
    (c.six_digits-digits.ensures ∙ ap (digits 6) c.from.ensures) in
    is_ok_by _ _ _ _ c.from_utf8.ensures.cases (subst IsUtf8 (sym text) (point_is_text c.args.point c.ranges.point.0))

pub returns-clause-text : goal.returns-clause-text
returns-clause-text c =
    let text = point_is c.args.point c.spare_digits.result c.six_digits-digits.result c.spare_digits.ensures
    (c.six_digits-digits.ensures ∙ ap (digits 6) c.from.ensures) in
    c.text.ensures ∙ ap (λ digits. c.of.result ++ digits) ((MatchResult-at_ok _ _ _ c.unwrap-text.ensures c.from_utf8.ensures.cases).0 ∙ text)
    ∙ ap (λ front. front ++ point_text c.args.point) c.of.ensures

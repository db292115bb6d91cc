-- The search for LF stops where the line ends.
use Rattle.std.proofs.Common.{take, refl, sym, ap, arith, Some, None, take_all}
use Rattle.std.specs.List.{position_or_len}
use Rattle.uca_lines.specs.Lines.{is_lf}
use Rattle.uca_lines.proofs.LineLemmas.{line_end-memchr}
use Rattle.uca_lines.proofs.lines.first_line.Goals as goal

pub returns-in-Some-clause-line : goal.returns-in-Some-clause-line
returns-in-Some-clause-line c = ap (λ n. take n c.args.bytes.now) (sym (line_end-memchr c.args.bytes.now (Some c.in-Some.at) c.in-Some.ensures).0)

pub returns-in-Some-clause-is_ended : goal.returns-in-Some-clause-is_ended
returns-in-Some-clause-is_ended c =
    let place = line_end-memchr c.args.bytes.now (Some c.in-Some.at) c.in-Some.ensures in
    (λ _. omega (arith, place.0, place.1), λ _. refl)

pub returns-in-None-clause-line : goal.returns-in-None-clause-line
returns-in-None-clause-line c =
    let none = line_end-memchr c.args.bytes.now None c.in-None.ensures in
    sym (take_all (position_or_len is_lf c.args.bytes.now) c.args.bytes.now (omega (arith, none)))

pub returns-in-None-clause-is_ended : goal.returns-in-None-clause-is_ended
returns-in-None-clause-is_ended c =
    let none = line_end-memchr c.args.bytes.now None c.in-None.ensures in
    (λ h. cc, λ lt. absurd (omega (arith, none)))

-- A line, byte by byte.
use Rattle.uca_certificates.proofs.LineLaws.{run_line_is}
use Rattle.uca_certificates.proofs.spelling.run_line.Goals as goal

pub returns : goal.returns
returns c = run_line_is c.args.level c.args.run _ _ _ _ c.level_digit-level.ensures c.four_digits.ensures c.four_digits-2.ensures c.four_digits-3.ensures

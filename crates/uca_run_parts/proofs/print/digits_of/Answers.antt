use Rattle.std.proofs.Common.{◌≡◌, [], map, get_or, refl, ap, ◌∙◌, arith}
use Rattle.std.proofs.lemmas.List.FromFn.{get_or-map-range_with_len}
use Rattle.std.specs.List.{range_with_len}
use Rattle.uca_run_parts.specs.Print.{byte_digits}
use Rattle.uca_run_parts.specs.declared.print.TheConstants.{PAIRS}
use Rattle.uca_run_parts.proofs.print.digits_of.Goals as goal

-- the table has the digits of each byte
table_is : PAIRS ≡ map byte_digits (range_with_len 0 256)
table_is = refl

pub returns : goal.returns
returns c = ap (λ t. get_or t c.args.byte []) table_is ∙ get_or-map-range_with_len byte_digits 0 256 c.args.byte c.args.byte [] (omega arith) (omega arith)

use Rattle.std.proofs.Common.{◌+◌, ◌*◌, arith}
use Rattle.uca_compact.proofs.Forms.{cases_fit}
use Rattle.uca_compact.proofs.book_forms.cases_form.Goals as goal

pub returns-clause-is : goal.returns-clause-is
returns-clause-is c = cases_fit (2 * c.args.later + 1) (omega (arith, c.requires))

-- What follows the ends begins with `;`.
use Rattle.std.proofs.Common.{refl, sym, ap, ◌∙◌}
use Rattle.uca_lines.specs.Fields.{trim}
use Rattle.uca_lines.specs.Numbers.{weight_of}
use Rattle.uca_lines.specs.CodePointRanges.{range_of}
use Rattle.uca_table.proofs.RowLaws.{after_semicolon}
use Rattle.uca_table.proofs.headers.read_range.Goals as goal

pub returns-in_default-weight-clause-fault : goal.returns-in_default-weight-clause-fault
returns-in_default-weight-clause-fault c = (
  c.in-Some.back.now,
  after_semicolon c.args.text.now _ _ _ c.cut_at.ensures.back c.in-Some.ensures.cases.0,
  (let ends = ap range_of (ap trim (sym c.cut_at.ensures.front) ∙ sym c.trim.ensures) ∙ sym c.in-Ok.ensures in rw ends refl),
  ap weight_of (sym c.trim-2.ensures)
      ∙ sym c.in_default-weight.ensures,
)

pub returns-clause-found : goal.returns-clause-found
returns-clause-found c = record {
  rest = c.in-Some.back.now;
  cut = after_semicolon c.args.text.now _ _ _ c.cut_at.ensures.back c.in-Some.ensures.cases.0;
  ends = ap range_of (ap trim (sym c.cut_at.ensures.front) ∙ sym c.trim.ensures) ∙ sym c.in-Ok.ensures;
  lead = ap weight_of (sym c.trim-2.ensures) ∙ sym c.in-Some-weight.ensures;
}

use Rattle.std.proofs.Common.{sym, ◌∙◌, ap, arith}
use Rattle.uca_values.specs.Implicit.{base_of, lead_of}
use Rattle.uca_values.proofs.Leads.{base_at_most, near_base}
use Rattle.uca_values.proofs.tables.Header.implicit.Goals as goal

pub overflow_sub-point : goal.overflow_sub-point
overflow_sub-point g c = omega (arith, c.base.ensures, base_at_most c.deref-in-Some.result.now c.in-Some.lead c.args.point)

pub pair-requires : goal.pair-requires
pair-requires g c =
    let xs = c.self.inside.ranges.items in
    let found = ap (λ rs. lead_of rs c.args.point) (sym c.deref.ensures.value) ∙ sym c.lead.ensures ∙ c.in-Some.is in
    let near = near_base xs c.self.invariant.ranges c.in-Some.lead c.args.point found in
    let same = ap (λ rs. base_of rs c.in-Some.lead c.args.point) c.deref-in-Some.ensures.value in
    omega (arith, c.base.ensures, near, same)

use Rattle.std.proofs.Common.{ℕ, ◌+◌, ◌*◌, ◌<◌, ◌^◌, ap₂, subst, arith}
use Rattle.uca_lanes.proofs.CodePoints.{falls_all}
use Rattle.uca_lanes.proofs.Ends.{two_judged}
use Rattle.uca_lanes.proofs.narrow_texts.are_narrow.Goals as goal

pub overflow_sub-others : goal.overflow_sub-others
overflow_sub-others c =
    omega (arith, c.marks_of_two-starts.ensures, c.marks_of_two.ensures, falls_all 0x80 0xc0 c.args.one (omega arith), falls_all 0x80 0xc0 c.args.other (omega arith))

pub returns : goal.returns
returns c =
    let leads = c.mask_of_leads in
    let leads_too = c.mask_of_leads-2 in
    two_judged c.args.one c.args.other c.marks_of_two-starts.result (leads.result + leads_too.result * 4294967296) c.marks_of_two.result c.fits-one.0 c.fits-other.0
    c.marks_of_two-starts.ensures (ap₂ (λ (m n : ℕ). m + n * 4294967296) leads.ensures.mask leads_too.ensures.mask)
    (subst (λ (n : ℕ). n < 2 ^ 16) leads.ensures.mask leads.ensures.bound) (subst (λ (n : ℕ). n < 2 ^ 16) leads_too.ensures.mask leads_too.ensures.bound)
    c.marks_of_two.ensures

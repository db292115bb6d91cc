-- What is made is a plan, and so it is accepted; and where none is made, there is a cause.
use Rattle.uca_values.specs.Content.{properties_of}
use Rattle.uca_tailor.proofs.PlanAudits.{answer_accepted, answer_faithful, answer_refused}
use Rattle.uca_tailor.proofs.tailoring.tailor.Goals as goal

pub returns-clause-accepted : goal.returns-clause-accepted
returns-clause-accepted g c =
    answer_accepted c.args.base.now (properties_of c.args.properties.now) c.args.rules.now (c.is_well_formed.ensures.0 c.if-not-is_well_formed.false)
    c.plan.result c.plan.ensures.made (c.plans_need_no_audit.ensures (properties_of c.args.properties.now))

pub returns-clause-faithful : goal.returns-clause-faithful
returns-clause-faithful g c =
    answer_faithful c.args.base.now (properties_of c.args.properties.now) c.args.rules.now (c.is_well_formed.ensures.0 c.if-not-is_well_formed.false)
    c.plan.result c.plan.ensures.made (c.plans_need_no_audit.ensures (properties_of c.args.properties.now))

pub returns-clause-refused : goal.returns-clause-refused
returns-clause-refused g c =
    answer_refused c.args.base.now (properties_of c.args.properties.now) c.args.rules.now (c.is_well_formed.ensures.0 c.if-not-is_well_formed.false)
    c.plan.result c.plan.ensures.not_made

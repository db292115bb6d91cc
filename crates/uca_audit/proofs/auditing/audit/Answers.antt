-- Where all conditions are met, their meaning holds.
use Rattle.uca_values.specs.Content.{properties_of}
use Rattle.uca_tailorings.specs.Inputs.{tailoring_of}
use Rattle.uca_audit.proofs.Chaining.{meets_all}
use Rattle.uca_audit.proofs.auditing.audit.Goals as goal

pub meaning-requires : goal.meaning-requires
meaning-requires g c =
    meets_all (tailoring_of c.args.base.now (properties_of c.args.properties.now) c.args.rules.now c.args.tailored.now c.args.certificate.now) c.in_ok-audit_inputs.ensures

pub returns-clause-accepted : goal.returns-clause-accepted
returns-clause-accepted g c =
    meets_all (tailoring_of c.args.base.now (properties_of c.args.properties.now) c.args.rules.now c.args.tailored.now c.args.certificate.now) c.in_ok-audit_inputs.ensures

pub returns-clause-faithful : goal.returns-clause-faithful
returns-clause-faithful g c = c.meaning.ensures

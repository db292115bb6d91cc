-- A wrong bracket, and an anchor or what is wrong with it.
use Rattle.std.proofs.Common.{length, subst, sym, inr}
use Rattle.std.proofs.lemmas.Result.{err_from_is_err_and}
use Rattle.uca_rules.specs.declared.faults.RuleFaultKind.{RuleFaultKind}
use Rattle.uca_rules.specs.Faults.{StatementCause}
use Rattle.uca_rules.specs.inside.Reading
use Rattle.uca_rules.specs.inside.Reading.{properties_in, state_of}
use Rattle.uca_rules.proofs.StatementSteps.{reset_fault, reset_goes_on}
use Rattle.uca_rules.proofs.reader.Reader.read_reset.Goals as goal

pub returns-in-Err-clause-fault : goal.returns-in-Err-clause-fault
returns-in-Err-clause-fault g c =
    let old = c.args.self.now in
    reset_fault (properties_in old.texts) old.texts.end (state_of old) c.args.characters.now c.in_ok-asked.text.now c.in_ok-asked.asked c.in-Err.fault
    c.in_ok-asked.ensures.found c.requires.follows c.in-Err.ensures.fault

pub returns-in-Ok-clause-found : goal.returns-in-Ok-clause-found
returns-in-Ok-clause-found g c =
    let anchor = c.in-Ok.ensures.found in
    reset_goes_on c.args.self.now c.read_plain.new.self c.args.characters.now c.in_ok-asked.text.now c.in-Ok.rest.now c.in_ok-asked.asked c.is_some-self.result anchor.0 c.in-Ok.anchor
    c.is_some-self.ensures c.requires.ready.growing c.in-Ok.ensures.kept c.in_ok-asked.ensures.found c.requires.follows anchor.1 anchor.2

pub returns-in_err-asked-clause-fault : goal.returns-in_err-asked-clause-fault
returns-in_err-asked-clause-fault g c =
    let p = err_from_is_err_and c.from_residual.result c.from_residual.ensures.1 in
    let old = c.args.self.now in
    let fault = c.in_err-asked.ensures.fault in
    rw (p.1, p.2) (Reading.IsNextFault.At_statement
    (subst
    (λ (kind : RuleFaultKind).
    StatementCause old.texts.end old.last (length old.rules.relations.items) c.args.characters.now c.in_err-asked.field-0.0.byte kind)
    (sym fault.0) (inr (c.requires.follows, fault.1))))

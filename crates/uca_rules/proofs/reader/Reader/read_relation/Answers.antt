use Rattle.std.proofs.Common.{◌≡◌, ◌<◌, ◌≤◌, ℕ, true, false, length, refl, subst, ◌∙◌, arith}
use Rattle.std.proofs.lemmas.Result.{err_from_is_err_and, IfErr-weaker, IfOk-weaker}
use Rattle.uca_rules.specs.declared.signs.Preceding.TheVariants as lasts
use Rattle.uca_rules.specs.Statements.{IsTargetDue}
use Rattle.uca_rules.specs.inside.Reading
use Rattle.uca_rules.specs.Faults.{StatementCause}
use Rattle.uca_rules.specs.inside.Reading.{properties_in, state_of}
use Rattle.uca_rules.proofs.StatementSteps.{plain_next_fault, starred_next_fault, plain_goes_on, starred_goes_on, target_due, with_last}
use Rattle.uca_rules.proofs.reader.Reader.read_relation.Goals as goal

pub returns-in_err-sign-clause-fault : goal.returns-in_err-sign-clause-fault
returns-in_err-sign-clause-fault g c =
    let p = err_from_is_err_and c.from_residual.result c.from_residual.ensures.1 in
    let old = c.args.self.now in
    rw (p.1, p.2) (Reading.IsNextFault.At_statement
    (subst (λ (n : ℕ). StatementCause old.texts.end old.last n c.args.characters.now c.in_err-sign.field-0.0.byte c.in_err-sign.field-0.0.kind) c.count.ensures
    (c.in_err-sign.ensures.fault old.texts.end)))

pub returns-then-sign-clause-fault : goal.returns-then-sign-clause-fault
returns-then-sign-clause-fault g c =
    let old = c.args.self.now in
    let sign = c.in_ok-sign.sign in
    let found = c.in_ok-sign.ensures.found in
    let most : length old.rules.relations.items ≤ 5000 = c.requires.ready.growing.rules.few in
    let other : length old.rules.relations.items ≡ 5000 → ⊥ = λ e. found.2 (c.count.ensures ∙ e) in
    let few : length old.rules.relations.items < 5000 = omega arith in
    let due = target_due c.args.characters.now sign.strength sign.starred true sign.rest.now c.after_gaps-text.result.now found.0 c.if-sign.true c.after_gaps-text.ensures in
    IfErr-weaker c.read_starred.result _ _ (λ fault is. starred_next_fault (properties_in old.texts) old.texts.end (state_of (with_last old lasts.Relation)) old.last c.args.characters.now c.after_gaps-text.result.now sign.strength fault
    due found.1 few is) c.read_starred.ensures.fault

pub returns-else-sign-clause-fault : goal.returns-else-sign-clause-fault
returns-else-sign-clause-fault g c =
    let old = c.args.self.now in
    let sign = c.in_ok-sign.sign in
    let found = c.in_ok-sign.ensures.found in
    let due = target_due c.args.characters.now sign.strength sign.starred false sign.rest.now c.after_gaps-text.result.now found.0 c.if-sign.false c.after_gaps-text.ensures in
    IfErr-weaker c.read_target.result _ _ (λ fault is. plain_next_fault (properties_in old.texts) old.texts.end (state_of (with_last old lasts.Relation)) old.last c.args.characters.now c.after_gaps-text.result.now sign.strength fault
    due found.1 is) c.read_target.ensures.fault

pub returns-then-sign-clause-found : goal.returns-then-sign-clause-found
returns-then-sign-clause-found g c =
    let old = c.args.self.now in
    let sign = c.in_ok-sign.sign in
    let found = c.in_ok-sign.ensures.found in
    let due : IsTargetDue c.args.characters.now sign.strength true c.after_gaps-text.result.now =
    target_due c.args.characters.now sign.strength sign.starred true sign.rest.now c.after_gaps-text.result.now found.0 c.if-sign.true c.after_gaps-text.ensures in
    IfOk-weaker c.read_starred.result _ _ (λ rest is. starred_goes_on (with_last old lasts.Relation) c.read_starred.new.self old.last sign.strength c.args.characters.now c.after_gaps-text.result.now rest.now due found.1 refl is) c.read_starred.ensures.found

pub returns-else-sign-clause-found : goal.returns-else-sign-clause-found
returns-else-sign-clause-found g c =
    let old = c.args.self.now in
    let sign = c.in_ok-sign.sign in
    let found = c.in_ok-sign.ensures.found in
    let due : IsTargetDue c.args.characters.now sign.strength false c.after_gaps-text.result.now =
    target_due c.args.characters.now sign.strength sign.starred false sign.rest.now c.after_gaps-text.result.now found.0 c.if-sign.false c.after_gaps-text.ensures in
    IfOk-weaker c.read_target.result _ _ (λ rest is. plain_goes_on (with_last old lasts.Relation) c.read_target.new.self old.last sign.strength c.args.characters.now c.after_gaps-text.result.now rest.now due found.1 refl is) c.read_target.ensures.found

pub read_starred-requires-clause-ready : goal.read_starred-requires-clause-ready
read_starred-requires-clause-ready g c = record { growing = c.requires.ready.growing; anchored = λ _. c.requires.ready.anchored c.requires.after }

pub read_target-requires-clause-ready : goal.read_target-requires-clause-ready
read_target-requires-clause-ready g c = record { growing = c.requires.ready.growing; anchored = λ _. c.requires.ready.anchored c.requires.after }

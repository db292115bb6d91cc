-- Each element is one more after those before it, and where none is read the rest begins with none.
use Rattle.std.proofs.Common.{[], ◌∷◌, length, length-append, arith, sym, ◌∙◌, ap, inl, inr}
use Rattle.std.proofs.lemmas.Result.{err_from_is_err_and}
use borrow.Author.Tests.{eqb-true}
use Rattle.uca_lines.proofs.FieldLemmas.{length-skip_blanks}
use Rattle.uca_lines.proofs.LeadLemmas.{leads_more}
use Rattle.uca_table.specs.Elements.{BeginsElement}
use Rattle.uca_table.proofs.ElementLaws.{element_takes, after_element, line_cause, weight_cause, limit_cause, none_cause, all_elements, some_of_test}
use Rattle.uca_table.proofs.elements.read_elements.Goals as goal

pub returns-in_default-clause-fault : goal.returns-in_default-clause-fault
returns-in_default-clause-fault g c =
    inr (weight_cause c.args.text.now c.loop-rest.elements.items c.loop-rest.rest.now c.loop-rest.invariant.leads
    (sym c.opens.ensures ∙ c.if-not-opens.false) c.in_default.ensures c.loop-rest.invariant.few)

pub returns-then-len-eq-MOST_ELEMENTS-clause-fault : goal.returns-then-len-eq-MOST_ELEMENTS-clause-fault
returns-then-len-eq-MOST_ELEMENTS-clause-fault g c =
    let begins = element_takes c.loop-rest.rest.now c.in-Some.found.0 c.in-Some.found.1.now (sym c.in-Some.ensures) in
    inr (limit_cause c.args.text.now c.loop-rest.elements.items c.loop-rest.rest.now c.in-Some.found.0 c.in-Some.found.1.now
    c.loop-rest.invariant.leads (omega arith) begins)

pub loop-rest-smaller : goal.loop-rest-smaller
loop-rest-smaller g c =
    let begins = element_takes c.loop-rest.rest.now c.in-Some.found.0 c.in-Some.found.1.now (sym c.in-Some.ensures) in
    omega (arith, ap length c.skip_blanks-rest-in-loop-rest.ensures, length-skip_blanks c.in-Some.found.1.now, after_element _ _ _ begins)

pub loop-rest-preserved : goal.loop-rest-preserved
loop-rest-preserved g c =
    let begins = element_takes c.loop-rest.rest.now c.in-Some.found.0 c.in-Some.found.1.now (sym c.in-Some.ensures) in
    let items = c.in_ok-push.ensures.items in
    record {
      leads = leads_more BeginsElement c.args.text.now _ _ _ _ _ _ c.loop-rest.invariant.leads begins items c.skip_blanks-rest-in-loop-rest.ensures;
      few = omega (arith, ap length items, length-append c.loop-rest.elements.items (c.in-Some.found.0 ∷ []));
    }

pub returns-then-not-opens-clause-fault : goal.returns-then-not-opens-clause-fault
returns-then-not-opens-clause-fault g c =
    inr (line_cause c.args.text.now c.loop-rest.elements.items c.loop-rest.rest.now c.loop-rest.invariant.leads c.loop-rest-test.ensures
    (sym c.opens.ensures ∙ c.if-not-opens.true) c.loop-rest.invariant.few)

pub returns-in_err-push-clause-fault : goal.returns-in_err-push-clause-fault
returns-in_err-push-clause-fault g c = let p = err_from_is_err_and c.from_residual.result c.from_residual.ensures.1 in rw p.1 (inl p.2)

pub returns-then-is_empty-clause-fault : goal.returns-then-is_empty-clause-fault
returns-then-is_empty-clause-fault g c =
    inr (none_cause c.args.text.now c.loop-rest.elements.items c.loop-rest.rest.now c.loop-rest.invariant.leads (sym c.loop-rest-test.ensures)
    (omega (arith, eqb-true _ 0 (sym c.if-is_empty.ensures), c.loop-rest.elements.ok.0)))

pub returns-clause-found : goal.returns-clause-found
returns-clause-found g c =
    all_elements c.args.text.now c.loop-rest.elements.items c.loop-rest.rest.now c.loop-rest.invariant.leads c.loop-rest.invariant.few
    (sym c.loop-rest-test.ensures)
    (omega (arith, some_of_test _ (sym c.if-is_empty.ensures), c.loop-rest.elements.ok.0))

-- Each code point is one more after those before it.
use Rattle.std.proofs.Common.{[], ◌∷◌, length, length-append, arith, ap, inl, inr, sym, ◌∙◌}
use Rattle.std.proofs.lemmas.Result.{err_from_is_err_and}
use borrow.Author.Tests.{eqb-true}
use Rattle.uca_lines.specs.Numbers.{code_point_of}
use Rattle.uca_lines.specs.Leads.{BeginsCodePoint}
use Rattle.uca_lines.proofs.FieldLemmas.{length-skip_blanks}
use Rattle.uca_lines.proofs.LeadLemmas.{leads_more}
use Rattle.uca_table.proofs.KeyLaws.{code_point_begins, after_code_point, key_limit_cause, no_key_cause, whole_key}
use Rattle.uca_table.proofs.DataWords.{some_from_test}
use Rattle.uca_table.proofs.ElementLaws.{some_of_test}
use Rattle.uca_table.proofs.rows.read_key.Goals as goal

pub returns-then-len-eq-MOST_CODE_POINTS-clause-fault : goal.returns-then-len-eq-MOST_CODE_POINTS-clause-fault
returns-then-len-eq-MOST_CODE_POINTS-clause-fault g c =
    let begins = code_point_begins c.loop-rest.rest.now _ c.in-Some.point _ c.in-Some.ensures c.cut_word.ensures.word c.cut_word.ensures.rest in
    inr (key_limit_cause c.args.text.now c.loop-rest.key.items c.loop-rest.rest.now _ _ c.loop-rest.invariant.leads (omega arith) begins)

pub loop-rest-smaller : goal.loop-rest-smaller
loop-rest-smaller g c =
    let begins = code_point_begins c.loop-rest.rest.now _ c.in-Some.point _ c.in-Some.ensures c.cut_word.ensures.word c.cut_word.ensures.rest in
    omega (arith, ap length c.skip_blanks-rest-in-loop-rest.ensures, length-skip_blanks c.cut_word.result.1.now, after_code_point _ _ _ begins)

pub loop-rest-preserved : goal.loop-rest-preserved
loop-rest-preserved g c =
    let begins = code_point_begins c.loop-rest.rest.now _ c.in-Some.point _ c.in-Some.ensures c.cut_word.ensures.word c.cut_word.ensures.rest in
    let items = c.in_ok-push.ensures.items in
    record {
      leads = leads_more BeginsCodePoint c.args.text.now _ _ _ _ _ _ c.loop-rest.invariant.leads begins items c.skip_blanks-rest-in-loop-rest.ensures;
      few = omega (arith, ap length items, length-append c.loop-rest.key.items (c.in-Some.point ∷ []));
    }

pub returns-in_err-push-clause-fault : goal.returns-in_err-push-clause-fault
returns-in_err-push-clause-fault g c = let p = err_from_is_err_and c.from_residual.result c.from_residual.ensures.1 in rw p.1 (inl p.2)

pub returns-in_default-clause-fault : goal.returns-in_default-clause-fault
returns-in_default-clause-fault g c =
    let rest = c.loop-rest.rest.now in
    inr (
      c.loop-rest.key.items,
      rest,
      c.loop-rest.invariant.leads,
      some_from_test rest _ c.is_empty.ensures c.loop-rest-test.true,
      sym (c.in_default.ensures ∙ ap code_point_of c.cut_word.ensures.word),
      c.loop-rest.invariant.few,
    )

pub returns-then-is_empty-clause-fault : goal.returns-then-is_empty-clause-fault
returns-then-is_empty-clause-fault g c =
    inr (no_key_cause c.args.text.now c.loop-rest.key.items c.loop-rest.rest.now c.loop-rest.invariant.leads (sym c.loop-rest-test.ensures)
    (omega (arith, eqb-true _ 0 (sym c.if-is_empty.ensures), c.loop-rest.key.ok.0)))

pub returns-clause-found : goal.returns-clause-found
returns-clause-found g c =
    whole_key c.args.text.now c.loop-rest.key.items c.loop-rest.rest.now c.loop-rest.invariant.leads c.loop-rest.invariant.few
    (sym c.loop-rest-test.ensures)
    (omega (arith, some_of_test _ (sym c.if-is_empty.ensures), c.loop-rest.key.ok.0))

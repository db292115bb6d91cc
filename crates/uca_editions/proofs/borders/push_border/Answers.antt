use Rattle.std.proofs.Common.{◌+◌, Contains, ap, subst, ◌∙◌, arith}
use Rattle.std.proofs.lemmas.Grind.{common_steps}
use Rattle.std.proofs.lemmas.Result.{on_ok_weaker}
use Rattle.uca_editions.proofs.borders.push_border.Goals as goal

pub returns-in-Some-clause-kept : goal.returns-in-Some-clause-kept
returns-in-Some-clause-kept g c =
    on_ok_weaker c.push_point-in-Some.result (λ kept point h. kept point (c.in_ok-push_point.ensures.kept point h)) c.push_point-in-Some.ensures.kept

pub returns-in-Some-clause-first : goal.returns-in-Some-clause-first
returns-in-Some-clause-first g c =
    on_ok_weaker c.push_point-in-Some.result (λ kept. kept c.args.first c.in_ok-push_point.ensures.added) c.push_point-in-Some.ensures.kept

pub returns-in-Some-clause-after : goal.returns-in-Some-clause-after
returns-in-Some-clause-after g c =
    on_ok_weaker c.push_point-in-Some.result
    (λ there scalar. subst (Contains c.push_point-in-Some.new.list.items) (c.in-Some.ensures.value.1 ∙ ap (λ n. n + 1) c.from.ensures) there)
    c.push_point-in-Some.ensures.added

pub overflow_add-from : goal.overflow_add-from
overflow_add-from g c = grind (arith, common_steps)

pub returns-in-None-clause-after : goal.returns-in-None-clause-after
returns-in-None-clause-after g c = grind (arith, common_steps)

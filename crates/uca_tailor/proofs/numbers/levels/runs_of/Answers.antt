-- The runs with one member more, and at the end.
use Rattle.std.proofs.Common.{◌≡◌, ◌-◌, drop, get_or, ap, arith, ◌∙◌}
use Rattle.uca_plans.specs.declared.drafts.DraftWeight.TheVariants.{Base}
use Rattle.uca_plans.specs.Plans.{run_before, runs_of}
use Rattle.uca_tailor.proofs.NumberLemmas.RunLaws.{one_zero, one_base, one_new}
use Rattle.uca_tailor.proofs.numbers.levels.runs_of.Goals as goal

pub loop-left-preserved-else-weight-gt0 : goal.loop-left-preserved-else-weight-gt0
loop-left-preserved-else-weight-gt0 g c = record {
  within = omega arith;
  runs = c.loop-left.invariant.runs ∙ one_zero c.args.members.now c.args.numbers.now (c.loop-left.left - 1) c.loop-left.left c.in-Base.weight (Base 0)
      (omega arith) (omega arith) c.requires c.in-Base.is (omega arith);
  low = c.loop-left.invariant.low;
}

pub loop-left-preserved : goal.loop-left-preserved
loop-left-preserved g c = record {
  within = omega arith;
  runs = c.loop-left.invariant.runs ∙ one_new c.args.members.now c.args.numbers.now (c.loop-left.left - 1) c.loop-left.left c.in_default.field-0 (Base 0)
      (omega arith) (omega arith) c.requires c.in_default.is;
  low = c.loop-left.invariant.low;
}

pub loop-left-preserved-in-Continue-1 : goal.loop-left-preserved-in-Continue-1
loop-left-preserved-in-Continue-1 g c = record {
  within = omega arith;
  runs = c.in_ok-put_before.ensures.runs ∙ ap (run_before c.in-Base.weight (get_or c.args.numbers.now (c.loop-left.left - 1) 0)) c.loop-left.invariant.runs
      ∙ one_base c.args.members.now c.args.numbers.now (c.loop-left.left - 1) c.loop-left.left c.in-Base.weight (Base 0)
      (omega arith) (omega arith) c.requires c.in-Base.is c.if-weight-gt0.true;
  low = c.in_ok-put_before.ensures.low;
}

pub returns : goal.returns
returns g c =
    let none : c.loop-left.left ≡ 0 = omega arith in
    c.reverse.ensures.items ∙ c.loop-left.invariant.runs ∙ ap (λ n. runs_of (drop n c.args.members.now) (drop n c.args.numbers.now)) none

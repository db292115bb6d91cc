-- The tables with one member more.
use Rattle.std.proofs.Common.{◌-◌, sym, ap, ◌∙◌, arith}
use Rattle.uca_plans.specs.declared.drafts.DraftWeight.TheVariants.{Base}
use Rattle.uca_tailor.proofs.NumberLemmas.TableLaws.{base_more, new_more, named_at}
use Rattle.uca_tailor.proofs.numbers.levels.fill_tables.Goals as goal

pub bounds-by_base-from : goal.bounds-by_base-from
bounds-by_base-from c = omega arith

pub loop-left-preserved-in-Base : goal.loop-left-preserved-in-Base
loop-left-preserved-in-Base c = record {
  within = omega arith;
  tables = base_more c.args.members.now c.args.numbers.now c.loop-left.by_base c.loop-left.by_new (c.loop-left.left - 1) c.loop-left.left
      c.from.result (Base 0) (omega arith) (omega arith) c.requires.same (c.in-Base.is ∙ ap Base (sym c.from.ensures)) (omega arith) c.loop-left.invariant.tables;
}

pub bounds-by_new-relation : goal.bounds-by_new-relation
bounds-by_new-relation c =
    omega (arith, named_at _ c.args.members.now (c.loop-left.left - 1) c.in-New.relation (Base 0) c.requires.names (omega arith) c.in-New.is)

pub loop-left-preserved : goal.loop-left-preserved
loop-left-preserved c = record {
  within = omega arith;
  tables = new_more c.args.members.now c.args.numbers.now c.loop-left.by_base c.loop-left.by_new (c.loop-left.left - 1) c.loop-left.left
      c.in-New.relation (Base 0) (omega arith) (omega arith) c.requires.same c.in-New.is (bounds-by_new-relation c) c.loop-left.invariant.tables;
}

use Rattle.std.proofs.Common.{length, Some, None, subst}
use Rattle.uca_compact.specs.Programs.{form_of}
use Rattle.uca_compact.specs.inside.LevelSteps.{LeavesLess, level_of_end}
use Rattle.uca_compact.specs.declared.level_reader.Step.{Step}
use Rattle.uca_compact.specs.declared.level_reader.Step.TheVariants.{More, End, Nothing}
use Rattle.uca_compact.proofs.LevelSteps.{begun, step_known, gone_on, read_out}
use Rattle.uca_compact.proofs.level_reader.read_level.Goals as goal

pub loop-after-init : goal.loop-after-init
loop-after-init g c = begun (form_of c.args.form.now) c.args.bytes.now c.clear.new.self.items c.clear.ensures.items

pub loop-after-preserved : goal.loop-after-preserved
loop-after-preserved g c =
    let f = form_of c.args.form.now in
    let ws = c.loop-after.weights.items in
    let rest = c.loop-after.rest.now in
    let new = c.read_step.new.weights.items in
    gone_on f c.args.bytes.now ws rest new c.in-More.after.now c.loop-after.invariant
    (subst (λ (s : Step). LeavesLess s (length rest)) c.in-More.is c.in_ok-after.ensures.less)
    (step_known f ws new rest _ (More c.in-More.after) c.in-More.is c.in_ok-after.ensures.read)

pub loop-after-smaller : goal.loop-after-smaller
loop-after-smaller g c = subst (λ (s : Step). LeavesLess s (length c.loop-after.rest.now)) c.in-More.is c.in_ok-after.ensures.less

pub returns-in-End : goal.returns-in-End
returns-in-End g c =
    let f = form_of c.args.form.now in
    let ws = c.loop-after.weights.items in
    let rest = c.loop-after.rest.now in
    let new = c.read_step.new.weights.items in
    read_out f c.args.bytes.now ws rest (level_of_end (Some c.in-End.level) new) c.loop-after.invariant
    (step_known f ws new rest _ (End c.in-End.level) c.in-End.is c.in_ok-after.ensures.read)

pub returns-in-Nothing : goal.returns-in-Nothing
returns-in-Nothing g c =
    let f = form_of c.args.form.now in
    let ws = c.loop-after.weights.items in
    let rest = c.loop-after.rest.now in
    let new = c.read_step.new.weights.items in
    read_out f c.args.bytes.now ws rest (level_of_end None new) c.loop-after.invariant
    (step_known f ws new rest _ Nothing c.in-Nothing.is c.in_ok-after.ensures.read)

use Rattle.std.proofs.Common.{List, length, ℕ, ◌<◌, refl, subst, sym}
use Rattle.std.proofs.lemmas.Result.{err_from_is_err_and}
use Rattle.uca_rules.specs.Characters.{after_gaps}
use Rattle.uca_rules.specs.declared.characters.Character.{Character}
use Rattle.uca_rules.specs.declared.faults.RuleFaultKind.TheVariants as kinds
use Rattle.uca_rules.specs.declared.signs.Preceding.{Preceding}
use Rattle.uca_rules.specs.Statements.{MayEnd}
use Rattle.uca_rules.specs.inside.Reading.{IsReadingFault, State, properties_in, state_of}
use Rattle.uca_rules.proofs.Progress.{HasRead, ends_after_reset, fault_after, fewer_left, keeps_both, kept_fault, kept_next, may_end, none_left, reading_starts, reads_all, reads_more}
use Rattle.uca_rules.proofs.reader.Reader.read_statements.Goals as goal

pub returns-in_err-read_statement-clause-fault : goal.returns-in_err-read_statement-clause-fault
returns-in_err-read_statement-clause-fault g c =
    let p = err_from_is_err_and c.from_residual.result c.from_residual.ensures.1 in
    let old = c.args.self.now in
    let here = c.loop-rest.self in
    rw (p.1, p.2) (fault_after (properties_in old.texts) old.texts.end c.args.characters.now c.loop-rest.rest.now (state_of here) c.in_err-read_statement.field-0.0
    c.loop-rest.invariant.2 (kept_fault old.texts here.texts (state_of here) c.loop-rest.rest.now c.in_err-read_statement.field-0.0 c.loop-rest.invariant.1 c.in_err-read_statement.ensures.fault))

pub loop-rest-smaller : goal.loop-rest-smaller
loop-rest-smaller g c =
    let here = c.loop-rest.self in
    let new = c.read_statement.new.self in
    let next = c.in_ok-read_statement.ensures.found.next in
    let after : List Character = c.in_ok-read_statement.field-0.now in
    subst (λ (l : List Character). length l < length c.loop-rest.rest.now) (sym c.after_gaps-rest-in-loop-rest.ensures)
    (fewer_left (properties_in here.texts) (state_of here) (state_of new) c.loop-rest.rest.now after next)

pub loop-rest-preserved : goal.loop-rest-preserved
loop-rest-preserved g c =
    let old = c.args.self.now in
    let here = c.loop-rest.self in
    let new = c.read_statement.new.self in
    let goes = c.in_ok-read_statement.ensures.found in
    let after : List Character = c.in_ok-read_statement.field-0.now in
    let read : HasRead (properties_in old.texts) c.args.characters.now (state_of new) (after_gaps after) =
    reads_more (properties_in old.texts) c.args.characters.now c.loop-rest.rest.now after (state_of here) (state_of new) c.loop-rest.invariant.2
    (kept_next old.texts here.texts (state_of here) (state_of new) c.loop-rest.rest.now after c.loop-rest.invariant.1 goes.next) in (
      goes.ready,
      keeps_both old.texts here.texts new.texts c.loop-rest.invariant.1 goes.kept,
      subst (λ (l : List Character). HasRead (properties_in old.texts) c.args.characters.now (state_of new) l) (sym c.after_gaps-rest-in-loop-rest.ensures) read,
    )

pub loop-rest-init : goal.loop-rest-init
loop-rest-init g c =
    let old = c.args.self.now in
    let cs = c.args.characters.now in (
      c.requires.ready,
      record { properties = refl; end = refl },
      subst (λ (l : List Character). HasRead (properties_in old.texts) cs (state_of old) l) (sym c.after_gaps-rest.ensures)
          (subst (λ (s : State). HasRead (properties_in old.texts) cs s (after_gaps cs)) (sym c.requires.start) (reading_starts (properties_in old.texts) cs)),
    )

pub returns-in-Reset-clause-fault : goal.returns-in-Reset-clause-fault
returns-in-Reset-clause-fault g c =
    let old = c.args.self.now in
    let here = c.loop-rest.self in
    let cs = c.args.characters.now in
    let read = subst (λ (l : List Character). HasRead (properties_in old.texts) cs (state_of here) l) (none_left c.loop-rest.rest.now c.loop-rest-test.ensures) c.loop-rest.invariant.2 in
    subst (λ (n : ℕ). IsReadingFault (properties_in old.texts) old.texts.end cs (record { byte = n; kind = kinds.Syntax })) (sym c.loop-rest.invariant.1.end)
    (ends_after_reset (properties_in old.texts) old.texts.end cs (state_of here) read (λ ended. subst (λ (l : Preceding). MayEnd l) c.in-Reset.is ended))

pub returns : goal.returns
returns g c =
    let old = c.args.self.now in
    let here = c.loop-rest.self in
    let cs = c.args.characters.now in
    let read = subst (λ (l : List Character). HasRead (properties_in old.texts) cs (state_of here) l) (none_left c.loop-rest.rest.now c.loop-rest-test.ensures) c.loop-rest.invariant.2 in
    record {
      ready = c.loop-rest.invariant.0;
      found = reads_all (properties_in old.texts) cs (state_of here) read (may_end here.last c.in_default.not-Reset);
      fault = tt;
    }

use Rattle.std.proofs.Common.{refl, ap, subst, ◌∙◌}
use Rattle.std.specs.Char.{IsScalar}
use Rattle.std.specs.List.{AllByRecursion}
use Rattle.uca_lines.specs.Lines.{ended}
use Rattle.uca_lines.proofs.BufferedLemmas.{written_none, part_fits, part_written, returns_fault, all_parts_written}
use Rattle.uca_change_files.specs.ChangeTexts.{text_line}
use Rattle.uca_change_files.specs.Steps.{text_lines}
use Rattle.uca_change_files.proofs.WriteLaws.{each_taken, all_taken}
use Rattle.uca_change_files.proofs.write.write_texts.Goals as goal

pub loop-text-init : goal.loop-text-init
unfolding text_lines
loop-text-init g c = record { written = written_none c.args.buffer.now c.args.out.now; scalars = tt }

pub write_text-requires : goal.write_text-requires
unfolding text_lines
write_text-requires g c = part_fits (λ x. ended (text_line x)) c.args.texts.now c.loop-text.text-index c.text-item.result _ _ refl
    (ap (λ x. ended (text_line x)) (c.deref.ensures.value ∙ c.text.view_is ∙ c.text-item.is)) c.loop-text-test.true c.loop-text.invariant.written c.requires

pub loop-text-preserved : goal.loop-text-preserved
unfolding text_lines
loop-text-preserved g c = record {
  written = part_written (λ x. ended (text_line x)) c.args.texts.now c.loop-text.text-index c.text-item.result
      (ap (λ x. ended (text_line x)) (c.deref.ensures.value ∙ c.text.view_is ∙ c.text-item.is)) c.loop-text-test.true c.loop-text.invariant.written c.in_ok-write_text.ensures.text;
  scalars = each_taken (AllByRecursion IsScalar) c.args.texts.now c.loop-text.text-index c.text-item.result c.loop-text.invariant.scalars
      c.loop-text-test.true c.text-item.is
      (subst (AllByRecursion IsScalar) (c.deref.ensures.value ∙ c.text.view_is) c.in_ok-write_text.ensures.scalars);
}

pub returns-in_err-write_text-clause-text : goal.returns-in_err-write_text-clause-text
unfolding text_lines
returns-in_err-write_text-clause-text g c = returns_fault (λ x. ended (text_line x)) c.args.texts.now c.loop-text.text-index c.text-item.result _ _ c.from_residual.result refl
    (ap (λ x. ended (text_line x)) (c.deref.ensures.value ∙ c.text.view_is ∙ c.text-item.is)) c.loop-text-test.true c.loop-text.invariant.written c.in_err-write_text.ensures.text c.from_residual.ensures.1

pub returns-clause-text : goal.returns-clause-text
unfolding text_lines
returns-clause-text g c = all_parts_written (λ x. ended (text_line x)) c.args.texts.now c.loop-text.text-index _ refl c.loop-text-test.false c.loop-text.invariant.written

pub returns-clause-scalars : goal.returns-clause-scalars
returns-clause-scalars g c =
    all_taken (AllByRecursion IsScalar) c.args.texts.now c.loop-text.text-index c.loop-text.invariant.scalars c.loop-text-test.false

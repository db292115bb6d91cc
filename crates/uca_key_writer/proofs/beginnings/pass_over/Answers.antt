use Rattle.std.proofs.Common.{refl, sym, ap, subst, ◌∙◌, [], ◌++◌, drop, arith}
use Rattle.std.specs.Str.{IsUtf8}
use Rattle.std.proofs.lemmas.List.{take-append-drop}
use Rattle.std.proofs.lemmas.Str.{IsUtf8-nil, IsUtf8-take}
use Rattle.uca_key_writer.proofs.BeginningSteps.{bytes_passed}
use Rattle.uca_key_writer.proofs.beginnings.pass_over.Goals as goal

pub returns-then-count-gt-LONGEST_DECOMPOSITION-clause-passed : goal.returns-then-count-gt-LONGEST_DECOMPOSITION-clause-passed
returns-then-count-gt-LONGEST_DECOMPOSITION-clause-passed c =
    bytes_passed c.args.text.now [] c.args.text.now c.args.count c.args.count refl IsUtf8-nil (omega arith)

pub returns-clause-passed : goal.returns-clause-passed
returns-clause-passed c =
    let text = c.args.text.now in
    let n = c.floor_char_boundary.result in
    let passed = c.split_at.result.0.now in
    let front = c.split_at.ensures.front in
    bytes_passed text passed c.split_at.result.1.now c.args.count _
    (sym (take-append-drop n text) ∙ ap (λ l. l ++ drop n text) (sym front) ∙ ap (λ l. passed ++ l) (sym c.split_at.ensures.back))
    (subst IsUtf8 (sym front) (IsUtf8-take text n c.utf8.text c.floor_char_boundary.ensures.boundary))
    (omega (arith, c.split_at.ensures.front_len))

use Rattle.std.proofs.Common.{[], ◌∷◌, ◌++◌, refl, ap, sym, ◌∙◌, append_assoc, rules}
use Rattle.std.specs.Str.{chars}
use Rattle.uca_key_writer.proofs.PieceSteps.{seam_shorter, seam_boundary, chars_cut}
use Rattle.uca_key_writer.proofs.stretches.split_bound.Goals as goal

pub loop-point-init : goal.loop-point-init
loop-point-init g c = record { utf8 = search rules; read = ([], refl) }

pub loop-point-preserved : goal.loop-point-preserved
loop-point-preserved g c =
    let so_far = c.loop-point.invariant.read in
    let point = c.in-Some.point in
    record {
      utf8 = search rules;
      read = (
        so_far.0 ++ point ∷ [],
        so_far.1 ∙ ap (λ l. so_far.0 ++ l) c.in-Some.ensures ∙ sym (append_assoc so_far.0 (point ∷ []) (chars c.in-Some.after.now)),
      );
    }

pub loop-point-preserved-then-leaves : goal.loop-point-preserved-then-leaves
loop-point-preserved-then-leaves g c =
    let so_far = c.loop-point.invariant.read in
    let point = c.in-Some.point in
    record {
      utf8 = search rules;
      read = (
        so_far.0 ++ point ∷ [],
        so_far.1 ∙ ap (λ l. so_far.0 ++ l) c.in-Some.ensures ∙ sym (append_assoc so_far.0 (point ∷ []) (chars c.in-Some.after.now)),
      );
    }

pub overflow_sub-text : goal.overflow_sub-text
overflow_sub-text g c =
    let so_far = c.loop-point.invariant in
    seam_shorter c.args.text.now c.loop-point.rest.now so_far.read.0 c.utf8.text so_far.utf8 so_far.read.1

pub split_at-requires : goal.split_at-requires
split_at-requires g c =
    let so_far = c.loop-point.invariant in
    seam_boundary c.args.text.now c.loop-point.rest.now so_far.read.0 c.utf8.text so_far.utf8 so_far.read.1

pub returns : goal.returns
returns g c =
    chars_cut c.args.text.now c.split_at.result.0.now c.split_at.result.1.now _ c.utf8.text (search rules) (search rules)
    c.split_at.ensures.front c.split_at.ensures.back

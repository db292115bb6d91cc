use Rattle.std.proofs.Common.{◌∷◌, ◌∙◌, ap, sym}
use Rattle.std.specs.Str.{chars}
use Rattle.uca_plain.proofs.Results.{no_value}
use Rattle.uca_text_comparer.proofs.shared.split_cached.Goals as goal

pub returns : goal.returns
returns g c =
    let known = c.in_ok-known.ensures in
    record {
      left = c.in_ok-point.ensures.0 ∙ ap (λ x. x ∷ chars c.in_ok-point.left_rest.now) (sym known.point);
      right = c.in_ok-point.ensures.1 ∙ ap (λ x. x ∷ chars c.in_ok-point.right_rest.now) (sym known.point);
      few = c.if-is_bound.ensures;
      entry = known.entry;
    }

pub returns-then-is_bound : goal.returns-then-is_bound
returns-then-is_bound g c = record { left = tt; right = tt; few = tt; entry = λ collation entries. tt }

pub returns-in_err-point : goal.returns-in_err-point
returns-in_err-point g c = record {
  left = no_value c.from_residual.result _ c.from_residual.ensures;
  right = no_value c.from_residual.result _ c.from_residual.ensures;
  few = no_value c.from_residual.result _ c.from_residual.ensures;
  entry = λ collation entries. no_value c.from_residual.result _ c.from_residual.ensures;
}

pub returns-in_err-known : goal.returns-in_err-known
returns-in_err-known g c = record {
  left = no_value c.from_residual-in_err-known.result _ c.from_residual-in_err-known.ensures;
  right = no_value c.from_residual-in_err-known.result _ c.from_residual-in_err-known.ensures;
  few = no_value c.from_residual-in_err-known.result _ c.from_residual-in_err-known.ensures;
  entry = λ collation entries. no_value c.from_residual-in_err-known.result _ c.from_residual-in_err-known.ensures;
}

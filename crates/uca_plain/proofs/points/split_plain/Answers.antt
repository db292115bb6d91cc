-- What is known of the first code point, where it is in the cache and is plain.
use Rattle.std.proofs.Common.{◌∷◌, ap, sym, ◌∙◌}
use Rattle.std.specs.Str.{chars}
use Rattle.uca_plain.proofs.Results.{no_value}
use Rattle.uca_plain.proofs.points.split_plain.Goals as goal

pub returns-in_err-point : goal.returns-in_err-point
returns-in_err-point g c = record {
  text = no_value c.from_residual.result _ c.from_residual.ensures;
  few = no_value c.from_residual.result _ c.from_residual.ensures;
  entry = λ collation entries. no_value c.from_residual.result _ c.from_residual.ensures;
}

pub returns-in_err-known : goal.returns-in_err-known
returns-in_err-known g c = record {
  text = no_value c.from_residual-in_err-known.result _ c.from_residual-in_err-known.ensures;
  few = no_value c.from_residual-in_err-known.result _ c.from_residual-in_err-known.ensures;
  entry = λ collation entries. no_value c.from_residual-in_err-known.result _ c.from_residual-in_err-known.ensures;
}

pub returns-then-is_bound : goal.returns-then-is_bound
returns-then-is_bound g c = record { text = tt; few = tt; entry = λ collation entries. tt }

pub returns : goal.returns
returns g c = record {
  text = c.in_ok-point.ensures ∙ ap (λ point. point ∷ chars c.in_ok-point.rest.now) (sym c.in_ok-known.ensures.point);
  few = c.if-is_bound.ensures;
  entry = λ collation entries. c.in_ok-known.ensures.entry collation entries;
}

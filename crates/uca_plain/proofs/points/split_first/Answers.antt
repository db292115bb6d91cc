use Rattle.std.proofs.Common.{◌++◌, ap, sym, ◌∙◌}
use Rattle.std.specs.Char.{encode_utf8}
use Rattle.std.proofs.lemmas.Str.{chars_past_char}
use Rattle.uca_plain.proofs.points.split_first.Goals as goal

pub returns : goal.returns
returns c =
    chars_past_char c.args.text.now c.as_str.result.now c.in_ok-point.point c.utf8.text
    (sym c.chars-rest.ensures.rest ∙ c.in_ok-point.ensures.steps.0 ∙ ap (λ l. encode_utf8 c.in_ok-point.point ++ l) (sym c.as_str.ensures))

-- The code points so far are those of the text.
use Rattle.std.proofs.Common.{◌≡◌, ◌<◌, [], ◌∷◌, ◌++◌, length, get_or, chars, sym, ap, ap₂, ◌∙◌, arith}
use Rattle.std.specs.String.{string_bytes}
use Rattle.std.proofs.lemmas.List.{take_more, get_or_read}
use Rattle.std.proofs.lemmas.Str.{chars-nil, IsUtf8-string_bytes}
use Rattle.uca_numbers.proofs.Strings.{chars_pushed}
use Rattle.uca_numbers.proofs.written_text.write_text.Goals as goal

pub loop-point-init : goal.loop-point-init
loop-point-init c = ap chars c.clear.ensures.bytes ∙ chars-nil

pub loop-point-preserved : goal.loop-point-preserved
loop-point-preserved c =
    let points = c.args.points.now in
    let at = c.loop-point.point-index in
    let point = c.point-item.result in
    let within : at < length points = omega arith in
    let same : point ≡ get_or points at 0 = get_or_read points at point within c.point-item.is 0 in
    chars_pushed (string_bytes c.loop-point.text) (string_bytes c.push.new.self) point (IsUtf8-string_bytes c.loop-point.text) (IsUtf8-string_bytes c.push.new.self)
    c.in_ok-push.ensures.bytes
    ∙ ap₂ (λ l x. l ++ x ∷ []) c.loop-point.invariant same
    ∙ sym (take_more points at 0 within)

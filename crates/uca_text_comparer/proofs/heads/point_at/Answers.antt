use Rattle.std.proofs.Common.{◌≡◌, get_or, ap, sym, ◌∙◌, arith}
use Rattle.uca_text_comparer.proofs.HeadSteps.{ascii_there}
use Rattle.uca_text_comparer.proofs.heads.point_at.Goals as goal

pub returns-then-byte-lt128 : goal.returns-then-byte-lt128
returns-then-byte-lt128 c =
    let text = c.args.text.now in
    let at = c.args.at in
    let value = c.as_bytes.ensures.value in
    let low = c.if-byte-lt128.true in
    let first : get_or text at 0 ≡ c.from.result = sym (c.from.ensures ∙ ap (λ l. get_or l at 0) value) in
    let there = ascii_there text at c.from.result c.utf8.text c.requires first (omega (arith, low, c.from.ensures)) in
    record { point = there.point; boundary = there.boundary; on = there.on }

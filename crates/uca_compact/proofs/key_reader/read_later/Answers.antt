use Rattle.std.proofs.Common.{List, ℕ, ◌++◌, refl, ap, ◌∙◌, arith}
use Rattle.uca_compact.specs.PlainLevels.{copies}
use Rattle.uca_compact.specs.Programs.{form_of}
use Rattle.uca_compact.specs.inside.LevelSteps.{level_after}
use Rattle.uca_compact.proofs.KeySteps.{plain_next, written_next}
use Rattle.uca_compact.proofs.key_reader.read_later.Goals as goal

pub returns-then-known-gt0 : goal.returns-then-known-gt0
returns-then-known-gt0 g c =
    let f = form_of c.args.form.now in
    let plain = copies c.args.weight c.args.count in
    let k = c.in-Some.known in
    ap (level_after f c.args.later plain) c.in-Some.is
    ∙ plain_next f c.args.later k.count _ plain c.push_copies.new.weights.items k.side k.rest.now c.if-known-gt0.true refl
    (c.in_ok-push_copies.ensures ∙ ap (λ (xs : List ℕ). xs ++ plain) c.clear.ensures.items)

pub returns-then-is_on_side : goal.returns-then-is_on_side
returns-then-is_on_side g c =
    let f = form_of c.args.form.now in
    let plain = copies c.args.weight c.args.count in
    let k = c.in-Some.known in
    ap (level_after f c.args.later plain) c.in-Some.is
    ∙ written_next f c.args.later k.count plain c.as_slice.result.now c.read_first.new.weights.items k.side c.compare_run.result k.rest.now c.in_ok-next.next c.is_on_side.result _
    (omega (arith, c.if-known-gt0.false)) c.in_ok-next.ensures c.as_slice.ensures.value c.compare_run.ensures c.is_on_side.ensures c.if-is_on_side.true

pub returns-else-is_on_side : goal.returns-else-is_on_side
returns-else-is_on_side g c =
    let f = form_of c.args.form.now in
    let plain = copies c.args.weight c.args.count in
    let k = c.in-Some.known in
    ap (level_after f c.args.later plain) c.in-Some.is
    ∙ written_next f c.args.later k.count plain c.as_slice.result.now c.read_first.new.weights.items k.side c.compare_run.result k.rest.now c.in_ok-next.next c.is_on_side.result _
    (omega (arith, c.if-known-gt0.false)) c.in_ok-next.ensures c.as_slice.ensures.value c.compare_run.ensures c.is_on_side.ensures c.if-is_on_side.false

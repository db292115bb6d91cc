use Rattle.std.proofs.Common.{◌≡◌, sym, subst, ◌∙◌}
use Rattle.std.specs.Str.{chars}
use Rattle.std.proofs.lemmas.Iterator.{YieldsList-from_chars}
use Rattle.std.proofs.lemmas.Iterator.Consumers.{YieldsList-end}
use Rattle.std.proofs.lemmas.List.{map-id}
use Rattle.uca_text_comparer.specs.inside.Shared.{HasCount}
use Rattle.uca_text_comparer.proofs.SharedSteps.{count_begun, count_on}
use Rattle.uca_text_comparer.proofs.plain_comparison.count_elements.Goals as goal

pub loop-point-init : goal.loop-point-init
loop-point-init g c = λ collation entries. count_begun collation

pub loop-point-preserved : goal.loop-point-preserved
loop-point-preserved g c = λ collation entries.
    let has = c.in_ok-elements.ensures collation (c.in_ok-known.ensures.entry collation entries) in
    count_on collation c.loop-point.yielded c.in-Some.point c.in_ok-known.known.now.point c.in_ok-elements.elements.now _ _ c.in_ok-known.ensures.point
    (c.loop-point.invariant collation entries) has.0 has.1 c.saturating_add-count.ensures

pub returns : goal.returns
returns g c = λ collation entries.
    let end = YieldsList-end (YieldsList-from_chars c.args.text.now c.utf8.text cc) c.loop-point.yielded _ c.loop-point.yielded_by _ _ c.in-None.is
    c.next.ensures.steps in
    let all : c.loop-point.yielded ≡ chars c.args.text.now = sym (map-id c.loop-point.yielded) ∙ end.0 in
    subst (λ xs. HasCount collation xs c.loop-point.count) all (c.loop-point.invariant collation entries)

use Rattle.std.proofs.Common.{drop, ap, subst, ◌∙◌}
use Rattle.std.specs.Str.{chars}
use Rattle.uca_plain.specs.Plain.{IsPlain, elements_alone}
use Rattle.uca_text_comparer.proofs.PrimarySteps.{empty_first, some_first, first_of_some}
use Rattle.uca_text_comparer.proofs.primaries.first_element.Goals as goal

pub returns-in_default : goal.returns-in_default
returns-in_default g c = λ collation entries. empty_first collation (chars c.args.text.now) c.in_default.ensures

pub returns-then-begins_plain : goal.returns-then-begins_plain
returns-then-begins_plain g c = λ collation entries.
    let point = c.in_ok-known.ensures.point in
    let elements = c.in-Some-len1-up.field-0.now in
    let has = c.in-Some-len1-up.ensures collation (c.in_ok-known.ensures.entry collation entries) in
    some_first collation c.args.text.now (chars c.in-Some.rest.now) c.in-Some.point _ elements (drop 1 elements) c.utf8.text c.if-text-gt-SHORT_REST.false c.in-Some.ensures
    (subst (IsPlain collation) point has.0) (has.1 ∙ ap (elements_alone collation) point) (first_of_some elements _ c.in-Some-len1-up.len_at_least)
    (c.if-begins_plain.ensures collation entries)

use Rattle.std.proofs.Common.{sym, ap, length, arith, ◌∙◌}
use Rattle.std.proofs.lemmas.List.{nil_from_length}
use Rattle.uca_elements.specs.Collations.{collation_of}
use Rattle.uca_elements.specs.Places.{left_of}
use Rattle.uca_elements.specs.inside.Rest.{rest_of}
use Rattle.uca_elements.proofs.Portions.{row_comes, pair_comes}
use Rattle.uca_elements.proofs.elements.ElementsIterator.next.Goals as goal

pub loop-first-preserved : goal.loop-first-preserved
loop-first-preserved g c =
    let now = c.loop-first.self-inside in
    record {
      no_second = c.loop-first.invariant.no_second;
      is_place = c.in_ok-portion.ensures.is_place;
      same_rest = row_comes _ (collation_of g.L.Lookup.content now.collator) now.text.now now.place c.in_ok-portion.portion c.in_ok-portion.ensures now.row.now
          (nil_from_length now.row.now c.in_default-split_first.ensures.cases) c.in-Key.node c.row_at-self-inside.result c.in-Key.is c.row_at-self-inside.ensures ∙ c.loop-first.invariant.same_rest;
    }

pub returns-in-Unlisted-clause-steps : goal.returns-in-Unlisted-clause-steps
returns-in-Unlisted-clause-steps g c =
    let now = c.loop-first.self-inside in
    let before = c.self.inside in
    sym c.self.view_is
    ∙ ap (λ second. rest_of (collation_of g.L.Lookup.content before.collator) second before.row.now (left_of before.text.now before.place))
    (sym c.in_default.ensures.value)
    ∙ sym c.loop-first.invariant.same_rest
    ∙ pair_comes _ (collation_of g.L.Lookup.content now.collator) now.text.now now.place c.in_ok-portion.portion c.in_ok-portion.ensures now.row.now
    (nil_from_length now.row.now c.in_default-split_first.ensures.cases) c.in-Unlisted.point c.implicit.result _ c.in-Unlisted.is c.implicit.ensures

pub returns-in-Unlisted-clause-goes : goal.returns-in-Unlisted-clause-goes
returns-in-Unlisted-clause-goes g c = omega (arith, ap length (returns-in-Unlisted-clause-steps g c))

use Rattle.std.proofs.Common.{ap, subst, ◌∙◌, rules}
use Rattle.std.specs.Str.{chars}
use Rattle.uca_elements.specs.Collations.{collation_of}
use Rattle.uca_plain.specs.Plain.{IsPlain, elements_alone}
use Rattle.uca_text_comparer.proofs.SharedSteps.{rest_on}
use Rattle.uca_text_comparer.proofs.shared.skip_shared.Goals as goal

pub loop-point-init : goal.loop-point-init
loop-point-init g c = record {
  entries = c.requires;
  left_text = search rules;
  right_text = search rules;
  rest = c.skip_cached-cached.ensures (collation_of g.L.Lookup.content c.args.collator.now) c.requires;
}

pub loop-point-preserved : goal.loop-point-preserved
loop-point-preserved g c =
    let collation = collation_of g.L.Lookup.content c.args.collator.now in
    let known = c.in_ok-known.ensures.known in
    let has = c.in-Some-elements.ensures collation known.1 in
    record {
      entries = c.get.ensures.entries;
      left_text = search rules;
      right_text = search rules;
      rest = rest_on collation _ _ _ _ (chars c.in-Some.left_rest.now) (chars c.in-Some.right_rest.now) c.in-Some.point c.in-Some-elements.elements.now _ _ _ _
          c.loop-point.invariant.rest c.in-Some.ensures.0 c.in-Some.ensures.1 (subst (IsPlain collation) known.0 has.0)
          (has.1 ∙ ap (elements_alone collation) known.0) c.flag_of-after_variable.ensures c.saturating_add-passed.ensures;
    }

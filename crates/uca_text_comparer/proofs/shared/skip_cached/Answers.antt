use Rattle.std.proofs.Common.{◌∙◌, rules}
use Rattle.std.specs.Str.{chars}
use Rattle.uca_text_comparer.proofs.SharedSteps.{rest_begun, rest_on}
use Rattle.uca_text_comparer.proofs.shared.skip_cached.Goals as goal

pub loop-known-init : goal.loop-known-init
loop-known-init g c = record {
  left_text = search rules;
  right_text = search rules;
  rest = λ collation entries. rest_begun collation (chars c.args.left.now) (chars c.args.right.now);
}

pub loop-known-preserved : goal.loop-known-preserved
loop-known-preserved g c = record {
  left_text = search rules;
  right_text = search rules;
  rest = λ collation entries.
      let has = c.in-Some.ensures.entry collation entries c.in-Some.ensures.few in
      rest_on collation _ _ _ _ (chars c.in-Some.left_rest.now) (chars c.in-Some.right_rest.now) c.in-Some.known.now.point c.all_elements-elements.result.now _ _ _ _
      (c.loop-known.invariant.rest collation entries) c.in-Some.ensures.left c.in-Some.ensures.right has.0
      (c.all_elements-elements.ensures.value ∙ has.1) c.flag_of-after_variable.ensures c.saturating_add-passed.ensures;
}

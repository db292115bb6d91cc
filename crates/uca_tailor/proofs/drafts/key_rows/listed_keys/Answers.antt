-- The keys of the base have positions, and targets come after them.
use Rattle.std.proofs.Common.{◌≡◌, ap, ◌∙◌, subst}
use Rattle.std.specs.Prelude.{IfOk}
use Rattle.uca_values.specs.Content.{TableContent, AreRows, keys_of}
use Rattle.uca_match.specs.NumberedKeys.{points_of}
use Rattle.uca_elements.specs.Positions.{place_at}
use Rattle.uca_tailor.specs.inside.KeyRows.{AreListed}
use Rattle.uca_tailor.proofs.DraftLemmas.ListedKeys.{distinct_base, few_keys, distinct_result}
use Rattle.uca_tailor.proofs.drafts.key_rows.listed_keys.Goals as goal

pub new-requires : goal.new-requires
new-requires g c =
    let rows = c.deref.ensures.value ∙ ap (λ (t : TableContent). t.rows) c.base.view_is in
    let base = subst (λ (t : TableContent). AreRows t.rows) c.base.view_is c.base.invariant in
    distinct_base c.args.base.now.rows (points_of c.deref-2.result.now) base
    (ap points_of c.deref-2.ensures.value ∙ c.in_ok-keys.ensures ∙ ap keys_of rows)

pub add_targets-all-requires : goal.add_targets-all-requires
add_targets-all-requires g c =
    let rows = c.deref.ensures.value ∙ ap (λ (t : TableContent). t.rows) c.base.view_is in
    let base = subst (λ (t : TableContent). AreRows t.rows) c.base.view_is c.base.invariant in
    record {
      few = few_keys c.args.base.now.rows (points_of c.in_ok-keys.keys.items) base (c.in_ok-keys.ensures ∙ ap keys_of rows);
      rules = c.requires;
      rows = λ key. c.in-Ok.ensures key ∙ ap (λ keys. place_at 0 (points_of keys) key) c.deref-2.ensures.value;
    }

pub returns-in-Ok-clause-listed : goal.returns-in-Ok-clause-listed
returns-in-Ok-clause-listed g c =
    let rows = c.deref.ensures.value ∙ ap (λ (t : TableContent). t.rows) c.base.view_is in
    let are : points_of c.in_ok-keys.keys.items ≡ keys_of c.args.base.now.rows = c.in_ok-keys.ensures ∙ ap keys_of rows in
    subst (λ base. IfOk c.add_targets-all.result (λ keys. AreListed base c.args.relations.now (points_of keys.items))) are c.add_targets-all.ensures

pub returns-in-Ok-clause-distinct : goal.returns-in-Ok-clause-distinct
returns-in-Ok-clause-distinct g c =
    let base = subst (λ (t : TableContent). AreRows t.rows) c.base.view_is c.base.invariant in
    distinct_result c.args.base.now.rows c.args.relations.now (λ keys. points_of keys.items) c.add_targets-all.result base (returns-in-Ok-clause-listed g c)

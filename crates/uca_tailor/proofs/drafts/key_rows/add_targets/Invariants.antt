-- The keys so far are those of the base and the targets so far.
use Rattle.std.proofs.Common.{take}
use Rattle.uca_match.specs.NumberedKeys.{points_of}
use Rattle.uca_plans.specs.Keys.{with_targets}
use Rattle.uca_tailor.proofs.DraftLemmas.ListedKeys.{AreKeysUpTo}
use Rattle.uca_tailor.proofs.drafts.key_rows.add_targets.Given as goal

abbrev pub invariant-loop-relation : goal.invariant-loop-relation
invariant-loop-relation g l = AreKeysUpTo (with_targets (take l.relation-index l.relations) (points_of l.initial.keys.items)) (points_of l.keys.items)

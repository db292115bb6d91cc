use Rattle.std.proofs.Common.{◌-◌, length}
use Rattle.uca_text.specs.Texts.{Text, code_points}
use Rattle.uca_elements.specs.inside.Extensions.{IsAfter, IsGoing}
use Rattle.uca_elements.proofs.matches.extend.Given as goal

abbrev pub invariant-loop-i : goal.invariant-loop-i
invariant-loop-i g l = record {
  after : IsAfter l.text l.fn.place l.i l.so_far.next;
  going : (front : Text) → g.K.KeySet.stands_for l.keys l.fn.node (code_points front) →
      IsGoing (g.K.KeySet.stands_for l.keys) (g.K.KeySet.keys l.keys) l.text l.fn.place front l.i l.so_far;
}

abbrev pub decreases-loop-i : goal.decreases-loop-i
decreases-loop-i g l = length l.classes - l.i

use Rattle.uca_elements.proofs.MatchLemmas.{IsWalked}
use Rattle.uca_elements.proofs.matches.longest_match.Given as goal

abbrev pub invariant-loop-i : goal.invariant-loop-i
invariant-loop-i g l = IsWalked (g.K.KeySet.stands_for l.keys) (g.K.KeySet.keys l.keys) l.text l.place l.fn.first l.i l.node l.best

use Rattle.std.proofs.Common.{◌≡◌, ◌+◌, length, sym, subst, arith}
use Rattle.uca_text_comparer.specs.Heads.{IsTrueFirst, AreFirstsFrom}
use Rattle.uca_text_comparer.proofs.HeadSteps.{heads_on}
use Rattle.uca_text_comparer.proofs.heads.Heads.fill_firsts.Goals as goal

pub loop-self-preserved : goal.loop-self-preserved
loop-self-preserved c = record {
  heads = λ collation old.
      let weighting = c.loop-self.self.weighting in
      let firsts = c.loop-self.self.firsts.items in
      let all = c.loop-self.invariant.heads collation old in
      let head = c.first_of-head.result in
      let here : c.len-in-loop-self.result ≡ 0 + length firsts = omega (arith, c.len-in-loop-self.ensures) in
      record {
        points = all.points;
        firsts = subst (AreFirstsFrom collation weighting 0) (sym c.in_ok-push.ensures.items)
            (heads_on (IsTrueFirst collation weighting) 0 firsts head all.firsts
            (subst (λ n. IsTrueFirst collation weighting n head) here (c.first_of-head.ensures collation all.points)));
      };
  weighting = c.loop-self.invariant.weighting;
  items = c.loop-self.invariant.items;
}

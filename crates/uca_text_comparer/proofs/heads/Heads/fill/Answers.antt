use Rattle.std.proofs.Common.{◌≡◌, ◌+◌, length, sym, subst, ◌∙◌, arith}
use Rattle.uca_elements.specs.Collations.{collation_of}
use Rattle.uca_text_comparer.specs.Heads.{IsTrueHead, AreHeadsFrom}
use Rattle.uca_text_comparer.proofs.HeadSteps.{heads_on}
use Rattle.uca_text_comparer.proofs.heads.Heads.fill.Goals as goal

pub loop-weighting-preserved : goal.loop-weighting-preserved
loop-weighting-preserved g c =
    let collation = collation_of g.L.Lookup.content c.args.collator.now in
    let weighting = c.loop-weighting.self.weighting in
    let items = c.loop-weighting.self.items.items in
    let known = c.in_ok-known.known in
    let point : known.point ≡ length items =
    c.in_ok-known.ensures.known.0 ∙ omega (arith, c.in-Some.ensures.value, c.len-in-loop-weighting.ensures, c.loop-weighting-test.true) in
    let here : 0 + length items ≡ length items = omega arith in
    let head = c.of.result in
    record {
      entries = c.in_ok-known.ensures.entries;
      heads = record {
        points = subst (AreHeadsFrom collation weighting 0) (sym c.in_ok-push.ensures.items)
            (heads_on (IsTrueHead collation weighting) 0 items head c.loop-weighting.invariant.heads.points
            (subst (λ w. IsTrueHead collation w (0 + length items) head) (sym c.loop-weighting.invariant.under)
            (subst (λ n. IsTrueHead collation c.args.weighting n head) (point ∙ sym here) (c.of.ensures collation c.in_ok-known.ensures.known.1))));
        firsts = c.loop-weighting.invariant.heads.firsts;
      };
      under = c.loop-weighting.invariant.under;
    }

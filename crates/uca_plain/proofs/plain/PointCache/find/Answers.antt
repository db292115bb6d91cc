use Rattle.std.proofs.Common.{arith}
use Rattle.std.proofs.lemmas.Grind.{common_steps}
use Rattle.uca_elements.specs.Collations.{Collation}
use Rattle.uca_plain.specs.PointCache.{IsTrueEntry, IsTrueLeaf, HasTrueDecomposition, AreTrueEntries}
use Rattle.uca_plain.proofs.Results.{no_value}
use Rattle.uca_plain.proofs.plain.PointCache.find.Goals as goal

-- ---- The code point is not in the cache

pub returns-in_err-get : goal.returns-in_err-get
returns-in_err-get g c = record {
  point = no_value c.from_residual.result _ c.from_residual.ensures;
  entry = λ collation entries. no_value c.from_residual.result _ c.from_residual.ensures;
  decomposition = λ collation entries. no_value c.from_residual.result _ c.from_residual.ensures;
  leaf = λ collation entries. no_value c.from_residual.result _ c.from_residual.ensures;
}

pub returns-in_err-known : goal.returns-in_err-known
returns-in_err-known g c = record {
  point = no_value c.from_residual-in_err-known.result _ c.from_residual-in_err-known.ensures;
  entry = λ collation entries. no_value c.from_residual-in_err-known.result _ c.from_residual-in_err-known.ensures;
  decomposition = λ collation entries. no_value c.from_residual-in_err-known.result _ c.from_residual-in_err-known.ensures;
  leaf = λ collation entries. no_value c.from_residual-in_err-known.result _ c.from_residual-in_err-known.ensures;
}

pub returns-else-known-point : goal.returns-else-known-point
returns-else-known-point g c = record {
  point = tt;
  entry = λ collation entries. tt;
  decomposition = λ collation entries. tt;
  leaf = λ collation entries. tt;
}

-- ---- It is in the cache

pub returns-then-known-point : goal.returns-then-known-point
unfolding AreTrueEntries
returns-then-known-point g c =
    let known = c.in_ok-known.known.now in
    let true : (collation : Collation) → AreTrueEntries collation c.args.self.now.entries.items
    → IsTrueEntry collation known × HasTrueDecomposition collation known × IsTrueLeaf collation known = grind (arith, common_steps) in
    record {
      point = c.if-known-point.true;
      entry = λ collation entries. (true collation entries).0;
      decomposition = λ collation entries. (true collation entries).1;
      leaf = λ collation entries. (true collation entries).2;
    }

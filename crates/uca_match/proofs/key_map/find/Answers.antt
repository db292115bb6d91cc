use Rattle.std.proofs.Common.{arith}
use Rattle.uca_match.specs.declared.key_map.Edge.{Edge}
use Rattle.uca_match.proofs.TrieEdges.{edge_found, new_place}
use Rattle.uca_match.proofs.key_map.find.Goals as goal
use Rattle.uca_match.proofs.key_map.find.Goals.{else-at-edges-via-then-at-edges+else-edges-at, else-at-edges-via-else-at-edges}

pub returns-then-edges-at : goal.returns-then-edges-at
returns-then-edges-at c = edge_found c.args.edges.now c.args.point c.place-at.result c.place-at.ensures.place _ c.if-at-edges.true c.if-edges-at.true

pub returns-else-at-edges : goal.returns-else-at-edges
returns-else-at-edges c =
    let edges = c.args.edges.now in let point = c.args.point in
    let no : Edge = record { point = 0; target = 0 } in
    elim c.else-at-edges.branch [
      | else-at-edges-via-then-at-edges+else-edges-at w ↦
          new_place edges c.requires point _ c.place-at.ensures.bound c.place-at.ensures.place no (λ _. w.if-edges-at.false)
      | else-at-edges-via-else-at-edges w ↦ new_place edges c.requires point _ c.place-at.ensures.bound c.place-at.ensures.place no
          (λ l. absurd (omega arith))
    ]

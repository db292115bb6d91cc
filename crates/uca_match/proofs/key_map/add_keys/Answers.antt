-- Key after key, the nodes have the keys so far.
use Rattle.std.proofs.Common.{◌+◌, ◌<◌, ◌≤◌, length, map, subst, sym, arith}
use Rattle.std.proofs.lemmas.List.{length-map, get_or-map}
use Rattle.std.specs.Borrow.{Bor}
use Rattle.std.proofs.Common.{List, ℕ}
use Rattle.uca_elements.specs.Positions.{AreLongKeys}
use Rattle.uca_match.specs.NumberedKeys.{points_of, placed_of}
use Rattle.uca_match.specs.Tries.{MapContent, tree_of}
use Rattle.uca_match.proofs.TrieKeys.{IsBuilt, IsShortBelow, IsBuilt-none, IsBuilt-short, IsBuilt-other, IsBuilt-long_none, IsBuilt-long, IsBuilt-long_all}
use Rattle.uca_match.proofs.key_map.add_keys.Goals as goal
use Rattle.uca_match.proofs.key_map.add_keys.Goals.{then-key-eq1+in_ok-add_key, else-key-eq1}

pub loop-position-init : goal.loop-position-init
loop-position-init g c =
    let keys = points_of c.args.keys.now in
    subst (IsBuilt keys (IsShortBelow 0)) (sym c.requires.leaf)
    (IsBuilt-none keys c.requires.distinct (IsShortBelow 0) (λ r h done. omega (arith, done.0)))

pub add_key-requires : goal.add_key-requires
add_key-requires g c = c.loop-position.invariant.tree

pub loop-position-preserved : goal.loop-position-preserved
loop-position-preserved g c =
    let borrowed = c.args.keys.now in
    let keys = points_of borrowed in
    let i = c.loop-position.position in
    let inside : i < length borrowed = omega arith in
    let within : i < length keys = omega (arith, length-map borrowed (λ (k : Bor (List ℕ)). k.now)) in
    elim c.if-key-eq1.branch [
      | then-key-eq1+in_ok-add_key w ↦
          subst (λ (t : MapContent). IsBuilt keys (IsShortBelow (i + 1)) (tree_of t)) (sym w.tree-is)
          (IsBuilt-short keys c.requires.distinct i _ within (sym (get_or-map (λ (k : Bor (List ℕ)). k.now) borrowed i _ _ inside)) (tree_of c.loop-position.tree)
          (tree_of w.add_key.new.tree) c.loop-position.invariant w.in_ok-add_key.ensures.tree w.in_ok-add_key.ensures.key)
      | else-key-eq1 w ↦
          subst (λ (t : MapContent). IsBuilt keys (IsShortBelow (i + 1)) (tree_of t)) (sym w.tree-is)
          (IsBuilt-other keys c.requires.distinct i _ within (sym (get_or-map (λ (k : Bor (List ℕ)). k.now) borrowed i _ _ inside)) w.if-key-eq1.false
          (tree_of c.loop-position.tree) c.loop-position.invariant)
    ]

pub loop-numbered-init : goal.loop-numbered-init
loop-numbered-init g c =
    let keys = points_of c.args.keys.now in
    let items = c.deref-numbered-items.result.now in
    let list = map placed_of items in
    let long : AreLongKeys keys list =
    subst (λ l. AreLongKeys keys (map placed_of l)) (sym c.deref-numbered-items.ensures.value) c.in_ok-long_keys.ensures in
    let past : length keys ≤ c.loop-position.position = omega (arith, length-map c.args.keys.now (λ (k : Bor (List ℕ)). k.now)) in
    IsBuilt-long_none keys c.requires.distinct list long c.loop-position.position (tree_of c.loop-position.tree) past c.loop-position.invariant

pub add_key-requires-in-loop-numbered : goal.add_key-requires-in-loop-numbered
add_key-requires-in-loop-numbered g c = c.loop-numbered.invariant.tree

pub loop-numbered-preserved : goal.loop-numbered-preserved
loop-numbered-preserved g c =
    let keys = points_of c.args.keys.now in
    let items = c.deref-numbered-items.result.now in
    let list = map placed_of items in
    let long : AreLongKeys keys list =
    subst (λ l. AreLongKeys keys (map placed_of l)) (sym c.deref-numbered-items.ensures.value) c.in_ok-long_keys.ensures in
    let i = c.loop-numbered.numbered-index in
    IsBuilt-long keys c.requires.distinct list long i _ (omega (arith, length-map items placed_of))
    (sym (get_or-map placed_of items i _ _ c.loop-numbered-test.true)) (tree_of c.loop-numbered.tree) (tree_of c.add_key-in-loop-numbered.new.tree)
    c.loop-numbered.invariant c.in_ok-add_key-2.ensures.tree c.in_ok-add_key-2.ensures.key

pub returns-clause-tree : goal.returns-clause-tree
returns-clause-tree g c = c.loop-numbered.invariant.tree

pub returns-clause-positions : goal.returns-clause-positions
returns-clause-positions g c =
    let keys = points_of c.args.keys.now in
    let items = c.deref-numbered-items.result.now in
    let list = map placed_of items in
    let long : AreLongKeys keys list =
    subst (λ l. AreLongKeys keys (map placed_of l)) (sym c.deref-numbered-items.ensures.value) c.in_ok-long_keys.ensures in
    IsBuilt-long_all keys c.requires.distinct list long c.loop-numbered.numbered-index (tree_of c.loop-numbered.tree) (omega (arith, length-map items placed_of))
    c.loop-numbered.invariant

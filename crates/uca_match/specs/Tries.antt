-- Trees of code points: what their nodes have, where code points lead, and which map from keys to positions that makes.
-- A caller's clauses cite `positions` alone, which is that map.
use Rattle.std.specs.Prelude.{◌≡◌, ◌≢◌, ℕ, zero, suc, ◌<◌, ◌≤◌, ◌==◌, ⊤, List, [], ◌∷◌, ◌++◌, length, Option, Some, None, if◌then◌else◌}
use Rattle.std.specs.Prelude.{slice_index_or, option_and_then, map}
use Rattle.std.specs.List.{AllByRecursion}
use Rattle.std.specs.List.Sorted.{IsPartitionPoint}
use Rattle.uca_elements.specs.Rows.{same_key}
use Rattle.uca_elements.specs.Positions.{Positions, Placed}
use Rattle.uca_match.specs.CharMaps.{Paged, number_of}
use Rattle.uca_match.specs.declared.key_map.Edge.{Edge}

-- a node: where the code points lead from it, and the position of its key, if the code points that lead to it are one
pub record NodeContent : Type 0 where
  pub leads : ℕ → Option ℕ
  pub position : Option ℕ

-- a node that nothing leaves, and that is no key
abbrev pub empty_node : NodeContent
empty_node = record { leads = λ c. None; position = None }

-- the node of a number
abbrev pub node_at : List NodeContent → ℕ → NodeContent
node_at nodes n = slice_index_or nodes n empty_node

-- where the code points lead from a node
abbrev pub walk : List NodeContent → ℕ → List ℕ → Option ℕ
walk nodes n [] = Some n
walk nodes n (c ∷ key) = option_and_then (λ m. walk nodes m key) ((node_at nodes n).leads c)

-- the position of each key
abbrev pub positions_in : List NodeContent → Positions
positions_in nodes key = option_and_then (λ n. (node_at nodes n).position) (walk nodes 0 key)

-- ---- What a map of keys has

-- a node as the code has it: the edges that leave it, and the position of its key
pub record ListedNode : Type 0 where
  pub edges : List Edge
  pub position : Option ℕ

-- where a code point leads by edges
abbrev pub target_of : List Edge → ℕ → Option ℕ
target_of [] c = None
target_of (e ∷ edges) c = if e.point == c then Some e.target else target_of edges c

-- where it leads by a number, which is 0 where it leads nowhere
abbrev pub numbered_target : ℕ → Option ℕ
numbered_target zero = None
numbered_target (suc n) = Some (suc n)

-- a node by its edges
abbrev pub by_edges : ListedNode → NodeContent
by_edges b = record { leads = target_of b.edges; position = b.position }

-- nodes by their edges, but the first by numbers
abbrev pub with_root : (ℕ → ℕ) → List ListedNode → List NodeContent
with_root root [] = []
with_root root (b ∷ nodes) = record { leads = λ c. numbered_target (root c); position = b.position } ∷ map by_edges nodes

-- the numbers of code points at the root, and the nodes
pub record MapContent : Type 0 where
  pub root : Paged
  pub nodes : List ListedNode

abbrev pub tree_of : MapContent → List NodeContent
tree_of m = with_root (number_of m.root) m.nodes

-- the position of each key of a map
abbrev pub positions : MapContent → Positions
positions m = positions_in (tree_of m)

-- ---- What is true of the nodes

-- each code point is below those that follow
abbrev pub AreRisingEdges : List Edge → Type 0
AreRisingEdges [] = ⊤
AreRisingEdges (e ∷ edges) = AllByRecursion (λ f. e.point < f.point) edges × AreRisingEdges edges

-- no edge has the code point, and one that has it would be here
pub record IsNewPlace (edges : List Edge) (c at : ℕ) : Type 0 where
  pub bound : at ≤ length edges
  pub place : IsPartitionPoint (λ e. e.point < c) (λ e. c < e.point) edges at

-- the edge leads to a later node, whose text is the text before it and the code point
pub record LeadsOn (texts : List (List ℕ)) (n c m : ℕ) : Type 0 where
  pub later : n < m
  pub within : m < length texts
  pub text : slice_index_or texts m [] ≡ slice_index_or texts n [] ++ c ∷ []

-- there is a node for each of the texts, and the first text is empty; code points lead on
pub record AreNodes (nodes : List NodeContent) (texts : List (List ℕ)) : Type 0 where
  pub some : 0 < length nodes
  pub same : length texts ≡ length nodes
  pub root : slice_index_or texts 0 [] ≡ []
  pub edges : (n c m : ℕ) → n < length nodes → (node_at nodes n).leads c ≡ Some m → LeadsOn texts n c m

-- the node is that of a key, or something leaves it
abbrev pub IsNoDeadEnd : NodeContent → Type 0
IsNoDeadEnd b = b.position ≡ None → (c : ℕ) × (m : ℕ) × (b.leads c ≡ Some m)

-- nodes that make a tree without dead ends, so that some key begins with each text but the empty one
pub record IsTree (nodes : List NodeContent) : Type 0 where
  pub texts : List (List ℕ)
  pub shape : AreNodes nodes texts
  pub no_dead_end : (n : ℕ) → 0 < n → n < length nodes → IsNoDeadEnd (node_at nodes n)

-- Nodes to which those of the beginning of a key have been added. The last of these may have no key and lead nowhere.
-- The keys and positions are those of the nodes at the start.
pub record IsAlong (start nodes : List NodeContent) (front : List ℕ) (last : ℕ) : Type 0 where
  pub texts : List (List ℕ)
  pub shape : AreNodes nodes texts
  pub leads : walk nodes 0 front ≡ Some last
  pub no_dead_end : (n : ℕ) → 0 < n → n < length nodes → n ≢ last → IsNoDeadEnd (node_at nodes n)
  pub same : (key : List ℕ) → positions_in nodes key ≡ positions_in start key

-- a map in which a key has been put with its position
abbrev pub with_position : Positions → Placed → Positions
with_position before placed key = if same_key placed.key key then Some placed.position else before key

-- ---- Later code points

-- each code point that leads from a node other than the root has a number above 0
abbrev pub AreFollowers : List NodeContent → (ℕ → ℕ) → Type 0
AreFollowers nodes numbers = (n c m : ℕ) → 0 < n → (node_at nodes n).leads c ≡ Some m → 0 < numbers c

-- what is true of every map from keys to positions
pub record IsTrie (nodes : List NodeContent) (numbers : ℕ → ℕ) : Type 0 where
  pub tree : IsTree nodes
  pub followers : AreFollowers nodes numbers

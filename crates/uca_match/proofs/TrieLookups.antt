-- Which lists of code points begin a key of a trie, and where its first steps lead.
use Rattle.std.proofs.Common.{◌≡◌, ℕ, zero, suc, ◌+◌, ◌<◌, ◌≤◌, List, [], ◌∷◌, ◌++◌, length, Option, Some, None, ◌⊎◌, inl, inr, ⊎_elim, true}
use Rattle.std.proofs.Common.{is_some, option_and_then, slice_index_or, IsTrue, sym, ap, subst, refl, ◌∙◌, arith}
use Rattle.std.proofs.lemmas.Bool.{false≢true}
use Rattle.std.proofs.lemmas.List.{length_push, get_or_read, get_or-map}
use Rattle.uca_elements.specs.Lookups.{BeginsKeyIn, BeginsNoKeyIn}
use Rattle.uca_elements.specs.Positions.{is_placed}
use Rattle.uca_match.specs.Tries.{NodeContent, empty_node, node_at, walk, positions_in, AreNodes, IsTree, ListedNode, MapContent, by_edges, with_root, tree_of}
use Rattle.uca_match.specs.CharMaps.{number_of}
use Rattle.uca_match.proofs.TrieSteps.{no_listed, length-with_root}
use Rattle.uca_match.proofs.TrieWalks.{walk-append, walk_push, walk_root}

-- ---- From each node but the root some code points lead to a key

-- some code points lead from the node to that of a key
abbrev LeadsToKey : List NodeContent → ℕ → Type 0
LeadsToKey nodes n = (more : List ℕ) × IsTrue (is_some (option_and_then (λ m. (node_at nodes m).position) (walk nodes n more)))

placed_or_none : (position : Option ℕ) → (position ≡ None) ⊎ (is_some position ≡ true)
placed_or_none None = inl refl
placed_or_none (Some position) = inr refl

leads_to_key : (nodes : List NodeContent) → IsTree nodes → (steps n : ℕ) → 0 < n → n < length nodes → length nodes ≤ n + steps → LeadsToKey nodes n
leads_to_key nodes tree zero n above within all = absurd (omega arith)
leads_to_key nodes tree (suc steps) n above within all =
    ⊎_elim
    (λ none.
    let first = tree.no_dead_end n above within none in
    let edge = tree.shape.edges n first.0 first.1 within first.2 in
    let rest = leads_to_key nodes tree steps first.1 (omega (arith, edge.later)) (subst (λ l. first.1 < l) tree.shape.same edge.within)
    (omega (arith, edge.later)) in (
      first.0 ∷ rest.0,
      subst (λ o. IsTrue (is_some (option_and_then (λ m. (node_at nodes m).position) (option_and_then (λ m. walk nodes m rest.0) o))))
          (sym first.2) rest.1,
    ))
    (λ some. ([], some))
    (placed_or_none (node_at nodes n).position)

-- no code points but none lead to the root
never_root : (nodes : List NodeContent) (texts : List (List ℕ)) → AreNodes nodes texts → (key : List ℕ) (c m : ℕ) →
    walk nodes 0 (key ++ c ∷ []) ≡ Some m → 0 < m
never_root nodes texts shape key c zero leads =
    let empty : [] ≡ key ++ c ∷ [] = sym shape.root ∙ (walk_root nodes texts shape 0 (key ++ c ∷ []) leads).1 in
    absurd (omega (arith, ap length empty, length_push key c))
never_root nodes texts shape key c (suc m) leads = omega arith

-- ---- Which lists begin a key

begins_some_key : (nodes : List NodeContent) → IsTree nodes → (key : List ℕ) (c m : ℕ) → walk nodes 0 (key ++ c ∷ []) ≡ Some m →
    BeginsKeyIn (is_placed (positions_in nodes)) (key ++ c ∷ [])
begins_some_key nodes tree key c m leads =
    let within = (walk_root nodes tree.texts tree.shape m (key ++ c ∷ []) leads).0 in
    let to_key = leads_to_key nodes tree (length nodes) m (never_root nodes tree.texts tree.shape key c m leads) within (omega arith) in
    let same : walk nodes 0 ((key ++ c ∷ []) ++ to_key.0) ≡ walk nodes m to_key.0 = walk-append nodes 0 (key ++ c ∷ []) to_key.0
    ∙ ap (option_and_then (λ k. walk nodes k to_key.0)) leads in
    (to_key.0, subst (λ o. IsTrue (is_some (option_and_then (λ k. (node_at nodes k).position) o))) (sym same) to_key.1)

begins_no_key : (nodes : List NodeContent) (begin : List ℕ) → walk nodes 0 begin ≡ None → BeginsNoKeyIn (is_placed (positions_in nodes)) begin
begins_no_key nodes begin nowhere found =
    let none : walk nodes 0 (begin ++ found.0) ≡ None = walk-append nodes 0 begin found.0 ∙ ap (option_and_then (λ k. walk nodes k found.0)) nowhere in
    false≢true (subst (λ o. IsTrue (is_some (option_and_then (λ k. (node_at nodes k).position) o))) none found.1)

-- ---- One step

pub leads_on : (nodes : List NodeContent) → IsTree nodes → (n c m : ℕ) → (node_at nodes n).leads c ≡ Some m → (key : List ℕ) →
    walk nodes 0 key ≡ Some n → BeginsKeyIn (is_placed (positions_in nodes)) (key ++ c ∷ []) × walk nodes 0 (key ++ c ∷ []) ≡ Some m
leads_on nodes tree n c m there key leads =
    let next : walk nodes 0 (key ++ c ∷ []) ≡ Some m = walk_push nodes 0 key c ∙ ap (option_and_then (λ k. (node_at nodes k).leads c)) leads
    ∙ there in
    (begins_some_key nodes tree key c m next, next)

pub leads_nowhere : (nodes : List NodeContent) (n c : ℕ) → (node_at nodes n).leads c ≡ None → (key : List ℕ) → walk nodes 0 key ≡ Some n →
    BeginsNoKeyIn (is_placed (positions_in nodes)) (key ++ c ∷ [])
leads_nowhere nodes n c nowhere key leads =
    begins_no_key nodes (key ++ c ∷ []) (walk_push nodes 0 key c ∙ ap (option_and_then (λ k. (node_at nodes k).leads c)) leads ∙ nowhere)

-- a node for which there are code points is within the nodes
pub is_node : (nodes : List NodeContent) → IsTree nodes → (n : ℕ) → (key : List ℕ) × walk nodes 0 key ≡ Some n → n < length nodes
is_node nodes tree n led = (walk_root nodes tree.texts tree.shape n led.0 led.1).0

-- ---- What the code reads

-- a node for which there are code points is within the listed nodes
pub listed_within : (m : MapContent) → IsTree (tree_of m) → (n : ℕ) → (key : List ℕ) × walk (tree_of m) 0 key ≡ Some n → n < length m.nodes
listed_within m tree n led = omega (arith, is_node (tree_of m) tree n led, length-with_root (number_of m.root) m.nodes)

-- the position of a listed node
pub position_listed : (root : ℕ → ℕ) (nodes : List ListedNode) (n : ℕ) (d : ListedNode) → n < length nodes →
    (node_at (with_root root nodes) n).position ≡ (slice_index_or nodes n d).position
position_listed root [] n d within = absurd (omega arith)
position_listed root (b ∷ nodes) zero d within = refl
position_listed root (b ∷ nodes) (suc n) d within = ap (λ (a : NodeContent). a.position) (get_or-map by_edges nodes n d empty_node (omega arith))

-- a listed node that was read is the node of its number
pub listed_read : (m : MapContent) (items : List ListedNode) (n : ℕ) (b : ListedNode) → items ≡ m.nodes → n < length m.nodes → b ≡ slice_index_or items n b →
    b ≡ slice_index_or m.nodes n no_listed
listed_read m items n b same within there = get_or_read m.nodes n b within (there ∙ ap (λ t. slice_index_or t n b) same) no_listed

-- the position of a key is that of the node to which it leads
pub placed_there : (nodes : List NodeContent) (n : ℕ) (key : List ℕ) (position : Option ℕ) → walk nodes 0 key ≡ Some n →
    (node_at nodes n).position ≡ position → positions_in nodes key ≡ position
placed_there nodes n key position leads there =
    ap (option_and_then (λ k. (node_at nodes k).position)) leads ∙ there

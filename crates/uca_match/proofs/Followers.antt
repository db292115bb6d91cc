-- Nodes that nothing leaves, and code points that some key has after its first one.
use Rattle.std.proofs.Common.{◌≡◌, ◌≢◌, ℕ, zero, suc, ◌+◌, ◌<◌, ◌≤◌, List, [], ◌∷◌, length, take, get_or, Bool, true, false, not, nat_eq, Option, Some, None, is_some}
use Rattle.std.proofs.Common.{option_and_then, ⊎_elim, sym, ap, subst, refl, ◌∙◌, arith}
use Rattle.std.proofs.lemmas.Bool.{false≢true, cases_eq, cases_lt}
use Rattle.std.proofs.lemmas.Bool.Decides.{nat_tests}
use Rattle.std.proofs.lemmas.List.{take_more, get_or_past}
use Rattle.uca_elements.specs.Positions.{is_placed}
use Rattle.uca_elements.specs.Cuts.{IsNoFollower}
use Rattle.uca_match.specs.Tries.{NodeContent, empty_node, target_of, node_at, walk, positions_in, IsTree, AreFollowers, ListedNode, MapContent, tree_of}
use Rattle.uca_match.specs.CharMaps.{number_of}
use Rattle.uca_match.proofs.TrieSteps.{no_listed, length-with_root, below_root}
use Rattle.uca_match.specs.declared.key_map.Edge.{Edge}
use Rattle.uca_match.proofs.TrieWalks.{walk-append, walk_root}
use Rattle.uca_match.proofs.TrieEdges.{target_of_front}

-- ---- No edges

-- without edges, no code point leads anywhere
pub leads_nowhere_from : (edges : List Edge) (point : ℕ) → length edges ≡ 0 → target_of edges point ≡ None
leads_nowhere_from [] point none = refl
leads_nowhere_from (e ∷ edges) point none = absurd (omega arith)

-- a list of a length that is tested
pub no_edges : (n : ℕ) (b : Bool) → b ≡ nat_eq n 0 → not b ≡ false → n ≡ 0
no_edges n true same ends = grind (arith, nat_tests)
no_edges n false same ends = absurd (false≢true (sym ends))

-- ---- Followers

-- a code point that has a number above 0 keeps one
pub set_keeps : (old new : ℕ → ℕ) (point : ℕ) → new point ≡ 1 → ((c : ℕ) → c ≢ point → new c ≡ old c) → (c : ℕ) → 0 < old c → 0 < new c
set_keeps old new point here others c above =
    ⊎_elim
    (λ same. omega (arith, ap new same, here))
    (λ apart. omega (arith, others c apart, above))
    (cases_eq c point)

-- one more edge
pub followers_more : (edges : List Edge) (i : ℕ) (d : Edge) (old new : ℕ → ℕ) → i < length edges →
    ((c m : ℕ) → target_of (take i edges) c ≡ Some m → 0 < old c) → new (get_or edges i d).point ≡ 1 →
    ((c : ℕ) → c ≢ (get_or edges i d).point → new c ≡ old c) → (c m : ℕ) → target_of (take (i + 1) edges) c ≡ Some m → 0 < new c
followers_more edges i d old new within before here others c m leads =
    let e : Edge = get_or edges i d in
    ⊎_elim
    (λ same. omega (arith, ap new same, here))
    (λ apart.
    let front : target_of (take i edges) c ≡ Some m = sym (ap (λ es. target_of es c) (take_more edges i d within)
    ∙ target_of_front (take i edges) e c (λ same. apart (sym same))) ∙ leads in
    subst (λ n. 0 < n) (sym (others c apart)) (before c m front))
    (cases_eq c e.point)

-- one more node
pub followers_next : (nodes : List ListedNode) (i : ℕ) (old new : ℕ → ℕ) →
    ((n c m : ℕ) → 0 < n → n < i → target_of (get_or nodes n no_listed).edges c ≡ Some m → 0 < old c) → ((c : ℕ) → 0 < old c → 0 < new c) →
    ((c m : ℕ) → target_of (get_or nodes i no_listed).edges c ≡ Some m → 0 < new c) →
    (n c m : ℕ) → 0 < n → n < i + 1 → target_of (get_or nodes n no_listed).edges c ≡ Some m → 0 < new c
followers_next nodes i old new before kept here n c m later within leads =
    ⊎_elim
    (λ same. here c m (ap (λ k. target_of (get_or nodes k no_listed).edges c) (sym same) ∙ leads))
    (λ other. kept c (before n c m later (omega arith) leads))
    (cases_eq n i)

-- all nodes
pub followers_all : (m : MapContent) (nodes : List ListedNode) → nodes ≡ m.nodes → (i : ℕ) (numbers : ℕ → ℕ) → length nodes ≤ i →
    ((n c m : ℕ) → 0 < n → n < i → target_of (get_or nodes n no_listed).edges c ≡ Some m → 0 < numbers c) → AreFollowers (tree_of m) numbers
followers_all m nodes same i numbers past are n c t later leads =
    ⊎_elim
    (λ within.
    let here = ap (λ (b : NodeContent). b.leads c) (below_root (number_of m.root) m.nodes n no_listed later within) in
    are n c t later (omega (arith, ap length same)) (ap (λ list. target_of (get_or list n no_listed).edges c) same ∙ sym here ∙ leads))
    (λ beyond.
    let none : node_at (tree_of m) n ≡ empty_node = get_or_past (tree_of m) n empty_node (omega (arith, length-with_root (number_of m.root) m.nodes)) in
    let nowhere : ◌≡◌ {A = Option ℕ} None (Some t) = ap (λ (b : NodeContent). b.leads c) (sym none) ∙ leads in
    cc)
    (cases_lt n (length m.nodes))

module _ (nodes : List NodeContent) (tree : IsTree nodes) (followers : ℕ → ℕ) (are : AreFollowers nodes followers) (c : ℕ) (none : followers c ≡ 0) where
  not_root : (first : ℕ) (before : List ℕ) (n : ℕ) → walk nodes 0 (first ∷ before) ≡ Some n → 0 < n
  not_root first before zero leads =
      let empty : [] ≡ first ∷ before = sym tree.shape.root ∙ (walk_root nodes tree.texts tree.shape 0 (first ∷ before) leads).1 in
      absurd (omega (arith, ap length empty))
  not_root first before (suc n) leads = omega arith

  -- no code points after the first lead on by it
  leads_on_by : (after : List ℕ) (n : ℕ) → 0 < n → (o : Option ℕ) → (node_at nodes n).leads c ≡ o →
      is_some (option_and_then (λ m. (node_at nodes m).position) (option_and_then (λ m. walk nodes m after) o)) ≡ true → ⊥
  leads_on_by after n later None leads some = false≢true some
  leads_on_by after n later (Some m) leads some = let above = are n c m later leads in omega (arith, above, none)

  walks_on_by : (first : ℕ) (before after : List ℕ) (o : Option ℕ) → walk nodes 0 (first ∷ before) ≡ o →
      is_some (option_and_then (λ m. (node_at nodes m).position) (option_and_then (λ m. walk nodes m (c ∷ after)) o)) ≡ true → ⊥
  walks_on_by first before after None leads some = false≢true some
  walks_on_by first before after (Some n) leads some =
      leads_on_by after n (not_root first before n leads) ((node_at nodes n).leads c) refl some

  -- a code point that leads on from no node but the root follows no key's first code point
  pub no_follower : IsNoFollower (is_placed (positions_in nodes)) c
  no_follower first before after key =
      walks_on_by first before after (walk nodes 0 (first ∷ before)) refl
      (subst (λ o. is_some (option_and_then (λ m. (node_at nodes m).position) o) ≡ true) (walk-append nodes 0 (first ∷ before) (c ∷ after)) key)

-- What keys do to a tree of code points: the position of one key after another.
use Rattle.std.proofs.Common.{◌≡◌, ℕ, zero, suc, ◌+◌, ◌-◌, ◌<◌, ◌≤◌, List, [], ◌∷◌, ◌++◌, length, set, get_or, take, drop, true, cond, Option, Some, None}
use Rattle.std.proofs.Common.{option_and_then, Contains, ◌⊎◌, inl, inr, ⊎_elim, sym, ap, subst, refl, ◌∙◌, arith}
use Rattle.std.proofs.lemmas.Bool.{cond_both, cond-true, false≢true, cases_eq}
use Rattle.std.proofs.lemmas.List.{length-set, get_or-set_same, get_or-set_other, take_more, take_all, take-append-drop}
use Rattle.std.proofs.lemmas.List.Elements.{Contains-push, Contains-push_cases, Contains-append_left}
use Rattle.std.proofs.lemmas.Option.{same_Some}
use Rattle.uca_elements.specs.Rows.{same_key}
use Rattle.uca_elements.specs.Positions.{Placed, place_at, AreDistinctKeys, placed_from, AreLongKeys}
use Rattle.uca_match.specs.Tries.{NodeContent, empty_node, node_at, walk, positions_in, AreNodes, IsNoDeadEnd, IsTree, IsAlong, with_position, ListedNode, with_root}
use Rattle.uca_match.specs.declared.key_map.Edge.{Edge}
use Rattle.uca_match.proofs.TrieSteps.{no_listed, length-with_root, with_position_put, number_within}
use Rattle.uca_elements.proofs.RowsByKey.{same_key-true, same_key-itself}
use Rattle.uca_match.proofs.PlacedKeys.{placed_of_found, found_of_placed, placed_here, key_at_position}
use Rattle.uca_match.proofs.TrieWalks.{walk_root, one_path}

-- ---- Options

-- options with the same values are the same
same_options : {X : Type 0} (a b : Option X) → ((x : X) → a ≡ Some x → b ≡ Some x) → ((x : X) → b ≡ Some x → a ≡ Some x) → a ≡ b
same_options None None there back = refl
same_options None (Some y) there back = back y refl
same_options (Some x) b there back = sym (there x refl)

and_then_same : {X Y : Type 0} (f g : X → Option Y) → ((x : X) → f x ≡ g x) → (o : Option X) → option_and_then f o ≡ option_and_then g o
and_then_same f g same None = refl
and_then_same f g same (Some x) = same x

-- ---- A root alone

leaf_everywhere : (n : ℕ) → node_at (empty_node ∷ []) n ≡ empty_node
leaf_everywhere zero = refl
leaf_everywhere (suc n) = refl

pub positions_of_leaf : (key : List ℕ) → positions_in (empty_node ∷ []) key ≡ None
positions_of_leaf [] = refl
positions_of_leaf (c ∷ key) = refl

pub IsTree-empty_node : IsTree (empty_node ∷ [])
IsTree-empty_node = record {
  texts = [] ∷ [];
  shape = record {
    some = omega arith;
    same = refl;
    root = refl;
    edges = λ n c m within leads.
        let none : ◌≡◌ {A = Option ℕ} None (Some m) = ap (λ (b : NodeContent). b.leads c) (sym (leaf_everywhere n)) ∙ leads in
        cc;
  };
  no_dead_end = λ n later within. absurd (omega arith);
}

-- ---- A position for a node

-- code points lead where they led
leads_stay : (nodes : List NodeContent) (n : ℕ) (b : NodeContent) → b.leads ≡ (node_at nodes n).leads → (k : ℕ) →
    (node_at (set nodes n b) k).leads ≡ (node_at nodes k).leads
leads_stay [] n b same k = refl
leads_stay (a ∷ nodes) zero b same zero = same
leads_stay (a ∷ nodes) zero b same (suc k) = refl
leads_stay (a ∷ nodes) (suc n) b same zero = refl
leads_stay (a ∷ nodes) (suc n) b same (suc k) = leads_stay nodes n b same k

-- and so do lists of them
walks_stay : (nodes : List NodeContent) (n : ℕ) (b : NodeContent) → b.leads ≡ (node_at nodes n).leads → (k : ℕ) (key : List ℕ) →
    walk (set nodes n b) k key ≡ walk nodes k key
walks_stay nodes n b same k [] = refl
walks_stay nodes n b same k (c ∷ key) =
    ap (λ (leads : ℕ → Option ℕ). option_and_then (λ m. walk (set nodes n b) m key) (leads c)) (leads_stay nodes n b same k)
    ∙ and_then_same (λ m. walk (set nodes n b) m key) (λ m. walk nodes m key) (λ m. walks_stay nodes n b same m key) ((node_at nodes k).leads c)

nodes_stay : (nodes : List NodeContent) (texts : List (List ℕ)) → AreNodes nodes texts → (n : ℕ) (b : NodeContent) →
    b.leads ≡ (node_at nodes n).leads → AreNodes (set nodes n b) texts
nodes_stay nodes texts shape n b same =
    let long = length-set nodes n b in
    record {
      some = subst (λ l. 0 < l) (sym long) shape.some;
      same = shape.same ∙ sym long;
      root = shape.root;
      edges = λ k c m within leads. shape.edges k c m (subst (λ l. k < l) long within)
          (ap (λ (to : ℕ → Option ℕ). to c) (sym (leads_stay nodes n b same k)) ∙ leads);
    }

-- a key has the position of its node
placed_there : (nodes : List NodeContent) (n : ℕ) (b : NodeContent) (key : List ℕ) → b.leads ≡ (node_at nodes n).leads → n < length nodes →
    walk nodes 0 key ≡ Some n → positions_in (set nodes n b) key ≡ b.position
placed_there nodes n b key same within leads =
    ap (λ o. option_and_then (λ m. (node_at (set nodes n b) m).position) o) (walks_stay nodes n b same 0 key ∙ leads)
    ∙ ap (λ (a : NodeContent). a.position) (get_or-set_same nodes n b empty_node within)

-- and another key those of before
placed_elsewhere : (nodes : List NodeContent) (n : ℕ) (b : NodeContent) (key : List ℕ) → b.leads ≡ (node_at nodes n).leads →
    (walk nodes 0 key ≡ Some n → ⊥) → positions_in (set nodes n b) key ≡ positions_in nodes key
placed_elsewhere nodes n b key same elsewhere =
    ap (λ o. option_and_then (λ m. (node_at (set nodes n b) m).position) o) (walks_stay nodes n b same 0 key) ∙ go (walk nodes 0 key) elsewhere
  where
    go : (o : Option ℕ) → (o ≡ Some n → ⊥) → option_and_then (λ m. (node_at (set nodes n b) m).position) o ≡ option_and_then (λ m. (node_at nodes m).position) o
    go None other = refl
    go (Some m) other = ap (λ (a : NodeContent). a.position) (get_or-set_other nodes n m b empty_node (λ is. other (ap Some is)))

placed_after : (nodes : List NodeContent) (texts : List (List ℕ)) → AreNodes nodes texts → (n : ℕ) (b : NodeContent) (placed : Placed) →
    b.leads ≡ (node_at nodes n).leads → b.position ≡ Some placed.position → walk nodes 0 placed.key ≡ Some n → (key : List ℕ) →
    positions_in (set nodes n b) key ≡ with_position (positions_in nodes) placed key
placed_after nodes texts shape n b placed same position leads key =
    cond_both (same_key placed.key key) (Some placed.position) (positions_in nodes key) (λ o. positions_in (set nodes n b) key ≡ o)
    (λ is.
    let there : walk nodes 0 key ≡ Some n = ap (walk nodes 0) (sym (same_key-true placed.key key is)) ∙ leads in
    placed_there nodes n b key same (walk_root nodes texts shape n placed.key leads).0 there ∙ position)
    (λ other. placed_elsewhere nodes n b key same (λ there.
    let is = one_path nodes texts shape n placed.key key leads there in
    false≢true (sym other ∙ subst (λ k. same_key placed.key k ≡ true) is (same_key-itself placed.key))))

-- the position of a key, for the node to which it leads
pub key_put : (start nodes : List NodeContent) (n : ℕ) (b : NodeContent) (placed : Placed) → IsAlong start nodes placed.key n →
    b.leads ≡ (node_at nodes n).leads → b.position ≡ Some placed.position →
    IsTree (set nodes n b) × ((key : List ℕ) → positions_in (set nodes n b) key ≡ with_position (positions_in start) placed key)
key_put start nodes n b placed along same position =
    let within = (walk_root nodes along.texts along.shape n placed.key along.leads).0 in
    let no_dead_end : (k : ℕ) → 0 < k → k < length (set nodes n b) → IsNoDeadEnd (node_at (set nodes n b) k) = λ k later inside.
    ⊎_elim
    (λ is.
    let here : node_at (set nodes n b) k ≡ b = ap (node_at (set nodes n b)) is ∙ get_or-set_same nodes n b empty_node within in
    subst IsNoDeadEnd (sym here) (λ none. let wrong : Some placed.position ≡ None = sym position ∙ none in cc))
    (λ other. subst IsNoDeadEnd (sym (get_or-set_other nodes n k b empty_node other))
    (along.no_dead_end k later (subst (λ l. k < l) (length-set nodes n b) inside) other))
    (cases_eq k n) in (
      record { texts = along.texts; shape = nodes_stay nodes along.texts along.shape n b same; no_dead_end = no_dead_end },
      λ key. placed_after nodes along.texts along.shape n b placed same position along.leads key
          ∙ ap (λ o. cond (same_key placed.key key) (Some placed.position) o) (along.same key),
    )

-- the position of a key goes to a listed node
pub key_placed : (start : List NodeContent) (root : ℕ → ℕ) (nodes : List ListedNode) (n : ℕ) (edges : List Edge) (placed : Placed) →
    IsAlong start (with_root root nodes) placed.key n → edges ≡ (get_or nodes n no_listed).edges →
    IsTree (with_root root (set nodes n (record { edges = edges; position = Some placed.position })))
    × ((key : List ℕ) → positions_in (with_root root (set nodes n (record { edges = edges; position = Some placed.position }))) key
    ≡ with_position (positions_in start) placed key)
key_placed start root nodes n edges placed along same =
    let within : n < length nodes = omega (arith, number_within along, length-with_root root nodes) in
    let b : NodeContent = record { leads = (node_at (with_root root nodes) n).leads; position = Some placed.position } in
    let put = key_put start (with_root root nodes) n b placed along refl refl in
    let listed : with_root root (set nodes n (record { edges = edges; position = Some placed.position })) ≡ set (with_root root nodes) n b =
    ap (λ (es : List Edge). with_root root (set nodes n (record { edges = es; position = Some placed.position }))) same
    ∙ with_position_put root nodes n no_listed (Some placed.position) within in
    (subst IsTree (sym listed) put.0, λ key. ap (λ list. positions_in list key) listed ∙ put.1 key)

-- ---- One key after another

-- the nodes have positions of these keys alone, and those of the keys that are done
pub record IsBuilt (keys : List (List ℕ)) (Done : Placed → Type 0) (nodes : List NodeContent) : Type 0 where
  pub tree : IsTree nodes
  pub sound : (key : List ℕ) (position : ℕ) → positions_in nodes key ≡ Some position →
      Contains (placed_from 0 keys) (record { key = key; position = position })
  pub complete : (placed : Placed) → Contains (placed_from 0 keys) placed → Done placed → positions_in nodes placed.key ≡ Some placed.position

-- a key of one code point whose position is below i
abbrev pub IsShortBelow : ℕ → Placed → Type 0
IsShortBelow i placed = (placed.position < i) × (length placed.key ≡ 1)

-- a key of one code point, or one of the first i of a list
abbrev pub IsShortOr : List Placed → ℕ → Placed → Type 0
IsShortOr list i placed = (length placed.key ≡ 1) ⊎ Contains (take i list) placed

module _ (keys : List (List ℕ)) (distinct : AreDistinctKeys keys) where
  -- a root alone has none
  pub IsBuilt-none : (Done : Placed → Type 0) → ((placed : Placed) → Contains (placed_from 0 keys) placed → Done placed → ⊥) →
      IsBuilt keys Done (empty_node ∷ [])
  IsBuilt-none Done none = record {
    tree = IsTree-empty_node;
    sound = λ key position found. let wrong : ◌≡◌ {A = Option ℕ} None (Some position) = sym (positions_of_leaf key) ∙ found in cc;
    complete = λ placed h done. absurd (none placed h done);
  }

  -- of distinct keys, two that are the same have the same position
  one_position : (r s : Placed) → Contains (placed_from 0 keys) r → Contains (placed_from 0 keys) s → r.key ≡ s.key → r.position ≡ s.position
  one_position r s first second same =
      same_Some r.position s.position
      (sym (found_of_placed 0 keys distinct r first) ∙ ap (place_at 0 keys) same ∙ found_of_placed 0 keys distinct s second)

  -- one more key is done
  pub IsBuilt-push : (Done Later : Placed → Type 0) (placed : Placed) → Contains (placed_from 0 keys) placed →
      ((r : Placed) → Contains (placed_from 0 keys) r → Later r → Done r ⊎ (placed.key ≡ r.key)) → (nodes next : List NodeContent) → IsBuilt keys Done nodes →
      IsTree next → ((key : List ℕ) → positions_in next key ≡ with_position (positions_in nodes) placed key) → IsBuilt keys Later next
  IsBuilt-push Done Later placed in_keys later nodes next built tree put =
      let sound : (key : List ℕ) (position : ℕ) → positions_in next key ≡ Some position →
      Contains (placed_from 0 keys) (record { key = key; position = position }) = λ key position found.
      cond_both (same_key placed.key key) (Some placed.position) (positions_in nodes key)
      (λ o. o ≡ Some position → Contains (placed_from 0 keys) (record { key = key; position = position }))
      (λ is some.
      let same_position = same_Some placed.position position some in
      let same_placed : placed ≡ record { key = key; position = position } =
      λ i. record { key = same_key-true placed.key key is i; position = same_position i } in
      subst (Contains (placed_from 0 keys)) same_placed in_keys)
      (λ other some. built.sound key position some)
      (sym (put key) ∙ found) in
      let complete : (r : Placed) → Contains (placed_from 0 keys) r → Later r → positions_in next r.key ≡ Some r.position = λ r h done.
      put r.key ∙
      ⊎_elim
      (λ before.
      cond_both (same_key placed.key r.key) (Some placed.position) (positions_in nodes r.key) (λ o. o ≡ Some r.position)
      (λ is. ap Some (one_position placed r in_keys h (same_key-true placed.key r.key is)))
      (λ other. built.complete r h before))
      (λ here. cond-true (same_key placed.key r.key) (Some placed.position) (positions_in nodes r.key)
      (subst (λ (k : List ℕ). same_key placed.key k ≡ true) here (same_key-itself placed.key)) ∙ ap Some (one_position placed r in_keys h here))
      (later r h done) in
      record { tree = tree; sound = sound; complete = complete }

  -- nodes that are built for some keys are built for a part of these keys
  pub IsBuilt-same : (Done Later : Placed → Type 0) → ((r : Placed) → Contains (placed_from 0 keys) r → Later r → Done r) → (nodes : List NodeContent) →
      IsBuilt keys Done nodes → IsBuilt keys Later nodes
  IsBuilt-same Done Later later nodes built =
      record { tree = built.tree; sound = built.sound; complete = λ placed h done. built.complete placed h (later placed h done) }

  -- all keys are done
  pub IsBuilt-all : (Done : Placed → Type 0) → ((r : Placed) → Contains (placed_from 0 keys) r → Done r) → (nodes : List NodeContent) → IsBuilt keys Done nodes →
      (key : List ℕ) → positions_in nodes key ≡ place_at 0 keys key
  IsBuilt-all Done done nodes built key =
      same_options (positions_in nodes key) (place_at 0 keys key)
      (λ position found. found_of_placed 0 keys distinct (record { key = key; position = position }) (built.sound key position found))
      (λ position found.
      let placed : Placed = record { key = key; position = position } in
      let in_keys = placed_of_found 0 keys key position found in
      built.complete placed in_keys (done placed in_keys))

  -- ---- First the keys of one code point

  -- the key with a position is the one there
  key_is : (i : ℕ) (key : List ℕ) (r : Placed) → i < length keys → key ≡ get_or keys i key → Contains (placed_from 0 keys) r → r.position ≡ i → key ≡ r.key
  key_is i key r within is h same =
      let it = key_at_position 0 keys r h key in
      is ∙ ap (λ n. get_or keys n key) (let there : i ≡ r.position - 0 = omega arith in there) ∙ sym it.2

  -- the key at i is one
  pub IsBuilt-short : (i : ℕ) (key : List ℕ) → i < length keys → key ≡ get_or keys i key → (nodes next : List NodeContent) →
      IsBuilt keys (IsShortBelow i) nodes → IsTree next →
      ((other : List ℕ) → positions_in next other ≡ with_position (positions_in nodes) (record { key = key; position = i }) other) →
      IsBuilt keys (IsShortBelow (i + 1)) next
  IsBuilt-short i key within is nodes next built tree put =
      let placed : Placed = record { key = key; position = i } in
      IsBuilt-push (IsShortBelow i) (IsShortBelow (i + 1)) placed
      (subst (λ n. Contains (placed_from 0 keys) (record { key = key; position = n })) (let same : 0 + i ≡ i = omega arith in same)
      (placed_here 0 keys i key within is))
      (λ r h done.
      ⊎_elim
      (λ same. inr (key_is i key r within is h same))
      (λ other. inl (omega arith, done.1))
      (cases_eq r.position i))
      nodes next built tree put

  -- the key at i is another
  pub IsBuilt-other : (i : ℕ) (key : List ℕ) → i < length keys → key ≡ get_or keys i key → (length key ≡ 1 → ⊥) → (nodes : List NodeContent) →
      IsBuilt keys (IsShortBelow i) nodes → IsBuilt keys (IsShortBelow (i + 1)) nodes
  IsBuilt-other i key within is long nodes built =
      IsBuilt-same (IsShortBelow i) (IsShortBelow (i + 1))
      (λ r h done. ⊎_elim (λ same. absurd (long (ap length (key_is i key r within is h same) ∙ done.1))) (λ other. (omega arith, done.1)) (cases_eq r.position i))
      nodes built

  -- ---- Then the others

  module _ (list : List Placed) (long : AreLongKeys keys list) where
    pub IsBuilt-long_none : (i : ℕ) (nodes : List NodeContent) → length keys ≤ i → IsBuilt keys (IsShortBelow i) nodes → IsBuilt keys (IsShortOr list 0) nodes
    IsBuilt-long_none i nodes past built =
        IsBuilt-same (IsShortBelow i) (IsShortOr list 0)
        (λ r h done. ⊎_elim
        (λ short. let below = (key_at_position 0 keys r h []).1 in (omega (arith, below), short))
        (λ none. absurd (omega (arith, none.1)))
        done)
        nodes built

    pub IsBuilt-long : (i : ℕ) (placed : Placed) → i < length list → placed ≡ get_or list i placed → (nodes next : List NodeContent) →
        IsBuilt keys (IsShortOr list i) nodes → IsTree next → ((key : List ℕ) → positions_in next key ≡ with_position (positions_in nodes) placed key) →
        IsBuilt keys (IsShortOr list (i + 1)) next
    IsBuilt-long i placed within is nodes next built tree put =
        let more : take (i + 1) list ≡ take i list ++ placed ∷ [] = take_more list i placed within ∙ ap (λ r. take i list ++ r ∷ []) (sym is) in
        let in_list : Contains list placed = subst (λ all. Contains all placed) (take-append-drop (i + 1) list)
        (Contains-append_left (take (i + 1) list) (drop (i + 1) list) placed
        (subst (λ front. Contains front placed) (sym more) (Contains-push (take i list) placed))) in
        IsBuilt-push (IsShortOr list i) (IsShortOr list (i + 1)) placed ((long placed).0 in_list).0
        (λ r h done. ⊎_elim
        (λ short. inl (inl short))
        (λ inside. ⊎_elim (λ before. inl (inr before)) (λ here. inr (ap (λ (p : Placed). p.key) here))
        (Contains-push_cases (take i list) placed r (subst (λ front. Contains front r) more inside)))
        done)
        nodes next built tree put

    pub IsBuilt-long_all : (i : ℕ) (nodes : List NodeContent) → length list ≤ i → IsBuilt keys (IsShortOr list i) nodes → (key : List ℕ) →
        positions_in nodes key ≡ place_at 0 keys key
    IsBuilt-long_all i nodes past built =
        IsBuilt-all (IsShortOr list i)
        (λ r h. ⊎_elim
        (λ short. inl short)
        (λ other. inr (subst (λ all. Contains all r) (sym (take_all i list past)) ((long r).1 (h, other))))
        (cases_eq (length r.key) 1))
        nodes built

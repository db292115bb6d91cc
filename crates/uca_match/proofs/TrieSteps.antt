-- One more code point on the way to a key: the nodes with a new one, to which an edge leads.
use Rattle.std.proofs.Common.{◌≡◌, ◌≢◌, ◌⊎◌, ℕ, zero, suc, ◌<◌, inl, inr, List, [], ◌∷◌, ◌++◌, length, map, get_or, set, Option, Some, None, option_and_then}
use Rattle.std.proofs.Common.{refl, ap, subst, sym, ◌∙◌, arith, length-append, length-set}
use Rattle.std.proofs.lemmas.Bool.{cases_eq, cases_order}
use Rattle.std.proofs.lemmas.List.{get_or_append_left, get_or-set_same, get_or-set_other, get_or_push, get_or_default, length_push, length-map, get_or-map, map-set, map-append}
use Rattle.std.proofs.lemmas.Option.{none-some, same_Some}
use Rattle.std.specs.List.{insert}
use Rattle.uca_match.specs.Tries.{NodeContent, empty_node, node_at, walk, positions_in, LeadsOn, AreNodes, IsNoDeadEnd, ListedNode, target_of, numbered_target, by_edges, with_root, IsNewPlace}
use Rattle.uca_match.specs.Tries.{IsAlong}
use Rattle.uca_match.specs.declared.key_map.Edge.{Edge}
use Rattle.uca_match.proofs.TrieWalks.{walk_push, walk_root}
use Rattle.uca_match.proofs.TrieEdges.{none_at_new_place, target_of_new, target_of_others}

-- ---- A step that is there

-- something leaves the node
no_end_of_edge : (b : NodeContent) (c m : ℕ) → b.leads c ≡ Some m → IsNoDeadEnd b
no_end_of_edge b c m leads none = (c, m, leads)

walk_on : (nodes : List NodeContent) (n m k : ℕ) (front : List ℕ) (c : ℕ) → walk nodes n front ≡ Some m →
    (node_at nodes m).leads c ≡ Some k → walk nodes n (front ++ c ∷ []) ≡ Some k
walk_on nodes n m k front c first last = walk_push nodes n front c ∙ ap (option_and_then (λ i. (node_at nodes i).leads c)) first ∙ last

pub along_edge : (start nodes : List NodeContent) (front : List ℕ) (number c target : ℕ) → IsAlong start nodes front number →
    (node_at nodes number).leads c ≡ Some target → IsAlong start nodes (front ++ c ∷ []) target
along_edge start nodes front number c target along leads =
    record {
      texts = along.texts;
      shape = along.shape;
      leads = walk_on nodes 0 number target front c along.leads leads;
      no_dead_end = λ n above within other. elim (cases_eq n number) [
        | inl same ↦ subst (λ i. IsNoDeadEnd (node_at nodes i)) (sym same) (no_end_of_edge (node_at nodes number) c target leads)
        | inr apart ↦ along.no_dead_end n above within apart
      ];
      same = along.same;
    }

-- ---- A new step

-- two functions at what is there: they agree, or one comes to nothing and the other to k
onward : (f g : ℕ → Option ℕ) (o : Option ℕ) (k : ℕ) → ((i : ℕ) → o ≡ Some i → (f i ≡ g i) ⊎ ((g i ≡ None) × (f i ≡ Some k))) →
    (option_and_then f o ≡ option_and_then g o) ⊎ ((option_and_then g o ≡ None) × (option_and_then f o ≡ Some k))
onward f g None k h = inl refl
onward f g (Some i) k h = h i refl

same_then : {X Y : Type 0} (f g : X → Option Y) (o : Option X) → ((x : X) → o ≡ Some x → f x ≡ g x) → option_and_then f o ≡ option_and_then g o
same_then f g None h = refl
same_then f g (Some x) h = h x refl

-- the nodes with one more, to which an edge leads from the node `number`
abbrev pub with_step : List NodeContent → ℕ → (ℕ → Option ℕ) → List NodeContent
with_step old number leads = set (old ++ empty_node ∷ []) number (record { leads = leads; position = (node_at old number).position })

-- the code points lead where they did, and the new one to the new node
pub record AddsEdge (old : List NodeContent) (number point : ℕ) (leads : ℕ → Option ℕ) : Type 0 where
  pub within : number < length old
  pub none : (node_at old number).leads point ≡ None
  pub new : leads point ≡ Some (length old)
  pub others : (c : ℕ) → (point ≡ c → ⊥) → leads c ≡ (node_at old number).leads c

module _ (old : List NodeContent) (number point : ℕ) (leads : ℕ → Option ℕ) (adds : AddsEdge old number point leads) where
  abbrev nodes : List NodeContent
  nodes = with_step old number leads

  -- the text of the new node comes last
  abbrev with_text : List (List ℕ) → List (List ℕ)
  with_text texts = texts ++ (get_or texts number [] ++ point ∷ []) ∷ []

  -- ---- The nodes by their numbers

  length_with : length nodes ≡ suc (length old)
  length_with = length-set (old ++ empty_node ∷ []) number _ ∙ length-append old (empty_node ∷ []) ∙ omega arith

  at_number : node_at nodes number ≡ record { leads = leads; position = (node_at old number).position }
  at_number = get_or-set_same (old ++ empty_node ∷ []) number _ empty_node (omega (arith, adds.within, length-append old (empty_node ∷ [])))

  at_others : (n : ℕ) → n < length old → n ≢ number → node_at nodes n ≡ node_at old n
  at_others n within other = get_or-set_other (old ++ empty_node ∷ []) number n _ empty_node other
      ∙ get_or_append_left old (empty_node ∷ []) empty_node n within

  at_new : node_at nodes (length old) ≡ empty_node
  at_new = get_or-set_other (old ++ empty_node ∷ []) number (length old) _ empty_node (λ e. absurd (omega (arith, e, adds.within)))
      ∙ get_or_push old empty_node empty_node (length old) refl

  same_rows : (n : ℕ) → n < length old → (node_at nodes n).position ≡ (node_at old n).position
  same_rows n within = elim (cases_eq n number) [
    | inl same ↦ subst (λ i. (node_at nodes i).position ≡ (node_at old i).position) (sym same) (ap (λ (b : NodeContent). b.position) at_number)
    | inr apart ↦ ap (λ (b : NodeContent). b.position) (at_others n within apart)
  ]

  -- an edge of an old node is an old one, or the new one
  abbrev EdgeCase : ℕ → ℕ → Type 0
  EdgeCase n c = ((node_at nodes n).leads c ≡ (node_at old n).leads c) ⊎
      ((n ≡ number) × (c ≡ point) × ((node_at old n).leads c ≡ None) × ((node_at nodes n).leads c ≡ Some (length old)))

  number_cases : (c : ℕ) → EdgeCase number c
  number_cases c = elim (cases_eq point c) [
    | inl same ↦ inr (
      refl,
      sym same,
      ap (node_at old number).leads (sym same)
          ∙ adds.none,
      ap (λ (b : NodeContent). b.leads c) at_number ∙ ap leads (sym same) ∙ adds.new,
    )
    | inr apart ↦ inl (ap (λ (b : NodeContent). b.leads c) at_number ∙ adds.others c apart)
  ]

  edge_cases : (n c : ℕ) → n < length old → EdgeCase n c
  edge_cases n c within = elim (cases_eq n number) [
    | inl same ↦ subst (λ i. EdgeCase i c) (sym same) (number_cases c)
    | inr apart ↦ inl (ap (λ (b : NodeContent). b.leads c) (at_others n within apart))
  ]

  -- a node is an old one, or the new one
  node_cases : (n : ℕ) → n < length nodes → (n < length old) ⊎ (length old ≡ n)
  node_cases n within = elim (cases_order n (length old)) [
    | inl same ↦ inr (sym same)
    | inr (inl less) ↦ inl less
    | inr (inr more) ↦ absurd (omega (arith, more, within, length_with))
  ]

  -- ---- Where code points lead

  -- nothing leads on from the new node
  from_new : (key : List ℕ) → (walk nodes (length old) key ≡ None) ⊎ (walk nodes (length old) key ≡ Some (length old))
  from_new [] = inr refl
  from_new (c ∷ key) = inl (ap (λ (b : NodeContent). option_and_then (λ i. walk nodes i key) (b.leads c)) at_new)

  module _ (texts : List (List ℕ)) (shape : AreNodes old texts) where
    -- the code points lead where they led, or to the new node and nowhere before
    walk_cases : (m : ℕ) (key : List ℕ) → m < length old →
        (walk nodes m key ≡ walk old m key) ⊎ ((walk old m key ≡ None) × (walk nodes m key ≡ Some (length old)))
    walk_cases m [] within = inl refl
    walk_cases m (c ∷ key) within = elim (edge_cases m c within) [
      | inl same ↦
          let P : Option ℕ → Type 0 = λ o. (option_and_then (λ i. walk nodes i key) o ≡ walk old m (c ∷ key)) ⊎
          ((walk old m (c ∷ key) ≡ None) × (option_and_then (λ i. walk nodes i key) o ≡ Some (length old))) in
          subst P (sym same)
          (onward (λ i. walk nodes i key) (λ i. walk old i key) ((node_at old m).leads c) (length old)
          (λ i leads. walk_cases i key (subst (λ l. i < l) shape.same (shape.edges m c i within leads).within)))
      | inr step ↦
          let gone : walk old m (c ∷ key) ≡ None = ap (option_and_then (λ i. walk old i key)) step.2 in
          let comes : walk nodes m (c ∷ key) ≡ walk nodes (length old) key = ap (option_and_then (λ i. walk nodes i key)) step.3 in
          elim (from_new key) [
            | inl none ↦ inl (comes ∙ none ∙ sym gone)
            | inr some ↦ inr (gone, comes ∙ some)
          ]
    ]

    walk_stays : (m k : ℕ) (key : List ℕ) → m < length old → walk old m key ≡ Some k → walk nodes m key ≡ Some k
    walk_stays m k key within leads = elim (walk_cases m key within) [
      | inl same ↦ same ∙ leads
      | inr none ↦ absurd (none-some k (sym none.0 ∙ leads))
    ]

    held_same : (key : List ℕ) → positions_in nodes key ≡ positions_in old key
    held_same key = elim (walk_cases 0 key shape.some) [
      | inl same ↦
          ap (option_and_then (λ n. (node_at nodes n).position)) same ∙
          same_then (λ n. (node_at nodes n).position) (λ n. (node_at old n).position) (walk old 0 key)
          (λ n leads. same_rows n (walk_root old texts shape n key leads).0)
      | inr step ↦
          ap (option_and_then (λ n. (node_at nodes n).position)) step.1 ∙ ap (λ (b : NodeContent). b.position) at_new
          ∙ sym (ap (option_and_then (λ n. (node_at old n).position)) step.0)
    ]

    -- ---- What is true of the nodes

    text_within : (n : ℕ) → n < length texts → get_or (with_text texts) n [] ≡ get_or texts n []
    text_within n within = get_or_append_left texts ((get_or texts number [] ++ point ∷ []) ∷ []) [] n within

    still_leads : (n c m : ℕ) → n < length old → LeadsOn texts n c m → LeadsOn (with_text texts) n c m
    still_leads n c m within h =
        record {
          later = h.later;
          within = omega (arith, h.within, length_push texts (get_or texts number [] ++ point ∷ []));
          text = text_within m h.within ∙ h.text ∙ ap (λ t. t ++ c ∷ []) (sym (text_within n (omega (arith, within, shape.same))));
        }

    new_leads : LeadsOn (with_text texts) number point (length old)
    new_leads =
        record {
          later = adds.within;
          within = omega (arith, shape.same, length_push texts (get_or texts number [] ++ point ∷ []));
          text = get_or_push texts (get_or texts number [] ++ point ∷ []) [] (length old) shape.same
              ∙ ap (λ t. t ++ point ∷ []) (sym (text_within number (omega (arith, adds.within, shape.same))));
        }

    still_edges : (n c m : ℕ) → n < length old → (node_at nodes n).leads c ≡ Some m → LeadsOn (with_text texts) n c m
    still_edges n c m within leads = elim (edge_cases n c within) [
      | inl same ↦ still_leads n c m within (shape.edges n c m within (sym same ∙ leads))
      | inr step ↦
          let target : length old ≡ m = same_Some _ _ (sym step.3 ∙ leads) in
          subst (λ i. LeadsOn (with_text texts) i c m) (sym step.0)
          (subst (λ d. LeadsOn (with_text texts) number d m) (sym step.1)
          (subst (λ k. LeadsOn (with_text texts) number point k) target new_leads))
    ]

    nodes_with : AreNodes nodes (with_text texts)
    nodes_with =
        record {
          some = omega (arith, length_with);
          same = length_push texts (get_or texts number [] ++ point ∷ []) ∙ omega (arith, length_with, shape.same);
          root = text_within 0 (omega (arith, shape.some, shape.same)) ∙ shape.root;
          edges = λ n c m within leads. elim (node_cases n within) [
            | inl old_node ↦ still_edges n c m old_node leads
            | inr new_node ↦ absurd (none-some m (ap (λ (b : NodeContent). b.leads c) (sym at_new)
                ∙ ap (λ i. (node_at nodes i).leads c) new_node ∙ leads))
          ];
        }

  no_new_end : ((n : ℕ) → 0 < n → n < length old → n ≢ number → IsNoDeadEnd (node_at old n)) → (n : ℕ) → 0 < n → n < length nodes → n ≢ length old →
      IsNoDeadEnd (node_at nodes n)
  no_new_end before n above within other = elim (node_cases n within) [
    | inl old_node ↦ elim (cases_eq n number) [
      | inl same ↦ subst (λ i. IsNoDeadEnd (node_at nodes i)) (sym same)
          (no_end_of_edge (node_at nodes number) point (length old) (ap (λ (b : NodeContent). b.leads point) at_number ∙ adds.new))
      | inr apart ↦ subst IsNoDeadEnd (sym (at_others n old_node apart)) (before n above old_node apart)
    ]
    | inr new_node ↦ absurd (other (sym new_node))
  ]

  along_new : (start : List NodeContent) (front : List ℕ) → IsAlong start old front number → IsAlong start nodes (front ++ point ∷ []) (length old)
  along_new start front along =
      record {
        texts = with_text along.texts;
        shape = nodes_with along.texts along.shape;
        leads = walk_on nodes 0 number (length old) front point
            (walk_stays along.texts along.shape 0 number front along.shape.some along.leads)
            (ap (λ (b : NodeContent). b.leads point) at_number ∙ adds.new);
        no_dead_end = no_new_end along.no_dead_end;
        same = λ key. held_same along.texts along.shape key ∙ along.same key;
      }

-- ---- What the code does

pub number_within : {start nodes : List NodeContent} {front : List ℕ} {number : ℕ} → IsAlong start nodes front number → number < length nodes
number_within {nodes = nodes} {front = front} {number = number} along = (walk_root nodes along.texts along.shape number front along.leads).0

-- nodes as they are listed
abbrev pub no_listed : ListedNode
no_listed = record { edges = []; position = None }

pub length-with_root : (root : ℕ → ℕ) (nodes : List ListedNode) → length (with_root root nodes) ≡ length nodes
length-with_root root [] = refl
length-with_root root (b ∷ nodes) = ap suc (length-map nodes by_edges)

-- a node other than the root
pub below_root : (root : ℕ → ℕ) (nodes : List ListedNode) (n : ℕ) (d : ListedNode) → 0 < n → n < length nodes →
    node_at (with_root root nodes) n ≡ by_edges (get_or nodes n d)
below_root root [] n d above within = absurd (omega arith)
below_root root (b ∷ nodes) zero d above within = absurd (omega arith)
below_root root (b ∷ nodes) (suc n) d above within = get_or-map by_edges nodes n d empty_node (omega arith)

-- a new position for a node
pub with_position_put : (root : ℕ → ℕ) (nodes : List ListedNode) (n : ℕ) (d : ListedNode) (position : Option ℕ) → n < length nodes →
    with_root root (set nodes n (record { edges = (get_or nodes n d).edges; position = position }))
    ≡ set (with_root root nodes) n (record { leads = (node_at (with_root root nodes) n).leads; position = position })
with_position_put root [] n d position within = absurd (omega arith)
with_position_put root (b ∷ nodes) zero d position within = refl
with_position_put root (b ∷ nodes) (suc n) d position within =
    let put : NodeContent → NodeContent = λ a. record { leads = a.leads; position = position } in
    ap (λ rest. record { leads = λ c. numbered_target (root c); position = b.position } ∷ rest)
    (map-set by_edges nodes n (record { edges = (get_or nodes n d).edges; position = position })
    ∙ ap (λ (a : NodeContent). set (map by_edges nodes) n (put a)) (sym (get_or-map by_edges nodes n d empty_node (omega arith))))

-- a new node to which an edge leads from a node other than the root
pub with_edge_put : (root : ℕ → ℕ) (nodes : List ListedNode) (n : ℕ) (d : ListedNode) (edges : List Edge) → 0 < n → n < length nodes →
    with_root root (set (nodes ++ no_listed ∷ []) n (record { edges = edges; position = (get_or nodes n d).position }))
    ≡ with_step (with_root root nodes) n (target_of edges)
with_edge_put root [] n d edges above within = absurd (omega arith)
with_edge_put root (b ∷ nodes) zero d edges above within = absurd (omega arith)
with_edge_put root (b ∷ nodes) (suc n) d edges above within =
    let put : List NodeContent → NodeContent → List NodeContent = λ list a. set list n (record { leads = target_of edges; position = a.position }) in
    ap (λ rest. record { leads = λ c. numbered_target (root c); position = b.position } ∷ rest)
    (map-set by_edges (nodes ++ no_listed ∷ []) n (record { edges = edges; position = (get_or nodes n d).position })
    ∙ ap (λ list. set list n (record { leads = target_of edges; position = (get_or nodes n d).position })) (map-append by_edges nodes (no_listed ∷ []))
    ∙ ap (put (map by_edges nodes ++ empty_node ∷ [])) (sym (get_or-map by_edges nodes n d empty_node (omega arith))))

-- a new node to which a number leads from the root
pub with_number_put : (old root : ℕ → ℕ) (nodes : List ListedNode) → 0 < length nodes →
    with_root root (nodes ++ no_listed ∷ []) ≡ with_step (with_root old nodes) 0 (λ c. numbered_target (root c))
with_number_put old root [] some = absurd (omega arith)
with_number_put old root (b ∷ nodes) some =
    ap (λ rest. record { leads = λ c. numbered_target (root c); position = b.position } ∷ rest) (map-append by_edges nodes (no_listed ∷ []))

pub root_leads : (root : ℕ → ℕ) (nodes : List ListedNode) (c : ℕ) → 0 < length nodes → (node_at (with_root root nodes) 0).leads c ≡ numbered_target (root c)
root_leads root [] c some = absurd (omega arith)
root_leads root (b ∷ rest) c some = refl

-- a root alone that leads nowhere
pub root_alone : (root : ℕ → ℕ) → ((c : ℕ) → root c ≡ 0) → with_root root (no_listed ∷ []) ≡ empty_node ∷ []
root_alone root none = λ i. record { leads = λ c. numbered_target (none c i); position = None } ∷ []

-- a listed node that was read after one more was added
pub pushed_read : (nodes pushed : List ListedNode) (n : ℕ) (b new : ListedNode) → n < length nodes → pushed ≡ nodes ++ new ∷ [] → b ≡ get_or pushed n b →
    b ≡ get_or nodes n no_listed
pushed_read nodes pushed n b new within push read =
    read ∙ ap (λ (list : List ListedNode). get_or list n b) push ∙ get_or_append_left nodes (new ∷ []) b n within ∙ get_or_default nodes n b no_listed within

-- ---- One more step

-- by a number that is there
pub target_there : (n : ℕ) → 0 < n → numbered_target n ≡ Some n
target_there zero above = absurd (omega arith)
target_there (suc n) above = refl

pub target_none : (n : ℕ) → n ≡ 0 → numbered_target n ≡ None
target_none n none = ap numbered_target none

-- by a new edge
pub along_edge_put : (start : List NodeContent) (root : ℕ → ℕ) (nodes : List ListedNode) (front : List ℕ) (n : ℕ) (d : ListedNode) (point at target : ℕ)
    (after : List Edge) → 0 < n → IsAlong start (with_root root nodes) front n → IsNewPlace (get_or nodes n d).edges point at → target ≡ length nodes →
    after ≡ insert (get_or nodes n d).edges at (record { point = point; target = target }) →
    IsAlong start (with_root root (set (nodes ++ no_listed ∷ []) n (record { edges = after; position = (get_or nodes n d).position })))
    (front ++ point ∷ []) target
along_edge_put start root nodes front n d point at target after above along new is_target put =
    let old : List NodeContent = with_root root nodes in
    let within : n < length nodes = omega (arith, number_within along, length-with_root root nodes) in
    let last : target ≡ length old = omega (arith, is_target, length-with_root root nodes) in
    let edges : List Edge = (get_or nodes n d).edges in
    let e : Edge = record { point = point; target = target } in
    let here : (node_at old n).leads ≡ target_of edges = ap (λ (b : NodeContent). b.leads) (below_root root nodes n d above within) in
    let none = none_at_new_place edges point at new in
    let same = ap target_of put in
    let adds : AddsEdge old n point (target_of after) = record {
      within = number_within along;
      none = ap (λ (leads : ℕ → Option ℕ). leads point) here ∙ none;
      new = ap (λ (leads : ℕ → Option ℕ). leads point) same ∙ target_of_new edges at e none ∙ ap Some last;
      others = λ c other. ap (λ (leads : ℕ → Option ℕ). leads c) same ∙ target_of_others edges at e c other
          ∙ ap (λ (leads : ℕ → Option ℕ). leads c) (sym here);
    } in
    subst (λ t. IsAlong start (with_root root (set (nodes ++ no_listed ∷ []) n (record { edges = after; position = (get_or nodes n d).position })))
    (front ++ point ∷ []) t) (sym last)
    (subst (λ list. IsAlong start list (front ++ point ∷ []) (length old)) (sym (with_edge_put root nodes n d after above within))
    (along_new old n point (target_of after) adds start front along))

-- by a new number
pub along_number_put : (start : List NodeContent) (old root : ℕ → ℕ) (nodes : List ListedNode) (front : List ℕ) (point target : ℕ) →
    IsAlong start (with_root old nodes) front 0 → old point ≡ 0 → target ≡ length nodes → root point ≡ target → ((c : ℕ) → c ≢ point → root c ≡ old c) →
    IsAlong start (with_root root (nodes ++ no_listed ∷ [])) (front ++ point ∷ []) target
along_number_put start old root nodes front point target along none is_target here others =
    let before : List NodeContent = with_root old nodes in
    let some : 0 < length nodes = omega (arith, number_within along, length-with_root old nodes) in
    let last : target ≡ length before = omega (arith, is_target, length-with_root old nodes) in
    let adds : AddsEdge before 0 point (λ c. numbered_target (root c)) = record {
      within = number_within along;
      none = root_leads old nodes point some ∙ target_none (old point) none;
      new = ap numbered_target here ∙ target_there target (omega (arith, some, is_target)) ∙ ap Some last;
      others = λ c other. ap numbered_target (others c (λ same. other (sym same))) ∙ sym (root_leads old nodes c some);
    } in
    subst (λ t. IsAlong start (with_root root (nodes ++ no_listed ∷ [])) (front ++ point ∷ []) t) (sym last)
    (subst (λ list. IsAlong start list (front ++ point ∷ []) (length before)) (sym (with_number_put old root nodes some))
    (along_new before 0 point (λ c. numbered_target (root c)) adds start front along))

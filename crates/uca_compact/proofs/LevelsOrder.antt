-- Compact keys keep the order of levels.
use Rattle.std.proofs.Common.{◌≡◌, ◌⊎◌, inl, inr, ℕ, suc, ◌+◌, ◌<◌, ◌≤◌, List, [], ◌∷◌, ◌++◌, cond, length, refl, ap, sym, subst, ◌∙◌, arith}
use Rattle.std.specs.Prelude.{⊤}
use Rattle.std.specs.Ordering.{nat_cmp, ordering_then, ordering_reverse, is_eq}
use Rattle.std.specs.Cmp.{then_flip}
use Rattle.std.specs.declared.cmp.Ordering.{Ordering}
use Rattle.std.specs.declared.cmp.Ordering.TheVariants.{Less, Equal, Greater}
use Rattle.std.proofs.lemmas.Bool.Decides.{nat_tests}
use Rattle.std.proofs.lemmas.Cmp.{nat_list_cmp_total}
use Rattle.std.proofs.lemmas.Map.Text.{is_eq-slice_cmp}
use Rattle.uca_order.specs.Levels.{lexicographic, compare_from}
use Rattle.uca_order.proofs.KeyOrder.{lexicographic_itself, same_from_lexicographic, order-decided}
use Rattle.uca_compact.specs.Forms.{Form, IsForm, ends_before, AreForms, AreWeights, AreLevels}
use Rattle.uca_compact.specs.CompactKeys.{Plain, level_code, end_by, end_of, later_levels, compact}
use Rattle.uca_compact.specs.Laws.{CompactLevelsKeepOrder}
use Rattle.uca_compact.proofs.Below.{IsBelow, below_append, below_after, below_less, lexicographic_after}
use Rattle.uca_compact.proofs.RunOrder.{Precedes, levels_keep}

-- ---- Lists of numbers

-- the other way round
pub less_turned : (xs ys : List ℕ) → lexicographic xs ys ≡ Less → lexicographic ys xs ≡ Greater
less_turned xs ys h = nat_list_cmp_total.antisymm ys xs ∙ ap ordering_reverse h

pub greater_turned : (xs ys : List ℕ) → lexicographic xs ys ≡ Greater → lexicographic ys xs ≡ Less
greater_turned xs ys h = nat_list_cmp_total.antisymm ys xs ∙ ap ordering_reverse h

-- a lesser list comes before, whatever the ends, by how the first weights compare
precedes_by : (v w : ℕ) (vs ws : List ℕ) (d e : ℕ) (o : Ordering) → nat_cmp v w ≡ o → ordering_then o (lexicographic vs ws) ≡ Less
    → (lexicographic vs ws ≡ Less → Precedes vs d ws e) → Precedes (v ∷ vs) d (w ∷ ws) e
precedes_by v w vs ws d e Less is h more = inl (grind (arith, nat_tests))
precedes_by v w vs ws d e Equal is h more = inr (grind (arith, nat_tests), more h)
precedes_by v w vs ws d e Greater is h more = absurd (cc)

-- a lesser list comes before, whatever the ends
pub precedes_less : (vs ws : List ℕ) (d e : ℕ) → lexicographic vs ws ≡ Less → Precedes vs d ws e
precedes_less [] [] d e h = absurd (cc)
precedes_less [] (w ∷ ws) d e h = tt
precedes_less (v ∷ vs) [] d e h = absurd (cc)
precedes_less (v ∷ vs) (w ∷ ws) d e h = precedes_by v w vs ws d e (nat_cmp v w) refl h (precedes_less vs ws d e)

-- and so does the same list with a lesser end
pub precedes_end : (vs : List ℕ) (d e : ℕ) → d < e → Precedes vs d vs e
precedes_end [] d e h = h
precedes_end (v ∷ vs) d e h = inr (refl, precedes_end vs d e h)

-- ---- Ends

-- an end is as near to `all` as levels follow
pub end_bounds : (plain : Plain) (all : ℕ) (earlier levels : List (List ℕ)) → length levels ≤ all
    → (all ≤ end_of plain all earlier levels + length levels) × (end_of plain all earlier levels ≤ all + length levels)
end_bounds plain all earlier [] h = (omega arith, omega arith)
end_bounds plain all earlier (level ∷ later) h =
    let more = end_bounds plain all (earlier ++ level ∷ []) later (omega arith) in
    elim (lexicographic level (plain earlier)) as (λ o. (all ≤ end_by o all (length later) (end_of plain all (earlier ++ level ∷ []) later) + suc (length later))
    × (end_by o all (length later) (end_of plain all (earlier ++ level ∷ []) later) ≤ all + suc (length later))) [
      | Less ↦ (omega arith, omega arith)
      | Equal ↦ (omega (arith, more.0), omega (arith, more.1))
      | Greater ↦ (omega arith, omega arith)
    ]

-- a form has room for its end
pub end_fits : (plain : Plain) (f : Form) (forms : List Form) (earlier levels : List (List ℕ)) → f.ends ≡ ends_before (length forms)
    → length levels ≡ length forms → end_of plain (length levels) earlier levels < f.ends
end_fits plain f forms earlier levels ends same =
    let bounds = end_bounds plain (length levels) earlier levels (omega arith) in
    omega (arith, bounds.1, same, ends)

-- a level of weights for each form
abbrev pub AreFor : List Form → List (List ℕ) → Type 0
AreFor [] [] = ⊤
AreFor [] (a ∷ levels) = ⊥
AreFor (f ∷ forms) [] = ⊥
AreFor (f ∷ forms) (a ∷ levels) = AreWeights a × AreFor forms levels

-- as many levels as forms
pub each_level : (forms : List Form) (levels : List (List ℕ)) → AreLevels (length forms) levels → AreFor forms levels
each_level [] [] h = tt
each_level [] (a ∷ levels) h = absurd (omega (arith, h.0))
each_level (f ∷ forms) [] h = absurd (omega (arith, h.0))
each_level (f ∷ forms) (a ∷ levels) h = (h.1.0, each_level forms levels (omega (arith, h.0), h.1.1))

-- there are as many
pub levels_length : (forms : List Form) (levels : List (List ℕ)) → AreFor forms levels → length levels ≡ length forms
levels_length [] [] h = refl
levels_length [] (a ∷ levels) h = absurd h
levels_length (f ∷ forms) [] h = absurd h
levels_length (f ∷ forms) (a ∷ levels) h = ap suc (levels_length forms levels h.1)

-- ---- Levels after the first

-- how levels compare: by the first one that differs
abbrev pub levels_order : List (List ℕ) → List (List ℕ) → Ordering
levels_order (a ∷ left) (b ∷ right) = ordering_then (lexicographic a b) (levels_order left right)
levels_order [] right = Equal
levels_order (a ∷ left) [] = Equal

-- later levels come before others, by the end of the level before them or else by the bytes
abbrev pub ComeBefore : ℕ → Plain → List Form → (earlier left right : List (List ℕ)) → Type 0
ComeBefore all plain forms earlier left right =
    (end_of plain all earlier left < end_of plain all earlier right)
    ⊎ ((end_of plain all earlier left ≡ end_of plain all earlier right) × IsBelow (later_levels plain forms earlier left) (later_levels plain forms earlier right))

-- they do where they are less
abbrev pub KeepOrder : Plain → List Form → (earlier left right : List (List ℕ)) → Type 0
KeepOrder plain forms earlier left right =
    (all : ℕ) → length left ≤ all → levels_order left right ≡ Less → ComeBefore all plain forms earlier left right

-- a level with its end, and what comes after it
abbrev pub level_and_later : Plain → Form → List Form → (earlier : List (List ℕ)) → ℕ → List ℕ → List (List ℕ) → List ℕ
level_and_later plain f forms earlier all level later =
    level_code f (end_of plain all (earlier ++ level ∷ []) later) 0 level ++ later_levels plain forms (earlier ++ level ∷ []) later

-- two levels that are written, by how they compare
pub both_written : (plain : Plain) (f : Form) (forms : List Form) (earlier left right : List (List ℕ)) (a b : List ℕ)
    → IsForm f → f.ends ≡ ends_before (length forms) → AreWeights a → AreWeights b → length left ≡ length forms → length right ≡ length forms
    → KeepOrder plain forms (earlier ++ a ∷ []) left right → (r : Ordering) → lexicographic a b ≡ r → ordering_then r (levels_order left right) ≡ Less
    → IsBelow (level_and_later plain f forms earlier (length left) a left) (level_and_later plain f forms earlier (length right) b right)
both_written plain f forms earlier left right a b form ends aw bw nl nr more Less is h =
    below_append _ _ _ _
    (levels_keep f form a b (end_of plain (length left) (earlier ++ a ∷ []) left) (end_of plain (length right) (earlier ++ b ∷ []) right) aw bw
    (end_fits plain f forms (earlier ++ a ∷ []) left ends nl) (end_fits plain f forms (earlier ++ b ∷ []) right ends nr)
    (precedes_less a b (end_of plain (length left) (earlier ++ a ∷ []) left) (end_of plain (length right) (earlier ++ b ∷ []) right) is))
both_written plain f forms earlier left right a b form ends aw bw nl nr more Equal is h =
    let one : length left ≡ length right = nl ∙ sym nr in
    let d = end_of plain (length left) (earlier ++ a ∷ []) left in
    let e = end_of plain (length left) (earlier ++ a ∷ []) right in
    let df : d < f.ends = end_fits plain f forms (earlier ++ a ∷ []) left ends nl in
    let ef : e < f.ends = let bounds = end_bounds plain (length left) (earlier ++ a ∷ []) right (omega (arith, one)) in omega (arith, bounds.1, one, nr, ends) in
    subst (λ (u : List ℕ). IsBelow (level_and_later plain f forms earlier (length left) a left) (level_and_later plain f forms earlier (length right) u right))
    (same_from_lexicographic a b is)
    (subst (λ (k : ℕ). IsBelow (level_and_later plain f forms earlier (length left) a left) (level_and_later plain f forms earlier k a right)) one
    (elim (more (length left) (omega arith) h) [
      | inl less ↦ below_append _ _ _ _ (levels_keep f form a a d e aw aw df ef (precedes_end a d e less))
      | inr same ↦ subst (λ (k : ℕ). IsBelow (level_and_later plain f forms earlier (length left) a left)
          (level_code f k 0 a ++ later_levels plain forms (earlier ++ a ∷ []) right)) same.0
          (below_after (level_code f d 0 a) _ _ same.1)
    ]))
both_written plain f forms earlier left right a b form ends aw bw nl nr more Greater is h = absurd (cc)

-- levels from here on, by how the first of each side compares to the plain one
abbrev pub end_and_bytes : ℕ → Plain → Form → List Form → (earlier : List (List ℕ)) → List ℕ → List (List ℕ) → Ordering → ℕ × List ℕ
end_and_bytes all plain f forms earlier a left o = (
  end_by o all (length left) (end_of plain all (earlier ++ a ∷ []) left),
  cond (is_eq o) (later_levels plain forms (earlier ++ a ∷ []) left) (level_and_later plain f forms earlier (length left) a left),
)

abbrev pub IsBefore : ℕ × List ℕ → ℕ × List ℕ → Type 0
IsBefore x y = (x.0 < y.0) ⊎ ((x.0 ≡ y.0) × IsBelow x.1 y.1)

-- levels on two sides of the plain one cannot be greater first
wrong_order : (a b : List ℕ) (left right : List (List ℕ)) → lexicographic a b ≡ Greater → ordering_then (lexicographic a b) (levels_order left right) ≡ Less → Less ≡ Greater
wrong_order a b left right is h = sym h ∙ ap (λ o. ordering_then o (levels_order left right)) is

later_step : (all : ℕ) (plain : Plain) (f : Form) (forms : List Form) (earlier left right : List (List ℕ)) (a b : List ℕ)
    → suc (length left) ≤ all → IsForm f → f.ends ≡ ends_before (length forms) → AreWeights a → AreWeights b
    → length left ≡ length forms → length right ≡ length forms → KeepOrder plain forms (earlier ++ a ∷ []) left right
    → ordering_then (lexicographic a b) (levels_order left right) ≡ Less → (o q : Ordering)
    → lexicographic a (plain earlier) ≡ o → lexicographic b (plain earlier) ≡ q
    → IsBefore (end_and_bytes all plain f forms earlier a left o) (end_and_bytes all plain f forms earlier b right q)
later_step all plain f forms earlier left right a b room form ends aw bw nl nr more h Less Less oa ob =
    inr (omega (arith, nl, nr), both_written plain f forms earlier left right a b form ends aw bw nl nr more (lexicographic a b) refl h)
later_step all plain f forms earlier left right a b room form ends aw bw nl nr more h Less Equal oa ob =
    let e = end_bounds plain all (earlier ++ b ∷ []) right (omega (arith, nl, nr)) in
    inl (omega (arith, nl, nr, e.0))
later_step all plain f forms earlier left right a b room form ends aw bw nl nr more h Less Greater oa ob = inl (omega arith)
later_step all plain f forms earlier left right a b room form ends aw bw nl nr more h Equal Less oa ob =
    let e : lexicographic a b ≡ Greater = nat_list_cmp_total.congr a (plain earlier) b oa ∙ less_turned b (plain earlier) ob in
    absurd (let f = wrong_order a b left right e h in cc)
later_step all plain f forms earlier left right a b room form ends aw bw nl nr more h Equal Equal oa ob =
    let same : a ≡ b = same_from_lexicographic a (plain earlier) oa ∙ sym (same_from_lexicographic b (plain earlier) ob) in
    let none : lexicographic a b ≡ Equal = subst (λ (u : List ℕ). lexicographic a u ≡ Equal) same (lexicographic_itself a) in
    subst (λ (u : List ℕ). IsBefore (end_and_bytes all plain f forms earlier a left Equal) (end_and_bytes all plain f forms earlier u right Equal)) same
    (more all (omega arith) (ap (λ o. ordering_then o (levels_order left right)) (sym none) ∙ h))
later_step all plain f forms earlier left right a b room form ends aw bw nl nr more h Equal Greater oa ob =
    let d = end_bounds plain all (earlier ++ a ∷ []) left (omega arith) in
    inl (omega (arith, nl, nr, d.1))
later_step all plain f forms earlier left right a b room form ends aw bw nl nr more h Greater Less oa ob =
    let e : lexicographic b a ≡ Less = nat_list_cmp_total.trans b (plain earlier) a ob (greater_turned a (plain earlier) oa) in
    absurd (let f = wrong_order a b left right (less_turned b a e) h in cc)
later_step all plain f forms earlier left right a b room form ends aw bw nl nr more h Greater Equal oa ob =
    let e : lexicographic b a ≡ Less = nat_list_cmp_total.congr b (plain earlier) a ob ∙ greater_turned a (plain earlier) oa in
    absurd (let f = wrong_order a b left right (less_turned b a e) h in cc)
later_step all plain f forms earlier left right a b room form ends aw bw nl nr more h Greater Greater oa ob =
    inr (omega (arith, nl, nr), both_written plain f forms earlier left right a b form ends aw bw nl nr more (lexicographic a b) refl h)

pub later_order : (plain : Plain) (forms : List Form) (earlier left right : List (List ℕ)) → AreForms forms → AreFor forms left → AreFor forms right
    → KeepOrder plain forms earlier left right
later_order plain [] earlier [] right fs ls rs all room h = absurd (cc)
later_order plain [] earlier (a ∷ left) right fs ls rs all room h = absurd ls
later_order plain (f ∷ forms) earlier [] right fs ls rs all room h = absurd ls
later_order plain (f ∷ forms) earlier (a ∷ left) [] fs ls rs all room h = absurd rs
later_order plain (f ∷ forms) earlier (a ∷ left) (b ∷ right) fs ls rs all room h =
    rw (← is_eq-slice_cmp a (plain earlier), ← is_eq-slice_cmp b (plain earlier))
    (later_step all plain f forms earlier left right a b room fs.0 fs.1 ls.0 rs.0 (levels_length forms left ls.1) (levels_length forms right rs.1)
    (later_order plain forms (earlier ++ a ∷ []) left right fs.2 ls.1 rs.1) h
    (lexicographic a (plain earlier)) (lexicographic b (plain earlier)) refl refl)

-- ---- All levels

-- lesser levels are written below
pub compact_below : (plain : Plain) (forms : List Form) (left right : List (List ℕ)) → AreForms forms → AreFor forms left → AreFor forms right
    → levels_order left right ≡ Less → IsBelow (compact plain forms left) (compact plain forms right)
compact_below plain [] [] right fs ls rs h = absurd (cc)
compact_below plain [] (a ∷ left) right fs ls rs h = absurd ls
compact_below plain (f ∷ forms) [] right fs ls rs h = absurd ls
compact_below plain (f ∷ forms) (a ∷ left) [] fs ls rs h = absurd rs
compact_below plain (f ∷ forms) (a ∷ left) (b ∷ right) fs ls rs h =
    both_written plain f forms [] left right a b fs.0 fs.1 ls.0 rs.0 (levels_length forms left ls.1) (levels_length forms right rs.1)
    (later_order plain forms (a ∷ []) left right fs.2 ls.1 rs.1) (lexicographic a b) refl h

-- the order the other way round
pub order_turned : (left right : List (List ℕ)) → levels_order right left ≡ ordering_reverse (levels_order left right)
order_turned [] [] = refl
order_turned [] (b ∷ right) = refl
order_turned (a ∷ left) [] = refl
order_turned (a ∷ left) (b ∷ right) =
    ap (λ o. ordering_then o (levels_order right left)) (nat_list_cmp_total.antisymm b a)
    ∙ ap (ordering_then (ordering_reverse (lexicographic a b))) (order_turned left right)
    ∙ then_flip (lexicographic a b) (levels_order left right)

-- levels that compare as equal are equal, by how the first ones compare
same_by : (a b : List ℕ) (left right : List (List ℕ)) (o : Ordering) → lexicographic a b ≡ o → ordering_then o (levels_order left right) ≡ Equal
    → (levels_order left right ≡ Equal → left ≡ right) → a ∷ left ≡ b ∷ right
same_by a b left right Less is h more = absurd (cc)
same_by a b left right Equal is h more =
    let first : a ≡ b = same_from_lexicographic a b is in
    let rest : left ≡ right = more h in
    cc
same_by a b left right Greater is h more = absurd (cc)

-- levels that compare as equal are equal
pub same_levels : (forms : List Form) (left right : List (List ℕ)) → AreFor forms left → AreFor forms right → levels_order left right ≡ Equal → left ≡ right
same_levels [] [] [] ls rs h = refl
same_levels [] [] (b ∷ right) ls rs h = absurd rs
same_levels [] (a ∷ left) right ls rs h = absurd ls
same_levels (f ∷ forms) [] right ls rs h = absurd ls
same_levels (f ∷ forms) (a ∷ left) [] ls rs h = absurd rs
same_levels (f ∷ forms) (a ∷ left) (b ∷ right) ls rs h =
    same_by a b left right (lexicographic a b) refl h (same_levels forms left right ls.1 rs.1)

pub compare_by : (plain : Plain) (forms : List Form) (left right : List (List ℕ)) → AreForms forms → AreFor forms left → AreFor forms right → (xs ys : List ℕ) (o : Ordering)
    → levels_order left right ≡ o
    → lexicographic (compact plain forms left ++ xs) (compact plain forms right ++ ys) ≡ ordering_then o (lexicographic xs ys)
compare_by plain forms left right fs ls rs xs ys Less is =
    below_less (compact plain forms left ++ xs) (compact plain forms right ++ ys)
    (below_append (compact plain forms left) (compact plain forms right) xs ys (compact_below plain forms left right fs ls rs is))
compare_by plain forms left right fs ls rs xs ys Equal is =
    subst (λ (u : List (List ℕ)). lexicographic (compact plain forms left ++ xs) (compact plain forms u ++ ys) ≡ lexicographic xs ys)
    (same_levels forms left right ls rs is) (lexicographic_after (compact plain forms left) xs ys)
compare_by plain forms left right fs ls rs xs ys Greater is =
    let turned : levels_order right left ≡ Less = order_turned left right ∙ ap ordering_reverse is in
    less_turned (compact plain forms right ++ ys) (compact plain forms left ++ xs)
    (below_less (compact plain forms right ++ ys) (compact plain forms left ++ xs)
    (below_append (compact plain forms right) (compact plain forms left) ys xs (compact_below plain forms right left fs rs ls turned)))

-- the order is that of `compare_from`
pub levels_order_is : (n : ℕ) (left right : List (List ℕ)) → levels_order left right ≡ (compare_from n left right).order
levels_order_is n [] right = refl
levels_order_is n (a ∷ left) [] = refl
levels_order_is n (a ∷ left) (b ∷ right) =
    ap (ordering_then (lexicographic a b)) (levels_order_is (suc n) left right)
    ∙ sym (order-decided (lexicographic a b) n (compare_from (suc n) left right))

-- the law
pub compact_order : CompactLevelsKeepOrder
compact_order plain forms left right fs ls rs xs ys =
    compare_by plain forms left right fs (each_level forms left ls) (each_level forms right rs) xs ys (levels_order left right) refl
    ∙ ap (λ o. ordering_then o (lexicographic xs ys)) (levels_order_is 1 left right)

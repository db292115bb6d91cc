-- Lesser first levels come before others, whatever comes after them.
use Rattle.std.proofs.Common.{◌≡◌, ◌⊎◌, inl, inr, ℕ, suc, ◌+◌, ◌<◌, ◌≤◌, List, [], ◌∷◌, ◌++◌, cond, length, refl, ap, sym, subst, ◌∙◌, arith}
use Rattle.std.specs.Prelude.{⊤}
use Rattle.std.specs.Ordering.{ordering_then, is_eq}
use Rattle.std.specs.declared.cmp.Ordering.{Ordering}
use Rattle.std.specs.declared.cmp.Ordering.TheVariants.{Less, Equal, Greater}
use Rattle.std.proofs.lemmas.Cmp.{nat_list_cmp_total}
use Rattle.uca_order.specs.Levels.{lexicographic}
use Rattle.uca_order.proofs.KeyOrder.{lexicographic_itself, same_from_lexicographic}
use Rattle.uca_compact.specs.Forms.{Form, IsForm, ends_before, AreForms, AreWeights}
use Rattle.uca_compact.specs.CompactKeys.{Plain, level_code, end_by}
use Rattle.uca_compact.proofs.Below.{IsBelow, below_append, below_after}
use Rattle.uca_compact.proofs.RunOrder.{levels_keep}
use Rattle.uca_compact.proofs.LevelsOrder.{less_turned, greater_turned, precedes_less, precedes_end, levels_order, IsBefore}
use Rattle.uca_ranges.proofs.FirstLevels.{first_end, ended, first_later, first_code}

-- ---- Ends

-- what the others make of `all` differs from it by their number at most
abbrev pub IsNear : ℕ → (ℕ → ℕ) → Type 0
IsNear count ends = (all : ℕ) → count ≤ all → (all ≤ ends all + count) × (ends all ≤ all + count)

-- so an end differs by the number of all levels after it
pub first_bounds : (plain : Plain) (count : ℕ) (ends : ℕ → ℕ) (all : ℕ) (earlier levels : List (List ℕ)) → IsNear count ends → length levels + count ≤ all
    → (all ≤ first_end plain count ends all earlier levels + (length levels + count))
    × (first_end plain count ends all earlier levels ≤ all + (length levels + count))
first_bounds plain count ends all earlier [] near room =
    let here = near all (omega arith) in
    (omega (arith, here.0), omega (arith, here.1))
first_bounds plain count ends all earlier (level ∷ later) near room =
    let more = first_bounds plain count ends all (earlier ++ level ∷ []) later near (omega arith) in
    elim (lexicographic level (plain earlier)) as (λ o. (all ≤ end_by o all (length later + count) (first_end plain count ends all (earlier ++ level ∷ []) later) + (suc (length later) + count))
    × (end_by o all (length later + count) (first_end plain count ends all (earlier ++ level ∷ []) later) ≤ all + (suc (length later) + count))) [
      | Less ↦ (omega arith, omega arith)
      | Equal ↦ (omega (arith, more.0), omega (arith, more.1))
      | Greater ↦ (omega arith, omega arith)
    ]

-- a form has room for its end
pub first_fits : (plain : Plain) (f : Form) (forms : List Form) (count : ℕ) (ends : ℕ → ℕ) (earlier levels : List (List ℕ)) → f.ends ≡ ends_before (length forms)
    → length forms ≡ length levels + count → IsNear count ends → first_end plain count ends (length forms) earlier levels < f.ends
first_fits plain f forms count ends earlier levels is tie near =
    let bounds = first_bounds plain count ends (length forms) earlier levels near (omega (arith, tie)) in
    omega (arith, bounds.1, tie, is)

-- ---- Levels after the first

-- levels of weights, one for each of the first forms
abbrev pub AreFirst : List Form → List (List ℕ) → Type 0
AreFirst forms [] = ⊤
AreFirst [] (a ∷ levels) = ⊥
AreFirst (f ∷ forms) (a ∷ levels) = AreWeights a × AreFirst forms levels

-- later levels come before others, by the end of the level before them or else by the bytes
abbrev pub ComeFirst : (all : ℕ) → Plain → List Form → ℕ → (s t : ℕ → ℕ) → (xs ys : List ℕ) → (earlier left right : List (List ℕ)) → Type 0
ComeFirst all plain forms count s t xs ys earlier left right =
    (first_end plain count s all earlier left < first_end plain count t all earlier right)
    ⊎ ((first_end plain count s all earlier left ≡ first_end plain count t all earlier right)
    × IsBelow (first_later plain forms count s xs earlier left) (first_later plain forms count t ys earlier right))

-- they do where they are less
abbrev pub KeepFirst : Plain → List Form → ℕ → (s t : ℕ → ℕ) → (xs ys : List ℕ) → (earlier left right : List (List ℕ)) → Type 0
KeepFirst plain forms count s t xs ys earlier left right =
    (all : ℕ) → length left + count ≤ all → levels_order left right ≡ Less → ComeFirst all plain forms count s t xs ys earlier left right

-- a level that is written, and what comes after it
abbrev pub written_first : Plain → List Form → Form → ℕ → (ℕ → ℕ) → List ℕ → (earlier : List (List ℕ)) → List ℕ → List (List ℕ) → List ℕ
written_first plain forms f count ends more earlier level later =
    ended f (first_end plain count ends (length forms) (earlier ++ level ∷ []) later) level (first_later plain forms count ends more (earlier ++ level ∷ []) later)

-- two levels that are written, by how they compare
both_written : (plain : Plain) (f : Form) (forms : List Form) (count : ℕ) (s t : ℕ → ℕ) (xs ys : List ℕ) (earlier left right : List (List ℕ)) (a b : List ℕ)
    → IsForm f → f.ends ≡ ends_before (length forms) → AreWeights a → AreWeights b → length forms ≡ length left + count → length forms ≡ length right + count
    → IsNear count s → IsNear count t → KeepFirst plain forms count s t xs ys (earlier ++ a ∷ []) left right
    → (r : Ordering) → lexicographic a b ≡ r → ordering_then r (levels_order left right) ≡ Less
    → IsBelow (written_first plain forms f count s xs earlier a left) (written_first plain forms f count t ys earlier b right)
both_written plain f forms count s t xs ys earlier left right a b form ends aw bw nl nr ns nt more Less is h =
    let d = first_end plain count s (length forms) (earlier ++ a ∷ []) left in
    let e = first_end plain count t (length forms) (earlier ++ b ∷ []) right in
    below_append (level_code f d 0 a) (level_code f e 0 b) _ _
    (levels_keep f form a b d e aw bw
    (first_fits plain f forms count s (earlier ++ a ∷ []) left ends nl ns) (first_fits plain f forms count t (earlier ++ b ∷ []) right ends nr nt)
    (precedes_less a b d e is))
both_written plain f forms count s t xs ys earlier left right a b form ends aw bw nl nr ns nt more Equal is h =
    let d = first_end plain count s (length forms) (earlier ++ a ∷ []) left in
    let e = first_end plain count t (length forms) (earlier ++ a ∷ []) right in
    let df : d < f.ends = first_fits plain f forms count s (earlier ++ a ∷ []) left ends nl ns in
    let ef : e < f.ends = first_fits plain f forms count t (earlier ++ a ∷ []) right ends nr nt in
    subst (λ (u : List ℕ). IsBelow (written_first plain forms f count s xs earlier a left) (written_first plain forms f count t ys earlier u right))
    (same_from_lexicographic a b is)
    (elim (more (length forms) (omega (arith, nl)) h) [
      | inl less ↦ below_append (level_code f d 0 a) (level_code f e 0 a) _ _ (levels_keep f form a a d e aw aw df ef (precedes_end a d e less))
      | inr same ↦ subst (λ (k : ℕ). IsBelow (written_first plain forms f count s xs earlier a left)
          (ended f k a (first_later plain forms count t ys (earlier ++ a ∷ []) right))) same.0
          (below_after (level_code f d 0 a) _ _ same.1)
    ])
both_written plain f forms count s t xs ys earlier left right a b form ends aw bw nl nr ns nt more Greater is h = absurd (cc)

-- levels from here on, by how the first of each side compares to the plain one
abbrev end_and_bytes : ℕ → Plain → Form → List Form → ℕ → (ℕ → ℕ) → List ℕ → (earlier : List (List ℕ)) → List ℕ → List (List ℕ) → Ordering → ℕ × List ℕ
end_and_bytes all plain f forms count ends more earlier a left o = (
  end_by o all (length left + count) (first_end plain count ends all (earlier ++ a ∷ []) left),
  cond (is_eq o) (first_later plain forms count ends more (earlier ++ a ∷ []) left) (written_first plain forms f count ends more earlier a left),
)

-- levels on two sides of the plain one cannot be greater first
wrong_order : (a b : List ℕ) (left right : List (List ℕ)) → lexicographic a b ≡ Greater → ordering_then (lexicographic a b) (levels_order left right) ≡ Less → Less ≡ Greater
wrong_order a b left right is h = sym h ∙ ap (λ (o : Ordering). ordering_then o (levels_order left right)) is

-- one level
later_step : (all : ℕ) (plain : Plain) (f : Form) (forms : List Form) (count : ℕ) (s t : ℕ → ℕ) (xs ys : List ℕ) (earlier left right : List (List ℕ)) (a b : List ℕ)
    → suc (length left) + count ≤ all → IsForm f → f.ends ≡ ends_before (length forms) → AreWeights a → AreWeights b
    → length forms ≡ length left + count → length forms ≡ length right + count → IsNear count s → IsNear count t
    → KeepFirst plain forms count s t xs ys (earlier ++ a ∷ []) left right
    → ordering_then (lexicographic a b) (levels_order left right) ≡ Less → (o q : Ordering)
    → lexicographic a (plain earlier) ≡ o → lexicographic b (plain earlier) ≡ q
    → IsBefore (end_and_bytes all plain f forms count s xs earlier a left o) (end_and_bytes all plain f forms count t ys earlier b right q)
later_step all plain f forms count s t xs ys earlier left right a b room form ends aw bw nl nr ns nt more h Less Less oa ob =
    inr (omega (arith, nl, nr), both_written plain f forms count s t xs ys earlier left right a b form ends aw bw nl nr ns nt more (lexicographic a b) refl h)
later_step all plain f forms count s t xs ys earlier left right a b room form ends aw bw nl nr ns nt more h Less Equal oa ob =
    let e = first_bounds plain count t all (earlier ++ b ∷ []) right nt (omega (arith, nl, nr)) in
    inl (omega (arith, nl, nr, e.0))
later_step all plain f forms count s t xs ys earlier left right a b room form ends aw bw nl nr ns nt more h Less Greater oa ob = inl (omega arith)
later_step all plain f forms count s t xs ys earlier left right a b room form ends aw bw nl nr ns nt more h Equal Less oa ob =
    let e : lexicographic a b ≡ Greater = nat_list_cmp_total.congr a (plain earlier) b oa ∙ less_turned b (plain earlier) ob in
    absurd (let f = wrong_order a b left right e h in cc)
later_step all plain f forms count s t xs ys earlier left right a b room form ends aw bw nl nr ns nt more h Equal Equal oa ob =
    let same : a ≡ b = same_from_lexicographic a (plain earlier) oa ∙ sym (same_from_lexicographic b (plain earlier) ob) in
    let none : lexicographic a b ≡ Equal = subst (λ (u : List ℕ). lexicographic a u ≡ Equal) same (lexicographic_itself a) in
    subst (λ (u : List ℕ). IsBefore (end_and_bytes all plain f forms count s xs earlier a left Equal) (end_and_bytes all plain f forms count t ys earlier u right Equal)) same
    (more all (omega arith) (ap (λ (o : Ordering). ordering_then o (levels_order left right)) (sym none) ∙ h))
later_step all plain f forms count s t xs ys earlier left right a b room form ends aw bw nl nr ns nt more h Equal Greater oa ob =
    let d = first_bounds plain count s all (earlier ++ a ∷ []) left ns (omega arith) in
    inl (omega (arith, nl, nr, d.1))
later_step all plain f forms count s t xs ys earlier left right a b room form ends aw bw nl nr ns nt more h Greater Less oa ob =
    let e : lexicographic b a ≡ Less = nat_list_cmp_total.trans b (plain earlier) a ob (greater_turned a (plain earlier) oa) in
    absurd (let f = wrong_order a b left right (less_turned b a e) h in cc)
later_step all plain f forms count s t xs ys earlier left right a b room form ends aw bw nl nr ns nt more h Greater Equal oa ob =
    let e : lexicographic b a ≡ Less = nat_list_cmp_total.congr b (plain earlier) a ob ∙ greater_turned a (plain earlier) oa in
    absurd (let f = wrong_order a b left right (less_turned b a e) h in cc)
later_step all plain f forms count s t xs ys earlier left right a b room form ends aw bw nl nr ns nt more h Greater Greater oa ob =
    inr (omega (arith, nl, nr), both_written plain f forms count s t xs ys earlier left right a b form ends aw bw nl nr ns nt more (lexicographic a b) refl h)

-- all later levels
pub later_first : (plain : Plain) (forms : List Form) (count : ℕ) (s t : ℕ → ℕ) (xs ys : List ℕ) (earlier left right : List (List ℕ)) → AreForms forms
    → AreFirst forms left → AreFirst forms right → length forms ≡ length left + count → length forms ≡ length right + count → IsNear count s → IsNear count t
    → KeepFirst plain forms count s t xs ys earlier left right
later_first plain forms count s t xs ys earlier [] right fs ls rs nl nr ns nt all room h = absurd (cc)
later_first plain [] count s t xs ys earlier (a ∷ left) right fs ls rs nl nr ns nt all room h = absurd ls
later_first plain (f ∷ forms) count s t xs ys earlier (a ∷ left) [] fs ls rs nl nr ns nt all room h = absurd (cc)
later_first plain (f ∷ forms) count s t xs ys earlier (a ∷ left) (b ∷ right) fs ls rs nl nr ns nt all room h =
    let tl : length forms ≡ length left + count = omega (arith, nl) in
    let tr : length forms ≡ length right + count = omega (arith, nr) in
    later_step all plain f forms count s t xs ys earlier left right a b room fs.0 fs.1 ls.0 rs.0 tl tr ns nt
    (later_first plain forms count s t xs ys (earlier ++ a ∷ []) left right fs.2 ls.1 rs.1 tl tr ns nt) h
    (lexicographic a (plain earlier)) (lexicographic b (plain earlier)) refl refl

-- ---- All of the first levels

-- lesser ones are written below
pub first_below : (plain : Plain) (f : Form) (forms : List Form) (count : ℕ) (s t : ℕ → ℕ) (xs ys a b : List ℕ) (left right : List (List ℕ)) → AreForms (f ∷ forms)
    → AreFirst (f ∷ forms) (a ∷ left) → AreFirst (f ∷ forms) (b ∷ right) → length forms ≡ length left + count → length forms ≡ length right + count
    → IsNear count s → IsNear count t → levels_order (a ∷ left) (b ∷ right) ≡ Less
    → IsBelow (first_code plain (f ∷ forms) count s xs (a ∷ left)) (first_code plain (f ∷ forms) count t ys (b ∷ right))
first_below plain f forms count s t xs ys a b left right fs ls rs nl nr ns nt h =
    both_written plain f forms count s t xs ys [] left right a b fs.0 fs.1 ls.0 rs.0 nl nr ns nt
    (later_first plain forms count s t xs ys (a ∷ []) left right fs.2 ls.1 rs.1 nl nr ns nt) (lexicographic a b) refl h

-- levels that compare as equal are equal, by how the first ones compare
equal_by : (a b : List ℕ) (left right : List (List ℕ)) (o : Ordering) → lexicographic a b ≡ o → ordering_then o (levels_order left right) ≡ Equal
    → (levels_order left right ≡ Equal → left ≡ right) → a ∷ left ≡ b ∷ right
equal_by a b left right Less is h more = absurd (cc)
equal_by a b left right Equal is h more =
    let first : a ≡ b = same_from_lexicographic a b is in
    let rest : left ≡ right = more h in
    cc
equal_by a b left right Greater is h more = absurd (cc)

-- levels that compare as equal are equal, if there are as many
pub equal_levels : (left right : List (List ℕ)) → length left ≡ length right → levels_order left right ≡ Equal → left ≡ right
equal_levels [] [] same h = refl
equal_levels [] (b ∷ right) same h = absurd (omega (arith, same))
equal_levels (a ∷ left) [] same h = absurd (omega (arith, same))
equal_levels (a ∷ left) (b ∷ right) same h = equal_by a b left right (lexicographic a b) refl h (equal_levels left right (omega (arith, same)))

-- and equal ones compare so
pub order_itself : (levels : List (List ℕ)) → levels_order levels levels ≡ Equal
order_itself [] = refl
order_itself (a ∷ levels) = ap (λ (o : Ordering). ordering_then o (levels_order levels levels)) (lexicographic_itself a) ∙ order_itself levels

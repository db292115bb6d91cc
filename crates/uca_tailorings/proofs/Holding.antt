-- How the elements of an anchor and an expansion compare with those of a target that has a new weight.
use Rattle.std.proofs.Common.{◌≡◌, ◌≢◌, ℕ, suc, List, [], ◌∷◌, ◌++◌, map, Bool, true, false, not, cond, nat_eq, filter, Some, refl, ap, ap₂, ◌∙◌}
use Rattle.std.proofs.Common.{append_assoc}
use Rattle.std.specs.List.{AllByRecursion}
use Rattle.std.specs.Ordering.{nat_cmp, ordering_then}
use Rattle.std.specs.declared.cmp.Ordering.{Ordering}
use Rattle.std.specs.declared.cmp.Ordering.TheVariants.{Less, Equal, Greater}
use Rattle.std.proofs.lemmas.Bool.{ne_eqb}
use Rattle.std.proofs.lemmas.List.{map-append}
use Rattle.std.proofs.lemmas.List.Elements.{filter-append}
use Rattle.uca_weights.specs.declared.Element.{Element}
use Rattle.uca_weights.specs.declared.Level.{Level}
use Rattle.uca_weights.specs.declared.Level.TheVariants.{One, Two, Three}
use Rattle.uca_weights.specs.declared.Weighting.{Weighting}
use Rattle.uca_weights.specs.declared.Weighting.TheVariants.{NonIgnorable}
use Rattle.uca_weights.specs.Levels.{weight, level_number}
use Rattle.uca_weights.proofs.Lists.{each_weaker}
use Rattle.uca_order.specs.Levels.{Comparison, weighted_following, level_list, level_lists, lexicographic, decided, compare_from, compared}
use Rattle.uca_order.proofs.KeyOrder.{cmp_less, cmp_equal, cmp_greater, then_equal, lexicographic_itself}
use Rattle.uca_tailorings.specs.Placing.{IsIgnorableTo, placed, reweighted, IsOnSide}
use Rattle.uca_tailorings.specs.Meaning.{stands}

-- ---- The weights of a level

-- the weights of elements at a level that are not 0
abbrev pub level_weights : Level → List Element → List ℕ
level_weights level es = filter (λ w. not (nat_eq w 0)) (map (weight level) es)

-- one more weight in front, unless it is 0
abbrev pub keep : ℕ → List ℕ → List ℕ
keep w ws = cond (not (nat_eq w 0)) (w ∷ ws) ws

-- a weight 0 is not kept
keep_zero : (w : ℕ) (ws : List ℕ) → w ≡ 0 → keep w ws ≡ ws
keep_zero w ws none = ap (λ v. keep v ws) none

-- any other is
keep_some : (w : ℕ) (ws : List ℕ) → w ≢ 0 → keep w ws ≡ w ∷ ws
keep_some w ws some = ap (λ b. cond (not b) (w ∷ ws) ws) (ne_eqb w 0 some)

-- a level list of elements that are not shifted
level_list_is : (level : Level) (earlier es : List Element) → level_list (level_number level) (weighted_following NonIgnorable earlier es) ≡ level_weights level es
level_list_is One earlier [] = refl
level_list_is Two earlier [] = refl
level_list_is Three earlier [] = refl
level_list_is One earlier (e ∷ es) = ap (keep e.primary) (level_list_is One (e ∷ earlier) es)
level_list_is Two earlier (e ∷ es) = ap (keep e.secondary) (level_list_is Two (e ∷ earlier) es)
level_list_is Three earlier (e ∷ es) = ap (keep e.tertiary) (level_list_is Three (e ∷ earlier) es)

-- all level lists
level_lists_are : (es : List Element) → level_lists NonIgnorable es ≡ level_weights One es ∷ level_weights Two es ∷ level_weights Three es ∷ []
level_lists_are es = λ i. level_list_is One [] es i ∷ level_list_is Two [] es i ∷ level_list_is Three [] es i ∷ []

-- what three levels say
abbrev pub by_orders : Ordering → Ordering → Ordering → Comparison
by_orders first second third = decided first 1 (decided second 2 (decided third 3 (record { order = Equal; level = 0 })))

-- how elements compare at a level
abbrev pub order_at : Level → List Element → List Element → Ordering
order_at level es fs = lexicographic (level_weights level es) (level_weights level fs)

-- elements compare by the three levels
pub compared_by_levels : (es fs : List Element) → compared NonIgnorable es fs ≡ by_orders (order_at One es fs) (order_at Two es fs) (order_at Three es fs)
compared_by_levels es fs = ap₂ (compare_from 1) (level_lists_are es) (level_lists_are fs)

-- lists differ from themselves at no level
compare_itself : (n : ℕ) (levels : List (List ℕ)) → compare_from n levels levels ≡ record { order = Equal; level = 0 }
compare_itself n [] = refl
compare_itself n (ws ∷ levels) = ap (λ o. decided o n (compare_from (suc n) levels levels)) (lexicographic_itself ws) ∙ compare_itself (suc n) levels

-- nor do elements
pub compared_itself : (weighting : Weighting) (es : List Element) → compared weighting es es ≡ record { order = Equal; level = 0 }
compared_itself weighting es = compare_itself 1 (level_lists weighting es)

-- ---- One level

-- elements in turn
level_weights-append : (level : Level) (es fs : List Element) → level_weights level (es ++ fs) ≡ level_weights level es ++ level_weights level fs
level_weights-append level es fs =
    ap (filter (λ w. not (nat_eq w 0))) (map-append (weight level) es fs)
    ∙ filter-append (λ w. not (nat_eq w 0)) (map (weight level) es) (map (weight level) fs)

-- elements without a weight at the level
ignorable_dropped : (level : Level) (es fs : List Element) → AllByRecursion (λ e. weight level e ≡ 0) es → level_weights level (es ++ fs) ≡ level_weights level fs
ignorable_dropped level [] fs none = refl
ignorable_dropped level (e ∷ es) fs none = keep_zero (weight level e) (level_weights level (es ++ fs)) none.0 ∙ ignorable_dropped level es fs none.1

-- lists that begin alike
lexicographic-append : (xs ys zs : List ℕ) → lexicographic (xs ++ ys) (xs ++ zs) ≡ lexicographic ys zs
lexicographic-append [] ys zs = refl
lexicographic-append (x ∷ xs) ys zs = ap (λ o. ordering_then o (lexicographic (xs ++ ys) (xs ++ zs))) (cmp_equal x x refl) ∙ lexicographic-append xs ys zs

module _ (before : List Element) (last new : Element) (trailing expansion : List Element) where
  -- at a level where the trailing elements have no weight, the two last elements decide
  last_decides : (level : Level) → AllByRecursion (λ e. weight level e ≡ 0) trailing →
      order_at level ((before ++ last ∷ trailing) ++ expansion) (before ++ new ∷ expansion)
      ≡ lexicographic (keep (weight level last) (level_weights level expansion)) (keep (weight level new) (level_weights level expansion))
  last_decides level none =
      let left : level_weights level ((before ++ last ∷ trailing) ++ expansion)
      ≡ level_weights level before ++ keep (weight level last) (level_weights level expansion) =
      ap (level_weights level) (append_assoc before (last ∷ trailing) expansion)
      ∙ level_weights-append level before (last ∷ (trailing ++ expansion))
      ∙ ap (λ ws. level_weights level before ++ keep (weight level last) ws) (ignorable_dropped level trailing expansion none) in
      ap₂ lexicographic left (level_weights-append level before (new ∷ expansion))
      ∙ lexicographic-append (level_weights level before) (keep (weight level last) (level_weights level expansion)) (keep (weight level new) (level_weights level expansion))

  -- where they have the same weight, none does
  same_level : (level : Level) → AllByRecursion (λ e. weight level e ≡ 0) trailing → weight level new ≡ weight level last →
      order_at level ((before ++ last ∷ trailing) ++ expansion) (before ++ new ∷ expansion) ≡ Equal
  same_level level none same =
      last_decides level none
      ∙ ap (λ w. lexicographic (keep (weight level last) (level_weights level expansion)) (keep w (level_weights level expansion))) same
      ∙ lexicographic_itself (keep (weight level last) (level_weights level expansion))

  -- where neither weight is 0, the level compares as they do
  new_level : (level : Level) → AllByRecursion (λ e. weight level e ≡ 0) trailing → weight level last ≢ 0 → weight level new ≢ 0 →
      order_at level ((before ++ last ∷ trailing) ++ expansion) (before ++ new ∷ expansion) ≡ nat_cmp (weight level last) (weight level new)
  new_level level none old_some new_some =
      last_decides level none
      ∙ ap₂ lexicographic (keep_some (weight level last) (level_weights level expansion) old_some) (keep_some (weight level new) (level_weights level expansion) new_some)
      ∙ ap (ordering_then (nat_cmp (weight level last) (weight level new))) (lexicographic_itself (level_weights level expansion))
      ∙ then_equal (nat_cmp (weight level last) (weight level new))

-- ---- All levels

-- how the anchor's weight compares with the new one
abbrev side_order : Bool → Ordering
side_order false = Less
side_order true = Greater

-- a weight on the stated side
on_side : (is_before : Bool) (old new : ℕ) → IsOnSide is_before old new → nat_cmp old new ≡ side_order is_before
on_side false old new side = cmp_less old new side
on_side true old new side = cmp_greater old new side

-- what is said where the level decides
decides : (is_before : Bool) (level : Level) (later : Comparison) → decided (side_order is_before) (level_number level) later ≡ stands is_before (Some level)
decides false level later = refl
decides true level later = refl

-- the anchor is on the side that its relation says
pub holds_placed : (is_before : Bool) (level : Level) (before : List Element) (last : Element) (trailing expansion : List Element) (w : ℕ) →
    AllByRecursion (IsIgnorableTo level) trailing → weight level last ≢ 0 → w ≢ 0 → IsOnSide is_before (weight level last) w →
    compared NonIgnorable ((before ++ last ∷ trailing) ++ expansion) (placed level before last expansion w) ≡ stands is_before (Some level)
holds_placed is_before One before last trailing expansion w ignorable old_some new_some side =
    let left : List Element = (before ++ last ∷ trailing) ++ expansion in
    let new : Element = reweighted One w last in
    let right : List Element = before ++ new ∷ expansion in
    compared_by_levels left right
    ∙ ap (λ o. by_orders o (order_at Two left right) (order_at Three left right))
    (new_level before last new trailing expansion One ignorable old_some new_some ∙ on_side is_before last.primary w side)
    ∙ decides is_before One (decided (order_at Two left right) 2 (decided (order_at Three left right) 3 (record { order = Equal; level = 0 })))
holds_placed is_before Two before last trailing expansion w ignorable old_some new_some side =
    let left : List Element = (before ++ last ∷ trailing) ++ expansion in
    let new : Element = reweighted Two w last in
    let right : List Element = before ++ new ∷ expansion in
    let first = each_weaker (IsIgnorableTo Two) (λ e. e.primary ≡ 0) (λ e none. none.0) trailing ignorable in
    let second = each_weaker (IsIgnorableTo Two) (λ e. e.secondary ≡ 0) (λ e none. none.1) trailing ignorable in
    compared_by_levels left right
    ∙ ap (λ o. by_orders o (order_at Two left right) (order_at Three left right)) (same_level before last new trailing expansion One first refl)
    ∙ ap (λ o. by_orders Equal o (order_at Three left right))
    (new_level before last new trailing expansion Two second old_some new_some ∙ on_side is_before last.secondary w side)
    ∙ decides is_before Two (decided (order_at Three left right) 3 (record { order = Equal; level = 0 }))
holds_placed is_before Three before last trailing expansion w ignorable old_some new_some side =
    let left : List Element = (before ++ last ∷ trailing) ++ expansion in
    let new : Element = reweighted Three w last in
    let right : List Element = before ++ new ∷ expansion in
    let first = each_weaker (IsIgnorableTo Three) (λ e. e.primary ≡ 0) (λ e none. none.0) trailing ignorable in
    let second = each_weaker (IsIgnorableTo Three) (λ e. e.secondary ≡ 0) (λ e none. none.1) trailing ignorable in
    let third = each_weaker (IsIgnorableTo Three) (λ e. e.tertiary ≡ 0) (λ e none. none.2) trailing ignorable in
    compared_by_levels left right
    ∙ ap (λ o. by_orders o (order_at Two left right) (order_at Three left right)) (same_level before last new trailing expansion One first refl)
    ∙ ap (λ o. by_orders Equal o (order_at Three left right)) (same_level before last new trailing expansion Two second refl)
    ∙ ap (by_orders Equal Equal)
    (new_level before last new trailing expansion Three third old_some new_some ∙ on_side is_before last.tertiary w side)
    ∙ decides is_before Three (record { order = Equal; level = 0 })

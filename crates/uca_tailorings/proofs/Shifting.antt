-- How elements that are not variable compare under shifted weighting: as under non-ignorable weighting, where they differ there.
use Rattle.std.proofs.Common.{◌≡◌, ℕ, List, [], ◌∷◌, ◌++◌, Bool, true, false, Some, refl, ap, ap₂, sym, ◌∙◌}
use Rattle.std.specs.Prelude.{◌&&◌, if◌then◌else◌}
use Rattle.std.specs.declared.cmp.Ordering.{Ordering}
use Rattle.std.specs.declared.cmp.Ordering.TheVariants.{Less, Equal, Greater}
use Rattle.uca_weights.specs.declared.Element.{Element}
use Rattle.uca_weights.specs.declared.Level.{Level}
use Rattle.uca_weights.specs.declared.Level.TheVariants.{One, Two, Three}
use Rattle.uca_weights.specs.declared.Weighting.TheVariants.{NonIgnorable, Shifted}
use Rattle.uca_weights.specs.Levels.{level_number}
use Rattle.uca_weights.proofs.Lists.{each_append, each_parts}
use Rattle.uca_order.specs.Levels.{Comparison, Weights, is_ignorable, is_completely_ignorable, follows_variable, shifted_weights, weighted_following, weighted, level_list, level_lists, decided, compare_from, compared}
use Rattle.uca_tailorings.specs.Meaning.{AreNotVariable, stands}
use Rattle.uca_tailorings.specs.Placing.{placed, reweighted}
use Rattle.uca_tailorings.proofs.Holding.{level_weights, keep, by_orders, order_at, compared_by_levels}

-- ---- Weights

-- the weights of an element that is not variable and follows no variable one
abbrev own_weights : Element → Weights
own_weights e = e.primary ∷ e.secondary ∷ e.tertiary ∷ (if is_completely_ignorable e then 0 else 0xFFFF) ∷ []

-- the last of three choices
last_choice : (mark ignorable after_variable : Bool) (one two three : Weights) → mark ≡ false → after_variable ≡ false →
    (if mark then one else if ignorable && after_variable then two else three) ≡ three
last_choice true ignorable after_variable one two three not_variable alone = cc
last_choice false ignorable true one two three not_variable alone = cc
last_choice false true false one two three not_variable alone = refl
last_choice false false false one two three not_variable alone = refl

-- that element's shifted weights
keeps_weights : (after_variable : Bool) (e : Element) → after_variable ≡ false → e.mark ≡ false → shifted_weights after_variable e ≡ own_weights e
keeps_weights after_variable e alone not_variable =
    last_choice e.mark (is_ignorable e) after_variable (0 ∷ 0 ∷ 0 ∷ e.primary ∷ []) (0 ∷ 0 ∷ 0 ∷ 0 ∷ []) (own_weights e) not_variable alone

-- what follows it follows no variable one
follows_none : (ignorable earlier here : Bool) → earlier ≡ false → here ≡ false → (if ignorable then earlier else here) ≡ false
follows_none true earlier here none not_variable = none
follows_none false earlier here none not_variable = not_variable

-- ---- Level lists

-- the first three level lists are those of the weights as they are
shifted_list_is : (level : Level) (earlier es : List Element) → follows_variable earlier ≡ false → AreNotVariable es →
    level_list (level_number level) (weighted_following Shifted earlier es) ≡ level_weights level es
shifted_list_is One earlier [] alone not_variable = refl
shifted_list_is Two earlier [] alone not_variable = refl
shifted_list_is Three earlier [] alone not_variable = refl
shifted_list_is One earlier (e ∷ es) alone not_variable =
    ap (λ (ws : Weights). level_list 1 (ws ∷ weighted_following Shifted (e ∷ earlier) es)) (keeps_weights (follows_variable earlier) e alone not_variable.0)
    ∙ ap (keep e.primary) (shifted_list_is One (e ∷ earlier) es (follows_none (is_ignorable e) (follows_variable earlier) e.mark alone not_variable.0) not_variable.1)
shifted_list_is Two earlier (e ∷ es) alone not_variable =
    ap (λ (ws : Weights). level_list 2 (ws ∷ weighted_following Shifted (e ∷ earlier) es)) (keeps_weights (follows_variable earlier) e alone not_variable.0)
    ∙ ap (keep e.secondary) (shifted_list_is Two (e ∷ earlier) es (follows_none (is_ignorable e) (follows_variable earlier) e.mark alone not_variable.0) not_variable.1)
shifted_list_is Three earlier (e ∷ es) alone not_variable =
    ap (λ (ws : Weights). level_list 3 (ws ∷ weighted_following Shifted (e ∷ earlier) es)) (keeps_weights (follows_variable earlier) e alone not_variable.0)
    ∙ ap (keep e.tertiary) (shifted_list_is Three (e ∷ earlier) es (follows_none (is_ignorable e) (follows_variable earlier) e.mark alone not_variable.0) not_variable.1)

-- the fourth level, alone
abbrev fourth : List Element → List (List ℕ)
fourth es = level_list 4 (weighted Shifted es) ∷ []

-- all level lists
shifted_lists_are : (es : List Element) → AreNotVariable es →
    level_lists Shifted es ≡ level_weights One es ∷ level_weights Two es ∷ level_weights Three es ∷ fourth es
shifted_lists_are es not_variable = λ i.
    shifted_list_is One [] es refl not_variable i ∷ shifted_list_is Two [] es refl not_variable i ∷ shifted_list_is Three [] es refl not_variable i ∷ fourth es

-- ---- Comparisons

-- what three levels say is said, whatever comes after them
three_decide : (is_before : Bool) (level : Level) (first second third : Ordering) (later : Comparison) →
    by_orders first second third ≡ stands is_before (Some level) →
    decided first 1 (decided second 2 (decided third 3 later)) ≡ stands is_before (Some level)
three_decide is_before level Less second third later said = said
three_decide is_before level Greater second third later said = said
three_decide is_before level Equal Less third later said = said
three_decide is_before level Equal Greater third later said = said
three_decide is_before level Equal Equal Less later said = said
three_decide is_before level Equal Equal Greater later said = said
three_decide false level Equal Equal Equal later said = let order : Equal ≡ Less = ap (λ (c : Comparison). c.order) said in cc
three_decide true level Equal Equal Equal later said = let order : Equal ≡ Greater = ap (λ (c : Comparison). c.order) said in cc

-- where elements differ under non-ignorable weighting, they differ so under shifted weighting
pub shifted_stands : (is_before : Bool) (level : Level) (es fs : List Element) → AreNotVariable es → AreNotVariable fs →
    compared NonIgnorable es fs ≡ stands is_before (Some level) → compared Shifted es fs ≡ stands is_before (Some level)
shifted_stands is_before level es fs left right said =
    ap₂ (compare_from 1) (shifted_lists_are es left) (shifted_lists_are fs right)
    ∙ three_decide is_before level (order_at One es fs) (order_at Two es fs) (order_at Three es fs) (compare_from 4 (fourth es) (fourth fs))
    (sym (compared_by_levels es fs) ∙ said)

-- ---- Targets

-- a new weight makes no element variable
same_mark : (level : Level) (w : ℕ) (e : Element) → (reweighted level w e).mark ≡ e.mark
same_mark One w e = refl
same_mark Two w e = refl
same_mark Three w e = refl

-- the target of an anchor and an expansion without variable elements has none
pub placed_not_variable : (level : Level) (before : List Element) (last : Element) (trailing expansion : List Element) (w : ℕ) →
    AreNotVariable ((before ++ last ∷ trailing) ++ expansion) → AreNotVariable (placed level before last expansion w)
placed_not_variable level before last trailing expansion w not_variable =
    let IsPlain : Element → Type 0 = λ e. e.mark ≡ false in
    let both = each_parts IsPlain (before ++ last ∷ trailing) expansion not_variable in
    let anchor = each_parts IsPlain before (last ∷ trailing) both.0 in
    each_append IsPlain before (reweighted level w last ∷ expansion) anchor.0 (same_mark level w last ∙ anchor.1.0, both.1)

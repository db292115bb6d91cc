-- What the levels of the weights decide of two texts at either depth.
use Rattle.std.proofs.Common.{◌≡◌, ℕ, suc, ◌+◌, List, [], ◌∷◌, length, min, refl, sym, ap, subst, ◌∙◌, arith}
use Rattle.std.specs.Str.{chars}
use Rattle.std.specs.declared.cmp.Ordering.{Ordering}
use Rattle.std.specs.declared.cmp.Ordering.TheVariants.{Less, Equal, Greater}
use Rattle.uca_weights.specs.declared.Depth.{Depth}
use Rattle.uca_weights.specs.declared.Depth.TheVariants.{Weights, Identical}
use Rattle.uca_weights.specs.declared.Element.{Element}
use Rattle.uca_weights.specs.declared.Weighting.{Weighting}
use Rattle.uca_text.specs.Texts.{NfdText, nfd_text}
use Rattle.uca_elements.specs.Collations.{Collation, elements_of}
use Rattle.uca_comparison.specs.declared.walk.Walked.{Walked}
use Rattle.uca_order.specs.Levels.{Comparison, level_lists, level_count, weighted, decided, compare_from, compared}
use Rattle.uca_order.specs.Depths.{ReadText, compared_at}
use Rattle.uca_comparison.specs.inside.Comparisons.{ComparesLevels, NothingElseDecides, compared_points}
use Rattle.uca_order.specs.Fetched.{fetched_left, fetched_right}
use Rattle.uca_comparison.proofs.Counts.{counted_from_none}
use Rattle.uca_order.proofs.KeyOrder.{level_zero, lexicographic_itself}
use Rattle.uca_comparison.proofs.LevelSteps.{then_levels, compare_append, length_levels, decided_here}

-- the levels of the weights, and then the code points
identical_is : (weighting : Weighting) (left right : ReadText)
    → compared_at Identical weighting left right
    ≡ then_levels (compared weighting left.elements right.elements)
    (compare_from (1 + length (level_lists weighting left.elements)) (left.points ∷ []) (right.points ∷ []))
identical_is weighting left right =
    let count = level_count weighting in
    compare_append 1 (level_lists weighting left.elements) (level_lists weighting right.elements) (left.points ∷ []) (right.points ∷ [])
    (length_levels 1 count (weighted weighting left.elements) ∙ sym (length_levels 1 count (weighted weighting right.elements)))

-- equal code points decide nothing
same_points : (level : ℕ) (ps qs : List ℕ) → ps ≡ qs → compare_from level (ps ∷ []) (qs ∷ []) ≡ record { order = Equal; level = 0 }
same_points level ps qs same =
    ap (λ l. compare_from level (ps ∷ []) (l ∷ [])) (sym same) ∙ ap (λ o. decided o level (record { order = Equal; level = 0 })) (lexicographic_itself ps)

then_nothing : (order : Ordering) (level : ℕ) → (order ≡ Equal → level ≡ 0)
    → decided order level (record { order = Equal; level = 0 }) ≡ record { order = order; level = level }
then_nothing Less level zero = refl
then_nothing Equal level zero = ap (λ n. record { order = Equal; level = n }) (sym (zero refl))
then_nothing Greater level zero = refl

-- so the levels of the weights decide
levels_decide : (weighting : Weighting) (order : Ordering) (left right : ReadText) (more : Comparison)
    → (compared weighting left.elements right.elements).order ≡ order
    → (order ≡ Equal → more ≡ record { order = Equal; level = 0 })
    → then_levels (compared weighting left.elements right.elements) more ≡ compared weighting left.elements right.elements
levels_decide weighting Less left right more is none =
    decided_here _ _ more (λ e. let no : Less ≡ Equal = sym is ∙ e in absurd cc)
levels_decide weighting Equal left right more is none =
    let some = compared weighting left.elements right.elements in
    ap (then_levels some) (none refl)
    ∙ then_nothing some.order some.level (level_zero 0 (level_lists weighting left.elements) (level_lists weighting right.elements))
levels_decide weighting Greater left right more is none =
    decided_here _ _ more (λ e. let no : Greater ≡ Equal = sym is ∙ e in absurd cc)

none_more : (order : Ordering) (left right : List ℕ) → NothingElseDecides order Identical left right → order ≡ Equal → left ≡ right
none_more Less left right same is = absurd cc
none_more Equal left right same is = same
none_more Greater left right same is = absurd cc

pub compares_at : (depth : Depth) (weighting : Weighting) (left right : ReadText) (xs ys : List ℕ) (w : Walked)
    → ComparesLevels weighting left.elements right.elements w → NothingElseDecides w.order depth xs ys → (xs ≡ ys → left.points ≡ right.points)
    → (w.order ≡ (compared_at depth weighting left right).order) × (w.level ≡ (compared_at depth weighting left right).level)
compares_at Weights weighting left right xs ys w levels none same = (levels.order_is, levels.level_is)
compares_at Identical weighting left right xs ys w levels none same =
    let n = 1 + length (level_lists weighting left.elements) in
    let all : compared_at Identical weighting left right ≡ compared weighting left.elements right.elements =
    identical_is weighting left right
    ∙ levels_decide weighting w.order left right (compare_from n (left.points ∷ []) (right.points ∷ [])) (sym levels.order_is)
    (λ equal. same_points n left.points right.points (same (none_more w.order xs ys none equal))) in
    (levels.order_is ∙ ap (λ (a : Comparison). a.order) (sym all), levels.level_is ∙ ap (λ (a : Comparison). a.level) (sym all))

-- ---- Equal texts

-- nothing else decides between them
pub same_decides : (order : Ordering) (depth : Depth) (left right : List ℕ) → left ≡ right → NothingElseDecides order depth left right
same_decides Less depth left right same = tt
same_decides Equal Weights left right same = tt
same_decides Equal Identical left right same = same
same_decides Greater depth left right same = tt

-- how a text compares with itself is how it compares with an equal one
pub itself_and_same : (c : Collation) (weighting : Weighting) (text : NfdText) (left right : List ℕ) (w : Walked) → text ≡ nfd_text c.properties (chars left)
    → left ≡ right → ComparesLevels weighting (elements_of c text) (elements_of c text) w
    → ComparesLevels weighting (elements_of c (nfd_text c.properties (chars left))) (elements_of c (nfd_text c.properties (chars right))) w
itself_and_same c weighting text left right w is same compares =
    subst (λ (l : List ℕ). ComparesLevels weighting (elements_of c (nfd_text c.properties (chars left))) (elements_of c (nfd_text c.properties (chars l))) w) same
    (subst (λ (t : NfdText). ComparesLevels weighting (elements_of c t) (elements_of c t) w) is compares)

-- ---- At either depth

-- the code points decide after equal levels
pub points_decide : (depth : Depth) (weighting : Weighting) (left right : ReadText) (w : Walked) → depth ≡ Identical → w.order ≡ Equal
    → ComparesLevels weighting left.elements right.elements w → (order : Ordering) (level : ℕ)
    → (order ≡ (compared_points weighting left.points right.points).order) × (level ≡ (compared_points weighting left.points right.points).level)
    → (order ≡ (compared_at depth weighting left right).order) × (level ≡ (compared_at depth weighting left right).level)
points_decide depth weighting left right w identical equal levels order level points =
    let count = level_count weighting in
    let more : ℕ → Comparison = λ n. compare_from n (left.points ∷ []) (right.points ∷ []) in
    let next : 1 + count ≡ suc count = omega arith in
    let all : compared_at depth weighting left right ≡ compared_points weighting left.points right.points =
    ap (λ d. compared_at d weighting left right) identical
    ∙ (identical_is weighting left right
    ∙ (ap (λ n. then_levels (compared weighting left.elements right.elements) (more (1 + n))) (length_levels 1 count (weighted weighting left.elements))
    ∙ (ap (λ o. decided o (compared weighting left.elements right.elements).level (more (1 + count))) (sym levels.order_is ∙ equal)
    ∙ ap more next))) in
    (points.0 ∙ ap (λ (a : Comparison). a.order) (sym all), points.1 ∙ ap (λ (a : Comparison). a.level) (sym all))

-- at `Weights` no level is left
pub weights_decide : (depth : Depth) (weighting : Weighting) (left right : ReadText) (w : Walked) → depth ≡ Weights
    → ComparesLevels weighting left.elements right.elements w
    → (w.order ≡ (compared_at depth weighting left right).order) × (w.level ≡ (compared_at depth weighting left right).level)
weights_decide depth weighting left right w weights levels =
    subst (λ d. (w.order ≡ (compared_at d weighting left right).order) × (w.level ≡ (compared_at d weighting left right).level)) (sym weights)
    (levels.order_is, levels.level_is)

pub fetches_all : (weighting : Weighting) (es fs : List Element) (w : Walked) → ComparesLevels weighting es fs w
    → (w.fetched_left ≡ min 18446744073709551615 (fetched_left weighting es fs)) × (w.fetched_right ≡ min 18446744073709551615 (fetched_right weighting es fs))
fetches_all weighting es fs w levels = (levels.left_is ∙ counted_from_none _, levels.right_is ∙ counted_from_none _)

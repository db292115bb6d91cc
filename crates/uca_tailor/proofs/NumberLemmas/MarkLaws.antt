-- Marks of weights: those of one more element, and the list that they give.
use Rattle.std.proofs.Common.{◌≡◌, ◌⊎◌, inl, inr, ◌↔◌, ℕ, zero, suc, ◌+◌, ◌<◌, ◌≤◌, Bool, true, false, List, [], ◌∷◌, ◌++◌, length, get_or, refl, sym, ap, ◌∙◌, arith, subst, get_or-set_same, get_or-set_other}
use Rattle.std.proofs.Math.ListN.{set, length-set}
use Rattle.std.proofs.lemmas.Bool.{cases_eq}
use Rattle.std.specs.List.{AllByRecursion}
use Rattle.uca_weights.specs.declared.Element.{Element}
use Rattle.uca_weights.specs.declared.Level.{Level}
use Rattle.uca_weights.specs.declared.Level.TheVariants.{One, Two, Three}
use Rattle.uca_weights.specs.Levels.{weight}
use Rattle.uca_weights.proofs.Lists.{each_weaker}
use Rattle.uca_plans.specs.Lists.{fixed_weight, top_weight, base_weights}
use Rattle.uca_plans.specs.ListLaws.{IsRising, IsAmong, HasWeight}
use Rattle.uca_plans.proofs.ListMembers.{of_each}
use Rattle.uca_plans.proofs.BaseWeightLemmas.{are_base_weights}
use Rattle.uca_tailor.specs.inside.Marks.{AreMarked, slots_from}
use Rattle.uca_plans.proofs.PlanRows.{top_fits}

-- ---- One more element

-- an element after others has a weight
more_to : (level : Level) (es : List Element) (e : Element) (w : ℕ) → HasWeight level w es ⊎ (weight level e ≡ w) → HasWeight level w (es ++ e ∷ [])
more_to level [] e w (inl none) = absurd none
more_to level [] e w (inr here) = inl here
more_to level (f ∷ es) e w (inl (inl first)) = inl first
more_to level (f ∷ es) e w (inl (inr later)) = inr (more_to level es e w (inl later))
more_to level (f ∷ es) e w (inr last) = inr (more_to level es e w (inr last))

-- and only then
more_from : (level : Level) (es : List Element) (e : Element) (w : ℕ) → HasWeight level w (es ++ e ∷ []) → HasWeight level w es ⊎ (weight level e ≡ w)
more_from level [] e w (inl here) = inr here
more_from level [] e w (inr none) = absurd none
more_from level (f ∷ es) e w (inl first) = inl (inl first)
more_from level (f ∷ es) e w (inr later) = elim (more_from level es e w later) [
  | inl old ↦ inl (inr old)
  | inr last ↦ inr last
]

-- one more flag that is set
flag_more : (marks : List Bool) (x w : ℕ) → x < length marks → (get_or (set marks x true) w false ≡ true) ↔ ((w ≡ x) ⊎ (get_or marks w false ≡ true))
flag_more marks x w within = elim (cases_eq w x) [
  | inl same ↦ (λ _. inl same, λ _. ap (λ k. get_or (set marks x true) k false) same ∙ get_or-set_same marks x true false within)
  | inr other ↦
      let kept : get_or (set marks x true) w false ≡ get_or marks w false = get_or-set_other marks x w true false other in (
        λ flag. inr (sym kept ∙ flag),
        λ either. elim either [
          | inl same ↦ absurd (other same)
          | inr flag ↦ kept ∙ flag
        ],
      )
]

-- so has the one that stays
fixed_small : (level : Level) → fixed_weight level < 0x1_0000
fixed_small One = omega arith
fixed_small Two = omega arith
fixed_small Three = omega arith

-- the marks with that of one more element
pub marked_more : (level : Level) (es : List Element) (e : Element) (marks : List Bool) (x : ℕ) → x ≡ weight level e → 0 < x → x ≤ top_weight level
    → AreMarked level es marks → AreMarked level (es ++ e ∷ []) (set marks x true)
marked_more level es e marks x is some low marked = record {
  count = length-set marks x true ∙ marked.count;
  each = λ w.
      let more = flag_more marks x w (omega (arith, marked.count, top_fits level)) in (
        λ flag. elim (more.0 flag) [
          | inl same ↦ inr (omega (arith, same), omega (arith, same), more_to level es e w (inr (sym is ∙ sym same)))
          | inr old ↦ elim ((marked.each w).0 old) [
            | inl fixed ↦ inl fixed
            | inr of ↦ inr (of.0, of.1, more_to level es e w (inl of.2))
          ]
        ],
        λ either. more.1 (elim either [
          | inl fixed ↦ inr ((marked.each w).1 (inl fixed))
          | inr of ↦ elim (more_from level es e w of.2) [
            | inl old ↦ inr ((marked.each w).1 (inr (of.0, of.1, old)))
            | inr here ↦ inl (sym here ∙ sym is)
          ]
        ]),
      );
}

-- the marks stay where one more element's weight is not numbered
pub marked_same : (level : Level) (es : List Element) (e : Element) (marks : List Bool) → ((0 < weight level e) × (weight level e ≤ top_weight level) → ⊥)
    → AreMarked level es marks → AreMarked level (es ++ e ∷ []) marks
marked_same level es e marks not marked = record {
  count = marked.count;
  each = λ w. (
    λ flag. elim ((marked.each w).0 flag) [
      | inl fixed ↦ inl fixed
      | inr of ↦ inr (of.0, of.1, more_to level es e w (inl of.2))
    ],
    λ either. elim either [
      | inl fixed ↦ (marked.each w).1 (inl fixed)
      | inr of ↦ elim (more_from level es e w of.2) [
        | inl old ↦ (marked.each w).1 (inr (of.0, of.1, old))
        | inr here ↦ absurd (not (rw here of.0, rw here of.1))
      ]
    ],
  );
}

-- the weight that stays is the first that is marked
pub first_marked : (level : Level) (marks : List Bool) → length marks ≡ 0x1_0000 → ((w : ℕ) → get_or marks w false ≡ false)
    → AreMarked level [] (set marks (fixed_weight level) true)
first_marked level marks count none = record {
  count = length-set marks (fixed_weight level) true ∙ count;
  each = λ w.
      let more = flag_more marks (fixed_weight level) w (omega (arith, count, fixed_small level)) in (
        λ flag. elim (more.0 flag) [
          | inl fixed ↦ inl fixed
          | inr old ↦ let clear = none w in absurd (cc)
        ],
        λ either. elim either [
          | inl fixed ↦ more.1 (inl fixed)
          | inr of ↦ absurd of.2
        ],
      );
}

-- ---- The list of the weights that are marked

-- a flag that is set gives its slot
slots_to : (slot : ℕ) (marks : List Bool) (k : ℕ) → get_or marks k false ≡ true → IsAmong (slots_from slot marks) (slot + k)
slots_to slot [] k flag = absurd (cc)
slots_to slot (true ∷ marks) zero flag = inl (omega arith)
slots_to slot (false ∷ marks) zero flag = absurd (cc)
slots_to slot (true ∷ marks) (suc k) flag =
    let same : (slot + 1) + k ≡ slot + suc k = omega arith in
    inr (subst (IsAmong (slots_from (slot + 1) marks)) same (slots_to (slot + 1) marks k flag))
slots_to slot (false ∷ marks) (suc k) flag =
    let same : (slot + 1) + k ≡ slot + suc k = omega arith in
    subst (IsAmong (slots_from (slot + 1) marks)) same (slots_to (slot + 1) marks k flag)

-- each slot is that of a flag that is set
slots_of : (slot : ℕ) (marks : List Bool) (w : ℕ) → IsAmong (slots_from slot marks) w → (k : ℕ) × (w ≡ slot + k) × (get_or marks k false ≡ true)
slots_of slot [] w among = absurd among
slots_of slot (true ∷ marks) w (inl here) = (0, omega (arith, here), refl)
slots_of slot (true ∷ marks) w (inr there) = let (k, is, flag) = slots_of (slot + 1) marks w there in (suc k, omega (arith, is), flag)
slots_of slot (false ∷ marks) w among = let (k, is, flag) = slots_of (slot + 1) marks w among in (suc k, omega (arith, is), flag)

-- none is below the first
slots_above : (slot : ℕ) (marks : List Bool) → AllByRecursion (λ w. slot ≤ w) (slots_from slot marks)
slots_above slot [] = tt
slots_above slot (true ∷ marks) = (
  omega arith,
  each_weaker (λ w. slot + 1 ≤ w) (λ w. slot ≤ w) (λ w h. omega arith) (slots_from (slot + 1) marks) (slots_above (slot + 1) marks),
)
slots_above slot (false ∷ marks) =
    each_weaker (λ w. slot + 1 ≤ w) (λ w. slot ≤ w) (λ w h. omega arith) (slots_from (slot + 1) marks) (slots_above (slot + 1) marks)

-- slots rise
slots_rise : (slot : ℕ) (marks : List Bool) → IsRising (slots_from slot marks)
slots_rise slot [] = tt
slots_rise slot (true ∷ marks) = (
  each_weaker (λ w. slot + 1 ≤ w) (λ w. slot < w) (λ w h. omega arith) (slots_from (slot + 1) marks) (slots_above (slot + 1) marks),
  slots_rise (slot + 1) marks,
)
slots_rise slot (false ∷ marks) = slots_rise (slot + 1) marks

-- rising lists of the same numbers are one
rising_same : (xs ys : List ℕ) → IsRising xs → IsRising ys → ((w : ℕ) → IsAmong xs w → IsAmong ys w) → ((w : ℕ) → IsAmong ys w → IsAmong xs w) → xs ≡ ys
rising_same [] [] xs_rise ys_rise there back = refl
rising_same [] (y ∷ ys) xs_rise ys_rise there back = absurd (back y (inl refl))
rising_same (x ∷ xs) [] xs_rise ys_rise there back = absurd (there x (inl refl))
rising_same (x ∷ xs) (y ∷ ys) xs_rise ys_rise there back =
    let first : x ≡ y = omega (arith, at_least y ys x ys_rise.0 (there x (inl refl)), at_least x xs y xs_rise.0 (back y (inl refl))) in
    let rest : xs ≡ ys = rising_same xs ys xs_rise.1 ys_rise.1
    (λ w among. later y ys w (omega (arith, first, of_each (λ v. x < v) xs w xs_rise.0 among)) (there w (inr among)))
    (λ w among. later x xs w (omega (arith, first, of_each (λ v. y < v) ys w ys_rise.0 among)) (back w (inr among))) in
    cc
  where
    -- none is below the first
    at_least : (z : ℕ) (zs : List ℕ) (w : ℕ) → AllByRecursion (λ v. z < v) zs → IsAmong (z ∷ zs) w → z ≤ w
    at_least z zs w above (inl here) = omega (arith, here)
    at_least z zs w above (inr among) = omega (arith, of_each (λ v. z < v) zs w above among)

    -- a weight above the first comes after it
    later : (z : ℕ) (zs : List ℕ) (w : ℕ) → z < w → IsAmong (z ∷ zs) w → IsAmong zs w
    later z zs w above (inl here) = absurd (omega (arith, here, above))
    later z zs w above (inr among) = among

-- the weights that are marked are the base weights
pub marked_are : (level : Level) (es : List Element) (marks : List Bool) → AreMarked level es marks → slots_from 0 marks ≡ base_weights level es
marked_are level es marks marked =
    let bases = are_base_weights level es in
    rising_same (slots_from 0 marks) (base_weights level es) (slots_rise 0 marks) bases.rising
    (λ w among. let (k, is, flag) = slots_of 0 marks w among in
    let same : k ≡ w = omega (arith, is) in
    (bases.each w).1 ((marked.each w).0 (subst (λ v. get_or marks v false ≡ true) same flag)))
    (λ w among. let same : 0 + w ≡ w = omega arith in
    subst (IsAmong (slots_from 0 marks)) same (slots_to 0 marks w ((marked.each w).1 ((bases.each w).0 among))))

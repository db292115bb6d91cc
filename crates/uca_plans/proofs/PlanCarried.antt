-- The invariant is carried from relation to relation.
use Rattle.std.proofs.Common.{◌≡◌, ◌⊎◌, inl, inr, ℕ, suc, ◌+◌, ◌<◌, Bool, true, false, List, [], ◌∷◌, ◌++◌, length, Option, Some, None, refl, sym, ap}
use Rattle.std.proofs.Common.{◌∙◌, arith, subst, if◌then◌else◌}
use Rattle.std.specs.Prelude.{IfSome}
use Rattle.std.specs.Char.{IsScalar}
use Rattle.std.specs.List.{AllByRecursion}
use Rattle.uca_weights.specs.declared.Level.{Level}
use Rattle.uca_weights.specs.declared.Level.TheVariants.{One, Two, Three}
use Rattle.uca_weights.specs.Levels.{level_of}
use Rattle.uca_values.specs.Content.{AreImplicitRanges}
use Rattle.uca_check.specs.WellFormed.{elements_of}
use Rattle.uca_weights.proofs.Lists.{each_weaker, each_append, each_parts}
use Rattle.uca_text.specs.Texts.{NfdText}
use Rattle.uca_relations.specs.declared.Relation.{Relation}
use Rattle.uca_relations.specs.Relations.{IsRuleText, HasRuleTexts}
use Rattle.uca_plans.specs.declared.drafts.DraftWeight.{DraftWeight}
use Rattle.uca_plans.specs.declared.drafts.DraftWeight.TheVariants.{Base, New}
use Rattle.uca_plans.specs.declared.drafts.DraftElement.{DraftElement}
use Rattle.uca_plans.specs.Lists.{Insertion, same_level, inserted, all_inserted}
use Rattle.uca_plans.specs.ListLaws.{IsAmong}
use Rattle.uca_plans.specs.Drafts.{draft_elements, draft_weight, takes_no_weight, AnchorPart, reset, reweighted}
use Rattle.uca_plans.specs.Plans.{Basis, Drafting, drafted_at, draft_expansion}
use Rattle.uca_plans.proofs.InsertionLemmas.{inserts, inserts_new}
use Rattle.uca_plans.proofs.GoodLists.{good_fixed, grown_through, grown_same}
use Rattle.uca_plans.proofs.PlanSteps.{target_row, IsStep, AreSteps}
use Rattle.uca_plans.proofs.PlanLists.{list_at, HasGoodLists, HasGrownLists, good_step, step_list}
use Rattle.uca_plans.proofs.DraftKinds.{IsZero, reset_cases, accepted_low, IsAnchorPart, IsPlacedDraft, placed_is, joined_is}
use Rattle.uca_plans.proofs.DraftGaps.{HasNoGaps, gaps_joined, part_not_ignorable, placed_gapless}
use Rattle.uca_plans.proofs.PlanHolds.{IsListed, FitsWeight, IsFitting, Holds, Carries, read_held}
use borrow.Table.Char.{scalar_below}
use Rattle.uca_plans.proofs.RowSizes.{each_with_row}

-- ---- Rows

-- ---- Elements

-- listed elements are listed in lists that have grown
pub listed_grown : (basis : Basis) (n : ℕ) (a b : Drafting) → HasGrownLists basis n a b → (e : DraftElement)
    → IsListed (list_at One basis a) (list_at Two basis a) (list_at Three basis a) e
    → IsListed (list_at One basis b) (list_at Two basis b) (list_at Three basis b) e
listed_grown basis n a b grown e listed = record {
  primary = elim listed.primary [
    | inl none ↦ inl none
    | inr some ↦ elim some [ inl there ↦ inr (inl ((grown One).old e.primary there)) | inr high ↦ inr (inr high) ]
  ];
  secondary = elim listed.secondary [ inl none ↦ inl none | inr there ↦ inr ((grown Two).old e.secondary there) ];
  tertiary = elim listed.tertiary [ inl none ↦ inl none | inr there ↦ inr ((grown Three).old e.tertiary there) ];
}

-- a reset weight is none or the one that it is reset to
reset_listed : (ms : List DraftWeight) (w : DraftWeight) (weight : ℕ) → IsAmong ms (Base weight)
    → IsZero (reset w weight) ⊎ IsAmong ms (reset w weight)
reset_listed ms w weight there = elim (reset_cases w weight) [
  | inl none ↦ inl none.1
  | inr some ↦ inr (subst (λ x. IsAmong ms x) (sym some.1) there)
]

-- an element with a new weight of the list is listed
pub reweighted_listed : (level : Level) (basis : Basis) (n m : ℕ) (b : Drafting) (e : DraftElement) → HasGoodLists basis m b
    → IsListed (list_at One basis b) (list_at Two basis b) (list_at Three basis b) e → IsAmong (list_at level basis b) (New n)
    → IsListed (list_at One basis b) (list_at Two basis b) (list_at Three basis b) (reweighted level (New n) e)
reweighted_listed One basis n m b e good listed there = record {
  primary = inr (inl there);
  secondary = reset_listed (list_at Two basis b) e.secondary 0x20 (good_fixed Two (elements_of basis.base) m (list_at Two basis b) (good Two));
  tertiary = reset_listed (list_at Three basis b) e.tertiary 2 (good_fixed Three (elements_of basis.base) m (list_at Three basis b) (good Three));
}
reweighted_listed Two basis n m b e good listed there = record {
  primary = listed.primary;
  secondary = inr there;
  tertiary = reset_listed (list_at Three basis b) e.tertiary 2 (good_fixed Three (elements_of basis.base) m (list_at Three basis b) (good Three));
}
reweighted_listed Three basis n m b e good listed there = record { primary = listed.primary; secondary = listed.secondary; tertiary = inr there }

-- a reset weight has 16 bits
reset_fits : (w : DraftWeight) (weight : ℕ) → weight < 0x1_0000 → FitsWeight w → FitsWeight (reset w weight)
reset_fits w weight small fits = elim (reset_cases w weight) [
  | inl none ↦ subst FitsWeight (sym none.1) (omega arith)
  | inr some ↦ subst FitsWeight (sym some.1) small
]

-- an element with a new weight has weights of 16 bits
reweighted_fits : (level : Level) (n : ℕ) (e : DraftElement) → IsFitting e → IsFitting (reweighted level (New n) e)
reweighted_fits One n e fits = record {
  primary = tt;
  secondary = reset_fits e.secondary 0x20 (omega arith) fits.secondary;
  tertiary = reset_fits e.tertiary 2 (omega arith) fits.tertiary;
}
reweighted_fits Two n e fits = record {
  primary = fits.primary;
  secondary = tt;
  tertiary = reset_fits e.tertiary 2 (omega arith) fits.tertiary;
}
reweighted_fits Three n e fits = record { primary = fits.primary; secondary = fits.secondary; tertiary = tt }

-- ---- The anchor

-- the weight of a listed element that is accepted and has a weight at the level is in the level's list
pub anchor_member : (level : Level) (basis : Basis) (a : Drafting) (e : DraftElement)
    → IsListed (list_at One basis a) (list_at Two basis a) (list_at Three basis a) e → takes_no_weight level e ≡ false
    → (IsZero (draft_weight level e) → ⊥)
    → IsAmong (list_at level basis a) (draft_weight level e)
anchor_member One basis a e listed accepted some = elim listed.primary [
  | inl none ↦ absurd (some none)
  | inr other ↦ elim other [ inl there ↦ there | inr high ↦ absurd (accepted_low e accepted high) ]
]
anchor_member Two basis a e listed accepted some = elim listed.secondary [ inl none ↦ absurd (some none) | inr there ↦ there ]
anchor_member Three basis a e listed accepted some = elim listed.tertiary [ inl none ↦ absurd (some none) | inr there ↦ there ]

-- the elements that a relation's anchor and expansion have before it
abbrev pub anchor_at : Basis → Drafting → Relation → List DraftElement
anchor_at basis a rule = draft_elements basis.ranges basis.properties a.rows rule.anchor

-- a level is the same as itself
same_level_itself : (level : Level) → same_level level level ≡ true
same_level_itself One = refl
same_level_itself Two = refl
same_level_itself Three = refl

-- What a step at a level does. An accepted part of the anchor is found. Its last element was there, has no gap, and has
-- a weight of the level's list. The new weight is in the list after the step.
pub record IsPlacedStep (basis : Basis) (n : ℕ) (rule : Relation) (a b : Drafting) (holds : Holds basis n a) (step : IsStep basis n rule a b)
    (level : Level) : Type 1 where
  pub placed : IsPlacedDraft level rule.before n (anchor_at basis a rule) (draft_expansion basis a rule.expansion) step.new
  pub last_held : holds.E placed.part.last
  pub not_ignorable : IsZero (draft_weight level placed.part.last) → ⊥
  pub anchor_there : IsAmong (list_at level basis a) (draft_weight level placed.part.last)
  pub new_there : IsAmong (list_at level basis b) (New n)

-- the last element of a part is one of the elements
pub part_each : (P : DraftElement → Type 0) (level : Level) (es : List DraftElement) (part : AnchorPart) → IsAnchorPart level es part
    → AllByRecursion P es
    → AllByRecursion P part.front × P part.last
part_each P level es part found all =
    let parts = each_parts P part.front (part.last ∷ found.trailing) (subst (AllByRecursion P) found.split all) in (parts.0, parts.1.0)

-- the list after a step at a level is the one before it, with the new weight put in
pub placed_list : (basis : Basis) (n : ℕ) (rule : Relation) (a b : Drafting) (step : IsStep basis n rule a b) (level : Level) (i : Insertion)
    → i.level ≡ level → step.new.insertions ≡ i ∷ [] → list_at level basis b ≡ inserted i (list_at level basis a)
placed_list basis n rule a b step level i at_level insertions =
    step_list basis n rule a b step level
    ∙ ap (λ is. all_inserted level is (list_at level basis a)) insertions
    ∙ ap (λ test. if test then inserted i (list_at level basis a) else list_at level basis a)
    (ap (λ other. same_level other level) at_level ∙ same_level_itself level)

-- the new weight is in the list after a step
new_member : (basis : Basis) (n : ℕ) (rule : Relation) (a b : Drafting) (step : IsStep basis n rule a b) (level : Level) (before : Bool)
    (anchor expansion : List DraftElement) (placed : IsPlacedDraft level before n anchor expansion step.new)
    → IsAmong (list_at level basis a) (draft_weight level placed.part.last) → IsAmong (list_at level basis b) (New n)
new_member basis n rule a b step level before anchor expansion placed there =
    let i : Insertion = record { level = level; before = before; anchor = draft_weight level placed.part.last; new = New n } in
    let list = placed_list basis n rule a b step level i refl (ap (λ d. d.insertions) placed.is) in
    subst (λ ms. IsAmong ms (New n)) (sym list) (inserts_new (inserts i (list_at level basis a) there))

-- ---- Texts of relations

-- a relation's text has code points
pub text_points : (text : NfdText) → IsRuleText text → AllByRecursion (λ c. c < 0x11_0000) text.points
text_points text is = each_weaker IsScalar (λ c. c < 0x11_0000) scalar_below text.points is.normal.scalars

-- the elements of an expansion are among the elements so far, without gaps
expansion_held : (basis : Basis) (n : ℕ) (a : Drafting) (holds : Holds basis n a) → AreImplicitRanges basis.ranges → (expansion : Option NfdText)
    → IfSome expansion IsRuleText
    → AllByRecursion holds.E (draft_expansion basis a expansion) × HasNoGaps None (draft_expansion basis a expansion)
expansion_held basis n a holds ranges None texts = (tt, tt)
expansion_held basis n a holds ranges (Some text) texts = read_held basis n a holds ranges text (text_points text texts)

-- ---- One step

-- the invariant holds after a step, of any elements that are listed and fit, where the new row is made of them
step_holds : (basis : Basis) (n : ℕ) (rule : Relation) (a b : Drafting) (holds : Holds basis n a) (step : IsStep basis n rule a b) (F : DraftElement → Type 0)
    → ((e : DraftElement) → holds.E e → F e)
    → ((e : DraftElement) → F e → IsListed (list_at One basis b) (list_at Two basis b) (list_at Three basis b) e)
    → ((e : DraftElement) → F e → IsFitting e)
    → AllByRecursion F step.new.elements → HasNoGaps None step.new.elements → Carries basis n (n + 1) a b holds
step_holds basis n rule a b holds step F keeps listed fits made whole =
    let good = good_step basis n rule a b step holds.lists in
    let old : AllByRecursion (λ row. AllByRecursion F row.elements) a.rows =
    each_weaker (λ row. AllByRecursion holds.E row.elements) (λ row. AllByRecursion F row.elements)
    (λ row all. each_weaker holds.E F keeps row.elements all) a.rows holds.held in
    record {
      behind = record {
        E = F;
        lists = good.0;
        listed = listed;
        fits = fits;
        implicits = λ e read. keeps e (holds.implicits e read);
        held = subst (λ rows. AllByRecursion (λ row. AllByRecursion F row.elements) rows) (sym step.rows)
            (each_with_row (λ row. AllByRecursion F row.elements) (target_row rule step.new) a.rows made old);
        gapless = subst (λ rows. AllByRecursion (λ row. HasNoGaps None row.elements) rows) (sym step.rows)
            (each_with_row (λ row. HasNoGaps None row.elements) (target_row rule step.new) a.rows whole holds.gapless);
      };
      elements = keeps;
      grown = good.1;
    }

-- a step at a level is placed
pub placed_step : (basis : Basis) (n : ℕ) (rule : Relation) (a b : Drafting) (holds : Holds basis n a) → AreImplicitRanges basis.ranges
    → HasRuleTexts rule
    → (step : IsStep basis n rule a b) (level : Level)
    → drafted_at (Some level) rule.before (New n) (anchor_at basis a rule) (draft_expansion basis a rule.expansion) ≡ Some step.new
    → IsPlacedStep basis n rule a b holds step level
placed_step basis n rule a b holds ranges texts step level is =
    let placed = placed_is level rule.before n (anchor_at basis a rule) (draft_expansion basis a rule.expansion) step.new is in
    let anchors = read_held basis n a holds ranges rule.anchor (text_points rule.anchor texts.anchors) in
    let last = (part_each holds.E level (anchor_at basis a rule) placed.part placed.found anchors.0).1 in
    let not_ignorable = part_not_ignorable level (anchor_at basis a rule) placed.part anchors.1 placed.found placed.accepted in
    let there = anchor_member level basis a placed.part.last (holds.listed placed.part.last last) placed.accepted not_ignorable in
    record {
      placed = placed;
      last_held = last;
      not_ignorable = not_ignorable;
      anchor_there = there;
      new_there = new_member basis n rule a b step level rule.before (anchor_at basis a rule) (draft_expansion basis a rule.expansion) placed there;
    }

-- the elements so far and one with a new weight
abbrev pub WithElement : (DraftElement → Type 0) → DraftElement → DraftElement → Type 0
WithElement E x e = E e ⊎ (e ≡ x)

-- the invariant is carried over a step at a level
carried_placed : (basis : Basis) (n : ℕ) (rule : Relation) (a b : Drafting) (holds : Holds basis n a) → AreImplicitRanges basis.ranges
    → HasRuleTexts rule
    → (step : IsStep basis n rule a b) (level : Level) → IsPlacedStep basis n rule a b holds step level → Carries basis n (n + 1) a b holds
carried_placed basis n rule a b holds ranges texts step level at =
    let good = good_step basis n rule a b step holds.lists in
    let anchors = read_held basis n a holds ranges rule.anchor (text_points rule.anchor texts.anchors) in
    let expands = expansion_held basis n a holds ranges rule.expansion texts.expands in
    let part = at.placed.part in
    let new : DraftElement = reweighted level (New n) part.last in
    let F : DraftElement → Type 0 = WithElement holds.E new in
    let front = (part_each holds.E level (anchor_at basis a rule) part at.placed.found anchors.0).0 in
    let elements : step.new.elements ≡ part.front ++ new ∷ draft_expansion basis a rule.expansion = ap (λ d. d.elements) at.placed.is in
    step_holds basis n rule a b holds step F
    (λ e old. inl old)
    (λ e either. elim either [
      | inl old ↦ listed_grown basis n a b good.1 e (holds.listed e old)
      | inr same ↦ subst (IsListed (list_at One basis b) (list_at Two basis b) (list_at Three basis b)) (sym same)
          (reweighted_listed level basis n (n + 1) b part.last good.0
          (listed_grown basis n a b good.1 part.last (holds.listed part.last at.last_held)) at.new_there)
    ])
    (λ e either. elim either [
      | inl old ↦ holds.fits e old
      | inr same ↦ subst IsFitting (sym same) (reweighted_fits level n part.last (holds.fits part.last at.last_held))
    ])
    (subst (AllByRecursion F) (sym elements)
    (each_append F part.front (new ∷ draft_expansion basis a rule.expansion) (each_weaker holds.E F (λ e old. inl old) part.front front)
    (inr refl, each_weaker holds.E F (λ e old. inl old) (draft_expansion basis a rule.expansion) expands.0)))
    (subst (HasNoGaps None) (sym elements)
    (placed_gapless level n (anchor_at basis a rule) (draft_expansion basis a rule.expansion) part anchors.1 expands.1 at.placed.found at.placed.accepted))

-- and over one at no level
carried_joined : (basis : Basis) (n : ℕ) (rule : Relation) (a b : Drafting) (holds : Holds basis n a) → AreImplicitRanges basis.ranges
    → HasRuleTexts rule
    → (step : IsStep basis n rule a b) → step.new.elements ≡ anchor_at basis a rule ++ draft_expansion basis a rule.expansion
    → Carries basis n (n + 1) a b holds
carried_joined basis n rule a b holds ranges texts step elements =
    let good = good_step basis n rule a b step holds.lists in
    let anchors = read_held basis n a holds ranges rule.anchor (text_points rule.anchor texts.anchors) in
    let expands = expansion_held basis n a holds ranges rule.expansion texts.expands in
    step_holds basis n rule a b holds step holds.E
    (λ e old. old) (λ e old. listed_grown basis n a b good.1 e (holds.listed e old)) holds.fits
    (subst (AllByRecursion holds.E) (sym elements) (each_append holds.E (anchor_at basis a rule) (draft_expansion basis a rule.expansion) anchors.0 expands.0))
    (subst (HasNoGaps None) (sym elements) (gaps_joined None (anchor_at basis a rule) (draft_expansion basis a rule.expansion) anchors.1 expands.1))

-- the invariant is carried over a step
pub carried_step : (basis : Basis) (n : ℕ) (rule : Relation) (a b : Drafting) (holds : Holds basis n a) → AreImplicitRanges basis.ranges
    → HasRuleTexts rule
    → IsStep basis n rule a b → Carries basis n (n + 1) a b holds
carried_step basis n rule a b holds ranges texts step = go (level_of rule.strength) step.is_drafted
  where
    -- by the level
    go : (level : Option Level)
        → drafted_at level rule.before (New n) (anchor_at basis a rule) (draft_expansion basis a rule.expansion) ≡ Some step.new
        → Carries basis n (n + 1) a b holds
    go None is =
        carried_joined basis n rule a b holds ranges texts step
        (joined_is rule.before n (anchor_at basis a rule) (draft_expansion basis a rule.expansion) step.new is)
    go (Some level) is = carried_placed basis n rule a b holds ranges texts step level (placed_step basis n rule a b holds ranges texts step level is)

-- ---- All steps

-- the invariant is carried along equal drafts
same_drafts : (basis : Basis) (n m : ℕ) (a b : Drafting) (holds : Holds basis n a) → n ≡ m → a ≡ b → Carries basis n m a b holds
same_drafts basis n m a b holds place same =
    let unmoved : Carries basis n n a a holds = record { behind = holds; elements = λ e old. old; grown = λ level. grown_same n (list_at level basis a) } in
    subst (λ d. Carries basis n m a d holds) same (subst (λ k. Carries basis n k a a holds) place unmoved)

-- the invariant is carried over all steps
pub carried : (basis : Basis) (n : ℕ) (relations : List Relation) (a b : Drafting) (holds : Holds basis n a) → AreImplicitRanges basis.ranges
    → AllByRecursion HasRuleTexts relations
    → AreSteps basis n relations a b → Carries basis n (n + length relations) a b holds
carried basis n [] a b holds ranges texts steps = same_drafts basis n (n + 0) a b holds (omega arith) steps
carried basis n (r ∷ relations) a b holds ranges texts steps =
    let next = steps.0 in
    let first = carried_step basis n r a next holds ranges texts.0 steps.1 in
    let rest = carried basis (n + 1) relations next b first.behind ranges texts.1 steps.2 in
    let place : (n + 1) + length relations ≡ n + suc (length relations) = omega arith in
    subst (λ k. Carries basis n k a b holds) place (record {
      behind = rest.behind;
      elements = λ e old. rest.elements e (first.elements e old);
      grown = λ level.
          grown_through n (n + 1) (list_at level basis a) (list_at level basis next) (list_at level basis b) (omega arith)
          (first.grown level) (rest.grown level);
    })

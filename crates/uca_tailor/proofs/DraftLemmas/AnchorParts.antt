-- An anchor's elements up to the last that is not ignorable, found from the end.
use Rattle.std.proofs.Common.{◌≡◌, List, [], ◌∷◌, ◌++◌, true, false, Some, None, ap}
use Rattle.std.proofs.lemmas.Bool.{cond-true, cond-false}
use Rattle.uca_weights.specs.declared.Level.{Level}
use Rattle.uca_plans.specs.declared.drafts.DraftElement.{DraftElement}
use Rattle.uca_plans.specs.Drafts.{is_ignorable_to, after_front, anchor_part}

-- an ignorable element at the end counts for nothing
pub ignorable_last : (level : Level) (es : List DraftElement) (e : DraftElement) → is_ignorable_to level e ≡ true →
    anchor_part level (es ++ e ∷ []) ≡ anchor_part level es
ignorable_last level [] e ignorable = cond-true (is_ignorable_to level e) None (Some (record { front = []; last = e })) ignorable
ignorable_last level (f ∷ es) e ignorable = ap (after_front level f) (ignorable_last level es e ignorable)

-- any other at the end is the last
pub not_ignorable_last : (level : Level) (es : List DraftElement) (e : DraftElement) → is_ignorable_to level e ≡ false →
    anchor_part level (es ++ e ∷ []) ≡ Some (record { front = es; last = e })
not_ignorable_last level [] e not_ignorable = cond-false (is_ignorable_to level e) None (Some (record { front = []; last = e })) not_ignorable
not_ignorable_last level (f ∷ es) e not_ignorable = ap (after_front level f) (not_ignorable_last level es e not_ignorable)

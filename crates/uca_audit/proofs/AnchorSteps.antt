-- An anchor from its end: the last of its elements that is not ignorable, and whether a new weight can be put on it.
use Rattle.std.proofs.Common.{◌≡◌, ℕ, ◌+◌, ◌<◌, List, ◌∷◌, ◌++◌, length, take, drop, get_or, sym, subst, ◌∙◌}
use Rattle.std.specs.List.{AllByRecursion}
use Rattle.std.proofs.lemmas.List.{append_cancel_left}
use Rattle.uca_weights.proofs.Lists.{split_at}
use Rattle.uca_weights.specs.declared.Element.{Element}
use Rattle.uca_weights.specs.declared.Level.{Level}
use Rattle.uca_weights.specs.Kinds.{IsContinuation}
use Rattle.uca_weights.specs.Levels.{weight}
use Rattle.uca_tailorings.specs.Placing.{IsIgnorableTo, IsLow}
use Rattle.uca_tailorings.proofs.Parts.{of_part}
use Rattle.uca_tailorings.proofs.Relating.{one_anchor}
use Rattle.uca_audit.specs.inside.Anchors.{EndsAt, HasNoAnchor}

-- the member before the others is the one at the position
pub member_at : {X : Type 0} (xs : List X) (at : ℕ) (x d : X) → at < length xs → xs ≡ take at xs ++ x ∷ drop (at + 1) xs → x ≡ get_or xs at d
member_at xs at x d within whole =
    let both : x ∷ drop (at + 1) xs ≡ get_or xs at d ∷ drop (at + 1) xs =
    append_cancel_left (take at xs) (x ∷ drop (at + 1) xs) (get_or xs at d ∷ drop (at + 1) xs) (sym whole ∙ split_at xs at d within) in
    cc

-- where all elements are ignorable there is none to put a weight on
pub none_of_ignorable : (level : Level) (es : List Element) → AllByRecursion (IsIgnorableTo level) es → HasNoAnchor level es
none_of_ignorable level es ignorable before last trailing anchor = anchor.not_ignorable (of_part (IsIgnorableTo level) es before last trailing ignorable anchor.whole)

-- there is none either if the last one that is not ignorable cannot take it
pub none_of_last : (level : Level) (es : List Element) (at : ℕ) (d : Element) → EndsAt level es at →
    ¬ (¬ (IsContinuation (get_or es at d)) × IsLow level (weight level (get_or es at d))) → HasNoAnchor level es
none_of_last level es at d ends refused before last trailing anchor =
    let parts = one_anchor level before (take at es) last ends.last trailing (drop (at + 1) es) (sym anchor.whole ∙ ends.whole) anchor.ignorable ends.ignorable
    anchor.not_ignorable ends.not_ignorable in
    let same : last ≡ get_or es at d = parts.1 ∙ member_at es at ends.last d ends.within ends.whole in
    refused (subst (λ e. ¬ (IsContinuation e) × IsLow level (weight level e)) same (anchor.alone, anchor.low))

-- What a relation gives its target.
use Rattle.std.specs.Prelude.{List, [], ◌∷◌, Option, Some, None}
use Rattle.uca_plans.specs.declared.drafts.DraftElement.{DraftElement}
use Rattle.uca_plans.specs.declared.drafts.Insertion.{Insertion}
use Rattle.uca_plans.specs.Plans.{Drafted}
use Rattle.uca_tailor.specs.declared.drafts.targets.TargetDraft.{TargetDraft}
use Rattle.uca_tailor.specs.declared.drafts.targets.TargetDraft.TheVariants.{AnchorRejected, Identical, NewWeight}

-- where the new weight goes, if there is one
abbrev pub insertions_of : TargetDraft → List Insertion
insertions_of AnchorRejected = []
insertions_of Identical = []
insertions_of (NewWeight insertion) = insertion ∷ []

-- the draft with these elements; nothing if the anchor is rejected
abbrev pub drafted_with : List DraftElement → TargetDraft → Option Drafted
drafted_with elements AnchorRejected = None
drafted_with elements draft = Some (record { elements = elements; insertions = insertions_of draft })

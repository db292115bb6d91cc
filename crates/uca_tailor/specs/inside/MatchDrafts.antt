-- The draft elements of what a text is matched as.
use Rattle.std.specs.Prelude.{ℕ, zero, suc, true, List, [], ◌∷◌, map}
use Rattle.uca_values.specs.declared.ImplicitRange.{ImplicitRange}
use Rattle.uca_values.specs.Content.{Properties}
use Rattle.uca_values.specs.Implicit.{implicit}
use Rattle.uca_elements.specs.declared.matches.Match.{Match}
use Rattle.uca_elements.specs.declared.matches.Match.TheVariants.{Key, Unlisted}
use Rattle.uca_plans.specs.declared.drafts.DraftElement.{DraftElement}
use Rattle.uca_plans.specs.Drafts.{DraftRow, as_draft}

-- the elements of the row at a position
abbrev pub elements_at : ℕ → List DraftRow → List DraftElement
elements_at at [] = []
elements_at zero (row ∷ rows) = row.elements
elements_at (suc at) (row ∷ rows) = elements_at at rows

-- those of the row at the position of a key, or the implicit ones of a code point
abbrev pub match_drafts : List ImplicitRange → Properties → List DraftRow → Match ℕ → List DraftElement
match_drafts ranges properties rows (Key at) = elements_at at rows
match_drafts ranges properties rows (Unlisted c) = map (as_draft true) (implicit ranges properties c)

-- What is true of the elements of all rows and of implicit elements is true of what is read.
use Rattle.std.proofs.Common.{◌≡◌, ℕ, List, [], ◌∷◌, map, get_or, Bool, true, false, cond, Some, Contains, inl, inr, subst}
use Rattle.std.specs.List.{AllByRecursion}
use Rattle.std.proofs.lemmas.List.Elements.{recursion_from_All, All-contains_itself}
use Rattle.uca_values.specs.Implicit.{implicit}
use Rattle.uca_elements.specs.Rows.{same_key}
use Rattle.uca_plans.specs.declared.drafts.DraftElement.{DraftElement}
use Rattle.uca_plans.specs.Drafts.{DraftRow, as_draft, draft_at}
use Rattle.uca_plans.specs.Readings.{IsReadFrom, DraftsComeFromRows}
use Rattle.uca_weights.proofs.Lists.{each_append}
use Rattle.uca_plans.proofs.DraftPairs.{read_each}

-- each member of a list is a member of it
pub each_if_contained : {A : Type 0} (P : A → Type 0) (xs : List A) → ((x : A) → Contains xs x → P x) → AllByRecursion P xs
each_if_contained P xs holds = recursion_from_All P xs (λ k d l. holds (get_or xs k d) (All-contains_itself xs k d l))

-- what is true of each row is true of the row of a key
pub each_at : (P : List DraftElement → Type 0) (rows : List DraftRow) → AllByRecursion (λ row. P row.elements) rows → (key : List ℕ) (es : List DraftElement) →
    draft_at rows key ≡ Some es → P es
each_at P [] holds key es found = cc
each_at P (row ∷ rows) holds key es found = go (same_key row.key key) (each_at P rows holds.1 key es) found
  where
    go : (b : Bool) → (draft_at rows key ≡ Some es → P es) → cond b (Some row.elements) (draft_at rows key) ≡ Some es → P es
    go true later found = let same : row.elements ≡ es = cc in subst P same holds.0
    go false later found = later found

-- what is read comes from rows, or is implicit
pub come_from_rows : DraftsComeFromRows
come_from_rows ranges properties rows text =
    read_each (λ es. AllByRecursion (IsReadFrom ranges properties rows text) es) tt (each_append (IsReadFrom ranges properties rows text))
    ranges properties rows text
    (each_if_contained (λ row. AllByRecursion (IsReadFrom ranges properties rows text) row.elements) rows
    (λ row there. each_if_contained (IsReadFrom ranges properties rows text) row.elements (λ e within. inl (row, there, within))))
    (each_if_contained (λ c. AllByRecursion (IsReadFrom ranges properties rows text) (map (as_draft true) (implicit ranges properties c))) text.points
    (λ c there. each_if_contained (IsReadFrom ranges properties rows text) (map (as_draft true) (implicit ranges properties c))
    (λ e within. inr (c, there, within))))

-- The elements of all rows are those of each row: what is true of the ones is true of the others.
use Rattle.std.proofs.Common.{⊎_elim, List, [], ◌∷◌, Contains, sym, subst, arith}
use Rattle.std.proofs.lemmas.List.Elements.{Contains-push, Contains-push_cases, Contains-append_left, Contains-append_right, Contains-append_cases}
use Rattle.std.specs.List.{AllByRecursion}
use Rattle.uca_weights.specs.declared.Element.{Element}
pub use Rattle.uca_weights.proofs.Lists.{each_append, each_parts}
use Rattle.uca_values.specs.Content.{Entry}
use Rattle.uca_check.specs.WellFormed.{elements_of}

-- what is true of the elements of each row is true of all elements
pub each_of_rows : (P : Element → Type 0) (rows : List Entry) → AllByRecursion (λ row. AllByRecursion P row.elements) rows
    → AllByRecursion P (elements_of rows)
each_of_rows P [] all = tt
each_of_rows P (row ∷ rows) all = each_append P row.elements (elements_of rows) all.0 (each_of_rows P rows all.1)

-- an empty list has no element
pub none_contained : {X : Type 0} (x : X) → ¬ (Contains [] x)
none_contained x (k, within, there) = absurd (omega arith)

-- an element of all rows is one of a row
pub row_of_element : (rows : List Entry) (e : Element) → Contains (elements_of rows) e → (row : Entry) × Contains rows row × Contains row.elements e
row_of_element [] e is = absurd (none_contained e is)
row_of_element (r ∷ rows) e is = ⊎_elim
    (λ here. (r, Contains-append_left (r ∷ []) rows r (Contains-push [] r), here))
    (λ later. let (row, is_row, there) = row_of_element rows e later in (row, Contains-append_right (r ∷ []) rows row is_row, there))
    (Contains-append_cases r.elements (elements_of rows) e is)

-- and an element of a row is one of all rows
pub element_of_row : (rows : List Entry) (row : Entry) (e : Element) → Contains rows row → Contains row.elements e → Contains (elements_of rows) e
element_of_row [] row e is there = absurd (none_contained row is)
element_of_row (r ∷ rows) row e is there = ⊎_elim
    (λ first. ⊎_elim
    (λ none. absurd (none_contained row none))
    (λ same. Contains-append_left r.elements (elements_of rows) e (subst (λ s. Contains s.elements e) (sym same) there))
    (Contains-push_cases [] r row first))
    (λ later. Contains-append_right r.elements (elements_of rows) e (element_of_row rows row e later there))
    (Contains-append_cases (r ∷ []) rows row is)

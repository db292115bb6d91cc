-- Elements of rows, in turn.
use Rattle.std.proofs.Common.{◌≡◌, ◌++◌, ◌+◌, ◌<◌, ◌≤◌, ℕ, [], List, false, length, take, get_or, ap, sym, ◌∙◌}
use Rattle.std.proofs.lemmas.List.{flat_map_more, take_all, take_more}
use Rattle.uca_weights.specs.declared.Element.{Element}
use Rattle.uca_values.specs.Content.{Entry}
use Rattle.uca_check.specs.WellFormed.{elements_of}

-- what a read past the end would give
abbrev pub no_element : Element
no_element = record { primary = 0; secondary = 0; tertiary = 0; mark = false }

-- with all its elements a row is one of the rows so far
pub row_more : (rows : List Entry) (i n : ℕ) (row : Entry) (items : List Element) → i < length rows → row ≡ get_or rows i row → items ≡ row.elements → length items ≤ n →
    elements_of (take i rows) ++ take n items ≡ elements_of (take (i + 1) rows)
row_more rows i n row items within is its past =
    ap (λ l. elements_of (take i rows) ++ l) (take_all n items past ∙ its ∙ ap (λ (r : Entry). r.elements) is)
    ∙ flat_map_more (λ (r : Entry). r.elements) [] (take i rows) (get_or rows i row)
    ∙ ap elements_of (sym (take_more rows i row within))

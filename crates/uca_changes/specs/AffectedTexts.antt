-- Which texts rules affect.
use Rattle.std.specs.Prelude.{ℕ, List, [], ◌∷◌, Bool, true, false, ◌&&◌, ◌||◌, ◌==◌}
use Rattle.std.specs.List.{list_any}
use Rattle.uca_relations.specs.declared.Relation.{Relation}

-- whether the first list's code points all occur in the second, in their order; others may be between
abbrev pub occurs_in_order : List ℕ → List ℕ → Bool
occurs_in_order [] ys = true
occurs_in_order (x ∷ xs) [] = false
occurs_in_order (x ∷ xs) (y ∷ ys) = (x == y && occurs_in_order xs ys) || occurs_in_order (x ∷ xs) ys

-- whether a target of the relations occurs in order in a text
abbrev pub is_affected : List Relation → List ℕ → Bool
is_affected relations text = list_any (λ r. occurs_in_order r.target.points text) relations

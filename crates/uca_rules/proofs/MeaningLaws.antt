-- Bytes mean at most one list of relations.
use Rattle.std.proofs.Common.{◌≡◌, List, [], ◌∷◌, ◌++◌, refl, sym, ap, ◌∙◌}
use Rattle.std.proofs.lemmas.List.{append_assoc, append-nil, map-append}
use Rattle.uca_values.specs.Content.{Properties}
use Rattle.uca_rules.specs.Characters.{characters}
use Rattle.uca_rules.specs.Statements.{Statement}
use Rattle.uca_rules.specs.Meaning.{Anchor, Taken, relations_in, anchor_after, relations_from, no_anchor, taken, relations_of}
use Rattle.uca_rules.specs.Laws.{OneMeaning}
use Rattle.uca_rules.proofs.StatementLaws.{one_division}

-- the anchor that comes after statements
abbrev pub anchor_after_all : Properties → Anchor → List Statement → Anchor
anchor_after_all properties anchor [] = anchor
anchor_after_all properties anchor (s ∷ statements) = anchor_after_all properties (anchor_after properties anchor s) statements

-- the relations of statements and of those after them
pub relations_append : (properties : Properties) (anchor : Anchor) (xs ys : List Statement)
    → relations_from properties anchor (xs ++ ys) ≡ relations_from properties anchor xs ++ relations_from properties (anchor_after_all properties anchor xs) ys
relations_append properties anchor [] ys = refl
relations_append properties anchor (s ∷ xs) ys =
    ap (λ later. relations_in properties anchor s ++ later) (relations_append properties (anchor_after properties anchor s) xs ys)
    ∙ sym (append_assoc (relations_in properties anchor s) (relations_from properties (anchor_after properties anchor s) xs) (relations_from properties (anchor_after_all properties (anchor_after properties anchor s) xs) ys))

-- the anchor after one more statement
pub anchor_after_more : (properties : Properties) (anchor : Anchor) (statements : List Statement) (s : Statement)
    → anchor_after_all properties anchor (statements ++ s ∷ []) ≡ anchor_after properties (anchor_after_all properties anchor statements) s
anchor_after_more properties anchor [] s = refl
anchor_after_more properties anchor (s' ∷ statements) s = anchor_after_more properties (anchor_after properties anchor s') statements s

-- one more statement adds its relations
pub taken_more : (properties : Properties) (statements : List Statement) (s : Statement)
    → taken properties (statements ++ s ∷ []) ≡ taken properties statements ++ relations_in properties (anchor_after_all properties no_anchor statements) s
taken_more properties statements s =
    relations_append properties no_anchor statements (s ∷ [])
    ∙ ap (λ more. taken properties statements ++ more) (append-nil (relations_in properties (anchor_after_all properties no_anchor statements) s))

pub relations_more : (properties : Properties) (statements : List Statement) (s : Statement)
    → relations_of (taken properties (statements ++ s ∷ [])) ≡ relations_of (taken properties statements) ++ relations_of (relations_in properties (anchor_after_all properties no_anchor statements) s)
relations_more properties statements s =
    ap relations_of (taken_more properties statements s)
    ∙ map-append (λ (t : Taken). t.relation) (taken properties statements) (relations_in properties (anchor_after_all properties no_anchor statements) s)

pub one_meaning : OneMeaning
one_meaning properties bytes relations relations' means means' =
    means.give
    ∙ ap (λ statements. relations_of (taken properties statements)) (one_division (characters bytes) means.statements means'.statements means.divides means'.divides)
    ∙ sym means'.give

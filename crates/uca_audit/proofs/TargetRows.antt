-- What a look at the row of a target says of its relation.
use Rattle.std.proofs.Common.{◌≡◌, ◌↔◌, ℕ, List, ◌++◌, Option, Some, None, is_some, MatchOption, refl, sym, ap, subst, ◌∙◌}
use Rattle.uca_weights.specs.declared.Element.{Element}
use Rattle.uca_weights.specs.declared.Level.{Level}
use Rattle.uca_weights.specs.Levels.{level_of}
use Rattle.uca_text.specs.Texts.{NfdText}
use Rattle.uca_relations.specs.declared.Relation.{Relation}
use Rattle.uca_elements.specs.Rows.{Rows, rows_of, is_key, IsKey}
use Rattle.uca_elements.specs.Collations.{Collation}
use Rattle.uca_tailorings.specs.Placing.{placed}
use Rattle.uca_tailorings.specs.Tailorings.{Tailoring, tailored_reading, anchor_elements, elements_of_expansion, expansion_elements, IsTargetRow, IsPlacedAt, IsPlacedBy, IsPlaced}
use Rattle.uca_tailorings.specs.Laws.{ReadsAs}
use Rattle.uca_audit.specs.declared.conditions.placements.Placement.{Placement}
use Rattle.uca_audit.specs.inside.PlacedRows.{IsRowAt, IsFoundPlacement}
use Rattle.uca_audit.specs.inside.Views.{IsPlacementBy, IsPlacement}

-- expansions are read alike by lookups that find the same
pub expansion_alike : (given reading : Collation) → ReadsAs given reading → (text : Option NfdText) →
    elements_of_expansion given text ≡ elements_of_expansion reading text
expansion_alike given reading reads text i =
    elements_of_expansion (record { rows = λ key. reads.rows key i; ranges = reads.ranges i; properties = reads.properties i }) text

-- a list is a key of the rows where a lookup of them finds it
pub key_alike : (found rows : Rows) → ((key : List ℕ) → found key ≡ rows key) → (given key : List ℕ) → given ≡ key → IsKey found given ↔ IsKey rows key
key_alike found rows finds given key same =
    let alike : is_key found given ≡ is_key rows key = ap is_some (finds given ∙ ap rows same) in (
      (λ there. sym alike ∙ there),
      λ there. alike ∙ there,
    )

-- what is found at the key of the target is its row
pub target_row : (given : Collation) (t : Tailoring) (r : Relation) (key : List ℕ) (row : Option (List Element)) → ReadsAs given (tailored_reading t) →
    key ≡ r.target.points → given.rows key ≡ row → rows_of t.tailored.rows r.target.points ≡ row
target_row given t r key row reads same found = ap (rows_of t.tailored.rows) (sym same) ∙ sym (reads.rows key) ∙ found

-- a target whose row has the anchor's and the expansion's elements is placed
pub placed_by_row : (t : Tailoring) (r : Relation) (level : Level) (row : List Element) (old new : ℕ) → level_of r.strength ≡ Some level →
    IsTargetRow t r row → IsRowAt level r.before (anchor_elements t r) (expansion_elements t r) row old new → IsPlacedAt t r level old new
placed_by_row t r level row old new strength found is =
    record {
      strength = strength;
      before = is.before;
      last = is.last;
      trailing = is.trailing;
      anchor = is.is_anchor;
      old_weight = is.old_weight;
      side = is.side;
      row = found ∙ ap Some is.is_row;
    }

-- and the row of one that is placed has them
pub row_by_placed : (t : Tailoring) (r : Relation) (level : Level) (row : List Element) (old new : ℕ) → IsTargetRow t r row →
    IsPlacedAt t r level old new → IsRowAt level r.before (anchor_elements t r) (expansion_elements t r) row old new
row_by_placed t r level row old new found at =
    let same : Some row ≡ Some (placed level at.before at.last (expansion_elements t r) new) = sym found ∙ at.row in
    record {
      before = at.before;
      last = at.last;
      trailing = at.trailing;
      is_anchor = at.anchor;
      old_weight = at.old_weight;
      side = at.side;
      is_row = cc;
    }

-- what is found of the row of a relation with a level is found of the relation
by_weight : (t : Tailoring) (r : Relation) (level : Level) (row : List Element) (found : Option Placement) → level_of r.strength ≡ Some level →
    IsTargetRow t r row →
    MatchOption found ((old new : ℕ) → ¬ (IsRowAt level r.before (anchor_elements t r) (expansion_elements t r) row old new))
    (λ p. (p.level ≡ Some level) × IsRowAt level r.before (anchor_elements t r) (expansion_elements t r) row p.old p.new) →
    IsFoundPlacement t r found
by_weight t r level row None strength is none =
    λ at. let placement = subst (IsPlacedBy t r) strength at in
    none placement.0 placement.1 (row_by_placed t r level row placement.0 placement.1 is placement.2)
by_weight t r level row (Some p) strength is at =
    let placement = placed_by_row t r level row p.old p.new strength is at.1 in
    (subst (IsPlacementBy t r p) (sym strength) (at.0, placement), subst (IsPlacedBy t r) (sym strength) (p.old, p.new, placement))

-- what is found of the row of a relation with a level, by the elements that were read, is found of the relation
pub found_by_weight : (t : Tailoring) (r : Relation) (level : Level) (anchor expansion row : List Element) (found : Option Placement) →
    level_of r.strength ≡ Some level → anchor ≡ anchor_elements t r → expansion ≡ expansion_elements t r → IsTargetRow t r row →
    MatchOption found ((old new : ℕ) → ¬ (IsRowAt level r.before anchor expansion row old new))
    (λ p. (p.level ≡ Some level) × IsRowAt level r.before anchor expansion row p.old p.new) →
    IsFoundPlacement t r found
found_by_weight t r level anchor expansion row found strength anchors expansions is at =
    by_weight t r level row found strength is
    (subst (λ es. MatchOption found ((old new : ℕ) → ¬ (IsRowAt level r.before (anchor_elements t r) es row old new))
    (λ p. (p.level ≡ Some level) × IsRowAt level r.before (anchor_elements t r) es row p.old p.new)) expansions
    (subst (λ es. MatchOption found ((old new : ℕ) → ¬ (IsRowAt level r.before es expansion row old new))
    (λ p. (p.level ≡ Some level) × IsRowAt level r.before es expansion row p.old p.new)) anchors at))

-- what is found of the row of a relation of identical strength is found of the relation
pub found_by_elements : (t : Tailoring) (r : Relation) (anchor expansion row : List Element) (found : Option Placement) → level_of r.strength ≡ None →
    anchor ≡ anchor_elements t r → expansion ≡ expansion_elements t r → IsTargetRow t r row →
    MatchOption found (¬ (row ≡ anchor ++ expansion)) (λ p. (p.level ≡ None) × (row ≡ anchor ++ expansion)) → IsFoundPlacement t r found
found_by_elements t r anchor expansion row None strength anchors expansions is other =
    λ at. let is_row : Some row ≡ Some (anchor_elements t r ++ expansion_elements t r) = sym is ∙ subst (IsPlacedBy t r) strength at in
    let same : row ≡ anchor_elements t r ++ expansion_elements t r = cc in
    other (same ∙ ap (λ es. es ++ expansion_elements t r) (sym anchors) ∙ ap (λ es. anchor ++ es) (sym expansions))
found_by_elements t r anchor expansion row (Some p) strength anchors expansions is at =
    let is_row : IsTargetRow t r (anchor_elements t r ++ expansion_elements t r) =
    is ∙ ap Some (at.1 ∙ ap (λ es. es ++ expansion) anchors ∙ ap (λ es. anchor_elements t r ++ es) expansions) in
    (subst (IsPlacementBy t r p) (sym strength) at.0, subst (IsPlacedBy t r) (sym strength) is_row)

-- where a placement is found the target is placed so
pub some_placed : (t : Tailoring) (r : Relation) (found : Option Placement) (p : Placement) → IsFoundPlacement t r found → found ≡ Some p →
    IsPlacement t r p × IsPlaced t r
some_placed t r found p at is = subst (IsFoundPlacement t r) is at

-- where none is found it is not placed
pub none_placed : (t : Tailoring) (r : Relation) (found : Option Placement) → IsFoundPlacement t r found → ((p : Placement) → ¬ (found ≡ Some p)) →
    ¬ (IsPlaced t r)
none_placed t r None at none = at
none_placed t r (Some p) at none = λ placed. none p refl

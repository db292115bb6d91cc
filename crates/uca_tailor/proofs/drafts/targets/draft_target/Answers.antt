-- The anchor is read first. Then it gets the new weight, if there is a level, and the expansion comes after it.
use Rattle.std.proofs.Common.{◌≡◌, ◌++◌, ◌∷◌, [], List, Option, Some, None, inl, option_map, refl, sym, ap, ◌∙◌}
use Rattle.uca_elements.specs.Positions.{Positions, is_placed}
use Rattle.uca_match.specs.Tries.{positions}
use Rattle.uca_plans.specs.declared.drafts.DraftElement.{DraftElement}
use Rattle.uca_plans.specs.declared.drafts.DraftWeight.{DraftWeight}
use Rattle.uca_plans.specs.declared.drafts.DraftWeight.TheVariants.{New}
use Rattle.uca_plans.specs.declared.drafts.Insertion.{Insertion}
use Rattle.uca_plans.specs.Drafts.{DraftRow, draft_elements}
use Rattle.uca_plans.specs.Keys.{read_over}
use Rattle.uca_plans.specs.Plans.{Basis, Drafted, Drafting, draft_expansion, drafted, drafted_at}
use Rattle.uca_relations.specs.declared.Relation.{Relation}
use Rattle.uca_weights.specs.declared.Level.{Level}
use Rattle.uca_weights.specs.Levels.{level_of}
use Rattle.uca_tailor.specs.inside.Ready.{ReadsAlike, basis_in}
use Rattle.uca_tailor.proofs.drafts.targets.draft_target.Goals as goal

-- the rows so far
abbrev with_rows : List DraftRow → Drafting
with_rows rows = record { rows = rows; insertions = [] }

module _ (basis : Basis) (rows : List DraftRow) (r : Relation) where
  -- what is read of the anchor are its elements
  anchor_read : (held : Positions) (none elements : List DraftElement) → ReadsAlike basis held rows r → none ≡ [] →
      elements ≡ none ++ read_over basis.ranges basis.properties (is_placed held) rows r.anchor → elements ≡ draft_elements basis.ranges basis.properties rows r.anchor
  anchor_read held none elements alike empty read =
      read ∙ ap (λ (es : List DraftElement). es ++ read_over basis.ranges basis.properties (is_placed held) rows r.anchor) empty ∙ alike r.anchor (inl refl)

  -- what is made of these elements at this level is what is drafted
  made_of : (new : DraftWeight) (level : Option Level) (elements : List DraftElement) → elements ≡ draft_elements basis.ranges basis.properties rows r.anchor → level ≡ level_of r.strength →
      drafted_at level r.before new elements (draft_expansion basis (with_rows rows) r.expansion) ≡ drafted basis (with_rows rows) new r
  made_of new level elements anchor is =
      ap (λ (es : List DraftElement). drafted_at level r.before new es (draft_expansion basis (with_rows rows) r.expansion)) anchor
      ∙ ap (λ (l : Option Level). drafted_at l r.before new (draft_elements basis.ranges basis.properties rows r.anchor) (draft_expansion basis (with_rows rows) r.expansion)) is

pub returns-in-Ok : goal.returns-in-Ok
returns-in-Ok g c =
    let basis : Basis = basis_in c.args.basis.now in
    let rows : List DraftRow = c.args.rows.now in
    let expansion : List DraftElement = draft_expansion basis (with_rows rows) c.args.relation.now.expansion in
    let pair : Insertion → Drafted = λ insertion. record { elements = c.put_weight.new.elements.items ++ expansion; insertions = insertion ∷ [] } in
    ap (λ (es : List DraftElement). Some (record { elements = es; insertions = c.in-Some-2.insertion ∷ [] })) c.in-Ok.ensures
    ∙ sym (ap (option_map pair) c.in-Some-2.is) ∙ c.in_ok-insertion.ensures expansion
    ∙ made_of basis rows c.args.relation.now (New c.args.index) (Some c.in-Some.level) c.read.new.elements.items
    (anchor_read basis rows c.args.relation.now (positions c.args.basis.now.key_rows.now) c.args.elements.now.items c.read.new.elements.items c.requires.alike c.requires.empty c.in_ok-read.ensures)
    (sym c.in-Some.is ∙ c.level_of.ensures)

pub returns-in_default-2 : goal.returns-in_default-2
returns-in_default-2 g c =
    let basis : Basis = basis_in c.args.basis.now in
    let rows : List DraftRow = c.args.rows.now in
    let expansion : List DraftElement = draft_expansion basis (with_rows rows) c.args.relation.now.expansion in
    let pair : Insertion → Drafted = λ insertion. record { elements = c.put_weight.new.elements.items ++ expansion; insertions = insertion ∷ [] } in
    sym (ap (option_map pair) c.in_default-2.is) ∙ c.in_ok-insertion.ensures expansion
    ∙ made_of basis rows c.args.relation.now (New c.args.index) (Some c.in-Some.level) c.read.new.elements.items
    (anchor_read basis rows c.args.relation.now (positions c.args.basis.now.key_rows.now) c.args.elements.now.items c.read.new.elements.items c.requires.alike c.requires.empty c.in_ok-read.ensures)
    (sym c.in-Some.is ∙ c.level_of.ensures)

pub returns-in_default : goal.returns-in_default
returns-in_default g c =
    let basis : Basis = basis_in c.args.basis.now in
    let rows : List DraftRow = c.args.rows.now in
    ap (λ (es : List DraftElement). Some (record { elements = es; insertions = [] })) c.in_ok-read_expansion.ensures
    ∙ made_of basis rows c.args.relation.now (New c.args.index) None c.read.new.elements.items
    (anchor_read basis rows c.args.relation.now (positions c.args.basis.now.key_rows.now) c.args.elements.now.items c.read.new.elements.items c.requires.alike c.requires.empty c.in_ok-read.ensures)
    (sym c.in_default.is ∙ c.level_of.ensures)

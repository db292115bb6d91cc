-- The keys of drafts: those of the base, and then the new targets, in their order.
use Rattle.std.specs.Prelude.{◌≡◌, ◌⊎◌, ℕ, Bool, false, ◌||◌, List, [], ◌∷◌, ◌++◌, map, if◌then◌else◌, Some}
use Rattle.std.specs.List.{flat_map}
use Rattle.uca_values.specs.declared.ImplicitRange.{ImplicitRange}
use Rattle.uca_values.specs.Content.{Properties}
use Rattle.uca_text.specs.Texts.{NfdText, classed}
use Rattle.uca_relations.specs.declared.Relation.{Relation}
use Rattle.uca_relations.specs.Relations.{AreRules}
use Rattle.uca_elements.specs.Rows.{Keys, same_key}
use Rattle.uca_elements.specs.Reading.{parts}
use Rattle.uca_plans.specs.declared.drafts.DraftElement.{DraftElement}
use Rattle.uca_plans.specs.Drafts.{DraftRow, part_drafts, draft_elements}

abbrev pub keys_in : List DraftRow → List (List ℕ)
keys_in rows = map (λ row. row.key) rows

-- the key is one of these
abbrev pub is_among : List (List ℕ) → List ℕ → Bool
is_among [] key = false
is_among (k ∷ keys) key = same_key k key || is_among keys key

-- the key after the others, if it is none of them
abbrev pub with_key : List ℕ → List (List ℕ) → List (List ℕ)
with_key new [] = new ∷ []
with_key new (key ∷ keys) = if same_key key new then key ∷ keys else key ∷ with_key new keys

-- the targets of relations after other keys, each once
abbrev pub with_targets : List Relation → List (List ℕ) → List (List ℕ)
with_targets [] keys = keys
with_targets (r ∷ relations) keys = with_targets relations (with_key r.target.points keys)

-- a text's draft elements, where it is matched against keys that may be more than those of the rows
abbrev pub read_over : List ImplicitRange → Properties → Keys → List DraftRow → NfdText → List DraftElement
read_over ranges properties keys rows text = flat_map (part_drafts ranges properties rows) (parts keys (classed text))

-- the text is the anchor or the expansion of the relation
abbrev pub IsTextOf : Relation → NfdText → Type 0
IsTextOf r text = (text ≡ r.anchor) ⊎ (r.expansion ≡ Some text)

-- All keys may be listed before any relation is read, those of later targets too: each relation's texts are read over them
-- as over the rows so far. This is so where the later targets are listed to the end, and where only some are.
abbrev pub RelationsReadOverAllKeys : Type 0
RelationsReadOverAllKeys = (ranges : List ImplicitRange) (properties : Properties) (keys : List (List ℕ)) (before after later rest : List Relation)
    (r : Relation) (rows : List DraftRow) (all : Keys) (text : NfdText) →
    AreRules (before ++ r ∷ after) → r ∷ after ≡ later ++ rest → keys_in rows ≡ with_targets before keys →
    ((key : List ℕ) → all key ≡ is_among (with_targets (before ++ later) keys) key) → IsTextOf r text →
    read_over ranges properties all rows text ≡ draft_elements ranges properties rows text

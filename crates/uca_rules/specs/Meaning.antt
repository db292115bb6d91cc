-- Which relations the bytes of rules mean: those of their statements in turn, each placed by the reset or relation before it.
use Rattle.std.specs.Prelude.{◌≡◌, ℕ, ◌≤◌, Bool, false, List, [], ◌∷◌, ◌++◌, length, map, None, option_map, is_some, IfSome, IsUtf8}
use Rattle.std.specs.List.{AllByRecursion}
use Rattle.unicode_normalization.specs.Forms.{nfd}
use Rattle.uca_weights.specs.declared.Strength.{Strength}
use Rattle.uca_values.specs.Content.{Properties}
use Rattle.uca_text.specs.Texts.{NfdText, nfd_text}
use Rattle.uca_relations.specs.declared.Relation.{Relation}
use Rattle.uca_relations.specs.Relations.{AreRules}
use Rattle.uca_rules.specs.declared.characters.Character.{Character}
use Rattle.uca_rules.specs.Characters.{characters}
use Rattle.uca_rules.specs.Statements.{Statement, Reset, Plain, Starred, AreStatements, AreChains}

-- a relation, and the position where its target is written
pub record Taken : Type 0 where
  pub relation : Relation
  pub place : ℕ

-- what the next relation of a chain is placed by, and whether before it
pub record Anchor : Type 0 where
  pub text : NfdText
  pub before : Bool

-- after a target: what the next relation is placed by, also within a starred text
abbrev pub after_target : NfdText → Anchor
after_target text = record { text = text; before = false }

-- the text of one character
abbrev pub one_letter : Properties → Character → NfdText
one_letter properties c = nfd_text properties (c.code ∷ [])

-- the relations of a starred text: the first target is placed by the anchor, every other one by the target before it
abbrev pub starred_relations : Properties → Anchor → Strength → List Character → List Taken
starred_relations properties anchor strength [] = []
starred_relations properties anchor strength (c ∷ targets) =
    record { relation = record { anchor = anchor.text; before = anchor.before; strength = strength; target = one_letter properties c; expansion = None }; place = c.place }
    ∷ starred_relations properties (after_target (one_letter properties c)) strength targets

abbrev pub after_targets : Properties → Anchor → List Character → Anchor
after_targets properties anchor [] = anchor
after_targets properties anchor (c ∷ targets) = after_targets properties (after_target (one_letter properties c)) targets

-- the relations of a statement, given the anchor before it
abbrev pub relations_in : Properties → Anchor → Statement → List Taken
relations_in properties anchor (Reset before text) = []
relations_in properties anchor (Plain strength target expansion) =
    record { relation = record { anchor = anchor.text; before = anchor.before; strength = strength; target = nfd_text properties target.points; expansion = option_map (λ text. nfd_text properties text.points) expansion }; place = target.place } ∷ []
relations_in properties anchor (Starred strength targets) = starred_relations properties anchor strength targets

-- the anchor of the relation after a statement
abbrev pub anchor_after : Properties → Anchor → Statement → Anchor
anchor_after properties anchor (Reset before text) = record { text = nfd_text properties text.points; before = is_some before }
anchor_after properties anchor (Plain strength target expansion) = after_target (nfd_text properties target.points)
anchor_after properties anchor (Starred strength targets) = after_targets properties anchor targets

abbrev pub relations_from : Properties → Anchor → List Statement → List Taken
relations_from properties anchor [] = []
relations_from properties anchor (s ∷ statements) = relations_in properties anchor s ++ relations_from properties (anchor_after properties anchor s) statements

-- rules begin with a reset: what would be an anchor before it says nothing
abbrev pub no_anchor : Anchor
no_anchor = after_target (record { points = []; classes = [] })

-- the relations of statements, each with the position of its target
abbrev pub taken : Properties → List Statement → List Taken
taken properties statements = relations_from properties no_anchor statements

abbrev pub relations_of : List Taken → List Relation
relations_of ts = map (λ t. t.relation) ts

-- at most 16 code points in Normalization Form D
abbrev pub IsShort : List ℕ → Type 0
IsShort points = length (nfd points) ≤ 16

-- each text of a statement is short; of a starred one each target
abbrev pub HasShortTexts : Statement → Type 0
HasShortTexts (Reset before anchor) = IsShort anchor.points
HasShortTexts (Plain strength target expansion) = IsShort target.points × IfSome expansion (λ text. IsShort text.points)
HasShortTexts (Starred strength targets) = AllByRecursion (λ c. IsShort (c.code ∷ [])) targets

-- The bytes mean these relations, under the classes of a data file.
pub record Means (properties : Properties) (bytes : List ℕ) (relations : List Relation) : Type 0 where
  pub few_bytes : length bytes ≤ 1048576
  pub utf8 : IsUtf8 bytes
  pub statements : List Statement
  pub divides : AreStatements (characters bytes) statements []
  pub chains : AreChains statements
  pub short : AllByRecursion HasShortTexts statements
  pub give : relations ≡ relations_of (taken properties statements)
  pub rules : AreRules relations

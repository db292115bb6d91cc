-- How far the reader of rules has come, and what a statement changes.
use Rattle.std.specs.Prelude.{◌≡◌, ◌≢◌, ◌⊎◌, ℕ, ◌+◌, ◌<◌, true, false, List, [], ◌∷◌, ◌++◌, length, Option, Some, None}
use Rattle.std.specs.List.{AllByRecursion}
use Rattle.unicode_normalization.specs.Forms.{nfd}
use Rattle.uca_weights.specs.declared.Strength.{Strength}
use Rattle.uca_values.specs.Content.{Properties, properties_of}
use Rattle.uca_text.specs.Texts.{NfdText, nfd_text}
use Rattle.uca_relations.specs.declared.Relation.{Relation}
use Rattle.uca_relations.specs.Relations.{IsRuleText}
use Rattle.uca_rules.specs.declared.characters.Character.{Character}
use Rattle.uca_rules.specs.declared.faults.RuleFault.{RuleFault}
use Rattle.uca_rules.specs.declared.faults.RuleFaultKind.{RuleFaultKind}
use Rattle.uca_rules.specs.declared.faults.RuleFaultKind.TheVariants as kinds
use Rattle.uca_rules.specs.declared.signs.Preceding.{Preceding}
use Rattle.uca_rules.specs.declared.signs.Preceding.TheVariants as lasts
use Rattle.uca_rules.specs.declared.text_reader.TextReader.{TextReader}
use Rattle.uca_rules.specs.declared.reader.Reader.{Reader}
use Rattle.uca_rules.specs.Characters.{place_of}
use Rattle.uca_rules.specs.Pieces.{Symbol, Written, BeginsText, BeginsWritten}
use Rattle.uca_rules.specs.Statements.{Statement, Plain, Starred, AreStatements, BeginsStatement, BeginsExpansion, IsExpansionDue, HasRanges, targets_of, MayFollow, AreChains, opening, last_is}
use Rattle.uca_rules.specs.Meaning.{Anchor, Taken, HasShortTexts, IsShort, anchor_after, no_anchor, relations_in, relations_of, taken}
use Rattle.uca_rules.specs.Faults.{InText, StatementCause, RelationCause, TextCause, HasCause}
use Rattle.uca_rules.specs.inside.Views.{IsMemoryAt}
use Rattle.uca_rules.specs.inside.Growing.{AreGrowing}

-- ---- Texts

-- a text as it is read: it has at most 16 code points
pub record IsTextOf (properties : Properties) (points : List ℕ) (text : NfdText) : Type 0 where
  pub is : text ≡ nfd_text properties points
  pub short : IsShort points
  pub rule : IsRuleText text

-- there is no text of rules with these code points: it is too long, or an allocation failed
abbrev pub IsNoRuleText : List ℕ → RuleFaultKind → Type 0
IsNoRuleText points kind = (kind ≡ kinds.Memory) ⊎ ((kind ≡ kinds.Limit) × (16 < length (nfd points)))

-- a text that may be there
abbrev pub AreTextsOf : Properties → Option Written → Option NfdText → Type 0
AreTextsOf properties None None = Unit {0}
AreTextsOf properties (Some written) (Some text) = IsTextOf properties written.points text
AreTextsOf properties written text = ⊥

abbrev pub properties_in : {A T : Type 0} → TextReader A T → Properties
properties_in r = properties_of r.properties.now

-- what a reader of texts is for stays the same
pub record Keeps {A T : Type 0} (old new : TextReader A T) : Type 0 where
  pub properties : new.properties ≡ old.properties
  pub end : new.end ≡ old.end

-- ---- Statements

-- the relations so far, and what comes before the next statement
pub record State : Type 0 where
  pub relations : List Relation
  pub anchor : Anchor
  pub last : Preceding

-- before the first statement
abbrev pub start : State
start = record { relations = []; anchor = no_anchor; last = lasts.Nothing }

-- after one more statement
abbrev pub after_statement : Properties → State → Statement → State
after_statement properties state s = record {
  relations = state.relations ++ relations_of (relations_in properties state.anchor s);
  anchor = anchor_after properties state.anchor s;
  last = last_is s;
}

-- the characters begin with a statement that may follow, and the rest comes after it
pub record BeginsNext (properties : Properties) (old new : State) (cs rest : List Character) : Type 0 where
  pub s : Statement
  pub begins : BeginsStatement cs s rest
  pub follows : MayFollow old.last (opening s)
  pub short : HasShortTexts s
  pub is : new ≡ after_statement properties old s

-- the characters are statements that give these relations
pub record ReadsAll (properties : Properties) (cs : List Character) (relations : List Relation) : Type 0 where
  pub statements : List Statement
  pub divides : AreStatements cs statements []
  pub chains : AreChains statements
  pub short : AllByRecursion HasShortTexts statements
  pub give : relations ≡ relations_of (taken properties statements)

-- ---- Errors

-- an allocation failed where some of the characters had been read
pub record IsMemoryIn (end : ℕ) (cs : List Character) (fault : RuleFault) : Type 0 where
  pub front : List Character
  pub rest : List Character
  pub parts : cs ≡ front ++ rest
  pub at : IsMemoryAt (place_of end rest) fault

-- a relation that a statement gives has a cause
pub record HasRelationCause (properties : Properties) (state : State) (s : Statement) (fault : RuleFault) : Type 0 where
  pub before : List Taken
  pub t : Taken
  pub after : List Taken
  pub are : relations_in properties state.anchor s ≡ before ++ t ∷ after
  pub at : fault.byte ≡ t.place
  pub cause : RelationCause (state.relations ++ relations_of before) t.relation fault.kind

-- one of the targets of a starred text is too long, or one too many after `count` relations
pub record IsOverLimit (count : ℕ) (targets : List Character) (fault : RuleFault) : Type 0 where
  pub limit : fault.kind ≡ kinds.Limit
  pub front : List Character
  pub c : Character
  pub back : List Character
  pub are : targets ≡ front ++ c ∷ back
  pub at : fault.byte ≡ c.place
  pub over : (count + length front ≡ 5000) ⊎ (16 < length (nfd (c.code ∷ [])))

-- a target that is not starred must come, and the relation is rejected
pub data IsPlainFault (properties : Properties) (end : ℕ) (state : State) (strength : Strength) (text : List Character) (fault : RuleFault) : Type 0 where
  In_memory : IsMemoryIn end text fault → IsPlainFault properties end state strength text fault
  In_target : TextCause end false text fault.byte fault.kind → IsPlainFault properties end state strength text fault
  In_expansion : (target : Written) (more expansion : List Character) → BeginsWritten text target more → IsExpansionDue more expansion
      → TextCause end false expansion fault.byte fault.kind → IsPlainFault properties end state strength text fault
  In_relation : (target : Written) (more : List Character) (expansion : Option Written) (rest : List Character) → BeginsWritten text target more → BeginsExpansion more expansion rest
      → HasRelationCause properties state (Plain strength target expansion) fault → IsPlainFault properties end state strength text fault

-- a starred text must come, and it or one of its relations is rejected
pub data IsStarredFault (properties : Properties) (end : ℕ) (state : State) (strength : Strength) (text : List Character) (fault : RuleFault) : Type 0 where
  In_memory : IsMemoryIn end text fault → IsStarredFault properties end state strength text fault
  In_text : TextCause end true text fault.byte fault.kind → IsStarredFault properties end state strength text fault
  In_relation : (symbols : List Symbol) (rest : List Character) → BeginsText true text symbols rest → HasRanges symbols
      → HasRelationCause properties state (Starred strength (targets_of symbols)) fault → IsStarredFault properties end state strength text fault
  In_limit : (symbols : List Symbol) (rest : List Character) → BeginsText true text symbols rest → HasRanges symbols
      → IsOverLimit (length state.relations) (targets_of symbols) fault → IsStarredFault properties end state strength text fault

-- targets of a starred text are rejected
abbrev pub HasTargetFault : Properties → State → Strength → List Character → ℕ → RuleFault → Type 0
HasTargetFault properties state strength targets here fault =
    IsMemoryAt here fault ⊎ HasRelationCause properties state (Starred strength targets) fault ⊎ IsOverLimit (length state.relations) targets fault

-- a relation of the statement that begins there has a cause
pub record InNextRelation (properties : Properties) (state : State) (cs : List Character) (fault : RuleFault) : Type 0 where
  pub s : Statement
  pub rest : List Character
  pub begins : BeginsStatement cs s rest
  pub follows : MayFollow state.last (opening s)
  pub has : HasRelationCause properties state s fault

-- a target of the starred relation that begins there is too long, or one too many
pub record InNextTarget (state : State) (cs : List Character) (fault : RuleFault) : Type 0 where
  pub strength : Strength
  pub targets : List Character
  pub rest : List Character
  pub begins : BeginsStatement cs (Starred strength targets) rest
  pub follows : MayFollow state.last (opening (Starred strength targets))
  pub few : length state.relations < 5000
  pub over : IsOverLimit (length state.relations) targets fault

-- why the statement that begins there is rejected
pub data IsNextFault (properties : Properties) (end : ℕ) (state : State) (cs : List Character) (fault : RuleFault) : Type 0 where
  In_memory : IsMemoryIn end cs fault → IsNextFault properties end state cs fault
  In_text : InText end state.last cs fault.byte fault.kind → IsNextFault properties end state cs fault
  At_statement : StatementCause end state.last (length state.relations) cs fault.byte fault.kind → IsNextFault properties end state cs fault
  In_relation : InNextRelation properties state cs fault → IsNextFault properties end state cs fault
  In_target : InNextTarget state cs fault → IsNextFault properties end state cs fault

-- why rules are rejected
abbrev pub IsReadingFault : Properties → ℕ → List Character → RuleFault → Type 0
IsReadingFault properties end cs fault = IsMemoryIn end cs fault ⊎ HasCause properties end cs fault.byte fault.kind

-- ---- The reader

abbrev pub anchor_of : {A T : Type 0} → Reader A T → Anchor
anchor_of r = record { text = r.anchor; before = r.before }

abbrev pub state_of : {A T : Type 0} → Reader A T → State
state_of r = record { relations = r.rules.relations.items; anchor = anchor_of r; last = r.last }

-- what the reader keeps from one statement to the next
pub record IsReady {A T : Type 0} (r : Reader A T) : Type 0 where
  pub growing : AreGrowing r.rules
  pub anchored : r.last ≢ lasts.Nothing → IsRuleText r.anchor

-- one more statement has been read
pub record GoesOn {A T : Type 0} (old new : Reader A T) (cs rest : List Character) : Type 0 where
  pub kept : Keeps old.texts new.texts
  pub ready : IsReady new
  pub next : BeginsNext (properties_in old.texts) (state_of old) (state_of new) cs rest

-- the relations of a statement have been added
pub record Adds {A T : Type 0} (s : Statement) (old new : Reader A T) : Type 0 where
  pub kept : Keeps old.texts new.texts
  pub growing : AreGrowing new.rules
  pub anchored : IsRuleText new.anchor
  pub short : HasShortTexts s
  pub relations : new.rules.relations.items ≡ old.rules.relations.items ++ relations_of (relations_in (properties_in old.texts) (anchor_of old) s)
  pub anchor : anchor_of new ≡ anchor_after (properties_in old.texts) (anchor_of old) s
  pub last : new.last ≡ old.last

-- the relation of a target and an expansion, with the anchor of the reader
abbrev pub relation_of : {A T : Type 0} → Reader A T → Strength → NfdText → Option NfdText → Relation
relation_of r strength target expansion = record { anchor = r.anchor; before = r.before; strength = strength; target = target; expansion = expansion }

-- the target is the next anchor, and no relation has been added
pub record PassesOn {A T : Type 0} (target : NfdText) (old new : Reader A T) : Type 0 where
  pub texts : new.texts ≡ old.texts
  pub rules : new.rules ≡ old.rules
  pub anchor : new.anchor ≡ target
  pub before : new.before ≡ false
  pub last : new.last ≡ old.last

-- it has been added, and its target is the next anchor
pub record AddsOne {A T : Type 0} (relation : Relation) (old new : Reader A T) : Type 0 where
  pub kept : Keeps old.texts new.texts
  pub growing : AreGrowing new.rules
  pub relations : new.rules.relations.items ≡ old.rules.relations.items ++ relation ∷ []
  pub anchor : new.anchor ≡ relation.target
  pub before : new.before ≡ false
  pub last : new.last ≡ old.last

-- a text that is not starred, and perhaps an expansion, have been read, and their relation has been added
pub record AddsPlain {A T : Type 0} (old new : Reader A T) (strength : Strength) (text rest : List Character) : Type 0 where
  pub target : Written
  pub more : List Character
  pub begins : BeginsWritten text target more
  pub expansion : Option Written
  pub expands : BeginsExpansion more expansion rest
  pub adds : Adds (Plain strength target expansion) old new

-- a starred text has been read, and its relations have been added
pub record AddsStarred {A T : Type 0} (old new : Reader A T) (strength : Strength) (text rest : List Character) : Type 0 where
  pub symbols : List Symbol
  pub begins : BeginsText true text symbols rest
  pub ranges : HasRanges symbols
  pub adds : Adds (Starred strength (targets_of symbols)) old new

-- the code of the first character, or 0
abbrev pub first_code : List Character → ℕ
first_code [] = 0
first_code (c ∷ cs) = c.code

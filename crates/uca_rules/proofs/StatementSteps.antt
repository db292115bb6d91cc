-- What reading a statement gives, from what reading its parts gives.
use Rattle.std.proofs.Common.{◌≡◌, ◌≢◌, ◌⊎◌, ℕ, ◌<◌, Bool, true, false, List, [], ◌∷◌, ◌++◌, length, drop, arith, Option, Some, None, option_map, IfSome, refl, sym, ap, subst, ◌∙◌, inl, inr}
use Rattle.std.specs.Prelude.{is_some, slice_get}
use Rattle.std.proofs.lemmas.List.{append-nil}
use Rattle.uca_weights.specs.declared.Strength.{Strength}
use Rattle.uca_values.specs.Content.{Properties}
use Rattle.uca_text.specs.Texts.{NfdText, nfd_text}
use Rattle.uca_relations.specs.declared.Relation.{Relation}
use Rattle.uca_relations.specs.Relations.{IsRuleText}
use Rattle.uca_rules.specs.declared.characters.Character.{Character}
use Rattle.uca_rules.specs.declared.faults.RuleFault.{RuleFault}
use Rattle.uca_rules.specs.declared.signs.Preceding.{Preceding}
use Rattle.uca_rules.specs.declared.signs.Preceding.TheVariants as lasts
use Rattle.uca_rules.specs.declared.reader.Reader.{Reader}
use Rattle.uca_rules.specs.declared.text_reader.TextReader.{TextReader}
use Rattle.uca_rules.specs.inside.Growing.{AreGrowing}
use Rattle.uca_rules.specs.Characters.{ampersand, after_gaps, bracket, place_of}
use Rattle.uca_rules.specs.Pieces.{Symbol, Written, ArePieces, BeginsWritten}
use Rattle.uca_rules.specs.Statements.{IsNotAt, Statement, Reset, Plain, Starred, Resets, Signs, IsAnchorDue, IsTargetDue, BeginsExpansion, BeginsStatement, IsExpansionDue, bracket_at, sign_at, MayFollow, last_is, opening, targets_of}
use Rattle.uca_rules.specs.Meaning.{Anchor, IsShort, Taken, relations_in, relations_of, anchor_after}
use Rattle.uca_rules.specs.inside.Views.{IsMemoryAt, IsTextFault}
use Rattle.uca_rules.specs.Faults.{IsWrongBracket, RelationCause}
use Rattle.uca_rules.specs.inside.Reading
use Rattle.uca_rules.specs.inside.Reading.{State, IsTextOf, BeginsNext, HasRelationCause, IsMemoryIn, IsPlainFault, IsStarredFault, IsNextFault, AreTextsOf, Keeps, Adds, AddsOne, AddsPlain, AddsStarred, GoesOn, first_code, relation_of, properties_in, anchor_of, state_of}
use Rattle.uca_rules.proofs.Suffixes.{anchor_due_after, target_due_after, expansion_due_after, written_after, expands_end, after_ends, ends_trans}
use Rattle.uca_rules.proofs.Progress.{memory_after, keeps_both}

-- an expansion that has been read is a text of rules
pub rule_expansion : (properties : Properties) (written : Option Written) (expansion : Option NfdText) → AreTextsOf properties written expansion
    → IfSome expansion IsRuleText
rule_expansion properties None None are = tt
rule_expansion properties None (Some text) are = absurd are
rule_expansion properties (Some written) None are = tt
rule_expansion properties (Some written) (Some text) are = are.rule

-- ---- Resets

pub reset_fault : (properties : Properties) (end : ℕ) (state : State) (cs text : List Character) (before : Option Strength) (fault : RuleFault)
    → IsAnchorDue cs before text → MayFollow state.last Resets → IsTextFault end false text fault → IsNextFault properties end state cs fault
reset_fault properties end state cs text before fault due follows (inl memory) =
    let ends = after_ends cs text (anchor_due_after cs before text due) in
    Reading.IsNextFault.In_memory (record { front = ends.0; rest = text; parts = ends.1; at = memory })
reset_fault properties end state cs text before fault due follows (inr cause) =
    Reading.IsNextFault.In_text (record { opens = Resets; starred = false; text = text; follows = follows; due = (before, due); cause = cause })

pub reset_next : (properties : Properties) (old : State) (cs text rest : List Character) (before : Option Strength) (written : Written) (anchor : NfdText)
    → IsAnchorDue cs before text → MayFollow old.last Resets → BeginsWritten text written rest → IsTextOf properties written.points anchor
    → BeginsNext properties old (record { relations = old.relations; anchor = record { text = anchor; before = is_some before }; last = lasts.Reset before }) cs rest
reset_next properties old cs text rest before written anchor due follows begins found = record {
  s = Reset before written;
  begins = record { text = text; due = due; begins = begins };
  follows = follows;
  short = found.short;
  is =
      (let at : List Relation → NfdText → State = λ (l : List Relation) (t : NfdText). record { relations = l; anchor = record { text = t; before = is_some before }; last = lasts.Reset before } in
      ap (λ (l : List Relation). at l anchor) (sym (append-nil old.relations)) ∙ ap (λ (t : NfdText). at (old.relations ++ []) t) found.is);
}

-- ---- Relations

memory_in_target : (end : ℕ) (cs text : List Character) (strength : Strength) (starred : Bool) (fault : RuleFault) → IsTargetDue cs strength starred text → IsMemoryIn end text fault → IsMemoryIn end cs fault
memory_in_target end cs text strength starred fault due memory =
    let ends = after_ends cs text (target_due_after cs strength starred text due) in
    memory_after end cs ends.0 text fault ends.1 memory

-- a cause does not depend on what the last statement was
caused_after : (properties : Properties) (state : State) (last : Preceding) (s : Statement) (fault : RuleFault) → HasRelationCause properties state s fault → HasRelationCause properties (record state { last = last }) s fault
caused_after properties state last s fault has = record { before = has.before; t = has.t; after = has.after; are = has.are; at = has.at; cause = has.cause }

-- the reader has noted already that the last statement is a relation; `last` is the one before it
pub plain_next_fault : (properties : Properties) (end : ℕ) (state : State) (last : Preceding) (cs text : List Character) (strength : Strength) (fault : RuleFault)
    → IsTargetDue cs strength false text → MayFollow last (Signs strength) → IsPlainFault properties end state strength text fault → IsNextFault properties end (record state { last = last }) cs fault
plain_next_fault properties end state last cs text strength fault due follows (Reading.IsPlainFault.In_memory memory) =
    Reading.IsNextFault.In_memory (memory_in_target end cs text strength false fault due memory)
plain_next_fault properties end state last cs text strength fault due follows (Reading.IsPlainFault.In_target cause) =
    Reading.IsNextFault.In_text (record { opens = Signs strength; starred = false; text = text; follows = follows; due = inl due; cause = cause })
plain_next_fault properties end state last cs text strength fault due follows (Reading.IsPlainFault.In_expansion target more expansion begins slashed cause) =
    Reading.IsNextFault.In_text (record {
      opens = Signs strength;
      starred = false;
      text = expansion;
      follows = follows;
      due = inr (record { first = text; due = due; target = target; more = more; begins = begins; slashed = slashed });
      cause = cause;
    })
plain_next_fault properties end state last cs text strength fault due follows (Reading.IsPlainFault.In_relation target more expansion rest begins expands has) =
    Reading.IsNextFault.In_relation (record {
      s = Plain strength target expansion;
      rest = rest;
      begins = record { text = text; due = due; more = more; begins = begins; expands = expands };
      follows = follows;
      has = caused_after properties state last (Plain strength target expansion) fault has;
    })

pub starred_next_fault : (properties : Properties) (end : ℕ) (state : State) (last : Preceding) (cs text : List Character) (strength : Strength) (fault : RuleFault)
    → IsTargetDue cs strength true text → MayFollow last (Signs strength) → length state.relations < 5000 → IsStarredFault properties end state strength text fault → IsNextFault properties end (record state { last = last }) cs fault
starred_next_fault properties end state last cs text strength fault due follows few (Reading.IsStarredFault.In_memory memory) =
    Reading.IsNextFault.In_memory (memory_in_target end cs text strength true fault due memory)
starred_next_fault properties end state last cs text strength fault due follows few (Reading.IsStarredFault.In_text cause) =
    Reading.IsNextFault.In_text (record { opens = Signs strength; starred = true; text = text; follows = follows; due = due; cause = cause })
starred_next_fault properties end state last cs text strength fault due follows few (Reading.IsStarredFault.In_relation symbols rest begins ranges has) =
    Reading.IsNextFault.In_relation (record {
      s = Starred strength (targets_of symbols);
      rest = rest;
      begins = record { text = text; due = due; symbols = symbols; begins = begins; ranges = ranges; are = refl };
      follows = follows;
      has = caused_after properties state last (Starred strength (targets_of symbols)) fault has;
    })
starred_next_fault properties end state last cs text strength fault due follows few (Reading.IsStarredFault.In_limit symbols rest begins ranges over) =
    Reading.IsNextFault.In_target (record {
      strength = strength;
      targets = targets_of symbols;
      rest = rest;
      begins = record { text = text; due = due; symbols = symbols; begins = begins; ranges = ranges; are = refl };
      follows = follows;
      few = few;
      over = over;
    })

-- the reader before it noted that the last statement is a relation
abbrev pub with_last : {A T : Type 0} → Reader A T → Preceding → Reader A T
with_last r last = record { texts = r.texts; rules = r.rules; anchor = r.anchor; before = r.before; last = last }

-- the relations of a statement have been added, and it is the last one
pub goes_on : {A T : Type 0} (s : Statement) (old new : Reader A T) (last : Preceding) (cs rest : List Character) → BeginsStatement cs s rest → MayFollow last (opening s) → last_is s ≡ lasts.Relation → old.last ≡ lasts.Relation → Adds s old new
    → GoesOn (with_last old last) new cs rest
goes_on {A} s old new last cs rest begins follows is noted adds = record {
  kept = adds.kept;
  ready = record { growing = adds.growing; anchored = (λ some. adds.anchored) };
  next = record {
    s = s;
    begins = begins;
    follows = follows;
    short = adds.short;
    is =
        (let at : List Relation → Anchor → Preceding → State = λ (l : List Relation) (a : Anchor) (t : Preceding). record { relations = l; anchor = a; last = t } in
        ap (λ (l : List Relation). at l (anchor_of new) new.last) adds.relations
        ∙ ap (λ (a : Anchor). at (old.rules.relations.items ++ relations_of (relations_in (properties_in old.texts) (anchor_of old) s)) a new.last) adds.anchor
        ∙ ap (λ (t : Preceding). at (old.rules.relations.items ++ relations_of (relations_in (properties_in old.texts) (anchor_of old) s)) (anchor_after (properties_in old.texts) (anchor_of old) s) t) (adds.last ∙ noted ∙ sym is));
  };
}

pub plain_goes_on : {A T : Type 0} (old new : Reader A T) (last : Preceding) (strength : Strength) (cs text rest : List Character) → IsTargetDue cs strength false text → MayFollow last (Signs strength) → old.last ≡ lasts.Relation → AddsPlain old new strength text rest
    → GoesOn (with_last old last) new cs rest
plain_goes_on {A} old new last strength cs text rest due follows noted h =
    goes_on (Plain strength h.target h.expansion) old new last cs rest (record { text = text; due = due; more = h.more; begins = h.begins; expands = h.expands }) follows refl noted h.adds

pub starred_goes_on : {A T : Type 0} (old new : Reader A T) (last : Preceding) (strength : Strength) (cs text rest : List Character) → IsTargetDue cs strength true text → MayFollow last (Signs strength) → old.last ≡ lasts.Relation → AddsStarred old new strength text rest
    → GoesOn (with_last old last) new cs rest
starred_goes_on {A} old new last strength cs text rest due follows noted h =
    goes_on (Starred strength (targets_of h.symbols)) old new last cs rest (record { text = text; due = due; symbols = h.symbols; begins = h.begins; ranges = h.ranges; are = refl }) follows refl noted h.adds

-- ---- A target and an expansion

-- an error in the expansion is one after the target
pub expansion_fault : (properties : Properties) (end : ℕ) (state : State) (strength : Strength) (text more expansion : List Character) (target : Written) (fault : RuleFault)
    → BeginsWritten text target more → IsExpansionDue more expansion → IsTextFault end false expansion fault → IsPlainFault properties end state strength text fault
expansion_fault properties end state strength text more expansion target fault begins due (inl memory) =
    let ends = ends_trans text more expansion (after_ends text more (written_after text target more begins)) (after_ends more expansion (expansion_due_after more expansion due)) in
    Reading.IsPlainFault.In_memory (record { front = ends.0; rest = expansion; parts = ends.1; at = memory })
expansion_fault properties end state strength text more expansion target fault begins due (inr cause) =
    Reading.IsPlainFault.In_expansion target more expansion begins due cause

pub target_fault : (properties : Properties) (end : ℕ) (state : State) (strength : Strength) (text : List Character) (fault : RuleFault)
    → IsTextFault end false text fault → IsPlainFault properties end state strength text fault
target_fault properties end state strength text fault (inl memory) = Reading.IsPlainFault.In_memory (record { front = []; rest = text; parts = refl; at = memory })
target_fault properties end state strength text fault (inr cause) = Reading.IsPlainFault.In_target cause

-- the texts of a relation
expansion_is : (properties : Properties) (written : Option Written) (found : Option NfdText) → AreTextsOf properties written found → found ≡ option_map (λ (w : Written). nfd_text properties w.points) written
expansion_is properties None None are = refl
expansion_is properties None (Some text) are = absurd are
expansion_is properties (Some w) None are = absurd are
expansion_is properties (Some w) (Some text) are = ap (λ (t : NfdText). Some t) are.is

expansion_short : (properties : Properties) (written : Option Written) (found : Option NfdText) → AreTextsOf properties written found → IfSome written (λ w. IsShort w.points)
expansion_short properties None None are = tt
expansion_short properties None (Some text) are = absurd are
expansion_short properties (Some w) None are = absurd are
expansion_short properties (Some w) (Some text) are = are.short

-- the relation of a statement
pub relation_is : (properties : Properties) (anchor : Anchor) (strength : Strength) (target : Written) (expansion : Option Written) (text : NfdText) (found : Option NfdText)
    → IsTextOf properties target.points text → AreTextsOf properties expansion found
    → record { relation = record { anchor = anchor.text; before = anchor.before; strength = strength; target = text; expansion = found }; place = target.place } ∷ [] ≡ relations_in properties anchor (Plain strength target expansion)
relation_is properties anchor strength target expansion text found is are =
    let at : NfdText → Option NfdText → List Taken = λ (t : NfdText) (e : Option NfdText). record { relation = record { anchor = anchor.text; before = anchor.before; strength = strength; target = t; expansion = e }; place = target.place } ∷ [] in
    ap (λ (t : NfdText). at t found) is.is ∙ ap (λ (e : Option NfdText). at (nfd_text properties target.points) e) (expansion_is properties expansion found are)

pub relation_fault : (properties : Properties) (end : ℕ) (state : State) (strength : Strength) (text more rest : List Character) (target : Written) (expansion : Option Written) (t : NfdText) (e : Option NfdText) (fault : RuleFault)
    → BeginsWritten text target more → BeginsExpansion more expansion rest → IsTextOf properties target.points t → AreTextsOf properties expansion e
    → IsMemoryAt (place_of end rest) fault ⊎ ((fault.byte ≡ target.place) × RelationCause state.relations (record { anchor = state.anchor.text; before = state.anchor.before; strength = strength; target = t; expansion = e }) fault.kind)
    → IsPlainFault properties end state strength text fault
relation_fault properties end state strength text more rest target expansion t e fault begins expands is are (inl memory) =
    let ends = ends_trans text more rest (after_ends text more (written_after text target more begins)) (expands_end more expansion rest expands) in
    Reading.IsPlainFault.In_memory (record { front = ends.0; rest = rest; parts = ends.1; at = memory })
relation_fault properties end state strength text more rest target expansion t e fault begins expands is are (inr cause) =
    Reading.IsPlainFault.In_relation target more expansion rest begins expands (record {
      before = [];
      t = record { relation = record { anchor = state.anchor.text; before = state.anchor.before; strength = strength; target = t; expansion = e }; place = target.place };
      after = [];
      are = sym (relation_is properties state.anchor strength target expansion t e is are);
      at = cause.0;
      cause = subst (λ (l : List Relation). RelationCause l (record { anchor = state.anchor.text; before = state.anchor.before; strength = strength; target = t; expansion = e }) fault.kind) (sym (append-nil state.relations)) cause.1;
    })

pub plain_adds : {A T : Type 0} (old middle new : Reader A T) (strength : Strength) (text more rest : List Character) (target : Written) (expansion : Option Written) (t : NfdText) (e : Option NfdText)
    → BeginsWritten text target more → BeginsExpansion more expansion rest → IsTextOf (properties_in old.texts) target.points t → AreTextsOf (properties_in old.texts) expansion e
    → Keeps old.texts middle.texts → middle.rules ≡ old.rules → anchor_of middle ≡ anchor_of old → middle.last ≡ old.last
    → AddsOne (relation_of middle strength t e) middle new → AddsPlain old new strength text rest
plain_adds {A} old middle new strength text more rest target expansion t e begins expands is are kept rules anchor last adds =
    let of : Anchor → Relation = λ (a : Anchor). record { anchor = a.text; before = a.before; strength = strength; target = t; expansion = e } in
    record {
      target = target;
      more = more;
      begins = begins;
      expansion = expansion;
      expands = expands;
      adds = record {
        kept = keeps_both old.texts middle.texts new.texts kept adds.kept;
        growing = adds.growing;
        anchored = subst IsRuleText (sym adds.anchor) is.rule;
        short = (is.short, expansion_short (properties_in old.texts) expansion e are);
        relations = adds.relations
            ∙ ap (λ g. g.relations.items ++ of (anchor_of middle) ∷ []) rules
            ∙ ap (λ (a : Anchor). old.rules.relations.items ++ of a ∷ []) anchor
            ∙ ap (λ (l : List Taken). old.rules.relations.items ++ relations_of l) (relation_is (properties_in old.texts) (anchor_of old) strength target expansion t e is are);
        anchor =
            (let at : NfdText → Bool → Anchor = λ (s : NfdText) (b : Bool). record { text = s; before = b } in
            ap (λ (s : NfdText). at s new.before) (adds.anchor ∙ is.is) ∙ ap (λ (b : Bool). at (nfd_text (properties_in old.texts) target.points) b) adds.before);
        last = adds.last ∙ last;
      };
    }

-- ---- Where a text is written

-- it is written at its first byte
pub written_place : (end : ℕ) (cs : List Character) (text : Written) (rest : List Character) → BeginsWritten cs text rest → place_of end cs ≡ text.place
written_place end [] text rest begins = absurd (no_text begins.begins.pieces begins.begins.some begins.begins.are)
  where
    no_text : (pieces : List (List Symbol)) → pieces ≢ [] → ArePieces false [] pieces rest → ⊥
    no_text [] some are = some refl
    no_text (symbols ∷ pieces) some are = let e : None ≡ Some (record { symbols = symbols; rest = are.0 }) = are.1 in cc
written_place end (c ∷ cs) text rest begins = sym (ap (λ (w : Written). w.place) begins.is)

-- after the sign that was found a target must come
pub target_due : (cs : List Character) (strength : Strength) (starred is : Bool) (after text : List Character) → sign_at cs ≡ Some (record { strength = strength; starred = starred; rest = after })
    → starred ≡ is → text ≡ after_gaps after → IsTargetDue cs strength is text
target_due cs strength starred is after text sign same gap = record {
  after = after;
  sign = sign ∙ ap (λ (b : Bool). Some (record { strength = strength; starred = b; rest = after })) same;
  gap = sym gap;
}

-- a reset has been read
pub reset_goes_on : {A T : Type 0} (old : Reader A T) (texts : TextReader A T) (cs text rest : List Character) (asked : Option Strength) (before : Bool) (written : Written) (anchor : NfdText)
    → before ≡ is_some asked → AreGrowing old.rules → Keeps old.texts texts → IsAnchorDue cs asked text → MayFollow old.last Resets → BeginsWritten text written rest → IsTextOf (properties_in old.texts) written.points anchor
    → GoesOn old (record { texts = texts; rules = old.rules; anchor = anchor; before = before; last = lasts.Reset asked }) cs rest
reset_goes_on {A} old texts cs text rest asked before written anchor is growing kept due follows begins found = record {
  kept = kept;
  ready = record { growing = growing; anchored = (λ some. found.rule) };
  next = subst
      (λ (b : Bool). BeginsNext (properties_in old.texts) (state_of old) (record { relations = old.rules.relations.items; anchor = record { text = anchor; before = b }; last = lasts.Reset asked }) cs rest)
      (sym is) (reset_next (properties_in old.texts) (state_of old) cs text rest asked written anchor due follows begins found);
}

-- a bracket comes after `&`, and the anchor must come after it
pub bracketed : (cs after text : List Character) (strength : Strength) → first_code cs ≡ ampersand → after ≡ after_gaps (drop 1 cs) →
    bracket_at after ≡ Some strength → text ≡ after_gaps (drop 10 after) → IsAnchorDue cs (Some strength) text
bracketed [] after text strength is gap found due = absurd (let e : 0 ≡ ampersand = is in omega (arith, e))
bracketed (first ∷ cs) after text strength is gap found due =
    record {
      first = first;
      after = cs;
      are = refl;
      is = is;
      perhaps = (
        subst (λ (l : List Character). bracket_at l ≡ Some strength) gap found,
        ap (λ (l : List Character). after_gaps (drop 10 l)) (sym gap) ∙ sym due,
      );
    }

-- another character than this one is at the front
pub other_at : (code : ℕ) (cs : List Character) (c : Character) → Some c ≡ slice_get cs 0 → c.code ≢ code → IsNotAt code cs
other_at code [] c at other = tt
other_at code (b ∷ cs) c at other =
    let e : ◌≡◌ {A = Option Character} (Some c) (Some b) = at in
    let same : c ≡ b = cc in
    λ is. other (ap (λ (x : Character). x.code) same ∙ is)

-- nothing is at the front
pub nothing_at : (code : ℕ) (cs : List Character) → None ≡ slice_get cs 0 → IsNotAt code cs
nothing_at code [] at = tt
nothing_at code (b ∷ cs) at = absurd (let e : ◌≡◌ {A = Option Character} None (Some b) = at in cc)

-- no bracket comes after `&`, and the anchor must come there
pub not_bracketed : (cs text : List Character) → first_code cs ≡ ampersand → text ≡ after_gaps (drop 1 cs) → IsNotAt bracket text → IsAnchorDue cs None text
not_bracketed [] text is gap other = absurd (let e : 0 ≡ ampersand = is in omega (arith, e))
not_bracketed (first ∷ cs) text is gap other =
    record { first = first; after = cs; are = refl; is = is; perhaps = (subst (IsNotAt bracket) gap other, sym gap) }

-- a bracket comes after `&` that is none of the three
pub wrong_bracket : (cs after : List Character) (c : Character) → first_code cs ≡ ampersand → after ≡ after_gaps (drop 1 cs) → Some c ≡ slice_get after 0 → c.code ≡ bracket → bracket_at after ≡ None
    → IsWrongBracket cs c.place
wrong_bracket [] after c is gap at square none = absurd (let e : 0 ≡ ampersand = is in omega (arith, e))
wrong_bracket (first ∷ cs) [] c is gap at square none = absurd (let e : ◌≡◌ {A = Option Character} (Some c) None = at in cc)
wrong_bracket (first ∷ cs) (b ∷ more) c is gap at square none =
    let e : ◌≡◌ {A = Option Character} (Some c) (Some b) = at in
    let same : c ≡ b = cc in
    record {
      first = first;
      after = cs;
      are = refl;
      is = is;
      opens = b;
      more = more;
      gap = sym gap;
      square = ap (λ (x : Character). x.code) (sym same) ∙ square;
      none = none;
      at = ap (λ (x : Character). x.place) same;
    }

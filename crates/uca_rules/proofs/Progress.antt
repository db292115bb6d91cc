-- One more statement after those that have been read, and the errors that it may have.
use Rattle.std.proofs.Common.{◌≡◌, ◌≢◌, ◌⊎◌, ℕ, ◌+◌, ◌<◌, ◌≤◌, List, [], ◌∷◌, ◌++◌, length, ◌==◌, true, Option, refl, sym, ap, subst, ◌∙◌, inl, inr, arith}
use Rattle.std.specs.List.{AllByRecursion}
use Rattle.std.proofs.lemmas.Bool.Decides.{nat_tests}
use Rattle.std.proofs.lemmas.List.{append_assoc, length-map, map-append, nil_from_length}
use Rattle.uca_weights.specs.declared.Strength.{Strength}
use Rattle.unicode_normalization.specs.Forms.{nfd}
use Rattle.uca_values.specs.Content.{Properties, properties_of}
use Rattle.uca_relations.specs.declared.Relation.{Relation}
use Rattle.uca_rules.specs.declared.text_reader.TextReader.{TextReader}
use Rattle.uca_rules.specs.declared.characters.Character.{Character}
use Rattle.uca_rules.specs.declared.faults.RuleFault.{RuleFault}
use Rattle.uca_rules.specs.declared.faults.RuleFaultKind.TheVariants as kinds
use Rattle.uca_rules.specs.declared.signs.Preceding.{Preceding}
use Rattle.uca_rules.specs.declared.signs.Preceding.TheVariants as lasts
use Rattle.uca_rules.specs.Characters.{after_gaps}
use Rattle.uca_rules.specs.Statements.{Statement, Starred, AreStatements, BeginsStatement, MayFollow, MayEnd, AreInOrder, opening, last_is, last_of}
use Rattle.uca_rules.specs.Meaning.{Anchor, Taken, HasShortTexts, no_anchor, anchor_after, relations_in, relations_of, taken}
use Rattle.uca_rules.specs.Faults.{RelationCause, StatementCause, InText}
use Rattle.uca_rules.specs.inside.Reading.{State, start, BeginsNext, ReadsAll, IsMemoryIn, IsNextFault, In_memory, In_text, At_statement, In_relation, In_target, IsReadingFault, Keeps, properties_in}
use Rattle.uca_rules.proofs.MeaningLaws.{anchor_after_all, anchor_after_more, taken_more, relations_more}
use Rattle.uca_rules.proofs.Suffixes.{statements_end, statement_after, after_length, ends_length, gaps_end, ends_trans}

-- the characters begin with statements that give the state, and the rest follows after them and what comes between
pub record HasRead (properties : Properties) (cs : List Character) (state : State) (rest : List Character) : Type 0 where
  pub statements : List Statement
  pub lead : AreStatements cs statements rest
  pub ordered : AreInOrder lasts.Nothing statements
  pub short : AllByRecursion HasShortTexts statements
  pub relations : state.relations ≡ relations_of (taken properties statements)
  pub anchor : state.anchor ≡ anchor_after_all properties no_anchor statements
  pub last : state.last ≡ last_of lasts.Nothing statements

pub reading_starts : (properties : Properties) (cs : List Character) → HasRead properties cs start (after_gaps cs)
reading_starts properties cs = record { statements = []; lead = refl; ordered = tt; short = tt; relations = refl; anchor = refl; last = refl }

-- ---- One more statement

pub statements_more : (cs here rest : List Character) (statements : List Statement) (s : Statement) → AreStatements cs statements here → BeginsStatement here s rest
    → AreStatements cs (statements ++ s ∷ []) (after_gaps rest)
statements_more cs here rest [] s lead begins = (rest, subst (λ (l : List Character). BeginsStatement l s rest) (sym lead) begins, refl)
statements_more cs here rest (t ∷ statements) s lead begins = (lead.0, lead.1, statements_more lead.0 here rest statements s lead.2 begins)

pub ordered_more : (last : Preceding) (statements : List Statement) (s : Statement) → AreInOrder last statements → MayFollow (last_of last statements) (opening s) → AreInOrder last (statements ++ s ∷ [])
ordered_more last [] s ordered follows = (follows, tt)
ordered_more last (t ∷ statements) s ordered follows = (ordered.0, ordered_more (last_is t) statements s ordered.1 follows)

last_more : (last : Preceding) (statements : List Statement) (s : Statement) → last_of last (statements ++ s ∷ []) ≡ last_is s
last_more last [] s = refl
last_more last (t ∷ statements) s = last_more (last_is t) statements s

short_more : (statements : List Statement) (s : Statement) → AllByRecursion HasShortTexts statements → HasShortTexts s → AllByRecursion HasShortTexts (statements ++ s ∷ [])
short_more [] s all one = (one, tt)
short_more (t ∷ statements) s all one = (all.0, short_more statements s all.1 one)

pub reads_more : (properties : Properties) (cs here rest : List Character) (old new : State) → HasRead properties cs old here → BeginsNext properties old new here rest
    → HasRead properties cs new (after_gaps rest)
reads_more properties cs here rest old new read next = record {
  statements = read.statements ++ next.s ∷ [];
  lead = statements_more cs here rest read.statements next.s read.lead next.begins;
  ordered = ordered_more lasts.Nothing read.statements next.s read.ordered (subst (λ (l : Preceding). MayFollow l (opening next.s)) read.last next.follows);
  short = short_more read.statements next.s read.short next.short;
  relations = ap (λ (s : State). s.relations) next.is
      ∙ ap (λ (l : List Relation). l ++ relations_of (relations_in properties old.anchor next.s)) read.relations
      ∙ ap (λ (a : Anchor). relations_of (taken properties read.statements) ++ relations_of (relations_in properties a next.s)) read.anchor
      ∙ sym (relations_more properties read.statements next.s);
  anchor = ap (λ (s : State). s.anchor) next.is
      ∙ ap (λ (a : Anchor). anchor_after properties a next.s) read.anchor
      ∙ sym (anchor_after_more properties no_anchor read.statements next.s);
  last = ap (λ (s : State). s.last) next.is ∙ sym (last_more lasts.Nothing read.statements next.s);
}

pub reads_all : (properties : Properties) (cs : List Character) (state : State) → HasRead properties cs state [] → MayEnd state.last → ReadsAll properties cs state.relations
reads_all properties cs state read ended = record {
  statements = read.statements;
  divides = read.lead;
  chains = record { ordered = read.ordered; ended = subst (λ (l : Preceding). MayEnd l) read.last ended };
  short = read.short;
  give = read.relations;
}

-- no characters are left
pub none_left : (cs : List Character) → true ≡ (length cs == 0) → cs ≡ []
none_left cs e = nil_from_length cs (grind (arith, nat_tests))

-- rules may end if the last statement is not a reset
pub may_end : (last : Preceding) → ((asked : Option Strength) → last ≡ lasts.Reset asked → ⊥) → MayEnd last
may_end lasts.Nothing other = tt
may_end (lasts.Reset asked) other = other asked refl
may_end lasts.Relation other = tt

-- ---- Errors

pub memory_after : (end : ℕ) (cs front here : List Character) (fault : RuleFault) → cs ≡ front ++ here → IsMemoryIn end here fault → IsMemoryIn end cs fault
memory_after end cs front here fault parts memory =
    let ends = ends_trans cs here memory.rest (front, parts) (memory.front, memory.parts) in
    record { front = ends.0; rest = memory.rest; parts = ends.1; at = memory.at }

counted : (properties : Properties) (cs here : List Character) (state : State) (read : HasRead properties cs state here) → length state.relations ≡ length (taken properties read.statements)
counted properties cs here state read = ap length read.relations ∙ length-map (taken properties read.statements) (λ (t : Taken). t.relation)

over_limit : (count total : ℕ) (front : List Character) (c : Character) → count ≡ total → count < 5000 → (count + length front ≡ 5000) ⊎ (16 < length (nfd (c.code ∷ [])))
    → ((total + length front ≡ 5000) × (front ≢ [])) ⊎ (16 < length (nfd (c.code ∷ [])))
over_limit count total front c same few (inl many) = inl (ap (λ (n : ℕ). n + length front) (sym same) ∙ many, λ none. not_first none)
  where
    not_first : front ≡ [] → ⊥
    not_first none = let zero : length front ≡ 0 = ap length none in omega (arith, many, few)
over_limit count total front c same few (inr long) = inr long

pub fault_after : (properties : Properties) (end : ℕ) (cs here : List Character) (state : State) (fault : RuleFault) → HasRead properties cs state here → IsNextFault properties end state here fault
    → IsReadingFault properties end cs fault
fault_after properties end cs here state fault read (In_memory memory) =
    let ends = statements_end cs read.statements here read.lead in
    inl (memory_after end cs ends.0 here fault ends.1 memory)
fault_after properties end cs here state fault read (In_text text) =
    inr (record {
      statements = read.statements;
      rest = here;
      lead = read.lead;
      ordered = read.ordered;
      cause = inl (subst (λ (l : Preceding). InText end l here fault.byte fault.kind) read.last text);
    })
fault_after properties end cs here state fault read (At_statement cause) =
    inr (record {
      statements = read.statements;
      rest = here;
      lead = read.lead;
      ordered = read.ordered;
      cause = inr (inl (subst (λ (n : ℕ). StatementCause end (last_of lasts.Nothing read.statements) n here fault.byte fault.kind) (counted properties cs here state read)
          (subst (λ (l : Preceding). StatementCause end l (length state.relations) here fault.byte fault.kind) read.last cause)));
    })
fault_after properties end cs here state fault read (In_relation next) =
    let before : List Taken = taken properties read.statements in
    let is : taken properties (read.statements ++ next.s ∷ []) ≡ (before ++ next.has.before) ++ next.has.t ∷ next.has.after =
    taken_more properties read.statements next.s
    ∙ ap (λ (a : Anchor). before ++ relations_in properties a next.s) (sym read.anchor)
    ∙ ap (λ (l : List Taken). before ++ l) next.has.are
    ∙ sym (append_assoc before next.has.before (next.has.t ∷ next.has.after)) in
    let relations : state.relations ++ relations_of next.has.before ≡ relations_of (before ++ next.has.before) =
    ap (λ (l : List Relation). l ++ relations_of next.has.before) read.relations ∙ sym (map-append (λ (t : Taken). t.relation) before next.has.before) in
    inr (record {
      statements = read.statements ++ next.s ∷ [];
      rest = after_gaps next.rest;
      lead = statements_more cs here next.rest read.statements next.s read.lead next.begins;
      ordered = ordered_more lasts.Nothing read.statements next.s read.ordered (subst (λ (l : Preceding). MayFollow l (opening next.s)) read.last next.follows);
      cause = inr (inr (inl (record {
        before = before ++ next.has.before;
        t = next.has.t;
        after = next.has.after;
        are = is;
        at = next.has.at;
        cause = subst (λ (l : List Relation). RelationCause l next.has.t.relation fault.kind) relations next.has.cause;
      })));
    })
fault_after properties end cs here state fault read (In_target next) =
    let s : Statement = Starred next.strength next.targets in
    let count : length state.relations ≡ length (taken properties read.statements) = counted properties cs here state read in
    let few : length state.relations < 5000 = next.few in
    inr (record {
      statements = read.statements ++ s ∷ [];
      rest = after_gaps next.rest;
      lead = statements_more cs here next.rest read.statements s read.lead next.begins;
      ordered = ordered_more lasts.Nothing read.statements s read.ordered (subst (λ (l : Preceding). MayFollow l (opening s)) read.last next.follows);
      cause = inr (inr (inr (record {
        limit = next.over.limit;
        before = read.statements;
        strength = next.strength;
        front = next.over.front;
        c = next.over.c;
        back = next.over.back;
        are = ap (λ (l : List Character). read.statements ++ Starred next.strength l ∷ []) next.over.are;
        at = next.over.at;
        over = over_limit (length state.relations) (length (taken properties read.statements)) next.over.front next.over.c count few next.over.over;
      })));
    })

-- the last statement is a reset
pub ends_after_reset : (properties : Properties) (end : ℕ) (cs : List Character) (state : State) → HasRead properties cs state [] → ¬ (MayEnd state.last)
    → IsReadingFault properties end cs (record { byte = end; kind = kinds.Syntax })
ends_after_reset properties end cs state read open_chain =
    fault_after properties end cs [] state (record { byte = end; kind = kinds.Syntax }) read (At_statement (inl (inl open_chain, refl)))

-- ---- What a reader is for

pub kept_properties : {A T : Type 0} (old new : TextReader A T) → Keeps old new → properties_in new ≡ properties_in old
kept_properties {A} old new kept = ap (λ p. properties_of p.now) kept.properties

pub keeps_both : {A T : Type 0} (old middle new : TextReader A T) → Keeps old middle → Keeps middle new → Keeps old new
keeps_both {A} old middle new first second = record { properties = second.properties ∙ first.properties; end = second.end ∙ first.end }

pub kept_fault : {A T : Type 0} (old new : TextReader A T) (state : State) (cs : List Character) (fault : RuleFault) → Keeps old new
    → IsNextFault (properties_in new) new.end state cs fault → IsNextFault (properties_in old) old.end state cs fault
kept_fault {A} old new state cs fault kept h =
    subst (λ (p : Properties). IsNextFault p old.end state cs fault) (kept_properties old new kept)
    (subst (λ (n : ℕ). IsNextFault (properties_in new) n state cs fault) kept.end h)

pub kept_next : {A T : Type 0} (old new : TextReader A T) (before after : State) (cs rest : List Character) → Keeps old new
    → BeginsNext (properties_in new) before after cs rest → BeginsNext (properties_in old) before after cs rest
kept_next {A} old new before after cs rest kept h = subst (λ (p : Properties). BeginsNext p before after cs rest) (kept_properties old new kept) h

-- after a statement there are fewer characters
pub fewer_left : (properties : Properties) (old new : State) (cs rest : List Character) → BeginsNext properties old new cs rest → length (after_gaps rest) < length cs
fewer_left properties old new cs rest next =
    let fewer : length rest < length cs = after_length cs rest (statement_after cs next.s rest next.begins) in
    let same : length (after_gaps rest) ≤ length rest = ends_length rest (after_gaps rest) (gaps_end rest) in
    omega arith

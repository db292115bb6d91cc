-- Rules are divided into statements in one way.
use Rattle.std.proofs.Common.{◌≡◌, ℕ, List, [], ◌∷◌, ◌++◌, Bool, true, false, Option, None, Some, refl, sym, ap, ◌∙◌, subst, arith}
use Rattle.uca_weights.specs.declared.Strength.{Strength}
use Rattle.uca_rules.specs.declared.characters.Character.{Character}
use Rattle.uca_rules.specs.Characters.{after_gaps, slash}
use Rattle.uca_rules.specs.Pieces.{Written, BeginsWritten}
use Rattle.uca_rules.specs.Statements.{SignAt, sign_at, IsNotAt, BeginsBracket, IsAnchorDue, IsTargetDue, IsExpansionDue, targets_of, Statement, Reset, Plain, Starred, BeginsReset, BeginsExpansion, BeginsPlain, BeginsStarred, BeginsStatement, AreStatements}
use Rattle.uca_rules.proofs.TextLaws.{one_text, one_written}
use Rattle.uca_rules.proofs.SignLaws.{no_sign_at_ampersand, bracket_begins}
use Rattle.uca_rules.proofs.Suffixes.{statement_after, after_length}

-- ---- Where texts must come

-- a front that is not this character is none of it
at_not : (code : ℕ) (cs : List Character) (first : Character) (after : List Character) → cs ≡ first ∷ after → first.code ≡ code → ¬ (IsNotAt code cs)
at_not code [] first after are is other = absurd cc
at_not code (c ∷ cs) first after are is other =
    let same : ◌≡◌ {A = List Character} (c ∷ cs) (first ∷ after) = are in
    let head : c ≡ first = cc in
    other (ap (λ (c : Character). c.code) head ∙ is)

pub one_bracket : (cs rest rest' : List Character) (before before' : Option Strength) → BeginsBracket cs before rest → BeginsBracket cs before' rest' → (before ≡ before') × (rest ≡ rest')
one_bracket cs rest rest' None None begins begins' = (refl, sym begins.1 ∙ begins'.1)
one_bracket cs rest rest' None (Some strength) begins begins' = absurd (bracket_begins cs strength begins'.0 begins.0)
one_bracket cs rest rest' (Some strength) None begins begins' = absurd (bracket_begins cs strength begins.0 begins'.0)
one_bracket cs rest rest' (Some strength) (Some strength') begins begins' = (sym begins.0 ∙ begins'.0, sym begins.1 ∙ begins'.1)

pub one_anchor : (cs text text' : List Character) (before before' : Option Strength) → IsAnchorDue cs before text → IsAnchorDue cs before' text' → (before ≡ before') × (text ≡ text')
one_anchor cs text text' before before' due due' =
    let same : ◌≡◌ {A = List Character} (due'.first ∷ due'.after) (due.first ∷ due.after) = sym due'.are ∙ due.are in
    let after : due'.after ≡ due.after = cc in
    one_bracket (after_gaps due.after) text text' before before' due.perhaps (subst (λ after. BeginsBracket (after_gaps after) before' text') after due'.perhaps)

-- there is at most one sign at the front
one_sign : (cs : List Character) (sign sign' : SignAt) → sign_at cs ≡ Some sign → sign_at cs ≡ Some sign' → sign ≡ sign'
one_sign cs sign sign' is is' = cc

pub one_target : (cs text text' : List Character) (strength strength' : Strength) (starred starred' : Bool) → IsTargetDue cs strength starred text → IsTargetDue cs strength' starred' text'
    → (strength ≡ strength') × (starred ≡ starred') × (text ≡ text')
one_target cs text text' strength strength' starred starred' due due' =
    let same = one_sign cs (record { strength = strength; starred = starred; rest = due.after }) (record { strength = strength'; starred = starred'; rest = due'.after }) due.sign due'.sign in
    (ap (λ (sign : SignAt). sign.strength) same, ap (λ (sign : SignAt). sign.starred) same, sym due.gap ∙ ap (λ (sign : SignAt). after_gaps sign.rest) same ∙ due'.gap)

pub one_expansion : (cs text text' : List Character) → IsExpansionDue cs text → IsExpansionDue cs text' → text ≡ text'
one_expansion cs text text' due due' =
    let same : ◌≡◌ {A = List Character} (due'.first ∷ due'.after) (due.first ∷ due.after) = sym due'.are ∙ due.are in
    let after : due.after ≡ due'.after = cc in
    sym due.gap ∙ ap after_gaps after ∙ due'.gap

-- where an anchor must come no target may
pub no_target_at_anchor : (cs text text' : List Character) (before : Option Strength) (strength : Strength) (starred : Bool) → IsAnchorDue cs before text → ¬ (IsTargetDue cs strength starred text')
no_target_at_anchor cs text text' before strength starred due due' =
    no_sign_at_ampersand due.first due.after (record { strength = strength; starred = starred; rest = due'.after }) due.is (ap sign_at (sym due.are) ∙ due'.sign)

-- an expansion comes only after `/`
pub slash_at : (cs text : List Character) → IsExpansionDue cs text → ¬ (IsNotAt slash (after_gaps cs))
slash_at cs text due other = at_not slash (after_gaps cs) due.first due.after due.are due.is other

-- ---- Statements

pub one_expands : (cs rest rest' : List Character) (expansion expansion' : Option Written) → BeginsExpansion cs expansion rest → BeginsExpansion cs expansion' rest' → (expansion ≡ expansion') × (rest ≡ rest')
one_expands cs rest rest' None None begins begins' = (refl, sym begins.1 ∙ begins'.1)
one_expands cs rest rest' None (Some expansion) begins begins' = absurd (slash_at cs begins'.0 begins'.1 begins.0)
one_expands cs rest rest' (Some expansion) None begins begins' = absurd (slash_at cs begins.0 begins.1 begins'.0)
one_expands cs rest rest' (Some expansion) (Some expansion') begins begins' =
    let text = one_expansion cs begins'.0 begins.0 begins'.1 begins.1 in
    let same = one_written begins.0 rest rest' expansion expansion' begins.2 (subst (λ text. BeginsWritten text expansion' rest') text begins'.2) in
    (ap Some same.0, same.1)

one_reset : (cs rest rest' : List Character) (before before' : Option Strength) (anchor anchor' : Written) → BeginsReset cs before anchor rest → BeginsReset cs before' anchor' rest'
    → (Reset before anchor ≡ Reset before' anchor') × (rest ≡ rest')
one_reset cs rest rest' before before' anchor anchor' begins begins' =
    let due = one_anchor cs begins.text begins'.text before before' begins.due begins'.due in
    let same = one_written begins.text rest rest' anchor anchor' begins.begins (subst (λ text. BeginsWritten text anchor' rest') (sym due.1) begins'.begins) in
    (ap (λ before. Reset before anchor) due.0 ∙ ap (λ anchor. Reset before' anchor) same.0, same.1)

one_plain : (cs rest rest' : List Character) (strength strength' : Strength) (target target' : Written) (expansion expansion' : Option Written)
    → BeginsPlain cs strength target expansion rest → BeginsPlain cs strength' target' expansion' rest' → (Plain strength target expansion ≡ Plain strength' target' expansion') × (rest ≡ rest')
one_plain cs rest rest' strength strength' target target' expansion expansion' begins begins' =
    let due = one_target cs begins.text begins'.text strength strength' false false begins.due begins'.due in
    let text = one_written begins.text begins.more begins'.more target target' begins.begins (subst (λ text. BeginsWritten text target' begins'.more) (sym due.2) begins'.begins) in
    let same = one_expands begins.more rest rest' expansion expansion' begins.expands (subst (λ more. BeginsExpansion more expansion' rest') (sym text.1) begins'.expands) in
    (ap (λ strength. Plain strength target expansion) due.0 ∙ ap (λ target. Plain strength' target expansion) text.0 ∙ ap (λ expansion. Plain strength' target' expansion) same.0, same.1)

one_starred : (cs rest rest' : List Character) (strength strength' : Strength) (targets targets' : List Character) → BeginsStarred cs strength targets rest → BeginsStarred cs strength' targets' rest'
    → (Starred strength targets ≡ Starred strength' targets') × (rest ≡ rest')
one_starred cs rest rest' strength strength' targets targets' begins begins' =
    let due = one_target cs begins.text begins'.text strength strength' true true begins.due begins'.due in
    let symbols = begins'.symbols in
    let begin = begins'.begins in
    let text = one_text true begins.text rest rest' begins.symbols begins'.symbols begins.begins (rw due.2 begin) in
    let same : targets ≡ targets' = begins.are ∙ ap targets_of text.0 ∙ sym begins'.are in
    (ap (λ strength. Starred strength targets) due.0 ∙ ap (λ targets. Starred strength' targets) same, text.1)

-- a sign has a star or none
no_plain_starred : (cs rest rest' : List Character) (strength strength' : Strength) (target : Written) (expansion : Option Written) (targets : List Character)
    → BeginsPlain cs strength target expansion rest → ¬ (BeginsStarred cs strength' targets rest')
no_plain_starred cs rest rest' strength strength' target expansion targets begins begins' =
    let due = one_target cs begins.text begins'.text strength strength' false true begins.due begins'.due in
    let star : false ≡ true = due.1 in
    cc

-- characters begin with at most one statement
abbrev pub OneStatement : Type 0
OneStatement = (cs rest rest' : List Character) (s s' : Statement) → BeginsStatement cs s rest → BeginsStatement cs s' rest' → (s ≡ s') × (rest ≡ rest')

pub one_statement : OneStatement
one_statement cs rest rest' (Reset before anchor) (Reset before' anchor') begins begins' = one_reset cs rest rest' before before' anchor anchor' begins begins'
one_statement cs rest rest' (Reset before anchor) (Plain strength target expansion) begins begins' = absurd (no_target_at_anchor cs begins.text begins'.text before strength false begins.due begins'.due)
one_statement cs rest rest' (Reset before anchor) (Starred strength targets) begins begins' = absurd (no_target_at_anchor cs begins.text begins'.text before strength true begins.due begins'.due)
one_statement cs rest rest' (Plain strength target expansion) (Reset before anchor) begins begins' = absurd (no_target_at_anchor cs begins'.text begins.text before strength false begins'.due begins.due)
one_statement cs rest rest' (Plain strength target expansion) (Plain strength' target' expansion') begins begins' = one_plain cs rest rest' strength strength' target target' expansion expansion' begins begins'
one_statement cs rest rest' (Plain strength target expansion) (Starred strength' targets) begins begins' = absurd (no_plain_starred cs rest rest' strength strength' target expansion targets begins begins')
one_statement cs rest rest' (Starred strength targets) (Reset before anchor) begins begins' = absurd (no_target_at_anchor cs begins'.text begins.text before strength true begins'.due begins.due)
one_statement cs rest rest' (Starred strength targets) (Plain strength' target expansion) begins begins' = absurd (no_plain_starred cs rest' rest strength' strength target expansion targets begins' begins)
one_statement cs rest rest' (Starred strength targets) (Starred strength' targets') begins begins' = one_starred cs rest rest' strength strength' targets targets' begins begins'

-- ---- All statements

-- from here on, where a statement begins or the rules end, the characters are these statements
abbrev pub GoOn : List Character → List Statement → Type 0
GoOn cs [] = cs ≡ []
GoOn cs (s ∷ statements) = (more : List Character) × BeginsStatement cs s more × AreStatements more statements []

pub go_on : (cs rest : List Character) (statements : List Statement) → after_gaps cs ≡ rest → AreStatements cs statements [] → GoOn rest statements
go_on cs rest [] gap are = sym gap ∙ are
go_on cs rest (s ∷ statements) gap are = (are.0, subst (λ rest. BeginsStatement rest s are.0) gap are.1, are.2)

-- no statement begins at the end
pub none_begins : (s : Statement) (rest : List Character) → ¬ (BeginsStatement [] s rest)
none_begins s rest begins = let less = after_length [] rest (statement_after [] s rest begins) in omega arith

-- statements that lead somewhere are a front of all statements, and the others go on there
pub record IsFront (statements all : List Statement) (rest : List Character) : Type 0 where
  pub back : List Statement
  pub parts : all ≡ statements ++ back
  pub on : GoOn rest back

pub front_of : (statements all : List Statement) (cs rest : List Character) → AreStatements cs statements rest → AreStatements cs all [] → IsFront statements all rest
front_of [] all cs rest lead are = record { back = all; parts = refl; on = go_on cs rest all lead are }
front_of (s ∷ statements) [] cs rest lead are = absurd (none_begins s lead.0 (subst (λ cs. BeginsStatement cs s lead.0) are lead.1))
front_of (s ∷ statements) (s' ∷ all) cs rest lead are =
    let same = one_statement (after_gaps cs) are.0 lead.0 s' s are.1 lead.1 in
    let front = front_of statements all lead.0 rest lead.2 (subst (λ more. AreStatements more all []) same.1 are.2) in
    record { back = front.back; parts = ap (λ s. s ∷ all) same.0 ∙ ap (λ all. s ∷ all) front.parts; on = front.on }

-- characters are divided into statements in one way
pub one_division : (cs : List Character) (statements all : List Statement) → AreStatements cs statements [] → AreStatements cs all [] → statements ≡ all
one_division cs [] [] are are' = refl
one_division cs [] (s ∷ all) are are' = absurd (none_begins s are'.0 (subst (λ cs. BeginsStatement cs s are'.0) are are'.1))
one_division cs (s ∷ statements) [] are are' = absurd (none_begins s are.0 (subst (λ cs. BeginsStatement cs s are.0) are' are.1))
one_division cs (s ∷ statements) (s' ∷ all) are are' =
    let same = one_statement (after_gaps cs) are'.0 are.0 s' s are'.1 are.1 in
    let later = one_division are.0 statements all are.2 (subst (λ more. AreStatements more all []) same.1 are'.2) in
    ap (λ s. s ∷ statements) (sym same.0) ∙ ap (λ all. s' ∷ all) later

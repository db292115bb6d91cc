-- Rules with a cause mean no list of relations.
use Rattle.std.proofs.Common.{◌≡◌, ◌≢◌, ◌⊎◌, ℕ, suc, ◌+◌, ◌<◌, ◌≤◌, List, [], ◌∷◌, ◌++◌, length, take, drop, Bool, true, false, ◌&&◌, Option, None, Some, option_map, inl, inr, refl, sym, ap, ◌∙◌, subst, arith}
use Rattle.std.specs.Prelude.{if◌then◌else◌, ◌==◌, IfSome, IsTrue, IsUtf8}
use Rattle.std.specs.List.{AllByRecursion}
use Rattle.std.specs.Str.{byte}
use Rattle.std.proofs.lemmas.Bool.{cond_both}
use Rattle.std.proofs.lemmas.List.{append_assoc, length-append, length-map, map-append}
use Rattle.std.proofs.lemmas.List.Concat.{flat_map-cons}
use Rattle.std.proofs.Math.Seq.{take-length}
use Rattle.unicode_normalization.specs.Forms.{nfd}
use Rattle.uca_weights.specs.declared.Strength.{Strength}
use Rattle.uca_values.specs.Content.{Properties}
use Rattle.uca_text.specs.Occurring.{OccursInOrder}
use Rattle.uca_relations.specs.declared.Relation.{Relation}
use Rattle.uca_relations.specs.Relations.{AreRules, IsLate}
use Rattle.uca_rules.specs.declared.characters.Character.{Character}
use Rattle.uca_rules.specs.declared.signs.Preceding.{Preceding}
use Rattle.uca_rules.specs.declared.signs.Preceding.TheVariants as lasts
use Rattle.uca_rules.specs.declared.faults.RuleFaultKind.{RuleFaultKind}
use Rattle.uca_rules.specs.declared.faults.RuleFaultKind.TheVariants as kinds
use Rattle.uca_rules.specs.Characters.{characters, after_gaps, ampersand, apostrophe, backslash, hyphen, bracket, less_than}
use Rattle.uca_rules.specs.Pieces.{Symbol, Literal, Hyphen, Piece, is_plain, inside_quotes, after_apostrophe, number_at, numbered, after_backslash, piece_at, ArePieces, symbols_of, BeginsText}
use Rattle.uca_rules.specs.Statements.{SignAt, sign_at, count_less, bracket_at, BeginsBracket, No_start, HasRanges, targets_of, Statement, Reset, Plain, Starred, BeginsStatement, Resets, Signs, opening, MayFollow, MayEnd, AreInOrder, last_is, last_of}
use Rattle.uca_rules.specs.Meaning.{Anchor, Taken, after_target, one_letter, anchor_after, starred_relations, relations_in, relations_from, no_anchor, taken, relations_of, IsShort, HasShortTexts, Means}
use Rattle.uca_rules.specs.Faults.{may_begin, IsMisplaced, IsWrongBracket, IsSign, IsWrongStrength, StatementCause, RelationCause, InText, InRelation, InStarred, HasCause}
use Rattle.uca_rules.specs.Laws.{ACauseExcludesAMeaning}
use Rattle.uca_rules.proofs.SignLaws.{BeginsSign, sign_begins, no_sign_at_ampersand, less_begins, no_sign_at_four}
use Rattle.uca_rules.proofs.StatementLaws.{GoOn, none_begins, IsFront, front_of}
use Rattle.uca_rules.proofs.MeaningLaws.{anchor_after_all, relations_append, taken_more}
use Rattle.uca_rules.proofs.TextExclusion.{inside_first, text_stands, text_excluded}

-- ---- Lists

all_back : {A : Type 0} (P : A → Type 0) (xs ys : List A) → AllByRecursion P (xs ++ ys) → AllByRecursion P ys
all_back P [] ys all = all
all_back P (x ∷ xs) ys all = all_back P xs ys all.1

-- the last of a list that begins another
all_last : {A : Type 0} (P : A → Type 0) (front later back after : List A) (x y : A) → front ++ x ∷ [] ≡ later ++ y ∷ back → AllByRecursion P (y ∷ (back ++ after)) → P x
all_last P front [] back after x y same all =
    let whole : AllByRecursion P ((front ++ x ∷ []) ++ after) = subst (λ list. AllByRecursion P (list ++ after)) (sym same) all in
    (all_back P front (x ∷ after) (subst (AllByRecursion P) (append_assoc front (x ∷ []) after) whole)).0
all_last P [] (z ∷ []) back after x y same all = absurd cc
all_last P [] (z ∷ w ∷ later) back after x y same all = absurd cc
all_last P (u ∷ front) (z ∷ later) back after x y same all =
    let rest : front ++ x ∷ [] ≡ later ++ y ∷ back = cc in
    all_last P front later back after x y rest all

-- ---- Order

ordered_back : (last : Preceding) (statements back : List Statement) → AreInOrder last (statements ++ back) → AreInOrder (last_of last statements) back
ordered_back last [] back ordered = ordered
ordered_back last (s ∷ statements) back ordered = ordered_back (last_is s) statements back ordered.1

ended_back : (last : Preceding) (statements back : List Statement) → MayEnd (last_of last (statements ++ back)) → MayEnd (last_of (last_of last statements) back)
ended_back last [] back ended = ended
ended_back last (s ∷ statements) back ended = ended_back (last_is s) statements back ended

-- ---- Where a statement begins

-- a reset may begin with `&` and a relation with its sign
reset_may_begin : (last : Preceding) (code : ℕ) → code ≡ ampersand → MayFollow last Resets → IsTrue (may_begin last code)
reset_may_begin lasts.Nothing code is follows = subst (λ code. IsTrue (may_begin lasts.Nothing code)) (sym is) refl
reset_may_begin (lasts.Reset asked) code is follows = absurd follows
reset_may_begin lasts.Relation code is follows = subst (λ code. IsTrue (may_begin lasts.Relation code)) (sym is) refl

sign_may_begin : (last : Preceding) (code : ℕ) (strength : Strength) → BeginsSign code → MayFollow last (Signs strength) → IsTrue (may_begin last code)
sign_may_begin lasts.Nothing code strength begins follows = absurd follows
sign_may_begin (lasts.Reset asked) code strength (inl is) follows = subst (λ code. IsTrue (may_begin (lasts.Reset asked) code)) (sym is) refl
sign_may_begin (lasts.Reset asked) code strength (inr is) follows = subst (λ code. IsTrue (may_begin (lasts.Reset asked) code)) (sym is) refl
sign_may_begin lasts.Relation code strength (inl is) follows = subst (λ code. IsTrue (may_begin lasts.Relation code)) (sym is) refl
sign_may_begin lasts.Relation code strength (inr is) follows = subst (λ code. IsTrue (may_begin lasts.Relation code)) (sym is) refl

statement_may_begin : (last : Preceding) (c : Character) (cs rest : List Character) (s : Statement) → BeginsStatement (c ∷ cs) s rest → MayFollow last (opening s) → IsTrue (may_begin last c.code)
statement_may_begin last c cs rest (Reset before anchor) begins follows =
    let are : ◌≡◌ {A = List Character} (c ∷ cs) (begins.due.first ∷ begins.due.after) = begins.due.are in
    let first : c ≡ begins.due.first = cc in
    reset_may_begin last c.code (ap (λ (c : Character). c.code) first ∙ begins.due.is) follows
statement_may_begin last c cs rest (Plain strength target expansion) begins follows =
    sign_may_begin last c.code strength (sign_begins c cs (record { strength = strength; starred = false; rest = begins.due.after }) begins.due.sign) follows
statement_may_begin last c cs rest (Starred strength targets) begins follows =
    sign_may_begin last c.code strength (sign_begins c cs (record { strength = strength; starred = true; rest = begins.due.after }) begins.due.sign) follows

misplaced_excluded : (last : Preceding) (cs : List Character) (back : List Statement) → GoOn cs back → AreInOrder last back → MayEnd (last_of last back) → ¬ (IsMisplaced last cs)
misplaced_excluded last [] [] on ordered ended misplaced = misplaced ended
misplaced_excluded last (c ∷ cs) [] on ordered ended misplaced = let end : ◌≡◌ {A = List Character} (c ∷ cs) [] = on in cc
misplaced_excluded last [] (s ∷ back) on ordered ended misplaced = none_begins s on.0 on.1
misplaced_excluded last (c ∷ cs) (s ∷ back) on ordered ended misplaced =
    let may : may_begin last c.code ≡ true = statement_may_begin last c cs on.0 s on.1 ordered.0 in
    let may_not : may_begin last c.code ≡ false = misplaced in
    let both : true ≡ false = sym may ∙ may_not in
    cc

four_at_statement : (cs rest : List Character) (s : Statement) → BeginsStatement cs s rest → ¬ (4 ≤ count_less cs)
four_at_statement cs rest (Reset before anchor) begins many =
    let some : 4 ≤ count_less (begins.due.first ∷ begins.due.after) = subst (λ cs. 4 ≤ count_less cs) begins.due.are many in
    let one : 1 ≤ count_less (begins.due.first ∷ begins.due.after) = omega arith in
    let less : begins.due.first.code ≡ less_than = less_begins begins.due.first begins.due.after one in
    let other : begins.due.first.code ≡ ampersand = begins.due.is in
    omega arith
four_at_statement cs rest (Plain strength target expansion) begins many = let sign = begins.due.sign in let none = no_sign_at_four cs many in cc
four_at_statement cs rest (Starred strength targets) begins many = let sign = begins.due.sign in let none = no_sign_at_four cs many in cc

four_excluded : (cs : List Character) (back : List Statement) → GoOn cs back → ¬ (4 ≤ count_less cs)
four_excluded cs [] on many = let none : 4 ≤ count_less [] = subst (λ cs. 4 ≤ count_less cs) on many in omega arith
four_excluded cs (s ∷ back) on many = four_at_statement cs on.0 s on.1 many

wrong_bracket_at : (opens : Character) (more text : List Character) (before : Option Strength) → opens.code ≡ bracket → bracket_at (opens ∷ more) ≡ None → ¬ (BeginsBracket (opens ∷ more) before text)
wrong_bracket_at opens more text None square none begins = begins.0 square
wrong_bracket_at opens more text (Some strength) square none begins = let some = begins.0 in cc

bracket_at_statement : (cs rest : List Character) (place : ℕ) (s : Statement) → BeginsStatement cs s rest → ¬ (IsWrongBracket cs place)
bracket_at_statement cs rest place (Reset before anchor) begins wrong =
    let same : ◌≡◌ {A = List Character} (begins.due.first ∷ begins.due.after) (wrong.first ∷ wrong.after) = sym begins.due.are ∙ wrong.are in
    let after : begins.due.after ≡ wrong.after = cc in
    let gap : after_gaps begins.due.after ≡ wrong.opens ∷ wrong.more = ap after_gaps after ∙ wrong.gap in
    wrong_bracket_at wrong.opens wrong.more begins.text before wrong.square wrong.none (subst (λ cs. BeginsBracket cs before begins.text) gap begins.due.perhaps)
bracket_at_statement cs rest place (Plain strength target expansion) begins wrong =
    no_sign_at_ampersand wrong.first wrong.after (record { strength = strength; starred = false; rest = begins.due.after }) wrong.is (ap sign_at (sym wrong.are) ∙ begins.due.sign)
bracket_at_statement cs rest place (Starred strength targets) begins wrong =
    no_sign_at_ampersand wrong.first wrong.after (record { strength = strength; starred = true; rest = begins.due.after }) wrong.is (ap sign_at (sym wrong.are) ∙ begins.due.sign)

bracket_excluded : (cs : List Character) (place : ℕ) (back : List Statement) → GoOn cs back → ¬ (IsWrongBracket cs place)
bracket_excluded cs place [] on wrong = let none : ◌≡◌ {A = List Character} [] (wrong.first ∷ wrong.after) = sym on ∙ wrong.are in cc
bracket_excluded cs place (s ∷ back) on wrong = bracket_at_statement cs on.0 place s on.1 wrong

-- ---- Strengths

one_strength : (cs : List Character) (sign sign' : SignAt) (asked : Strength) → sign_at cs ≡ Some sign → sign_at cs ≡ Some sign' → sign'.strength ≡ asked → sign.strength ≢ asked → ⊥
one_strength cs sign sign' asked is is' same other =
    let one : sign ≡ sign' = cc in
    other (ap (λ (sign : SignAt). sign.strength) one ∙ same)

strength_at_statement : (last : Preceding) (cs rest : List Character) (s : Statement) → BeginsStatement cs s rest → MayFollow last (opening s) → ¬ (IsWrongStrength last cs)
strength_at_statement lasts.Nothing cs rest s begins follows wrong = wrong
strength_at_statement lasts.Relation cs rest s begins follows wrong = wrong
strength_at_statement (lasts.Reset None) cs rest s begins follows wrong = wrong
strength_at_statement (lasts.Reset (Some asked)) cs rest (Reset before anchor) begins follows wrong = follows
strength_at_statement (lasts.Reset (Some asked)) cs rest (Plain strength target expansion) begins follows wrong =
    one_strength cs wrong.0 (record { strength = strength; starred = false; rest = begins.due.after }) asked wrong.1 begins.due.sign follows wrong.2
strength_at_statement (lasts.Reset (Some asked)) cs rest (Starred strength targets) begins follows wrong =
    one_strength cs wrong.0 (record { strength = strength; starred = true; rest = begins.due.after }) asked wrong.1 begins.due.sign follows wrong.2

strength_at_end : (last : Preceding) → ¬ (IsWrongStrength last [])
strength_at_end lasts.Nothing wrong = wrong
strength_at_end lasts.Relation wrong = wrong
strength_at_end (lasts.Reset None) wrong = wrong
strength_at_end (lasts.Reset (Some asked)) wrong = let some : ◌≡◌ {A = Option SignAt} None (Some wrong.0) = wrong.1 in cc

strength_excluded : (last : Preceding) (cs : List Character) (back : List Statement) → GoOn cs back → AreInOrder last back → ¬ (IsWrongStrength last cs)
strength_excluded last cs [] on ordered wrong = strength_at_end last (subst (IsWrongStrength last) on wrong)
strength_excluded last cs (s ∷ back) on ordered wrong = strength_at_statement last cs on.0 s on.1 ordered.0 wrong

-- ---- Too many relations

first_gives : (d : Character) (piece : Option Piece) → IfSome piece (λ piece. (more : List Symbol) × (piece.symbols ≡ Literal d ∷ more)) → IfSome piece (λ piece. 1 ≤ length piece.symbols)
first_gives d None first = tt
first_gives d (Some piece) first = let all = ap length first.1 in omega arith

apostrophe_gives : (c : Character) (cs : List Character) → IfSome (after_apostrophe c cs) (λ piece. 1 ≤ length piece.symbols)
apostrophe_gives c [] = tt
apostrophe_gives c (d ∷ cs) =
    cond_both (d.code == apostrophe) (Some (record { symbols = Literal c ∷ []; rest = cs })) (inside_quotes (d ∷ cs)) (λ piece. IfSome piece (λ piece. 1 ≤ length (Piece.symbols piece)))
    (λ double. omega arith) (λ other. first_gives d (inside_quotes (d ∷ cs)) (inside_first d cs other))

code_gives : (c : Character) (n : ℕ) (cs : List Character) (code : Option ℕ)
    → IfSome (option_map (λ code. record { symbols = Literal (record { code = code; place = c.place }) ∷ []; rest = drop n cs }) code) (λ piece. 1 ≤ length (Piece.symbols piece))
code_gives c n cs None = tt
code_gives c n cs (Some code) = omega arith

escape_gives : (c d : Character) (cs : List Character) (four eight : Bool)
    → IfSome (if four then numbered c 4 cs else if eight then numbered c 8 cs else Some (record { symbols = Literal (record { code = d.code; place = c.place }) ∷ []; rest = cs })) (λ piece. 1 ≤ length (Piece.symbols piece))
escape_gives c d cs true eight = code_gives c 4 cs (number_at 4 cs)
escape_gives c d cs false true = code_gives c 8 cs (number_at 8 cs)
escape_gives c d cs false false = omega arith

backslash_gives : (c : Character) (cs : List Character) → IfSome (after_backslash c cs) (λ piece. 1 ≤ length piece.symbols)
backslash_gives c [] = tt
backslash_gives c (d ∷ cs) = escape_gives c d cs (d.code == byte "u") (d.code == byte "U")

kind_gives : (c : Character) (cs : List Character) (quote escape plain range : Bool)
    → IfSome (if quote then after_apostrophe c cs else if escape then after_backslash c cs else if plain then Some (record { symbols = Literal c ∷ []; rest = cs }) else if range then Some (record { symbols = Hyphen c.place ∷ []; rest = cs }) else None) (λ piece. 1 ≤ length (Piece.symbols piece))
kind_gives c cs true escape plain range = apostrophe_gives c cs
kind_gives c cs false true plain range = backslash_gives c cs
kind_gives c cs false false true range = omega arith
kind_gives c cs false false false true = omega arith
kind_gives c cs false false false false = tt

piece_gives : (starred : Bool) (cs : List Character) → IfSome (piece_at starred cs) (λ piece. 1 ≤ length piece.symbols)
piece_gives starred [] = tt
piece_gives starred (c ∷ cs) = kind_gives c cs (c.code == apostrophe) (c.code == backslash) (is_plain c.code) (starred && c.code == hyphen)

pieces_give : (starred : Bool) (cs rest : List Character) (pieces : List (List Symbol)) → pieces ≢ [] → ArePieces starred cs pieces rest → 1 ≤ length (symbols_of pieces)
pieces_give starred cs rest [] some are = absurd (some refl)
pieces_give starred cs rest (symbols ∷ pieces) some are =
    let one : 1 ≤ length symbols = subst (λ piece. IfSome piece (λ piece. 1 ≤ length piece.symbols)) are.1 (piece_gives starred cs) in
    let all : length (symbols_of (symbols ∷ pieces)) ≡ length symbols + length (symbols_of pieces) =
    ap length (flat_map-cons (λ (symbols : List Symbol). symbols) symbols pieces) ∙ length-append symbols (symbols_of pieces) in
    omega arith

-- a text gives a symbol, and a starred one a target
text_gives : (starred : Bool) (text rest : List Character) (symbols : List Symbol) → BeginsText starred text symbols rest → 1 ≤ length symbols
text_gives starred text rest symbols begins = subst (λ symbols. 1 ≤ length symbols) (sym begins.give) (pieces_give starred text rest begins.pieces begins.some begins.are)

pub targets_some : (symbols : List Symbol) → 1 ≤ length symbols → HasRanges symbols → 1 ≤ length (targets_of symbols)
targets_some [] some ranges = absurd (omega arith)
targets_some (Hyphen place ∷ symbols) some ranges = absurd ((ranges [] symbols place refl).1 (No_start refl))
targets_some (Literal x ∷ []) some ranges = omega arith
targets_some (Literal x ∷ Literal y ∷ symbols) some ranges = omega arith
targets_some (Literal x ∷ Hyphen place ∷ []) some ranges = omega arith
targets_some (Literal x ∷ Hyphen place ∷ Hyphen another ∷ symbols) some ranges = omega arith
targets_some (Literal x ∷ Hyphen place ∷ Literal y ∷ symbols) some ranges = omega arith

pub length-starred_relations : (properties : Properties) (anchor : Anchor) (strength : Strength) (targets : List Character) → length (starred_relations properties anchor strength targets) ≡ length targets
length-starred_relations properties anchor strength [] = refl
length-starred_relations properties anchor strength (c ∷ targets) = ap suc (length-starred_relations properties (after_target (one_letter properties c)) strength targets)

-- if there is a sign, the statement gives a relation
sign_gives : (properties : Properties) (anchor : Anchor) (cs rest : List Character) (s : Statement) → BeginsStatement cs s rest → IsSign cs → 1 ≤ length (relations_in properties anchor s)
sign_gives properties anchor cs rest (Reset before text) begins sign =
    absurd (no_sign_at_ampersand begins.due.first begins.due.after sign.0 begins.due.is (ap sign_at (sym begins.due.are) ∙ sign.1))
sign_gives properties anchor cs rest (Plain strength target expansion) begins sign = omega arith
sign_gives properties anchor cs rest (Starred strength targets) begins sign =
    let some : 1 ≤ length (targets_of begins.symbols) = targets_some begins.symbols (text_gives true begins.text rest begins.symbols begins.begins) begins.ranges in
    let same = ap length begins.are in
    let all = length-starred_relations properties anchor strength targets in
    omega arith

count_excluded : (properties : Properties) (anchor : Anchor) (count : ℕ) (cs : List Character) (back : List Statement) → GoOn cs back → count + length (relations_from properties anchor back) ≤ 5000 → count ≡ 5000 → ¬ (IsSign cs)
count_excluded properties anchor count cs [] on few full sign = let none : ◌≡◌ {A = Option SignAt} None (Some sign.0) = ap sign_at (sym on) ∙ sign.1 in cc
count_excluded properties anchor count cs (s ∷ back) on few full sign =
    let one = sign_gives properties anchor cs on.0 s on.1 sign in
    let all = length-append (relations_in properties anchor s) (relations_from properties (anchor_after properties anchor s) back) in
    omega arith

-- ---- The sorts of causes

-- where statements come in order there is no cause of a statement
pub statement_excluded : (properties : Properties) (anchor : Anchor) (end : ℕ) (last : Preceding) (count : ℕ) (cs : List Character) (place : ℕ) (kind : RuleFaultKind) (back : List Statement)
    → GoOn cs back → AreInOrder last back → MayEnd (last_of last back) → count + length (relations_from properties anchor back) ≤ 5000 → ¬ (StatementCause end last count cs place kind)
statement_excluded properties anchor end last count cs place kinds.Syntax back on ordered ended few (inl (inl misplaced, at)) = misplaced_excluded last cs back on ordered ended misplaced
statement_excluded properties anchor end last count cs place kinds.Syntax back on ordered ended few (inl (inr many, at)) = four_excluded cs back on many
statement_excluded properties anchor end last count cs place kinds.Syntax back on ordered ended few (inr (follows, wrong)) = bracket_excluded cs place back on wrong
statement_excluded properties anchor end last count cs place kinds.BeforeStrength back on ordered ended few cause = strength_excluded last cs back on ordered cause.0
statement_excluded properties anchor end last count cs place kinds.Limit back on ordered ended few cause = count_excluded properties anchor count cs back on few cause.0 cause.1
statement_excluded properties anchor end last count cs place kinds.Escape back on ordered ended few cause = cause
statement_excluded properties anchor end last count cs place kinds.EmptyText back on ordered ended few cause = cause
statement_excluded properties anchor end last count cs place kinds.DuplicateTarget back on ordered ended few cause = cause
statement_excluded properties anchor end last count cs place kinds.LateTarget back on ordered ended few cause = cause
statement_excluded properties anchor end last count cs place kinds.Memory back on ordered ended few cause = cause
statement_excluded properties anchor end last count cs place kinds.Utf8 back on ordered ended few cause = cause

late_excluded : (relations before after : List Relation) (r : Relation) → AreRules relations → relations ≡ before ++ r ∷ after → ¬ (IsLate before r)
late_excluded relations before after r rules are late =
    let whole : relations ≡ late.held.before ++ late.held.r ∷ (late.held.after ++ after) =
    are ∙ sym (append_assoc before (r ∷ []) after) ∙ ap (λ front. front ++ after) late.held.parts ∙ append_assoc late.held.before (late.held.r ∷ late.held.after) after in
    all_last (λ (r : Relation). ¬ (OccursInOrder r.target.points late.text)) before late.held.before late.held.after after r late.held.r late.held.parts
    (rules.none_late late.held.before (late.held.after ++ after) late.held.r late.text whole late.held.used late.held.free) late.occurs

one_excluded : (relations before after : List Relation) (r : Relation) (kind : RuleFaultKind) → AreRules relations → relations ≡ before ++ r ∷ after → ¬ (RelationCause before r kind)
one_excluded relations before after r kinds.DuplicateTarget rules are cause = rules.distinct before after r are cause
one_excluded relations before after r kinds.LateTarget rules are cause = late_excluded relations before after r rules are cause
one_excluded relations before after r kinds.Syntax rules are cause = cause
one_excluded relations before after r kinds.Escape rules are cause = cause
one_excluded relations before after r kinds.BeforeStrength rules are cause = cause
one_excluded relations before after r kinds.EmptyText rules are cause = cause
one_excluded relations before after r kinds.Limit rules are cause = cause
one_excluded relations before after r kinds.Memory rules are cause = cause
one_excluded relations before after r kinds.Utf8 rules are cause = cause

-- no relation at the front of rules has a cause
pub relation_excluded : (ts later : List Taken) (place : ℕ) (kind : RuleFaultKind) → AreRules (relations_of (ts ++ later)) → ¬ (InRelation ts place kind)
relation_excluded ts later place kind rules cause =
    let all : ts ++ later ≡ cause.before ++ cause.t ∷ (cause.after ++ later) = ap (λ ts. ts ++ later) cause.are ∙ append_assoc cause.before (cause.t ∷ cause.after) later in
    one_excluded (relations_of (ts ++ later)) (relations_of cause.before) (relations_of (cause.after ++ later)) cause.t.relation kind rules
    (ap relations_of all ∙ map-append (λ (t : Taken). t.relation) cause.before (cause.t ∷ (cause.after ++ later))) cause.cause

-- no starred relation at the front of statements has a target too many or one that is too long
pub starred_excluded : (properties : Properties) (statements back : List Statement) (place : ℕ) (kind : RuleFaultKind)
    → AllByRecursion HasShortTexts (statements ++ back) → length (taken properties statements) ≤ 5000 → ¬ (InStarred properties statements place kind)
starred_excluded properties statements back place kind short few cause = over cause.over
  where
    over : (length (taken properties cause.before) + length cause.front ≡ 5000) × (cause.front ≢ []) ⊎ (16 < length (nfd (cause.c.code ∷ []))) → ⊥
    over (inl full) =
        let targets = cause.front ++ cause.c ∷ cause.back in
        let all = ap (λ (statements : List Statement). length (taken properties statements)) cause.are ∙ ap length (taken_more properties cause.before (Starred cause.strength targets)) in
        let sum = length-append (taken properties cause.before) (starred_relations properties (anchor_after_all properties no_anchor cause.before) cause.strength targets) in
        let more = length-starred_relations properties (anchor_after_all properties no_anchor cause.before) cause.strength targets in
        let parts = length-append cause.front (cause.c ∷ cause.back) in
        let count : length (taken properties cause.before) + length cause.front ≡ 5000 = full.0 in
        omega arith
    over (inr long) =
        let targets = cause.front ++ cause.c ∷ cause.back in
        let texts : AllByRecursion HasShortTexts (cause.before ++ Starred cause.strength targets ∷ back) =
        subst (AllByRecursion HasShortTexts) (ap (λ statements. statements ++ back) cause.are ∙ append_assoc cause.before (Starred cause.strength targets ∷ []) back) short in
        let here : AllByRecursion (λ (c : Character). IsShort (c.code ∷ [])) targets = (all_back HasShortTexts cause.before (Starred cause.strength targets ∷ back) texts).0 in
        let one : length (nfd (cause.c.code ∷ [])) ≤ 16 = (all_back (λ (c : Character). IsShort (c.code ∷ [])) cause.front (cause.c ∷ cause.back) here).0 in
        omega arith

-- ---- All causes

inside_excluded : (properties : Properties) (bytes : List ℕ) (place : ℕ) (kind : RuleFaultKind) (relations : List Relation) → HasCause properties (length bytes) (characters bytes) place kind → ¬ (Means properties bytes relations)
inside_excluded properties bytes place kind relations inside means = excluded inside.cause
  where
    front : IsFront inside.statements means.statements inside.rest
    front = front_of inside.statements means.statements (characters bytes) inside.rest inside.lead means.divides

    anchor : Anchor
    anchor = anchor_after_all properties no_anchor inside.statements

    all : taken properties means.statements ≡ taken properties inside.statements ++ relations_from properties anchor front.back
    all = ap (taken properties) front.parts ∙ relations_append properties no_anchor inside.statements front.back

    rules : AreRules (relations_of (taken properties inside.statements ++ relations_from properties anchor front.back))
    rules = subst AreRules (means.give ∙ ap relations_of all) means.rules

    few : length (taken properties inside.statements) + length (relations_from properties anchor front.back) ≤ 5000
    few =
        let count : length (relations_of (taken properties inside.statements ++ relations_from properties anchor front.back)) ≤ 5000 = rules.few in
        let same = length-map (taken properties inside.statements ++ relations_from properties anchor front.back) (λ (t : Taken). t.relation) in
        let sum = length-append (taken properties inside.statements) (relations_from properties anchor front.back) in
        omega arith

    short : AllByRecursion HasShortTexts (inside.statements ++ front.back)
    short = subst (AllByRecursion HasShortTexts) front.parts means.short

    ordered : AreInOrder (last_of lasts.Nothing inside.statements) front.back
    ordered = ordered_back lasts.Nothing inside.statements front.back (subst (AreInOrder lasts.Nothing) front.parts means.chains.ordered)

    ended : MayEnd (last_of (last_of lasts.Nothing inside.statements) front.back)
    ended = ended_back lasts.Nothing inside.statements front.back (subst (λ statements. MayEnd (last_of lasts.Nothing statements)) front.parts means.chains.ended)

    excluded : InText (length bytes) (last_of lasts.Nothing inside.statements) inside.rest place kind
        ⊎ StatementCause (length bytes) (last_of lasts.Nothing inside.statements) (length (taken properties inside.statements)) inside.rest place kind
        ⊎ InRelation (taken properties inside.statements) place kind
        ⊎ InStarred properties inside.statements place kind → ⊥
    excluded (inl text) =
        text_excluded (length bytes) text.starred text.text place kind
        (text_stands inside.rest text.text front.back text.opens text.starred front.on (all_back HasShortTexts inside.statements front.back short) text.due) text.cause
    excluded (inr (inl statement)) =
        statement_excluded properties anchor (length bytes) (last_of lasts.Nothing inside.statements) (length (taken properties inside.statements)) inside.rest place kind front.back front.on ordered ended few statement
    excluded (inr (inr (inl relation))) = relation_excluded (taken properties inside.statements) (relations_from properties anchor front.back) place kind rules relation
    excluded (inr (inr (inr starred))) = starred_excluded properties inside.statements front.back place kind short (let count = few in omega arith) starred

pub a_cause_excludes_a_meaning : ACauseExcludesAMeaning
a_cause_excludes_a_meaning properties bytes place kinds.Memory relations other cause means = other refl
a_cause_excludes_a_meaning properties bytes place kinds.Utf8 relations other cause means =
    let all : take (length bytes) bytes ≡ bytes = take-length bytes in
    cause.1.longest (length bytes) cause.1.short (subst IsUtf8 (sym all) means.utf8)
a_cause_excludes_a_meaning properties bytes place kinds.Limit relations other (inl long) means = let few = means.few_bytes in let many = long.0 in omega arith
a_cause_excludes_a_meaning properties bytes place kinds.Limit relations other (inr inside) means = inside_excluded properties bytes place kinds.Limit relations inside.has means
a_cause_excludes_a_meaning properties bytes place kinds.Syntax relations other cause means = inside_excluded properties bytes place kinds.Syntax relations cause.has means
a_cause_excludes_a_meaning properties bytes place kinds.Escape relations other cause means = inside_excluded properties bytes place kinds.Escape relations cause.has means
a_cause_excludes_a_meaning properties bytes place kinds.BeforeStrength relations other cause means = inside_excluded properties bytes place kinds.BeforeStrength relations cause.has means
a_cause_excludes_a_meaning properties bytes place kinds.EmptyText relations other cause means = inside_excluded properties bytes place kinds.EmptyText relations cause.has means
a_cause_excludes_a_meaning properties bytes place kinds.DuplicateTarget relations other cause means = inside_excluded properties bytes place kinds.DuplicateTarget relations cause.has means
a_cause_excludes_a_meaning properties bytes place kinds.LateTarget relations other cause means = inside_excluded properties bytes place kinds.LateTarget relations cause.has means

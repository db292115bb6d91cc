-- If a statement has the text that is due, no error is due at that position.
use Rattle.std.proofs.Common.{◌≡◌, ◌⊎◌, ℕ, ◌<◌, ◌≤◌, List, [], ◌∷◌, ◌++◌, length, Bool, true, false, ◌||◌, Option, None, Some, inl, inr, refl, sym, ap, ◌∙◌, subst, arith}
use Rattle.std.specs.Prelude.{if◌then◌else◌, ◌==◌, IfSome, IsTrue, IsFalse}
use Rattle.std.specs.List.{AllByRecursion}
use Rattle.std.proofs.lemmas.Bool.{cond_both, eqb-true, or_cases}
use Rattle.std.proofs.lemmas.Grind.{flat_map-append}
use Rattle.std.proofs.lemmas.List.{append_assoc}
use Rattle.std.proofs.lemmas.List.Concat.{flat_map-cons}
use Rattle.unicode_normalization.specs.Forms.{nfd}
use Rattle.uca_weights.specs.declared.Strength.{Strength}
use Rattle.uca_rules.specs.declared.characters.Character.{Character}
use Rattle.uca_rules.specs.declared.faults.RuleFaultKind.{RuleFaultKind}
use Rattle.uca_rules.specs.declared.faults.RuleFaultKind.TheVariants as kinds
use Rattle.uca_rules.specs.Characters.{ampersand, apostrophe, backslash, equals_sign, less_than, slash}
use Rattle.uca_rules.specs.Pieces.{Symbol, Literal, Hyphen, Piece, with_literal, inside_quotes, after_apostrophe, piece_at, begins_piece, ArePieces, EndsText, symbols_of, BeginsText, points_of, Written, BeginsWritten}
use Rattle.uca_rules.specs.Statements.{IsTargetDue, IsExpansionDue, IsNoRange, No_start, Hyphen_before, Range_before, Hyphen_after, Wrong_ends, HasRanges, Statement, Reset, Plain, Starred, BeginsPlain, BeginsExpansion, BeginsStatement, Opening, Resets, Signs}
use Rattle.uca_rules.specs.Meaning.{IsShort, HasShortTexts}
use Rattle.uca_rules.specs.Faults.{is_part, IsEmptyText, IsNoText, IsBroken, IsLong, opened, IsWrongHyphen, TextCause, IsSlashAfter, IsTextDue}
use Rattle.uca_rules.proofs.TextLaws.{StandAfter, pieces_prefix, no_pieces, one_text, one_written}
use Rattle.uca_rules.proofs.StatementLaws.{one_anchor, one_target, one_expansion, no_target_at_anchor, slash_at, GoOn}
use Rattle.uca_rules.proofs.Suffixes.{HasAfter, after_length, anchor_due_after, target_due_after}

-- ---- Where a text must come there is one

-- what is asked of the text
abbrev pub IsFit : Bool → List Symbol → Type 0
IsFit false symbols = IsShort (points_of symbols)
IsFit true symbols = HasRanges symbols

pub record TextStands (starred : Bool) (text : List Character) : Type 0 where
  pub symbols : List Symbol
  pub rest : List Character
  pub begins : BeginsText starred text symbols rest
  pub fit : IsFit starred symbols

written_stands : (text rest : List Character) (written : Written) → BeginsWritten text written rest → IsShort written.points → TextStands false text
written_stands text rest written begins short =
    let points : written.points ≡ points_of begins.symbols = ap (λ (written : Written). written.points) begins.is in
    record { symbols = begins.symbols; rest = rest; begins = begins.begins; fit = subst IsShort points short }

-- the expansion of a statement comes after the target and `/`
expansion_stands : (cs rest text : List Character) (expansion : Option Written) → BeginsExpansion cs expansion rest → IfSome expansion (λ text. IsShort text.points) → IsExpansionDue cs text → TextStands false text
expansion_stands cs rest text None begins short due = absurd (slash_at cs text due begins.0)
expansion_stands cs rest text (Some expansion) begins short due =
    subst (TextStands false) (one_expansion cs begins.0 text begins.1 due) (written_stands begins.0 rest expansion begins.2 short)

slashed_stands : (cs rest text : List Character) (strength strength' : Strength) (target : Written) (expansion : Option Written)
    → BeginsPlain cs strength target expansion rest → IfSome expansion (λ text. IsShort text.points) → IsSlashAfter cs strength' text → TextStands false text
slashed_stands cs rest text strength strength' target expansion begins short after =
    let due = one_target cs after.first begins.text strength' strength false false after.due begins.due in
    let more = one_written begins.text after.more begins.more after.target target (subst (λ text. BeginsWritten text after.target after.more) due.2 after.begins) begins.begins in
    expansion_stands begins.more rest text expansion begins.expands short (subst (λ more. IsExpansionDue more text) more.1 after.slashed)

-- a sign has a star or none
one_star : (cs text text' : List Character) (strength strength' : Strength) → IsTargetDue cs strength false text → ¬ (IsTargetDue cs strength' true text')
one_star cs text text' strength strength' due due' =
    let same = one_target cs text text' strength strength' false true due due' in
    let star : false ≡ true = same.1 in
    cc

statement_text_stands : (cs rest text : List Character) (s : Statement) (opens : Opening) (starred : Bool) → BeginsStatement cs s rest → HasShortTexts s → IsTextDue cs opens starred text → TextStands starred text
statement_text_stands cs rest text s Resets true begins short due = absurd due
statement_text_stands cs rest text (Reset before anchor) Resets false begins short due =
    subst (TextStands false) (one_anchor cs begins.text text before due.0 begins.due due.1).1 (written_stands begins.text rest anchor begins.begins short)
statement_text_stands cs rest text (Plain strength target expansion) Resets false begins short due = absurd (no_target_at_anchor cs text begins.text due.0 strength false due.1 begins.due)
statement_text_stands cs rest text (Starred strength targets) Resets false begins short due = absurd (no_target_at_anchor cs text begins.text due.0 strength true due.1 begins.due)
statement_text_stands cs rest text (Reset before anchor) (Signs strength) true begins short due = absurd (no_target_at_anchor cs begins.text text before strength true begins.due due)
statement_text_stands cs rest text (Plain strength' target expansion) (Signs strength) true begins short due = absurd (one_star cs begins.text text strength' strength begins.due due)
statement_text_stands cs rest text (Starred strength' targets) (Signs strength) true begins short due =
    subst (TextStands true) (one_target cs begins.text text strength' strength true true begins.due due).2 (record { symbols = begins.symbols; rest = rest; begins = begins.begins; fit = begins.ranges })
statement_text_stands cs rest text (Reset before anchor) (Signs strength) false begins short (inl due) = absurd (no_target_at_anchor cs begins.text text before strength false begins.due due)
statement_text_stands cs rest text (Reset before anchor) (Signs strength) false begins short (inr after) = absurd (no_target_at_anchor cs begins.text after.first before strength false begins.due after.due)
statement_text_stands cs rest text (Plain strength' target expansion) (Signs strength) false begins short (inl due) =
    subst (TextStands false) (one_target cs begins.text text strength' strength false false begins.due due).2 (written_stands begins.text begins.more target begins.begins short.0)
statement_text_stands cs rest text (Plain strength' target expansion) (Signs strength) false begins short (inr after) = slashed_stands cs rest text strength' strength target expansion begins short.1 after
statement_text_stands cs rest text (Starred strength' targets) (Signs strength) false begins short (inl due) = absurd (one_star cs text begins.text strength strength' due begins.due)
statement_text_stands cs rest text (Starred strength' targets) (Signs strength) false begins short (inr after) = absurd (one_star cs after.first begins.text strength strength' after.due begins.due)

-- at the end there is no text
nothing_after : (text : List Character) → ¬ (HasAfter [] text)
nothing_after text after = let less = after_length [] text after in omega arith

no_text_due : (text : List Character) (opens : Opening) (starred : Bool) → ¬ (IsTextDue [] opens starred text)
no_text_due text Resets true due = due
no_text_due text Resets false due = nothing_after text (anchor_due_after [] due.0 text due.1)
no_text_due text (Signs strength) true due = nothing_after text (target_due_after [] strength true text due)
no_text_due text (Signs strength) false (inl due) = nothing_after text (target_due_after [] strength false text due)
no_text_due text (Signs strength) false (inr after) = nothing_after after.first (target_due_after [] strength false after.first after.due)

-- where a text must come in the statement that is there, there is a text
pub text_stands : (cs text : List Character) (statements : List Statement) (opens : Opening) (starred : Bool) → GoOn cs statements → AllByRecursion HasShortTexts statements → IsTextDue cs opens starred text → TextStands starred text
text_stands cs text [] opens starred on short due = absurd (no_text_due text opens starred (subst (λ cs. IsTextDue cs opens starred text) on due))
text_stands cs text (s ∷ statements) opens starred on short due = statement_text_stands cs on.0 text s opens starred on.1 short.0 due

-- ---- It has none of the causes

not_at_end : (starred : Bool) (text : List Character) (symbols : List Symbol) (rest : List Character) → BeginsText starred text symbols rest → ¬ (EndsText starred text)
not_at_end starred text symbols rest begins ends = begins.some (no_pieces starred text rest begins.pieces ends begins.are).0

-- no piece begins with `&`, `<`, `=` or `/`
part_ends : (starred : Bool) (code : ℕ) → IsTrue (is_part code) → IsFalse (begins_piece starred code)
part_ends starred code part = three (or_cases (code == ampersand || code == less_than || code == equals_sign) (code == slash) part)
  where
    one : (starred : Bool) → IsFalse (begins_piece starred ampersand)
    one false = refl
    one true = refl

    less : (starred : Bool) → IsFalse (begins_piece starred less_than)
    less false = refl
    less true = refl

    equal : (starred : Bool) → IsFalse (begins_piece starred equals_sign)
    equal false = refl
    equal true = refl

    slashed : (starred : Bool) → IsFalse (begins_piece starred slash)
    slashed false = refl
    slashed true = refl

    at : (sign : ℕ) → (code == sign) ≡ true → IsFalse (begins_piece starred sign) → IsFalse (begins_piece starred code)
    at sign is ends = subst (λ code. IsFalse (begins_piece starred code)) (sym (eqb-true code sign is)) ends

    first : (code == ampersand) ≡ true ⊎ (code == less_than) ≡ true → IsFalse (begins_piece starred code)
    first (inl is) = at ampersand is (one starred)
    first (inr is) = at less_than is (less starred)

    two : (code == ampersand || code == less_than) ≡ true ⊎ (code == equals_sign) ≡ true → IsFalse (begins_piece starred code)
    two (inl part) = first (or_cases (code == ampersand) (code == less_than) part)
    two (inr is) = at equals_sign is (equal starred)

    three : (code == ampersand || code == less_than || code == equals_sign) ≡ true ⊎ (code == slash) ≡ true → IsFalse (begins_piece starred code)
    three (inl part) = two (or_cases (code == ampersand || code == less_than) (code == equals_sign) part)
    three (inr is) = at slash is (slashed starred)

empty_ends : (starred : Bool) (text : List Character) → IsEmptyText text → EndsText starred text
empty_ends starred [] empty = tt
empty_ends starred (c ∷ text) empty = part_ends starred c.code empty

no_text_ends : (starred : Bool) (text : List Character) → IsNoText starred text → EndsText starred text
no_text_ends starred [] none = absurd none
no_text_ends starred (c ∷ text) none = none.1

-- a piece that begins after others of the text is one
broken_after : (starred : Bool) (code : ℕ) (first : Character) (after rest : List Character) (pieces : List (List Symbol))
    → IsTrue (begins_piece starred code) → first.code ≡ code → EndsText starred rest → piece_at starred (first ∷ after) ≡ None → ¬ (ArePieces starred (first ∷ after) pieces rest)
broken_after starred code first after rest [] begin is ends none are =
    let end : EndsText starred (first ∷ after) = subst (EndsText starred) (sym are) ends in
    let no : begins_piece starred code ≡ false = subst (λ code. IsFalse (begins_piece starred code)) is end in
    let yes : begins_piece starred code ≡ true = begin in
    let both : true ≡ false = sym yes ∙ no in
    cc
broken_after starred code first after rest (symbols ∷ pieces) begin is ends none are = let some = are.1 in cc

broken_excluded : (starred : Bool) (text : List Character) (code place : ℕ) (symbols : List Symbol) (rest : List Character)
    → IsTrue (begins_piece starred code) → BeginsText starred text symbols rest → ¬ (IsBroken starred text code place)
broken_excluded starred text code place symbols rest begin begins broken =
    let after = pieces_prefix starred broken.pieces begins.pieces text (broken.first ∷ broken.after) rest broken.are begins.are begins.ends in
    broken_after starred code broken.first broken.after rest after.back begin broken.begins begins.ends broken.none after.are

long_excluded : (text : List Character) (symbols : List Symbol) (rest : List Character) → BeginsText false text symbols rest → IsShort (points_of symbols) → ¬ (IsLong text)
long_excluded text symbols rest begins short long =
    let same = one_text false text rest long.rest symbols long.symbols begins long.begins in
    let few : length (nfd (points_of long.symbols)) ≤ 16 = subst (λ symbols. IsShort (points_of symbols)) same.0 short in
    let many : 16 < length (nfd (points_of long.symbols)) = long.long in
    omega arith

-- ---- Hyphens

-- wrong symbols around a hyphen stay wrong with any text after them
no_range_more : (front back more : List Symbol) → IsNoRange front back → IsNoRange front (back ++ more)
no_range_more front back more (No_start none) = No_start none
no_range_more front back more (Hyphen_before before place is) = Hyphen_before before place is
no_range_more front back more (Range_before before place x is) = Range_before before place x is
no_range_more front back more (Hyphen_after place later is) = Hyphen_after place (later ++ more) (ap (λ back. back ++ more) is)
no_range_more front back more (Wrong_ends before later x y is other wrong) = Wrong_ends before (later ++ more) x y is (ap (λ back. back ++ more) other) wrong

-- the inside of quotes begins with its first character
with_first : (d : Character) (piece : Option Piece) → IfSome (with_literal d piece) (λ piece. (more : List Symbol) × (piece.symbols ≡ Literal d ∷ more))
with_first d None = tt
with_first d (Some piece) = (piece.symbols, refl)

pub inside_first : (d : Character) (cs : List Character) → IsFalse (d.code == apostrophe) → IfSome (inside_quotes (d ∷ cs)) (λ piece. (more : List Symbol) × (piece.symbols ≡ Literal d ∷ more))
inside_first d [] other = rw other tt
inside_first d (e ∷ cs) other = rw other (with_first d (inside_quotes (e ∷ cs)))

piece_opened : (c d : Character) (cs : List Character) → IsTrue (c.code == apostrophe) → IsFalse (d.code == apostrophe) → IfSome (piece_at true (c ∷ d ∷ cs)) (λ piece. (more : List Symbol) × (piece.symbols ≡ Literal d ∷ more))
piece_opened c d cs quote other =
    let inside : IfSome (after_apostrophe c (d ∷ cs)) (λ piece. (more : List Symbol) × (piece.symbols ≡ Literal d ∷ more)) = rw other (inside_first d cs other) in
    rw quote inside

-- the first character of an open quote is the next symbol
quote_front : (c d : Character) (cs rest : List Character) (pieces : List (List Symbol)) → IsTrue (c.code == apostrophe) → IsFalse (d.code == apostrophe)
    → ArePieces true (c ∷ d ∷ cs) pieces rest → EndsText true rest → (more : List Symbol) × (symbols_of pieces ≡ Literal d ∷ more)
quote_front c d cs rest [] quote other are ends =
    let end : IsFalse (begins_piece true c.code) = subst (EndsText true) (sym are) ends in
    let begin : IsTrue (begins_piece true c.code) = rw quote refl in
    let both : true ≡ false = sym begin ∙ end in
    absurd cc
quote_front c d cs rest (symbols ∷ pieces) quote other are ends =
    let first = subst (λ piece. IfSome piece (λ piece. (more : List Symbol) × (piece.symbols ≡ Literal d ∷ more))) are.1 (piece_opened c d cs quote other) in
    (first.0 ++ symbols_of pieces, flat_map-cons (λ (symbols : List Symbol). symbols) symbols pieces ∙ ap (λ symbols. symbols ++ symbols_of pieces) first.1)

opened_front : (cs rest : List Character) (pieces : List (List Symbol)) → ArePieces true cs pieces rest → EndsText true rest → (more : List Symbol) × (symbols_of pieces ≡ opened cs ++ more)
opened_front [] rest pieces are ends = (symbols_of pieces, refl)
opened_front (c ∷ []) rest pieces are ends = (symbols_of pieces, refl)
opened_front (c ∷ d ∷ cs) rest pieces are ends =
    cond_both (c.code == apostrophe) (if d.code == apostrophe then [] else Literal d ∷ []) [] (λ opened. (more : List Symbol) × (symbols_of pieces ≡ opened ++ more))
    (λ quote. cond_both (d.code == apostrophe) [] (Literal d ∷ []) (λ opened. (more : List Symbol) × (symbols_of pieces ≡ opened ++ more))
    (λ another. (symbols_of pieces, refl)) (λ other. quote_front c d cs rest pieces quote other are ends))
    (λ none. (symbols_of pieces, refl))

-- none is open where a text ends
opened_none : (cs : List Character) → EndsText true cs → opened cs ≡ []
opened_none [] ends = refl
opened_none (c ∷ []) ends = refl
opened_none (c ∷ d ∷ cs) ends =
    cond_both (c.code == apostrophe) (if d.code == apostrophe then [] else Literal d ∷ []) [] (λ opened. opened ≡ [])
    (λ quote. let begin : IsTrue (begins_piece true c.code) = rw quote refl in let both : true ≡ false = sym begin ∙ ends in absurd cc) (λ none. refl)

hyphen_excluded : (text : List Character) (place : ℕ) (symbols : List Symbol) (rest : List Character) → BeginsText true text symbols rest → HasRanges symbols → ¬ (IsWrongHyphen text place)
hyphen_excluded text place symbols rest begins ranges hyphen = wrong_excluded hyphen.wrong
  where
    after : StandAfter true hyphen.pieces begins.pieces hyphen.rest rest
    after = pieces_prefix true hyphen.pieces begins.pieces text hyphen.rest rest hyphen.are begins.are begins.ends

    all : symbols ≡ symbols_of hyphen.pieces ++ symbols_of after.back
    all = begins.give ∙ ap symbols_of after.parts ∙ flat_map-append (λ (symbols : List Symbol). symbols) hyphen.pieces after.back

    wrong_excluded : IsNoRange hyphen.front hyphen.back ⊎ (EndsText true hyphen.rest × (hyphen.back ≡ [])) → ⊥
    wrong_excluded (inl wrong) =
        let next = opened_front hyphen.rest rest after.back after.are begins.ends in
        let whole : symbols ≡ hyphen.front ++ Hyphen place ∷ (hyphen.back ++ next.0) =
        all
        ∙ ap (λ later. symbols_of hyphen.pieces ++ later) next.1
        ∙ sym (append_assoc (symbols_of hyphen.pieces) (opened hyphen.rest) next.0)
        ∙ ap (λ symbols. symbols ++ next.0) hyphen.symbols
        ∙ append_assoc hyphen.front (Hyphen place ∷ hyphen.back) next.0 in
        (ranges hyphen.front (hyphen.back ++ next.0) place whole).1 (no_range_more hyphen.front hyphen.back next.0 wrong)
    wrong_excluded (inr last) =
        let none = no_pieces true hyphen.rest rest after.back last.0 after.are in
        let whole : symbols ≡ hyphen.front ++ Hyphen place ∷ hyphen.back =
        all
        ∙ ap (λ back. symbols_of hyphen.pieces ++ symbols_of back) none.0
        ∙ ap (λ opened. symbols_of hyphen.pieces ++ opened) (sym (opened_none hyphen.rest last.0))
        ∙ hyphen.symbols in
        (ranges hyphen.front hyphen.back place whole).0 last.1

-- ---- All causes of texts

-- a text that is there has no cause
pub text_excluded : (end : ℕ) (starred : Bool) (text : List Character) (place : ℕ) (kind : RuleFaultKind) → TextStands starred text → ¬ (TextCause end starred text place kind)
text_excluded end starred text place kinds.EmptyText stands cause = not_at_end starred text stands.symbols stands.rest stands.begins (empty_ends starred text cause.0)
text_excluded end false text place kinds.Escape stands cause = broken_excluded false text backslash place stands.symbols stands.rest refl stands.begins cause
text_excluded end true text place kinds.Escape stands cause = broken_excluded true text backslash place stands.symbols stands.rest refl stands.begins cause
text_excluded end false text place kinds.Syntax stands (inl cause) = not_at_end false text stands.symbols stands.rest stands.begins (no_text_ends false text cause.0)
text_excluded end false text place kinds.Syntax stands (inr cause) = broken_excluded false text apostrophe place stands.symbols stands.rest refl stands.begins cause
text_excluded end true text place kinds.Syntax stands (inl cause) = not_at_end true text stands.symbols stands.rest stands.begins (no_text_ends true text cause.0)
text_excluded end true text place kinds.Syntax stands (inr (inl cause)) = broken_excluded true text apostrophe place stands.symbols stands.rest refl stands.begins cause
text_excluded end true text place kinds.Syntax stands (inr (inr cause)) = hyphen_excluded text place stands.symbols stands.rest stands.begins stands.fit cause
text_excluded end false text place kinds.Limit stands cause = long_excluded text stands.symbols stands.rest stands.begins stands.fit cause.0
text_excluded end true text place kinds.Limit stands cause = cause
text_excluded end starred text place kinds.BeforeStrength stands cause = cause
text_excluded end starred text place kinds.DuplicateTarget stands cause = cause
text_excluded end starred text place kinds.LateTarget stands cause = cause
text_excluded end starred text place kinds.Memory stands cause = cause
text_excluded end starred text place kinds.Utf8 stands cause = cause

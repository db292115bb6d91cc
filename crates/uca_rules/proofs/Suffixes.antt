-- What follows a part of the rules is an end of their characters.
use Rattle.std.proofs.Common.{◌≡◌, ◌≢◌, ℕ, suc, ◌+◌, ◌<◌, ◌≤◌, List, [], ◌∷◌, ◌++◌, length, take, drop, Bool, true, false, not, ◌&&◌, Option, None, Some, refl, sym, ap, ◌∙◌, subst, arith}
use Rattle.std.proofs.Common.{option_map}
use Rattle.std.specs.Prelude.{if◌then◌else◌, ◌==◌, IfSome, IsUtf8, chars}
use Rattle.std.specs.Char.{len_utf8}
use Rattle.std.specs.Str.{byte}
use Rattle.std.proofs.Math.Utf8.{encode, encodes}
use Rattle.std.proofs.lemmas.List.{append_assoc, take-append-drop, length-append}
use Rattle.std.proofs.lemmas.Str.{encodes-chars, length-encode}
use Rattle.uca_weights.specs.declared.Strength.{Strength}
use Rattle.uca_weights.specs.declared.Strength.TheVariants.{Identical}
use Rattle.uca_rules.specs.declared.characters.Character.{Character}
use Rattle.uca_rules.specs.Characters.{placed_from, characters, place_of, is_white, ends_comment, after_gaps_in, after_gaps, number_sign, apostrophe, backslash, hyphen, asterisk, less_than, equals_sign}
use Rattle.uca_rules.specs.Pieces.{Symbol, Literal, Hyphen, Piece, is_plain, with_literal, inside_quotes, after_apostrophe, number_at, numbered, after_backslash, piece_at, ArePieces, BeginsText, Written, BeginsWritten}
use Rattle.uca_rules.specs.Statements.{SignAt, perhaps_starred, count_less, after_less, strength_of, sign_at, BeginsBracket, IsAnchorDue, IsTargetDue, IsExpansionDue, Statement, Reset, Plain, Starred, BeginsExpansion, BeginsStatement, AreStatements}

-- ---- Ends of characters

-- the characters end with the rest
abbrev pub EndsWith : List Character → List Character → Type 0
EndsWith cs rest = (front : List Character) × (cs ≡ front ++ rest)

-- and one or more come before it
abbrev pub HasAfter : List Character → List Character → Type 0
HasAfter cs rest = (c : Character) × (front : List Character) × (cs ≡ c ∷ (front ++ rest))

pub all_ends : (cs : List Character) → EndsWith cs cs
all_ends cs = ([], refl)

pub same_ends : (cs rest : List Character) → cs ≡ rest → EndsWith cs rest
same_ends cs rest same = ([], same)

pub ends_trans : (cs more rest : List Character) → EndsWith cs more → EndsWith more rest → EndsWith cs rest
ends_trans cs more rest one other = (one.0 ++ other.0, one.1 ∙ ap (λ more. one.0 ++ more) other.1 ∙ sym (append_assoc one.0 other.0 rest))

pub next_ends : (c : Character) (cs rest : List Character) → EndsWith cs rest → EndsWith (c ∷ cs) rest
next_ends c cs rest ends = (c ∷ ends.0, ap (λ cs. c ∷ cs) ends.1)

pub next_after : (c : Character) (cs rest : List Character) → EndsWith cs rest → HasAfter (c ∷ cs) rest
next_after c cs rest ends = (c, ends.0, ap (λ cs. c ∷ cs) ends.1)

pub after_ends : (cs rest : List Character) → HasAfter cs rest → EndsWith cs rest
after_ends cs rest after = (after.0 ∷ after.1, after.2)

pub after_then : (cs more rest : List Character) → HasAfter cs more → EndsWith more rest → HasAfter cs rest
after_then cs more rest one other =
    (one.0, one.1 ++ other.0, one.2 ∙ ap (λ more. one.0 ∷ (one.1 ++ more)) other.1 ∙ ap (λ cs. one.0 ∷ cs) (sym (append_assoc one.1 other.0 rest)))

pub then_after : (cs more rest : List Character) → EndsWith cs more → HasAfter more rest → HasAfter cs rest
then_after cs more rest ([], same) other = (other.0, other.1, same ∙ other.2)
then_after cs more rest (c ∷ front, same) other =
    (c, front ++ (other.0 ∷ other.1), same ∙ ap (λ more. c ∷ (front ++ more)) other.2 ∙ ap (λ cs. c ∷ cs) (sym (append_assoc front (other.0 ∷ other.1) rest)))

-- an end is no longer than the whole, and shorter if something comes before it
pub ends_length : (cs rest : List Character) → EndsWith cs rest → length rest ≤ length cs
ends_length cs rest ends = let all = ap length ends.1 ∙ length-append ends.0 rest in omega arith

pub after_length : (cs rest : List Character) → HasAfter cs rest → length rest < length cs
after_length cs rest after = let all = ap length after.2 in let more = length-append after.1 rest in omega arith

-- ---- White space and comments

-- what follows them, where the front is one or inside a comment
gap_at : (c : Character) (cs : List Character) (white comments : Bool) → EndsWith cs (after_gaps_in false cs) → EndsWith cs (after_gaps_in true cs)
    → EndsWith (c ∷ cs) (if white then after_gaps_in false cs else if comments then after_gaps_in true cs else c ∷ cs)
gap_at c cs true comments outside within = next_ends c cs (after_gaps_in false cs) outside
gap_at c cs false true outside within = next_ends c cs (after_gaps_in true cs) within
gap_at c cs false false outside within = all_ends (c ∷ cs)

pub gaps_in_end : (inside : Bool) (cs : List Character) → EndsWith cs (after_gaps_in inside cs)
gaps_in_end inside [] = all_ends []
gaps_in_end true (c ∷ cs) = next_ends c cs (after_gaps_in (not (ends_comment c.code)) cs) (gaps_in_end (not (ends_comment c.code)) cs)
gaps_in_end false (c ∷ cs) = gap_at c cs (is_white c.code) (c.code == number_sign) (gaps_in_end false cs) (gaps_in_end true cs)

pub gaps_end : (cs : List Character) → EndsWith cs (after_gaps cs)
gaps_end cs = gaps_in_end false cs

-- ---- Signs and brackets

star_at : (strength : Strength) (c : Character) (cs : List Character) (star : Bool)
    → EndsWith (c ∷ cs) (SignAt.rest (if star then record { strength = strength; starred = true; rest = cs } else record { strength = strength; starred = false; rest = c ∷ cs }))
star_at strength c cs true = next_ends c cs cs (all_ends cs)
star_at strength c cs false = all_ends (c ∷ cs)

star_end : (strength : Strength) (cs : List Character) → EndsWith cs (SignAt.rest (perhaps_starred strength cs))
star_end strength [] = all_ends []
star_end strength (c ∷ cs) = star_at strength c cs (c.code == asterisk)

less_at : (c : Character) (cs : List Character) (less : Bool) → EndsWith cs (after_less cs) → EndsWith (c ∷ cs) (if less then after_less cs else c ∷ cs)
less_at c cs true ends = next_ends c cs (after_less cs) ends
less_at c cs false ends = all_ends (c ∷ cs)

less_end : (cs : List Character) → EndsWith cs (after_less cs)
less_end [] = all_ends []
less_end (c ∷ cs) = less_at c cs (c.code == less_than) (less_end cs)

some_strength : (cs more : List Character) (strength : Option Strength) → HasAfter cs more
    → IfSome (option_map (λ strength. perhaps_starred strength more) strength) (λ sign. HasAfter cs sign.rest)
some_strength cs more None after = tt
some_strength cs more (Some strength) after = after_then cs more (SignAt.rest (perhaps_starred strength more)) after (star_end strength more)

sign_less : (c : Character) (cs : List Character) (less : Bool)
    → IfSome (option_map (λ strength. perhaps_starred strength (if less then after_less cs else c ∷ cs)) (strength_of (if less then suc (count_less cs) else 0))) (λ sign. HasAfter (c ∷ cs) sign.rest)
sign_less c cs true = some_strength (c ∷ cs) (after_less cs) (strength_of (suc (count_less cs))) (next_after c cs (after_less cs) (less_end cs))
sign_less c cs false = tt

sign_equals : (c : Character) (cs : List Character) (equals : Bool)
    → IfSome (if equals then Some (perhaps_starred Identical cs) else option_map (λ strength. perhaps_starred strength (after_less (c ∷ cs))) (strength_of (count_less (c ∷ cs)))) (λ sign. HasAfter (c ∷ cs) sign.rest)
sign_equals c cs true = next_after c cs (SignAt.rest (perhaps_starred Identical cs)) (star_end Identical cs)
sign_equals c cs false = sign_less c cs (c.code == less_than)

signs_after : (cs : List Character) → IfSome (sign_at cs) (λ sign. HasAfter cs sign.rest)
signs_after [] = tt
signs_after (c ∷ cs) = sign_equals c cs (c.code == equals_sign)

pub sign_after : (cs : List Character) (sign : SignAt) → sign_at cs ≡ Some sign → HasAfter cs sign.rest
sign_after cs sign is = subst (λ sign. IfSome sign (λ sign. HasAfter cs sign.rest)) is (signs_after cs)

pub drop_ends : (n : ℕ) (cs : List Character) → EndsWith cs (drop n cs)
drop_ends n cs = (take n cs, sym (take-append-drop n cs))

pub bracket_ends : (cs : List Character) (before : Option Strength) (rest : List Character) → BeginsBracket cs before rest → EndsWith cs rest
bracket_ends cs None rest begins = same_ends cs rest begins.1
bracket_ends cs (Some strength) rest begins =
    ends_trans cs (drop 10 cs) rest (drop_ends 10 cs) (subst (λ rest. EndsWith (drop 10 cs) rest) begins.1 (gaps_end (drop 10 cs)))

-- ---- Pieces

literal_ends : (cs : List Character) (c : Character) (piece : Option Piece) → IfSome piece (λ piece. EndsWith cs piece.rest) → IfSome (with_literal c piece) (λ piece. EndsWith cs piece.rest)
literal_ends cs c None ends = tt
literal_ends cs c (Some piece) ends = ends

longer_ends : (c : Character) (cs : List Character) (piece : Option Piece) → IfSome piece (λ piece. EndsWith cs piece.rest) → IfSome piece (λ piece. EndsWith (c ∷ cs) piece.rest)
longer_ends c cs None ends = tt
longer_ends c cs (Some piece) ends = next_ends c cs piece.rest ends

last_quote : (c : Character) (quote : Bool) → IfSome (if quote then Some (record { symbols = []; rest = [] }) else None) (λ piece. EndsWith (c ∷ []) (Piece.rest piece))
last_quote c true = next_ends c [] [] (all_ends [])
last_quote c false = tt

quote_at : (c d : Character) (cs : List Character) (quote another : Bool)
    → IfSome (inside_quotes cs) (λ piece. EndsWith cs piece.rest) → IfSome (inside_quotes (d ∷ cs)) (λ piece. EndsWith (d ∷ cs) piece.rest)
    → IfSome (if quote then (if another then with_literal c (inside_quotes cs) else Some (record { symbols = []; rest = d ∷ cs })) else with_literal c (inside_quotes (d ∷ cs))) (λ piece. EndsWith (c ∷ d ∷ cs) piece.rest)
quote_at c d cs true true two one =
    literal_ends (c ∷ d ∷ cs) c (inside_quotes cs) (longer_ends c (d ∷ cs) (inside_quotes cs) (longer_ends d cs (inside_quotes cs) two))
quote_at c d cs true false two one = next_ends c (d ∷ cs) (d ∷ cs) (all_ends (d ∷ cs))
quote_at c d cs false another two one = literal_ends (c ∷ d ∷ cs) c (inside_quotes (d ∷ cs)) (longer_ends c (d ∷ cs) (inside_quotes (d ∷ cs)) one)

pub quotes_end : (cs : List Character) → IfSome (inside_quotes cs) (λ piece. EndsWith cs piece.rest)
quotes_end [] = tt
quotes_end (c ∷ []) = last_quote c (c.code == apostrophe)
quotes_end (c ∷ d ∷ cs) = quote_at c d cs (c.code == apostrophe) (d.code == apostrophe) (quotes_end cs) (quotes_end (d ∷ cs))

double_at : (c d : Character) (cs : List Character) (double : Bool)
    → IfSome (if double then Some (record { symbols = Literal c ∷ []; rest = cs }) else inside_quotes (d ∷ cs)) (λ piece. EndsWith (d ∷ cs) piece.rest)
double_at c d cs true = next_ends d cs cs (all_ends cs)
double_at c d cs false = quotes_end (d ∷ cs)

apostrophe_ends : (c : Character) (cs : List Character) → IfSome (after_apostrophe c cs) (λ piece. EndsWith cs piece.rest)
apostrophe_ends c [] = tt
apostrophe_ends c (d ∷ cs) = double_at c d cs (d.code == apostrophe)

code_ends : (c : Character) (n : ℕ) (cs : List Character) (code : Option ℕ)
    → IfSome (option_map (λ code. record { symbols = Literal (record { code = code; place = c.place }) ∷ []; rest = drop n cs }) code) (λ piece. EndsWith cs (Piece.rest piece))
code_ends c n cs None = tt
code_ends c n cs (Some code) = drop_ends n cs

numbered_ends : (c : Character) (n : ℕ) (cs : List Character) → IfSome (numbered c n cs) (λ piece. EndsWith cs piece.rest)
numbered_ends c n cs = code_ends c n cs (number_at n cs)

escape_at : (c d : Character) (cs : List Character) (four eight : Bool)
    → IfSome (if four then numbered c 4 cs else if eight then numbered c 8 cs else Some (record { symbols = Literal (record { code = d.code; place = c.place }) ∷ []; rest = cs })) (λ piece. EndsWith (d ∷ cs) piece.rest)
escape_at c d cs true eight = longer_ends d cs (numbered c 4 cs) (numbered_ends c 4 cs)
escape_at c d cs false true = longer_ends d cs (numbered c 8 cs) (numbered_ends c 8 cs)
escape_at c d cs false false = next_ends d cs cs (all_ends cs)

backslash_ends : (c : Character) (cs : List Character) → IfSome (after_backslash c cs) (λ piece. EndsWith cs piece.rest)
backslash_ends c [] = tt
backslash_ends c (d ∷ cs) = escape_at c d cs (d.code == byte "u") (d.code == byte "U")

further : (c : Character) (cs : List Character) (piece : Option Piece) → IfSome piece (λ piece. EndsWith cs piece.rest) → IfSome piece (λ piece. HasAfter (c ∷ cs) piece.rest)
further c cs None ends = tt
further c cs (Some piece) ends = next_after c cs piece.rest ends

kind_at : (c : Character) (cs : List Character) (quote escape plain range : Bool)
    → IfSome (if quote then after_apostrophe c cs else if escape then after_backslash c cs else if plain then Some (record { symbols = Literal c ∷ []; rest = cs }) else if range then Some (record { symbols = Hyphen c.place ∷ []; rest = cs }) else None) (λ piece. HasAfter (c ∷ cs) piece.rest)
kind_at c cs true escape plain range = further c cs (after_apostrophe c cs) (apostrophe_ends c cs)
kind_at c cs false true plain range = further c cs (after_backslash c cs) (backslash_ends c cs)
kind_at c cs false false true range = next_after c cs cs (all_ends cs)
kind_at c cs false false false true = next_after c cs cs (all_ends cs)
kind_at c cs false false false false = tt

pieces_after : (starred : Bool) (cs : List Character) → IfSome (piece_at starred cs) (λ piece. HasAfter cs piece.rest)
pieces_after starred [] = tt
pieces_after starred (c ∷ cs) = kind_at c cs (c.code == apostrophe) (c.code == backslash) (is_plain c.code) (starred && c.code == hyphen)

pub piece_after : (starred : Bool) (cs : List Character) (piece : Piece) → piece_at starred cs ≡ Some piece → HasAfter cs piece.rest
piece_after starred cs piece is = subst (λ piece. IfSome piece (λ piece. HasAfter cs piece.rest)) is (pieces_after starred cs)

-- ---- Texts

pub pieces_end : (starred : Bool) (cs : List Character) (pieces : List (List Symbol)) (rest : List Character) → ArePieces starred cs pieces rest → EndsWith cs rest
pieces_end starred cs [] rest are = same_ends cs rest are
pieces_end starred cs (symbols ∷ pieces) rest are =
    ends_trans cs are.0 rest (after_ends cs are.0 (piece_after starred cs (record { symbols = symbols; rest = are.0 }) are.1)) (pieces_end starred are.0 pieces rest are.2)

some_pieces : (starred : Bool) (cs : List Character) (pieces : List (List Symbol)) (rest : List Character) → pieces ≢ [] → ArePieces starred cs pieces rest → HasAfter cs rest
some_pieces starred cs [] rest some are = absurd (some refl)
some_pieces starred cs (symbols ∷ pieces) rest some are =
    after_then cs are.0 rest (piece_after starred cs (record { symbols = symbols; rest = are.0 }) are.1) (pieces_end starred are.0 pieces rest are.2)

pub text_after : (starred : Bool) (cs : List Character) (symbols : List Symbol) (rest : List Character) → BeginsText starred cs symbols rest → HasAfter cs rest
text_after starred cs symbols rest begins = some_pieces starred cs begins.pieces rest begins.some begins.are

pub written_after : (cs : List Character) (text : Written) (rest : List Character) → BeginsWritten cs text rest → HasAfter cs rest
written_after cs text rest begins = text_after false cs begins.symbols rest begins.begins

-- ---- Statements

pub anchor_due_after : (cs : List Character) (before : Option Strength) (text : List Character) → IsAnchorDue cs before text → HasAfter cs text
anchor_due_after cs before text due =
    subst (λ cs. HasAfter cs text) (sym due.are)
    (next_after due.first due.after text (ends_trans due.after (after_gaps due.after) text (gaps_end due.after) (bracket_ends (after_gaps due.after) before text due.perhaps)))

gap_then : (cs rest : List Character) → after_gaps cs ≡ rest → EndsWith cs rest
gap_then cs rest gap = subst (λ rest. EndsWith cs rest) gap (gaps_end cs)

pub target_due_after : (cs : List Character) (strength : Strength) (starred : Bool) (text : List Character) → IsTargetDue cs strength starred text → HasAfter cs text
target_due_after cs strength starred text due =
    after_then cs due.after text (sign_after cs (record { strength = strength; starred = starred; rest = due.after }) due.sign) (gap_then due.after text due.gap)

pub expansion_due_after : (cs text : List Character) → IsExpansionDue cs text → HasAfter cs text
expansion_due_after cs text due =
    then_after cs (after_gaps cs) text (gaps_end cs) (subst (λ cs. HasAfter cs text) (sym due.are) (next_after due.first due.after text (gap_then due.after text due.gap)))

pub expands_end : (cs : List Character) (expansion : Option Written) (rest : List Character) → BeginsExpansion cs expansion rest → EndsWith cs rest
expands_end cs None rest begins = same_ends cs rest begins.1
expands_end cs (Some expansion) rest begins =
    after_ends cs rest (after_then cs begins.0 rest (expansion_due_after cs begins.0 begins.1) (after_ends begins.0 rest (written_after begins.0 expansion rest begins.2)))

pub statement_after : (cs : List Character) (s : Statement) (rest : List Character) → BeginsStatement cs s rest → HasAfter cs rest
statement_after cs (Reset before anchor) rest begins =
    after_then cs begins.text rest (anchor_due_after cs before begins.text begins.due) (after_ends begins.text rest (written_after begins.text anchor rest begins.begins))
statement_after cs (Plain strength target expansion) rest begins =
    after_then cs begins.text rest (target_due_after cs strength false begins.text begins.due)
    (ends_trans begins.text begins.more rest (after_ends begins.text begins.more (written_after begins.text target begins.more begins.begins)) (expands_end begins.more expansion rest begins.expands))
statement_after cs (Starred strength targets) rest begins =
    after_then cs begins.text rest (target_due_after cs strength true begins.text begins.due) (after_ends begins.text rest (text_after true begins.text begins.symbols rest begins.begins))

pub statements_end : (cs : List Character) (statements : List Statement) (rest : List Character) → AreStatements cs statements rest → EndsWith cs rest
statements_end cs [] rest are = gap_then cs rest are
statements_end cs (s ∷ statements) rest are =
    ends_trans cs are.0 rest
    (ends_trans cs (after_gaps cs) are.0 (gaps_end cs) (after_ends (after_gaps cs) are.0 (statement_after (after_gaps cs) s are.0 are.1)))
    (statements_end are.0 statements rest are.2)

-- ---- Positions

-- the position of the rest of characters that begin at a position
placed_within : (place : ℕ) (codes : List ℕ) (front rest : List Character) → placed_from place codes ≡ front ++ rest → place_of (place + length (encodes codes)) rest ≤ place + length (encodes codes)
placed_within place [] [] rest are = subst (λ rest. place_of (place + length (encodes [])) rest ≤ place + length (encodes [])) are (omega arith)
placed_within place (c ∷ codes) [] rest are = subst (λ rest. place_of (place + length (encodes (c ∷ codes))) rest ≤ place + length (encodes (c ∷ codes))) are (omega arith)
placed_within place [] (c ∷ front) rest are = absurd cc
placed_within place (x ∷ codes) (c ∷ front) rest are =
    let later : placed_from (place + len_utf8 x) codes ≡ front ++ rest = cc in
    let within = placed_within (place + len_utf8 x) codes front rest later in
    let long : place + length (encodes (x ∷ codes)) ≡ place + len_utf8 x + length (encodes codes) = (let all = length-append (encode x) (encodes codes) in let one = length-encode x in omega arith) in
    subst (λ end. place_of end rest ≤ end) (sym long) within

-- the position of an end of the rules is within them
pub place_within : (bytes : List ℕ) (rest : List Character) → IsUtf8 bytes → EndsWith (characters bytes) rest → place_of (length bytes) rest ≤ length bytes
place_within bytes rest utf8 ends =
    let long = ap length (encodes-chars bytes utf8) in
    let from_start : 0 + length (encodes (chars bytes)) ≡ length bytes = omega arith in
    subst (λ end. place_of end rest ≤ end) from_start (placed_within 0 (chars bytes) ends.0 rest ends.1)

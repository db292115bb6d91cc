-- Texts, a piece further: what is read of one, and why it is none.
use Rattle.std.proofs.Common.{◌≡◌, ◌≢◌, inl, inr, ℕ, suc, ◌<◌, ◌≤◌, Bool, true, false, ◌==◌, ◌&&◌, IsTrue, IsFalse, List, [], ◌∷◌, ◌++◌, length, take, Option, Some, None, IfSome, if◌then◌else◌, refl, ap, sym, subst, ◌∙◌, arith, length-append}
use Rattle.std.proofs.lemmas.List.{append-nil, append_assoc, take_at, length-drop, flat_map_more}
use Rattle.std.proofs.lemmas.Bool.{false≢true, eqb-false, ne_eqb}
use Rattle.std.specs.Str.{byte}
use Rattle.uca_rules.specs.declared.characters.Character.{Character}
use Rattle.uca_rules.specs.declared.faults.RuleFaultKind.{RuleFaultKind}
use Rattle.uca_rules.specs.declared.faults.RuleFaultKind.TheVariants as kinds
use Rattle.uca_rules.specs.Characters.{apostrophe, backslash, hyphen}
use Rattle.uca_rules.specs.Pieces.{Symbol, Literal, Hyphen, Piece, with_literal, inside_quotes, after_apostrophe, after_backslash, numbered, number_at, is_plain, piece_at, ArePieces, symbols_of, EndsText, BeginsText, points_of}
use Rattle.uca_rules.specs.Statements.{HasRangesSoFar, HasRanges}
use Rattle.uca_rules.specs.Faults.{opened, IsBroken, IsWrongHyphen, TextCause}
use Rattle.uca_rules.specs.inside.Views.{Takes, BeginsAt, BreaksOff, EndsInHyphen, ShowsWrongHyphen}
use Rattle.uca_rules.proofs.Hyphens.{shown_longer}
use Rattle.uca_rules.proofs.Quotes.{letter}

-- ---- A piece takes a character at least

abbrev IsShorter : Option Piece → ℕ → Type 0
IsShorter piece n = IfSome piece (λ p. length p.rest < n)

shorter_if : (b : Bool) (x y : Option Piece) (n : ℕ) → IsShorter x n → IsShorter y n → IsShorter (if b then x else y) n
shorter_if true x y n h k = h
shorter_if false x y n h k = k

shorter_with : (c : Character) (piece : Option Piece) (m n : ℕ) → m ≤ n → IsShorter piece m → IsShorter (with_literal c piece) n
shorter_with c None m n le h = tt
shorter_with c (Some piece) m n le h = omega arith

inside_shorter : (cs : List Character) → IsShorter (inside_quotes cs) (length cs)
inside_shorter [] = tt
inside_shorter (c ∷ []) = shorter_if (c.code == apostrophe) _ _ 1 (omega arith) tt
inside_shorter (c ∷ d ∷ cs) =
    shorter_if (c.code == apostrophe) _ _ (suc (suc (length cs)))
    (shorter_if (d.code == apostrophe) _ _ (suc (suc (length cs))) (shorter_with c (inside_quotes cs) (length cs) (suc (suc (length cs))) (omega arith) (inside_shorter cs)) (omega arith))
    (shorter_with c (inside_quotes (d ∷ cs)) (suc (length cs)) (suc (suc (length cs))) (omega arith) (inside_shorter (d ∷ cs)))

numbered_shorter : (c : Character) (n : ℕ) (cs : List Character) → IsShorter (numbered c n cs) (suc (length cs))
numbered_shorter c n cs = cases (number_at n cs) refl
  where
    cases : (code : Option ℕ) → number_at n cs ≡ code → IsShorter (numbered c n cs) (suc (length cs))
    cases None e = rw e tt
    cases (Some code) e = rw e (omega (arith, length-drop n cs))

backslash_shorter : (c : Character) (cs : List Character) → IsShorter (after_backslash c cs) (length cs)
backslash_shorter c [] = tt
backslash_shorter c (d ∷ cs) =
    let one : IsShorter (Some (record { symbols = Literal (record { code = d.code; place = c.place }) ∷ []; rest = cs })) (suc (length cs)) = omega arith in
    shorter_if (d.code == byte "u") (numbered c 4 cs) _ (suc (length cs)) (numbered_shorter c 4 cs) (shorter_if (d.code == byte "U") (numbered c 8 cs) _ (suc (length cs)) (numbered_shorter c 8 cs) one)

apostrophe_shorter : (c : Character) (cs : List Character) → IsShorter (after_apostrophe c cs) (length cs)
apostrophe_shorter c [] = tt
apostrophe_shorter c (d ∷ cs) =
    let one : IsShorter (Some (record { symbols = Literal c ∷ []; rest = cs })) (suc (length cs)) = omega arith in
    shorter_if (d.code == apostrophe) _ (inside_quotes (d ∷ cs)) (suc (length cs)) one (inside_shorter (d ∷ cs))

longer : (piece : Option Piece) (n : ℕ) → IsShorter piece n → IsShorter piece (suc n)
longer None n h = tt
longer (Some piece) n h = omega arith

pub piece_shorter : (starred : Bool) (cs : List Character) → IsShorter (piece_at starred cs) (length cs)
piece_shorter starred [] = tt
piece_shorter starred (c ∷ cs) =
    let plain : IsShorter (Some (record { symbols = Literal c ∷ []; rest = cs })) (suc (length cs)) = omega arith in
    let range : IsShorter (Some (record { symbols = Hyphen c.place ∷ []; rest = cs })) (suc (length cs)) = omega arith in
    shorter_if (c.code == apostrophe) (after_apostrophe c cs) _ (suc (length cs)) (longer (after_apostrophe c cs) (length cs) (apostrophe_shorter c cs))
    (shorter_if (c.code == backslash) (after_backslash c cs) _ (suc (length cs)) (longer (after_backslash c cs) (length cs) (backslash_shorter c cs))
    (shorter_if (is_plain c.code) _ _ (suc (length cs)) plain
    (shorter_if (starred && c.code == hyphen) _ None (suc (length cs)) range tt)))

-- ---- Pieces

pieces_more : (starred : Bool) (cs : List Character) (pieces : List (List Symbol)) (rest : List Character) (symbols : List Symbol) (more : List Character) → ArePieces starred cs pieces rest →
    piece_at starred rest ≡ Some (record { symbols = symbols; rest = more }) → ArePieces starred cs (pieces ++ symbols ∷ []) more
pieces_more starred cs [] rest symbols more h p = (more, ap (piece_at starred) h ∙ p, refl)
pieces_more starred cs (s ∷ pieces) rest symbols more h p = (h.0, h.1, pieces_more starred h.0 pieces rest symbols more h.2 p)

-- the pieces of a text so far, which give these symbols
pub record AreRead (starred : Bool) (text rest : List Character) (symbols : List Symbol) : Type 0 where
  pub pieces : List (List Symbol)
  pub are : ArePieces starred text pieces rest
  pub give : symbols ≡ symbols_of pieces

pub read_none : (starred : Bool) (text : List Character) (symbols : List Symbol) → symbols ≡ [] → AreRead starred text text symbols
read_none starred text symbols none = record { pieces = []; are = refl; give = none }

pub read_more : (starred : Bool) (text rest after : List Character) (old new : List Symbol) → AreRead starred text rest old → Takes old new (Some after) (piece_at starred rest) →
    AreRead starred text after new
read_more starred text rest after old new read takes = record {
  pieces = read.pieces ++ takes.0 ∷ [];
  are = pieces_more starred text read.pieces rest takes.0 after read.are takes.1;
  give = takes.2 ∙ (ap (λ zs. zs ++ takes.0) read.give ∙ flat_map_more (λ symbols. symbols) [] read.pieces takes.0);
}

pub takes_shorter : (starred : Bool) (rest after : List Character) (old new : List Symbol) → Takes old new (Some after) (piece_at starred rest) → length after < length rest
takes_shorter starred rest after old new takes =
    let P : Option Piece → Type 0 = λ piece. IsShorter piece (length rest) in
    subst P takes.1 (piece_shorter starred rest)

nothing_there : {A : Type 0} (front back : List A) (x : A) → front ++ x ∷ back ≡ [] → ⊥
nothing_there [] back x e = cc
nothing_there (y ∷ front) back x e = cc

pub no_ranges : (symbols : List Symbol) → symbols ≡ [] → HasRangesSoFar symbols
no_ranges symbols none front back place e wrong = let no : ⊥ = nothing_there front back (Hyphen place) (sym e ∙ none) in no

pub begins_so : (starred : Bool) (text rest : List Character) (symbols : List Symbol) → AreRead starred text rest symbols → ¬ (EndsText starred text) → EndsText starred rest →
    BeginsText starred text symbols rest
begins_so starred text rest symbols read begins ends = record {
  pieces = read.pieces;
  some = some read.pieces read.are;
  are = read.are;
  give = read.give;
  ends = ends;
}
  where
    some : (pieces : List (List Symbol)) → ArePieces starred text pieces rest → pieces ≢ []
    some [] are e = begins (subst (EndsText starred) (sym are) ends)
    some (s ∷ pieces) are e = let no : ⊥ = cc in no

pub ranges_end : (symbols : List Symbol) → HasRangesSoFar symbols → ((place : ℕ) → ¬ (EndsInHyphen symbols place)) → HasRanges symbols
ranges_end symbols so_far none front back place e =
    ((λ end. none place (record { front = front; are = e ∙ ap (λ zs. front ++ Hyphen place ∷ zs) end })), so_far front back place e)

-- ---- Causes

none_opened : (cs : List Character) → EndsText true cs → opened cs ≡ []
none_opened [] ends = refl
none_opened (c ∷ []) ends = refl
none_opened (c ∷ d ∷ cs) ends = cases (c.code == apostrophe) refl
  where
    cases : (b : Bool) → (c.code == apostrophe) ≡ b → opened (c ∷ d ∷ cs) ≡ []
    cases true e = let k = rw e at ends in let no : ⊥ = cc in absurd no
    cases false e = rw e refl

ends_in_hyphen : (text rest : List Character) (symbols : List Symbol) (place : ℕ) → AreRead true text rest symbols → EndsText true rest → EndsInHyphen symbols place → IsWrongHyphen text place
ends_in_hyphen text rest symbols place read ends hyphen = record {
  pieces = read.pieces;
  rest = rest;
  are = read.are;
  front = hyphen.front;
  back = [];
  symbols = rw (none_opened rest ends) (append-nil (symbols_of read.pieces) ∙ (sym read.give ∙ hyphen.are));
  wrong = inr (ends, refl);
}

wrong_shown : (text rest : List Character) (symbols : List Symbol) (place : ℕ) → AreRead true text rest symbols → ShowsWrongHyphen symbols place → IsWrongHyphen text place
wrong_shown text rest symbols place read shows = record {
  pieces = read.pieces;
  rest = rest;
  are = read.are;
  front = shows.front;
  back = shows.back ++ opened rest;
  symbols = ap (λ zs. zs ++ opened rest) (sym read.give ∙ shows.are) ∙ append_assoc shows.front (Hyphen place ∷ shows.back) (opened rest);
  wrong = inl (shown_longer shows.front shows.back (opened rest) shows.wrong);
}

wrong_opened : (text rest : List Character) (symbols : List Symbol) (place : ℕ) → AreRead true text rest symbols → ShowsWrongHyphen (symbols ++ opened rest) place → IsWrongHyphen text place
wrong_opened text rest symbols place read shows = record {
  pieces = read.pieces;
  rest = rest;
  are = read.are;
  front = shows.front;
  back = shows.back;
  symbols = ap (λ zs. zs ++ opened rest) (sym read.give) ∙ shows.are;
  wrong = inl shows.wrong;
}

broken_so : (starred : Bool) (text rest : List Character) (symbols : List Symbol) (code place : ℕ) → AreRead starred text rest symbols → piece_at starred rest ≡ None → BeginsAt code rest place → IsBroken starred text code place
broken_so starred text rest symbols code place read none at = record {
  pieces = read.pieces;
  first = at.first;
  after = at.after;
  are = subst (ArePieces starred text read.pieces) at.are read.are;
  begins = at.is;
  none = rw at.are at none;
  at = at.at;
}

pub breaks_off : (end : ℕ) (starred : Bool) (text rest : List Character) (symbols : List Symbol) (place : ℕ) (kind : RuleFaultKind) → AreRead starred text rest symbols → piece_at starred rest ≡ None →
    BreaksOff starred symbols rest place kind → TextCause end starred text place kind
breaks_off end starred text rest symbols place kinds.Escape read none off = broken_so starred text rest symbols backslash place read none off
breaks_off end false text rest symbols place kinds.Syntax read none (inl at) = inr (broken_so false text rest symbols apostrophe place read none at)
breaks_off end false text rest symbols place kinds.Syntax read none (inr wrong) = let no : ⊥ = cc (wrong.0) in absurd no
breaks_off end true text rest symbols place kinds.Syntax read none (inl at) = inr (inl (broken_so true text rest symbols apostrophe place read none at))
breaks_off end true text rest symbols place kinds.Syntax read none (inr wrong) = inr (inr (wrong_opened text rest symbols place read wrong.1))
breaks_off end starred text rest symbols place kind read none off = absurd off

pub hyphen_cause : (end : ℕ) (starred : Bool) (text rest : List Character) (symbols : List Symbol) (place : ℕ) (kind : RuleFaultKind) → IsTrue starred → kind ≡ kinds.Syntax →
    AreRead starred text rest symbols → ShowsWrongHyphen symbols place → TextCause end starred text place kind
hyphen_cause end false text rest symbols place kind star is read shows = absurd (false≢true star)
hyphen_cause end true text rest symbols place kind star is read shows = rw is (inr (inr (wrong_shown text rest symbols place read shows)))

pub end_cause : (end : ℕ) (starred : Bool) (text rest : List Character) (symbols : List Symbol) (place : ℕ) → IsTrue starred → AreRead starred text rest symbols → EndsText starred rest →
    EndsInHyphen symbols place → TextCause end starred text place kinds.Syntax
end_cause end false text rest symbols place star read ends hyphen = absurd (false≢true star)
end_cause end true text rest symbols place star read ends hyphen = inr (inr (ends_in_hyphen text rest symbols place read ends hyphen))

-- the old symbols are no more than those that a piece leaves
pub within_some : (old new now : List Symbol) (after : List Character) (piece : Option Piece) (count : ℕ) → Takes old new (Some after) piece → count ≡ length old → now ≡ new → count ≤ length now
within_some old new now after piece count takes is same = omega (arith, is, ap length same, ap length takes.2, length-append old takes.0)

-- the symbols of the pieces before one that is none, or that is just read
pub front_of_none : (old new now : List Symbol) (piece : Option Piece) (count : ℕ) → Takes old new None piece → count ≡ length old → now ≡ new → take count now ≡ old
front_of_none old new now piece count takes is same = rw (is, same) takes.1

pub front_of_some : (old new now : List Symbol) (after : List Character) (piece : Option Piece) (count : ℕ) → Takes old new (Some after) piece → count ≡ length old → now ≡ new → take count now ≡ old
front_of_some old new now after piece count takes is same = rw (is, same, takes.2) (take_at old takes.0 (length old) refl)

-- ---- A text that is not starred has a character

abbrev BeginsLiteral : Option Piece → Type 0
BeginsLiteral piece = IfSome piece (λ p. (c : Character) × (more : List Symbol) × (p.symbols ≡ Literal c ∷ more))

literal_if : (b : Bool) (x y : Option Piece) → BeginsLiteral x → BeginsLiteral y → BeginsLiteral (if b then x else y)
literal_if true x y h k = h
literal_if false x y h k = k

literal_with : (c : Character) (piece : Option Piece) → BeginsLiteral (with_literal c piece)
literal_with c None = tt
literal_with c (Some piece) = (c, piece.symbols, refl)

apostrophe_literal : (c : Character) (cs : List Character) → BeginsLiteral (after_apostrophe c cs)
apostrophe_literal c [] = tt
apostrophe_literal c (d ∷ cs) = cases (d.code == apostrophe) refl
  where
    cases : (b : Bool) → (d.code == apostrophe) ≡ b → BeginsLiteral (after_apostrophe c (d ∷ cs))
    cases true e = rw e (c, [], refl)
    cases false e = rw (e, letter d cs (eqb-false d.code apostrophe e)) (literal_with d (inside_quotes cs))

numbered_literal : (c : Character) (n : ℕ) (cs : List Character) → BeginsLiteral (numbered c n cs)
numbered_literal c n cs = cases (number_at n cs) refl
  where
    cases : (code : Option ℕ) → number_at n cs ≡ code → BeginsLiteral (numbered c n cs)
    cases None e = rw e tt
    cases (Some code) e = rw e (record { code = code; place = c.place }, [], refl)

backslash_literal : (c : Character) (cs : List Character) → BeginsLiteral (after_backslash c cs)
backslash_literal c [] = tt
backslash_literal c (d ∷ cs) =
    let one : BeginsLiteral (Some (record { symbols = Literal (record { code = d.code; place = c.place }) ∷ []; rest = cs })) = (record { code = d.code; place = c.place }, [], refl) in
    literal_if (d.code == byte "u") (numbered c 4 cs) _ (numbered_literal c 4 cs) (literal_if (d.code == byte "U") (numbered c 8 cs) _ (numbered_literal c 8 cs) one)

piece_literal : (cs : List Character) → BeginsLiteral (piece_at false cs)
piece_literal [] = tt
piece_literal (c ∷ cs) =
    let one : BeginsLiteral (Some (record { symbols = Literal c ∷ []; rest = cs })) = (c, [], refl) in
    literal_if (c.code == apostrophe) (after_apostrophe c cs) _ (apostrophe_literal c cs)
    (literal_if (c.code == backslash) (after_backslash c cs) _ (backslash_literal c cs) (literal_if (is_plain c.code) _ None one tt))

pub some_points : (starred : Bool) (cs : List Character) (symbols : List Symbol) (rest : List Character) → IsFalse starred → BeginsText starred cs symbols rest → points_of symbols ≢ []
some_points true cs symbols rest plain text = absurd (false≢true (sym plain))
some_points false cs symbols rest plain text = cases text.pieces text.are text.give text.some
  where
    cases : (pieces : List (List Symbol)) → ArePieces false cs pieces rest → symbols ≡ symbols_of pieces → pieces ≢ [] → points_of symbols ≢ []
    cases [] are give some none = some refl
    cases (s ∷ pieces) are give some none =
        let first = subst BeginsLiteral are.1 (piece_literal cs) in
        let whole : symbols ≡ Literal first.0 ∷ (first.1 ++ symbols_of pieces) = give ∙ ap (λ zs. zs ++ symbols_of pieces) first.2 in
        let no : ⊥ = cc (sym (ap points_of whole) ∙ none) in
        no

-- ---- Pieces by their first character

-- At an apostrophe the piece is what `after_apostrophe` gives.
pub quoted_piece : (starred : Bool) (cs : List Character) (first : Character) (after : List Character) → cs ≡ first ∷ after → first.code ≡ apostrophe →
    piece_at starred cs ≡ after_apostrophe first after
quoted_piece starred cs first after is code = rw (is, code) refl

-- At a backslash the piece is what `after_backslash` gives.
pub escaped_piece : (starred : Bool) (cs : List Character) (first : Character) (after : List Character) → cs ≡ first ∷ after → first.code ≡ backslash →
    piece_at starred cs ≡ after_backslash first after
escaped_piece starred cs first after is code = rw (is, code) refl

-- Another character that may begin a piece is its only symbol.
pub plain_piece : (starred : Bool) (cs : List Character) (first : Character) (after : List Character) → cs ≡ first ∷ after → first.code ≢ apostrophe → first.code ≢ backslash → is_plain first.code ≡ true →
    piece_at starred cs ≡ Some (record { symbols = Literal first ∷ []; rest = after })
plain_piece starred cs first after is quote slash plain = rw (is, ne_eqb first.code apostrophe quote, ne_eqb first.code backslash slash, plain) refl

-- So is the hyphen of a starred text.
pub hyphen_piece : (starred : Bool) (cs : List Character) (first : Character) (after : List Character) → cs ≡ first ∷ after → starred ≡ true → first.code ≡ hyphen →
    piece_at starred cs ≡ Some (record { symbols = Hyphen first.place ∷ []; rest = after })
hyphen_piece starred cs first after is star code = rw (is, star, code) refl

-- At any other character there is no piece.
pub no_piece : (starred : Bool) (cs : List Character) (first : Character) (after : List Character) → cs ≡ first ∷ after → first.code ≢ apostrophe → first.code ≢ backslash → is_plain first.code ≡ false → (starred && first.code == hyphen) ≡ false →
    piece_at starred cs ≡ None
no_piece starred cs first after is quote slash plain other = rw (is, ne_eqb first.code apostrophe quote, ne_eqb first.code backslash slash, plain, other) refl

-- A text of rules, starred or not, ends at one position and gives one list of characters.
use Rattle.std.proofs.Common.{◌≡◌, List, [], ◌∷◌, ◌++◌, Bool, true, false, ◌&&◌, ◌||◌, Option, None, Some, refl, sym, ap, ◌∙◌, subst}
use Rattle.std.specs.Prelude.{if◌then◌else◌, ◌==◌, IsFalse}
use Rattle.std.proofs.lemmas.List.{append-nil}
use Rattle.uca_rules.specs.declared.characters.Character.{Character}
use Rattle.uca_rules.specs.Characters.{place_of, apostrophe, backslash, hyphen}
use Rattle.uca_rules.specs.Pieces.{BeginsText, Symbol, Literal, Hyphen, Piece, is_plain, piece_at, after_apostrophe, after_backslash, ArePieces, EndsText, symbols_of, Written, BeginsWritten, points_of}

-- ---- Where a text ends there is no piece

no_test : {A : Type 0} (a b c d : Bool) (x y z w : Option A)
    → IsFalse (a || b || c || d) → (if a then x else if b then y else if c then z else if d then w else None) ≡ None
no_test true b c d x y z w h = cc
no_test false true c d x y z w h = cc
no_test false false true d x y z w h = cc
no_test false false false true x y z w h = cc
no_test false false false false x y z w h = refl

pub none_at_end : (starred : Bool) (cs : List Character) → EndsText starred cs → piece_at starred cs ≡ None
none_at_end starred [] ends = refl
none_at_end starred (c ∷ cs) ends =
    no_test (c.code == apostrophe) (c.code == backslash) (is_plain c.code) (starred && c.code == hyphen)
    (after_apostrophe c cs) (after_backslash c cs) (Some (record { symbols = Literal c ∷ []; rest = cs })) (Some (record { symbols = Hyphen c.place ∷ []; rest = cs })) ends

-- ---- Pieces

-- after some of the pieces the rest of the pieces follow
pub record StandAfter (starred : Bool) (front pieces : List (List Symbol)) (more rest : List Character) : Type 0 where
  pub back : List (List Symbol)
  pub parts : pieces ≡ front ++ back
  pub are : ArePieces starred more back rest

-- pieces that lead somewhere are a front of those of the whole text
pub pieces_prefix : (starred : Bool) (front pieces : List (List Symbol)) (cs more rest : List Character)
    → ArePieces starred cs front more → ArePieces starred cs pieces rest → EndsText starred rest → StandAfter starred front pieces more rest
pieces_prefix starred [] pieces cs more rest at are ends = record { back = pieces; parts = refl; are = subst (λ cs. ArePieces starred cs pieces rest) at are }
pieces_prefix starred (symbols ∷ front) [] cs more rest at are ends =
    let none : piece_at starred cs ≡ None = subst (λ cs. piece_at starred cs ≡ None) (sym are) (none_at_end starred rest ends) in
    let some = at.1 in
    absurd cc
pieces_prefix starred (symbols ∷ front) (symbols' ∷ pieces) cs more rest at are ends =
    let one : Piece = record { symbols = symbols; rest = at.0 } in
    let other : Piece = record { symbols = symbols'; rest = are.0 } in
    let same : Some one ≡ Some other = sym at.1 ∙ are.1 in
    let same_piece : other ≡ one = cc in
    let same_rest = ap (λ (piece : Piece). piece.rest) same_piece in
    let same_symbols = ap (λ (piece : Piece). piece.symbols) same_piece in
    let after = pieces_prefix starred front pieces at.0 more rest at.2 (subst (λ cs. ArePieces starred cs pieces rest) same_rest are.2) ends in
    let parts = after.parts in
    record { back = after.back; parts = cc; are = after.are }

-- pieces at the end of a text are none
pub no_pieces : (starred : Bool) (cs rest : List Character) (pieces : List (List Symbol)) → EndsText starred cs → ArePieces starred cs pieces rest → (pieces ≡ []) × (cs ≡ rest)
no_pieces starred cs rest [] ends are = (refl, are)
no_pieces starred cs rest (symbols ∷ pieces) ends are =
    let none = none_at_end starred cs ends in
    let some = are.1 in
    absurd cc

-- ---- Texts

-- a text, starred or not, ends at one position and gives one list of characters
abbrev pub OneText : Type 0
OneText = (starred : Bool) (cs rest rest' : List Character) (symbols symbols' : List Symbol) → BeginsText starred cs symbols rest → BeginsText starred cs symbols' rest' → (symbols ≡ symbols') × (rest ≡ rest')

pub one_text : OneText
one_text starred cs rest rest' symbols symbols' begins begins' =
    let after = pieces_prefix starred begins.pieces begins'.pieces cs rest rest' begins.are begins'.are begins'.ends in
    let last = no_pieces starred rest rest' after.back begins.ends after.are in
    let same : begins'.pieces ≡ begins.pieces = after.parts ∙ ap (λ back. begins.pieces ++ back) last.0 ∙ append-nil begins.pieces in
    (begins.give ∙ ap symbols_of (sym same) ∙ sym begins'.give, last.1)

pub one_written : (cs rest rest' : List Character) (text text' : Written)
    → BeginsWritten cs text rest → BeginsWritten cs text' rest' → (text ≡ text') × (rest ≡ rest')
one_written cs rest rest' text text' begins begins' =
    let same = one_text false cs rest rest' begins.symbols begins'.symbols begins.begins begins'.begins in
    (begins.is ∙ ap (λ symbols. record { place = place_of 0 cs; points = points_of symbols }) same.0 ∙ sym begins'.is, same.1)

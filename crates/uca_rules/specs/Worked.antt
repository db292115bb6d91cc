-- What the definitions give for some rules, worked out.
use Rattle.std.specs.Prelude.{◌≡◌, ℕ, true, false, List, [], ◌∷◌, ◌++◌, codes, Some, None}
use Rattle.uca_weights.specs.declared.Strength.TheVariants.{Primary, Secondary, Tertiary, Identical}
use Rattle.uca_relations.specs.declared.Relation.{Relation}
use Rattle.uca_relations.specs.Relations.{IsHeld, IsLate}
use Rattle.uca_rules.specs.declared.characters.Character.{Character}
use Rattle.uca_rules.specs.Characters.{placed_from, codes_of, after_gaps}
use Rattle.uca_rules.specs.Pieces.{Symbol, Literal, Hyphen, piece_at}
use Rattle.uca_rules.specs.Statements.{Reset, Plain, sign_at, bracket_at, targets_of, AreStatements}

-- the characters of ASCII text, from a position on
abbrev pub from : ℕ → List ℕ → List Character
from place text = placed_from place text

abbrev pub letter : ℕ → ℕ → Symbol
letter code place = Literal (record { code = code; place = place })

-- a relation `anchor < target` of texts, without their classes
abbrev pub less : List ℕ → List ℕ → Relation
less anchor target = record { anchor = record { points = anchor; classes = [] }; before = false; strength = Primary; target = record { points = target; classes = [] }; expansion = None }

pub record WorkedRules : Type 0 where
  -- pieces: plain, an apostrophe, quoted, and escapes
  pub plain : piece_at false (from 0 (codes "ab")) ≡ Some (record { symbols = letter 97 0 ∷ []; rest = from 1 (codes "b") })
  pub apostrophe : piece_at false (from 3 (codes "''x")) ≡ Some (record { symbols = letter 39 3 ∷ []; rest = from 5 (codes "x") })
  pub quoted : piece_at false (from 1 (codes "'b c' <")) ≡ Some (record { symbols = letter 98 2 ∷ letter 32 3 ∷ letter 99 4 ∷ []; rest = from 6 (codes " <") })
  pub doubled : piece_at false (from 0 (codes "'a''b'")) ≡ Some (record { symbols = letter 97 1 ∷ letter 39 2 ∷ letter 98 4 ∷ []; rest = [] })
  pub open_quote : piece_at false (from 5 (codes "'x")) ≡ None
  pub four_digits : piece_at false (from 10 (92 ∷ codes "u0063<")) ≡ Some (record { symbols = letter 99 10 ∷ []; rest = from 16 (codes "<") })
  pub eight_digits : piece_at false (from 0 (92 ∷ codes "U0010fFfF")) ≡ Some (record { symbols = letter 0x10FFFF 0 ∷ []; rest = [] })
  pub too_few_digits : piece_at false (from 5 (92 ∷ codes "u12")) ≡ None
  pub surrogate : piece_at false (from 0 (92 ∷ codes "uD800")) ≡ None
  pub too_great : piece_at false (from 0 (92 ∷ codes "U00110000")) ≡ None
  pub itself : piece_at false (from 0 (92 ∷ codes "t")) ≡ Some (record { symbols = letter 116 0 ∷ []; rest = [] })
  pub nothing_escaped : piece_at false (from 0 (92 ∷ [])) ≡ None
  pub no_hyphen : piece_at false (from 0 (codes "-b")) ≡ None
  pub hyphen : piece_at true (from 7 (codes "-b")) ≡ Some (record { symbols = Hyphen 7 ∷ []; rest = from 8 (codes "b") })
  -- white space and comments, signs, brackets
  pub gaps : after_gaps (from 0 (codes " #&a" ++ 10 ∷ codes "&b")) ≡ from 5 (codes "&b")
  pub last_comment : after_gaps (from 0 (codes "#&a")) ≡ []
  pub tertiary : sign_at (from 0 (codes "<<<x")) ≡ Some (record { strength = Tertiary; starred = false; rest = from 3 (codes "x") })
  pub starred_sign : sign_at (from 0 (codes "=*x")) ≡ Some (record { strength = Identical; starred = true; rest = from 2 (codes "x") })
  pub four : sign_at (from 3 (codes "<<<< x")) ≡ None
  pub before_two : bracket_at (from 1 (codes "[before 2]a")) ≡ Some Secondary
  pub before_four : bracket_at (from 1 (codes "[before 4]a")) ≡ None
  pub reorder : bracket_at (from 1 (codes "[reorder]")) ≡ None
  -- the targets of a starred text: `bcd-gp-s`
  pub ranges : codes_of (targets_of (letter 98 6 ∷ letter 99 7 ∷ letter 100 8 ∷ Hyphen 9 ∷ letter 103 10 ∷ letter 112 11 ∷ Hyphen 12 ∷ letter 115 13 ∷ [])) ≡ codes "bcdefgpqrs"
  pub inner_places : targets_of (letter 98 6 ∷ Hyphen 7 ∷ letter 101 8 ∷ []) ≡ record { code = 98; place = 6 } ∷ record { code = 99; place = 7 } ∷ record { code = 100; place = 7 } ∷ record { code = 101; place = 8 } ∷ []
  -- `&[before 1]a < x = y/z`
  pub chain : AreStatements (from 0 (codes "&[before 1]a < x = y/z"))
      (Reset (Some Primary) (record { place = 11; points = codes "a" })
      ∷ Plain Primary (record { place = 15; points = codes "x" }) None
      ∷ Plain Identical (record { place = 19; points = codes "y" }) (Some (record { place = 21; points = codes "z" }))
      ∷ []) []
  -- `&n\u0323\u0303 < x &n < n\u0303`: others may come between; after the rule `&y < n\u0323\u0303` the anchor would be
  -- a target
  pub late : IsLate (less (110 ∷ 0x323 ∷ 0x303 ∷ []) (120 ∷ []) ∷ []) (less (110 ∷ []) (110 ∷ 0x303 ∷ []))
  pub exempt : IsHeld (less (121 ∷ []) (110 ∷ 0x323 ∷ 0x303 ∷ []) ∷ less (110 ∷ 0x323 ∷ 0x303 ∷ []) (120 ∷ []) ∷ []) (110 ∷ 0x323 ∷ 0x303 ∷ []) → ⊥

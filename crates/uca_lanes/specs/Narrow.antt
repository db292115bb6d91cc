-- Texts with no code point of three bytes or more.
use Rattle.std.specs.Prelude.{ℕ, ◌<◌, List, get_or}

-- each byte is less than E0: where they are UTF-8, each code point has one byte or two (the Unicode Standard, section 3.9,
-- table 3-7)
abbrev pub AreNarrow : List ℕ → Type 0
AreNarrow bytes = (k : ℕ) → get_or bytes k 0 < 0xe0

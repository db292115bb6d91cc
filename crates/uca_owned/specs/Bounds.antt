-- How many bytes the keys of texts have at most.
use Rattle.std.specs.Prelude.{ℕ, ◌+◌, ◌-◌, ◌*◌, ◌^◌, ◌≤◌, List, length, min}
use Rattle.std.specs.Str.{IsUtf8}

-- No key of a text of at most `count` bytes has more than `bound` bytes. A key of 2^64 bytes or more fits into no memory, and counts
-- as one of 2^64 - 1. So this says nothing where the bound is 2^64 - 1.
abbrev pub BoundsKeys : (key_of : List ℕ → List ℕ) → (count bound : ℕ) → Type 0
BoundsKeys key_of count bound = (text : List ℕ) → length text ≤ count → IsUtf8 text → min (length (key_of text)) (2 ^ 64 - 1) ≤ bound

-- Such a bound. A byte of a text becomes at most two code points, and a code point at most 32 elements. An element has at most
-- eight bytes in a key, and a code point has three at an identical level. There are at most four separators of two bytes.
abbrev pub key_bound : ℕ → ℕ
key_bound count = min (518 * count + 8) (2 ^ 64 - 1)

-- Numbers with one bit for each byte of a list, the lowest for the first byte, and what these say of UTF-8.
use Rattle.std.specs.Prelude.{◌≡◌, ℕ, ◌+◌, ◌*◌, ◌==◌, List, ◌++◌, map, drop, nat_le, bit_and, if◌then◌else◌}
use Rattle.std.specs.Int.{w64, trailing_zeros}
use Rattle.std.specs.Simd.Lanes.{mask_l}

-- the place of the lowest bit that is set, or this number if none is
abbrev pub first_set : ℕ → ℕ → ℕ
first_set mask n = if mask == 0 then n else trailing_zeros w64 mask

-- the bytes of the front, and those of the back but so many
abbrev pub joined : (front back : List ℕ) → ℕ → List ℕ
joined front back both = front ++ drop both back

-- a bit for each byte that is at least this one; for each that is this one
abbrev pub marks_from : ℕ → List ℕ → ℕ
marks_from least bytes = mask_l (map (nat_le least) bytes)

abbrev pub marks_of : ℕ → List ℕ → ℕ
marks_of byte bytes = mask_l (map (λ b. b == byte) bytes)

-- No byte is C0, C1 or above F4. Bytes 80 to BF stand where the first bytes before them ask for some, and nowhere else.
-- C2 or more asks for one, E0 or more for another one, and F0 or more for a third one.
pub record CountsAgree (bytes : List ℕ) : Type 0 where
  pub none : marks_from 0xc0 bytes ≡ marks_from 0xc2 bytes
  pub follow : 2 * marks_from 0xc2 bytes + 4 * marks_from 0xe0 bytes + 8 * marks_from 0xf0 bytes + marks_from 0xc0 bytes ≡ marks_from 0x80 bytes
  pub small : marks_from 0xf5 bytes ≡ 0

-- after E0 comes A0 or more, after ED less, after F0 90 or more, after F4 less
pub record SecondsAgree (bytes : List ℕ) : Type 0 where
  pub after_e0 : bit_and (2 * marks_of 0xe0 bytes) (marks_from 0xa0 bytes) ≡ 2 * marks_of 0xe0 bytes
  pub after_ed : bit_and (2 * marks_of 0xed bytes) (marks_from 0xa0 bytes) ≡ 0
  pub after_f0 : bit_and (2 * marks_of 0xf0 bytes) (marks_from 0x90 bytes) ≡ 2 * marks_of 0xf0 bytes
  pub after_f4 : bit_and (2 * marks_of 0xf4 bytes) (marks_from 0x90 bytes) ≡ 0

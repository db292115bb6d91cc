-- The first eight bytes of a short text and its last eight, and what their marks say. Some bytes may be in both.
use Rattle.std.specs.Prelude.{◌≡◌, ℕ, ◌-◌, ◌*◌, ◌/◌, ◌%◌, ◌<◌, ◌≤◌, ◌&&◌, List, ◌++◌, length, take, drop, replicate, map, nat_le, nat_lt}
use Rattle.std.specs.Simd.Lanes.{mask_l}
use Rattle.uca_lanes.specs.inside.Marks.{marks_from}

-- sixteen bytes: all bytes and then zeros if there are fewer than eight, or else the first eight and then the last eight
pub record AreEnds (bytes ends : List ℕ) : Type 0 where
  pub few : length bytes < 8 → ends ≡ bytes ++ replicate (16 - length bytes) 0
  pub many : 8 ≤ length bytes → ends ≡ take 8 bytes ++ drop (length bytes - 8) bytes

-- the first eight bytes, and zeros after fewer
abbrev pub first_eight : List ℕ → List ℕ
first_eight bytes = take 8 bytes ++ replicate (8 - length bytes) 0

-- a bit for each byte from C2 to DF
abbrev pub marks_of_leads : List ℕ → ℕ
marks_of_leads bytes = mask_l (map (λ b. nat_le 0xc2 b && nat_lt b 0xe0) bytes)

-- a bit for each byte from 80 to BF
abbrev pub marks_of_others : List ℕ → ℕ
marks_of_others bytes = marks_from 0x80 bytes - marks_from 0xc0 bytes

-- No byte is C0, C1, or E0 or more. After each byte from C2 to DF comes one of 80 to BF, and that stands nowhere else.
-- In the text the eighth of these bytes does not come right before the ninth, so nothing is said of these two.
pub record EndsAgree (ends : List ℕ) : Type 0 where
  pub narrow : marks_from 0xe0 ends ≡ 0
  pub none : marks_from 0xc0 ends ≡ marks_from 0xc2 ends
  pub first : 2 * marks_from 0xc2 ends % 256 ≡ marks_of_others ends % 256
  pub last : marks_from 0xc2 ends / 256 ≡ marks_of_others ends / 512

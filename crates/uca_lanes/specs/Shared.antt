-- What two texts have in common.
use Rattle.std.specs.Prelude.{◌≡◌, ◌≢◌, ℕ, ◌<◌, ◌≤◌, List, get_or, length, take}
use Rattle.std.specs.Str.{IsUtf8}
use Rattle.uca_lanes.specs.Narrow.{AreNarrow}

-- two texts have so many bytes in common at their beginning, and no more
pub record IsSharedLen (left right : List ℕ) (shared : ℕ) : Type 0 where
  pub in_left : shared ≤ length left
  pub in_right : shared ≤ length right
  pub same : take shared left ≡ take shared right
  pub apart : shared < length left → shared < length right → get_or left shared 0 ≢ get_or right shared 0

-- Two texts of at most 32 bytes, UTF-8 of code points of one byte or two. They have so many of their first eight bytes
-- in common, and both have more bytes.
pub record IsEarly (left right : List ℕ) (at : ℕ) : Type 0 where
  pub few : (length left ≤ 32) × (length right ≤ 32)
  pub utf8 : IsUtf8 left × IsUtf8 right
  pub narrow : AreNarrow left × AreNarrow right
  pub shared : IsSharedLen (take 8 left) (take 8 right) at
  pub more : (at < length left) × (at < length right)

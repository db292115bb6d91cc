-- What calls write where the caller says.
use Rattle.std.specs.Prelude.{◌≡◌, ℕ, ℤ, ◌≤◌, ◌<◌, List, length, take, drop}
use Rattle.std.specs.declared.cmp.Ordering.{Ordering}
use Rattle.uca_order.specs.Levels.{Comparison}
use Rattle.uca_order.specs.Keyings.{Keying}
use Rattle.uca_owned.specs.Orders.{IsOrder}
use Rattle.uca_c.specs.Numbers.{order_number}

-- the key is at the beginning of the caller's memory, and the rest of that is as before
pub record WritesKey (key before after : List ℕ) (count : ℕ) : Type 0 where
  pub needed : count ≡ length key
  pub room : length key ≤ length before
  pub written : take (length key) after ≡ key
  pub rest : drop (length key) after ≡ drop (length key) before

-- the key has more bytes than there is room for
pub record IsTooSmall (key before : List ℕ) (count : ℕ) : Type 0 where
  pub needed : count ≡ length key
  pub small : length before < length key

-- how two texts compare, as numbers
pub record IsComparison (found : Comparison) (sign : ℤ) (at : ℕ) : Type 0 where
  pub order : sign ≡ order_number found.order
  pub level : at ≡ found.level

-- the order of two byte strings, as a number
pub record IsOrderNumber (k : Keying) (left right : List ℕ) (sign : ℤ) : Type 0 where
  pub found : Ordering
  pub order : IsOrder k left right found
  pub same : sign ≡ order_number found

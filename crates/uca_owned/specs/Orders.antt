-- An order of all byte strings.
use Rattle.std.specs.Prelude.{◌≡◌, ℕ, List}
use Rattle.std.specs.declared.cmp.Ordering.{Ordering}
use Rattle.std.specs.declared.cmp.Ordering.TheVariants.{Less, Equal, Greater}
use Rattle.std.specs.Ordering.{ordering_reverse}
use Rattle.uca_order.specs.Levels.{lexicographic}
use Rattle.uca_order.specs.Keyings.{Keying, bytes_compared}
use Rattle.uca_owned.specs.Causes.{IsAcceptedBy}

-- accepted texts are in their order, and all other bytes after them, in the order of bytes
pub record IsOrder (k : Keying) (left right : List ℕ) (order : Ordering) : Type 0 where
  pub both : IsAcceptedBy k left → IsAcceptedBy k right → order ≡ (bytes_compared k left right).order
  pub left_alone : IsAcceptedBy k left → ¬ (IsAcceptedBy k right) → order ≡ Less
  pub right_alone : ¬ (IsAcceptedBy k left) → IsAcceptedBy k right → order ≡ Greater
  pub neither : ¬ (IsAcceptedBy k left) → ¬ (IsAcceptedBy k right) → order ≡ lexicographic left right

-- Two byte strings have one order at most. The order of the same two the other way round is the reverse one. Less is transitive, and equal byte strings are in
-- the same order with any third.
pub record OrdersAreTotal : Type 0 where
  pub one : (k : Keying) (left right : List ℕ) (o p : Ordering) → IsOrder k left right o → IsOrder k left right p → o ≡ p
  pub reversed : (k : Keying) (left right : List ℕ) (o p : Ordering) → IsOrder k left right o → IsOrder k right left p → o ≡ ordering_reverse p
  pub less : (k : Keying) (a b c : List ℕ) (o p q : Ordering) → IsOrder k a b o → IsOrder k b c p → IsOrder k a c q → o ≡ Less → p ≡ Less → q ≡ Less
  pub equal : (k : Keying) (a b c : List ℕ) (o p q : Ordering) → IsOrder k a b o → IsOrder k a c p → IsOrder k b c q → o ≡ Equal → p ≡ q

-- Two texts that are the same: they are equal by any collator.
use Rattle.std.proofs.Common.{◌≡◌, ◌≤◌, ℕ, List, length, pos, refl, sym, ap, subst, inl, arith}
use Rattle.std.specs.Str.{IsUtf8}
use Rattle.std.specs.declared.cmp.Ordering.TheVariants.{Equal}
use Rattle.uca_order.specs.Levels.{Comparison}
use Rattle.uca_order.specs.Keyings.{Keying, bytes_compared}
use Rattle.uca_owned.proofs.OrderLemmas.{compared_itself, same_order, short_accepted}
use Rattle.uca_c.specs.declared.statuses.TheConstants.{OK}
use Rattle.uca_c.specs.Numbers.{order_number}
use Rattle.uca_c.specs.Results.{IsComparison, IsOrderNumber}
use Rattle.uca_c.specs.Statuses.{IsCompareStatus}

pub same_compared : (k : Keying) (left right : List ℕ) → left ≡ right → IsComparison (bytes_compared k left right) (pos 0) 0
same_compared k left right same =
    let itself = sym (compared_itself k left) in
    subst (λ (other : List ℕ). IsComparison (bytes_compared k left other) (pos 0) 0) same
    (record { order = ap (λ (it : Comparison). order_number it.order) itself; level = ap (λ (it : Comparison). it.level) itself })

pub same_accepted : (k : Keying) (left right : List ℕ) → left ≡ right → length left ≤ 32 → IsUtf8 left → IsCompareStatus k left right OK
same_accepted k left right same short utf8 =
    let accepted = short_accepted k left utf8 (omega (arith, short)) in
    subst (λ (other : List ℕ). IsCompareStatus k left other OK) same (inl (accepted, accepted, refl))

pub same_ordered : (k : Keying) (left right : List ℕ) → left ≡ right → IsOrderNumber k left right (pos 0)
same_ordered k left right same =
    subst (λ (other : List ℕ). IsOrderNumber k left other (pos 0)) same (record { found = Equal; order = same_order k left; same = refl })

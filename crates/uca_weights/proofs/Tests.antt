-- Facts on tests and on options that more than one crate needs.
use Rattle.std.proofs.Common.{◌≡◌, ℕ, Bool, true, false, cond, List, Option, Some, None, bytes_eq, refl}
use Rattle.std.specs.Option.{option_map, option_and_then}
use Rattle.std.proofs.lemmas.Slice.Eq.{bytes_eq-Decides}

-- ---- Tests

-- what holds whether a test is true or false
pub by_cases : {P : Type 0} (b : Bool) → (b ≡ true → P) → (b ≡ false → P) → P
by_cases true yes_ no_ = yes_ refl
by_cases false yes_ no_ = no_ refl

-- two tests that are not both true may be looked at in either order
pub cond_apart : (here there : Bool) (m n other all : ℕ) → (here ≡ true → there ≡ true → ⊥) → all ≡ cond there n other
    → cond here m all ≡ cond there n (cond here m other)
cond_apart true true m n other all apart e = absurd (apart refl refl)
cond_apart true false m n other all apart e = refl
cond_apart false there m n other all apart e = e

-- the test of equal lists is true
pub same_bytes : (xs ys : List ℕ) → xs ≡ ys → bytes_eq xs ys ≡ true
same_bytes xs ys same = (bytes_eq-Decides xs ys).1 same

-- and that of others is false
pub other_bytes : (xs ys : List ℕ) → (xs ≡ ys → ⊥) → bytes_eq xs ys ≡ false
other_bytes xs ys other = by_cases (bytes_eq xs ys) (λ is. absurd (other ((bytes_eq-Decides xs ys).0 is))) (λ is. is)

-- ---- Options

-- where two steps gave something, each did
pub then_some : {A B : Type 0} (o : Option A) (f : A → Option B) (r : B) → option_and_then f o ≡ Some r → (x : A) × (o ≡ Some x) × (f x ≡ Some r)
then_some (Some x) f r h = (x, refl, h)
then_some None f r h = cc

-- what a map of an option gives, it makes of something
pub map_some : {A B : Type 0} (f : A → B) (o : Option A) (r : B) → option_map f o ≡ Some r → (x : A) × (o ≡ Some x) × (f x ≡ r)
map_some f (Some x) r h = (x, refl, (let k : Some (f x) ≡ Some r = h in cc))
map_some f None r h = cc

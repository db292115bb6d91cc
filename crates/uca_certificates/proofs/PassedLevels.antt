-- Whether there are runs of a higher level, by the tests of how many there are.
use Rattle.std.proofs.Common.{◌≡◌, ◌≢◌, ◌↔◌, ℕ, suc, ◌<◌, ◌==◌, Bool, true, false, not, IsTrue, List, [], ◌∷◌, length, refl, sym, ap, ◌∙◌, arith}
use Rattle.std.proofs.lemmas.Bool.{false≢true, ne_eqb}
use Rattle.uca_weights.specs.declared.Level.{Level}
use Rattle.uca_weights.specs.declared.Level.TheVariants.{One, Two, Three}
use Rattle.uca_weights.specs.Levels.{level_number}
use Rattle.uca_weights.specs.PerLevel.{at_level}
use Rattle.uca_certificates.specs.Certificates.{CertificateContent}
use Rattle.uca_certificates.specs.Texts.{IsPassed}

-- there are some where the test does not say that there are none
some_runs : {X : Type 0} (xs : List X) (b : Bool) → b ≡ (length xs == 0) → IsTrue (not b) → xs ≢ []
some_runs xs true e says none = false≢true says
some_runs [] false e says none = false≢true e
some_runs (x ∷ xs) false e says none = cc

-- and the test does not say so where there are some
test_runs : {X : Type 0} (xs : List X) (b : Bool) → b ≡ (length xs == 0) → xs ≢ [] → IsTrue (not b)
test_runs [] b e some = absurd (some refl)
test_runs (x ∷ xs) true e some = absurd (false≢true (sym (e ∙ ne_eqb (suc (length xs)) 0 (λ same. omega (arith, same)))))
test_runs (x ∷ xs) false e some = refl

-- a list has runs if the test of their number says so
pub has_runs : {X : Type 0} (xs : List X) (n : ℕ) (b : Bool) → b ≡ (n == 0) → n ≡ length xs → IsTrue (not b) ↔ (xs ≢ [])
has_runs xs n b e long = let test = e ∙ ap (λ k. k == 0) long in (some_runs xs b test, test_runs xs b test)

-- below the second level
pub passed_by_two : (content : CertificateContent) (level : Level) (P : Type 0) → level ≡ One → content.secondary ≢ [] → P → P ↔ IsPassed content level
passed_by_two content One P is some p = ((λ _. (Two, omega arith, some)), (λ _. p))
passed_by_two content Two P is some p = cc
passed_by_two content Three P is some p = cc

-- below the third level
pub passed_by_three : (content : CertificateContent) (level : Level) (P : Type 0) → level ≡ Two → P ↔ (content.tertiary ≢ []) → P ↔ IsPassed content level
passed_by_three content One P is runs = cc
passed_by_three content Three P is runs = cc
passed_by_three content Two P is runs = ((λ p. (Three, omega arith, runs.0 p)), (λ passed. runs.1 (above passed.0 passed.1 passed.2)))
  where
    above : (higher : Level) → level_number Two < level_number higher → at_level higher content ≢ [] → content.tertiary ≢ []
    above One more some = absurd (omega (arith, more))
    above Two more some = absurd (omega (arith, more))
    above Three more some = some

-- below the second level, which has none
pub passed_over_two : (content : CertificateContent) (level : Level) (P : Type 0) → level ≡ One → content.secondary ≡ [] → P ↔ (content.tertiary ≢ []) →
    P ↔ IsPassed content level
passed_over_two content Two P is none runs = cc
passed_over_two content Three P is none runs = cc
passed_over_two content One P is none runs = ((λ p. (Three, omega arith, runs.0 p)), (λ passed. runs.1 (above passed.0 passed.1 passed.2)))
  where
    above : (higher : Level) → level_number One < level_number higher → at_level higher content ≢ [] → content.tertiary ≢ []
    above One more some = absurd (omega (arith, more))
    above Two more some = absurd (some none)
    above Three more some = some

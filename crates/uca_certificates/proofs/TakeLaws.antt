-- How one more line of a certificate is taken after others, or leaves a cause.
use Rattle.std.proofs.Common.{◌≡◌, ◌⊎◌, inl, inr, ℕ, ◌<◌, Bool, true, false, List, length, Option, Some, None, Result, Ok, Err, sym, subst}
use Rattle.std.specs.Prelude.{OnOk, IfErr, IsTrue}
use Rattle.uca_weights.specs.declared.Level.{Level}
use Rattle.uca_weights.specs.declared.maps.Run.{Run}
use Rattle.uca_certificates.specs.declared.faults.CertificateFaultKind.{CertificateFaultKind}
use Rattle.uca_certificates.specs.declared.faults.CertificateFaultKind.TheVariants as kinds
use Rattle.uca_weights.specs.PerLevel.{at_level}
use Rattle.uca_certificates.specs.Certificates.{CertificateContent}
use Rattle.uca_certificates.specs.Texts.{RunLine, IsPassed, Cause}
use Rattle.uca_certificates.specs.inside.Steps.{line_of, put_last, Takes}
use Rattle.uca_certificates.proofs.LineLaws.{line_takes, no_line}

-- a line that says nothing
pub line_fault : (said : CertificateContent) (line : List ℕ) → None ≡ line_of line → (kinds.Line ≡ kinds.Memory) ⊎ Cause said line kinds.Line
line_fault said line h = inr (no_line line h)

-- a line of a level that is passed
pub order_fault : (said : CertificateContent) (line : List ℕ) (level : Level) (run : Run)
    → ◌≡◌ {A = Option RunLine} (Some (record { level = level; run = run })) (line_of line)
    → IsPassed said level → (kinds.Order ≡ kinds.Memory) ⊎ Cause said line kinds.Order
order_fault said line level run h passed = inr (record { level = level; run = run }, line_takes line (record { level = level; run = run }) (sym h), passed)

-- what a test denies does not hold
pub denied : {P : Type 0} (b : Bool) → (P → IsTrue b) → b ≡ false → ¬ P
denied b h e p = let t : b ≡ true = h p in cc

-- a line whose run is added is taken
pub added_takes : {X : Type 0} (old new : CertificateContent) (line : List ℕ) (level : Level) (run : Run) (r : Result X CertificateFaultKind)
    → ◌≡◌ {A = Option RunLine} (Some (record { level = level; run = run })) (line_of line) → ¬ (IsPassed old level)
    → OnOk r (length (at_level level old) < 0xFFFF) → OnOk r (new ≡ put_last level run old) → OnOk r (Takes old line new)
added_takes old new line level run (Err kind) h due room adds = tt
added_takes old new line level run (Ok x) h due room adds = record {
  said = record { level = level; run = run };
  is_line = line_takes line (record { level = level; run = run }) (sym h);
  due = due;
  room = room;
  adds = adds;
}

-- a run that is not added leaves a cause in its line
pub add_fault : {X : Type 0} (old : CertificateContent) (line : List ℕ) (level : Level) (run : Run) (r : Result X CertificateFaultKind)
    → ◌≡◌ {A = Option RunLine} (Some (record { level = level; run = run })) (line_of line) → ¬ (IsPassed old level)
    → IfErr r (λ kind. (kind ≡ kinds.Memory) ⊎ ((kind ≡ kinds.Limit) × (length (at_level level old) ≡ 0xFFFF)))
    → IfErr r (λ kind. (kind ≡ kinds.Memory) ⊎ Cause old line kind)
add_fault old line level run (Ok x) h due fault = tt
add_fault old line level run (Err kind) h due (inl memory) = inl memory
add_fault old line level run (Err kind) h due (inr limit) =
    let said : RunLine = record { level = level; run = run } in
    let P : CertificateFaultKind → Type 0 = Cause old line in
    inr (subst P (sym limit.0) (said, line_takes line said (sym h), due, limit.1))

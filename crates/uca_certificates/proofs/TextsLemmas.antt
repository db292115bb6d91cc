-- The lines of a certificate, with one line more.
use Rattle.std.proofs.Common.{◌≡◌, ◌≢◌, ◌⊎◌, inl, inr, IfErr, Result, Ok, Err, ℕ, ◌+◌, ◌<◌, ◌≤◌, false, List, [], ◌∷◌, ◌++◌, length, map, refl, sym, ap, subst, ◌∙◌, append_assoc, append-nil, arith, length-append}
use Rattle.std.specs.List.{AllByRecursion}
use Rattle.std.proofs.lemmas.List.{map-append, length-map}
use Rattle.uca_weights.specs.declared.Level.{Level}
use Rattle.uca_weights.specs.declared.Level.TheVariants.{One, Two, Three}
use Rattle.uca_weights.specs.declared.maps.Run.{Run}
use Rattle.uca_weights.specs.Levels.{level_number}
use Rattle.uca_weights.proofs.Lists.{each_push}
use Rattle.uca_certificates.specs.declared.faults.CertificateFaultKind.{CertificateFaultKind}
use Rattle.uca_certificates.specs.declared.faults.CertificateFaultKind.TheVariants as kinds
use Rattle.uca_weights.specs.PerLevel.{at_level}
use Rattle.uca_certificates.specs.Certificates.{CertificateContent}
use Rattle.uca_certificates.specs.Texts.{RunLine, run_text, of_level, run_lines, IsRunLine, IsPassed, Says, Cause, is_read_kind}
use Rattle.uca_certificates.specs.inside.Steps.{put_last, Takes}

-- a read that failed is not the error of a line
pub not_read : (said : CertificateContent) (line : List ℕ) (kind : CertificateFaultKind) → Cause said line kind → is_read_kind kind ≡ false
not_read said line kinds.Line h = refl
not_read said line kinds.Order h = refl
not_read said line (kinds.Map fault) h = refl
not_read said line kinds.Limit h = refl
not_read said line kinds.Read h = absurd h
not_read said line kinds.Memory h = refl

-- nor is an error one
pub never_read : {X : Type 0} (said : CertificateContent) (line : List ℕ) (r : Result X CertificateFaultKind)
    → IfErr r (λ kind. (kind ≡ kinds.Memory) ⊎ Cause said line kind) → IfErr r (λ kind. is_read_kind kind ≡ false)
never_read said line (Ok x) h = tt
never_read said line (Err kind) (inl memory) = rw memory refl
never_read said line (Err kind) (inr cause) = not_read said line kind cause

-- ---- The lines

-- a list that cannot but be empty
none_unless : {X : Type 0} (xs : List X) → ¬ (xs ≢ []) → xs ≡ []
none_unless [] h = refl
none_unless (x ∷ xs) h = absurd (h (λ e. cc))

-- above a level that is not passed there are no runs
pub none_above : (content : CertificateContent) (level higher : Level) → ¬ (IsPassed content level) → level_number level < level_number higher
    → at_level higher content ≡ []
none_above content level higher due h = none_unless (at_level higher content) (λ some. due (higher, h, some))

-- one run more is one line more
level_more : (level : Level) (runs : List Run) (run : Run) → of_level level (runs ++ run ∷ []) ≡ of_level level runs ++ record { level = level; run = run } ∷ []
level_more level [] run = refl
level_more level (r ∷ runs) run = ap (λ (ls : List RunLine). record { level = level; run = r } ∷ ls) (level_more level runs run)

-- and the last of all, where the level is not passed
pub run_lines_more : (content : CertificateContent) (level : Level) (run : Run) → ¬ (IsPassed content level)
    → run_lines (put_last level run content) ≡ run_lines content ++ record { level = level; run = run } ∷ []
run_lines_more content One run due =
    let second : content.secondary ≡ [] = none_above content One Two due (omega arith) in
    let third : content.tertiary ≡ [] = none_above content One Three due (omega arith) in
    rw (second, third, level_more One content.primary run) (simp append-nil)
run_lines_more content Two run due =
    let third : content.tertiary ≡ [] = none_above content Two Three due (omega arith) in
    rw (third, level_more Two content.secondary run) (simp (append-nil, append_assoc))
run_lines_more content Three run due = rw (level_more Three content.tertiary run) (simp append_assoc)

-- ---- How many there are

-- each run is a line
length-of_level : (level : Level) (runs : List Run) → length (of_level level runs) ≡ length runs
length-of_level level runs = length-map runs (λ (run : Run). record { level = level; run = run })

-- of each level
pub length-run_lines : (content : CertificateContent)
    → length (run_lines content) ≡ length content.primary + (length content.secondary + length content.tertiary)
length-run_lines content = omega (
  arith,
  length-append (of_level One content.primary) (of_level Two content.secondary ++ of_level Three content.tertiary),
  length-append (of_level Two content.secondary) (of_level Three content.tertiary),
  length-of_level One content.primary,
  length-of_level Two content.secondary,
  length-of_level Three content.tertiary,
)

-- three levels have fewer than a million lines
pub few_lines : (lines : List (List ℕ)) (said : CertificateContent) → Says lines said → length lines < 1000000
few_lines lines said says = omega (
  arith,
  ap length says.text,
  length-map (run_lines said) run_text,
  length-run_lines said,
  says.few One,
  says.few Two,
  says.few Three,
)

-- with room for it a run may be added
few_more : (old : CertificateContent) (level : Level) (run : Run) → ((other : Level) → length (at_level other old) ≤ 0xFFFF)
    → length (at_level level old) < 0xFFFF
    → (other : Level) → length (at_level other (put_last level run old)) ≤ 0xFFFF
few_more old One run few room One = omega (arith, length-append old.primary (run ∷ []))
few_more old One run few room Two = few Two
few_more old One run few room Three = few Three
few_more old Two run few room One = few One
few_more old Two run few room Two = omega (arith, length-append old.secondary (run ∷ []))
few_more old Two run few room Three = few Three
few_more old Three run few room One = few One
few_more old Three run few room Two = few Two
few_more old Three run few room Three = omega (arith, length-append old.tertiary (run ∷ []))

-- ---- One line more

-- lines and one more say the runs with one more
pub says_more : (lines : List (List ℕ)) (old : CertificateContent) (line : List ℕ) (new : CertificateContent) → Says lines old → Takes old line new
    → Says (lines ++ line ∷ []) new
says_more lines old line new says takes =
    let P : CertificateContent → Type 0 = Says (lines ++ line ∷ []) in
    let more = run_lines_more old takes.said.level takes.said.run takes.due in
    let last : lines ++ line ∷ [] ≡ map run_text (run_lines old ++ takes.said ∷ []) =
    rw (says.text, takes.is_line.text) (sym (map-append run_text (run_lines old) (takes.said ∷ []))) in
    subst P (sym takes.adds) (record {
      text = last ∙ ap (map run_text) (sym more);
      fit = subst (AllByRecursion IsRunLine) (sym more) ((each_push IsRunLine (run_lines old) takes.said).1 (says.fit, takes.is_line.fits));
      few = few_more old takes.said.level takes.said.run says.few takes.room;
    })

-- The text of a certificate, level by level.
use Rattle.std.proofs.Common.{◌≡◌, ℕ, ◌*◌, List, [], ◌∷◌, ◌++◌, length, refl, sym, ap, ◌∙◌, arith, length-append, append-nil}
use Rattle.std.specs.List.{flat_map}
use Rattle.std.proofs.lemmas.Grind.{flat_map-append}
use Rattle.std.proofs.lemmas.List.Folds.{flat_map-map}
use Rattle.uca_weights.specs.declared.Level.{Level}
use Rattle.uca_weights.specs.declared.Level.TheVariants.{One, Two, Three}
use Rattle.uca_weights.specs.declared.maps.Run.{Run}
use Rattle.uca_lines.specs.Lines.{ended}
use Rattle.uca_lines.specs.OutputBuffer.{BufferState}
use Rattle.uca_lines.specs.Buffered.{count_of, HasRoom}
use Rattle.uca_lines.proofs.BufferedLemmas.{part}
use Rattle.uca_certificates.specs.Certificates.{CertificateContent, IsCertificate}
use Rattle.uca_certificates.specs.Texts.{RunLine, run_text, of_level, run_lines, certificate_text}
use Rattle.uca_certificates.specs.inside.Steps.{level_text}
use Rattle.uca_certificates.proofs.TextsLemmas.{length-run_lines}
use Rattle.uca_certificates.proofs.LineLaws.{length-run_text}
use Rattle.uca_certificates.proofs.Sizes.{few_proper}

-- the line of a run of some level, with its LF
abbrev pub line_at : Level → Run → List ℕ
line_at level run = ended (run_text (record { level = level; run = run }))

-- the texts of the three levels
abbrev pub certificate_parts : CertificateContent → List (List ℕ)
certificate_parts content = level_text One content.primary ∷ level_text Two content.secondary ∷ level_text Three content.tertiary ∷ []

-- it is that of its lines
lines_text : (level : Level) (runs : List Run) → flat_map (λ (l : RunLine). ended (run_text l)) (of_level level runs) ≡ level_text level runs
unfolding level_text
lines_text level runs = flat_map-map (λ (l : RunLine). ended (run_text l)) (λ (run : Run). record { level = level; run = run }) runs

-- the text of a certificate is those of its levels
pub certificate_text_is : (content : CertificateContent) → certificate_text content ≡ flat_map part (certificate_parts content)
certificate_text_is content =
    let text = λ (l : RunLine). ended (run_text l) in
    let first = of_level One content.primary in
    let second = of_level Two content.secondary in
    let third = of_level Three content.tertiary in
    let split = flat_map-append text first (second ++ third) ∙ ap (λ t. flat_map text first ++ t) (flat_map-append text second third) in
    split ∙ rw (lines_text One content.primary, lines_text Two content.secondary, lines_text Three content.tertiary)
    (ap (λ t. level_text One content.primary ++ (level_text Two content.secondary ++ t)) (sym (append-nil (level_text Three content.tertiary))))

-- each line has 17 bytes
length-lines : (ls : List RunLine) → length (flat_map (λ (l : RunLine). ended (run_text l)) ls) ≡ length ls * 17
length-lines [] = refl
length-lines (l ∷ ls) = omega (
  arith,
  length-append (ended (run_text l)) (flat_map (λ (m : RunLine). ended (run_text m)) ls),
  length-append (run_text l) (10 ∷ []),
  length-run_text l,
  length-lines ls,
)

-- there is room for a certificate at the beginning
pub certificate_fits : (content : CertificateContent) (buffer : BufferState) → count_of buffer ≡ 0 → IsCertificate content
    → HasRoom buffer (length (certificate_text content))
certificate_fits content buffer none h = omega (
  arith,
  none,
  length-lines (run_lines content),
  length-run_lines content,
  few_proper One content.primary h.primary,
  few_proper Two content.secondary h.secondary,
  few_proper Three content.tertiary h.tertiary,
)

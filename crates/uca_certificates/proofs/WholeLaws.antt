-- Whole certificates: bytes mean at most one, and none if they are rejected for a cause in them.
use Rattle.std.proofs.Common.{◌≡◌, ◌||◌, Bool, false, inl, inr, ℕ, ◌≤◌, List, [], ◌∷◌, length, map, Option, Some, None, Result, Ok, Err, IfSome, IfOk, IfErr, MatchResult, refl, sym, ap, subst, ◌∙◌, arith}
use Rattle.std.specs.Prelude.{OnOk}
use Rattle.std.specs.List.{flat_map, AllByRecursion}
use Rattle.std.proofs.lemmas.List.Folds.{flat_map-map}
use Rattle.uca_weights.specs.declared.Level.{Level}
use Rattle.uca_weights.specs.declared.Level.TheVariants.{One, Two, Three}
use Rattle.uca_weights.specs.Runs.{AreProperRuns}
use Rattle.uca_weights.proofs.PerLevel.{holds_at}
use Rattle.uca_weights.proofs.RunMaps.{faulty_not_proper}
use Rattle.uca_weights.proofs.Lists.{each_append}
use Rattle.uca_lines.specs.Lines.{ended}
use Rattle.uca_lines.specs.Files
use Rattle.uca_lines.specs.Files.{IsFileLine, AreLines, ReadsLines, RefusesLine}
use Rattle.uca_lines.proofs.FileLemmas.{one_meaning, no_meaning}
use Rattle.uca_certificates.specs.declared.TheConstants.{CERTIFICATE_FORM}
use Rattle.uca_certificates.specs.declared.faults.CertificateFault.{CertificateFault}
use Rattle.uca_weights.specs.PerLevel.{at_level}
use Rattle.uca_certificates.specs.Certificates.{CertificateContent, IsCertificate}
use Rattle.uca_certificates.specs.Texts.{RunLine, run_text, of_level, run_lines, Means, IsRunLine, Says, Cause, FaultOfMap, Refuses, IsStop, is_read, is_read_kind}
use Rattle.uca_certificates.specs.inside.Steps.{RefusesContent}
use Rattle.uca_certificates.proofs.LineLaws.{length-run_text, run_text_lacks_lf}
use Rattle.uca_certificates.proofs.Exact.{exact, says_same}
use Rattle.uca_certificates.proofs.Sizes.{few_proper, proper_fit}

-- ---- The text of a certificate is its lines

-- lines with LF, as texts or as lines
text_is : (ls : List RunLine) → flat_map (λ l. ended (run_text l)) ls ≡ flat_map ended (map run_text ls)
text_is ls = sym (flat_map-map ended run_text ls)

-- a file may have them
file_lines : (ls : List RunLine) → AllByRecursion (IsFileLine CERTIFICATE_FORM) (map run_text ls)
file_lines [] = tt
file_lines (l ∷ ls) = (record { lacks = run_text_lacks_lf l; short = omega (arith, length-run_text l) }, file_lines ls)

-- the lines of a certificate are acceptable
certificate_says : (content : CertificateContent) → IsCertificate content → Says (map run_text (run_lines content)) content
certificate_says content h = record {
  text = refl;
  fit = each_append IsRunLine (of_level One content.primary) _ (proper_fit One content.primary h.primary)
      (each_append IsRunLine (of_level Two content.secondary) _ (proper_fit Two content.secondary h.secondary) (proper_fit Three content.tertiary h.tertiary));
  few = few;
}
  where
    few : (level : Level) → length (at_level level content) ≤ 0xFFFF
    few One = few_proper One content.primary h.primary
    few Two = few_proper Two content.secondary h.secondary
    few Three = few_proper Three content.tertiary h.tertiary

-- bytes that mean a certificate are lines that say its runs
means_reads : (bytes : List ℕ) (content : CertificateContent) → Means bytes content → Files.Reads CERTIFICATE_FORM Says bytes content
means_reads bytes content h = (
  length (map run_text (run_lines content)),
  record {
    lines = map run_text (run_lines content);
    divides = record { parts = h.text ∙ text_is (run_lines content); each = file_lines (run_lines content); count = tt };
    says = certificate_says content h.maps;
    many = refl;
  },
)

-- and the other way round
reads_means : (bytes : List ℕ) (count : ℕ) (content : CertificateContent) → ReadsLines CERTIFICATE_FORM Says bytes count content → IsCertificate content
    → Means bytes content
reads_means bytes count content h maps =
    record { text = h.divides.parts ∙ ap (flat_map ended) h.says.text ∙ sym (text_is (run_lines content)); maps = maps }

-- ---- What bytes mean

-- bytes mean one certificate
pub means_same : (bytes : List ℕ) (c d : CertificateContent) → Means bytes c → Means bytes d → c ≡ d
means_same bytes c d h k = one_meaning CERTIFICATE_FORM Says says_same bytes c d (means_reads bytes c h) (means_reads bytes d k)

-- so where runs make no map the bytes mean no certificate
no_fault_of_map : (bytes : List ℕ) (fault : CertificateFault) (content : CertificateContent) → FaultOfMap bytes fault → Means bytes content → ⊥
no_fault_of_map bytes fault content h means =
    let same : content ≡ h.content = one_meaning CERTIFICATE_FORM Says says_same bytes content h.content (means_reads bytes content means) h.reads in
    let maps : IsCertificate h.content = subst IsCertificate same means.maps in
    faulty_not_proper h.level (at_level h.level h.content) h.cause h.is_fault (holds_at AreProperRuns h.level h.content maps)

-- bytes that mean a certificate are rejected only by a stop
pub stops : (bytes : List ℕ) (left : Option (List ℕ)) (fault : CertificateFault) (content : CertificateContent) → Refuses bytes left fault → Means bytes content
    → IsStop fault.kind
stops bytes left fault content (inl (inl read)) means = inl read.0
stops bytes left fault content (inl (inr (inl memory))) means = inr memory.0
stops bytes left fault content (inl (inr (inr line))) means =
    absurd (no_meaning CERTIFICATE_FORM Says Cause (λ s. ⊥) exact bytes fault.line fault.kind content (inl line)
    (means_reads bytes content means) (λ none. none))
stops bytes left fault content (inr map) means = absurd (no_fault_of_map bytes fault content map means)

-- what bytes mean is returned, unless reading stops
pub only_known : {X : Type 0} (view : X → CertificateContent) (known left : Option (List ℕ)) (r : Result X CertificateFault)
    → IfSome known (λ bytes. IfOk r (λ x. Means bytes (view x))) → IfSome known (λ bytes. IfErr r (Refuses bytes left))
    → IfSome known (λ bytes. (content : CertificateContent) → Means bytes content → MatchResult r (λ x. view x ≡ content) (λ fault. IsStop fault.kind))
only_known view None left r found fault = tt
only_known view (Some bytes) left (Ok x) found fault = λ content means. means_same bytes (view x) content found means
only_known view (Some bytes) left (Err e) found fault = λ content means. stops bytes left e content fault means

-- ---- What is returned

-- lines that are rejected
pub refused_line : (known left : Option (List ℕ)) (fault : CertificateFault)
    → IfSome known (λ bytes. RefusesLine CERTIFICATE_FORM Says Cause bytes left fault.line fault.kind) → IfSome known (λ bytes. Refuses bytes left fault)
refused_line None left fault h = tt
refused_line (Some bytes) left fault h = inl h

-- runs of a level that make no map
pub refused_content : (known left : Option (List ℕ)) (count : ℕ) (content : CertificateContent) (fault : CertificateFault)
    → IfSome known (λ bytes. ReadsLines CERTIFICATE_FORM Says bytes count content) → RefusesContent content fault
    → IfSome known (λ bytes. Refuses bytes left fault)
refused_content None left count content fault h refuses = tt
refused_content (Some bytes) left count content fault h refuses = inr (record {
  content = content;
  reads = (count, h);
  level = refuses.level;
  lower = refuses.lower;
  cause = refuses.cause;
  is_fault = refuses.is_fault;
  kind = refuses.kind;
  place = refuses.place;
})

-- if an error is returned for runs of a level that make no map, the bytes are rejected with it
pub fault_content : (known left : Option (List ℕ)) (count : ℕ) (content : CertificateContent) (r : Result CertificateContent CertificateFault)
    → IfSome known (λ bytes. ReadsLines CERTIFICATE_FORM Says bytes count content) → IfErr r (RefusesContent content)
    → IfSome known (λ bytes. IfErr r (Refuses bytes left))
fault_content None left count content r h refuses = tt
fault_content (Some bytes) left count content (Ok read) h refuses = tt
fault_content (Some bytes) left count content (Err fault) h refuses = refused_content (Some bytes) left count content fault h refuses

-- no read failed there
pub failed_content : (old new : Bool) (content : CertificateContent) (r : Result CertificateContent CertificateFault)
    → IfErr r (RefusesContent content) → new ≡ (old || false) → new ≡ (old || is_read r)
failed_content old new content (Ok read) refuses same = same
failed_content old new content (Err fault) refuses same = same ∙ ap (λ kind. old || is_read_kind kind) (sym refuses.kind)

-- the certificate of the runs
pub found_content : (known : Option (List ℕ)) (count : ℕ) (content : CertificateContent) (r : Result CertificateContent CertificateFault)
    → IfSome known (λ bytes. ReadsLines CERTIFICATE_FORM Says bytes count content) → IfOk r (λ read. read ≡ content) → OnOk r (IsCertificate content)
    → IfSome known (λ bytes. IfOk r (Means bytes))
found_content None count content r h is maps = tt
found_content (Some bytes) count content (Err fault) h is maps = tt
found_content (Some bytes) count content (Ok read) h is maps = subst (Means bytes) (sym is) (reads_means bytes count content h maps)

-- a line that is rejected, where the bytes are known
pub rejected_line : (known left : Option (List ℕ)) (fault : CertificateFault)
    → IfSome known (λ bytes. RefusesLine CERTIFICATE_FORM Says Cause bytes left fault.line fault.kind) → IfSome known (λ bytes. Refuses bytes left fault)
rejected_line None left fault h = tt
rejected_line (Some bytes) left fault h = inl h

-- The files of a change mean one change, and those of a tailoring one tailoring.
use Rattle.std.proofs.Common.{◌≡◌, ℕ, List, [], ◌∷◌, sym, subst, ◌∙◌}
use Rattle.std.specs.Prelude.{⊤}
use Rattle.uca_values.specs.Content.{Properties, TableContent}
use Rattle.uca_lines.specs.declared.files.TheConstants.{TABLE_FORM}
use Rattle.uca_lines.proofs.FileLemmas.{one_value}
use Rattle.uca_table.specs.DataSoFar as data_files
use Rattle.uca_table.specs.TableLines as tables
use Rattle.uca_table.proofs.DataMeanings as data_meanings
use Rattle.uca_table.proofs.TableMeanings as table_meanings
use Rattle.uca_rules.proofs.MeaningLaws as rules
use Rattle.uca_certificates.proofs.WholeLaws as certificates
use Rattle.uca_change_files.proofs.FileLaws as changes
use Rattle.uca_run_parts.specs.Files.{Reading, Done, Then, Mean, audit_files}
use Rattle.uca_change_runs.specs.ChangeFiles.{change_files}
use Rattle.uca_upgrades.specs.Laws.{sources_of}

-- bytes mean one value
abbrev MeansOne : {V : Type 0} → (List ℕ → V → Type 0) → Type 0
MeansOne {V} Means = (bytes : List ℕ) (v w : V) → Means bytes v → Means bytes w → v ≡ w

-- those of each file do, where the files before it mean what they mean
abbrev EachMeansOne : {C : Type 0} → Reading C → Type 0
EachMeansOne (Done content) = ⊤
EachMeansOne (Then {V} role Means Refuses next) = MeansOne Means × ((value : V) → EachMeansOne (next value))

-- so all of them mean one thing together
pub mean_one : {C : Type 0} (reading : Reading C) → EachMeansOne reading → (files : List (List ℕ)) (a b : C) →
    Mean reading (sources_of files) a → Mean reading (sources_of files) b → a ≡ b
mean_one (Done content) ones [] a b one other = one ∙ sym other
mean_one (Done content) ones (bytes ∷ files) a b one other = absurd one
mean_one (Then role Means Refuses next) ones [] a b one other = absurd one
mean_one (Then role Means Refuses next) ones (bytes ∷ files) a b (v, means, rest) (w, other_means, other_rest) =
    mean_one (next v) (ones.1 v) files a b rest
    (subst (λ x. Mean (next x) (sources_of files) b) (sym (ones.0 bytes v w means other_means)) other_rest)

table_one : (bytes : List ℕ) (v w : TableContent) → tables.Means bytes v → tables.Means bytes w → v ≡ w
table_one bytes v w one other = one_value TABLE_FORM tables.Says tables.Gives table_meanings.exact.same table_meanings.gives_one bytes v w one other

data_one : (bytes : List ℕ) (v w : Properties) → data_files.Means bytes v → data_files.Means bytes w → v ≡ w
data_one bytes v w one other = one_value TABLE_FORM data_files.Says data_files.Gives data_meanings.exact.same data_meanings.gives_one bytes v w one other

pub changes_mean_one : EachMeansOne change_files
changes_mean_one = (
  table_one,
  (λ old. (
    data_one,
    (λ old_properties. (
      table_one,
      (λ new. (
        data_one,
        (λ new_properties.
            (changes.means_same, (λ list. (certificates.means_same, (λ certificate. tt))))),
      )),
    )),
  )),
)

pub tailorings_mean_one : EachMeansOne audit_files
tailorings_mean_one = (
  table_one,
  (λ base. (
    data_one,
    (λ properties. (
      rules.one_meaning properties,
      (λ relations. (
        table_one,
        (λ tailored.
            (certificates.means_same, (λ certificate. tt))),
      )),
    )),
  )),
)

-- What a run of affected lines returns and writes.
use Rattle.std.specs.Prelude.{◌≡◌, ◌↔◌, ℕ, List, [], Bool, false, if◌then◌else◌, Result, Err, IsTrue}
use Rattle.uca_weights.specs.declared.Numbers.{Numbers}
use Rattle.uca_weights.specs.Streams.{SourceState, SinkState}
use Rattle.uca_values.specs.Content.{Properties}
use Rattle.uca_text.specs.Texts.{NfdText}
use Rattle.uca_lines.specs.Lines.{ended}
use Rattle.uca_relations.specs.declared.Relation.{Relation}
use Rattle.uca_relations.specs.Relations.{IsUntouched}
use Rattle.uca_changes.specs.AffectedTexts.{is_affected}
use Rattle.uca_run_parts.specs.declared.faults.Role.{Role}
use Rattle.uca_run_parts.specs.declared.faults.RunFault.{RunFault}
use Rattle.uca_run_parts.specs.declared.faults.RunFault.TheVariants.{Memory}
use Rattle.uca_run_parts.specs.Input.{line_text}
use Rattle.uca_run_parts.specs.EachLine.{RunsEach, PrintsEach, ended_before_input}
use Rattle.uca_run_parts.specs.Files.{DataAndRules, Reading, data_and_rules, data_and_rules_roles}

-- the texts that rules affect are all but those that the rules leave as they are
abbrev pub AffectedTextsAreTheOthers : Type 0
AffectedTextsAreTheOthers = (relations : List Relation) (text : List ℕ) → (is_affected relations text ≡ false) ↔ IsUntouched relations text

-- what is written of a text's line: the line, where this is so of the text
abbrev pub if_so : (List ℕ → Bool) → List ℕ → List ℕ → List ℕ
if_so is_so text line = if is_so text then ended line else []

-- that of a line of the input, which is UTF-8, by what is read of it
abbrev pub line_if : (List ℕ → Bool) → (List ℕ → NfdText) → List ℕ → List ℕ
line_if is_so read_of line = if_so is_so (read_of line).points line

-- Files that say which texts are affected. What they mean has the properties of code points, and affects texts. Looking
-- texts up may take memory of its own.
pub record Affecting : Type 1 where
  pub Content : Type 0
  pub files : Reading Content
  pub file_roles : List Role
  pub properties : Content → Properties
  pub affects : Content → List ℕ → Bool
  pub takes_memory : Bool

-- What a run of affected lines returns for what its files mean: it writes these lines. Nothing but its files ends it before
-- its input, or an allocation that failed for looking texts up.
abbrev pub RunsAffected : {A : Type 0} → (affecting : Affecting) → Numbers → SourceState → SourceState → SinkState → SinkState → Result A RunFault → affecting.Content → Type 0
RunsAffected affecting numbers input input_new out out_new (Err Memory) files = IsTrue affecting.takes_memory
RunsAffected affecting numbers input input_new out out_new result files = let read_of = line_text numbers (affecting.properties files) in
    (ended_before_input result ≡ false) × RunsEach read_of (line_if (affecting.affects files) read_of) input input_new out out_new result

-- A run of the lines that are affected.
abbrev pub PrintsAffected : {A : Type 0} → Affecting → Numbers → List SourceState → List SourceState → SourceState → SourceState → SinkState → SinkState → Result A RunFault → Type 0
PrintsAffected affecting numbers olds news input input_new out out_new result =
    PrintsEach affecting.files affecting.file_roles (RunsAffected affecting numbers input input_new out out_new result) olds news input input_new out out_new result

-- by a data file and rules: what has a target of theirs
abbrev pub by_rules : Affecting
by_rules = record {
  Content = DataAndRules;
  files = data_and_rules;
  file_roles = data_and_rules_roles;
  properties = λ files. files.properties;
  affects = λ files. is_affected files.relations;
  takes_memory = false;
}

-- What a run of the lines that changes affect goes by.
use Rattle.std.specs.Prelude.{true}
use Rattle.uca_editions.specs.AffectedTexts.{is_affected_by}
use Rattle.uca_run_parts.specs.AffectedRun.{Affecting}
use Rattle.uca_change_runs.specs.ChangeFiles.{DataAndChanges, data_and_changes, data_and_changes_roles}

-- a data file and a file of changes: what has a changed text or a changed code point
abbrev pub by_changes : Affecting
by_changes = record {
  Content = DataAndChanges;
  files = data_and_changes;
  file_roles = data_and_changes_roles;
  properties = λ files. files.properties;
  affects = λ files. is_affected_by files.list;
  takes_memory = true;
}

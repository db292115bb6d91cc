-- What a call says of the run of a command.
use Rattle.std.specs.Prelude.{◌≡◌, ◌++◌, [], ℕ, false, List, length, take, drop, Option, Some, None}
use Rattle.uca_weights.specs.Streams.{SourceState, SinkState}
use Rattle.uca_cli.specs.Command.{DoesCommand, streams}
use Rattle.uca_command_in_memory.specs.TextLists.{texts_in}
use Rattle.uca_command_in_memory.specs.MemoryFiles.{MemoryState, given_files, memory_files}
use Rattle.uca_command_in_memory.specs.declared.lengths.Lengths.{Lengths}

-- input that is these bytes, before it is read
abbrev pub unread : List ℕ → SourceState
unread bytes = record { remaining = Some bytes; failed = false }

-- an output to which nothing was written
abbrev pub unwritten : SinkState
unwritten = record { contents = Some []; failed = false }

-- The command ran over these arguments, files and input. It ended with this status, and wrote this output and these
-- errors. `kept` is the file that it made and kept.
pub record RunsInMemory (arguments names files : List (List ℕ)) (input : List ℕ)
    (status : ℕ) (out err : List ℕ) (kept : Option (List ℕ)) : Type 0 where
  pub after : MemoryState
  pub input_after : SourceState
  pub out_after : SinkState
  pub err_after : SinkState
  pub does : DoesCommand memory_files (given_files names files) after arguments
      (streams (unread input) unwritten) (streams input_after out_after) unwritten err_after status
  pub is_out : out_after.contents ≡ Some out
  pub is_err : err_after.contents ≡ Some err
  pub is_kept : after.kept ≡ kept

-- How many bytes there are is told. As many as there is room for are at the beginning of the caller's memory, and the
-- rest of that is as before.
pub record Tells (bytes before after : List ℕ) (count : ℕ) : Type 0 where
  pub length_is : count ≡ length bytes
  pub written : after ≡ take (length before) bytes ++ drop (length bytes) before

-- the bytes of a file that was kept, or none
abbrev pub kept_bytes : Option (List ℕ) → List ℕ
kept_bytes None = []
kept_bytes (Some bytes) = bytes

-- whether a file was kept, as a number
abbrev pub kept_count : Option (List ℕ) → ℕ
kept_count None = 0
kept_count (Some bytes) = 1

-- the caller's memory for output, errors and the file that is kept
pub record Rooms : Type 0 where
  pub out : List ℕ
  pub err : List ℕ
  pub kept : List ℕ

abbrev pub rooms : List ℕ → List ℕ → List ℕ → Rooms
rooms out err kept = record { out = out; err = err; kept = kept }

-- The command ran over the arguments and the files that these bytes name, and what it wrote is told.
pub record TellsRun (argument_bytes name_bytes : List ℕ) (files : List (List ℕ)) (input : List ℕ)
    (before after : Rooms) (lengths : Lengths) (status : ℕ) : Type 0 where
  pub out : List ℕ
  pub err : List ℕ
  pub kept : Option (List ℕ)
  pub ran : RunsInMemory (texts_in argument_bytes) (texts_in name_bytes) files input status out err kept
  pub tells_out : Tells out before.out after.out lengths.out
  pub tells_err : Tells err before.err after.err lengths.err
  pub tells_kept : Tells (kept_bytes kept) before.kept after.kept lengths.kept
  pub tells_count : lengths.files ≡ kept_count kept

-- nothing is written and told
pub record TellsNothing (before after : Rooms) (lengths : Lengths) : Type 0 where
  pub unwritten : after ≡ before
  pub out : lengths.out ≡ 0
  pub err : lengths.err ≡ 0
  pub kept : lengths.kept ≡ 0
  pub files : lengths.files ≡ 0

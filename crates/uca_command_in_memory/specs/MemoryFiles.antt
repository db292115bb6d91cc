-- Files in the caller's memory: those that are given have names, and one can be made.
use Rattle.std.specs.Prelude.{◌≡◌, ◌∷◌, [], ℕ, false, if◌then◌else◌, List, Option, Some, None, Ok, option_copied}
use Rattle.std.specs.Result.{result_ok}
use Rattle.std.specs.Borrow.{Bor}
use Rattle.std.specs.Str.{bytes_eq}
use Rattle.uca_host.specs.FileCalls.{FileCalls}
use Rattle.uca_host.specs.NamedFiles.{FileSystem, file_system}

-- the names and the bytes of the files that are given, and the bytes of the file that was made and kept
pub record MemoryState : Type 0 where
  pub names : List (List ℕ)
  pub files : List (List ℕ)
  pub kept : Option (List ℕ)

-- these names and files, before a file is made
abbrev pub given_files : List (List ℕ) → List (List ℕ) → MemoryState
given_files names files = record { names = names; files = files; kept = None }

-- the file of a name: that at the place of the first such name
abbrev pub file_of : List (List ℕ) → List (List ℕ) → List ℕ → Option (List ℕ)
file_of (given ∷ names) (file ∷ files) name = if bytes_eq given name then Some file else file_of names files name
file_of _ _ name = None

-- Files are opened by their names, as often as one likes. Two names are of two files. A file can be made, and it is
-- kept whatever its name is.
abbrev pub memory_calls : FileCalls MemoryState (Bor (List ℕ)) (List ℕ)
memory_calls = record {
  gives = λ old name result new. (option_copied (result_ok result) ≡ file_of old.names old.files name) × (new ≡ old);
  compares = λ old left right same new. (same ≡ false) × (new ≡ old);
  makes = λ old name result new. (result ≡ Ok []) × (new ≡ old);
  keeps = λ old file name result new. (result ≡ Ok record {}) × (new ≡ record { names = old.names; files = old.files; kept = Some file });
  removes = λ old file new. new ≡ old;
}

-- the file system of these files
abbrev pub memory_files : FileSystem MemoryState (Bor (List ℕ)) (List ℕ)
memory_files = file_system memory_calls (λ file. Some file.now) (λ file. Some file)

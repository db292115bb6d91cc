-- What a run returns and writes that changes the keys of the lines of its input, after a header or without one.
use Rattle.std.specs.Prelude.{◌≡◌, ◌≢◌, ◌⊎◌, ℕ, suc, ◌+◌, ◌^◌, ◌<◌, List, [], ◌∷◌, ◌++◌, length, Option, Some, None, option_map, IfSome, IsSomeAnd, Result, Ok, Err, ⊤}
use Rattle.std.specs.List.{flat_map}
use Rattle.std.specs.Io.KnownBytes.{Appends}
use Rattle.uca_weights.specs.declared.Depth.{Depth}
use Rattle.uca_weights.specs.declared.Numbers.TheVariants.{AsText}
use Rattle.uca_weights.specs.declared.Settings.{Settings}
use Rattle.uca_weights.specs.declared.Weighting.{Weighting}
use Rattle.uca_weights.specs.Streams.{SourceState, SinkState}
use Rattle.uca_books.specs.Books.{BookContent}
use Rattle.uca_books.specs.BookTexts.{book_text}
use Rattle.uca_fingerprint.specs.Fingerprints.{compact_fingerprint}
use Rattle.uca_fingerprint.specs.KeyHeaders.{compact_header, key_header}
use Rattle.uca_lines.specs.Lines.{is_lf, Lacks, ended, lines_of}
use Rattle.uca_tailorings.specs.Inputs.{maps_of}
use Rattle.uca_run_parts.specs.declared.faults.Role.{Role}
use Rattle.uca_run_parts.specs.declared.faults.Role.TheVariants as roles
use Rattle.uca_run_parts.specs.declared.faults.RunFault.{RunFault}
use Rattle.uca_run_parts.specs.declared.faults.RunFault.TheVariants.{StoredKey, Write, Memory}
use Rattle.uca_run_parts.specs.declared.faults.StoredKeyKind.{StoredKeyKind}
use Rattle.uca_run_parts.specs.declared.faults.StoredKeyKind.TheVariants as kinds
use Rattle.uca_run_parts.specs.EachLine.{PrintsEach}
use Rattle.uca_run_parts.specs.Files.{Reading}
use Rattle.uca_run_parts.specs.Runs.{PartWentOut}
use Rattle.uca_run_parts.specs.ReadFiles.{book_file, certificate_file}
use Rattle.uca_rekey.specs.ChangedLines.{Headers, KeyChange, LineBecomes, LinesBecomeAfter, compacts, expands, key_in, moves}

-- ---- A line that has no new line

-- The line has more than 2^30 bytes. Or its new line has more than 2^63 together with those of the lines before it,
-- each with its LF.
abbrev pub IsTooLong : KeyChange → Option Headers → List (List ℕ) → List ℕ → Type 0
IsTooLong change headers before line = (2 ^ 30 < length line)
    ⊎ ((news : List (List ℕ)) × (new : List ℕ) × LinesBecomeAfter change headers before news × LineBecomes change line new
    × (2 ^ 63 < length (flat_map ended news) + length (ended new)))

-- Why a line after these has no new line. A key that becomes none has an error of its own in each run. An allocation may
-- fail at any line.
abbrev pub IsChangeCause : KeyChange → Option Headers → List (List ℕ) → List ℕ → StoredKeyKind → Type 0
IsChangeCause change headers before line kinds.NoKey = key_in line ≡ None
IsChangeCause change headers before line kinds.TooLong = IsTooLong change headers before line
IsChangeCause change headers before line kinds.Memory = ⊤
IsChangeCause change headers before line kinds.Header = ⊥
IsChangeCause change headers before line kinds.Read = ⊥
IsChangeCause change headers before line kind = (change.none ≡ kind) × IsSomeAnd (key_in line) (λ key. change.becomes key None)

-- the first of these lines has the property
abbrev pub Begins : List (List ℕ) → (List ℕ → Type 0) → Type 0
Begins [] P = ⊥
Begins (line ∷ later) P = P line

-- Reading failed: the bytes are these lines, each ended by an LF, then a part without LF, and what the source has left.
pub record FailsAfter (bytes left : List ℕ) (before : List (List ℕ)) : Type 0 where
  pub part : List ℕ
  pub parts : bytes ≡ flat_map ended before ++ (part ++ left)
  pub lacks : Lacks is_lf part

-- why the line after these is not read, or has no new line
abbrev pub HasCause : KeyChange → Option Headers → List ℕ → Option (List ℕ) → List (List ℕ) → List (List ℕ) → StoredKeyKind → Type 0
HasCause change headers bytes left before rest kinds.Read = IsSomeAnd left (λ unread. FailsAfter bytes unread before)
HasCause change headers bytes left before rest kind = Begins rest (λ line. IsChangeCause change headers before line kind)

-- An error at line `number` of these bytes, whose source has something left: these lines come before it, and it has this cause.
pub record IsLineFault (change : KeyChange) (headers : Option Headers) (bytes : List ℕ) (left : Option (List ℕ)) (before : List (List ℕ)) (number : ℕ) (kind : StoredKeyKind) : Type 0 where
  pub rest : List (List ℕ)
  pub lines : lines_of bytes ≡ before ++ rest
  pub place : number ≡ suc (length before)
  pub cause : HasCause change headers bytes left before rest kind

-- ---- A first line that is not the header

-- the first of these lines is another than the header, or there is none
abbrev pub LacksHeader : List ℕ → List (List ℕ) → Type 0
LacksHeader header [] = ⊤
LacksHeader header (line ∷ later) = line ≢ header

-- why these bytes, which are these lines, do not begin with the header, or why their first line is not read
abbrev pub HasHeaderCause : List ℕ → List ℕ → Option (List ℕ) → List (List ℕ) → StoredKeyKind → Type 0
HasHeaderCause header bytes left lines kinds.Header = LacksHeader header lines
HasHeaderCause header bytes left lines kinds.TooLong = Begins lines (λ line. 2 ^ 30 < length line)
HasHeaderCause header bytes left lines kinds.Read = IsSomeAnd left (λ unread. FailsAfter bytes unread [])
HasHeaderCause header bytes left lines kinds.Memory = Begins lines (λ line. ⊤)
HasHeaderCause header bytes left lines _ = ⊥

-- ---- The run

-- What is written of an input: the new lines of all its lines, or of those before the first that has an error. After an
-- error of the writer it is a part of the new lines of some first lines. The source has something left, and the writer
-- held `begun` and holds `now`.
abbrev pub WritesChanged : {A : Type 0} → KeyChange → Option Headers → List ℕ → Option (List ℕ) → Option (List ℕ) → Option (List ℕ) → Result A RunFault → Type 0
WritesChanged change headers bytes left begun now (Ok x) =
    (news : List (List ℕ)) × LinesBecomeAfter change headers (lines_of bytes) news × Appends begun now (flat_map ended news)
WritesChanged change headers bytes left begun now (Err (StoredKey number kind)) =
    (before news : List (List ℕ)) × IsLineFault change headers bytes left before number kind × LinesBecomeAfter change headers before news
    × Appends begun now (flat_map ended news)
WritesChanged change headers bytes left begun now (Err (Write written)) =
    (before news rest : List (List ℕ)) × (lines_of bytes ≡ before ++ rest) × LinesBecomeAfter change headers before news × PartWentOut begun now (flat_map ended news) written
WritesChanged change headers bytes left begun now (Err _) = ⊥

-- What is written where a header has to come first. If the first line is not the old header, or is not read, nothing is.
abbrev pub WritesAfterHeader : {A : Type 0} → KeyChange → Headers → List ℕ → Option (List ℕ) → Option (List ℕ) → Option (List ℕ) → Result A RunFault → Type 0
WritesAfterHeader {A = A} change headers bytes left begun now (Err (StoredKey number kind)) =
    ((number ≡ 1) × HasHeaderCause headers.old bytes left (lines_of bytes) kind × (now ≡ begun))
    ⊎ WritesChanged {A = A} change (Some headers) bytes left begun now (Err (StoredKey number kind))
WritesAfterHeader change headers bytes left begun now result = WritesChanged change (Some headers) bytes left begun now result

-- what a run writes of an input, with a header or without one
abbrev pub WritesNewLines : {A : Type 0} → KeyChange → Option Headers → List ℕ → Option (List ℕ) → Option (List ℕ) → Option (List ℕ) → Result A RunFault → Type 0
WritesNewLines change None bytes left begun now result = WritesChanged change None bytes left begun now result
WritesNewLines change (Some headers) bytes left begun now result = WritesAfterHeader change headers bytes left begun now result

-- What a run returns that changes keys so. An allocation that failed before the input says nothing of the lines.
abbrev pub RunsChange : {A : Type 0} → KeyChange → Option Headers → SourceState → SourceState → SinkState → SinkState → Result A RunFault → Type 0
RunsChange change headers input input_new out out_new (Err Memory) = ⊤
RunsChange change headers input input_new out out_new result =
    IfSome input.remaining (λ bytes. WritesNewLines change headers bytes input_new.remaining out.contents out_new.contents result)

-- A run that changes the keys of lines by what a file means. The headers, if there are some, may depend on it too.
abbrev pub ChangesLines : {A C : Type 0} → Reading C → Role → (C → KeyChange) → (C → Option Headers) → List SourceState → List SourceState → SourceState → SourceState → SinkState → SinkState → Result A RunFault → Type 0
ChangesLines file role change headers olds news input input_new out out_new result =
    PrintsEach file (role ∷ []) (λ content. RunsChange (change content) (headers content) input input_new out out_new result) olds news input input_new out out_new result

-- ---- What it is run for

-- the settings that keys were made under: a run that reads no table need not know how numbers compare
abbrev pub settings_of : Weighting → Depth → Settings
settings_of weighting depth = record { weighting = weighting; depth = depth; numbers = AsText }

-- the headers of keys with these two fingerprints
abbrev pub key_headers : Settings → List ℕ × List ℕ → Headers
key_headers settings sums = record { old = key_header settings sums.0; new = key_header settings sums.1 }

-- The header of keys with this fingerprint, and in its place that of their compact keys by a book. The fingerprint of
-- these is made of the first one and of the bytes of the book.
abbrev pub compact_headers : Settings → BookContent → List ℕ → Headers
compact_headers settings book keys = record { old = key_header settings keys; new = compact_header settings (compact_fingerprint keys (book_text book)) }

-- the two headers the other way round
abbrev pub swapped : Headers → Headers
swapped headers = record { old = headers.new; new = headers.old }

-- A run that puts the keys of lines through the maps of a certificate. `NoImage` is its error at a key that has no image.
abbrev pub RekeysLines : {A : Type 0} → Weighting → Depth → (sums : Option (List ℕ × List ℕ)) → List SourceState → List SourceState → SourceState → SourceState → SinkState → SinkState → Result A RunFault → Type 0
RekeysLines weighting depth sums =
    ChangesLines certificate_file roles.Certificate (λ certificate. moves depth weighting (maps_of certificate)) (λ certificate. option_map (key_headers (settings_of weighting depth)) sums)

-- A run that compacts the keys of lines by a book. `OtherKey` is its error at a key that is none of this weighting and
-- depth.
abbrev pub CompactsLines : {A : Type 0} → Weighting → Depth → (keys : Option (List ℕ)) → List SourceState → List SourceState → SourceState → SourceState → SinkState → SinkState → Result A RunFault → Type 0
CompactsLines weighting depth keys =
    ChangesLines book_file roles.Book (compacts depth weighting) (λ book. option_map (compact_headers (settings_of weighting depth) book) keys)

-- A run that expands the compact keys of lines. `NoCompactKey` is its error at bytes that no key has.
abbrev pub ExpandsLines : {A : Type 0} → Weighting → Depth → (keys : Option (List ℕ)) → List SourceState → List SourceState → SourceState → SourceState → SinkState → SinkState → Result A RunFault → Type 0
ExpandsLines weighting depth keys =
    ChangesLines book_file roles.Book (expands depth weighting) (λ book. option_map swapped (option_map (compact_headers (settings_of weighting depth) book) keys))

-- Files of lines: which bytes are lines, what the bytes mean, and where an error is.
--
-- How a kind of file is cut into lines, and what its errors are called, is its format. What its lines say is (Says
-- lines s): the lines, from the first on, are acceptable in order and say s. Why the next line is rejected is (Cause s
-- line kind).
use Rattle.std.specs.Prelude.{◌≡◌, ◌≢◌, ℕ, suc, ◌<◌, ◌≤◌, ◌⊎◌, ⊤, List, [], ◌∷◌, ◌++◌, length, Option, Some, IfSome, IsSomeAnd}
use Rattle.std.specs.List.{flat_map, AllByRecursion}
use Rattle.uca_lines.specs.Lines.{is_lf, Lacks, ended}
use Rattle.uca_lines.specs.declared.files.FileForm.{FileForm}

-- a line without its LF, as a file may have it
pub record IsFileLine {K : Type 0} (form : FileForm K) (line : List ℕ) : Type 0 where
  pub lacks : Lacks is_lf line
  pub short : length line ≤ form.longest

-- the bytes are these lines, each ended by an LF
pub record AreLines {K : Type 0} (form : FileForm K) (bytes : List ℕ) (lines : List (List ℕ)) : Type 0 where
  pub parts : bytes ≡ flat_map ended lines
  pub each : AllByRecursion (IsFileLine form) lines
  pub count : IfSome form.too_many (λ kind. length lines ≤ 1000000)

-- the bytes are `count` lines, and these say s
pub record ReadsLines {K S : Type 0} (form : FileForm K) (Says : List (List ℕ) → S → Type 0) (bytes : List ℕ) (count : ℕ) (s : S) : Type 0 where
  pub lines : List (List ℕ)
  pub divides : AreLines form bytes lines
  pub says : Says lines s
  pub many : length lines ≡ count

-- the bytes are lines that say s
abbrev pub Reads : {K S : Type 0} → FileForm K → (List (List ℕ) → S → Type 0) → List ℕ → S → Type 0
Reads form Says bytes s = (count : ℕ) × ReadsLines form Says bytes count s

-- The bytes mean v: they are lines, and what these say gives v, by (Gives s v).
abbrev pub Means : {K S V : Type 0} → FileForm K → (List (List ℕ) → S → Type 0) → (S → V → Type 0) → List ℕ → V → Type 0
Means {K} {S} form Says Gives bytes v = (s : S) × Reads form Says bytes s × Gives s v

-- The bytes begin with lines that are acceptable in order and say s. The rest begins line `number`.
pub record Reaches {K S : Type 0} (form : FileForm K) (Says : List (List ℕ) → S → Type 0) (bytes : List ℕ) (number : ℕ) (s : S) (rest : List ℕ) : Type 0 where
  pub front : List ℕ
  pub before : List (List ℕ)
  pub parts : bytes ≡ front ++ rest
  pub divides : AreLines form front before
  pub says : Says before s
  pub place : number ≡ suc (length before)

-- nothing, or an LF and all that follows it
abbrev pub EndsLine : List ℕ → Type 0
EndsLine [] = ⊤
EndsLine (byte ∷ bytes) = byte ≡ 10

-- A text begins with line `number` of a file, after lines that say s. A cause of the kind is in this line:
-- in its length, in its number, in the LF that it lacks, or in what it says.
pub record BeginsFault {K S : Type 0} (form : FileForm K) (Cause : S → List ℕ → K → Type 0) (s : S) (number : ℕ) (text : List ℕ) (kind : K) : Type 0 where
  pub line : List ℕ
  pub more : List ℕ
  pub parts : text ≡ line ++ more
  pub lacks : Lacks is_lf line
  pub ends : EndsLine more
  pub stands : text ≢ []
  pub cause : ((form.longest < length line) × (kind ≡ form.too_long))
      ⊎ ((1000000 < number) × (form.too_many ≡ Some kind))
      ⊎ ((more ≡ []) × (kind ≡ form.no_lf))
      ⊎ Cause s line kind

-- of a line that begins a text only a part was read, and this is left
pub record LosesPart {K : Type 0} (form : FileForm K) (text left : List ℕ) : Type 0 where
  pub part : List ℕ
  pub parts : text ≡ part ++ left
  pub lacks : Lacks is_lf part
  pub short : length part ≤ form.longest

-- the lines before line `number` are acceptable in order, and a cause of the kind is in it
pub record FaultInLine {K S : Type 0} (form : FileForm K) (Says : List (List ℕ) → S → Type 0) (Cause : S → List ℕ → K → Type 0) (bytes : List ℕ)
    (number : ℕ) (kind : K) : Type 0 where
  pub said : S
  pub rest : List ℕ
  pub reaches : Reaches form Says bytes number said rest
  pub begins : BeginsFault form Cause said number rest kind

-- the lines are acceptable in order, but the file may not end with them; the position is past the last one
pub record FaultAtEnd {K S : Type 0} (form : FileForm K) (Says : List (List ℕ) → S → Type 0) (IsUnfinished : S → Type 0) (bytes : List ℕ) (number : ℕ)
    (kind : K) : Type 0 where
  pub said : S
  pub reaches : Reaches form Says bytes number said []
  pub unfinished : IsUnfinished said
  pub early : form.early_end ≡ Some kind

-- a cause of the kind is in line `number`, or past the last line
abbrev pub HasFault : {K S : Type 0} → FileForm K → (List (List ℕ) → S → Type 0) → (S → List ℕ → K → Type 0) → (S → Type 0) → List ℕ → ℕ → K → Type 0
HasFault form Says Cause IsUnfinished bytes number kind = FaultInLine form Says Cause bytes number kind ⊎ FaultAtEnd form Says IsUnfinished bytes number kind

-- the lines before line `number` are acceptable in order
pub record StopsAt {K S : Type 0} (form : FileForm K) (Says : List (List ℕ) → S → Type 0) (bytes : List ℕ) (number : ℕ) : Type 0 where
  pub said : S
  pub rest : List ℕ
  pub reaches : Reaches form Says bytes number said rest

-- the lines before line `number` are acceptable in order, and of this line only a part was read
pub record FailsIn {K S : Type 0} (form : FileForm K) (Says : List (List ℕ) → S → Type 0) (bytes left : List ℕ) (number : ℕ) : Type 0 where
  pub said : S
  pub rest : List ℕ
  pub reaches : Reaches form Says bytes number said rest
  pub loses : LosesPart form rest left

-- Why the lines of known bytes were not all taken. The source failed in line `number`, which leaves these
-- bytes; an allocation failed there; or a cause of the kind is there.
abbrev pub RefusesLine : {K S : Type 0} → FileForm K → (List (List ℕ) → S → Type 0) → (S → List ℕ → K → Type 0) → List ℕ → Option (List ℕ) → ℕ → K → Type 0
RefusesLine form Says Cause bytes left number kind = ((kind ≡ form.failed_read) × IsSomeAnd left (λ rest. FailsIn form Says bytes rest number))
    ⊎ ((kind ≡ form.no_memory) × StopsAt form Says bytes number)
    ⊎ FaultInLine form Says Cause bytes number kind

-- why a file of known bytes was rejected: one of its lines was, or it may not end where it does
abbrev pub Refuses : {K S : Type 0} → FileForm K → (List (List ℕ) → S → Type 0) → (S → List ℕ → K → Type 0) → (S → Type 0) → List ℕ → Option (List ℕ)
    → ℕ → K → Type 0
Refuses form Says Cause IsUnfinished bytes left number kind =
    RefusesLine form Says Cause bytes left number kind ⊎ FaultAtEnd form Says IsUnfinished bytes number kind

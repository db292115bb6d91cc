-- When the lines of a kind of file have one meaning, and what follows for whole files.
use Rattle.std.specs.Prelude.{◌≡◌, ℕ, List, [], ◌∷◌, ◌++◌}
use Rattle.uca_lines.specs.declared.files.FileForm.{FileForm}
use Rattle.uca_lines.specs.Files.{Reads, HasFault}

-- Lines say at most one thing, and a line with a cause is part of no acceptable lines.
pub record IsExact {K S : Type 0} (Says : List (List ℕ) → S → Type 0) (Cause : S → List ℕ → K → Type 0) : Type 0 where
  pub same : (lines : List (List ℕ)) (s t : S) → Says lines s → Says lines t → s ≡ t
  pub excluded : (before : List (List ℕ)) (s : S) (line : List ℕ) (kind : K) (more : List (List ℕ)) (t : S) → Says before s → Cause s line kind
      → Says (before ++ line ∷ more) t → ⊥

-- As `IsExact`, line by line: the last of some lines is taken after the others, with one result; a line
-- with a cause is not taken.
pub record IsExactByLine {K S : Type 0} (Says : List (List ℕ) → S → Type 0) (Takes : S → List ℕ → S → Type 0) (Cause : S → List ℕ → K → Type 0) : Type 0 where
  pub start : (s t : S) → Says [] s → Says [] t → s ≡ t
  pub last : (before : List (List ℕ)) (line : List ℕ) (t : S) → Says (before ++ line ∷ []) t → (s : S) × Says before s × Takes s line t
  pub one : (s : S) (line : List ℕ) (t u : S) → Takes s line t → Takes s line u → t ≡ u
  pub barred : (s : S) (line : List ℕ) (kind : K) (t : S) → Cause s line kind → Takes s line t → ⊥

-- bytes mean at most one thing
abbrev pub OneMeaning : {K S : Type 0} → FileForm K → (List (List ℕ) → S → Type 0) → Type 0
OneMeaning {K} {S} form Says = (bytes : List ℕ) (s t : S) → Reads form Says bytes s → Reads form Says bytes t → s ≡ t

-- bytes with an error in them mean nothing with which a file may end
abbrev pub NoMeaning : {K S : Type 0} → FileForm K → (List (List ℕ) → S → Type 0) → (S → List ℕ → K → Type 0) → (S → Type 0) → Type 0
NoMeaning {K} {S} form Says Cause IsUnfinished = (bytes : List ℕ) (number : ℕ) (kind : K) (s : S)
    → HasFault form Says Cause IsUnfinished bytes number kind → Reads form Says bytes s → (IsUnfinished s → ⊥) → ⊥

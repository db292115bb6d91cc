-- Where the lines of a text are cut.
use Rattle.std.proofs.Common.{◌≡◌, ℕ, ◌<◌, true, false, List, [], ◌∷◌, ◌++◌, length, refl, ap, sym, ◌∙◌, arith}
use Rattle.std.specs.List.{onto_first, position_or_len}
use Rattle.uca_lines.specs.Lines.{is_lf, Lacks, lines_of}

-- a line, its LF and what follows
pub lines_of-ended : (line rest : List ℕ) → Lacks is_lf line → lines_of (line ++ 10 ∷ rest) ≡ line ∷ lines_of rest
lines_of-ended [] rest lacks = refl
lines_of-ended (b ∷ line) rest lacks = rw (lacks.0, lines_of-ended line rest lacks.1) refl

-- a last line
pub lines_of-last : (b : ℕ) (line : List ℕ) → Lacks is_lf (b ∷ line) → lines_of (b ∷ line) ≡ (b ∷ line) ∷ []
lines_of-last b [] lacks = rw lacks.0 refl
lines_of-last b (c ∷ line) lacks = rw lacks.0 (ap (onto_first b) (lines_of-last c line lacks.1))

-- what is no line at the end is one that begins
pub record FirstLine (bytes : List ℕ) : Type 0 where
  pub line : List ℕ
  pub later : List (List ℕ)
  pub lines : lines_of bytes ≡ line ∷ later
  pub long : length line ≡ position_or_len is_lf bytes

after_lf : (b : ℕ) (bytes : List ℕ) → is_lf b ≡ true → FirstLine (b ∷ bytes)
after_lf b bytes h = record { line = []; later = lines_of bytes; lines = rw h refl; long = rw h refl }

onto_line : (b : ℕ) (bytes : List ℕ) → is_lf b ≡ false → FirstLine bytes → FirstLine (b ∷ bytes)
onto_line b bytes h f = record {
  line = b ∷ f.line;
  later = f.later;
  lines = rw (h, f.lines) refl;
  long = rw (h, f.long) (omega arith);
}

alone : (b : ℕ) → is_lf b ≡ false → FirstLine (b ∷ [])
alone b h = record { line = b ∷ []; later = []; lines = rw h refl; long = rw h refl }

pub first_line : (b : ℕ) (bytes : List ℕ) → FirstLine (b ∷ bytes)
first_line b [] = elim (is_lf b) as (λ v. is_lf b ≡ v → FirstLine (b ∷ [])) [ true ↦ after_lf b [] | false ↦ alone b ] refl
first_line b (c ∷ bytes) =
    let later = first_line c bytes in
    elim (is_lf b) as (λ v. is_lf b ≡ v → FirstLine (b ∷ c ∷ bytes)) [ true ↦ after_lf b (c ∷ bytes) | false ↦ λ h. onto_line b (c ∷ bytes) h later ] refl

-- bytes are at least one line
pub some_line : (bytes : List ℕ) → 0 < length bytes → lines_of bytes ≡ [] → ⊥
some_line [] some h = omega arith
some_line (b ∷ bytes) some h = no_first (b ∷ bytes) (first_line b bytes) h
  where
    no_first : (all : List ℕ) → FirstLine all → lines_of all ≡ [] → ⊥
    no_first all f none = let both : [] ≡ f.line ∷ f.later = sym none ∙ f.lines in cc

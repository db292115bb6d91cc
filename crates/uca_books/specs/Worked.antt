-- Two books and four texts that are none, worked out by hand.
use Rattle.std.specs.Prelude.{ℕ, List, [], ◌∷◌, ◌++◌, codes}
use Rattle.std.specs.List.{flat_map}
use Rattle.uca_values.specs.declared.faults.FaultKind.{FaultKind}
use Rattle.uca_values.specs.declared.faults.FaultKind.TheVariants as kinds
use Rattle.uca_lines.specs.Lines.{ended}
use Rattle.uca_lines.specs.Files.{HasFault}
use Rattle.uca_lines.specs.declared.files.TheConstants.{TABLE_FORM}
use Rattle.uca_books.specs.Books.{BookContent}
use Rattle.uca_books.specs.BookTexts.{Says, Cause, IsUnfinished, Means}

-- these lines, each with its LF
abbrev pub text : List (List ℕ) → List ℕ
text lines = flat_map ended lines

-- a cause of the kind is in this line, and the bytes mean no book
pub record IsRejected (bytes : List ℕ) (line : ℕ) (kind : FaultKind) : Type 0 where
  pub fault : HasFault TABLE_FORM Says Cause IsUnfinished bytes line kind
  pub none : (book : BookContent) → ¬ (Means bytes book)

pub record WorkedBooks : Type 0 where
  -- one cell a level
  pub plain : Means (text (codes "@book 1" ∷ [])) (record { letters = []; variables = [] })
  -- three cells at level 1, two at level 4
  pub cells : Means (text (codes "@book 1" ∷ codes "1 0002" ∷ codes "1 1C47" ∷ codes "4 FFFE" ∷ []))
      (record { letters = 0x0002 ∷ 0x1C47 ∷ []; variables = 0xFFFE ∷ [] })
  -- a start that is not greater than the one before it
  pub same : IsRejected (text (codes "@book 1" ∷ codes "1 1C47" ∷ codes "1 1C47" ∷ [])) 3 kinds.Order
  -- the first cell, which begins by itself
  pub first : IsRejected (text (codes "@book 1" ∷ codes "1 0001" ∷ [])) 2 kinds.Weight
  -- a start of level 1 after one of level 4
  pub late : IsRejected (text (codes "@book 1" ∷ codes "4 0200" ∷ codes "1 1C47" ∷ [])) 3 kinds.Order
  -- no LF at the end
  pub no_lf : IsRejected (text (codes "@book 1" ∷ []) ++ codes "1 1C47") 2 kinds.Line

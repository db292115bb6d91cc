-- What bytes mean as changes, as a statement.
use Rattle.std.specs.Prelude.{◌≡◌, ℕ, List}
use Rattle.uca_change_files.specs.Changes.{ChangeContent}
use Rattle.uca_change_files.specs.ChangeTexts.{Means}

-- Bytes mean at most one list of changes.
abbrev pub BytesMeanAtMostOneChangeList : Type 0
BytesMeanAtMostOneChangeList = (bytes : List ℕ) (a b : ChangeContent) → Means bytes a → Means bytes b → a ≡ b

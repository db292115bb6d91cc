-- The lines of a table file before its rows (UTS #10, section 9.1).
use Rattle.std.specs.Prelude.{◌≡◌, ◌≢◌, ℕ, ◌≤◌, ◌⊎◌, true, List, [], ◌∷◌, length, Some, None, Ok, Err, IsOk}
use Rattle.std.specs.List.{AllByRecursion}
use Rattle.uca_weights.specs.declared.Weighting.{Weighting}
use Rattle.uca_values.specs.declared.faults.FaultKind.{FaultKind}
use Rattle.uca_values.specs.declared.faults.FaultKind.TheVariants as kinds
use Rattle.uca_lines.specs.declared.fields.RangeSyntax.TheVariants as faults
use Rattle.uca_lines.specs.Fields.{is_semicolon, up_to, from_first, skip_blanks, trim, word_of, after_word}
use Rattle.uca_lines.specs.Numbers.{weight_of}
use Rattle.uca_lines.specs.CodePointRanges.{range_of}
use Rattle.uca_values.specs.declared.ImplicitRange.{ImplicitRange}
use Rattle.uca_values.specs.Content.{is_version_name, IsImplicitRange, Agree}
use Rattle.uca_table.specs.CanonicalWords.{at_version, at_variable, at_ranges, setting_word}

-- what follows the first word, without the blanks between them
abbrev pub argument_of : List ℕ → List ℕ
argument_of text = skip_blanks (after_word text)

-- `@version` and a name
pub record IsVersion (text name : List ℕ) : Type 0 where
  pub word : word_of text ≡ at_version
  pub argument : argument_of text ≡ name
  pub named : is_version_name name ≡ true

-- `@variable non-ignorable` or `@variable shifted`
pub record IsSetting (text : List ℕ) (setting : Weighting) : Type 0 where
  pub word : word_of text ≡ at_variable
  pub argument : argument_of text ≡ setting_word setting

-- `FIRST..LAST; LEAD`, with any numbers
pub record IsRangeText (text : List ℕ) (r : ImplicitRange) : Type 0 where
  pub rest : List ℕ
  pub cut : from_first is_semicolon text ≡ 59 ∷ rest
  pub ends : range_of (trim (up_to is_semicolon text)) ≡ Ok (r.first, r.last)
  pub lead : weight_of (trim rest) ≡ Some r.lead

-- the range may come after these
pub record MayFollow (earlier : List ImplicitRange) (r : ImplicitRange) : Type 0 where
  pub alone : IsImplicitRange r
  pub agrees : AllByRecursion (λ s. Agree s r) earlier

-- `@implicitweights` and a range
pub record IsRange (text : List ℕ) (r : ImplicitRange) : Type 0 where
  pub word : word_of text ≡ at_ranges
  pub range : IsRangeText (after_word text) r

-- the first cause in what follows `@implicitweights` is of this kind
abbrev pub RangeTextCause : List ℕ → FaultKind → Type 0
RangeTextCause text kinds.Line = (from_first is_semicolon text ≡ []) ⊎ (range_of (trim (up_to is_semicolon text)) ≡ Err faults.NoDots)
RangeTextCause text kinds.CodePoint = (from_first is_semicolon text ≢ []) × (range_of (trim (up_to is_semicolon text)) ≡ Err faults.CodePoint)
RangeTextCause text kinds.Weight = (rest : List ℕ) × (from_first is_semicolon text ≡ 59 ∷ rest) × IsOk (range_of (trim (up_to is_semicolon text)))
    × (weight_of (trim rest) ≡ None)
RangeTextCause text _ = ⊥

-- the first cause why a range may not come after these is of this kind
abbrev pub FollowCause : List ImplicitRange → ImplicitRange → FaultKind → Type 0
FollowCause earlier r kinds.Range = MayFollow earlier r → ⊥
FollowCause earlier r kinds.Limit = MayFollow earlier r × (256 ≤ length earlier)
FollowCause earlier r _ = ⊥

-- the first cause of this text after `@implicitweights`, after these ranges
abbrev pub RangeCause : List ImplicitRange → List ℕ → FaultKind → Type 0
RangeCause earlier text kind = RangeTextCause text kind ⊎ ((r : ImplicitRange) × IsRangeText text r × FollowCause earlier r kind)

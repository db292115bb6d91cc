-- The header of key lines: a first line that has to be one.
use Rattle.std.proofs.Common.{◌≡◌, ◌≢◌, ℕ, false, List, [], ◌∷◌, Option, Some, None, IfSome, Err, refl, sym, subst}
use Rattle.uca_weights.specs.Streams.{SourceState, SinkState}
use Rattle.uca_lines.specs.Lines.{lines_of}
use Rattle.uca_run_parts.specs.declared.key_sizes.KeySizes.{KeySizes}
use Rattle.uca_run_parts.specs.EachLine.{ended_before_input}
use Rattle.uca_run_parts.specs.declared.faults.RunFault.{RunFault}
use Rattle.uca_run_parts.specs.declared.faults.RunFault.TheVariants.{File, Digits, Memory}
use Rattle.uca_run_parts.specs.declared.faults.StoredKeyKind.{StoredKeyKind}
use Rattle.uca_run_parts.specs.declared.faults.StoredKeyKind.TheVariants as kinds
use Rattle.uca_run_parts.specs.LinesSoFar.{OnKnown}
use Rattle.uca_rekey.specs.ChangeRun.{HasHeaderCause, LacksHeader}
use Rattle.uca_rekey.specs.inside.ChangeSoFar.{WritesLine, WrittenState}
use Rattle.uca_rekey.specs.inside.LinesInPlace.{LinesState, HasRead, IsAfter, IsNotRead, left_of}

-- there is none
pub no_header : (header : List ℕ) (start left : Option (List ℕ)) → IfSome start (λ bytes. lines_of bytes ≡ [])
    → IfSome start (λ bytes. HasHeaderCause header bytes left (lines_of bytes) kinds.Header)
no_header header None left none = tt
no_header header (Some bytes) left none = subst (LacksHeader header) (sym none) tt

-- it is another one
pub other_header : (header line : List ℕ) (start : Option (List ℕ)) (lines : LinesState) (input : SourceState) → HasRead start (line ∷ []) lines input → line ≢ header
    → IfSome start (λ bytes. HasHeaderCause header bytes input.remaining (lines_of bytes) kinds.Header)
other_header header line start lines input read other = go start (left_of lines input) read
  where
    go : (s o : Option (List ℕ)) → OnKnown s o (λ bytes left. IsAfter bytes left lines.at_end (line ∷ []))
        → IfSome s (λ bytes. HasHeaderCause header bytes input.remaining (lines_of bytes) kinds.Header)
    go None o after = tt
    go (Some bytes) None after = absurd after
    go (Some bytes) (Some xs) after = subst (LacksHeader header) (sym after.lines) other

-- it is not read
pub header_unread : (header : List ℕ) (start left : Option (List ℕ)) (kind : StoredKeyKind) → IfSome start (λ bytes. IsNotRead bytes left [] kind)
    → IfSome start (λ bytes. HasHeaderCause header bytes left (lines_of bytes) kind)
header_unread header None left kind unread = tt
header_unread header (Some bytes) left kinds.NoKey unread = absurd unread.cause
header_unread header (Some bytes) left kinds.NoImage unread = absurd unread.cause
header_unread header (Some bytes) left kinds.OtherKey unread = absurd unread.cause
header_unread header (Some bytes) left kinds.NoCompactKey unread = absurd unread.cause
header_unread header (Some bytes) left kinds.Header unread = absurd unread.cause
header_unread header (Some bytes) left kinds.TooLong unread =
    subst (λ (ls : List (List ℕ)). HasHeaderCause header bytes left ls kinds.TooLong) (sym unread.lines) unread.cause
header_unread header (Some bytes) left kinds.Read unread = unread.cause
header_unread header (Some bytes) left kinds.Memory unread =
    subst (λ (ls : List (List ℕ)). HasHeaderCause header bytes left ls kinds.Memory) (sym unread.lines) unread.cause

-- neither an error of the writer nor one of the size comes before the lines
pub line_not_before : (line : List ℕ) (old new : WrittenState) (out now : SinkState) (fault : RunFault) → WritesLine {A = Unit {0}} line old new out now (Err fault)
    → ended_before_input {A = KeySizes} (Err fault) ≡ false
line_not_before line old new out now (File role cause) stops = absurd stops
line_not_before line old new out now (Digits row) stops = absurd stops
line_not_before line old new out now Memory stops = absurd stops
line_not_before line old new out now _ stops = refl

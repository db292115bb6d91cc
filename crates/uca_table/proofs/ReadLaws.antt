-- From the lines of a table file to the whole of it: why it is rejected, and that it means one table.
use Rattle.std.proofs.Common.{◌≡◌, ◌∙◌, ℕ, ◌+◌, List, [], Option, Some, None, refl, sym, inl, inr, arith, append-nil}
use Rattle.std.specs.Prelude.{IfSome}
use Rattle.uca_values.specs.Content.{TableContent}
use Rattle.uca_values.specs.declared.faults.FaultKind.{FaultKind}
use Rattle.uca_values.specs.declared.faults.FaultKind.TheVariants as kinds
use Rattle.uca_lines.specs.declared.files.TheConstants.{TABLE_FORM}
use Rattle.uca_lines.specs.Files.{ReadsLines, RefusesLine, Refuses, StopsAt}
use Rattle.uca_lines.proofs.FileLemmas.{refused_at_end}
use Rattle.uca_table.specs.TableSoFar.{TableSoFar}
use Rattle.uca_table.specs.TableLines.{Says, Cause, IsUnfinished, Means}

pub refused_line : (known left : Option (List ℕ)) (number : ℕ) (kind : FaultKind)
    → IfSome known (λ bytes. RefusesLine TABLE_FORM Says Cause bytes left number kind)
    → IfSome known (λ bytes. Refuses TABLE_FORM Says Cause IsUnfinished bytes left number kind)
refused_line None left number kind h = tt
refused_line (Some bytes) left number kind h = inl h

pub refused_end : (known left : Option (List ℕ)) (count : ℕ) (b : TableSoFar) → IfSome known (λ bytes. ReadsLines TABLE_FORM Says bytes count b)
    → IsUnfinished b → IfSome known (λ bytes. Refuses TABLE_FORM Says Cause IsUnfinished bytes left (count + 1) kinds.Order)
refused_end None left count b h u = tt
refused_end (Some bytes) left count b h u = inr (refused_at_end TABLE_FORM Says IsUnfinished bytes count (count + 1) b kinds.Order h u refl refl)

-- a table that is the one that was read is the only one too
pub only_of : (known : Option (List ℕ)) (read same : TableContent) → IfSome known (λ bytes. (table : TableContent) → Means bytes table → read ≡ table)
    → same ≡ read → IfSome known (λ bytes. (table : TableContent) → Means bytes table → same ≡ table)
only_of None read same only is = tt
only_of (Some bytes) read same only is = λ table means. is ∙ only table means

-- after all lines reading may stop, past the last one
pub stops_at_end : (known : Option (List ℕ)) (count : ℕ) (b : TableSoFar) → IfSome known (λ bytes. ReadsLines TABLE_FORM Says bytes count b)
    → IfSome known (λ bytes. StopsAt TABLE_FORM Says bytes (count + 1))
stops_at_end None count b h = tt
stops_at_end (Some bytes) count b h = record {
  said = b;
  rest = [];
  reaches = record {
    front = bytes;
    before = h.lines;
    parts = sym (append-nil bytes);
    divides = h.divides;
    says = h.says;
    place = omega (arith, h.many);
  };
}

pub out_of_memory : (known left : Option (List ℕ)) (count : ℕ) → IfSome known (λ bytes. StopsAt TABLE_FORM Says bytes (count + 1))
    → IfSome known (λ bytes. Refuses TABLE_FORM Says Cause IsUnfinished bytes left (count + 1) kinds.Memory)
out_of_memory None left count h = tt
out_of_memory (Some bytes) left count h = inl (inr (inl (refl, h)))

-- Rows whose keys and elements are kept in one list each.
use Rattle.std.specs.Prelude.{ℕ, ◌+◌, ◌≤◌, List, map, length, slice_range}
use Rattle.std.specs.List.{AllByRecursion}
use Rattle.uca_weights.specs.declared.Element.{Element}
use Rattle.uca_values.specs.declared.packed.Span.{Span}
use Rattle.uca_values.specs.declared.packed.RowSpans.{RowSpans}
use Rattle.uca_values.specs.Content.{Entry}

-- the row that two spans name
abbrev pub row_in : List ℕ → List Element → RowSpans → Entry
row_in points elements spans = record {
  key = slice_range points spans.key.start spans.key.end;
  elements = slice_range elements spans.elements.start spans.elements.end;
}

abbrev pub rows_in : List ℕ → List Element → List RowSpans → List Entry
rows_in points elements spans = map (row_in points elements) spans

-- a span is within a list
abbrev pub IsSpan : {X : Type 0} → List X → Span → Type 0
IsSpan list span = (span.start ≤ span.end) × (span.end ≤ length list)

abbrev pub AreSpans : List ℕ → List Element → List RowSpans → Type 0
AreSpans points elements spans = AllByRecursion (λ s. IsSpan points s.key × IsSpan elements s.elements) spans

-- the span of what comes after a list
abbrev pub last_span : {X : Type 0} → List X → List X → Span
last_span list more = record { start = length list; end = length list + length more }

-- Rows whose keys and elements are kept in one list each: what comes later changes no row, and is one row more.
use Rattle.std.proofs.Common.{◌≡◌, ℕ, suc, zero, ◌+◌, ◌-◌, ◌<◌, List, [], ◌∷◌, ◌++◌, length, get_or, take, drop, slice_range, refl, ap, ap₂, sym, subst, ◌∙◌}
use Rattle.std.proofs.Common.{arith, length-append, length-drop}
use Rattle.std.proofs.lemmas.List.{take-append-le, drop-append-le, drop_at, take_all, get_or-map, length-map}
use Rattle.uca_weights.specs.declared.Element.{Element}
use Rattle.uca_values.specs.declared.packed.Span.{Span}
use Rattle.uca_values.specs.declared.packed.RowSpans.{RowSpans}
use Rattle.uca_values.specs.Content.{Entry}
use Rattle.uca_values.specs.inside.RowParts.{AreSpans, IsSpan, last_span, row_in, rows_in}

-- what comes after a list changes no span of it
part_stays : {X : Type 0} (list more : List X) (span : Span) → IsSpan list span →
    slice_range (list ++ more) span.start span.end ≡ slice_range list span.start span.end
part_stays list more span is =
    ap (take (span.end - span.start)) (drop-append-le span.start list more (omega (arith, is.0, is.1)))
    ∙ take-append-le (span.end - span.start) (drop span.start list) more (omega (arith, is.0, is.1, length-drop span.start list))

-- and has a span of its own
part_new : {X : Type 0} (list more : List X) → slice_range (list ++ more) (length list) (length list + length more) ≡ more
part_new list more =
    ap₂ take (let count : length list + length more - length list ≡ length more = omega arith in count) (drop_at list more (length list) refl)
    ∙ take_all (length more) more (omega arith)

span_stays : {X : Type 0} (list more : List X) (span : Span) → IsSpan list span → IsSpan (list ++ more) span
span_stays list more span is = (is.0, omega (arith, is.1, length-append list more))

span_new : {X : Type 0} (list more : List X) → IsSpan (list ++ more) (last_span list more)
span_new list more = (omega arith, omega (arith, length-append list more))

rows_stay_by : (points more : List ℕ) (elements others : List Element) (spans : List RowSpans) → AreSpans points elements spans →
    rows_in (points ++ more) (elements ++ others) spans ≡ rows_in points elements spans
rows_stay_by points more elements others [] are = refl
rows_stay_by points more elements others (s ∷ spans) are =
    ap₂ (λ (r : Entry) rows. r ∷ rows)
    (ap₂ (λ k e. record { key = k; elements = e }) (part_stays points more s.key are.0.0) (part_stays elements others s.elements are.0.1))
    (rows_stay_by points more elements others spans are.1)

spans_stay_by : (points more : List ℕ) (elements others : List Element) (spans : List RowSpans) → AreSpans points elements spans →
    AreSpans (points ++ more) (elements ++ others) spans
spans_stay_by points more elements others [] are = tt
spans_stay_by points more elements others (s ∷ spans) are =
    ((span_stays points more s.key are.0.0, span_stays elements others s.elements are.0.1), spans_stay_by points more elements others spans are.1)

spans_push_by : (points more : List ℕ) (elements others : List Element) (spans : List RowSpans) → AreSpans points elements spans →
    AreSpans (points ++ more) (elements ++ others) (spans ++ record { key = last_span points more; elements = last_span elements others } ∷ [])
spans_push_by points more elements others [] are = ((span_new points more, span_new elements others), tt)
spans_push_by points more elements others (s ∷ spans) are =
    ((span_stays points more s.key are.0.0, span_stays elements others s.elements are.0.1), spans_push_by points more elements others spans are.1)

rows_push_by : (points more : List ℕ) (elements others : List Element) (spans : List RowSpans) → AreSpans points elements spans →
    rows_in (points ++ more) (elements ++ others) (spans ++ record { key = last_span points more; elements = last_span elements others } ∷ [])
    ≡ rows_in points elements spans ++ record { key = more; elements = others } ∷ []
rows_push_by points more elements others [] are =
    ap₂ (λ k e. record { key = k; elements = e } ∷ []) (part_new points more) (part_new elements others)
rows_push_by points more elements others (s ∷ spans) are =
    ap₂ (λ (r : Entry) rows. r ∷ rows)
    (ap₂ (λ k e. record { key = k; elements = e }) (part_stays points more s.key are.0.0) (part_stays elements others s.elements are.0.1))
    (rows_push_by points more elements others spans are.1)

-- As `rows_stay_by`, for lists and spans that are equal to its own.
pub rows_stay : (points more all : List ℕ) (elements others every : List Element) (spans same : List RowSpans) → AreSpans points elements spans →
    all ≡ points ++ more → every ≡ elements ++ others → same ≡ spans → rows_in all every same ≡ rows_in points elements spans
rows_stay points more all elements others every spans same are is_all is_every is_same =
    ap₂ (λ ps es. rows_in ps es same) is_all is_every ∙ ap (rows_in (points ++ more) (elements ++ others)) is_same
    ∙ rows_stay_by points more elements others spans are

pub spans_stay : (points more all : List ℕ) (elements others every : List Element) (spans same : List RowSpans) → AreSpans points elements spans →
    all ≡ points ++ more → every ≡ elements ++ others → same ≡ spans → AreSpans all every same
spans_stay points more all elements others every spans same are is_all is_every is_same =
    subst (λ ps. AreSpans ps every same) (sym is_all) (subst (λ es. AreSpans (points ++ more) es same) (sym is_every)
    (subst (AreSpans (points ++ more) (elements ++ others)) (sym is_same) (spans_stay_by points more elements others spans are)))

pub rows_push : (points more all : List ℕ) (elements others every : List Element) (spans longer : List RowSpans) (last : RowSpans) → AreSpans points elements spans →
    all ≡ points ++ more → every ≡ elements ++ others → longer ≡ spans ++ last ∷ [] →
    last.key ≡ last_span points more → last.elements ≡ last_span elements others →
    rows_in all every longer ≡ rows_in points elements spans ++ record { key = more; elements = others } ∷ []
rows_push points more all elements others every spans longer last are is_all is_every is_longer key_is elements_are =
    ap₂ (λ ps es. rows_in ps es longer) is_all is_every
    ∙ ap (rows_in (points ++ more) (elements ++ others)) (is_longer ∙ ap₂ (λ k e. spans ++ record { key = k; elements = e } ∷ []) key_is elements_are)
    ∙ rows_push_by points more elements others spans are

pub spans_push : (points more all : List ℕ) (elements others every : List Element) (spans longer : List RowSpans) (last : RowSpans) → AreSpans points elements spans →
    all ≡ points ++ more → every ≡ elements ++ others → longer ≡ spans ++ last ∷ [] →
    last.key ≡ last_span points more → last.elements ≡ last_span elements others → AreSpans all every longer
spans_push points more all elements others every spans longer last are is_all is_every is_longer key_is elements_are =
    let lasts = is_longer ∙ ap₂ (λ k e. spans ++ record { key = k; elements = e } ∷ []) key_is elements_are in
    subst (λ ps. AreSpans ps every longer) (sym is_all) (subst (λ es. AreSpans (points ++ more) es longer) (sym is_every)
    (subst (AreSpans (points ++ more) (elements ++ others)) (sym lasts) (spans_push_by points more elements others spans are)))

-- the first rows have the first spans
pub rows_take : (points : List ℕ) (elements : List Element) (n : ℕ) (spans : List RowSpans) →
    rows_in points elements (take n spans) ≡ take n (rows_in points elements spans)
rows_take points elements zero spans = refl
rows_take points elements (suc n) [] = refl
rows_take points elements (suc n) (s ∷ spans) = ap (λ rows. row_in points elements s ∷ rows) (rows_take points elements n spans)

pub spans_take : (points : List ℕ) (elements : List Element) (n : ℕ) (spans : List RowSpans) → AreSpans points elements spans →
    AreSpans points elements (take n spans)
spans_take points elements zero spans are = tt
spans_take points elements (suc n) [] are = tt
spans_take points elements (suc n) (s ∷ spans) are = (are.0, spans_take points elements n spans are.1)

-- ---- The row at a position

-- it has spans
pub spans_reach : (points : List ℕ) (elements : List Element) (spans : List RowSpans) (rows : List Entry) (at : ℕ) →
    rows_in points elements spans ≡ rows → at < length rows → at < length spans
spans_reach points elements spans rows at is within = omega (arith, ap length is, length-map spans (row_in points elements))

-- the spans at a position are within the lists
spans_at : (points : List ℕ) (elements : List Element) (spans : List RowSpans) (at : ℕ) (d : RowSpans) → AreSpans points elements spans →
    at < length spans → IsSpan points (get_or spans at d).key × IsSpan elements (get_or spans at d).elements
spans_at points elements [] at d are within = absurd (omega arith)
spans_at points elements (s ∷ spans) zero d are within = are.0
spans_at points elements (s ∷ spans) (suc at) d are within = spans_at points elements spans at d are.1 (omega arith)

-- and so is the row of spans that was read there
pub row_spans : (points : List ℕ) (elements : List Element) (spans : List RowSpans) (at : ℕ) (s : RowSpans) → AreSpans points elements spans →
    at < length spans → s ≡ get_or spans at s → IsSpan points s.key × IsSpan elements s.elements
row_spans points elements spans at s are within there =
    subst (λ (r : RowSpans). IsSpan points r.key × IsSpan elements r.elements) (sym there) (spans_at points elements spans at s are within)

-- it is the row that its spans name
pub row_of_spans : (points : List ℕ) (elements : List Element) (spans : List RowSpans) (rows : List Entry) (at : ℕ) (s : RowSpans) (d : Entry) →
    rows_in points elements spans ≡ rows → at < length rows → s ≡ get_or spans at s → row_in points elements s ≡ get_or rows at d
row_of_spans points elements spans rows at s d is within there =
    ap (row_in points elements) there
    ∙ sym (get_or-map (row_in points elements) spans at s d (spans_reach points elements spans rows at is within))
    ∙ ap (λ (rs : List Entry). get_or rs at d) is

-- Lines in which no target occurs have the same order under a tailored table as under the base.
use Rattle.std.proofs.Common.{◌≡◌, ◌+◌, List, [], ◌∷◌, ◌++◌, ℕ, length, chars, ap, sym, ◌∙◌}
use Rattle.unicode_normalization.specs.Forms.{nfd}
use Rattle.uca_weights.specs.declared.Asked.{Asked}
use Rattle.uca_weights.specs.declared.Depth.{Depth}
use Rattle.uca_weights.specs.declared.Depth.TheVariants.{Weights, Identical}
use Rattle.uca_weights.specs.declared.Element.{Element}
use Rattle.uca_weights.specs.declared.Numbers.{Numbers}
use Rattle.uca_weights.specs.declared.Weighting.{Weighting}
use Rattle.uca_weights.specs.AskedSettings.{weighting_by}
use Rattle.uca_values.specs.Content.{HeaderContent}
use Rattle.uca_text.specs.Limits.{IsNormal}
use Rattle.uca_elements.specs.Collations.{elements_of}
use Rattle.uca_order.specs.Levels.{Comparison, compare_from, compared, key_bytes, level_count, level_lists, weighted}
use Rattle.uca_order.specs.Depths.{compared_at, key_at, points_bytes, read_points}
use Rattle.uca_comparison.proofs.LevelSteps.{compare_append, length_levels, then_levels}
use Rattle.uca_tailorings.specs.Images.{KeepAllWeights}
use Rattle.uca_tailorings.specs.Laws.{AcceptedTailoringsAreFaithful}
use Rattle.uca_tailorings.specs.Meaning.{IsFaithful}
use Rattle.uca_tailorings.specs.Tailorings.{Tailoring, base_reading, tailored_reading}
use Rattle.uca_tailorings.specs.declared.conditions.Condition.TheVariants.{Header}
use Rattle.uca_order.specs.Keyings.{key_of_bytes, bytes_compared}
use Rattle.uca_run_parts.specs.Input.{line_text}
use Rattle.uca_run_parts.specs.Print.{print_line_at}
use Rattle.uca_key_runs.specs.Laws.{base_keying, tailored_keying, LineKeysCompareAsLines, IsUntouchedLine, UntouchedLinesKeepTheirOrder}
use Rattle.uca_key_runs.proofs.NormalLines.{normal_line}

-- What is read of an untouched line is normal.
normal : (numbers : Numbers) (tailoring : Tailoring) (line : List ℕ) → IsUntouchedLine numbers tailoring line → IsNormal (line_text numbers tailoring.properties line)
normal numbers tailoring line is = normal_line numbers tailoring.properties is.before line is.faultless

-- both tables have one header, and so the same weighting
abbrev HaveOneHeader : Tailoring → Type 0
HaveOneHeader tailoring = tailoring.base.header ≡ tailoring.tailored.header

-- ---- Elements and code points

-- texts whose elements compare alike do so with the same code points too
alike_at : (depth : Depth) (weighting : Weighting) (es fs ds gs : List Element) (ps qs : List ℕ) → compared weighting es fs ≡ compared weighting ds gs
    → compared_at depth weighting (record { elements = es; points = ps }) (record { elements = fs; points = qs })
    ≡ compared_at depth weighting (record { elements = ds; points = ps }) (record { elements = gs; points = qs })
alike_at Weights weighting es fs ds gs ps qs same = same
alike_at Identical weighting es fs ds gs ps qs same =
    by_points es fs ∙ ap (λ (c : Comparison). then_levels c (compare_from (1 + level_count weighting) (ps ∷ []) (qs ∷ []))) same ∙ sym (by_points ds gs)
  where
    count : (es : List Element) → length (level_lists weighting es) ≡ level_count weighting
    count es = length_levels 1 (level_count weighting) (weighted weighting es)

    by_points : (es fs : List Element)
        → compare_from 1 (level_lists weighting es ++ ps ∷ []) (level_lists weighting fs ++ qs ∷ [])
        ≡ then_levels (compared weighting es fs) (compare_from (1 + level_count weighting) (ps ∷ []) (qs ∷ []))
    by_points es fs =
        compare_append 1 (level_lists weighting es) (level_lists weighting fs) (ps ∷ []) (qs ∷ []) (count es ∙ sym (count fs))
        ∙ ap (λ n. then_levels (compared weighting es fs) (compare_from (1 + n) (ps ∷ []) (qs ∷ []))) (count es)

-- a text that keeps the key of its elements does so with the same code points too
keeps_at : (depth : Depth) (weighting : Weighting) (es fs : List Element) (ps : List ℕ) → key_bytes weighting es ≡ key_bytes weighting fs
    → key_at depth weighting (record { elements = es; points = ps }) ≡ key_at depth weighting (record { elements = fs; points = ps })
keeps_at Weights weighting es fs ps same = same
keeps_at Identical weighting es fs ps same = ap (λ (key : List ℕ). key ++ (0 ∷ 0 ∷ points_bytes ps)) same

-- ---- Lines

compare_alike : (tailoring : Tailoring) → IsFaithful tailoring → HaveOneHeader tailoring → (asked : Asked) (left right : List ℕ) →
    IsUntouchedLine asked.numbers tailoring left → IsUntouchedLine asked.numbers tailoring right →
    bytes_compared (tailored_keying asked tailoring) left right ≡ bytes_compared (base_keying asked tailoring) left right
compare_alike tailoring faithful one asked left right first second =
    let l = line_text asked.numbers tailoring.properties left in
    let r = line_text asked.numbers tailoring.properties right in
    let weighting = weighting_by asked.weighting tailoring.tailored.header.setting in
    alike_at asked.depth weighting (elements_of (tailored_reading tailoring) l) (elements_of (tailored_reading tailoring) r)
    (elements_of (base_reading tailoring) l) (elements_of (base_reading tailoring) r) (nfd (chars left)) (nfd (chars right))
    (faithful.untouched Weights weighting l r (normal asked.numbers tailoring left first) (normal asked.numbers tailoring right second) first.untouched second.untouched)
    ∙ ap
    (λ (header : HeaderContent). compared_at asked.depth (weighting_by asked.weighting header.setting)
    (read_points (base_reading tailoring) asked.numbers (chars left)) (read_points (base_reading tailoring) asked.numbers (chars right)))
    (sym one)

-- a line keeps its key, at each depth
keep_key : (tailoring : Tailoring) → IsFaithful tailoring → HaveOneHeader tailoring → KeepAllWeights tailoring.maps → (asked : Asked)
    (line : List ℕ) → IsUntouchedLine asked.numbers tailoring line →
    key_of_bytes (tailored_keying asked tailoring) line ≡ key_of_bytes (base_keying asked tailoring) line
keep_key tailoring faithful one keep asked line is =
    let text = line_text asked.numbers tailoring.properties line in
    let weighting = weighting_by asked.weighting tailoring.tailored.header.setting in
    keeps_at asked.depth weighting (elements_of (tailored_reading tailoring) text) (elements_of (base_reading tailoring) text) (nfd (chars line))
    (faithful.keys keep Weights weighting text (normal asked.numbers tailoring line is) is.untouched)
    ∙ ap (λ (header : HeaderContent). key_at asked.depth (weighting_by asked.weighting header.setting) (read_points (base_reading tailoring) asked.numbers (chars line))) (sym one)

-- the settings with the levels of the weights alone
abbrev to_weights : Asked → Asked
to_weights asked = record { weighting = asked.weighting; depth = Weights; numbers = asked.numbers }

-- the order of keys is that of lines
pub untouched_lines : AcceptedTailoringsAreFaithful → LineKeysCompareAsLines → UntouchedLinesKeepTheirOrder
untouched_lines law keys tailoring is accepted asked =
    let faithful = law tailoring is accepted in
    let one : HaveOneHeader tailoring = accepted Header in
    let new = tailored_keying asked tailoring in
    let old = base_keying asked tailoring in
    record {
      alike = λ left right first second.
          let same = compare_alike tailoring faithful one asked left right first second in
          record {
            compared = same;
            ordered = (keys new left right).0 ∙ ap (λ c. c.order) same ∙ sym (keys old left right).0;
          };
      keys = λ keep line untouched.
          record {
            key = keep_key tailoring faithful one keep asked line untouched;
            printed = ap (λ key. print_line_at asked.depth key (nfd (chars line))) (keep_key tailoring faithful one keep (to_weights asked) line untouched);
          };
    }

-- Where two maps have related rows at the keys that occur in a text, its two readings are related.
use Rattle.std.proofs.Common.{◌≡◌, ℕ, zero, suc, ◌<◌, List, [], ◌∷◌, length, get_or, Option, Some, None, Contains, is_some, unwrap_or, refl, sym, ap, subst, arith}
use Rattle.std.specs.List.{AllByRecursion, flat_map}
use Rattle.uca_weights.specs.declared.Element.{Element}
use Rattle.uca_weights.proofs.Lists.{each_contained}
use Rattle.uca_text.specs.Texts.{Text, code_points}
use Rattle.uca_text.specs.Occurring.{OccursInOrder}
use Rattle.uca_elements.specs.Rows.{Rows, is_key}
use Rattle.uca_elements.specs.Parts.{Part, Row, Implicit, part_elements, IsPartOf}
use Rattle.uca_elements.specs.Reading.{parts, read}
use Rattle.uca_elements.specs.Laws.{AreRelatedRows, IsKeptByAppend, HasSameParts}
use Rattle.uca_elements.proofs.Parts.{HaveSameKeys, parts_same, each_part}

-- what a text's two readings are related by
pub record AreAlike (related : List Element → List Element → Type 0) (old new : ℕ → List Element) (rows new_rows : Rows) (t : Text) : Type 0 where
  pub at_keys : (key : List ℕ) → OccursInOrder key (code_points t) → AreRelatedRows related (rows key) (new_rows key)
  pub at_points : AllByRecursion (λ c. related (old c) (new c)) (code_points t)

same_is_some : (related : List Element → List Element → Type 0) (row new : Option (List Element)) → AreRelatedRows related row new →
    is_some row ≡ is_some new
same_is_some related None None h = refl
same_is_some related None (Some new) h = absurd h
same_is_some related (Some row) None h = absurd h
same_is_some related (Some row) (Some new) h = refl

module _ (related : List Element → List Element → Type 0) (empty : related [] []) (append : IsKeptByAppend related) (old new : ℕ → List Element)
    (rows new_rows : Rows) (t : Text) (alike : AreAlike related old new rows new_rows t) where
  row_related : (row other : Option (List Element)) → AreRelatedRows related row other → related (unwrap_or row []) (unwrap_or other [])
  row_related None None h = empty
  row_related None (Some other) h = absurd h
  row_related (Some row) None h = absurd h
  row_related (Some row) (Some other) h = h

  part_related : (p : Part) → IsPartOf (is_key rows) t p → related (part_elements old rows p) (part_elements new new_rows p)
  part_related (Row key) is = row_related (rows key) (new_rows key) (alike.at_keys key is.1)
  part_related (Implicit c) is = each_contained (λ d. related (old d) (new d)) (code_points t) c alike.at_points is

  parts_related : (ps : List Part) → AllByRecursion (IsPartOf (is_key rows) t) ps →
      related (flat_map (part_elements old rows) ps) (flat_map (part_elements new new_rows) ps)
  parts_related [] are = empty
  parts_related (p ∷ ps) are =
      append (part_elements old rows p) (part_elements new new_rows p) (flat_map (part_elements old rows) ps)
      (flat_map (part_elements new new_rows) ps) (part_related p are.0) (parts_related ps are.1)

  related_all : related (read old rows t) (read new new_rows t)
  related_all =
      subst (λ ps. related (read old rows t) (flat_map (part_elements new new_rows) ps))
      (parts_same (is_key rows) (is_key new_rows) t
      (λ key occurs. same_is_some related (rows key) (new_rows key) (alike.at_keys key occurs)))
      (parts_related (parts (is_key rows) t) (each_part (is_key rows) t))

-- the two readings of a text are related
pub read_related : (related : List Element → List Element → Type 0) → related [] [] → IsKeptByAppend related → (old new : ℕ → List Element)
    (rows new_rows : Rows) (t : Text) → AreAlike related old new rows new_rows t → related (read old rows t) (read new new_rows t)
read_related related empty append old new rows new_rows t alike = related_all related empty append old new rows new_rows t alike

-- two readings over the same keys have the same parts
pub same_parts : (old new : ℕ → List Element) (rows others : Rows) (t : Text) → HaveSameKeys (is_key rows) (is_key others) t →
    HasSameParts old new rows others t
same_parts old new rows others t same =
    record {
      parts = parts (is_key rows) t;
      are_parts = each_part (is_key rows) t;
      old_reading = refl;
      new_reading = ap (flat_map (part_elements new others)) (sym (parts_same (is_key rows) (is_key others) t same));
    }

-- Leaves whose weights are put one after another.
use Rattle.std.proofs.Common.{◌≡◌, ℕ, ◌+◌, ◌<◌, ◌≤◌, List, [], ◌∷◌, ◌++◌, length, take, sym, ap, subst, ◌∙◌}
use Rattle.std.proofs.Common.{append-nil, append_assoc, get_or}
use Rattle.std.specs.List.{flat_map}
use Rattle.std.proofs.lemmas.Grind.{flat_map-append}
use Rattle.std.proofs.lemmas.List.{take_more, take_all}
use Rattle.uca_weights.proofs.Lists.{each_append}
use Rattle.uca_weights.specs.declared.Element.{Element}
use Rattle.uca_weights.specs.declared.Weighting.{Weighting}
use Rattle.uca_elements.specs.Collations.{Collation}
use Rattle.uca_plain.specs.Leaves.{IsLeaf, AreLeaves, points_elements, leaf_elements}
use Rattle.uca_plain.proofs.LeafReading.{read_leaves}
use Rattle.uca_key_writer.specs.inside.LevelBuffers.{LevelState, HoldsLevels}

leaf_taken : (xs : List ℕ) (i x : ℕ) → i < length xs → x ≡ get_or xs i x → take (i + 1) xs ≡ take i xs ++ x ∷ []
leaf_taken xs i x within is = take_more xs i x within ∙ ap (λ y. take i xs ++ y ∷ []) (sym is)

pub leaves_next : (c : Collation) (xs : List ℕ) (i x : ℕ) → i < length xs → x ≡ get_or xs i x → AreLeaves c (take i xs) → IsLeaf c x
    → AreLeaves c (take (i + 1) xs)
leaves_next c xs i x within is leaves leaf =
    subst (AreLeaves c) (sym (leaf_taken xs i x within is)) (each_append (IsLeaf c) (take i xs) (x ∷ []) leaves (leaf, tt))

pub leaves_begin : (c : Collation) (weighting : Weighting) (es : List Element) (xs : List ℕ) (b : LevelState) → HoldsLevels weighting es b
    → HoldsLevels weighting (es ++ flat_map (leaf_elements c) (take 0 xs)) b
leaves_begin c weighting es xs b holds = subst (λ l. HoldsLevels weighting l b) (sym (append-nil es)) holds

pub leaves_held : (c : Collation) (weighting : Weighting) (es : List Element) (xs : List ℕ) (i x : ℕ) (elements : List Element) (b : LevelState)
    → i < length xs → x ≡ get_or xs i x → elements ≡ leaf_elements c x
    → HoldsLevels weighting ((es ++ flat_map (leaf_elements c) (take i xs)) ++ elements) b
    → HoldsLevels weighting (es ++ flat_map (leaf_elements c) (take (i + 1) xs)) b
leaves_held c weighting es xs i x elements b within is are holds =
    let before = flat_map (leaf_elements c) (take i xs) in
    let more : flat_map (leaf_elements c) (take (i + 1) xs) ≡ before ++ elements =
    ap (flat_map (leaf_elements c)) (leaf_taken xs i x within is)
    ∙ flat_map-append (leaf_elements c) (take i xs) (x ∷ [])
    ∙ ap (λ l. before ++ l) (append-nil (leaf_elements c x) ∙ sym are) in
    subst (λ l. HoldsLevels weighting l b) (append_assoc es before elements ∙ ap (λ l. es ++ l) (sym more)) holds

pub leaves_read : (c : Collation) (weighting : Weighting) (es : List Element) (xs : List ℕ) (i : ℕ) (b : LevelState) → length xs ≤ i
    → AreLeaves c (take i xs) → HoldsLevels weighting (es ++ flat_map (leaf_elements c) (take i xs)) b
    → HoldsLevels weighting (es ++ points_elements c xs) b
leaves_read c weighting es xs i b all leaves holds =
    let same : take i xs ≡ xs = take_all i xs all in
    subst (λ l. HoldsLevels weighting (es ++ l) b)
    (ap (flat_map (leaf_elements c)) same ∙ sym (read_leaves c xs (subst (AreLeaves c) same leaves))) holds

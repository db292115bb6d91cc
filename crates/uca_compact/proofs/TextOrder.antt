-- Compact keys of texts keep the order of their keys.
use Rattle.std.proofs.Common.{◌≡◌, ℕ, List, [], ◌∷◌, ◌++◌, length, refl, ap, sym, ◌∙◌, arith, append-nil, encode_utf8_all}
use Rattle.std.specs.List.{AllByRecursion}
use Rattle.std.specs.Ordering.{ordering_then}
use Rattle.uca_weights.specs.declared.Depth.{Depth}
use Rattle.uca_weights.specs.declared.Depth.TheVariants.{Weights, Identical}
use Rattle.uca_weights.specs.declared.Element.{Element}
use Rattle.uca_weights.specs.declared.Weighting.{Weighting}
use Rattle.uca_values.specs.Content.{Fits}
use Rattle.uca_order.specs.Levels.{level_lists, lexicographic}
use Rattle.uca_order.specs.Depths.{ReadText, key_at, compared_at}
use Rattle.uca_order.specs.Keyings.{Keying, keying, read_of}
use Rattle.uca_order.proofs.KeyOrder.{then_assoc, then_equal, lexicographic_itself, same_from_lexicographic}
use Rattle.uca_order.proofs.DepthOrder.{depth_order, depth_equal}
use Rattle.uca_order.proofs.Levels.{level_lists_fit}
use Rattle.uca_order.proofs.Keyings.{bytes_fit}
use Rattle.uca_books.specs.Books.{BookContent, IsBook}
use Rattle.uca_compact.specs.Forms.{forms_of}
use Rattle.uca_compact.specs.PlainLevels.{plain_level}
use Rattle.uca_compact.specs.CompactKeys.{compact, text_parts, stored_key, compact_key}
use Rattle.uca_compact.specs.Laws.{CompactKeysKeepOrder, CompactKeysCompareAsTexts}
use Rattle.uca_compact.proofs.Forms.{forms_fit, forms_count}
use Rattle.uca_compact.proofs.LevelsOrder.{levels_order, levels_order_is, each_level, compare_by}
use Rattle.uca_compact.proofs.PointOrder.{points_order}

-- one level more decides where all before are equal
more_order : (left right : List (List ℕ)) (p q : List ℕ) → length left ≡ length right
    → levels_order (left ++ p ∷ []) (right ++ q ∷ []) ≡ ordering_then (levels_order left right) (lexicographic p q)
more_order [] [] p q h = then_equal (lexicographic p q)
more_order [] (b ∷ right) p q h = absurd (omega (arith, h))
more_order (a ∷ left) [] p q h = absurd (omega (arith, h))
more_order (a ∷ left) (b ∷ right) p q h =
    ap (ordering_then (lexicographic a b)) (more_order left right p q (omega (arith, h)))
    ∙ sym (then_assoc (lexicographic a b) (levels_order left right) (lexicographic p q))

-- levels and what follows them
levels_then : (weighting : Weighting) (b : BookContent) (left right : List Element) (xs ys : List ℕ) → IsBook b → AllByRecursion Fits left → AllByRecursion Fits right
    → lexicographic (compact plain_level (forms_of weighting b) (level_lists weighting left) ++ xs) (compact plain_level (forms_of weighting b) (level_lists weighting right) ++ ys)
    ≡ ordering_then (levels_order (level_lists weighting left) (level_lists weighting right)) (lexicographic xs ys)
levels_then weighting b left right xs ys h ls rs =
    let one = level_lists_fit weighting left ls in
    let two = level_lists_fit weighting right rs in
    compare_by plain_level (forms_of weighting b) (level_lists weighting left) (level_lists weighting right) (forms_fit weighting b h)
    (each_level (forms_of weighting b) (level_lists weighting left) (one.0 ∙ sym (forms_count weighting b), one.1))
    (each_level (forms_of weighting b) (level_lists weighting right) (two.0 ∙ sym (forms_count weighting b), two.1))
    xs ys (levels_order (level_lists weighting left) (level_lists weighting right)) refl

-- compact keys compare as the texts
compact_texts : (depth : Depth) (weighting : Weighting) (b : BookContent) (left right : ReadText) → IsBook b → AllByRecursion Fits left.elements → AllByRecursion Fits right.elements
    → lexicographic (compact_key depth weighting b (text_parts depth weighting left)) (compact_key depth weighting b (text_parts depth weighting right))
    ≡ (compared_at depth weighting left right).order
compact_texts Weights weighting b left right h ls rs =
    ap (λ (bytes : List ℕ). lexicographic bytes (compact plain_level (forms_of weighting b) (level_lists weighting right.elements))) (sym (append-nil (compact plain_level (forms_of weighting b) (level_lists weighting left.elements))))
    ∙ ap (λ (bytes : List ℕ). lexicographic (compact plain_level (forms_of weighting b) (level_lists weighting left.elements) ++ []) bytes) (sym (append-nil (compact plain_level (forms_of weighting b) (level_lists weighting right.elements))))
    ∙ levels_then weighting b left.elements right.elements [] [] h ls rs
    ∙ then_equal (levels_order (level_lists weighting left.elements) (level_lists weighting right.elements))
    ∙ levels_order_is 1 (level_lists weighting left.elements) (level_lists weighting right.elements)
compact_texts Identical weighting b left right h ls rs =
    let one = level_lists weighting left.elements in
    let two = level_lists weighting right.elements in
    levels_then weighting b left.elements right.elements (encode_utf8_all left.points) (encode_utf8_all right.points) h ls rs
    ∙ ap (ordering_then (levels_order one two)) (points_order left.points right.points)
    ∙ sym (more_order one two left.points right.points ((level_lists_fit weighting left.elements ls).0 ∙ sym (level_lists_fit weighting right.elements rs).0))
    ∙ levels_order_is 1 (one ++ left.points ∷ []) (two ++ right.points ∷ [])

-- so byte order is that of the keys
keys_order : (depth : Depth) (weighting : Weighting) (b : BookContent) (left right : ReadText) → IsBook b → AllByRecursion Fits left.elements → AllByRecursion Fits right.elements
    → lexicographic (compact_key depth weighting b (text_parts depth weighting left)) (compact_key depth weighting b (text_parts depth weighting right))
    ≡ lexicographic (key_at depth weighting left) (key_at depth weighting right)
keys_order depth weighting b left right h ls rs = compact_texts depth weighting b left right h ls rs ∙ sym (depth_order depth weighting left right)

-- lists that compare as two others are equal exactly if these are
same_if : (xs ys vs ws : List ℕ) → lexicographic xs ys ≡ lexicographic vs ws → (xs ≡ ys) → (vs ≡ ws)
same_if xs ys vs ws h same = same_from_lexicographic vs ws (sym h ∙ ap (lexicographic xs) (sym same) ∙ lexicographic_itself xs)

-- the law
pub keys_keep_order : CompactKeysKeepOrder
keys_keep_order =
    record {
      order = keys_order;
      equal = λ depth weighting b left right h ls rs.
          (let order = keys_order depth weighting b left right h ls rs in (
            same_if (compact_key depth weighting b (text_parts depth weighting left)) (compact_key depth weighting b (text_parts depth weighting right))
                (key_at depth weighting left) (key_at depth weighting right) order,
            same_if (key_at depth weighting left) (key_at depth weighting right)
                (compact_key depth weighting b (text_parts depth weighting left)) (compact_key depth weighting b (text_parts depth weighting right)) (sym order),
          ));
      key = key_is;
    }
  where
    key_is : (depth : Depth) (weighting : Weighting) (t : ReadText) → stored_key depth (text_parts depth weighting t) ≡ key_at depth weighting t
    key_is Weights weighting t = refl
    key_is Identical weighting t = refl

-- ---- Texts that are given as bytes of UTF-8

-- the law: their elements have weights of 16 bits
pub compare_as_texts : CompactKeysCompareAsTexts
compare_as_texts asked table properties b left right is book utf8 other =
    let k : Keying = keying asked table properties in
    let one : ReadText = read_of k left in
    let two : ReadText = read_of k right in
    let ls = bytes_fit asked table properties is left utf8 in
    let rs = bytes_fit asked table properties is right other in
    let same_keys = keys_keep_order.equal k.settings.depth k.settings.weighting b one two book ls rs in
    let no_level = depth_equal k.settings.depth k.settings.weighting one two in (
      compact_texts k.settings.depth k.settings.weighting b one two book ls rs,
      (λ same. no_level.0 (same_keys.0 same), λ none. same_keys.1 (no_level.1 none)),
    )

-- What is kept of code points stays true.
use Rattle.std.proofs.Common.{◌≡◌, ℕ, Bool, true, false, zero, suc, ◌+◌, ◌<◌, ◌≤◌, List, ◌∷◌, [], ◌++◌, length, take, replicate, sym, ap, subst, ◌∙◌, arith}
use Rattle.std.specs.Bool.{OnTrue}
use Rattle.std.specs.Char.{encode_utf8}
use Rattle.std.specs.Str.{chars, IsUtf8}
use Rattle.std.proofs.Math.ListN.{set}
use Rattle.std.proofs.lemmas.List.{append-nil, take_all, take_more_set}
use Rattle.std.proofs.lemmas.Str.{chars-nil, chars_past_char}
use Rattle.unicode_normalization.specs.Forms.{Nfd}
use Rattle.unicode_normalization.specs.Decompose.{decompose}
use Rattle.uca_weights.specs.declared.Element.{Element}
use Rattle.uca_weights.proofs.Lists.{each_append}
use Rattle.uca_text.specs.Texts.{NfdText, nfd_text}
use Rattle.uca_text.proofs.NfdLength.{decompose_length}
use Rattle.uca_elements.specs.Collations.{Collation, elements_of}
use Rattle.uca_plain.specs.declared.plain.KnownPoint.{KnownPoint}
use Rattle.uca_plain.specs.Plain.{IsPlain}
use Rattle.uca_plain.specs.PointCache.{IsTrueEntry, IsTrueLeaf, BeginsWithStarter, HasTrueDecomposition, AreTrueEntries}
use Rattle.uca_plain.specs.Leaves.{IsLeaf, points_elements}
use Rattle.uca_plain.proofs.LeafReading.{text_of_points, classes_of}

-- of an entry that says nothing of a decomposition all is true
pub nothing_said : (c : Collation) (known : KnownPoint) → 4 ≤ known.len → known.starts ≡ false → HasTrueDecomposition c known
nothing_said c known most none = record {
  few = omega (arith, decompose_length known.point, most);
  starts = λ starts. cc;
}

replicate_true : (c : Collation) (known : KnownPoint) → 3 < known.count → 3 < known.leaf_count → HasTrueDecomposition c known → (n : ℕ)
    → AreTrueEntries c (replicate n known)
unfolding AreTrueEntries
replicate_true c known none no_leaf said zero = tt
replicate_true c known none no_leaf said (suc n) =
    (((λ few. absurd (omega arith)), said, (λ few. absurd (omega arith))), replicate_true c known none no_leaf said n)

-- more entries that have nothing to give
pub more_entries : (c : Collation) (entries new : List KnownPoint) (n k : ℕ) (known : KnownPoint) → 3 < known.count → 3 < known.leaf_count → 4 ≤ known.len → known.starts ≡ false
    → length entries ≤ n → new ≡ take n entries ++ replicate k known → AreTrueEntries c entries → AreTrueEntries c new
unfolding AreTrueEntries
more_entries c entries new n k known none no_leaf most not_said all are holds =
    subst (AreTrueEntries c) (sym (are ∙ ap (λ l. l ++ replicate k known) (take_all n entries all)))
    (each_append (λ e. IsTrueEntry c e × HasTrueDecomposition c e × IsTrueLeaf c e) entries (replicate k known) holds
    (replicate_true c known none no_leaf (nothing_said c known most not_said) k))

-- what an entry says of a decomposition is true of another entry that says it
pub same_decomposition : (c : Collation) (bound known : KnownPoint) → known.point ≡ bound.point → known.len ≡ bound.len → known.starts ≡ bound.starts
    → HasTrueDecomposition c bound → HasTrueDecomposition c known
same_decomposition c bound known point len starts said = record {
  few = subst (λ x. length (decompose Nfd x) ≤ known.len) (sym point) (omega (arith, said.few, len));
  starts = λ is. subst (BeginsWithStarter c) (sym point) (said.starts (sym starts ∙ is));
}

-- an entry gets one more element
pub element_kept : (elements so_far : List Element) (count at : ℕ) (e : Element) → at ≡ count → count < length elements → take count elements ≡ so_far
    → take (count + 1) (set elements at e) ≡ so_far ++ e ∷ []
element_kept elements so_far count at e same below are =
    ap (λ n. take (count + 1) (set elements n e)) same ∙ take_more_set elements count e below ∙ ap (λ l. l ++ e ∷ []) are

-- the text of one code point
pub chars_alone : (text : List ℕ) (x : ℕ) → IsUtf8 text → text ≡ encode_utf8 x → chars text ≡ x ∷ []
chars_alone text x utf8 is = chars_past_char text [] x utf8 (is ∙ sym (append-nil (encode_utf8 x))) ∙ ap (λ l. x ∷ l) chars-nil

-- the entry of a code point that is plain, by that text
pub entry_of : (c : Collation) (x : ℕ) (text : List ℕ) (normal : NfdText) (known : KnownPoint) (plain : Bool) → IsUtf8 text → text ≡ encode_utf8 x
    → OnTrue plain (IsPlain c x) → normal ≡ nfd_text c.properties (chars text) → known.point ≡ x
    → (known.count ≤ 3 → (plain ≡ true) × (take known.count known.elements ≡ elements_of c normal)) → IsTrueEntry c known
entry_of c x text normal known plain utf8 is is_plain normalized point has = λ few. (
  subst (IsPlain c) (sym point) (subst (λ b. OnTrue b (IsPlain c x)) (has few).0 is_plain),
  (has few).1 ∙ ap (elements_of c) (normalized ∙ ap (nfd_text c.properties) (chars_alone text x utf8 is ∙ ap (λ y. y ∷ []) (sym point))),
)

-- and of a leaf, which is that text
pub leaf_of : (c : Collation) (x y : ℕ) (xs : List ℕ) (normal : NfdText) (known : KnownPoint) (leaf : Bool) → OnTrue leaf (IsLeaf c x)
    → normal ≡ nfd_text c.properties xs → known.point ≡ y → y ≡ x
    → (known.leaf_count ≤ 3 → (leaf ≡ true) × (normal.points ≡ y ∷ []) × (take known.leaf_count known.elements ≡ elements_of c normal))
    → IsTrueLeaf c known
leaf_of c x y xs normal known leaf is_leaf normalized point same has = λ few.
    let said = has few in (
      subst (IsLeaf c) (sym (point ∙ same)) (subst (λ b. OnTrue b (IsLeaf c x)) said.0 is_leaf),
      said.2 ∙ sym (text_of_points c normal (classes_of c xs normal normalized))
          ∙ ap (points_elements c) (said.1 ∙ ap (λ z. z ∷ []) (sym point)),
    )

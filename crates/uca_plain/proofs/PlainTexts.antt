-- A text may be cut before each plain code point. One of plain code points reads as they do one by one, and has no long run.
use Rattle.std.proofs.Common.{◌≡◌, ℕ, List, [], ◌∷◌, ◌++◌, map, refl, sym, ap, subst, ◌∙◌, append-nil, arith}
use Rattle.std.specs.List.{flat_map}
use Rattle.std.proofs.lemmas.Bool.Decides.{nat_tests}
use Rattle.std.proofs.lemmas.List.{length-map}
use Rattle.unicode_normalization.specs.Forms.{nfd, Nfd}
use Rattle.unicode_normalization.proofs.FormsLemmas.{normalize-nil}
use Rattle.uca_values.specs.Implicit.{implicit}
use Rattle.uca_text.specs.Texts.{Text, with_classes, classed, nfd_text}
use Rattle.uca_text.specs.Limits.{HasNoLongRun}
use Rattle.uca_text.proofs.Runs.{few_have_no_long_run}
use Rattle.uca_text.proofs.NfdLength.{nfd_length}
use Rattle.uca_text.proofs.NfdPieces.{nfd_begins, nfd_pieces, pieces_have_no_long_run}
use Rattle.uca_elements.specs.Rows.{is_key}
use Rattle.uca_elements.specs.Collations.{Collation, elements_of}
use Rattle.uca_elements.specs.Reading.{read, collation_elements}
use Rattle.uca_elements.specs.Cuts.{IsCut}
use Rattle.uca_elements.proofs.CutReading.{read_pieces}
use Rattle.uca_plain.specs.Plain.{IsPlain, ArePlain, elements_alone}

with_classes-append : (f : ℕ → ℕ) (xs ys : List ℕ) → with_classes (xs ++ ys) (map f (xs ++ ys)) ≡ with_classes xs (map f xs) ++ with_classes ys (map f ys)
with_classes-append f [] ys = refl
with_classes-append f (x ∷ xs) ys = ap (λ t. record { code = x; class = f x } ∷ t) (with_classes-append f xs ys)

module _ (c : Collation) where
  abbrev text_of : List ℕ → Text
  text_of xs = classed (nfd_text c.properties xs)

  -- a text that begins with a plain code point may be cut before it
  cut_before : (y : ℕ) (ys : List ℕ) → IsPlain c y → IsCut (is_key c.rows) (text_of (y ∷ ys))
  cut_before y ys plain =
      let begins = nfd_begins y plain.first plain.more plain.split plain.starter ys in
      subst (λ points. IsCut (is_key c.rows) (with_classes points (map c.properties.class points))) (sym begins)
      ((let zero_class = plain.class in grind (arith, nat_tests)), plain.no_follower)

  -- so it reads as the two pieces
  pub read_before : (xs : List ℕ) (y : ℕ) (ys : List ℕ) → IsPlain c y →
      elements_of c (nfd_text c.properties (xs ++ y ∷ ys)) ≡ elements_of c (nfd_text c.properties xs) ++ elements_of c (nfd_text c.properties (y ∷ ys))
  read_before xs y ys plain =
      let pieces = nfd_pieces y plain.first plain.more plain.split plain.starter xs ys in
      let points : text_of (xs ++ y ∷ ys) ≡ text_of xs ++ text_of (y ∷ ys) =
      ap (λ points. with_classes points (map c.properties.class points)) pieces ∙ with_classes-append c.properties.class (nfd xs) (nfd (y ∷ ys)) in
      ap (read (implicit c.ranges c.properties) c.rows) points
      ∙ read_pieces (implicit c.ranges c.properties) c.rows (text_of (y ∷ ys)) (cut_before y ys plain) (text_of xs)

  pub plain_texts : (xs : List ℕ) → ArePlain c xs → elements_of c (nfd_text c.properties xs) ≡ flat_map (elements_alone c) xs
  plain_texts [] plain =
      ap (λ points. collation_elements c.rows c.ranges c.properties (with_classes points (map c.properties.class points))) (normalize-nil Nfd)
  plain_texts (x ∷ []) plain = sym (append-nil (elements_alone c x))
  plain_texts (x ∷ y ∷ ys) plain =
      read_before (x ∷ []) y ys plain.1.0 ∙ ap (λ es. elements_alone c x ++ es) (plain_texts (y ∷ ys) plain.1)

-- ---- Limits

-- one code point alone has no long run
pub alone_no_long_run : (class : ℕ → ℕ) (x : ℕ) → HasNoLongRun (map class (nfd (x ∷ [])))
alone_no_long_run class x =
    few_have_no_long_run (map class (nfd (x ∷ []))) (omega (arith, length-map (nfd (x ∷ [])) class, nfd_length (x ∷ [])))

-- nor has a text of plain ones
pub plain_no_long_run : (c : Collation) (xs : List ℕ) → ArePlain c xs → HasNoLongRun (map c.properties.class (nfd xs))
plain_no_long_run c [] plain =
    subst (λ l. HasNoLongRun (map c.properties.class l)) (sym (normalize-nil Nfd)) (few_have_no_long_run [] (omega arith))
plain_no_long_run c (x ∷ []) plain = alone_no_long_run c.properties.class x
plain_no_long_run c (x ∷ y ∷ ys) plain =
    let head = plain.1.0 in
    pieces_have_no_long_run y head.first head.more head.split head.starter c.properties.class head.class (x ∷ []) ys
    (alone_no_long_run c.properties.class x) (plain_no_long_run c (y ∷ ys) plain.1)

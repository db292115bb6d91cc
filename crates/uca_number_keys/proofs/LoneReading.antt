-- A code point that no longer key begins with reads as its row, whatever follows it.
use Rattle.std.proofs.Common.{◌≡◌, ℕ, List, [], ◌∷◌, ◌++◌, length, replicate, get_or, Bool, false, Some, refl, sym, ap, ◌∙◌, arith, inl, inr}
use Rattle.std.proofs.Common.{is_some}
use Rattle.std.proofs.lemmas.Bool.{cases_lt, false≢true}
use Rattle.std.proofs.lemmas.List.{get_or_at, get_or-replicate, get_or_past, length-replicate}
use Rattle.uca_weights.specs.declared.Element.{Element}
use Rattle.uca_text.specs.Texts.{ClassedCodePoint, Text, code_points}
use Rattle.uca_elements.specs.Rows.{Rows, IsKey}
use Rattle.uca_elements.specs.Reading.{IsRowMatch, AreRemoved, members, others, non_starters_at_front, after_non_starters, read}
use Rattle.uca_elements.proofs.MatchLemmas.{marks-append, AreNonStartersBefore-split}
use Rattle.uca_elements.proofs.ReadingLemmas.{read_listed}

-- ---- Nothing is removed

abbrev none_of : Text → List Bool
none_of marks = replicate (length marks) false

no_members : (marks : Text) → members (none_of marks) marks ≡ []
no_members [] = refl
no_members (c ∷ marks) = no_members marks

all_others : (marks : Text) → others (none_of marks) marks ≡ marks
all_others [] = refl
all_others (c ∷ marks) = ap (λ t. c ∷ t) (all_others marks)

all_false : (n i : ℕ) → get_or (replicate n false) i false ≡ false
all_false n i = elim (cases_lt i n) [
  | inl within ↦ get_or-replicate n i false false within
  | inr past ↦ get_or_past (replicate n false) i false (let many = length-replicate n false in omega (arith, many, past))
]

false_inside : (n : ℕ) (here later : List Bool) (b : Bool) → replicate n false ≡ here ++ b ∷ later → b ≡ false
false_inside n here later b same =
    sym (get_or_at here b later false (length here) refl) ∙ ap (λ set. get_or set (length here) false) (sym same) ∙ all_false n (length here)

module _ (rows : Rows) (d : ClassedCodePoint) (lone : (c : ℕ) (more : List ℕ) → IsKey rows (d.code ∷ c ∷ more) → ⊥) where
  no_longer_key : (more : Text) → (more ≡ [] → ⊥) → IsKey rows (code_points ((d ∷ []) ++ more)) → ⊥
  no_longer_key [] some key = some refl
  no_longer_key (c ∷ more) some key = lone c.code (code_points more) key

  no_extended_key : (before : Text) (c : ClassedCodePoint) → IsKey rows (code_points ((d ∷ []) ++ (before ++ c ∷ []))) → ⊥
  no_extended_key [] c key = lone c.code [] key
  no_extended_key (x ∷ before) c key = lone x.code (code_points (before ++ c ∷ [])) key

  none_removed : (marks : Text) → AreRemoved rows (d ∷ []) marks (none_of marks)
  none_removed marks = record {
    places = length-replicate (length marks) false;
    each = λ before after c here b later split set_split same. (
      (λ is. absurd (false≢true (sym (false_inside (length marks) here later b set_split) ∙ is))),
      (λ taken. absurd (no_extended_key (members here before) c taken.1)),
    );
  }

  pub reads_alone : (implicit : ℕ → List Element) (row : List Element) (t : Text) → rows (d.code ∷ []) ≡ Some row → read implicit rows (d ∷ t) ≡ row ++ read implicit rows t
  reads_alone implicit row t found =
      let marks : Text = non_starters_at_front t in
      let rest : Text = after_non_starters t in
      let match : IsRowMatch rows (d ∷ []) (marks ++ rest) = record {
        some = λ none. cc;
        key = ap is_some found;
        longest = λ more after split some key. no_longer_key more some key;
      } in
      let extended : rows (code_points ((d ∷ []) ++ members (none_of marks) marks)) ≡ Some row =
      ap (λ more. rows (d.code ∷ code_points more)) (no_members marks) ∙ found in
      ap (λ t. read implicit rows (d ∷ t)) (sym (marks-append t))
      ∙ read_listed implicit rows (d ∷ []) marks rest (none_of marks) row match (AreNonStartersBefore-split t) (none_removed marks) extended
      ∙ ap (λ t. row ++ read implicit rows t) (ap (λ m. m ++ rest) (all_others marks) ∙ marks-append t)

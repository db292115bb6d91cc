-- What the two sides of the `;` say of a row in a table file, and which causes they give it.
use Rattle.std.proofs.Common.{◌≡◌, ℕ, List, [], ◌∷◌, length, ◌∙◌, ◌⊎◌, refl, sym, ap, subst, inl, inr, arith}
use borrow.Author.Tests.{eqb-true}
use Rattle.uca_values.specs.declared.faults.FaultKind.{FaultKind}
use Rattle.uca_values.specs.declared.faults.FaultKind.TheVariants as kinds
use Rattle.uca_lines.specs.Fields.{is_semicolon, up_to, from_first}
use Rattle.uca_lines.proofs.FieldLemmas.{from_first_passes}
use Rattle.uca_values.specs.Content.{Entry}
use Rattle.uca_table.specs.Elements.{AreElements, ElementsCause}
use Rattle.uca_table.specs.Rows.{IsKey, KeyCause, IsRow, RowTextCause}

-- if something is at the cut, it is the `;`
pub after_semicolon : (text back : List ℕ) (b : ℕ) (rest : List ℕ) → back ≡ from_first is_semicolon text → back ≡ b ∷ rest
    → from_first is_semicolon text ≡ 59 ∷ rest
after_semicolon text back b rest h k =
    let found = sym h ∙ k in
    found ∙ ap (λ x. x ∷ rest) (eqb-true b 59 (from_first_passes is_semicolon text b rest found))

pub row_is : (text front back : List ℕ) (b : ℕ) (rest : List ℕ) (row : Entry) → front ≡ up_to is_semicolon text → back ≡ from_first is_semicolon text
    → back ≡ b ∷ rest → IsKey front row.key → AreElements rest row.elements → IsRow text row
row_is text front back b rest row f h k key elements =
    record { rest = rest; cut = after_semicolon text back b rest h k; key = subst (λ (t : List ℕ). IsKey t row.key) f key; elements = elements }

-- a cause in the key is one in the row
pub key_fault : (text front : List ℕ) (kind : FaultKind) → front ≡ up_to is_semicolon text → (kind ≡ kinds.Memory) ⊎ KeyCause front kind
    → (kind ≡ kinds.Memory) ⊎ RowTextCause text kind
key_fault text front kind h (inl m) = inl m
key_fault text front kind h (inr e) = inr (inl (subst (λ (t : List ℕ). KeyCause t kind) h e))

-- nothing is at the cut, so the row has no `;`
pub no_semicolon : (text front key back : List ℕ) → front ≡ up_to is_semicolon text → IsKey front key → back ≡ from_first is_semicolon text → length back ≡ 0
    → (kinds.Line ≡ kinds.Memory) ⊎ RowTextCause text kinds.Line
no_semicolon text front key [] f k h n = inr (inr (inl (sym h, refl, (key, subst (λ (t : List ℕ). IsKey t key) f k))))
no_semicolon text front key (b ∷ bs) f k h n = absurd (omega (arith, n))

pub elements_fault : (text front key back : List ℕ) (b : ℕ) (rest : List ℕ) (kind : FaultKind) → front ≡ up_to is_semicolon text → IsKey front key
    → back ≡ from_first is_semicolon text → back ≡ b ∷ rest → (kind ≡ kinds.Memory) ⊎ ElementsCause rest kind
    → (kind ≡ kinds.Memory) ⊎ RowTextCause text kind
elements_fault text front key back b rest kind f is h k (inl m) = inl m
elements_fault text front key back b rest kind f is h k (inr e) =
    inr (inr (inr (rest, after_semicolon text back b rest h k, e, (key, subst (λ (t : List ℕ). IsKey t key) f is))))

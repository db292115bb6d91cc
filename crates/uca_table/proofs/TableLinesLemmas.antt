-- The lines of a table file, with one line more.
use Rattle.std.specs.Prelude.{◌≡◌, ℕ, List, [], ◌∷◌, ◌++◌, refl}
use Rattle.std.specs.List.{AllZip}
use Rattle.std.proofs.Common.{sym, ap, ◌∙◌, inl, inr}
use Rattle.uca_values.specs.declared.faults.FaultKind.TheVariants as kinds
use Rattle.uca_table.specs.TableSoFar.{TableSoFar}
use Rattle.uca_table.specs.TableLines.{Item, Nothing, OfVersion, OfSetting, OfRange, OfRow, IsLine, said, Purpose, ForVersion, ForSetting, ForRange, ForRow, PurposeCause, Says, Cause}
use Rattle.uca_table.specs.inside.Taking.{Takes}

no_read_in_purpose : (b : TableSoFar) (text : List ℕ) (purpose : Purpose) → PurposeCause b text purpose kinds.Read → ⊥
no_read_in_purpose b text ForVersion h = let e = h.0 in cc
no_read_in_purpose b text ForSetting h = let e = h.0 in cc
no_read_in_purpose b text ForRange (inl h) = h
no_read_in_purpose b text ForRange (inr h) = h.2
no_read_in_purpose b text ForRow (inl (inl h)) = h
no_read_in_purpose b text ForRow (inl (inr (inl h))) = let e = h.1 in cc
no_read_in_purpose b text ForRow (inl (inr (inr h))) = h.2
no_read_in_purpose b text ForRow (inr h) = h.2

pub no_read : (b : TableSoFar) (line : List ℕ) → Cause b line kinds.Read → ⊥
no_read b line (inl h) = let e = h.0 in cc
no_read b line (inr (inl h)) = let e = h.0 in cc
no_read b line (inr (inr h)) = no_read_in_purpose b _ h.0 h.3

forms_push : (lines : List (List ℕ)) (items : List Item) (line : List ℕ) (item : Item) → AllZip IsLine lines items → IsLine line item
    → AllZip IsLine (lines ++ line ∷ []) (items ++ item ∷ [])
forms_push [] [] line item h one = (one, tt)
forms_push [] (i ∷ items) line item h one = absurd h
forms_push (l ∷ lines) [] line item h one = absurd h
forms_push (l ∷ lines) (i ∷ items) line item h one = (h.0, forms_push lines items line item h.1 one)

pub said-append : (xs ys : List Item) → said (xs ++ ys) ≡ said xs ++ said ys
said-append [] ys = refl
said-append (Nothing ∷ xs) ys = said-append xs ys
said-append (OfVersion name ∷ xs) ys = ap (λ zs. OfVersion name ∷ zs) (said-append xs ys)
said-append (OfSetting setting ∷ xs) ys = ap (λ zs. OfSetting setting ∷ zs) (said-append xs ys)
said-append (OfRange r ∷ xs) ys = ap (λ zs. OfRange r ∷ zs) (said-append xs ys)
said-append (OfRow row ∷ xs) ys = ap (λ zs. OfRow row ∷ zs) (said-append xs ys)

pub says_more : (lines : List (List ℕ)) (old : TableSoFar) (line : List ℕ) (new : TableSoFar) → Says lines old → Takes old line new → Says (lines ++ line ∷ []) new
says_more lines old line new before takes = record {
  items = before.items ++ takes.item ∷ [];
  forms = forms_push lines before.items line takes.item before.forms takes.form;
  order = said-append before.items (takes.item ∷ []) ∙ (ap (λ xs. xs ++ said (takes.item ∷ [])) before.order ∙ sym takes.order);
  begun = takes.begun;
}

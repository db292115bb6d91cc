-- The one spelling of an element (UTS #10, section 9.1): `[.1C47.0020.0002]`.
use Rattle.std.specs.Prelude.{ℕ, Bool, List, [], ◌∷◌, ◌++◌, if◌then◌else◌}
use Rattle.uca_weights.specs.declared.Element.{Element}
use Rattle.uca_lines.specs.Numbers.{digits}

-- `*` for a variable element, `.` for another
abbrev pub mark_byte : Bool → ℕ
mark_byte b = if b then 42 else 46

-- `[`, the mark, three weights of four digits with `.` between them, and `]`
unfoldable pub element_text : Element → List ℕ
element_text e = 91 ∷ mark_byte e.mark ∷ (digits 4 e.primary ++ 46 ∷ (digits 4 e.secondary ++ 46 ∷ (digits 4 e.tertiary ++ 93 ∷ [])))
